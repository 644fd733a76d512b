use Rattle.layout_extent.proofs.Renewed.{renew_none}
use Rattle.layout_extent.proofs.Renewing.{from_either, stays_at, renewed_at, renewed_once, renewed_length}
use Rattle.layout_extent.proofs.laws.renewed_places_are_new.Goals as goal

pub returns-clause-none : goal.returns-clause-none
returns-clause-none c = renew_none

pub returns-clause-stays : goal.returns-clause-stays
returns-clause-stays c = stays_at

pub returns-clause-renewed : goal.returns-clause-renewed
returns-clause-renewed c = renewed_at

pub returns-clause-either : goal.returns-clause-either
returns-clause-either c = from_either

pub returns-clause-once : goal.returns-clause-once
returns-clause-once c = renewed_once

pub returns-clause-count : goal.returns-clause-count
returns-clause-count c = renewed_length
