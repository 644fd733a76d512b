use Rattle.layout_extent.specs.TidyLaws.{places_of_runs, runs_are_tidy}
use Rattle.layout_extent.proofs.Count.{runs_count}
use Rattle.layout_extent.proofs.laws.a_list_has_its_runs.Goals as goal

pub returns-clause-places : goal.returns-clause-places
returns-clause-places c = places_of_runs

pub returns-clause-count : goal.returns-clause-count
returns-clause-count c = runs_count

pub returns-clause-tidy : goal.returns-clause-tidy
returns-clause-tidy c = runs_are_tidy
