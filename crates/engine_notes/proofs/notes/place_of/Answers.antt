-- The lower tickets come first.
use Rattle.std.proofs.Common.{nat_lt, ap, sym, ◌∙◌, arith, rules}
use Rattle.std.proofs.lemmas.Bool.{ltb-true, ltb-false}
use Rattle.std.proofs.lemmas.Option.{get_or_from_slice_get, slice_get_within}
use Rattle.std.proofs.lemmas.List.Sorted.{IsPartitionPoint-from_clause}
use Rattle.engine_notes.specs.declared.notes.Note.{Note}
use Rattle.engine_notes.proofs.Rising.{parted}
use Rattle.engine_notes.proofs.notes.place_of.Goals as goal

pub returns-clause-below : goal.returns-clause-below
returns-clause-below c =
    let point = IsPartitionPoint-from_clause (λ (n : Note). nat_lt n.ticket c.args.ticket) _ _ c.partition_point.ensures.partitioned (parted c.args.notes.now.items c.args.ticket c.requires) (λ a r q k. search rules) in
    λ k n is lt. ltb-true _ _ (ap (λ (r : Note). nat_lt r.ticket c.args.ticket) (sym (get_or_from_slice_get c.args.notes.now.items k n n is)) ∙ point.0 k n (omega arith) lt)

pub returns-clause-above : goal.returns-clause-above
returns-clause-above c =
    let point = IsPartitionPoint-from_clause (λ (n : Note). nat_lt n.ticket c.args.ticket) _ _ c.partition_point.ensures.partitioned (parted c.args.notes.now.items c.args.ticket c.requires) (λ a r q k. search rules) in
    λ k n is le. ltb-false _ _ (ap (λ (r : Note). nat_lt r.ticket c.args.ticket) (sym (get_or_from_slice_get c.args.notes.now.items k n n is)) ∙ point.1 k n le (slice_get_within c.args.notes.now.items k n is))
