-- The blocks below the one that is looked for come first.
use Rattle.std.proofs.Common.{◌≡◌, ℕ, true, nat_lt, List, slice_index_or, ⊎_elim, ap, sym, ◌∙◌, subst, arith, rules}
use Rattle.std.proofs.lemmas.Bool.{cases_eq, ltb-true, lt-ltb, ltb-false}
use Rattle.std.proofs.lemmas.Option.{get_or_from_slice_get, slice_get_within, slice_get-get_or}
use Rattle.std.proofs.lemmas.List.Sorted.{IsPartitionPoint-from_clause}
use Rattle.std.specs.List.Sorted.{IsPartitionedBy}
use Rattle.engine_running.specs.declared.put.Put.{Put}
use Rattle.engine_running.specs.Rows.{IsRising}
use Rattle.engine_running.proofs.rows.place_of.Goals as goal

parted : (row : List Put) (b : ℕ) → IsRising row → IsPartitionedBy (λ (p : Put). nat_lt p.block b) row
parted row b rising i j d le lt low = ⊎_elim (λ e. subst (λ n. nat_lt (slice_index_or row n d).block b ≡ true) (sym e) low)
    (λ ne. lt-ltb _ _ (omega (arith, ltb-true _ _ low, rising i j (slice_index_or row i d) (slice_index_or row j d) (omega (arith, le, ne)) (slice_get-get_or row i d (omega arith)) (slice_get-get_or row j d lt)))) (cases_eq i j)

pub returns-clause-below : goal.returns-clause-below
returns-clause-below c =
    let point = IsPartitionPoint-from_clause (λ (p : Put). nat_lt p.block c.args.block) _ _ c.partition_point.ensures.partitioned (parted c.args.row.now c.args.block c.requires) (λ a r q k. search rules) in
    λ k p is lt. ltb-true _ _ (ap (λ (r : Put). nat_lt r.block c.args.block) (sym (get_or_from_slice_get c.args.row.now k p p is)) ∙ point.0 k p (omega arith) lt)

pub returns-clause-above : goal.returns-clause-above
returns-clause-above c =
    let point = IsPartitionPoint-from_clause (λ (p : Put). nat_lt p.block c.args.block) _ _ c.partition_point.ensures.partitioned (parted c.args.row.now c.args.block c.requires) (λ a r q k. search rules) in
    λ k p is le. ltb-false _ _ (ap (λ (r : Put). nat_lt r.block c.args.block) (sym (get_or_from_slice_get c.args.row.now k p p is)) ∙ point.1 k p le (slice_get_within c.args.row.now k p is))
