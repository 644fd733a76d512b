-- The numbers below the one that is looked for come first.
use Rattle.std.proofs.Common.{◌≡◌, ℕ, true, nat_lt, List, slice_index_or, ⊎_elim, ap, sym, ◌∙◌, subst, arith, rules}
use Rattle.std.proofs.lemmas.Bool.{cases_eq, ltb-true, lt-ltb, ltb-false}
use Rattle.std.proofs.lemmas.Option.{get_or_from_slice_get, slice_get_within, slice_get-get_or}
use Rattle.std.proofs.lemmas.List.Sorted.{IsPartitionPoint-from_clause}
use Rattle.std.specs.List.Sorted.{IsPartitionedBy}
use Rattle.engine_running.specs.Running.{IsRisingNumbers}
use Rattle.engine_running.proofs.running.number_place.Goals as goal

parted : (row : List ℕ) (b : ℕ) → IsRisingNumbers row → IsPartitionedBy (λ (n : ℕ). nat_lt n b) row
parted row b rising i j d le lt low = ⊎_elim (λ e. subst (λ n. nat_lt (slice_index_or row n d) b ≡ true) (sym e) low)
    (λ ne. lt-ltb _ _ (omega (arith, ltb-true _ _ low, rising i j (slice_index_or row i d) (slice_index_or row j d) (omega (arith, le, ne)) (slice_get-get_or row i d (omega arith)) (slice_get-get_or row j d lt)))) (cases_eq i j)

pub returns-clause-below : goal.returns-clause-below
returns-clause-below c =
    let point = IsPartitionPoint-from_clause (λ (n : ℕ). nat_lt n c.args.number) _ _ c.partition_point.ensures.partitioned (parted c.args.numbers.now c.args.number c.requires) (λ a r q k. search rules) in
    λ k m is lt. ltb-true _ _ (ap (λ n. nat_lt n c.args.number) (sym (get_or_from_slice_get c.args.numbers.now k m m is)) ∙ point.0 k m (omega arith) lt)

pub returns-clause-above : goal.returns-clause-above
returns-clause-above c =
    let point = IsPartitionPoint-from_clause (λ (n : ℕ). nat_lt n c.args.number) _ _ c.partition_point.ensures.partitioned (parted c.args.numbers.now c.args.number c.requires) (λ a r q k. search rules) in
    λ k m is le. ltb-false _ _ (ap (λ n. nat_lt n c.args.number) (sym (get_or_from_slice_get c.args.numbers.now k m m is)) ∙ point.1 k m le (slice_get_within c.args.numbers.now k m is))
