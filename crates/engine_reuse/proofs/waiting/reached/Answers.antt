-- The lower numbers come first.
use Rattle.std.proofs.Common.{nat_le, rules}
use Rattle.std.proofs.lemmas.Bool.{leb-true, leb-false}
use Rattle.std.proofs.lemmas.List.Sorted.{IsPartitionPoint-from_clause}
use Rattle.engine_reuse.specs.declared.waiting.Freed.{Freed}
use Rattle.engine_reuse.proofs.Releases.{parted}
use Rattle.engine_reuse.proofs.waiting.reached.Goals as goal

pub returns-clause-below : goal.returns-clause-below
returns-clause-below c =
    let point = IsPartitionPoint-from_clause (λ (f : Freed). nat_le f.number c.args.sure) _ _ c.partition_point.ensures.partitioned (parted c.args.waiting.now.items c.args.sure c.requires) (λ a r q k. search rules) in
    λ k d low high. leb-true _ _ (point.0 k d low high)

pub returns-clause-above : goal.returns-clause-above
returns-clause-above c =
    let point = IsPartitionPoint-from_clause (λ (f : Freed). nat_le f.number c.args.sure) _ _ c.partition_point.ensures.partitioned (parted c.args.waiting.now.items c.args.sure c.requires) (λ a r q k. search rules) in
    λ k d low high. leb-false _ _ (point.1 k d low high)
