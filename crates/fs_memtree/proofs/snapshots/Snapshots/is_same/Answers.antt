use Rattle.std.proofs.Common.{◌≡◌, ◌∙◌, ap, sym, true≢false}
use Rattle.std.specs.FinMap.{get}
use Rattle.fs_memtree.specs.Snapshots.{KeptSnapshots}
use Rattle.fs_memtree.proofs.keys.Snaps.{both_ways}
use Rattle.fs_memtree.proofs.snapshots.Snapshots.is_same.Goals as goal

pub returns-then-not-are_all_in : goal.returns-then-not-are_all_in
returns-then-not-are_all_in c = (
  λ e. absurd (true≢false (sym e)),
  λ same. sym c.if-not-are_all_in.true ∙ c.are_all_in.ensures.1 (λ q x at. ap (λ (m : KeptSnapshots). get m q) (sym same) ∙ at),
)

pub returns : goal.returns
returns c = (
  λ e. both_ways c.args.self.now c.args.other.now (c.are_all_in.ensures.0 c.if-not-are_all_in.false) (c.are_all_in-2.ensures.0 e),
  λ same. c.are_all_in-2.ensures.1 (λ q x at. ap (λ (m : KeptSnapshots). get m q) same ∙ at),
)
