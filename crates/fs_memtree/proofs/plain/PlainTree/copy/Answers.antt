use Rattle.std.proofs.Common.{◌≡◌, sym, subst, rules}
use Rattle.fs_memtree.specs.Serving.{IsSoundState}
use Rattle.fs_memtree.proofs.plain.PlainTree.copy.Goals as goal

pub invariant_of-result : goal.invariant_of-result
invariant_of-result c =
    let is : c.in_ok-state.state ≡ c.self.inside.state = search rules in
    subst IsSoundState (sym is) c.self.invariant
