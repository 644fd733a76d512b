use Rattle.std.proofs.Common.{◌∙◌, sym}
use Rattle.fs_memtree.proofs.serving.Snapped.{least_is_free}
use Rattle.fs_memtree.proofs.state.State.make.Goals as goal

pub make-requires-clause-unused : goal.make-requires-clause-unused
make-requires-clause-unused c =
    let s = c.args.self.now in
    least_is_free s.limit c.in-Ok.found.1 s.nodes s.kept (sym c.least.ensures ∙ c.in-Ok.ensures.found.2)
