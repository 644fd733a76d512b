use Rattle.std.proofs.Common.{◌∙◌, ap}
use Rattle.std.specs.FinMap.{remove}
use Rattle.fs_memtree.proofs.keys.Keys.{removed}
use Rattle.fs_memtree.proofs.snapshots.Snapshots.remove.Goals as goal

pub returns : goal.returns
returns c = removed c.args.name.now c.self.inside.entries.entries c.remove.new.self.entries c.remove.ensures.updates.3 c.remove.ensures.updates.1
    ∙ ap (λ m. remove m c.args.name.now) c.self.view_is
