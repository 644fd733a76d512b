use Rattle.std.proofs.Common.{◌==◌, ◌∙◌, ap, sym}
use Rattle.std.specs.List.{list_any}
use Rattle.fs_memtree.proofs.keys.Snaps.{entries_there}
use Rattle.fs_memtree.proofs.snapshots.Snapshots.has_number.Goals as goal

pub loop-snapshot-init : goal.loop-snapshot-init
loop-snapshot-init c =
    let started = c.into_iter-snapshot-iterator.ensures.into_iter_gives in
    ap (list_any (λ e. e.1.number == c.args.number)) (started.0 ∙ sym (entries_there c.self.inside.entries.entries c.args.self.now started.5 c.self.view_is))
