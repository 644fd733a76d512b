use Rattle.std.proofs.Common.{◌∙◌, ap}
use Rattle.std.specs.FinMap.{get}
use Rattle.fs_memtree.proofs.keys.Keys.{found}
use Rattle.fs_memtree.proofs.keys.Snaps.{seen_copied}
use Rattle.fs_memtree.proofs.snapshots.Snapshots.get.Goals as goal

pub returns : goal.returns
returns c = seen_copied c.get.result ∙ c.get.ensures.value ∙ found c.args.name.now c.self.inside.entries.entries ∙ ap (λ m. get m c.args.name.now) c.self.view_is
