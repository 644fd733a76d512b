use Rattle.std.proofs.Common.{◌∙◌, ap}
use Rattle.std.specs.FinMap.{get}
use Rattle.fs_memtree.proofs.keys.Keys.{found}
use Rattle.fs_memtree.proofs.directory.Directory.get.Goals as goal

pub returns : goal.returns
returns c = c.copied.ensures ∙ c.get.ensures.value ∙ found c.args.name.now c.self.inside.entries.entries ∙ ap (λ m. get m c.args.name.now) c.self.view_is
