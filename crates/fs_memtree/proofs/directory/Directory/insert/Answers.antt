use Rattle.std.proofs.Common.{◌∙◌, ap}
use Rattle.std.specs.FinMap.{insert}
use Rattle.fs_memtree.specs.Kept.{names_in}
use Rattle.fs_memtree.proofs.keys.Keys.{added}
use Rattle.fs_memtree.proofs.directory.Directory.insert.Goals as goal

pub returns-clause-ok : goal.returns-clause-ok
returns-clause-ok c =
    added c.self.inside.entries.entries c.insert.new.self.entries c.copy.result c.args.number c.in_ok-insert.ensures.entries
    ∙ ap (λ k. insert (names_in c.self.inside.entries.entries) k c.args.number) c.copy.ensures ∙ ap (λ m. insert m c.args.name.now c.args.number) c.self.view_is
