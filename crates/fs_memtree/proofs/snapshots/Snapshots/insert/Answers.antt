use Rattle.std.proofs.Common.{◌∙◌, ap}
use Rattle.std.specs.FinMap.{insert, from_entries}
use Rattle.fs_memtree.proofs.keys.Keys.{added}
use Rattle.fs_memtree.proofs.snapshots.Snapshots.insert.Goals as goal

pub returns-clause-ok : goal.returns-clause-ok
returns-clause-ok c =
    added c.self.inside.entries.entries c.insert.new.self.entries c.copy.result c.args.snapshot c.in_ok-insert.ensures.entries
    ∙ ap (λ k. insert (from_entries c.self.inside.entries.entries) k c.args.snapshot) c.copy.ensures ∙ ap (λ m. insert m c.args.name.now c.args.snapshot) c.self.view_is
