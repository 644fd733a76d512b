use Rattle.std.proofs.Common.{◌∙◌, sym}
use Rattle.fs_memtree.proofs.keys.Copies.{same_names, other_length}
use Rattle.fs_memtree.proofs.directory.Directory.is_same.Goals as goal

pub returns-then-len : goal.returns-then-len
returns-then-len c =
    other_length c.self.inside.entries.entries c.other.inside.entries.entries c.args.self.now c.args.other.now c.self.view_is c.other.view_is
    c.len.ensures.ordered c.len-2.ensures.ordered (λ same. c.if-len.true (c.len.ensures.len ∙ same ∙ sym c.len-2.ensures.len))

pub returns : goal.returns
returns c =
    same_names c.self.inside.entries.entries c.other.inside.entries.entries c.args.self.now c.args.other.now c.eq.result c.self.view_is c.other.view_is
    c.len.ensures.ordered c.len-2.ensures.ordered c.eq.ensures
