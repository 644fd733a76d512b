use Rattle.std.proofs.Common.{◌∙◌, sym, subst, IsSome}
use Rattle.fs_memtree.proofs.keys.Keys.{found, put_over, lent_there}
use Rattle.fs_memtree.proofs.directory.set_number.Goals as goal

pub unwrap-place-requires : goal.unwrap-place-requires
unwrap-place-requires c = lent_there c.get_mut.result (c.get_mut.ensures.value ∙ found c.args.name.now c.args.entries.now.entries) c.requires

pub returns-clause-names : goal.returns-clause-names
returns-clause-names c =
    let is = (c.get_mut.follows.holds c.args.number).3 (subst IsSome (sym (found c.args.name.now c.args.entries.now.entries)) c.requires) in
    put_over c.args.name.now c.args.entries.now.entries (c.get_mut.follows.lender c.args.number).entries is.3 c.args.number is.1
