use Rattle.std.proofs.lemmas.Result.{err_from_is_err_and}
use Rattle.fs_check.proofs.keeping.Entries.{added, one_more}
use Rattle.fs_check.proofs.snapshot.set_number.Goals as goal

pub returns-in_err-insert-clause-err : goal.returns-in_err-insert-clause-err
returns-in_err-insert-clause-err c =
    let p = err_from_is_err_and c.from_residual.result c.from_residual.ensures.1 in
    rw (p.1) c.in_err-insert.ensures.err

pub returns-clause-ok : goal.returns-clause-ok
returns-clause-ok c = added c.args.numbers.now.entries c.insert.new.self.entries c.args.name c.args.number c.in_ok-insert.ensures.entries

pub returns-clause-one : goal.returns-clause-one
returns-clause-one c = λ none. one_more c.args.numbers.now.entries c.insert.new.self.entries c.args.name c.in_ok-insert.field-0 c.in_ok-insert.ensures.len c.in_ok-insert.ensures.old none
