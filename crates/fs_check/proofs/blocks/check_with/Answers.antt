use Rattle.std.proofs.Common.{false}
use Rattle.std.proofs.lemmas.Result.{err_from_is_err_and}
use Rattle.fs_check.proofs.sound.Steps.{begins}
use Rattle.fs_check.proofs.blocks.check_with.Goals as goal

pub returns-in_err-check_bits-clause-damage : goal.returns-in_err-check_bits-clause-damage
returns-in_err-check_bits-clause-damage g c = λ tells are.
    let p = err_from_is_err_and c.from_residual.result c.from_residual.ensures.1 in
    rw (p.1, p.2) (c.in_err-check_bits.ensures.damage (g.S.Blocks.state c.args.blocks.now).map are)

pub returns-in_err-check_table-clause-damage : goal.returns-in_err-check_table-clause-damage
returns-in_err-check_table-clause-damage g c = λ tells are.
    let p = err_from_is_err_and c.from_residual-in_err-check_table.result c.from_residual-in_err-check_table.ensures.1 in
    rw (p.1, p.2) (c.in_err-check_table.ensures.damage tells (begins c.args.geom.now (g.S.Blocks.state c.args.blocks.now).map c.args.bits.now c.args.met.now false are c.requires.unmet))

pub returns-clause-checked : goal.returns-clause-checked
returns-clause-checked g c = λ tells are.
    c.in_ok-check_table.ensures.sound tells (begins c.args.geom.now (g.S.Blocks.state c.args.blocks.now).map c.args.bits.now c.args.met.now false are c.requires.unmet)
