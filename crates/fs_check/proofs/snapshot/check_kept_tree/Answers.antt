use Rattle.std.proofs.Common.{sym, subst}
use Rattle.crash_stands.specs.Bounds.{bounds_of}
use Rattle.crash_stands.specs.Kept.{kept_files}
use Rattle.fs_check.specs.Damage.{IsBroken}
use Rattle.fs_check.proofs.snapshot.check_kept_tree.Goals as goal

pub returns-in-Err-Damaged-clause-damage : goal.returns-in-Err-Damaged-clause-damage
returns-in-Err-Damaged-clause-damage g c = λ tells is at.
    let s = g.S.Blocks.state c.args.blocks.now in
    let broken = rw c.in-Err-Damaged.field-0-is at (c.in-Err-Damaged.ensures.broken tells) in
    record { is = is; broken = subst (λ ps. IsBroken (bounds_of s.books.geom) (kept_files s.books.geom s.map ps) c.in-Err-Damaged.damage) (sym at) broken }
