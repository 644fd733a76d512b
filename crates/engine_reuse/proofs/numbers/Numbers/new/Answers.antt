-- Rows of zeros have no member.
use Rattle.std.proofs.Common.{arith}
use Rattle.engine_reuse.proofs.Members.{no_rows}
use Rattle.engine_reuse.proofs.numbers.Numbers.new.Goals as goal

pub invariant_of-result : goal.invariant_of-result
invariant_of-result c =
    let words = c.in_ok-words.ensures in
    let filled = c.in_ok-filled.ensures in
    no_rows _ _ words.none words.words filled.none (omega (arith, filled.enough, c.len.ensures, c.in_ok-words.words.ok.0)) words.few filled.few
