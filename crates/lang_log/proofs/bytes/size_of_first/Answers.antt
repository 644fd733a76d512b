use Rattle.std.proofs.Common.{arith, take, drop}
use Rattle.lang_log.proofs.Spelled.{found_first}
use Rattle.lang_log.proofs.bytes.size_of_first.Goals as goal

pub returns-clause-found : goal.returns-clause-found
returns-clause-found c =
    let length = c.read_u32-length.result in
    let found =
    found_first c.args.bytes.now length (λ i. omega (arith, c.type_inv.bytes i)) (omega (arith, c.if-bytes-lt-HEAD.false)) c.read_u32-length.ensures
    (omega (arith, c.if-length-gt-LONGEST_APPEND.false)) (omega (arith, c.if-bytes-length.false)) in
    (take length (drop 4 c.args.bytes.now), found.0, found.1)
