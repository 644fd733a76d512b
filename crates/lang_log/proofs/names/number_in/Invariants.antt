use Rattle.std.proofs.Common.{◌≡◌, ◌<◌, drop}
use Rattle.lang_log.specs.Names.{number_in}
use Rattle.lang_log.proofs.names.number_in.Given as goal

abbrev pub invariant-loop-byte : goal.invariant-loop-byte
invariant-loop-byte l = (number_in 0 l.bytes ≡ number_in l.number (drop l.byte-index l.bytes)) × (l.number < 4294967296)
