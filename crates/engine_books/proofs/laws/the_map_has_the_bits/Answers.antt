use Rattle.std.proofs.Common.{refl}
use Rattle.engine_books.proofs.Sound.{told_bit, map_bitmap}
use Rattle.engine_books.proofs.laws.the_map_has_the_bits.Goals as goal

pub returns : goal.returns
returns c = record { bits = told_bit; bitmap = map_bitmap; part = λ k v last. refl }
