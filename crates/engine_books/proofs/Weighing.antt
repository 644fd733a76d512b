-- The books after a change of their weight.
use Rattle.std.proofs.Common.{ℕ, ◌*◌, ◌-◌, ◌≤◌}
use Rattle.engine_books.specs.Books.{TransactionBooks}
use Rattle.engine_books.specs.Kept.{AreKept}

pub weighed : (v : TransactionBooks) (w : ℕ) → AreKept v → w ≤ 24 * (v.geom.j - 2) → AreKept (record v { weight = w })
weighed v w k fits = record {
  limits = k.limits;
  geom = k.geom;
  sound = k.sound;
  bits = record { size = k.bits.size; others = k.bits.others; same = k.bits.same; counted = k.bits.counted };
  lie = record { ordered = k.lie.ordered; rising = k.lie.rising; taken = k.lie.taken; paid_from = k.lie.paid_from; paid_below = k.lie.paid_below; laid = k.lie.laid };
  room = record { boxes = k.room.boxes; takes = k.room.takes; frees = k.room.frees; held = k.room.held };
  freed = k.freed;
  taken_few = k.taken_few;
  took_few = k.took_few;
  fits = fits;
}
