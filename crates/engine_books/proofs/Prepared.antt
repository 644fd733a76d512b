-- The books once more is made ready.
use Rattle.std.proofs.Common.{◌≡◌, ℕ, ◌+◌, ◌≤◌, min, max, not, sym, ap, subst, arith}
use Rattle.base_types.specs.Seal.{Blocks}
use Rattle.engine_running.specs.Running.{Changes, SameChanges, HasRoomFor}
use Rattle.engine_reuse.specs.Dead.{DeadBlocks}
use Rattle.engine_blocks.specs.Running.{Spare}
use Rattle.engine_books.specs.Books.{TransactionBooks, has_put}
use Rattle.engine_books.specs.Kept.{AreKept, clean_bitmap_blocks}
use Rattle.engine_books.specs.Point.{BeganAt}
use Rattle.engine_books.proofs.Counts.{few_from}
use Rattle.layout_geometry.specs.Geometry.{bitmap_start, bitmap_blocks}

-- the books with other room
abbrev pub roomed : TransactionBooks → ℕ → ℕ → ℕ → ℕ → Spare → TransactionBooks
roomed v p t f room spare = record v { changes = record v.changes { puts = p; takes = t; frees = f }; dead = record v.dead { room = room }; spare = spare }

roomed_kept : (v : TransactionBooks) (p t f room : ℕ) (spare : Spare) → AreKept v → spare.puts + min (spare.takes + spare.frees) (clean_bitmap_blocks v + 1) ≤ p → spare.takes ≤ t → spare.frees ≤ f → spare.frees ≤ room → AreKept (roomed v p t f room spare)
roomed_kept v p t f room spare k puts takes frees held = record {
  limits = k.limits;
  geom = k.geom;
  sound = record { lie = k.sound.lie; once = k.sound.once; ascending = k.sound.ascending; in_order = k.sound.in_order };
  bits = record { size = k.bits.size; others = k.bits.others; same = k.bits.same; counted = k.bits.counted };
  lie = record { ordered = k.lie.ordered; rising = k.lie.rising; taken = k.lie.taken; paid_from = k.lie.paid_from; paid_below = k.lie.paid_below; laid = k.lie.laid };
  room = record { boxes = puts; takes = takes; frees = frees; held = held };
  freed = k.freed;
  taken_few = k.taken_few;
  took_few = k.took_few;
  fits = k.fits;
}

roomed_began : (v : TransactionBooks) (p t f room : ℕ) (spare : Spare) (last : Blocks) → BeganAt v last → BeganAt (roomed v p t f room spare) last
roomed_began v p t f room spare last b = record { bitmap = b.bitmap; was_dead = b.was_dead; took = b.took; killed = b.killed; marked = b.marked; whole = b.whole }

-- what `prepare` leaves, in one
pub record PrepareLeaves (v now : TransactionBooks) : Type 0 where
  pub kept : AreKept now
  pub began : (last : Blocks) → BeganAt v last → BeganAt now last

pub prepared_at : (v x : TransactionBooks) (c : Changes) (dead : DeadBlocks) (room : ℕ) (spare : Spare) → x ≡ v → AreKept v → SameChanges x.changes c → dead ≡ record x.dead { room = room }
    → spare.puts + min (spare.takes + spare.frees) (clean_bitmap_blocks v + 1) ≤ c.puts → spare.takes ≤ c.takes → spare.frees ≤ c.frees → spare.frees ≤ room → PrepareLeaves v (record x { changes = c; dead = dead; spare = spare })
prepared_at v x c dead room spare e k s d puts takes frees held =
    let all : record x { changes = c; dead = dead; spare = spare } ≡ roomed x c.puts c.takes c.frees room spare =
    λ i. record x { changes = record { paid = s.paid i; laid = s.laid i; taken = s.taken i; freed = s.freed i; puts = c.puts; takes = c.takes; frees = c.frees }; dead = d i; spare = spare } in
    let on : roomed x c.puts c.takes c.frees room spare ≡ roomed v c.puts c.takes c.frees room spare = λ i. roomed (e i) c.puts c.takes c.frees room spare in
    subst (λ y. PrepareLeaves v y) (sym all) (subst (λ y. PrepareLeaves v y) (sym on) (record {
      kept = roomed_kept v c.puts c.takes c.frees room spare k puts takes frees held;
      began = roomed_began v c.puts c.takes c.frees room spare;
    }))

-- it was refused
pub prepared_none : (v x : TransactionBooks) (c : Changes) (dead : DeadBlocks) → x ≡ v → AreKept v → SameChanges x.changes c → HasRoomFor c x.changes.puts x.changes.takes x.changes.frees → dead ≡ x.dead → PrepareLeaves v (record x { changes = c; dead = dead })
prepared_none v x c dead e k s room d =
    let kx = subst AreKept (sym e) k in
    prepared_at v x c dead x.dead.room x.spare e k s d
    (omega (arith, kx.room.boxes, room.for_puts, ap clean_bitmap_blocks e)) (omega (arith, kx.room.takes, room.for_takes)) (omega (arith, kx.room.frees, room.for_frees)) kx.room.held

-- it was done: the boxes are for the puts, and for the bits, of which each block of the bitmap needs one, and one more
pub prepared_all : (v x : TransactionBooks) (c : Changes) (dead : DeadBlocks) (puts takes frees bits : ℕ) → x ≡ v → AreKept v → SameChanges x.changes c → HasRoomFor c (puts + bits) takes frees → dead ≡ record x.dead { room = max frees x.dead.room }
    → bits ≡ min (min (takes + frees) 4294967295) (bitmap_blocks v.geom + 1) → PrepareLeaves v (record x { changes = c; dead = dead; spare = record { puts = puts; takes = takes; frees = frees } })
prepared_all v x c dead puts takes frees bits e k s room d b =
    prepared_at v x c dead (max frees x.dead.room) (record { puts = puts; takes = takes; frees = frees }) e k s d
    (omega (arith, room.for_puts, b, few_from (λ n. not (has_put n v.changes.paid)) (bitmap_start v.geom) (bitmap_blocks v.geom), k.limits.most_blocks)) room.for_takes room.for_frees (omega arith)
