-- The books with other dead blocks: after a release, and after a commit.
use Rattle.std.proofs.Common.{◌≡◌, ℕ, not, List, length, refl, sym, ap, subst, ◌∙◌, arith}
use Rattle.engine_running.specs.Running.{Changes, IsEmpty}
use Rattle.engine_reuse.specs.Numbers.{is_among}
use Rattle.engine_reuse.specs.Dead.{DeadBlocks, AreSound, dead_blocks}
use Rattle.engine_reuse.specs.Calls.{with_sealed, with_released}
use Rattle.engine_books.specs.Books.{TransactionBooks}
use Rattle.engine_books.specs.Kept.{AreKept}
use Rattle.engine_books.specs.Sealing.{with_record, SameDead}
use Rattle.engine_books.proofs.Begun.{empty_kept}

pub same_dead_kept : (v : TransactionBooks) (dead : DeadBlocks) → AreKept v → AreSound dead → SameDead v.dead dead → AreKept (record v { dead = dead })
same_dead_kept v dead k sound s = record {
  limits = k.limits;
  geom = s.geom ∙ k.geom;
  sound = sound;
  bits = record { size = k.bits.size; others = k.bits.others; same = λ b lie. k.bits.same b lie ∙ ap not (sym (s.dead b)); counted = k.bits.counted };
  lie = record { ordered = k.lie.ordered; rising = k.lie.rising; taken = k.lie.taken; paid_from = k.lie.paid_from; paid_below = k.lie.paid_below; laid = k.lie.laid };
  room = record { boxes = k.room.boxes; takes = k.room.takes; frees = k.room.frees; held = omega (arith, k.room.held, s.room) };
  freed = k.freed ∙ sym s.held;
  taken_few = k.taken_few;
  took_few = omega (arith, k.took_few, ap (λ (l : List ℕ). length l) s.held);
  fits = k.fits;
}

-- a release
abbrev pub ReleasedLaw : Type 0
ReleasedLaw = (v : DeadBlocks) (sure : ℕ) (going_home : List ℕ) (c : ℕ) → AreSound v → is_among c (dead_blocks (with_released v sure going_home)) ≡ is_among c (dead_blocks v)

pub released_at : ReleasedLaw → (v x : TransactionBooks) (dead : DeadBlocks) (sure : ℕ) (home : List ℕ) → x ≡ v → dead ≡ with_released x.dead sure home → AreSound dead → AreKept v → AreKept (record x { dead = dead })
released_at law v x dead sure home e d sound k =
    let kx = subst AreKept (sym e) k in
    same_dead_kept x dead kx sound (record {
      geom = ap (λ (y : DeadBlocks). y.geom) d;
      dead = λ c. ap (λ (y : DeadBlocks). is_among c (dead_blocks y)) d ∙ law x.dead sure home c kx.sound;
      held = ap (λ (y : DeadBlocks). y.held) d;
      room = ap (λ (y : DeadBlocks). y.room) d;
    })

-- a commit
abbrev pub SealedLaw : Type 0
SealedLaw = (v : DeadBlocks) (number c : ℕ) → is_among c (dead_blocks (with_sealed v number)) ≡ is_among c (dead_blocks v)

pub sealed_at : SealedLaw → (v x : TransactionBooks) (dead : DeadBlocks) (number : ℕ) → x ≡ v → IsEmpty v.changes → dead ≡ with_sealed x.dead number → AreSound dead → (c : Changes) → AreKept (record v { changes = c }) → AreKept (record (with_record x number) { dead = dead })
sealed_at law v x dead number e empty d sound c k =
    let kx = subst (λ (y : TransactionBooks). AreKept (record y { changes = c })) (sym e) k in
    empty_kept (record (with_record x number) { dead = dead }) kx.limits (ap (λ (y : DeadBlocks). y.geom) d ∙ kx.geom) sound
    (record { size = kx.bits.size; others = kx.bits.others; same = λ b lie. kx.bits.same b lie ∙ ap not (sym (ap (λ (y : DeadBlocks). is_among b (dead_blocks y)) d ∙ law x.dead number b)); counted = kx.bits.counted })
    (subst (λ (y : TransactionBooks). IsEmpty y.changes) (sym e) empty) (ap (λ (y : DeadBlocks). y.held) d) refl refl refl
