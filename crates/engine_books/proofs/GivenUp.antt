-- A block is given up: the steps of it.
use Rattle.std.proofs.Common.{◌≡◌, ◌≢◌, ℕ, ◌+◌, ◌-◌, ◌/◌, ◌<◌, ◌≤◌, ◌==◌, Bool, true, false, not, List, length, refl, sym, ap, subst, ◌∙◌, arith}
use Rattle.std.proofs.lemmas.Bool.{cond-true, cond-false, eq-eqb, false≢true, ne_eqb}
use Rattle.base_types.specs.Seal.{blocks_of}
use Rattle.layout_geometry.specs.Geometry.{Geometry, LiesIn, data_start}
use Rattle.layout_geometry.specs.Geometry.Area.{Data}
use Rattle.layout_bitmap.specs.Bits.{bit_in, free_blocks, BitBecomes}
use Rattle.engine_running.specs.Running.{Changes, Frees}
use Rattle.engine_reuse.specs.Numbers.{is_among}
use Rattle.engine_reuse.specs.Dead.{DeadBlocks, IsLive, dead_blocks}
use Rattle.engine_reuse.specs.Calls.{with_freed}
use Rattle.engine_books.specs.Books.{TransactionBooks, bit_now}
use Rattle.engine_books.specs.Kept.{AreKept}
use Rattle.engine_books.specs.Taking.{GivesUp}
use Rattle.engine_books.proofs.Counts.{one_less, few_from}

-- one free block more
pub one_freed : (g : Geometry) (old new : ℕ → List ℕ) (b : ℕ) → data_start g ≤ b → b < g.n → bit_in old b ≡ true → BitBecomes old new b false → length (free_blocks g old) + 1 ≡ length (free_blocks g new)
one_freed g old new b from below set w =
    one_less (λ k. not (bit_in new k)) (λ k. not (bit_in old k)) b (data_start g) (g.n - data_start g) from (omega (arith, from, below))
    (ap not (w b ∙ cond-true (b == b) false (bit_in old b) (eq-eqb b b refl))) (ap not set) (λ k low high d. ap not (sym (w k ∙ cond-false (k == b) false (bit_in old k) (ne_eqb k b d))))

-- a marked block is live
pub is_live : (v : TransactionBooks) (b : ℕ) → AreKept v → data_start v.geom ≤ b → b < v.geom.n → bit_now v b ≡ true → IsLive v.dead b
is_live v b k from below set = record {
  lies = subst (λ (g : Geometry). LiesIn g Data b) (sym k.geom) (record { from = from; below = below });
  not_dead = off (is_among b (dead_blocks v.dead)) (sym (k.bits.same b (record { from = from; below = below })) ∙ set);
}
  where
    off : (u : Bool) → not u ≡ true → u ≡ false
    off true e = absurd (false≢true e)
    off false e = refl

-- and one is live
pub some_live : (v : TransactionBooks) (bitmap : List (List ℕ)) (b : ℕ) → AreKept v → data_start v.geom ≤ b → b < v.geom.n → bit_now v b ≡ true → BitBecomes (blocks_of v.bitmap) (blocks_of bitmap) b false → 1 ≤ v.live
some_live v bitmap b k from below set w = omega (arith, k.bits.counted, one_freed v.geom (blocks_of v.bitmap) (blocks_of bitmap) b from below set w, few_from (λ x. not (bit_in (blocks_of bitmap) x)) (data_start v.geom) (v.geom.n - data_start v.geom))

-- where it was set
pub given_set : (v : TransactionBooks) (b : ℕ) (c : Changes) (bitmap : List (List ℕ)) (dead : DeadBlocks) → bit_now v b ≡ true → 1 ≤ v.live → Frees b v.changes c → dead ≡ with_freed v.dead b → BitBecomes (blocks_of v.bitmap) (blocks_of bitmap) b false
    → ((k : ℕ) → k ≢ b / 8192 → blocks_of bitmap k ≡ blocks_of v.bitmap k) → length bitmap ≡ length v.bitmap → GivesUp b v (record v { bitmap = bitmap; changes = c; dead = dead; live = v.live - 1 })
given_set v b c bitmap dead set some f d w others size = record {
  same = refl;
  size = size;
  bits = w;
  others = others;
  set = λ e. record { freed = f.freed; dead = d; live = omega (arith, some) };
  clear = λ clear. absurd (false≢true (sym clear ∙ set));
  paid = f.paid;
  laid = f.laid;
  taken = f.taken;
  puts = f.puts;
  takes = f.takes;
  frees = f.frees;
}

-- the same of books that were opened
pub live_at : (v x : TransactionBooks) (bitmap : List (List ℕ)) (b : ℕ) → x ≡ v → AreKept v → data_start v.geom ≤ b → b < v.geom.n → bit_now x b ≡ true → BitBecomes (blocks_of x.bitmap) (blocks_of bitmap) b false → 1 ≤ x.live
live_at v x bitmap b e k from below set w =
    subst (λ (y : TransactionBooks). 1 ≤ y.live) (sym e) (some_live v bitmap b k from below (subst (λ y. bit_now y b ≡ true) e set) (subst (λ (y : TransactionBooks). BitBecomes (blocks_of y.bitmap) (blocks_of bitmap) b false) e w))

pub given_at : (v x : TransactionBooks) (b : ℕ) (c : Changes) (bitmap : List (List ℕ)) (dead : DeadBlocks) → x ≡ v → AreKept v → data_start v.geom ≤ b → b < v.geom.n → bit_now x b ≡ true → Frees b x.changes c → dead ≡ with_freed x.dead b
    → BitBecomes (blocks_of x.bitmap) (blocks_of bitmap) b false → ((k : ℕ) → k ≢ b / 8192 → blocks_of bitmap k ≡ blocks_of x.bitmap k) → length bitmap ≡ length x.bitmap
    → GivesUp b v (record x { bitmap = bitmap; changes = c; dead = dead; live = x.live - 1 })
given_at v x b c bitmap dead e k from below set f d w others size =
    subst (λ y. GivesUp b y (record x { bitmap = bitmap; changes = c; dead = dead; live = x.live - 1 })) e (given_set x b c bitmap dead set (live_at v x bitmap b e k from below set w) f d w others size)
