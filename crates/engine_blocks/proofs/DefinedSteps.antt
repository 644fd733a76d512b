-- What a put, a take, a free and a sync leave of a map on the blocks where it is defined.
use Rattle.std.proofs.Common.{◌≡◌, ℕ, ◌<◌, ◌≤◌, ◌==◌, nat_le, nat_lt, Bool, true, false, not, ◌&&◌, ◌||◌, cond, List, [], ◌∷◌, refl, sym, ap, ap₂, ◌∙◌, arith, inl, inr}
use Rattle.std.proofs.lemmas.Bool.{cases_Bool, cases_lt, cond-true, eq-eqb, ne_eqb, ltb-true, and_parts}
use Rattle.std.proofs.lemmas.Bool.Decides.{nat_tests}
use mathlib.Core.Path.{fun_ext}
use Rattle.base_types.specs.Seal.{Blocks, blocks_of}
use Rattle.base_types.specs.declared.words.Class.{Class}
use Rattle.layout_geometry.specs.Geometry.{bitmap_start, table_start, data_start}
use Rattle.layout_bytes.specs.Bitmap.{is_set}
use Rattle.layout_journal.specs.Run.{is_live}
use Rattle.engine_blocks.specs.declared.role.Role.TheVariants.{Untouched, Changed, Bare}
use Rattle.engine_blocks.specs.Running.{is_bare, has, has_bit, bit_block, HasNoBare}
use Rattle.engine_blocks.specs.State.{Bookkeeping, IsReusable, MayBeTaken, defined_by, is_defined, after_put, after_take, after_free, defined_part}
use Rattle.engine_blocks.specs.Calls.{IsWithBlock, IsWithTaken, IsWithFreed}
use Rattle.engine_blocks.specs.Crashes.{HasLiveBlocks}
use Rattle.engine_blocks.specs.Plain.{IsWithBits}
use Rattle.engine_blocks.specs.Defined.{defined_at, undefined_at, bitmap_bit, disk_bit}
use Rattle.engine_blocks.proofs.Members.{has_one, has_bit_one, among}

-- where the mark and the role of a block stay, the map has its bytes as before
same_there : (k l : Bookkeeping) (old new : Blocks) (c : ℕ) → is_defined l c ≡ is_defined k c → new c ≡ old c → defined_part l new c ≡ defined_part k old c
same_there k l old new c e f = ap₂ (λ x y. cond x y []) e f

-- the whole map, where no block is bare
pub same_part : (k l : Bookkeeping) (old new : List (List ℕ)) → l.geom ≡ k.geom → l.marked ≡ k.marked → HasNoBare k.running → HasNoBare l.running → new ≡ old → defined_part l (blocks_of new) ≡ defined_part k (blocks_of old)
same_part k l old new geom marked before after now = fun_ext (λ c. same_there k l (blocks_of old) (blocks_of new) c
    (ap₂ (λ g marks. defined_by g (marks c) (is_bare (l.running.roles c)) c) geom marked ∙ ap (λ r. defined_by k.geom (k.marked c) r c) (after c ∙ sym (before c)))
    (ap (λ m. blocks_of m c) now))

-- A put.

data_defined : (k : Bookkeeping) (b : ℕ) → table_start k.geom ≤ b → b < k.geom.n → (data_start k.geom ≤ b → k.marked b ≡ true) → is_bare (k.running.roles b) ≡ false → is_defined k b ≡ true
data_defined k b from low marked filled = elim (cases_lt b (data_start k.geom)) [
  | inl early ↦ grind (arith, nat_tests, from, early)
  | inr late ↦ grind (arith, nat_tests, from, low, late, marked late, filled)
]

pub put_told : (k : Bookkeeping) (old new : Blocks) (b : ℕ) (class : Class) (bytes : List ℕ) → table_start k.geom ≤ b → b < k.geom.n → (data_start k.geom ≤ b → k.marked b ≡ true) → IsWithBlock old new b bytes
    → IsWithBlock (defined_part k old) (defined_part (after_put k b class) new) b bytes
put_told k old new b class bytes from low marked w = record {
  own = defined_at (after_put k b class) new b (data_defined (after_put k b class) b from low marked (grind (arith, nat_tests, class, k.running.roles b))) ∙ w.own;
  others = λ c d. same_there k (after_put k b class) old new c (grind (arith, nat_tests, d)) (w.others c d);
}

-- A take.

late_by : (k : Bookkeeping) (c : ℕ) → data_start k.geom ≤ c → (nat_lt c k.geom.n && (k.marked c && not (is_bare (k.running.roles c)))) ≡ false → is_defined k c ≡ false
late_by k c from e = grind (arith, nat_tests, from, e)

pub unmarked_undefined : (k : Bookkeeping) (c : ℕ) → data_start k.geom ≤ c → k.marked c ≡ false → is_defined k c ≡ false
unmarked_undefined k c from e = late_by k c from (grind (arith, e))

pub bare_undefined : (k : Bookkeeping) (c : ℕ) → data_start k.geom ≤ c → is_bare (k.running.roles c) ≡ true → is_defined k c ≡ false
bare_undefined k c from e = late_by k c from (grind (arith, e))

pub take_told : (k : Bookkeeping) (old new : Blocks) (bs : List ℕ) → MayBeTaken k.geom k.reusable bs → ((b : ℕ) → IsReusable k.geom k.reusable b → k.marked b ≡ false) → IsWithBits k.geom old new bs true
    → IsWithTaken k.geom (defined_part k old) (defined_part (after_take k bs) new) bs
take_told k old new bs may unmarked w = record {
  bits = λ b low. bitmap_bit (after_take k bs) new b low ∙ w.bits b ∙ ap (λ x. cond (has bs b) true x) (sym (bitmap_bit k old b low));
  others = λ c out. elim (cases_Bool (has bs c)) [
    | inl is ↦
        let r = among (IsReusable k.geom k.reusable) bs may.each c is in
        undefined_at (after_take k bs) new c (bare_undefined (after_take k bs) c r.from (ap is_bare (cond-true (has bs c) Bare (cond (has_bit k.geom bs c) Changed (k.running.roles c)) is)))
        ∙ sym (undefined_at k old c (unmarked_undefined k c r.from (unmarked c r)))
    | inr not_is ↦ same_there k (after_take k bs) old new c
        (ap₂ (λ x y. defined_by k.geom (x || k.marked c) (is_bare (cond x Bare (cond y Changed (k.running.roles c)))) c) not_is out)
        (w.others c out)
  ];
}

-- A free.

pub free_told : (k : Bookkeeping) (old new : Blocks) (b : ℕ) → data_start k.geom ≤ b → IsWithBits k.geom old new (b ∷ []) false → IsWithFreed k.geom (defined_part k old) (defined_part (after_free k b) new) b
free_told k old new b from w = record {
  own = undefined_at (after_free k b) new b (unmarked_undefined (after_free k b) b from (cond-true (b == b) false (k.marked b) (eq-eqb b b refl)));
  bits = λ c low. bitmap_bit (after_free k b) new c low ∙ w.bits c ∙ ap₂ (λ t x. cond t false x) (has_one b c) (sym (bitmap_bit k old c low));
  others = λ c d e. same_there k (after_free k b) old new c
      (ap₂ (λ x y. defined_by k.geom (cond x false (k.marked c)) (is_bare (cond x Untouched (cond y Changed (k.running.roles c)))) c) (ne_eqb c b d) (ne_eqb c (bit_block k.geom b) e))
      (w.others c (has_bit_one k.geom b c ∙ ne_eqb c (bit_block k.geom b) e));
}

-- A point.

live_by : (x n d s m z : Bool) → m ≡ s → z ≡ true → (x && (n && (d || s))) ≡ true → (x && (d || (n && (m && z)))) ≡ true
live_by x n d s m z e f h = grind (arith, e, f, h)

-- where no block is bare, the map is defined on each live block
pub live_defined : (k : Bookkeeping) (m : Blocks) (b : ℕ) → HasNoBare k.running → (b < k.geom.n → k.marked b ≡ is_set k.geom m b) → is_live k.geom m b ≡ true → is_defined k b ≡ true
live_defined k m b none bits live =
    live_by (nat_le (bitmap_start k.geom) b) (nat_lt b k.geom.n) (nat_lt b (data_start k.geom)) (is_set k.geom m b) (k.marked b) (not (is_bare (k.running.roles b)))
    (bits (ltb-true b k.geom.n (and_parts _ _ (and_parts _ _ live).1).0)) (ap not (none b)) live

pub kept_live : (k : Bookkeeping) (now m : Blocks) → HasNoBare k.running → ((b : ℕ) → b < k.geom.n → k.marked b ≡ is_set k.geom now b) → m ≡ now → HasLiveBlocks k.geom (defined_part k now) m
kept_live k now m none bits is b live =
    ap (λ f. f b) is ∙ sym (defined_at k now b (live_defined k (defined_part k now) b none (λ low. bits b low ∙ sym (disk_bit k now b low)) live))
