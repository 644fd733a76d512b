-- Blocks of a list are taken one by one.
use Rattle.std.proofs.Common.{◌≡◌, ◌≢◌, ℕ, zero, suc, ◌+◌, ◌-◌, ◌<◌, ◌==◌, Bool, true, false, not, ◌&&◌, ◌||◌, cond, List, [], ◌∷◌, ◌++◌, length, take, get_or, AllPairs, refl, sym, ap, ap₂, ◌∙◌, arith}
use Rattle.std.proofs.lemmas.Bool.{ne_eqb, or_parts}
use Rattle.std.proofs.lemmas.List.{length_push}
use Rattle.std.proofs.lemmas.List.Elements.{All-take}
use Rattle.std.proofs.lemmas.Bool.Decides.{nat_tests}
use mathlib.Core.Path.{fun_ext}
use Rattle.base_types.specs.Seal.{Blocks}
use Rattle.layout_geometry.specs.Geometry.{Geometry}
use Rattle.layout_bytes.specs.Bitmap.{is_set}
use Rattle.engine_blocks.specs.declared.role.Role.{Role}
use Rattle.engine_blocks.specs.declared.role.Role.TheVariants.{Changed, Bare}
use Rattle.engine_blocks.specs.Running.{has, has_bit, bit_block, with_takes}
use Rattle.engine_blocks.specs.State.{Bookkeeping, IsReusable, MayBeTaken, after_take}
use Rattle.engine_blocks.specs.Plain.{IsWithBits}
use Rattle.engine_blocks.proofs.Members.{has_one, has_bit_one, has_push, has_bit_push, among}

-- Tests.

-- the number t is the last one, u is its bit's block, h is among the others, and v is a bit's block of theirs
role_by : (t u h v : Bool) (r : Role) → (h ≡ true → u ≡ false) → cond t Bare (cond u Changed (cond h Bare (cond v Changed r))) ≡ cond (h || t) Bare (cond (v || u) Changed r)
role_by t u h v r apart = grind (arith, apart)

mark_by : (t h m : Bool) → (t || (h || m)) ≡ ((h || t) || m)
mark_by t h m = grind arith

clear_by : (t h u : Bool) → (not t && (not h && u)) ≡ (not (h || t) && u)
clear_by t h u = grind arith

bit_by : (t h o : Bool) → cond t true (cond h true o) ≡ cond (h || t) true o
bit_by t h o = grind arith

-- One more.

roles_more : (g : Geometry) (roles : ℕ → Role) (xs : List ℕ) (b : ℕ) → ((c : ℕ) → has xs c ≡ true → c ≢ bit_block g b) → with_takes g (with_takes g roles xs) (b ∷ []) ≡ with_takes g roles (xs ++ b ∷ [])
roles_more g roles xs b apart = fun_ext (λ c.
    ap₂ (λ t u. cond t Bare (cond u Changed (with_takes g roles xs c))) (has_one b c) (has_bit_one g b c)
    ∙ role_by (c == b) (c == bit_block g b) (has xs c) (has_bit g xs c) (roles c) (λ h. ne_eqb c (bit_block g b) (apart c h))
    ∙ ap₂ (λ t u. cond t Bare (cond u Changed (roles c))) (sym (has_push xs b c)) (sym (has_bit_push g xs b c)))

pub take_more_books : (k : Bookkeeping) (xs : List ℕ) (b : ℕ) → ((c : ℕ) → has xs c ≡ true → c ≢ bit_block k.geom b) → after_take (after_take k xs) (b ∷ []) ≡ after_take k (xs ++ b ∷ [])
take_more_books k xs b apart =
    ap₂ (λ x y. record k {
      running = record k.running { roles = x; took = k.running.took + length xs + 1 };
      spare = record k.spare { takes = k.spare.takes - length xs - 1 };
      marked = y;
      reusable = λ c. not (has (b ∷ []) c) && (not (has xs c) && k.reusable c);
    }) (roles_more k.geom k.running.roles xs b apart) (fun_ext (λ c. ap (λ t. t || (has xs c || k.marked c)) (has_one b c) ∙ mark_by (c == b) (has xs c) (k.marked c) ∙ ap (λ t. t || k.marked c) (sym (has_push xs b c))))
    ∙ ap₂ (λ x y. record k {
      running = record k.running { roles = with_takes k.geom k.running.roles (xs ++ b ∷ []); took = x };
      spare = record k.spare { takes = k.spare.takes - length xs - 1 };
      marked = λ c. has (xs ++ b ∷ []) c || k.marked c;
      reusable = y;
    }) (omega (arith, length_push xs b)) (fun_ext (λ c. ap (λ t. not t && (not (has xs c) && k.reusable c)) (has_one b c) ∙ clear_by (c == b) (has xs c) (k.reusable c) ∙ ap (λ t. not t && k.reusable c) (sym (has_push xs b c))))
    ∙ ap (λ x. record k {
      running = record k.running { roles = with_takes k.geom k.running.roles (xs ++ b ∷ []); took = k.running.took + length (xs ++ b ∷ []) };
      spare = record k.spare { takes = x };
      marked = λ c. has (xs ++ b ∷ []) c || k.marked c;
      reusable = λ c. not (has (xs ++ b ∷ []) c) && k.reusable c;
    }) {y = k.spare.takes - length (xs ++ b ∷ [])} (omega (arith, length_push xs b))

pub take_more_bits : (g : Geometry) (old mid new : Blocks) (xs : List ℕ) (b : ℕ) → IsWithBits g old mid xs true → IsWithBits g mid new (b ∷ []) true → IsWithBits g old new (xs ++ b ∷ []) true
take_more_bits g old mid new xs b v w = record {
  bits = λ c. w.bits c ∙ ap₂ (λ t o. cond t true o) (has_one b c) (v.bits c) ∙ bit_by (c == b) (has xs c) (is_set g old c) ∙ ap (λ t. cond t true (is_set g old c)) (sym (has_push xs b c));
  others = λ c out.
      let none = sym (has_bit_push g xs b c) ∙ out in
      w.others c (has_bit_one g b c ∙ (or_parts (has_bit g xs c) (c == bit_block g b) none).1) ∙ v.others c ((or_parts (has_bit g xs c) (c == bit_block g b) none).0);
}

-- The list.

-- where no two are the same, a number isn't among those before it
pub not_before : (xs : List ℕ) (i d : ℕ) → i < length xs → AllPairs (λ a b. a ≢ b) xs → has (take i xs) (get_or xs i d) ≡ false
not_before [] i d low pairs = absurd (omega (arith, low))
not_before (x ∷ xs) zero d low pairs = refl
not_before (x ∷ xs) (suc i) d low pairs = grind (arith, nat_tests, pairs 0 (suc i) d, low, not_before xs i d (omega (arith, low)) (λ j k e a b. pairs (suc j) (suc k) e (omega (arith, a)) (omega (arith, b))))

-- the next one may be taken after those before it
pub may_next : (k : Bookkeeping) (xs : List ℕ) (i d : ℕ) → i < length xs → MayBeTaken k.geom k.reusable xs → IsReusable k.geom (after_take k (take i xs)).reusable (get_or xs i d)
may_next k xs i d low may =
    let one : IsReusable k.geom k.reusable (get_or xs i d) = may.each i d low in
    record { from = one.from; below = one.below; free = ap (λ t. not t && k.reusable (get_or xs i d)) (not_before xs i d low may.distinct) ∙ one.free }

-- and its bit is in none of them
pub bits_apart : (k : Bookkeeping) (xs : List ℕ) (i b : ℕ) → MayBeTaken k.geom k.reusable xs → b < k.geom.n → (c : ℕ) → has (take i xs) c ≡ true → c ≢ bit_block k.geom b
bits_apart k xs i b may low c is e = omega (arith, e, (among (IsReusable k.geom k.reusable) (take i xs) (All-take (IsReusable k.geom k.reusable) i xs may.each) c is).from, low)
