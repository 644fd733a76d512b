-- A bit of the bitmap is written by its block.
use Rattle.std.proofs.Common.{◌≡◌, ◌≢◌, ℕ, ◌+◌, ◌/◌, ◌%◌, ◌<◌, ◌==◌, Bool, cond, List, [], ◌∷◌, length, slice_set, slice_index, sym, ap, ap₂, ◌∙◌, arith, ◌⊎◌, inl, inr}
use Rattle.std.proofs.lemmas.Bool.{cases_eq, cond-false, ne_eqb, eqb-false}
use Rattle.std.proofs.lemmas.List.{get_or-set_same, get_or-set_other}
use Rattle.std.specs.Int.{bit_at}
use Rattle.std.proofs.lemmas.Bool.Decides.{nat_tests}
use Rattle.base_types.specs.Seal.{blocks_of}
use Rattle.layout_geometry.specs.Geometry.{Geometry, bitmap_start}
use Rattle.layout_bytes.specs.Bitmap.{bit_in, is_set}
use Rattle.engine_blocks.specs.Running.{has, bit_block}
use Rattle.engine_blocks.specs.Plain.{IsWithBits}
use Rattle.engine_blocks.proofs.Members.{has_one, has_bit_one}

-- the bit of block c in the block of the bitmap that has it
bit_there : List ℕ → ℕ → Bool
bit_there x c = bit_at (slice_index x (c % 8192 / 8)) (c % 8) == 1

alone : (x : List ℕ) (c : ℕ) → bit_in (blocks_of (x ∷ [])) (c % 8192) ≡ bit_there x c
unfolding bit_there
alone x c =
    ap (λ q. bit_at (slice_index (blocks_of (x ∷ []) q) (c % 8192 % 8192 / 8)) (c % 8192 % 8) == 1) {y = 0} (omega arith)
    ∙ ap₂ (λ r s. bit_at (slice_index x (r / 8)) s == 1) {x = c % 8192 % 8192} {y = c % 8192} {u = c % 8192 % 8} {v = c % 8} (omega arith) (omega arith)

same_test : (b c : ℕ) → c / 8192 ≡ b / 8192 → (c % 8192 == b % 8192) ≡ has (b ∷ []) c
same_test b c e = grind (arith, nat_tests, e)

pub bits_written : (g : Geometry) (now new : List (List ℕ)) (b : ℕ) (bit : Bool) (x x' : List ℕ) (at : ℕ) → new ≡ slice_set now at x' → at ≡ bit_block g b → at < length now → x ≡ blocks_of now at
    → ((k : ℕ) → bit_in (blocks_of (x' ∷ [])) k ≡ cond (k == b % 8192) bit (bit_in (blocks_of (x ∷ [])) k)) → IsWithBits g (blocks_of now) (blocks_of new) (b ∷ []) bit
unfolding bit_there
bits_written g now new b bit x x' at set place low was written = record {
  bits = λ c. by c (cases_eq (c / 8192) (b / 8192));
  others = λ c out. elsewhere c (λ e. eqb-false _ _ (sym (has_bit_one g b c) ∙ out) (e ∙ place));
}
  where
    elsewhere : (c : ℕ) → c ≢ at → blocks_of new c ≡ blocks_of now c
    elsewhere c d = ap (λ l. blocks_of l c) set ∙ get_or-set_other now at c x' [] d

    by : (c : ℕ) → (c / 8192 ≡ b / 8192) ⊎ (c / 8192 ≢ b / 8192) → is_set g (blocks_of new) c ≡ cond (has (b ∷ []) c) bit (is_set g (blocks_of now) c)
    by c (inl e) =
        ap (λ i. bit_there (blocks_of new i) c) {x = bitmap_start g + c / 8192} {y = at} (omega (arith, e, place))
        ∙ ap (λ y. bit_there y c) (ap (λ l. blocks_of l at) set ∙ get_or-set_same now at x' [] low)
        ∙ sym (alone x' c)
        ∙ written (c % 8192)
        ∙ ap₂ (λ t y. cond t bit y) (same_test b c e) (alone x c ∙ ap (λ y. bit_there y c) was ∙ ap (λ i. bit_there (blocks_of now i) c) {x = at} {y = bitmap_start g + c / 8192} (omega (arith, e, place)))
    by c (inr d) =
        ap (λ y. bit_there y c) (elsewhere (bitmap_start g + c / 8192) (λ e. d (omega (arith, e, place))))
        ∙ sym (cond-false (has (b ∷ []) c) bit (is_set g (blocks_of now) c) (has_one b c ∙ ne_eqb c b (λ e. d (ap (λ k. k / 8192) e))))
