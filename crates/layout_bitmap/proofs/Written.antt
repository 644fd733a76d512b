-- Writing one bit of a bitmap.
use Rattle.std.proofs.Common.{◌≡◌, ◌≢◌, ℕ, ◌/◌, ◌%◌, ◌<◌, ◌==◌, Bool, if◌then◌else◌, ◌⊎◌, inl, inr, List, [], length, slice_index, slice_index_or, slice_set, sym, ap, ◌∙◌, arith}
use Rattle.std.proofs.lemmas.Bool.{cases_eq, eq-eqb, ne_eqb, cond-true, cond-false}
use Rattle.std.proofs.lemmas.List.{get_or-set_same, get_or-set_other}
use Rattle.std.specs.Int.{bit_at}
use Rattle.base_types.specs.Seal.{blocks_of}
use Rattle.layout_bitmap.specs.Bits.{bit_in, BitBecomes}

-- byte r of block q
abbrev byte_of : List (List ℕ) → ℕ → ℕ → ℕ
byte_of map q r = slice_index (slice_index_or map q []) r

-- the blocks after byte r of block q was written
abbrev written : List (List ℕ) → ℕ → ℕ → ℕ → List (List ℕ)
written map q r v = slice_set map q (slice_set (slice_index_or map q []) r v)

-- the byte is what was written
here : (map : List (List ℕ)) (q r v : ℕ) → q < length map → r < length (slice_index_or map q []) → byte_of (written map q r v) q r ≡ v
here map q r v low within =
    ap (λ block. slice_index block r) (get_or-set_same map q (slice_set (slice_index_or map q []) r v) [] low)
    ∙ get_or-set_same (slice_index_or map q []) r v 0 within

-- a byte of another block is as before
elsewhere : (map : List (List ℕ)) (q r v p s : ℕ) → p ≢ q → byte_of (written map q r v) p s ≡ byte_of map p s
elsewhere map q r v p s apart = ap (λ block. slice_index block s) (get_or-set_other map q p (slice_set (slice_index_or map q []) r v) [] apart)

-- another byte of the block is as before
beside : (map : List (List ℕ)) (q r v s : ℕ) → q < length map → s ≢ r → byte_of (written map q r v) q s ≡ byte_of map q s
beside map q r v s low apart =
    ap (λ block. slice_index block s) (get_or-set_same map q (slice_set (slice_index_or map q []) r v) [] low)
    ∙ get_or-set_other (slice_index_or map q []) r s v 0 apart

-- a byte was written in which bit b is as wanted and the others are as before
pub bit_becomes : (map : List (List ℕ)) (b v : ℕ) (bit : Bool) → b / 8192 < length map → b % 8192 / 8 < length (slice_index_or map (b / 8192) [])
    → (bit_at v (b % 8) == 1) ≡ bit → ((i : ℕ) → i < 8 → i ≢ b % 8 → bit_at v i ≡ bit_at (byte_of map (b / 8192) (b % 8192 / 8)) i)
    → BitBecomes (blocks_of map) (blocks_of (written map (b / 8192) (b % 8192 / 8) v)) b bit
bit_becomes map b v bit low within is others k = by (cases_eq k b) (cases_eq (k / 8192) (b / 8192)) (cases_eq (k % 8192 / 8) (b % 8192 / 8))
  where
    new : List (List ℕ)
    new = written map (b / 8192) (b % 8192 / 8) v

    old_is : k ≢ b → bit_in (blocks_of map) k ≡ (if k == b then bit else bit_in (blocks_of map) k)
    old_is apart = sym (cond-false (k == b) bit (bit_in (blocks_of map) k) (ne_eqb k b apart))

    by : (k ≡ b) ⊎ (k ≢ b) → (k / 8192 ≡ b / 8192) ⊎ (k / 8192 ≢ b / 8192) → (k % 8192 / 8 ≡ b % 8192 / 8) ⊎ (k % 8192 / 8 ≢ b % 8192 / 8)
        → bit_in (blocks_of new) k ≡ (if k == b then bit else bit_in (blocks_of map) k)
    by (inl e) _ _ =
        ap (bit_in (blocks_of new)) e ∙ ap (λ byte. bit_at byte (b % 8) == 1) (here map (b / 8192) (b % 8192 / 8) v low within) ∙ is
        ∙ sym (cond-true (k == b) bit (bit_in (blocks_of map) k) (eq-eqb k b e))
    by (inr d) (inr p) _ = ap (λ byte. bit_at byte (k % 8) == 1) (elsewhere map (b / 8192) (b % 8192 / 8) v (k / 8192) (k % 8192 / 8) p) ∙ old_is d
    by (inr d) (inl p) (inr s) =
        ap (λ q. bit_at (byte_of new q (k % 8192 / 8)) (k % 8) == 1) p
        ∙ ap (λ byte. bit_at byte (k % 8) == 1) (beside map (b / 8192) (b % 8192 / 8) v (k % 8192 / 8) low s)
        ∙ ap (λ q. bit_at (byte_of map q (k % 8192 / 8)) (k % 8) == 1) (sym p) ∙ old_is d
    by (inr d) (inl p) (inl s) =
        ap (λ q. bit_at (byte_of new q (k % 8192 / 8)) (k % 8) == 1) p
        ∙ ap (λ r. bit_at (byte_of new (b / 8192) r) (k % 8) == 1) s
        ∙ ap (λ byte. bit_at byte (k % 8) == 1) (here map (b / 8192) (b % 8192 / 8) v low within)
        ∙ ap (λ x. x == 1) (others (k % 8) (omega arith) (λ e. d (omega (arith, e, p, s))))
        ∙ ap (λ r. bit_at (byte_of map (b / 8192) r) (k % 8) == 1) (sym s)
        ∙ ap (λ q. bit_at (byte_of map q (k % 8192 / 8)) (k % 8) == 1) (sym p) ∙ old_is d
