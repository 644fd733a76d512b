-- An image that has the formatted disk's blocks before the data can be mounted: its first header is the newest, its journal is empty, and no bit is wrong.
use Rattle.std.proofs.Common.{◌≡◌, ◌⊎◌, inl, inr, ℕ, zero, suc, ◌+◌, ◌*◌, ◌/◌, ◌<◌, ◌≤◌, Bool, true, false, not, List, ◌&&◌, ◌||◌, nat_lt, nat_le, [], Some, None, replicate, refl, sym, ap, ◌∙◌, subst, arith}
use Rattle.std.proofs.lemmas.Bool.{cases_lt, lt-ltb, le-ltb, lt-leb}
use Rattle.std.proofs.lemmas.Nat.{mod_below}
use Rattle.std.proofs.lemmas.Option.{none-some, same_Some}
use Rattle.base_types.specs.Seal.{Blocks}
use Rattle.layout_geometry.specs.Geometry.{Geometry, IsGeometry, bitmap_blocks, bitmap_start, data_start, geometry_fits, ring_block}
use Rattle.layout_bytes.specs.Bitmap.{bit_in, is_set}
use Rattle.layout_bitmap.specs.Bits.{is_bad_bit}
use Rattle.layout_journal.specs.declared.header.Header.{Header}
use Rattle.layout_journal.specs.declared.entry.EntryKind.TheVariants.{Payload}
use Rattle.layout_journal.specs.Formatted.{empty_header, formatted}
use Rattle.layout_journal.specs.Layout.{commit_of, header_of, is_stored}
use Rattle.layout_journal.specs.Run.{IsRun, Newest}
use Rattle.layout_journal.specs.Spelling.{IsHeader, fits_in, header_block}
use Rattle.engine_recover.specs.Epoch.{IsGreatestEpoch, is_of_record}
use Rattle.cmd_session.specs.Images.{CanBeMounted}

-- What layout_journal says of the formatted disk, of the journal's blocks, and of those that may stand as a payload.
pub record EmptyLaws : Type 0 where
  pub bits : (g : Geometry) (b : ℕ) → geometry_fits g ≡ true → b < 8192 * bitmap_blocks g → is_set g (formatted g) b ≡ nat_lt b (data_start g)
  pub journal : (g : Geometry) (b : ℕ) → 0 < b → b < bitmap_start g → formatted g b ≡ replicate 1024 0
  pub reads : (h : Header) → IsHeader h → header_of h.geom.n (header_block h) ≡ Some h
  pub no_header : (n : ℕ) → header_of n (replicate 1024 0) ≡ None
  pub no_commit : (g : Geometry) → commit_of g (replicate 1024 0) ≡ None

-- a block of zeros is a payload as it is stored
pub zeros_are_stored : is_stored Payload (replicate 1024 0) ≡ true
unfolding is_stored
zeros_are_stored = refl

-- and begins as no block of a record
no_record : is_of_record (replicate 1024 0) ≡ false
no_record = refl

false-true : false ≡ true → ⊥
false-true e = cc

-- 0 and 1 have eight bytes at most
small : (x : ℕ) → x ≤ 1 → fits_in 8 x
small x low = omega arith

-- whether a bit is wrong: its block lies past the end, before the data, or below the bitmap's end, and this is its bit
abbrev bad : Bool → Bool → Bool → Bool → Bool
bad past before low bit = (before && not bit) || (past && (low && bit))

clear_is_good : (past low : Bool) → bad past false low false ≡ false
clear_is_good true true = refl
clear_is_good true false = refl
clear_is_good false low = refl

beyond_is_good : (past bit : Bool) → bad past false false bit ≡ false
beyond_is_good true bit = refl
beyond_is_good false bit = refl

module _ (laws : EmptyLaws) (g : Geometry) (fits : geometry_fits g ≡ true) (is : IsGeometry g) (at : Blocks) (like : (b : ℕ) → b < data_start g → at b ≡ formatted g b) where
  abbrev first : Header
  first = empty_header g 1 1

  writable : IsHeader first
  writable = record {
    epoch = small 1 (omega arith);
    turn = small 1 (omega arith);
    first = small 1 (omega arith);
    sure = small 0 (omega arith);
    epoch_from = omega arith;
    turn_from = omega arith;
    start_from = omega arith;
    start_upto = omega arith;
    at = omega (arith, is.least_journal);
    geom = fits;
  }

  -- before the bitmap all is zeros but the first header
  zeros : (b : ℕ) → 0 < b → b < bitmap_start g → at b ≡ replicate 1024 0
  zeros b some low = like b (omega (arith, low)) ∙ laws.journal g b some low

  in_ring : (p : ℕ) → ring_block g p < bitmap_start g
  in_ring p = omega (arith, mod_below p g.j (omega (arith, is.least_journal)))

  on_ring : (p : ℕ) → at (ring_block g p) ≡ replicate 1024 0
  on_ring p = zeros (ring_block g p) (omega arith) (in_ring p)

  stands : header_of g.n (at 0) ≡ Some first
  stands = ap (header_of g.n) (like 0 (omega arith)) ∙ laws.reads first writable

  beside : (h : Header) → header_of g.n (at 1) ≡ Some h → ⊥
  beside h e = none-some _ (sym (laws.no_header g.n) ∙ sym (ap (header_of g.n) (zeros 1 (omega arith) (omega arith))) ∙ e)

  newest : Newest g.n at 0 first
  newest = record { is_slot = omega arith; stands = stands; other = λ k e. absurd (beside k e) }

  is_run : IsRun at first []
  is_run = record {
    consecutive = tt;
    whole = tt;
    let_in = tt;
    within = omega arith;
    longest = λ r can. absurd (none-some _ (sym (laws.no_commit g) ∙ sym (ap (commit_of g) (on_ring r.place)) ∙ can.whole.commit));
  }

  in_slot : (slot : ℕ) (h : Header) → slot < 2 → header_of g.n (at slot) ≡ Some h → h.epoch ≤ 1
  in_slot zero h low e = subst (λ (k : Header). k.epoch ≤ 1) (same_Some _ _ (sym stands ∙ e)) (omega arith)
  in_slot (suc zero) h low e = absurd (beside h e)
  in_slot (suc (suc k)) h low e = absurd (omega (arith, low))

  greatest : IsGreatestEpoch g at 1
  greatest = record {
    headers = λ a has. subst (λ (e : ℕ). e ≤ 1) has.4 (in_slot has.0 has.1 has.2 has.3);
    blocks = λ a has. absurd (false-true (sym no_record ∙ sym (ap is_of_record (on_ring has.0)) ∙ has.2));
    is_one = inr (inl (0, first, omega arith, stands, refl));
  }

  -- the bit of each number is that of the formatted disk
  bit_is : (b : ℕ) → b < 8192 * bitmap_blocks g → is_set g at b ≡ nat_lt b (data_start g)
  bit_is b low = same (like (bitmap_start g + b / 8192) (omega (arith, low))) ∙ laws.bits g b fits low
    where
      same : at (bitmap_start g + b / 8192) ≡ formatted g (bitmap_start g + b / 8192) → is_set g at b ≡ is_set g (formatted g) b
      same e = ap (λ (block : List ℕ). bit_in (λ k. block) b) e

  no_bad : (b : ℕ) → is_bad_bit g (λ k. at (bitmap_start g + k)) b ≡ false
  no_bad b = by (cases_lt b (8192 * bitmap_blocks g)) (cases_lt b (data_start g))
    where
      by : (b < 8192 * bitmap_blocks g) ⊎ (8192 * bitmap_blocks g ≤ b) → (b < data_start g) ⊎ (data_start g ≤ b) → bad (nat_le g.n b) (nat_lt b (data_start g)) (nat_lt b (8192 * bitmap_blocks g)) (is_set g at b) ≡ false
      by (inl low) (inl before) =
          ap (λ (t : Bool). bad t (nat_lt b (data_start g)) (nat_lt b (8192 * bitmap_blocks g)) (is_set g at b)) (lt-leb g.n b (omega (arith, before, is.data_room)))
          ∙ ap (λ (t : Bool). bad false t (nat_lt b (8192 * bitmap_blocks g)) (is_set g at b)) (lt-ltb b (data_start g) before)
          ∙ ap (bad false true (nat_lt b (8192 * bitmap_blocks g))) (bit_is b low ∙ lt-ltb b (data_start g) before)
      by (inl low) (inr from) =
          ap (λ (t : Bool). bad (nat_le g.n b) t (nat_lt b (8192 * bitmap_blocks g)) (is_set g at b)) (le-ltb b (data_start g) from)
          ∙ ap (bad (nat_le g.n b) false (nat_lt b (8192 * bitmap_blocks g))) (bit_is b low ∙ le-ltb b (data_start g) from)
          ∙ clear_is_good (nat_le g.n b) (nat_lt b (8192 * bitmap_blocks g))
      by (inr past) before =
          ap (λ (t : Bool). bad (nat_le g.n b) t (nat_lt b (8192 * bitmap_blocks g)) (is_set g at b)) (le-ltb b (data_start g) (omega (arith, past, is.data_room)))
          ∙ ap (λ (t : Bool). bad (nat_le g.n b) false t (is_set g at b)) (le-ltb b (8192 * bitmap_blocks g) past)
          ∙ beyond_is_good (nat_le g.n b) (is_set g at b)

  pub mountable : CanBeMounted g.n at
  mountable = record {
    found = record { run = record { slot = 0; header = first; records = [] }; epoch = 1 };
    left = record { is_found = record { is_found = record { newest = newest; is_run = is_run }; is_greatest = greatest }; going = refl; epoch = omega arith };
    no_bad = no_bad;
  }
