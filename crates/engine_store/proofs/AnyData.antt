-- An image that has the formatted disk's blocks before the data, whatever is in the data.
use Rattle.std.proofs.Common.{◌≡◌, inl, inr, ℕ, ◌+◌, ◌*◌, ◌/◌, ◌%◌, ◌<◌, ◌≤◌, ◌==◌, ◌&&◌, ◌||◌, Bool, true, false, nat_lt, nat_le, if◌then◌else◌, List, [], replicate, get_or, Some, None, sym, refl, ap, ap₂, subst, ◌∙◌, arith}
use Rattle.std.proofs.lemmas.Bool.{cases_Bool, ltb-true, ltb-false, lt-ltb, le-ltb}
use Rattle.std.proofs.lemmas.Nat.{mod_below}
use Rattle.std.proofs.lemmas.Option.{none-some}
use Rattle.std.specs.Int.{bit_at}
use Rattle.base_types.specs.Seal.{Blocks, is_sealed}
use Rattle.layout_geometry.specs.Geometry.{Geometry, IsGeometry, geometry_fits, bitmap_start, bitmap_blocks, data_start, ring_block}
use Rattle.layout_bytes.specs.Bytes.{when}
use Rattle.layout_bytes.specs.Bitmap.{is_set}
use Rattle.layout_journal.specs.declared.header.Header.{Header}
use Rattle.layout_journal.specs.declared.record.Commit.{Commit}
use Rattle.layout_journal.specs.Layout.{header_of, commit_of}
use Rattle.layout_journal.specs.Spelling.{header_block, IsHeader, fits_in}
use Rattle.layout_journal.specs.Run.{Newest, Record, CanFollow, HeldIs, live_part}
use Rattle.layout_journal.specs.Formatted.{formatted, empty_header}
use Rattle.lang_tree.specs.Step.{start}
use Rattle.crash_stands.specs.Bounds.{bounds_of}
use Rattle.crash_stands.specs.Stands.{IsTreeOf, StandsFor}

-- what layout_journal promises of the formatted disk's bits and journal
pub record IsFormatted (g : Geometry) : Type 0 where
  pub bits : (b : ℕ) → b < 8192 * bitmap_blocks g → is_set g (formatted g) b ≡ nat_lt b (data_start g)
  pub journal : (b : ℕ) → 0 < b → b < bitmap_start g → formatted g b ≡ replicate 1024 0

-- nothing is there behind a test where nothing was before it
nothing_behind : {A : Type 0} (t : Bool) (y : A) → when t None ≡ Some y → ⊥
nothing_behind true y e = none-some y e
nothing_behind false y e = none-some y e

-- zeros read as no header: the first of them is no letter
zeros_no_header : (n : ℕ) (h : Header) → header_of n (replicate 1024 0) ≡ Some h → ⊥
unfolding header_of
zeros_no_header n h e = nothing_behind (is_sealed (replicate 1024 0)) h e

-- zeros read as no commit block
zeros_no_commit : (g : Geometry) (c : Commit) → commit_of g (replicate 1024 0) ≡ Some c → ⊥
unfolding commit_of
zeros_no_commit g c e = nothing_behind (is_sealed (replicate 1024 0)) c e

-- 0 and 1 have eight bytes at most
small : (x : ℕ) → x ≤ 1 → fits_in 8 x
small x low = omega arith

can_be_written : (g : Geometry) → geometry_fits g ≡ true → IsGeometry g → IsHeader (empty_header g 1 1)
can_be_written g fits is = record {
  epoch = small 1 (omega arith);
  turn = small 1 (omega arith);
  first = small 1 (omega arith);
  sure = small 0 (omega arith);
  epoch_from = omega arith;
  turn_from = omega arith;
  start_from = omega arith;
  start_upto = omega arith;
  at = omega (arith, is.least_journal);
  geom = fits;
}

-- a live block by its tests
abbrev live_by : Bool → Bool → Bool → Bool → List ℕ → List ℕ
live_by from below early set x = if from && (below && (early || set)) then x else []

-- a block past the disk's end isn't live
past_end : (from early set : Bool) (x : List ℕ) → live_by from false early set x ≡ []
past_end from early set x = grind arith

-- nor is one of the data that isn't set
not_set : (from below : Bool) (x : List ℕ) → live_by from below false false x ≡ []
not_set from below x = grind arith

module _ (g : Geometry) (is : IsGeometry g) (law : IsFormatted g) where
  -- in blocks that are the formatted disk's before the data, a bit is set exactly where it stands for a block before the data
  bits : (m : Blocks) → ((b : ℕ) → b < data_start g → m b ≡ formatted g b) → (b : ℕ) → b < 8192 * bitmap_blocks g → is_set g m b ≡ nat_lt b (data_start g)
  bits m same b within =
      ap (λ x. bit_at (get_or x (b % 8192 / 8) 0) (b % 8) == 1) (same (bitmap_start g + b / 8192) (omega (arith, within)))
      ∙ law.bits b within

  -- so a block of the data isn't live
  dead : (m : Blocks) → ((b : ℕ) → b < data_start g → m b ≡ formatted g b) → (b : ℕ) → data_start g ≤ b → live_part g m b ≡ []
  dead m same b low = elim (cases_Bool (nat_lt b g.n)) [
    | inl below ↦
        ap₂ (λ early set. live_by (nat_le (bitmap_start g) b) (nat_lt b g.n) early set (m b)) (le-ltb b (data_start g) low)
        (bits m same b (omega (arith, is.data_room, ltb-true _ _ below)) ∙ le-ltb b (data_start g) low)
        ∙ not_set (nat_le (bitmap_start g) b) (nat_lt b g.n) (m b)
    | inr past ↦
        ap (λ below. live_by (nat_le (bitmap_start g) b) below (nat_lt b (data_start g)) (is_set g m b) (m b)) past
        ∙ past_end (nat_le (bitmap_start g) b) (nat_lt b (data_start g)) (is_set g m b) (m b)
  ]

  -- and one before it is live where the formatted disk's is
  early : (m : Blocks) → ((b : ℕ) → b < data_start g → m b ≡ formatted g b) → (b : ℕ) → b < data_start g → live_part g m b ≡ live_by (nat_le (bitmap_start g) b) (nat_lt b g.n) true true (formatted g b)
  early m same b low =
      ap₂ (λ t x. live_by (nat_le (bitmap_start g) b) (nat_lt b g.n) t (is_set g m b) x) (lt-ltb b (data_start g) low) (same b low)

  -- so both have the same live blocks
  same_live : (img : Blocks) → ((b : ℕ) → b < data_start g → img b ≡ formatted g b) → (b : ℕ) → live_part g (formatted g) b ≡ live_part g img b
  same_live img same b = elim (cases_Bool (nat_lt b (data_start g))) [
    | inl low ↦ early (formatted g) (λ c high. refl) b (ltb-true _ _ low) ∙ sym (early img same b (ltb-true _ _ low))
    | inr high ↦ dead (formatted g) (λ c low. refl) b (ltb-false _ _ high) ∙ sym (dead img same b (ltb-false _ _ high))
  ]

  -- the first header is the newest, since slot 1 has zeros
  newest : geometry_fits g ≡ true → ((h : Header) → IsHeader h → header_of h.geom.n (header_block h) ≡ Some h) → (img : Blocks) → ((b : ℕ) → b < data_start g → img b ≡ formatted g b) → Newest g.n img 0 (empty_header g 1 1)
  newest fits reads img same = record {
    is_slot = omega arith;
    stands = ap (header_of g.n) (same 0 (omega (arith, is.least_journal))) ∙ reads (empty_header g 1 1) (can_be_written g fits is);
    other = λ k e. absurd (zeros_no_header g.n k (sym (ap (header_of g.n) (same 1 (omega (arith, is.least_journal)) ∙ law.journal 1 (omega arith) (omega (arith, is.least_journal)))) ∙ e));
  }

  -- and no record begins in the ring, which has zeros
  none_follows : (img : Blocks) → ((b : ℕ) → b < data_start g → img b ≡ formatted g b) → (r : Record) → CanFollow img (empty_header g 1 1) [] r → ⊥
  none_follows img same r f =
      let within : ring_block g r.place < bitmap_start g = omega (arith, mod_below r.place g.j (omega (arith, is.least_journal))) in
      zeros_no_commit g _ (sym (ap (commit_of g) (same (ring_block g r.place) (omega (arith, within)) ∙ law.journal (ring_block g r.place) (omega arith) within)) ∙ f.whole.commit)

  -- so it holds the formatted disk's live blocks
  pub held_whatever : geometry_fits g ≡ true → ((h : Header) → IsHeader h → header_of h.geom.n (header_block h) ≡ Some h) → (img : Blocks) → ((b : ℕ) → b < data_start g → img b ≡ formatted g b)
      → (held : HeldIs g.n img (live_part g (formatted g))) × (held.header.geom ≡ g)
  held_whatever fits reads img same = (
    record {
      slot = 0;
      header = empty_header g 1 1;
      run = [];
      newest = newest fits reads img same;
      is_run = record { consecutive = tt; whole = tt; let_in = tt; within = omega arith; longest = none_follows img same };
      each = same_live img same;
    },
    refl,
  )

  -- and stands for the tree that the formatted disk's live blocks stand for
  pub stands_whatever : geometry_fits g ≡ true → ((h : Header) → IsHeader h → header_of h.geom.n (header_block h) ≡ Some h) → IsTreeOf g (live_part g (formatted g)) (start (bounds_of g)).tree
      → (img : Blocks) → ((b : ℕ) → b < data_start g → img b ≡ formatted g b) → StandsFor g.n img (start (bounds_of g)).tree
  stands_whatever fits reads tree img same =
      let held = held_whatever fits reads img same in
      record { map = live_part g (formatted g); held = held.0; tree = subst (λ k. IsTreeOf k (live_part g (formatted g)) (start (bounds_of g)).tree) (sym held.1) tree }
