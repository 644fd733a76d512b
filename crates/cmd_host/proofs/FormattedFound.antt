-- What a search finds on a disk that was just formatted: the first header, no record, no epoch above the first, and no wrong bit.
use Rattle.std.proofs.Common.{◌≡◌, ◌⊎◌, inl, inr, ℕ, zero, suc, ◌+◌, ◌*◌, ◌/◌, ◌%◌, ◌<◌, ◌≤◌, ◌==◌, ◌&&◌, ◌||◌, not, nat_lt, nat_le, Bool, true, false, List, [], length, get_or, replicate, Some, None, refl, sym, ap, ap₂, ◌∙◌, subst, arith}
use Rattle.std.proofs.lemmas.Bool.{ltb-true, lt-leb, true≢false}
use Rattle.std.proofs.lemmas.Nat.{mod_below}
use Rattle.std.proofs.lemmas.Option.{none-some, same_Some}
use Rattle.std.specs.Int.{bit_at}
use Rattle.base_types.specs.Seal.{Blocks}
use Rattle.layout_geometry.specs.Geometry.{Geometry, IsGeometry, bitmap_start, bitmap_blocks, data_start, ring_block}
use Rattle.layout_bytes.specs.Bitmap.{is_set}
use Rattle.layout_bitmap.specs.Bits.{is_bad_bit}
use Rattle.layout_journal.specs.declared.entry.EntryKind.TheVariants.{Payload}
use Rattle.layout_journal.specs.declared.header.Header.{Header}
use Rattle.layout_journal.specs.Layout.{header_of, commit_of, is_stored}
use Rattle.layout_journal.specs.Run.{Newest, Record, IsRun, CanFollow, replayed}
use Rattle.layout_journal.specs.Formatted.{formatted, empty_header}
use Rattle.engine_recover.specs.Epoch.{IsGreatestEpoch, IsHeaderEpoch, IsRecordEpoch, is_of_record}
use Rattle.engine_recover.specs.Search.{FoundRun, IsFound, is_spent}
use Rattle.engine_mount.specs.Mount.{IsUsedUp}

-- what laws of other crates say of a geometry's formatted disk, and of headers, runs and zeros
pub record HasLaws (g : Geometry) : Type 0 where
  pub limits : IsGeometry g
  pub bits : (b : ℕ) → b < 8192 * bitmap_blocks g → is_set g (formatted g) b ≡ nat_lt b (data_start g)
  pub journal : (b : ℕ) → 0 < b → b < bitmap_start g → formatted g b ≡ replicate 1024 0
  pub newest : Newest g.n (formatted g) 0 (empty_header g 1 1)
  pub one_header : (img : Blocks) (s t : ℕ) (h k : Header) → Newest g.n img s h → Newest g.n img t k → (s ≡ t) × (h ≡ k)
  pub one_run : (img : Blocks) (h : Header) (rs qs : List Record) → IsRun img h rs → IsRun img h qs → rs ≡ qs
  pub no_header : header_of g.n (replicate 1024 0) ≡ None
  pub no_commit : commit_of g (replicate 1024 0) ≡ None

-- zeros are a payload as it is stored, so they read as no block of the journal
pub zeros_are_stored : is_stored Payload (replicate 1024 0) ≡ true
unfolding is_stored
zeros_are_stored = refl

-- nor do they begin as a block of a record does
zeros_no_record : is_of_record (replicate 1024 0) ≡ true → ⊥
zeros_no_record e = true≢false (sym e)

-- in what follows, the blocks of a disk are the formatted ones
module _ (g : Geometry) (laws : HasLaws g) (at : Blocks) (same : (b : ℕ) → b < g.n → at b ≡ formatted g b) where
  slot_beside : at 1 ≡ replicate 1024 0
  slot_beside = same 1 (omega (arith, laws.limits.least_blocks)) ∙ laws.journal 1 (omega arith) (omega arith)

  ring_zeros : (place : ℕ) → at (ring_block g place) ≡ replicate 1024 0
  ring_zeros place =
      let within : ring_block g place < bitmap_start g = omega (arith, mod_below place g.j (omega (arith, laws.limits.least_journal))) in
      same (ring_block g place) (omega (arith, within, laws.limits.data_room)) ∙ laws.journal (ring_block g place) (omega arith) within

  first_newest : Newest g.n at 0 (empty_header g 1 1)
  first_newest = record {
    is_slot = omega arith;
    stands = ap (header_of g.n) (same 0 (omega (arith, laws.limits.least_blocks))) ∙ laws.newest.stands;
    other = λ k is. absurd (none-some k (sym laws.no_header ∙ sym (ap (header_of g.n) slot_beside) ∙ is));
  }

  none_follows : (r : Record) → CanFollow at (empty_header g 1 1) [] r → ⊥
  none_follows r can = none-some _ (sym laws.no_commit ∙ sym (ap (commit_of g) (ring_zeros r.place)) ∙ can.whole.commit)

  empty_run : IsRun at (empty_header g 1 1) []
  empty_run = record { consecutive = tt; whole = tt; let_in = tt; within = omega arith; longest = none_follows }

  -- what is found is the first header, and no record
  pub found_header : (r : FoundRun) → IsFound g.n at r → r.header ≡ empty_header g 1 1
  found_header r is = (laws.one_header at r.slot 0 r.header (empty_header g 1 1) is.newest first_newest).1

  pub found_records : (r : FoundRun) → IsFound g.n at r → r.records ≡ []
  found_records r is = laws.one_run at (empty_header g 1 1) r.records [] (subst (λ (h : Header). IsRun at h r.records) (found_header r is) is.is_run) empty_run

  -- there is a newest header
  pub has_header : ((slot : ℕ) (h : Header) → Newest g.n at slot h → ⊥) → ⊥
  has_header none = none 0 (empty_header g 1 1) first_newest

  -- no number is at its end
  not_spent : (r : FoundRun) → IsFound g.n at r → is_spent r.header (length r.records) ≡ true → ⊥
  not_spent r is spent = true≢false (sym (sym (ap₂ (λ (h : Header) (rs : List Record). is_spent h (length rs)) (found_header r is) (found_records r is)) ∙ spent))

  pub header_epoch : (slot : ℕ) (h : Header) → slot < 2 → header_of g.n (at slot) ≡ Some h → h.epoch ≤ 1
  header_epoch zero h low is = subst (λ (k : Header). k.epoch ≤ 1) (same_Some _ _ (sym first_newest.stands ∙ is)) (omega arith)
  header_epoch (suc zero) h low is = absurd (none-some h (sym laws.no_header ∙ sym (ap (header_of g.n) slot_beside) ∙ is))
  header_epoch (suc (suc slot)) h low is = absurd (omega (arith, low))

  pub low_epoch : (e : ℕ) → (e ≡ 0) ⊎ (IsHeaderEpoch g at e ⊎ IsRecordEpoch g at e) → e ≤ 1
  low_epoch e (inl none) = omega (arith, none)
  low_epoch e (inr (inl (slot, h, low, stands, is))) = omega (arith, is, header_epoch slot h low stands)
  low_epoch e (inr (inr (place, low, begins, is))) = absurd (zeros_no_record (sym (ap is_of_record (ring_zeros place)) ∙ begins))

  -- the first header's epoch is one
  pub first_epoch : (e : ℕ) → IsGreatestEpoch g at e → 1 ≤ e
  first_epoch e greatest = greatest.headers 1 (0, empty_header g 1 1, omega arith, first_newest.stands, refl)

  epoch_not_spent : (r : FoundRun) (e : ℕ) → IsFound g.n at r → IsGreatestEpoch r.header.geom at e → 9223372036854775792 ≤ e → ⊥
  epoch_not_spent r e is greatest end =
      let here : IsGreatestEpoch g at e = subst (λ (h : Header). IsGreatestEpoch h.geom at e) (found_header r is) greatest in
      omega (arith, low_epoch e here.is_one, end)

  pub not_used_up : IsUsedUp g.n at → ⊥
  not_used_up u = by u.at_end
    where
      by : (is_spent u.found.header (length u.found.records) ≡ true) ⊎ ((greatest : ℕ) × IsGreatestEpoch u.found.header.geom at greatest × (9223372036854775792 ≤ greatest)) → ⊥
      by (inl spent) = not_spent u.found u.is_found spent
      by (inr (e, greatest, end)) = epoch_not_spent u.found e u.is_found greatest end

  -- a bit is set exactly where it stands for a block before the data
  bits : (b : ℕ) → b < 8192 * bitmap_blocks g → is_set g at b ≡ nat_lt b (data_start g)
  bits b within =
      ap (λ x. bit_at (get_or x (b % 8192 / 8) 0) (b % 8) == 1) (same (bitmap_start g + b / 8192) (omega (arith, within, laws.limits.data_room)))
      ∙ laws.bits b within

  -- none of them is wrong
  bad_by : (b : ℕ) (early set within : Bool) → nat_lt b (data_start g) ≡ early → is_set g at b ≡ set → nat_lt b (8192 * bitmap_blocks g) ≡ within
      → ((early && not set) || (nat_le g.n b && (within && set))) ≡ true → ⊥
  bad_by b true set within e f w bad = by (bits b (omega (arith, ltb-true b (data_start g) e, laws.limits.data_room)) ∙ e)
    where
      late : nat_le g.n b ≡ false
      late = lt-leb g.n b (omega (arith, ltb-true b (data_start g) e, laws.limits.data_room))

      by : is_set g at b ≡ true → ⊥
      by is = true≢false (sym (sym (ap₂ (λ t u. (true && not t) || (u && (within && t))) (sym f ∙ is) late) ∙ bad))
  bad_by b false set true e f w bad =
      let clear : set ≡ false = sym f ∙ bits b (ltb-true b (8192 * bitmap_blocks g) w) ∙ e in
      true≢false (sym (sym (ap (λ t. (false && not t) || (nat_le g.n b && (true && t))) clear ∙ none (nat_le g.n b)) ∙ bad))
    where
      none : (t : Bool) → (t && false) ≡ false
      none true = refl
      none false = refl
  bad_by b false set false e f w bad = true≢false (sym (sym (none (nat_le g.n b)) ∙ bad))
    where
      none : (t : Bool) → (t && false) ≡ false
      none true = refl
      none false = refl

  pub no_bad_bit : (r : FoundRun) (b : ℕ) → IsFound g.n at r → is_bad_bit r.header.geom (λ k. replayed r.header.geom at r.records (bitmap_start r.header.geom + k)) b ≡ true → ⊥
  no_bad_bit r b is bad =
      bad_by b (nat_lt b (data_start g)) (is_set g at b) (nat_lt b (8192 * bitmap_blocks g)) refl refl refl
      (sym (ap₂ (λ (h : Header) (rs : List Record). is_bad_bit h.geom (λ k. replayed h.geom at rs (bitmap_start h.geom + k)) b) (found_header r is) (found_records r is)) ∙ bad)
