-- The first record may follow on the formatted disk, and it frees no block.
use Rattle.std.proofs.Common.{◌≡◌, ◌≢◌, inl, inr, ℕ, zero, suc, ◌<◌, ◌≤◌, ◌==◌, if◌then◌else◌, Bool, true, false, IsTrue, List, [], ◌∷◌, Some, None, slice_get, refl, sym, ◌∙◌, ap, subst, arith}
use Rattle.std.proofs.lemmas.Bool.{ne_eqb, eq-eqb, eqb-true, eqb-false, cond-true, cond-false}
use Rattle.std.proofs.lemmas.Option.{same_Some}
use Rattle.base_types.specs.Seal.{Blocks, sha256}
use Rattle.disk_contract.specs.Cell.{Cell}
use Rattle.layout_bytes.specs.Bitmap.{first_bits_block}
use Rattle.layout_journal.specs.declared.header.Header.{Header}
use Rattle.layout_journal.specs.declared.entry.Entry.{Entry}
use Rattle.layout_journal.specs.declared.entry.EntryKind.TheVariants.{Fresh}
use Rattle.layout_journal.specs.Run.{is_live}
use Rattle.layout_journal.specs.Formatted.{empty_header, formatted}
use Rattle.crash_example.specs.FirstRecord.{least, first_bitmap, first_says, first_record, first_map}
use Rattle.crash_argument.specs.Ledger.{Ledger, IsSpelled, IsStanding, latest, block_at, payload_in}
use Rattle.crash_argument.specs.LastWrites.{IsDead}
use Rattle.crash_argument.specs.Points.{ledger_at_mount}
use Rattle.crash_argument.specs.PipelineData.{AreFreed}
use Rattle.crash_argument.specs.Recording.{IsNextRecord}
use Rattle.crash_example.proofs.FirstBitmap.{live_before, dead_before, live_between, live_after, lived_before}

-- the formatted bitmap has the bits of the blocks before the data
bitmap_stands : formatted least 18 ≡ first_bits_block 23 0
bitmap_stands = refl

-- after the record the bitmap block is its payload
paid_block : (x : List ℕ) (b : ℕ) → 18 ≡ b → first_map x b ≡ first_bitmap
paid_block x b at = cond-true (b == 18) first_bitmap (if b == 23 then x else formatted least b) (eq-eqb b 18 (sym at))

-- and a block for which it has no entry is as it was
other_block : (x : List ℕ) (b : ℕ) → 18 ≢ b → 23 ≢ b → first_map x b ≡ formatted least b
other_block x b apart other =
    cond-false (b == 18) first_bitmap (if b == 23 then x else formatted least b) (ne_eqb b 18 (λ e. apart (sym e)))
    ∙ cond-false (b == 23) x (formatted least b) (ne_eqb b 23 (λ e. other (sym e)))

-- what a choice that came out so was
chosen : (t : Bool) (x y : List ℕ) → (if t then Some x else None) ≡ Some y → (t ≡ true) × (x ≡ y)
chosen true x y e = (refl, cc)
chosen false x y e = cc

-- and of one that came out as nothing
not_chosen : (t : Bool) (x : List ℕ) → (if t then Some x else None) ≡ None → t ≡ false
not_chosen true x e = cc
not_chosen false x e = refl

-- a test that names nothing fails
not_named : (t : Bool) → (if t then true else false) ≡ false → t ≡ false
not_named true e = cc
not_named false e = refl

module _ (cells : ℕ → Cell) (same : (b : ℕ) → 1 ≢ b → latest (cells b) ≡ formatted least b) (x : List ℕ) where
  -- the ledger after the first mount
  abbrev l : Ledger
  l = ledger_at_mount cells least 1 (empty_header least 2 2)

  -- the entry of the fresh block
  abbrev fresh_entry : Entry
  fresh_entry = record { block = 23; kind = Fresh; digest = sha256 x }

  -- what was written last in each block
  abbrev before : Blocks
  before b = latest (cells b)

  -- the bitmap block is still the formatted one
  bitmap_before : before 18 ≡ first_bits_block 23 0
  bitmap_before = same 18 (λ e. omega arith) ∙ bitmap_stands

  -- the first record frees no block
  pub first_frees : AreFreed l (first_record x) (first_map x) []
  first_frees b from live dead = absurd (omega (arith, live_before before bitmap_before b live))

  -- its fresh block
  by_fresh : (P : ℕ → Entry → Type 0) → P 0 fresh_entry → (i : ℕ) (e : Entry) → slice_get (first_says x).fresh i ≡ Some e → P i e
  by_fresh P h zero e is = subst (P 0) (same_Some _ _ is) h
  by_fresh P h (suc i) e is = cc

  -- so it is the next record, where its blocks are spelled as it says
  pub first_next : IsSpelled least 2 (first_record x) → IsNextRecord l (first_record x) (first_map x)
  first_next spelled = record {
    number = refl;
    not_closed = open_header;
    place = refl;
    within = omega arith;
    spelled = spelled;
    dead = by_fresh (λ i e. IsDead l e.block) (λ n low high. dead_before before bitmap_before 23 (omega arith));
    live = by_fresh (λ i e. IsTrue (is_live least (first_map x) e.block)) (live_after (first_map x) refl);
    paid = paid;
    paid_live = paid_live;
    laid = by_fresh (λ i e. first_map x e.block ≡ block_at (x ∷ []) i) refl;
    same = λ b unpaid unnamed. rest b (eqb-false 18 b (not_chosen (18 == b) first_bitmap unpaid)) (eqb-false 23 b (not_named (23 == b) unnamed));
  }
    where
      open_header : (h : Header) → IsStanding l h → h.closed ≡ false
      open_header h (inl e) = ap (λ (k : Header). k.closed) e
      open_header h (inr e) = cc

      paid : (b : ℕ) (y : List ℕ) → payload_in (first_record x) b ≡ Some y → first_map x b ≡ y
      paid b y is =
          let at = chosen (18 == b) first_bitmap y is in
          paid_block x b (eqb-true 18 b at.0) ∙ at.1

      paid_live : (b : ℕ) (y : List ℕ) → payload_in (first_record x) b ≡ Some y → IsTrue (is_live least (first_map x) b)
      paid_live b y is = subst (λ (d : ℕ). IsTrue (is_live least (first_map x) d)) (eqb-true 18 b (chosen (18 == b) first_bitmap y is).0) refl

      rest : (b : ℕ) → 18 ≢ b → 23 ≢ b → IsTrue (is_live least (first_map x) b) → IsTrue (is_live least before b) × (first_map x b ≡ before b)
      rest b apart other live =
          let there = lived_before (first_map x) refl b (λ e. other (sym e)) live in
          (live_between before b there.0 there.1, other_block x b apart other ∙ sym (same b (λ e. omega (arith, there.0))))
