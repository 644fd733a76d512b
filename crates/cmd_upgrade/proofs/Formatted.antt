-- An image of the formatted disk has one header, in the first slot, and that has the disk's geometry; and no record.
use Rattle.std.proofs.Common.{◌≡◌, ℕ, zero, suc, ◌<◌, ◌≤◌, true, List, [], ◌∷◌, length, Some, None, replicate, refl, sym, ap, ◌∙◌, subst, arith}
use Rattle.std.proofs.lemmas.Nat.{mod_below}
use Rattle.std.proofs.lemmas.Option.{none-some, same_Some}
use Rattle.base_types.specs.Seal.{Blocks}
use Rattle.layout_geometry.specs.Geometry.{Geometry, IsGeometry, bitmap_start, geometry_fits, ring_block}
use Rattle.layout_journal.specs.declared.header.Header.{Header}
use Rattle.layout_journal.specs.declared.entry.EntryKind.TheVariants.{Payload}
use Rattle.layout_journal.specs.Formatted.{empty_header, formatted}
use Rattle.layout_journal.specs.Layout.{commit_of, header_of, is_stored}
use Rattle.layout_journal.specs.Run.{AreWhole, IsRun, Newest, Record}
use Rattle.layout_journal.specs.Spelling.{IsHeader, fits_in, header_block}
use Rattle.engine_recover.specs.Search.{last_number}

-- a block of zeros is a payload as it is stored
pub zeros_are_stored : is_stored Payload (replicate 1024 0) ≡ true
unfolding is_stored
zeros_are_stored = refl

-- 0 and 1 have eight bytes at most
small : (x : ℕ) → x ≤ 1 → fits_in 8 x
small x low = omega arith

module _ (g : Geometry) (fits : geometry_fits g ≡ true) (is : IsGeometry g) (img : Blocks) (like : (b : ℕ) → b < g.n → img b ≡ formatted g b)
    (journal : (b : ℕ) → 0 < b → b < bitmap_start g → formatted g b ≡ replicate 1024 0) (reads : (h : Header) → IsHeader h → header_of h.geom.n (header_block h) ≡ Some h)
    (no_header : (n : ℕ) → header_of n (replicate 1024 0) ≡ None) where
  abbrev only : Header
  only = empty_header g 1 1

  writable : IsHeader only
  writable = record {
    epoch = small 1 (omega arith);
    turn = small 1 (omega arith);
    first = small 1 (omega arith);
    sure = small 0 (omega arith);
    epoch_from = omega arith;
    turn_from = omega arith;
    start_from = omega arith;
    start_upto = omega arith;
    at = omega (arith, is.least_journal);
    geom = fits;
  }

  stands : header_of g.n (img 0) ≡ Some only
  stands = ap (header_of g.n) (like 0 (omega (arith, is.least_blocks))) ∙ reads only writable

  none : header_of g.n (img 1) ≡ None
  none = ap (header_of g.n) (like 1 (omega (arith, is.least_blocks)) ∙ journal 1 (omega arith) (omega arith)) ∙ no_header g.n

  is_only : (slot : ℕ) (h : Header) → Newest g.n img slot h → h ≡ only
  is_only zero h newest = sym (same_Some only h (sym stands ∙ newest.stands))
  is_only (suc zero) h newest = absurd (none-some h (sym none ∙ newest.stands))
  is_only (suc (suc k)) h newest = absurd (omega (arith, newest.is_slot))

  pub has_geometry : (slot : ℕ) (h : Header) → Newest g.n img slot h → h.geom ≡ g
  has_geometry slot h newest = ap (λ (k : Header). k.geom) (is_only slot h newest)

  -- the ring is empty
  zeros : (p : ℕ) → img (ring_block g p) ≡ replicate 1024 0
  zeros p =
      let low = mod_below p g.j (omega (arith, is.least_journal)) in
      like (ring_block g p) (omega (arith, low, is.data_room)) ∙ journal (ring_block g p) (omega arith) (omega (arith, low))

  no_record : (no_commit : commit_of g (replicate 1024 0) ≡ None) (rs : List Record) → AreWhole img only rs → length rs ≡ 0
  no_record no_commit [] whole = refl
  no_record no_commit (r ∷ rs) whole = absurd (none-some _ (sym no_commit ∙ sym (ap (commit_of g) (zeros r.place)) ∙ whole.0.commit))

  -- so the journal's numbers begin
  pub begins : (no_commit : commit_of g (replicate 1024 0) ≡ None) (slot : ℕ) (h : Header) (rs : List Record) → Newest g.n img slot h → IsRun img h rs → (h.turn ≡ 1) × (last_number h (length rs) ≡ 0)
  begins no_commit slot h rs newest run =
      let same = is_only slot h newest in
      let none = no_record no_commit rs (subst (λ (k : Header). AreWhole img k rs) same run.whole) in (
        ap (λ (k : Header). k.turn) same,
        omega (arith, none, ap (λ (k : Header). k.start) same),
      )
