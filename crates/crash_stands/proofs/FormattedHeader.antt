-- The header of a formatted disk has the geometry that it was formatted with.
use Rattle.std.proofs.Common.{◌≡◌, ℕ, zero, suc, ◌<◌, ◌≤◌, Bool, true, false, replicate, Some, None, unwrap_or, sym, subst, ap, ◌∙◌, arith}
use Rattle.std.proofs.lemmas.Option.{none-some}
use Rattle.base_types.specs.Seal.{Blocks, is_sealed}
use Rattle.layout_geometry.specs.Geometry.{Geometry, IsGeometry, geometry_fits}
use Rattle.layout_bytes.specs.Bytes.{when}
use Rattle.layout_journal.specs.declared.header.Header.{Header}
use Rattle.layout_journal.specs.Layout.{header_of}
use Rattle.layout_journal.specs.Spelling.{header_block, IsHeader, fits_in}
use Rattle.layout_journal.specs.Run.{HeldIs, live_part}
use Rattle.layout_journal.specs.Formatted.{formatted, empty_header}
use Rattle.lang_tree.specs.Tree.{Tree}
use Rattle.crash_stands.specs.Stands.{IsTreeOf, StandsFor}
use Rattle.crash_stands.proofs.FormattedBlocks.{IsFormatted}

-- zeros read as no header: the first of them is no letter
zeros_read : (n : ℕ) (h : Header) → header_of n (replicate 1024 0) ≡ Some h → ⊥
unfolding header_of
zeros_read n h e = never (is_sealed (replicate 1024 0)) e
  where
    never : (sealed : Bool) → when sealed None ≡ Some h → ⊥
    never true e = none-some h e
    never false e = none-some h e

-- 0 and 1 have eight bytes at most
small : (x : ℕ) → x ≤ 1 → fits_in 8 x
small x low = omega arith

module _ (g : Geometry) (fits : geometry_fits g ≡ true) (is : IsGeometry g) (law : IsFormatted g) where
  can_be_written : IsHeader (empty_header g 1 1)
  can_be_written = record {
    epoch = small 1 (omega arith);
    turn = small 1 (omega arith);
    first = small 1 (omega arith);
    sure = small 0 (omega arith);
    epoch_from = omega arith;
    turn_from = omega arith;
    start_from = omega arith;
    start_upto = omega arith;
    at = omega (arith, is.least_journal);
    geom = fits;
  }

  -- a header in a slot of the formatted disk has its geometry
  geometry_in : (n slot : ℕ) (h : Header) → header_of n (header_block (empty_header g 1 1)) ≡ Some (empty_header g 1 1)
      → slot < 2 → header_of n (formatted g slot) ≡ Some h → h.geom ≡ g
  geometry_in n zero h reads low e = ap (λ o. (unwrap_or o h).geom) (sym e ∙ reads)
  geometry_in n (suc zero) h reads low e = absurd (zeros_read n h (sym (ap (header_of n) (law.journal 1 (omega arith) (omega (arith, is.least_journal)))) ∙ e))
  geometry_in n (suc (suc slot)) h reads low e = absurd (omega (arith, low))

  -- where written headers read back, an image like the formatted disk that holds its live blocks stands for the tree that they stand for
  pub stands_by : ((h : Header) → IsHeader h → header_of h.geom.n (header_block h) ≡ Some h) → (img : Blocks) (t : Tree) → ((b : ℕ) → b < g.n → img b ≡ formatted g b)
      → HeldIs g.n img (live_part g (formatted g)) → IsTreeOf g (live_part g (formatted g)) t → StandsFor g.n img t
  stands_by reads img t like held tree =
      let slot : held.slot < 2 = held.newest.is_slot in
      let same : img held.slot ≡ formatted g held.slot = like held.slot (omega (arith, slot, is.least_blocks)) in
      let geom : held.header.geom ≡ g = geometry_in g.n held.slot held.header (reads _ can_be_written) slot (sym (ap (header_of g.n) same) ∙ held.newest.stands) in
      record { map = live_part g (formatted g); held = held; tree = subst (λ k. IsTreeOf k (live_part g (formatted g)) t) (sym geom) tree }
