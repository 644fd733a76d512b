-- What an image stands for rests on the disk's own blocks alone.
use Rattle.std.proofs.Common.{◌≡◌, ◌↔◌, ℕ, ◌-◌, ◌<◌, ◌≤◌, true, List, Some, sym, ap, ◌∙◌, subst, arith}
use Rattle.base_types.specs.Seal.{Blocks}
use Rattle.layout_geometry.specs.Geometry.{Geometry, IsGeometry, geometry_fits}
use Rattle.layout_journal.specs.declared.header.Header.{Header}
use Rattle.layout_journal.specs.Layout.{header_of, IsWithinDisk}
use Rattle.layout_journal.specs.Run.{Newest, HeldIs}
use Rattle.lang_tree.specs.Tree.{Tree}
use Rattle.crash_stands.specs.Stands.{IsTreeOf, StandsFor}

-- with what layout_geometry and layout_journal promise of geometries, headers and what images hold
pub alike_stands : ((g : Geometry) → (geometry_fits g ≡ true) ↔ IsGeometry g)
    → ((n : ℕ) (b : List ℕ) (h : Header) → header_of n b ≡ Some h → IsWithinDisk n h)
    → ((n : ℕ) (img : Blocks) (s t : ℕ) (h k : Header) → Newest n img s h → Newest n img t k → (s ≡ t) × (h ≡ k))
    → ((n : ℕ) (img other m : Blocks) → ((b : ℕ) → b < n → img b ≡ other b) → HeldIs n img m → HeldIs n other m)
    → (n : ℕ) (img other : Blocks) (t : Tree) → ((b : ℕ) → b < n → img b ≡ other b) → StandsFor n img t → StandsFor n other t
alike_stands limits bounds one holds n img other t alike s =
    let slot = s.held.slot in
    let header = s.held.header in
    let disk = bounds n (img slot) header s.held.newest.stands in
    let two : 2 ≤ n = omega (arith, ((limits header.geom).0 disk.geom).least_blocks, disk.blocks) in
    let held = holds n img other s.map alike s.held in
    -- the newest header of one image is the newest of the other
    let newest : Newest n other slot header = record {
      is_slot = s.held.newest.is_slot;
      stands = ap (header_of n) (sym (alike slot (omega (arith, two, s.held.newest.is_slot)))) ∙ s.held.newest.stands;
      other = λ k is. s.held.newest.other k (ap (header_of n) (alike (1 - slot) (omega (arith, two))) ∙ is);
    } in
    let geom : header.geom ≡ held.header.geom = ap (λ h. h.geom) (one n other _ _ _ _ newest held.newest).1 in
    record { map = s.map; held = held; tree = subst (λ g. IsTreeOf g s.map t) geom s.tree }
