-- Of which disks a header may be.
use Rattle.std.proofs.Common.{◌≡◌, ◌⊎◌, ⊎_elim, ℕ, ◌<◌, true, List, Option, Some, None, refl, arith, ◌↔◌}
use Rattle.layout_geometry.specs.Geometry.{Geometry, geometry_fits, IsGeometry}
use Rattle.layout_journal.specs.declared.header.Header.{Header}
use Rattle.layout_journal.specs.Layout.{header_of, IsWithinDisk}

-- the law of the journal on the numbers of headers
abbrev pub HeadersKeep : Type 0
HeadersKeep = (n : ℕ) (b : List ℕ) (h : Header) → header_of n b ≡ Some h → IsWithinDisk n h

-- no header is in a block of a disk of a size that no geometry has
pub no_header : ((g : Geometry) → (geometry_fits g ≡ true) ↔ IsGeometry g) → HeadersKeep → (n : ℕ) (b : List ℕ) → (n < 64) ⊎ (1048576 < n) → header_of n b ≡ None
no_header law keep n b far = none_or (header_of n b) (λ h e.
    let bounds = keep n b h e in
    let limits = (law h.geom).0 bounds.geom in
    ⊎_elim (λ low. omega (arith, low, limits.least_blocks, bounds.blocks)) (λ high. omega (arith, high, limits.most_blocks, bounds.blocks)) far)
  where
    none_or : {A : Type 0} (o : Option A) → ((y : A) → o ≡ Some y → ⊥) → o ≡ None
    none_or None f = refl
    none_or (Some y) f = absurd (f y refl)
