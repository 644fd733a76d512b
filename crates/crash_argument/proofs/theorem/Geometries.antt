-- The journal of a geometry has a place, and its data end on the disk.
use Rattle.std.proofs.Common.{◌<◌, ◌≤◌, arith}
use Rattle.layout_geometry.specs.Geometry.{Geometry, IsGeometry, data_start}

-- the ring has a place, and the data end within the disk
pub sized : (g : Geometry) → IsGeometry g → (0 < g.j) × (data_start g ≤ g.n)
sized g is = (omega (arith, is.least_journal), omega (arith, is.data_room))
