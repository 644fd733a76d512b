-- What a geometry within its limits says of its areas.
use Rattle.std.proofs.Common.{◌≡◌, ℕ, ◌+◌, ◌≤◌, true, arith}
use Rattle.std.proofs.lemmas.Bool.{and_parts, leb-true}
use Rattle.layout_geometry.specs.Geometry.{Geometry, geometry_fits, data_start, ring_block}

-- the bounds of a geometry's numbers, and the room that its areas leave
pub record IsSized (g : Geometry) : Type 0 where
  pub blocks_upto : g.n ≤ 1048576
  pub ring_from : 16 ≤ g.j
  pub ring_upto : g.j ≤ 65536
  pub nodes_upto : g.i ≤ 65536
  pub room : data_start g + 8 ≤ g.n

-- a geometry that fits has them
pub sizes : (g : Geometry) → geometry_fits g ≡ true → IsSized g
unfolding geometry_fits
sizes g e =
    let from_most = and_parts _ _ (and_parts _ _ e).1 in
    let from_ring = and_parts _ _ from_most.1 in
    let from_most_ring = and_parts _ _ from_ring.1 in
    let from_most_nodes = and_parts _ _ (and_parts _ _ from_most_ring.1).1 in
    let from_room = and_parts _ _ (and_parts _ _ from_most_nodes.1).1 in
    record {
      blocks_upto = leb-true _ _ from_most.0;
      ring_from = leb-true _ _ from_ring.0;
      ring_upto = leb-true _ _ from_most_ring.0;
      nodes_upto = leb-true _ _ from_most_nodes.0;
      room = leb-true _ _ from_room.0;
    }

-- each ring place lies behind the header slots
pub ring_behind_slots : (g : Geometry) (p : ℕ) → 2 ≤ ring_block g p
ring_behind_slots g p = omega arith
