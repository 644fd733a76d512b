-- The test of a geometry and its limits as facts are the same.
use Rattle.std.proofs.Common.{◌≡◌, true}
use Rattle.std.proofs.lemmas.Bool.{and_parts, and_from, leb-true, le-leb, eqb-true, eq-eqb}
use Rattle.layout_geometry.specs.Geometry.{Geometry, IsGeometry, geometry_fits}

-- numbers that pass the test are within their limits
pub within_limits : (g : Geometry) → geometry_fits g ≡ true → IsGeometry g
unfolding geometry_fits
within_limits g fits =
    let a = and_parts _ _ fits in
    let b = and_parts _ _ a.1 in
    let c = and_parts _ _ b.1 in
    let d = and_parts _ _ c.1 in
    let e = and_parts _ _ d.1 in
    let f = and_parts _ _ e.1 in
    let k = and_parts _ _ f.1 in
    let l = and_parts _ _ k.1 in
    record {
      least_blocks = leb-true _ _ a.0;
      most_blocks = leb-true _ _ b.0;
      least_journal = leb-true _ _ c.0;
      most_journal = leb-true _ _ d.0;
      least_nodes = leb-true _ _ e.0;
      most_nodes = leb-true _ _ f.0;
      whole_blocks = eqb-true _ _ k.0;
      data_room = leb-true _ _ l.0;
      journal_room = leb-true _ _ l.1;
    }

-- numbers within their limits pass the test
pub limits_fit : (g : Geometry) → IsGeometry g → geometry_fits g ≡ true
unfolding geometry_fits
limits_fit g is =
    and_from _ _ (le-leb _ _ is.least_blocks) (and_from _ _ (le-leb _ _ is.most_blocks)
    (and_from _ _ (le-leb _ _ is.least_journal) (and_from _ _ (le-leb _ _ is.most_journal)
    (and_from _ _ (le-leb _ _ is.least_nodes) (and_from _ _ (le-leb _ _ is.most_nodes)
    (and_from _ _ (eq-eqb _ _ is.whole_blocks) (and_from _ _ (le-leb _ _ is.data_room) (le-leb _ _ is.journal_room))))))))
