use Rattle.std.proofs.Common.{◌≡◌, true, sym, refl}
use Rattle.layout_geometry.specs.Geometry.{Geometry, geometry_fits}
use Rattle.crash_stands.proofs.FormattedBlocks.{IsFormatted}
use Rattle.crash_stands.proofs.FormattedHeader.{stands_by}
use Rattle.crash_stands.proofs.FormattedTree.{live_blocks_stand}
use Rattle.crash_stands.proofs.laws.the_formatted_disk_stands_for_the_root.Goals as goal

-- what layout_journal promises of the formatted disk, at one geometry
law : (c : goal.After-images_alike_below_n_hold_the_same) (g : Geometry) → geometry_fits g ≡ true → IsFormatted g
law c g fits = record {
  bits = λ b within. c.the_formatted_disk_is_empty.ensures.bits g b fits within;
  journal = λ b low high. c.the_formatted_disk_is_empty.ensures.journal g b low high;
  root = c.the_formatted_disk_is_empty.ensures.root g;
  nodes = λ b low. c.the_formatted_disk_is_empty.ensures.nodes g b low;
  whole = λ b. c.the_formatted_disk_is_empty.ensures.whole g b;
}

pub returns-clause-blocks : goal.returns-clause-blocks
returns-clause-blocks c = λ g fits. live_blocks_stand g ((c.geometries_are_within_limits.ensures g).0 fits) (law c g fits)

pub returns-clause-image : goal.returns-clause-image
returns-clause-image c = λ g fits.
    let is = (c.geometries_are_within_limits.ensures g).0 fits in
    stands_by g fits is (law c g fits) c.journal_blocks_read_back.ensures.headers _ _ (λ b low. refl) (c.the_formatted_disk_holds_itself.ensures g fits) (live_blocks_stand g is (law c g fits))

pub returns-clause-alike : goal.returns-clause-alike
returns-clause-alike c = λ g img fits like.
    let is = (c.geometries_are_within_limits.ensures g).0 fits in
    stands_by g fits is (law c g fits) c.journal_blocks_read_back.ensures.headers _ _ like
    (c.images_alike_below_n_hold_the_same.ensures g.n _ img _ (λ b low. sym (like b low)) (c.the_formatted_disk_holds_itself.ensures g fits)) (live_blocks_stand g is (law c g fits))
