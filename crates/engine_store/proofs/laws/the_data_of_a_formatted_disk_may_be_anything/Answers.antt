use Rattle.std.proofs.Common.{◌≡◌, true}
use Rattle.layout_geometry.specs.Geometry.{Geometry, geometry_fits}
use Rattle.engine_store.proofs.AnyData.{IsFormatted, held_whatever, stands_whatever}
use Rattle.engine_store.proofs.laws.the_data_of_a_formatted_disk_may_be_anything.Goals as goal

-- what layout_journal promises of the formatted disk, at one geometry
law : (c : goal.After-the_formatted_disk_is_empty) (g : Geometry) → geometry_fits g ≡ true → IsFormatted g
law c g fits = record {
  bits = λ b within. c.the_formatted_disk_is_empty.ensures.bits g b fits within;
  journal = λ b low high. c.the_formatted_disk_is_empty.ensures.journal g b low high;
}

pub returns-clause-held : goal.returns-clause-held
returns-clause-held c = λ g img fits same. held_whatever g ((c.geometries_are_within_limits.ensures g).0 fits) (law c g fits) fits c.journal_blocks_read_back.ensures.headers img same

pub returns-clause-stands : goal.returns-clause-stands
returns-clause-stands c = λ g img fits same. stands_whatever g ((c.geometries_are_within_limits.ensures g).0 fits) (law c g fits) fits c.journal_blocks_read_back.ensures.headers (c.the_formatted_disk_stands_for_the_root.ensures.blocks g fits) img same
