use Rattle.std.proofs.Common.{◌≡◌, ◌<◌, ◌≤◌, ℕ, true, false}
use Rattle.base_types.specs.Seal.{blocks_of}
use Rattle.layout_geometry.specs.Geometry.{data_start}
use Rattle.layout_bytes.specs.Bitmap.{bit_in}
use Rattle.fs_files.specs.Shared.{is_kept}
use Rattle.fs_check.proofs.meeting.first_unmet.Given as goal

abbrev pub invariant-loop-b : goal.invariant-loop-b
invariant-loop-b l = (b : ℕ) → data_start l.geom ≤ b → b < l.b → bit_in (blocks_of l.bits) b ≡ true → is_kept l.shared b ≡ false → bit_in (blocks_of l.met) b ≡ true
