use Rattle.std.proofs.Common.{◌≡◌, length}
use Rattle.base_types.specs.Seal.{blocks_of}
use Rattle.fs_check.proofs.keeping.Firm.{SetsTo}
use Rattle.fs_check.proofs.firm.set_places.Given as goal

abbrev pub invariant-loop-i : goal.invariant-loop-i
invariant-loop-i l = (length l.firm ≡ length l.fn.firm) × SetsTo l.places l.i (blocks_of l.fn.firm) (blocks_of l.firm)
