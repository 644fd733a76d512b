use Rattle.std.proofs.Common.{◌≡◌, ◌++◌, List, length, take}
use Rattle.layout_bytes.specs.declared.slot.Slot.{Slot}
use Rattle.layout_directory.specs.Directory.{ReadAs}
use Rattle.fs_dirs.proofs.listing.push_block.Given as goal

abbrev pub invariant-loop-place : goal.invariant-loop-place
invariant-loop-place l = (slots : List Slot) → length slots ≡ l.entries → ReadAs l.layout l.block slots → l.into.items ≡ l.fn.into.items ++ take l.place slots
