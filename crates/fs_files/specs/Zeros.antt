-- Blocks of a list of changes that get zeros.
use Rattle.std.specs.Prelude.{◌≡◌, ℕ, ◌+◌, ◌≤◌, if◌then◌else◌, List, length, Some}
use Rattle.base_types.specs.declared.words.Class.{Class}
use Rattle.engine_blocks.specs.Running.{has}
use Rattle.fs_files.specs.declared.changes.Changed.{Changed}
use Rattle.fs_files.specs.Drafts.{change_of, zeros_of}

-- These blocks have zeros now, and the others are as before.
pub record HaveZeros (class : Class) (bs : List ℕ) (old new : List (ℕ × Changed)) : Type 0 where
  pub each : (q : ℕ) → change_of new q ≡ (if has bs q then Some (zeros_of class) else change_of old q)
  pub count : length new ≤ length old + length bs
