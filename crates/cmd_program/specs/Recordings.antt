-- What is claimed of crashes of a trace that a recording wrote. It is described in docs/CRASHES.md.
use Rattle.std.specs.Prelude.{◌≡◌, ℕ, ⊤, List, take, Some, Result, Ok, Err}
use Rattle.base_types.specs.Seal.{blocks_of}
use Rattle.disk_contract.specs.Crash.{IsHonest}
use Rattle.layout_journal.specs.Formatted.{formatted}
use Rattle.disk_memory.specs.Choice.{ChoiceState}
use Rattle.cmd_trace.specs.Contents.{Contents}
use Rattle.cmd_replay.specs.declared.refusal.ReplayRefusal.{ReplayRefusal}
use Rattle.cmd_replay.specs.declared.refusal.ReplayRefusal.TheVariants.{Choice, Damaged, Spent, NoMemory}
use Rattle.cmd_replay.specs.Replays.{Found, LeavesImage}

-- Whatever image this crash of a trace leaves is honest.
abbrev pub IsHonestCrash : Contents → ℕ → ChoiceState → Type 0
IsHonestCrash c moment choice = (image : List (List ℕ)) → LeavesImage c.geometry c.log moment choice image → IsHonest c.geometry.n (formatted c.geometry) (take moment c.log) (blocks_of image)

-- The answer isn't that an image is damaged, and where a tree was found, a sync point was found that has it. Of the other refusals nothing is said.
abbrev pub IsPlaced : Result Found ReplayRefusal → Type 0
IsPlaced (Ok found) = (p : ℕ) × (found.point ≡ Some p)
IsPlaced (Err (Damaged damage)) = ⊥
IsPlaced (Err Choice) = ⊤
IsPlaced (Err Spent) = ⊤
IsPlaced (Err NoMemory) = ⊤
