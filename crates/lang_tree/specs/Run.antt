-- Whole runs of commands: the fold of `step`, with the refusals that come from outside the tree. It is described in docs/TREE.md.
use Rattle.std.specs.Prelude.{◌≡◌, ◌≢◌, ◌⊎◌, ℕ, ◌≤◌, ◌<◌, nat_le, slice_get, ◌&&◌, Bool, true, false, List, [], ◌∷◌, Some}
use Rattle.lang_tree.specs.declared.command.Cmd.{Cmd}
use Rattle.lang_tree.specs.declared.command.Cmd.TheVariants.{Durable, Bad}
use Rattle.lang_tree.specs.declared.command.Reply.{Reply}
use Rattle.lang_tree.specs.declared.command.Reply.TheVariants.{Known, Refused}
use Rattle.lang_tree.specs.declared.command.Refusal.{Refusal}
use Rattle.lang_tree.specs.declared.command.Refusal.TheVariants.{DiskFault, Stopped, NoMemory}
use Rattle.lang_tree.specs.Refusals.{refusal_number}
use Rattle.lang_tree.specs.Step.{Session, step}

-- The reasons that may come from outside the tree.

-- of a tree in memory: no memory was found
abbrev pub is_of_memory : Refusal → Bool
is_of_memory NoMemory = true
is_of_memory _ = false

-- of a file system over a disk: the numbers from 10 to 17, of which being out of memory is the last
abbrev pub is_of_disk : Refusal → Bool
is_of_disk why = nat_le 10 (refusal_number why) && nat_le (refusal_number why) 17

-- `durable` is answered by a point that the disk may have: any from the greatest one that a dsync or a dwait answered to the last one. Nothing changed.
pub record MayKnow (old : Session) (cmd : Cmd) (reply : Reply) (new : Session) : Type 0 where
  pub asked : cmd ≡ Durable
  pub point : ℕ
  pub is : reply ≡ Known point
  pub from : old.durable ≤ point
  pub upto : point ≤ old.points
  pub same : new ≡ old

-- One command is answered as the tree answers it; or it is refused for a reason that `outside` lists, and nothing changed; or, where a disk may fail, it asks which point the disk has.
abbrev pub Answers : (Refusal → Bool) → Session → Cmd → Reply → Session → Type 0
Answers outside old cmd reply new =
    (step old cmd ≡ (new, reply))
    ⊎ (((why : Refusal) × (outside why ≡ true) × (reply ≡ Refused why) × (new ≡ old))
    ⊎ ((outside DiskFault ≡ true) × MayKnow old cmd reply new))

-- The commands in order, each with its reply, lead from one session to another.
abbrev pub Run : (Refusal → Bool) → Session → List Cmd → List Reply → Session → Type 0
Run outside s [] [] end = end ≡ s
Run outside s (cmd ∷ cmds) (reply ∷ replies) end = (next : Session) × Answers outside s cmd reply next × Run outside next cmds replies end
Run outside s _ _ end = ⊥

-- Once a disk fault refused a command, each later command but a bad one is refused as the session has ended.
pub record StopsAfterFault (cmds : List Cmd) (replies : List Reply) : Type 0 where
  pub each : (i k : ℕ) (cmd : Cmd) → i < k → slice_get replies i ≡ Some (Refused DiskFault) → slice_get cmds k ≡ Some cmd → cmd ≢ Bad
      → slice_get replies k ≡ Some (Refused Stopped)
