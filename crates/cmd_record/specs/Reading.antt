-- How far the reading of an input has come. The contract of `record_lines` says by it how the reading ends; of the rest only proofs and private contracts speak.
use Rattle.std.specs.Prelude.{◌≡◌, ℕ, ◌^◌, ◌≤◌, List, [], ◌∷◌, ◌++◌, length, Option, Some, None, Result, Ok, Err, ⊤}
use Rattle.std.specs.Io.KnownBytes.{Appends, Consumes, IsAtEnd}
use Rattle.base_types.specs.Counts.{Rose}
use Rattle.lang_tree.specs.declared.command.Cmd.{Cmd}
use Rattle.lang_lines.specs.Lines.{longest, commands_of, whole_commands}
use Rattle.lang_lines.specs.Reading.{HasGiven, KnowsEnd, ReaderState}
use Rattle.engine_blocks.specs.State.{State}
use Rattle.cmd_host.specs.Behaving.{Setting}
use Rattle.cmd_record.specs.Follows.{Stopped, ServesTo}
use Rattle.cmd_record.specs.Running.{Records}
use Rattle.cmd_record.specs.declared.recording.Stop.{Stop}
use Rattle.cmd_record.specs.declared.reading.Ending.{Ending}
use Rattle.cmd_record.specs.declared.reading.Ending.TheVariants.{End, SourceFault, LongInput}

-- The commands that the reader has given of the input are answered, and the sink took the text that begins their trace.
pub record At (set : Setting) (left_first left told_first told : Option (List ℕ)) (s : State) (r : ReaderState) : Type 0 where
  pub seen : List ℕ
  pub cmds : List Cmd
  pub body : List ℕ
  pub given : HasGiven seen cmds r
  pub read : Consumes left_first left seen
  pub ends : KnowsEnd r left
  pub records : Records set cmds body s
  pub took : Appends told_first told body

-- The recording stopped, with at most so many bytes read.
pub record Halted (set : Setting) (most : ℕ) (left_first left told_first told : Option (List ℕ)) : Type 0 where
  pub seen : List ℕ
  pub read : Consumes left_first left seen
  pub short : length seen ≤ most
  pub stopped : Stopped set seen told_first told

-- The whole input was read and all its commands are served.
pub record ReadsAll (set : Setting) (left_first left told_first told : Option (List ℕ)) : Type 0 where
  pub seen : List ℕ
  pub read : Consumes left_first left seen
  pub over : IsAtEnd left
  pub short : length seen ≤ 2 ^ 30
  pub serves : ServesTo set (commands_of longest seen) told_first told

-- The source failed after these bytes, whose whole lines are served.
pub record ReadsSome (set : Setting) (left_first left told_first told : Option (List ℕ)) : Type 0 where
  pub seen : List ℕ
  pub read : Consumes left_first left seen
  pub short : length seen ≤ 2 ^ 30
  pub serves : ServesTo set (whole_commands longest seen) told_first told

-- One byte more came than a whole input may have.
pub record ReadsTooMuch (set : Setting) (left_first left told_first told : Option (List ℕ)) : Type 0 where
  pub seen : List ℕ
  pub next : ℕ
  pub read : Consumes left_first left (seen ++ next ∷ [])
  pub long : length seen ≡ 2 ^ 30
  pub serves : ServesTo set (whole_commands longest seen) told_first told

-- how the reading ended
abbrev pub AtEnding : Setting → Ending → ℕ → ℕ → Option (List ℕ) → Option (List ℕ) → Option (List ℕ) → Option (List ℕ) → Type 0
AtEnding set End faults faults_now left_first left told_first told = ReadsAll set left_first left told_first told
AtEnding set SourceFault faults faults_now left_first left told_first told = Rose faults faults_now × ReadsSome set left_first left told_first told
AtEnding set LongInput faults faults_now left_first left told_first told = ReadsTooMuch set left_first left told_first told

-- what comes of one turn: a command was answered, or the reading ends or stops
abbrev pub Turns : Setting → Result (Option Ending) Stop → ℕ → ℕ → Option (List ℕ) → Option (List ℕ) → Option (List ℕ) → Option (List ℕ) → State → ReaderState → Type 0
Turns set (Ok None) faults faults_now left_first left told_first told s r = At set left_first left told_first told s r
Turns set (Ok (Some ending)) faults faults_now left_first left told_first told s r = AtEnding set ending faults faults_now left_first left told_first told
Turns set (Err why) faults faults_now left_first left told_first told s r = Halted set (2 ^ 30) left_first left told_first told

-- where a command was answered, the reader gave one more
abbrev pub GivesOn : Result (Option Ending) Stop → ReaderState → ReaderState → Type 0
GivesOn (Ok None) r q = (seen : List ℕ) (cmds : List Cmd) → HasGiven seen cmds r → (more : List ℕ) × (cmd : Cmd) × HasGiven (seen ++ more) (cmds ++ cmd ∷ []) q
GivesOn (Ok (Some ending)) r q = ⊤
GivesOn (Err why) r q = ⊤
