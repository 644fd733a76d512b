-- What the program does where its words ask for a crash of the trace that is its input. It is described in docs/PROMISES.md.
use Rattle.std.specs.Prelude.{◌≡◌, ℕ, ◌⊎◌, List, ◌++◌, codes, decimal, Option, None, Some, Result, Ok, Err}
use Rattle.std.specs.Io.KnownBytes.{Appends}
use Rattle.base_io.specs.Prefix.{TakesPrefix}
use Rattle.disk_memory.specs.Choice.{ChoiceState}
use Rattle.cmd_trace.specs.Contents.{Contents}
use Rattle.cmd_trace_reader.specs.declared.input.TraceRefusal.{TraceRefusal}
use Rattle.cmd_trace_reader.specs.declared.input.TraceRefusal.TheVariants as reading
use Rattle.cmd_trace_reader.specs.Inputs as input
use Rattle.cmd_replay.specs.declared.refusal.ReplayRefusal.{ReplayRefusal}
use Rattle.cmd_replay.specs.declared.refusal.ReplayRefusal.TheVariants as crash
use Rattle.cmd_replay.specs.Replays.{Found, Answers, found_text}
use Rattle.cmd_program.specs.Endings.{Met, EndsBehind, EndsSilent, damaged_line, source_line, spent_line, no_prefix_line, long_line, choice_line}
use Rattle.cmd_program.specs.declared.status.Status.{Status}
use Rattle.cmd_program.specs.declared.status.Status.TheVariants.{Done, BadTrace, NoMemory, Damaged, SourceFault, SinkFault, Spent, NoPrefix, LongInput, BadChoice}

-- the line that names the first wrong line of an input
abbrev pub trace_line : ℕ → List ℕ
trace_line line = codes "error 3 line " ++ (decimal line ++ codes "\n")

-- how the run ends behind a listing: the status says whether a point of that tree was found
abbrev pub EndsAt : Option ℕ → Status → Option (List ℕ) → Option (List ℕ) → Type 0
EndsAt None = EndsBehind NoPrefix no_prefix_line
EndsAt (Some point) = EndsSilent Done

-- how it ends where a tree was found: behind its point and its listing, or the sink took a front of these
abbrev pub EndsFound : Found → Status → Option (List ℕ) → Option (List ℕ) → Type 0
EndsFound found status taken taken_now =
    ((between : Option (List ℕ)) × Appends taken between (found_text found) × EndsAt found.point status between taken_now)
    ⊎ ((status ≡ SinkFault) × TakesPrefix taken taken_now (found_text found))

-- how it ends behind a replay that was answered so
abbrev pub EndsCrash : Result Found ReplayRefusal → Status → Option (List ℕ) → Option (List ℕ) → Type 0
EndsCrash (Ok found) = EndsFound found
EndsCrash (Err crash.Choice) = EndsBehind BadChoice choice_line
EndsCrash (Err (crash.Damaged damage)) = EndsBehind (Damaged damage) damaged_line
EndsCrash (Err crash.Spent) = EndsBehind Spent spent_line
EndsCrash (Err crash.NoMemory) = EndsSilent NoMemory

-- A crash of the trace with these contents was replayed, with this answer; then the run ended with this status.
pub record ShowsCrash (moment : ℕ) (choice : ChoiceState) (c : Contents) (status : Status) (taken taken_now : Option (List ℕ)) : Type 0 where
  pub answer : Result Found ReplayRefusal
  pub answers : Answers c moment choice answer
  pub ends : EndsCrash answer status taken taken_now

-- how the run ends where that was told of the input
abbrev pub EndsReading : ℕ → ChoiceState → Result Contents TraceRefusal → Status → Option (List ℕ) → Option (List ℕ) → Type 0
EndsReading moment choice (Ok c) = ShowsCrash moment choice c
EndsReading moment choice (Err (reading.BadTrace line)) = EndsBehind BadTrace (trace_line line)
EndsReading moment choice (Err reading.SourceFault) = EndsBehind SourceFault source_line
EndsReading moment choice (Err reading.LongInput) = EndsBehind LongInput long_line
EndsReading moment choice (Err reading.NoMemory) = EndsSilent NoMemory

-- The input was read as a trace, and this was told of it; then the run ended with this status.
pub record ReplaysTo (moment : ℕ) (choice : ChoiceState) (status : Status) (m : Met) : Type 0 where
  pub told : Result Contents TraceRefusal
  pub tells : input.Tells m.left m.left_now told
  pub ends : EndsReading moment choice told status m.taken m.taken_now
