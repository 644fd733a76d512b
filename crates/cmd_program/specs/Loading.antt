-- What the program does where its words ask for a load. It is described in docs/PROMISES.md.
use Rattle.std.specs.Prelude.{ℕ, ◌⊎◌, List, Option}
use Rattle.cmd_load.specs.Summary.{summary_of, summary_text}
use Rattle.cmd_program.specs.Endings.{EndsBehind, EndsSilent}
use Rattle.cmd_program.specs.declared.status.Status.{Status}
use Rattle.cmd_program.specs.declared.status.Status.TheVariants.{Done, NoMemory}

-- The four lines of the summary of this seed's first so many commands are written, and the run ends as it should; or the sink failed, and took a prefix of them; or no memory was found, and nothing is written.
abbrev pub LoadsTo : ℕ → ℕ → Status → Option (List ℕ) → Option (List ℕ) → Type 0
LoadsTo seed count status taken taken_now = EndsBehind Done (summary_text (summary_of seed count)) status taken taken_now ⊎ EndsSilent NoMemory status taken taken_now
