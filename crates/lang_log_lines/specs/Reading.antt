-- How far a reader of the lines of a log is in an input, and what one call of it pulls and gives.
use Rattle.std.specs.Prelude.{ℕ, List, Option}
use Rattle.lang_lines.specs.Lines.{longest}
use Rattle.lang_lines.specs.Reading.{HasGivenItems, HoldsItems, ReaderState, ReadsItem}
use Rattle.lang_lines.specs.declared.next.NextItem.{NextItem}
use Rattle.lang_log.specs.declared.call.LogCall.{LogCall}
use Rattle.lang_log_lines.specs.Grammar.{calls_of_line}

-- these are the calls that the reader has given of the bytes that it has pulled
abbrev pub HasGivenCalls : List ℕ → List LogCall → ReaderState → Type 0
HasGivenCalls seen calls r = HasGivenItems (calls_of_line longest) seen calls r

-- what one call of the reader pulled, and which call of a log it gave
abbrev pub ReadsCall : NextItem LogCall → ReaderState → ReaderState → Option (List ℕ) → Option (List ℕ) → ℕ → ℕ → Type 0
ReadsCall found old new left left_now faults faults_now = ReadsItem (calls_of_line longest) found old new left left_now faults faults_now

-- what a call of the reader pulled that gave none and lost none
abbrev pub HoldsCalls : ReaderState → ReaderState → Option (List ℕ) → Option (List ℕ) → Type 0
HoldsCalls old new left left_now = HoldsItems (calls_of_line longest) old new left left_now
