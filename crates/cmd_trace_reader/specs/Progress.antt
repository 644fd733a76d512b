-- How far the reading of an input is: what was read of its lines, and how it ends. Only proofs and private contracts speak of it.
use Rattle.std.specs.Prelude.{◌≡◌, ℕ, ◌+◌, ◌^◌, ◌≤◌, Bool, true, false, List, ◌++◌, length, Option, None, Result, Ok, Err, option_map}
use Rattle.std.specs.Io.KnownBytes.{Consumes, IsAtEnd}
use Rattle.cmd_trace.specs.Contents.{Contents, text_of}
use Rattle.cmd_trace_reader.specs.Traces.{IsTrace, BeginsTrace, IsWrongAt, GoesWrong, AreLines, is_line, text_of_lines}
use Rattle.cmd_trace_reader.specs.Reading.{State, ComeEach, state_of}
use Rattle.cmd_trace_reader.specs.Inputs.{Refuses}
use Rattle.cmd_trace_reader.specs.declared.lines.Lines.{Lines}
use Rattle.cmd_trace_reader.specs.declared.input.TraceRefusal.{TraceRefusal}

-- so many whole lines came one behind the other and left this state, and this is read of the next one
pub record GoesWell (bytes : List ℕ) (s : Option State) (line : List ℕ) (count : ℕ) : Type 0 where
  pub lines : List (List ℕ)
  pub are : AreLines lines
  pub come : ComeEach None lines s
  pub counted : count ≡ length lines
  pub one : is_line line ≡ true
  pub split : bytes ≡ text_of_lines lines ++ line

-- behind so many lines, with which some trace begins, stands one with which none goes on
pub record WentWrong (bytes : List ℕ) (count : ℕ) : Type 0 where
  pub before : List (List ℕ)
  pub rest : List ℕ
  pub lines : AreLines before
  pub counted : count ≡ length before
  pub split : bytes ≡ text_of_lines before ++ rest
  pub begins : BeginsTrace (text_of_lines before)
  pub wrong : GoesWrong before rest

-- these bytes were read, of which a line was wrong or none
abbrev pub HasReadBy : Bool → List ℕ → Option State → List ℕ → ℕ → Type 0
HasReadBy true bytes s line count = WentWrong bytes count
HasReadBy false bytes s line count = GoesWell bytes s line count

-- these bytes were read
abbrev pub HasRead : List ℕ → Lines → Type 0
HasRead bytes l = HasReadBy l.wrong bytes (option_map state_of l.reader) l.line.items l.count

-- these bytes, where they are all, are a trace with these contents, or no trace; and the line at which that shows is told
abbrev pub Finishes : List ℕ → Result Contents ℕ → Type 0
Finishes bytes (Ok contents) = IsTrace contents × (text_of contents ≡ bytes)
Finishes bytes (Err line) = IsWrongAt bytes line

-- so many bytes of the input were read
pub record At (first left : Option (List ℕ)) (count : ℕ) (l : Lines) : Type 0 where
  pub seen : List ℕ
  pub read : Consumes first left seen
  pub long : length seen ≡ count
  pub has : HasRead seen l

-- what one pull brought: so many bytes, and none only at the end
abbrev pub Brings : Option (List ℕ) → Option (List ℕ) → ℕ → Lines → Result ℕ TraceRefusal → Type 0
Brings first left count l (Ok n) = At first left (count + n) l × (n ≡ 0 → IsAtEnd left)
Brings first left count l (Err why) = Refuses first left why

-- the whole input was read, at most 2^30 bytes
pub record ReadsAll (first left : Option (List ℕ)) (l : Lines) : Type 0 where
  pub seen : List ℕ
  pub read : Consumes first left seen
  pub over : IsAtEnd left
  pub short : length seen ≤ 2 ^ 30
  pub has : HasRead seen l

-- the input was read to its end, or not
abbrev pub ReadsOut : Option (List ℕ) → Option (List ℕ) → Lines → Result Unit TraceRefusal → Type 0
ReadsOut first left l (Ok done) = ReadsAll first left l
ReadsOut first left l (Err why) = Refuses first left why
