-- What is told of an input that is read as a trace. It is described in docs/TRACE.md.
use Rattle.std.specs.Prelude.{◌≡◌, ℕ, ◌+◌, ◌^◌, ◌≤◌, List, length, Option, Result, Ok, Err}
use Rattle.std.specs.Io.KnownBytes.{Consumes, IsAtEnd}
use Rattle.base_types.specs.Counts.{next_count}
use Rattle.cmd_trace.specs.Contents.{Contents, text_of}
use Rattle.cmd_trace_reader.specs.Traces.{IsTrace, IsWrongAt}
use Rattle.cmd_trace_reader.specs.declared.input.TraceRefusal.{TraceRefusal}
use Rattle.cmd_trace_reader.specs.declared.input.TraceRefusal.TheVariants.{BadTrace, SourceFault, LongInput, NoMemory}

-- the whole input was read, at most 2^30 bytes, and is a trace with these contents
pub record ReadsTrace (first left : Option (List ℕ)) (contents : Contents) : Type 0 where
  pub bytes : List ℕ
  pub read : Consumes first left bytes
  pub over : IsAtEnd left
  pub short : length bytes ≤ 2 ^ 30
  pub is : IsTrace contents
  pub text : text_of contents ≡ bytes

-- the whole input was read, at most 2^30 bytes, and is no trace; this line is the first at which that shows
pub record ReadsWrong (first left : Option (List ℕ)) (line : ℕ) : Type 0 where
  pub bytes : List ℕ
  pub read : Consumes first left bytes
  pub over : IsAtEnd left
  pub short : length bytes ≤ 2 ^ 30
  pub wrong : IsWrongAt bytes line

-- more bytes came than 2^30: one more was read
pub record ReadsTooMuch (first left : Option (List ℕ)) : Type 0 where
  pub bytes : List ℕ
  pub read : Consumes first left bytes
  pub long : length bytes ≡ 2 ^ 30 + 1

-- some bytes were read, at most 2^30
pub record ReadsSome (first left : Option (List ℕ)) : Type 0 where
  pub bytes : List ℕ
  pub read : Consumes first left bytes
  pub short : length bytes ≤ 2 ^ 30

-- how the input was read where no trace is told
abbrev pub Refuses : Option (List ℕ) → Option (List ℕ) → TraceRefusal → Type 0
Refuses first left (BadTrace line) = ReadsWrong first left line
Refuses first left LongInput = ReadsTooMuch first left
Refuses first left SourceFault = ReadsSome first left
Refuses first left NoMemory = ReadsSome first left

-- a trace is told exactly where the whole input is one, and else why not
abbrev pub Tells : Option (List ℕ) → Option (List ℕ) → Result Contents TraceRefusal → Type 0
Tells first left (Ok contents) = ReadsTrace first left contents
Tells first left (Err why) = Refuses first left why

-- the count of faults of the source: it never falls; it rises by one, up to its last value, where the source is to blame, and else it stays
abbrev pub Blames : {T : Type 0} → Result T TraceRefusal → ℕ → ℕ → Type 0
Blames (Ok told) before now = now ≡ before
Blames (Err SourceFault) before now = (before ≤ now) × (now ≡ next_count before)
Blames (Err (BadTrace line)) before now = now ≡ before
Blames (Err LongInput) before now = now ≡ before
Blames (Err NoMemory) before now = now ≡ before
