-- What each pull does to how far the reading is.
use Rattle.std.proofs.Common.{◌≡◌, sym, refl, ◌∙◌, subst, arith, ℕ, ◌+◌, ◌<◌, ◌≤◌, ◌^◌, List, [], ◌++◌, length, take, Option, Result, Ok, Err, IsErrAnd}
use Rattle.std.proofs.lemmas.List.{length-append, length-take-le}
use Rattle.std.specs.Io.KnownBytes.{Consumes, IsAtEnd}
use Rattle.std.proofs.KnownBytes.{Consumes-trans, Consumes-nil}
use Rattle.cmd_trace_reader.specs.declared.lines.Lines.{Lines}
use Rattle.cmd_trace.specs.Contents.{Contents}
use Rattle.cmd_trace_reader.specs.declared.input.TraceRefusal.{TraceRefusal}
use Rattle.cmd_trace_reader.specs.Inputs.{Refuses, Tells, ReadsTrace, ReadsWrong, ReadsSome, ReadsTooMuch}
use Rattle.cmd_trace_reader.specs.Progress.{HasRead, Finishes, At, Brings, ReadsAll, ReadsOut}

-- so many bytes came and were taken
pub brought : (first mid now : Option (List ℕ)) (count n : ℕ) (bytes : List ℕ) (old new : Lines) → n ≤ length bytes → count + length bytes ≤ 2 ^ 30 → Consumes mid now (take n bytes)
    → ((seen : List ℕ) → length seen + length (take n bytes) ≤ 2 ^ 30 → HasRead seen old → HasRead (seen ++ take n bytes) new)
    → At first mid count old → At first now (count + n) new
brought first mid now count n bytes old new fits short taken goes a = record {
  seen = a.seen ++ take n bytes;
  read = Consumes-trans first mid now a.seen (take n bytes) a.read taken;
  long = length-append a.seen (take n bytes) ∙ omega (arith, a.long, length-take-le n bytes fits);
  has = goes a.seen (omega (arith, a.long, short, length-take-le n bytes fits, fits)) a.has;
}

-- so many bytes came, and no memory was found for them
pub lost : (first mid now : Option (List ℕ)) (count n : ℕ) (bytes : List ℕ) (old : Lines) → n ≤ length bytes → count + length bytes ≤ 2 ^ 30 → Consumes mid now (take n bytes)
    → At first mid count old → ReadsSome first now
lost first mid now count n bytes old fits short taken a = record {
  bytes = a.seen ++ take n bytes;
  read = Consumes-trans first mid now a.seen (take n bytes) a.read taken;
  short = omega (arith, length-append a.seen (take n bytes), a.long, short, fits, length-take-le n bytes fits);
}

pub at_first : (left : Option (List ℕ)) (l : Lines) → HasRead [] l → At left left 0 l
at_first left l h = record { seen = []; read = Consumes-nil left; long = refl; has = h }

-- the input is over
pub all_read : (first left : Option (List ℕ)) (count : ℕ) (l : Lines) → count ≤ 2 ^ 30 → IsAtEnd left → At first left count l → ReadsAll first left l
all_read first left count l short over a = record { seen = a.seen; read = a.read; over = over; short = omega (arith, a.long, short); has = a.has }

-- one byte more came
pub past : (first mid now : Option (List ℕ)) (n : ℕ) (bytes : List ℕ) (l : Lines) → length bytes ≡ 1 → 0 < n → n ≤ length bytes → Consumes mid now (take n bytes) → At first mid (2 ^ 30) l
    → ReadsTooMuch first now
past first mid now n bytes l one some fits taken a = record {
  bytes = a.seen ++ take n bytes;
  read = Consumes-trans first mid now a.seen (take n bytes) a.read taken;
  long = length-append a.seen (take n bytes) ∙ omega (arith, a.long, one, some, fits, length-take-le n bytes fits);
}

-- ---- errors that are passed on

pub pull_refused : (first left : Option (List ℕ)) (count : ℕ) (l : Lines) (why : TraceRefusal) (r : Result ℕ TraceRefusal) → IsErrAnd r (λ told. told ≡ why) → Refuses first left why
    → Brings first left count l r
pull_refused first left count l why (Ok n) e h = absurd e
pull_refused first left count l why (Err told) e h = subst (Refuses first left) (sym e) h

pub reading_refused : (first left : Option (List ℕ)) (l : Lines) (why : TraceRefusal) (r : Result (Unit {0}) TraceRefusal) → IsErrAnd r (λ told. told ≡ why) → Refuses first left why
    → ReadsOut first left l r
reading_refused first left l why (Ok done) e h = absurd e
reading_refused first left l why (Err told) e h = subst (Refuses first left) (sym e) h

pub trace_refused : (first left : Option (List ℕ)) (why : TraceRefusal) (r : Result Contents TraceRefusal) → IsErrAnd r (λ told. told ≡ why) → Refuses first left why → Tells first left r
trace_refused first left why (Ok done) e h = absurd e
trace_refused first left why (Err told) e h = subst (Refuses first left) (sym e) h

-- ---- the end of the input

pub finished : (first left : Option (List ℕ)) (l : Lines) (result : Result Contents ℕ) (contents : Contents) → ReadsAll first left l
    → ((bytes : List ℕ) → length bytes ≤ 2 ^ 30 → HasRead bytes l → Finishes bytes result) → result ≡ Ok contents → ReadsTrace first left contents
finished first left l result contents a ends is =
    let told = subst (Finishes a.seen) is (ends a.seen a.short a.has) in
    record { bytes = a.seen; read = a.read; over = a.over; short = a.short; is = told.0; text = told.1 }

pub refused_at : (first left : Option (List ℕ)) (l : Lines) (result : Result Contents ℕ) (line : ℕ) → ReadsAll first left l
    → ((bytes : List ℕ) → length bytes ≤ 2 ^ 30 → HasRead bytes l → Finishes bytes result) → result ≡ Err line → ReadsWrong first left line
refused_at first left l result line a ends is =
    record { bytes = a.seen; read = a.read; over = a.over; short = a.short; wrong = subst (Finishes a.seen) is (ends a.seen a.short a.has) }
