-- Bytes have one wrong line, and are no trace then.
use Rattle.std.proofs.Common.{◌≡◌, sym, ap, refl, ◌∙◌, subst, arith, ℕ, ◌<◌, true, inl, inr, List, [], ◌∷◌, ◌++◌, length, append_assoc}
use Rattle.std.specs.Prelude.{◌⊎◌}
use Rattle.std.proofs.lemmas.Bool.{false≢true}
use Rattle.cmd_trace.specs.ReadsAs.{fed}
use Rattle.cmd_trace_reader.specs.Traces.{BeginsTrace, AreTrace, IsWrongAt, GoesWrong, BreaksOff, AreLines, is_line, text_of_lines}
use Rattle.cmd_trace_reader.proofs.LineTexts.{line_cut, fed_before, has_feed, text_join}
use Rattle.cmd_trace_reader.proofs.GoesOn.{begins_front}

-- ---- no trace

begins_more : (bytes rest whole : List ℕ) → whole ≡ bytes ++ rest → AreTrace whole → BeginsTrace bytes
begins_more bytes rest whole e h = record { contents = h.contents; is = h.is; rest = rest; split = h.text ∙ e }

no_trace : (before : List (List ℕ)) (rest bytes : List ℕ) → bytes ≡ text_of_lines before ++ rest → GoesWrong before rest ⊎ BreaksOff before rest → AreTrace bytes → ⊥
no_trace before rest bytes e (inl k) h =
    k.none (begins_more (text_of_lines before ++ fed k.line) k.later bytes (e ∙ ap (λ r. text_of_lines before ++ r) k.split ∙ sym (append_assoc (text_of_lines before) (fed k.line) k.later)) h)
no_trace before rest bytes e (inr k) h = k.none (subst AreTrace e h)

pub wrong_is_none : (bytes : List ℕ) (line : ℕ) → IsWrongAt bytes line → AreTrace bytes → ⊥
wrong_is_none bytes line h t = no_trace h.before h.rest bytes h.split h.shows t

-- ---- one line

-- more lines of one text
record Further (lines more : List (List ℕ)) (rest left : List ℕ) : Type 0 where
  line : List ℕ
  tail : List (List ℕ)
  one : is_line line ≡ true
  split : more ≡ lines ++ line ∷ tail
  rest_is : rest ≡ fed line ++ (text_of_lines tail ++ left)

further : (lines more : List (List ℕ)) (rest left : List ℕ) → AreLines lines → AreLines more → length lines < length more → text_of_lines lines ++ rest ≡ text_of_lines more ++ left
    → Further lines more rest left
further lines [] rest left h k less e = absurd (omega (arith, less))
further [] (y ∷ more) rest left h k less e = record { line = y; tail = more; one = k.0; split = refl; rest_is = e ∙ append_assoc (fed y) (text_of_lines more) left }
further (x ∷ lines) (y ∷ more) rest left h k less e =
    let cut = line_cut x y (text_of_lines lines ++ rest) (text_of_lines more ++ left) h.0 k.0
    (sym (append_assoc (fed x) (text_of_lines lines) rest) ∙ e ∙ append_assoc (fed y) (text_of_lines more) left) in
    let next = further lines more rest left h.1 k.1 (omega (arith, less)) cut.1 in
    record {
      line = next.line;
      tail = next.tail;
      one = next.one;
      split = ap (λ l. l ∷ more) (sym cut.0) ∙ ap (λ ls. x ∷ ls) next.split;
      rest_is = next.rest_is;
    }

-- a trace that begins with more lines begins with one more
goes_on : (lines tail more : List (List ℕ)) (line : List ℕ) → more ≡ lines ++ line ∷ tail → BeginsTrace (text_of_lines more) → BeginsTrace (text_of_lines lines ++ fed line)
goes_on lines tail more line e h =
    begins_front (text_of_lines lines ++ fed line) (text_of_lines tail)
    (subst BeginsTrace (ap text_of_lines e ∙ text_join lines (line ∷ tail) ∙ sym (append_assoc (text_of_lines lines) (fed line) (text_of_lines tail))) h)

not_before : (lines more : List (List ℕ)) (rest left : List ℕ) → Further lines more rest left → BeginsTrace (text_of_lines more) → GoesWrong lines rest ⊎ BreaksOff lines rest → ⊥
not_before lines more rest left f begins (inl k) =
    let cut = line_cut k.line f.line k.later (text_of_lines f.tail ++ left) k.one f.one (sym k.split ∙ f.rest_is) in
    k.none (subst (λ l. BeginsTrace (text_of_lines lines ++ fed l)) (sym cut.0) (goes_on lines f.tail more f.line f.split begins))
not_before lines more rest left f begins (inr k) =
    false≢true (sym (has_feed f.line (text_of_lines f.tail ++ left)) ∙ ap is_line (sym (f.rest_is ∙ fed_before f.line (text_of_lines f.tail ++ left))) ∙ k.one)

not_less : (bytes : List ℕ) (line other : ℕ) → IsWrongAt bytes line → IsWrongAt bytes other → line < other → ⊥
not_less bytes line other h k less =
    not_before h.before k.before h.rest k.rest (further h.before k.before h.rest k.rest h.lines k.lines (omega (arith, less, h.counted, k.counted)) (sym h.split ∙ k.split)) k.begins h.shows

pub wrong_is_one : (bytes : List ℕ) (line other : ℕ) → IsWrongAt bytes line → IsWrongAt bytes other → line ≡ other
wrong_is_one bytes line other h k = omega (arith, not_less bytes line other h k, not_less bytes other line k h)
