-- What one more byte and one more line do to what was read, and how it ends.
use Rattle.std.proofs.Common.{◌≡◌, sym, ap, refl, ◌∙◌, subst, arith, tests, ℕ, suc, ◌+◌, ◌-◌, ◌<◌, ◌≤◌, ◌^◌, ◌==◌, Bool, true, false, not, inl, inr, List, [], ◌∷◌, ◌++◌, length, get_or, take, drop, append_assoc, Option, Some, None}
use Rattle.std.specs.Prelude.{◌↔◌, min, option_map, is_some, nat_lt, cond}
use Rattle.std.proofs.lemmas.Bool.{eqb-true, false≢true}
use Rattle.std.proofs.lemmas.List.{append-nil, length-append, length-take-le, length-drop, take_more, get_or-take}
use Rattle.std.proofs.Math.Seq.{take-add}
use Rattle.std.proofs.lemmas.List.Quantifiers.{position-Some}
use Rattle.std.proofs.lemmas.List.Sums.{prefix_len_passes}
use Rattle.std.specs.List.{position, prefix_len}
use Rattle.cmd_trace.specs.Contents.{Contents, text_of}
use Rattle.cmd_trace.specs.ReadsAs.{fed}
use Rattle.cmd_trace_reader.specs.Traces.{IsTrace, BeginsTrace, AreTrace, IsWrongAt, AreLines, is_line, text_of_lines}
use Rattle.cmd_trace_reader.specs.Reading.{State, state_of, Begins, Follows, TakesLine, Comes, ComeEach, TakesNext, contents_of, has_ended, is_ended}
use Rattle.cmd_trace_reader.specs.declared.reader.Reader.{Reader}
use Rattle.cmd_trace_reader.specs.Progress.{GoesWell, WentWrong, HasRead, HasReadBy}
use Rattle.cmd_trace_reader.specs.declared.lines.Lines.{Lines}
use Rattle.cmd_trace_reader.proofs.LineTexts.{each_push, line_join, text_push}
use Rattle.cmd_trace_reader.proofs.Runs.{come_join, come_front}

-- how lines come, as the law says it
pub record Exact : Type 0 where
  pub begins : (lines : List (List ℕ)) → AreLines lines → BeginsTrace (text_of_lines lines) ↔ ((s : Option State) × ComeEach None lines s)
  pub one : (lines : List (List ℕ)) (s t : Option State) → ComeEach None lines s → ComeEach None lines t → s ≡ t
  pub ends : (lines : List (List ℕ)) (s : Option State) → AreLines lines → ComeEach None lines s → (has_ended s ≡ true) ↔ AreTrace (text_of_lines lines)
  pub whole : (lines : List (List ℕ)) (rest : List ℕ) → AreLines lines → is_line rest ≡ true → AreTrace (text_of_lines lines ++ rest) → rest ≡ []
  pub says : (lines : List (List ℕ)) (s : State) → ComeEach None lines (Some s) → is_ended s.place ≡ true → IsTrace (contents_of s) × (text_of (contents_of s) ≡ text_of_lines lines)

-- ---- bytes

wrong_more : (bytes more : List ℕ) (count : ℕ) → WentWrong bytes count → WentWrong (bytes ++ more) count
wrong_more bytes more count h = record {
  before = h.before;
  rest = h.rest ++ more;
  lines = h.lines;
  counted = h.counted;
  split = ap (λ t. t ++ more) h.split ∙ append_assoc (text_of_lines h.before) h.rest more;
  begins = h.begins;
  wrong = record {
    line = h.wrong.line;
    later = h.wrong.later ++ more;
    one = h.wrong.one;
    split = ap (λ t. t ++ more) h.wrong.split ∙ append_assoc (fed h.wrong.line) h.wrong.later more;
    none = h.wrong.none;
  };
}

-- behind a wrong line bytes are passed over
pub passed : (wrong : Bool) (bytes more : List ℕ) (s : Option State) (line : List ℕ) (count : ℕ) → wrong ≡ true → HasReadBy wrong bytes s line count → HasReadBy wrong (bytes ++ more) s line count
passed true bytes more s line count is h = wrong_more bytes more count h
passed false bytes more s line count is h = cc is

-- bytes without a line feed are more of the line
pub grown : (wrong : Bool) (bytes more : List ℕ) (s : Option State) (line : List ℕ) (count : ℕ) → wrong ≡ false → is_line more ≡ true → HasReadBy wrong bytes s line count
    → HasReadBy wrong (bytes ++ more) s (line ++ more) count
grown true bytes more s line count is one h = cc is
grown false bytes more s line count is one h = record {
  lines = h.lines;
  are = h.are;
  come = h.come;
  counted = h.counted;
  one = line_join line more h.one one;
  split = ap (λ t. t ++ more) h.split ∙ append_assoc (text_of_lines h.lines) line more;
}

-- ---- where the first line feed is

abbrev is_feed : ℕ → Bool
is_feed b = b == 10

line_by : (xs : List ℕ) → ((k : ℕ) → k < length xs → not (is_feed (get_or xs k 0)) ≡ true) → is_line xs ≡ true
line_by [] h = refl
line_by (x ∷ xs) h = rw (h 0 (omega arith)) (line_by xs (λ k low. h (suc k) (omega (arith, low))))

pub line_before : (xs : List ℕ) (i : ℕ) → position is_feed xs ≡ Some i → is_line (take i xs) ≡ true
line_before xs i e =
    let found = position-Some is_feed xs i 0 e in
    let long = length-take-le i xs (omega (arith, found.0)) in
    line_by (take i xs) (λ k low. ap (λ b. not (is_feed b)) (get_or-take i xs k 0 (omega (arith, low, long))) ∙ ap not (found.2 k (omega (arith, low, long))))

pub feed_at : (xs : List ℕ) (i : ℕ) → position is_feed xs ≡ Some i → get_or xs i 0 ≡ 10
feed_at xs i e = eqb-true (get_or xs i 0) 10 (position-Some is_feed xs i 0 e).1

pub line_whole : (xs : List ℕ) → position is_feed xs ≡ None → is_line xs ≡ true
line_whole xs e = line_by xs (λ k low. prefix_len_passes (λ b. not (is_feed b)) xs k 0 (omega (arith, low, all (nat_lt n (length xs)) refl e)))
  where
    n : ℕ
    n = prefix_len (λ b. not (is_feed b)) xs

    all : (b : Bool) → nat_lt n (length xs) ≡ b → cond b (Some n) None ≡ None → length xs ≤ n
    all true f g = absurd (cc g)
    all false f g = grind (arith, tests, f)

-- ---- lines

-- lines are no more than their bytes
few_lines : (lines : List (List ℕ)) → length lines ≤ length (text_of_lines lines)
few_lines [] = omega arith
few_lines (line ∷ lines) = omega (arith, few_lines lines, length-append (fed line) (text_of_lines lines), length-append line (10 ∷ []))

few_read : (bytes : List ℕ) (s : Option State) (line : List ℕ) (count : ℕ) → GoesWell bytes s line count → count ≤ length bytes
few_read bytes s line count h =
    omega (arith, few_lines h.lines, h.counted, ap (λ (l : List ℕ). length l) h.split, length-append (text_of_lines h.lines) line)

whole_now : (lines : List (List ℕ)) (line bytes : List ℕ) → bytes ≡ text_of_lines lines ++ line → bytes ++ 10 ∷ [] ≡ text_of_lines (lines ++ line ∷ []) ++ []
whole_now lines line bytes e =
    ap (λ t. t ++ 10 ∷ []) e
    ∙ append_assoc (text_of_lines lines) line (10 ∷ [])
    ∙ sym (text_push lines line)
    ∙ sym (append-nil (text_of_lines (lines ++ line ∷ [])))

took : (bytes : List ℕ) (s t : Option State) (line : List ℕ) (count next : ℕ) → length bytes < 2 ^ 30 → next ≡ min (count + 1) (2 ^ 64 - 1) → TakesNext s line true t
    → GoesWell bytes s line count → GoesWell (bytes ++ 10 ∷ []) t [] next
took bytes s t line count next short more takes h = record {
  lines = h.lines ++ line ∷ [];
  are = each_push (λ l. is_line l ≡ true) h.lines line h.are h.one;
  come = subst (ComeEach None (h.lines ++ line ∷ [])) (sym takes.2) (come_join h.lines (line ∷ []) None s (Some takes.0) h.come (takes.0, takes.1, refl));
  counted = omega (arith, more, short, few_read bytes s line count h, h.counted, length-append h.lines (line ∷ []));
  one = refl;
  split = whole_now h.lines line bytes h.split;
}

pub taken : (wrong : Bool) (bytes : List ℕ) (s t : Option State) (line : List ℕ) (count next : ℕ) → wrong ≡ false → length bytes < 2 ^ 30 → next ≡ min (count + 1) (2 ^ 64 - 1)
    → TakesNext s line true t → HasReadBy wrong bytes s line count → HasReadBy wrong (bytes ++ 10 ∷ []) t [] next
taken true bytes s t line count next is short more takes h = cc is
taken false bytes s t line count next is short more takes h = took bytes s t line count next short more takes h

-- a line that may not come goes on to no trace
no_trace : Exact → (lines : List (List ℕ)) (line : List ℕ) (s : Option State) → AreLines lines → is_line line ≡ true → ComeEach None lines s → ((next : State) → Comes s line next → ⊥)
    → BeginsTrace (text_of_lines lines ++ fed line) → ⊥
no_trace x lines line s are one come off h =
    let all = (x.begins (lines ++ line ∷ []) (each_push (λ l. is_line l ≡ true) lines line are one)).0 (subst BeginsTrace (sym (text_push lines line)) h) in
    let parts = come_front lines (line ∷ []) None all.0 all.1 in
    let last : ComeEach s (line ∷ []) all.0 = subst (λ u. ComeEach u (line ∷ []) all.0) (x.one lines parts.0 s parts.1 come) parts.2 in
    off last.0 last.1

pub refused : Exact → (wrong : Bool) (bytes : List ℕ) (s t : Option State) (line : List ℕ) (count : ℕ) → wrong ≡ false → TakesNext s line false t → HasReadBy wrong bytes s line count
    → WentWrong (bytes ++ 10 ∷ []) count
refused x true bytes s t line count is takes h = cc is
refused x false bytes s t line count is takes h = record {
  before = h.lines;
  rest = fed line;
  lines = h.are;
  counted = h.counted;
  split = ap (λ r. r ++ 10 ∷ []) h.split ∙ append_assoc (text_of_lines h.lines) line (10 ∷ []);
  begins = (x.begins h.lines h.are).1 (s, h.come);
  wrong = record { line = line; later = []; one = h.one; split = sym (append-nil (fed line)); none = no_trace x h.lines line s h.are h.one h.come takes };
}

-- ---- the end of the bytes

pub ends_wrong : (wrong : Bool) (bytes : List ℕ) (s : Option State) (line : List ℕ) (count next : ℕ) → wrong ≡ true → length bytes ≤ 2 ^ 30 → next ≡ min (count + 1) (2 ^ 64 - 1)
    → HasReadBy wrong bytes s line count → IsWrongAt bytes next
ends_wrong false bytes s line count next is short more h = cc is
ends_wrong true bytes s line count next is short more h = record {
  before = h.before;
  rest = h.rest;
  lines = h.lines;
  counted = omega (arith, more, h.counted, few_lines h.before, short, ap (λ (l : List ℕ). length l) h.split, length-append (text_of_lines h.before) h.rest);
  split = h.split;
  begins = h.begins;
  shows = inl h.wrong;
}

breaks_off : Exact → (bytes : List ℕ) (s : Option State) (line : List ℕ) (count next : ℕ) → length bytes ≤ 2 ^ 30 → next ≡ min (count + 1) (2 ^ 64 - 1) → (h : GoesWell bytes s line count)
    → (AreTrace (text_of_lines h.lines ++ line) → ⊥) → IsWrongAt bytes next
breaks_off x bytes s line count next short more h none = record {
  before = h.lines;
  rest = line;
  lines = h.are;
  counted = omega (arith, more, h.counted, few_read bytes s line count h, short);
  split = h.split;
  begins = (x.begins h.lines h.are).1 (s, h.come);
  shows = inr record { one = h.one; none = none };
}

-- where the last line isn't whole
pub ends_open : Exact → (wrong : Bool) (bytes : List ℕ) (s : Option State) (line : List ℕ) (count next : ℕ) → wrong ≡ false → (line ≡ [] → ⊥) → length bytes ≤ 2 ^ 30
    → next ≡ min (count + 1) (2 ^ 64 - 1) → HasReadBy wrong bytes s line count → IsWrongAt bytes next
ends_open x true bytes s line count next is some short more h = cc is
ends_open x false bytes s line count next is some short more h = breaks_off x bytes s line count next short more h (λ t. some (x.whole h.lines line h.are h.one t))

-- where another line should come
pub ends_early : Exact → (wrong : Bool) (bytes : List ℕ) (s : Option State) (line : List ℕ) (count next : ℕ) → wrong ≡ false → line ≡ [] → has_ended s ≡ false → length bytes ≤ 2 ^ 30
    → next ≡ min (count + 1) (2 ^ 64 - 1) → HasReadBy wrong bytes s line count → IsWrongAt bytes next
ends_early x true bytes s line count next is none off short more h = cc is
ends_early x false bytes s line count next is none off short more h = breaks_off x bytes s line count next short more h (λ t.
    false≢true (sym off ∙ (x.ends h.lines s h.are h.come).1 (subst AreTrace (ap (λ l. text_of_lines h.lines ++ l) none ∙ append-nil (text_of_lines h.lines)) t)))

-- where the last line of a trace came
pub ends_well : Exact → (wrong : Bool) (bytes : List ℕ) (s : State) (line : List ℕ) (count : ℕ) → wrong ≡ false → line ≡ [] → is_ended s.place ≡ true
    → HasReadBy wrong bytes (Some s) line count → IsTrace (contents_of s) × (text_of (contents_of s) ≡ bytes)
ends_well x true bytes s line count is none ended h = cc is
ends_well x false bytes s line count is none ended h =
    let told = x.says h.lines s h.come ended in
    (told.0, told.1 ∙ sym (append-nil (text_of_lines h.lines)) ∙ ap (λ l. text_of_lines h.lines ++ l) (sym none) ∙ sym h.split)

-- ---- what the functions of `lines` cite

pub empty_is : (line : List ℕ) (b : Bool) → b ≡ (length line == 0) → b ≡ true → line ≡ []
empty_is [] b e is = refl
empty_is (x ∷ line) b e is =
    let zero_is : length (x ∷ line) ≡ 0 = eqb-true (length (x ∷ line)) 0 (sym e ∙ is) in
    absurd (omega (arith, zero_is))

pub some_is : (line : List ℕ) (b : Bool) → b ≡ (length line == 0) → b ≡ false → line ≡ [] → ⊥
some_is line b e is none = false≢true (sym is ∙ e ∙ ap (λ (l : List ℕ). length l == 0) none)

pub next_of : (s : Option State) (first t : State) (line : List ℕ) (taken : Bool) → s ≡ Some first → TakesLine Follows first line taken t → TakesNext s line taken (Some t)
next_of s first t line taken is h = subst (λ u. TakesNext u line taken (Some t)) (sym is) (elim taken as (λ b. TakesLine Follows first line b t → TakesNext (Some first) line b (Some t)) [
  | true ↦ λ k. (t, k, refl)
  | false ↦ λ k. k
] h)

pub first_of : (s : Option State) (found : Option Reader) (line : List ℕ) (taken : Bool) → s ≡ None → taken ≡ is_some found → Begins line (option_map state_of found)
    → TakesNext s line taken (option_map state_of found)
first_of s found line taken is some h =
    subst (λ u. TakesNext u line taken (option_map state_of found)) (sym is) (subst (λ b. TakesNext None line b (option_map state_of found)) (sym some) (go found h))
  where
    go : (found : Option Reader) → Begins line (option_map state_of found) → TakesNext None line (is_some found) (option_map state_of found)
    go (Some r) k = (state_of r, k, refl)
    go None k = λ next b. k next.geometry b.0 b.1

pub feed_on : (seen bytes : List ℕ) (i : ℕ) → i < length bytes → get_or bytes i 0 ≡ 10 → (seen ++ take i bytes) ++ 10 ∷ [] ≡ seen ++ take (i + 1) bytes
feed_on seen bytes i low is =
    append_assoc seen (take i bytes) (10 ∷ []) ∙ ap (λ t. seen ++ t) (ap (λ b. take i bytes ++ b ∷ []) (sym is) ∙ sym (take_more bytes i 0 low))

pub taken_more : (bytes : List ℕ) (done more : ℕ) (first old now : Lines) → done ≤ length bytes → more ≤ length (drop done bytes) → old.wrong ≡ false
    → ((seen : List ℕ) → length seen + length bytes ≤ 2 ^ 30 → HasRead seen first → HasRead (seen ++ take done bytes) old)
    → ((seen : List ℕ) → length seen + length (drop done bytes) ≤ 2 ^ 30 → old.wrong ≡ false → HasRead seen old → HasRead (seen ++ take more (drop done bytes)) now)
    → (seen : List ℕ) → length seen + length bytes ≤ 2 ^ 30 → HasRead seen first → HasRead (seen ++ take (done + more) bytes) now
taken_more bytes done more first old now low fits going before next seen short h =
    subst (λ xs. HasRead xs now) (append_assoc seen (take done bytes) (take more (drop done bytes)) ∙ ap (λ t. seen ++ t) (sym (take-add done more bytes)))
    (next (seen ++ take done bytes) (omega (arith, short, low, length-append seen (take done bytes), length-take-le done bytes low, length-drop done bytes)) going (before seen short h))

pub told_as : (bytes : List ℕ) (c d : Contents) → c ≡ d → IsTrace c × (text_of c ≡ bytes) → IsTrace d × (text_of d ≡ bytes)
told_as bytes c d same h = (subst IsTrace same h.0, ap text_of (sym same) ∙ h.1)
