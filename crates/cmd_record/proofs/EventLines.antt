-- The lines of a log's events, one by one.
use Rattle.std.proofs.Common.{◌≡◌, ℕ, zero, suc, ◌+◌, ◌-◌, ◌<◌, ◌≤◌, List, [], ◌∷◌, ◌++◌, length, take, drop, Option, Some, slice_get, Result, Ok, Err, OnErr, refl, sym, ap, ◌∙◌, subst, arith, append_assoc, append-nil, take-append-drop, take_all, rules}
use Rattle.std.proofs.Math.Seq.{take-append-add}
use Rattle.std.proofs.lemmas.List.{length-take-le, length-drop, drop-drop}
use Rattle.std.specs.Io.KnownBytes.{Appends}
use Rattle.std.proofs.KnownBytes.{Appends-trans}
use Rattle.disk_contract.specs.declared.event.Event.{Event}
use Rattle.cmd_trace.specs.Line.{event_line, event_lines}

-- a front of a text is one of a longer text
seam : (xs ys : List ℕ) → take (length xs) (xs ++ ys) ≡ xs
seam [] ys = refl
seam (x ∷ xs) ys = ap (λ (l : List ℕ). x ∷ l) (seam xs ys)

front : (xs ys : List ℕ) (k : ℕ) → take (length (take k xs)) (xs ++ ys) ≡ take k xs
front xs ys k =
    ap (λ (l : List ℕ). take (length (take k xs)) (l ++ ys)) (sym (take-append-drop k xs))
    ∙ ap (λ (l : List ℕ). take (length (take k xs)) l) (append_assoc (take k xs) (drop k xs) ys)
    ∙ seam (take k xs) (drop k xs ++ ys)

pub lines_append : (xs ys : List Event) → event_lines (xs ++ ys) ≡ event_lines xs ++ event_lines ys
lines_append [] ys = refl
lines_append (x ∷ xs) ys = ap (λ (l : List ℕ). event_line x ++ l) (lines_append xs ys) ∙ sym (append_assoc (event_line x) (event_lines xs) (event_lines ys))

-- from its place on, a log has the event of that place and those behind it
from_place : (log : List Event) (place : ℕ) (e : Event) → slice_get log place ≡ Some e → (place < length log) × (drop place log ≡ e ∷ drop (suc place) log)
from_place [] zero e is = absurd (search rules)
from_place [] (suc place) e is = absurd (search rules)
from_place (x ∷ log) zero e is = (omega arith, ap (λ (y : Event). y ∷ log) (some_is x e is))
  where
    some_is : (a b : Event) → Some a ≡ Some b → a ≡ b
    some_is a b same = search rules
from_place (x ∷ log) (suc place) e is = let r = from_place log place e is in (omega (arith, r.0), r.1)

-- the events from one place up to another that isn't before it, and then one more
module _ (log : List Event) (from place : ℕ) (e : Event) (up : from ≤ place) (is : slice_get log place ≡ Some e) where
  abbrev pub so_far : List Event
  so_far = take (place - from) (drop from log)

  long : length so_far ≡ place - from
  long = length-take-le (place - from) (drop from log) (omega (arith, length-drop from log, (from_place log place e is).0, up))

  rest : drop (place - from) (drop from log) ≡ e ∷ drop (suc place) log
  rest = drop-drop (place - from) from log ∙ ap (λ (k : ℕ). drop k log) (omega (arith, up)) ∙ (from_place log place e is).1

  all : drop from log ≡ so_far ++ e ∷ drop (suc place) log
  all = sym (take-append-drop (place - from) (drop from log)) ∙ ap (λ (xs : List Event). so_far ++ xs) rest

  pub one_more : event_lines (take (place + 1 - from) (drop from log)) ≡ event_lines (take (place - from) (drop from log)) ++ event_line e
  one_more =
      ap (λ (k : ℕ). event_lines (take k (drop from log))) (omega (arith, up, long))
      ∙ ap (λ (xs : List Event). event_lines (take (length so_far + 1) xs)) all
      ∙ ap event_lines (take-append-add so_far (e ∷ drop (suc place) log) 1)
      ∙ lines_append so_far (e ∷ [])
      ∙ ap (λ (l : List ℕ). event_lines so_far ++ l) (append-nil (event_line e))

  -- a front of this event's line, behind the lines so far
  pub cut_within : (n : ℕ) → (m : ℕ) × (event_lines so_far ++ take n (event_line e) ≡ take m (event_lines (drop from log)))
  cut_within n = (
    length (event_lines so_far) + length (take n (event_line e)),
    sym (
        ap (λ (xs : List Event). take (length (event_lines so_far) + length (take n (event_line e))) (event_lines xs)) all
        ∙ ap (λ (l : List ℕ). take (length (event_lines so_far) + length (take n (event_line e))) l) (lines_append so_far (e ∷ drop (suc place) log))
        ∙ take-append-add (event_lines so_far) (event_line e ++ event_lines (drop (suc place) log)) (length (take n (event_line e)))
        ∙ ap (λ (l : List ℕ). event_lines so_far ++ l) (front (event_line e) (event_lines (drop (suc place) log)) n)),
  )

-- So many lines are written.
pub record IsWritten (from place : ℕ) (log : List Event) (before after : Option (List ℕ)) (first now : ℕ) : Type 0 where
  pub up : from ≤ place
  pub text : Appends before after (event_lines (take (place - from) (drop from log)))
  pub faults : now ≡ first

pub written_more : (from place : ℕ) (log : List Event) (e : Event) (before mid after : Option (List ℕ)) (first then now : ℕ) → slice_get log place ≡ Some e → IsWritten from place log before mid first then → Appends mid after (event_line e) → now ≡ then
    → IsWritten from (place + 1) log before after first now
written_more from place log e before mid after first then now is w told same = record {
  up = omega (arith, w.up);
  text = subst (λ (l : List ℕ). Appends before after l) (sym (one_more log from place e w.up is)) (Appends-trans before mid after (event_lines (take (place - from) (drop from log))) (event_line e) w.text told);
  faults = same ∙ w.faults;
}

pub written_cut : {T E : Type 0} (r : Result T E) (from place : ℕ) (log : List Event) (e : Event) (before mid after : Option (List ℕ)) (first then n : ℕ) → slice_get log place ≡ Some e → IsWritten from place log before mid first then → Appends mid after (take n (event_line e))
    → OnErr r ((m : ℕ) × Appends before after (take m (event_lines (drop from log))))
written_cut (Ok x) from place log e before mid after first then n is w told = tt
written_cut (Err x) from place log e before mid after first then n is w told =
    let cut = cut_within log from place e w.up is n in
    (cut.0, subst (λ (l : List ℕ). Appends before after l) cut.1 (Appends-trans before mid after (event_lines (take (place - from) (drop from log))) (take n (event_line e)) w.text told))

pub written_all : (from place : ℕ) (log : List Event) (before after : Option (List ℕ)) (first now : ℕ) → length log ≤ place → IsWritten from place log before after first now → Appends before after (event_lines (drop from log))
written_all from place log before after first now past w =
    subst (λ (es : List Event). Appends before after (event_lines es)) (take_all (place - from) (drop from log) (omega (arith, length-drop from log, past, w.up))) w.text

-- Two texts, one behind the other: a front of the first, or all of it and a front of the second, is a front of both.
pub first_cut : {T E : Type 0} (r : Result T E) (before after : Option (List ℕ)) (xs ys : List ℕ) (n : ℕ) → Appends before after (take n xs) → OnErr r ((m : ℕ) × Appends before after (take m (xs ++ ys)))
first_cut (Ok x) before after xs ys n told = tt
first_cut (Err e) before after xs ys n told = (length (take n xs), subst (λ (l : List ℕ). Appends before after l) (sym (front xs ys n)) told)

pub second_cut : {T E : Type 0} (r : Result T E) (before mid after : Option (List ℕ)) (xs ys : List ℕ) (n : ℕ) → Appends before mid xs → Appends mid after (take n ys) → OnErr r ((m : ℕ) × Appends before after (take m (xs ++ ys)))
second_cut (Ok x) before mid after xs ys n first told = tt
second_cut (Err e) before mid after xs ys n first told = (length xs + n, subst (λ (l : List ℕ). Appends before after l) (sym (take-append-add xs ys n)) (Appends-trans before mid after xs (take n ys) first told))
