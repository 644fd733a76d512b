-- What is said of each write of a log: before any is named, and after one more is.
use Rattle.std.proofs.Common.{◌≡◌, ℕ, zero, suc, ◌+◌, ◌<◌, Bool, if◌then◌else◌, List, [], ◌∷◌, ◌++◌, length, map, take, slice_set, slice_get, Option, Some, refl, sym, ◌∙◌, ap, ap₂, subst, arith, ⊎_elim, length-set}
use Rattle.std.proofs.lemmas.Bool.{cases_eq, cond-true, cond-false, false_from_ne_true}
use Rattle.std.proofs.lemmas.List.{length-map, map-append}
use Rattle.std.proofs.lemmas.Option.{none-some, same_Some, slice_get_within}
use Rattle.disk_contract.specs.declared.event.Event.{Event}
use Rattle.disk_contract.specs.declared.event.Event.TheVariants.{Wrote, Lost, Noticed}
use Rattle.disk_contract.specs.Lawful.{IsLawful}
use Rattle.disk_memory.specs.declared.choice.WriteName.{WriteName}
use Rattle.disk_memory.specs.declared.choice.WriteName.TheVariants as names
use Rattle.disk_memory.specs.declared.choice.Fate.{Fate}
use Rattle.disk_memory.specs.declared.choice.Named.{Named}
use Rattle.disk_memory.specs.Choice.{same_name, joined, said_of, said_at_first}
use Rattle.disk_memory.specs.Crash.{first_fate}
use Rattle.disk_memory.specs.Settled.{name_from, name_at, AreFates}
use Rattle.disk_memory.proofs.crash_images.FateNames.{same_place}
use Rattle.disk_memory.proofs.crash_images.FatePending.{same_name-true, same_name-same}
use Rattle.disk_memory.proofs.log_rows.Events.{take_event}

-- before any write is named, what is said of it is described by its event
first_said : (all : Bool) (lost : ℕ) (es : List Event) (p : ℕ) (name : WriteName) → name_from lost es p ≡ Some name → slice_get (map (λ e. first_fate e all) es) p ≡ Some (said_at_first all name)
first_said all lost [] p name h = absurd (none-some name h)
first_said all lost (Wrote t b x ∷ es) zero name h =
    let same : names.Accepted t ≡ name = same_Some _ _ h in
    ap (λ n. Some (said_at_first all n)) same
first_said all lost (Lost b x ∷ es) zero name h =
    let same : names.Lost (lost + 1) ≡ name = same_Some _ _ h in
    ap (λ n. Some (said_at_first all n)) same
first_said all lost (Noticed t ∷ es) zero name h = absurd (none-some name h)
first_said all lost (Wrote t b x ∷ es) (suc p) name h = first_said all lost es p name h
first_said all lost (Lost b x ∷ es) (suc p) name h = first_said all (lost + 1) es p name h
first_said all lost (Noticed t ∷ es) (suc p) name h = first_said all lost es p name h

-- so the first fates of the events are those of no named writes
pub fates_first : (all : Bool) (log : List Event) → AreFates log all [] (map (λ e. first_fate e all) log)
fates_first all log = record {
  size = length-map log _;
  each = first_said all 0 log;
}

-- what is said first and then more is said one after the other
pub said-append : (ns ms : List Named) (name : WriteName) (before : Option Fate) → said_of (ns ++ ms) name before ≡ said_of ms name (said_of ns name before)
said-append [] ms name before = refl
said-append (n ∷ ns) ms name before = said-append ns ms name (if same_name n.write name then joined before n.fate else before)

-- what is said of the write that is named
said_own : (said : List Named) (name : WriteName) (fate : Fate) (before now : Option Fate) → said_of said name before ≡ now → said_of (said ++ record { write = name; fate = fate } ∷ []) name before ≡ joined now fate
said_own said name fate before now h = said-append said (record { write = name; fate = fate } ∷ []) name before ∙ cond-true (same_name name name) _ _ (same_name-same name) ∙ ap (λ r. joined r fate) h

-- and of another one
said_other : (said : List Named) (write name : WriteName) (fate : Fate) (before : Option Fate) → (write ≡ name → ⊥) → said_of (said ++ record { write = write; fate = fate } ∷ []) name before ≡ said_of said name before
said_other said write name fate before other = said-append said (record { write = write; fate = fate } ∷ []) name before ∙ cond-false (same_name write name) _ _ (false_from_ne_true _ (λ e. other (same_name-true write name e)))

-- a row after one of its values was set
set_own : {A : Type 0} (xs : List A) (p : ℕ) (y : A) → p < length xs → slice_get (slice_set xs p y) p ≡ Some y
set_own [] p y h = absurd (omega arith)
set_own (x ∷ xs) zero y h = refl
set_own (x ∷ xs) (suc p) y h = set_own xs p y (omega arith)

-- the others stay
set_other : {A : Type 0} (xs : List A) (p q : ℕ) (y : A) → (p ≡ q → ⊥) → slice_get (slice_set xs p y) q ≡ slice_get xs q
set_other [] p q y h = refl
set_other (x ∷ xs) zero zero y h = absurd (h refl)
set_other (x ∷ xs) zero (suc q) y h = refl
set_other (x ∷ xs) (suc p) zero y h = refl
set_other (x ∷ xs) (suc p) (suc q) y h = set_other xs p q y (λ e. h (ap suc e))

-- one more write is named, of which `now` was said
pub fates_more : (log : List Event) (all : Bool) (said : List Named) (fates : List (Option Fate)) (p : ℕ) (write : WriteName) (fate : Fate) (now after : Option Fate) → IsLawful log → AreFates log all said fates → name_at log p ≡ Some write
    → slice_get fates p ≡ Some now → after ≡ joined now fate → AreFates log all (said ++ record { write = write; fate = fate } ∷ []) (slice_set fates p after)
fates_more log all said fates p write fate now after lawful were here old is = record {
  size = length-set fates p after ∙ were.size;
  each = λ q name its. ⊎_elim (λ e. own q name its e) (λ e. other q name its e) (cases_eq p q);
}
  where
    own : (q : ℕ) (name : WriteName) → name_at log q ≡ Some name → p ≡ q → slice_get (slice_set fates p after) q ≡ Some (said_of (said ++ record { write = write; fate = fate } ∷ []) name (said_at_first all name))
    own q name its e =
        let same : write ≡ name = same_Some _ _ (sym here ∙ ap (name_at log) e ∙ its) in
        let before : said_of said write (said_at_first all write) ≡ now = same_Some _ _ (sym (were.each p write here) ∙ old) in
        let set : slice_get (slice_set fates p after) p ≡ Some after = set_own fates p after (slice_get_within fates p now old) in
        let said_now : Some after ≡ Some (said_of (said ++ record { write = write; fate = fate } ∷ []) write (said_at_first all write)) = ap Some (is ∙ sym (said_own said write fate (said_at_first all write) now before)) in
        ap (λ r. slice_get (slice_set fates p after) r) (sym e) ∙ set ∙ said_now ∙ ap (λ (n : WriteName). Some (said_of (said ++ record { write = write; fate = fate } ∷ []) n (said_at_first all n))) same

    other : (q : ℕ) (name : WriteName) → name_at log q ≡ Some name → (p ≡ q → ⊥) → slice_get (slice_set fates p after) q ≡ Some (said_of (said ++ record { write = write; fate = fate } ∷ []) name (said_at_first all name))
    other q name its e =
        let differ = λ (same : write ≡ name). e (same_place log p q name lawful (here ∙ ap Some same) its) in
        set_other fates p q after e ∙ were.each q name its ∙ ap Some (sym (said_other said write name fate (said_at_first all name) differ))

-- one event more has its first fate
pub first_step : (all : Bool) (es : List Event) (i : ℕ) (e : Event) (old new : List (Option Fate)) (f : Option Fate) → old ≡ map (λ e. first_fate e all) (take i es) → slice_get es i ≡ Some e → f ≡ first_fate e all
    → new ≡ old ++ f ∷ [] → new ≡ map (λ e. first_fate e all) (take (i + 1) es)
first_step all es i e old new f were at its grown =
    grown ∙ ap₂ (λ (l : List (Option Fate)) o. l ++ o ∷ []) were its ∙ sym (map-append (λ e. first_fate e all) (take i es) (e ∷ [])) ∙ ap (map (λ e. first_fate e all)) (sym (take_event es i e at))

-- behind the last event all have theirs
pub first_end : (all : Bool) (es : List Event) (i moment : ℕ) (fates : List (Option Fate)) → fates ≡ map (λ e. first_fate e all) (take i es) → i ≡ moment → AreFates (take moment es) all [] fates
first_end all es i moment fates are done = subst (AreFates (take moment es) all []) (sym (are ∙ ap (λ k. map (λ e. first_fate e all) (take k es)) done)) (fates_first all (take moment es))
