-- The names of the writes of a lawful log: no two writes have one.
use Rattle.std.proofs.Common.{suc, Some, ◌≡◌, ◌⊎◌, inl, inr, ⊎_elim, ℕ, ◌+◌, Bool, true, false, if◌then◌else◌, List, [], ◌∷◌, sym, ◌∙◌, ap}
use Rattle.std.proofs.lemmas.Bool.{or_left, or_right}
use Rattle.std.specs.List.{list_any}
use Rattle.disk_contract.specs.declared.event.Event.{Event}
use Rattle.disk_contract.specs.declared.event.Event.TheVariants.{Wrote, Lost, Noticed}
use Rattle.disk_contract.specs.Lawful.{IsLawful}
use Rattle.disk_memory.specs.Choice.{NamedWrite, same_name, writes_named, has_noticed, pending_of, pending_writes, is_pending}
use Rattle.disk_memory.specs.Settled.{name_from}
use Rattle.disk_memory.proofs.crash_images.FateBehind.{named_behind}
use Rattle.disk_memory.proofs.crash_images.FateNames.{same_place}
use Rattle.disk_memory.proofs.crash_images.FatePending.{same_name-same}

-- this write is one of these
abbrev pub IsIn : NamedWrite → List NamedWrite → Type 0
IsIn w [] = ⊥
IsIn w (v ∷ vs) = (v ≡ w) ⊎ IsIn w vs

-- a pending write is one of the log
in_pending : (log : List Event) (w : NamedWrite) (ws : List NamedWrite) → IsIn w (pending_of log ws) → IsIn w ws
in_pending log w [] i = i
in_pending log w (v ∷ vs) i = by (has_noticed log v.block (v ∷ vs)) (in_pending log w vs) i
  where
    by : (over : Bool) → (IsIn w (pending_of log vs) → IsIn w vs) → IsIn w (if over then pending_of log vs else v ∷ pending_of log vs) → (v ≡ w) ⊎ IsIn w vs
    by true rest i = inr (rest i)
    by false rest i = ⊎_elim inl (λ later. inr (rest later)) i

-- one of the writes of these events is at some place, which has its name
in_place : (lost : ℕ) (w : NamedWrite) (es : List Event) → IsIn w (writes_named lost es) → (p : ℕ) × (name_from lost es p ≡ Some w.name) × (named_behind lost es p ≡ w ∷ named_behind lost es (suc p))
in_place lost w [] i = absurd i
in_place lost w (Wrote t d x ∷ es) i = ⊎_elim
    (λ own. (0, ap (λ (v : NamedWrite). Some v.name) own, ap (λ (v : NamedWrite). v ∷ writes_named lost es) own))
    (λ rest. let there = in_place lost w es rest in (suc there.0, there.1, there.2)) i
in_place lost w (Lost d x ∷ es) i = ⊎_elim
    (λ own. (0, ap (λ (v : NamedWrite). Some v.name) own, ap (λ (v : NamedWrite). v ∷ writes_named (lost + 1) es) own))
    (λ rest. let there = in_place (lost + 1) w es rest in (suc there.0, there.1, there.2)) i
in_place lost w (Noticed t ∷ es) i = let there = in_place lost w es i in (suc there.0, there.1, there.2)

-- so two pending ones of a lawful log that have one name are one
pub one_pending : (log : List Event) (v w : NamedWrite) → IsLawful log → IsIn v (pending_writes log) → IsIn w (pending_writes log) → v.name ≡ w.name → v ≡ w
one_pending log v w lawful i j same =
    let first = in_place 0 v log (in_pending log v (writes_named 0 log) i) in
    let second = in_place 0 w log (in_pending log w (writes_named 0 log) j) in
    let place = same_place log first.0 second.0 v.name lawful first.1 (second.1 ∙ ap Some (sym same)) in
    let one : v ∷ named_behind 0 log (suc first.0) ≡ w ∷ named_behind 0 log (suc second.0) = sym first.2 ∙ ap (named_behind 0 log) place ∙ second.2 in
    cc

-- the name of one of these is found among them
found : (w : NamedWrite) (ws : List NamedWrite) → IsIn w ws → list_any (λ v. same_name v.name w.name) ws ≡ true
found w [] i = absurd i
found w (v ∷ vs) i = ⊎_elim (λ own. or_left _ _ (ap (λ (u : NamedWrite). same_name u.name w.name) own ∙ same_name-same w.name)) (λ rest. or_right _ _ (found w vs rest)) i

-- and so the name of a pending write is pending
pub name_pending : (log : List Event) (w : NamedWrite) → IsIn w (pending_writes log) → is_pending log w.name ≡ true
name_pending log w i = found w (pending_writes log) i
