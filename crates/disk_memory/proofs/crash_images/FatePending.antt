-- Whether a named write is pending, by its place in the log and the settled place of its block.
use Rattle.std.proofs.Common.{◌≡◌, ℕ, zero, suc, ◌+◌, ◌<◌, Bool, true, false, not, ◌||◌, if◌then◌else◌, nat_lt, nat_le, List, [], ◌∷◌, ◌++◌, length, Some, slice_get, slice_index_or, refl, sym, ◌∙◌, ap, subst, arith}
use Rattle.std.specs.List.{list_any}
use Rattle.std.proofs.lemmas.Bool.{or_left, eq-eqb, eqb-true, false_from_ne_true, false≢true}
use Rattle.std.proofs.lemmas.Bool.Decides.{nat_tests}
use Rattle.std.proofs.lemmas.Option.{none-some, same_Some}
use Rattle.disk_contract.specs.declared.event.Event.{Event}
use Rattle.disk_contract.specs.declared.event.Event.TheVariants.{Wrote, Lost, Noticed}
use Rattle.disk_contract.specs.Lawful.{IsLawful}
use Rattle.disk_memory.specs.declared.choice.WriteName.{WriteName}
use Rattle.disk_memory.specs.declared.choice.WriteName.TheVariants as names
use Rattle.disk_memory.specs.Choice.{NamedWrite, same_name, writes_named, has_noticed, pending_of, is_pending}
use Rattle.disk_memory.specs.Crash.{is_past}
use Rattle.disk_memory.specs.Log.{AreWithin}
use Rattle.disk_memory.specs.Settled.{name_from, name_at, IsSettledPlace, AreSettledPlaces}
use Rattle.disk_memory.proofs.crash_images.FateBehind.{named_behind, IsThere, behind_drop, behind_at}
use Rattle.disk_memory.proofs.crash_images.FateNames.{same_place}
use Rattle.disk_memory.proofs.settled_places.Pending.{over}
use Rattle.disk_memory.proofs.log_rows.Events.{write_within, lost_within}

-- two names are one where the test says so
pub same_name-true : (m n : WriteName) → same_name m n ≡ true → m ≡ n
same_name-true (names.Accepted t) (names.Accepted u) h = ap names.Accepted (eqb-true t u h)
same_name-true (names.Accepted t) (names.Lost g) h = absurd (false≢true h)
same_name-true (names.Lost f) (names.Accepted u) h = absurd (false≢true h)
same_name-true (names.Lost f) (names.Lost g) h = ap names.Lost (eqb-true f g h)

-- and the test says so of one name
pub same_name-same : (n : WriteName) → same_name n n ≡ true
same_name-same (names.Accepted t) = eq-eqb t t refl
same_name-same (names.Lost f) = eq-eqb f f refl

-- whether one of these writes has the name
abbrev has_name : WriteName → List NamedWrite → Bool
has_name name ws = list_any (λ w. same_name w.name name) ws

-- one more write in front changes nothing of that where it has another name
other_in_front : (log : List Event) (name : WriteName) (w : NamedWrite) (ws : List NamedWrite) (is : Bool) → (w.name ≡ name → ⊥) → has_name name (pending_of log ws) ≡ is → has_name name (pending_of log (w ∷ ws)) ≡ is
other_in_front log name w ws is other h = by (has_noticed log w.block (w ∷ ws))
  where
    differ : same_name w.name name ≡ false
    differ = false_from_ne_true _ (λ e. other (same_name-true w.name name e))

    by : (over : Bool) → has_name name (if over then pending_of log ws else w ∷ pending_of log ws) ≡ is
    by true = h
    by false = ap (λ t. t || has_name name (pending_of log ws)) differ ∙ h

-- where no place has the name, no pending write has it
pub none_pending : (log : List Event) (name : WriteName) (lost : ℕ) (es : List Event) → ((p : ℕ) → name_from lost es p ≡ Some name → ⊥) → has_name name (pending_of log (writes_named lost es)) ≡ false
none_pending log name lost [] none = refl
none_pending log name lost (Wrote t b x ∷ es) none = other_in_front log name _ (writes_named lost es) false (λ e. none 0 (ap Some e)) (none_pending log name lost es (λ p h. none (suc p) h))
none_pending log name lost (Lost b x ∷ es) none = other_in_front log name _ (writes_named (lost + 1) es) false (λ e. none 0 (ap Some e)) (none_pending log name (lost + 1) es (λ p h. none (suc p) h))
none_pending log name lost (Noticed t ∷ es) none = none_pending log name lost es (λ p h. none (suc p) h)

-- a write whose name no write behind it has is pending where it isn't over
own_in_front : (log : List Event) (w : NamedWrite) (ws : List NamedWrite) → has_name w.name (pending_of log ws) ≡ false → has_name w.name (pending_of log (w ∷ ws)) ≡ not (has_noticed log w.block (w ∷ ws))
own_in_front log w ws none = by (has_noticed log w.block (w ∷ ws))
  where
    by : (over : Bool) → has_name w.name (if over then pending_of log ws else w ∷ pending_of log ws) ≡ not over
    by true = none
    by false = or_left _ _ (same_name-same w.name)

-- so it is of a write that is this one
first : (log : List Event) (v w : NamedWrite) (ws : List NamedWrite) → v ≡ w → has_name w.name (pending_of log ws) ≡ false → has_name w.name (pending_of log (v ∷ ws)) ≡ not (has_noticed log w.block (v ∷ ws))
first log v w ws same none = subst (λ (u : NamedWrite). has_name w.name (pending_of log (u ∷ ws)) ≡ not (has_noticed log w.block (u ∷ ws))) (sym same) (own_in_front log w ws none)

-- where a name is that of one place, its write is pending exactly if it isn't over, with those behind it
pub pending_is : (log : List Event) (name : WriteName) (lost : ℕ) (es : List Event) (p b : ℕ) (x : List ℕ) → ((q : ℕ) → name_from lost es q ≡ Some name → p ≡ q)
    → named_behind lost es p ≡ record { name = name; block = b; bytes = x } ∷ named_behind lost es (suc p)
    → has_name name (pending_of log (writes_named lost es)) ≡ not (has_noticed log b (named_behind lost es p))
pending_is log name lost [] zero b x one own = absurd (cc)
pending_is log name lost [] (suc p) b x one own = absurd (cc)
pending_is log name lost (Wrote t c y ∷ es) zero b x one own =
    first log (record { name = names.Accepted t; block = c; bytes = y }) (record { name = name; block = b; bytes = x }) (writes_named lost es) (cc) (none_pending log name lost es (λ q h. omega (arith, one (suc q) h)))
pending_is log name lost (Lost c y ∷ es) zero b x one own =
    first log (record { name = names.Lost (lost + 1); block = c; bytes = y }) (record { name = name; block = b; bytes = x }) (writes_named (lost + 1) es) (cc) (none_pending log name (lost + 1) es (λ q h. omega (arith, one (suc q) h)))
pending_is log name lost (Noticed t ∷ es) zero b x one own = absurd (omega (arith, ap (λ (l : List NamedWrite). length l) own))
pending_is log name lost (Wrote t c y ∷ es) (suc p) b x one own = other_in_front log name (record { name = names.Accepted t; block = c; bytes = y }) (writes_named lost es) (not (has_noticed log b (named_behind lost es p))) (λ e. omega (arith, one 0 (ap Some e))) (pending_is log name lost es p b x (λ q h. omega (arith, one (suc q) h)) own)
pending_is log name lost (Lost c y ∷ es) (suc p) b x one own = other_in_front log name (record { name = names.Lost (lost + 1); block = c; bytes = y }) (writes_named (lost + 1) es) (not (has_noticed log b (named_behind (lost + 1) es p))) (λ e. omega (arith, one 0 (ap Some e))) (pending_is log name (lost + 1) es p b x (λ q h. omega (arith, one (suc q) h)) own)
pending_is log name lost (Noticed t ∷ es) (suc p) b x one own = pending_is log name lost es p b x (λ q h. omega (arith, one (suc q) h)) own

-- what isn't before a place is at it or behind it
not_below : (p place : ℕ) → not (nat_lt p place) ≡ nat_le place p
not_below p place = grind (arith, nat_tests)

-- the writes at a place and behind it are over for a block exactly where the place is before its settled place
pub over_behind : (log : List Event) (b place p : ℕ) → IsLawful log → IsSettledPlace log b place → has_noticed log b (named_behind 0 log p) ≡ nat_lt p place
over_behind log b place p lawful settled = ap (has_noticed log b) (behind_drop 0 log p).1 ∙ over log b place p (behind_drop 0 log p).0 lawful settled

-- the write of a name is pending exactly where its place isn't before what is settled of its block
pub pending_at : (n : ℕ) (log : List Event) (places : List ℕ) (p : ℕ) (e : Event) (name : WriteName) → IsLawful log → AreWithin n log → AreSettledPlaces n log places → slice_get log p ≡ Some e → name_at log p ≡ Some name → is_pending log name ≡ is_past places p e
pending_at n log places p e name lawful within settled here its = by e here (behind_at 0 log p e here)
  where
    named : (b : ℕ) (x : List ℕ) (own : WriteName) → b < n → name_at log p ≡ Some own → named_behind 0 log p ≡ record { name = own; block = b; bytes = x } ∷ named_behind 0 log (suc p) → is_pending log name ≡ nat_le (slice_index_or places b 0) p
    named b x own inside is behind =
        let same : own ≡ name = same_Some _ _ (sym is ∙ its) in
        ap (is_pending log) (sym same) ∙ pending_is log own 0 log p b x (λ q h. same_place log p q own lawful is h) behind ∙ ap not (over_behind log b _ p lawful (settled.each b inside)) ∙ not_below p _

    by : (f : Event) → slice_get log p ≡ Some f → IsThere 0 log p f → is_pending log name ≡ is_past places p f
    by (Wrote t b x) at there = named b x (names.Accepted t) (write_within n log p t b x within at) there.1 there.2
    by (Lost b x) at there = named b x (names.Lost (there.0 + 1)) (lost_within n log p b x within at) there.1 there.2
    by (Noticed t) at there = absurd (none-some name (sym there.1 ∙ its))
