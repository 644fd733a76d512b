-- The writes of a log from a place on, with their names, and the one that is there.
use Rattle.std.proofs.Common.{◌≡◌, ℕ, zero, suc, ◌+◌, List, [], ◌∷◌, ◌++◌, drop, slice_get, Some, refl, ap, subst}
use Rattle.std.proofs.lemmas.Option.{none-some}
use Rattle.disk_contract.specs.declared.event.Event.{Event}
use Rattle.disk_contract.specs.declared.event.Event.TheVariants.{Wrote, Lost, Noticed}
use Rattle.disk_memory.specs.declared.choice.WriteName.TheVariants as names
use Rattle.disk_memory.specs.Choice.{NamedWrite, writes_named}
use Rattle.disk_memory.specs.Settled.{name_from}

-- the writes at a place and behind it, where so many were lost before these events
abbrev pub named_behind : ℕ → List Event → ℕ → List NamedWrite
named_behind lost es zero = writes_named lost es
named_behind lost [] (suc p) = []
named_behind lost (Wrote t b x ∷ es) (suc p) = named_behind lost es p
named_behind lost (Lost b x ∷ es) (suc p) = named_behind (lost + 1) es p
named_behind lost (Noticed t ∷ es) (suc p) = named_behind lost es p

-- they are those of the events from the place on, where some number was lost before it
pub behind_drop : (lost : ℕ) (es : List Event) (p : ℕ) → (m : ℕ) × (named_behind lost es p ≡ writes_named m (drop p es))
behind_drop lost es zero = (lost, refl)
behind_drop lost [] (suc p) = (lost, refl)
behind_drop lost (Wrote t b x ∷ es) (suc p) = behind_drop lost es p
behind_drop lost (Lost b x ∷ es) (suc p) = behind_drop (lost + 1) es p
behind_drop lost (Noticed t ∷ es) (suc p) = behind_drop lost es p

-- the event at a place, where some number was lost before it
abbrev pub IsThere : ℕ → List Event → ℕ → Event → Type 0
IsThere lost es p e = (m : ℕ) × (name_from lost es p ≡ name_from m (e ∷ []) 0) × (named_behind lost es p ≡ writes_named m (e ∷ []) ++ named_behind lost es (suc p))

-- what is read at a place is that event
pub behind_at : (lost : ℕ) (es : List Event) (p : ℕ) (e : Event) → slice_get es p ≡ Some e → IsThere lost es p e
behind_at lost [] p e h = absurd (none-some _ h)
behind_at lost (f ∷ es) zero e h =
    let same : f ≡ e = cc in
    subst (IsThere lost (f ∷ es) 0) same (own f)
  where
    own : (g : Event) → IsThere lost (g ∷ es) 0 g
    own (Wrote t b x) = (lost, refl, refl)
    own (Lost b x) = (lost, refl, refl)
    own (Noticed t) = (lost, refl, refl)
behind_at lost (Wrote u c y ∷ es) (suc p) e h = behind_at lost es p e h
behind_at lost (Lost c y ∷ es) (suc p) e h = behind_at (lost + 1) es p e h
behind_at lost (Noticed u ∷ es) (suc p) e h = behind_at lost es p e h

-- and where an accepted write's name is known, the write stands
pub name_there : (lost : ℕ) (es : List Event) (p t : ℕ) → name_from lost es p ≡ Some (names.Accepted t) → (b : ℕ) × (x : List ℕ) × (slice_get es p ≡ Some (Wrote t b x))
name_there lost [] p t name = absurd cc
name_there lost (Wrote u b x ∷ es) zero t name = let same : u ≡ t = cc in (b, x, ap (λ k. Some (Wrote k b x)) same)
name_there lost (Lost b x ∷ es) zero t name = absurd cc
name_there lost (Noticed u ∷ es) zero t name = absurd cc
name_there lost (Wrote u b x ∷ es) (suc p) t name = name_there lost es p t name
name_there lost (Lost b x ∷ es) (suc p) t name = name_there (lost + 1) es p t name
name_there lost (Noticed u ∷ es) (suc p) t name = name_there lost es p t name
