-- Where a payload is in the journal, there is a ring place.
use Rattle.std.proofs.Common.{IfSome, ◌≡◌, inl, inr, ℕ, ◌+◌, ◌==◌, Bool, true, false, if◌then◌else◌, List, [], ◌∷◌, Option, Some, None, refl, subst}
use Rattle.std.proofs.lemmas.Bool.{cases_Bool}
use Rattle.layout_geometry.specs.Geometry.{Geometry, ring_block}
use Rattle.layout_journal.specs.declared.entry.Entry.{Entry}
use Rattle.layout_journal.specs.declared.entry.EntryKind.{EntryKind}
use Rattle.layout_journal.specs.Run.{Record, heads, names_block}
use Rattle.engine_recover.specs.Payload.{stored_from, stored_in, or_before, stored_next, stored_after}

-- where something is stored, it is a ring place
abbrev InRing : Geometry → Option (ℕ × EntryKind) → Type 0
InRing g o = IfSome o (λ p. (place : ℕ) × (p.0 ≡ ring_block g place))

-- a payload is in the ring
from_in : (g : Geometry) (place : ℕ) (es : List Entry) (b : ℕ) → InRing g (stored_from g place es b)
from_in g place [] b = tt
from_in g place (e ∷ es) b = elim (cases_Bool (e.block == b)) [
  | inl yes' ↦ rw yes' (place, refl)
  | inr no' ↦ rw no' (from_in g (place + 1) es b)
]

-- so it stays with what was before
or_in : (g : Geometry) (x y : Option (ℕ × EntryKind)) → InRing g x → InRing g y → InRing g (or_before x y)
or_in g None y a b = b
or_in g (Some x) y a b = a

-- or with nothing in its place
test_in : (g : Geometry) (t : Bool) (o : Option (ℕ × EntryKind)) → InRing g o → InRing g (if t then None else o)
test_in g true o a = tt
test_in g false o a = a

all_in : (g : Geometry) (rs : List Record) (o : Option (ℕ × EntryKind)) (b : ℕ) → InRing g o → InRing g (stored_after g o rs b)
all_in g [] o b a = a
all_in g (r ∷ rs) o b a = all_in g rs (stored_next g o r b) b (or_in g (stored_in g r b) (if names_block r.fresh b then None else o) (from_in g (r.place + heads r) r.payloads b) (test_in g (names_block r.fresh b) o a))

-- where the last payload of a block is
pub stored_in_ring : (g : Geometry) (rs : List Record) (b at : ℕ) (kind : EntryKind) → stored_after g None rs b ≡ Some (at, kind) → (place : ℕ) × (at ≡ ring_block g place)
stored_in_ring g rs b at kind is = subst (InRing g) is (all_in g rs None b tt)
