-- What records leave in a block is what its last payload stands for.
use Rattle.std.proofs.Common.{◌≡◌, ℕ, ◌+◌, Bool, true, false, if◌then◌else◌, List, [], ◌∷◌, Option, Some, None, refl, ◌∙◌, ap, arith}
use Rattle.base_types.specs.Seal.{Blocks}
use Rattle.layout_geometry.specs.Geometry.{Geometry}
use Rattle.layout_journal.specs.declared.entry.Entry.{Entry}
use Rattle.layout_journal.specs.declared.entry.EntryKind.{EntryKind}
use Rattle.layout_journal.specs.Run.{Record, heads, payload_from, names_block, or_else, covered_by}
use Rattle.engine_recover.specs.Payload.{stored_from, stored_in, or_before, stored_next, stored_after, bytes_of}

from_is : (g : Geometry) (img : Blocks) (place : ℕ) (es : List Entry) (b : ℕ) → payload_from g img place es b ≡ bytes_of img (stored_from g place es b)
from_is g img place [] b = refl
from_is g img place (e ∷ es) b = grind (arith, from_is g img (place + 1) es b)

next_is : (img : Blocks) (x o : Option (ℕ × EntryKind)) (f : Bool) → or_else (bytes_of img x) (if f then None else bytes_of img o) ≡ bytes_of img (or_before x (if f then None else o))
next_is img (Some x) o f = refl
next_is img None o true = refl
next_is img None o false = refl

all_is : (g : Geometry) (img : Blocks) (o : Option (ℕ × EntryKind)) (rs : List Record) (b : ℕ) → covered_by g img (bytes_of img o) rs b ≡ bytes_of img (stored_after g o rs b)
all_is g img o [] b = refl
all_is g img o (r ∷ rs) b =
    ap (λ (x : Option (List ℕ)). covered_by g img x rs b)
    (ap (λ (x : Option (List ℕ)). or_else x (if names_block r.fresh b then None else bytes_of img o)) (from_is g img (r.place + heads r) r.payloads b) ∙ next_is img (stored_in g r b) o (names_block r.fresh b))
    ∙ all_is g img (stored_next g o r b) rs b

pub covered : (g : Geometry) (img : Blocks) (rs : List Record) (b : ℕ) → covered_by g img None rs b ≡ bytes_of img (stored_after g None rs b)
covered g img rs b = all_is g img None rs b
