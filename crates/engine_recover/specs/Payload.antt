-- Where the last payload of a block is in the journal.
use Rattle.std.specs.Prelude.{ℕ, ◌+◌, ◌==◌, if◌then◌else◌, List, [], ◌∷◌, Option, Some, None}
use Rattle.base_types.specs.Seal.{Blocks}
use Rattle.layout_journal.specs.Layout.{unescaped}
use Rattle.layout_geometry.specs.Geometry.{Geometry, ring_block}
use Rattle.layout_journal.specs.declared.entry.Entry.{Entry}
use Rattle.layout_journal.specs.declared.entry.EntryKind.{EntryKind}
use Rattle.layout_journal.specs.Run.{Record, heads, names_block}

-- the block and the kind of the payload for b, given that the payloads' blocks stand from this ring place on
abbrev pub stored_from : Geometry → ℕ → List Entry → ℕ → Option (ℕ × EntryKind)
stored_from g place [] b = None
stored_from g place (e ∷ es) b = if e.block == b then Some (ring_block g place, e.kind) else stored_from g (place + 1) es b

abbrev pub stored_in : Geometry → Record → ℕ → Option (ℕ × EntryKind)
stored_in g r b = stored_from g (r.place + heads r) r.payloads b

abbrev pub or_before : Option (ℕ × EntryKind) → Option (ℕ × EntryKind) → Option (ℕ × EntryKind)
or_before None y = y
or_before (Some x) y = Some x

-- one record more: its payload, or none where it names the block as fresh, or what was before
abbrev pub stored_next : Geometry → Option (ℕ × EntryKind) → Record → ℕ → Option (ℕ × EntryKind)
stored_next g before r b = or_before (stored_in g r b) (if names_block r.fresh b then None else before)

-- the last entry that names the block decides
abbrev pub stored_after : Geometry → Option (ℕ × EntryKind) → List Record → ℕ → Option (ℕ × EntryKind)
stored_after g before [] b = before
stored_after g before (r ∷ rs) b = stored_after g (stored_next g before r b) rs b

-- the bytes that a stored payload stands for, in an image
abbrev pub bytes_of : Blocks → Option (ℕ × EntryKind) → Option (List ℕ)
bytes_of img None = None
bytes_of img (Some p) = Some (unescaped p.1 (img p.0))
