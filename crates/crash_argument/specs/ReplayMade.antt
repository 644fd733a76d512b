-- What a mount that replays may write, event by event: a closed header beside the newest one, the blocks that the run covers, and a header of a new epoch.
use Rattle.std.specs.Prelude.{ℕ, zero, suc, ◌+◌, ◌-◌, List, [], ◌∷◌, ◌++◌, Option, Some, None}
use Rattle.base_types.specs.Seal.{Blocks}
use Rattle.disk_contract.specs.declared.event.Event.{Event}
use Rattle.disk_contract.specs.declared.event.Event.TheVariants.{Wrote, Noticed}
use Rattle.layout_geometry.specs.Geometry.{bitmap_start}
use Rattle.layout_journal.specs.declared.header.Header.{Header}
use Rattle.layout_journal.specs.Spelling.{header_block}
use Rattle.layout_journal.specs.Run.{Record, covered_by}
use Rattle.crash_argument.specs.Opening.{last_number, opening_header, closed_header}

-- the header that closes the run of this one
abbrev pub closing_header : Header → List Record → Header
closing_header h run = closed_header h (last_number h run)

-- First it is written beside the newest header, which is in this slot.
abbrev pub closing_events : ℕ → ℕ → Header → List Record → List Event
closing_events ticket slot h run = Wrote ticket (1 - slot) (header_block (closing_header h run)) ∷ []

-- Then its notice comes.
abbrev pub closed_events : ℕ → ℕ → Header → List Record → List Event
closed_events ticket slot h run = Wrote ticket (1 - slot) (header_block (closing_header h run)) ∷ Noticed ticket ∷ []

-- the bytes that belong in a block, if there are any, written to it and noticed
abbrev pub home_write : ℕ → ℕ → Option (List ℕ) → List Event
home_write ticket block None = []
home_write ticket block (Some x) = Wrote ticket block x ∷ Noticed ticket ∷ []

-- so for this many blocks from this one on, one after another, with ascending tickets
abbrev pub home_events : (ℕ → Option (List ℕ)) → ℕ → ℕ → ℕ → List Event
home_events left ticket block zero = []
home_events left ticket block (suc more) = home_write ticket block (left block) ++ home_events left (ticket + 1) (block + 1) more

-- Then each block behind the journal that the run covers is written as the run leaves it.
abbrev pub replay_events : Blocks → ℕ → Header → List Record → List Event
replay_events at ticket h run = home_events (covered_by h.geom at None run) ticket (bitmap_start h.geom) (h.geom.n - bitmap_start h.geom)

-- Last, the header of a new epoch is written over the one that was the newest.
abbrev pub opening_events : Blocks → ℕ → ℕ → ℕ → Header → List Record → ℕ → List Event
opening_events at ticket later slot h run greatest_epoch =
    closed_events ticket slot h run ++ (replay_events at (ticket + 1) h run ++ Wrote later slot (header_block (opening_header (closing_header h run) (last_number h run) greatest_epoch)) ∷ [])

-- Where the newest header is closed already, no header is written first: the blocks go to their places, and then the header of a new epoch beside it.
abbrev pub reopening_events : Blocks → ℕ → ℕ → ℕ → Header → List Record → ℕ → List Event
reopening_events at ticket later slot h run greatest_epoch =
    replay_events at ticket h run ++ Wrote later (1 - slot) (header_block (opening_header h (last_number h run) greatest_epoch)) ∷ []
