-- What the pipeline's own data say of the ledger.
use Rattle.std.specs.Prelude.{◌≡◌, ◌≢◌, ℕ, ◌+◌, ◌<◌, ◌≤◌, ◌==◌, Bool, true, false, IsTrue, if◌then◌else◌, List, [], ◌∷◌, ◌++◌, length, slice_get, Some, None}
use Rattle.disk_contract.specs.declared.event.Event.{Event}
use Rattle.disk_contract.specs.declared.event.Event.TheVariants.{Wrote, Lost, Noticed}
use Rattle.disk_contract.specs.Cell.{greatest_ticket, IsNoticed}
use Rattle.layout_geometry.specs.Geometry.{ring_block}
use Rattle.layout_journal.specs.declared.header.Header.{Header}
use Rattle.layout_journal.specs.declared.entry.Entry.{Entry}
use Rattle.layout_journal.specs.Run.{places, is_live, names_block}
use Rattle.crash_argument.specs.Ledger.{Ledger, WrittenRecord, IsStanding, block_at, payload_in, next_number}

-- no event writes the block
abbrev pub AvoidsBlock : ℕ → List Event → Type 0
AvoidsBlock b [] = Unit {0}
AvoidsBlock b (Wrote ticket block bytes ∷ es) = (block ≢ b) × AvoidsBlock b es
AvoidsBlock b (Lost block bytes ∷ es) = (block ≢ b) × AvoidsBlock b es
AvoidsBlock b (Noticed ticket ∷ es) = AvoidsBlock b es

-- the last write to the block has this ticket
pub record IsLastWrite (log : List Event) (block ticket : ℕ) (bytes : List ℕ) : Type 0 where
  pub before : List Event
  pub later : List Event
  pub split : log ≡ before ++ (Wrote ticket block bytes ∷ later)
  pub above : greatest_ticket before < ticket
  pub fresh : ¬ IsNoticed ticket before
  pub last : AvoidsBlock block later

-- the ticket is one of these
abbrev pub is_among : List ℕ → ℕ → Bool
is_among [] t = false
is_among (u ∷ us) t = if u == t then true else is_among us t

-- the tickets of a record's writes, each of them the last one to its block
pub record HasTickets (log : List Event) (l : Ledger) (w : WrittenRecord) (tickets : List ℕ) : Type 0 where
  pub ring : (i : ℕ) → i < places w.says → (t : ℕ) × IsTrue (is_among tickets t) × IsLastWrite log (ring_block l.geom (w.says.place + i)) t (block_at w.ring i)
  pub fresh : l.header.sure < w.says.number → (i : ℕ) (e : Entry) → slice_get w.says.fresh i ≡ Some e → (t : ℕ) × IsTrue (is_among tickets t) × IsLastWrite log e.block t (block_at w.fresh i)

-- a data block that is live in no point that a crash may stand for
abbrev pub IsDead : Ledger → ℕ → Type 0
IsDead l b = (n : ℕ) → l.header.sure < n → n ≤ next_number l → is_live l.geom (l.map_before n) b ≡ false

-- Fresh blocks were dead up to their record, and are live after it. A block that a record has a payload for is live after it. A block that lives on without being named was live before.
pub record FreshAreNew (l : Ledger) : Type 0 where
  pub live : (k i : ℕ) (w : WrittenRecord) (e : Entry) → slice_get l.records k ≡ Some w → l.header.sure < w.says.number → slice_get w.says.fresh i ≡ Some e → IsTrue (is_live l.geom (l.map_before (w.says.number + 1)) e.block)
  pub dead : (k i n : ℕ) (w : WrittenRecord) (e : Entry) → slice_get l.records k ≡ Some w → l.header.sure < n → n ≤ w.says.number → slice_get w.says.fresh i ≡ Some e → is_live l.geom (l.map_before n) e.block ≡ false
  pub paid : (k b : ℕ) (w : WrittenRecord) (y : List ℕ) → slice_get l.records k ≡ Some w → payload_in w b ≡ Some y → IsTrue (is_live l.geom (l.map_before (w.says.number + 1)) b)
  pub kept : (k b : ℕ) (w : WrittenRecord) → slice_get l.records k ≡ Some w → payload_in w b ≡ None → names_block w.says.fresh b ≡ false → IsTrue (is_live l.geom (l.map_before (w.says.number + 1)) b) → IsTrue (is_live l.geom (l.map_before w.says.number) b)

-- The records as the pipeline has them: those that are at home, the batch on its way there, and the rest. No standing header starts behind the batch's first one.
pub record IsBatch (l : Ledger) (placed batch rest : List WrittenRecord) : Type 0 where
  pub split : l.records ≡ placed ++ (batch ++ rest)
  pub sure : l.header.start + length placed + length batch ≤ l.header.sure + 1
  pub from : (h : Header) → IsStanding l h → h.start ≤ l.header.start + length placed
