-- The record of a transaction: what its puts say, how it is written, and when it may follow those of the journal.
use Rattle.std.specs.Prelude.{◌≡◌, ℕ, zero, suc, ◌+◌, ◌<◌, ◌≤◌, false, IsTrue, List, [], ◌∷◌, ◌++◌, length, map, slice_get, Some}
use Rattle.base_types.specs.Seal.{Blocks, sha256}
use Rattle.layout_journal.specs.declared.header.Header.{Header}
use Rattle.layout_journal.specs.declared.entry.Entry.{Entry}
use Rattle.layout_journal.specs.declared.entry.EntryKind.TheVariants.{Fresh}
use Rattle.layout_journal.specs.Layout.{descriptor_count}
use Rattle.layout_journal.specs.Spelling.{commit_block, descriptor_block, stored_of, stored_kind}
use Rattle.layout_journal.specs.Run.{Record, entries, places, commit_says, descriptor_says, entries_fit, all_places, place_after, names_block, is_live}
use Rattle.crash_argument.specs.Ledger.{Ledger, WrittenRecord, block_at, IsStanding, next_number, all_say}
use Rattle.crash_argument.specs.LastWrites.{IsDead}
use Rattle.engine_running.specs.declared.put.Put.{Put}

-- the entry of a block whose bytes go into the journal
abbrev pub payload_entry : Put → Entry
payload_entry p = record { block = p.block; kind = stored_kind p.bytes; digest = sha256 (stored_of p.bytes) }

-- the entry of a block whose bytes go to the block itself
abbrev pub fresh_entry : Put → Entry
fresh_entry p = record { block = p.block; kind = Fresh; digest = sha256 p.bytes }

-- the bytes of a put as the journal stores them
abbrev pub stored_put : Put → List ℕ
stored_put p = stored_of p.bytes

abbrev pub bytes_of : Put → List ℕ
bytes_of p = p.bytes

-- the record with these payloads and fresh blocks
abbrev pub record_of : ℕ → ℕ → List Put → List Put → Record
record_of number place paid laid = record { number = number; place = place; payloads = map payload_entry paid; fresh = map fresh_entry laid }

-- so many blocks of its descriptors, from this one on
abbrev pub descriptors_from : ℕ → Record → ℕ → ℕ → List (List ℕ)
descriptors_from epoch r i zero = []
descriptors_from epoch r i (suc more) = descriptor_block (descriptor_says epoch r i) ∷ descriptors_from epoch r (i + 1) more

-- the blocks of its descriptors
abbrev pub descriptor_blocks : ℕ → Record → List (List ℕ)
descriptor_blocks epoch r = descriptors_from epoch r 0 (descriptor_count (length (entries r)))

-- the record as it is written: its commit block, its descriptors and its payloads in the ring, and its fresh blocks
abbrev pub written_of : ℕ → ℕ → ℕ → List Put → List Put → WrittenRecord
written_of epoch number place paid laid = record {
  says = record_of number place paid laid;
  ring = commit_block (commit_says epoch (record_of number place paid laid)) ∷ (descriptor_blocks epoch (record_of number place paid laid) ++ map stored_put paid);
  fresh = map bytes_of laid;
}

-- A transaction with these puts may be the next record, and m is the map after it.
pub record IsTransaction (l : Ledger) (epoch number place : ℕ) (paid laid : List Put) (m : Blocks) : Type 0 where
  pub is_next : number ≡ next_number l
  pub is_epoch : epoch ≡ l.epoch
  pub not_closed : (h : Header) → IsStanding l h → h.closed ≡ false
  pub is_place : place ≡ place_after l.geom.j l.header.at (all_say l.records)
  pub within : all_places (all_say l.records) + places (record_of number place paid laid) ≤ l.geom.j
  -- its entries are in order
  pub fit : IsTrue (entries_fit l.geom (record_of number place paid laid))
  -- its fresh blocks are dead before it and live after it
  pub dead : (i : ℕ) (p : Put) → slice_get laid i ≡ Some p → IsDead l p.block
  pub live : (i : ℕ) (p : Put) → slice_get laid i ≡ Some p → IsTrue (is_live l.geom m p.block)
  -- m is the map before it with the puts, whose blocks are live
  pub paid_in : (i : ℕ) (p : Put) → slice_get paid i ≡ Some p → m p.block ≡ p.bytes
  pub paid_live : (i : ℕ) (p : Put) → slice_get paid i ≡ Some p → IsTrue (is_live l.geom m p.block)
  pub laid_in : (i : ℕ) (p : Put) → slice_get laid i ≡ Some p → m p.block ≡ p.bytes
  pub same : (b : ℕ) → names_block (map payload_entry paid) b ≡ false → names_block (map fresh_entry laid) b ≡ false → IsTrue (is_live l.geom m b) → IsTrue (is_live l.geom (l.map_before (next_number l)) b) × (m b ≡ l.map_before (next_number l) b)

-- each of the puts is of a block below n
abbrev pub AreBelow : ℕ → List Put → Type 0
AreBelow n puts = (i : ℕ) (p : Put) → slice_get puts i ≡ Some p → p.block < n

-- these puts are the fresh blocks of the record
abbrev pub AreLaid : List Put → WrittenRecord → Type 0
AreLaid laid w = (i : ℕ) (p : Put) → slice_get laid i ≡ Some p → (e : Entry) × (slice_get w.says.fresh i ≡ Some e) × (p.block ≡ e.block) × (p.bytes ≡ block_at w.fresh i)

-- from this place on, the record's blocks in the ring are these
abbrev pub AreParts : WrittenRecord → ℕ → List (List ℕ) → Type 0
AreParts w from blocks = (i : ℕ) → i < length blocks → block_at blocks i ≡ block_at w.ring (from + i)

abbrev pub block_of : Put → ℕ
block_of p = p.block
