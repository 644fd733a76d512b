-- The laws of the journal and of geometries that the argument rests on, gathered. Each is a clause of a function of a lower crate.
use Rattle.std.specs.Prelude.{◌≡◌, ℕ, ◌*◌, ◌<◌, ◌≤◌, true, false, IsTrue, List, length, take, drop, slice_get, Some, None}
use Rattle.base_types.specs.Seal.{Blocks, IsSealed}
use Rattle.layout_geometry.specs.Geometry.{Geometry, geometry_fits, bitmap_start, data_start}
use Rattle.layout_journal.specs.declared.header.Header.{Header}
use Rattle.layout_journal.specs.declared.record.Commit.{Commit}
use Rattle.layout_journal.specs.declared.record.Descriptor.{Descriptor}
use Rattle.layout_journal.specs.declared.entry.Entry.{Entry}
use Rattle.layout_journal.specs.declared.entry.EntryKind.{EntryKind}
use Rattle.layout_journal.specs.Layout.{header_of, commit_of, descriptor_of, descriptor_count, is_stored, IsWithinDisk}
use Rattle.layout_journal.specs.Run.{Record, entries, entries_fit, names_block, HeldIs}

-- what the proofs of this crate need to know of the blocks of the journal
pub record JournalLaws : Type 0 where
  -- what reads as a block of the journal is sealed
  pub header_sealed : (n : ℕ) (b : List ℕ) (h : Header) → header_of n b ≡ Some h → IsSealed b
  pub commit_sealed : (g : Geometry) (b : List ℕ) (c : Commit) → commit_of g b ≡ Some c → IsSealed b
  pub descriptor_sealed : (g : Geometry) (b : List ℕ) (d : Descriptor) → descriptor_of g b ≡ Some d → IsSealed b
  -- a block reads as one of them at most, and a stored payload as none
  pub commit_no_descriptor : (g k : Geometry) (b : List ℕ) (c : Commit) → commit_of g b ≡ Some c → descriptor_of k b ≡ None
  pub descriptor_no_commit : (g k : Geometry) (b : List ℕ) (d : Descriptor) → descriptor_of g b ≡ Some d → commit_of k b ≡ None
  pub stored_no_commit : (k : EntryKind) (g : Geometry) (b : List ℕ) → is_stored k b ≡ true → commit_of g b ≡ None
  pub stored_no_descriptor : (k : EntryKind) (g : Geometry) (b : List ℕ) → is_stored k b ≡ true → descriptor_of g b ≡ None
  -- the numbers of a header keep to its disk, whose journal lies before the data
  pub header_bounds : (n : ℕ) (b : List ℕ) (h : Header) → header_of n b ≡ Some h → IsWithinDisk n h
  pub geometry_sizes : (g : Geometry) → geometry_fits g ≡ true → (0 < g.j) × (data_start g ≤ g.n)
  -- descriptors tell the entries of their record
  pub told_entries : (r q : Record) → length r.payloads ≡ length q.payloads → length r.fresh ≡ length q.fresh
      → ((i : ℕ) → i < descriptor_count (length (entries r)) → take 24 (drop (24 * i) (entries r)) ≡ take 24 (drop (24 * i) (entries q))) → (r.payloads ≡ q.payloads) × (r.fresh ≡ q.fresh)
  -- payloads are of blocks behind the journal, fresh blocks are data blocks, ascending, and no block is both
  pub payload_in_disk : (g : Geometry) (r : Record) (i : ℕ) (e : Entry) → IsTrue (entries_fit g r) → slice_get r.payloads i ≡ Some e → (bitmap_start g ≤ e.block) × (e.block < g.n)
  pub fresh_data : (g : Geometry) (r : Record) (i : ℕ) (e : Entry) → IsTrue (entries_fit g r) → slice_get r.fresh i ≡ Some e → data_start g ≤ e.block
  pub fresh_below : (g : Geometry) (r : Record) (i : ℕ) (e : Entry) → IsTrue (entries_fit g r) → slice_get r.fresh i ≡ Some e → e.block < g.n
  pub fresh_ordered : (g : Geometry) (r : Record) (i k : ℕ) (e f : Entry) → IsTrue (entries_fit g r) → i < k → slice_get r.fresh i ≡ Some e → slice_get r.fresh k ≡ Some f → e.block < f.block
  pub fresh_apart : (g : Geometry) (r : Record) (i : ℕ) (e : Entry) → IsTrue (entries_fit g r) → slice_get r.fresh i ≡ Some e → names_block r.payloads e.block ≡ false
  -- an image holds one map at most
  pub one_map : (n : ℕ) (img m q : Blocks) → HeldIs n img m → HeldIs n img q → (b : ℕ) → m b ≡ q b
