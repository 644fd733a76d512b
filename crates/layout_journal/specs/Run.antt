-- What an image holds: its newest header, its recoverable run, and the recovered blocks. It is described in docs/JOURNAL.md.
use Rattle.std.specs.Prelude.{◌≡◌, ◌⊎◌, ℕ, ◌+◌, ◌-◌, ◌*◌, ◌%◌, ◌<◌, ◌≤◌, nat_le, nat_lt, ◌&&◌, ◌||◌, not, Bool, true, false, IsTrue, ◌==◌, if◌then◌else◌, List, [], ◌∷◌, ◌++◌, length, take, drop, slice_get, Option, Some, None}
use Rattle.base_types.specs.Seal.{Blocks, sha256}
use Rattle.layout_geometry.specs.Geometry.{Geometry, ring_block, bitmap_start, data_start}
use Rattle.layout_bytes.specs.Bitmap.{is_set}
use Rattle.layout_journal.specs.declared.header.Header.{Header}
use Rattle.layout_journal.specs.declared.record.Commit.{Commit}
use Rattle.layout_journal.specs.declared.record.Descriptor.{Descriptor}
use Rattle.layout_journal.specs.declared.entry.Entry.{Entry}
use Rattle.layout_journal.specs.declared.entry.EntryKind.{EntryKind}
use Rattle.layout_journal.specs.declared.entry.EntryKind.TheVariants.{Payload, Fresh, Escaped}
use Rattle.layout_journal.specs.Layout.{header_of, commit_of, descriptor_of, descriptor_count, unescaped, is_stored}

-- the newest header of an image of n blocks is in this slot: it has the greater turn, and slot 0 wins a tie
pub record Newest (n : ℕ) (img : Blocks) (slot : ℕ) (h : Header) : Type 0 where
  pub is_slot : slot < 2
  pub stands : header_of n (img slot) ≡ Some h
  pub other : (k : Header) → header_of n (img (1 - slot)) ≡ Some k → (k.turn < h.turn) ⊎ ((k.turn ≡ h.turn) × (slot ≡ 0))

-- A record as its commit block and descriptors tell it: its number, the ring place at which it begins, and its entries. The payload entries come first.
pub record Record : Type 0 where
  pub number : ℕ
  pub place : ℕ
  pub payloads : List Entry
  pub fresh : List Entry

abbrev pub entries : Record → List Entry
entries r = r.payloads ++ r.fresh

-- how many ring places its commit block and descriptors take
abbrev pub heads : Record → ℕ
heads r = 1 + descriptor_count (length (entries r))

-- how many ring places it takes
abbrev pub places : Record → ℕ
places r = heads r + length r.payloads

-- the ring places of a record of which the commit block says this
abbrev pub places_told : Commit → ℕ
places_told c = 1 + c.descriptors + c.payloads

-- the ring places of those of these records that have this number or a later one
abbrev pub places_from : ℕ → List Commit → ℕ
places_from number [] = 0
places_from number (c ∷ cs) = (if nat_le number c.number then places_told c else 0) + places_from number cs

-- the writes of which such a record is made: those of its ring places, and of its fresh blocks
abbrev pub writes_told : Commit → ℕ
writes_told c = places_told c + c.fresh

-- the writes for which these records stand: those of which they are made, each payload at home, and two headers each
abbrev pub writes_stood_for : List Commit → ℕ
writes_stood_for [] = 0
writes_stood_for (c ∷ cs) = (writes_told c + c.payloads + 2) + writes_stood_for cs

abbrev pub commit_says : ℕ → Record → Commit
commit_says epoch r = record { epoch = epoch; number = r.number; descriptors = descriptor_count (length (entries r)); payloads = length r.payloads; fresh = length r.fresh }

abbrev pub descriptor_says : ℕ → Record → ℕ → Descriptor
descriptor_says epoch r i = record { epoch = epoch; number = r.number; index = i; entries = take 24 (drop (24 * i) (entries r)) }

-- ascending by block, from `low` on and below `high`
abbrev pub are_ascending : ℕ → ℕ → List Entry → Bool
are_ascending low high [] = true
are_ascending low high (e ∷ es) = nat_le low e.block && (nat_lt e.block high && are_ascending (e.block + 1) high es)

abbrev pub is_fresh : EntryKind → Bool
is_fresh Payload = false
is_fresh Fresh = true
is_fresh Escaped = false

-- one of the entries names the block
abbrev pub names_block : List Entry → ℕ → Bool
names_block [] b = false
names_block (e ∷ es) b = if e.block == b then true else names_block es b

-- fresh entries name data blocks that no payload entry names
abbrev pub are_fresh : Geometry → List Entry → List Entry → Bool
are_fresh g payloads [] = true
are_fresh g payloads (e ∷ es) =
    is_fresh e.kind && (nat_le (data_start g) e.block && (nat_lt e.block g.n && (not (names_block payloads e.block) && are_fresh g payloads es)))

-- the entries of a record are in order
unfoldable pub entries_fit : Geometry → Record → Bool
entries_fit g r = are_ascending (bitmap_start g) g.n r.payloads && (are_ascending (data_start g) g.n r.fresh && are_fresh g r.payloads r.fresh)

-- a payload as it is in the ring fits its entry
pub record Fits (e : Entry) (stored : List ℕ) : Type 0 where
  pub digest : sha256 stored ≡ e.digest
  pub kind : IsTrue (is_stored e.kind stored)

-- the record is whole in an image under this header: its own blocks say so, each payload fits its entry, and past `sure` each fresh block does
pub record IsWhole (img : Blocks) (h : Header) (r : Record) : Type 0 where
  pub fit : IsTrue (entries_fit h.geom r)
  pub commit : commit_of h.geom (img (ring_block h.geom r.place)) ≡ Some (commit_says h.epoch r)
  pub descriptors : (i : ℕ) → i < descriptor_count (length (entries r))
      → descriptor_of h.geom (img (ring_block h.geom (r.place + 1 + i))) ≡ Some (descriptor_says h.epoch r i)
  pub payloads : (i : ℕ) (e : Entry) → slice_get r.payloads i ≡ Some e → Fits e (img (ring_block h.geom (r.place + heads r + i)))
  pub fresh : h.sure < r.number → (i : ℕ) (e : Entry) → slice_get r.fresh i ≡ Some e → sha256 (img e.block) ≡ e.digest

-- the ring place behind these records, of which the first begins at p
abbrev pub place_after : ℕ → ℕ → List Record → ℕ
place_after j p [] = p
place_after j p (r ∷ rs) = place_after j ((p + places r) % j) rs

-- the records follow one another in numbers and in the places of a ring of j, from these on
abbrev pub AreConsecutive : ℕ → ℕ → ℕ → List Record → Type 0
AreConsecutive j number place [] = Unit {0}
AreConsecutive j number place (r ∷ rs) = (r.number ≡ number) × (r.place ≡ place) × AreConsecutive j (number + 1) ((place + places r) % j) rs

abbrev pub AreWhole : Blocks → Header → List Record → Type 0
AreWhole img h [] = Unit {0}
AreWhole img h (r ∷ rs) = IsWhole img h r × AreWhole img h rs

abbrev pub all_places : List Record → ℕ
all_places [] = 0
all_places (r ∷ rs) = places r + all_places rs

-- a closed header lets no record past its `sure`
abbrev pub IsLetIn : Header → Record → Type 0
IsLetIn h r = IsTrue h.closed → r.number ≤ h.sure

abbrev pub AreLetIn : Header → List Record → Type 0
AreLetIn h [] = Unit {0}
AreLetIn h (r ∷ rs) = IsLetIn h r × AreLetIn h rs

-- the record may follow these
pub record CanFollow (img : Blocks) (h : Header) (rs : List Record) (r : Record) : Type 0 where
  pub next : AreConsecutive h.geom.j h.start h.at (rs ++ r ∷ [])
  pub whole : IsWhole img h r
  pub let_in : IsLetIn h r
  pub within : all_places (rs ++ r ∷ []) ≤ h.geom.j

-- the recoverable run: the longest list of consecutive whole records from the header's start
pub record IsRun (img : Blocks) (h : Header) (rs : List Record) : Type 0 where
  pub consecutive : AreConsecutive h.geom.j h.start h.at rs
  pub whole : AreWhole img h rs
  pub let_in : AreLetIn h rs
  pub within : all_places rs ≤ h.geom.j
  pub longest : (r : Record) → ¬ CanFollow img h rs r

-- the bytes of a record's payload for a block, if it has one, given that the payloads' blocks stand from this place on
abbrev pub payload_from : Geometry → Blocks → ℕ → List Entry → ℕ → Option (List ℕ)
payload_from g img place [] b = None
payload_from g img place (e ∷ es) b = if e.block == b then Some (unescaped e.kind (img (ring_block g place))) else payload_from g img (place + 1) es b

abbrev pub payload_of : Geometry → Blocks → Record → ℕ → Option (List ℕ)
payload_of g img r b = payload_from g img (r.place + heads r) r.payloads b

abbrev pub or_else : Option (List ℕ) → Option (List ℕ) → Option (List ℕ)
or_else None y = y
or_else (Some x) y = Some x

-- what the records leave in a block, if they cover it: the last entry that names it decides, and a fresh one leaves what is there
abbrev pub covered_by : Geometry → Blocks → Option (List ℕ) → List Record → ℕ → Option (List ℕ)
covered_by g img before [] b = before
covered_by g img before (r ∷ rs) b = covered_by g img (or_else (payload_of g img r b) (if names_block r.fresh b then None else before)) rs b

abbrev pub otherwise : Option (List ℕ) → List ℕ → List ℕ
otherwise None x = x
otherwise (Some y) x = y

-- each block once the run is replayed
abbrev pub replayed : Geometry → Blocks → List Record → Blocks
replayed g img rs b = otherwise (covered_by g img None rs b) (img b)

-- a block of the bitmap, of the node table, or a data block that the bitmap marks
abbrev pub is_live : Geometry → Blocks → ℕ → Bool
is_live g m b = nat_le (bitmap_start g) b && (nat_lt b g.n && (nat_lt b (data_start g) || is_set g m b))

-- these blocks where they are live by their own bitmap, and nothing elsewhere
abbrev pub live_part : Geometry → Blocks → Blocks
live_part g m b = if is_live g m b then m b else []

-- The recovered blocks of an image of n blocks are m: the live ones, after the run of the journal under the newest header is replayed.
pub record HeldIs (n : ℕ) (img m : Blocks) : Type 0 where
  pub slot : ℕ
  pub header : Header
  pub run : List Record
  pub newest : Newest n img slot header
  pub is_run : IsRun img header run
  pub each : (b : ℕ) → m b ≡ live_part header.geom (replayed header.geom img run) b
