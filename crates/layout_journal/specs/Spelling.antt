-- How the journal's blocks are written: one spelling for each value. It is described in docs/JOURNAL.md.
use Rattle.std.specs.Prelude.{◌≡◌, ℕ, ◌+◌, ◌-◌, ◌*◌, ◌<◌, ◌≤◌, ◌^◌, Bool, true, if◌then◌else◌, List, [], ◌∷◌, ◌++◌, replicate, length, take, drop, bytes_eq}
use Rattle.byteorder.specs.Endian.{little_bytes}
use Rattle.base_types.specs.Seal.{sha256}
use Rattle.layout_geometry.specs.Geometry.{Geometry, geometry_fits}
use Rattle.layout_journal.specs.declared.header.Header.{Header}
use Rattle.layout_journal.specs.declared.record.Commit.{Commit}
use Rattle.layout_journal.specs.declared.record.Descriptor.{Descriptor}
use Rattle.layout_journal.specs.declared.entry.Entry.{Entry}
use Rattle.layout_journal.specs.declared.entry.EntryKind.{EntryKind}
use Rattle.layout_journal.specs.declared.entry.EntryKind.TheVariants.{Payload, Fresh, Escaped}
use Rattle.layout_journal.specs.Layout.{header_tag, commit_tag, descriptor_tag, IsWithinRing, first_named}

-- n bytes are enough for the number
abbrev pub fits_in : ℕ → ℕ → Type 0
fits_in n v = v < 256 ^ n

abbrev pub closed_number : Bool → ℕ
closed_number c = if c then 1 else 0

-- the bytes of a header before its seal
abbrev pub header_body : Header → List ℕ
header_body h =
    header_tag h.geom.layout ++ (little_bytes 8 h.epoch ++ (little_bytes 8 h.turn ++ (little_bytes 8 h.start ++ (little_bytes 8 h.sure ++ (little_bytes 4 h.at
    ++ (little_bytes 4 (closed_number h.closed) ++ (little_bytes 4 h.geom.n ++ (little_bytes 4 h.geom.j ++ (little_bytes 4 h.geom.i ++ replicate 932 0)))))))))

-- the block of a header
abbrev pub header_block : Header → List ℕ
header_block h = header_body h ++ sha256 (header_body h)

-- a header that can be written
pub record IsHeader (h : Header) : Type 0 where
  pub epoch : fits_in 8 h.epoch
  pub turn : fits_in 8 h.turn
  pub first : fits_in 8 h.start
  pub sure : fits_in 8 h.sure
  pub epoch_from : 0 < h.epoch
  pub turn_from : 0 < h.turn
  pub start_from : 0 < h.start
  pub start_upto : h.start ≤ h.sure + 1
  pub at : h.at < h.geom.j
  pub geom : geometry_fits h.geom ≡ true

-- the bytes of a commit block before its seal
abbrev pub commit_body : Commit → List ℕ
commit_body c =
    commit_tag ++ (little_bytes 8 c.epoch ++ (little_bytes 8 c.number ++ (little_bytes 4 c.descriptors ++ (little_bytes 4 c.payloads
    ++ (little_bytes 4 c.fresh ++ replicate 956 0)))))

abbrev pub commit_block : Commit → List ℕ
commit_block c = commit_body c ++ sha256 (commit_body c)

-- a commit block that can be written, for a ring of this geometry
pub record IsCommit (g : Geometry) (c : Commit) : Type 0 where
  pub epoch : fits_in 8 c.epoch
  pub number : fits_in 8 c.number
  pub descriptors : fits_in 4 c.descriptors
  pub payloads : fits_in 4 c.payloads
  pub fresh : fits_in 4 c.fresh
  pub within : IsWithinRing g c

abbrev pub kind_number : EntryKind → ℕ
kind_number Payload = 1
kind_number Fresh = 2
kind_number Escaped = 3

-- an entry, 40 bytes
abbrev pub entry_bytes : Entry → List ℕ
entry_bytes e = little_bytes 4 e.block ++ (kind_number e.kind ∷ 0 ∷ 0 ∷ 0 ∷ e.digest)

abbrev pub all_entry_bytes : List Entry → List ℕ
all_entry_bytes [] = []
all_entry_bytes (e ∷ es) = entry_bytes e ++ all_entry_bytes es

-- the bytes of a descriptor before its seal
abbrev pub descriptor_body : Descriptor → List ℕ
descriptor_body d =
    descriptor_tag ++ (little_bytes 8 d.epoch ++ (little_bytes 8 d.number ++ (little_bytes 4 d.index ++ (little_bytes 4 (length d.entries)
    ++ (all_entry_bytes d.entries ++ replicate (960 - 40 * length d.entries) 0)))))

abbrev pub descriptor_block : Descriptor → List ℕ
descriptor_block d = descriptor_body d ++ sha256 (descriptor_body d)

-- an entry that fits a disk of this geometry
pub record IsEntry (g : Geometry) (e : Entry) : Type 0 where
  pub low : first_named g e.kind ≤ e.block
  pub high : e.block < g.n
  pub digest : length e.digest ≡ 32

abbrev pub AreEntries : Geometry → List Entry → Type 0
AreEntries g [] = Unit {0}
AreEntries g (e ∷ es) = IsEntry g e × AreEntries g es

-- a descriptor that can be written, for a disk of this geometry
pub record IsDescriptor (g : Geometry) (d : Descriptor) : Type 0 where
  pub epoch : fits_in 8 d.epoch
  pub number : fits_in 8 d.number
  pub index : fits_in 4 d.index
  pub some : 0 < length d.entries
  pub few : length d.entries ≤ 24
  pub entries : AreEntries g d.entries

-- Payloads as they are stored.

-- bytes that begin as a block of the journal does
abbrev pub begins_tag : List ℕ → Bool
begins_tag x = bytes_eq (take 3 x) (79 ∷ 80 ∷ 84 ∷ [])

-- such a payload is stored with its first byte as zero, and every other as it is
abbrev pub stored_of : List ℕ → List ℕ
stored_of x = if begins_tag x then 0 ∷ drop 1 x else x

-- the kind that its entry has then
abbrev pub stored_kind : List ℕ → EntryKind
stored_kind x = if begins_tag x then Escaped else Payload
