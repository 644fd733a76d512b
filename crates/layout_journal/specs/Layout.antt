-- What is in the journal's blocks, read by their fields. It is described in docs/JOURNAL.md.
use Rattle.std.specs.Prelude.{◌≡◌, ◌<◌, ◌≤◌, ℕ, zero, suc, ◌+◌, ◌-◌, ◌*◌, ◌/◌, Bool, true, false, ◌&&◌, not, ◌==◌, nat_lt, nat_le, bytes_eq, if◌then◌else◌, List, [], ◌∷◌, ◌++◌, take, drop, slice_index, Option, Some, None, codes}
use Rattle.base_types.specs.Seal.{is_sealed}
use Rattle.base_types.specs.declared.layout.Layout.{Layout}
use Rattle.base_types.specs.Layouts.{layout_number, layout_of}
use Rattle.layout_geometry.specs.Geometry.{Geometry, geometry_fits, bitmap_start, data_start}
use Rattle.layout_bytes.specs.Bytes.{field, has_zeros, when}
use Rattle.layout_journal.specs.declared.header.Header.{Header}
use Rattle.layout_journal.specs.declared.record.Commit.{Commit}
use Rattle.layout_journal.specs.declared.record.Descriptor.{Descriptor}
use Rattle.layout_journal.specs.declared.entry.Entry.{Entry}
use Rattle.layout_journal.specs.declared.entry.EntryKind.{EntryKind}
use Rattle.layout_journal.specs.declared.entry.EntryKind.TheVariants.{Payload, Fresh, Escaped}

-- The tags of headers, commit blocks and descriptors, each in this one place.

-- that of a header ends with the digit of its layout
abbrev pub header_tag : Layout → List ℕ
header_tag l = codes "OPTH000" ++ (48 + layout_number l) ∷ []

abbrev pub commit_tag : List ℕ
commit_tag = codes "OPTC0001"

abbrev pub descriptor_tag : List ℕ
descriptor_tag = codes "OPTD0001"

-- the first eight bytes tell what a block is
abbrev pub has_tag : List ℕ → List ℕ → Bool
has_tag tag block = bytes_eq (take 8 block) tag

-- Headers.

-- the layout that the last byte of a header's tag tells
abbrev pub layout_in : List ℕ → Layout
layout_in b = layout_of (slice_index b 7 - 48)

abbrev pub header_fields : List ℕ → Header
header_fields b = record {
  epoch = field b 8 8;
  turn = field b 16 8;
  start = field b 24 8;
  sure = field b 32 8;
  at = field b 40 4;
  closed = field b 44 4 == 1;
  geom = record { n = field b 48 4; j = field b 52 4; i = field b 56 4; layout = layout_in b };
}

abbrev pub header_fits : ℕ → List ℕ → Header → Bool
header_fits n b h =
    has_tag (header_tag h.geom.layout) b && (nat_lt 0 h.epoch && (nat_lt 0 h.turn && (nat_lt 0 h.start && (nat_le h.start (h.sure + 1)
    && (nat_lt h.at h.geom.j && (nat_le (field b 44 4) 1 && (geometry_fits h.geom && ((h.geom.n == n) && has_zeros b 60 992))))))))

-- the header in a block of a disk of n blocks, if it is sealed and fits
unfoldable pub header_of : ℕ → List ℕ → Option Header
header_of n b = when (is_sealed b) (when (header_fits n b (header_fields b)) (Some (header_fields b)))

-- what the numbers of a header keep to, on a disk of n blocks
pub record IsWithinDisk (n : ℕ) (h : Header) : Type 0 where
  pub epoch : 0 < h.epoch
  pub turn : 0 < h.turn
  pub first : 0 < h.start
  pub sure : h.start ≤ h.sure + 1
  pub at : h.at < h.geom.j
  pub geom : geometry_fits h.geom ≡ true
  pub blocks : h.geom.n ≡ n

-- Commit blocks.

-- a descriptor has at most 24 entries
abbrev pub descriptor_count : ℕ → ℕ
descriptor_count entries = (entries + 23) / 24

abbrev pub commit_fields : List ℕ → Commit
commit_fields b = record { epoch = field b 8 8; number = field b 16 8; descriptors = field b 24 4; payloads = field b 28 4; fresh = field b 32 4 }

abbrev pub commit_fits : Geometry → List ℕ → Commit → Bool
commit_fits g b c =
    has_tag commit_tag b && (nat_lt 0 c.payloads && ((c.descriptors == descriptor_count (c.payloads + c.fresh))
    && (nat_le (1 + c.descriptors + c.payloads) g.j && has_zeros b 36 992)))

-- the commit block in a block, if it is sealed and fits
unfoldable pub commit_of : Geometry → List ℕ → Option Commit
commit_of g b = when (is_sealed b) (when (commit_fits g b (commit_fields b)) (Some (commit_fields b)))

-- what the numbers of a commit block keep to: it has payloads, as many descriptors as its entries need, and room in the ring
pub record IsWithinRing (g : Geometry) (c : Commit) : Type 0 where
  pub some : 0 < c.payloads
  pub descriptors : c.descriptors ≡ descriptor_count (c.payloads + c.fresh)
  pub room : 1 + c.descriptors + c.payloads ≤ g.j

-- Entries and descriptors.

abbrev pub kind_of : ℕ → Option EntryKind
kind_of n = if n == 1 then Some Payload else if n == 2 then Some Fresh else if n == 3 then Some Escaped else None

-- the first block that an entry of this kind may name: a fresh one names a data block
abbrev pub first_named : Geometry → EntryKind → ℕ
first_named g Payload = bitmap_start g
first_named g Fresh = data_start g
first_named g Escaped = bitmap_start g

abbrev pub entry_fields : EntryKind → List ℕ → Entry
entry_fields kind b = record { block = field b 0 4; kind = kind; digest = take 32 (drop 8 b) }

abbrev pub entry_with : Geometry → List ℕ → Option EntryKind → Option Entry
entry_with g b None = None
entry_with g b (Some kind) =
    when (has_zeros b 5 8 && (nat_lt (field b 0 4) g.n && nat_le (first_named g kind) (field b 0 4))) (Some (entry_fields kind b))

-- the entry in 40 bytes, if it fits
unfoldable pub entry_of : Geometry → List ℕ → Option Entry
entry_of g b = entry_with g b (kind_of (field b 4 1))

abbrev pub then_entry : Option Entry → Option (List Entry) → Option (List Entry)
then_entry None es = None
then_entry (Some e) None = None
then_entry (Some e) (Some es) = Some (e ∷ es)

-- the first n entries, 40 bytes each, if each fits
abbrev pub entries_in : Geometry → ℕ → List ℕ → Option (List Entry)
entries_in g zero b = Some []
entries_in g (suc n) b = then_entry (entry_of g (take 40 b)) (entries_in g n (drop 40 b))

abbrev pub descriptor_with : List ℕ → Option (List Entry) → Option Descriptor
descriptor_with b None = None
descriptor_with b (Some es) = Some (record { epoch = field b 8 8; number = field b 16 8; index = field b 24 4; entries = es })

-- a descriptor has 1 to 24 entries, and zeros behind them
abbrev pub descriptor_fits : List ℕ → Bool
descriptor_fits b = has_tag descriptor_tag b && (nat_le (field b 28 4) 24 && (nat_lt 0 (field b 28 4) && has_zeros b (32 + 40 * field b 28 4) 992))

-- the descriptor in a block, if it is sealed and fits
unfoldable pub descriptor_of : Geometry → List ℕ → Option Descriptor
descriptor_of g b = when (is_sealed b) (when (descriptor_fits b) (descriptor_with b (entries_in g (field b 28 4) (drop 32 b))))

-- Stored payloads. One that begins with the bytes of every tag, `OPT`, is escaped: it stands with its first byte as zero.

-- the bytes that a stored payload stands for
abbrev pub unescaped : EntryKind → List ℕ → List ℕ
unescaped Payload stored = stored
unescaped Fresh stored = stored
unescaped Escaped stored = 79 ∷ drop 1 stored

-- bytes that may stand as a payload of this kind: they never begin as a block of the journal does
unfoldable pub is_stored : EntryKind → List ℕ → Bool
is_stored Payload stored = not (bytes_eq (take 3 stored) (79 ∷ 80 ∷ 84 ∷ []))
is_stored Escaped stored = bytes_eq (take 3 stored) (0 ∷ 80 ∷ 84 ∷ [])
is_stored Fresh stored = false
