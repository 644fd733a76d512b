-- Why a block of a disk reads as no header, no commit block or no descriptor: the first of its flaws. It is described in docs/JOURNAL.md.
use Rattle.std.specs.Prelude.{ℕ, ◌+◌, ◌*◌, ◌==◌, nat_lt, nat_le, Bool, ◌&&◌, if◌then◌else◌, List}
use Rattle.base_types.specs.Seal.{is_sealed}
use Rattle.layout_geometry.specs.Geometry.{Geometry, geometry_fits}
use Rattle.layout_bytes.specs.Bytes.{field, has_zeros}
use Rattle.layout_journal.specs.declared.header.Header.{Header}
use Rattle.layout_journal.specs.declared.record.Commit.{Commit}
use Rattle.layout_journal.specs.declared.flaw.BadRecord.{BadRecord}
use Rattle.layout_journal.specs.declared.flaw.BadRecord.TheVariants.{NotSealed, OtherTag, OtherDisk, OutOfRange, NotZero, BadEntry}
use Rattle.layout_journal.specs.Layout.{header_tag, commit_tag, descriptor_tag, has_tag, layout_in, header_fields, commit_fields, descriptor_count}

-- the geometry of a header is within its limits, and of a disk of n blocks
abbrev pub is_of_disk : ℕ → Header → Bool
is_of_disk n h = geometry_fits h.geom && (h.geom.n == n)

-- the numbers of a header are within their ranges
abbrev pub header_numbers_fit : List ℕ → Header → Bool
header_numbers_fit b h =
    (nat_lt 0 h.epoch && (nat_lt 0 h.turn && (nat_lt 0 h.start && nat_le h.start (h.sure + 1)))) && (nat_lt h.at h.geom.j && nat_le (field b 44 4) 1)

-- the flaw of a block that is no header of a disk of n blocks
abbrev pub header_flaw : ℕ → List ℕ → BadRecord
header_flaw n b =
    if is_sealed b then (if has_tag (header_tag (layout_in b)) b then (if is_of_disk n (header_fields b) then (if header_numbers_fit b (header_fields b) then NotZero else OutOfRange) else OtherDisk) else OtherTag) else NotSealed

-- the numbers of a commit block fit one another and the ring
abbrev pub commit_numbers_fit : Geometry → Commit → Bool
commit_numbers_fit g c = nat_lt 0 c.payloads && ((c.descriptors == descriptor_count (c.payloads + c.fresh)) && nat_le (1 + c.descriptors + c.payloads) g.j)

-- the flaw of a block that is no commit block
abbrev pub commit_flaw : Geometry → List ℕ → BadRecord
commit_flaw g b =
    if is_sealed b then (if has_tag commit_tag b then (if commit_numbers_fit g (commit_fields b) then NotZero else OutOfRange) else OtherTag) else NotSealed

-- a descriptor counts 1 to 24 entries
abbrev pub is_entry_count : ℕ → Bool
is_entry_count n = nat_le n 24 && nat_lt 0 n

-- the flaw of a block that is no descriptor
abbrev pub descriptor_flaw : List ℕ → BadRecord
descriptor_flaw b =
    if is_sealed b then (if has_tag descriptor_tag b then (if is_entry_count (field b 28 4) then (if has_zeros b (32 + 40 * field b 28 4) 992 then BadEntry else NotZero) else OutOfRange) else OtherTag) else NotSealed
