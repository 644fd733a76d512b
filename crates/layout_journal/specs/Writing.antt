-- A record whose blocks are written as its entries come. It is described in docs/JOURNAL.md.
use Rattle.std.specs.Prelude.{ℕ, ◌+◌, ◌/◌, ◌++◌, ◌||◌, nat_eq, Bool, if◌then◌else◌, List, [], ◌∷◌, length}
use Rattle.layout_journal.specs.declared.entry.Entry.{Entry}
use Rattle.layout_journal.specs.declared.record.Commit.{Commit}
use Rattle.layout_journal.specs.declared.record.Descriptor.{Descriptor}
use Rattle.layout_journal.specs.Layout.{descriptor_count}

-- a record of so many payloads and fresh blocks, how many of its entries have come, and those of the descriptor that isn't complete
pub record RecordSoFar : Type 0 where
  pub epoch : ℕ
  pub number : ℕ
  pub payloads : ℕ
  pub fresh : ℕ
  pub added : ℕ
  pub kept : List Entry

-- with one entry more the descriptor is full, or it is the record's last
abbrev pub is_complete : RecordSoFar → Bool
is_complete w = nat_eq (length w.kept + 1) 24 || nat_eq (w.added + 1) (w.payloads + w.fresh)

-- the descriptor with one entry more
abbrev pub descriptor_with : RecordSoFar → Entry → Descriptor
descriptor_with w e = record { epoch = w.epoch; number = w.number; index = w.added / 24; entries = w.kept ++ e ∷ [] }

-- the record once the entry has come: a complete descriptor is held no longer
abbrev pub with_entry : RecordSoFar → Entry → RecordSoFar
with_entry w e = record w { added = w.added + 1; kept = if is_complete w then [] else w.kept ++ e ∷ [] }

-- what its commit block says
abbrev pub commit_of_all : RecordSoFar → Commit
commit_of_all w = record { epoch = w.epoch; number = w.number; descriptors = descriptor_count (w.payloads + w.fresh); payloads = w.payloads; fresh = w.fresh }
