-- The first record on a formatted disk, and its life, written out: a write of one data block, on a disk of the least geometry after its first mount.
use Rattle.std.specs.Prelude.{ℕ, ◌==◌, if◌then◌else◌, false, List, [], ◌∷◌, replicate}
use Rattle.base_types.specs.Seal.{Blocks, sha256}
use Rattle.base_types.specs.declared.layout.Layout.TheVariants.{One}
use Rattle.disk_contract.specs.Cell.{cell_of}
use Rattle.layout_geometry.specs.Geometry.{Geometry}
use Rattle.layout_journal.specs.declared.entry.EntryKind.TheVariants.{Payload, Fresh}
use Rattle.layout_journal.specs.declared.header.Header.{Header}
use Rattle.layout_journal.specs.Spelling.{header_block, commit_block, descriptor_block}
use Rattle.layout_journal.specs.Run.{Record, commit_says, descriptor_says}
use Rattle.layout_journal.specs.Formatted.{empty_header, formatted}
use Rattle.crash_example.specs.declared.one_record.OneRecord.{OneRecord}
use Rattle.crash_example.specs.declared.one_record.Settling.{Settling}
use Rattle.crash_argument.specs.Ledger.{Ledger, WrittenRecord, block_at}
use Rattle.crash_argument.specs.Points.{ledger_at_mount}
use Rattle.crash_argument.specs.Formatted.{mount_events}

-- Its bitmap is block 18, its node table begins with block 19, and its data with block 23.
abbrev pub least : Geometry
least = record { n = 64; j = 16; i = 16; layout = One }

-- the bitmap block with the bit of block 23 set too
unfoldable pub first_bitmap : List ℕ
first_bitmap = 255 ∷ 255 ∷ 255 ∷ replicate 1021 0

-- record 1 at ring place 0: its payload is the bitmap block, and block 23 is fresh with the bytes x
abbrev pub first_says : List ℕ → Record
first_says x = record {
  number = 1;
  place = 0;
  payloads = record { block = 18; kind = Payload; digest = sha256 first_bitmap } ∷ [];
  fresh = record { block = 23; kind = Fresh; digest = sha256 x } ∷ [];
}

abbrev pub first_record : List ℕ → WrittenRecord
first_record x = record {
  says = first_says x;
  ring = commit_block (commit_says 2 (first_says x)) ∷ descriptor_block (descriptor_says 2 (first_says x) 0) ∷ first_bitmap ∷ [];
  fresh = x ∷ [];
}

-- the blocks after it
abbrev pub first_map : List ℕ → Blocks
first_map x b = if b == 18 then first_bitmap else if b == 23 then x else formatted least b

-- the ledger as the first mount ends, with its header in slot 1
abbrev pub first_ledger : ℕ → Ledger
first_ledger ticket = ledger_at_mount (cell_of (formatted least) (mount_events least ticket)) least 1 (empty_header least 2 2)

-- the blocks of the record, and where they go
abbrev pub first_blocks : List ℕ → OneRecord
first_blocks x = record {
  commit_block = 2;
  commit = block_at (first_record x).ring 0;
  descriptor_block = 3;
  descriptor = block_at (first_record x).ring 1;
  payload_block = 4;
  payload = block_at (first_record x).ring 2;
  fresh_block = 23;
  fresh = block_at (first_record x).fresh 0;
}

-- the header that makes the record sure
abbrev pub first_sure : Header
first_sure = record { epoch = 2; turn = 3; start = 1; sure = 1; at = 0; closed = false; geom = least }

-- and the one that releases it
abbrev pub first_release : Header
first_release = record { epoch = 2; turn = 4; start = 2; sure = 1; at = 3; closed = false; geom = least }

-- between them the bitmap block goes to its place
abbrev pub first_settling : Settling
first_settling = record { slot = 1; sure = header_block first_sure; home_block = 18; home = first_bitmap; release = header_block first_release }
