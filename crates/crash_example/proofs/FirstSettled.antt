-- The life of the first record: its blocks are written where it says, and two headers and one write home settle it.
use Rattle.std.proofs.Common.{◌≡◌, ◌≢◌, ℕ, ◌<◌, ◌≤◌, ◌==◌, if◌then◌else◌, Bool, true, false, List, [], ◌∷◌, Some, None, refl, sym, ap, arith}
use Rattle.std.proofs.lemmas.Bool.{eqb-true}
use Rattle.std.proofs.lemmas.Option.{same_Some}
use Rattle.layout_journal.specs.declared.header.Header.{Header}
use Rattle.layout_journal.specs.declared.entry.Entry.{Entry}
use Rattle.layout_journal.specs.Layout.{header_of}
use Rattle.layout_journal.specs.Spelling.{fits_in, header_block, IsHeader}
use Rattle.layout_journal.specs.Run.{or_else}
use Rattle.crash_example.specs.FirstRecord.{least, first_bitmap, first_record, first_map, first_ledger, first_blocks, first_sure, first_release, first_settling}
use Rattle.crash_example.specs.OneRecord.{IsWrittenAs, IsSettledBy, with_sure_record}
use Rattle.crash_argument.specs.PipelineData.{NeedsCheckpoint}
use Rattle.crash_example.proofs.FirstBitmap.{live_between}
use Rattle.crash_example.proofs.FirstMount.{least_fits}

-- a small number has room in eight bytes
room : (v : ℕ) → v ≤ 4 → fits_in 8 v
room v low = omega arith

-- a header of this session on the least disk can be written
is_header : (turn start at : ℕ) → 0 < turn → turn ≤ 4 → 0 < start → start ≤ 2 → at < 16 → IsHeader (record { epoch = 2; turn = turn; start = start; sure = 1; at = at; closed = false; geom = least })
is_header turn start at some high first last low = record {
  epoch = room 2 (omega arith);
  turn = room turn high;
  first = room start (omega arith);
  sure = room 1 (omega arith);
  epoch_from = omega arith;
  turn_from = some;
  start_from = first;
  start_upto = last;
  at = low;
  geom = least_fits;
}

-- the blocks of the record are written where it says
pub first_written : (ticket : ℕ) (x : List ℕ) → IsWrittenAs (first_ledger ticket) (first_record x) (first_blocks x)
first_written ticket x = record {
  three = refl;
  one = refl;
  commit_block = refl;
  descriptor_block = refl;
  payload_block = refl;
  commit = refl;
  descriptor = refl;
  payload = refl;
  fresh_block = λ e is. ap (λ (f : Entry). f.block) (same_Some _ _ is);
  fresh = refl;
}

-- one payload entry and one fresh entry cover the payload's block alone
covers : (paid fresh : Bool) (x y : List ℕ) → or_else (if paid then Some x else None) (if (if fresh then true else false) then None else None) ≡ Some y → paid ≡ true
covers true fresh x y e = refl
covers false true x y e = cc
covers false false x y e = cc

-- once the record is sure, its bitmap block has to be written home
home : (ticket : ℕ) (x : List ℕ) → NeedsCheckpoint (with_sure_record (first_ledger ticket) (first_record x) (first_map x)) (first_record x ∷ []) 18 first_bitmap
home ticket x = record { covered = refl; live = live_between (first_map x) 18 (omega arith) (omega arith) }

-- and that is the only one
alone : (ticket : ℕ) (x : List ℕ) (c : ℕ) (y : List ℕ) → c ≢ 18 → ¬ NeedsCheckpoint (with_sure_record (first_ledger ticket) (first_record x) (first_map x)) (first_record x ∷ []) c y
alone ticket x c y apart needs = apart (sym (eqb-true 18 c (covers (18 == c) (23 == c) first_bitmap y needs.covered)))

-- headers read back, by the law of the journal's blocks, so the two settle the record
pub first_settled : ((h : Header) → IsHeader h → header_of h.geom.n (header_block h) ≡ Some h) → (ticket : ℕ) (x : List ℕ) → IsSettledBy (first_ledger ticket) (first_record x) (first_map x) first_settling
first_settled reads ticket x = record {
  slot = refl;
  sure = reads first_sure (is_header 3 1 0 (omega arith) (omega arith) (omega arith) (omega arith) (omega arith));
  release = reads first_release (is_header 4 2 3 (omega arith) (omega arith) (omega arith) (omega arith) (omega arith));
  home = home ticket x;
  alone = alone ticket x;
}
