-- What is found on a disk, from its parts.
use Rattle.std.proofs.Common.{◌≡◌, ℕ, Bool, true, List, length, sym, ◌∙◌, ap}
use Rattle.base_types.specs.Seal.{Blocks}
use Rattle.layout_journal.specs.declared.header.Header.{Header}
use Rattle.layout_journal.specs.Run.{Newest, Record, IsRun}
use Rattle.engine_recover.specs.Search.{is_spent, IsFound, IsSpent}

pub spent_is : (n : ℕ) (img : Blocks) (slot : ℕ) (h : Header) (rs : List Record) (count : ℕ) (b : Bool) → Newest n img slot h → IsRun img h rs → count ≡ length rs → b ≡ is_spent h count → b ≡ true → IsSpent n img
spent_is n img slot h rs count b newest is_run many test t = record {
  found = record { slot = slot; header = h; records = rs };
  is_found = record { newest = newest; is_run = is_run };
  spent = ap (is_spent h) (sym many) ∙ sym test ∙ t;
}

pub found_is : (n : ℕ) (img : Blocks) (slot : ℕ) (h : Header) (rs : List Record) → Newest n img slot h → IsRun img h rs → IsFound n img (record { slot = slot; header = h; records = rs })
found_is n img slot h rs newest is_run = record { newest = newest; is_run = is_run }
