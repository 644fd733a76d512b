use Rattle.std.proofs.Common.{◌≡◌, ◌+◌, ◌*◌, ◌++◌, take}
use Rattle.arrayvec.specs.ArrayVec.{array_vec_len}
use Rattle.layout_journal.specs.Spelling.{all_entry_bytes}
use Rattle.layout_journal.proofs.write_record.put_entries.Given as goal

abbrev pub invariant-loop-entry : goal.invariant-loop-entry
invariant-loop-entry l = record {
  bytes : l.text.items ≡ l.fn.text.items ++ all_entry_bytes (take l.entry-index l.entries);
  size : array_vec_len l.text ≡ array_vec_len l.fn.text + 40 * l.entry-index;
}
