use Rattle.layout_directory.proofs.Entries.{count_read, entry_set, fewer}
use Rattle.layout_directory.proofs.Joined.{within_front, cut_behind, joins, each_slot, each_gap, spelled_length}
use Rattle.layout_directory.proofs.laws.entries_follow_their_bytes.Goals as goal

pub returns : goal.returns
returns c = record {
  count = count_read;
  each = λ l n b slots e i s at. each_slot l n b slots i s e at;
  gaps = each_gap;
  front = fewer;
  over = entry_set;
  behind = λ l n b new slots s long size is e. joins l n b new slots s long size is e;
  within = within_front;
  cut = cut_behind;
  spelling = spelled_length;
}
