use Rattle.layout_journal.proofs.Unique.{newest_same, record_same, run_same, held_same}
use Rattle.layout_journal.proofs.laws.an_image_holds_one_map.Goals as goal

pub returns : goal.returns
returns c = record { newest = newest_same; records = record_same; runs = run_same; maps = held_same }
