use Rattle.engine_store.proofs.NextRecord.{stays_sound, in_record_order}
use Rattle.engine_store.proofs.commits.a_commit_stays_sound.Goals as goal

pub returns : goal.returns
returns c = record { sound = stays_sound; order = in_record_order }
