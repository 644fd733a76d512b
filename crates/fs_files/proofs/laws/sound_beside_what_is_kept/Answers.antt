use Rattle.fs_files.proofs.frames.Begins.{beside_kept, sound_with_kept}
use Rattle.fs_files.proofs.laws.sound_beside_what_is_kept.Goals as goal

pub returns-clause-to : goal.returns-clause-to
returns-clause-to c = beside_kept c.a_node_in_use_has_data_blocks.ensures.within

pub returns-clause-from : goal.returns-clause-from
returns-clause-from c = sound_with_kept
