use Rattle.std.proofs.Common.{[]}
use Rattle.fs_files.specs.Shared.{is_kept}
use Rattle.fs_files.proofs.frames.Begins.{beside_kept, sound_with_kept, nothing_told, none_unsound}
use Rattle.fs_files.proofs.laws.sound_beside_nothing.Goals as goal

pub returns-clause-to : goal.returns-clause-to
returns-clause-to c = λ g m none sound. beside_kept c.a_node_in_use_has_data_blocks.ensures.within g m (is_kept []) (nothing_told g m none) sound

pub returns-clause-from : goal.returns-clause-from
returns-clause-from c = λ g m none sound. sound_with_kept g m (is_kept []) (nothing_told g m none) (none_unsound g m none) sound
