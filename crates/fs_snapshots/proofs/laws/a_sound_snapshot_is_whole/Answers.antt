use Rattle.base_types.specs.Runs.{run_places}
use Rattle.fs_snapshots.proofs.Sound.{is_whole}
use Rattle.fs_snapshots.proofs.Whole.{kept_length, node_data}
use Rattle.fs_snapshots.proofs.laws.a_sound_snapshot_is_whole.Goals as goal

pub returns-clause-data : goal.returns-clause-data
returns-clause-data c = node_data

pub returns-clause-whole : goal.returns-clause-whole
returns-clause-whole c = is_whole

pub returns-clause-parts : goal.returns-clause-parts
returns-clause-parts c = λ g m k node sound used kind. (sound.kept k node used kind).long

pub returns-clause-bytes : goal.returns-clause-bytes
returns-clause-bytes c = λ g m k node sound used kind l file is. kept_length g m (run_places node.runs) l file (node_data g m k node used) (is_whole g m k node sound used kind) is
