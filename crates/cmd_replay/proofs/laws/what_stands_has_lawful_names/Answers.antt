use Rattle.cmd_replay.proofs.lawful.Images.{stands_bytes}
use Rattle.cmd_replay.proofs.lawful.Stands.{stands_named}
use Rattle.cmd_replay.proofs.laws.what_stands_has_lawful_names.Goals as goal

pub returns-clause-names : goal.returns-clause-names
returns-clause-names c = stands_named (λ g. (c.geometries_are_within_limits.ensures g).0) c.journal_blocks_keep_to_their_bounds.ensures.headers c.a_tree_that_stands_is_sound.ensures.sound c.a_tree_that_stands_is_sound.ensures.snapshots

pub returns-clause-bytes : goal.returns-clause-bytes
returns-clause-bytes c = stands_bytes
