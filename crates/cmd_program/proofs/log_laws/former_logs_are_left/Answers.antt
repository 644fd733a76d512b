-- A log that ended so came to the disk under the name, with its marks; and one that is told to be none was read in the image's tree.
use Rattle.cmd_program.proofs.LeftLogs.{has_log_where_nothing_is, left_logs, no_log, no_room, without_log}
use Rattle.cmd_program.proofs.log_laws.former_logs_are_left.Goals as goal

pub returns-clause-runs : goal.returns-clause-runs
returns-clause-runs c = λ tells image m t l. left_logs c.each_image_has_what_was_synced.ensures tells image m t l

pub returns-clause-room : goal.returns-clause-room
returns-clause-room c = λ tells image m t l. no_room tells image m t l

pub returns-clause-bad : goal.returns-clause-bad
returns-clause-bad c = λ tells image m t l. no_log tells image m t l

pub returns-clause-exact : goal.returns-clause-exact
returns-clause-exact c = λ tells image status m t l none. without_log c.an_image_stands_for_one_tree.ensures.image
    (has_log_where_nothing_is c.a_tree_that_stands_is_sound.ensures.sound c.a_log_begins_empty.ensures.before c.segments_make_a_log.ensures.none) tells image status m t l none
