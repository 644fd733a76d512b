use Rattle.fs_session.proofs.rooms.Answered.{applied_in}
use Rattle.fs_session.proofs.memory.a_command_is_answered_in_its_room.Goals as goal

pub returns : goal.returns
returns g c = λ told lies old new f cmd reply h applies.
    applied_in g.S.Blocks.tells g.S.Blocks.state
    (record {
      lies = lies;
      known = record {
        told = told;
        sound = g.met.S.Blocks.is_sound;
        agrees = λ s. g.met.S.Blocks.is_told s told;
        live = λ s f h none. c.as_many_blocks_are_marked_as_the_tree_has.ensures.live s f told h none;
        map = c.blocks_have_the_map_of_their_tree.ensures.map;
        slots = c.slots_follow_the_bytes.ensures.count;
        bytes = c.a_file_reads_as_itself.ensures.parts;
        names = c.the_map_gives_the_names.ensures.count;
        numbers = c.numbers_of_snapshots_are_in_the_map.ensures.number;
        least = c.unused_numbers_are_those_of_no_node.ensures.least;
        snapshots = record { each = c.what_is_known_of_snapshots_is_so.ensures.each; named = c.what_is_known_of_snapshots_is_so.ensures.named };
        directories = c.the_map_gives_the_figures.ensures.directories;
        whole = c.a_sound_snapshot_is_whole.ensures.bytes;
        back = c.tidy_runs_are_those_of_their_numbers.ensures;
        many = c.a_list_has_its_runs.ensures.count;
      };
    }) f cmd reply old new h applies
