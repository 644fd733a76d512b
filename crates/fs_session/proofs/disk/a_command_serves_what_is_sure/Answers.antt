use Rattle.std.proofs.Common.{IsTrue, refl}
use Rattle.fs_session.specs.Staying.{nothing_issued}
use Rattle.fs_session.proofs.rooms.Known.{Known}
use Rattle.fs_session.proofs.rooms.Exactly.{applied_at}
use Rattle.fs_session.proofs.disk.a_command_serves_what_is_sure.Goals as goal

pub returns : goal.returns
returns g c =
    let known : IsTrue g.S.Blocks.tells → Known g.S.Blocks.tells g.S.Blocks.state = λ told. record {
      told = told;
      sound = g.met.S.Blocks.is_sound;
      agrees = λ s. g.met.S.Blocks.is_told s told;
      live = λ s f h none. c.as_many_blocks_are_marked_as_the_tree_has.ensures.live s f told h none;
      map = c.blocks_have_the_map_of_their_tree.ensures.map;
      slots = c.slots_follow_the_bytes.ensures.count;
      bytes = c.a_file_reads_as_itself.ensures.parts;
      names = c.the_map_gives_the_names.ensures.count;
      numbers = c.numbers_of_snapshots_are_in_the_map.ensures.number;
      least = c.unused_numbers_are_those_of_no_node.ensures.least;
      snapshots = record { each = c.what_is_known_of_snapshots_is_so.ensures.each; named = c.what_is_known_of_snapshots_is_so.ensures.named };
      directories = c.the_map_gives_the_figures.ensures.directories;
      whole = c.a_sound_snapshot_is_whole.ensures.bytes;
      back = c.tidy_runs_are_those_of_their_numbers.ensures;
      many = c.a_list_has_its_runs.ensures.count;
    } in
    λ told old new f cmd reply h applies.
    applied_at g.S.Blocks.tells g.S.Blocks.state (known told) c.calls_compose.ensures.advances (λ s. c.calls_compose.ensures.rests told s s refl refl (nothing_issued (g.S.Blocks.state s))) f cmd reply old new h applies
