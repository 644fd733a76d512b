use Rattle.fs_session.proofs.rooms.Begun.{first_room, none_marked}
use Rattle.fs_session.proofs.memory.nothing_is_taken_at_first.Goals as goal

pub returns : goal.returns
returns g c = λ told s f waits h empty begun.
    let agrees = g.met.S.Blocks.is_told s told in
    first_room (record { each = c.what_is_known_of_snapshots_is_so.ensures.each; named = c.what_is_known_of_snapshots_is_so.ensures.named }) (g.S.Blocks.state s) f.tree agrees h.tree (none_marked (g.S.Blocks.state s) agrees empty) (g.met.S.Blocks.is_sound s) waits begun
