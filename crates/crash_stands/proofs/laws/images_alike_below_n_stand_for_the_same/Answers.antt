use Rattle.crash_stands.proofs.Alike.{alike_stands}
use Rattle.crash_stands.proofs.laws.images_alike_below_n_stand_for_the_same.Goals as goal

pub returns : goal.returns
returns c =
    alike_stands c.geometries_are_within_limits.ensures c.journal_blocks_keep_to_their_bounds.ensures.headers c.an_image_holds_one_map.ensures.newest
    c.images_alike_below_n_hold_the_same.ensures
