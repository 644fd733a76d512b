use Rattle.cmd_mirror.proofs.Backs.{goes_back}
use Rattle.cmd_mirror.proofs.side_laws.a_disk_of_a_mirror_goes_back.Goals as goal

pub returns : goal.returns
returns c = goes_back (record { came = c.a_mark_has_come_at_its_moment.ensures.came; back = c.a_mark_has_come_at_its_moment.ensures.back })
    c.images_alike_below_n_stand_for_the_same.ensures c.an_image_stands_for_one_tree.ensures.image c.journal_blocks_keep_to_their_bounds.ensures.headers
