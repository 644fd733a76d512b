use Rattle.cmd_mirror.proofs.Honest.{consistent_along, floor_along, top_along}
use Rattle.cmd_mirror.proofs.side_laws.crashes_of_a_mirror_are_of_its_disks.Goals as goal

pub returns-clause-consistent : goal.returns-clause-consistent
returns-clause-consistent c = consistent_along (record { came = c.a_mark_has_come_at_its_moment.ensures.came; back = c.a_mark_has_come_at_its_moment.ensures.back })
    c.images_alike_below_n_stand_for_the_same.ensures

pub returns-clause-floor : goal.returns-clause-floor
returns-clause-floor c = floor_along (record { came = c.a_mark_has_come_at_its_moment.ensures.came; back = c.a_mark_has_come_at_its_moment.ensures.back })

pub returns-clause-top : goal.returns-clause-top
returns-clause-top c = top_along (record { came = c.a_mark_has_come_at_its_moment.ensures.came; back = c.a_mark_has_come_at_its_moment.ensures.back })
