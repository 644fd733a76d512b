use Rattle.cmd_image.proofs.Steps.{check_silent, unopened_back}
use Rattle.cmd_image.proofs.mounting.unopened.Goals as goal

pub returns-clause-back : goal.returns-clause-back
returns-clause-back g c = λ first taken is damage none.
    unopened_back (record { newest = c.an_image_holds_one_map.ensures.newest; maps = c.an_image_holds_one_map.ensures.maps; alike = c.images_alike_below_n_stand_for_the_same.ensures }) g.D.Disk.state g.D.Disk.tells first c.args.store
    c.disk_back.result taken c.args.why c.of_check.result c.disk_back.ensures.disk c.of_check.ensures is c.disk_back.ensures.size damage none

pub returns-clause-silent : goal.returns-clause-silent
returns-clause-silent g c = check_silent c.args.why c.of_check.result c.of_check.ensures
