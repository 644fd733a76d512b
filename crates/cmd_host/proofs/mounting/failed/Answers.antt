use Rattle.std.proofs.Common.{arith}
use Rattle.disk_memory.specs.MemDisk.{state_of as disk_state}
use Rattle.cmd_host.proofs.MountLemmas.{held_by, fails_with}
use Rattle.cmd_host.proofs.mounting.failed.Goals as goal

pub returns : goal.returns
returns c =
    let g = c.args.geom.now in
    fails_with g (record {
      held = held_by g (omega (arith, c.lawful.ensures.limits.data_room)) (λ img same. c.the_data_of_a_formatted_disk_may_be_anything.ensures.held g img c.lawful.ensures.fits same);
      tree = c.the_formatted_disk_stands_for_the_root.ensures.blocks g c.lawful.ensures.fits;
      one = c.an_image_stands_for_one_tree.ensures.image;
    }) (disk_state c.args.disk) c.requires.holds c.requires.fault c.a_disk_keeps_to_its_manner.ensures.log c.a_disk_keeps_to_its_manner.ensures.events c.a_disk_keeps_to_its_manner.ensures.writes c.a_disk_keeps_to_its_manner.ensures.reads
