use Rattle.std.proofs.Common.{length, take, subst}
use Rattle.base_types.specs.Seal.{blocks_of}
use Rattle.disk_contract.specs.Crash.{IsImage}
use Rattle.disk_memory.specs.MemDisk.{MemDiskState}
use Rattle.disk_memory.proofs.crash_images.ChosenImages.{left_is_image}
use Rattle.disk_memory.proofs.disk.MemDisk.image.Goals as goal

pub returns-clause-crash : goal.returns-clause-crash
returns-clause-crash c =
    let base = c.self.inside.base in
    let image = c.in_ok-image.image in
    let cells = c.pending_writes_are_those_of_the_cells.ensures in
    subst (λ (d : MemDiskState). IsImage (length d.base) (blocks_of d.base) (take c.args.moment d.log) (blocks_of image)) c.self.view_is
    (left_is_image cells (length base) (blocks_of base) c.self.inside.log.events c.args.moment c.args.choice.now image c.lawful.ensures.lawful (c.in_ok-image.ensures).1 c.lawful-2.ensures)
