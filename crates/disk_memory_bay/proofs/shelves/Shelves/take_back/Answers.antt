use Rattle.disk_memory_bay.proofs.ShelfLaws.{sound_holds}
use Rattle.disk_memory_bay.proofs.shelves.Shelves.take_back.Goals as goal

-- what the disk left is sound
pub invariant_of-self : goal.invariant_of-self
invariant_of-self c =
    sound_holds c.args.name.now c.left_by-held.result c.self.inside.shelves.items c.set_held.new.shelves.items c.set_held.ensures c.lawful.ensures c.self.invariant
