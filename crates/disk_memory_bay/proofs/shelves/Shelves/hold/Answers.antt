use Rattle.std.proofs.Common.{rules}
use Rattle.disk_memory_bay.specs.Shelves.{Holds, IsSoundHeld}
use Rattle.disk_memory_bay.proofs.ShelfLaws.{sound_holds}
use Rattle.disk_memory_bay.proofs.shelves.Shelves.hold.Goals as goal

pub invariant_of-self-2 : goal.invariant_of-self-2
invariant_of-self-2 c =
    let holds : Holds c.args.name.now c.args.held c.self.inside.shelves.items c.put_held.new.shelves.items = search rules in
    let sound : IsSoundHeld c.args.held = search rules in
    sound_holds c.args.name.now c.args.held c.self.inside.shelves.items c.put_held.new.shelves.items holds sound c.self.invariant
