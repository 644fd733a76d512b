use Rattle.std.proofs.Common.{rules, refl, arith, ◌-◌}
use Rattle.disk_mirror.specs.declared.entry.Entry.TheVariants.{Failed}
use Rattle.disk_mirror.proofs.Kept.{tree_fail}
use Rattle.disk_mirror.proofs.Rooms.{room_fail}
use Rattle.disk_mirror.proofs.order.Order.fail.Goals as goal

pub invariant_of-self : goal.invariant_of-self
invariant_of-self c =
    let o = c.self.inside in
    record {
      fits = room_fail o.events.items c.add.new.row.items o.times.items c.add-2.new.row.items o.pairs.items o.heard.items o.room (o.room - 1) _ _ _ _ _ _ (Failed c.args.side) c.args.came c.self.invariant.fits (search rules) refl c.add.ensures.items c.add-2.ensures.items c.add.ensures.capacity c.add-2.ensures.capacity;
      tree = tree_fail o.nodes.items o.size o.room (o.room - 1) o.heard.items (omega arith) c.self.invariant.tree;
    }
