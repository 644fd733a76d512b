use Rattle.std.proofs.Common.{rules, ◌+◌}
use Rattle.disk_mirror.specs.declared.entry.Entry.TheVariants.{Accepted}
use Rattle.disk_mirror.proofs.Kept.{tree_accept}
use Rattle.disk_mirror.proofs.Rooms.{room_accept}
use Rattle.disk_mirror.proofs.order.Order.accept.Goals as goal

pub invariant_of-self : goal.invariant_of-self
invariant_of-self c =
    let o = c.self.inside in
    record {
      fits = room_accept o.events.items c.add-3.new.row.items o.times.items c.add-4.new.row.items o.pairs.items c.add.new.row.items o.heard.items c.add-2.new.row.items o.room _ _ _ _ _ _ _ _ (Accepted (c.len.result + 1) c.args.first c.args.second) c.args.came (record { first = c.args.first; second = c.args.second }) c.self.invariant.fits (search rules)
          c.add-3.ensures.items c.add-4.ensures.items c.add.ensures.items c.add-2.ensures.items c.add-3.ensures.capacity c.add-4.ensures.capacity c.add.ensures.capacity c.add-2.ensures.capacity;
      tree = tree_accept o.nodes.items o.size o.room o.heard.items c.add-2.new.row.items c.add-2.ensures.items c.self.invariant.tree;
    }
