use Rattle.std.proofs.Common.{IsTrue}
use Rattle.layout_geometry.specs.Geometry.{data_start}
use Rattle.layout_journal.specs.Formatted.{formatted}
use Rattle.layout_journal.specs.Run.{live_part}
use Rattle.engine_mount.specs.Mount.{IsIdle, settled_on}
use Rattle.engine_store.specs.Formatting.{IsFormattedOver}
use Rattle.engine_store.proofs.Logs.{none_below}
use Rattle.engine_store.proofs.Formats.{is_formatted, cells_stay, holds_under}
use Rattle.engine_store.proofs.formatting.mkfs.Goals as goal

pub returns-in_default-clause-below : goal.returns-in_default-clause-below
returns-in_default-clause-below g c = λ tells. none_below (data_start c.args.geom.now) (g.D.Disk.state c.args.disk.now).log

-- all groups were written
done : (g : Rattle.engine_store.proofs.formatting.mkfs.Given.Over) (c : goal.After-drop-tickets g) → IsTrue g.D.Disk.tells → IsIdle (g.D.Disk.state c.args.disk.now)
    → IsFormattedOver c.args.geom.now (g.D.Disk.state c.args.disk.now) (g.D.Disk.state c.write_groups.new.disk)
done g c tells idle =
    is_formatted c.args.geom.now (g.D.Disk.state c.args.disk.now) (g.D.Disk.state c.write_groups.new.disk) (c.the_formatted_disk_is_empty.ensures.journal c.args.geom.now) c.in-Ok-write_groups.ensures.spends.same.base idle
    (c.in-Ok-write_groups.ensures.adds tells) (c.write_groups.ensures.below tells)

pub returns-in-Ok-write_groups-clause-formatted : goal.returns-in-Ok-write_groups-clause-formatted
returns-in-Ok-write_groups-clause-formatted g c = done g c

pub returns-in-Ok-write_groups-clause-idle : goal.returns-in-Ok-write_groups-clause-idle
returns-in-Ok-write_groups-clause-idle g c = λ tells idle.
    let img = settled_on (g.D.Disk.state c.write_groups.new.disk) in
    let k = c.args.geom.now in
    let over = done g c tells idle in
    record {
      holds = holds_under k img (live_part k (formatted k)) (c.the_data_of_a_formatted_disk_may_be_anything.ensures.held k img c.lawful.ensures.fits over.before);
      stands = c.the_data_of_a_formatted_disk_may_be_anything.ensures.stands k img c.lawful.ensures.fits over.before;
      kept = cells_stay (data_start k) (g.D.Disk.state c.args.disk.now) (g.D.Disk.state c.write_groups.new.disk) c.write_groups.ensures.spends.same.base idle (c.write_groups.ensures.below tells);
    }

pub returns-clause-idle : goal.returns-clause-idle
returns-clause-idle g c = λ tells idle. record {
  holds = tt;
  stands = tt;
  kept = cells_stay (data_start c.args.geom.now) (g.D.Disk.state c.args.disk.now) (g.D.Disk.state c.write_groups.new.disk) c.write_groups.ensures.spends.same.base idle (c.write_groups.ensures.below tells);
}
