use Rattle.std.proofs.Common.{None}
use Rattle.cmd_log.proofs.Finishing.{unopened_back, unopened_counts}
use Rattle.cmd_log.proofs.logging.log_disk.Goals as goal

pub returns-in-Ok-clause-comes : goal.returns-in-Ok-clause-comes
returns-in-Ok-clause-comes g c =
    c.log_store.ensures.comes (g.D.Disk.state c.args.disk) (record { on = c.in-Ok.ensures.mounted; begins = λ t. let held = c.in-Ok.ensures.mounted.held t in c.in-Ok.ensures.begins t _ _ held.holds; numbers = c.in-Ok.ensures.numbers })

pub returns-in-Err-clause-comes : goal.returns-in-Err-clause-comes
returns-in-Err-clause-comes g c =
    unopened_back g.D.Disk.tells (g.D.Disk.state c.args.disk) (g.D.Disk.state c.in-Err.disk) _ c.args.marks.items c.in-Err.why c.of_show.result c.requires.empty c.of_show.ensures c.in-Err.ensures.silent (c.in-Err.ensures.refused None)

pub returns-in-Err-clause-counts : goal.returns-in-Err-clause-counts
returns-in-Err-clause-counts g c = unopened_counts _ c.in-Err.why c.of_show.result c.of_show.ensures c.in-Err.ensures.silent
