use Rattle.std.proofs.Common.{refl}
use Rattle.example_queue.proofs.Cuts.{crash_by}
use Rattle.example_queue.proofs.power.after_a_power_cut.Goals as goal

pub returns-clause-crash : goal.returns-clause-crash
returns-clause-crash c = crash_by c.args.disk.now c.args.disk.now c.moment.result c.in_ok-image.image _ refl c.moment.ensures c.in_ok-next.ensures.base c.in_ok-image.ensures.crash
