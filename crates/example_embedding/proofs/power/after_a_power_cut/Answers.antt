use Rattle.example_embedding.proofs.Cuts.{crash_by}
use Rattle.example_embedding.proofs.power.after_a_power_cut.Goals as goal

pub returns-clause-crash : goal.returns-clause-crash
returns-clause-crash c = crash_by c.args.counted.disk c.into_inner-disk.result c.moment.result c.in_ok-image.image _ c.into_inner-disk.ensures c.moment.ensures c.in_ok-next.ensures.base c.in_ok-image.ensures.crash
