use Rattle.std.proofs.Common.{length, refl, ap, ◌∙◌}
use Rattle.layout_extent.proofs.Count.{runs_count}
use Rattle.layout_extent.proofs.renew.Joining.of.Goals as goal

pub returns-clause-holds : goal.returns-clause-holds
returns-clause-holds c = record {
  runs = c.len-runs.ensures ∙ ap length c.list.ensures.value ∙ runs_count c.args.kept;
  next = c.next-next.ensures;
  kept = λ few. refl;
}
