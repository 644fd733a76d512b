-- Nothing is in order.
use Rattle.std.proofs.Common.{arith}
use Rattle.engine_running.proofs.ordering.Begins.{begins_ordered, no_numbers}
use Rattle.engine_running.proofs.running.Running.new.Goals as goal

pub invariant_of-result : goal.invariant_of-result
invariant_of-result c = record {
  ordered = begins_ordered _ _ c.new.ensures.items c.new-2.ensures.items;
  numbers = no_numbers _ c.new-3.ensures.items;
  paid_has = omega (arith, c.new.ensures, c.new-2.ensures, c.new-5.ensures);
  laid_has = omega (arith, c.new.ensures, c.new-2.ensures, c.new-5.ensures);
  spare_has = omega (arith, c.new.ensures, c.new-2.ensures, c.new-5.ensures);
}
