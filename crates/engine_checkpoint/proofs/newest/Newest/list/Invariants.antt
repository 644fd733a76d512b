use Rattle.std.proofs.Common.{◌≡◌, ◌≤◌, ◌++◌, vec_capacity}
use Rattle.std.specs.HashMap.{keys}
use Rattle.engine_checkpoint.proofs.newest.Newest.list.Given as goal

abbrev pub invariant-loop-block : goal.invariant-loop-block
invariant-loop-block l = record {
  next : (goal.iterator-loop-block).can_next l.block-iterator;
  finite : (goal.iterator-loop-block).is_finite l.block-iterator;
  items : l.into.items ++ l.block-iterator ≡ l.fn.into.items ++ keys l.fn.self.spots;
  capacity : vec_capacity l.fn.into ≤ vec_capacity l.into;
}
