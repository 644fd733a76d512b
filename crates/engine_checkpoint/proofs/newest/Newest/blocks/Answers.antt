-- The keys, sorted.
use Rattle.std.proofs.Common.{ap, ◌∙◌, ◌++◌}
use Rattle.std.specs.HashMap.{keys}
use Rattle.engine_checkpoint.proofs.Spots.{spot_list}
use Rattle.engine_checkpoint.proofs.newest.Newest.blocks.Goals as goal

pub returns-clause-blocks : goal.returns-clause-blocks
returns-clause-blocks c = spot_list c.args.self.now c.list.new.into.items c.sort_unstable.new.self.items (c.list.ensures.items ∙ ap (λ xs. xs ++ keys c.args.self.now.spots) c.clear.ensures.items) c.list.ensures.unique c.list.ensures.has c.sort_unstable.ensures.permutation c.sort_unstable.ensures.sorted
