use Rattle.std.proofs.Common.{ℕ, List, sym, subst, arith}
use Rattle.engine_blocks.specs.State.{MayBeTaken}
use Rattle.engine_store.specs.Store.{beside_books, bookkeeping_of}
use Rattle.engine_store.proofs.choosing.least.Goals as goal

pub returns-in-Ok-clause-found : goal.returns-in-Ok-clause-found
returns-in-Ok-clause-found c = record {
  enough = omega (arith, c.if-reusable-n.false, c.reusable-reusable.ensures (beside_books c.args.parts.now));
  least = c.in-Ok.ensures.found (beside_books c.args.parts.now);
  takeable = subst (λ (found : List ℕ). MayBeTaken (bookkeeping_of c.args.parts.now).geom (bookkeeping_of c.args.parts.now).reusable found) (sym (c.in-Ok.ensures.found (beside_books c.args.parts.now))) (c.the_lowest_may_be_taken.ensures (bookkeeping_of c.args.parts.now) c.args.n);
}
