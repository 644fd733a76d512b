use Rattle.std.proofs.Common.{◌+◌, ◌*◌, ◌-◌, ◌≤◌, subst, sym}
use Rattle.engine_books.specs.Kept.{AreKept}
use Rattle.engine_books.proofs.Weighing.{weighed}
use Rattle.engine_books.proofs.books.Books.weigh.Goals as goal

pub returns-clause-kept : goal.returns-clause-kept
returns-clause-kept c = weighed _ _ (subst AreKept (sym c.self.view_is) c.requires.kept) (subst (λ v. v.weight + c.args.cost ≤ 24 * (v.geom.j - 2)) (sym c.self.view_is) c.requires.fits)
