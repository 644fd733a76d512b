use Rattle.engine_books.proofs.Dead.{sealed_at}
use Rattle.engine_books.proofs.books.Books.sealed.Goals as goal

pub returns-clause-kept : goal.returns-clause-kept
returns-clause-kept c = sealed_at c.calls_change_what_is_dead.ensures.sealed c.args.self.now _ c.sealed.new.self c.args.number c.self.view_is c.requires.empty c.sealed.ensures c.lawful.ensures
