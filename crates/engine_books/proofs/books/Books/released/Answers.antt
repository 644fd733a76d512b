use Rattle.engine_books.proofs.Dead.{released_at}
use Rattle.engine_books.proofs.Releases.{may_at, fewer_at}
use Rattle.engine_books.proofs.books.Books.released.Goals as goal

pub returns-clause-kept : goal.returns-clause-kept
returns-clause-kept c = released_at c.calls_change_what_is_dead.ensures.released c.args.self.now _ c.released.new.self c.args.sure c.args.going_home.now c.self.view_is c.released.ensures c.lawful.ensures

pub returns-clause-may : goal.returns-clause-may
returns-clause-may c = may_at c.args.self.now _ c.released.new.self c.args.sure c.args.going_home.now c.self.view_is c.released.ensures

pub returns-clause-fewer : goal.returns-clause-fewer
returns-clause-fewer c = fewer_at c.args.self.now _ c.released.new.self c.args.sure c.args.going_home.now c.self.view_is c.released.ensures
