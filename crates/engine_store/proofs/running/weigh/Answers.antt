use Rattle.std.proofs.Common.{◌∙◌, ap}
use Rattle.engine_books.specs.Books.{TransactionBooks}
use Rattle.engine_store.specs.Store.{beside_books}
use Rattle.engine_store.specs.Told.{last_map}
use Rattle.engine_store.proofs.WaitingBlocks.{books_beside}
use Rattle.engine_store.proofs.Changing.{parts_kept, same_on}
use Rattle.engine_store.proofs.running.weigh.Goals as goal

pub returns-clause-books : goal.returns-clause-books
returns-clause-books c = books_beside c.args.parts.now c.weigh.new.self (ap (λ (x : TransactionBooks). x.dead.waiting) c.weigh.ensures.value) ∙ c.weigh.ensures.books (beside_books c.args.parts.now)

pub returns-clause-keeps : goal.returns-clause-keeps
returns-clause-keeps c = λ tells d k.
    let value = c.weigh.ensures.value in
    parts_kept tells c.args.parts.now c.weigh.new.self d (same_on c.args.parts.now c.weigh.new.self (ap (λ (x : TransactionBooks). x.geom) value) c.weigh.ensures.kept (ap (λ (x : TransactionBooks). x.dead) value) (ap (λ (x : TransactionBooks). x.changes.taken) value))
    (λ t began. c.weigh.ensures.began (last_map c.args.parts.now d) began) k
