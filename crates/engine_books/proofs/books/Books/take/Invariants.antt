use Rattle.std.proofs.Common.{take}
use Rattle.engine_books.specs.Taking.{HasTaken}
use Rattle.engine_books.proofs.books.Books.take.Given as goal

abbrev pub invariant-loop-b : goal.invariant-loop-b
invariant-loop-b l = HasTaken (take l.b-index l.list) l.fn.self l.self
