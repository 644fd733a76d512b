use Rattle.std.proofs.Common.{ap, ◌∙◌}
use Rattle.engine_books.specs.Books.{TransactionBooks}
use Rattle.engine_books.proofs.Sound.{live_is}
use Rattle.engine_books.proofs.books.Books.live.Goals as goal

pub returns : goal.returns
returns c = λ k. ap (λ (v : TransactionBooks). v.live) c.self.view_is ∙ live_is k c.args.self.now c.requires
