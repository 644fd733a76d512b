use Rattle.engine_books.proofs.Sound.{books_sound}
use Rattle.engine_books.proofs.laws.books_that_are_kept_are_sound.Goals as goal

pub returns : goal.returns
returns c = books_sound c.the_accounts_add_up.ensures
