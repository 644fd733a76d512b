use Rattle.engine_store.proofs.Going.{books_move, kept_moved}
use Rattle.engine_store.proofs.numbers.a_pipeline_that_moves_moves_the_books.Goals as goal

pub returns : goal.returns
returns c = record { moves = books_move; kept = kept_moved c.a_release_keeps_the_books.ensures.kept }
