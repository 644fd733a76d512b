use Rattle.engine_store.proofs.Going.{goes_on, floor_rises, stops}
use Rattle.engine_store.proofs.numbers.a_going_store_stays_so.Goals as goal

pub returns : goal.returns
returns c = record { goes_on = goes_on c.a_release_keeps_the_books.ensures.kept; rises = floor_rises; stops = stops c.a_release_keeps_the_books.ensures.kept }
