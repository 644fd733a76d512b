use Rattle.engine_store.proofs.Going.{books_sound, turns_enough}
use Rattle.engine_store.proofs.numbers.a_sound_store_has_sound_books.Goals as goal

pub returns : goal.returns
returns c = record { sound = books_sound c.books_that_are_kept_are_sound.ensures; turns = turns_enough }
