use Rattle.engine_books.proofs.Dead.{same_dead_kept}
use Rattle.engine_books.proofs.laws.a_release_keeps_the_books.Goals as goal

pub returns : goal.returns
returns c = record { kept = same_dead_kept; began = λ v dead last b. record { bitmap = b.bitmap; was_dead = b.was_dead; took = b.took; killed = b.killed; marked = b.marked; whole = b.whole } }
