use Rattle.engine_books.proofs.Sound.{few_puts}
use Rattle.engine_books.proofs.NextMap.{some_paid}
use Rattle.engine_books.proofs.Next.{may_be_next, next_killed, next_dead, next_taken, next_below}
use Rattle.engine_books.proofs.laws.a_running_transaction_may_be_the_next_record.Goals as goal

pub returns : goal.returns
returns c = record { is = may_be_next; killed = next_killed; dead = next_dead; taken = next_taken; below = next_below; small = few_puts; some = some_paid }
