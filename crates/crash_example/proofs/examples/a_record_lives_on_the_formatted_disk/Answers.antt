use Rattle.crash_example.proofs.FirstSettled.{first_written, first_settled}
use Rattle.crash_example.proofs.examples.a_record_lives_on_the_formatted_disk.Goals as goal

pub returns-clause-written : goal.returns-clause-written
returns-clause-written c = first_written

pub returns-clause-settled : goal.returns-clause-settled
returns-clause-settled c = first_settled c.journal_blocks_read_back.ensures.headers
