use Rattle.crash_argument.proofs.mount.ReplayMade.{closing_met, replaying_met, opening_met, replaying_closed, opening_closed}
use Rattle.crash_argument.proofs.replay.a_replay_may_be_made.Goals as goal

pub returns : goal.returns
returns c = record {
  closing = λ n at slot ticket h run found is. closing_met c.the_journal_is_lawful.ensures c.journal_blocks_read_back.ensures.headers n at slot ticket h run found is;
  replaying = λ n at slot ticket k h run found is. replaying_met c.the_journal_is_lawful.ensures c.journal_blocks_read_back.ensures.headers n at slot ticket h run found is k;
  opening = λ n at slot ticket later greatest_epoch h run found is fresh epochs. opening_met c.the_journal_is_lawful.ensures c.journal_blocks_read_back.ensures.headers n at slot ticket h run found is later greatest_epoch fresh epochs;
  closed = λ n at slot ticket k h run found closes. replaying_closed c.the_journal_is_lawful.ensures c.journal_blocks_read_back.ensures.headers n at slot ticket h run found closes k;
  reopening = λ n at slot ticket later greatest_epoch h run found closes fresh epochs. opening_closed c.the_journal_is_lawful.ensures c.journal_blocks_read_back.ensures.headers n at slot ticket h run found closes later greatest_epoch fresh epochs;
}
