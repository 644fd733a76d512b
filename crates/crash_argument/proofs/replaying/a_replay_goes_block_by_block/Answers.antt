use Rattle.crash_argument.proofs.mount.ReplayUpTo.{upto_begins, upto_passes, upto_ends, upto_opens, replayed_leaves}
use Rattle.crash_argument.proofs.replaying.a_replay_goes_block_by_block.Goals as goal

pub returns : goal.returns
returns c = record {
  begins = upto_begins;
  passes = upto_passes;
  ends = upto_ends c.the_journal_is_lawful.ensures;
  opens = upto_opens c.the_journal_is_lawful.ensures;
  leaves = replayed_leaves c.the_journal_is_lawful.ensures;
}
