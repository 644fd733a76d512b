use Rattle.crash_argument.proofs.mount.ReplayStages.{closing_holds, replaying_holds, opening_holds}
use Rattle.crash_argument.proofs.replay.a_replay_holds_what_was_found.Goals as goal

pub returns : goal.returns
returns c = record {
  closing = λ n base log img at slot h closed run honest. closing_holds c.the_journal_is_lawful.ensures n base log img honest slot at h closed run;
  replaying = λ n base log img at slot old_slot h closed run honest. replaying_holds c.the_journal_is_lawful.ensures n base log img honest slot old_slot at h closed run;
  opening = λ n base log img at slot old_slot h closed fresh run honest. opening_holds c.the_journal_is_lawful.ensures n base log img honest slot old_slot at h closed fresh run;
}
