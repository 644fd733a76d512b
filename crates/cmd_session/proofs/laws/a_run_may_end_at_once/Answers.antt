use Rattle.layout_geometry.specs.Geometry.{bitmap_blocks}
use Rattle.lang_tree.specs.Run.{is_of_disk}
use Rattle.lang_tree.specs.Step.{session_on}
use Rattle.crash_stands.specs.Bounds.{bounds_of}
use Rattle.cmd_session.proofs.Ending.{budget_grows, ends_so}
use Rattle.cmd_session.proofs.Moments.{spends_ending}
use Rattle.cmd_session.proofs.laws.a_run_may_end_at_once.Goals as goal
use Rattle.std.proofs.Common.{arith}

pub returns-clause-run : goal.returns-clause-run
returns-clause-run g c = λ s k t mounted cmds replies marks more served.
    ends_so (record { session = c.a_reply_tells_the_session.ensures is_of_disk; stops = c.a_fault_ends_the_session.ensures.more }) k t mounted cmds replies marks (g.S.Blocks.state s) more served

pub returns-clause-budget : goal.returns-clause-budget
returns-clause-budget g c = λ k t cmds replies more later e. budget_grows (bitmap_blocks k) (session_on (bounds_of k) t) 0 cmds replies more later e

pub returns-clause-spends : goal.returns-clause-spends
returns-clause-spends g c = grind (arith, g.S.Blocks.state, spends_ending)
