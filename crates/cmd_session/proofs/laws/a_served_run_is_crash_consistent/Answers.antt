use Rattle.std.proofs.Common.{subst}
use Rattle.lang_tree.specs.Step.{session_on}
use Rattle.lang_tree.specs.Tree.{Tree}
use Rattle.crash_stands.specs.Bounds.{bounds_of}
use Rattle.cmd_session.specs.Crashes.{LeavesPoints}
use Rattle.cmd_session.proofs.laws.a_served_run_is_crash_consistent.Goals as goal

pub returns : goal.returns
returns g c = λ s k t mounted cmds replies marks served stands.
    let crash = (g.S.Blocks.state s).crash in
    record {
      points = λ u other. subst (λ (x : Tree). LeavesPoints k.n crash.base (session_on (bounds_of k) x) crash.log mounted cmds replies marks) (c.an_image_stands_for_one_tree.ensures.image k.n crash.base t u stands other) served.crashes;
      none = λ not. absurd (not t stands);
    }
