use Rattle.fs_session.proofs.standing.Known.{leaves_now, leaves_in_call, leaves_earlier}
use Rattle.fs_session.proofs.points.a_crash_leaves_the_tree_of_a_point.Goals as goal

pub returns-clause-now : goal.returns-clause-now
returns-clause-now g c = λ s trees img tells known left. leaves_now (g.S.Blocks.state s) trees img (g.met.S.Blocks.is_told s tells) known left

pub returns-clause-call : goal.returns-clause-call
returns-clause-call g c = λ old new trees img on known left. leaves_in_call (g.S.Blocks.state old) (g.S.Blocks.state new) trees img on known left

pub returns-clause-earlier : goal.returns-clause-earlier
returns-clause-earlier g c = λ old new trees t img on known before left. leaves_earlier (g.S.Blocks.state old) (g.S.Blocks.state new) trees t img on known before left
