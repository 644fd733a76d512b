use Rattle.fs_log.proofs.Writing.{resting}
use Rattle.fs_log.proofs.laws.a_resting_log_is_as_it_was.Goals as goal

pub returns : goal.returns
returns g c = λ told s. resting g.S.Blocks.state s (c.calls_compose.ensures.rests told) (λ s trees img known left. c.a_crash_leaves_the_tree_of_a_point.ensures.now s trees img told known left)
