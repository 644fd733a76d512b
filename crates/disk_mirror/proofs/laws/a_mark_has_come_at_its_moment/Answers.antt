use Rattle.disk_mirror.proofs.MarkMoments.{mark_came, came_mark, marks_order}
use Rattle.disk_mirror.proofs.laws.a_mark_has_come_at_its_moment.Goals as goal

pub returns-clause-came : goal.returns-clause-came
returns-clause-came c = mark_came

pub returns-clause-order : goal.returns-clause-order
returns-clause-order c = marks_order

pub returns-clause-back : goal.returns-clause-back
returns-clause-back c = came_mark
