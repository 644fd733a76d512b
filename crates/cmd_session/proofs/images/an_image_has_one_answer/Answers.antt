use Rattle.cmd_session.specs.Images.{resting}
use Rattle.cmd_session.proofs.Damages.{not_damaged, not_mounted}
use Rattle.cmd_session.proofs.images.an_image_has_one_answer.Goals as goal

pub returns-clause-stands : goal.returns-clause-stands
returns-clause-stands c = λ n at t s is. c.a_damaged_image_stands_for_no_tree.ensures n at is.0 is.1 t s.stands

pub returns-clause-spent : goal.returns-clause-spent
returns-clause-spent c = not_mounted (λ n at f left. c.a_mount_has_one_answer.ensures.numbers (resting n at) f left)

pub returns-clause-damaged : goal.returns-clause-damaged
returns-clause-damaged c = not_damaged (λ n at f left. c.a_mount_has_one_answer.ensures.numbers (resting n at) f left)
