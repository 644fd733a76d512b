use Rattle.std.proofs.Common.{Err, refl, ap}
use Rattle.std.proofs.lemmas.Bool.{true≢false}
use Rattle.lang_tree.specs.declared.command.Refusal.{Refusal}
use Rattle.lang_tree.specs.declared.command.Refusal.TheVariants.{DiskFault}
use Rattle.lang_tree.specs.Run.{is_of_disk}
use Rattle.fs_session.specs.Commands.{is_disk_fault}
use Rattle.fs_session.proofs.applying.Causes.{by_tree}
use Rattle.fs_session.proofs.applying.Telling.{tells_points}
use Rattle.fs_session.proofs.points.a_reply_tells_the_points.Goals as goal

pub returns : goal.returns
returns g c = λ told old new f cmd reply begun h applies. tells_points g.S.Blocks.tells g.S.Blocks.state told
    (by_tree g.S.Blocks.tells g.S.Blocks.state told c.a_tree_in_memory_refuses_for_no_disk.ensures.alone DiskFault refl (λ same. true≢false (ap (λ (w : Refusal). is_disk_fault (Err w)) same)))
    begun (λ s next other answer. c.no_other_command_is_promised_a_point.ensures is_of_disk s next other answer)
    f cmd reply old new h applies (c.a_command_answers_its_session.ensures.answers told old new f cmd reply h applies)
