use Rattle.std.proofs.Common.{refl}
use Rattle.fs_session.specs.Staying.{nothing_issued}
use Rattle.fs_session.proofs.applying.Answered.{of_applied, stands_after}
use Rattle.fs_session.proofs.applying.Passing.{of_applied as passed}
use Rattle.fs_session.proofs.laws.a_command_answers_its_session.Goals as goal

pub returns-clause-answers : goal.returns-clause-answers
returns-clause-answers g c = λ told old new f cmd reply h applies. of_applied g.S.Blocks.tells g.S.Blocks.state told g.met.S.Blocks.is_sound f cmd reply old new h applies

pub returns-clause-time : goal.returns-clause-time
returns-clause-time g c = λ told old new cmd reply applies.
    passed g.S.Blocks.tells g.S.Blocks.state told c.calls_compose.ensures.advances (λ s. c.calls_compose.ensures.rests told s s refl refl (nothing_issued (g.S.Blocks.state s))) cmd reply old new applies

pub returns-clause-stands : goal.returns-clause-stands
returns-clause-stands g c = λ told old new cmd reply before applies.
    stands_after g.S.Blocks.tells g.S.Blocks.state cmd reply old new
    (λ f h. of_applied g.S.Blocks.tells g.S.Blocks.state told g.met.S.Blocks.is_sound f cmd reply old new h applies) before
