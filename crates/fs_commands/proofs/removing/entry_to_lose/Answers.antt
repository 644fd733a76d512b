use Rattle.std.proofs.Common.{IfSome, subst, ap, ◌∙◌}
use Rattle.fs_commands.specs.Looks.{ShowsFacts, entry_number}
use Rattle.fs_commands.proofs.removing.entry_to_lose.Goals as goal

pub returns-in-Some-loss_refusal-clause-loses : goal.returns-in-Some-loss_refusal-clause-loses
returns-in-Some-loss_refusal-clause-loses c = λ m path walked some shows.
    c.loss_refusal.ensures m path c.in-Some.entry.node.number (walked ∙ ap entry_number c.in-Some.is) some (subst (λ o. IfSome o (λ e. ShowsFacts m path e.node.facts)) c.in-Some.is shows) ∙ c.in-Some-loss_refusal.is
