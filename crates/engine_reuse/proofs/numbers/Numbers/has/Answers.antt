-- A member's bit is set.
use Rattle.std.proofs.Common.{ap, ◌∙◌}
use Rattle.engine_reuse.specs.Numbers.{is_among, NumberSet}
use Rattle.engine_reuse.specs.Words.{has_bit}
use Rattle.engine_reuse.proofs.Members.{is_member}
use Rattle.engine_reuse.proofs.numbers.Numbers.has.Goals as goal

pub returns : goal.returns
returns c =
    c.has.ensures ∙ ap (λ words. has_bit words c.args.b) c.deref.ensures.value
    ∙ is_member c.self.inside.words.items c.args.b ∙ ap (λ (s : NumberSet). is_among c.args.b s.members) c.self.view_is
