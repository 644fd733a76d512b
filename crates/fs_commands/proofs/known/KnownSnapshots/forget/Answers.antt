use Rattle.std.proofs.Common.{◌∙◌, ap, sym}
use Rattle.fs_commands.specs.Known.{number_in}
use Rattle.fs_commands.proofs.numbered.Keys.{found, gone_other}
use Rattle.fs_commands.proofs.known.KnownSnapshots.forget.Goals as goal

pub returns-clause-here : goal.returns-clause-here
returns-clause-here c = sym (found c.args.name.now c.remove.new.self.entries) ∙ c.remove.ensures.updates.1

pub returns-clause-others : goal.returns-clause-others
returns-clause-others c = λ other off. gone_other c.args.name.now c.self.inside.numbers.entries c.remove.new.self.entries c.remove.ensures.updates.3 other off ∙ ap (λ k. number_in k other) c.self.view_is
