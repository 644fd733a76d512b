use Rattle.std.proofs.Common.{◌∙◌, ap}
use Rattle.fs_commands.specs.Known.{number_in}
use Rattle.fs_commands.proofs.numbered.Keys.{found}
use Rattle.fs_commands.proofs.known.KnownSnapshots.number.Goals as goal

pub returns : goal.returns
returns c = c.copied.ensures ∙ c.get.ensures.value ∙ found c.args.name.now c.self.inside.numbers.entries ∙ ap (λ k. number_in k c.args.name.now) c.self.view_is
