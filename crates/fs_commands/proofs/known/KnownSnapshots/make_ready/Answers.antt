use Rattle.fs_commands.proofs.numbered.Keys.{put_here, put_other}
use Rattle.std.proofs.Common.{◌∙◌, ap, subst, Some, ◌≡◌}
use Rattle.std.specs.FinMap.{get}
use Rattle.fs_check.specs.Snapshots.{numbers_in}
use Rattle.fs_commands.specs.Known.{number_in}
use Rattle.fs_commands.proofs.known.KnownSnapshots.make_ready.Goals as goal

pub returns-clause-here : goal.returns-clause-here
returns-clause-here c = subst (λ k. get (numbers_in c.insert.new.self.entries) k ≡ Some c.args.number) c.copy.ensures (put_here c.self.inside.numbers.entries c.insert.new.self.entries c.copy.result c.args.number c.in_ok-insert.ensures.entries)

pub returns-clause-others : goal.returns-clause-others
returns-clause-others c = λ other off. put_other c.self.inside.numbers.entries c.insert.new.self.entries c.copy.result c.args.number c.in_ok-insert.ensures.entries other (λ e. off (e ∙ c.copy.ensures)) ∙ ap (λ k. number_in k other) c.self.view_is
