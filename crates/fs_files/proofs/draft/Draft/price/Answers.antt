use Rattle.std.proofs.Common.{arith}
use Rattle.fs_files.proofs.finishing.Prices.{keys_have, as_many_keys, fewest_changed}
use Rattle.fs_files.proofs.draft.Draft.price.Goals as goal

pub returns-clause-all : goal.returns-clause-all
returns-clause-all g c = keys_have g.args.self.now.changed c

pub returns-clause-value : goal.returns-clause-value
returns-clause-value c = omega (arith, as_many_keys c.args.self.now.changed)

pub returns-clause-least : goal.returns-clause-least
returns-clause-least c = λ bs among. omega (arith, fewest_changed c.args.self.now.changed bs c.one_change_each.ensures among)
