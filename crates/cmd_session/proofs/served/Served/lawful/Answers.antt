use Rattle.std.proofs.Common.{arith}
use Rattle.fs_commands.specs.Opened.{blocks_in}
use Rattle.cmd_session.proofs.Weights.{places_within_weight, within_weight}
use Rattle.cmd_session.proofs.served.Served.lawful.Goals as goal

pub returns-clause-places : goal.returns-clause-places
returns-clause-places g c = grind (arith, g.S.Blocks.state, c.self.view_is, places_within_weight, c.self.inside.fs, c.self.invariant.ready.between.goes_on.may)

pub returns-clause-writes : goal.returns-clause-writes
returns-clause-writes g c = grind (arith, g.S.Blocks.state, c.self.view_is, within_weight, c.self.inside.fs, c.self.invariant.ready.between.goes_on.may)

pub returns-clause-told : goal.returns-clause-told
returns-clause-told g c = λ tells. g.met.S.Blocks.is_told (blocks_in c.args.self.now) tells

pub returns-clause-floor : goal.returns-clause-floor
returns-clause-floor g c = (g.met.S.Blocks.is_sound (blocks_in c.args.self.now)).floor
