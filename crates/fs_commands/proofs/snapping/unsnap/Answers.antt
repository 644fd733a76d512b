use Rattle.std.proofs.Common.{IfErr, Ok, refl, subst}
use Rattle.lang_tree.specs.declared.command.Cmd.TheVariants.{Unsnap}
use Rattle.lang_tree.specs.declared.command.Reply.TheVariants.{Refused}
use Rattle.fs_session.specs.declared.plan.Plan.TheVariants.{Answer}
use Rattle.fs_session.specs.Plans.{Plans}
use Rattle.fs_commands.specs.Known.{counts_in, number_in}
use Rattle.fs_commands.proofs.planning.Behind.{may_plan_still}
use Rattle.fs_commands.proofs.snapped.Knows.{knows_same}
use Rattle.fs_commands.proofs.unsnapped.Found.{answered_map, refused_map}
use Rattle.fs_commands.proofs.snapping.unsnap.Given as given
use Rattle.fs_commands.proofs.snapping.unsnap.Goals as goal
use Rattle.fs_commands.proofs.snapping.unsnap.Goals.{In-Ok-Err}

pub take_away-requires-clause-may : goal.take_away-requires-clause-may
take_away-requires-clause-may g c = may_plan_still g.S.Blocks.tells (g.S.Blocks.state c.args.blocks.now) (g.S.Blocks.state c.find_gone.new.blocks) c.in-Ok-Ok.ensures.looks c.requires.may

-- what the tree refuses is planned so
answered_so : (g : given.Over) (c : In-Ok-Err g) → Plans g.S.Blocks.tells (Unsnap c.args.name.now) (Ok (Answer (Refused c.in-Ok-Err.why))) (g.S.Blocks.state c.args.blocks.now) (g.S.Blocks.state c.find_gone.new.blocks)
answered_so g c = subst (λ r. IfErr r (λ why. Plans g.S.Blocks.tells (Unsnap c.args.name.now) (Ok (Answer (Refused why))) (g.S.Blocks.state c.args.blocks.now) (g.S.Blocks.state c.find_gone.new.blocks))) c.in-Ok-Err.field-0-is c.in-Ok-Err.ensures.refused

pub returns-in-Ok-Err-clause-carries : goal.returns-in-Ok-Err-clause-carries
returns-in-Ok-Err-clause-carries g c = c.carry.ensures.carries (Unsnap c.args.name.now) c.args.blocks.now refl (answered_so g (goal.at.returns-in-Ok-Err-clause-carries g c).In-Ok-Err)

pub returns-in-Ok-Err-clause-knows : goal.returns-in-Ok-Err-clause-knows
returns-in-Ok-Err-clause-knows g c = λ told.
    let s = g.S.Blocks.state c.args.blocks.now in
    let carried = c.carry.ensures.carries (Unsnap c.args.name.now) c.args.blocks.now refl (answered_so g (goal.at.returns-in-Ok-Err-clause-knows g c).In-Ok-Err) in
    knows_same s (g.S.Blocks.state c.carry.new.blocks) (counts_in c.args.known.now) (number_in c.args.known.now) carried.runs.geom
    (answered_map g.S.Blocks.tells s (g.S.Blocks.state c.find_gone.new.blocks) (g.S.Blocks.state c.carry.new.blocks) c.carry.result told (c.in-Ok-Err.ensures.looks.map told) (c.carry.ensures.map told) carried.unspent) (c.requires.knows told)

pub returns-in-Err-clause-carries : goal.returns-in-Err-clause-carries
returns-in-Err-clause-carries g c = c.carry-in-Err.ensures.carries (Unsnap c.args.name.now) c.args.blocks.now refl c.in-Err.ensures.lacking

pub returns-in-Err-clause-knows : goal.returns-in-Err-clause-knows
returns-in-Err-clause-knows g c = λ told.
    let s = g.S.Blocks.state c.args.blocks.now in
    let carried = c.carry-in-Err.ensures.carries (Unsnap c.args.name.now) c.args.blocks.now refl c.in-Err.ensures.lacking in
    knows_same s (g.S.Blocks.state c.carry-in-Err.new.blocks) (counts_in c.args.known.now) (number_in c.args.known.now) carried.runs.geom
    (refused_map g.S.Blocks.tells s (g.S.Blocks.state c.carry-in-Err.new.blocks) c.carry-in-Err.result told (c.carry-in-Err.ensures.map told) carried.unspent) (c.requires.knows told)
