use Rattle.std.proofs.Common.{IfErr, Ok, Result, refl, subst}
use Rattle.lang_tree.specs.declared.command.Cmd.TheVariants.{Snap}
use Rattle.lang_tree.specs.declared.command.Refusal.{Refusal}
use Rattle.lang_tree.specs.declared.command.Reply.TheVariants.{Refused}
use Rattle.crash_stands.specs.Files.{files_of}
use Rattle.fs_session.specs.declared.plan.Plan.TheVariants.{Answer}
use Rattle.fs_session.specs.Plans.{Plans}
use Rattle.fs_commands.specs.declared.snapping.NewSnapshot.{NewSnapshot}
use Rattle.fs_commands.specs.Known.{counts_in, number_in}
use Rattle.fs_commands.proofs.planning.Behind.{may_plan_still}
use Rattle.fs_commands.proofs.snapped.Knows.{knows_same}
use Rattle.fs_commands.proofs.unsnapped.Found.{answered_map, refused_map}
use Rattle.fs_commands.proofs.snapping.snap.Given as given
use Rattle.fs_commands.proofs.snapping.snap.Goals as goal
use Rattle.fs_commands.proofs.snapping.snap.Goals.{In-Ok-Err}

-- the tree refuses it
refused : (g : given.Over) (c : In-Ok-Err g) → Plans g.S.Blocks.tells (Snap c.args.name.now) (Ok (Answer (Refused c.in-Ok-Err.why))) (g.S.Blocks.state c.args.blocks.now) (g.S.Blocks.state c.find_new.new.blocks)
refused g c =
    subst (λ (r : Result NewSnapshot Refusal). IfErr r (λ why. Plans g.S.Blocks.tells (Snap c.args.name.now) (Ok (Answer (Refused why))) (g.S.Blocks.state c.args.blocks.now) (g.S.Blocks.state c.find_new.new.blocks)))
    c.in-Ok-Err.field-0-is c.in-Ok-Err.ensures.refused

pub find_new-requires-clause-below : goal.find_new-requires-clause-below
find_new-requires-clause-below g c = λ told.
    let s = g.S.Blocks.state c.args.blocks.now in
    c.least.ensures.used (files_of s.books.geom s.map) (c.requires.between.used told)

pub make-requires-clause-may : goal.make-requires-clause-may
make-requires-clause-may g c = may_plan_still g.S.Blocks.tells _ _ c.in-Ok-Ok.ensures.looks c.requires.may

pub returns-in-Ok-Err-clause-carries : goal.returns-in-Ok-Err-clause-carries
returns-in-Ok-Err-clause-carries g c = c.carry.ensures.carries (Snap c.args.name.now) c.args.blocks.now refl (refused g (goal.at.returns-in-Ok-Err-clause-carries g c).In-Ok-Err)

pub returns-in-Ok-Err-clause-knows : goal.returns-in-Ok-Err-clause-knows
returns-in-Ok-Err-clause-knows g c = λ told.
    let s = g.S.Blocks.state c.args.blocks.now in
    let t = g.S.Blocks.state c.carry.new.blocks in
    let carries = c.carry.ensures.carries (Snap c.args.name.now) c.args.blocks.now refl (refused g (goal.at.returns-in-Ok-Err-clause-knows g c).In-Ok-Err) in
    knows_same s t (counts_in c.args.known.now) (number_in c.args.known.now) carries.runs.geom
    (answered_map g.S.Blocks.tells s (g.S.Blocks.state c.find_new.new.blocks) t c.carry.result told (c.in-Ok-Err.ensures.looks.map told) (c.carry.ensures.map told) carries.unspent) (c.requires.knows told)

pub returns-in-Err-clause-carries : goal.returns-in-Err-clause-carries
returns-in-Err-clause-carries g c = c.carry-in-Err.ensures.carries (Snap c.args.name.now) c.args.blocks.now refl c.in-Err.ensures.lacking

pub returns-in-Err-clause-knows : goal.returns-in-Err-clause-knows
returns-in-Err-clause-knows g c = λ told.
    let s = g.S.Blocks.state c.args.blocks.now in
    let t = g.S.Blocks.state c.carry-in-Err.new.blocks in
    let carries = c.carry-in-Err.ensures.carries (Snap c.args.name.now) c.args.blocks.now refl c.in-Err.ensures.lacking in
    knows_same s t (counts_in c.args.known.now) (number_in c.args.known.now) carries.runs.geom (refused_map g.S.Blocks.tells s t c.carry-in-Err.result told (c.carry-in-Err.ensures.map told) carries.unspent) (c.requires.knows told)
