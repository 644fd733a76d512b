use Rattle.std.proofs.Common.{refl, sym, ◌∙◌}
use Rattle.lang_tree.specs.declared.command.Cmd.TheVariants.{At}
use Rattle.fs_session.specs.Plans.{plan_fails_reading, plan_fails_settling}
use Rattle.fs_session.specs.Staying.{between_settles}
use Rattle.fs_commands.specs.Known.{counts_in, number_in}
use Rattle.fs_commands.proofs.Holding.{answer_map, holds_same}
use Rattle.fs_commands.proofs.running.{runs_on_tree}
use Rattle.fs_commands.proofs.snapped.Knows.{knows_same}
use Rattle.fs_commands.proofs.commands.look_back.Goals as goal

pub plan_at-planned-requires-clause-may : goal.plan_at-planned-requires-clause-may
plan_at-planned-requires-clause-may g c =
    let s = g.S.Blocks.state c.args.blocks.now in
    record {
      begin = record {
        going = c.requires.may.going;
        none_bare = c.requires.may.goes_on.may.none_bare;
        sound = c.requires.between.sound;
        kept = λ told. c.what_is_known_of_snapshots_is_so.ensures.kept s.books.geom s.map (counts_in c.args.known.now) (c.requires.knows told).kept;
      };
      stands = c.requires.stands;
      turns = c.requires.may.turns;
    }

pub carry-requires-clause-between : goal.carry-requires-clause-between
carry-requires-clause-between g c =
    between_settles g.S.Blocks.tells (plan_fails_reading c.plan_at-planned.result) (plan_fails_settling c.plan_at-planned.result) (g.S.Blocks.state c.args.blocks.now) (g.S.Blocks.state c.plan_at-planned.new.blocks) c.args.unused.now
    (λ new. c.a_sync_may_follow.ensures.rests (g.S.Blocks.state c.args.blocks.now).books new) c.plan_at-planned.ensures.plans.settles c.requires.between

pub returns-clause-runs : goal.returns-clause-runs
returns-clause-runs g c =
    let cmd = At c.args.name.now c.args.look.now in
    runs_on_tree g.S.Blocks.tells g.S.Blocks.state cmd c.carry.result c.args.blocks.now c.carry.new.blocks refl (c.carry.ensures.carries cmd c.args.blocks.now refl c.plan_at-planned.ensures.plans)

pub returns-clause-knows : goal.returns-clause-knows
returns-clause-knows g c = λ told.
    let s = g.S.Blocks.state c.args.blocks.now in
    let q = g.S.Blocks.state c.plan_at-planned.new.blocks in
    let t = g.S.Blocks.state c.carry.new.blocks in
    let plans = c.plan_at-planned.ensures.plans in
    let carries = c.carry.ensures.carries (At c.args.name.now c.args.look.now) c.args.blocks.now refl plans in
    knows_same s t (counts_in c.args.known.now) (number_in c.args.known.now) carries.runs.geom
    (answer_map g.S.Blocks.tells s q t c.plan_at-planned.result c.carry.result told c.plan_at-planned.ensures.answers (plans.settles.map told) (c.carry.ensures.map told) carries.unspent ∙ plans.settles.map told) (c.requires.knows told)

pub returns-clause-holds : goal.returns-clause-holds
returns-clause-holds g c =
    let s = g.S.Blocks.state c.args.blocks.now in
    let q = g.S.Blocks.state c.plan_at-planned.new.blocks in
    let t = g.S.Blocks.state c.carry.new.blocks in
    let plans = c.plan_at-planned.ensures.plans in
    let carries = c.carry.ensures.carries (At c.args.name.now c.args.look.now) c.args.blocks.now refl plans in
    holds_same g.S.Blocks.tells q t (carries.runs.geom ∙ sym plans.settles.pipeline.geom)
    (λ told. answer_map g.S.Blocks.tells s q t c.plan_at-planned.result c.carry.result told c.plan_at-planned.ensures.answers (plans.settles.map told) (c.carry.ensures.map told) carries.unspent)
    c.plan_at-planned.new.held c.plan_at-planned.ensures.holds
