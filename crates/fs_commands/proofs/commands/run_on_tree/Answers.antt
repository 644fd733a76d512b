use Rattle.crash_stands.specs.Files.{files_of}
use Rattle.fs_session.specs.Staying.{between_settles}
use Rattle.fs_commands.specs.Known.{counts_in, number_in}
use Rattle.fs_snapshots.specs.Known.{KnowsSnapshots}
use Rattle.fs_commands.proofs.Holding.{IsThere, holds_so}
use Rattle.fs_commands.proofs.snapped.Knows.{carried_so}
use Rattle.fs_commands.proofs.running.{runs_on_tree, on_tree_is_no_sync}
use Rattle.fs_session.specs.Plans.{plan_fails_reading, plan_fails_settling}
use Rattle.fs_commands.proofs.commands.run_on_tree.Goals as goal

pub plan-planned-requires-clause-below : goal.plan-planned-requires-clause-below
plan-planned-requires-clause-below g c = λ told.
    let s = g.S.Blocks.state c.args.blocks.now in
    c.least.ensures.used (files_of s.books.geom s.map) (c.requires.between.used told)

pub carry-requires-clause-between : goal.carry-requires-clause-between
carry-requires-clause-between g c =
    between_settles g.S.Blocks.tells (plan_fails_reading c.plan-planned.result) (plan_fails_settling c.plan-planned.result) (g.S.Blocks.state c.args.blocks.now) (g.S.Blocks.state c.plan-planned.new.blocks) c.args.unused.now
    (λ new. c.a_sync_may_follow.ensures.rests (g.S.Blocks.state c.args.blocks.now).books new) c.plan-planned.ensures.plans.settles c.requires.between

pub returns-clause-runs : goal.returns-clause-runs
returns-clause-runs g c =
    runs_on_tree g.S.Blocks.tells g.S.Blocks.state c.args.cmd.now c.carry.result c.args.blocks.now c.carry.new.blocks c.requires.on_tree
    (c.carry.ensures.carries c.args.cmd.now c.args.blocks.now (on_tree_is_no_sync c.args.cmd.now c.requires.on_tree) c.plan-planned.ensures.plans)

pub plan-planned-requires-clause-may : goal.plan-planned-requires-clause-may
plan-planned-requires-clause-may g c =
    let s = g.S.Blocks.state c.args.blocks.now in
    record {
      begin = record {
        going = c.requires.may.going;
        none_bare = c.requires.may.goes_on.may.none_bare;
        sound = c.requires.between.sound;
        kept = λ told. c.what_is_known_of_snapshots_is_so.ensures.kept s.books.geom s.map (counts_in c.args.known.now) (c.requires.knows told).kept;
      };
      stands = c.requires.stands;
      turns = c.requires.may.turns;
    }

pub returns-clause-knows : goal.returns-clause-knows
returns-clause-knows g c = λ told.
    let s = g.S.Blocks.state c.args.blocks.now in
    let q = g.S.Blocks.state c.plan-planned.new.blocks in
    let plans = c.plan-planned.ensures.plans in
    let carries = c.carry.ensures.carries c.args.cmd.now c.args.blocks.now (on_tree_is_no_sync c.args.cmd.now c.requires.on_tree) plans in
    carried_so (λ g m. KnowsSnapshots g m (counts_in c.args.known.now) (number_in c.args.known.now)) g.S.Blocks.tells s q (g.S.Blocks.state c.carry.new.blocks) c.args.cmd.now told c.requires.stays (c.requires.stands told)
    plans.settles.pipeline.geom (plans.settles.map told) carries.runs.geom
    (λ d m t stands draft stays drafted. c.a_draft_that_leaves_snapshots_makes_its_tree.ensures.known told d m t (counts_in c.args.known.now) (number_in c.args.known.now) stands draft stays drafted) (c.requires.knows told)
    c.plan-planned.result c.carry.result plans c.plan-planned.ensures.made (c.carry.ensures.map told) carries.unspent

pub returns-clause-holds : goal.returns-clause-holds
returns-clause-holds g c =
    let s = g.S.Blocks.state c.args.blocks.now in
    let q = g.S.Blocks.state c.plan-planned.new.blocks in
    let plans = c.plan-planned.ensures.plans in
    let carries = c.carry.ensures.carries c.args.cmd.now c.args.blocks.now (on_tree_is_no_sync c.args.cmd.now c.requires.on_tree) plans in
    holds_so g.S.Blocks.tells s (g.S.Blocks.state c.carry.new.blocks) carries.runs.geom
    (λ told k v there.
    carried_so (IsThere k v) g.S.Blocks.tells s q (g.S.Blocks.state c.carry.new.blocks) c.args.cmd.now told c.requires.stays (c.requires.stands told) plans.settles.pipeline.geom (plans.settles.map told) carries.runs.geom
    (λ d m t stands draft stays drafted was. c.a_draft_that_leaves_snapshots_makes_its_tree.ensures.gone told d m t k v stands draft stays drafted was.0 was.1) there
    c.plan-planned.result c.carry.result plans c.plan-planned.ensures.made (c.carry.ensures.map told) carries.unspent)
    c.args.held.now c.requires.holds
