use Rattle.std.proofs.Common.{Option, subst}
use Rattle.fs_files.specs.Calls.{files_in}
use Rattle.fs_files.specs.Drafts.{nothing_drafted}
use Rattle.fs_commands.specs.declared.paths.Entry.{Entry}
use Rattle.fs_commands.specs.Moving.{IsMove}
use Rattle.fs_commands.proofs.moved.Known.{move_within}
use Rattle.fs_commands.proofs.moving.plan_move.Goals as goal

pub plan_onto-requires-clause-known : goal.plan_onto-requires-clause-known
plan_onto-requires-clause-known g c = λ told.
    let m = c.requires.known told in
    let spot = c.args.spot.now in
    (m.0, m.1, subst (λ (o : Option Entry). IsMove (g.S.Blocks.state c.args.blocks.now).books.geom.layout (files_in (g.S.Blocks.state c.args.blocks.now) nothing_drafted) m.0 m.1 c.args.source.now spot.dir spot.count o c.args.other.now) c.in-Some.is m.2)

pub plan_within-requires-clause-known : goal.plan_within-requires-clause-known
plan_within-requires-clause-known g c = λ told.
    let m = c.requires.known told in
    let spot = c.args.spot.now in
    let files = files_in (g.S.Blocks.state c.args.blocks.now) nothing_drafted in (
      m.0,
      m.1,
      move_within (g.S.Blocks.state c.args.blocks.now).books.geom.layout files m.0 m.1 c.args.source.now spot.dir spot.count c.args.other.now c.if-source-spot.true
          (subst (λ (o : Option Entry). IsMove (g.S.Blocks.state c.args.blocks.now).books.geom.layout files m.0 m.1 c.args.source.now spot.dir spot.count o c.args.other.now) c.in-None.is m.2),
    )

pub plan_across-requires-clause-known : goal.plan_across-requires-clause-known
plan_across-requires-clause-known g c = λ told.
    let m = c.requires.known told in
    let spot = c.args.spot.now in
    (m.0, m.1, subst (λ (o : Option Entry). IsMove (g.S.Blocks.state c.args.blocks.now).books.geom.layout (files_in (g.S.Blocks.state c.args.blocks.now) nothing_drafted) m.0 m.1 c.args.source.now spot.dir spot.count o c.args.other.now) c.in-None.is m.2)
