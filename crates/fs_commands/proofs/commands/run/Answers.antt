use Rattle.fs_commands.specs.Known.{counts_in, number_in}
use Rattle.fs_commands.proofs.Holding.{holds_same}
use Rattle.fs_commands.proofs.snapped.Knows.{knows_same}
use Rattle.fs_commands.proofs.commands.run.Goals as goal

pub returns-in-Osync-clause-between : goal.returns-in-Osync-clause-between
returns-in-Osync-clause-between g c = c.osync.ensures.between c.args.unused.now c.requires.between

pub returns-in-Dsync-clause-between : goal.returns-in-Dsync-clause-between
returns-in-Dsync-clause-between g c = c.dsync.ensures.between c.args.unused.now c.requires.between

pub returns-in-Dwait-clause-between : goal.returns-in-Dwait-clause-between
returns-in-Dwait-clause-between g c = c.dwait.ensures.between c.args.unused.now c.requires.between

pub returns-in-Osync-clause-knows : goal.returns-in-Osync-clause-knows
returns-in-Osync-clause-knows g c = λ told.
    knows_same (g.S.Blocks.state c.args.blocks.now) (g.S.Blocks.state c.osync.new.blocks) (counts_in c.args.known.now) (number_in c.args.known.now) c.osync.ensures.syncs.geom (c.osync.ensures.syncs.map told) (c.requires.knows told)

pub returns-in-Dsync-clause-knows : goal.returns-in-Dsync-clause-knows
returns-in-Dsync-clause-knows g c = λ told.
    knows_same (g.S.Blocks.state c.args.blocks.now) (g.S.Blocks.state c.dsync.new.blocks) (counts_in c.args.known.now) (number_in c.args.known.now) c.dsync.ensures.syncs.geom (c.dsync.ensures.syncs.map told) (c.requires.knows told)

pub returns-in-Dwait-clause-knows : goal.returns-in-Dwait-clause-knows
returns-in-Dwait-clause-knows g c = λ told.
    knows_same (g.S.Blocks.state c.args.blocks.now) (g.S.Blocks.state c.dwait.new.blocks) (counts_in c.args.known.now) (number_in c.args.known.now) c.dwait.ensures.waits.runs.pipeline.geom (c.dwait.ensures.waits.runs.map told) (c.requires.knows told)

pub snap-requires-clause-may : goal.snap-requires-clause-may
snap-requires-clause-may g c =
    let s = g.S.Blocks.state c.args.blocks.now in
    record {
      begin = record {
        going = c.requires.may.going;
        none_bare = c.requires.may.goes_on.may.none_bare;
        sound = c.requires.between.sound;
        kept = λ told. c.what_is_known_of_snapshots_is_so.ensures.kept s.books.geom s.map (counts_in c.args.known.now) (c.requires.knows told).kept;
      };
      stands = c.requires.stands;
      turns = c.requires.may.turns;
    }

pub unsnap-requires-clause-may : goal.unsnap-requires-clause-may
unsnap-requires-clause-may g c =
    let s = g.S.Blocks.state c.args.blocks.now in
    record {
      begin = record {
        going = c.requires.may.going;
        none_bare = c.requires.may.goes_on.may.none_bare;
        sound = c.requires.between.sound;
        kept = λ told. c.what_is_known_of_snapshots_is_so.ensures.kept s.books.geom s.map (counts_in c.args.known.now) (c.requires.knows told).kept;
      };
      stands = c.requires.stands;
      turns = c.requires.may.turns;
    }

pub returns-in-Osync-clause-holds : goal.returns-in-Osync-clause-holds
returns-in-Osync-clause-holds g c =
    holds_same g.S.Blocks.tells (g.S.Blocks.state c.args.blocks.now) (g.S.Blocks.state c.osync.new.blocks) c.osync.ensures.syncs.geom c.osync.ensures.syncs.map c.args.held.now c.requires.holds

pub returns-in-Dsync-clause-holds : goal.returns-in-Dsync-clause-holds
returns-in-Dsync-clause-holds g c =
    holds_same g.S.Blocks.tells (g.S.Blocks.state c.args.blocks.now) (g.S.Blocks.state c.dsync.new.blocks) c.dsync.ensures.syncs.geom c.dsync.ensures.syncs.map c.args.held.now c.requires.holds

pub returns-in-Dwait-clause-holds : goal.returns-in-Dwait-clause-holds
returns-in-Dwait-clause-holds g c =
    holds_same g.S.Blocks.tells (g.S.Blocks.state c.args.blocks.now) (g.S.Blocks.state c.dwait.new.blocks) c.dwait.ensures.waits.runs.pipeline.geom c.dwait.ensures.waits.runs.map c.args.held.now c.requires.holds
