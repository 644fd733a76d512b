use Rattle.std.proofs.Common.{true, false, inl, inr, Err, refl, sym}
use Rattle.std.proofs.lemmas.Bool.{false≢true}
use Rattle.lang_tree.specs.declared.command.Refusal.TheVariants.{DiskFault}
use Rattle.fs_session.specs.Staying.{between_ticks, stands_ticks}
use Rattle.fs_commands.specs.Known.{counts_in, number_in}
use Rattle.fs_commands.proofs.Holding.{holds_same}
use Rattle.fs_commands.proofs.snapped.Knows.{knows_same}
use Rattle.fs_commands.proofs.commands.begin.Goals as goal

pub run-requires-clause-between : goal.run-requires-clause-between
run-requires-clause-between g c =
    between_ticks g.S.Blocks.tells false (g.S.Blocks.state c.args.blocks.now) (g.S.Blocks.state c.tick.new.self) (record { moves = c.in-Ok.ensures.moves; waits = c.in-Ok.ensures.waits; ticks = c.in-Ok.ensures.ticks; writes = c.in-Ok.ensures.writes; serves = λ told alone well. c.in-Ok.ensures.serves told alone; ring = λ told alone well. c.in-Ok.ensures.ring told alone }) c.args.unused.now
    (λ new. c.a_sync_may_follow.ensures.rests (g.S.Blocks.state c.args.blocks.now).books new) c.requires.between

pub returns-in-Ok-clause-began : goal.returns-in-Ok-clause-began
returns-in-Ok-clause-began g c = record {
  mid = c.tick.new.self;
  result = c.run.result;
  is = c.reply_for.ensures;
  ran = inr (record { moves = c.in-Ok.ensures.moves; waits = c.in-Ok.ensures.waits; ticks = c.in-Ok.ensures.ticks; writes = c.in-Ok.ensures.writes; serves = λ told alone well. c.in-Ok.ensures.serves told alone; ring = λ told alone well. c.in-Ok.ensures.ring told alone }, c.run.ensures.runs);
}

pub returns-in-Err-clause-began : goal.returns-in-Err-clause-began
returns-in-Err-clause-began g c = record {
  mid = c.args.blocks.now;
  result = Err DiskFault;
  is = refl;
  ran = inl (record { moves = c.in-Err.ensures.moves; waits = c.in-Err.ensures.waits; ticks = c.in-Err.ensures.ticks; writes = c.in-Err.ensures.writes; serves = λ told alone well. absurd (false≢true (sym well)); ring = λ told alone well. absurd (false≢true (sym well)) }, refl);
}

pub returns-in-Err-clause-between : goal.returns-in-Err-clause-between
returns-in-Err-clause-between g c =
    between_ticks g.S.Blocks.tells true (g.S.Blocks.state c.args.blocks.now) (g.S.Blocks.state c.tick.new.self) (record { moves = c.in-Err.ensures.moves; waits = c.in-Err.ensures.waits; ticks = c.in-Err.ensures.ticks; writes = c.in-Err.ensures.writes; serves = λ told alone well. absurd (false≢true (sym well)); ring = λ told alone well. absurd (false≢true (sym well)) }) c.args.unused.now
    (λ new. c.a_sync_may_follow.ensures.rests (g.S.Blocks.state c.args.blocks.now).books new) c.requires.between

pub run-requires-clause-stands : goal.run-requires-clause-stands
run-requires-clause-stands g c = λ told.
    stands_ticks g.S.Blocks.tells false (g.S.Blocks.state c.args.blocks.now) (g.S.Blocks.state c.tick.new.self) (record { moves = c.in-Ok.ensures.moves; waits = c.in-Ok.ensures.waits; ticks = c.in-Ok.ensures.ticks; writes = c.in-Ok.ensures.writes; serves = λ told alone well. c.in-Ok.ensures.serves told alone; ring = λ told alone well. c.in-Ok.ensures.ring told alone }) told (c.requires.stands told)

pub run-requires-clause-knows : goal.run-requires-clause-knows
run-requires-clause-knows g c = λ told.
    knows_same (g.S.Blocks.state c.args.blocks.now) (g.S.Blocks.state c.tick.new.self) (counts_in c.args.known.now) (number_in c.args.known.now) c.in-Ok.ensures.moves.pipeline.geom (c.in-Ok.ensures.moves.map told) (c.requires.knows told)

pub returns-in-Err-clause-knows : goal.returns-in-Err-clause-knows
returns-in-Err-clause-knows g c = λ told.
    knows_same (g.S.Blocks.state c.args.blocks.now) (g.S.Blocks.state c.tick.new.self) (counts_in c.args.known.now) (number_in c.args.known.now) c.in-Err.ensures.moves.pipeline.geom (c.in-Err.ensures.moves.map told) (c.requires.knows told)

pub run-requires-clause-holds : goal.run-requires-clause-holds
run-requires-clause-holds g c =
    holds_same g.S.Blocks.tells (g.S.Blocks.state c.args.blocks.now) (g.S.Blocks.state c.tick.new.self) c.in-Ok.ensures.moves.pipeline.geom c.in-Ok.ensures.moves.map c.args.held.now c.requires.holds

pub returns-in-Err-clause-holds : goal.returns-in-Err-clause-holds
returns-in-Err-clause-holds g c =
    holds_same g.S.Blocks.tells (g.S.Blocks.state c.args.blocks.now) (g.S.Blocks.state c.tick.new.self) c.in-Err.ensures.moves.pipeline.geom c.in-Err.ensures.moves.map c.args.held.now c.requires.holds
