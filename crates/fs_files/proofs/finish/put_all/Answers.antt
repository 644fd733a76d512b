use Rattle.std.proofs.Common.{◌+◌, ◌∙◌, sym, ap, subst, length, arith}
use Rattle.engine_blocks.specs.State.{after_put}
use Rattle.engine_blocks.specs.Calls.{IsWithBlock}
use Rattle.fs_files.proofs.finishing.Puts.{ArePutUpTo, may_put, one_put}
use Rattle.fs_files.proofs.finish.put_all.Goals.{in-Some, in_default}
use Rattle.fs_files.proofs.finish.put_all.Goals as goal

pub put-requires-clause-from : goal.put-requires-clause-from
put-requires-clause-from g c = (may_put g.S.Blocks.tells c.args.fresh (g.S.Blocks.state c.args.blocks.now) (g.S.Blocks.state c.loop.blocks) c.args.changes c.loop.changes c.pop_first.new.self c.loop.counter (c.in-Some.b, c.in-Some.change) c.loop.invariant c.in-Some.ensures.first).from

pub put-requires-clause-below : goal.put-requires-clause-below
put-requires-clause-below g c = (may_put g.S.Blocks.tells c.args.fresh (g.S.Blocks.state c.args.blocks.now) (g.S.Blocks.state c.loop.blocks) c.args.changes c.loop.changes c.pop_first.new.self c.loop.counter (c.in-Some.b, c.in-Some.change) c.loop.invariant c.in-Some.ensures.first).below

pub put-requires-clause-marked : goal.put-requires-clause-marked
put-requires-clause-marked g c = (may_put g.S.Blocks.tells c.args.fresh (g.S.Blocks.state c.args.blocks.now) (g.S.Blocks.state c.loop.blocks) c.args.changes c.loop.changes c.pop_first.new.self c.loop.counter (c.in-Some.b, c.in-Some.change) c.loop.invariant c.in-Some.ensures.first).marked

pub loop-preserved : goal.loop-preserved
loop-preserved g c = elim c.match-pop_first.branch [
  | in-Some w ↦ (
      let start = g.S.Blocks.state c.args.blocks.now in
      let mid = g.S.Blocks.state c.loop.blocks in
      let new = g.S.Blocks.state w.put.new.self in
      subst (λ s. ArePutUpTo g.S.Blocks.tells c.args.fresh start (g.S.Blocks.state s) c.args.changes c.pop_first.new.self (c.loop.counter + 1)) (sym w.blocks-is)
      (one_put g.S.Blocks.tells c.args.fresh start mid new c.args.changes c.loop.changes c.pop_first.new.self c.loop.counter (w.in-Some.b, w.in-Some.change) c.loop.invariant w.in-Some.ensures.first w.in-Some.ensures.found w.in-Some.ensures.others
      (w.put.ensures.books ∙ ap (after_put mid.books w.in-Some.b) w.class_as.ensures) (λ tells. subst (IsWithBlock mid.map new.map w.in-Some.b) w.bytes.ensures.bytes (w.put.ensures.map tells)) w.put.ensures.disk))
  | in_default w ↦ absurd (omega (arith, c.loop.invariant.count, ap length w.in_default.ensures.none, c.loop-test.true, c.len-end.ensures))
]
