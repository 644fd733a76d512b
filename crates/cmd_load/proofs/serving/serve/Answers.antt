-- One command more, and all of them in the end.
use Rattle.std.proofs.Common.{arith}
use Rattle.disk_memory.specs.MemDisk.{state_of as disk_state}
use Rattle.engine_store.specs.StoreOf.{state_of}
use Rattle.lang_tree.specs.Points.{is_refusal}
use Rattle.fs_commands.specs.Opened.{blocks_in}
use Rattle.cmd_load.proofs.Loads.{begins, ends, one_more, small}
use Rattle.cmd_load.proofs.serving.serve.Goals as goal

pub loop-init : goal.loop-init
loop-init c = (begins c.args.seed c.args.count _ (state_of disk_state (blocks_in c.args.fs.now)) c.new-load.ensures c.requires.begun, c.requires.ready, c.requires.stands)

pub overflow_add-refused : goal.overflow_add-refused
overflow_add-refused c = omega (arith, small c.args.seed c.args.count c.loop.counter c.loop.load c.loop.refused c.in_ok-refused.field-0 (is_refusal c.answer-reply.result) (state_of disk_state (blocks_in c.loop.fs)) c.requires.most c.loop.invariant.0 c.in_ok-refused.ensures.count)

pub loop-preserved : goal.loop-preserved
loop-preserved c = (
  one_more c.nothing_shared_costs_nothing.ensures.commands c.args.seed c.args.count c.loop.counter c.loop.load c.loop.refused c.next_command.new.self c.in_ok-refused.field-0 c.in_ok-cmd.cmd c.answer-reply.result (state_of disk_state (blocks_in c.loop.fs)) (state_of disk_state (blocks_in c.answer-reply.new.fs))
      c.loop-test.true c.requires.most c.loop.invariant.0 c.in_ok-cmd.ensures.command c.in_ok-cmd.ensures.state c.answer-reply.ensures.answered c.in_ok-refused.ensures.calm c.in_ok-refused.ensures.count,
  c.answer-reply.ensures.ready,
  c.answer-reply.ensures.stands,
)

pub returns-clause-serves : goal.returns-clause-serves
returns-clause-serves c = ends c.args.seed c.args.count c.loop.counter c.loop.load c.loop.refused (state_of disk_state (blocks_in c.loop.fs)) c.loop-test.false c.loop.invariant.0
