use Rattle.std.proofs.Common.{sym, ◌∙◌, arith}
use Rattle.cmd_replay.proofs.Steps.{answer_tells}
use Rattle.cmd_replay.proofs.walk.answer.Goals as goal

pub returns : goal.returns
returns c =
    answer_tells c.args.tree.now c.apply-reply.new.self c.args.cmd.now c.apply-reply.result c.args.synced c.numbers_by-now.result.0
    (c.a_tree_in_memory_refuses_for_no_disk.ensures.exact _ _ _ _ c.apply-reply.ensures.answer) (sym c.is_out_of_memory.ensures ∙ c.if-is_out_of_memory.false) c.requires.same (c.a_reply_tells_the_last_point.ensures c.args.tree.now c.args.cmd.now (omega (arith, c.requires.same, c.requires.few))) c.numbers_by-now.ensures.points
