use Rattle.std.proofs.Common.{◌∙◌, sym}
use Rattle.cmd_trace_reader.proofs.Steps.{counts_kept, memory_kept}
use Rattle.cmd_trace_reader.proofs.replay.Replay.applied.Goals as goal

pub invariant_of-self : goal.invariant_of-self
invariant_of-self c =
    memory_kept record { exact = c.a_tree_in_memory_refuses_for_no_disk.ensures.exact; alone = c.a_tree_in_memory_refuses_for_no_disk.ensures.alone } c.no_dsync_answers_a_point_to_come.ensures.step c.self.inside.tree c.apply-reply.new.self c.args.cmd.now c.apply-reply.result c.self.inside.points c.self.inside.durable c.self.invariant c.apply-reply.ensures.answer
    (sym c.is_out_of_memory.ensures ∙ c.if-is_out_of_memory.true)

pub invariant_of-self-in_err-written : goal.invariant_of-self-in_err-written
invariant_of-self-in_err-written c =
    let kept = counts_kept record { exact = c.a_tree_in_memory_refuses_for_no_disk.ensures.exact; alone = c.a_tree_in_memory_refuses_for_no_disk.ensures.alone } c.no_dsync_answers_a_point_to_come.ensures.step c.self.inside.tree c.apply-reply.new.self c.args.cmd.now c.apply-reply.result c.self.inside.points c.self.inside.durable c.self.invariant c.apply-reply.ensures.answer in
    (c.numbers_by-points.ensures.points ∙ kept.0, c.numbers_by-points.ensures.durable ∙ kept.1, kept.2)

pub invariant_of-self-then-eq : goal.invariant_of-self-then-eq
invariant_of-self-then-eq c =
    let kept = counts_kept record { exact = c.a_tree_in_memory_refuses_for_no_disk.ensures.exact; alone = c.a_tree_in_memory_refuses_for_no_disk.ensures.alone } c.no_dsync_answers_a_point_to_come.ensures.step c.self.inside.tree c.apply-reply.new.self c.args.cmd.now c.apply-reply.result c.self.inside.points c.self.inside.durable c.self.invariant c.apply-reply.ensures.answer in
    (c.numbers_by-points.ensures.points ∙ kept.0, c.numbers_by-points.ensures.durable ∙ kept.1, kept.2)

pub invariant_of-self-2 : goal.invariant_of-self-2
invariant_of-self-2 c =
    let kept = counts_kept record { exact = c.a_tree_in_memory_refuses_for_no_disk.ensures.exact; alone = c.a_tree_in_memory_refuses_for_no_disk.ensures.alone } c.no_dsync_answers_a_point_to_come.ensures.step c.self.inside.tree c.apply-reply.new.self c.args.cmd.now c.apply-reply.result c.self.inside.points c.self.inside.durable c.self.invariant c.apply-reply.ensures.answer in
    (c.numbers_by-points.ensures.points ∙ kept.0, c.numbers_by-points.ensures.durable ∙ kept.1, kept.2)
