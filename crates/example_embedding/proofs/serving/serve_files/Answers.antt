use Rattle.std.proofs.Common.{ap, ◌∙◌}
use Rattle.engine_store.specs.StoreOf.{disk_in, state_of}
use Rattle.fs_commands.specs.Opened.{blocks_in}
use Rattle.example_embedding.proofs.Answering.{keeps_by}
use Rattle.example_embedding.proofs.serving.serve_files.Goals as goal

pub returns-clause-keeps : goal.returns-clause-keeps
returns-clause-keeps g c = λ told k t mounted served.
    let known = g.D.Disk.state in
    let all = c.answer_all.ensures.serves told k t mounted served in
    let disk_is = c.disk_back.ensures.disk ∙ ap disk_in c.into_blocks.ensures in
    keeps_by k t mounted c.args.cmds.now c.answer_all.new.replies.items c.answer-kept.result c.answer_all.new.marks.items c.answer-kept.new.marks.items (state_of known (blocks_in c.answer-kept.new.files)) (known c.disk_back.result)
    (ap (λ d. (known d).base) disk_is) (ap (λ d. (known d).log) disk_is) all.marked (c.answer-kept.ensures.mark told) (c.answer-kept.ensures.serves told k t mounted c.args.cmds.now c.answer_all.new.replies.items all)

pub returns-clause-base : goal.returns-clause-base
returns-clause-base g c = λ told.
    ap (λ d. (g.D.Disk.state d).base) (c.disk_back.ensures.disk ∙ ap disk_in c.into_blocks.ensures) ∙ c.answer-kept.ensures.base told ∙ c.answer_all.ensures.base told
