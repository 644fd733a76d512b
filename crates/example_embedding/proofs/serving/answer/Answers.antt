use Rattle.std.proofs.Common.{◌++◌, ◌∷◌, [], List, ℕ, length, sym, ap, ◌∙◌, subst}
use Rattle.engine_store.specs.StoreOf.{disk_in, state_of}
use Rattle.fs_commands.specs.Opened.{blocks_in}
use Rattle.cmd_session.specs.Serving.{HasServed}
use Rattle.cmd_session.specs.Shared.{drawn}
use Rattle.example_embedding.proofs.serving.answer.Goals as goal

pub returns-clause-mark : goal.returns-clause-mark
returns-clause-mark g c = λ told. c.push_reserved.ensures.items ∙ ap (λ n. c.args.marks.now.items ++ n ∷ []) (c.moment.ensures told ∙ ap (λ d. length (g.D.Disk.state d).log) (c.disk.ensures.value ∙ ap disk_in c.blocks-2.ensures))

pub returns-clause-serves : goal.returns-clause-serves
returns-clause-serves g c = λ told k t mounted cmds replies served.
    let known = g.D.Disk.state in
    subst (λ (ms : List ℕ). HasServed k t mounted (cmds ++ c.args.cmd.now ∷ []) (replies ++ c.apply-reply.result ∷ []) ms (state_of known (blocks_in c.apply-reply.new.self)))
    (sym (returns-clause-mark g c told)) (c.apply-reply.ensures.serves told (λ x. drawn known x) k t mounted cmds replies c.args.marks.now.items served)

pub returns-clause-base : goal.returns-clause-base
returns-clause-base g c = λ told. (c.apply-reply.ensures.time told).advances.base
