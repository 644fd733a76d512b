use Rattle.std.proofs.Common.{◌∙◌, ◌-◌, ◌/◌, refl, ap}
use Rattle.fs_files.specs.Drafts.{begun_beside}
use Rattle.fs_commands.proofs.counting.Nodes.{meets_kept}
use Rattle.fs_commands.proofs.sharing.kept_met.Goals as goal

pub returns-clause-met : goal.returns-clause-met
returns-clause-met g c = λ told.
    let s = g.S.Blocks.state c.args.blocks.now in
    let draft = c.a_draft_may_begin.ensures c.args.shared.now c.requires.begin in
    meets_kept s c.args.shared.now c.args.number c.args.lo c.args.hi (c.args.lo / 1024) c.saturating_sub-count.result c.kept_blocks.result refl (c.saturating_sub-count.ensures ∙ ap (λ a. a - c.args.lo / 1024) c.blocks_for.ensures)
    (λ x at. c.a_file_has_its_blocks.ensures c.args.blocks.now (begun_beside c.args.shared.now) c.args.number x told draft at) (c.kept_blocks.ensures.kept told)
