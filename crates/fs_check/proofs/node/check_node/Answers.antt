use Rattle.std.proofs.Common.{sym, ap, ◌∙◌}
use Rattle.layout_bytes.specs.Node.{node_of}
use Rattle.fs_check.proofs.sound.Nodes.{used_at}
use Rattle.fs_check.proofs.sound.Steps.{free_step}
use Rattle.fs_check.proofs.node.check_node.Goals as goal

pub returns-in-Ok-None-clause-sound : goal.returns-in-Ok-None-clause-sound
returns-in-Ok-None-clause-sound g c = λ tells bytes checked.
    let zeros = rw c.in-Ok-None.field-0-is at c.in-Ok-None.ensures.free in
    free_step c.args.geom.now (g.S.Blocks.state c.args.blocks.now).map c.args.bits.now c.args.met.now c.args.found.now c.args.number c.requires.above_zero c.requires.in_table
    (ap (node_of c.args.geom.now) (sym bytes) ∙ sym c.in-Ok-None.ensures.found ∙ c.in-Ok-None.field-0-is) (sym bytes ∙ zeros) checked

pub returns-in_ok-check_used-in-Ok-Some-clause-sound : goal.returns-in_ok-check_used-in-Ok-Some-clause-sound
returns-in_ok-check_used-in-Ok-Some-clause-sound g c = λ tells bytes checked.
    c.in_ok-check_used-in-Ok-Some.ensures.sound tells
    (used_at c.args.geom.now (g.S.Blocks.state c.args.blocks.now).map c.args.number c.requires.above_zero c.requires.in_table ∙ ap (node_of c.args.geom.now) (sym bytes) ∙ sym c.in-Ok-Some.ensures.found ∙ c.in-Ok-Some.field-0-is) checked
