use Rattle.std.proofs.Common.{sym, ap, ◌∙◌}
use Rattle.std.proofs.lemmas.Result.{err_from_is_err_and}
use Rattle.base_types.specs.Seal.{blocks_of}
use Rattle.layout_bytes.specs.Node.{node_of}
use Rattle.crash_stands.specs.Places.{kept_table}
use Rattle.fs_check.proofs.keeping.Kept.{bytes_broken, kept_on, next_none}
use Rattle.fs_check.proofs.sound.Nodes.{used_at}
use Rattle.fs_check.proofs.kept_table.check_kept_node.Goals as goal

pub returns-in-Err-clause-damage : goal.returns-in-Err-clause-damage
returns-in-Err-clause-damage g c = λ tells bytes so_far.
    let m = (g.S.Blocks.state c.args.blocks.now).map in
    bytes_broken c.args.geom.now m c.args.maps.now c.args.tally.now c.args.snapshot.now c.args.number c.args.number c.bad_node.result so_far c.requires.above_zero c.requires.in_table
    (used_at c.args.geom.now (kept_table m c.args.snapshot.now.places c.args.geom.now) c.args.number c.requires.above_zero c.requires.in_table ∙ ap (node_of c.args.geom.now) (sym bytes) ∙ c.in-Err.ensures.unread)
    (λ zeros. c.in-Err.ensures.carries (bytes ∙ zeros)) c.bad_node.ensures

pub returns-in-Ok-None-clause-sound : goal.returns-in-Ok-None-clause-sound
returns-in-Ok-None-clause-sound g c = λ tells bytes so_far.
    let m = (g.S.Blocks.state c.args.blocks.now).map in
    let zeros = rw c.in-Ok-None.field-0-is at c.in-Ok-None.ensures.free in
    kept_on c.args.geom.now m c.args.maps.now c.args.tally.now c.args.tally.now c.args.snapshot.now c.args.number so_far
    (next_none c.args.geom.now m c.args.snapshot.now.places c.args.number c.args.tally.now.dirs (blocks_of c.args.tally.now.met.items) c.requires.above_zero
    (used_at c.args.geom.now (kept_table m c.args.snapshot.now.places c.args.geom.now) c.args.number c.requires.above_zero c.requires.in_table ∙ ap (node_of c.args.geom.now) (sym bytes) ∙ sym c.in-Ok-None.ensures.found ∙ c.in-Ok-None.field-0-is)
    (sym bytes ∙ zeros) so_far.below.behind so_far.below.blocks)

pub returns-in_err-check_kept_used-in-Ok-Some-clause-damage : goal.returns-in_err-check_kept_used-in-Ok-Some-clause-damage
returns-in_err-check_kept_used-in-Ok-Some-clause-damage g c = λ tells bytes so_far.
    let m = (g.S.Blocks.state c.args.blocks.now).map in
    let p = err_from_is_err_and c.from_residual.result c.from_residual.ensures.1 in
    rw (p.1, p.2) (c.in_err-check_kept_used-in-Ok-Some.ensures.damage tells
    (used_at c.args.geom.now (kept_table m c.args.snapshot.now.places c.args.geom.now) c.args.number c.requires.above_zero c.requires.in_table ∙ ap (node_of c.args.geom.now) (sym bytes) ∙ sym c.in-Ok-Some.ensures.found ∙ c.in-Ok-Some.field-0-is)
    so_far)

pub returns-in_ok-check_kept_used-in-Ok-Some-clause-sound : goal.returns-in_ok-check_kept_used-in-Ok-Some-clause-sound
returns-in_ok-check_kept_used-in-Ok-Some-clause-sound g c = λ tells bytes so_far.
    let m = (g.S.Blocks.state c.args.blocks.now).map in
    c.in_ok-check_kept_used-in-Ok-Some.ensures.sound tells
    (used_at c.args.geom.now (kept_table m c.args.snapshot.now.places c.args.geom.now) c.args.number c.requires.above_zero c.requires.in_table ∙ ap (node_of c.args.geom.now) (sym bytes) ∙ sym c.in-Ok-Some.ensures.found ∙ c.in-Ok-Some.field-0-is)
    so_far
