use Rattle.std.proofs.Common.{false}
use Rattle.fs_files.specs.Content.{fails_reading}
use Rattle.fs_files.specs.Effects.{LooksOnly}
use Rattle.fs_files.specs.Places.{looks_more}
use Rattle.fs_files.proofs.drafts.Refused.{same_error}
use Rattle.fs_files.proofs.write.write_behind.Goals as goal

pub returns-in_err-write_content-clause-looks : goal.returns-in_err-write_content-clause-looks
returns-in_err-write_content-clause-looks g c =
    let tells = g.S.Blocks.tells in
    let s = g.S.Blocks.state c.args.blocks.now in
    let t = g.S.Blocks.state c.write_content.new.blocks in
    same_error c.from_residual-in_err-write_content.result c.in_err-write_content.field-0.0 (λ r. LooksOnly tells (fails_reading r) s t) c.from_residual-in_err-write_content.ensures.1
    (looks_more tells _ s (g.S.Blocks.state c.close_gap.new.blocks) t c.in_ok-close_gap.ensures.looks c.in_err-write_content.ensures.looks)

pub returns-clause-looks : goal.returns-clause-looks
returns-clause-looks g c = looks_more g.S.Blocks.tells false (g.S.Blocks.state c.args.blocks.now) (g.S.Blocks.state c.close_gap.new.blocks) (g.S.Blocks.state c.write_content.new.blocks) c.in_ok-close_gap.ensures.looks c.in_ok-write_content.ensures.looks
