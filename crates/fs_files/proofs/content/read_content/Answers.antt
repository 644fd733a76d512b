use Rattle.std.proofs.Common.{sym, subst, true, false, ◌+◌}
use Rattle.std.proofs.lemmas.Result.{err_from_is_err_and}
use Rattle.fs_files.specs.Places.{looks_more}
use Rattle.fs_files.proofs.bytes.Loops.{ReadsUpTo, reads_more}
use Rattle.fs_files.proofs.content.read_content.Goals as goal

pub returns-in_err-read-clause-looks : goal.returns-in_err-read-clause-looks
returns-in_err-read-clause-looks g c =
    let p = err_from_is_err_and c.from_residual-in_err-read.result c.from_residual-in_err-read.ensures.1 in
    rw (p.1, p.2) (looks_more g.S.Blocks.tells true (g.S.Blocks.state c.args.blocks.now) (g.S.Blocks.state c.loop-at.blocks) (g.S.Blocks.state c.read.new.blocks) c.loop-at.invariant.looks c.in_err-read.ensures.looks)

pub returns-in_err-append_part-clause-looks : goal.returns-in_err-append_part-clause-looks
returns-in_err-append_part-clause-looks g c =
    let p = err_from_is_err_and c.from_residual-in_err-append_part.result c.from_residual-in_err-append_part.ensures.1 in
    rw (p.1, p.2) (looks_more g.S.Blocks.tells false (g.S.Blocks.state c.args.blocks.now) (g.S.Blocks.state c.loop-at.blocks) (g.S.Blocks.state c.read.new.blocks) c.loop-at.invariant.looks c.in_ok-read.ensures.looks)

pub loop-at-preserved : goal.loop-at-preserved
loop-at-preserved g c =
    subst (λ xs. ReadsUpTo g.S.Blocks.tells (g.S.Blocks.state c.args.blocks.now) (g.S.Blocks.state c.read.new.blocks) c.args.draft.now c.args.places.now c.args.from (c.loop-at.at + c.piece_length-count.result) c.args.end c.args.into.now.items xs)
    (sym c.in_ok-append_part.ensures)
    (reads_more g.S.Blocks.tells (g.S.Blocks.state c.args.blocks.now) (g.S.Blocks.state c.loop-at.blocks) (g.S.Blocks.state c.read.new.blocks) c.args.draft.now c.args.places.now c.args.from c.loop-at.at c.args.end c.piece_length-count.result c.place_of-place.result c.args.into.now.items c.loop-at.into.items c.read.new.into
    c.loop-at.invariant c.loop-at-test.true c.piece_length-count.ensures c.place_of-place.ensures c.in_ok-read.ensures.block c.in_ok-read.ensures.looks)
