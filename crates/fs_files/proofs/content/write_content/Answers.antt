use Rattle.std.proofs.Common.{◌+◌, ◌-◌, ◌/◌, ◌%◌, ◌∙◌, sym, ap, subst, arith, take, drop}
use Rattle.std.proofs.lemmas.Result.{err_from_is_err_and}
use Rattle.engine_blocks.specs.Puts.{IsData}
use Rattle.fs_files.specs.Bytes.{overwrite}
use Rattle.fs_files.specs.Drafts.{drafted}
use Rattle.fs_files.proofs.bytes.Joins.{of_place}
use Rattle.fs_files.specs.Places.{looks_more}
use Rattle.fs_files.proofs.bytes.Loops.{writes_on}
use Rattle.fs_files.proofs.content.write_content.Goals as goal

pub write_piece-requires-clause-place : goal.write_piece-requires-clause-place
write_piece-requires-clause-place g c =
    subst (λ k. IsData k.geom c.place_of-place.result) (sym c.loop-done.invariant.looks.books)
    (of_place (IsData (g.S.Blocks.state c.args.blocks.now).books.geom) c.args.places.now ((c.args.from + c.loop-done.done) / 1024) c.place_of-place.result c.requires.data c.place_of-place.ensures)

pub returns-in_err-write_piece-clause-looks : goal.returns-in_err-write_piece-clause-looks
returns-in_err-write_piece-clause-looks g c =
    let p = err_from_is_err_and c.from_residual.result c.from_residual.ensures.1 in
    rw (p.1, p.2) (looks_more g.S.Blocks.tells _ (g.S.Blocks.state c.args.blocks.now) (g.S.Blocks.state c.loop-done.blocks) (g.S.Blocks.state c.write_piece.new.blocks) c.loop-done.invariant.looks c.in_err-write_piece.ensures.looks)

pub loop-done-preserved : goal.loop-done-preserved
loop-done-preserved g c =
    writes_on g.S.Blocks.tells (g.S.Blocks.state c.args.blocks.now) (g.S.Blocks.state c.loop-done.blocks) (g.S.Blocks.state c.write_piece.new.blocks) c.args.class c.args.draft.now c.loop-done.draft c.write_piece.new.draft c.args.places.now c.args.from c.loop-done.done c.piece_length-count.result c.place_of-place.result c.args.bytes.now
    c.loop-done.invariant c.loop-done-test.true c.piece_length-count.ensures c.requires.within c.place_of-place.ensures c.in_ok-write_piece.ensures.writes c.in_ok-write_piece.ensures.some
    (λ told content. c.in_ok-write_piece.ensures.bytes told content
    ∙ ap (λ n. overwrite ((c.args.from + c.loop-done.done) % 1024) (take n (drop c.loop-done.done c.args.bytes.now)) (drafted c.loop-done.draft (g.S.Blocks.state c.loop-done.blocks).map c.place_of-place.result)) {x = c.loop-done.done + c.piece_length-count.result - c.loop-done.done} {y = c.piece_length-count.result} (omega arith))
    c.in_ok-write_piece.ensures.looks
