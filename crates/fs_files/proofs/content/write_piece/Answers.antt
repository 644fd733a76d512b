use Rattle.std.proofs.Common.{◌∙◌, refl, sym, ap, arith}
use Rattle.fs_files.specs.Bytes.{overwrite}
use Rattle.fs_files.specs.Drafts.{drafted}
use Rattle.fs_files.proofs.bytes.Overwrites.{overwrite_whole}
use Rattle.fs_files.proofs.bytes.Pieces.{content_put, put_new}
use Rattle.fs_files.proofs.content.write_piece.Goals as goal

pub returns-in_ok-put-in-Some-clause-some : goal.returns-in_ok-put-in-Some-clause-some
returns-in_ok-put-in-Some-clause-some g c = put_new c.args.b (record { class = c.args.class; bytes = c.in-Some.whole.now }) c.args.draft.now c.put.new.self c.in_ok-put-in-Some.ensures.ok

pub returns-in_ok-put-in-None-clause-some : goal.returns-in_ok-put-in-None-clause-some
returns-in_ok-put-in-None-clause-some g c = put_new c.args.b (record { class = c.args.class; bytes = c.copy_over.new.block }) c.args.draft.now c.put-in-None.new.self c.in_ok-put-in-None.ensures.ok

pub returns-in_ok-put-in-Some-clause-bytes : goal.returns-in_ok-put-in-Some-clause-bytes
returns-in_ok-put-in-Some-clause-bytes g c = λ told content.
    content_put (g.S.Blocks.state c.args.blocks.now).map c.args.b (record { class = c.args.class; bytes = c.in-Some.whole.now }) c.args.draft.now c.put.new.self content c.in_ok-put-in-Some.ensures.ok
    ∙ c.in-Some.ensures.bytes
    ∙ sym (overwrite_whole c.args.start 1024 c.args.piece.now (drafted c.args.draft.now (g.S.Blocks.state c.args.blocks.now).map c.args.b) c.requires.within (c.in-Some.ensures.exact.0 refl) (content.whole 0 0 (omega arith)))

pub returns-in_ok-put-in-None-clause-bytes : goal.returns-in_ok-put-in-None-clause-bytes
returns-in_ok-put-in-None-clause-bytes g c = λ told content.
    content_put (g.S.Blocks.state c.args.blocks.now).map c.args.b (record { class = c.args.class; bytes = c.copy_over.new.block }) c.args.draft.now c.put-in-None.new.self content c.in_ok-put-in-None.ensures.ok
    ∙ c.copy_over.ensures
    ∙ ap (λ xs. overwrite c.args.start c.args.piece.now xs) (c.in_ok-read-in-None.ensures.block told (content.whole 0 0 (omega arith)))
