use Rattle.std.proofs.Common.{◌*◌, sym, ap, ◌∙◌}
use Rattle.std.proofs.lemmas.Result.{err_from_is_err_and}
use Rattle.fs_check.proofs.keeping.Opened.{parts_broken, size_broken}
use Rattle.fs_check.proofs.snapshot.open_snapshot.Goals as goal

pub returns-then-file-ne1-clause-damage : goal.returns-then-file-ne1-clause-damage
returns-then-file-ne1-clause-damage g c = λ tells.
    size_broken c.args.geom.now (g.S.Blocks.state c.args.blocks.now).map c.args.number c.args.file.now c.wrong_size.result (c.requires.node tells) c.requires.kind (λ links size parts. c.if-file-ne1.true links) c.wrong_size.ensures

pub returns-then-file-from-clause-damage : goal.returns-then-file-from-clause-damage
returns-then-file-from-clause-damage g c = λ tells.
    size_broken c.args.geom.now (g.S.Blocks.state c.args.blocks.now).map c.args.number c.args.file.now c.wrong_size-then-file-from.result (c.requires.node tells) c.requires.kind
    (λ links size parts. c.if-file-from.true (size ∙ ap (λ n. 1024 * n) (sym (c.from.ensures ∙ c.count-count.ensures.value)))) c.wrong_size-then-file-from.ensures

pub returns-in_err-kept-clause-damage : goal.returns-in_err-kept-clause-damage
returns-in_err-kept-clause-damage g c = λ tells.
    let s = g.S.Blocks.state c.args.blocks.now in
    let p = err_from_is_err_and c.from_residual.result c.from_residual.ensures.1 in
    rw (p.1, p.2) (parts_broken c.args.geom.now s.books.geom s.map c.args.number c.count-count.result c.args.file.now c.part.result c.in_err-kept.field-0.0 c.requires.geom (c.requires.node tells) c.requires.kind c.count-count.ensures.value c.part.ensures
    (c.in_err-kept.ensures.wrong tells))
