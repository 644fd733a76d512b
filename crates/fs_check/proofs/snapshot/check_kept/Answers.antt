use Rattle.std.proofs.Common.{false, refl, sym, ap, ◌∙◌}
use Rattle.std.proofs.lemmas.Result.{err_from_is_err_and}
use Rattle.base_types.specs.Seal.{blocks_of}
use Rattle.engine_blocks.specs.State.{Bookkeeping}
use Rattle.fs_check.specs.declared.kept_meeting.Tally.{Tally}
use Rattle.fs_check.specs.Whole.{fails_by}
use Rattle.fs_check.proofs.Looking.{looks_more}
use Rattle.fs_check.proofs.keeping.Opened.{counts_begin, may_read, opened_begins, tree_damage, whole_kept}
use Rattle.fs_check.proofs.snapshot.check_kept.Goals as goal

pub returns-in_err-check_kept_table-clause-damage : goal.returns-in_err-check_kept_table-clause-damage
returns-in_err-check_kept_table-clause-damage g c = λ tells.
    let m = (g.S.Blocks.state c.args.blocks.now).map in
    let tally : Tally = record { met = c.in_ok-tally.field-0; dirs = 0; counts = c.args.tally.now.counts } in
    let p = err_from_is_err_and c.from_residual-in_err-check_kept_table.result c.from_residual-in_err-check_kept_table.ensures.1 in
    rw (p.1, p.2) (c.in_err-check_kept_table.ensures.damage tells (opened_begins c.args.geom.now m c.args.maps.now tally c.args.snapshot.now (c.requires.opened tells) (c.requires.whole tells) c.in_ok-tally.ensures.clear refl))

pub check_kept_tree-requires : goal.check_kept_tree-requires
check_kept_tree-requires g c =
    let s = g.S.Blocks.state c.args.blocks.now in
    let tally : Tally = record { met = c.in_ok-tally.field-0; dirs = 0; counts = c.args.tally.now.counts } in
    record {
      read = may_read g.S.Blocks.tells s (g.S.Blocks.state c.check_kept_table.new.blocks) c.args.geom.now c.args.kept.now c.args.snapshot.now.places c.requires.may.geom c.in_ok-check_kept_table.ensures.looks c.requires.may.going c.requires.gone
          c.requires.places (λ tells. whole_kept s c.args.geom.now c.args.maps.now c.check_kept_table.new.tally c.args.snapshot.now c.requires.may.geom c.requires.may.none_bare (g.met.S.Blocks.is_told c.args.blocks.now tells) (c.requires.opened tells)
          (c.requires.whole tells)
          (c.in_ok-check_kept_table.ensures.sound tells (opened_begins c.args.geom.now s.map c.args.maps.now tally c.args.snapshot.now (c.requires.opened tells) (c.requires.whole tells) c.in_ok-tally.ensures.clear refl)));
    }

pub returns-in_err-check_kept_tree-clause-damage : goal.returns-in_err-check_kept_tree-clause-damage
returns-in_err-check_kept_tree-clause-damage g c = λ tells.
    let s = g.S.Blocks.state c.args.blocks.now in
    let t = g.S.Blocks.state c.check_kept_table.new.blocks in
    let opened = c.requires.opened tells in
    let p = err_from_is_err_and c.from_residual-in_err-check_kept_tree.result c.from_residual-in_err-check_kept_tree.ensures.1 in
    rw (p.1, p.2) (tree_damage c.args.geom.now t.books.geom s.map t.map c.args.snapshot.now.number c.args.kept.now.places c.in_err-check_kept_tree.field-0.0
    (ap (λ (k : Bookkeeping). k.geom) c.in_ok-check_kept_table.ensures.looks.books ∙ c.requires.may.geom) (c.in_ok-check_kept_table.ensures.looks.map tells)
    (c.in_err-check_kept_tree.ensures.damage tells) opened.is (opened.at ∙ sym c.requires.places))

pub returns-in_err-check_kept_tree-clause-looks : goal.returns-in_err-check_kept_tree-clause-looks
returns-in_err-check_kept_tree-clause-looks g c =
    let p = err_from_is_err_and c.from_residual-in_err-check_kept_tree.result c.from_residual-in_err-check_kept_tree.ensures.1 in
    rw (p.1, p.2) (looks_more g.S.Blocks.tells (fails_by c.in_err-check_kept_tree.field-0.0) (g.S.Blocks.state c.args.blocks.now) (g.S.Blocks.state c.check_kept_table.new.blocks) (g.S.Blocks.state c.check_kept_tree.new.blocks)
    c.in_ok-check_kept_table.ensures.looks c.in_err-check_kept_tree.ensures.looks)

pub returns-clause-counts : goal.returns-clause-counts
returns-clause-counts g c = c.in_ok-check_kept_table.ensures.counts c.args.tally.now.counts (counts_begin (blocks_of c.in_ok-tally.field-0.items) c.args.tally.now.counts c.in_ok-tally.ensures.clear)

pub returns-clause-sound : goal.returns-clause-sound
returns-clause-sound g c = λ tells.
    let tally : Tally = record { met = c.in_ok-tally.field-0; dirs = 0; counts = c.args.tally.now.counts } in
    c.in_ok-check_kept_table.ensures.sound tells
    (opened_begins c.args.geom.now (g.S.Blocks.state c.args.blocks.now).map c.args.maps.now tally c.args.snapshot.now (c.requires.opened tells) (c.requires.whole tells) c.in_ok-tally.ensures.clear refl)

pub returns-clause-looks : goal.returns-clause-looks
returns-clause-looks g c =
    looks_more g.S.Blocks.tells false (g.S.Blocks.state c.args.blocks.now) (g.S.Blocks.state c.check_kept_table.new.blocks) (g.S.Blocks.state c.check_kept_tree.new.blocks)
    c.in_ok-check_kept_table.ensures.looks c.in_ok-check_kept_tree.ensures.looks
