use Rattle.std.proofs.Common.{ap, ◌∙◌, sym, subst}
use Rattle.std.proofs.lemmas.Result.{err_from_is_err_and}
use Rattle.crash_stands.specs.Bounds.{bounds_of}
use Rattle.crash_stands.specs.Files.{files_of}
use Rattle.fs_files.specs.Calls.{files_in}
use Rattle.fs_files.specs.Shared.{is_kept}
use Rattle.fs_files.specs.Sound.{IsDraftOf}
use Rattle.fs_check.specs.Damage.{IsBroken}
use Rattle.fs_check.specs.Reading.{IfDamaged}
use Rattle.fs_check.specs.Rules.{AreTreeFiles}
use Rattle.fs_check.proofs.Refuted.{same_function}
use Rattle.fs_check.proofs.tree.check_tree.Goals as goal

pub find_tree-requires : goal.find_tree-requires
find_tree-requires g c =
    let s = g.S.Blocks.state c.args.blocks.now in
    record {
      read = record {
        going = c.requires.going;
        may = subst (IsDraftOf g.S.Blocks.tells s) (sym c.beside-draft.ensures) (c.a_draft_begins.ensures.beside c.args.shared.now c.requires.none_bare
            (λ tells. c.sound_beside_what_is_kept.ensures.to s.books.geom s.map (is_kept c.args.shared.now) (c.requires.kept tells) (c.requires.sound tells)));
      };
    }

pub returns-clause-rules : goal.returns-clause-rules
returns-clause-rules g c = λ tells.
    let s = g.S.Blocks.state c.args.blocks.now in
    let same = same_function (files_in s c.beside-draft.result) (files_of s.books.geom s.map) (λ k. ap (λ d. files_in s d k) c.beside-draft.ensures ∙ c.a_draft_begins.ensures.beside_files c.args.shared.now k) in
    subst (AreTreeFiles (bounds_of s.books.geom)) same (c.in_ok-find_tree.ensures.rules tells)

pub returns-in_err-find_tree-clause-broken : goal.returns-in_err-find_tree-clause-broken
returns-in_err-find_tree-clause-broken g c = λ tells.
    let s = g.S.Blocks.state c.args.blocks.now in
    let same = same_function (files_in s c.beside-draft.result) (files_of s.books.geom s.map) (λ k. ap (λ d. files_in s d k) c.beside-draft.ensures ∙ c.a_draft_begins.ensures.beside_files c.args.shared.now k) in
    let p = err_from_is_err_and c.from_residual.result c.from_residual.ensures.1 in
    rw (p.1, p.2) (subst (λ f. IfDamaged c.in_err-find_tree.field-0.0 (IsBroken (bounds_of s.books.geom) f)) same (c.in_err-find_tree.ensures.broken tells))
