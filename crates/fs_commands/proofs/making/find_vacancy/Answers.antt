use Rattle.std.proofs.Common.{option_copied, [], ◌∷◌, IfOk, is_some, sym, subst, ap, ◌∙◌}
use Rattle.lang_tree.specs.declared.command.Refusal.TheVariants.{Exists}
use Rattle.lang_tree.specs.Conditions.{when, first_reason}
use Rattle.lang_tree.specs.Paths.{parent}
use Rattle.fs_inodes.specs.Lookups.{number_at}
use Rattle.fs_files.specs.Calls.{files_in}
use Rattle.fs_files.specs.Drafts.{nothing_drafted}
use Rattle.fs_dirs.specs.Directories.{inodes_in}
use Rattle.fs_commands.specs.Looks.{ComesTo, IsWithin}
use Rattle.fs_commands.proofs.looking.Entries.{last_name}
use Rattle.fs_commands.proofs.making.find_vacancy.Goals as goal

pub returns-in-Err-clause-vacancy : goal.returns-in-Err-clause-vacancy
returns-in-Err-clause-vacancy g c = λ told t h.
    let s = g.S.Blocks.state c.args.blocks.now in
    let m = inodes_in s nothing_drafted in
    ap (λ r. first_reason (r ∷ when (is_some (number_at m c.args.path.now)) Exists ∷ [])) (subst (λ r. ComesTo s.books.geom.layout (files_in s nothing_drafted) c.args.path.now r) c.in-Err.is (c.in_ok-spot.ensures.comes told t h))

pub returns-clause-vacancy : goal.returns-clause-vacancy
returns-clause-vacancy g c = λ told t h.
    let s = g.S.Blocks.state c.args.blocks.now in
    let path = c.args.path.now in
    c.vacancy_in.ensures.appears s.books.geom.layout (files_in s nothing_drafted) path (parent path) (subst (λ r. ComesTo s.books.geom.layout (files_in s nothing_drafted) path r) c.in-Ok.is (c.in_ok-spot.ensures.comes told t h))
    (last_name path c.names.result.now c.in-Some.name.now c.names.ensures (ap option_copied (sym c.in-Some.is) ∙ c.last.ensures.value))

pub returns-clause-dir : goal.returns-clause-dir
returns-clause-dir g c =
    let limit = (g.S.Blocks.state c.args.blocks.now).books.geom.i in
    c.vacancy_in.ensures.dir limit (subst (λ r. IfOk r (IsWithin limit)) c.in-Ok.is c.in_ok-spot.ensures.within)

pub returns-clause-few : goal.returns-clause-few
returns-clause-few g c =
    let limit = (g.S.Blocks.state c.args.blocks.now).books.geom.i in
    c.vacancy_in.ensures.few limit (subst (λ r. IfOk r (IsWithin limit)) c.in-Ok.is c.in_ok-spot.ensures.within)
