use Rattle.std.proofs.Common.{◌≡◌, Some, subst}
use Rattle.fs_commands.specs.Opened.{blocks_in}
use Rattle.fs_log.specs.Finding.{HasAtLog}
use Rattle.fs_log.proofs.Causes.{passed_on}
use Rattle.fs_log.proofs.Questioning.{asks_none}
use Rattle.fs_log.proofs.opening.find_there.Goals as goal

pub returns-in-File-clause-asks : goal.returns-in-File-clause-asks
returns-in-File-clause-asks g c = λ told.
    asks_none g.S.Blocks.state g.S.Blocks.tells (blocks_in c.args.fs.now) (c.calls_compose.ensures.rests told) (λ s trees img known left. c.a_crash_leaves_the_tree_of_a_point.ensures.now s trees img told known left)

pub returns-in-File-clause-bad : goal.returns-in-File-clause-bad
returns-in-File-clause-bad g c = λ told bad f session there.
    let file = subst (λ kind. HasAtLog f.tree (Some kind)) c.in-File.is there in
    c.a_tree_has_no_log_where.ensures.file f.tree file.0 file.1 file.2 file.3

pub returns-in_err-found-in-Dir-clause-bad : goal.returns-in_err-found-in-Dir-clause-bad
returns-in_err-found-in-Dir-clause-bad g c = λ told.
    passed_on c.from_residual.result c.in_err-found-in-Dir.field-0.0 _ c.from_residual.ensures.1
    (λ bad f session there. c.in_err-found-in-Dir.ensures.bad told bad f session (subst (λ kind. HasAtLog f.tree (Some kind)) c.in-Dir.is there))

pub returns-in_err-found-in-Dir-clause-cause : goal.returns-in_err-found-in-Dir-clause-cause
returns-in_err-found-in-Dir-clause-cause g c = λ has.
    passed_on c.from_residual.result c.in_err-found-in-Dir.field-0.0 _ c.from_residual.ensures.1
    (c.in_err-found-in-Dir.ensures.cause (λ told. let h = has told in (h.0, h.1, subst (λ kind. HasAtLog h.0.tree (Some kind)) c.in-Dir.is h.2)))

pub returns-in_ok-found-in-Dir-clause-found : goal.returns-in_ok-found-in-Dir-clause-found
returns-in_ok-found-in-Dir-clause-found g c = λ told f session there.
    let directory = subst (λ kind. HasAtLog f.tree (Some kind)) c.in-Dir.is there in
    (directory, c.in_ok-found-in-Dir.ensures.found told f session directory)
