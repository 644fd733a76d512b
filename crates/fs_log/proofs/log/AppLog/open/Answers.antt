use Rattle.std.proofs.Common.{◌≡◌, subst}
use Rattle.lang_log.specs.Log.{HasNoLog}
use Rattle.fs_commands.specs.Opened.{blocks_in}
use Rattle.fs_log.specs.Open.{first_or}
use Rattle.fs_log.specs.Opening.{HasRange}
use Rattle.fs_log.proofs.OpenCauses.{session_for}
use Rattle.fs_log.proofs.Opened.{BeginsKnown, keeps_mounted}
use Rattle.fs_log.proofs.log.AppLog.open.Goals as goal

pub returns-in-Ok-clause-begins : goal.returns-in-Ok-clause-begins
returns-in-Ok-clause-begins g c = λ told t l mounted is.
    keeps_mounted g.S.Blocks.state (blocks_in c.args.fs) c.an_image_stands_for_one_tree.ensures.blocks (subst (BeginsKnown g.S.Blocks.state) c.blocks-2.ensures c.points_stay_known.ensures.begins) t l mounted is

pub returns-in-Ok-clause-range : goal.returns-in-Ok-clause-range
returns-in-Ok-clause-range g c = λ told t stands.
    let s = session_for (g.S.Blocks.state (blocks_in c.args.fs)) t stands in
    subst (λ u. HasRange u (first_or c.in-Ok.found.firsts.items c.in-Ok.found.next) c.in-Ok.found.next) s.1 (c.in-Ok.ensures.range told s.0 s.2)

pub returns-in-Err-clause-begins : goal.returns-in-Err-clause-begins
returns-in-Err-clause-begins g c = λ told t l mounted is.
    keeps_mounted g.S.Blocks.state (blocks_in c.args.fs) c.an_image_stands_for_one_tree.ensures.blocks (subst (BeginsKnown g.S.Blocks.state) c.blocks-2.ensures c.points_stay_known.ensures.begins) t l mounted is

pub returns-in-Err-clause-bad : goal.returns-in-Err-clause-bad
returns-in-Err-clause-bad g c = λ told bad t stands.
    let s = session_for (g.S.Blocks.state (blocks_in c.args.fs)) t stands in
    subst HasNoLog s.1 (c.in-Err.ensures.bad told bad s.0 s.2)
