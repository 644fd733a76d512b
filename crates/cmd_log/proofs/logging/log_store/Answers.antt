use Rattle.std.proofs.Common.{None, ap, subst, sym}
use Rattle.engine_blocks.specs.State.{Bookkeeping}
use Rattle.engine_store.specs.StoreOf.{state_of}
use Rattle.fs_check.specs.Whole.{fails_by}
use Rattle.fs_commands.specs.Opened.{blocks_in}
use Rattle.cmd_session.specs.Shared.{drawn}
use Rattle.cmd_image.specs.Shared.{mounted_with}
use Rattle.cmd_image.specs.Staying.{damage_stays, none_stays}
use Rattle.cmd_log.specs.Steps.{IsJustOpened}
use Rattle.cmd_log.proofs.Finishing.{unopened_back, unopened_counts}
use Rattle.cmd_log.proofs.Opening.{known_opened}
use Rattle.cmd_log.proofs.logging.log_store.Goals as goal

pub returns-in-Ok-clause-comes : goal.returns-in-Ok-clause-comes
returns-in-Ok-clause-comes g c = λ first is.
    let known = g.D.Disk.state in
    let tells = g.D.Disk.tells in
    let s = state_of known c.args.store in
    c.log_files.ensures.comes first
    (subst (λ (x : _). IsJustOpened tells first (state_of known (blocks_in x))) (sym c.into_files.ensures.same) (λ t.
    let tree = c.in-Ok.ensures.stands t in
    let served = c.in-Ok.ensures.serves t (λ x. drawn known x) s.books.geom s.map tree.0 (mounted_with tells t first s is) tree.1 in
    known_opened tells t first s is (state_of known (blocks_in c.in-Ok.served)) tree.0 c.requires.begun c.in-Ok.ensures.looks tree.1
    served (c.a_session_begins_in_the_room_of_its_tree.ensures t first c.args.store (blocks_in c.in-Ok.served) tree.0 is c.requires.begun c.in-Ok.ensures.looks served.goes_on.session)))

pub returns-in-Err-clause-comes : goal.returns-in-Err-clause-comes
returns-in-Err-clause-comes g c = λ first is.
    let known = g.D.Disk.state in
    let tells = g.D.Disk.tells in
    let s = state_of known c.args.store in
    let u = state_of known c.in-Err.store in
    let why = c.in-Err.why in
    let looks = c.in-Err.ensures.back in
    let geom = ap (λ (k : Bookkeeping). k.geom) looks.books in
    unopened_back tells first (known c.unopened-disk.result.0) _ c.args.marks.items c.unopened-disk.result.1 c.of_show.result c.requires.empty c.of_show.ensures c.unopened-disk.ensures.silent
    (c.unopened-disk.ensures.back first None (c.what_is_read_stays_mounted.ensures c.args.store c.in-Err.store first (fails_by why) is.on looks)
    (λ t. damage_stays s.books.geom u.books.geom s.map u.map why geom (looks.map t) (c.in-Err.ensures.damage t))
    (λ t. none_stays s.books.geom u.books.geom s.map u.map why geom (looks.map t) (c.in-Err.ensures.none t)))

pub returns-in-Err-clause-counts : goal.returns-in-Err-clause-counts
returns-in-Err-clause-counts g c = unopened_counts _ c.unopened-disk.result.1 c.of_show.result c.of_show.ensures c.unopened-disk.ensures.silent
