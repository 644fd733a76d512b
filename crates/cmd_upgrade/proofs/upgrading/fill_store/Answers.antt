-- The file system of the new disk was opened and filled, or not opened.
use Rattle.std.proofs.Common.{None, ap, arith}
use Rattle.engine_blocks.specs.State.{Bookkeeping}
use Rattle.engine_store.specs.StoreOf.{state_of}
use Rattle.fs_check.specs.Whole.{fails_by}
use Rattle.fs_commands.specs.Opened.{blocks_in}
use Rattle.cmd_session.specs.Shared.{drawn}
use Rattle.cmd_image.specs.Lent.{disk_of}
use Rattle.cmd_image.specs.Shared.{mounted_with}
use Rattle.cmd_image.specs.Staying.{damage_stays, none_stays}
use Rattle.cmd_upgrade.proofs.Keeping.{stays_here}
use Rattle.cmd_upgrade.proofs.Opened.{begins_making}
use Rattle.cmd_upgrade.proofs.Returned.{filled_back, unopened_new}
use Rattle.cmd_upgrade.proofs.upgrading.fill_store.Goals as goal

pub returns-in-Ok-clause-fills : goal.returns-in-Ok-clause-fills
returns-in-Ok-clause-fills g c = λ begun first t mounted empty looked whole formatted.
    let tells = g.B.Bay.tells in
    let s = state_of (λ lent. g.B.D.Disk.state (disk_of lent)) c.args.store in
    let u = state_of (λ lent. g.B.D.Disk.state (disk_of lent)) (blocks_in c.in-Ok.served) in
    filled_back (λ lent. g.B.D.Disk.state (disk_of lent)) tells begun s u c.into_blocks.result (blocks_in c.fill-answer.new.new) c.disk_back.result (state_of (λ lent. g.B.D.Disk.state (disk_of lent)) (blocks_in c.fill-answer.new.image)) c.args.geom.now t c.fill-answer.result
    c.into_blocks.ensures c.disk_back.ensures.disk mounted.on c.in-Ok.ensures.looks c.fill-answer.ensures.keeps_new c.disk_back.ensures.size c.fill-answer.ensures.which
    (λ told.
    let tree = c.in-Ok.ensures.stands told in
    let image = formatted told in
    let can = whole told in
    let served = c.in-Ok.ensures.serves told (λ x. drawn (λ lent. g.B.D.Disk.state (disk_of lent)) x) s.books.geom s.map tree.0 (mounted_with tells told begun s mounted) tree.1 in
    c.fill-answer.ensures.holds told first t c.args.geom.now (looked told) can.0 can.1
    (begins_making tells told begun s mounted c.args.geom.now image (empty told)
    (λ slot h. c.a_formatted_image_has_its_geometry.ensures.geom c.args.geom.now begun.blocks begun.base slot h c.lawful.ensures.fits image)
    (λ slot h records. c.a_formatted_image_has_its_geometry.ensures.numbers c.args.geom.now begun.blocks begun.base slot h records c.lawful.ensures.fits image)
    (c.an_image_stands_for_one_tree.ensures.image begun.blocks begun.base) tree.0 tree.1 u c.in-Ok.ensures.looks served
    (c.a_session_begins_in_the_room_of_its_tree.ensures told begun c.args.store (blocks_in c.in-Ok.served) tree.0 mounted c.requires.begun c.in-Ok.ensures.looks served.goes_on.session)))

pub returns-in-Err-clause-fills : goal.returns-in-Err-clause-fills
returns-in-Err-clause-fills g c = λ begun first t mounted empty looked whole formatted.
    let tells = g.B.Bay.tells in
    let s = state_of (λ lent. g.B.D.Disk.state (disk_of lent)) c.args.store in
    let u = state_of (λ lent. g.B.D.Disk.state (disk_of lent)) c.in-Err.store in
    let why = c.in-Err.why in
    let back = c.in-Err.ensures.back in
    let geom = ap (λ (k : Bookkeeping). k.geom) back.books in
    unopened_new tells t (state_of (λ lent. g.B.D.Disk.state (disk_of lent)) (blocks_in c.args.image.now)) c.args.geom.now begun (g.B.D.Disk.state (disk_of c.unopened-disk.result.0)) formatted c.an_image_has_one_answer.ensures.spent
    c.unopened-disk.result.1 c.of_new.result c.of_new.ensures c.unopened-disk.ensures.silent
    (c.unopened-disk.ensures.back begun None (c.what_is_read_stays_mounted.ensures c.args.store c.in-Err.store begun (fails_by why) mounted.on back)
    (λ told. damage_stays s.books.geom u.books.geom s.map u.map why geom (back.map told) (c.in-Err.ensures.damage told))
    (λ told. none_stays s.books.geom u.books.geom s.map u.map why geom (back.map told) (c.in-Err.ensures.none told)))

pub returns-in-Err-clause-stays : goal.returns-in-Err-clause-stays
returns-in-Err-clause-stays g c = λ told first t looked. looked

pub returns-in-Err-clause-keeps : goal.returns-in-Err-clause-keeps
returns-in-Err-clause-keeps g c = stays_here g.B.Bay.tells (state_of (λ lent. g.B.D.Disk.state (disk_of lent)) (blocks_in c.args.image.now))

pub returns-in-Err-clause-raises : goal.returns-in-Err-clause-raises
returns-in-Err-clause-raises g c = omega arith
