-- The file system of the image was opened and its tree made again, or not opened.
use Rattle.std.proofs.Common.{None, ap, arith}
use Rattle.layout_geometry.specs.Geometry.{Geometry}
use Rattle.engine_blocks.specs.State.{Bookkeeping}
use Rattle.engine_store.specs.StoreOf.{state_of}
use Rattle.fs_check.specs.Whole.{fails_by}
use Rattle.fs_commands.specs.Opened.{blocks_in}
use Rattle.lang_tree.specs.Step.{start}
use Rattle.crash_stands.specs.Bounds.{bounds_of}
use Rattle.cmd_session.specs.Shared.{drawn}
use Rattle.cmd_image.specs.Lent.{disk_of}
use Rattle.cmd_image.specs.Shared.{mounted_with}
use Rattle.cmd_image.specs.Staying.{damage_stays, none_stays}
use Rattle.cmd_upgrade.specs.Looked.{IsLookedAt}
use Rattle.cmd_upgrade.proofs.Opened.{opened_looked_at, used_up}
use Rattle.cmd_upgrade.proofs.Returned.{looked_back, nothing_comes, shown_only_mounted, tree_where}
use Rattle.cmd_upgrade.proofs.upgrading.upgrade_store.Goals as goal

pub returns-in-Ok-clause-left : goal.returns-in-Ok-clause-left
returns-in-Ok-clause-left g c = λ first mounted.
    let tells = g.B.Bay.tells in
    let s = state_of (λ lent. g.B.D.Disk.state (disk_of lent)) c.args.store in
    let u = state_of (λ lent. g.B.D.Disk.state (disk_of lent)) (blocks_in c.in-Ok.served) in
    let looked = tree_where tells (start (bounds_of c.args.geom.now)).tree (λ t. IsLookedAt first t u) (λ told.
    let tree = c.in-Ok.ensures.stands told in (
      tree.0,
      opened_looked_at tells told first s mounted tree.0 tree.1 u c.in-Ok.ensures.looks
          (c.in-Ok.ensures.serves told (λ x. drawn (λ lent. g.B.D.Disk.state (disk_of lent)) x) s.books.geom s.map tree.0 (mounted_with tells told first s mounted) tree.1),
    )) in
    (looked_back (λ lent. g.B.D.Disk.state (disk_of lent)) tells first s u c.into_blocks.result (blocks_in c.upgrade_served-answer.new.image) c.disk_back.result c.an_image_stands_for_one_tree.ensures.image c.args.other.now c.args.geom.now looked.0
    c.upgrade_served-answer.result (g.B.Bay.state c.args.bay.now) (g.B.Bay.state c.upgrade_served-answer.new.bay) c.into_blocks.ensures c.disk_back.ensures.disk mounted.on c.in-Ok.ensures.looks c.upgrade_served-answer.ensures.keeps
    c.disk_back.ensures.size (λ told. c.upgrade_served-answer.ensures.stays told first looked.0 (looked.1 told))
    (λ told. used_up tells told first s mounted u (state_of (λ lent. g.B.D.Disk.state (disk_of lent)) (blocks_in c.upgrade_served-answer.new.image)) looked.0 c.in-Ok.ensures.looks (omega (arith, c.lawful.ensures.limits.most_nodes, ap (λ (k : Geometry). k.i) c.geom-found.ensures))
    (c.upgrade_served-answer.ensures.raises told first looked.0 (looked.1 told)))
    (c.upgrade_served-answer.ensures.comes first looked.0 looked.1)).0

pub returns-in-Ok-clause-comes : goal.returns-in-Ok-clause-comes
returns-in-Ok-clause-comes g c = λ first mounted.
    let tells = g.B.Bay.tells in
    let s = state_of (λ lent. g.B.D.Disk.state (disk_of lent)) c.args.store in
    let u = state_of (λ lent. g.B.D.Disk.state (disk_of lent)) (blocks_in c.in-Ok.served) in
    let looked = tree_where tells (start (bounds_of c.args.geom.now)).tree (λ t. IsLookedAt first t u) (λ told.
    let tree = c.in-Ok.ensures.stands told in (
      tree.0,
      opened_looked_at tells told first s mounted tree.0 tree.1 u c.in-Ok.ensures.looks
          (c.in-Ok.ensures.serves told (λ x. drawn (λ lent. g.B.D.Disk.state (disk_of lent)) x) s.books.geom s.map tree.0 (mounted_with tells told first s mounted) tree.1),
    )) in
    (looked_back (λ lent. g.B.D.Disk.state (disk_of lent)) tells first s u c.into_blocks.result (blocks_in c.upgrade_served-answer.new.image) c.disk_back.result c.an_image_stands_for_one_tree.ensures.image c.args.other.now c.args.geom.now looked.0
    c.upgrade_served-answer.result (g.B.Bay.state c.args.bay.now) (g.B.Bay.state c.upgrade_served-answer.new.bay) c.into_blocks.ensures c.disk_back.ensures.disk mounted.on c.in-Ok.ensures.looks c.upgrade_served-answer.ensures.keeps
    c.disk_back.ensures.size (λ told. c.upgrade_served-answer.ensures.stays told first looked.0 (looked.1 told))
    (λ told. used_up tells told first s mounted u (state_of (λ lent. g.B.D.Disk.state (disk_of lent)) (blocks_in c.upgrade_served-answer.new.image)) looked.0 c.in-Ok.ensures.looks (omega (arith, c.lawful.ensures.limits.most_nodes, ap (λ (k : Geometry). k.i) c.geom-found.ensures))
    (c.upgrade_served-answer.ensures.raises told first looked.0 (looked.1 told)))
    (c.upgrade_served-answer.ensures.comes first looked.0 looked.1)).1

pub returns-in-Err-clause-left : goal.returns-in-Err-clause-left
returns-in-Err-clause-left g c = λ first mounted.
    let s = state_of (λ lent. g.B.D.Disk.state (disk_of lent)) c.args.store in
    let u = state_of (λ lent. g.B.D.Disk.state (disk_of lent)) c.in-Err.store in
    let why = c.in-Err.why in
    let back = c.in-Err.ensures.back in
    let geom = ap (λ (k : Bookkeeping). k.geom) back.books in
    shown_only_mounted g.B.Bay.tells first (g.B.D.Disk.state (disk_of c.unopened-disk.result.0)) c.unopened-disk.result.1
    (c.unopened-disk.ensures.back first None (c.what_is_read_stays_mounted.ensures c.args.store c.in-Err.store first (fails_by why) mounted.on back)
    (λ told. damage_stays s.books.geom u.books.geom s.map u.map why geom (back.map told) (c.in-Err.ensures.damage told))
    (λ told. none_stays s.books.geom u.books.geom s.map u.map why geom (back.map told) (c.in-Err.ensures.none told)))

pub returns-in-Err-clause-comes : goal.returns-in-Err-clause-comes
returns-in-Err-clause-comes g c = λ first mounted.
    let s = state_of (λ lent. g.B.D.Disk.state (disk_of lent)) c.args.store in
    let u = state_of (λ lent. g.B.D.Disk.state (disk_of lent)) c.in-Err.store in
    let why = c.in-Err.why in
    let back = c.in-Err.ensures.back in
    let geom = ap (λ (k : Bookkeeping). k.geom) back.books in
    nothing_comes g.B.Bay.tells c.args.other.now c.args.geom.now first (g.B.D.Disk.state (disk_of c.unopened-disk.result.0)) c.unopened-disk.result.1 c.of_image.result (g.B.Bay.state c.args.bay.now) c.of_image.ensures c.unopened-disk.ensures.silent
    (c.unopened-disk.ensures.back first None (c.what_is_read_stays_mounted.ensures c.args.store c.in-Err.store first (fails_by why) mounted.on back)
    (λ told. damage_stays s.books.geom u.books.geom s.map u.map why geom (back.map told) (c.in-Err.ensures.damage told))
    (λ told. none_stays s.books.geom u.books.geom s.map u.map why geom (back.map told) (c.in-Err.ensures.none told)))
