-- The tree was planned, and the new disk made and filled; or there is no room, or a step before it was refused.
use Rattle.std.proofs.Common.{◌≡◌, Bool, true, Err, IsTrue, Result, arith, refl, subst, sym, ap, ◌∙◌}
use Rattle.base_types.specs.declared.layout.Layout.{Layout}
use Rattle.disk_contract.specs.Disk.{State}
use Rattle.lang_tree.specs.Tree.{Tree}
use Rattle.engine_store.specs.StoreOf.{state_of}
use Rattle.fs_commands.specs.Opened.{blocks_in}
use Rattle.cmd_image.specs.Lent.{disk_of}
use Rattle.cmd_upgrade.specs.declared.refusal.UpgradeRefusal.{UpgradeRefusal}
use Rattle.cmd_upgrade.specs.Filled.{ComesOfLooked}
use Rattle.cmd_upgrade.specs.Looked.{IsLookedAt}
use Rattle.cmd_upgrade.specs.Plans.{IsWholePlan}
use Rattle.cmd_upgrade.specs.Upgrades.{TakesTree}
use Rattle.cmd_upgrade.proofs.Handing.{lacks_by, new_made, no_new_made, no_room, stops_before, takes_by}
use Rattle.cmd_upgrade.proofs.Keeping.{stays_on}
use Rattle.cmd_upgrade.proofs.PathLoop.{as_many, failed_with}
use Rattle.cmd_upgrade.proofs.upgrading.upgrade_served.Goals as goal

pub returns-in_err-plan-clause-comes : goal.returns-in_err-plan-clause-comes
returns-in_err-plan-clause-comes g c = λ first t looked.
    stops_before g.B.Bay.tells c.args.other.now c.args.geom.now t (state_of (λ lent. g.B.D.Disk.state (disk_of lent)) (blocks_in c.plan_of.new.served)) c.in_err-plan.field-0.0 c.from_residual.result (g.B.Bay.state c.args.bay.now)
    (sym (failed_with c.from_residual.result c.in_err-plan.field-0.0 c.from_residual.ensures)) c.in_err-plan.ensures.which (λ told. c.in_err-plan.ensures.stops told first t (looked told))

pub returns-in_err-plan-clause-raises : goal.returns-in_err-plan-clause-raises
returns-in_err-plan-clause-raises g c = λ told first t looked. omega (arith, c.plan_of.ensures.raises told first t looked)

pub returns-then-not-fits-clause-comes : goal.returns-then-not-fits-clause-comes
returns-then-not-fits-clause-comes g c = λ first t looked.
    no_room g.B.Bay.tells c.args.other.now c.args.geom.now t (state_of (λ lent. g.B.D.Disk.state (disk_of lent)) (blocks_in c.plan_of.new.served)) (g.B.Bay.state c.args.bay.now) (λ told.
    let stands = (looked told).stands.stands in
    let sound = c.a_tree_that_stands_is_sound.ensures.sound stands.held.header.geom stands.map t stands.tree in
    lacks_by c.args.geom.now c.layout.result t c.in_ok-plan.plan c.fits.result stands.held.header.geom.i c.fits.ensures c.layout.ensures sound (c.in_ok-plan.ensures.plan told first t (looked told)) c.if-not-fits.true)

pub returns-then-not-fits-clause-raises : goal.returns-then-not-fits-clause-raises
returns-then-not-fits-clause-raises g c = λ told first t looked. omega (arith, c.plan_of.ensures.raises told first t looked)

pub returns-in-Err-clause-comes : goal.returns-in-Err-clause-comes
returns-in-Err-clause-comes g c = λ first t looked.
    let old = g.B.Bay.state c.args.bay.now in
    let new = g.B.Bay.state c.make_image.new.bay in
    let image = state_of (λ lent. g.B.D.Disk.state (disk_of lent)) (blocks_in c.plan_of.new.served) in
    subst (λ (why : UpgradeRefusal). ComesOfLooked g.B.Bay.tells c.args.other.now c.args.geom.now t image (Err why) old new) (sym c.of_make.ensures)
    (no_new_made g.B.Bay.tells c.args.other.now c.args.geom.now t image c.in-Err.why old new (λ told.
    let stands = (looked told).stands.stands in
    let sound = c.a_tree_that_stands_is_sound.ensures.sound stands.held.header.geom stands.map t stands.tree in
    (takes_by c.args.geom.now c.layout.result t c.in_ok-plan.plan c.fits.result stands.held.header.geom.i c.fits.ensures c.layout.ensures sound (c.in_ok-plan.ensures.plan told first t (looked told)) c.if-not-fits.false).0) c.in-Err.ensures.back)

pub returns-in-Err-clause-raises : goal.returns-in-Err-clause-raises
returns-in-Err-clause-raises g c = λ told first t looked. omega (arith, c.plan_of.ensures.raises told first t looked)

pub returns-clause-comes : goal.returns-clause-comes
returns-clause-comes g c = λ first t looked.
    let tells = g.B.Bay.tells in
    let geom = c.args.geom.now in
    let old = g.B.Bay.state c.args.bay.now in
    let made = g.B.Bay.state c.make_image.new.bay in
    let new = g.B.Bay.state c.make_tree.new.bay in
    let image = state_of (λ lent. g.B.D.Disk.state (disk_of lent)) (blocks_in c.make_tree.new.image) in
    let fits : IsTrue tells → TakesTree geom t × IsWholePlan geom.layout t c.in_ok-plan.plan = (λ told.
    let stands = (looked told).stands.stands in
    let sound = c.a_tree_that_stands_is_sound.ensures.sound stands.held.header.geom stands.map t stands.tree in
    takes_by c.args.geom.now c.layout.result t c.in_ok-plan.plan c.fits.result stands.held.header.geom.i c.fits.ensures c.layout.ensures sound (c.in_ok-plan.ensures.plan told first t (looked told)) c.if-not-fits.false) in
    new_made tells c.args.other.now geom t image c.make_tree.result old made new (λ told. (fits told).0) c.in_default.ensures.back c.in_default.ensures.made
    (c.make_tree.ensures.comes first t (λ told. c.plan_of.ensures.stays told first t (looked told))
    (λ told. (c.a_tree_that_stands_can_be_made.ensures first.blocks first.base t geom (looked told).stands.stands c.requires.layout (fits told).0.nodes, (fits told).1)) c.in_default.ensures.made)

pub returns-clause-raises : goal.returns-clause-raises
returns-clause-raises g c = λ told first t looked.
    let stands = looked.stands.stands in
    let sound = c.a_tree_that_stands_is_sound.ensures.sound stands.held.header.geom stands.map t stands.tree in
    let fits = takes_by c.args.geom.now c.layout.result t c.in_ok-plan.plan c.fits.result stands.held.header.geom.i c.fits.ensures c.layout.ensures sound (c.in_ok-plan.ensures.plan told first t looked) c.if-not-fits.false in
    omega (arith, c.plan_of.ensures.raises told first t looked, c.make_tree.ensures.raises, as_many c.args.geom.now.layout t c.in_ok-plan.plan fits.1)

pub returns-clause-stays : goal.returns-clause-stays
returns-clause-stays g c = λ told first t looked. c.make_tree.ensures.stays told first t (c.plan_of.ensures.stays told first t looked)

pub returns-clause-keeps : goal.returns-clause-keeps
returns-clause-keeps g c = stays_on g.B.Bay.tells _ _ _ c.plan_of.ensures.keeps c.make_tree.ensures.keeps
