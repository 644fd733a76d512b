-- All paths, then the bytes of each file, and the sync at the end; or one of the disks refuses a command.
use Rattle.std.proofs.Common.{◌≡◌, ◌<◌, ◌∙◌, ◌⊎◌, Result, Some, arith, length, refl, slice_get, subst, sym}
use Rattle.std.proofs.lemmas.Option.{slice_get_read}
use Rattle.std.specs.Prelude.{IfErr, OnOk}
use Rattle.engine_store.specs.StoreOf.{state_of}
use Rattle.fs_commands.specs.Opened.{blocks_in}
use Rattle.cmd_upgrade.specs.declared.refusal.UpgradeRefusal.{UpgradeRefusal}
use Rattle.cmd_upgrade.specs.Looked.{HoldsNow, StopsFor, StopsMaking}
use Rattle.cmd_upgrade.proofs.FilesLoop.{durable_or, fill_all, fill_none, one_filled, one_skipped, one_stops, paths_stop}
use Rattle.cmd_upgrade.proofs.Keeping.{stays_here, stays_on}
use Rattle.cmd_upgrade.proofs.PathLoop.{failed_with}
use Rattle.cmd_upgrade.proofs.filling.fill.Goals.{then-is_written+in_ok-fill_file, else-is_written}
use Rattle.cmd_upgrade.proofs.filling.fill.Goals as goal

pub loop-place-init : goal.loop-place-init
loop-place-init g c =
    let known = g.D.Disk.state in
    record {
      upto = omega arith;
      raises = omega arith;
      keeps = stays_here g.D.Disk.tells (state_of known (blocks_in c.args.image.now));
      keeps_new = c.make_paths.ensures.keeps;
      stays = λ told first t looked. looked;
      fills = fill_none g.D.Disk.tells c.args.plan.now (state_of known (blocks_in c.args.image.now)) (state_of known (blocks_in c.args.new.now)) (state_of known (blocks_in c.make_paths.new.new)) c.in_ok-make_paths.ensures.makes;
    }

pub returns-in_err-make_paths-clause-holds : goal.returns-in_err-make_paths-clause-holds
returns-in_err-make_paths-clause-holds g c = λ told first t k looked can whole h.
    let known = g.D.Disk.state in
    let image = state_of known (blocks_in c.args.image.now) in
    let new = state_of known (blocks_in c.make_paths.new.new) in
    let why = c.in_err-make_paths.field-0.0 in
    subst (λ (r : Result (Unit {0}) UpgradeRefusal). OnOk r (HoldsNow t new) × IfErr r (λ w. StopsFor image w ⊎ StopsMaking k t new w)) (failed_with c.from_residual.result why c.from_residual.ensures)
    (tt, paths_stop g.D.Disk.tells c.args.plan.now image (state_of known (blocks_in c.args.new.now)) new why c.in_err-make_paths.ensures.makes told first t k looked can whole h)

pub returns-in_err-make_paths-clause-keeps : goal.returns-in_err-make_paths-clause-keeps
returns-in_err-make_paths-clause-keeps g c = stays_here g.D.Disk.tells (state_of g.D.Disk.state (blocks_in c.args.image.now))

pub returns-in_err-fill_file-clause-keeps : goal.returns-in_err-fill_file-clause-keeps
returns-in_err-fill_file-clause-keeps g c =
    let known = g.D.Disk.state in
    stays_on g.D.Disk.tells (state_of known (blocks_in c.args.image.now)) (state_of known (blocks_in c.loop-place.image)) (state_of known (blocks_in c.fill_file.new.image)) c.loop-place.invariant.keeps c.fill_file.ensures.keeps

pub returns-in_err-fill_file-clause-keeps_new : goal.returns-in_err-fill_file-clause-keeps_new
returns-in_err-fill_file-clause-keeps_new g c =
    let known = g.D.Disk.state in
    stays_on g.D.Disk.tells (state_of known (blocks_in c.args.new.now)) (state_of known (blocks_in c.loop-place.new)) (state_of known (blocks_in c.fill_file.new.new)) c.loop-place.invariant.keeps_new c.fill_file.ensures.keeps_new

pub returns-clause-keeps_new : goal.returns-clause-keeps_new
returns-clause-keeps_new g c =
    let known = g.D.Disk.state in
    stays_on g.D.Disk.tells (state_of known (blocks_in c.args.new.now)) (state_of known (blocks_in c.loop-place.new)) (state_of known (blocks_in c.make_durable.new.served)) c.loop-place.invariant.keeps_new c.make_durable.ensures.keeps

pub returns-in_err-fill_file-clause-stays : goal.returns-in_err-fill_file-clause-stays
returns-in_err-fill_file-clause-stays g c = λ told first t looked. c.fill_file.ensures.stays told first t (c.loop-place.invariant.stays told first t looked)

pub returns-clause-holds : goal.returns-clause-holds
returns-clause-holds g c = λ told first t k looked can whole h.
    let known = g.D.Disk.state in
    durable_or (HoldsNow t (state_of known (blocks_in c.make_durable.new.served))) k t c.make_durable.result (state_of known (blocks_in c.loop-place.image)) (state_of known (blocks_in c.make_durable.new.served))
    (c.make_durable.ensures.holds told k t can
    (fill_all g.D.Disk.tells c.args.plan.now c.loop-place.place (state_of known (blocks_in c.args.image.now)) (state_of known (blocks_in c.args.new.now)) (state_of known (blocks_in c.loop-place.new)) c.loop-place.invariant.fills
    (omega (arith, c.loop-place-test.false)) told first t k looked can whole h))

pub loop-place-preserved : goal.loop-place-preserved
loop-place-preserved g c =
    let known = g.D.Disk.state in
    let image = state_of known (blocks_in c.args.image.now) in
    let image_mid = state_of known (blocks_in c.loop-place.image) in
    let old = state_of known (blocks_in c.args.new.now) in
    let mid = state_of known (blocks_in c.loop-place.new) in
    let items = c.args.plan.now.entries.items in
    let e = c.index-entry.result.now in
    let within : c.loop-place.place < length items = omega (arith, c.loop-place-test.true) in
    let there : slice_get items c.loop-place.place ≡ Some e = slice_get_read items (length items) c.loop-place.place e refl within c.index-entry.ensures in
    elim c.if-is_written.branch [
      | then-is_written+in_ok-fill_file w ↦
          rw w.image-is (rw w.new-is (
          one_filled c.each_path_is_made_once.ensures.once g.D.Disk.tells c.args.plan.now c.loop-place.place e within there image image_mid old mid c.loop-place.invariant (sym (c.is_written.ensures e there) ∙ w.if-is_written.true)
          (state_of known (blocks_in w.fill_file.new.image)) (state_of known (blocks_in w.fill_file.new.new)) w.fill_file.ensures.raises w.fill_file.ensures.keeps w.fill_file.ensures.keeps_new w.fill_file.ensures.stays w.in_ok-fill_file.ensures.makes
          ))
      | else-is_written w ↦
          rw w.image-is (rw w.new-is (
          one_skipped c.each_path_is_made_once.ensures.once g.D.Disk.tells c.args.plan.now c.loop-place.place e within there image image_mid old mid c.loop-place.invariant (sym (c.is_written.ensures e there) ∙ w.if-is_written.false)
          ))
    ]

pub returns-in_err-fill_file-clause-holds : goal.returns-in_err-fill_file-clause-holds
returns-in_err-fill_file-clause-holds g c = λ told first t k looked can whole h.
    let known = g.D.Disk.state in
    let image = state_of known (blocks_in c.args.image.now) in
    let image_mid = state_of known (blocks_in c.loop-place.image) in
    let image_now = state_of known (blocks_in c.fill_file.new.image) in
    let old = state_of known (blocks_in c.args.new.now) in
    let mid = state_of known (blocks_in c.loop-place.new) in
    let now = state_of known (blocks_in c.fill_file.new.new) in
    let items = c.args.plan.now.entries.items in
    let e = c.index-entry.result.now in
    let why = c.in_err-fill_file.field-0.0 in
    let within : c.loop-place.place < length items = omega (arith, c.loop-place-test.true) in
    let there : slice_get items c.loop-place.place ≡ Some e = slice_get_read items (length items) c.loop-place.place e refl within c.index-entry.ensures in
    subst (λ (r : Result (Unit {0}) UpgradeRefusal). OnOk r (HoldsNow t now) × IfErr r (λ w. StopsFor image_now w ⊎ StopsMaking k t now w)) (failed_with c.from_residual-in_err-fill_file.result why c.from_residual-in_err-fill_file.ensures) (
      tt,
      one_stops c.each_path_is_made_once.ensures.once g.D.Disk.tells c.args.plan.now c.loop-place.place e within there image image_mid old mid c.loop-place.invariant (sym (c.is_written.ensures e there) ∙ c.if-is_written.true)
          image_now now why c.in_err-fill_file.ensures.makes told first t k looked can whole h,
    )

pub returns-in_err-make_paths-clause-raises : goal.returns-in_err-make_paths-clause-raises
returns-in_err-make_paths-clause-raises g c = omega arith

pub returns-in_err-fill_file-clause-raises : goal.returns-in_err-fill_file-clause-raises
returns-in_err-fill_file-clause-raises g c = omega (arith, c.loop-place.invariant.raises, c.fill_file.ensures.raises, c.loop-place-test.true)

pub returns-clause-raises : goal.returns-clause-raises
returns-clause-raises g c = omega (arith, c.loop-place.invariant.raises, c.loop-place.invariant.upto)
