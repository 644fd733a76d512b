use Rattle.std.proofs.Common.{ℕ, true, length, refl, sym, ap, subst}
use Rattle.std.proofs.lemmas.Result.{IfOk-weaker, IfErr-weaker}
use Rattle.base_types.specs.Seal.{blocks_of}
use Rattle.disk_memory.specs.MemDisk.{state_of as disk_state}
use Rattle.engine_store.specs.declared.refusal.StoreRefusal.{StoreRefusal}
use Rattle.engine_store.specs.Mounting.{LeavesDisk}
use Rattle.engine_store.specs.Refusal.{RefusalSays, is_disk_fault, is_read_fault}
use Rattle.engine_store.specs.StoreOf.{state_of}
use Rattle.cmd_session.specs.declared.images.ImageDamage.TheVariants.{BadBit}
use Rattle.cmd_replay.specs.declared.refusal.ReplayRefusal.TheVariants.{Damaged}
use Rattle.cmd_replay.specs.Images.{RefusesImage}
use Rattle.cmd_replay.proofs.Mounting.{bad_bit, no_fault, no_header, refuses_by, stands, used_up}
use Rattle.cmd_replay.proofs.listed.list_disk.Goals as goal

-- the store's map is one that the image holds
pub returns-in-Ok-clause-listed : goal.returns-in-Ok-clause-listed
returns-in-Ok-clause-listed c =
    let is = ap disk_state c.requires in
    IfOk-weaker c.list_store.result _ _ (λ text told. (told.0, stands c.args.disk.base (disk_state c.args.disk) (state_of disk_state c.in-Ok.store) is (c.in-Ok.ensures.mountable refl) (c.in-Ok.ensures.begins refl) told.0 told.1, told.2)) c.list_store.ensures.listed

pub returns-in-Ok-clause-refused : goal.returns-in-Ok-clause-refused
returns-in-Ok-clause-refused c =
    let is = ap disk_state c.requires in
    IfErr-weaker c.list_store.result _ _ (refuses_by c.args.disk.base (disk_state c.args.disk) (state_of disk_state c.in-Ok.store) is (c.in-Ok.ensures.mountable refl) (c.in-Ok.ensures.begins refl) c.a_damaged_image_stands_for_no_tree.ensures) c.list_store.ensures.refused

pub returns-in-Err-default-NoHeader-clause-refused : goal.returns-in-Err-default-NoHeader-clause-refused
returns-in-Err-default-NoHeader-clause-refused c =
    let d = disk_state c.args.disk in
    let new = disk_state c.in-Err-default-NoHeader.field-0-0 in
    no_header c.args.disk.base c.a_damaged_image_stands_for_no_tree.ensures d new (ap disk_state c.requires) (subst (λ (why : StoreRefusal). RefusalSays d new why) c.in-Err-default-NoHeader.field-0-1-is (c.in-Err-default-NoHeader.ensures.refused refl))

pub returns-in-Err-default-BadBit-clause-refused : goal.returns-in-Err-default-BadBit-clause-refused
returns-in-Err-default-BadBit-clause-refused c =
    let d = disk_state c.args.disk in
    let new = disk_state c.in-Err-default-BadBit.field-0-0 in
    let bad = bad_bit c.args.disk.base c.a_damaged_image_stands_for_no_tree.ensures d new c.in-Err-default-BadBit.block (ap disk_state c.requires) (subst (λ (why : StoreRefusal). RefusalSays d new why) c.in-Err-default-BadBit.field-0-1-is (c.in-Err-default-BadBit.ensures.refused refl)) in
    subst (λ (b : ℕ). RefusesImage (length c.args.disk.base) (blocks_of c.args.disk.base) (Damaged (BadBit b))) (sym c.in-Err-default-BadBit.block-is) bad

pub returns-in-Err-default-Spent-clause-refused : goal.returns-in-Err-default-Spent-clause-refused
returns-in-Err-default-Spent-clause-refused c =
    let d = disk_state c.args.disk in
    let new = disk_state c.in-Err-default-Spent.field-0-0 in
    used_up c.args.disk.base d new (ap disk_state c.requires) (subst (λ (why : StoreRefusal). RefusalSays d new why) c.in-Err-default-Spent.field-0-1-is (c.in-Err-default-Spent.ensures.refused refl))

-- no write fails: there is room for more of them than a mount makes
pub unreachable-requires-in-Err-default-DiskFault : goal.unreachable-requires-in-Err-default-DiskFault
unreachable-requires-in-Err-default-DiskFault c =
    let d = disk_state c.args.disk in
    let new = disk_state c.in-Err-default-DiskFault.field-0-0 in
    no_fault c.args.disk.base d new (ap disk_state c.requires) (subst (λ (why : StoreRefusal). LeavesDisk true (is_read_fault why) (is_disk_fault why) d new) c.in-Err-default-DiskFault.field-0-1-is c.in-Err-default-DiskFault.ensures.back)
