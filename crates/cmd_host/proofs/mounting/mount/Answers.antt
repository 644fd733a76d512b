use Rattle.std.proofs.Common.{inr, true, false, refl, ap, subst, ◌∙◌, replicate, arith}
use Rattle.disk_contract.specs.Manner.{Manner}
use Rattle.disk_memory.specs.MemDisk.{state_of as disk_state}
use Rattle.layout_journal.specs.declared.entry.EntryKind.TheVariants.{Payload}
use Rattle.layout_journal.specs.Formatted.{formatted}
use Rattle.layout_journal.specs.Run.{live_part}
use Rattle.engine_store.specs.StoreOf.{disk_in}
use Rattle.engine_store.specs.Mounting.{LeavesDisk}
use Rattle.engine_store.specs.Refusal.{RefusalSays, is_disk_fault, is_read_fault}
use Rattle.engine_store.specs.declared.refusal.StoreRefusal.{StoreRefusal}
use Rattle.cmd_host.specs.Mounting.{Mounts}
use Rattle.cmd_host.proofs.FormattedFound.{HasLaws, zeros_are_stored}
use Rattle.cmd_host.proofs.MountLemmas.{HasRoot, held_by, holds, header_found, bits_good, unspent, left_faulty, left_unread, left_with, nothing_to_replay, few_turns, of_mount_by, opened_by, opened_once, stopped_once}
use Rattle.cmd_host.proofs.mounting.mount.Goals as goal
use Rattle.cmd_host.proofs.mounting.mount.Goals.{After-journal_blocks_are_told_apart}

-- what the laws say of this geometry's formatted disk
laws : (c : After-journal_blocks_are_told_apart) → HasLaws c.args.geom.now
laws c = let g = c.args.geom.now in record {
  limits = c.lawful.ensures.limits;
  bits = λ b. c.the_formatted_disk_is_empty.ensures.bits g b c.lawful.ensures.fits;
  journal = c.the_formatted_disk_is_empty.ensures.journal g;
  newest = (c.the_formatted_disk_may_be_opened.ensures.ready g c.lawful.ensures.fits).is_newest;
  one_header = c.an_image_holds_one_map.ensures.newest g.n;
  one_run = c.an_image_holds_one_map.ensures.runs;
  no_header = c.journal_blocks_are_told_apart.ensures.stored_no_header Payload g.n (replicate 1024 0) zeros_are_stored;
  no_commit = c.journal_blocks_are_told_apart.ensures.stored_no_commit Payload g (replicate 1024 0) zeros_are_stored;
}

-- and of its live blocks
root : (c : After-journal_blocks_are_told_apart) → HasRoot c.args.geom.now
root c = let g = c.args.geom.now in record {
  held = held_by g (omega (arith, c.lawful.ensures.limits.data_room)) (λ img same. c.the_data_of_a_formatted_disk_may_be_anything.ensures.held g img c.lawful.ensures.fits same);
  tree = c.the_formatted_disk_stands_for_the_root.ensures.blocks g c.lawful.ensures.fits;
  one = c.an_image_stands_for_one_tree.ensures.image;
}

pub open-requires : goal.open-requires
open-requires c =
    let p = (goal.at.open-requires c).After-journal_blocks_are_told_apart in
    let g = c.args.geom.now in
    let d = disk_state c.args.disk in
    let begins = c.in-Ok.ensures.begins refl g (live_part g (formatted g)) (holds g (root p) (laws p) d c.requires) in
    let first = opened_once g (root p) (laws p) d c.requires (disk_state (disk_in c.in-Ok.store)).log (c.in-Ok.ensures.alone refl (nothing_to_replay g (root p) (laws p) d c.requires)) in
    let left = left_with g (root p) (laws p) d c.requires false false (disk_state (disk_in c.in-Ok.store)) c.in-Ok.ensures.leaves (inr (inr first)) in
    record {
      begun = c.in-Ok.ensures.begun;
      begins = begins;
      shows = record { geom = begins.geom; base = left.began.base; images = left.images; first = first };
      polls = c.in-Ok.ensures.leaves.spends.polls ∙ c.requires.polls;
      faults = c.in-Ok.ensures.leaves.spends.faults ∙ c.requires.faults;
      alone = ap (λ (m : Manner). m.waits_alone) c.in-Ok.ensures.leaves.spends.same.manner ∙ c.requires.alone;
      opened = opened_by g (root p) (laws p) d c.requires _ (c.in-Ok.ensures.opens refl) begins.geom;
      of_mount = of_mount_by g (root p) (laws p) d c.requires _ (c.in-Ok.ensures.numbers refl) begins.geom left.began.base;
      turns = few_turns g (root p) (laws p) d c.requires _ (c.in-Ok.ensures.numbers refl);
    }

pub failed-requires : goal.failed-requires
failed-requires c =
    let p = (goal.at.failed-requires c).After-journal_blocks_are_told_apart in
    let d = disk_state c.args.disk in
    let new = disk_state c.in-Err-default-DiskFault.disk in
    let back : LeavesDisk true false true d new = subst (λ (why : StoreRefusal). LeavesDisk true (is_read_fault why) (is_disk_fault why) d new) c.in-Err-default-DiskFault.field-0-1-is c.in-Err-default-DiskFault.ensures.back in
    let stops = c.in-Err-default-DiskFault.ensures.stops refl (nothing_to_replay c.args.geom.now (root p) (laws p) d c.requires) in
    record {
      holds = left_with c.args.geom.now (root p) (laws p) d c.requires _ _ new back (stopped_once c.args.geom.now (root p) (laws p) d c.requires new stops);
      fault = left_faulty c.args.geom.now (root p) (laws p) d c.requires false new back stops;
    }

pub failed-requires-in-Err-default-ReadFault : goal.failed-requires-in-Err-default-ReadFault
failed-requires-in-Err-default-ReadFault c =
    let p = (goal.at.failed-requires-in-Err-default-ReadFault c).After-journal_blocks_are_told_apart in
    let d = disk_state c.args.disk in
    let new = disk_state c.in-Err-default-ReadFault.disk in
    let back : LeavesDisk true true false d new = subst (λ (why : StoreRefusal). LeavesDisk true (is_read_fault why) (is_disk_fault why) d new) c.in-Err-default-ReadFault.field-0-1-is c.in-Err-default-ReadFault.ensures.back in
    let stops = c.in-Err-default-ReadFault.ensures.stops refl (nothing_to_replay c.args.geom.now (root p) (laws p) d c.requires) in
    record {
      holds = left_with c.args.geom.now (root p) (laws p) d c.requires _ _ new back (stopped_once c.args.geom.now (root p) (laws p) d c.requires new stops);
      fault = left_unread c.args.geom.now (root p) (laws p) d c.requires false new back;
    }

-- the disk that is handed back is that which was mounted
pub returns-in-Err-default-DiskFault : goal.returns-in-Err-default-DiskFault
returns-in-Err-default-DiskFault c = subst (λ (m : Manner). Mounts (record { shape = c.args.geom.now; manner = m }) c.failed.result) c.in-Err-default-DiskFault.ensures.back.spends.same.manner c.failed.ensures

pub returns-in-Err-default-ReadFault : goal.returns-in-Err-default-ReadFault
returns-in-Err-default-ReadFault c = subst (λ (m : Manner). Mounts (record { shape = c.args.geom.now; manner = m }) c.failed-in-Err-default-ReadFault.result) c.in-Err-default-ReadFault.ensures.back.spends.same.manner c.failed-in-Err-default-ReadFault.ensures

pub unreachable-requires : goal.unreachable-requires
unreachable-requires c =
    let p = (goal.at.unreachable-requires c).After-journal_blocks_are_told_apart in
    let d = disk_state c.args.disk in
    let new = disk_state c.in-Err-default-NoHeader.field-0-0 in
    header_found c.args.geom.now (root p) (laws p) d c.requires new (subst (λ (why : StoreRefusal). RefusalSays d new why) c.in-Err-default-NoHeader.field-0-1-is (c.in-Err-default-NoHeader.ensures.refused refl))

pub unreachable-requires-in-Err-default-BadBit : goal.unreachable-requires-in-Err-default-BadBit
unreachable-requires-in-Err-default-BadBit c =
    let p = (goal.at.unreachable-requires-in-Err-default-BadBit c).After-journal_blocks_are_told_apart in
    let d = disk_state c.args.disk in
    let new = disk_state c.in-Err-default-BadBit.field-0-0 in
    bits_good c.args.geom.now (root p) (laws p) d c.requires new _ (subst (λ (why : StoreRefusal). RefusalSays d new why) c.in-Err-default-BadBit.field-0-1-is (c.in-Err-default-BadBit.ensures.refused refl))

pub unreachable-requires-in-Err-default-Spent : goal.unreachable-requires-in-Err-default-Spent
unreachable-requires-in-Err-default-Spent c =
    let p = (goal.at.unreachable-requires-in-Err-default-Spent c).After-journal_blocks_are_told_apart in
    let d = disk_state c.args.disk in
    let new = disk_state c.in-Err-default-Spent.field-0-0 in
    unspent c.args.geom.now (root p) (laws p) d c.requires new (subst (λ (why : StoreRefusal). RefusalSays d new why) c.in-Err-default-Spent.field-0-1-is (c.in-Err-default-Spent.ensures.refused refl))
