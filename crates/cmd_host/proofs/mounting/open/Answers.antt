use Rattle.std.proofs.Common.{true, refl, sym, subst, ap, arith}
use Rattle.disk_contract.specs.Manner.{Manner}
use Rattle.disk_memory.specs.MemDisk.{state_of as disk_state}
use Rattle.layout_journal.specs.Formatted.{formatted}
use Rattle.layout_journal.specs.Run.{live_part}
use Rattle.crash_stands.specs.Bounds.{bounds_of}
use Rattle.crash_stands.specs.Stands.{IsTreeOf}
use Rattle.lang_tree.specs.Step.{start}
use Rattle.lang_tree.specs.Tree.{Tree}
use Rattle.engine_store.specs.StoreOf.{state_of}
use Rattle.engine_blocks.specs.Crashes.{IsBegun}
use Rattle.engine_blocks.specs.State.{Bookkeeping, Ticking}
use Rattle.fs_commands.specs.Opened.{blocks_in}
use Rattle.fs_files.specs.Effects.{LooksOnly}
use Rattle.fs_check.specs.Whole.{OnDamage, fails_by}
use Rattle.fs_check.specs.declared.checking.CheckRefusal.{CheckRefusal}
use Rattle.cmd_session.specs.Shared.{drawn}
use Rattle.cmd_host.specs.Mounting.{Mounts}
use Rattle.cmd_host.proofs.OpenLemmas.{has_none, mounted_with, nothing_waits, opened_with, root_stands, still_shows}
use Rattle.cmd_host.proofs.mounting.open.Goals as goal

-- the disk shows what it showed, and a read of it was counted
pub unread-requires : goal.unread-requires
unread-requires c =
    let s = state_of disk_state c.args.store in
    let t = state_of disk_state c.in-Err-default-ReadFault.store in
    let back : LooksOnly true true s t = subst (λ (why : CheckRefusal). LooksOnly true (fails_by why) s t) c.in-Err-default-ReadFault.field-0-1-is c.in-Err-default-ReadFault.ensures.back in
    record { shows = still_shows c.args.geom.now s c.requires true t back; read = omega (arith, back.counts.read_faults) }

-- the disk that it hands back is that of the store
pub returns-in-Err-default-ReadFault : goal.returns-in-Err-default-ReadFault
returns-in-Err-default-ReadFault c = subst (λ (m : Manner). Mounts (record { shape = c.args.geom.now; manner = m }) c.unread.result) (ap (λ (k : Ticking). k.manner) c.in-Err-default-ReadFault.ensures.back.counts.ticks) c.unread.ensures

-- a tree stands in the blocks, so nothing is broken
pub unreachable-requires : goal.unreachable-requires
unreachable-requires c =
    let g = c.args.geom.now in
    let s = state_of disk_state c.args.store in
    let none = subst (λ (why : CheckRefusal). OnDamage why (λ what. (t : Tree) → IsTreeOf s.books.geom s.map t → ⊥)) c.in-Err-default-Damaged.field-0-1-is (c.in-Err-default-Damaged.ensures.none refl) in
    none (start (bounds_of g)).tree (root_stands g s c.requires (c.the_formatted_disk_stands_for_the_root.ensures.blocks g c.lawful.ensures.fits))

pub returns-in-Ok : goal.returns-in-Ok
returns-in-Ok c =
    let g = c.args.geom.now in
    let s = state_of disk_state c.args.store in
    let t = state_of disk_state (blocks_in c.in-Ok.system) in
    let looks = c.in-Ok.ensures.looks in
    let tree = c.the_formatted_disk_stands_for_the_root.ensures.blocks g c.lawful.ensures.fits in
    let served = c.in-Ok.ensures.serves refl (λ x. drawn disk_state x) g (live_part g (formatted g)) (start (bounds_of g)).tree (mounted_with g s c.requires) tree in
    let h = c.requires.begun in
    let begun : IsBegun t = subst (λ (k : Bookkeeping). IsBegun (record t { books = k })) (sym looks.books) (record { point = h.point; weight = h.weight; held = h.held; payloads = h.payloads; fresh = h.fresh; none_bare = h.none_bare; going = h.going }) in
    let room = c.nothing_is_taken_at_first.ensures refl (blocks_in c.in-Ok.system) (start (bounds_of g)) (nothing_waits g s c.requires t looks) served.goes_on.session
    (has_none g c.lawful.ensures.limits (λ b. c.the_formatted_disk_is_empty.ensures.bits g b c.lawful.ensures.fits) s t c.requires looks)
    begun in
    opened_with g s c.requires t looks served (c.in-Ok.ensures.budget refl (start (bounds_of g)).tree) room c.the_disk_keeps_to_its_manner.ensures.log c.the_disk_keeps_to_its_manner.ensures.events c.the_disk_keeps_to_its_manner.ensures.writes c.the_disk_keeps_to_its_manner.ensures.floor
