use Rattle.std.proofs.Common.{◌≡◌, ◌<◌, true, false, refl, sym, subst}
use Rattle.disk_memory.specs.MemDisk.{MemDiskState, state_of as disk_state}
use Rattle.engine_store.specs.StoreOf.{state_of}
use Rattle.fs_files.specs.Effects.{LooksOnly}
use Rattle.fs_commands.specs.Opened.{blocks_in}
use Rattle.fs_check.specs.Whole.{IsDamaged, OnDamage, fails_by}
use Rattle.fs_check.specs.declared.checking.CheckRefusal.{CheckRefusal}
use Rattle.fs_check.specs.declared.checking.Damage.{Damage}
use Rattle.cmd_replay.proofs.Mounting.{never_unread, tree_before}
use Rattle.cmd_replay.proofs.listed.list_store.Goals as goal

-- the listing is that of the tree of the session
pub returns-in-Ok-clause-listed : goal.returns-in-Ok-clause-listed
returns-in-Ok-clause-listed c =
    let opened = c.in-Ok.ensures.session refl in (
      opened.0,
      tree_before (state_of disk_state c.args.store) (state_of disk_state (blocks_in c.in-Ok.fs)) false opened.0 c.in-Ok.ensures.looks opened.1.tree,
      c.in_ok-text-in-Ok.ensures _ opened.1,
    )

pub returns-in-Err-default-Damaged-clause-refused : goal.returns-in-Err-default-Damaged-clause-refused
returns-in-Err-default-Damaged-clause-refused c =
    let s = state_of disk_state c.args.store in
    let damage : IsDamaged s.books.geom s.map c.in-Err-default-Damaged.what = subst (λ (why : CheckRefusal). OnDamage why (IsDamaged s.books.geom s.map)) c.in-Err-default-Damaged.field-0-1-is (c.in-Err-default-Damaged.ensures.damage refl) in
    subst (λ (what : Damage). IsDamaged s.books.geom s.map what) (sym c.in-Err-default-Damaged.what-is) damage

-- no read of the disk fails
pub unreachable-requires : goal.unreachable-requires
unreachable-requires c =
    let s = state_of disk_state c.args.store in
    let u = state_of disk_state c.in-Err-default-ReadFault.store in
    let looks : LooksOnly true true s u = subst (λ (why : CheckRefusal). LooksOnly true (fails_by why) s u) c.in-Err-default-ReadFault.field-0-1-is c.in-Err-default-ReadFault.ensures.back in
    never_unread s u c.requires.readable looks (subst (λ (d : MemDiskState). 0 < (disk_state d).read_faults → (disk_state d).manner.reads_fail ≡ true) c.disk.ensures.value (c.lawful.ensures refl).reads)
