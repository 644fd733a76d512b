use Rattle.std.proofs.Common.{◌≡◌, ◌++◌, ◌<◌, true, true≢false, Err, ap, refl, sym, subst, ◌∙◌, arith}
use Rattle.disk_memory.specs.MemDisk.{MemDiskState, state_of as disk_state}
use Rattle.engine_blocks.specs.State.{Ticking}
use Rattle.engine_store.specs.StoreOf.{disk_in, state_of}
use Rattle.fs_files.specs.Effects.{LooksOnly}
use Rattle.fs_commands.specs.Listing.{ended_by_read}
use Rattle.fs_commands.specs.Opened.{blocks_in}
use Rattle.fs_commands.specs.declared.listing.ListRefusal.{ListRefusal}
use Rattle.lang_tree.specs.Listing.{listing}
use Rattle.cmd_host.specs.Listed.{TextState}
use Rattle.cmd_host.proofs.listed.listing_text.Goals as goal

-- what the sink kept
pub returns-in-Ok : goal.returns-in-Ok
returns-in-Ok c = λ f is. c.into_text.ensures ∙ c.in-Ok.ensures.all refl f is ∙ ap (λ (s : TextState). s.text ++ listing f.tree) c.new-out.ensures

-- no read of the disk fails: one that had would be counted, which the disk's manner doesn't let be
pub unreachable-requires-in-Err-ReadFault : goal.unreachable-requires-in-Err-ReadFault
unreachable-requires-in-Err-ReadFault c =
    let s = state_of disk_state (blocks_in c.args.fs.now) in
    let store = blocks_in c.listing.new.self in
    let looks : LooksOnly true true s (state_of disk_state store) = subst (λ (why : ListRefusal). LooksOnly true (ended_by_read {T = Unit {0}} (Err why)) s (state_of disk_state store)) c.in-Err-ReadFault.field-0-is c.in-Err-ReadFault.ensures.looks in
    let is : c.disk.result.now ≡ disk_in store = c.disk.ensures.value ∙ ap (λ x. disk_in x) c.blocks-in-Err-ReadFault.ensures in
    let u = state_of disk_state store in
    let fails : 0 < u.counts.read_faults → u.counts.ticks.manner.reads_fail ≡ true = subst (λ (d : MemDiskState). 0 < (disk_state d).read_faults → (disk_state d).manner.reads_fail ≡ true) is (c.lawful.ensures refl).reads in
    absurd (true≢false (sym (fails (omega (arith, looks.counts.read_faults))) ∙ ap (λ (k : Ticking). k.manner.reads_fail) looks.counts.ticks ∙ c.requires.readable))
