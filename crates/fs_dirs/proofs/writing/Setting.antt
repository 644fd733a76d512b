-- A slot written over another one: its inode, and which blocks change.
use Rattle.std.proofs.Common.{◌≡◌, ℕ, ◌+◌, ◌-◌, ◌/◌, ◌^◌, ◌<◌, ◌≤◌, List, [], length, set, Some, ap, sym, ◌∙◌, arith, append-nil}
use Rattle.base_types.specs.declared.layout.Layout.{Layout}
use Rattle.base_types.specs.Layouts.{slot_place, slot_size, directory_bytes}
use Rattle.base_types.specs.LayoutLaws.{directory_holds, slot_place_is, slot_within}
use Rattle.layout_bytes.specs.declared.slot.Slot.{Slot}
use Rattle.layout_bytes.specs.Slot.{slot_spelling}
use Rattle.layout_directory.specs.Slots.{IsLawful}
use Rattle.lang_tree.specs.Step.{written}
use Rattle.crash_stands.specs.Files.{FileNode, Files}
use Rattle.crash_stands.specs.Inodes.{ADir, inode_of}
use Rattle.fs_files.specs.Bytes.{blocks_for, overwritten}
use Rattle.fs_files.specs.Calls.{IsWithFile, with_bytes}
use Rattle.fs_files.specs.Drafts.{DraftState, ChangesSome}
use Rattle.fs_files.specs.Nodes.{AreWholeSlots}
use Rattle.fs_files.specs.Within.{Overwrites}
use Rattle.fs_dirs.specs.Changing.{Alters, IsWithSlots}
use Rattle.fs_dirs.proofs.writing.Nodes.{DirNode, sets_file, bytes_over}

-- a place that a directory has is told
pub place_within : (k l : Layout) (place n size offset : ℕ) → k ≡ l → place < n → size ≡ directory_bytes l n → size + 1024 ≤ 2 ^ 30 → (slot_place k place + slot_size k ≤ 2 ^ 30 → offset ≡ slot_place k place) → offset ≡ slot_place l place
place_within k l place n size offset same low is fits told =
    let at : slot_place k place ≡ slot_place l place = ap (λ x. slot_place x place) same in
    told (omega (arith, directory_holds l place n low, is, fits, at, ap slot_size same)) ∙ at

-- its slots after the write
pub sets_over : (l : Layout) (old new : Files) (k place offset : ℕ) (text : List ℕ) (slots : List Slot) (s : Slot) (r : DirNode l (old k) slots) → place < length slots → offset ≡ slot_place l place → 0 < length text → text ≡ slot_spelling l s → IsLawful l s
    → ((file : FileNode) (slots : List Slot) (place : ℕ) (s : Slot) → inode_of l file ≡ Some (ADir slots) → AreWholeSlots l (length file.bytes) → place < length slots → IsLawful l s
    → inode_of l (with_bytes file (written (slot_place l place) (slot_spelling l s) file.bytes)) ≡ Some (ADir (set slots place s)))
    → ((x : FileNode) → old k ≡ Some x → IsWithFile old new k (Some (with_bytes x (overwritten offset text x.bytes)))) → IsWithSlots l old new k (set slots place s)
sets_over l old new k place offset text slots s r low at some same lawful over write =
    sets_file l old new k (with_bytes r.file (overwritten offset text r.file.bytes)) (set slots place s) (write r.file r.is)
    (ap (λ b. inode_of l (with_bytes r.file b)) (bytes_over offset (slot_place l place) text (slot_spelling l s) r.file.bytes at same some) ∙ over r.file slots place s r.reads r.whole low lawful)

-- it lies in one block
pub one_block : (l : Layout) (place offset size count : ℕ) → offset ≡ slot_place l place → size ≡ slot_size l → count ≤ blocks_for (offset + size) - offset / 1024 → count ≤ 1
one_block l place offset size count at all few = omega (arith, at, all, few, slot_place_is l place, slot_within l place)

pub alters_one : (bs : List ℕ) (d e : DraftState) → length bs ≤ 1 → Overwrites bs d e → ChangesSome e → Alters 1 [] 0 d e
alters_one bs d e few over some = record {
  among = (bs, few, over.among);
  some = some;
  taken = over.taken ∙ sym (append-nil d.taken);
  freed = omega (arith, ap length over.freed);
  fresh = over.fresh;
}
