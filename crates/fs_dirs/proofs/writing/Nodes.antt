-- The node of a directory, and what its slots are once its bytes changed.
use Rattle.std.proofs.Common.{◌≡◌, ℕ, ◌<◌, ◌==◌, if◌then◌else◌, List, length, Option, Some, None, option_and_then, refl, sym, subst, ap, ap₂, ◌∙◌, ⊎_elim, arith}
use Rattle.std.proofs.lemmas.Bool.{cases_Bool, eqb-true, eqb-false, ne_eqb}
use Rattle.base_types.specs.declared.layout.Layout.{Layout}
use Rattle.base_types.specs.Layouts.{directory_bytes}
use Rattle.layout_bytes.specs.declared.node.NodeKind.TheVariants.{Dir}
use Rattle.layout_bytes.specs.declared.slot.Slot.{Slot}
use Rattle.lang_tree.specs.Step.{written}
use Rattle.crash_stands.specs.Files.{FileNode, Files}
use Rattle.crash_stands.specs.Inodes.{Inode, ADir, IsInodeOf, AreInodesOf, inode_of, inodes_of}
use Rattle.fs_files.specs.Bytes.{overwritten}
use Rattle.fs_files.specs.Calls.{IsWithFile}
use Rattle.fs_files.specs.Nodes.{AreWholeSlots}
use Rattle.fs_dirs.specs.Changing.{IsWithSlots}
use Rattle.fs_dirs.proofs.reading.Kinds.{node_of_inode, dir_kind, dir_slots}

-- the node of a directory with these slots
pub record DirNode (l : Layout) (o : Option FileNode) (slots : List Slot) : Type 0 where
  pub file : FileNode
  pub is : o ≡ Some file
  pub reads : inode_of l file ≡ Some (ADir slots)
  pub kind : file.kind ≡ Dir
  pub whole : AreWholeSlots l (length file.bytes)
  pub long : length file.bytes ≡ directory_bytes l (length slots)

pub dir_node : (l : Layout) (o : Option FileNode) (slots : List Slot) → option_and_then (inode_of l) o ≡ Some (ADir slots) → ((x : FileNode) → o ≡ Some x → x.kind ≡ Dir → AreWholeSlots l (length x.bytes))
    → ((x : FileNode) (slots : List Slot) → inode_of l x ≡ Some (ADir slots) → AreWholeSlots l (length x.bytes) → length x.bytes ≡ directory_bytes l (length slots)) → DirNode l o slots
dir_node l o slots is whole count =
    let r = node_of_inode l o (ADir slots) is in
    let kind = dir_kind l r.file slots r.reads in
    let all = whole r.file r.is kind in
    record { file = r.file; is = r.is; reads = r.reads; kind = kind; whole = all; long = count r.file slots r.reads all }

-- a node that reads as an inode is set
pub sets_file : (l : Layout) (old new : Files) (k : ℕ) (x : FileNode) (slots : List Slot) → IsWithFile old new k (Some x) → inode_of l x ≡ Some (ADir slots) → IsWithSlots l old new k slots
sets_file l old new k x slots w reads = record {
  inodes = record { here = ap (option_and_then (inode_of l)) w.own ∙ reads; others = λ n off. ap (option_and_then (inode_of l)) (w.others n off) };
  others = w.others;
}

-- bytes that are written, of which there are some
pub bytes_over : (off at : ℕ) (text spelling xs : List ℕ) → off ≡ at → text ≡ spelling → 0 < length text → overwritten off text xs ≡ written at spelling xs
bytes_over off at text spelling xs here same some = ap (λ t. if t then xs else written off text xs) (ne_eqb (length text) 0 (λ none. omega (arith, none, some))) ∙ ap₂ (λ o t. written o t xs) here same

-- a place that a directory has is one of its slots
pub place_of_slots : (o : Option Inode) (place : ℕ) (slots : List Slot) → ((xs : List Slot) × (o ≡ Some (ADir xs)) × (place < length xs)) → o ≡ Some (ADir slots) → place < length slots
place_of_slots o place slots (xs, has, low) is = subst (λ ys. place < length ys) (dir_slots xs slots (sym has ∙ is)) low

-- and a count that it has is that of its slots
pub count_of_slots : (o : Option Inode) (count : ℕ) (slots : List Slot) → ((xs : List Slot) × (o ≡ Some (ADir xs)) × (count ≡ length xs)) → o ≡ Some (ADir slots) → count ≡ length slots
count_of_slots o count slots (xs, has, many) is = subst (λ ys. count ≡ length ys) (dir_slots xs slots (sym has ∙ is)) many

-- what has an inode reads as it
reads_here : (l : Layout) (o : Option FileNode) (x : Inode) → option_and_then (inode_of l) o ≡ Some x → IsInodeOf l o (option_and_then (inode_of l) o)
reads_here l None x e = refl
reads_here l (Some file) x e = subst (IsInodeOf l (Some file)) (sym e) e

-- so each node in use still reads as an inode, where one directory has other slots
pub still_read : (l : Layout) (old new : Files) (k : ℕ) (slots : List Slot) → IsWithSlots l old new k slots → AreInodesOf l old (inodes_of l old) → AreInodesOf l new (inodes_of l new)
still_read l old new k slots w all n = ⊎_elim (λ here. subst (λ i. IsInodeOf l (new i) (option_and_then (inode_of l) (new i))) (sym (eqb-true n k here)) (reads_here l (new k) (ADir slots) w.inodes.here))
    (λ off. subst (λ (o : Option FileNode). IsInodeOf l o (option_and_then (inode_of l) o)) (sym (w.others n (eqb-false n k off))) (all n))
    (cases_Bool (n == k))
