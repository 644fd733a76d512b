-- What inodes say of the node at a path, from what is known of the node.
use Rattle.std.proofs.Common.{◌≡◌, ℕ, Bool, true, false, not, nat_lt, List, [], ◌∷◌, length, Option, Some, option_and_then, ◌==◌, refl, sym, subst, ap, ◌∙◌, arith}
use Rattle.std.proofs.lemmas.Bool.{true≢false, lt-ltb, eqb-true}
use Rattle.std.proofs.lemmas.Option.{none-some, same_Some}
use Rattle.base_types.specs.declared.layout.Layout.{Layout}
use Rattle.base_types.specs.Layouts.{directory_bytes}
use Rattle.base_types.specs.LayoutLaws.{directory_least, no_directory}
use Rattle.layout_bytes.specs.declared.slot.Slot.{Slot}
use Rattle.layout_bytes.specs.declared.node.NodeKind.{NodeKind}
use Rattle.layout_bytes.specs.declared.node.NodeKind.TheVariants.{Free, Dir, File, Snapshot}
use Rattle.layout_bytes.specs.Bytes.{when}
use Rattle.crash_stands.specs.Files.{FileNode, Files}
use Rattle.crash_stands.specs.Inodes.{Inode, ADir, AFile, inode_by, inode_of, inodes_of}
use Rattle.crash_stands.specs.Walks.{LeadsTo}
use Rattle.fs_inodes.specs.Lookups.{is_dir_inode, is_file_inode, is_list, has_slots, links_in, bytes_of, inode_at}
use Rattle.fs_files.specs.Calls.{facts_of, is_dir}
use Rattle.fs_files.specs.Nodes.{AreWholeSlots}
use Rattle.fs_snapshots.specs.Nodes.{not_file}
use Rattle.fs_commands.specs.Looks.{ShowsFacts}

-- what reads as a directory has one link
one_link : (links : ℕ) (b : Bool) (o : Option Inode) (slots : List Slot) → (links == 1) ≡ b → when b o ≡ Some (ADir slots) → 1 ≡ links
one_link links false o slots is e = absurd (none-some (ADir slots) e)
one_link links true o slots is e = sym (eqb-true links 1 is)

-- what an inode says of the node that reads as it
record Tells (kind : NodeKind) (links : ℕ) (bytes : List ℕ) (inode : Option Inode) : Type 0 where
  dir : is_dir_inode inode ≡ is_dir kind
  file : is_file_inode inode ≡ not (is_dir kind)
  links_are : links_in inode ≡ links
  bytes_are : is_dir kind ≡ false → length (bytes_of inode) ≡ length bytes
  slots_are : is_dir kind ≡ true → has_slots inode ≡ nat_lt 0 (length bytes)

any_slots : (l : Layout) (slots : List Slot) (size : ℕ) → size ≡ directory_bytes l (length slots) → is_list slots ≡ nat_lt 0 size
any_slots l [] size e = ap (nat_lt 0) {x = 0} {y = size} (sym (e ∙ no_directory l))
any_slots l (s ∷ slots) size e = sym (lt-ltb 0 size (omega (arith, e, directory_least l (length (s ∷ slots)))))

tells : (lay : Layout) (kind : NodeKind) (links : ℕ) (bytes : List ℕ) (inode : Inode) → inode_by lay kind links bytes ≡ Some inode → ((slots : List Slot) → kind ≡ Dir → inode ≡ ADir slots → length bytes ≡ directory_bytes lay (length slots)) → Tells kind links bytes (Some inode)
tells lay Free links bytes inode reads size = absurd (none-some inode reads)
tells lay Snapshot links bytes inode reads size = absurd (none-some inode reads)
tells lay File links bytes inode reads size = subst (λ i. Tells File links bytes (Some i)) (same_Some (AFile links bytes) inode reads) (record { dir = refl; file = refl; links_are = refl; bytes_are = λ file. refl; slots_are = λ dir. absurd (true≢false (sym dir)) })
tells lay Dir links bytes (AFile l b) reads size = absurd (not_file (links == 1) _ l b reads)
tells lay Dir links bytes (ADir slots) reads size = record {
  dir = refl;
  file = refl;
  links_are = one_link links (links == 1) _ slots refl reads;
  bytes_are = λ file. absurd (true≢false file);
  slots_are = λ dir. any_slots lay slots (length bytes) (size slots refl refl);
}

-- what is told of a node's kind and links, whatever size it has
pub kind_told : (lay : Layout) (kind : NodeKind) (links : ℕ) (bytes : List ℕ) (inode : Inode) → inode_by lay kind links bytes ≡ Some inode → (is_dir_inode (Some inode) ≡ is_dir kind) × (links_in (Some inode) ≡ links)
kind_told lay Free links bytes inode reads = absurd (none-some inode reads)
kind_told lay Snapshot links bytes inode reads = absurd (none-some inode reads)
kind_told lay File links bytes inode reads = subst (λ i. (is_dir_inode (Some i) ≡ false) × (links_in (Some i) ≡ links)) (same_Some (AFile links bytes) inode reads) (refl, refl)
kind_told lay Dir links bytes (AFile l b) reads = absurd (not_file (links == 1) _ l b reads)
kind_told lay Dir links bytes (ADir slots) reads = (refl, one_link links (links == 1) _ slots refl reads)

-- a node that is no directory is a file
pub file_told : (lay : Layout) (kind : NodeKind) (links : ℕ) (bytes : List ℕ) (inode : Inode) → inode_by lay kind links bytes ≡ Some inode → is_dir kind ≡ false → inode_by lay kind links bytes ≡ Some (AFile links bytes)
file_told lay Free links bytes inode reads none = absurd (none-some inode reads)
file_told lay Snapshot links bytes inode reads none = absurd (none-some inode reads)
file_told lay File links bytes inode reads none = refl
file_told lay Dir links bytes inode reads none = absurd (true≢false none)

-- the inode at a path
pub inode_is : (l : Layout) (files : Files) (path : List (List ℕ)) (k : ℕ) (x : FileNode) → LeadsTo (inodes_of l files) path k → files k ≡ Some x → inode_at (inodes_of l files) path ≡ inode_of l x
inode_is l files path k x leads is = ap (option_and_then (inodes_of l files)) leads ∙ ap (option_and_then (inode_of l)) is

pub facts_shown : (l : Layout) (files : Files) (path : List (List ℕ)) (k : ℕ) (x : FileNode) (inode : Inode) → LeadsTo (inodes_of l files) path k → files k ≡ Some x → inodes_of l files k ≡ Some inode
    → ((slots : List Slot) → inode_of l x ≡ Some (ADir slots) → AreWholeSlots l (length x.bytes) → length x.bytes ≡ directory_bytes l (length slots)) → (x.kind ≡ Dir → AreWholeSlots l (length x.bytes))
    → ShowsFacts (inodes_of l files) path (facts_of x)
facts_shown l files path k x inode leads is reads count whole =
    let so : inode_of l x ≡ Some inode = sym (ap (option_and_then (inode_of l)) is) ∙ reads in
    let at : inode_at (inodes_of l files) path ≡ Some inode = inode_is l files path k x leads is ∙ so in
    let t = tells l x.kind x.links x.bytes inode so (λ slots dir e. count slots (so ∙ ap Some e) (whole dir)) in
    record {
      dir = ap is_dir_inode at ∙ t.dir;
      file = ap is_file_inode at ∙ t.file;
      links = ap links_in at ∙ t.links_are;
      bytes = λ file. ap (λ i. length (bytes_of i)) at ∙ t.bytes_are file;
      slots = λ dir. ap has_slots at ∙ t.slots_are dir;
    }
