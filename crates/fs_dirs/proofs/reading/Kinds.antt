-- What nodes are whose inodes are known, and which slots directories have.
use Rattle.std.proofs.Common.{◌≡◌, ℕ, ◌+◌, ◌<◌, ◌≤◌, Bool, true, false, ◌==◌, List, length, Option, None, Some, IfSome, option_map, option_and_then, refl, sym, ap, ◌∙◌, arith}
use Rattle.std.proofs.lemmas.Option.{none-some, same_Some}
use Rattle.base_types.specs.declared.layout.Layout.{Layout}
use Rattle.base_types.specs.Layouts.{slots_held, directory_bytes}
use Rattle.base_types.specs.LayoutLaws.{directory_count, directory_least}
use Rattle.layout_bytes.specs.declared.node.NodeKind.{NodeKind}
use Rattle.layout_bytes.specs.declared.node.NodeKind.TheVariants.{Free, Dir, File, Snapshot}
use Rattle.layout_bytes.specs.declared.slot.Slot.{Slot}
use Rattle.layout_bytes.specs.Bytes.{when}
use Rattle.layout_bytes.specs.Slot.{slots_in}
use Rattle.crash_stands.specs.Files.{FileNode}
use Rattle.fs_files.specs.declared.look.FileFacts.{FileFacts}
use Rattle.fs_files.specs.Calls.{facts_of}
use Rattle.fs_dirs.specs.Directories.{slot_count}
use Rattle.crash_stands.specs.Inodes.{Inode, ADir, AFile, inode_by, inode_of}

-- a node that reads as an inode
pub record ReadsAs (l : Layout) (o : Option FileNode) (x : Inode) : Type 0 where
  pub file : FileNode
  pub is : o ≡ Some file
  pub reads : inode_of l file ≡ Some x

-- what has an inode is a node in use
pub node_of_inode : (l : Layout) (o : Option FileNode) (x : Inode) → option_and_then (inode_of l) o ≡ Some x → ReadsAs l o x
node_of_inode l None x e = absurd (none-some x e)
node_of_inode l (Some file) x e = record { file = file; is = refl; reads = e }

-- a file is no directory
no_dir : (links : ℕ) (bytes : List ℕ) (slots : List Slot) → Some (AFile links bytes) ≡ Some (ADir slots) → ⊥
no_dir links bytes slots e = cc

dir_by : (l : Layout) (kind : NodeKind) (links : ℕ) (bytes : List ℕ) (slots : List Slot) → inode_by l kind links bytes ≡ Some (ADir slots) → kind ≡ Dir
dir_by l Free links bytes slots e = absurd (none-some (ADir slots) e)
dir_by l Snapshot links bytes slots e = absurd (none-some (ADir slots) e)
dir_by l Dir links bytes slots e = refl
dir_by l File links bytes slots e = absurd (no_dir links bytes slots e)

-- what reads as a directory is of that kind
pub dir_kind : (l : Layout) (file : FileNode) (slots : List Slot) → inode_of l file ≡ Some (ADir slots) → file.kind ≡ Dir
dir_kind l file slots e = dir_by l file.kind file.links file.bytes slots e

-- a directory has one list of slots
pub dir_slots : (xs ys : List Slot) → Some (ADir xs) ≡ Some (ADir ys) → xs ≡ ys
dir_slots xs ys e = cc

slots_when : (t : Bool) (o : Option (List Slot)) (slots : List Slot) → when t (option_map ADir o) ≡ Some (ADir slots) → o ≡ Some slots
slots_when true None slots e = absurd (none-some (ADir slots) e)
slots_when true (Some xs) slots e = ap Some (dir_slots xs slots e)
slots_when false o slots e = absurd (none-some (ADir slots) e)

slots_by : (l : Layout) (kind : NodeKind) (links : ℕ) (bytes : List ℕ) (slots : List Slot) → inode_by l kind links bytes ≡ Some (ADir slots) → slots_in l (slots_held l (length bytes)) bytes ≡ Some slots
slots_by l Free links bytes slots e = absurd (none-some (ADir slots) e)
slots_by l Snapshot links bytes slots e = absurd (none-some (ADir slots) e)
slots_by l Dir links bytes slots e = slots_when (links == 1) (slots_in l (slots_held l (length bytes)) bytes) slots e
slots_by l File links bytes slots e = absurd (no_dir links bytes slots e)

-- what reads as a directory has the slots that its bytes are
pub slots_read : (l : Layout) (file : FileNode) (slots : List Slot) → inode_of l file ≡ Some (ADir slots) → length file.bytes ≡ directory_bytes l (length slots) → slots_in l (length slots) file.bytes ≡ Some slots
slots_read l file slots e long =
    ap (λ n. slots_in l n file.bytes) {x = length slots} {y = slots_held l (length file.bytes)} (sym (ap (slots_held l) long ∙ directory_count l (length slots)))
    ∙ slots_by l file.kind file.links file.bytes slots e

no_file : (links : ℕ) (bytes : List ℕ) (t : Bool) (o : Option (List Slot)) → when t (option_map ADir o) ≡ Some (AFile links bytes) → ⊥
no_file links bytes true None e = none-some (AFile links bytes) e
no_file links bytes true (Some slots) e = no_dir links bytes slots (sym e)
no_file links bytes false o e = none-some (AFile links bytes) e

file_by : (la : Layout) (kind : NodeKind) (links l : ℕ) (bytes b : List ℕ) → inode_by la kind links bytes ≡ Some (AFile l b) → kind ≡ File
file_by la Free links l bytes b e = absurd (none-some (AFile l b) e)
file_by la Snapshot links l bytes b e = absurd (none-some (AFile l b) e)
file_by la Dir links l bytes b e = absurd (no_file l b (links == 1) _ e)
file_by la File links l bytes b e = refl

-- and what reads as a file
pub file_kind : (l : Layout) (file : FileNode) (links : ℕ) (bytes : List ℕ) → inode_of l file ≡ Some (AFile links bytes) → file.kind ≡ File
file_kind l file links bytes e = file_by l file.kind file.links links file.bytes bytes e

-- what is known of a node in use is its own
pub facts_are : (o : Option FileNode) (found : Option FileFacts) (facts : FileFacts) → found ≡ option_map facts_of o → found ≡ Some facts → (file : FileNode) × (o ≡ Some file) × (facts ≡ facts_of file)
facts_are None found facts e is = absurd (none-some facts (sym e ∙ is))
facts_are (Some file) found facts e is = (file, refl, same_Some facts (facts_of file) (sym is ∙ e))

-- how many slots an inode has, by the kind and the size of its node
pub counts : (l : Layout) (o : Option FileNode) (x : Inode) (facts : FileFacts) (count : Option ℕ) → option_and_then (inode_of l) o ≡ Some x → ((file : FileNode) × (o ≡ Some file) × (facts ≡ facts_of file))
    → (facts.kind ≡ File → count ≡ None) → (facts.kind ≡ Dir → slots_held l facts.size < 16777216 → count ≡ Some (slots_held l facts.size))
    → ((file : FileNode) (slots : List Slot) → o ≡ Some file → file.kind ≡ Dir → inode_of l file ≡ Some (ADir slots) → length file.bytes ≡ directory_bytes l (length slots))
    → ((file : FileNode) → o ≡ Some file → length file.bytes + 1024 ≤ 1073741824) → count ≡ slot_count x
counts l o (AFile links bytes) facts count e known file dir size fits =
    let r = node_of_inode l o (AFile links bytes) e in
    let same = same_Some r.file known.0 (sym r.is ∙ known.1) in
    file (ap (λ (f : FileFacts). f.kind) known.2 ∙ ap (λ (y : FileNode). y.kind) (sym same) ∙ file_kind l r.file links bytes r.reads)
counts l o (ADir slots) facts count e known file dir size fits =
    let r = node_of_inode l o (ADir slots) e in
    let same = same_Some r.file known.0 (sym r.is ∙ known.1) in
    let kind = dir_kind l r.file slots r.reads in
    let long : facts.size ≡ length r.file.bytes = ap (λ (f : FileFacts). f.size) known.2 ∙ ap (λ (y : FileNode). length y.bytes) (sym same) in
    let whole = size r.file slots r.is kind r.reads in
    let held : slots_held l facts.size ≡ length slots = ap (slots_held l) (long ∙ whole) ∙ directory_count l (length slots) in
    dir (ap (λ (f : FileFacts). f.kind) known.2 ∙ ap (λ (y : FileNode). y.kind) (sym same) ∙ kind) (omega (arith, held, fits r.file r.is, whole, directory_least l (length slots)))
    ∙ ap Some held

-- what holds anyway holds of what is there
pub if_any : {A : Type 0} (o : Option A) (P : Type 0) → P → IfSome o (λ x. P)
if_any None P p = tt
if_any (Some x) P p = p
