-- What a path leads to, from the number that a walk comes to and what is known of the node. Looks come one behind the other.
use Rattle.std.proofs.Common.{◌≡◌, ℕ, Bool, false, IsTrue, List, Option, None, Some, Result, Ok, Err, IfOk, option_map, option_and_then, sym, subst, ap, ap₂, ◌∙◌, arith}
use Rattle.base_types.specs.declared.layout.Layout.{Layout}
use Rattle.std.proofs.lemmas.Option.{none-some}
use Rattle.base_types.specs.Seal.{Blocks}
use Rattle.layout_geometry.specs.Geometry.{Geometry}
use Rattle.engine_blocks.specs.State.{Bookkeeping, State}
use Rattle.lang_tree.specs.declared.command.Refusal.{Refusal}
use Rattle.lang_tree.specs.Tree.{Tree}
use Rattle.crash_stands.specs.Files.{FileNode, Files, files_of}
use Rattle.crash_stands.specs.Inodes.{Inode, inode_of, inodes_of}
use Rattle.crash_stands.specs.Maps.{IsMapOf}
use Rattle.fs_files.specs.Calls.{facts_of, files_in}
use Rattle.fs_files.specs.Drafts.{DraftState, begun_beside, nothing_drafted, drafted}
use Rattle.fs_files.specs.Effects.{LooksAndSettles, LooksOnly}
use Rattle.fs_files.specs.Sound.{IsDraftOf}
use Rattle.fs_dirs.specs.Directories.{IsNumber}
use Rattle.fs_files.specs.declared.refusal.FileRefusal.{FileRefusal}
use Rattle.fs_session.specs.declared.unused.NodeUse.{NodeUse}
use Rattle.fs_commands.specs.declared.paths.NodeFound.{NodeFound}
use Rattle.fs_commands.specs.Looks.{LeadsToFound}
use Rattle.fs_session.specs.Sessions.{KeepsUsed, MayBegin}
use Rattle.fs_files.specs.Asks.{MayLook, MayLookAt, MayRead}
use Rattle.crash_stands.specs.Stands.{IsTreeOf}
pub use Rattle.fs_files.specs.NodeMaps.{draft_stays}
pub use Rattle.fs_files.specs.Places.{looks_more}
use Rattle.fs_files.specs.NodeMaps.{NodeMap, same_nodes}

-- the files of a draft are as before
pub same_files : (tells failed : Bool) (s t : State) (d : DraftState) → LooksOnly tells failed s t → IsTrue tells → files_in t d ≡ files_in s d
same_files tells failed s t d looks told = ap (λ (v : NodeMap). v.files) (same_nodes tells failed s t d looks told)

-- so they are where the pipeline may have settled
pub settled_files : (tells read_failed failed : Bool) (s t : State) → LooksAndSettles tells read_failed failed s t → IsTrue tells → files_in t nothing_drafted ≡ files_in s nothing_drafted
settled_files tells read_failed failed s t h told = ap₂ (λ (g : Geometry) (m : Blocks). files_of g (drafted nothing_drafted m)) h.pipeline.geom (h.map told)

-- what a draft makes of the nodes in use, it makes of those of other blocks with the same files
pub uses_of : (nodes : NodeUse) (s t : State) (d : DraftState) → files_in t nothing_drafted ≡ files_in s nothing_drafted → KeepsUsed nodes (files_in s nothing_drafted) (files_in t d) → KeepsUsed nodes (files_of t.books.geom t.map) (files_in t d)
uses_of nodes s t d same h = subst (λ (files : Files). KeepsUsed nodes files (files_in t d)) (sym same) h

-- a node that reads as an inode is in use
pub is_used : (lay : Layout) (o : Option FileNode) (x : Inode) → option_and_then (inode_of lay) o ≡ Some x → None ≡ option_map facts_of o → ⊥
is_used lay None x e none = none-some x e
is_used lay (Some file) x e none = none-some (facts_of file) none

-- after looks an empty draft has the files that it had
pub files_stay : {counts : List ℕ} (tells : Bool) (s t : State) (d : DraftState) → d ≡ begun_beside counts → IsTrue tells → LooksOnly tells false s t → files_in t d ≡ files_in s nothing_drafted
files_stay tells s t d none told looks = same_files tells false s t d looks told ∙ ap (files_in s) none

-- how a draft begins
abbrev pub BeginsDraft : Bool → State → Type 0
BeginsDraft tells s = (counts : List ℕ) → MayBegin tells s counts → IsDraftOf tells s (begun_beside counts)

-- a node may be looked at in a draft that began, also behind reads
pub draft_begun : {counts : List ℕ} (tells : Bool) (s : State) (d : DraftState) → d ≡ begun_beside counts → MayBegin tells s counts → BeginsDraft tells s → IsDraftOf tells s d
draft_begun {counts} tells s d none may law = subst (IsDraftOf tells s) (sym none) (law counts may)

pub look_begins : {counts : List ℕ} (tells : Bool) (s : State) (d : DraftState) (k : ℕ) → d ≡ begun_beside counts → MayBegin tells s counts → IsNumber s.books.geom.i k → BeginsDraft tells s → MayLook tells s d k
look_begins tells s d k none may number law = record { going = may.going; from = number.from; upto = number.upto; may = draft_begun tells s d none may law }

-- what a look in an empty draft finds, it finds in the blocks as they are
pub found_begun : {counts : List ℕ} (s : State) (d : DraftState) (path : List (List ℕ)) (r : Result (Result NodeFound Refusal) FileRefusal) → d ≡ begun_beside counts
    → ((t : Tree) → IsTreeOf s.books.geom s.map t → IsMapOf s.books.geom.i (inodes_of s.books.geom.layout (files_of s.books.geom s.map)) t)
    → IfOk r (λ found. (t : Tree) → IsMapOf s.books.geom.i (inodes_of s.books.geom.layout (files_in s d)) t → LeadsToFound s.books.geom.layout (files_in s d) path found)
    → IfOk r (λ found. (t : Tree) → IsTreeOf s.books.geom s.map t → LeadsToFound s.books.geom.layout (files_in s nothing_drafted) path found)
found_begun s d path (Ok found) none map h = λ t stands. subst (λ e. IsMapOf s.books.geom.i (inodes_of s.books.geom.layout (files_in s e)) t → LeadsToFound s.books.geom.layout (files_in s e) path found) none (h t) (map t stands)
found_begun s d path (Err why) none map h = tt

pub there_begun : {counts : List ℕ} (s : State) (d : DraftState) (r : Result (Result NodeFound Refusal) FileRefusal) → d ≡ begun_beside counts
    → IfOk r (λ found. IfOk found (λ f. (x : FileNode) × (files_in s d f.number ≡ Some x) × (f.facts ≡ facts_of x)))
    → IfOk r (λ found. IfOk found (λ f. (x : FileNode) × (files_in s nothing_drafted f.number ≡ Some x) × (f.facts ≡ facts_of x)))
there_begun s d r none h = subst (λ e. IfOk r (λ found. IfOk found (λ f. (x : FileNode) × (files_in s e f.number ≡ Some x) × (f.facts ≡ facts_of x)))) none h

-- a number of the table may be looked at behind reads
pub look_stays : (tells : Bool) (s t : State) → LooksOnly tells false s t → (P Q : Type 0) (k : ℕ) → (P → Q) → MayRead P s → IsNumber s.books.geom.i k → MayLookAt Q t k
look_stays tells s t looks P Q k on may number = record {
  going = ap (λ (b : Bookkeeping). b.stopped) looks.books ∙ may.going;
  from = number.from;
  upto = omega (arith, number.upto, ap (λ (b : Bookkeeping). b.geom.i) looks.books);
  may = on may.may;
}

-- what holds of the disk's layout and nodes holds of them behind looks
pub over_same : (tells : Bool) (s t : State) → LooksOnly tells false s t → IsTrue tells → (P : Layout → Files → Type 0) → P s.books.geom.layout (files_in s nothing_drafted) → P t.books.geom.layout (files_in t nothing_drafted)
over_same tells s t looks told P holds =
    subst (λ (k : Bookkeeping). P k.geom.layout (files_in t nothing_drafted)) (sym looks.books)
    (subst (λ (files : Files). P s.books.geom.layout files) (sym (same_files tells false s t nothing_drafted looks told)) holds)
