-- Looks, one behind the other: what may be read still may, and reads as before.
use Rattle.std.proofs.Common.{◌≡◌, ℕ, Bool, IsTrue, All, Option, None, Some, IfNone, IfSome, sym, subst, ap, ap₂, ◌∙◌}
use Rattle.base_types.specs.declared.layout.Layout.{Layout}
use Rattle.engine_blocks.specs.State.{Bookkeeping, State}
use Rattle.engine_blocks.specs.Puts.{IsData}
use Rattle.crash_stands.specs.Files.{Files}
use Rattle.crash_stands.specs.Inodes.{Inodes, inodes_of}
use Rattle.crash_stands.specs.Maps.{IsMapOf}
use Rattle.lang_tree.specs.Tree.{Tree}
use Rattle.fs_files.specs.Asks.{MayRead}
use Rattle.fs_files.specs.Calls.{files_in, places_in}
use Rattle.fs_files.specs.Drafts.{DraftState}
use Rattle.fs_files.specs.Effects.{LooksOnly}
use Rattle.fs_files.specs.NodeMaps.{NodeMap, same_nodes}
use Rattle.fs_dirs.specs.declared.lookup.Directory.{Directory}
use Rattle.fs_dirs.specs.Directories.{inodes_in, IsNumber}
use Rattle.fs_dirs.specs.Reading.{IsOpened}
pub use Rattle.fs_files.specs.NodeMaps.{draft_stays}
pub use Rattle.fs_files.specs.Places.{looks_more, looks_none}

-- what holds of what was found
pub of_found : {A : Type 0} (P : A → Type 0) (o : Option A) (x : A) → o ≡ Some x → IfSome o P → P x
of_found {A} P o x is h = subst (λ (o : Option A). IfSome o P) is h

-- what holds where nothing was
pub of_none : {A P : Type 0} (o : Option A) → o ≡ None → IfNone o P → P
of_none {A} {P} o is h = subst (λ (o : Option A). IfNone o P) is h

module _ (tells failed : Bool) (s t : State) (k : LooksOnly tells failed s t) where
  pub same_layout : t.books.geom.layout ≡ s.books.geom.layout
  same_layout = ap (λ (b : Bookkeeping). b.geom.layout) k.books

  -- nodes that are the same have the same inodes
  pub same_read : (v w : NodeMap) → w ≡ v → inodes_of t.books.geom.layout w.files ≡ inodes_of s.books.geom.layout v.files
  same_read v w same = ap₂ (λ (l : Layout) (x : NodeMap). inodes_of l x.files) same_layout same

  -- the inodes are the map of the same tree
  pub same_map : (m n : Inodes) (tree : Tree) → n ≡ m → IsMapOf s.books.geom.i m tree → IsMapOf t.books.geom.i n tree
  same_map m n tree same h = subst (λ (b : Bookkeeping). IsMapOf b.geom.i n tree) (sym k.books) (subst (λ m. IsMapOf s.books.geom.i m tree) (sym same) h)

  -- the nodes may be read still
  pub read_stays : (P Q : Type 0) → (P → Q) → MayRead P s → MayRead Q t
  read_stays P Q on h = record { going = ap (λ (b : Bookkeeping). b.stopped) k.books ∙ h.going; may = on h.may }

  -- and a directory that was read is as it was read
  pub opened_stays : (v w : NodeMap) (dir : Directory) → (IsTrue tells → w ≡ v) → IsOpened tells s v dir → IsOpened tells t w dir
  opened_stays v w dir same h = record {
    number = subst (λ (b : Bookkeeping). IsNumber b.geom.i dir.number) (sym k.books) h.number;
    count = λ told x is. h.count told x (ap (λ m. m dir.number) (sym (same_read v w (same told))) ∙ is);
    few = h.few;
    blocks = λ told. h.blocks told ∙ ap (λ (x : NodeMap). x.places dir.number) (sym (same told));
    inside = subst (λ (b : Bookkeeping). All (IsData b.geom) dir.blocks) (sym k.books) h.inside;
  }

-- The same of a draft.

module _ (tells failed : Bool) (s t : State) (d : DraftState) (k : LooksOnly tells failed s t) where
  -- the files are as before
  pub same_files : IsTrue tells → files_in t d ≡ files_in s d
  same_files told = ap (λ (v : NodeMap). v.files) (same_nodes tells failed s t d k told)

  -- and so are the inodes
  pub same_inodes : IsTrue tells → inodes_in t d ≡ inodes_in s d
  same_inodes told = ap₂ (λ (l : Layout) (f : Files). inodes_of l f) (ap (λ (b : Bookkeeping). b.geom.layout) k.books) (same_files told)

  -- and the blocks of each node
  pub same_places : (n : ℕ) → IsTrue tells → places_in t d n ≡ places_in s d n
  same_places n told = ap (λ (v : NodeMap). v.places n) (same_nodes tells failed s t d k told)
