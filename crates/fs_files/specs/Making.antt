-- The changes of a draft while they are made: several puts, and several frees, and what they leave.
use Rattle.std.specs.Prelude.{◌≡◌, ℕ, ◌*◌, ◌<◌, ◌≤◌, Bool, true, false, IsTrue, if◌then◌else◌, List, [], ◌∷◌}
use Rattle.base_types.specs.Seal.{Blocks}
use Rattle.base_types.specs.declared.words.Class.{Class}
use Rattle.base_types.specs.declared.words.Class.TheVariants.{Content}
use Rattle.layout_geometry.specs.Geometry.{Geometry, bitmap_blocks, table_start}
use Rattle.layout_bytes.specs.Bitmap.{is_set}
use Rattle.engine_blocks.specs.Running.{has}
use Rattle.engine_blocks.specs.State.{Bookkeeping, State, after_put, after_take}
use Rattle.engine_blocks.specs.Effects.{LeavesDisk}
use Rattle.engine_blocks.specs.Puts.{after_frees}
use Rattle.fs_files.specs.declared.changes.Changed.{Changed}
use Rattle.fs_files.specs.Drafts.{DraftState, change_of, bytes_or, drafted, marks_of}

-- the class as which new bytes are put: all new content is put as content
abbrev pub put_class : Bool → Class → Class
put_class fresh class = if fresh then Content else class

-- the bookkeeping after these were put, new content or not
abbrev pub after_changes : Bookkeeping → Bool → List (ℕ × Changed) → Bookkeeping
after_changes k fresh [] = k
after_changes k fresh (c ∷ cs) = after_changes (after_put k c.0 (put_class fresh c.1.class)) fresh cs

-- the bookkeeping after the changes of a draft were made
abbrev pub after_draft : Bookkeeping → DraftState → Bookkeeping
after_draft k d = after_frees (after_changes (after_changes (after_take k d.taken) true d.fresh) false d.changed) d.freed

-- a block of the node table or the data
pub record IsTableOrData (g : Geometry) (b : ℕ) : Type 0 where
  pub from : table_start g ≤ b
  pub below : b < g.n

-- each of these was put: the blocks before the table are as before
pub record HasPut (tells fresh : Bool) (cs : List (ℕ × Changed)) (old new : State) : Type 0 where
  pub books : new.books ≡ after_changes old.books fresh cs
  pub map : IsTrue tells → (b : ℕ) → new.map b ≡ bytes_or (old.map b) (change_of cs b)
  pub before : IsTrue tells → (b : ℕ) → b < table_start old.books.geom → new.map b ≡ old.map b
  pub disk : LeavesDisk tells old new

-- these blocks have nothing and their bits are clear, and nothing else of the node table, the data and the bits is new
pub record AreFreed (g : Geometry) (old new : Blocks) (bs : List ℕ) : Type 0 where
  pub lies : (b : ℕ) → table_start g ≤ b → new b ≡ (if has bs b then [] else old b)
  pub bits : (b : ℕ) → b < 8192 * bitmap_blocks g → is_set g new b ≡ (if has bs b then false else is_set g old b)

-- each of these was freed
pub record HasFreed (tells : Bool) (bs : List ℕ) (old new : State) : Type 0 where
  pub books : new.books ≡ after_frees old.books bs
  pub map : IsTrue tells → AreFreed old.books.geom old.map new.map bs
  pub disk : LeavesDisk tells old new

-- the node table and the data are those of the draft, and so are the bits
pub record AreDrafted (g : Geometry) (d : DraftState) (old new : Blocks) : Type 0 where
  pub lies : (b : ℕ) → table_start g ≤ b → new b ≡ drafted d old b
  pub bits : (b : ℕ) → b < 8192 * bitmap_blocks g → is_set g new b ≡ marks_of d (is_set g old) b

-- all changes of the draft were made
pub record HasMade (tells : Bool) (d : DraftState) (old new : State) : Type 0 where
  pub books : new.books ≡ after_draft old.books d
  pub map : IsTrue tells → AreDrafted old.books.geom d old.map new.map
  pub disk : LeavesDisk tells old new
