-- What finishing a draft makes of a map of blocks. It is described in docs/FILES.md.
use Rattle.std.specs.Prelude.{◌≡◌, ℕ, ◌+◌, ◌*◌, ◌<◌, ◌≤◌, min, true, IsTrue, not, ◌&&◌, List, length, is_some}
use Rattle.layout_geometry.specs.Geometry.{Geometry, table_start, bitmap_blocks}
use Rattle.layout_bytes.specs.Bitmap.{is_set}
use Rattle.layout_journal.specs.Run.{is_live}
use Rattle.crash_stands.specs.Files.{files_of}
use Rattle.engine_blocks.specs.declared.role.Role.TheVariants.{Changed}
use Rattle.engine_blocks.specs.Running.{has, HasNoBare}
use Rattle.engine_blocks.specs.State.{Bookkeeping, State, live_blocks, after_weigh}
use Rattle.engine_blocks.specs.Calls.{MaySync}
use Rattle.fs_files.specs.Calls.{places_of}
use Rattle.fs_files.specs.Shared.{is_kept}
use Rattle.fs_files.specs.Sound.{AreSoundBeside}
use Rattle.fs_files.specs.Drafts.{DraftState, ChangesSome, change_of, drafted, marks_of}

-- each block that has new bytes, those of new content aside, is one of these
abbrev pub ChangesOnly : List ℕ → DraftState → Type 0
ChangesOnly bs d = (b : ℕ) → is_some (change_of d.changed b) ≡ true → has bs b ≡ true

-- what a commit grows by at most: 25 for each of these blocks, one for each block of new content, and 25 for each block of the bitmap with a bit that changes
abbrev pub price : Geometry → List ℕ → DraftState → ℕ
price g bs d = 25 * length bs + length d.fresh + (25 * min (length d.taken) (bitmap_blocks g) + 25 * min (length d.freed) (bitmap_blocks g))

-- A sync may be called, and where there is a weight, some block of the disk is a payload that wasn't taken by the transaction.
-- Such a block stays a payload until it is taken or freed, and then the block with its bit is one. One that was taken may cease to be a payload, by a put of content.
pub record MayGoOn (k : Bookkeeping) : Type 0 where
  pub may : MaySync k
  pub stays : 0 < k.running.weight → (b : ℕ) × (b < k.geom.n) × (k.running.roles b ≡ Changed)

-- The draft's changes are made, and nothing else of the bookkeeping changed.
pub record BooksFinished (d : DraftState) (old new : Bookkeeping) : Type 0 where
  pub same : new ≡ record old { running = new.running; spare = new.spare; marked = new.marked; reusable = new.reusable }
  pub weight : new.running.weight ≡ old.running.weight
  pub none_bare : HasNoBare new.running
  pub marked : (b : ℕ) → new.marked b ≡ marks_of d old.marked b
  pub reusable : (b : ℕ) → new.reusable b ≡ (not (has d.taken b) && old.reusable b)
  -- a sync may follow once the cost is weighed, if the draft's price is within it, and the draft changed something where there is a cost
  pub sync : MayGoOn old → (bs : List ℕ) (cost : ℕ) → ChangesOnly bs d → price old.geom bs d ≤ cost
      → (0 < cost → ChangesSome d) → MayGoOn (after_weigh new cost)

-- The same of the blocks, where they are known: they are those of the draft, with its files and the blocks of each node, its bits and whole live blocks, and sound beside what is kept if they were.
pub record MapFinished (d : DraftState) (old new : State) : Type 0 where
  pub blocks : (b : ℕ) → table_start old.books.geom ≤ b → b < old.books.geom.n → new.map b ≡ drafted d old.map b
  pub files : (k : ℕ) → files_of old.books.geom new.map k ≡ files_of old.books.geom (drafted d old.map) k
  pub places : (k : ℕ) → places_of old.books.geom new.map k ≡ places_of old.books.geom (drafted d old.map) k
  pub bits : (b : ℕ) → b < 8192 * bitmap_blocks old.books.geom → is_set old.books.geom new.map b ≡ marks_of d (is_set old.books.geom old.map) b
  pub whole : (b : ℕ) → IsTrue (is_live old.books.geom new.map b) → length (new.map b) ≡ 1024
  pub sound : AreSoundBeside old.books.geom (is_kept d.kept) old.map → AreSoundBeside old.books.geom (is_kept d.kept) new.map
  pub live : length (live_blocks new.books) + length d.freed ≡ length (live_blocks old.books) + length d.taken
  pub held : new.books.running.held ≡ old.books.running.held + length d.freed
