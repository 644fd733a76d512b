-- What making the changes of a command's draft leaves of a map of blocks, and when they aren't made. It is described in docs/SPACE.md.
use Rattle.std.specs.Prelude.{◌≡◌, ◌⊎◌, ℕ, ◌+◌, ◌<◌, ◌≤◌, Bool, IsTrue, not, ◌&&◌, List, length, take}
use Rattle.layout_geometry.specs.Geometry.{Geometry}
use Rattle.lang_tree.specs.declared.command.Refusal.{Refusal}
use Rattle.lang_tree.specs.declared.command.Refusal.TheVariants.{TooBig, NoMemory}
use Rattle.lang_tree.specs.Sharing.{SharedNodes}
use Rattle.engine_blocks.specs.Running.{has}
use Rattle.engine_blocks.specs.State.{Bookkeeping, State}
use Rattle.fs_files.specs.Drafts.{DraftState, ChangesSome, marks_of}
use Rattle.fs_files.specs.Finish.{ChangesOnly, MapFinished, price}
use Rattle.fs_session.specs.Space.{ArePlaced}

-- The draft's changes are made and the command's cost is weighed. Nothing else of the bookkeeping changed.
pub record IsCarriedOut (tells : Bool) (d : DraftState) (cost : ℕ) (old new : State) : Type 0 where
  pub same : new.books ≡ record old.books { running = new.books.running; spare = new.books.spare; marked = new.books.marked; reusable = new.books.reusable }
  pub weight : new.books.running.weight ≡ old.books.running.weight + cost
  pub marked : (b : ℕ) → new.books.marked b ≡ marks_of d old.books.marked b
  pub reusable : (b : ℕ) → new.books.reusable b ≡ (not (has d.taken b) && old.books.reusable b)
  pub map : IsTrue tells → MapFinished d old new

-- Nothing changed but what is made ready.
pub record KeepsBlocks (tells : Bool) (old new : State) : Type 0 where
  pub books : new.books ≡ record old.books { spare = new.books.spare }
  pub map : IsTrue tells → new.map ≡ old.map

-- the draft's price is within the cost, and it changes some block where there is a cost
pub record IsWithinCost (g : Geometry) (d : DraftState) (cost : ℕ) : Type 0 where
  pub blocks : List ℕ
  pub only : ChangesOnly blocks d
  pub price : price g blocks d ≤ cost
  pub some : 0 < cost → ChangesSome d

-- It is refused as the draft isn't within the cost.
pub record IsPastCost (k : Bookkeeping) (d : DraftState) (cost : ℕ) (why : Refusal) : Type 0 where
  pub is : why ≡ TooBig k.running.weight cost k.room
  pub past : IsWithinCost k.geom d cost → ⊥

-- why the changes weren't made
abbrev pub ChangeRefused : Bookkeeping → DraftState → ℕ → Refusal → Type 0
ChangeRefused k d cost why = (why ≡ NoMemory) ⊎ IsPastCost k d cost why

-- The draft changes some block, and no more than so many, puts new content into so many more at most, and takes and frees so many at most.
pub record ChangesAtMost (d : DraftState) (changed fresh taken freed : ℕ) : Type 0 where
  pub blocks : List ℕ
  pub only : ChangesOnly blocks d
  pub few_changed : length blocks ≤ changed
  pub few_fresh : length d.fresh ≤ fresh
  pub few_taken : length d.taken ≤ taken
  pub few_freed : length d.freed ≤ freed
  pub some : ChangesSome d

-- The draft takes the first of these blocks, as many as are needed, and frees so many. Of what the nodes had and have, each has the first of its own, or all of its own and behind them those taken, of which the first stand where places are renewed.
pub record Uses (need freed : ℕ) (spare : List ℕ) (renewed : SharedNodes) (old new : ℕ → List ℕ) (d : DraftState) : Type 0 where
  pub taken : d.taken ≡ take need spare
  pub freed_are : length d.freed ≡ freed
  pub placed : ArePlaced renewed old new (take need spare)
