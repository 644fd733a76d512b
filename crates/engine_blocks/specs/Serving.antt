-- When the data blocks that a transaction freed may be taken again. It is described in docs/BLOCKS.md.
use Rattle.std.specs.Prelude.{◌≡◌, ◌↔◌, ◌⊎◌, ℕ, ◌<◌, Bool, true, false, nat_le, nat_lt, not, ◌&&◌, ◌||◌, is_some, Some, None, []}
use Rattle.disk_contract.specs.Cell.{cell_of}
use Rattle.layout_geometry.specs.Geometry.{data_start}
use Rattle.engine_blocks.specs.State.{Bookkeeping, State}
use Rattle.engine_blocks.specs.Puts.{IsData}
use Rattle.engine_blocks.specs.Effects.{FitsRing}

-- the transaction freed the block: it isn't marked, may not be taken, and doesn't wait
abbrev pub is_held : Bookkeeping → ℕ → Bool
is_held k b = nat_le (data_start k.geom) b && (nat_lt b k.geom.n && not (k.marked b || (k.reusable b || is_some (k.since b))))

-- the point is sure now
abbrev pub is_sure_in : State → ℕ → Type 0
is_sure_in s p = s.crash.sure s.crash.log p

-- nothing is pending on the block now
abbrev pub rests_in : State → ℕ → Type 0
rests_in s b = (cell_of s.crash.base s.crash.log b).pending ≡ []

-- Of the blocks that waited just those may be taken whose point is sure and on which nothing is pending. The others wait on, and what may be taken else is as before.
pub record ServesSure (old new : State) : Type 0 where
  pub serves : (b p : ℕ) → IsData old.books.geom b → old.books.since b ≡ Some p → (new.books.reusable b ≡ true) ↔ (is_sure_in new p × rests_in new b)
  pub others : (b : ℕ) → IsData old.books.geom b → old.books.since b ≡ None → new.books.reusable b ≡ old.books.reusable b
  pub serving : (b : ℕ) → IsData old.books.geom b → new.books.reusable b ≡ true → new.books.since b ≡ None
  pub waiting : (b : ℕ) → IsData old.books.geom b → new.books.reusable b ≡ false → new.books.since b ≡ old.books.since b

-- the bookkeeping where all that waited may be taken
abbrev pub with_all_served : Bookkeeping → Bookkeeping
with_all_served k = record k { reusable = λ b. k.reusable b || is_some (k.since b); since = λ b. None }

-- the same blocks may be taken, and the same ones wait
pub record SameFreed (k : Bookkeeping) (new : Bookkeeping) : Type 0 where
  pub reusable : (b : ℕ) → IsData k.geom b → new.reusable b ≡ k.reusable b
  pub since : (b : ℕ) → IsData k.geom b → new.since b ≡ k.since b

-- A block that the transaction freed waits for the last point, or may be taken at once where that point is sure.
abbrev pub Waits : State → ℕ → Type 0
Waits new b = ((new.books.reusable b ≡ false) × (new.books.since b ≡ Some new.books.point)) ⊎ (is_sure_in new new.books.point × (new.books.reusable b ≡ true) × (new.books.since b ≡ None))

-- So it is of each block that was held by this bookkeeping, and of all others the same is known.
pub record LetsGo (k : Bookkeeping) (new : State) : Type 0 where
  pub held : (b : ℕ) → is_held k b ≡ true → Waits new b
  pub reusable : (b : ℕ) → IsData k.geom b → is_held k b ≡ false → new.books.reusable b ≡ k.reusable b
  pub since : (b : ℕ) → IsData k.geom b → is_held k b ≡ false → new.books.since b ≡ k.since b

-- After a sync that is done: with nothing to commit the same blocks wait. Else those that the transaction freed wait for the new point; where its record didn't fit the free ring places, all others serve again.
pub record EndsFrees (old new : State) : Type 0 where
  pub idle : old.books.running.weight ≡ 0 → SameFreed old.books new.books
  pub fits : 0 < old.books.running.weight → FitsRing old.books → LetsGo old.books new
  pub drains : 0 < old.books.running.weight → (FitsRing old.books → ⊥) → LetsGo (with_all_served old.books) new
