-- Blocks as they are now and as they were at each point.
use Rattle.std.specs.Prelude.{◌≡◌, ℕ, ◌-◌, ◌<◌, ◌≤◌, List, [], ◌∷◌, length, map, drop, slice_set, slice_index, slice_index_or}
use Rattle.engine_blocks.specs.declared.history.Saved.{Saved}

-- the blocks before these changes, of which the newest is the last
abbrev pub undone : List Saved → List (List ℕ) → List (List ℕ)
undone [] now = now
undone (s ∷ ss) now = slice_set (undone ss now) s.block s.bytes

-- the blocks at each point, by how many changes came before it
abbrev pub points_of : List Saved → List (List ℕ) → List ℕ → List (List (List ℕ))
points_of saved now starts = map (λ start. undone (drop start saved) now) starts

pub record HistoryState : Type 0 where
  pub now : List (List ℕ)
  pub points : List (List (List ℕ))
  -- how many changes may be made
  pub room : ℕ

-- the entry before place i is of block b
pub record IsSavedAt (saved : List Saved) (i b : ℕ) : Type 0 where
  pub within : i ≤ length saved
  pub block : (d : Saved) → (slice_index_or saved (i - 1) d).block ≡ b

-- a block whose place is past `last` was saved since then
pub record AreSaved (saved : List Saved) (last : ℕ) (places : List ℕ) : Type 0 where
  pub last_in : last ≤ length saved
  pub since : (b : ℕ) → last < slice_index places b → IsSavedAt saved (slice_index places b) b

-- each of these numbers is at most the last one
abbrev pub AreUpTo : ℕ → List ℕ → Type 0
AreUpTo last starts = (p : ℕ) → p < length starts → slice_index starts p ≤ last

-- there is a point, none lies behind `last`, and each block has a place
pub record IsHistory (now : List (List ℕ)) (saved : List Saved) (starts : List ℕ) (last : ℕ) (places : List ℕ) : Type 0 where
  pub some : 0 < length starts
  pub behind : AreUpTo last starts
  pub saves : AreSaved saved last places
  pub size : length places ≡ length now
