-- Blocks that lie in memory, and the room that they show. It is described in docs/FILE-SYSTEM.md.
use Rattle.std.specs.Prelude.{◌≡◌, ℕ, ◌<◌, ◌≤◌, false}
use Rattle.layout_geometry.specs.Geometry.{data_start}
use Rattle.layout_bytes.specs.Bitmap.{is_set}
use Rattle.engine_blocks.specs.State.{State, reusable_blocks}
use Rattle.fs_session.specs.Applying.{is_spent}
use Rattle.fs_session.specs.Commands.{kept_in, places_of}
use Rattle.fs_session.specs.Room.{Room}

-- the room that blocks show
abbrev pub room_of : State → Room
room_of s = record { weight = s.books.running.weight; held = s.books.running.held; takeable = reusable_blocks s.books; places = places_of s; kept = kept_in s }

-- no data block is set in the bitmap
abbrev pub HasNoBlocks : State → Type 0
HasNoBlocks s = (b : ℕ) → data_start s.books.geom ≤ b → b < s.books.geom.n → is_set s.books.geom s.map b ≡ false

-- Blocks that lie in memory: no call fails, nothing waits, and no number is used up.
pub record LieInMemory {S : Type 0} (state : S → State) : Type 0 where
  pub read_faults : (s : S) → (state s).counts.read_faults ≡ 0
  pub faults : (s : S) → (state s).counts.faults ≡ 0
  pub waiting : (s : S) → (state s).books.waiting ≡ 0
  pub going : (s : S) → (state s).books.stopped ≡ false
  pub unspent : (s : S) → is_spent (state s).books ≡ false
