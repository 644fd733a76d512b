-- The store's parts, its bookkeeping by them, and what is kept of their numbers over any disk. It is described in docs/STORE.md.
use Rattle.std.specs.Prelude.{◌≡◌, ℕ, ◌+◌, ◌-◌, ◌≤◌, ◌==◌, max, false, if◌then◌else◌, List, [], ◌∷◌, Option, None, Some, option_map}
use Rattle.engine_reuse.specs.Dead.{AreSound, block_of, freed_by}
use Rattle.engine_checkpoint.specs.Agree.{durable_count}
use Rattle.engine_checkpoint.specs.Advance.{IsSound, Moves, writes_owed}
use Rattle.engine_blocks.specs.Running.{nothing_running}
use Rattle.engine_blocks.specs.State.{Bookkeeping}
use Rattle.engine_books.specs.Books.{with_books}
use Rattle.engine_books.specs.Kept.{AreKept}
use Rattle.engine_books.specs.Sealing.{nothing_spare}
use Rattle.engine_store.specs.declared.parts.StoreParts.{StoreParts}

-- the record that a block waits for, if it waits
abbrev pub waits_for : List (ℕ × ℕ) → ℕ → Option ℕ
waits_for [] b = None
waits_for (p ∷ ps) b = if block_of p == b then Some (freed_by p) else waits_for ps b

-- the point that this record made, where the first one has this number
abbrev pub point_of : ℕ → ℕ → ℕ
point_of first number = number + 1 - first

-- the bookkeeping but for what the books have of it: of that it has nothing but which point a block waits for
abbrev pub beside_books : StoreParts → Bookkeeping
beside_books v = record {
  geom = v.ring.geom;
  running = nothing_running;
  spare = nothing_spare;
  marked = λ b. false;
  reusable = λ b. false;
  waiting = 0;
  since = λ b. option_map (point_of v.first) (waits_for v.books.dead.waiting b);
  area = 0;
  room = 0;
  free_places = v.ring.geom.j - v.ring.taken;
  turns = max v.pipeline.written.turn (v.pipeline.last + 1);
  owed = writes_owed v.pipeline;
  point = v.point;
  floor = v.floor;
  stopped = v.stopped;
}

-- the bookkeeping by all parts
abbrev pub bookkeeping_of : StoreParts → Bookkeeping
bookkeeping_of v = with_books (beside_books v) v.books

-- the last point whose record is known to be durable, or 0
abbrev pub durable_point : StoreParts → ℕ
durable_point v = v.pipeline.header.start + durable_count v.pipeline - 1 + 1 - v.first

-- While no call of the disk failed, pipeline, ring and dead blocks are sound, the next record's number is the next point's, the session's first one isn't behind what is sure by more than one, and the floor is the last point that is known to be durable.
pub record IsGoing (v : StoreParts) : Type 0 where
  pub sound : IsSound v.pipeline v.ring v.books.dead
  pub number : v.first + v.point ≡ v.pipeline.last + 1
  pub first : v.first ≤ v.pipeline.header.sure + 1
  pub floor : v.first + v.floor ≡ v.pipeline.header.start + durable_count v.pipeline

-- Always the books are kept, the parts have one geometry, and the floor isn't above the last point.
pub record StoreIsSound (v : StoreParts) : Type 0 where
  pub kept : AreKept v.books
  pub ring_geom : v.ring.geom ≡ v.books.geom
  pub pipeline_geom : v.pipeline.geom ≡ v.books.geom
  pub floor : v.floor ≤ v.point
  pub going : v.stopped ≡ false → IsGoing v

-- A call moved the pipeline on, by so many headers at most: of the books only the dead blocks may be new, which are sound, and no point has come.
pub record PartsMove (headers : ℕ) (v w : StoreParts) : Type 0 where
  pub moves : Moves headers v.pipeline w.pipeline v.ring w.ring v.books.dead w.books.dead
  pub books : w.books ≡ record v.books { dead = w.books.dead }
  pub dead : AreSound w.books.dead
  pub cache : w.cache ≡ v.cache
  pub mounted : w.mounted ≡ v.mounted
  pub first : w.first ≡ v.first
  pub point : w.point ≡ v.point
