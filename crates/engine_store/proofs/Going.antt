-- The store's numbers over any disk: its bookkeeping is sound, and its parts stay so as the pipeline moves.
use Rattle.std.proofs.Common.{◌≡◌, ℕ, ◌+◌, ◌≤◌, true, false, length, ◌++◌, map, length-append, sym, ◌∙◌, ap, subst, arith}
use Rattle.std.proofs.lemmas.Bool.{false≢true}
use Rattle.std.proofs.lemmas.List.{length-map}
use Rattle.layout_geometry.specs.Geometry.{Geometry}
use Rattle.engine_reuse.specs.Dead.{DeadBlocks, AreSound}
use Rattle.engine_checkpoint.specs.Agree.{durable_count}
use Rattle.engine_checkpoint.specs.Kept.{kept, of_committed, of_durable, of_sure, number_of, placed_number}
use Rattle.engine_checkpoint.specs.Advance as pipeline
use Rattle.engine_checkpoint.specs.declared.pipeline.Pipeline.{Pipeline}
use Rattle.engine_checkpoint.specs.Order.{IsInOrder}
use Rattle.engine_blocks.specs.State.{Bookkeeping}
use Rattle.engine_blocks.specs.Calls.{HasTurns, IsSound, MovesPipeline}
use Rattle.engine_books.specs.Books.{TransactionBooks, running_of, is_marked, with_books}
use Rattle.engine_books.specs.Kept.{AreKept}
use Rattle.engine_books.specs.Sealing.{SameDead}
use Rattle.engine_store.specs.declared.parts.StoreParts.{StoreParts}
use Rattle.engine_store.specs.Store.{StoreIsSound, IsGoing, PartsMove, beside_books, bookkeeping_of, durable_point}

-- The bookkeeping.

abbrev pub SoundLaw : Type 0
SoundLaw = (k : Bookkeeping) (v : TransactionBooks) → AreKept v → k.floor ≤ k.point → k.free_places ≤ v.geom.j → IsSound (with_books k v)

pub books_sound : SoundLaw → (v : StoreParts) → StoreIsSound v → IsSound (bookkeeping_of v)
books_sound law v s = law (beside_books v) v.books s.kept s.floor (omega (arith, ap (λ (g : Geometry). g.j) s.ring_geom))

pub turns_enough : (v : StoreParts) → HasTurns (bookkeeping_of v) → pipeline.HasTurns v.pipeline
turns_enough v h = record { turn = omega (arith, h); last = omega (arith, h) }

-- The pipeline moves.

abbrev pub DeadLaw : Type 0
DeadLaw = (v : TransactionBooks) (dead : DeadBlocks) → AreKept v → AreSound dead → SameDead v.dead dead → AreKept (record v { dead = dead })

pub kept_moved : DeadLaw → (v w : StoreParts) (headers : ℕ) → PartsMove headers v w → AreKept v.books → AreKept w.books
kept_moved law v w headers m k = subst AreKept (sym m.books) (law v.books w.books.dead k m.dead (record { geom = m.moves.dead_geom; dead = m.moves.all_dead; held = m.moves.held; room = m.moves.room }))

pub books_move : (v w : StoreParts) (headers : ℕ) → headers ≤ 4 → PartsMove headers v w → v.floor ≤ w.floor → MovesPipeline (bookkeeping_of v) (bookkeeping_of w)
books_move v w headers few m rises = record {
  geom = ap (λ (x : TransactionBooks). x.geom) m.books;
  running = ap running_of m.books ∙ ap (λ l. record (running_of v.books) { held = length l }) m.moves.held;
  spare = ap (λ (x : TransactionBooks). x.spare) m.books;
  marked = ap is_marked m.books;
  reusable = λ b r. m.moves.reusable b r.free;
  waiting = m.moves.waiting;
  area = ap (λ (x : TransactionBooks). (with_books (beside_books v) x).area) m.books;
  room = ap (λ (x : TransactionBooks). (with_books (beside_books v) x).room) m.books;
  free_places = omega (arith, ap (λ (g : Geometry). g.j) m.moves.ring_geom, m.moves.taken);
  turns = omega (arith, m.moves.turn, few, m.moves.last);
  point = m.point;
  floor = rises;
}

-- The parts stay sound.

-- the floor taken anew is the last point that is known to be durable, and isn't below the old one
floor_is : (v w : StoreParts) (headers : ℕ) → IsGoing v → PartsMove headers v w → w.floor ≡ durable_point w → IsInOrder v.pipeline → w.first + w.floor ≡ w.pipeline.header.start + durable_count w.pipeline
floor_is v w headers g m is o = omega (arith, g.floor, m.moves.durable, m.first, is, o.sure)

pub floor_rises : (v w : StoreParts) (headers : ℕ) → StoreIsSound v → v.stopped ≡ false → PartsMove headers v w → w.floor ≡ durable_point w → v.floor ≤ w.floor
floor_rises v w headers s going m is = omega (arith, (s.going going).floor, floor_is v w headers (s.going going) m is (s.going going).sound.order, m.moves.durable, m.first)

-- no more records are durable than there are
pub durable_few : (v : Pipeline) → IsInOrder v → v.header.start + durable_count v ≤ v.last + 1
durable_few v o = omega (
  arith,
  o.last,
  length-append (map placed_number v.placed.items) (map number_of (kept v)),
  length-map v.placed.items placed_number,
  length-map (kept v) number_of,
  length-append (map of_sure v.sure.items) (map of_durable v.durable.items ++ map of_committed v.committed.items),
  length-append (map of_durable v.durable.items) (map of_committed v.committed.items),
  length-map v.sure.items of_sure,
  length-map v.durable.items of_durable,
)

pub goes_on : DeadLaw → (v w : StoreParts) (headers : ℕ) → StoreIsSound v → v.stopped ≡ false → PartsMove headers v w → pipeline.IsSound w.pipeline w.ring w.books.dead → w.floor ≡ durable_point w → StoreIsSound w
goes_on law v w headers s going m sound is = record {
  kept = kept_moved law v w headers m s.kept;
  ring_geom = m.moves.ring_geom ∙ s.ring_geom ∙ sym books_geom;
  pipeline_geom = m.moves.geom ∙ s.pipeline_geom ∙ sym books_geom;
  floor = omega (arith, floor, number, durable_few w.pipeline sound.order);
  going = λ e. record { sound = sound; number = number; first = omega (arith, (s.going going).first, m.first, m.moves.sure); floor = floor };
}
  where
    books_geom : w.books.geom ≡ v.books.geom
    books_geom = ap (λ (x : TransactionBooks). x.geom) m.books

    number : w.first + w.point ≡ w.pipeline.last + 1
    number = omega (arith, (s.going going).number, m.first, m.point, m.moves.last)

    floor : w.first + w.floor ≡ w.pipeline.header.start + durable_count w.pipeline
    floor = floor_is v w headers (s.going going) m is (s.going going).sound.order

pub stops : DeadLaw → (v w : StoreParts) (headers : ℕ) → StoreIsSound v → PartsMove headers v w → w.stopped ≡ true → w.floor ≡ v.floor → StoreIsSound w
stops law v w headers s m stopped same = record {
  kept = kept_moved law v w headers m s.kept;
  ring_geom = m.moves.ring_geom ∙ s.ring_geom ∙ sym books_geom;
  pipeline_geom = m.moves.geom ∙ s.pipeline_geom ∙ sym books_geom;
  floor = omega (arith, s.floor, same, m.point);
  going = λ e. absurd (false≢true (sym e ∙ stopped));
}
  where
    books_geom : w.books.geom ≡ v.books.geom
    books_geom = ap (λ (x : TransactionBooks). x.geom) m.books
