-- A session that counts from its disk's first event, and a store that begins with it.
use Rattle.std.proofs.Common.{◌≡◌, ℕ, ◌+◌, ◌-◌, ◌/◌, ◌%◌, ◌<◌, ◌≤◌, ◌||◌, not, nat_le, nat_lt, ◌==◌, if◌then◌else◌, Bool, true, false, List, [], ◌++◌, map, slice_get, slice_index, sym, ap, ap₂, ◌∙◌, subst, arith}
use Rattle.std.proofs.lemmas.Bool.{le-ltb, and_right}
use Rattle.std.proofs.lemmas.Option.{none-some}
use Rattle.std.specs.Int.{bit_at}
use Rattle.std.specs.List.{All}
use mathlib.Core.Path.{fun_ext}
use Rattle.base_types.specs.Seal.{Blocks, blocks_of}
use Rattle.disk_contract.specs.declared.event.Event.{Event}
use Rattle.disk_contract.specs.Cell.{cell_of, accepted, is_lost}
use Rattle.disk_contract.specs.Disk.{State}
use Rattle.layout_geometry.specs.Geometry.{Geometry, LiesIn, bitmap_blocks, bitmap_start, data_start}
use Rattle.layout_geometry.specs.Geometry.Area.{Data}
use Rattle.layout_bytes.specs.Bitmap.{is_set}
use Rattle.layout_journal.specs.declared.header.Header.{Header}
use Rattle.layout_journal.specs.Run.{is_live, live_part}
use Rattle.crash_argument.specs.Ledger.{cells_of, last_of, next_number}
use Rattle.crash_argument.specs.Mounting.{HasBegun}
use Rattle.crash_argument.specs.Points.{MountedSession, IsPoint, IsSafe, session_at_mount}
use Rattle.engine_reuse.specs.Dead.{DeadBlocks, block_of, dead_blocks, freed_by}
use Rattle.engine_reuse.specs.Numbers.{is_among}
use Rattle.engine_checkpoint.specs.declared.pipeline.HomeWrite.{HomeWrite}
use Rattle.engine_checkpoint.specs.declared.pipeline.Pipeline.{Pipeline}
use Rattle.engine_checkpoint.specs.Advance.{IsRight, IsSound}
use Rattle.engine_checkpoint.specs.Agree.{PipelineAgrees}
use Rattle.engine_books.specs.Books.{TransactionBooks, bit_now}
use Rattle.engine_books.specs.Point.{BeganAt, HasBitmap}
use Rattle.engine_store.specs.Opening.{AreNewBooks, IsNewPipeline, empty_ring, first_ledger, first_map}
use Rattle.engine_store.proofs.Windows.{LastIs, OneMap, points_are}
use Rattle.engine_store.proofs.OnePoint.{low_live, one_point}

-- the map of a session that has begun is the ledger's where it is live
pub map_is : LastIs → OneMap → (d : State) (g : Geometry) (slot : ℕ) (h : Header) (since : ℕ) (m : Blocks) → HasBegun d g slot h since m → m ≡ live_part g (first_map d g slot h)
map_is last_is one_map d g slot h since m begun = fun_ext (λ b. one_point one_map s d.base d.log 0 m newest begun.point at b)
  where
    s : MountedSession
    s = session_at_mount g h d.log

    newest : Blocks
    newest = live_part g (first_map d g slot h)

    at : IsPoint s d.base d.log 0 newest
    at = subst (λ (p : ℕ). IsPoint s d.base d.log p newest) (points_are s d.base d.log (first_ledger d g slot h) since 0 0 begun.safe (omega arith)) (last_is s d.base d.log (first_ledger d g slot h) since 0 begun.safe)

-- What a read gives of an idle disk, as crash_argument says it.
abbrev pub ReadsIdle : Type 0
ReadsIdle = (base : Blocks) (log : List Event) (b : ℕ) → (cell_of base log b).pending ≡ [] → (is_lost b log ≡ false) × (accepted base log b ≡ (cell_of base log b).settled)

pub none_lost : ReadsIdle → (d : State) (g : Geometry) (slot : ℕ) (h : Header) (since : ℕ) (m : Blocks) → HasBegun d g slot h since m → (b : ℕ) → is_lost b d.log ≡ false
none_lost reads d g slot h since m begun b = (reads d.base d.log b (begun.mounted.idle b)).0

pub accepted_is : ReadsIdle → (d : State) (g : Geometry) (slot : ℕ) (h : Header) (since : ℕ) (m : Blocks) → HasBegun d g slot h since m → (b : ℕ) → accepted d.base d.log b ≡ first_map d g slot h b
accepted_is reads d g slot h since m begun b = (reads d.base d.log b (begun.mounted.idle b)).1 ∙ ap (last_of (cells_of d b).settled) (sym (begun.mounted.idle b))

-- The bitmap.

-- a map that has the live blocks of another has its bitmap
bitmap_whole : (g : Geometry) (m n : Blocks) (k : ℕ) → data_start g ≤ g.n → k < bitmap_blocks g → m ≡ live_part g n → n (bitmap_start g + k) ≡ m (bitmap_start g + k)
bitmap_whole g m n k shape below e =
    sym (ap (λ (t : Bool). if t then n (bitmap_start g + k) else []) (low_live g n (bitmap_start g + k) shape (omega arith) (omega (arith, below)))) ∙ sym (ap (λ (q : Blocks). q (bitmap_start g + k)) e)

-- so the ledger's map has the books' bitmap where the session's has
pub has_bitmap : LastIs → OneMap → (d : State) (g : Geometry) (slot : ℕ) (h : Header) (since : ℕ) (m : Blocks) (books : TransactionBooks) → HasBegun d g slot h since m → AreNewBooks g books → HasBitmap books m → HasBitmap books (first_map d g slot h)
has_bitmap last_is one_map d g slot h since m books begun new bits = subst (λ (q : Geometry). (k : ℕ) → k < bitmap_blocks q → first_map d g slot h (bitmap_start q + k) ≡ blocks_of books.bitmap k) (sym new.geom) (λ k below.
    bitmap_whole g m (first_map d g slot h) k begun.mounted.shape below (map_is last_is one_map d g slot h since m begun)
    ∙ subst (λ (q : Geometry). (j : ℕ) → j < bitmap_blocks q → m (bitmap_start q + j) ≡ blocks_of books.bitmap j) new.geom bits k below)

pub begins_at : LastIs → OneMap → (d : State) (g : Geometry) (slot : ℕ) (h : Header) (since : ℕ) (m : Blocks) (books : TransactionBooks) → HasBegun d g slot h since m → AreNewBooks g books → HasBitmap books m → BeganAt books (first_map d g slot h)
begins_at last_is one_map d g slot h since m books begun new bits = new.begins (first_map d g slot h) (has_bitmap last_is one_map d g slot h since m books begun new bits)

-- What may be taken is dead.

-- a data block whose bit is clear isn't live
clear_is_dead : (g : Geometry) (m : Blocks) (b : ℕ) → data_start g ≤ b → is_set g m b ≡ false → is_live g m b ≡ false
clear_is_dead g m b from clear = and_right (nat_le (bitmap_start g) b) _ (and_right (nat_lt b g.n) (nat_lt b (data_start g) || is_set g m b) (ap₂ ◌||◌ (le-ltb b (data_start g) from) clear))

-- the bit of a block by a map and by the books that have its bitmap
pub same_bit : (g : Geometry) (m : Blocks) (v : TransactionBooks) (b : ℕ) → v.geom ≡ g → b < g.n → HasBitmap v m → is_set g m b ≡ bit_now v b
same_bit g m v b geom below bits = ap (λ (x : List ℕ). bit_at (slice_index x (b % 8192 / 8)) (b % 8) == 1)
    (subst (λ (q : Geometry). (j : ℕ) → j < bitmap_blocks q → m (bitmap_start q + j) ≡ blocks_of v.bitmap j) geom bits (b / 8192) (omega (arith, below)))

-- new books have no dead block but those that may be taken
among_dead : (g : Geometry) (v : TransactionBooks) (b : ℕ) → AreNewBooks g v → is_among b (v.dead.reusable ++ map block_of v.dead.waiting) ≡ true → is_among b (dead_blocks v.dead) ≡ true
among_dead g v b new among = ap (λ (q : DeadBlocks). is_among b (dead_blocks q)) new.dead ∙ sym (ap (λ (q : DeadBlocks). is_among b (q.reusable ++ map block_of q.waiting)) new.dead) ∙ among

dead_now : (g : Geometry) (m : Blocks) (v : TransactionBooks) (b : ℕ) → AreNewBooks g v → HasBitmap v m → is_among b (v.dead.reusable ++ map block_of v.dead.waiting) ≡ true → is_live g m b ≡ false
dead_now g m v b new bits among =
    let dead = among_dead g v b new among in
    let lies : LiesIn v.geom Data b = subst (λ (q : Geometry). LiesIn q Data b) new.kept.geom (new.kept.sound.lie b dead) in
    let there : LiesIn g Data b = subst (λ (q : Geometry). LiesIn q Data b) new.geom lies in
    clear_is_dead g m b there.from (same_bit g m v b new.geom there.below bits ∙ new.kept.bits.same b lies ∙ ap not dead)

-- All is right.
pub right_at_once : LastIs → OneMap → (s : MountedSession) (d : State) (g : Geometry) (slot : ℕ) (h : Header) (since t floor : ℕ) (m : Blocks) (v : Pipeline) (books : TransactionBooks) → HasBegun d g slot h since m → h.at ≡ 0 → IsSafe s d.base d.log (first_ledger d g slot h) t floor → IsNewPipeline g slot h v → AreNewBooks g books → HasBitmap books m
    → IsRight s d.base d.log (first_ledger d g slot h) t floor v (empty_ring g) books.dead []
right_at_once last_is one_map s d g slot h since t floor m v books begun place safe pipe new bits = record {
  safe = safe;
  agrees = subst (λ (q : DeadBlocks). PipelineAgrees d.base d.log (first_ledger d g slot h) v (empty_ring g) q.waiting []) (sym new.dead)
      (pipe.agrees d.base d.log (empty_ring g) begun.mounted (ap (λ (k : ℕ). record { geom = g; next = k; taken = 0 }) (sym place)));
  serves = record {
    dead_now = λ b among. dead_now g (first_map d g slot h) books b new (has_bitmap last_is one_map d g slot h since m books begun new bits) among;
    not_going = λ k w at going. absurd (none-some w (sym (ap (λ (ws : List HomeWrite). slice_get ws k) pipe.none.home) ∙ at));
  };
}

-- All is sound.
pub sound_at_once : (g : Geometry) (slot : ℕ) (h : Header) (v : Pipeline) (books : TransactionBooks) → IsNewPipeline g slot h v → AreNewBooks g books → IsSound v (empty_ring g) books.dead
sound_at_once g slot h v books pipe new = record {
  order = pipe.order;
  room = pipe.room;
  index = pipe.index;
  goes_with = record { ring_geom = sym pipe.none.geom; taken = sym pipe.taken; dead_geom = new.kept.geom ∙ new.geom ∙ sym pipe.none.geom; waiting = subst (λ (q : DeadBlocks). All (λ p. freed_by p ≤ v.last) q.waiting) (sym new.dead) (λ k p low. absurd (omega (arith, low))) };
}

-- the next record is the pipeline's next one
pub next_at_once : (d : State) (g : Geometry) (slot : ℕ) (h : Header) (since : ℕ) (m : Blocks) (v : Pipeline) → HasBegun d g slot h since m → IsNewPipeline g slot h v → next_number (first_ledger d g slot h) ≡ v.last + 1
next_at_once d g slot h since m v begun pipe = omega (arith, begun.mounted.empty, pipe.none.last)
