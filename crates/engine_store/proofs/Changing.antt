-- A call that changes the running transaction alone keeps the store: its parts stay sound, and where its disk tells they stay told.
use Rattle.std.proofs.Props.{props}
use Rattle.std.proofs.Common.{◌≡◌, ◌⊎◌, inl, inr, ⊎_elim, ℕ, suc, ◌<◌, Bool, true, false, IsTrue, if◌then◌else◌, List, [], ◌∷◌, length, ◌||◌, nat_lt, refl, sym, ◌∙◌, ap, subst, arith}
use Rattle.std.specs.List.{All}
use Rattle.std.proofs.Math.Logic.{∥∥₁_elim, ∥∥₁_map}
use Rattle.std.proofs.lemmas.Bool.{or_cases, and_parts, false≢true}
use Rattle.std.proofs.lemmas.Bool.Decides.{nat_tests}
use Rattle.base_types.specs.Seal.{Blocks}
use Rattle.disk_contract.specs.declared.event.Event.{Event}
use Rattle.disk_contract.specs.Disk as disk
use Rattle.layout_geometry.specs.Geometry.{Geometry}
use Rattle.layout_bytes.specs.Bitmap.{is_set}
use Rattle.layout_journal.specs.Ring.{RingPlaces}
use Rattle.layout_journal.specs.Run.{is_live}
use Rattle.crash_argument.specs.HomeTest.{is_one_of}
use Rattle.crash_argument.specs.Ledger.{Ledger}
use Rattle.crash_argument.specs.Points.{MountedSession, IsSafe}
use Rattle.engine_reuse.specs.Calls.{with_freed, with_taken}
use Rattle.engine_reuse.specs.Dead.{AreSound, DeadBlocks}
use Rattle.engine_reuse.specs.Numbers.{is_among}
use Rattle.engine_checkpoint.specs.declared.pipeline.Pipeline.{Pipeline}
use Rattle.engine_checkpoint.specs.Advance.{IsRight, IsSound}
use Rattle.engine_blocks.specs.Running.{has}
use Rattle.engine_blocks.specs.State.{MayBeTaken, IsReusable}
use Rattle.engine_books.specs.Books.{TransactionBooks, bit_now, is_free_now, is_marked, map_of}
use Rattle.engine_books.specs.Kept.{AreKept}
use Rattle.engine_books.specs.Point.{BeganAt}
use Rattle.engine_store.specs.declared.parts.StoreParts.{StoreParts}
use Rattle.engine_store.specs.Store.{StoreIsSound}
use Rattle.engine_store.specs.Told.{IsKeptOn, IsToldBy, last_map, map_now, session_of}

-- A call has left these books: they are kept, with the geometry as it was, and what is sound and right of pipeline, ring and dead blocks stays so.
pub record BooksGoOn (v : StoreParts) (w : TransactionBooks) : Type 0 where
  pub geom : w.geom ≡ v.books.geom
  pub kept : AreKept w
  pub sound : IsSound v.pipeline v.ring v.books.dead → IsSound v.pipeline v.ring w.dead
  pub right : (s : MountedSession) (base : Blocks) (log : List Event) (l : Ledger) (t floor : ℕ) → IsRight s base log l t floor v.pipeline v.ring v.books.dead v.books.changes.taken → IsRight s base log l t floor v.pipeline v.ring w.dead w.changes.taken

parts_sound : (v : StoreParts) (w : TransactionBooks) → BooksGoOn v w → StoreIsSound v → StoreIsSound (record v { books = w })
parts_sound v w on s = record {
  kept = on.kept;
  ring_geom = s.ring_geom ∙ sym on.geom;
  pipeline_geom = s.pipeline_geom ∙ sym on.geom;
  floor = s.floor;
  going = λ going. let g = s.going going in record { sound = on.sound g.sound; number = g.number; first = g.first; floor = g.floor };
}

parts_told : (v : StoreParts) (w : TransactionBooks) (d : disk.State) (l : Ledger) → BooksGoOn v w → BeganAt w (last_map v d) → IsToldBy v d l → IsToldBy (record v { books = w }) d l
parts_told v w d l on began told = record {
  safe = subst (λ (g : Geometry). IsSafe (record { geom = g; epoch = v.pipeline.header.epoch; mounted = v.mounted; first = v.first }) d.base d.log l (length d.log) v.floor) (sym on.geom) told.safe;
  made = told.made;
  began = began;
  whole = λ b lives. told.whole b (was_live b lives);
  going = λ going.
      let g = told.going going in
      let r = on.right (session_of v) d.base d.log l (length d.log) v.floor (record { safe = told.safe; agrees = g.agrees; serves = g.serves }) in
      record {
        agrees = r.agrees;
        serves = r.serves;
        next = g.next;
        due = g.due;
        heard = g.heard;
        cache = record { newest = λ b lives is. g.cache.newest b (was_live b lives) is; same = λ b lives. g.cache.same b (was_live b lives) };
      };
  failed = told.failed;
}
  where
    was_live : (b : ℕ) → IsTrue (is_live w.geom (last_map v d) b) → IsTrue (is_live v.books.geom (last_map v d) b)
    was_live b lives = subst (λ (g : Geometry). IsTrue (is_live g (last_map v d) b)) on.geom lives

-- the store keeps what it keeps, where the transaction that the call left began at the map of the last point too
pub parts_kept : (tells : Bool) (v : StoreParts) (w : TransactionBooks) (d : disk.State) → BooksGoOn v w → (IsTrue tells → BeganAt v.books (last_map v d) → BeganAt w (last_map v d)) → IsKeptOn tells v d → IsKeptOn tells (record v { books = w }) d
parts_kept tells v w d on began k = record {
  size = k.size ∙ ap (λ (g : Geometry). g.n) (sym on.geom);
  sound = parts_sound v w on k.sound;
  waits = k.waits;
  told = λ t. ∥∥₁_map (k.told t) (λ (p : (l : Ledger) × IsToldBy v d l). (p.0, parts_told v w d p.0 on (began t p.1.began) p.1));
}

-- What engine_checkpoint promises of dead blocks that change.

abbrev pub TakesRight : Type 0
TakesRight = (s : MountedSession) (base : Blocks) (log : List Event) (l : Ledger) (t floor : ℕ) (v : Pipeline) (ring : RingPlaces) (dead : DeadBlocks) (taken list now : List ℕ) → AreSound dead → dead.geom ≡ v.geom → IsRight s base log l t floor v ring dead taken
    → ((b : ℕ) → is_one_of b list ≡ true → is_among b dead.reusable ≡ true) → ((b : ℕ) → is_one_of b now ≡ true → (is_one_of b list ≡ true) ⊎ (is_one_of b taken ≡ true)) → IsRight s base log l t floor v ring (with_taken dead list) now

abbrev pub FreesRight : Type 0
FreesRight = (s : MountedSession) (base : Blocks) (log : List Event) (l : Ledger) (t floor : ℕ) (v : Pipeline) (ring : RingPlaces) (dead : DeadBlocks) (taken : List ℕ) (b : ℕ) → IsRight s base log l t floor v ring dead taken → IsRight s base log l t floor v ring (with_freed dead b) taken

abbrev pub RoomRight : Type 0
RoomRight = (s : MountedSession) (base : Blocks) (log : List Event) (l : Ledger) (t floor : ℕ) (v : Pipeline) (ring : RingPlaces) (dead : DeadBlocks) (taken : List ℕ) (n : ℕ) → IsRight s base log l t floor v ring dead taken → IsRight s base log l t floor v ring (record dead { room = n }) taken

abbrev pub TakesSound : Type 0
TakesSound = (v : Pipeline) (ring : RingPlaces) (dead : DeadBlocks) (list : List ℕ) → IsSound v ring dead → IsSound v ring (with_taken dead list)

abbrev pub FreesSound : Type 0
FreesSound = (v : Pipeline) (ring : RingPlaces) (dead : DeadBlocks) (b : ℕ) → IsSound v ring dead → IsSound v ring (with_freed dead b)

abbrev pub RoomSound : Type 0
RoomSound = (v : Pipeline) (ring : RingPlaces) (dead : DeadBlocks) (n : ℕ) → IsSound v ring dead → IsSound v ring (record dead { room = n })

-- The calls one by one.

-- dead blocks and blocks taken that are those of the books
books_on : (v : StoreParts) (w : TransactionBooks) (dead : DeadBlocks) (taken : List ℕ) → w.geom ≡ v.books.geom → AreKept w → w.dead ≡ dead → w.changes.taken ≡ taken → (IsSound v.pipeline v.ring v.books.dead → IsSound v.pipeline v.ring dead)
    → ((s : MountedSession) (base : Blocks) (log : List Event) (l : Ledger) (t floor : ℕ) → IsRight s base log l t floor v.pipeline v.ring v.books.dead v.books.changes.taken → IsRight s base log l t floor v.pipeline v.ring dead taken) → BooksGoOn v w
books_on v w dead taken geom kept is_dead is_taken sound right = record {
  geom = geom;
  kept = kept;
  sound = λ s. subst (IsSound v.pipeline v.ring) (sym is_dead) (sound s);
  right = λ s base log l t floor r.
      subst (λ (xs : List ℕ). IsRight s base log l t floor v.pipeline v.ring w.dead xs) (sym is_taken)
      (subst (λ (x : DeadBlocks). IsRight s base log l t floor v.pipeline v.ring x taken) (sym is_dead) (right s base log l t floor r));
}

-- dead blocks and blocks taken stay
pub same_on : (v : StoreParts) (w : TransactionBooks) → w.geom ≡ v.books.geom → AreKept w → w.dead ≡ v.books.dead → w.changes.taken ≡ v.books.changes.taken → BooksGoOn v w
same_on v w geom kept dead taken = books_on v w v.books.dead v.books.changes.taken geom kept dead taken (λ s. s) (λ s base log l t floor r. r)

-- there is more or less room for frees
pub room_on : RoomSound → RoomRight → (v : StoreParts) (w : TransactionBooks) (n : ℕ) → w.geom ≡ v.books.geom → AreKept w → w.dead ≡ record v.books.dead { room = n } → w.changes.taken ≡ v.books.changes.taken → BooksGoOn v w
room_on sound right v w n geom kept dead taken = books_on v w (record v.books.dead { room = n }) v.books.changes.taken geom kept dead taken (λ s. sound v.pipeline v.ring v.books.dead n s)
    (λ s base log l t floor r. right s base log l t floor v.pipeline v.ring v.books.dead v.books.changes.taken n r)

-- a block was freed, or had been
pub free_on : FreesSound → FreesRight → (v : StoreParts) (w : TransactionBooks) (b : ℕ) → w.geom ≡ v.books.geom → AreKept w → w.dead ≡ (if bit_now v.books b then with_freed v.books.dead b else v.books.dead) → w.changes.taken ≡ v.books.changes.taken → BooksGoOn v w
free_on sound right v w b geom kept dead taken = by (bit_now v.books b) dead
  where
    by : (u : Bool) → w.dead ≡ (if u then with_freed v.books.dead b else v.books.dead) → BooksGoOn v w
    by true is = books_on v w (with_freed v.books.dead b) v.books.changes.taken geom kept is taken (λ s. sound v.pipeline v.ring v.books.dead b s)
        (λ s base log l t floor r. right s base log l t floor v.pipeline v.ring v.books.dead v.books.changes.taken b r)
    by false is = same_on v w geom kept is taken

-- one word for another
has_is_one : (b : ℕ) (xs : List ℕ) → has xs b ≡ true → is_one_of b xs ≡ true
has_is_one b [] is = is
has_is_one b (x ∷ xs) is = grind (arith, nat_tests, is, has_is_one b xs)

-- each number of a list that may be taken is reusable
each_free : (g : Geometry) (reusable : ℕ → Bool) (xs : List ℕ) → All (IsReusable g reusable) xs → (b : ℕ) → is_one_of b xs ≡ true → reusable b ≡ true
each_free g reusable [] all b is = absurd (false≢true is)
each_free g reusable (x ∷ xs) all b is = grind (arith, nat_tests, is, (all 0 0 (omega arith)).free, each_free g reusable xs (λ i d low. all (suc i) d (omega (arith, low))) b)

-- these blocks were taken
pub take_on : TakesSound → TakesRight → (v : StoreParts) (w : TransactionBooks) (list : List ℕ) → StoreIsSound v → w.geom ≡ v.books.geom → AreKept w → w.dead ≡ with_taken v.books.dead list → ((b : ℕ) → is_one_of b w.changes.taken ≡ (has list b || is_one_of b v.books.changes.taken)) → MayBeTaken v.books.geom (is_free_now v.books) list → BooksGoOn v w
take_on sound right v w list s geom kept dead taken may = books_on v w (with_taken v.books.dead list) w.changes.taken geom kept dead refl (λ h. sound v.pipeline v.ring v.books.dead list h)
    (λ s2 base log l t floor r. right s2 base log l t floor v.pipeline v.ring v.books.dead v.books.changes.taken list w.changes.taken s.kept.sound (s.kept.geom ∙ sym s.pipeline_geom) r (each_free v.books.geom (is_free_now v.books) list may.each) among)
  where
    among : (b : ℕ) → is_one_of b w.changes.taken ≡ true → (is_one_of b list ≡ true) ⊎ (is_one_of b v.books.changes.taken ≡ true)
    among b is = ⊎_elim (λ h. inl (has_is_one b list h)) inr (or_cases _ _ (sym (taken b) ∙ is))

-- What is known where the disk tells.

-- a fact that follows from where the transaction began
pub began_gives : {P : Type 0} → IsProp P → (tells : Bool) (v : StoreParts) (d : disk.State) → IsKeptOn tells v d → IsTrue tells → (BeganAt v.books (last_map v d) → P) → P
began_gives prop tells v d k t f = ∥∥₁_elim (k.told t) prop (λ (p : (l : Ledger) × IsToldBy v d l). f p.1.began)

abbrev pub BitsLaw : Type 0
BitsLaw = (v : TransactionBooks) (last : Blocks) (b : ℕ) → BeganAt v last → b < v.geom.n → is_marked v b ≡ is_set v.geom (map_of v last) b

-- a bit of the map is that of the books
pub bit_is : BitsLaw → (v : TransactionBooks) (last : Blocks) (b : ℕ) → BeganAt v last → b < v.geom.n → is_set v.geom (map_of v last) b ≡ true → bit_now v b ≡ true
bit_is law v last b began low set = (and_parts (nat_lt b v.geom.n) (bit_now v b) (law v last b began low ∙ set)).1

-- so is a bit of the map now
pub bit_kept : BitsLaw → (tells : Bool) (v : StoreParts) (d : disk.State) (b : ℕ) → IsKeptOn tells v d → IsTrue tells → b < v.books.geom.n → is_set v.books.geom (map_now v d) b ≡ true → bit_now v.books b ≡ true
bit_kept law tells v d b k t low set = began_gives (hlevel props) tells v d k t (λ began. bit_is law v.books (last_map v d) b began low set)
