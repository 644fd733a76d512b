-- A commit of the running transaction keeps the store and makes a point of it, whether it succeeded or the disk failed.
use Rattle.std.proofs.Common.{◌≡◌, ◌⊎◌, ⊎_elim, ℕ, ◌+◌, ◌-◌, ◌≤◌, is_some, Bool, true, false, IsTrue, List, length, map, Option, None, Ok, Err, refl, sym, ◌∙◌, ap, subst, arith, length-append}
use Rattle.std.proofs.lemmas.Bool.{false≢true}
use Rattle.base_types.specs.Seal.{Blocks}
use Rattle.disk_contract.specs.declared.disk.DiskFault.{DiskFault}
use Rattle.disk_contract.specs.declared.event.Event.{Event}
use Rattle.disk_contract.specs.Manner.{Manner}
use Rattle.disk_contract.specs.Disk.{State, Grows, HasFailed, OnlyWrites}
use Rattle.layout_journal.specs.declared.header.Header.{Header}
use Rattle.layout_journal.specs.Ring.{RingPlaces, with_places}
use Rattle.layout_journal.specs.Run.{is_live, otherwise}
use Rattle.engine_cache.specs.Cache.{Cache}
use Rattle.crash_argument.specs.Ledger.{Ledger, WrittenRecord, next_number}
use Rattle.crash_argument.specs.Points.{MountedSession, IsSafe}
use Rattle.crash_argument.specs.Writes.{AddsWrites}
use Rattle.engine_running.specs.Record.{block_of, written_of}
use Rattle.engine_running.specs.Running.{bytes_put}
use Rattle.engine_checkpoint.specs.declared.pipeline.Pipeline.{Pipeline}
use Rattle.engine_checkpoint.specs.Advance.{IsRightOn}
use Rattle.engine_checkpoint.specs.Kept.{kept, newest_in}
use Rattle.engine_blocks.specs.Running.{HasNoBare, fresh_blocks, payloads}
use Rattle.engine_blocks.specs.State.{Bookkeeping, Counts}
use Rattle.engine_blocks.specs.Crashes.{Advances, AwaitsSince, HasLiveBlocks, HasMapOfPoint}
use Rattle.engine_books.specs.Books.{TransactionBooks, map_of, running_of}
use Rattle.engine_books.specs.Kept.{AreKept}
use Rattle.engine_books.specs.Point.{BeganAt, HasSameLive}
use Rattle.engine_store.specs.declared.parts.StoreParts.{StoreParts}
use Rattle.engine_running.specs.Commits.{places_for, writes_of}
use Rattle.engine_store.specs.Committing.{BecomesRecord, JoinsCommitted, StaysDue, WritesRecord, ledger_with}
use Rattle.engine_store.specs.SessionView.{state_of}
use Rattle.engine_store.specs.Syncing.{Forgets}
use Rattle.engine_store.specs.Told.{CacheAgrees, IsToldBy, awaited_in, last_map, map_now, session_of}
use Rattle.engine_store.proofs.Awaiting.{joined_heard}
use Rattle.engine_store.proofs.CommitBytes.{MapLaws, began_next, live_from, live_now, map_next, none_newest, not_fresh, not_laid, not_put, still_disks, was_live, whole_next}
use Rattle.engine_store.proofs.Forgetting.{StillKept, still_kept}
use Rattle.engine_store.proofs.LastMap.{LastMapLaws, newest_is, none_lost}
use Rattle.engine_store.proofs.NextRecord.{newest_is as newest_of, next_more}

-- What the laws say that a commit rests on.
pub record Laws : Type 0 where
  pub last : LastMapLaws
  pub map : MapLaws
  pub payloads : (v : TransactionBooks) → AreKept v → payloads v.geom (running_of v) ≡ length v.changes.paid
  pub fresh : (v : TransactionBooks) → AreKept v → fresh_blocks v.geom (running_of v) ≡ length v.changes.laid
  pub advances : (s : MountedSession) (base : Blocks) (old new : List Event) (l n : Ledger) (j k : Bookkeeping) (c d : Counts) (a b : Blocks) (v w : StoreParts) (t floor since low : ℕ) → IsSafe s base old l t floor → Grows old new → IsSafe s base new n since low → since ≤ length old → j.floor ≤ low
      → j.point ≡ next_number l - s.first → next_number n - s.first ≤ k.point → j.floor ≤ k.floor → ((p u : ℕ) → awaited_in w p u → awaited_in v p u ⊎ AwaitsSince (state_of s j c a base old (awaited_in v)) p u) → Advances (state_of s j c a base old (awaited_in v)) (state_of s k d b base new (awaited_in w))
  pub made : (s : MountedSession) (base : Blocks) (log : List Event) (l : Ledger) (k : Bookkeeping) (c : Counts) (m : Blocks) (w : StoreParts) (t floor : ℕ) → IsSafe s base log l t floor → k.geom ≡ s.geom → next_number l - s.first ≤ k.point
      → (k.point ≡ next_number l - s.first → HasLiveBlocks k.geom m (l.map_before (next_number l))) → HasMapOfPoint (state_of s k c m base log (awaited_in w)) k.point

-- a disk that is safe with a window from one moment on is so from a later one on
from_later : (s : MountedSession) (base : Blocks) (log : List Event) (l : Ledger) (t u floor : ℕ) → t ≤ u → IsSafe s base log l t floor → IsSafe s base log l u floor
from_later s base log l t u floor le safe = record { keeps = safe.keeps; points = safe.points; low = safe.low; window = record { each = λ k img from upto honest. safe.window.each k img (omega (arith, from, le)) upto honest } }

-- the sessions are the same
pub session_then : (v w : StoreParts) → w.books.geom ≡ v.books.geom → w.pipeline.header.epoch ≡ v.pipeline.header.epoch → w.mounted ≡ v.mounted → w.first ≡ v.first → session_of w ≡ session_of v
session_then v w geom epoch mounted first = λ i. record { geom = geom i; epoch = epoch i; mounted = mounted i; first = first i }

-- the ledger with the transaction's record
abbrev pub ledger_then : StoreParts → Ledger → Ledger
ledger_then v l = ledger_with l v.ring v.pipeline.header.epoch (v.first + v.point) v.books

-- what is right for a commit
abbrev pub RightBefore : StoreParts → State → MountedSession → Ledger → ℕ → ℕ → Type 0
RightBefore v d s l t floor = IsRightOn s d l t floor v.pipeline v.ring v.books.dead v.books.changes.taken

-- What a commit gave that succeeded.
pub record Succeeded (tells : Bool) (v : StoreParts) (d e : State) (ring : RingPlaces) (q : Pipeline) (w : TransactionBooks) (c : Cache) : Type 0 where
  pub kept : AreKept w
  pub right : IsTrue tells → (s : MountedSession) (l : Ledger) (t floor : ℕ) → BeganAt v.books (l.map_before (next_number l)) → HasNoBare (running_of v.books) → RightBefore v d s l t floor → IsRightOn s e (ledger_then v l) t floor q ring w.dead w.changes.taken
  pub becomes : BecomesRecord (v.first + v.point) v.books w v.pipeline q ring
  pub ring_is : ring ≡ with_places v.ring (places_for v.books.changes)
  pub writes : IsTrue tells → WritesRecord {A = Unit {0}} {E = DiskFault} (Ok tt) (writes_of v.ring v.pipeline.header.epoch (v.first + v.point) v.books.changes) v.books v.pipeline q d e
  pub spends : OnlyWrites false d e
  pub forgets : Forgets v.books.changes.paid (map block_of v.books.changes.laid) v.cache c
  pub due : IsTrue tells → StaysDue d.log v.pipeline q
  pub joins : IsTrue tells → (tickets : List ℕ) × JoinsCommitted (v.first + v.point) tickets v.pipeline q × AddsWrites (writes_of v.ring v.pipeline.header.epoch (v.first + v.point) v.books.changes) tickets d.log e.log

-- What a commit gave where the disk failed; books and pipeline are as they were.
pub record Failed (tells : Bool) (v : StoreParts) (d e : State) (ring : RingPlaces) (fault : DiskFault) : Type 0 where
  pub right : IsTrue tells → (s : MountedSession) (l : Ledger) (t floor : ℕ) → BeganAt v.books (l.map_before (next_number l)) → HasNoBare (running_of v.books) → RightBefore v d s l t floor → IsSafe s e.base e.log l t floor ⊎ IsSafe s e.base e.log (ledger_then v l) t floor
  pub ring_is : ring ≡ with_places v.ring (places_for v.books.changes)
  pub writes : IsTrue tells → WritesRecord {A = Unit {0}} {E = DiskFault} (Err fault) (writes_of v.ring v.pipeline.header.epoch (v.first + v.point) v.books.changes) v.books v.pipeline v.pipeline d e
  pub spends : OnlyWrites true d e
  pub cause : IsTrue tells → HasFailed e

-- Behind a commit some ledger tells the parts, by which the disk was safe all along; where its last record made the last point, its newest map is the map now; and the map is as it was.
pub record After (v w : StoreParts) (d e : State) : Type 0 where
  pub now : Ledger
  pub told : IsToldBy w e now
  pub safe : IsSafe (session_of v) e.base e.log now (length d.log) v.floor
  pub newest : w.point ≡ next_number now - w.first → now.map_before (next_number now) ≡ map_now w e
  pub map : map_now w e ≡ map_now v d

-- The ledger l tells the parts v over d.
module _ (laws : Laws) (v : StoreParts) (d : State) (l : Ledger) (k : AreKept v.books) (told : IsToldBy v d l) (going : v.stopped ≡ false) (filled : HasNoBare (running_of v.books)) where
  abbrev l_newest : Blocks
  l_newest = l.map_before (next_number l)

  same_newest : HasSameLive v.books (last_map v d) (l.map_before (next_number l))
  same_newest = newest_is laws.last v d l k told going

  pub began_newest : BeganAt v.books (l.map_before (next_number l))
  began_newest = laws.map.began v.books (last_map v d) (l.map_before (next_number l)) k told.began same_newest

  right_before : RightBefore v d (session_of v) l (length d.log) v.floor
  right_before = record { safe = told.safe; agrees = (told.going going).agrees; serves = (told.going going).serves }

  -- the map of the ledger with the record is the map now
  newest_then : (ledger_then v l).map_before (next_number (ledger_then v l)) ≡ map_now v d
  newest_then = newest_of l (written_of v.pipeline.header.epoch (v.first + v.point) v.ring.next v.books.changes.paid v.books.changes.laid) (map_of v.books (l.map_before (next_number l)))
      ∙ laws.map.map v.books (last_map v d) (l.map_before (next_number l)) k told.began same_newest

  next_then : next_number (ledger_then v l) ≡ next_number l + 1
  next_then = next_more l (written_of v.pipeline.header.epoch (v.first + v.point) v.ring.next v.books.changes.paid v.books.changes.laid) (map_of v.books (l.map_before (next_number l)))

  next : next_number l ≡ v.first + v.point
  next = (told.going going).next

  -- Where it succeeded.
  module _ (tells : Bool) (t : IsTrue tells) (e : State) (ring : RingPlaces) (q : Pipeline) (w : TransactionBooks) (c : Cache) (s : Succeeded tells v d e ring q w c) where
    abbrev parts : StoreParts
    parts = record v { ring = ring; pipeline = q; books = w; cache = c; point = v.point + 1 }

    abbrev record_then : WrittenRecord
    record_then = written_of v.pipeline.header.epoch (v.first + v.point) v.ring.next v.books.changes.paid v.books.changes.laid

    right : IsRightOn (session_of v) e (ledger_then v l) (length d.log) v.floor q ring w.dead w.changes.taken
    right = s.right t (session_of v) l (length d.log) v.floor began_newest filled right_before

    grew : length d.log ≤ length e.log
    grew = omega (arith, ap (λ (es : List Event). length es) (s.writes t).grows.log, length-append d.log (s.writes t).grows.more)

    same_session : session_of parts ≡ session_of v
    same_session = session_then v parts (ap (λ (x : TransactionBooks). x.geom) s.becomes.books) (ap (λ (h : Header). h.epoch) s.becomes.header) refl refl

    -- what is live then, and wasn't put, was live before
    was_live_then : (b : ℕ) → IsTrue (is_live w.geom (last_map parts e) b) → bytes_put v.books.changes b ≡ None → IsTrue (is_live v.books.geom (last_map v d) b)
    was_live_then b live none = was_live laws.map v.books (last_map v d) k told.began filled b (live_now laws.map v.books (last_map v d) k told.began filled w (v.first + v.point) (last_map parts e) s.kept s.becomes.books s.becomes.empty (s.writes t).bytes b live) none

    live_still : (b : ℕ) → IsTrue (is_live w.geom (last_map parts e) b) → StillKept v.books.changes.paid (map block_of v.books.changes.laid) v.cache c b → IsTrue (is_live v.books.geom (last_map v d) b)
    live_still b live st = was_live_then b live (not_put v.books.changes v.cache c b st)

    cache_then : CacheAgrees parts e
    cache_then = record {
      newest = λ b live there.
          let st = still_kept v.books.changes.paid (map block_of v.books.changes.laid) v.cache c b s.forgets there in
          none_newest v.books.changes (v.first + v.point) (kept v.pipeline) (kept q) v.cache c b s.becomes.kept st
          ((told.going going).cache.newest b (live_still b live st) (subst (λ (o : Option (List ℕ)). IsTrue (is_some o)) st.same there));
      same = λ b live. still_disks v.books.changes v.cache c b d e s.forgets (λ st.
          let before = live_still b live st in
          (none_lost laws.last v d l k told going b before, ((s.writes t).elsewhere b (live_from v.books.geom (last_map v d) b before) (not_laid v.books.changes v.cache c b st)).bytes, (told.going going).cache.same b before));
    }

    pub after_success : After v parts d e
    after_success = record {
      now = ledger_then v l;
      told = record {
        safe = subst (λ (x : MountedSession). IsSafe x e.base e.log (ledger_then v l) (length e.log) v.floor) (sym same_session) (from_later (session_of v) e.base e.log (ledger_then v l) (length d.log) (length e.log) v.floor grew right.safe);
        made = omega (arith, next_then, told.made);
        began = began_next laws.map v.books (last_map v d) k told.began filled w (v.first + v.point) (last_map parts e) s.kept s.becomes.books s.becomes.empty (s.writes t).bytes l record_then;
        whole = whole_next laws.map v.books (last_map v d) k told.began filled w (v.first + v.point) (last_map parts e) s.kept s.becomes.books s.becomes.empty (s.writes t).bytes told.whole;
        going = λ still_going. record { agrees = right.agrees; serves = right.serves; next = omega (arith, next_then, next); due = s.due t (told.going going).agrees.notes (told.going going).due; heard = λ alone. joined_heard (v.first + v.point) (writes_of v.ring v.pipeline.header.epoch (v.first + v.point) v.books.changes) (s.joins t).0 v.pipeline q d.log e.log (s.writes t).grows (s.joins t).1 (s.joins t).2 ((told.going going).heard (ap (λ (m : Manner). m.waits_alone) (sym s.spends.same.manner) ∙ alone)); cache = record { newest = cache_then.newest; same = cache_then.same } };
        failed = λ stopped. absurd (false≢true (sym going ∙ stopped));
      };
      safe = right.safe;
      newest = λ last. newest_then ∙ sym map_then;
      map = map_then;
    }
      where
        map_then : map_now parts e ≡ map_now v d
        map_then = map_next laws.map v.books (last_map v d) k told.began filled w (v.first + v.point) (last_map parts e) s.kept s.becomes.books s.becomes.empty (s.writes t).bytes l record_then

  -- Where the disk failed.
  module _ (tells : Bool) (t : IsTrue tells) (e : State) (ring : RingPlaces) (fault : DiskFault) (f : Failed tells v d e ring fault) where
    abbrev stopped_parts : StoreParts
    stopped_parts = record v { ring = ring; point = v.point + 1; stopped = true }

    front_grew : length d.log ≤ length e.log
    front_grew = omega (arith, ap (λ (es : List Event). length es) (f.writes t).grows.log, length-append d.log (f.writes t).grows.more)

    -- the live blocks of the last map stay
    stays : HasSameLive v.books (last_map v d) (last_map stopped_parts e)
    stays b live = ap (λ (x : List ℕ). otherwise (newest_in None (kept v.pipeline) b) x) ((f.writes t).elsewhere b (live_from v.books.geom (last_map v d) b live) (not_fresh laws.map v.books (last_map v d) k told.began b live)).bytes

    live_before : (b : ℕ) → IsTrue (is_live v.books.geom (last_map stopped_parts e) b) → IsTrue (is_live v.books.geom (last_map v d) b)
    live_before b live = sym (laws.map.live v.books (last_map v d) (last_map stopped_parts e) b k stays) ∙ live

    map_stays : map_now stopped_parts e ≡ map_now v d
    map_stays = laws.map.map v.books (last_map v d) (last_map stopped_parts e) k told.began stays

    by_ledger : (n : Ledger) → IsSafe (session_of v) e.base e.log n (length d.log) v.floor → next_number n ≤ v.first + (v.point + 1) → (v.point + 1 ≡ next_number n - v.first → n.map_before (next_number n) ≡ map_now v d) → After v stopped_parts d e
    by_ledger n safe made newest = record {
      now = n;
      told = record {
        safe = from_later (session_of v) e.base e.log n (length d.log) (length e.log) v.floor front_grew safe;
        made = made;
        began = laws.map.began v.books (last_map v d) (last_map stopped_parts e) k told.began stays;
        whole = λ b live. ap (λ (x : List ℕ). length x) (stays b (live_before b live)) ∙ told.whole b (live_before b live);
        going = λ still. absurd (false≢true (sym still));
        failed = λ stopped. f.cause t;
      };
      safe = safe;
      newest = λ last. newest last ∙ sym map_stays;
      map = map_stays;
    }

    -- the record is there or not
    pub after_failure : After v stopped_parts d e
    after_failure = ⊎_elim
        (λ safe. by_ledger l safe (omega (arith, told.made)) (λ last. absurd (omega (arith, last, next))))
        (λ safe. by_ledger (ledger_then v l) safe (omega (arith, next_then, told.made)) (λ last. newest_then))
        (f.right t (session_of v) l (length d.log) v.floor began_newest filled right_before)
