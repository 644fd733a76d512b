-- A call of the pipeline keeps the store, whether it succeeded or not, and runs the pipeline as the contract of maps of blocks says it.
use Rattle.std.proofs.Common.{◌≡◌, ◌⊎◌, inl, inr, ⊎_elim, ℕ, zero, suc, ◌+◌, ◌-◌, ◌^◌, ◌<◌, ◌≤◌, Bool, true, false, IsTrue, List, ◌++◌, length, Some, Result, Ok, Err, OnOk, OnErr, is_err, refl, sym, ◌∙◌, ap, subst, arith}
use Rattle.std.proofs.Props.{props}
use Rattle.std.proofs.Math.Logic.{∥∥₁_elim, ∥∥₁_map, ∥∥₁_prop}
use Rattle.std.proofs.lemmas.Bool.{false≢true}
use mathlib.Core.Path.{fun_ext, subst₂}
use Rattle.base_types.specs.Counts.{after_calls}
use Rattle.base_types.specs.Seal.{Blocks}
use Rattle.disk_contract.specs.declared.disk.DiskFault.{DiskFault}
use Rattle.disk_contract.specs.declared.event.Event.{Event}
use Rattle.disk_contract.specs.Cell.{notices}
use Rattle.disk_contract.specs.Manner.{Manner}
use Rattle.disk_contract.specs.Disk.{State, Grows, HasFailed, SameDisk, Spends, writes_in}
use Rattle.layout_geometry.specs.Geometry.{Geometry}
use Rattle.layout_journal.specs.declared.header.Header.{Header}
use Rattle.layout_journal.specs.declared.record.Commit.{Commit}
use Rattle.layout_journal.specs.Ring.{RingPlaces}
use Rattle.layout_journal.specs.Run.{is_live}
use Rattle.crash_argument.specs.Ledger.{Ledger, next_number}
use Rattle.crash_argument.specs.Points.{MountedSession, HoldsPoint, IsSafe, records_told}
use Rattle.engine_cache.specs.Cache.{Cache, IsKept, IsTheDisks}
use Rattle.engine_reuse.specs.Dead.{AreSound, DeadBlocks}
use Rattle.engine_checkpoint.specs.declared.pipeline.Pipeline.{Pipeline}
use Rattle.engine_checkpoint.specs.Adds.{AddsHome, LosesFront}
use Rattle.engine_checkpoint.specs.Advance.{HasTurns, IsRightOn, IsSound, Leaves, Moves, StaysRight, StaysSafe, writes_owed}
use Rattle.engine_checkpoint.specs.Agree.{NotesAreGiven, PipelineAgrees, durable_count}
use Rattle.engine_checkpoint.specs.Bytes.{IsLiveNow, LeavesBytes}
use Rattle.engine_checkpoint.specs.Kept.{kept}
use Rattle.engine_checkpoint.specs.Steps.{is_first_settled}
use Rattle.engine_checkpoint.specs.Waits.{HearsAll, LosesCommitted, OnlyNotices, StaysHeard}
use Rattle.engine_blocks.specs.State.{Bookkeeping, Counts}
use Rattle.engine_blocks.specs.Calls.{MovesPipeline}
use Rattle.engine_blocks.specs.Crashes.{Advances, AwaitsSince}
use Rattle.engine_blocks.specs.Effects.{RunsPipeline, TellsNone}
use Rattle.engine_books.specs.Books.{TransactionBooks, map_of}
use Rattle.engine_books.specs.Kept.{AreKept}
use Rattle.engine_books.specs.Point.{BeganAt, HasSameLive}
use Rattle.engine_store.specs.declared.parts.StoreParts.{StoreParts}
use Rattle.engine_store.specs.PipelineCall.{CallsPipeline, settled_up}
use Rattle.engine_store.specs.SessionView.{state_of}
use Rattle.engine_store.specs.Store.{IsGoing, PartsMove, StoreIsSound, bookkeeping_of, durable_point}
use Rattle.engine_store.specs.Told.{CacheAgrees, GoesBy, IsKeptOn, IsToldBy, awaited_in, counts_of, last_map, map_now, session_of, store_state}
use Rattle.engine_store.proofs.Awaiting.{called_awaits}
use Rattle.engine_store.proofs.CommitSets.{same_by_some}
use Rattle.engine_store.proofs.Going.{durable_few}
use Rattle.engine_store.proofs.LastMap.{LastMapLaws, bytes_are}
use Rattle.engine_store.proofs.PipelineBytes.{writes_noticed, still_none, cache_still}
use Rattle.engine_store.proofs.Windows.{BeginsSafe, by_moment}

-- What the laws say that a call rests on: of the newest payloads, of the books, of the store's numbers and of crashes.
pub record Laws : Type 0 where
  pub last_map_is : LastMapLaws
  pub begins : BeginsSafe
  pub released : (v : TransactionBooks) (dead : DeadBlocks) (last : Blocks) → BeganAt v last → BeganAt (record v { dead = dead }) last
  pub map : (v : TransactionBooks) (last next : Blocks) → AreKept v → BeganAt v last → HasSameLive v last next → map_of v next ≡ map_of v last
  pub began : (v : TransactionBooks) (last next : Blocks) → AreKept v → BeganAt v last → HasSameLive v last next → BeganAt v next
  pub moves : (v w : StoreParts) (headers : ℕ) → headers ≤ 4 → PartsMove headers v w → v.floor ≤ w.floor → MovesPipeline (bookkeeping_of v) (bookkeeping_of w)
  pub goes_on : (v w : StoreParts) (headers : ℕ) → StoreIsSound v → v.stopped ≡ false → PartsMove headers v w → IsSound w.pipeline w.ring w.books.dead → w.floor ≡ durable_point w → StoreIsSound w
  pub rises : (v w : StoreParts) (headers : ℕ) → StoreIsSound v → v.stopped ≡ false → PartsMove headers v w → w.floor ≡ durable_point w → v.floor ≤ w.floor
  pub stops : (v w : StoreParts) (headers : ℕ) → StoreIsSound v → PartsMove headers v w → w.stopped ≡ true → w.floor ≡ v.floor → StoreIsSound w
  pub advances : (s : MountedSession) (base : Blocks) (old new : List Event) (l n : Ledger) (j k : Bookkeeping) (c d : Counts) (a b : Blocks) (v w : StoreParts) (t floor since low : ℕ) → IsSafe s base old l t floor → Grows old new → IsSafe s base new n since low → since ≤ length old → j.floor ≤ low
      → j.point ≡ next_number l - s.first → next_number n - s.first ≤ k.point → j.floor ≤ k.floor → ((p u : ℕ) → awaited_in w p u → awaited_in v p u ⊎ AwaitsSince (state_of s j c a base old (awaited_in v)) p u) → Advances (state_of s j c a base old (awaited_in v)) (state_of s k d b base new (awaited_in w))
  pub tells_none : (s : MountedSession) (base : Blocks) (log more : List Event) (l k : Ledger) (t floor : ℕ) → IsSafe s base log l t floor → (from low : ℕ) → IsSafe s base (log ++ more) k from low → next_number k ≡ next_number l → records_told s (log ++ more) ≡ records_told s log

-- the answers of a call of the pipeline
abbrev done : Unit {0} → Result (Unit {0}) DiskFault
done a = Ok a

abbrev failed : DiskFault → Result (Unit {0}) DiskFault
failed x = Err x

-- Counts of waits.

-- a count of 64 bits never falls, and stays one of 64 bits
count_stays : (made n : ℕ) → n < 2 ^ 64 → (n ≤ after_calls made n) × (after_calls made n < 2 ^ 64)
count_stays zero n low = (omega arith, low)
count_stays (suc made) n low = let was = count_stays made n low in (omega (arith, was.0, was.1), omega (arith, was.0, was.1))

-- Windows.

-- a disk that is safe from a floor on is so from a lower one on
lower_floor : (s : MountedSession) (base : Blocks) (log : List Event) (l : Ledger) (t floor low : ℕ) → low ≤ floor → IsSafe s base log l t floor → IsSafe s base log l t low
lower_floor s base log l t floor low le safe = record {
  keeps = safe.keeps;
  points = safe.points;
  low = omega (arith, safe.low, le);
  window = record { each = λ k img from upto honest. ∥∥₁_map (safe.window.each k img from upto honest) (λ (h : HoldsPoint s base log floor (next_number l - s.first) img). record { map = h.map; held = h.held; point = h.point; from = omega (arith, h.from, le); upto = h.upto; is = h.is }) };
}

-- Whichever ledgers tell a disk before and after a call, time went on: where the log has grown, the truncation can be dropped.
some_advances : (s : MountedSession) (base : Blocks) (log more : List Event) (j k : Bookkeeping) (c d : Counts) (a b : Blocks) (v w : StoreParts) → ((p u : ℕ) → awaited_in w p u → awaited_in v p u ⊎ AwaitsSince (state_of s j c a base log (awaited_in v)) p u) → ∥ Advances (state_of s j c a base log (awaited_in v)) (state_of s k d b base (log ++ more) (awaited_in w)) ∥₁
    → Advances (state_of s j c a base log (awaited_in v)) (state_of s k d b base (log ++ more) (awaited_in w))
some_advances s base log more j k c d a b v w awaits some = record {
  base = refl;
  grows = record { more = more; log = refl };
  window = λ img left. ∥∥₁_elim some ∥∥₁_prop (λ go. go.window img left);
  earlier = λ u img from left. ⊎_elim (λ old. inl old) (λ new. inr (∥∥₁_elim some ∥∥₁_prop (λ go. go.window img new))) (by_moment s base log more u img left);
  holds = λ img m. (λ is. is, λ is. is);
  sure = λ log p. (λ is. is, λ is. is);
  records = record { told = refl; starts = λ log n. (λ is. is, λ is. is) };
  point = λ p m le. (λ is. ∥∥₁_elim some ∥∥₁_prop (λ go. (go.point p m le).0 is), λ is. ∥∥₁_elim some ∥∥₁_prop (λ go. (go.point p m le).1 is));
  last = ∥∥₁_elim some (search props) (λ go. go.last);
  floor = ∥∥₁_elim some (search props) (λ go. go.floor);
  awaits = awaits;
}

pub advances_by_some : (s : MountedSession) (base : Blocks) (old new : List Event) (j k : Bookkeeping) (c d : Counts) (a b : Blocks) (v w : StoreParts) → Grows old new → ((p u : ℕ) → awaited_in w p u → awaited_in v p u ⊎ AwaitsSince (state_of s j c a base old (awaited_in v)) p u) → ∥ Advances (state_of s j c a base old (awaited_in v)) (state_of s k d b base new (awaited_in w)) ∥₁
    → Advances (state_of s j c a base old (awaited_in v)) (state_of s k d b base new (awaited_in w))
advances_by_some s base old new j k c d a b v w grows awaits some =
    rw grows.log (some_advances s base old grows.more j k c d a b v w awaits (rw grows.log at some))

-- The ledger after a call.

-- whether it succeeded or not, the ledger has turned, and the disk is safe by it
safe_after : {A E : Type 0} (result : Result A E) (s : MountedSession) (e : State) (l : Ledger) (t floor : ℕ) (p : Pipeline) (ring : RingPlaces) (dead : DeadBlocks) (taken : List ℕ) → Leaves result s e l t floor p ring dead taken → StaysSafe s e l t floor
safe_after (Ok a) s e l t floor p ring dead taken left = record { now = left.now; turned = left.turned; safe = left.right.safe }
safe_after (Err x) s e l t floor p ring dead taken left = left

-- A call moved the parts v to w, and left the bytes of live blocks; the ledger l tells v.
module _ (laws : Laws) (headers : ℕ) (v w : StoreParts) (d e : State) (l : Ledger) (books_kept : AreKept v.books) (told : IsToldBy v d l) (goes : GoesBy v d l) (moved : PartsMove headers v w) (bytes : LeavesBytes l v.pipeline w.pipeline d e) where
  abbrev newest : Blocks
  newest = l.map_before (next_number l)

  to_ledger : (b : ℕ) → IsTrue (is_live v.books.geom newest b) → IsLiveNow l b
  to_ledger b live = subst (λ (g : Geometry). IsTrue (is_live g newest b)) told.safe.points.geom live

  last_is : HasSameLive v.books newest (last_map v d)
  last_is b live = bytes_are laws.last_map_is d.base d.log l v.pipeline v.ring v.books.dead.waiting v.books.changes.taken b told.safe.keeps goes.agrees (to_ledger b live)

  -- what is live in the last map is so in the ledger's
  live_now : (b : ℕ) → IsTrue (is_live v.books.geom (last_map v d) b) → IsLiveNow l b
  live_now b live = to_ledger b (sym (laws.last_map_is.live v.books newest (last_map v d) b books_kept last_is) ∙ live)

  -- the last map stays on its live blocks
  stays : HasSameLive v.books (last_map v d) (last_map w e)
  stays b live = bytes.bytes b (live_now b live)

  live_before : (b : ℕ) → IsTrue (is_live w.books.geom (last_map w e) b) → IsTrue (is_live v.books.geom (last_map v d) b)
  live_before b live = sym (laws.last_map_is.live v.books (last_map v d) (last_map w e) b books_kept stays) ∙ subst (λ (x : TransactionBooks). IsTrue (is_live x.geom (last_map w e) b)) moved.books live

  began_then : BeganAt w.books (last_map w e)
  began_then = subst (λ (x : TransactionBooks). BeganAt x (last_map w e)) (sym moved.books) (laws.released v.books w.books.dead (last_map w e) (laws.began v.books (last_map v d) (last_map w e) books_kept told.began stays))

  whole_then : (b : ℕ) → IsTrue (is_live w.books.geom (last_map w e) b) → length (last_map w e b) ≡ 1024
  whole_then b live = ap length (stays b (live_before b live)) ∙ told.whole b (live_before b live)

  cache_then : LosesFront (kept v.pipeline) (kept w.pipeline) → CacheAgrees w e
  cache_then front = record {
    newest = λ b live there. still_none v.pipeline w.pipeline b front (goes.cache.newest b (live_before b live) (subst (λ (c : Cache). IsKept b c) moved.cache there));
    same = λ b live. subst (λ (c : Cache). IsTheDisks b c e) (sym moved.cache)
        (cache_still v.pipeline w.pipeline d e v.cache b front (laws.last_map_is.calm d.base d.log l v.pipeline v.ring v.books.dead.waiting v.books.changes.taken b told.safe.keeps goes.agrees (live_now b (live_before b live)))
        (goes.cache.newest b (live_before b live)) (stays b (live_before b live)) (goes.cache.same b (live_before b live)));
  }

  -- the map now stays
  map_then : map_now w e ≡ map_now v d
  map_then = ap (λ (x : TransactionBooks). map_of x (last_map w e)) moved.books ∙ laws.map v.books (last_map v d) (last_map w e) books_kept told.began stays

-- what tells the store, as the pipeline's calls ask for it
right_before : (v : StoreParts) (d : State) (l : Ledger) → IsToldBy v d l → GoesBy v d l → IsRightOn (session_of v) d l (length d.log) v.floor v.pipeline v.ring v.books.dead v.books.changes.taken
right_before v d l told goes = record { safe = told.safe; agrees = goes.agrees; serves = goes.serves }

-- the session is the same
same_session : (headers : ℕ) (v w : StoreParts) → PartsMove headers v w → session_of w ≡ session_of v
same_session headers v w m = λ i. record { geom = (m.books i).geom; epoch = m.moves.epoch i; mounted = m.mounted i; first = m.first i }

-- The parts behind the call: their floor and whether they have stopped is all that is new.

moved_on : {A E : Type 0} (result : Result A E) (headers : ℕ) (v w : StoreParts) → PartsMove headers v w → PartsMove headers v (settled_up result w)
moved_on (Ok a) headers v w m = record { moves = m.moves; books = m.books; dead = m.dead; cache = m.cache; mounted = m.mounted; first = m.first; point = m.point }
moved_on (Err x) headers v w m = record { moves = m.moves; books = m.books; dead = m.dead; cache = m.cache; mounted = m.mounted; first = m.first; point = m.point }

-- The store is told behind the call.

told_ok : (laws : Laws) (headers : ℕ) (a : Unit {0}) (v w : StoreParts) (d e : State) (l : Ledger) → StoreIsSound v → IsToldBy v d l → GoesBy v d l → PartsMove headers v w → LosesFront (kept v.pipeline) (kept w.pipeline) → IsSound w.pipeline w.ring w.books.dead → LeavesBytes l v.pipeline w.pipeline d e → w.stopped ≡ false → is_first_settled w.pipeline.committed.items w.pipeline.notes.notes ≡ false → (e.manner.waits_alone ≡ true → HearsAll e.log w.pipeline)
    → (stay : StaysRight (session_of v) e.base e.log l (length d.log) v.floor w.pipeline w.ring w.books.dead v.books.changes.taken) → IsToldBy (settled_up (done a) w) e stay.now
told_ok laws headers a v w d e l s told goes m front sound bytes still_going due heard stay = record {
  safe = subst (λ (x : MountedSession). IsSafe x e.base e.log stay.now (length e.log) (durable_point w)) (sym (same_session headers v w m))
      (lower_floor (session_of v) e.base e.log stay.now (length e.log) (stay.now.known - v.first) (durable_point w) low (laws.begins (session_of v) e.base e.log stay.now (length d.log) v.floor stay.right.safe));
  made = omega (arith, told.made, stay.turned.next, m.first, m.point);
  began = began_then laws headers v w d e l s.kept told goes m bytes;
  whole = whole_then laws headers v w d e l s.kept told goes m bytes;
  going = λ still. record {
    agrees = subst (λ (x : TransactionBooks). PipelineAgrees e.base e.log stay.now w.pipeline w.ring w.books.dead.waiting x.changes.taken) (sym m.books) stay.right.agrees;
    serves = stay.right.serves;
    next = omega (arith, goes.next, stay.turned.next, m.first, m.point);
    due = due;
    heard = heard;
    cache = record { newest = cache.newest; same = cache.same };
  };
  failed = λ stopped. absurd (false≢true (sym still_going ∙ stopped));
}
  where
    cache : CacheAgrees w e
    cache = cache_then laws headers v w d e l s.kept told goes m bytes front

    low : durable_point w ≤ stay.now.known - v.first
    low = omega (arith, stay.right.agrees.known, ap (λ (h : Header). h.start) stay.right.agrees.header, sound.order.sure, m.first)

told_err : (laws : Laws) (headers : ℕ) (x : DiskFault) (v w : StoreParts) (d e : State) (l : Ledger) → StoreIsSound v → IsToldBy v d l → GoesBy v d l → PartsMove headers v w → w.floor ≡ v.floor → LeavesBytes l v.pipeline w.pipeline d e → HasFailed e
    → (stay : StaysSafe (session_of v) e l (length d.log) v.floor) → IsToldBy (settled_up (failed x) w) e stay.now
told_err laws headers x v w d e l s told goes m floor bytes cause stay = record {
  safe = subst (λ (x : MountedSession). IsSafe x e.base e.log stay.now (length e.log) w.floor) (sym (same_session headers v w m))
      (lower_floor (session_of v) e.base e.log stay.now (length e.log) (stay.now.known - v.first) w.floor (omega (arith, stay.safe.low, floor)) (laws.begins (session_of v) e.base e.log stay.now (length d.log) v.floor stay.safe));
  made = omega (arith, told.made, stay.turned.next, m.first, m.point);
  began = began_then laws headers v w d e l s.kept told goes m bytes;
  whole = whole_then laws headers v w d e l s.kept told goes m bytes;
  going = λ still. absurd (false≢true (sym still));
  failed = λ stopped. cause;
}

told_then : (laws : Laws) (tells : Bool) (headers : ℕ) (result : Result (Unit {0}) DiskFault) (v w : StoreParts) (d e : State) → IsTrue tells → StoreIsSound v → v.stopped ≡ false → CallsPipeline tells headers result v w d e → (l : Ledger) → IsToldBy v d l → (k : Ledger) × IsToldBy (settled_up result w) e k
told_then laws tells headers (Ok a) v w d e t s going c l told =
    let goes = told.going going in
    let right = right_before v d l told goes in
    let stay = c.right t (session_of v) l (length d.log) v.floor v.books.changes.taken right in
    (stay.now, told_ok laws headers a v w d e l s told goes c.moves c.front c.sound (c.bytes t (session_of v) l (length d.log) v.floor v.books.changes.taken right) (c.stopped ∙ going) (c.due t (session_of v) l (length d.log) v.floor v.books.changes.taken right) (λ alone. c.heard t (session_of v) l (length d.log) v.floor v.books.changes.taken right (still_alone alone) (goes.heard (still_alone alone))) stay)
  where
    still_alone : e.manner.waits_alone ≡ true → d.manner.waits_alone ≡ true
    still_alone alone = ap (λ (m : Manner). m.waits_alone) (sym c.spends.same.manner) ∙ alone
told_then laws tells headers (Err x) v w d e t s going c l told =
    let goes = told.going going in
    let right = right_before v d l told goes in
    let stay = c.right t (session_of v) l (length d.log) v.floor v.books.changes.taken right in
    (stay.now, told_err laws headers x v w d e l s told goes c.moves c.floor (c.bytes t (session_of v) l (length d.log) v.floor v.books.changes.taken right) (c.cause t (session_of v) l (length d.log) v.floor v.books.changes.taken right) stay)

-- The store is kept.

sound_then : (laws : Laws) (tells : Bool) (headers : ℕ) (result : Result (Unit {0}) DiskFault) (v w : StoreParts) (d e : State) → StoreIsSound v → v.stopped ≡ false → CallsPipeline tells headers result v w d e → StoreIsSound (settled_up result w)
sound_then laws tells headers (Ok a) v w d e s going c = laws.goes_on v (settled_up (done a) w) headers s going (moved_on (done a) headers v w c.moves) c.sound refl
sound_then laws tells headers (Err x) v w d e s going c = laws.stops v (settled_up (failed x) w) headers s (moved_on (failed x) headers v w c.moves) refl c.floor

-- the parts but the floor and whether the store stopped are those behind the call
books_on : {A E : Type 0} (result : Result A E) (w : StoreParts) → (settled_up result w).books ≡ w.books
books_on (Ok a) w = refl
books_on (Err x) w = refl

pub keeps_of : (laws : Laws) (tells : Bool) (headers : ℕ) (result : Result (Unit {0}) DiskFault) (v w : StoreParts) (d e : State) → headers ≤ 4 → IsKeptOn tells v d → v.stopped ≡ false → CallsPipeline tells headers result v w d e → IsKeptOn tells (settled_up result w) e
keeps_of laws tells headers result v w d e few k going c = record {
  size = c.spends.same.blocks ∙ k.size ∙ ap (λ (x : TransactionBooks). x.geom.n) (sym c.moves.books ∙ sym (books_on result w));
  waits = subst (λ n. n < 2 ^ 64) (sym c.spends.waits) (count_stays c.made d.waits k.waits).1;
  sound = sound_then laws tells headers result v w d e k.sound going c;
  told = λ t. ∥∥₁_map (k.told t) (λ (p : (l : Ledger) × IsToldBy v d l). told_then laws tells headers result v w d e t k.sound going c p.0 p.1);
}

-- The pipeline runs.

stopped_then : (tells : Bool) (headers : ℕ) (result : Result (Unit {0}) DiskFault) (v w : StoreParts) (d e : State) → v.stopped ≡ false → CallsPipeline tells headers result v w d e → (settled_up result w).stopped ≡ is_err result
stopped_then tells headers (Ok a) v w d e going c = c.stopped ∙ going
stopped_then tells headers (Err x) v w d e going c = refl

floor_then : (laws : Laws) (tells : Bool) (headers : ℕ) (result : Result (Unit {0}) DiskFault) (v w : StoreParts) (d e : State) → StoreIsSound v → v.stopped ≡ false → CallsPipeline tells headers result v w d e → v.floor ≤ (settled_up result w).floor
floor_then laws tells headers (Ok a) v w d e s going c = laws.rises v (settled_up (done a) w) headers s going (moved_on (done a) headers v w c.moves) refl
floor_then laws tells headers (Err x) v w d e s going c = omega (arith, c.floor)

-- u has the pipeline and the books of the parts behind the call
module _ (laws : Laws) (tells : Bool) (headers : ℕ) (result : Result (Unit {0}) DiskFault) (v w u : StoreParts) (d e : State) (before then : ℕ) (few : headers ≤ 4) (k : IsKeptOn tells v d) (going : v.stopped ≡ false) (c : CallsPipeline tells headers result v w d e)
    (moved : PartsMove headers v u) (pipeline : u.pipeline ≡ w.pipeline) (floors : v.floor ≤ u.floor) (stops : u.stopped ≡ is_err result) where
  bytes_on : IsTrue tells → (l : Ledger) → IsToldBy v d l → LeavesBytes l v.pipeline u.pipeline d e
  bytes_on t l told = subst (λ (p : Pipeline). LeavesBytes l v.pipeline p d e) (sym pipeline) (c.bytes t (session_of v) l (length d.log) v.floor v.books.changes.taken (right_before v d l told (told.going going)))

  awaits : (p t : ℕ) → awaited_in u p t → awaited_in v p t
  awaits = called_awaits result v w u c.lost pipeline moved.first stops going

  goes_by : IsTrue tells → (l : Ledger) → IsToldBy v d l → Advances (state_of (session_of v) (bookkeeping_of v) (counts_of before d) (map_now v d) d.base d.log (awaited_in v)) (state_of (session_of v) (bookkeeping_of u) (counts_of then e) (map_now u e) d.base e.log (awaited_in u))
  goes_by t l told =
      let goes = told.going going in
      let stay = safe_after result (session_of v) e l (length d.log) v.floor w.pipeline w.ring w.books.dead v.books.changes.taken (c.right t (session_of v) l (length d.log) v.floor v.books.changes.taken (right_before v d l told goes)) in
      laws.advances (session_of v) d.base d.log e.log l stay.now (bookkeeping_of v) (bookkeeping_of u) (counts_of before d) (counts_of then e) (map_now v d) (map_now u e) v u (length d.log) v.floor (length d.log) v.floor
      told.safe (c.grows t) (subst (λ (x : Blocks). IsSafe (session_of v) x e.log stay.now (length d.log) v.floor) c.spends.same.base stay.safe) (omega arith) (omega arith) (omega (arith, goes.next)) (omega (arith, goes.next, stay.turned.next, moved.point)) floors (λ p t waits. inl (awaits p t waits))

  -- no record came, so none is told
  tells_none : IsTrue tells → TellsNone (store_state v before d) (store_state u then e)
  tells_none t = ap (λ (cs : List Commit). Some cs) (same_by_some (records_told (session_of u) e.log) (records_told (session_of v) d.log) (k.told t) (λ (p : (l : Ledger) × IsToldBy v d l).
      let stay = safe_after result (session_of v) e p.0 (length d.log) v.floor w.pipeline w.ring w.books.dead v.books.changes.taken (c.right t (session_of v) p.0 (length d.log) v.floor v.books.changes.taken (right_before v d p.0 p.1 (p.1.going going))) in
      let grown = c.grows t in
      let after = subst₂ (λ (x : Blocks) (log : List Event). IsSafe (session_of v) x log stay.now (length d.log) v.floor) c.spends.same.base grown.log stay.safe in
      ap (λ (s : MountedSession). records_told s e.log) (same_session headers v u moved) ∙ ap (records_told (session_of v)) grown.log
      ∙ laws.tells_none (session_of v) d.base d.log grown.more p.0 stay.now (length d.log) v.floor p.1.safe (length d.log) v.floor after stay.turned.next))

  runs_by : RunsPipeline tells (is_err result) (store_state v before d) (store_state u then e)
  runs_by = record {
    pipeline = laws.moves v u headers few moved floors;
    disk = record { faults = c.spends.faults; stopped = stops; read_faults = c.spends.read_faults; waits = subst (λ n. d.waits ≤ n) (sym c.spends.waits) (count_stays c.made d.waits k.waits).0 };
    map = λ t. fun_ext (λ b. ∥∥₁_elim (k.told t) (search props) (λ (p : (l : Ledger) × IsToldBy v d l). ap (λ (m : Blocks). m b) (map_then laws headers v u d e p.0 k.sound.kept p.1 (p.1.going going) moved (bytes_on t p.0 p.1))));
    crash = λ t. subst₂ (λ (s : MountedSession) (x : Blocks). Advances (store_state v before d) (state_of s (bookkeeping_of u) (counts_of then e) (map_now u e) x e.log (awaited_in u))) (sym (same_session headers v u moved)) (sym c.spends.same.base)
        (advances_by_some (session_of v) d.base d.log e.log (bookkeeping_of v) (bookkeeping_of u) (counts_of before d) (counts_of then e) (map_now v d) (map_now u e) v u (c.grows t) (λ p t waits. inl (awaits p t waits)) (∥∥₁_map (k.told t) (λ (p : (l : Ledger) × IsToldBy v d l). goes_by t p.0 p.1)));
    writes = λ t. omega (arith, c.owed t, ap writes_owed pipeline);
    told = tells_none;
  }

pub runs_of : (laws : Laws) (tells : Bool) (headers : ℕ) (result : Result (Unit {0}) DiskFault) (v w : StoreParts) (d e : State) (before then : ℕ) → headers ≤ 4 → IsKeptOn tells v d → v.stopped ≡ false → CallsPipeline tells headers result v w d e → RunsPipeline tells (is_err result) (store_state v before d) (store_state (settled_up result w) then e)
runs_of laws tells headers result v w d e before then few k going c =
    runs_by laws tells headers result v w (settled_up result w) d e before then few k going c (moved_on result headers v w c.moves) (pipeline_on result) (floor_then laws tells headers result v w d e k.sound going c) (stopped_then tells headers result v w d e going c)
  where
    pipeline_on : (r : Result (Unit {0}) DiskFault) → (settled_up r w).pipeline ≡ w.pipeline
    pipeline_on (Ok a) = refl
    pipeline_on (Err x) = refl

-- The floor that is taken anew.

-- what is always so is so where a call succeeded
pub either : {P : Type 0} (result : Result (Unit {0}) DiskFault) → P → OnOk result P
either (Ok a) p = p
either (Err x) p = tt

-- the number that is taken fits 64 bits
pub durable_fits : (result : Result (Unit {0}) DiskFault) (v q : Pipeline) (ring : RingPlaces) (dead : DeadBlocks) → OnOk result (IsSound q ring dead) → q.last ≡ v.last → HasTurns v → OnOk result (q.header.start + durable_count q < 2 ^ 64)
durable_fits (Ok a) v q ring dead sound last turns = omega (arith, durable_few q sound.order, last, turns.last)
durable_fits (Err x) v q ring dead sound last turns = tt

-- where the record of a point is durable, the floor is that point or a later one
pub point_is_durable : (tells : Bool) (answer result : Result (Unit {0}) DiskFault) (v w u : StoreParts) (e : State) (n : ℕ) → IsGoing v → IsKeptOn tells u e → w.stopped ≡ false → w.first ≡ v.first → 0 < n → n ≤ v.point → answer ≡ result → u ≡ settled_up result w
    → OnOk result (v.first + (n - 1) ≤ v.pipeline.last → v.first + (n - 1) < w.pipeline.header.start + durable_count w.pipeline) → OnOk answer (n ≤ u.floor)
point_is_durable tells answer (Ok a) v w u e n was k going first some there same at durable = rw same (subst (λ (x : StoreParts). IsKeptOn tells x e → n ≤ x.floor) (sym at) above k)
  where
    above : IsKeptOn tells (settled_up (done a) w) e → n ≤ durable_point w
    above kept = omega (arith, durable (omega (arith, was.number, some, there)), (kept.sound.going going).floor, first, some)
point_is_durable tells answer (Err x) v w u e n was k going first some there same at durable = subst (λ (r : Result (Unit {0}) DiskFault). OnOk r (n ≤ u.floor)) (sym same) tt

-- From what the pipeline's calls say to a call as the law takes it.

-- the parts, with these in place of their own
abbrev pub with_moved : StoreParts → Pipeline → RingPlaces → DeadBlocks → StoreParts
with_moved v q ring dead = record v { ring = ring; pipeline = q; books = record v.books { dead = dead } }

-- an advance or a drain, of the dead blocks that the books lent
pub stepped : (tells : Bool) (headers : ℕ) (result : Result (Unit {0}) DiskFault) (v : StoreParts) (q : Pipeline) (ring : RingPlaces) (dead next : DeadBlocks) (d e : State) (made asked : ℕ) → dead ≡ v.books.dead → Moves headers v.pipeline q v.ring ring dead next → AreSound next → OnOk result (IsSound q ring next) → LosesFront (kept v.pipeline) (kept q) → Spends (is_err result) made asked d e
    → (IsTrue tells → AddsHome result (kept v.pipeline) d.log e.log)
    → (IsTrue tells → (s : MountedSession) (l : Ledger) (t floor : ℕ) (taken : List ℕ) → IsRightOn s d l t floor v.pipeline v.ring dead taken → Leaves result s e l t floor q ring next taken)
    → (IsTrue tells → (s : MountedSession) (l : Ledger) (t floor : ℕ) (taken : List ℕ) → IsRightOn s d l t floor v.pipeline v.ring dead taken → LeavesBytes l v.pipeline q d e)
    → (IsTrue tells → (s : MountedSession) (l : Ledger) (t floor : ℕ) (taken : List ℕ) → IsRightOn s d l t floor v.pipeline v.ring dead taken → OnErr result (HasFailed e))
    → (IsTrue tells → (s : MountedSession) (l : Ledger) (t floor : ℕ) (taken : List ℕ) → IsRightOn s d l t floor v.pipeline v.ring dead taken → OnOk result (is_first_settled q.committed.items q.notes.notes ≡ false))
    → OnOk result (LosesCommitted v.pipeline q)
    → (IsTrue tells → (s : MountedSession) (l : Ledger) (t floor : ℕ) (taken : List ℕ) → IsRightOn s d l t floor v.pipeline v.ring dead taken → OnOk result (StaysHeard d e v.pipeline q))
    → (IsTrue tells → writes_in e.log + writes_owed q ≤ writes_in d.log + writes_owed v.pipeline) → CallsPipeline tells headers result v (with_moved v q ring next) d e
stepped tells headers result v q ring dead next d e made asked lent moves lawful sound front spends adds right bytes cause due lost heard owed = record {
  moves = record { moves = subst (λ (x : DeadBlocks). Moves headers v.pipeline q v.ring ring x next) lent moves; books = refl; dead = lawful; cache = refl; mounted = refl; first = refl; point = refl };
  floor = refl;
  stopped = refl;
  sound = sound;
  front = front;
  made = made;
  asked = asked;
  spends = spends;
  grows = λ t. record { more = (adds t).more; log = (adds t).log };
  right = λ t s l u floor taken was. right t s l u floor taken (subst (λ (x : DeadBlocks). IsRightOn s d l u floor v.pipeline v.ring x taken) (sym lent) was);
  bytes = λ t s l u floor taken was. bytes t s l u floor taken (subst (λ (x : DeadBlocks). IsRightOn s d l u floor v.pipeline v.ring x taken) (sym lent) was);
  cause = λ t s l u floor taken was. cause t s l u floor taken (subst (λ (x : DeadBlocks). IsRightOn s d l u floor v.pipeline v.ring x taken) (sym lent) was);
  due = λ t s l u floor taken was. due t s l u floor taken (subst (λ (x : DeadBlocks). IsRightOn s d l u floor v.pipeline v.ring x taken) (sym lent) was);
  lost = lost;
  heard = λ t s l u floor taken was. heard t s l u floor taken (subst (λ (x : DeadBlocks). IsRightOn s d l u floor v.pipeline v.ring x taken) (sym lent) was);
  owed = owed;
}

-- a wait for records, which adds notices alone
pub waited : (tells : Bool) (result : Result (Unit {0}) DiskFault) (v : StoreParts) (q : Pipeline) (d e : State) (made : ℕ) → ((s : MountedSession) (l : Ledger) (t floor : ℕ) (v w : Pipeline) (ring : RingPlaces) (dead : DeadBlocks) (taken : List ℕ) (d e : State) → IsRightOn s d l t floor v ring dead taken → SameDisk d e → OnlyNotices d.log e.log → kept w ≡ kept v → LeavesBytes l v w d e)
    → Moves 0 v.pipeline q v.ring v.ring v.books.dead v.books.dead → AreSound v.books.dead → IsSound q v.ring v.books.dead → kept q ≡ kept v.pipeline → Spends (is_err result) made 0 d e → (IsTrue tells → OnlyNotices d.log e.log)
    → (IsTrue tells → (s : MountedSession) (l : Ledger) (t floor : ℕ) (ring : RingPlaces) (dead : DeadBlocks) (taken : List ℕ) → IsRightOn s d l t floor v.pipeline ring dead taken → Leaves result s e l t floor q ring dead taken)
    → (IsTrue tells → NotesAreGiven d.log v.pipeline.notes.notes → OnErr result (HasFailed e))
    → OnOk result (is_first_settled q.committed.items q.notes.notes ≡ false)
    → OnOk result (LosesCommitted v.pipeline q)
    → (IsTrue tells → (s : MountedSession) (l : Ledger) (t floor : ℕ) (ring : RingPlaces) (dead : DeadBlocks) (taken : List ℕ) → IsRightOn s d l t floor v.pipeline ring dead taken → OnOk result (StaysHeard d e v.pipeline q))
    → writes_owed q ≡ writes_owed v.pipeline → CallsPipeline tells 0 result v (record v { pipeline = q }) d e
waited tells result v q d e made noticed moves lawful sound same spends adds right cause due lost heard owed = record {
  moves = record { moves = moves; books = refl; dead = lawful; cache = refl; mounted = refl; first = refl; point = refl };
  floor = refl;
  stopped = refl;
  sound = either result sound;
  front = record { count = 0; rest = same };
  made = made;
  asked = 0;
  spends = spends;
  grows = λ t. record { more = notices (adds t).tickets; log = (adds t).log };
  right = λ t s l u floor taken was. right t s l u floor v.ring v.books.dead taken was;
  bytes = λ t s l u floor taken was. noticed s l u floor v.pipeline q v.ring v.books.dead taken d e was spends.same (adds t) same;
  cause = λ t s l u floor taken was. cause t was.agrees.given;
  due = λ t s l u floor taken was. due;
  lost = lost;
  heard = λ t s l u floor taken was. heard t s l u floor v.ring v.books.dead taken was;
  owed = λ t. omega (arith, owed, ap writes_in (adds t).log, writes_noticed d.log (adds t).tickets);
}

-- the parts behind a call of the pipeline, once the floor was taken anew or the store stopped
pub ends : ((tells : Bool) (headers : ℕ) (result : Result (Unit {0}) DiskFault) (v w : StoreParts) (d e : State) → headers ≤ 4 → IsKeptOn tells v d → v.stopped ≡ false → CallsPipeline tells headers result v w d e → IsKeptOn tells (settled_up result w) e)
    → ((tells : Bool) (headers : ℕ) (result : Result (Unit {0}) DiskFault) (v w : StoreParts) (d e : State) (before then : ℕ) → headers ≤ 4 → IsKeptOn tells v d → v.stopped ≡ false → CallsPipeline tells headers result v w d e → RunsPipeline tells (is_err result) (store_state v before d) (store_state (settled_up result w) then e))
    → (tells : Bool) (headers : ℕ) (result answer : Result (Unit {0}) DiskFault) (v w u : StoreParts) (d e : State) → headers ≤ 4 → IsKeptOn tells v d → v.stopped ≡ false → CallsPipeline tells headers result v w d e → answer ≡ result → u ≡ settled_up result w
    → IsKeptOn tells u e × ((before then : ℕ) → RunsPipeline tells (is_err answer) (store_state v before d) (store_state u then e)) × PartsMove headers v u
ends keeps runs tells headers result answer v w u d e few k going c same is = (
  subst (λ (x : StoreParts). IsKeptOn tells x e) (sym is) (keeps tells headers result v w d e few k going c),
  λ before then. subst₂ (λ (r : Result (Unit {0}) DiskFault) (x : StoreParts). RunsPipeline tells (is_err r) (store_state v before d) (store_state x then e)) (sym same) (sym is) (runs tells headers result v w d e before then few k going c),
  subst (PartsMove headers v) (sym is) (moved_on result headers v w c.moves),
)

-- a call that moves by fewer headers moves by more at most
pub moves_more : (fewer more : ℕ) (v w : StoreParts) → fewer ≤ more → PartsMove fewer v w → PartsMove more v w
moves_more fewer more v w le m = record {
  moves = record {
    geom = m.moves.geom;
    epoch = m.moves.epoch;
    sure = m.moves.sure;
    last = m.moves.last;
    ready = m.moves.ready;
    turn = omega (arith, m.moves.turn, le);
    durable = m.moves.durable;
    ring_geom = m.moves.ring_geom;
    next_place = m.moves.next_place;
    taken = m.moves.taken;
    held = m.moves.held;
    room = m.moves.room;
    dead_geom = m.moves.dead_geom;
    reusable = m.moves.reusable;
    waiting = m.moves.waiting;
    all_dead = m.moves.all_dead;
  };
  books = m.books;
  dead = m.dead;
  cache = m.cache;
  mounted = m.mounted;
  first = m.first;
  point = m.point;
}
