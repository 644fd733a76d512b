-- Memory is made ready for a commit: how much is needed, and that what is known of the store stays.
use Rattle.std.proofs.Common.{◌≡◌, ℕ, ◌+◌, ◌-◌, ◌*◌, ◌^◌, ◌<◌, ◌≤◌, max, Bool, List, ◌++◌, length, map, drop, slice_get, None, true, IsTrue, refl, sym, ◌∙◌, ap, ap₂, subst, arith, length-append}
use Rattle.std.proofs.Math.Logic.{∥∥₁_map}
use Rattle.std.proofs.lemmas.List.{length-map}
use Rattle.std.specs.List.{All}
use Rattle.base_types.specs.Seal.{Blocks}
use Rattle.disk_contract.specs.declared.event.Event.{Event}
use Rattle.disk_contract.specs.Cell.{accepted, IsNoticed}
use Rattle.disk_contract.specs.Disk.{State}
use Rattle.layout_journal.specs.Layout.{descriptor_count}
use Rattle.layout_journal.specs.Ring.{RingPlaces}
use Rattle.layout_journal.specs.Run.{is_live, otherwise}
use Rattle.crash_argument.specs.Ledger.{Ledger}
use Rattle.crash_argument.specs.Points.{MountedSession, IsSafe}
use Rattle.engine_notes.specs.declared.notes.Note.{Note}
use Rattle.engine_notes.specs.Notes.{is_expected, is_noticed, is_open}
use Rattle.engine_running.specs.declared.commit.CommitRoom.{CommitRoom}
use Rattle.engine_running.specs.declared.commit.Committed.{Committed}
use Rattle.engine_running.specs.Commits.{HasRoomForCommit, places_for}
use Rattle.engine_running.specs.Record.{payload_entry, fresh_entry}
use Rattle.engine_running.specs.Running.{Changes}
use Rattle.engine_reuse.specs.Dead.{freed_by}
use Rattle.engine_checkpoint.specs.declared.pipeline.HomeWrite.{HomeWrite}
use Rattle.engine_checkpoint.specs.declared.pipeline.Pipeline.{Pipeline}
use Rattle.engine_checkpoint.specs.declared.pipeline.Ready.{Ready}
use Rattle.engine_checkpoint.specs.Advance.{MayServe, writes_owed}
use Rattle.engine_checkpoint.specs.Agree.{PipelineAgrees, durable_count}
use Rattle.engine_checkpoint.specs.Index.{IndexIsRight}
use Rattle.engine_checkpoint.specs.Kept.{Kept, kept, newest_in, of_committed, of_durable, of_sure, count_of, payloads_in, placed_count, places_taken, total}
use Rattle.engine_checkpoint.specs.Order.{IsInOrder, HasRoom}
use Rattle.engine_checkpoint.specs.Steps.{SamePipeline, is_first_settled, ready_upto}
use Rattle.engine_blocks.specs.Running.{record_places}
use Rattle.engine_blocks.specs.Calls.{MaySync}
use Rattle.engine_books.specs.Books.{map_of}
use Rattle.engine_books.specs.Point.{BeganAt}
use Rattle.engine_store.specs.declared.parts.StoreParts.{StoreParts}
use Rattle.engine_store.specs.Store.{StoreIsSound, IsGoing, bookkeeping_of}
use Rattle.engine_store.specs.Syncing.{IsSameStore, MayCommit}
use Rattle.engine_store.specs.Told.{IsKeptOn, IsToldBy, last_map, session_of}

-- How much is needed.

-- the places of the transaction's record, by how many payloads and fresh blocks it has
pub places_are : (q : Changes) → places_for q ≡ record_places (length q.paid) (length q.laid)
places_are q =
    ap₂ (λ e m. 1 + descriptor_count e + m)
    (length-append (map payload_entry q.paid) (map fresh_entry q.laid) ∙ ap₂ (λ m n. m + n) (length-map q.paid payload_entry) (length-map q.laid fresh_entry))
    (length-map q.paid payload_entry)

-- they are few
pub places_few : (q : Changes) → length q.paid + length q.laid ≤ 2097152 → length q.laid + places_for q < 2 ^ 32
places_few q small = omega (arith, places_are q, small)

-- a record that is within the room of a transaction fits a ring of which nothing is taken
pub places_fit : (q : Changes) (j weight : ℕ) → 0 < length q.paid → 25 * length q.paid + length q.laid ≤ weight → weight ≤ 24 * (j - 2) → places_for q ≤ j
places_fit q j weight some fits room = omega (arith, places_are q, some, fits, room)

-- The pipeline stays.

module _ (p q : Pipeline) (same : SamePipeline p q) where
  pub kept_same : kept q ≡ kept p
  kept_same = λ i. map of_sure (same.sure i) ++ (map of_durable (same.durable i) ++ map of_committed (same.committed i))

  durable_same : durable_count q ≡ durable_count p
  durable_same = λ i. length (same.placed i) + length (same.sure i) + length (same.durable i)

  owed_same : writes_owed q ≡ writes_owed p
  owed_same = λ i. payloads_in (drop (same.rest i).batch (kept_same i)) + ((same.rest i).last - (same.rest i).written.sure) + ((same.rest i).last + 1 - (same.rest i).written.start)

  taken_same : places_taken q ≡ places_taken p
  taken_same = λ i. total (map placed_count (same.placed i)) + total (map count_of (kept_same i))

-- The store stays.

module _ (v : StoreParts) (q : Pipeline) (same : SamePipeline v.pipeline q) where
  abbrev w : StoreParts
  w = record v { pipeline = q }

  books_same : bookkeeping_of w ≡ bookkeeping_of v
  books_same = λ i. record (bookkeeping_of v) { turns = max (same.rest i).written.turn ((same.rest i).last + 1); owed = owed_same v.pipeline q same i }

  session_same : session_of w ≡ session_of v
  session_same = λ i. record { geom = v.books.geom; epoch = (same.rest i).header.epoch; mounted = v.mounted; first = v.first }

  last_same : (d : State) → last_map w d ≡ last_map v d
  last_same d = λ i b. otherwise (newest_in None (kept_same v.pipeline q same i) b) (accepted d.base d.log b)

  pub same_store : IsSameStore v w
  same_store = record { books = books_same; session = session_same; map = λ d. ap (map_of v.books) (last_same d); awaits = record { stopped = refl; first = refl; committed = same.committed } }

  -- what was made ready is enough for the commit
  pub may_commit : (r : CommitRoom) (writes payloads : ℕ) → q.ready ≡ ready_upto writes payloads v.pipeline.ready → length v.books.changes.laid + places_for v.books.changes ≤ writes → length v.books.changes.paid ≤ payloads → HasRoomForCommit v.books.changes r
      → 0 < v.books.weight → MaySync (bookkeeping_of v) → MayCommit w r
  may_commit r writes payloads ready enough_writes enough_payloads room weight may = record {
    sync = subst MaySync (sym books_same) may;
    weight = weight;
    ready = record {
      records = omega (arith, ap (λ (x : Ready). x.records) ready);
      writes = omega (arith, ap (λ (x : Ready). x.writes) ready, enough_writes);
      payloads = omega (arith, ap (λ (x : Ready). x.payloads) ready, enough_payloads);
    };
    room = room;
  }

  -- what the pipeline promises of itself
  module _ (order : IsInOrder q) (has_room : HasRoom q) (index : IndexIsRight v.pipeline → IndexIsRight q)
      (agrees : (base : Blocks) (log : List Event) (l : Ledger) (ring : RingPlaces) (waiting : List (ℕ × ℕ)) (taken : List ℕ) → PipelineAgrees base log l v.pipeline ring waiting taken → PipelineAgrees base log l q ring waiting taken) where
    still_going : IsGoing v → IsGoing w
    still_going g = record {
      sound = record {
        order = order;
        room = has_room;
        index = index g.sound.index;
        goes_with = record {
          ring_geom = g.sound.goes_with.ring_geom ∙ sym (ap (λ (x : Pipeline). x.geom) same.rest);
          taken = g.sound.goes_with.taken ∙ sym (taken_same v.pipeline q same);
          dead_geom = g.sound.goes_with.dead_geom ∙ sym (ap (λ (x : Pipeline). x.geom) same.rest);
          waiting = subst (λ (n : ℕ). All (λ x. freed_by x ≤ n) v.books.dead.waiting) (sym (ap (λ (x : Pipeline). x.last) same.rest)) g.sound.goes_with.waiting;
        };
      };
      number = g.number ∙ ap (λ n. n + 1) (sym (ap (λ (x : Pipeline). x.last) same.rest));
      first = omega (arith, g.first, ap (λ (x : Pipeline). x.header.sure) same.rest);
      floor = g.floor ∙ ap₂ (λ (x : Pipeline) (n : ℕ). x.header.start + n) (sym same.rest) (sym (durable_same v.pipeline q same));
    }

    still_sound : StoreIsSound v → StoreIsSound w
    still_sound s = record { kept = s.kept; ring_geom = s.ring_geom; pipeline_geom = ap (λ (x : Pipeline). x.geom) same.rest ∙ s.pipeline_geom; floor = s.floor; going = λ e. still_going (s.going e) }

    still_serves : (l : Ledger) → MayServe l v.pipeline v.books.dead → MayServe l q v.books.dead
    still_serves l s = record {
      dead_now = s.dead_now;
      not_going = λ k h at opens. s.not_going k h (ap (λ (hs : List HomeWrite). slice_get hs k) (sym same.home) ∙ at) (ap (λ (ns : List Note). is_open h.ticket ns) (sym same.notes) ∙ opens);
    }

    still_told : (d : State) (l : Ledger) → IsToldBy v d l → IsToldBy w d l
    still_told d l t = record {
      safe = subst (λ (s : MountedSession). IsSafe s d.base d.log l (length d.log) v.floor) (sym session_same) t.safe;
      made = t.made;
      began = subst (λ (m : Blocks). BeganAt v.books m) (sym (last_same d)) t.began;
      whole = subst (λ (m : Blocks). (b : ℕ) → IsTrue (is_live v.books.geom m b) → length (m b) ≡ 1024) (sym (last_same d)) t.whole;
      going = λ e. let g = t.going e in record {
        agrees = agrees d.base d.log l v.ring v.books.dead.waiting v.books.changes.taken g.agrees;
        serves = still_serves l g.serves;
        next = g.next;
        due = ap₂ (λ (cs : List Committed) (ns : List Note). is_first_settled cs ns) same.committed same.notes ∙ g.due;
        heard = λ alone. subst (λ (ns : List Note). (t : ℕ) → is_expected t ns ≡ true → IsNoticed t d.log → is_noticed t ns ≡ true) (sym same.notes) (g.heard alone);
        cache = record {
          newest = λ b live there. ap (λ (ks : List Kept). newest_in None ks b) (kept_same v.pipeline q same) ∙ g.cache.newest b (subst (λ (m : Blocks). IsTrue (is_live v.books.geom m b)) (last_same d) live) there;
          same = λ b live. g.cache.same b (subst (λ (m : Blocks). IsTrue (is_live v.books.geom m b)) (last_same d) live);
        };
      };
      failed = t.failed;
    }

    pub still_kept : (tells : Bool) (d : State) → IsKeptOn tells v d → IsKeptOn tells w d
    still_kept tells d k = record { size = k.size; waits = k.waits; sound = still_sound k.sound; told = λ t. ∥∥₁_map (k.told t) (λ x. (x.0, still_told d x.0 x.1)) }
