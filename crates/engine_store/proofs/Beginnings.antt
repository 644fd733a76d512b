-- What a store keeps as it begins, and with which map: new parts on a disk on which a session has begun.
use Rattle.std.proofs.Common.{◌≡◌, ⊎_elim, ℕ, zero, suc, ◌+◌, ◌-◌, ◌^◌, ◌<◌, ◌≤◌, nat_le, nat_lt, ◌&&◌, ◌||◌, not, ◌==◌, if◌then◌else◌, Bool, true, false, IsTrue, List, [], ◌∷◌, ◌++◌, length, map, drop, None, option_map, refl, sym, ◌∙◌, ap, ap₂, subst, arith}
use Rattle.std.proofs.lemmas.Bool.{cases_lt, le-ltb, lt-ltb, false≢true}
use Rattle.std.specs.List.{filter, range_with_len}
use Rattle.std.proofs.Props.{props}
use Rattle.std.proofs.Math.Logic.{∥∥₁_elim}
use mathlib.Core.Path.{fun_ext}
use Rattle.base_types.specs.Counts.{after_calls}
use Rattle.base_types.specs.Seal.{Blocks}
use Rattle.engine_cache.specs.Cache.{Cache, Agrees, empty_cache}
use Rattle.disk_contract.specs.declared.event.Event.{Event}
use Rattle.disk_contract.specs.declared.event.Event.TheVariants.{Wrote, Lost, Noticed}
use Rattle.disk_contract.specs.Cell.{accepted, accepted_from}
use Rattle.disk_contract.specs.Disk.{State}
use Rattle.disk_contract.specs.Lawful.{IsSoundDisk, AreEventsOf}
use Rattle.layout_geometry.specs.Geometry.{Geometry, bitmap_start, data_start}
use Rattle.layout_bytes.specs.Bitmap.{is_set}
use Rattle.layout_journal.specs.declared.header.Header.{Header}
use Rattle.layout_journal.specs.Run.{is_live, live_part, otherwise, or_else}
use Rattle.crash_argument.specs.HomeTest.{is_one_of}
use Rattle.crash_argument.specs.Ledger.{Ledger}
use Rattle.crash_argument.specs.Mounting.{HasBegun}
use Rattle.crash_argument.specs.Points.{MountedSession, IsPoint, IsSafe, session_at_mount}
use Rattle.engine_notes.specs.declared.notes.Note.{Note}
use Rattle.engine_notes.specs.Notes.{is_expected}
use Rattle.engine_running.specs.declared.put.Put.{Put}
use Rattle.engine_running.specs.declared.commit.Committed.{Committed}
use Rattle.engine_running.specs.declared.states.Durable.{Durable}
use Rattle.engine_running.specs.declared.states.Sure.{Sure}
use Rattle.engine_running.specs.declared.states.Placed.{Placed}
use Rattle.engine_running.specs.Rows.{put_of}
use Rattle.engine_running.specs.Running.{IsEmpty}
use Rattle.engine_reuse.specs.Dead.{DeadBlocks}
use Rattle.engine_checkpoint.specs.declared.pipeline.Pipeline.{Pipeline}
use Rattle.engine_checkpoint.specs.Advance.{IsRight, IsSound}
use Rattle.engine_checkpoint.specs.Agree.{PipelineAgrees, durable_count}
use Rattle.engine_checkpoint.specs.Kept.{behind_batch, kept, newest_in, payloads_in, of_committed, of_durable, of_sure}
use Rattle.engine_checkpoint.specs.Steps.{is_first_settled}
use Rattle.engine_mount.specs.Mount.{OpensAnew}
use Rattle.engine_blocks.specs.declared.role.Role.{Role}
use Rattle.engine_blocks.specs.declared.role.Role.TheVariants.{Untouched}
use Rattle.engine_blocks.specs.Running.{count_roles, is_bare, is_fresh, is_payload}
use Rattle.engine_blocks.specs.State.{defined_by}
use Rattle.engine_blocks.specs.Crashes.{IsBegun}
use Rattle.engine_books.specs.Books.{TransactionBooks, bit_now, bytes_over, has_put, is_marked, map_of, role_by, roles_of}
use Rattle.engine_books.specs.Point.{BeganAt, HasBitmap}
use Rattle.engine_store.specs.declared.parts.StoreParts.{StoreParts}
use Rattle.engine_store.specs.Mounting.{AreNewParts, BeginsWith}
use Rattle.engine_store.specs.Opening.{AreNewBooks, IsNewPipeline, empty_ring, first_ledger, first_map}
use Rattle.engine_store.specs.Store.{IsGoing, StoreIsSound, point_of, waits_for}
use Rattle.engine_store.specs.Told.{IsKeptOn, IsToldBy, last_map, map_now, session_of, store_state}
use Rattle.engine_store.proofs.OnePoint.{live_below, one_point}
use Rattle.engine_store.proofs.Windows.{OneMap}
use Rattle.engine_store.proofs.Openings.{same_bit}

-- What the laws say that are put to use.
abbrev pub CallBeginsSafe : Type 0
CallBeginsSafe = (s : MountedSession) (base : Blocks) (log : List Event) (l : Ledger) (t floor : ℕ) → IsSafe s base log l t floor → IsSafe s base log l (length log) (l.known - s.first)

abbrev pub MapLaw : Type 0
MapLaw = (d : State) (g : Geometry) (slot : ℕ) (h : Header) (since : ℕ) (m : Blocks) → HasBegun d g slot h since m → m ≡ live_part g (first_map d g slot h)

abbrev pub AcceptedLaw : Type 0
AcceptedLaw = (d : State) (g : Geometry) (slot : ℕ) (h : Header) (since : ℕ) (m : Blocks) → HasBegun d g slot h since m → (b : ℕ) → accepted d.base d.log b ≡ first_map d g slot h b

abbrev pub RightLaw : Type 0
RightLaw = (s : MountedSession) (d : State) (g : Geometry) (slot : ℕ) (h : Header) (since t floor : ℕ) (m : Blocks) (v : Pipeline) (books : TransactionBooks) → HasBegun d g slot h since m → h.at ≡ 0 → IsSafe s d.base d.log (first_ledger d g slot h) t floor → IsNewPipeline g slot h v → AreNewBooks g books → HasBitmap books m
    → IsRight s d.base d.log (first_ledger d g slot h) t floor v (empty_ring g) books.dead []

abbrev pub SoundLaw : Type 0
SoundLaw = (g : Geometry) (slot : ℕ) (h : Header) (v : Pipeline) (books : TransactionBooks) → IsNewPipeline g slot h v → AreNewBooks g books → IsSound v (empty_ring g) books.dead

abbrev pub BeganLaw : Type 0
BeganLaw = (d : State) (g : Geometry) (slot : ℕ) (h : Header) (since : ℕ) (m : Blocks) (books : TransactionBooks) → HasBegun d g slot h since m → AreNewBooks g books → HasBitmap books m → BeganAt books (first_map d g slot h)

abbrev pub CacheLaw : Type 0
CacheLaw = (capacity : ℕ) (s : State) → Agrees (empty_cache capacity) s

pub record BeginLaws : Type 0 where
  pub safe : CallBeginsSafe
  pub map : MapLaw
  pub accepted : AcceptedLaw
  pub right : RightLaw
  pub sound : SoundLaw
  pub began : BeganLaw
  pub cache : CacheLaw
  pub one : OneMap

-- A session has begun with a map at the first place of the ring, on a sound disk that has so many events; the map has the bitmap of these books.
pub record Starts (d : State) (g : Geometry) (slot : ℕ) (h : Header) (moment since : ℕ) (books : TransactionBooks) (m : Blocks) : Type 0 where
  pub begun : HasBegun d g slot h since m
  pub place : h.at ≡ 0
  pub bitmap : HasBitmap books m
  pub events : moment ≡ length d.log
  pub lawful : IsSoundDisk d

-- The bytes of a block.

-- the bytes accepted last are those of a whole block
picked : (c : Bool) (x y : List ℕ) → length x ≡ 1024 → length y ≡ 1024 → length (if c then x else y) ≡ 1024
picked true x y one two = one
picked false x y one two = two

accepted_on : (n b : ℕ) (x : List ℕ) (log : List Event) → length x ≡ 1024 → AreEventsOf n log → length (accepted_from b x log) ≡ 1024
accepted_on n b x [] len events = len
accepted_on n b x (Wrote ticket block bytes ∷ es) len events = accepted_on n b (if block == b then bytes else x) es (picked (block == b) bytes x events.0.2.length len) events.1
accepted_on n b x (Lost block bytes ∷ es) len events = accepted_on n b x es len events.1
accepted_on n b x (Noticed ticket ∷ es) len events = accepted_on n b x es len events.1

-- A pipeline without a record.

kept_none : (g : Geometry) (slot : ℕ) (h : Header) (p : Pipeline) → IsNewPipeline g slot h p → kept p ≡ []
kept_none g slot h p new =
    ap (λ (xs : List Sure). map of_sure xs ++ (map of_durable p.durable.items ++ map of_committed p.committed.items)) new.none.sure
    ∙ (ap (λ (xs : List Durable). map of_durable xs ++ map of_committed p.committed.items) new.none.durable ∙ ap (λ (xs : List Committed). map of_committed xs) new.none.committed)

none_durable : (g : Geometry) (slot : ℕ) (h : Header) (p : Pipeline) → IsNewPipeline g slot h p → durable_count p ≡ 0
none_durable g slot h p new = omega (arith, ap (λ (xs : List Placed). length xs) new.none.placed, ap (λ (xs : List Sure). length xs) new.none.sure, ap (λ (xs : List Durable). length xs) new.none.durable)

-- Books without a put.

untouched : (v : TransactionBooks) → IsEmpty v.changes → (b : ℕ) → roles_of v b ≡ Untouched
untouched v empty b =
    ap (λ (xs : List Put). role_by (has_put b xs) (has_put b v.changes.paid) (is_one_of b v.changes.taken && bit_now v b)) empty.laid
    ∙ (ap (λ (xs : List Put). role_by false (has_put b xs) (is_one_of b v.changes.taken && bit_now v b)) empty.paid
    ∙ ap (λ (xs : List ℕ). role_by false false (is_one_of b xs && bit_now v b)) empty.taken)

none_put : (v : TransactionBooks) (last : Blocks) → IsEmpty v.changes → (b : ℕ) → bytes_over v.changes last b ≡ last b
none_put v last empty b =
    ap (λ (xs : List Put). otherwise (or_else (put_of b xs) (put_of b v.changes.paid)) (last b)) empty.laid
    ∙ ap (λ (xs : List Put). otherwise (put_of b xs) (last b)) empty.paid

-- a map is defined just where it is live, where nothing is bare
marked_test : (p q r : Bool) → (p && (q || (true && ((true && r) && not false)))) ≡ (p && (true && (q || r)))
marked_test p q r = grind arith

beyond_test : (p r s : Bool) → (p && (false || (false && ((false && r) && not false)))) ≡ (p && (false && s))
beyond_test p r s = grind arith

defined_live : (v : TransactionBooks) (last : Blocks) (b : ℕ) → data_start v.geom ≤ v.geom.n → HasBitmap v last → defined_by v.geom (is_marked v b) false b ≡ is_live v.geom last b
defined_live v last b shape bits = ⊎_elim within beyond (cases_lt b v.geom.n)
  where
    within : b < v.geom.n → defined_by v.geom (is_marked v b) false b ≡ is_live v.geom last b
    within below =
        ap (λ (t : Bool). nat_le (bitmap_start v.geom) b && (nat_lt b (data_start v.geom) || (t && ((t && bit_now v b) && not false)))) (lt-ltb b v.geom.n below)
        ∙ (marked_test (nat_le (bitmap_start v.geom) b) (nat_lt b (data_start v.geom)) (bit_now v b)
        ∙ (ap (λ (t : Bool). nat_le (bitmap_start v.geom) b && (true && (nat_lt b (data_start v.geom) || t))) (sym (same_bit v.geom last v b refl below bits))
        ∙ ap (λ (t : Bool). nat_le (bitmap_start v.geom) b && (t && (nat_lt b (data_start v.geom) || is_set v.geom last b))) (sym (lt-ltb b v.geom.n below))))

    beyond : v.geom.n ≤ b → defined_by v.geom (is_marked v b) false b ≡ is_live v.geom last b
    beyond past =
        ap₂ (λ (s t : Bool). nat_le (bitmap_start v.geom) b && (s || (t && ((t && bit_now v b) && not false)))) (le-ltb b (data_start v.geom) (omega (arith, shape, past))) (le-ltb b v.geom.n past)
        ∙ (beyond_test (nat_le (bitmap_start v.geom) b) (bit_now v b) (nat_lt b (data_start v.geom) || is_set v.geom last b)
        ∙ ap (λ (t : Bool). nat_le (bitmap_start v.geom) b && (t && (nat_lt b (data_start v.geom) || is_set v.geom last b))) (sym (le-ltb b v.geom.n past)))

-- so the map by the books is the live part of the one at which their transaction began
empty_map : (v : TransactionBooks) (last : Blocks) → data_start v.geom ≤ v.geom.n → IsEmpty v.changes → HasBitmap v last → (b : ℕ) → map_of v last b ≡ live_part v.geom last b
empty_map v last shape empty bits b =
    ap₂ (λ (r : Role) (x : List ℕ). if defined_by v.geom (is_marked v b) (is_bare r) b then x else []) (untouched v empty b) (none_put v last empty b)
    ∙ ap (λ (t : Bool). if t then last b else []) (defined_live v last b shape bits)

none_counted : (xs : List ℕ) → length (filter (λ b. false) xs) ≡ 0
none_counted [] = refl
none_counted (x ∷ xs) = none_counted xs

no_roles : (g : Geometry) (v : TransactionBooks) (test : Role → Bool) → test Untouched ≡ false → IsEmpty v.changes → count_roles g test (roles_of v) ≡ 0
no_roles g v test none empty =
    ap (λ (f : ℕ → Bool). length (filter f (range_with_len 0 g.n))) (fun_ext (λ b. ap test (untouched v empty b) ∙ none)) ∙ none_counted (range_with_len 0 g.n)

-- The parts.

module _ (g : Geometry) (slot : ℕ) (h : Header) (moment : ℕ) (v : StoreParts) (new : AreNewParts g slot h moment v) where
  session_is : (log : List Event) → moment ≡ length log → session_of v ≡ session_at_mount g h log
  session_is log same = ap₂ (λ (k : Geometry) (e : ℕ). record { geom = k; epoch = e; mounted = v.mounted; first = v.first }) new.books.geom (ap (λ (k : Header). k.epoch) new.pipeline.none.header)
      ∙ ap₂ (λ (k f : ℕ). record { geom = g; epoch = h.epoch; mounted = k; first = f }) (new.mounted ∙ same) new.first

  going_at_once : BeginLaws → h.start ≡ h.sure + 1 → IsGoing v
  going_at_once laws released = record {
    sound = subst (λ ring. IsSound v.pipeline ring v.books.dead) (sym new.ring) (laws.sound g slot h v.pipeline v.books new.pipeline new.books);
    number = omega (arith, new.first, new.point, new.pipeline.none.last, released);
    first = omega (arith, new.first, released, ap (λ (k : Header). k.sure) new.pipeline.none.header);
    floor = omega (arith, new.first, new.floor, ap (λ (k : Header). k.start) new.pipeline.none.header, none_durable g slot h v.pipeline new.pipeline);
  }

  sound_parts : BeginLaws → h.start ≡ h.sure + 1 → StoreIsSound v
  sound_parts laws released = record {
    kept = new.books.kept;
    ring_geom = ap (λ ring. ring.geom) new.ring ∙ sym new.books.geom;
    pipeline_geom = new.pipeline.none.geom ∙ sym new.books.geom;
    floor = omega (arith, new.floor);
    going = λ going. going_at_once laws released;
  }

  -- what stands for each block is what the disk accepted last
  stands_for : (d : State) (b : ℕ) → last_map v d b ≡ accepted d.base d.log b
  stands_for d b = ap (λ ks. otherwise (newest_in None ks b) (accepted d.base d.log b)) (kept_none g slot h v.pipeline new.pipeline)

  first_is : BeginLaws → (d : State) (since : ℕ) (m : Blocks) → HasBegun d g slot h since m → last_map v d ≡ first_map d g slot h
  first_is laws d since m begun = fun_ext (λ b. stands_for d b ∙ laws.accepted d g slot h since m begun b)

  pub is_begun : (ticks : ℕ) (d : State) → IsBegun (store_state v ticks d)
  is_begun ticks d = record {
    point = new.point;
    weight = new.weight;
    held = ap (λ (x : DeadBlocks). length x.held) new.books.dead;
    payloads = no_roles v.books.geom v.books is_payload refl new.books.empty;
    fresh = no_roles v.books.geom v.books is_fresh refl new.books.empty;
    none_bare = λ b. ap is_bare (untouched v.books new.books.empty b);
    going = new.going;
  }

  -- where the disk tells, the ledger of the mount tells it
  told_at_once : BeginLaws → (d : State) (since : ℕ) (m : Blocks) → d.blocks ≡ g.n → Starts d g slot h moment since v.books m → IsToldBy v d (first_ledger d g slot h)
  told_at_once laws d since m size starts = record {
    safe = safe;
    failed = λ stopped. absurd (false≢true (sym new.going ∙ stopped));
    made = omega (arith, new.first);
    began = subst (λ (x : Blocks). BeganAt v.books x) (sym (first_is laws d since m starts.begun)) (laws.began d g slot h since m v.books starts.begun new.books starts.bitmap);
    whole = λ b lives. ap (λ (x : List ℕ). length x) (stands_for d b) ∙ accepted_on d.blocks b (d.base b) d.log (starts.lawful.blocks b (omega (arith, size, ap (λ (k : Geometry). k.n) new.books.geom, live_below v.books.geom (last_map v d) b lives))).length starts.lawful.log.events;
    going = λ going. record {
      agrees = subst (λ (xs : List ℕ). PipelineAgrees d.base d.log (first_ledger d g slot h) v.pipeline v.ring v.books.dead.waiting xs) (sym new.books.empty.taken)
          (subst (λ ring. PipelineAgrees d.base d.log (first_ledger d g slot h) v.pipeline ring v.books.dead.waiting []) (sym new.ring) right.agrees);
      serves = right.serves;
      next = omega (arith, new.first, new.point);
      due = ap (λ (cs : List Committed). is_first_settled cs v.pipeline.notes.notes) new.pipeline.none.committed;
      heard = λ alone t expected came. absurd (false≢true (sym (ap (λ (ns : List Note). is_expected t ns) new.pipeline.none.notes) ∙ expected));
      cache = record {
        newest = λ b lives is. ap (λ ks. newest_in None ks b) (kept_none g slot h v.pipeline new.pipeline);
        same = λ b lives. subst (λ (k : Cache). Agrees k d) (sym new.cache) (laws.cache v.cache.capacity d) b;
      };
    };
  }
    where
      safe : IsSafe (session_of v) d.base d.log (first_ledger d g slot h) (length d.log) v.floor
      safe = subst (λ (s : MountedSession). IsSafe s d.base d.log (first_ledger d g slot h) (length d.log) v.floor) (sym (session_is d.log starts.events))
          (subst (λ (k : ℕ). IsSafe (session_at_mount g h d.log) d.base d.log (first_ledger d g slot h) (length d.log) k) (omega (arith, new.floor))
          (laws.safe (session_at_mount g h d.log) d.base d.log (first_ledger d g slot h) since 0 starts.begun.safe))

      right : IsRight (session_of v) d.base d.log (first_ledger d g slot h) (length d.log) v.floor v.pipeline (empty_ring g) v.books.dead []
      right = laws.right (session_of v) d g slot h since (length d.log) v.floor m v.pipeline v.books starts.begun starts.place safe new.pipeline new.books starts.bitmap

  -- a count that was counted anew is one of 64 bits
  counted_anew : (made n k : ℕ) → 0 < made → k ≡ after_calls made n → k < 2 ^ 64
  counted_anew zero n k some is = absurd (omega (arith, some))
  counted_anew (suc made) n k some is = omega (arith, is)

  -- the store is kept
  pub kept_at_once : BeginLaws → (tells : Bool) (d old : State) → d.blocks ≡ g.n → OpensAnew h old d → (IsTrue tells → (since : ℕ) × (m : Blocks) × Starts d g slot h moment since v.books m) → IsKeptOn tells v d
  kept_at_once laws tells d old size anew starts = record {
    size = size ∙ ap (λ (k : Geometry). k.n) (sym new.books.geom);
    waits = counted_anew anew.waited.0 old.waits d.waits anew.waited.1 anew.waited.2;
    sound = sound_parts laws anew.released;
    told = λ t. let s = starts t in ∣ (first_ledger d g slot h, told_at_once laws d s.0 s.1 size s.2) ∣₁;
  }

  -- it begins with the map that the disk held
  pub begins_with : BeginLaws → h.start ≡ h.sure + 1 → (d : State) (since : ℕ) (m : Blocks) (ticks : ℕ) → Starts d g slot h moment since v.books m → BeginsWith g m (store_state v ticks d)
  begins_with laws released d since m ticks starts = record {
    geom = new.books.geom;
    map = map_is;
    point = ∣ first ∣₁;
    only = λ q is b live. ∥∥₁_elim is (search props) (λ (other : IsPoint (session_of v) d.base d.log 0 q).
        one_point laws.one (session_of v) d.base d.log 0 q m other first b ∙ sym (ap (λ (x : Blocks). x b) map_is));
    waiting = ap (λ (x : DeadBlocks). length x.waiting) new.books.dead;
    since = λ b. ap (λ (x : DeadBlocks). option_map (point_of v.first) (waits_for x.waiting b)) new.books.dead;
    free_places = omega (arith, ap (λ ring. ring.geom.j) new.ring, ap (λ ring. ring.taken) new.ring);
    owed = omega (arith, none_left, ap (λ (x : Header). x.sure) new.pipeline.none.written, ap (λ (x : Header). x.start) new.pipeline.none.written, new.pipeline.none.last, released);
  }
    where
      none_left : payloads_in (behind_batch v.pipeline) ≡ 0
      none_left = ap (λ n. payloads_in (drop n (kept v.pipeline))) new.pipeline.none.batch ∙ ap payloads_in (kept_none g slot h v.pipeline new.pipeline)

      first : IsPoint (session_of v) d.base d.log 0 m
      first = subst (λ (s : MountedSession). IsPoint s d.base d.log 0 m) (sym (session_is d.log starts.events)) starts.begun.point

      bits : HasBitmap v.books (last_map v d)
      bits k low = sym (none_put v.books (last_map v d) new.books.empty (bitmap_start v.books.geom + k))
          ∙ (subst (λ (x : Blocks). BeganAt v.books x) (sym (first_is laws d since m starts.begun)) (laws.began d g slot h since m v.books starts.begun new.books starts.bitmap)).bitmap k low

      now_live : (b : ℕ) → map_of v.books (last_map v d) b ≡ live_part v.books.geom (last_map v d) b
      now_live = empty_map v.books (last_map v d) (subst (λ (k : Geometry). data_start k ≤ k.n) (sym new.books.geom) starts.begun.mounted.shape) new.books.empty bits

      map_is : map_now v d ≡ m
      map_is = fun_ext (λ b. subst (λ (k : Geometry). map_of v.books (last_map v d) b ≡ live_part k (last_map v d) b) new.books.geom (now_live b))
          ∙ (ap (λ (x : Blocks). live_part g x) (first_is laws d since m starts.begun) ∙ sym (laws.map d g slot h since m starts.begun))
