-- A running transaction as the next record of a ledger that goes with the pipeline, and what is right behind its commit.
use Rattle.std.proofs.Common.{◌≡◌, ℕ, ◌+◌, ◌*◌, ◌/◌, ◌%◌, ◌<◌, ◌≤◌, ◌==◌, ◌&&◌, ◌||◌, not, nat_le, nat_lt, Bool, true, false, List, [], ◌∷◌, ◌++◌, length, map, slice_get, if◌then◌else◌, Option, Some, None, is_some, refl, sym, ap, ap₂, subst, ◌∙◌, arith, inl, length-append}
use Rattle.std.proofs.lemmas.Bool.{cond-false, false≢true, le-ltb, lt-leb, and_right}
use Rattle.std.proofs.lemmas.List.{length-map}
use Rattle.std.proofs.lemmas.List.Elements.{All-append, All-map, All-weaker}
use Rattle.std.proofs.lemmas.Option.{none-some}
use Rattle.std.specs.Int.{bit_at}
use Rattle.std.specs.List.{All}
use Rattle.std.specs.Prelude.{slice_index}
use Rattle.std.proofs.Math.Bool.{and-false}
use mathlib.Core.Path.{fun_ext}
use Rattle.base_types.specs.Seal.{Blocks}
use Rattle.disk_contract.specs.declared.event.Event.{Event}
use Rattle.layout_geometry.specs.Geometry.{Geometry, LiesIn, bitmap_blocks, bitmap_start, data_start}
use Rattle.layout_geometry.specs.Geometry.Area.{Data}
use Rattle.layout_bytes.specs.Bitmap.{is_set}
use Rattle.layout_journal.specs.declared.header.Header.{Header}
use Rattle.layout_journal.specs.Ring.{RingPlaces, with_places}
use Rattle.layout_journal.specs.Run.{places, all_places, place_after, is_live, or_else, otherwise}
use Rattle.crash_argument.specs.HomeTest.{is_one_of}
use Rattle.crash_argument.specs.LastWrites.{IsDead}
use Rattle.crash_argument.specs.Ledger.{Ledger, WrittenRecord, IsStanding, next_number, all_say}
use Rattle.crash_argument.specs.PipelineData.{pairs_of}
use Rattle.crash_argument.specs.Points.{MountedSession, IsSafe}
use Rattle.crash_argument.specs.Steps.{with_record}
use Rattle.engine_notes.specs.Notes.{is_expected, is_noticed, is_open}
use Rattle.engine_running.specs.declared.commit.Committed.{Committed}
use Rattle.engine_running.specs.declared.put.Put.{Put}
use Rattle.engine_running.specs.Record.{record_of, IsTransaction}
use Rattle.engine_running.specs.Rows.{put_of}
use Rattle.engine_running.specs.Running.{Changes, IsEmpty, bytes_put}
use Rattle.engine_reuse.specs.Calls.{with_sealed}
use Rattle.engine_reuse.specs.Dead.{DeadBlocks, dead_blocks, freed_by}
use Rattle.engine_reuse.specs.Numbers.{is_among}
use Rattle.engine_checkpoint.specs.declared.pipeline.HomeWrite.{HomeWrite}
use Rattle.engine_checkpoint.specs.declared.pipeline.Pipeline.{Pipeline}
use Rattle.engine_checkpoint.specs.Advance.{IsRight, IsSound, MayServe}
use Rattle.engine_checkpoint.specs.Agree.{PipelineAgrees}
use Rattle.engine_checkpoint.specs.Index.{IndexIsRight}
use Rattle.engine_checkpoint.specs.Kept.{kept, numbers, number_of, placed_number, places_taken, of_sure, of_durable, of_committed}
use Rattle.engine_checkpoint.specs.Order.{IsInOrder, HasRoom}
use Rattle.engine_checkpoint.specs.Steps.{Accepts}
use Rattle.engine_blocks.specs.Running.{is_bare, HasNoBare}
use Rattle.engine_blocks.specs.State.{defined_by}
use Rattle.engine_books.specs.Books.{TransactionBooks, bit_now, bytes_over, has_put, is_marked, map_of, role_by, roles_of, running_of}
use Rattle.engine_books.specs.Kept.{AreKept}
use Rattle.engine_books.specs.Point.{BeganAt, HasBitmap}
use Rattle.engine_books.specs.Sealing.{with_record as sealed_books}

-- What engine_books promises of a running transaction and of its map, and engine_reuse of what is dead.
abbrev pub NextLaw : Type 0
NextLaw = (v : TransactionBooks) (l : Ledger) (place : ℕ) → AreKept v → BeganAt v (l.map_before (next_number l)) → l.geom ≡ v.geom → HasNoBare (running_of v) → ((h : Header) → IsStanding l h → h.closed ≡ false) → place ≡ place_after l.geom.j l.header.at (all_say l.records)
    → all_places (all_say l.records) + places (record_of (next_number l) place v.changes.paid v.changes.laid) ≤ l.geom.j → ((b : ℕ) → is_one_of b v.changes.taken ≡ true → IsDead l b) → IsTransaction l l.epoch (next_number l) place v.changes.paid v.changes.laid (map_of v (l.map_before (next_number l)))

abbrev pub BitsLaw : Type 0
BitsLaw = (v : TransactionBooks) (last : Blocks) (b : ℕ) → BeganAt v last → b < v.geom.n → is_marked v b ≡ is_set v.geom (map_of v last) b

abbrev pub BitmapLaw : Type 0
BitmapLaw = (v : TransactionBooks) (last : Blocks) → BeganAt v last → HasBitmap v (map_of v last)

abbrev pub SealedLaw : Type 0
SealedLaw = (v : DeadBlocks) (number c : ℕ) → is_among c (dead_blocks (with_sealed v number)) ≡ is_among c (dead_blocks v)

-- The ledger's next number.

-- the pipeline has as many numbers as records
pub numbers_len : (p : Pipeline) → length (numbers p) ≡ length p.placed.items + (length p.sure.items + (length p.durable.items + length p.committed.items))
numbers_len p = omega (
  arith,
  length-append (map placed_number p.placed.items) (map number_of (kept p)),
  length-map p.placed.items placed_number,
  length-map (kept p) number_of,
  length-append (map of_sure p.sure.items) (map of_durable p.durable.items ++ map of_committed p.committed.items),
  length-append (map of_durable p.durable.items) (map of_committed p.committed.items),
  length-map p.sure.items of_sure,
  length-map p.durable.items of_durable,
  length-map p.committed.items of_committed,
)

-- the next record comes behind the pipeline's last one
pub next_is : (s : MountedSession) (base : Blocks) (log : List Event) (l : Ledger) (t floor : ℕ) (p : Pipeline) (ring : RingPlaces) (dead : DeadBlocks) (taken : List ℕ) → IsRight s base log l t floor p ring dead taken → IsSound p ring dead → next_number l ≡ p.last + 1
next_is s base log l t floor p ring dead taken r sound = omega (arith, r.agrees.count, ap (λ (h : Header). h.start) r.agrees.header, sound.order.last, numbers_len p)

-- the running transaction may be committed
pub may_be_committed : NextLaw → (s : MountedSession) (base : Blocks) (log : List Event) (l : Ledger) (t floor : ℕ) (p : Pipeline) (ring : RingPlaces) (v : TransactionBooks) → AreKept v → BeganAt v (l.map_before (next_number l)) → HasNoBare (running_of v) → IsRight s base log l t floor p ring v.dead v.changes.taken → IsSound p ring v.dead → p.geom ≡ v.geom
    → ring.taken + places (record_of 0 0 v.changes.paid v.changes.laid) ≤ ring.geom.j → IsTransaction l p.header.epoch (p.last + 1) ring.next v.changes.paid v.changes.laid (map_of v (l.map_before (next_number l)))
may_be_committed law s base log l t floor p ring v kept began filled r sound geom room =
    rw (sym epoch) (rw (sym (next_is s base log l t floor p ring v.dead v.changes.taken r sound))
    (law v l ring.next kept began (sym r.agrees.geom ∙ geom) filled r.agrees.not_closed r.agrees.agree.next_place within (λ b own. (r.agrees.free b own).0)))
  where
    epoch : l.epoch ≡ p.header.epoch
    epoch = sym (r.safe.keeps.headers.fits l.header (inl refl)).epoch ∙ ap (λ (h : Header). h.epoch) (sym r.agrees.header)

    within : all_places (all_say l.records) + places (record_of (next_number l) ring.next v.changes.paid v.changes.laid) ≤ l.geom.j
    within = omega (arith, room, r.agrees.agree.taken, ap (λ (g : Geometry). g.j) r.agrees.ring_geom)

-- The ledger with the record.

pub next_more : (l : Ledger) (w : WrittenRecord) (m : Blocks) → next_number (with_record l w m) ≡ next_number l + 1
next_more l w m = omega (arith, length-append l.records (w ∷ []))

pub newest_is : (l : Ledger) (w : WrittenRecord) (m : Blocks) → (with_record l w m).map_before (next_number (with_record l w m)) ≡ m
newest_is l w m = cond-false (nat_le (next_number (with_record l w m)) (next_number l)) (l.map_before (next_number (with_record l w m))) m (lt-leb (next_number (with_record l w m)) (next_number l) (omega (arith, next_more l w m)))

-- the map after it has the books' bitmap
pub bitmap_then : BitmapLaw → (l : Ledger) (w : WrittenRecord) (v : TransactionBooks) (last : Blocks) → BeganAt v last → HasBitmap v ((with_record l w (map_of v last)).map_before (next_number (with_record l w (map_of v last))))
bitmap_then law l w v last began = subst (λ (m : Blocks). HasBitmap v m) (sym (newest_is l w (map_of v last))) (law v last began)

-- an empty transaction put nothing
none_put : (c : Changes) → IsEmpty c → (b : ℕ) → bytes_put c b ≡ None
none_put c e b = ap₂ (λ (x y : List Put). or_else (put_of b x) (put_of b y)) e.laid e.paid

-- so the next transaction, which is empty, begins at it
pub began_then : BitmapLaw → (l : Ledger) (w : WrittenRecord) (v : TransactionBooks) (c : Changes) (last : Blocks) (number : ℕ) → BeganAt v last → IsEmpty c → BeganAt (sealed_books (record v { changes = c }) number) ((with_record l w (map_of v last)).map_before (next_number (with_record l w (map_of v last))))
began_then law l w v c last number began e = record {
  bitmap = λ k low. ap (λ x. otherwise x (newest (bitmap_start v.geom + k))) (none_put c e (bitmap_start v.geom + k)) ∙ has k low;
  was_dead = λ b own. absurd (false≢true (sym (ap (is_one_of b) e.taken) ∙ own));
  took = λ b low is out. absurd (false≢true (sym out ∙ bit b low ∙ is));
  killed = λ b low is set. absurd (false≢true (sym is ∙ sym (bit b low) ∙ set));
  marked = λ b from is. absurd (false≢true (sym (ap is_some (none_put c e b)) ∙ is));
  whole = λ b bytes is. absurd (none-some bytes (sym (none_put c e b) ∙ is));
}
  where
    newest : Blocks
    newest = (with_record l w (map_of v last)).map_before (next_number (with_record l w (map_of v last)))

    has : HasBitmap v newest
    has = bitmap_then law l w v last began

    bit : (b : ℕ) → b < 8192 * bitmap_blocks v.geom → is_set v.geom newest b ≡ bit_now v b
    bit b low = ap (λ x. bit_at (slice_index x (b % 8192 / 8)) (b % 8) == 1) (has (b / 8192) (omega (arith, low)))

-- a map that was cut to where it is defined stays as it is, cut so again
cut_twice : (d : Bool) (x : List ℕ) → (if d then (if d then x else []) else []) ≡ (if d then x else [])
cut_twice d x = grind arith

-- and the map is the same then
pub map_then : (v : TransactionBooks) (c : Changes) (last : Blocks) (number : ℕ) → HasNoBare (running_of v) → IsEmpty c → map_of (sealed_books (record v { changes = c }) number) (map_of v last) ≡ map_of v last
map_then v c last number filled e = fun_ext (λ b.
    ap₂ (λ u (x : List ℕ). if defined_by v.geom (is_marked v b) u b then x else []) (not_bare b ∙ sym (filled b)) (ap (λ (x : Option (List ℕ)). otherwise x (map_of v last b)) (none_put c e b))
    ∙ cut_twice (defined_by v.geom (is_marked v b) (is_bare (roles_of v b)) b) (bytes_over v.changes last b))
  where
    not_bare : (b : ℕ) → is_bare (roles_of (sealed_books (record v { changes = c }) number) b) ≡ false
    not_bare b =
        ap₂ (λ (x y : List Put). is_bare (role_by (has_put b x) (has_put b y) (is_one_of b c.taken && bit_now v b))) e.laid e.paid
        ∙ ap (λ (ns : List ℕ). is_bare (role_by false false (is_one_of b ns && bit_now v b))) e.taken

-- What is dead.

pairs_are : (number : ℕ) (bs : List ℕ) → pairs_of number bs ≡ map (λ b. (b, number)) bs
pairs_are number [] = refl
pairs_are number (b ∷ bs) = ap (λ (ps : List (ℕ × ℕ)). (b, number) ∷ ps) (pairs_are number bs)

-- a data block whose bit is clear isn't live in the map now
pub dead_in : BitsLaw → (v : TransactionBooks) (last : Blocks) (b : ℕ) → BeganAt v last → LiesIn v.geom Data b → bit_now v b ≡ false → is_live v.geom (map_of v last) b ≡ false
dead_in law v last b began lies clear =
    ap₂ (λ x y. nat_le (bitmap_start v.geom) b && (nat_lt b v.geom.n && (x || y))) (le-ltb b (data_start v.geom) lies.from) (sym (law v last b began lies.below) ∙ ap (λ x. nat_lt b v.geom.n && x) clear)
    ∙ and_right (nat_le (bitmap_start v.geom) b) _ (and_right (nat_lt b v.geom.n) _ (and-false (nat_lt b v.geom.n)))

-- so no dead block is live there
dead_then : BitsLaw → (v : TransactionBooks) (last : Blocks) (b : ℕ) → AreKept v → BeganAt v last → is_among b (dead_blocks v.dead) ≡ true → is_live v.geom (map_of v last) b ≡ false
dead_then law v last b k began is =
    let lies : LiesIn v.geom Data b = subst (λ (g : Geometry). LiesIn g Data b) k.geom (k.sound.lie b is) in
    dead_in law v last b began lies (k.bits.same b lies ∙ ap not is)

-- a ticket that was expected, and is open once a record was accepted, was open before
still_open : (e n old : Bool) → old ≡ true → (e && not n) ≡ true → (old && not n) ≡ true
still_open e n old f g = grind (arith, f, g)

module _ (bits : BitsLaw) (seals : SealedLaw) (s : MountedSession) (base then_base : Blocks) (log then_log : List Event) (l : Ledger) (w : WrittenRecord) (t floor number : ℕ) (p then_p : Pipeline) (ring then_ring : RingPlaces) (v : TransactionBooks) (c : Committed)
    (k : AreKept v) (began : BeganAt v (l.map_before (next_number l))) (geom : p.geom ≡ v.geom) (r : IsRight s base log l t floor p ring v.dead v.changes.taken) (accepts : Accepts c p then_p) where
  abbrev now : Blocks
  now = map_of v (l.map_before (next_number l))

  -- no checkpoint write is new
  not_going : (i : ℕ) (h : HomeWrite) → slice_get then_p.home.items i ≡ Some h → is_open h.ticket then_p.notes.notes ≡ true → is_among h.block v.dead.reusable ≡ false
  not_going i h at opens = r.serves.not_going i h was (still_open (is_expected h.ticket then_p.notes.notes) (is_noticed h.ticket p.notes.notes) (is_expected h.ticket p.notes.notes) (r.agrees.expected.home i h was)
      (ap (λ n. is_expected h.ticket then_p.notes.notes && not n) (sym (accepts.noticed h.ticket)) ∙ opens))
    where
      was : slice_get p.home.items i ≡ Some h
      was = ap (λ (q : Pipeline). slice_get q.home.items i) (sym accepts.rest) ∙ at

  serves : MayServe (with_record l w now) then_p (with_sealed v.dead number)
  serves = record {
    dead_now = λ b is. subst (λ (m : Blocks). is_live l.geom m b ≡ false) (sym (newest_is l w now))
        (subst (λ (g : Geometry). is_live g now b ≡ false) (sym geom ∙ r.agrees.geom) (dead_then bits v (l.map_before (next_number l)) b k began (sym (seals v.dead number b) ∙ is)));
    not_going = not_going;
  }

  waiting : v.dead.waiting ++ pairs_of number v.changes.freed ≡ (with_sealed v.dead number).waiting
  waiting = ap (λ (ps : List (ℕ × ℕ)). v.dead.waiting ++ ps) (ap (pairs_of number) k.freed ∙ pairs_are number v.dead.held)

  -- all is right with the record
  pub stays_right : IsSafe s then_base then_log (with_record l w now) t floor → PipelineAgrees then_base then_log (with_record l w now) then_p then_ring (v.dead.waiting ++ pairs_of number v.changes.freed) [] → IsRight s then_base then_log (with_record l w now) t floor then_p then_ring (with_sealed v.dead number) []
  stays_right safe agrees = record {
    safe = safe;
    agrees = subst (λ (ps : List (ℕ × ℕ)). PipelineAgrees then_base then_log (with_record l w now) then_p then_ring ps []) waiting agrees;
    serves = serves;
  }

-- Over any disk.

pub in_record_order : (p : Pipeline) (ring : RingPlaces) (dead : DeadBlocks) (number : ℕ) → IsSound p ring dead → number ≡ p.last + 1 → All (λ q. freed_by q ≤ number) dead.waiting
in_record_order p ring dead number sound next = All-weaker (λ q. freed_by q ≤ p.last) (λ q. freed_by q ≤ number) (λ q le. omega (arith, le, next)) dead.waiting sound.goes_with.waiting

-- each pair of a list has the record's number
all_wait : (number : ℕ) (bs : List ℕ) → All (λ q. freed_by q ≤ number) (map (λ b. (b, number)) bs)
all_wait number bs = All-map (λ q. freed_by q ≤ number) (λ b. (b, number)) bs (λ i d low. omega arith)

pub stays_sound : (p then_p : Pipeline) (ring : RingPlaces) (dead : DeadBlocks) (c : Committed) (count number : ℕ) → IsSound p ring dead → Accepts c p then_p → number ≡ p.last + 1 → then_p.last ≡ number → IsInOrder then_p → HasRoom then_p → IndexIsRight then_p
    → (with_places ring count).taken ≡ places_taken then_p → IsSound then_p (with_places ring count) (with_sealed dead number)
stays_sound p then_p ring dead c count number sound accepts next last order room index taken = record {
  order = order;
  room = room;
  index = index;
  goes_with = record {
    ring_geom = sound.goes_with.ring_geom ∙ sym geom;
    taken = taken;
    dead_geom = sound.goes_with.dead_geom ∙ sym geom;
    waiting = subst (λ (n : ℕ). All (λ q. freed_by q ≤ n) (with_sealed dead number).waiting) (sym last) (All-append (λ q. freed_by q ≤ number) dead.waiting (map (λ b. (b, number)) dead.held) (in_record_order p ring dead number sound next) (all_wait number dead.held));
  };
}
  where
    geom : then_p.geom ≡ p.geom
    geom = ap (λ (q : Pipeline). q.geom) accepts.rest
