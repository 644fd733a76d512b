-- The steps that make no write, one after the other: all stays right, by the ledger that there is then. Which blocks serve again is looked at here; what each other step leaves is said by its own clauses.
use Rattle.std.proofs.Common.{◌≡◌, ◌⊎◌, ⊎_elim, ℕ, zero, suc, ◌-◌, ◌==◌, ◌&&◌, ◌||◌, not, Bool, true, false, cond, List, [], ◌∷◌, ◌++◌, map, filter, slice_get, Some, Vec, Global, refl, sym, ◌∙◌, subst, ap, arith}
use Rattle.std.proofs.lemmas.Bool.Decides.{nat_tests}
use Rattle.std.proofs.lemmas.Bool.{lt-leb, false≢true, or_cases, or_left, or_right}
use Rattle.std.proofs.lemmas.List.Folds.{list_any-append}
use Rattle.std.proofs.lemmas.Option.{none-some}
use Rattle.std.specs.List.{range_with_len}
use Rattle.base_types.specs.Seal.{Blocks}
use Rattle.disk_contract.specs.declared.event.Event.{Event}
use Rattle.layout_geometry.specs.Geometry.{data_start}
use Rattle.layout_journal.specs.declared.header.Header.{Header}
use Rattle.layout_journal.specs.Ring.{RingPlaces}
use Rattle.crash_argument.specs.Ledger.{Ledger}
use Rattle.crash_argument.specs.Points.{MountedSession, IsSafe}
use Rattle.crash_argument.specs.PipelineData.{PipelineData, DataAgree, WaitAbove, with_waiting}
use Rattle.engine_notes.specs.declared.notes.Note.{Note}
use Rattle.engine_notes.specs.Notes.{is_open}
use Rattle.engine_reuse.specs.Numbers.{is_among}
use Rattle.engine_reuse.specs.Dead.{DeadBlocks, block_of, freed_by}
use Rattle.engine_reuse.specs.Calls.{is_given_up, given_up, with_released}
use Rattle.engine_checkpoint.specs.declared.pipeline.HomeWrite.{HomeWrite}
use Rattle.engine_checkpoint.specs.declared.pipeline.Pipeline.{Pipeline}
use Rattle.engine_checkpoint.specs.Advance.{Turned, AgreesOn, MayServe, IsRight, StaysRight}
use Rattle.engine_checkpoint.specs.Agree.{PipelineAgrees, data_of}
use Rattle.engine_checkpoint.specs.Steps.{SettlesSome}
use Rattle.engine_checkpoint.specs.Turns.{TurnsOrStays, EndsOrStays, going_home, header_turned, with_served}
use Rattle.engine_checkpoint.proofs.Forgotten.{forgotten_opens}
use Rattle.engine_checkpoint.proofs.HeaderTurns.{still_dead, turned_header, serves_turned}
use Rattle.engine_checkpoint.proofs.Settled.{turned_on}

-- Blocks that are going home aren't given up.

-- the block of a checkpoint write that is open is going home
going_among : (hs : List HomeWrite) (notes : List Note) (i : ℕ) (h : HomeWrite) → slice_get hs i ≡ Some h → is_open h.ticket notes ≡ true → is_among h.block (going_home hs notes) ≡ true
going_among [] notes i h at opens = absurd (none-some h at)
going_among (g ∷ hs) notes zero h at opens = grind (arith, nat_tests)
going_among (g ∷ hs) notes (suc i) h at opens = grind (arith, nat_tests, going_among hs notes i h at opens)

-- and no such block is given up
going_stays : (sure : ℕ) (going : List ℕ) (ps : List (ℕ × ℕ)) (b : ℕ) → is_among b going ≡ true → is_among b (given_up sure going ps) ≡ false
going_stays sure going [] b goes = refl
going_stays sure going (p ∷ ps) b goes = grind (arith, nat_tests, cond, going_stays sure going ps b goes)

-- What may be taken or waits once blocks serve again did so before.

-- a number among those of a list that pass a test passes it
passes : (test : ℕ → Bool) (b : ℕ) (xs : List ℕ) → is_among b (filter test xs) ≡ true → test b ≡ true
passes test b [] is = absurd (false≢true is)
passes test b (x ∷ xs) is = grind (arith, nat_tests, cond, passes test b xs)

-- a block among those of some of the pairs is among those of all
among_more : (test : ℕ × ℕ → Bool) (b : ℕ) (ps : List (ℕ × ℕ)) → is_among b (map block_of (filter test ps)) ≡ true → is_among b (map block_of ps) ≡ true
among_more test b [] is = is
among_more test b (p ∷ ps) is = grind (arith, nat_tests, cond, among_more test b ps)

among_cases : (b : ℕ) (xs ys : List ℕ) → is_among b (xs ++ ys) ≡ true → (is_among b xs ≡ true) ⊎ (is_among b ys ≡ true)
among_cases b xs ys is = or_cases (is_among b xs) (is_among b ys) (sym (list_any-append (λ x. x == b) xs ys) ∙ is)

among_both : (b : ℕ) (xs ys : List ℕ) → (is_among b xs || is_among b ys) ≡ true → is_among b (xs ++ ys) ≡ true
among_both b xs ys is = list_any-append (λ x. x == b) xs ys ∙ is

module _ (dead : DeadBlocks) (sure : ℕ) (going : List ℕ) where
  abbrev served : DeadBlocks
  served = with_released dead sure going

  may_serve : ℕ → Bool
  may_serve b = is_among b (given_up sure going dead.waiting) || is_among b dead.reusable

  reusable_was : (b : ℕ) → is_among b served.reusable ≡ true → (is_among b (given_up sure going dead.waiting) ≡ true) ⊎ (is_among b dead.reusable ≡ true)
  reusable_was b is = or_cases (is_among b (given_up sure going dead.waiting)) (is_among b dead.reusable) (passes (λ n. is_among n (given_up sure going dead.waiting) || is_among n dead.reusable) b (range_with_len (data_start dead.geom) (dead.geom.n - data_start dead.geom)) is)

  served_was : (b : ℕ) → is_among b (served.reusable ++ map block_of served.waiting) ≡ true → is_among b (dead.reusable ++ map block_of dead.waiting) ≡ true
  served_was b is = among_both b dead.reusable (map block_of dead.waiting) (⊎_elim
      (λ r. ⊎_elim (λ given. or_right (is_among b dead.reusable) (is_among b (map block_of dead.waiting)) (among_more (is_given_up sure going) b dead.waiting given)) (λ was. or_left (is_among b dead.reusable) (is_among b (map block_of dead.waiting)) was) (reusable_was b r))
      (λ w. or_right (is_among b dead.reusable) (is_among b (map block_of dead.waiting)) (among_more (λ p. not (is_given_up sure going p)) b dead.waiting w))
      (among_cases b served.reusable (map block_of served.waiting) is))

  going_not : (b : ℕ) → is_among b going ≡ true → is_among b dead.reusable ≡ false → is_among b served.reusable ≡ false
  going_not b goes none = by (is_among b served.reusable) refl
    where
      by : (t : Bool) → is_among b served.reusable ≡ t → t ≡ false
      by false e = refl
      by true e = absurd (⊎_elim (λ given. false≢true (sym (going_stays sure going dead.waiting b goes) ∙ given)) (λ was. false≢true (sym none ∙ was)) (reusable_was b e))

-- The pipeline's data with fewer blocks that wait.

agrees_served : (base : Blocks) (log : List Event) (l : Ledger) (c : Pipeline) (ring : RingPlaces) (waiting few : List (ℕ × ℕ)) (taken : List ℕ) (bs : Vec ℕ Global) → PipelineAgrees base log l c ring waiting taken → DataAgree base log l (data_of c ring few) → PipelineAgrees base log l (record c { blocks = bs }) ring few taken
agrees_served base log l c ring waiting few taken bs a now = record {
  geom = a.geom;
  ring_geom = a.ring_geom;
  slot = a.slot;
  header = a.header;
  next = a.next;
  not_closed = a.not_closed;
  known = a.known;
  count = a.count;
  sure = a.sure;
  batch = a.batch;
  freed = a.freed;
  freed_by = a.freed_by;
  placed_at = a.placed_at;
  sure_at = a.sure_at;
  durable_at = a.durable_at;
  committed_at = a.committed_at;
  agree = now;
  notes = a.notes;
  given = a.given;
  expected = record { records = a.expected.records; home = a.expected.home; header = a.expected.header };
  apart = record { records = a.apart.records; beside = a.apart.beside; header_apart = a.apart.header_apart; records_upto = a.apart.records_upto; beside_upto = a.apart.beside_upto };
  sent = a.sent;
  idle = a.idle;
  one = grind (arith, nat_tests);
  free = a.free;
}

-- the pairs whose record isn't sure wait on
wait_above : (dead : DeadBlocks) (sure : ℕ) (going : List ℕ) → ((v : DeadBlocks) (sure : ℕ) (going_home : List ℕ) (k : ℕ) (p : ℕ × ℕ) → slice_get v.waiting k ≡ Some p → is_given_up sure going_home p ≡ false → (i : ℕ) × (slice_get (with_released v sure going_home).waiting i ≡ Some p))
    → WaitAbove sure dead.waiting (with_released dead sure going).waiting
wait_above dead sure going stays = record {
  each = λ k b r at above. stays dead sure going k (b, r) at (ap (λ t. t && not (is_among b going)) (lt-leb r sure above));
}

-- Each step.

pub serves_settled : (count : ℕ) (v a : Pipeline) (l k : Ledger) (dead : DeadBlocks) → SettlesSome count v a → Turned l k → MayServe l v dead → MayServe k a dead
serves_settled count v a l k dead s turned serves = still_dead l k v a dead turned serves (λ i h at opens. (sym (ap (λ (p : Pipeline). slice_get p.home.items i) s.rest) ∙ at, forgotten_opens v.notes.notes a.notes.notes s.forgets h.ticket opens))

serves_ended : (r : Bool) (b c : Pipeline) (l : Ledger) (dead : DeadBlocks) → EndsOrStays r b c → MayServe l b dead → MayServe l c dead
serves_ended false b c l dead same serves = subst (λ (p : Pipeline). MayServe l p dead) (sym same) serves
serves_ended true b c l dead ends serves = grind (arith, nat_tests)

serves_served : (c : Pipeline) (l : Ledger) (dead : DeadBlocks) (bs : Vec ℕ Global) → MayServe l c dead → MayServe l (record c { blocks = bs }) (with_served c dead)
serves_served c l dead bs serves = record {
  dead_now = λ b own. serves.dead_now b (served_was dead c.header.sure (going_home c.home.items c.notes.notes) b own);
  not_going = λ i h at opens. going_not dead c.header.sure (going_home c.home.items c.notes.notes) h.block (going_among c.home.items c.notes.notes i h at opens) (serves.not_going i h at opens);
}

-- All steps, one after the other.

module _ (s : MountedSession) (base : Blocks) (log : List Event) (l : Ledger) (t floor : ℕ) (taken : List ℕ) (ring : RingPlaces) (dead : DeadBlocks)
    (stays : (v : DeadBlocks) (sure : ℕ) (going_home : List ℕ) (k : ℕ) (p : ℕ × ℕ) → slice_get v.waiting k ≡ Some p → is_given_up sure going_home p ≡ false → (i : ℕ) × (slice_get (with_released v sure going_home).waiting i ≡ Some p))
    (fewer : (base : Blocks) (log : List Event) (l : Ledger) (p : PipelineData) (few : List (ℕ × ℕ)) → DataAgree base log l p → WaitAbove l.header.sure p.waiting few → DataAgree base log l (with_waiting p few)) where
  -- blocks serve again, by the ledger that there is
  pub served_right : (m : Ledger) (c : Pipeline) (bs : Vec ℕ Global) → Turned l m → IsSafe s base log m t floor → PipelineAgrees base log m c ring dead.waiting taken → MayServe m c dead → StaysRight s base log l t floor (record c { blocks = bs }) ring (with_served c dead) taken
  served_right m c bs turned safe agrees may = record {
    now = m;
    turned = turned;
    right = record {
      safe = safe;
      agrees = agrees_served base log m c ring dead.waiting (with_served c dead).waiting taken bs agrees (fewer base log m (data_of c ring dead.waiting) (with_served c dead).waiting agrees.agree above);
      serves = serves_served c m dead bs may;
    };
  }
    where
      above : WaitAbove m.header.sure dead.waiting (with_served c dead).waiting
      above = subst (λ n. WaitAbove n dead.waiting (with_served c dead).waiting) (ap (λ (h : Header). h.sure) agrees.header) (wait_above dead c.header.sure (going_home c.home.items c.notes.notes) stays)

  -- once the records are durable that may be
  turned_right : (old : RingPlaces) (turned ended : Bool) (k : Ledger) (a b c : Pipeline) (bs : Vec ℕ Global) → TurnsOrStays turned a b old ring → EndsOrStays ended b c → Turned l k → IsSafe s base log k t floor → PipelineAgrees base log k a old dead.waiting taken → MayServe k a dead
      → IsSafe s base log (header_turned turned a k) t floor × PipelineAgrees base log (header_turned turned a k) b ring dead.waiting taken
      → PipelineAgrees base log (header_turned turned a k) c ring dead.waiting taken
      → StaysRight s base log l t floor (record c { blocks = bs }) ring (with_served c dead) taken
  turned_right old turned ended k a b c bs turns ends on safe agrees may two three =
      served_right (header_turned turned a k) c bs (turned_on l k (header_turned turned a k) on (turned_header base log k a turned safe.keeps agrees.next)) two.0 three
      (serves_ended ended b c (header_turned turned a k) dead ends (serves_turned base log k a b old ring dead turned safe.keeps agrees.next turns may))

module _ (s : MountedSession) (base : Blocks) (log : List Event) (l : Ledger) (t floor : ℕ) (taken : List ℕ) (v a b c w : Pipeline) (ring next_ring : RingPlaces) (dead next_dead : DeadBlocks) where
  pub forward_right : (count : ℕ) (turned ended : Bool) → SettlesSome count v a → TurnsOrStays turned a b ring next_ring → EndsOrStays ended b c → next_dead ≡ with_served c dead → w ≡ record c { blocks = w.blocks }
      → (IsSafe s base log l t floor → PipelineAgrees base log l v ring dead.waiting taken → AgreesOn s base log l t floor a ring dead.waiting taken)
      → ((k : Ledger) → IsSafe s base log k t floor → PipelineAgrees base log k a ring dead.waiting taken → IsSafe s base log (header_turned turned a k) t floor × PipelineAgrees base log (header_turned turned a k) b next_ring dead.waiting taken)
      → ((k : Ledger) → IsSafe s base log k t floor → PipelineAgrees base log k b next_ring dead.waiting taken → PipelineAgrees base log k c next_ring dead.waiting taken)
      → ((v : DeadBlocks) (sure : ℕ) (going_home : List ℕ) (k : ℕ) (p : ℕ × ℕ) → slice_get v.waiting k ≡ Some p → is_given_up sure going_home p ≡ false → (i : ℕ) × (slice_get (with_released v sure going_home).waiting i ≡ Some p))
      → ((base : Blocks) (log : List Event) (l : Ledger) (p : PipelineData) (few : List (ℕ × ℕ)) → DataAgree base log l p → WaitAbove l.header.sure p.waiting few → DataAgree base log l (with_waiting p few))
      → IsRight s base log l t floor v ring dead taken → StaysRight s base log l t floor w next_ring next_dead taken
  forward_right count turned ended settles turns ends serves rest settle turn end stays fewer right =
      subst (λ (d : DeadBlocks). StaysRight s base log l t floor w next_ring d taken) (sym serves) (subst (λ (p : Pipeline). StaysRight s base log l t floor p next_ring (with_served c dead) taken) (sym rest) (by (settle right.safe right.agrees)))
    where
      by : AgreesOn s base log l t floor a ring dead.waiting taken → StaysRight s base log l t floor (record c { blocks = w.blocks }) next_ring (with_served c dead) taken
      by one =
          let two = turn one.now one.safe one.agrees in
          turned_right s base log l t floor taken next_ring dead stays fewer ring turned ended one.now a b c w.blocks turns ends one.turned one.safe one.agrees (serves_settled count v a l one.now dead settles one.turned right.serves) two (end (header_turned turned a one.now) two.0 two.1)
