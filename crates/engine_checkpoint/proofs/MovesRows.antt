-- The pipeline moves on: what each step keeps that the caller of the whole counts on, and that steps after one another do so too.
use Rattle.std.proofs.Common.{◌≡◌, ℕ, ◌+◌, ◌-◌, ◌<◌, ◌≤◌, ◌||◌, not, cond, Bool, true, false, List, [], ◌∷◌, length, Result, Ok, Err, refl, sym, ◌∙◌, ap, subst, arith, take-append-drop, suc}
use Rattle.std.proofs.lemmas.Grind.{common_steps}
use Rattle.std.specs.List.{filter, range_with_len}
use Rattle.layout_journal.specs.Ring.{RingPlaces}
use Rattle.layout_geometry.specs.Geometry.{data_start}
use Rattle.engine_reuse.specs.Numbers.{is_among}
use Rattle.engine_reuse.specs.Dead.{DeadBlocks, AreSound, dead_blocks}
use Rattle.engine_reuse.specs.Calls.{with_released, given_up, is_given_up}
use Rattle.engine_checkpoint.specs.declared.pipeline.Pipeline.{Pipeline}
use Rattle.engine_checkpoint.specs.Advance.{Moves, GoesForward, IsSound}
use Rattle.engine_checkpoint.specs.Index.{IndexIsRight}
use Rattle.engine_checkpoint.specs.Kept.{kept}
use Rattle.engine_checkpoint.specs.Newest.{spot_of}
use Rattle.engine_checkpoint.specs.Order.{IsInOrder, HasRoom, GoesWith}
use Rattle.engine_checkpoint.specs.Steps.{SettlesSome}
use Rattle.engine_checkpoint.specs.Turns.{TurnsOrStays, EndsOrStays, BeginsBatch, BatchAdds, HeaderAdds, is_header_noticed, is_batch_noticed, with_served, going_home}
use Rattle.engine_checkpoint.proofs.HeaderTurns.{goes_made}
use Rattle.engine_checkpoint.proofs.Index.{index_same}
use Rattle.engine_checkpoint.proofs.Orders.{order_settled}

-- no header is durable that comes after the one written last
pub turn_is_written : (v : Pipeline) → IsInOrder v → v.header.turn ≤ v.written.turn
turn_is_written v o = grind arith

-- Steps after one another.

pub moves_none : (v : Pipeline) (ring : RingPlaces) (dead : DeadBlocks) → Moves 0 v v ring ring dead dead
moves_none v ring dead = grind arith

pub moves_more : (n m : ℕ) (v w : Pipeline) (ring next_ring : RingPlaces) (dead next_dead : DeadBlocks) → n ≤ m → Moves n v w ring next_ring dead next_dead → Moves m v w ring next_ring dead next_dead
moves_more n m v w ring next_ring dead next_dead le s = grind arith

pub moves_on : (m n : ℕ) (v w x : Pipeline) (r0 r1 r2 : RingPlaces) (d0 d1 d2 : DeadBlocks) → Moves m v w r0 r1 d0 d1 → Moves n w x r1 r2 d1 d2 → Moves (m + n) v x r0 r2 d0 d2
moves_on m n v w x r0 r1 r2 d0 d1 d2 s t = grind arith

moves_as : (v w : Pipeline) (ring next_ring : RingPlaces) (dead : DeadBlocks) → w ≡ v → next_ring ≡ ring → Moves 0 v w ring next_ring dead dead
moves_as v w ring next_ring dead same same_ring = grind arith

-- notices that were heard have moved nothing
pub moves_heard : (v w : Pipeline) (ring : RingPlaces) (dead : DeadBlocks) → w ≡ record v { notes = w.notes } → Moves 0 v w ring ring dead dead
moves_heard v w ring dead rest = grind arith

-- Records become durable.

pub moves_settled : (count : ℕ) (v w : Pipeline) (ring : RingPlaces) (dead : DeadBlocks) → SettlesSome count v w → Moves 0 v w ring ring dead dead
moves_settled count v w ring dead s = grind arith

pub order_some : (count : ℕ) (v w : Pipeline) → SettlesSome count v w → IsInOrder v → IsInOrder w
order_some count v w s = order_settled v w s.rest s.kept (grind arith)

-- The pending header turns.

pub moves_turned : (turned : Bool) (v w : Pipeline) (ring next_ring : RingPlaces) (dead : DeadBlocks) → TurnsOrStays turned v w ring next_ring → IsInOrder v → Moves 0 v w ring next_ring dead dead
moves_turned false v w ring next_ring dead same o = moves_as v w ring next_ring dead same.0 same.1
moves_turned true v w ring next_ring dead t o = let m = o.next t.pending t.was in grind (arith, common_steps)

-- The batch ends.

pub moves_ended : (ended : Bool) (v w : Pipeline) (ring : RingPlaces) (dead : DeadBlocks) → EndsOrStays ended v w → Moves 0 v w ring ring dead dead
moves_ended false v w ring dead same = moves_as v w ring ring dead same refl
moves_ended true v w ring dead e = grind (arith, common_steps, take-append-drop)

-- Freed blocks serve again.

-- a release lets the same blocks be dead, as the law has it
abbrev pub ReleaseKeepsDead : Type 0
ReleaseKeepsDead = (v : DeadBlocks) (sure : ℕ) (going : List ℕ) (c : ℕ) → AreSound v → is_among c (dead_blocks (with_released v sure going)) ≡ is_among c (dead_blocks v)

-- what passes one test passes a wider one
among_step : (b x : ℕ) (p q : Bool) (ts us : List ℕ) → (p ≡ true → q ≡ true) → (is_among b ts ≡ true → is_among b us ≡ true) → is_among b (cond p (x ∷ ts) ts) ≡ true → is_among b (cond q (x ∷ us) us) ≡ true
among_step b x p q ts us wider rest is = grind arith

among_wider : (b : ℕ) (t u : ℕ → Bool) → ((x : ℕ) → t x ≡ true → u x ≡ true) → (xs : List ℕ) → is_among b (filter t xs) ≡ true → is_among b (filter u xs) ≡ true
among_wider b t u wider [] is = is
among_wider b t u wider (x ∷ xs) is = among_step b x (t x) (u x) (filter t xs) (filter u xs) (wider x) (among_wider b t u wider xs) is

shorter : {A : Type 0} (x : A) (p : Bool) (ys : List A) (n : ℕ) → length ys ≤ n → length (cond p (x ∷ ys) ys) ≤ suc n
shorter x p ys n le = grind arith

filter_less : {A : Type 0} (t : A → Bool) (xs : List A) → length (filter t xs) ≤ length xs
filter_less t [] = omega arith
filter_less t (x ∷ xs) = shorter x (t x) (filter t xs) (length xs) (filter_less t xs)

pub moves_served : (v w : Pipeline) (ring : RingPlaces) (dead next_dead : DeadBlocks) → ReleaseKeepsDead → AreSound dead → next_dead ≡ with_served v dead → w ≡ record v { blocks = w.blocks } → Moves 0 v w ring ring dead next_dead
moves_served v w ring dead next_dead law sound is rest =
    let among = λ (b : ℕ) (own : is_among b dead.reusable ≡ true). among_wider b (λ c. is_among c dead.reusable) (λ c. is_among c gone || is_among c dead.reusable) (λ c own. grind arith) (range_with_len (data_start dead.geom) (dead.geom.n - data_start dead.geom)) (sym (ap (is_among b) sound.ascending) ∙ own) in
    grind (arith, among, filter_less (λ p. not (is_given_up v.header.sure going p)) dead.waiting, λ (b : ℕ). law dead v.header.sure going b sound)
  where
    going : List ℕ
    going = going_home v.home.items v.notes.notes

    gone : List ℕ
    gone = given_up v.header.sure going dead.waiting

-- All steps that make no write.

pub moves_forward : (v a b c w : Pipeline) (ring next_ring : RingPlaces) (dead next_dead : DeadBlocks) → ReleaseKeepsDead → AreSound dead → IsInOrder v → GoesForward v a b c w ring next_ring dead next_dead → Moves 0 v w ring next_ring dead next_dead
moves_forward v a b c w ring next_ring dead next_dead law sound o g =
    moves_on 0 0 v c w ring next_ring next_ring dead dead next_dead
    (moves_on 0 0 v b c ring next_ring next_ring dead dead dead
    (moves_on 0 0 v a b ring ring next_ring dead dead dead (moves_settled g.count v a ring dead g.settles) (moves_turned (is_header_noticed a.next a.notes.notes) a b ring next_ring dead g.turns (order_some g.count v a g.settles o)))
    (moves_ended (is_batch_noticed b) b c next_ring dead g.ends))
    (moves_served c w next_ring dead next_dead law sound g.serves g.rest)

-- The batch begins.

moves_begun : (v w : Pipeline) (ring : RingPlaces) (dead : DeadBlocks) → BeginsBatch v w → Moves 0 v w ring ring dead dead
moves_begun v w ring dead e = grind arith

goes_begun : (v w : Pipeline) (ring : RingPlaces) (dead : DeadBlocks) → BeginsBatch v w → GoesWith v ring dead → GoesWith w ring dead
goes_begun v w ring dead e goes = grind arith

index_begun : (v w : Pipeline) → BeginsBatch v w → IndexIsRight v → IndexIsRight w
index_begun v w e right = index_same v w (ap kept e.rest) (λ b. ap (λ (p : Pipeline). spot_of p.newest b) e.rest) right

pub moves_batch : {A E : Type 0} (due : Bool) (r : Result A E) (v w : Pipeline) (ring : RingPlaces) (dead : DeadBlocks) → BatchAdds due r v w → Moves 0 v w ring ring dead dead
moves_batch true (Ok a) v w ring dead adds = moves_begun v w ring dead adds.0
moves_batch true (Err e) v w ring dead adds = moves_begun v w ring dead adds
moves_batch false (Ok a) v w ring dead same = moves_as v w ring ring dead same refl
moves_batch false (Err e) v w ring dead none = absurd none

pub sound_batch : {A E : Type 0} (due : Bool) (r : Result A E) (v w : Pipeline) (ring : RingPlaces) (dead : DeadBlocks) → BatchAdds due r v w → IsInOrder w → HasRoom w → IsSound v ring dead → IsSound w ring dead
sound_batch true (Ok a) v w ring dead adds o h s = record { order = o; room = h; index = index_begun v w adds.0 s.index; goes_with = goes_begun v w ring dead adds.0 s.goes_with }
sound_batch true (Err e) v w ring dead adds o h s = record { order = o; room = h; index = index_begun v w adds s.index; goes_with = goes_begun v w ring dead adds s.goes_with }
sound_batch false (Ok a) v w ring dead same o h s = subst (λ (p : Pipeline). IsSound p ring dead) (sym same) s
sound_batch false (Err e) v w ring dead none o h s = absurd none

-- A header is written.

pub moves_header : {A E : Type 0} (due : Bool) (r : Result A E) (v w : Pipeline) (ring : RingPlaces) (dead : DeadBlocks) → IsInOrder v → HeaderAdds due r v w ring → Moves 1 v w ring ring dead dead
moves_header true (Ok a) v w ring dead o adds = let turn = turn_is_written v o in grind arith
moves_header true (Err e) v w ring dead o is = let turn = turn_is_written v o in grind arith
moves_header false (Ok a) v w ring dead o same = grind arith
moves_header false (Err e) v w ring dead o none = absurd none

-- A header that was written leaves all sound.
pub sound_header : (A E : Type 0) (due : Bool) (a : A) (v w : Pipeline) (ring : RingPlaces) (dead : DeadBlocks) → HeaderAdds {A = A} {E = E} due (Ok a) v w ring → IsInOrder w → HasRoom w → IsSound v ring dead → IsSound w ring dead
sound_header A E true a v w ring dead writes o h s = record { order = o; room = h; index = index_same v w (ap kept writes.rest) (λ b. ap (λ (p : Pipeline). spot_of p.newest b) writes.rest) s.index; goes_with = goes_made v w ring dead writes s.goes_with }
sound_header A E false a v w ring dead same o h s = subst (λ (p : Pipeline). IsSound p ring dead) (sym same) s

-- The numbers are as far from their ends as before, as long as no header is written.
pub turns_left : (v w : Pipeline) (ring next_ring : RingPlaces) (dead next_dead : DeadBlocks) (most : ℕ) → v.written.turn < most → IsInOrder w → Moves 0 v w ring next_ring dead next_dead → w.header.turn < most
turns_left v w ring next_ring dead next_dead most low o m = omega (arith, low, turn_is_written w o, m.turn)

-- Up to the batch.
pub moves_upto_batch : {A E : Type 0} (due : Bool) (r : Result A E) (v a b c w x : Pipeline) (ring next_ring : RingPlaces) (dead next_dead : DeadBlocks) → ReleaseKeepsDead → AreSound dead → IsInOrder v → GoesForward v a b c w ring next_ring dead next_dead → BatchAdds due r w x → Moves 0 v x ring next_ring dead next_dead
moves_upto_batch due r v a b c w x ring next_ring dead next_dead law sound o forward adds =
    moves_on 0 0 v w x ring next_ring next_ring dead next_dead next_dead (moves_forward v a b c w ring next_ring dead next_dead law sound o forward) (moves_batch due r w x next_ring next_dead adds)

-- The whole: the steps that make no write, the batch, and the header.
pub moves_whole : {A E B F : Type 0} (due header_due : Bool) (r : Result A E) (q : Result B F) (v a b c w x y : Pipeline) (ring next_ring : RingPlaces) (dead next_dead : DeadBlocks) → ReleaseKeepsDead → AreSound dead → IsInOrder v → IsInOrder x
    → GoesForward v a b c w ring next_ring dead next_dead → BatchAdds due r w x → HeaderAdds header_due q x y next_ring → Moves 1 v y ring next_ring dead next_dead
moves_whole due header_due r q v a b c w x y ring next_ring dead next_dead law sound o ox forward adds header =
    moves_on 0 1 v x y ring next_ring next_ring dead next_dead next_dead
    (moves_upto_batch due r v a b c w x ring next_ring dead next_dead law sound o forward adds)
    (moves_header header_due q x y next_ring next_dead ox header)
