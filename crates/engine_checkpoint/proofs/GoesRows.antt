-- Calls one after the other, as one: notices that were heard, steps, and blocks that serve again.
use Rattle.std.proofs.Common.{◌≡◌, ℕ, ◌+◌, ◌≤◌, Bool, false, IsTrue, OnOk, List, slice_get, Some, Result, Ok, Err, IsErr, refl, sym, ap, subst, arith}
use Rattle.std.proofs.lemmas.Bool.{false≢true}
use Rattle.base_types.specs.Seal.{Blocks}
use Rattle.disk_contract.specs.declared.disk.DiskFault.{DiskFault}
use Rattle.disk_contract.specs.declared.event.Event.{Event}
use Rattle.disk_contract.specs.Cell.{is_lost}
use Rattle.disk_contract.specs.Disk.{State, writes_in}
use Rattle.layout_journal.specs.Ring.{RingPlaces}
use Rattle.crash_argument.specs.Ledger.{Ledger, IsConsistentWith}
use Rattle.crash_argument.specs.Points.{MountedSession}
use Rattle.crash_argument.specs.PipelineData.{PipelineData, DataAgree, WaitAbove, with_waiting}
use Rattle.engine_reuse.specs.Calls.{is_given_up, with_released}
use Rattle.engine_reuse.specs.Dead.{DeadBlocks, AreSound}
use Rattle.engine_checkpoint.specs.declared.pipeline.Pipeline.{Pipeline}
use Rattle.engine_checkpoint.specs.Advance.{IsRightOn, IsSound, StaysRight, Leaves, writes_owed}
use Rattle.engine_checkpoint.specs.Agree.{PipelineAgrees}
use Rattle.engine_checkpoint.specs.Bytes.{IsLiveNow}
use Rattle.engine_checkpoint.specs.Calls.{GoesOn, StaysAgreed}
use Rattle.engine_checkpoint.specs.Kept.{kept}
use Rattle.engine_checkpoint.specs.Order.{IsFit}
use Rattle.engine_checkpoint.specs.Steps.{TakesNotices, PollsUpTo}
use Rattle.engine_checkpoint.specs.Turns.{with_served}
use Rattle.engine_checkpoint.specs.Waits.{HearsAll, HearsMore, OnlyNotices, StaysHeard, WaitsSome}
use Rattle.engine_checkpoint.proofs.Added.{home_none, home_failed, home_noticed, home_then, loses_none, loses_on, loses_heard, loses_served}
use Rattle.engine_checkpoint.proofs.Forgotten.{committed_heard, committed_on, committed_same}
use Rattle.engine_checkpoint.proofs.Heard.{sound_heard, serves_heard, owed_heard, writes_noticed}
use Rattle.engine_checkpoint.proofs.HeardRecords.{stays_heard_on}
use Rattle.engine_checkpoint.proofs.LiveBytes.{leaves_none, leaves_noticed, leaves_same, leaves_then}
use Rattle.engine_checkpoint.proofs.MovesRows.{ReleaseKeepsDead, moves_more, moves_heard, moves_on, moves_served}
use Rattle.engine_checkpoint.proofs.Rounds.{leaves_on, served_sound, served_stays}
use Rattle.engine_checkpoint.proofs.Settled.{turned_same}
use Rattle.engine_checkpoint.proofs.Spent.{holds_ok, on_ok}

-- a call behind another one that succeeded
pub goes_then : {B F : Type 0} {tells : Bool} {old mid new : State} {v w y : Pipeline} {r0 r1 r2 : RingPlaces} {d0 d1 d2 : DeadBlocks} (r : Result B F) (m n : ℕ)
    → GoesOn {A = Unit {0}} {E = DiskFault} tells m (Ok tt) old mid v w r0 r1 d0 d1 → GoesOn tells n r mid new w y r1 r2 d1 d2 → mid.manner ≡ old.manner → GoesOn tells (m + n) r old new v y r0 r2 d0 d2
goes_then {old = old} {mid = mid} {new = new} {v = v} {w = w} {y = y} {r0 = r0} {r1 = r1} {r2 = r2} {d0 = d0} {d1 = d1} {d2 = d2} r m n one two manner = record {
  right = λ told s l t floor taken right. let at = one.right told s l t floor taken right in leaves_on r s new l t floor y r2 d2 taken at.now at.turned (two.right told s at.now t floor taken at.right);
  sound = two.sound;
  moves = moves_on m n v w y r0 r1 r2 d0 d1 d2 one.moves two.moves;
  owed = λ told. omega (arith, one.owed told, two.owed told);
  adds = λ told. home_then {A = Unit {0}} {E = DiskFault} tt r (kept v) (kept w) old.log mid.log new.log one.front (one.adds told) (two.adds told);
  front = loses_on (kept v) (kept w) (kept y) one.front two.front;
  lost = on_ok r two.lost (committed_on v w y one.lost);
  heard = λ told s l t floor taken right. let at = one.right told s l t floor taken right in on_ok r (two.heard told s at.now t floor taken at.right) (stays_heard_on old mid new v w y manner (one.heard told s l t floor taken right));
  bytes = λ told s l t floor taken right. let at = one.right told s l t floor taken right in leaves_then l at.now at.turned v w y old mid new one.front (one.bytes told s l t floor taken right) (two.bytes told s at.now t floor taken at.right);
}

-- the fault is passed on
pub goes_fault : {A E B F : Type 0} {tells : Bool} {n : ℕ} {old new : State} {v w : Pipeline} {r0 r1 : RingPlaces} {d0 d1 : DeadBlocks} (e : E) (r : Result B F) → IsErr r → GoesOn {A = A} tells n (Err e) old new v w r0 r1 d0 d1 → GoesOn tells n r old new v w r0 r1 d0 d1
goes_fault e (Ok a) failed g = absurd (false≢true failed)
goes_fault {A = A} {E = E} {old = old} {new = new} {v = v} e (Err x) failed g = record {
  right = g.right;
  sound = tt;
  moves = g.moves;
  owed = g.owed;
  adds = λ told. home_failed {A = A} {E = E} (Err e) (Err x) (kept v) old.log new.log refl (g.adds told);
  front = g.front;
  lost = tt;
  heard = λ told s l t floor taken right. tt;
  bytes = g.bytes;
}

-- more headers may be written
pub goes_upto : {A E : Type 0} {tells : Bool} {r : Result A E} {old new : State} {v w : Pipeline} {r0 r1 : RingPlaces} {d0 d1 : DeadBlocks} (m n : ℕ) → m ≤ n → GoesOn tells m r old new v w r0 r1 d0 d1 → GoesOn tells n r old new v w r0 r1 d0 d1
goes_upto {v = v} {w = w} {r0 = r0} {r1 = r1} {d0 = d0} {d1 = d1} m n le g = let moves = moves_more m n v w r0 r1 d0 d1 le g.moves in assumption

-- where all stays right, it does so whether or not the disk failed
stays_leaves : {A E : Type 0} (r : Result A E) (s : MountedSession) (d : State) (l : Ledger) (t floor : ℕ) (v : Pipeline) (ring : RingPlaces) (dead : DeadBlocks) (taken : List ℕ) → StaysRight s d.base d.log l t floor v ring dead taken → Leaves r s d l t floor v ring dead taken
stays_leaves (Ok a) s d l t floor v ring dead taken stays = stays
stays_leaves (Err e) s d l t floor v ring dead taken stays = record { now = stays.now; turned = stays.turned; safe = stays.right.safe }

-- no write to a live block is lost, as the law has it
abbrev pub IsCalm : Type 0
IsCalm = (base : Blocks) (log : List Event) (l : Ledger) (v : Pipeline) (ring : RingPlaces) (waiting : List (ℕ × ℕ)) (taken : List ℕ) (b : ℕ) → IsConsistentWith base log l → PipelineAgrees base log l v ring waiting taken → IsLiveNow l b → is_lost b log ≡ false

-- nothing is done
pub goes_nowhere : {A E : Type 0} {tells : Bool} {d : State} {v : Pipeline} {ring : RingPlaces} {dead : DeadBlocks} (r : Result A E) → IsCalm → IsSound v ring dead → GoesOn tells 0 r d d v v ring ring dead dead
goes_nowhere {d = d} {v = v} {ring = ring} {dead = dead} r calm sound = record {
  right = λ told s l t floor taken right. stays_leaves r s d l t floor v ring dead taken (record { now = l; turned = turned_same l; right = right });
  sound = holds_ok r sound;
  moves = grind arith;
  owed = λ told. omega arith;
  adds = λ told. home_none r (kept v) d.log d.log refl;
  front = loses_none (kept v) (kept v) refl;
  lost = holds_ok r (committed_same v v refl);
  heard = λ told s l t floor taken right. holds_ok r (λ alone heard. heard);
  bytes = λ told s l t floor taken right. leaves_none l v d (λ b lives. calm d.base d.log l v ring dead.waiting taken b right.safe.keeps right.agrees lives);
}

-- blocks serve again
module _ {tells : Bool} {d : State} {v w : Pipeline} {ring : RingPlaces} {dead next : DeadBlocks} (serves : next ≡ with_served v dead) (rest : w ≡ record v { blocks = w.blocks }) where
  pub goes_served : IsCalm → ReleaseKeepsDead → AreSound dead
      → ((v : DeadBlocks) (sure : ℕ) (going_home : List ℕ) (k : ℕ) (p : ℕ × ℕ) → slice_get v.waiting k ≡ Some p → is_given_up sure going_home p ≡ false → (i : ℕ) × (slice_get (with_released v sure going_home).waiting i ≡ Some p))
      → ((base : Blocks) (log : List Event) (l : Ledger) (p : PipelineData) (few : List (ℕ × ℕ)) → DataAgree base log l p → WaitAbove l.header.sure p.waiting few → DataAgree base log l (with_waiting p few))
      → IsSound v ring dead → IsFit w → GoesOn {A = Unit {0}} {E = DiskFault} tells 0 (Ok tt) d d v w ring ring dead next
  goes_served calm law lawful stays fewer sound fit = record {
    right = λ told s l t floor taken right. served_stays v w ring dead next serves rest s d.base d.log l t floor taken stays fewer (record { now = l; turned = turned_same l; right = right });
    sound = served_sound v w ring dead next serves rest sound fit.order fit.room;
    moves = moves_served v w ring dead next law lawful serves rest;
    owed = λ told. omega (arith, ap writes_owed rest);
    adds = λ told. home_none (Ok tt) (kept v) d.log d.log refl;
    front = loses_served v w rest;
    lost = committed_same v w (ap (λ (p : Pipeline). p.committed.items) rest);
    heard = λ told s l t floor taken right alone heard. subst (λ (p : Pipeline). HearsAll d.log p) (sym rest) heard;
    bytes = λ told s l t floor taken right. leaves_same l v v w d d (loses_none (kept v) (kept v) refl) (ap kept rest) (leaves_none l v d (λ b lives. calm d.base d.log l v ring dead.waiting taken b right.safe.keeps right.agrees lives));
  }

-- A call that heard notices, and did nothing else.
pub record Listens (tells : Bool) (old mid : State) (v w : Pipeline) : Type 0 where
  pub agrees : StaysAgreed tells old mid v w
  pub hears : HearsMore v.notes w.notes
  pub rest : w ≡ record v { notes = w.notes }
  pub log : IsTrue tells → OnlyNotices old.log mid.log
  pub base : mid.base ≡ old.base

pub took : {A E : Type 0} {tells failed : Bool} {n : ℕ} {r : Result A E} {old mid : State} (v w : Pipeline) → StaysAgreed tells old mid v w → HearsMore v.notes w.notes → w ≡ record v { notes = w.notes } → (IsTrue tells → TakesNotices r v w old mid) → PollsUpTo failed n old mid → Listens tells old mid v w
took v w agrees hears rest takes spends = record { agrees = agrees; hears = hears; rest = rest; log = λ told. record { tickets = (takes told).tickets; log = (takes told).log }; base = spends.spends.same.base }

pub waited : {tells failed : Bool} {old mid : State} (v w : Pipeline) → StaysAgreed tells old mid v w → HearsMore v.notes w.notes → w ≡ record v { notes = w.notes } → (IsTrue tells → OnlyNotices old.log mid.log) → WaitsSome failed old mid → Listens tells old mid v w
waited v w agrees hears rest log spends = record { agrees = agrees; hears = hears; rest = rest; log = log; base = spends.spends.same.base }

module _ {tells : Bool} {old mid : State} {v w : Pipeline} (f : Listens tells old mid v w) (ring : RingPlaces) (dead : DeadBlocks) where
  -- all is right still
  pub right_then : IsTrue tells → (s : MountedSession) (l : Ledger) (t floor : ℕ) (taken : List ℕ) → IsRightOn s old l t floor v ring dead taken → IsRightOn s mid l t floor w ring dead taken
  right_then told s l t floor taken right = let now = f.agrees told s l t floor ring dead.waiting taken right.safe right.agrees in record { safe = now.0; agrees = now.1; serves = serves_heard l v w dead f.rest f.hears right.serves }

  pub goes_heard : {A E : Type 0} (r : Result A E) → IsCalm → IsSound v ring dead → OnOk r (IsTrue tells → StaysHeard old mid v w) → GoesOn tells 0 r old mid v w ring ring dead dead
  goes_heard r calm sound knows = record {
    right = λ told s l t floor taken right. stays_leaves r s mid l t floor w ring dead taken (record { now = l; turned = turned_same l; right = right_then told s l t floor taken right });
    sound = holds_ok r (sound_heard v w ring dead f.rest f.hears sound);
    moves = moves_heard v w ring dead f.rest;
    owed = λ told. let came = f.log told in omega (arith, ap writes_in came.log, writes_noticed old.log came.tickets, owed_heard v w f.rest);
    adds = λ told. let came = f.log told in home_noticed r (kept v) came.tickets old.log mid.log came.log;
    front = loses_heard v w f.rest;
    lost = holds_ok r (committed_heard v w f.rest);
    heard = λ told s l t floor taken right. on_ok r knows (λ known. known told);
    bytes = λ told s l t floor taken right. let came = f.log told in leaves_noticed l v w old mid came.tickets (λ b lives. calm old.base old.log l v ring dead.waiting taken b right.safe.keeps right.agrees lives) f.rest f.base came.log;
  }
