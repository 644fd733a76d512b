-- The steps that are due, behind one another: those that make no write, a batch that began, and a header that was tried.
use Rattle.std.proofs.Common.{◌≡◌, ℕ, ◌+◌, ◌≤◌, Bool, true, IsTrue, OnOk, List, map, Some, None, Result, Ok, Err, ◌∙◌, arith}
use Rattle.disk_contract.specs.declared.disk.DiskFault.{DiskFault}
use Rattle.disk_contract.specs.declared.event.Event.{Event}
use Rattle.disk_contract.specs.Disk.{State, AddsWrite, writes_in}
use Rattle.layout_journal.specs.Ring.{RingPlaces}
use Rattle.crash_argument.specs.Ledger.{Ledger}
use Rattle.crash_argument.specs.Points.{MountedSession}
use Rattle.engine_reuse.specs.Dead.{DeadBlocks, AreSound}
use Rattle.engine_checkpoint.specs.declared.pipeline.Pipeline.{Pipeline}
use Rattle.engine_checkpoint.specs.Adds.{LosesFront}
use Rattle.engine_checkpoint.specs.Advance.{GoesForward, IsRightOn, IsSound, StaysRight, Leaves, writes_owed}
use Rattle.engine_checkpoint.specs.Bytes.{HasNewest, IsLiveNow, LeavesBytes}
use Rattle.engine_checkpoint.specs.Calls.{GoesOn}
use Rattle.engine_checkpoint.specs.Kept.{kept, newest_in, of_sure}
use Rattle.engine_checkpoint.specs.Order.{IsInOrder}
use Rattle.engine_checkpoint.specs.Turns.{AddsBatch, AddsHeader, BatchAdds, HeaderAdds, is_batch_due, is_header_due}
use Rattle.engine_checkpoint.specs.Waits.{StaysHeard}
use Rattle.engine_checkpoint.proofs.Added.{home_stepped, loses_on, loses_batch, loses_header, kept_begun, kept_made}
use Rattle.engine_checkpoint.proofs.EventRows.{adds_on}
use Rattle.engine_checkpoint.proofs.Forgotten.{committed_on, committed_same, forward_forgets, forward_loses, written_committed, written_noticed}
use Rattle.engine_checkpoint.proofs.HeardRecords.{grows_batch, grows_header, grows_on, heard_left, none_came, written_expected}
use Rattle.engine_checkpoint.proofs.LiveBytes.{Covered, leaves_on, batch_covered, header_covered}
use Rattle.engine_checkpoint.proofs.MovesRows.{ReleaseKeepsDead, moves_whole}
use Rattle.engine_checkpoint.proofs.Spent.{holds_ok}
use Rattle.engine_checkpoint.proofs.StepsRight.{owed_header}

module _ (tells : Bool) (d e f : State) (v w x y : Pipeline) (before ring : RingPlaces) (was dead : DeadBlocks) (law : ReleaseKeepsDead) (one_write : (b : ℕ) (x : List ℕ) (r : Result ℕ DiskFault) (old new : List Event) → AddsWrite b x r old new → writes_in new ≤ writes_in old + 1)
    (lawful : AreSound was) (order : IsInOrder v) (order_then : IsInOrder x) (steps : (a b c : Pipeline) × GoesForward v a b c w before ring was dead)
    (forward : (s : MountedSession) (l : Ledger) (t floor : ℕ) (taken : List ℕ) → IsRightOn s d l t floor v before was taken → StaysRight s d.base d.log l t floor w ring dead taken)
    (bytes : (s : MountedSession) (l : Ledger) (t floor : ℕ) (taken : List ℕ) → IsRightOn s d l t floor v before was taken → LeavesBytes l v w d d) (front : LosesFront (kept v) (kept w)) (owed : writes_owed w ≡ writes_owed v)
    (begins : BatchAdds {A = Unit {0}} {E = DiskFault} (is_batch_due w) (Ok tt) w x) (batch : IsTrue tells → AddsBatch {A = Unit {0}} {E = DiskFault} (is_batch_due w) (Ok tt) w x d.log e.log) (batch_base : e.base ≡ d.base)
    (batch_owed : IsTrue tells → writes_in e.log + writes_owed x ≤ writes_in d.log + writes_owed w)
    (lives : (told : IsTrue tells) (s : MountedSession) (l : Ledger) (t floor : ℕ) (taken : List ℕ) (right : IsRightOn s d l t floor v before was taken) → is_batch_due w ≡ true → (b : ℕ) (z : List ℕ) → newest_in None (map of_sure w.sure.items) b ≡ Some z → IsLiveNow (forward s l t floor taken right).now b → HasNewest w b) where
  heard_both : (r : Result (Unit {0}) DiskFault) → HeaderAdds (is_header_due x) r x y ring → IsTrue tells → AddsHeader (is_header_due x) r x y ring e.log f.log → OnOk r (StaysHeard d f v y)
  heard_both (Ok b) adds told header =
      let grows = grows_on d.log e.log f.log (grows_batch {A = Unit {0}} {E = DiskFault} (is_batch_due w) (Ok tt) w x d.log e.log (batch told)) (grows_header (is_header_due x) (Ok b) x y ring e.log f.log header) in
      λ alone heard. heard_left d.log f.log v w y (forward_forgets v steps.0 steps.1 steps.2 w before ring was dead steps.3) (written_noticed {A = Unit {0}} {E = DiskFault} (is_batch_due w) (is_header_due x) (Ok tt) (Ok b) w x y ring begins adds)
      (written_expected {A = Unit {0}} {B = Unit {0}} (is_batch_due w) (is_header_due x) tt b w x y ring d.log e.log f.log begins adds (batch told) header) (none_came d.log f.log grows) heard
  heard_both (Err k) adds told header = tt

  pub goes_both : (r : Result (Unit {0}) DiskFault) → HeaderAdds (is_header_due x) r x y ring → (IsTrue tells → AddsHeader (is_header_due x) r x y ring e.log f.log) → (is_header_due x ≡ true → writes_owed y + 1 ≤ writes_owed x) → f.base ≡ e.base
      → (IsTrue tells → (s : MountedSession) (l : Ledger) (t floor : ℕ) (taken : List ℕ) → IsRightOn s d l t floor v before was taken → Leaves r s f l t floor y ring dead taken) → OnOk r (IsSound y ring dead) → GoesOn tells 1 r d f v y before ring was dead
  goes_both r adds header header_owed header_base right sound = record {
    right = right;
    sound = sound;
    moves = moves_whole {A = Unit {0}} {E = DiskFault} (is_batch_due w) (is_header_due x) (Ok tt) r v steps.0 steps.1 steps.2 w x y before ring was dead law lawful order order_then steps.3 begins adds;
    owed = λ told. omega (arith, owed_header x y ring (is_header_due x) r e.log f.log one_write adds (header told) header_owed, batch_owed told, owed);
    adds = λ told. home_stepped {A = Unit {0}} DiskFault tt r (is_batch_due w) (is_header_due x) v w x y ring d.log e.log f.log front (batch told) (header told);
    front = loses_on (kept v) (kept w) (kept y) front (loses_on (kept w) (kept x) (kept y) (loses_batch {A = Unit {0}} {E = DiskFault} (is_batch_due w) (Ok tt) w x begins) (loses_header (is_header_due x) r x y ring adds));
    lost = holds_ok r (committed_on v w y (forward_loses v steps.0 steps.1 steps.2 w before ring was dead steps.3) (committed_same w y (written_committed {A = Unit {0}} {E = DiskFault} (is_batch_due w) (is_header_due x) (Ok tt) r w x y ring begins adds)));
    heard = λ told s l t floor taken is. heard_both r adds told (header told);
    bytes = λ told s l t floor taken is.
        let on = forward s l t floor taken is in
        let first = batch_covered {A = Unit {0}} {E = DiskFault} (is_batch_due w) (Ok tt) on.now w x d.log e.log (batch told) (lives told s l t floor taken is) in
        leaves_on l on.now on.turned v w y d d f front (header_base ∙ batch_base) (kept_made (is_header_due x) r x y ring adds ∙ kept_begun {A = Unit {0}} {E = DiskFault} (is_batch_due w) (Ok tt) w x begins)
        (adds_on (Covered on.now w) d.log e.log f.log first (header_covered (is_header_due x) r on.now w x y ring e.log f.log (header told))) (bytes s l t floor taken is);
  }
