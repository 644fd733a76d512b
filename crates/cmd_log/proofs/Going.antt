-- A log of one call more.
use Rattle.std.proofs.Common.{◌≡◌, ◌⊎◌, inl, inr, ℕ, ◌<◌, ◌≤◌, Bool, true, IsTrue, List, [], ◌∷◌, ◌++◌, length, length-append, take, take_all, refl, sym, ap, ◌∙◌, subst, arith}
use Rattle.std.proofs.lemmas.List.{take-append-le}
use Rattle.disk_contract.specs.declared.bay.Mark.{Mark}
use Rattle.disk_contract.specs.declared.event.Event.{Event}
use Rattle.disk_contract.specs.Disk as disk
use Rattle.disk_contract.specs.Manner.{Manner}
use Rattle.layout_geometry.specs.Geometry.{Geometry}
use Rattle.lang_tree.specs.declared.command.Cmd.{Cmd}
use Rattle.lang_tree.specs.declared.command.Refusal.{Refusal}
use Rattle.lang_tree.specs.declared.command.Refusal.TheVariants as because
use Rattle.lang_tree.specs.declared.command.Reply.TheVariants as replied
use Rattle.lang_log.specs.declared.call.LogCall.{LogCall}
use Rattle.lang_log.specs.declared.call.LogReply.{LogReply}
use Rattle.lang_log.specs.declared.call.LogReply.TheVariants as answered
use Rattle.lang_log.specs.History.{History, opened_with}
use Rattle.lang_log.specs.Log.{Log}
use Rattle.engine_blocks.specs.State.{State}
use Rattle.fs_log.specs.Causes.{HasAsked, HasLogCause, WasAnswered}
use Rattle.fs_log.specs.Keeping.{Goes, Keeps}
use Rattle.cmd_image.specs.Refusals.{is_failed}
use Rattle.cmd_image.specs.Shared.{within_more, within_on}
use Rattle.cmd_image.specs.Steps.{AreWithin, mark_in}
use Rattle.cmd_log.specs.Answering.{HasAnswerCause, IfRefused, TakesCall}
use Rattle.cmd_log.specs.Causes.{AnswersBy, Situation}
use Rattle.cmd_log.specs.Logs.{HasLogReason, HaveLogReasons, LogMarksGo, MarksReply}
use Rattle.cmd_log.specs.Serving.{HasLogged}
use Rattle.cmd_log.specs.Steps.{IsAt, KeepsToManner, KnownSoFar, SoFar}
use Rattle.cmd_log.proofs.Causes.{CountsStop, LeadsCall, ReplyLaws, calls_more, counted_one}

-- A refusal for the disk.

-- What is known of blocks behind a refusal: a failed read was counted, or another call that failed, by which they have stopped.
pub record FailsFor (why : Refusal) (u : State) : Type 0 where
  pub read_faults : why ≡ because.ReadFault → 0 < u.counts.read_faults
  pub faults : why ≡ because.DiskFault → 0 < u.counts.faults
  pub fault : why ≡ because.DiskFault → u.books.stopped ≡ true
  pub stopped : why ≡ because.Stopped → u.books.stopped ≡ true

-- so much is known behind a call that the file system refused
pub fails_for : {S : Type 0} (tells : Bool) (state : S → State) → IsTrue tells → ReplyLaws tells state → (asks : Cmd → Type 0) (why : Refusal) (old new : S) → HasLogCause tells state asks why old new → FailsFor why (state new)
fails_for {S = S} tells state told laws asks why old new h = by h.cause
  where
    by : ((why ≡ because.NoMemory) × HasAsked tells state asks old new) ⊎ WasAnswered tells state asks (replied.Refused why) old new → FailsFor why (state new)
    by (inl (memory, asked)) = record {
      read_faults = λ is. absurd cc;
      faults = λ is. absurd cc;
      fault = λ is. absurd cc;
      stopped = λ is. absurd cc;
    }
    by (inr was) =
        let f = (was.session told).0 in
        let session = (was.session told).1 in
        record {
          read_faults = λ is. laws.read was.before new f was.cmd (replied.Refused why) session was.answered (ap replied.Refused is);
          faults = λ is. counted_one (is_failed (replied.Refused why)) (state was.before).counts.faults (state new).counts.faults (ap (λ (w : Refusal). is_failed (replied.Refused w)) is) (laws.counts was.before new f was.cmd (replied.Refused why) session was.answered).faults;
          fault = λ is. (laws.points was.before new f was.cmd (replied.Refused why) 0 session was.answered).fault (ap replied.Refused is);
          stopped = λ is. (laws.points was.before new f was.cmd (replied.Refused why) 0 session was.answered).stays (laws.stopped was.before new f was.cmd (replied.Refused why) session was.answered (ap replied.Refused is));
        }

-- the reason of a refusal, by the manner of the disk
reason_for : (why : Refusal) (u : State) → FailsFor why u → KeepsToManner u → HasLogReason u.counts.ticks.manner u.crash.log (answered.Refused why)
reason_for because.NotFound u h keeps = tt
reason_for because.Exists u h keeps = tt
reason_for because.NotDir u h keeps = tt
reason_for because.IsDir u h keeps = tt
reason_for because.NotEmpty u h keeps = tt
reason_for because.BelowItself u h keeps = tt
reason_for because.TooLarge u h keeps = tt
reason_for because.TooManyLinks u h keeps = tt
reason_for because.NoNode u h keeps = tt
reason_for (because.Full need left) u h keeps = tt
reason_for (because.TooBig weight cost room) u h keeps = tt
reason_for (because.Scattered runs) u h keeps = tt
reason_for because.ReadFault u h keeps = keeps.reads (h.read_faults refl)
reason_for because.DiskFault u h keeps = keeps.fails (h.fault refl)
reason_for because.Stopped u h keeps = keeps.fails (h.stopped refl)
reason_for because.Spent u h keeps = tt
reason_for because.NoMemory u h keeps = tt
reason_for (because.NoPoint last) u h keeps = tt
reason_for because.NameTooLong u h keeps = tt
reason_for because.NoSnap u h keeps = tt

-- What is known of the disk behind an answer.
pub record HasCounted (reply : LogReply) (u : State) : Type 0 where
  pub read_faults : reply ≡ answered.Refused because.ReadFault → 0 < u.counts.read_faults
  pub faults : reply ≡ answered.Refused because.DiskFault → 0 < u.counts.faults
  pub stopped : reply ≡ answered.Refused because.Stopped → u.books.stopped ≡ true
  pub reason : HasLogReason u.counts.ticks.manner u.crash.log reply

-- why a call was refused, where it was
abbrev why_in : LogReply → Refusal
why_in (answered.Refused why) = why
why_in _ = because.NoMemory

module _ {S : Type 0} (tells : Bool) (state : S → State) (told : IsTrue tells) (laws : ReplyLaws tells state) (asks : Cmd → Type 0) (old new : S) (keeps : KeepsToManner (state new)) where
  fails_for_answer : (why : Refusal) → HasAnswerCause tells state asks why old new → FailsFor why (state new)
  fails_for_answer why (inl cause) = fails_for tells state told laws asks why old new cause
  fails_for_answer why (inr misread) = absurd (misread.1.0 told)

  pub counted_by : (reply : LogReply) → IfRefused reply (λ why. HasAnswerCause tells state asks why old new) → HasCounted reply (state new)
  counted_by (answered.Number number) cause = record { read_faults = λ is. absurd cc; faults = λ is. absurd cc; stopped = λ is. absurd cc; reason = tt }
  counted_by (answered.Bytes bytes) cause = record { read_faults = λ is. absurd cc; faults = λ is. absurd cc; stopped = λ is. absurd cc; reason = tt }
  counted_by (answered.Low low) cause = record { read_faults = λ is. absurd cc; faults = λ is. absurd cc; stopped = λ is. absurd cc; reason = tt }
  counted_by (answered.Range low next) cause = record { read_faults = λ is. absurd cc; faults = λ is. absurd cc; stopped = λ is. absurd cc; reason = tt }
  counted_by (answered.Ordered point) cause = record { read_faults = λ is. absurd cc; faults = λ is. absurd cc; stopped = λ is. absurd cc; reason = tt }
  counted_by (answered.Durable point) cause = record { read_faults = λ is. absurd cc; faults = λ is. absurd cc; stopped = λ is. absurd cc; reason = tt }
  counted_by answered.Bad cause = record { read_faults = λ is. absurd cc; faults = λ is. absurd cc; stopped = λ is. absurd cc; reason = tt }
  counted_by (answered.NoRecord low next) cause = record { read_faults = λ is. absurd cc; faults = λ is. absurd cc; stopped = λ is. absurd cc; reason = tt }
  counted_by answered.TooLong cause = record { read_faults = λ is. absurd cc; faults = λ is. absurd cc; stopped = λ is. absurd cc; reason = tt }
  counted_by answered.LogEnd cause = record { read_faults = λ is. absurd cc; faults = λ is. absurd cc; stopped = λ is. absurd cc; reason = tt }
  counted_by (answered.Refused why) cause =
      let h = fails_for_answer why cause in
      record { read_faults = λ is. h.read_faults (ap why_in is); faults = λ is. h.faults (ap why_in is); stopped = λ is. h.stopped (ap why_in is); reason = reason_for why (state new) h keeps }

-- The marks and the reasons.

-- marks with one more
marks_on : (before mid now : Mark) (replies : List LogReply) (moments : List ℕ) (marks : List Mark) (reply : LogReply) (moment : ℕ)
    → LogMarksGo before replies moments marks mid → MarksReply reply moment now → LogMarksGo before (replies ++ reply ∷ []) (moments ++ moment ∷ []) (marks ++ now ∷ []) now
marks_on before mid now [] [] [] reply moment go next = (next, refl)
marks_on before mid now [] [] (m ∷ marks) reply moment go next = absurd go
marks_on before mid now [] (k ∷ moments) marks reply moment go next = absurd go
marks_on before mid now (r ∷ replies) [] marks reply moment go next = absurd go
marks_on before mid now (r ∷ replies) (k ∷ moments) [] reply moment go next = absurd go
marks_on before mid now (r ∷ replies) (k ∷ moments) (m ∷ marks) reply moment go next = (go.0, marks_on m mid now replies moments marks reply moment go.1 next)

-- reasons stay as events come behind, and with one more they are of one call more
reasons_stay : (m : Manner) (old more : List Event) (replies : List LogReply) (moments : List ℕ) → AreWithin (length old) moments → HaveLogReasons m old replies moments → HaveLogReasons m (old ++ more) replies moments
reasons_stay m old more [] [] within have = tt
reasons_stay m old more [] (k ∷ moments) within have = absurd have
reasons_stay m old more (r ∷ replies) [] within have = absurd have
reasons_stay m old more (r ∷ replies) (k ∷ moments) within have = (subst (λ (es : List Event). HasLogReason m es r) (sym (take-append-le k old more within.0)) have.0, reasons_stay m old more replies moments within.1 have.1)

reasons_on : (m : Manner) (log : List Event) (replies : List LogReply) (moments : List ℕ) (reply : LogReply) (moment : ℕ) → HaveLogReasons m log replies moments → HasLogReason m (take moment log) reply → HaveLogReasons m log (replies ++ reply ∷ []) (moments ++ moment ∷ [])
reasons_on m log [] [] reply moment have next = (next, tt)
reasons_on m log [] (k ∷ moments) reply moment have next = absurd have
reasons_on m log (r ∷ replies) [] reply moment have next = absurd have
reasons_on m log (r ∷ replies) (k ∷ moments) reply moment have next = (have.0, reasons_on m log replies moments reply moment have.1 next)

-- One call.

-- What is known of one call that was answered over blocks that tell.
pub record Stepped (call : LogCall) (reply : LogReply) (mark : Mark) (s u : State) : Type 0 where
  pub logs : (g : Geometry) (begun : ℕ) (opened : Log) (calls : List LogCall) (replies : List LogReply) (moments : List ℕ) → HasLogged g begun opened calls replies moments s
      → HasLogged g begun opened (calls ++ call ∷ []) (replies ++ reply ∷ []) (moments ++ length u.crash.log ∷ []) u
  pub takes : (h : History) → Keeps h s → TakesCall h call reply s u
  pub counted : HasCounted reply u
  pub is_mark : mark ≡ mark_in u
  pub leads : (at : Situation) → IsAt s at → CountsStop s → LeadsCall call reply at s u

module _ (first : disk.State) (call : LogCall) (reply : LogReply) (mark : Mark) (s u : State) (calls : List LogCall) (replies : List LogReply) (marks : List Mark) (step : Stepped call reply mark s u) (h : KnownSoFar first calls replies marks s) where
  took : TakesCall h.logged.now call reply s u
  took = step.takes h.logged.now h.logged.keeps

  goes : Goes h.logged.now took.behind s u
  goes = took.goes

  longer : length s.crash.log ≤ length u.crash.log
  longer = omega (arith, ap (λ (es : List Event). length es) goes.advances.grows.log, length-append s.crash.log goes.advances.grows.more)

  -- the disk is the one with which the log began
  same_manner : u.counts.ticks.manner ≡ first.manner
  same_manner = goes.manner ∙ h.manner

  reason_now : HasLogReason first.manner (take (length u.crash.log) u.crash.log) reply
  reason_now = subst (λ (m : Manner). HasLogReason m (take (length u.crash.log) u.crash.log) reply) same_manner
      (subst (λ (es : List Event). HasLogReason u.counts.ticks.manner es reply) (sym (take_all (length u.crash.log) u.crash.log (omega arith))) step.counted.reason)

  reasons_now : HaveLogReasons first.manner u.crash.log (replies ++ reply ∷ []) (h.moments ++ length u.crash.log ∷ [])
  reasons_now = reasons_on first.manner u.crash.log replies h.moments reply (length u.crash.log)
      (subst (λ (es : List Event). HaveLogReasons first.manner es replies h.moments) (sym goes.advances.grows.log) (reasons_stay first.manner s.crash.log goes.advances.grows.more replies h.moments h.among h.reasons)) reason_now

  -- the commands behind the call lead on
  led : LeadsCall call reply h.causes.end s u
  led = step.leads h.causes.end h.at h.over

  then_took : TakesCall h.causes.last call reply s u
  then_took = step.takes h.causes.last h.keeps

  pub known_more : KnownSoFar first (calls ++ call ∷ []) (replies ++ reply ∷ []) (marks ++ mark ∷ []) u
  known_more = record {
    geom = h.geom;
    tree = h.tree;
    image = h.image;
    shape = h.shape;
    blocks = h.blocks;
    base = goes.advances.base ∙ h.base;
    opened = h.opened;
    is_log = h.is_log;
    begun = h.begun;
    moments = h.moments ++ length u.crash.log ∷ [];
    logged = step.logs h.geom h.begun h.opened calls replies h.moments h.logged;
    marked = record {
      first = h.marked.first;
      later = h.marked.later ++ mark ∷ [];
      moment = h.marked.moment;
      is = ap (λ (ms : List Mark). ms ++ mark ∷ []) h.marked.is;
      go = subst (λ (m : Mark). LogMarksGo h.marked.first (replies ++ reply ∷ []) (h.moments ++ length u.crash.log ∷ []) (h.marked.later ++ m ∷ []) (mark_in u)) (sym step.is_mark)
          (marks_on h.marked.first (mark_in s) (mark_in u) replies h.moments h.marked.later reply (length u.crash.log) h.marked.go (record { moment = refl; read_faults = step.counted.read_faults; faults = step.counted.faults; stopped = λ is. led.over (step.counted.stopped is) }));
    };
    manner = same_manner;
    among = within_on (length u.crash.log) h.moments (length u.crash.log) (within_more (length s.crash.log) (length u.crash.log) h.moments longer h.among) (omega arith);
    reasons = reasons_now;
    causes = record {
      mounted = h.causes.mounted;
      at_mount = h.causes.at_mount;
      begun = h.causes.begun;
      opening = h.causes.opening;
      is_log = h.causes.is_log;
      end = led.next;
      last = then_took.behind;
      goes = calls_more h.geom 1048576 h.causes.begun h.causes.end led.next (opened_with h.opened) h.causes.last then_took.behind calls replies call reply h.causes.goes
          (subst (λ (g : Geometry). AnswersBy g 1048576 call reply h.causes.end led.next) h.logged.geom led.by) then_took.answers (then_took.goes.keeps.now led.next.session.tree led.is.session.tree);
    };
    at = led.is;
    keeps = then_took.goes.keeps;
    over = led.over;
  }

-- the same of blocks that may tell or not
pub more_so_far : (tells : Bool) (first : disk.State) (call : LogCall) (reply : LogReply) (mark : Mark) (s u : State) (calls : List LogCall) (replies : List LogReply) (marks : List Mark) → (IsTrue tells → Stepped call reply mark s u) → SoFar tells first calls replies marks s
    → SoFar tells first (calls ++ call ∷ []) (replies ++ reply ∷ []) (marks ++ mark ∷ []) u
more_so_far tells first call reply mark s u calls replies marks step h = λ t. known_more first call reply mark s u calls replies marks (step t) (h t)
