-- One call of a log: how its answer is one that the log gives.
use Rattle.std.proofs.Common.{◌≡◌, inl, inr, ℕ, ◌+◌, ◌-◌, ◌^◌, ◌<◌, ◌≤◌, ◌==◌, ◌&&◌, ◌||◌, nat_lt, nat_le, Bool, true, false, IsTrue, List, [], length, slice_get, Err, Some, refl, sym, ◌∙◌, arith}
use Rattle.std.proofs.lemmas.Bool.{false≢true}
use Rattle.std.proofs.lemmas.Bool.Decides.{nat_tests}
use Rattle.lang_tree.specs.declared.command.Refusal.{Refusal}
use Rattle.lang_tree.specs.declared.command.Refusal.TheVariants.{ReadFault}
use Rattle.lang_log.specs.declared.call.LogCall.{LogCall}
use Rattle.lang_log.specs.declared.call.LogCall.TheVariants.{Append, Bad, Count, Get, Order, Sync, Trim}
use Rattle.lang_log.specs.declared.call.LogReply.{LogReply}
use Rattle.lang_log.specs.declared.call.LogReply.TheVariants as reply
use Rattle.lang_log.specs.Answers.{AnswersLog, HasNumber, IsTrimmedUpto, trimmed_by}
use Rattle.lang_log.specs.History.{History, appended, synced}
use Rattle.lang_log.specs.Log.{next_of}
use Rattle.engine_blocks.specs.State.{State}
use Rattle.fs_commands.specs.Opened.{blocks_in}
use Rattle.fs_log.specs.declared.refusal.LogRefusal.{LogRefusal}
use Rattle.fs_log.specs.declared.refusal.LogRefusal.TheVariants.{BadLog, Fs as FsRefused, LogEnd, NoRecord, TooLong}
use Rattle.fs_log.specs.Causes.{AsksToAppend, AsksToGet, AsksToOrder, AsksToSync, AsksToTrim, HasAsked, HasCallCause}
use Rattle.fs_log.specs.Keeping.{Keeps, Rests, TakesLog, as_before}
use Rattle.fs_log.specs.Open.{Open, low_in, state_in}
use Rattle.fs_log.specs.Refusals.{IsOfRange, is_log_end, is_no_record, is_of_append, is_of_look, is_of_none, is_too_long}
use Rattle.fs_log.specs.Trimming.{IsTrimmed, TrimsTo}
use Rattle.cmd_log.specs.Answering.{HasAnswerCause, IsAnswered, IsWithin, TakesCall, reply_for}

-- Tests of numbers.

short_is : (n : ℕ) → nat_lt 65536 n ≡ false → n ≤ 65536
short_is n test = grind (arith, nat_tests)

long_is : (n : ℕ) → nat_lt 65536 n ≡ true → 65536 < n
long_is n test = grind (arith, nat_tests)

both_are : (a b : Bool) → (a && b) ≡ true → (a ≡ true) × (b ≡ true)
both_are a b test = grind arith

not_both : (a b : Bool) → (a && b) ≡ false → a ≡ true → b ≡ false
not_both a b test is = grind arith

-- where an append isn't refused at once, it is short, and numbers are left
may_append : (n next : ℕ) → next < 2 ^ 32 → nat_lt 65536 n ≡ false → (nat_le n 65536 && (next == 4294967295)) ≡ false → (n ≤ 65536) × (next < 2 ^ 32 - 1)
may_append n next bound long end =
    let short = short_is n long in
    let other : (next == 4294967295) ≡ false = not_both (nat_le n 65536) (next == 4294967295) end (grind (arith, nat_tests)) in
    (short, grind (arith, nat_tests, bound))

ends_at : (n next : ℕ) → (nat_le n 65536 && (next == 4294967295)) ≡ true → (n ≤ 65536) × (next ≡ 2 ^ 32 - 1)
ends_at n next end =
    let both = both_are (nat_le n 65536) (next == 4294967295) end in
    (grind (arith, nat_tests), grind (arith, nat_tests))

within_is : (number low next : ℕ) → (nat_lt number low || nat_le next number) ≡ false → (low ≤ number) × (number < next)
within_is number low next test = grind (arith, nat_tests)

outside_is : (number low next : ℕ) → (nat_lt number low || nat_le next number) ≡ true → (low ≤ number) × (number < next) → ⊥
outside_is number low next test within = grind (arith, nat_tests)

-- What is had of the calls of a log, over any blocks.
module _ {S : Type 0} (tells : Bool) (state : S → State) (old new : Open S) (most : new.most ≡ old.most) where
  -- the numbers in memory are those of the log, where the blocks are known
  abbrev pub IsTold : Open S → Type 0
  IsTold l = IsTrue tells → (h : History) → Keeps h (state_in state l) → (low_in l ≡ h.now.low) × (l.next ≡ next_of h.now)

  abbrev pub LeavesLog : Type 0
  LeavesLog = IsTrue tells → TakesLog as_before (state_in state old) (state_in state new)

  -- a call that leaves the log is answered as such
  leaves : (call : LogCall) (answer : LogReply) → LeavesLog → (IsTrue tells → (h : History) → Keeps h (state_in state old) → AnswersLog h call answer h)
      → IsTrue tells → (h : History) → Keeps h (state_in state old) → TakesCall h call answer (state_in state old) (state_in state new)
  leaves call answer rests answers told h keeps = record { behind = h; answers = answers told h keeps; goes = rests told h keeps }

  pub append_done : (bytes : List ℕ) (number : ℕ) → IsTold old → old.next < 2 ^ 32 → (IsTrue tells → TakesLog (appended bytes) (state_in state old) (state_in state new))
      → (number ≡ old.next) × (new.next ≡ old.next + 1) → false ≡ nat_lt 65536 (length bytes) → false ≡ (nat_le (length bytes) 65536 && (old.next == 4294967295))
      → HasAsked tells state (AsksToAppend old bytes) (blocks_in old.fs) (blocks_in new.fs) → IsAnswered tells state (Append bytes) (reply.Number number) old new
  append_done bytes number is bound takes numbers long end asked =
      let may = may_append (length bytes) old.next bound (sym long) (sym end) in record {
        shows = (may.0, may.1, numbers.0, omega (arith, numbers.0, numbers.1));
        takes = λ told h keeps. record {
          behind = appended bytes h;
          answers = (may.0, omega (arith, may.1, (is told h keeps).1), numbers.0 ∙ (is told h keeps).1, refl);
          goes = takes told h keeps;
        };
        most = most;
        asked = asked;
        cause = tt;
      }

  -- one that the file system refuses, or that finds no log where one was written
  append_failed : (bytes : List ℕ) (why : Refusal) → IsTold old → (length bytes ≤ 65536) × (old.next < 2 ^ 32 - 1) → LeavesLog → new.next ≡ old.next
      → HasAnswerCause tells state (AsksToAppend old bytes) why (blocks_in old.fs) (blocks_in new.fs) → IsAnswered tells state (Append bytes) (reply.Refused why) old new
  append_failed bytes why is may rests same cause = record {
    shows = (may.0, may.1, same);
    takes = leaves (Append bytes) (reply.Refused why) rests (λ told h keeps. (may.0, omega (arith, may.1, (is told h keeps).1), refl));
    most = most;
    asked = tt;
    cause = cause;
  }

  pub append_refused : (bytes : List ℕ) (why : LogRefusal) → IsTold old → old.next < 2 ^ 32 → LeavesLog → new.next ≡ old.next
      → is_too_long {T = ℕ} (Err why) ≡ nat_lt 65536 (length bytes) → is_log_end {T = ℕ} (Err why) ≡ (nat_le (length bytes) 65536 && (old.next == 4294967295))
      → HasCallCause tells state is_of_append (AsksToAppend old bytes) why (blocks_in old.fs) (blocks_in new.fs)
      → IsAnswered tells state (Append bytes) (reply_for why) old new
  append_refused bytes BadLog is bound rests same long end cause =
      append_failed bytes ReadFault is (may_append (length bytes) old.next bound (sym long) (sym end)) rests same (inr (refl, cause))
  append_refused bytes (FsRefused why) is bound rests same long end cause =
      append_failed bytes why is (may_append (length bytes) old.next bound (sym long) (sym end)) rests same (inl cause)
  append_refused bytes (NoRecord low next) is bound rests same long end cause = absurd (false≢true cause.0)
  append_refused bytes TooLong is bound rests same long end cause = record {
    shows = long_is (length bytes) (sym long);
    takes = leaves (Append bytes) reply.TooLong rests (λ told h keeps. (long_is (length bytes) (sym long), refl));
    most = most;
    asked = cause.1;
    cause = tt;
  }
  append_refused bytes LogEnd is bound rests same long end cause =
      let at = ends_at (length bytes) old.next (sym end) in record {
        shows = at;
        takes = leaves (Append bytes) reply.LogEnd rests (λ told h keeps. (at.0, sym (is told h keeps).1 ∙ at.1, refl));
        most = most;
        asked = cause.1;
        cause = tt;
      }

  -- the number is one of the log's, in memory as over the blocks
  has_number : (number : ℕ) → IsTold old → IsTrue tells → (h : History) → Keeps h (state_in state old) → IsWithin number old → HasNumber h.now number
  has_number number is told h keeps within = let same = is told h keeps in (omega (arith, same.0, within.0), omega (arith, same.1, within.1))

  is_within : (number : ℕ) → IsTold old → IsTrue tells → (h : History) → Keeps h (state_in state old) → HasNumber h.now number → IsWithin number old
  is_within number is told h keeps has = let same = is told h keeps in (omega (arith, same.0, has.0), omega (arith, same.1, has.1))

  pub get_done : (number : ℕ) (bytes : List ℕ) → IsTold old → LeavesLog
      → (IsTrue tells → (h : History) → Keeps h (state_in state old) → slice_get h.now.appends (number - h.now.low) ≡ Some bytes)
      → false ≡ (nat_lt number (low_in old) || nat_le old.next number) → HasAsked tells state (AsksToGet old number) (blocks_in old.fs) (blocks_in new.fs) → IsAnswered tells state (Get number) (reply.Bytes bytes) old new
  get_done number bytes is rests found none asked =
      let within = within_is number (low_in old) old.next (sym none) in record {
        shows = within;
        takes = leaves (Get number) (reply.Bytes bytes) rests (λ told h keeps. (has_number number is told h keeps within, found told h keeps, refl));
        most = most;
        asked = asked;
        cause = tt;
      }

  get_failed : (number : ℕ) (why : Refusal) → IsTold old → IsWithin number old → LeavesLog → HasAnswerCause tells state (AsksToGet old number) why (blocks_in old.fs) (blocks_in new.fs)
      → IsAnswered tells state (Get number) (reply.Refused why) old new
  get_failed number why is within rests cause = record {
    shows = within;
    takes = leaves (Get number) (reply.Refused why) rests (λ told h keeps. (has_number number is told h keeps within, refl));
    most = most;
    asked = tt;
    cause = cause;
  }

  pub get_refused : (number : ℕ) (why : LogRefusal) → IsTold old → LeavesLog → is_no_record {T = List ℕ} (Err why) ≡ (nat_lt number (low_in old) || nat_le old.next number) → IsOfRange (low_in old) old.next why
      → HasCallCause tells state is_of_look (AsksToGet old number) why (blocks_in old.fs) (blocks_in new.fs) → IsAnswered tells state (Get number) (reply_for why) old new
  get_refused number BadLog is rests none range cause = get_failed number ReadFault is (within_is number (low_in old) old.next (sym none)) rests (inr (refl, cause))
  get_refused number (FsRefused why) is rests none range cause = get_failed number why is (within_is number (low_in old) old.next (sym none)) rests (inl cause)
  get_refused number TooLong is rests none range cause = absurd (false≢true cause.0)
  get_refused number LogEnd is rests none range cause = absurd (false≢true cause.0)
  get_refused number (NoRecord low next) is rests none range cause =
      let outside = outside_is number (low_in old) old.next (sym none) in record {
        shows = (outside, range.0, range.1);
        takes = leaves (Get number) (reply.NoRecord low next) rests (λ told h keeps.
            (λ has. outside (is_within number is told h keeps has), range.0 ∙ (is told h keeps).0, range.1 ∙ (is told h keeps).1, refl));
        most = most;
        asked = cause.1;
        cause = tt;
      }

  -- the history of a log that was trimmed so
  trims : (number : ℕ) (answer : LogReply) → (IsTrue tells → TrimsTo state number old new) → (IsTrue tells → (h k : History) → Keeps k (state_in state new) → IsTrimmedUpto number h k → AnswersLog h (Trim number) answer k)
      → IsTrue tells → (h : History) → Keeps h (state_in state old) → TakesCall h (Trim number) answer (state_in state old) (state_in state new)
  trims number answer goes answers told h keeps =
      let trimmed = goes told in
      let went = trimmed.takes h keeps in record {
        behind = trimmed_by trimmed.lows h;
        answers = answers told h (trimmed_by trimmed.lows h) went.keeps (record { lows = trimmed.lows; may = trimmed.may h keeps; is = refl });
        goes = went;
      }

  pub trim_done : (number low : ℕ) → IsTold new → (IsTrue tells → TrimsTo state number old new) → IsTrimmed number new → low ≡ low_in new → HasAsked tells state (AsksToTrim old number) (blocks_in old.fs) (blocks_in new.fs) → IsAnswered tells state (Trim number) (reply.Low low) old new
  trim_done number low is goes end begins asked = record {
    shows = (begins, end);
    takes = trims number (reply.Low low) goes (λ told h k keeps trimmed. (begins ∙ (is told k keeps).0, trimmed));
    most = most;
    asked = asked;
    cause = tt;
  }

  trim_failed : (number : ℕ) (why : Refusal) → (IsTrue tells → TrimsTo state number old new) → HasAnswerCause tells state (AsksToTrim old number) why (blocks_in old.fs) (blocks_in new.fs)
      → IsAnswered tells state (Trim number) (reply.Refused why) old new
  trim_failed number why goes cause = record { shows = tt; takes = trims number (reply.Refused why) goes (λ told h k keeps trimmed. trimmed); most = most; asked = tt; cause = cause }

  pub trim_refused : (number : ℕ) (why : LogRefusal) → (IsTrue tells → TrimsTo state number old new) → HasCallCause tells state is_of_none (AsksToTrim old number) why (blocks_in old.fs) (blocks_in new.fs)
      → IsAnswered tells state (Trim number) (reply_for why) old new
  trim_refused number BadLog goes cause = trim_failed number ReadFault goes (inr (refl, cause))
  trim_refused number (FsRefused why) goes cause = trim_failed number why goes (inl cause)
  trim_refused number TooLong goes cause = absurd (false≢true cause.0)
  trim_refused number LogEnd goes cause = absurd (false≢true cause.0)
  trim_refused number (NoRecord low next) goes cause = absurd (false≢true cause.0)

  pub order_done : (point : ℕ) → LeavesLog → HasAsked tells state AsksToOrder (blocks_in old.fs) (blocks_in new.fs) → IsAnswered tells state Order (reply.Ordered point) old new
  order_done point rests asked = record { shows = tt; takes = leaves Order (reply.Ordered point) rests (λ told h keeps. refl); most = most; asked = asked; cause = tt }

  order_failed : (why : Refusal) → LeavesLog → HasAnswerCause tells state AsksToOrder why (blocks_in old.fs) (blocks_in new.fs) → IsAnswered tells state Order (reply.Refused why) old new
  order_failed why rests cause = record { shows = tt; takes = leaves Order (reply.Refused why) rests (λ told h keeps. refl); most = most; asked = tt; cause = cause }

  pub order_refused : (why : LogRefusal) → LeavesLog → HasCallCause tells state is_of_none AsksToOrder why (blocks_in old.fs) (blocks_in new.fs) → IsAnswered tells state Order (reply_for why) old new
  order_refused BadLog rests cause = order_failed ReadFault rests (inr (refl, cause))
  order_refused (FsRefused why) rests cause = order_failed why rests (inl cause)
  order_refused TooLong rests cause = absurd (false≢true cause.0)
  order_refused LogEnd rests cause = absurd (false≢true cause.0)
  order_refused (NoRecord low next) rests cause = absurd (false≢true cause.0)

  pub sync_done : (point : ℕ) → (IsTrue tells → TakesLog synced (state_in state old) (state_in state new)) → new.kept ≡ old.next → HasAsked tells state AsksToSync (blocks_in old.fs) (blocks_in new.fs) → IsAnswered tells state Sync (reply.Durable point) old new
  sync_done point takes kept asked = record { shows = kept; takes = λ told h keeps. record { behind = synced h; answers = refl; goes = takes told h keeps }; most = most; asked = asked; cause = tt }

  sync_failed : (why : Refusal) → LeavesLog → HasAnswerCause tells state AsksToSync why (blocks_in old.fs) (blocks_in new.fs) → IsAnswered tells state Sync (reply.Refused why) old new
  sync_failed why rests cause = record { shows = tt; takes = leaves Sync (reply.Refused why) rests (λ told h keeps. refl); most = most; asked = tt; cause = cause }

  pub sync_refused : (why : LogRefusal) → LeavesLog → HasCallCause tells state is_of_none AsksToSync why (blocks_in old.fs) (blocks_in new.fs) → IsAnswered tells state Sync (reply_for why) old new
  sync_refused BadLog rests cause = sync_failed ReadFault rests (inr (refl, cause))
  sync_refused (FsRefused why) rests cause = sync_failed why rests (inl cause)
  sync_refused TooLong rests cause = absurd (false≢true cause.0)
  sync_refused LogEnd rests cause = absurd (false≢true cause.0)
  sync_refused (NoRecord low next) rests cause = absurd (false≢true cause.0)

-- a call that only looks at the numbers in memory, or is none
module _ {S : Type 0} (tells : Bool) (state : S → State) (l : Open S) (rests : IsTrue tells → Rests (state_in state l) (state_in state l)) where
  pub counted : (low next : ℕ) → IsTold tells state l l refl l → low ≡ low_in l → next ≡ l.next → IsAnswered tells state Count (reply.Range low next) l l
  counted low next is begins behind = record {
    shows = (begins, behind);
    takes = leaves tells state l l refl Count (reply.Range low next) (λ told. (rests told).takes) (λ told h keeps. (begins ∙ (is told h keeps).0, behind ∙ (is told h keeps).1, refl));
    most = refl;
    asked = λ told. record { asked = []; answered = refl };
    cause = tt;
  }

  pub not_understood : IsAnswered tells state Bad reply.Bad l l
  not_understood = record { shows = tt; takes = leaves tells state l l refl Bad reply.Bad (λ told. (rests told).takes) (λ told h keeps. refl); most = refl; asked = λ told. record { asked = []; answered = refl }; cause = tt }
