-- What one call of a log comes to: how a refusal of it is answered, which commands it asks, what its answer says of the log's numbers, and what it makes of the log's history.
use Rattle.std.specs.Prelude.{◌≡◌, ◌⊎◌, ◌<◌, ◌≤◌, ◌+◌, ◌-◌, ◌^◌, ℕ, ⊤, Bool, IsTrue, List, length}
use Rattle.lang_tree.specs.declared.command.Cmd.{Cmd}
use Rattle.lang_tree.specs.declared.command.Refusal.{Refusal}
use Rattle.lang_tree.specs.declared.command.Refusal.TheVariants.{ReadFault}
use Rattle.lang_log.specs.declared.call.LogCall.{LogCall}
use Rattle.lang_log.specs.declared.call.LogCall.TheVariants.{Append, Bad, Count, Get, Order, Sync, Trim}
use Rattle.lang_log.specs.declared.call.LogReply.{LogReply}
use Rattle.lang_log.specs.declared.call.LogReply.TheVariants as reply
use Rattle.lang_log.specs.Answers.{AnswersLog}
use Rattle.lang_log.specs.History.{History}
use Rattle.lang_log.specs.Spelling.{IsShort}
use Rattle.engine_blocks.specs.State.{State}
use Rattle.fs_commands.specs.Opened.{blocks_in}
use Rattle.fs_log.specs.declared.refusal.LogRefusal.{LogRefusal}
use Rattle.fs_log.specs.declared.refusal.LogRefusal.TheVariants.{BadLog, Fs as FsRefused, LogEnd, NoRecord, TooLong}
use Rattle.fs_log.specs.Causes.{AsksToAppend, AsksToGet, AsksToOrder, AsksToSync, AsksToTrim, HasAsked, HasCallCause, HasLogCause}
use Rattle.fs_log.specs.Keeping.{Goes, Keeps}
use Rattle.fs_log.specs.Open.{Open, low_in, state_in}
use Rattle.fs_log.specs.Refusals.{is_of_none}
use Rattle.fs_log.specs.Trimming.{IsTrimmed}

-- The answer to a call that is refused for this reason. Where the log that was written is not found any more, the disk has misread it.
abbrev pub reply_for : LogRefusal → LogReply
reply_for BadLog = reply.Refused ReadFault
reply_for TooLong = reply.TooLong
reply_for LogEnd = reply.LogEnd
reply_for (NoRecord low next) = reply.NoRecord low next
reply_for (FsRefused why) = reply.Refused why

-- what must hold of the reason for which the file system refused a call, where that is its answer
abbrev pub IfRefused : LogReply → (Refusal → Type 0) → Type 0
IfRefused (reply.Refused why) P = P why
IfRefused _ P = ⊤

-- what must hold where the file system didn't refuse a call
abbrev pub IfDone : LogReply → Type 0 → Type 0
IfDone (reply.Refused why) P = ⊤
IfDone _ P = P

-- the commands that a call of the log asks
abbrev pub Asks : {S : Type 0} → Open S → LogCall → Cmd → Type 0
Asks l (Append bytes) cmd = AsksToAppend l bytes cmd
Asks l (Get number) cmd = AsksToGet l number cmd
Asks l (Trim number) cmd = AsksToTrim l number cmd
Asks l Count cmd = ⊥
Asks l Order cmd = AsksToOrder cmd
Asks l Sync cmd = AsksToSync cmd
Asks l Bad cmd = ⊥

-- What answers say of the numbers in memory, whether the blocks are known or not.

-- An append is answered with the next number. It is too long exactly where it has more than 65,536 bytes, and else the numbers are used up exactly where the next one is 2^32 - 1.
abbrev pub ShowsAppend : {S : Type 0} → List ℕ → LogReply → Open S → Open S → Type 0
ShowsAppend bytes (reply.Number number) old new = IsShort bytes × (old.next < 2 ^ 32 - 1) × (number ≡ old.next) × (new.next ≡ number + 1)
ShowsAppend bytes reply.TooLong old new = 65536 < length bytes
ShowsAppend bytes reply.LogEnd old new = IsShort bytes × (old.next ≡ 2 ^ 32 - 1)
ShowsAppend bytes (reply.Refused why) old new = IsShort bytes × (old.next < 2 ^ 32 - 1) × (new.next ≡ old.next)
ShowsAppend bytes _ old new = ⊥

-- the number is one of the log's
abbrev pub IsWithin : {S : Type 0} → ℕ → Open S → Type 0
IsWithin number l = (low_in l ≤ number) × (number < l.next)

-- A get is answered that the log has no such append, and which it has, exactly where the number is none of its.
abbrev pub ShowsGet : {S : Type 0} → ℕ → LogReply → Open S → Type 0
ShowsGet number (reply.Bytes bytes) l = IsWithin number l
ShowsGet number (reply.NoRecord low next) l = (IsWithin number l → ⊥) × (low ≡ low_in l) × (next ≡ l.next)
ShowsGet number (reply.Refused why) l = IsWithin number l
ShowsGet number _ l = ⊥

-- A trim is answered with the number with which the log begins then, when no other segment may go.
abbrev pub ShowsTrim : {S : Type 0} → ℕ → LogReply → Open S → Type 0
ShowsTrim number (reply.Low low) l = (low ≡ low_in l) × IsTrimmed number l
ShowsTrim number (reply.Refused why) l = ⊤
ShowsTrim number _ l = ⊥

-- a call is answered as is fit for it, by the numbers in memory
abbrev pub Shows : {S : Type 0} → LogCall → LogReply → Open S → Open S → Type 0
Shows (Append bytes) answer old new = ShowsAppend bytes answer old new
Shows (Get number) answer old new = ShowsGet number answer old
Shows (Trim number) answer old new = ShowsTrim number answer new
Shows Count (reply.Range low next) old new = (low ≡ low_in old) × (next ≡ old.next)
Shows Order (reply.Ordered point) old new = ⊤
Shows Order (reply.Refused why) old new = ⊤
Shows Sync (reply.Durable point) old new = new.kept ≡ old.next
Shows Sync (reply.Refused why) old new = ⊤
Shows Bad reply.Bad old new = ⊤
Shows _ _ old new = ⊥

-- What one call comes to.

-- A log with history h answered the call so, and came to the history that it has then by the answer. At each moment of the call a crash leaves a log of the one or of the other.
pub record TakesCall (h : History) (call : LogCall) (answer : LogReply) (old new : State) : Type 0 where
  pub behind : History
  pub answers : AnswersLog h call answer behind
  pub goes : Goes h behind old new

-- The file system refused a call for this reason: a command that the call asks was refused so, or no memory was found. Or such a command was answered as none is by the log that was written, which is answered as a failed read; then the blocks don't tell.
abbrev pub HasAnswerCause : {S : Type 0} → Bool → (S → State) → (Cmd → Type 0) → Refusal → S → S → Type 0
HasAnswerCause tells state asks why old new = HasLogCause tells state asks why old new ⊎ ((why ≡ ReadFault) × HasCallCause tells state is_of_none asks BadLog old new)

-- A call of a log was answered so: with the numbers in memory; over blocks that are known, whatever its history was, as it goes on by the answer; and where the file system refused it, with the reason of that, and else all that was asked is known.
pub record IsAnswered {S : Type 0} (tells : Bool) (state : S → State) (call : LogCall) (answer : LogReply) (old new : Open S) : Type 0 where
  pub shows : Shows call answer old new
  pub takes : IsTrue tells → (h : History) → Keeps h (state_in state old) → TakesCall h call answer (state_in state old) (state_in state new)
  pub most : new.most ≡ old.most
  pub asked : IfDone answer (HasAsked tells state (Asks old call) (blocks_in old.fs) (blocks_in new.fs))
  pub cause : IfRefused answer (λ why. HasAnswerCause tells state (Asks old call) why (blocks_in old.fs) (blocks_in new.fs))
