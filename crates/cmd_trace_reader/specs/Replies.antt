-- How a command of a trace may be answered. The rule is described in docs/TRACE.md.
use Rattle.std.specs.Prelude.{◌≡◌, ◌≢◌, ◌≤◌, ◌||◌, ℕ, max, Bool, true, false, List, Option, Some, None, IfSome}
use Rattle.lang_tree.specs.declared.command.Cmd.{Cmd}
use Rattle.lang_tree.specs.declared.command.Cmd.TheVariants.{Bad, Durable}
use Rattle.lang_tree.specs.declared.command.Reply.{Reply}
use Rattle.lang_tree.specs.declared.command.Reply.TheVariants.{Bad as NotUnderstood, Refused, Synced, DurableAt, Known}
use Rattle.lang_tree.specs.declared.command.Refusal.{Refusal}
use Rattle.lang_tree.specs.declared.command.Refusal.TheVariants.{DiskFault, Stopped, NoMemory}
use Rattle.lang_tree.specs.Step.{Session, step}
use Rattle.lang_tree.specs.Run.{Answers, is_of_disk}
use Rattle.lang_tree.specs.Points.{after_reply}
use Rattle.lang_script.specs.Text.{text_of_reply}
use Rattle.lang_script.specs.Values.{IsReply}
use Rattle.cmd_trace.specs.ReadsAs.{IsReadAs, HasSmallFigures}

-- whether a command is a bad line
abbrev pub is_bad : Cmd → Bool
is_bad Bad = true
is_bad cmd = false

-- whether a command asks which point is known to be on the disk
abbrev pub is_durable : Cmd → Bool
is_durable Durable = true
is_durable cmd = false

-- where the reply is a refusal, its figures have 32 bits
abbrev pub TellsSmallFigures : Reply → Type 0
TellsSmallFigures (Refused why) = HasSmallFigures why
TellsSmallFigures reply = Unit {0}

-- The reply is one of a file system over a disk to this command, from this session. A bad line is answered `bad`, and behind a fault of the disk every other command is refused as the session has ended.
pub record MayReply (s : Session) (stopped : Bool) (cmd : Cmd) (reply : Reply) : Type 0 where
  pub next : Session
  pub answers : Answers is_of_disk s cmd reply next
  pub bad : cmd ≡ Bad → reply ≡ NotUnderstood
  pub ended : stopped ≡ true → cmd ≢ Bad → reply ≡ Refused Stopped
  pub figures : TellsSmallFigures reply

-- whether a refusal is that of a session that has ended
abbrev pub is_stopped : Refusal → Bool
is_stopped Stopped = true
is_stopped why = false

-- whether a refusal is that of a fault of the disk
abbrev pub is_disk_fault : Refusal → Bool
is_disk_fault DiskFault = true
is_disk_fault why = false

-- whether a refusal is one for want of memory
abbrev pub is_no_memory : Refusal → Bool
is_no_memory NoMemory = true
is_no_memory why = false

-- whether a reply says that no memory was found
abbrev pub is_out_of_memory : Reply → Bool
is_out_of_memory (Refused why) = is_no_memory why
is_out_of_memory reply = false

-- whether a reply is that of a fault of the disk, which ends the session
abbrev pub is_fault : Reply → Bool
is_fault (Refused why) = is_disk_fault why
is_fault reply = false

-- the last point, by a reply to a command
abbrev pub points_by : Reply → ℕ → ℕ
points_by (Synced n) points = n
points_by (DurableAt n) points = max points n
points_by reply points = points

-- the greatest point that a dsync or a dwait answered, by a reply to a command
abbrev pub durable_by : Reply → ℕ → ℕ
durable_by (DurableAt n) durable = max durable n
durable_by reply durable = durable

-- A session with what a reader keeps of it: the last point, the greatest one that a dsync or a dwait answered, and whether a fault of the disk ended it.
pub record Kept : Type 0 where
  pub session : Session
  pub points : ℕ
  pub durable : ℕ
  pub stopped : Bool

-- behind a reply to this command
abbrev pub after : Kept → Cmd → Reply → Kept
after k cmd reply = record {
  session = after_reply k.session cmd reply;
  points = points_by reply k.points;
  durable = durable_by reply k.durable;
  stopped = k.stopped || is_fault reply;
}

-- What comes of the text of a reply to a command: the reply that is written so and may stand there, whose numbers have 64 bits, with the session behind it; or none, exactly where no such reply is.
pub record Takes (old : Kept) (cmd : Cmd) (text : List ℕ) (found : Option Reply) (new : Kept) : Type 0 where
  pub reads : IsReadAs text_of_reply (MayReply old.session old.stopped cmd) text found
  pub after : (reply : Reply) → found ≡ Some reply → new ≡ after old cmd reply
  pub lawful : IfSome found (λ reply. IsReply reply)

-- a point that `durable` may be answered by
pub record IsKnown (k : Kept) (reply : Reply) : Type 0 where
  pub point : ℕ
  pub is : reply ≡ Known point
  pub from : k.durable ≤ point
  pub upto : point ≤ k.points

-- what the tree does with a command, and the numbers of the session behind it
pub record Applies (old : Kept) (cmd : Cmd) (new : Kept) : Type 0 where
  pub session : new.session ≡ (step old.session cmd).0
  pub points : new.points ≡ points_by (step old.session cmd).1 old.points
  pub durable : new.durable ≡ durable_by (step old.session cmd).1 old.durable
  pub stopped : new.stopped ≡ old.stopped

-- what a refusal from outside the tree makes of the session: it is the reply, unless the session has ended and it says something else
abbrev pub RefusedSo : Kept → Refusal → Option Reply → Kept → Type 0
RefusedSo old why (Some reply) new = (reply ≡ Refused why) × (old.stopped ≡ true → is_stopped why ≡ true) × (new ≡ record old { stopped = old.stopped || is_disk_fault why })
RefusedSo old why None new = (old.stopped ≡ true) × (is_stopped why ≡ false)
