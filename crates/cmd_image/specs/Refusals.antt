-- Which refusal of a run comes of which of the layers below, and how a run is answered once its disk went back; and which replies come of a call of the disk that failed, and what was counted then.
use Rattle.std.specs.Prelude.{◌≡◌, Bool, true, false, Result, Ok, Err}
use Rattle.base_types.specs.Counts.{after_call}
use Rattle.disk_contract.specs.declared.bay.BayFault.{BayFault}
use Rattle.disk_contract.specs.declared.bay.BayFault.TheVariants as bay
use Rattle.lang_tree.specs.declared.command.Reply.{Reply}
use Rattle.lang_tree.specs.declared.command.Reply.TheVariants.{Refused}
use Rattle.engine_blocks.specs.State.{Counts}
use Rattle.fs_session.specs.Commands.{is_disk_fault, is_read_fault}
use Rattle.cmd_image.specs.declared.show_refusal.ShowRefusal.{ShowRefusal}
use Rattle.cmd_image.specs.declared.show_refusal.ShowRefusal.TheVariants as show
use Rattle.cmd_image.specs.declared.ending.Ending.{Ending}
use Rattle.cmd_image.specs.declared.ending.Ending.TheVariants.{End, SourceFault, LongInput}
use Rattle.cmd_image.specs.declared.ending.RunRefusal.{RunRefusal}
use Rattle.cmd_image.specs.declared.ending.RunRefusal.TheVariants.{Fault, Damaged, Spent, SinkFault, NoMemory}

-- the refusal for a call of the bay
abbrev pub run_refusal_of_bay : BayFault → RunRefusal
run_refusal_of_bay bay.Fault = Fault
run_refusal_of_bay bay.NoMemory = NoMemory

-- the refusal for a mount, or for the opening of the file system
abbrev pub of_show : ShowRefusal → RunRefusal
of_show show.Fault = Fault
of_show (show.Damaged damage) = Damaged damage
of_show show.Spent = Spent
of_show show.SinkFault = SinkFault
of_show show.NoMemory = NoMemory

-- The answer where the bay answered so to the disk's return: a fault of it counts only behind the end of the input.
abbrev pub run_answer_of : {T : Type 0} → Result Ending RunRefusal → Result T BayFault → Result Ending RunRefusal
run_answer_of (Err why) back = Err why
run_answer_of (Ok SourceFault) back = Ok SourceFault
run_answer_of (Ok LongInput) back = Ok LongInput
run_answer_of (Ok End) (Ok y) = Ok End
run_answer_of (Ok End) (Err fault) = Err (run_refusal_of_bay fault)

-- whether a call failed, of the bay or of the disk outside a command
abbrev pub is_run_fault : RunRefusal → Bool
is_run_fault Fault = true
is_run_fault _ = false

-- whether a push failed
abbrev pub run_fails_pushing : Result Ending RunRefusal → Bool
run_fails_pushing (Err SinkFault) = true
run_fails_pushing _ = false

-- a refusal for what is on the image, by which no file system was opened
abbrev pub opens_nothing : Result Ending RunRefusal → Bool
opens_nothing (Err (Damaged damage)) = true
opens_nothing (Err Spent) = true
opens_nothing _ = false

-- whether a command was refused for a failed read, or for another call of the disk that failed
abbrev pub is_unread : Reply → Bool
is_unread (Refused why) = is_read_fault (Err why)
is_unread _ = false

abbrev pub is_failed : Reply → Bool
is_failed (Refused why) = is_disk_fault (Err why)
is_failed _ = false

-- A failed read was counted once where the reply is ReadFault, and another call that failed once where it is DiskFault; and none else was.
pub record CountsByReply (reply : Reply) (old new : Counts) : Type 0 where
  pub read_faults : new.read_faults ≡ after_call (is_unread reply) old.read_faults
  pub faults : new.faults ≡ after_call (is_failed reply) old.faults
