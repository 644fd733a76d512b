-- Which refusal of an upgrade comes of which of the layers below, and how it is answered once a disk went back.
use Rattle.std.specs.Prelude.{Result, Ok, Err}
use Rattle.disk_contract.specs.declared.bay.BayFault.{BayFault}
use Rattle.disk_contract.specs.declared.bay.BayFault.TheVariants as bay
use Rattle.lang_tree.specs.declared.command.Refusal.{Refusal}
use Rattle.lang_tree.specs.declared.command.Refusal.TheVariants as because
use Rattle.lang_tree.specs.declared.command.Reply.{Reply}
use Rattle.lang_tree.specs.declared.command.Reply.TheVariants.{Refused}
use Rattle.cmd_image.specs.declared.make_refusal.MakeRefusal.{MakeRefusal}
use Rattle.cmd_image.specs.declared.make_refusal.MakeRefusal.TheVariants as make
use Rattle.cmd_image.specs.declared.show_refusal.ShowRefusal.{ShowRefusal}
use Rattle.cmd_image.specs.declared.show_refusal.ShowRefusal.TheVariants as show
use Rattle.cmd_upgrade.specs.declared.refusal.UpgradeRefusal.{UpgradeRefusal}
use Rattle.cmd_upgrade.specs.declared.refusal.UpgradeRefusal.TheVariants.{Fault, Damaged, Spent, NoRoom, NoMemory}

-- the refusal for a call of the bay
abbrev pub of_bay : BayFault → UpgradeRefusal
of_bay bay.Fault = Fault
of_bay bay.NoMemory = NoMemory

-- the refusal where the image wasn't mounted, or its file system not opened
abbrev pub of_image : ShowRefusal → UpgradeRefusal
of_image show.Fault = Fault
of_image (show.Damaged damage) = Damaged damage
of_image show.Spent = Spent
of_image show.SinkFault = Fault
of_image show.NoMemory = NoMemory

-- the refusal where the new image wasn't made
abbrev pub of_make : MakeRefusal → UpgradeRefusal
of_make make.Fault = Fault
of_make make.NoMemory = NoMemory

-- the refusal where the new image, which was just made, wasn't mounted, or its file system not opened
abbrev pub of_new : ShowRefusal → UpgradeRefusal
of_new show.NoMemory = NoMemory
of_new _ = Fault

-- the refusal for that of a command: want of memory is that, and all else is a fault
abbrev pub of_refusal : Refusal → UpgradeRefusal
of_refusal because.NoMemory = NoMemory
of_refusal _ = Fault

-- the refusal for a reply that isn't the one that was to come
abbrev pub of_reply : Reply → UpgradeRefusal
of_reply (Refused why) = of_refusal why
of_reply _ = Fault

-- the answer where the bay answered so to a disk's return: an earlier refusal counts first
abbrev pub answer_of : Result (Unit {0}) UpgradeRefusal → Result (Unit {0}) BayFault → Result (Unit {0}) UpgradeRefusal
answer_of (Err why) back = Err why
answer_of (Ok x) (Ok y) = Ok y
answer_of (Ok x) (Err fault) = Err (of_bay fault)
