-- What comes of the showing of the image under a name: what the sink takes, what a refusal says of the image, and what becomes of the bay and of the disk that it handed out. It is described in docs/SHOWING.md.
use Rattle.std.specs.Prelude.{◌≡◌, ◌⊎◌, ◌↔◌, ℕ, ◌+◌, ◌-◌, ◌^◌, ◌<◌, ◌≤◌, Bool, true, false, IsTrue, List, [], ◌∷◌, length, Option, None, Some, Result, Ok, Err, is_ok}
use Rattle.std.specs.Io.KnownBytes.{Appends, Keeps}
use Rattle.base_types.specs.Counts.{after_calls, next_count}
use Rattle.base_types.specs.Seal.{Blocks, blocks_of}
use Rattle.base_io.specs.Prefix.{TakesPrefix}
use Rattle.disk_contract.specs.declared.bay.Mark.{Mark}
use Rattle.disk_contract.specs.declared.bay.BayFault.{BayFault}
use Rattle.disk_contract.specs.Bay.{Kept, BayState, Opens, Closes}
use Rattle.disk_contract.specs.Crash.{Window}
use Rattle.disk_contract.specs.Disk.{State, HasFailed, writes_in}
use Rattle.lang_tree.specs.Tree.{Tree}
use Rattle.lang_tree.specs.Listing.{listing}
use Rattle.crash_stands.specs.Stands.{StandsFor}
use Rattle.engine_mount.specs.Mount.{IsUsedUp}
use Rattle.cmd_image.specs.declared.show_refusal.ShowRefusal.{ShowRefusal}
use Rattle.cmd_image.specs.declared.show_refusal.ShowRefusal.TheVariants.{Fault, Damaged, Spent, SinkFault, NoMemory}
use Rattle.cmd_session.specs.Images.{HasDamage, StandsForNone, StandsMounted}

-- The image.

-- there is an image under the name, and this holds of it
abbrev pub HasImage : Option Kept → (ℕ → Blocks → Type 0) → Type 0
HasImage None P = ⊥
HasImage (Some kept) P = P (length kept.image) (blocks_of kept.image)

-- The image stands for a tree, and the sink took the tree's listing and nothing else.
pub record Lists (before after : Option (List ℕ)) (n : ℕ) (at : Blocks) : Type 0 where
  pub tree : Tree
  pub stands : StandsMounted n at tree
  pub took : Appends before after (listing tree)

-- The image stands for a tree, and the sink took a prefix of the tree's listing and nothing else.
pub record ListsFront (before after : Option (List ℕ)) (n : ℕ) (at : Blocks) : Type 0 where
  pub tree : Tree
  pub stands : StandsMounted n at tree
  pub took : TakesPrefix before after (listing tree)

-- what a refusal says of the image, and what the sink took by then
abbrev pub RefusesOn : Option (List ℕ) → Option (List ℕ) → ShowRefusal → ℕ → Blocks → Type 0
RefusesOn before after Fault n at = Keeps before after ⊎ ListsFront before after n at
RefusesOn before after (Damaged damage) n at = HasDamage n at damage × StandsForNone n at
RefusesOn before after Spent n at = IsUsedUp n at
RefusesOn before after SinkFault n at = ListsFront before after n at
RefusesOn before after NoMemory n at = Keeps before after ⊎ ListsFront before after n at

-- the same of the image under a name; a fault or want of memory may come before there is one
abbrev pub Refuses : Option Kept → Option (List ℕ) → Option (List ℕ) → ShowRefusal → Type 0
Refuses kept before after Fault = Keeps before after ⊎ HasImage kept (ListsFront before after)
Refuses kept before after (Damaged damage) = HasImage kept (RefusesOn before after (Damaged damage))
Refuses kept before after Spent = HasImage kept (RefusesOn before after Spent)
Refuses kept before after SinkFault = HasImage kept (RefusesOn before after SinkFault)
Refuses kept before after NoMemory = Keeps before after ⊎ HasImage kept (ListsFront before after)

-- a refusal for what is on the image, by which nothing was pushed
abbrev pub says_nothing : {T : Type 0} → Result T ShowRefusal → Bool
says_nothing (Ok x) = false
says_nothing (Err Fault) = false
says_nothing (Err (Damaged damage)) = true
says_nothing (Err Spent) = true
says_nothing (Err SinkFault) = false
says_nothing (Err NoMemory) = false

-- a push failed
abbrev pub fails_pushing : {T : Type 0} → Result T ShowRefusal → Bool
fails_pushing (Ok x) = false
fails_pushing (Err Fault) = false
fails_pushing (Err (Damaged damage)) = false
fails_pushing (Err Spent) = false
fails_pushing (Err SinkFault) = true
fails_pushing (Err NoMemory) = false

-- The disk.

-- each honest image of each moment stands for the tree for which the disk stood as it began, and for none where it stood for none
abbrev pub StandsThroughout : State → Type 0
StandsThroughout d = Window d.blocks d.base d.log 0 (λ img. (t : Tree) → StandsFor d.blocks img t ↔ StandsFor d.blocks d.base t)

-- One mark goes along, the end of the mount: all events of the disk lie before it, and no call had failed.
pub record HasMark (tells : Bool) (d : State) (marks : List Mark) : Type 0 where
  pub moment : ℕ
  pub only : marks ≡ record { moment = moment; read_faults = 0; faults = 0 } ∷ []
  pub last : IsTrue tells → moment ≡ length d.log

-- where a file system was opened that mark goes along, and else none
abbrev pub HasMarks : Bool → Bool → State → List Mark → Type 0
HasMarks tells true d marks = HasMark tells d marks
HasMarks tells false d marks = marks ≡ []

-- What a showing spends of its disk, which is the same one afterwards: it waits at most two times more than there are blocks, writes at most as often, and doesn't poll.
pub record SpendsAtMost (tells : Bool) (first last : State) : Type 0 where
  pub blocks : last.blocks ≡ first.blocks
  pub base : IsTrue tells → last.base ≡ first.base
  pub manner : last.manner ≡ first.manner
  pub polls : last.polls ≡ first.polls
  pub waits : (made : ℕ) × (made ≤ first.blocks + 2) × (last.waits ≡ after_calls made first.waits)
  pub written : IsTrue tells → writes_in last.log ≤ first.blocks + 2

-- a call of the disk failed as its manner lets it: a read, where reads may fail, or another call, for a reason that the manner has
abbrev pub FailedByManner : State → Type 0
FailedByManner d = ((0 < d.read_faults) × (d.manner.reads_fail ≡ true)) ⊎ ((0 < d.faults) × HasFailed d)

-- The bay.

-- a disk may not come from under a name: calls of the bay may fail of themselves, or nothing is there
abbrev pub MayFailToOpen : List ℕ → BayState → Type 0
MayFailToOpen name bay = IsTrue bay.may_fail ⊎ (bay.kept name ≡ None)

-- No disk was handed out: what is under each name is as it was, and no disk was counted.
pub record HandsOutNone (tells : Bool) (old new : BayState) : Type 0 where
  pub kept : IsTrue tells → (each : List ℕ) → new.kept each ≡ old.kept each
  pub faults : old.faults ≤ new.faults
  pub disk_faults : new.disk_faults ≡ old.disk_faults
  pub handed : new.handed ≡ old.handed
  pub closed : new.closed ≡ old.closed

-- A disk was handed out under the name, and the same disk was handed back, with these marks; `back` is what the bay answered. What a crash might have left of it at any moment stands for the tree for which its image stood, or for none as that.
pub record HandsBack (tells opened : Bool) (name : List ℕ) (old new : BayState) : Type 0 where
  pub first : State
  pub last : State
  pub marks : List Mark
  pub between : BayState
  pub back : Result (Unit {0}) BayFault
  pub opens : Opens tells (λ (d : State). d) name (Ok first) old between
  pub closes : Closes tells name last marks back between new
  pub spends : SpendsAtMost tells first last
  pub marked : HasMarks tells opened last marks
  pub crash : IsTrue tells → StandsThroughout last

-- a disk was handed out and handed back, with or without a mark; or none was
abbrev pub MayHandBack : Bool → List ℕ → BayState → BayState → Type 0
MayHandBack tells name old new = HandsOutNone tells old new ⊎ (HandsBack tells false name old new ⊎ HandsBack tells true name old new)

-- what becomes of the bay: where the tree was shown, it took the disk back
abbrev pub LeavesBay : {T : Type 0} → Bool → List ℕ → Result T ShowRefusal → BayState → BayState → Type 0
LeavesBay tells name (Ok x) old new = (b : HandsBack tells true name old new) × (is_ok b.back ≡ true)
LeavesBay tells name (Err Fault) old new = MayHandBack tells name old new
LeavesBay tells name (Err (Damaged damage)) old new = HandsBack tells false name old new
LeavesBay tells name (Err Spent) old new = HandsBack tells false name old new
LeavesBay tells name (Err SinkFault) old new = HandsBack tells true name old new
LeavesBay tells name (Err NoMemory) old new = MayHandBack tells name old new

-- a call of the bay failed, which it counted, or a disk was handed back with a fault of its own, which it counted too
abbrev pub CountsFault : BayState → BayState → Type 0
CountsFault old new = ((old.faults < new.faults) ⊎ (new.faults ≡ 2 ^ 64 - 1)) ⊎ (new.disk_faults ≡ next_count old.disk_faults)

-- a fault is answered only where one was counted, and with any other answer no call of the disk failed
abbrev pub HasShowCause : {T : Type 0} → Result T ShowRefusal → BayState → BayState → Type 0
HasShowCause (Ok x) old new = new.disk_faults ≡ old.disk_faults
HasShowCause (Err Fault) old new = CountsFault old new
HasShowCause (Err (Damaged damage)) old new = new.disk_faults ≡ old.disk_faults
HasShowCause (Err Spent) old new = new.disk_faults ≡ old.disk_faults
HasShowCause (Err SinkFault) old new = new.disk_faults ≡ old.disk_faults
HasShowCause (Err NoMemory) old new = new.disk_faults ≡ old.disk_faults

-- what a fault comes of, where the bay tells: calls of the bay may fail, or nothing is under the name; or a disk was handed out under the name and handed back, and a call of it had failed as its manner lets it
abbrev pub HasFaultReason : Bool → List ℕ → BayState → BayState → Type 0
HasFaultReason tells name old new = MayFailToOpen name old ⊎ ((opened : Bool) × (b : HandsBack tells opened name old new) × FailedByManner b.last)
