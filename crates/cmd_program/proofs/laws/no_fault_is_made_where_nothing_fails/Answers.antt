-- A fault has its reason, and a bay and a disk of which nothing fails have none.
use Rattle.std.proofs.Common.{◌≡◌, inl, inr, ℕ, ◌+◌, Bool, false, IsTrue, List, Result, Err, refl, sym, ap, ◌∙◌, subst}
use Rattle.std.proofs.lemmas.Bool.{false≢true}
use Rattle.disk_contract.specs.Bay.{BayState}
use Rattle.disk_contract.specs.Disk.{State}
use Rattle.layout_geometry.specs.Geometry.{Geometry, data_start}
use Rattle.cmd_image.specs.declared.make_refusal.MakeRefusal.{MakeRefusal}
use Rattle.cmd_image.specs.Makes.{HasMakeReason}
use Rattle.engine_store.specs.declared.formatting.MkfsRefusal.{MkfsRefusal}
use Rattle.engine_store.specs.declared.formatting.MkfsRefusal.TheVariants as mkfs
use Rattle.engine_store.specs.Formatting.{MkfsSpends}
use Rattle.cmd_image.specs.Shows.{HasFaultReason}
use Rattle.cmd_image.specs.declared.ending.Ending.{Ending}
use Rattle.cmd_image.specs.declared.ending.RunRefusal.{RunRefusal}
use Rattle.cmd_image.specs.Runs.{HasRunReason, Streams}
use Rattle.cmd_log.specs.declared.refusal.LogRunRefusal.{LogRunRefusal}
use Rattle.cmd_log.specs.Logs.{HasLogRunReason}
use Rattle.cmd_program.specs.Calm.{IsCalm, NothingFails}
use Rattle.cmd_program.proofs.Calm.{never_failed, no_call_failed, no_log_reply, no_reply, one_log_manner, one_manner, opens_calmly}
use Rattle.cmd_program.proofs.laws.no_fault_is_made_where_nothing_fails.Goals as goal

shows_none : (tells : Bool) (image : List ℕ) (old new : BayState) → IsTrue tells → IsCalm image old → HasFaultReason tells image old new → ⊥
shows_none tells image old new t calm (inl may) = opens_calmly image old calm may
shows_none tells image old new t calm (inr (opened, back, failed)) = no_call_failed back.last (subst NothingFails (sym (back.spends.manner ∙ back.opens.manner t)) calm.disks) failed

runs_none : (tells : Bool) (image : List ℕ) (answer : Result Ending RunRefusal) (old new : BayState) (before after : Streams) → IsTrue tells → IsCalm image old → HasRunReason tells image answer old new before after → ⊥
runs_none tells image answer old new before after t calm (inl may) = opens_calmly image old calm may
runs_none tells image answer old new before after t calm (inr (back, failed)) =
    no_call_failed back.last (subst NothingFails (sym (one_manner tells back.first back.last back.marks back.answer before after t back.comes ∙ back.opens.manner t)) calm.disks) failed

logs_none : (tells : Bool) (image : List ℕ) (answer : Result Ending LogRunRefusal) (old new : BayState) (before after : Streams) → IsTrue tells → IsCalm image old → HasLogRunReason tells image answer old new before after → ⊥
logs_none tells image answer old new before after t calm (inl may) = opens_calmly image old calm may
logs_none tells image answer old new before after t calm (inr (back, failed)) =
    never_failed back.last (subst NothingFails (sym (one_log_manner tells back.first back.last back.marks back.answer before after t back.comes ∙ back.opens.manner t)) calm.disks) failed

-- a formatting leaves the disk's manner
same_manner : (written : Result (Unit {0}) MkfsRefusal) (count : ℕ) (first last : State) → MkfsSpends written count first last → last.manner ≡ first.manner
same_manner (Err mkfs.NoMemory) count first last same = ap (λ (d : State). d.manner) same
same_manner other count first last spends = spends.same.manner

makes_none : (tells : Bool) (image : List ℕ) (g : Geometry) (answer : Result (Unit {0}) MakeRefusal) (old new : BayState) → IsTrue tells → old.may_fail ≡ false → NothingFails (old.manner image) → HasMakeReason tells image g answer old new → ⊥
makes_none tells image g answer old new t calls calm (inl may) = false≢true (sym calls ∙ may)
makes_none tells image g answer old new t calls calm (inr (back, failed)) =
    no_call_failed back.last (subst NothingFails (sym (same_manner back.written (data_start g + 1) back.first back.last back.spends ∙ back.makes.manner t)) calm) failed

pub returns-clause-shows : goal.returns-clause-shows
returns-clause-shows c = λ tells image status m t calm s fault. shows_none tells image m.bay m.bay_now t calm (s.reason t fault)

pub returns-clause-runs : goal.returns-clause-runs
returns-clause-runs c = λ tells image status m t calm r fault. runs_none tells image r.answer m.bay m.bay_now _ _ t calm (r.reason t fault)

pub returns-clause-replies : goal.returns-clause-replies
returns-clause-replies c = λ first last marks cmds replies calm r i why at. no_reply first.manner calm last.log _ _ replies r.moments r.marked.later refl r.marked.go r.reasons i why at

pub returns-clause-makes : goal.returns-clause-makes
returns-clause-makes c = λ tells image g status m t calls calm x fault. makes_none tells image g x.answer m.bay m.bay_now t calls calm (x.reason t fault)

pub returns-clause-logs : goal.returns-clause-logs
returns-clause-logs c = λ tells image status m t calm l fault. logs_none tells image l.answer m.bay m.bay_now _ _ t calm (l.reason t fault)

pub returns-clause-log_replies : goal.returns-clause-log_replies
returns-clause-log_replies c = λ first last marks calls replies calm l i why at. no_log_reply first.manner calm last.log replies l.moments l.reasons i why at
