-- Notices leave the ledger and what the data say of it.
use Rattle.std.proofs.Common.{◌≡◌, ℕ, List, [], ◌∷◌, ◌++◌, Option, Some, None, Result, Ok, Err, sym, subst, append-nil, append_assoc}
use Rattle.base_types.specs.Seal.{Blocks}
use Rattle.disk_contract.specs.declared.event.Event.{Event}
use Rattle.disk_contract.specs.declared.event.Event.TheVariants.{Noticed}
use Rattle.disk_contract.specs.declared.disk.DiskFault.{DiskFault}
use Rattle.disk_contract.specs.Cell.{notices}
use Rattle.disk_contract.specs.Disk.{AddsPoll, AddsNotices}
use Rattle.crash_argument.specs.Ledger.{Ledger, IsConsistentWith}
use Rattle.crash_argument.specs.PipelineData.{PipelineData, DataAgree}
use Rattle.crash_argument.proofs.steps.Notices.{keeps_notice}
use Rattle.crash_argument.proofs.pipe.PipelineSteps.{knows_notice}

-- the disk is as the ledger says, and the data agree with it
abbrev pub Holds : Blocks → List Event → Ledger → PipelineData → Type 0
Holds base log l p = IsConsistentWith base log l × DataAgree base log l p

-- both hold on after notices
pub holds_notices : (base : Blocks) (log : List Event) (l : Ledger) (p : PipelineData) (ts : List ℕ) → Holds base log l p → Holds base (log ++ notices ts) l p
holds_notices base log l p [] h = subst (λ (lg : List Event). Holds base lg l p) (sym (append-nil log)) h
holds_notices base log l p (t ∷ ts) h = subst (λ (lg : List Event). Holds base lg l p) (append_assoc log (Noticed t ∷ []) (notices ts)) (holds_notices base (log ++ Noticed t ∷ []) l p ts (keeps_notice base log l t h.0, knows_notice base log l h.0 p h.1 t))

-- and under equal names
holds_moved : (base base2 : Blocks) (log new : List Event) (l : Ledger) (p : PipelineData) → base2 ≡ base → new ≡ log → Holds base log l p → Holds base2 new l p
holds_moved base base2 log new l p same is h = subst (λ (b : Blocks). Holds b new l p) (sym same) (subst (λ (lg : List Event). Holds base lg l p) (sym is) h)

-- so they do after a wait
pub holds_wait : (base base2 : Blocks) (log new : List Event) (l : Ledger) (p : PipelineData) → base2 ≡ base → AddsNotices log new → Holds base log l p → Holds base2 new l p
holds_wait base base2 log new l p same adds h = holds_moved base base2 _ new l p same adds.log (holds_notices base log l p adds.tickets h)

-- and after a poll
pub holds_poll : (base base2 : Blocks) (log new : List Event) (l : Ledger) (p : PipelineData) (r : Result (Option ℕ) DiskFault) → base2 ≡ base → AddsPoll r log new → Holds base log l p → Holds base2 new l p
holds_poll base base2 log new l p (Ok (Some n)) same adds h = holds_moved base base2 _ new l p same adds.1 (keeps_notice base log l n h.0, knows_notice base log l h.0 p h.1 n)
holds_poll base base2 log new l p (Ok None) same adds h = holds_moved base base2 log new l p same adds h
holds_poll base base2 log new l p (Err e) same adds h = holds_moved base base2 log new l p same adds h
