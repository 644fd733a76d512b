-- A reply for a call of the disk that failed is counted in the marks behind it, up to the last one.
use Rattle.std.proofs.Common.{◌≡◌, ℕ, zero, suc, ◌<◌, Bool, true, false, List, [], ◌∷◌, slice_get, Some, unwrap_or, sym, ap, ◌∙◌, subst, arith}
use Rattle.base_types.specs.Counts.{after_call}
use Rattle.disk_contract.specs.declared.bay.Mark.{Mark}
use Rattle.lang_tree.specs.declared.command.Refusal.TheVariants as because
use Rattle.lang_tree.specs.declared.command.Reply.{Reply}
use Rattle.lang_tree.specs.declared.command.Reply.TheVariants.{Refused}
use Rattle.cmd_image.specs.Refusals.{is_failed, is_unread}
use Rattle.cmd_image.specs.Runs.{MarksGo}

-- a count that isn't 0 stays so
positive : (failed : Bool) (n : ℕ) → 0 < n → 0 < after_call failed n
positive true n some = omega (arith, some)
positive false n some = some

-- a call that failed is counted
counted : (n now : ℕ) → now ≡ after_call true n → 0 < now
counted n now is = omega (arith, is)

unread_on : (before now : Mark) (given : List Reply) (moments : List ℕ) (marks : List Mark) → 0 < before.read_faults → MarksGo before given moments marks now → 0 < now.read_faults
unread_on before now [] [] [] some go = subst (λ (m : Mark). 0 < m.read_faults) (sym go) some
unread_on before now (r ∷ given) (k ∷ moments) (mark ∷ marks) some go =
    unread_on mark now given moments marks (subst (λ n. 0 < n) (sym go.0.read_faults) (positive (is_unread r) before.read_faults some)) go.1
unread_on before now other rest marks some go = absurd go

failed_on : (before now : Mark) (given : List Reply) (moments : List ℕ) (marks : List Mark) → 0 < before.faults → MarksGo before given moments marks now → 0 < now.faults
failed_on before now [] [] [] some go = subst (λ (m : Mark). 0 < m.faults) (sym go) some
failed_on before now (r ∷ given) (k ∷ moments) (mark ∷ marks) some go =
    failed_on mark now given moments marks (subst (λ n. 0 < n) (sym go.0.faults) (positive (is_failed r) before.faults some)) go.1
failed_on before now other rest marks some go = absurd go

pub unread_reply : (before now : Mark) (given : List Reply) (moments : List ℕ) (marks : List Mark) → MarksGo before given moments marks now → (i : ℕ) → slice_get given i ≡ Some (Refused because.ReadFault) → 0 < now.read_faults
unread_reply before now [] [] [] go i at = absurd cc
unread_reply before now (r ∷ given) (k ∷ moments) (mark ∷ marks) go zero at =
    unread_on mark now given moments marks (counted before.read_faults mark.read_faults (go.0.read_faults ∙ ap (λ (x : Reply). after_call (is_unread x) before.read_faults) (ap (λ o. unwrap_or o r) at))) go.1
unread_reply before now (r ∷ given) (k ∷ moments) (mark ∷ marks) go (suc i) at = unread_reply mark now given moments marks go.1 i at
unread_reply before now other rest marks go i at = absurd go

pub failed_reply : (before now : Mark) (given : List Reply) (moments : List ℕ) (marks : List Mark) → MarksGo before given moments marks now → (i : ℕ) → slice_get given i ≡ Some (Refused because.DiskFault) → 0 < now.faults
failed_reply before now [] [] [] go i at = absurd cc
failed_reply before now (r ∷ given) (k ∷ moments) (mark ∷ marks) go zero at =
    failed_on mark now given moments marks (counted before.faults mark.faults (go.0.faults ∙ ap (λ (x : Reply). after_call (is_failed x) before.faults) (ap (λ o. unwrap_or o r) at))) go.1
failed_reply before now (r ∷ given) (k ∷ moments) (mark ∷ marks) go (suc i) at = failed_reply mark now given moments marks go.1 i at
failed_reply before now other rest marks go i at = absurd go

pub stopped_reply : (before now : Mark) (given : List Reply) (moments : List ℕ) (marks : List Mark) → MarksGo before given moments marks now → (i : ℕ) → slice_get given i ≡ Some (Refused because.Stopped) → 0 < now.faults
stopped_reply before now [] [] [] go i at = absurd cc
stopped_reply before now (r ∷ given) (k ∷ moments) (mark ∷ marks) go zero at =
    failed_on mark now given moments marks (subst (λ n. 0 < n) (sym go.0.faults) (positive (is_failed r) before.faults (go.0.stopped (ap (λ o. unwrap_or o r) at)))) go.1
stopped_reply before now (r ∷ given) (k ∷ moments) (mark ∷ marks) go (suc i) at = stopped_reply mark now given moments marks go.1 i at
stopped_reply before now other rest marks go i at = absurd go
