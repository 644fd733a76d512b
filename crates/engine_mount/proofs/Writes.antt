-- How many writes a call that waits for its one write has added.
use Rattle.std.proofs.Common.{◌≡◌, inr, ⊎_elim, ℕ, ◌+◌, ◌≤◌, List, Result, Ok, Err, refl, ap, arith}
use Rattle.disk_contract.specs.declared.disk.DiskFault.{DiskFault}
use Rattle.disk_contract.specs.declared.event.Event.{Event}
use Rattle.disk_contract.specs.Disk.{AddsWrite, AddsNotices, writes_in}
use Rattle.crash_argument.specs.Opening.{AddsWaited, AddsDurable}

-- What the law says of writes and of waits.
abbrev pub WriteLaw : Type 0
WriteLaw = (b : ℕ) (x : List ℕ) (r : Result ℕ DiskFault) (old new : List Event) → AddsWrite b x r old new → writes_in new ≤ writes_in old + 1

abbrev pub WaitLaw : Type 0
WaitLaw = (old new : List Event) → AddsNotices old new → writes_in new ≡ writes_in old

-- one accepted write, and notices behind it
waited_once : WriteLaw → WaitLaw → (b : ℕ) (x : List ℕ) (old new : List Event) → AddsWaited b x old new → writes_in new ≤ writes_in old + 1
waited_once writes waits b x old new w = omega (arith, waits _ new w.waited, writes b x (Ok w.ticket) old _ (w.above, w.fresh, refl))

-- a write that was waited for, or a call that failed
pub writes_once : WriteLaw → WaitLaw → {T : Type 0} (b : ℕ) (x : List ℕ) (r : Result T DiskFault) (old new : List Event) → AddsDurable b x r old new → writes_in new ≤ writes_in old + 1
writes_once writes waits b x (Ok done) old new a = waited_once writes waits b x old new a.0
writes_once writes waits b x (Err e) old new a = ⊎_elim (λ same. omega (arith, ap writes_in same)) (λ more. ⊎_elim (λ lost. writes b x (Err e) old new (inr lost)) (λ w. waited_once writes waits b x old new w) more) a
