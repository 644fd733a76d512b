-- The choice of blocks, as the contract of maps of blocks says it: where there are enough at once, and behind a drain.
use Rattle.std.proofs.Common.{◌≡◌, ℕ, ◌<◌, ◌≤◌, Bool, false, List, length, Result, Ok, Err, OnOk, IfErr, refl, sym, subst, arith}
use Rattle.engine_blocks.specs.declared.refusals.LowestRefusal.{LowestRefusal}
use Rattle.engine_blocks.specs.declared.refusals.LowestRefusal.TheVariants.{Short, DiskFault, NoMemory}
use Rattle.engine_blocks.specs.State.{Bookkeeping, State, reusable_blocks}
use Rattle.engine_blocks.specs.Calls.{AreLowest, LowestRefused, lowest_fails}
use Rattle.engine_blocks.specs.Effects.{RunsPipeline}
use Rattle.engine_store.specs.Choosing.{AreLeast, LeastRefused}

-- a choice among those there are never fails by the disk
pub never_fails : {T : Type 0} (r : Result T LowestRefusal) (n : ℕ) (k : Bookkeeping) → IfErr r (LeastRefused n k) → lowest_fails r ≡ false
never_fails (Ok x) n k refused = refl
never_fails (Err (Short need reusable)) n k refused = refl
never_fails (Err DiskFault) n k refused = absurd refused
never_fails (Err NoMemory) n k refused = refl

pub runs_on : {T : Type 0} (r : Result T LowestRefusal) (n : ℕ) (k : Bookkeeping) (tells : Bool) (s t : State) → IfErr r (LeastRefused n k) → RunsPipeline tells false s t → RunsPipeline tells (lowest_fails r) s t
runs_on r n k tells s t refused runs = subst (λ (f : Bool). RunsPipeline tells f s t) (sym (never_fails r n k refused)) runs

-- where there are enough, it is refused for want of memory alone
pub refused_at_once : {T : Type 0} (r : Result T LowestRefusal) (n : ℕ) (k : Bookkeeping) → n ≤ length (reusable_blocks k) → IfErr r (LeastRefused n k) → IfErr r (LowestRefused n k k)
refused_at_once (Ok x) n k enough refused = refused
refused_at_once (Err (Short need reusable)) n k enough (need_is, is, fewer) = absurd (never fewer is enough)
  where
    never : reusable < n → reusable ≡ length (reusable_blocks k) → n ≤ length (reusable_blocks k) → ⊥
    never lt e le = omega (arith, lt, e, le)
refused_at_once (Err DiskFault) n k enough refused = absurd refused
refused_at_once (Err NoMemory) n k enough refused = refused

-- behind a drain nothing waits
pub refused_then : {T : Type 0} (r : Result T LowestRefusal) (n : ℕ) (j k : Bookkeeping) → k.waiting ≡ 0 → IfErr r (LeastRefused n k) → IfErr r (LowestRefused n j k)
refused_then (Ok x) n j k none refused = refused
refused_then (Err (Short need reusable)) n j k none (need_is, is, fewer) = (need_is, is, fewer, none)
refused_then (Err DiskFault) n j k none refused = absurd refused
refused_then (Err NoMemory) n j k none refused = refused

pub found_then : {T : Type 0} (r : Result T LowestRefusal) (n : ℕ) (j k : Bookkeeping) (found : List ℕ) → (length (reusable_blocks j) < n → k.waiting ≡ 0) → OnOk r (AreLeast n k found) → OnOk r (AreLowest n j k found)
found_then (Ok x) n j k found settled are = record { enough = are.enough; least = are.least; takeable = are.takeable; settled = settled }
found_then (Err why) n j k found settled are = are
