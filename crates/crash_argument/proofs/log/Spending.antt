-- What calls in a row spend.
use Rattle.std.proofs.Common.{◌≡◌, Bool, true, false, ◌∙◌, sym, ap, subst, arith}
use Rattle.base_types.specs.Counts.{after_call, next_count}
use Rattle.disk_contract.specs.Disk.{State, SameDisk, OnlyWrites, OnlyWaits, SpendsUpTo}

-- a disk that is the same twice over
pub same_twice : (a b c : State) → SameDisk a b → SameDisk b c → SameDisk a c
same_twice a b c one two = record { blocks = two.blocks ∙ one.blocks; base = two.base ∙ one.base; manner = two.manner ∙ one.manner }

-- a write and a wait behind it that failed
pub wait_failed : (failed : Bool) (a b c : State) → failed ≡ true → OnlyWrites false a b → OnlyWaits true b c → SpendsUpTo failed 1 a c
wait_failed failed a b c is one two = subst (λ (v : Bool). SpendsUpTo v 1 a c) (sym is) (record {
  same = same_twice a b c one.same two.same;
  faults = two.faults ∙ ap (after_call true) one.faults;
  read_faults = two.read_faults ∙ one.read_faults;
  waits = (1, omega arith, two.waits ∙ ap next_count one.waits);
  polls = two.polls ∙ one.polls;
})
