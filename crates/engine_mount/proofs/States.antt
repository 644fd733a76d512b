-- States of a disk that are the same but for what was read, and what calls in a row spend.
use Rattle.std.proofs.Common.{◌≡◌, ℕ, zero, suc, ◌+◌, ◌≤◌, Bool, false, List, refl, ◌∙◌, ap, ap₂, arith}
use Rattle.base_types.specs.Counts.{next_count, after_call, after_calls}
use Rattle.base_types.specs.Seal.{Blocks}
use Rattle.disk_contract.specs.declared.event.Event.{Event}
use Rattle.disk_contract.specs.Cell.{Cell, cell_of}
use Rattle.disk_contract.specs.Disk.{State}
use Rattle.layout_journal.specs.declared.header.Header.{Header}
use Rattle.crash_argument.specs.Ledger.{cells_of}
use Rattle.crash_argument.specs.Opening.{settled}
use Rattle.engine_mount.specs.Mount.{IsIdle, settled_on, MountSpends, OpensAnew}

-- the same cells
pub same_cells : (old new : State) → new.base ≡ old.base → new.log ≡ old.log → cells_of new ≡ cells_of old
same_cells old new base log = ap₂ (λ (b : Blocks) (l : List Event). cell_of b l) base log

-- so many calls, and then more
more_calls : (a b n : ℕ) → after_calls a (after_calls b n) ≡ after_calls (a + b) n
more_calls zero b n = ap (λ k. after_calls k n) {x = b} {y = 0 + b} (omega arith)
more_calls (suc a) b n = ap next_count (more_calls a b n) ∙ ap (λ k. after_calls k n) {x = suc (a + b)} {y = suc a + b} (omega arith)

-- calls in a row spend together, where only the last one may have failed
pub spends_on : (unread faulty : Bool) (a b most : ℕ) (old mid new : State) → a + b ≤ most → MountSpends false false a old mid → MountSpends unread faulty b mid new → MountSpends unread faulty most old new
spends_on unread faulty a b most old mid new le one two = record {
  same = record { blocks = two.same.blocks ∙ one.same.blocks; base = two.same.base ∙ one.same.base; manner = two.same.manner ∙ one.same.manner };
  read_faults = two.read_faults ∙ ap (after_call unread) one.read_faults;
  faults = two.faults ∙ ap (after_call faulty) one.faults;
  waits = (two.waits.0 + one.waits.0, omega (arith, one.waits.1, two.waits.1), two.waits.2 ∙ ap (after_calls two.waits.0) one.waits.2 ∙ more_calls two.waits.0 one.waits.0 old.waits);
  polls = two.polls ∙ one.polls;
}

-- nothing is spent so far
pub spends_none : (s : State) (most : ℕ) → MountSpends false false most s s
spends_none s most = record { same = record { blocks = refl; base = refl; manner = refl }; read_faults = refl; faults = refl; waits = (0, omega arith, refl); polls = refl }

-- what is spent at most so often is so at most more often
pub spends_less : (unread faulty : Bool) (few most : ℕ) (old new : State) → few ≤ most → MountSpends unread faulty few old new → MountSpends unread faulty most old new
spends_less unread faulty few most old new le s = record { same = s.same; read_faults = s.read_faults; faults = s.faults; waits = (s.waits.0, omega (arith, le, s.waits.1), s.waits.2); polls = s.polls }

-- and what is settled is the same
pub same_settled : (old new : State) → new.base ≡ old.base → new.log ≡ old.log → settled_on new ≡ settled_on old
same_settled old new base log = ap (λ cells. settled cells) (same_cells old new base log)

-- nothing is pending there either
pub same_idle : (old new : State) → new.base ≡ old.base → new.log ≡ old.log → IsIdle old → IsIdle new
same_idle old new base log idle b = ap (λ (cells : ℕ → Cell). (cells b).pending) (same_cells old new base log) ∙ idle b

-- what a mount leaves over any disk, from before the calls in front of it on
pub anew_on : (a : ℕ) (h : Header) (old mid new : State) → MountSpends false false a old mid → OpensAnew h mid new → OpensAnew h old new
anew_on a h old mid new one two = record {
  released = two.released;
  waited = (two.waited.0 + one.waits.0, omega (arith, two.waited.1), two.waited.2 ∙ ap (after_calls two.waited.0) one.waits.2 ∙ more_calls two.waited.0 one.waits.0 old.waits);
}
