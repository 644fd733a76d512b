-- Several records that become durable one after the other.
use Rattle.std.proofs.Common.{◌≡◌, ℕ, ◌+◌, ◌≤◌, Bool, true, false, if◌then◌else◌, List, length, drop, refl, sym, ◌∙◌, ap, subst, arith, length-append}
use Rattle.std.proofs.lemmas.Bool.Decides.{nat_tests}
use Rattle.std.proofs.lemmas.Bool.{false≢true}
use Rattle.base_types.specs.Seal.{Blocks}
use Rattle.disk_contract.specs.declared.event.Event.{Event}
use Rattle.layout_journal.specs.Ring.{RingPlaces}
use Rattle.crash_argument.specs.Ledger.{Ledger}
use Rattle.crash_argument.specs.Points.{MountedSession, IsSafe}
use Rattle.crash_argument.specs.Steps.{with_known}
use Rattle.engine_notes.specs.declared.notes.Note.{Note}
use Rattle.engine_running.specs.declared.commit.Committed.{Committed}
use Rattle.engine_checkpoint.specs.declared.pipeline.Pipeline.{Pipeline}
use Rattle.engine_checkpoint.specs.Agree.{PipelineAgrees}
use Rattle.engine_checkpoint.specs.Steps.{SettlesFirst, SettlesSome, SettlesOrStays, is_first_settled}
use Rattle.engine_checkpoint.specs.Advance.{AgreesOn, Turned}
use Rattle.engine_checkpoint.proofs.Forgotten.{forgets_these, forgets_none, forgets_on}
use Rattle.engine_checkpoint.proofs.KeptRows.{drop_rest}
use Rattle.engine_checkpoint.proofs.Orders.{kept_settled}

-- none yet
pub settles_none : (v : Pipeline) → SettlesSome 0 v v
settles_none v = record { kept = refl; committed = refl; durable = omega arith; forgets = forgets_none v.notes.notes; rest = refl }

-- one more
pub settles_more : (n : ℕ) (v w x : Pipeline) → SettlesSome n v w → SettlesFirst w x → SettlesSome (n + 1) v x
settles_more n v w x s f = grind (arith, nat_tests, kept_settled, drop_rest, length-append, forgets_on, forgets_these)

pub turned_same : (l : Ledger) → Turned l l
turned_same l = record { geom = refl; epoch = refl; map_before = refl; next = refl; known = omega arith }

pub turned_on : (l k m : Ledger) → Turned l k → Turned k m → Turned l m
turned_on l k m one two = record { geom = two.geom ∙ one.geom; epoch = two.epoch ∙ one.epoch; map_before = two.map_before ∙ one.map_before; next = two.next ∙ one.next; known = omega (arith, one.known, two.known) }

-- one record more is known
pub known_more : (l : Ledger) → Turned l (with_known l (l.known + 1))
known_more l = record { geom = refl; epoch = refl; map_before = refl; next = refl; known = omega arith }

module _ (s : MountedSession) (base : Blocks) (log : List Event) (l : Ledger) (t floor : ℕ) (ring : RingPlaces) (waiting : List (ℕ × ℕ)) (taken : List ℕ) where
  pub agrees_more : (r : Bool) (v w : Pipeline) → r ≡ true → AgreesOn s base log l t floor v ring waiting taken
      → ((k : Ledger) → IsSafe s base log k t floor → PipelineAgrees base log k v ring waiting taken → IsSafe s base log (if r then with_known k (k.known + 1) else k) t floor × PipelineAgrees base log (if r then with_known k (k.known + 1) else k) w ring waiting taken)
      → AgreesOn s base log l t floor w ring waiting taken
  agrees_more true v w e a step = let next = step a.now a.safe a.agrees in record { now = with_known a.now (a.now.known + 1); turned = turned_on l a.now (with_known a.now (a.now.known + 1)) a.turned (known_more a.now); safe = next.0; agrees = next.1 }
  agrees_more false v w e a step = absurd (false≢true e)

  pub agrees_as : (v w : Pipeline) → w ≡ v → AgreesOn s base log l t floor v ring waiting taken → AgreesOn s base log l t floor w ring waiting taken
  agrees_as v w same a = subst (λ (p : Pipeline). AgreesOn s base log l t floor p ring waiting taken) (sym same) a

pub settled_first : (r : Bool) (v w : Pipeline) → r ≡ true → SettlesOrStays r v w → SettlesFirst v w
settled_first true v w e s = s
settled_first false v w e s = absurd (false≢true e)

pub stayed : (r : Bool) (v w : Pipeline) → r ≡ false → SettlesOrStays r v w → w ≡ v
stayed false v w e s = s
stayed true v w e s = absurd (false≢true (sym e))

-- with no committed record left none is settled
pub none_left : (cs : List Committed) (all : List Committed) (n : ℕ) (notes : List Note) → cs ≡ drop n all → length all ≤ n → is_first_settled cs notes ≡ false
none_left cs all n notes is le = ap (λ (xs : List Committed). is_first_settled xs notes) (is ∙ Rattle.std.proofs.lemmas.List.drop_all n all le)
