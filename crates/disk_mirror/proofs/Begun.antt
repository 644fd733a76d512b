-- A mirror on which nothing happened yet.
use Rattle.std.proofs.Common.{◌≡◌, ℕ, zero, suc, ◌<◌, ◌≤◌, Bool, true, false, List, [], ◌∷◌, take, Some, None, refl, sym, ◌∙◌, ap, subst, arith}
use Rattle.std.proofs.lemmas.Bool.{false≢true}
use Rattle.base_types.specs.Seal.{Blocks}
use Rattle.disk_contract.specs.declared.event.Event.{Event}
use Rattle.disk_contract.specs.Disk.{State}
use Rattle.disk_mirror.specs.declared.entry.Side.{Side}
use Rattle.disk_mirror.specs.declared.entry.Side.TheVariants.{First, Second}
use Rattle.disk_mirror.specs.Behind.{LagsBehind}
use Rattle.disk_mirror.specs.Order.{OrderState}
use Rattle.disk_mirror.specs.Times.{IsTimed}
use Rattle.disk_mirror.specs.Twin.{heard_on, heard_of, ticket_on, IsTwin}
use Rattle.disk_mirror.specs.Mirror.{IsOnSide, IsMirrorOf, IsMirror, AreGiven}

-- no row is there
no_row : (i : ℕ) → (heard_of [] i).reported ≡ false
no_row zero = refl
no_row (suc i) = refl

no_heard : (s : Side) (i : ℕ) → heard_on s (heard_of [] i) ≡ false
no_heard First zero = refl
no_heard First (suc i) = refl
no_heard Second zero = refl
no_heard Second (suc i) = refl

no_ticket : (s : Side) (i : ℕ) → ticket_on s [] (Some i) ≡ None
no_ticket First zero = refl
no_ticket First (suc i) = refl
no_ticket Second zero = refl
no_ticket Second (suc i) = refl

none_given : (i : ℕ) → 0 < i → i ≤ 0 → ⊥
none_given i up low = omega (arith, up, low)

none_below : (i : ℕ) → i < 0 → ⊥
none_below i low = omega (arith, low)

abbrev no_event : List Event
no_event = []

take_none : (k : ℕ) → take k no_event ≡ no_event
take_none zero = refl
take_none (suc k) = refl

twin_new : (s : Side) → IsTwin s [] [] [] []
twin_new s = record {
  writes = λ b. refl;
  accepted = λ b x. refl;
  lossless = refl;
  written = λ x w. w;
  ascend = λ i j less low. absurd (none_below j low);
  low = λ i t is. absurd (none_some t (sym (no_ticket s i) ∙ is));
  given = λ i up low. absurd (none_given i up low);
  heard = λ i e. absurd (false≢true (sym (no_heard s i) ∙ e));
  noticed = λ i e. absurd (false≢true e);
}
  where
    none_some : (t : ℕ) → None ≡ Some t → ⊥
    none_some t e = cc

side_new : (s : Side) (n : ℕ) (base began : Blocks) (end : ℕ) → ((b : ℕ) → b < n → began b ≡ base b) → IsOnSide s n base [] [] [] true end began []
side_new s n base began end alike = record { alike = alike; twin = λ _. twin_new s; behind = λ off. absurd (false≢true (sym off)) }

timed_new : (n : ℕ) (base began : Blocks) (end : ℕ) → ((b : ℕ) → b < n → began b ≡ base b) → IsTimed n base [] [] true end began []
timed_new n base began end alike = record {
  full = refl;
  low = tt;
  ascend = tt;
  images = λ k _. subst (λ (l : List Event). LagsBehind n base [] began l) (sym (take_none k)) behind;
}
  where
    behind : LagsBehind n base [] began []
    behind = record { alike = alike; cells = λ b low. record { over = []; is = ap (λ (x : List ℕ). x ∷ []) (sym (alike b low)) }; written = λ x w. w }

mirror_none_yet : (n : ℕ) (base began : Blocks) (ea eb room : ℕ) → ((b : ℕ) → b < n → began b ≡ base b) → IsMirrorOf n base began [] [] true true ea eb (record { events = []; times = []; pairs = []; heard = []; room = room })
mirror_none_yet n base began ea eb room alike = record {
  log = record { lawful = tt; events = tt };
  count = refl;
  given = λ i up low. absurd (none_given i up low);
  reported = no_row;
  found = λ _. refl;
  on_first = side_new First n base base ea (λ b low. refl);
  on_second = side_new Second n base began eb alike;
  timed_first = timed_new n base base ea (λ b low. refl);
  timed_second = timed_new n base began eb alike;
}

pub mirror_new : (a b : State) (f s : Bool) (ea eb room : ℕ) (o : OrderState) → f ≡ true → s ≡ true → o ≡ record { events = []; times = []; pairs = []; heard = []; room = room } → ((n : ℕ) → n < a.blocks → b.base n ≡ a.base n) → a.log ≡ [] → b.log ≡ [] → ∥ IsMirror a b f s ea eb o ∥₁
mirror_new a b f s ea eb room o on_a on_b empty alike none_a none_b = ∣ subst (λ v. IsMirrorOf a.blocks a.base b.base a.log b.log v s ea eb o) (sym on_a) (subst (λ v. IsMirrorOf a.blocks a.base b.base a.log b.log true v ea eb o) (sym on_b)
    (subst (λ (p : OrderState). IsMirrorOf a.blocks a.base b.base a.log b.log true true ea eb p) (sym empty)
    (subst (λ (l : List Event). IsMirrorOf a.blocks a.base b.base l b.log true true ea eb (record { events = []; times = []; pairs = []; heard = []; room = room })) (sym none_a)
    (subst (λ (l : List Event). IsMirrorOf a.blocks a.base b.base [] l true true ea eb (record { events = []; times = []; pairs = []; heard = []; room = room })) (sym none_b)
    (mirror_none_yet a.blocks a.base b.base ea eb room alike))))) ∣₁

pub given_new : (f s : Bool) (room : ℕ) (o : OrderState) → o ≡ record { events = []; times = []; pairs = []; heard = []; room = room } → AreGiven o.pairs f s
given_new f s room o empty = subst (λ (p : OrderState). AreGiven p.pairs f s) (sym empty) (record { on_first = λ _ i up low. absurd (none_given i up low); on_second = λ _ i up low. absurd (none_given i up low) })
