-- Why calls have failed stays so.
use Rattle.std.proofs.Common.{◌≡◌, ◌⊎◌, inl, inr, ⊎_elim, ℕ, ◌<◌, ◌≤◌, length, Bool, true, false, refl, sym, ◌∙◌, arith}
use Rattle.std.proofs.lemmas.Bool.{false≢true, le-ltb}
use Rattle.disk_contract.specs.Disk.{State}
use Rattle.disk_mirror.specs.Mirror.{AreCaused, Counts, HasCauses, KeepsRoom, NoneLive, mirror_state}
use Rattle.disk_mirror.specs.Order.{OrderState}
use Rattle.disk_mirror.proofs.Made.{made_log}
use Rattle.disk_mirror.proofs.Steps.{parted}

-- a disk that is down stays so
stays_down : (f now : Bool) → (now ≡ true → f ≡ true) → f ≡ false → now ≡ false
stays_down f true stays off = absurd (false≢true (sym off ∙ stays refl))
stays_down f false stays off = refl

pub causes_stay : (faults reads : ℕ) (f s f' s' : Bool) (room count room' count' : ℕ) → (f' ≡ true → f ≡ true) → (s' ≡ true → s ≡ true) → (count' < room' → count < room) → AreCaused faults reads f s room count → AreCaused faults reads f' s' room' count'
causes_stay faults reads f s f' s' room count room' count' first second still c = record { reads = λ some. down (c.reads some); others = λ some more. down (c.others some (still more)) }
  where
    down : NoneLive f s → NoneLive f' s'
    down none = (stays_down f f' first none.0, stays_down s s' second none.1)

-- where no disk is live, each failure has that cause
pub causes_down : (faults reads : ℕ) (f s : Bool) (room count : ℕ) → f ≡ false → s ≡ false → AreCaused faults reads f s room count
causes_down faults reads f s room count off_a off_b = record { reads = λ _. (off_a, off_b); others = λ _ _. (off_a, off_b) }

-- nothing has failed yet
pub causes_new : (f s : Bool) (room count : ℕ) → AreCaused 0 0 f s room count
causes_new f s room count = record { reads = λ some. absurd (none some); others = λ some _. absurd (none some) }
  where
    none : 0 < 0 → ⊥
    none some = omega (arith, some)

-- the mirror's manner tells by its log where the room is used up
pub causes_told : (a b : State) (f s : Bool) (o : OrderState) (c : Counts) → AreCaused c.faults c.read_faults f s o.room (length o.pairs) → KeepsRoom c.most o → HasCauses (mirror_state a b o c) f s
causes_told a b f s o c causes keeps = record {
  reads = causes.reads;
  others = λ some. ⊎_elim (λ more. inl (causes.others some more)) (λ used. inr (le-ltb _ _ (omega (arith, made_log a.log b.log o.events, keeps, used)))) (parted (length o.pairs) o.room);
}
