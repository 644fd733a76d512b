-- What the ghost fields of a mirror give: of images, and of its log in each call.
use Rattle.std.proofs.Common.{◌≡◌, ℕ, ◌<◌, ◌+◌, ◌||◌, Bool, true, false, is_some, List, [], ◌∷◌, length, take, Option, Some, None, refl, sym, ◌∙◌, ap, arith}
use Rattle.std.proofs.Props.{props}
use Rattle.std.proofs.Math.Logic.{∥∥₁_elim, ∥∥₁_map}
use Rattle.std.proofs.lemmas.Bool.{false≢true}
use Rattle.base_types.specs.Seal.{Blocks}
use Rattle.disk_contract.specs.declared.event.Event.{Event}
use Rattle.disk_contract.specs.Cell.{greatest_ticket, IsNoticed}
use Rattle.disk_contract.specs.Crash.{IsHonest}
use Rattle.disk_contract.specs.Lawful.{IsLawful}
use Rattle.disk_mirror.specs.declared.entry.Side.TheVariants.{First, Second}
use Rattle.disk_mirror.specs.Order.{OrderState, Put, lost_in, log_of, are_found}
use Rattle.std.specs.Coded.{×_prop, Unit-prop}
use Rattle.disk_mirror.specs.Times.{times_on, moment_of, AreUpTo, AreFrom, Ascend, LeavesAtMoments}
use Rattle.disk_mirror.specs.Twin.{unheard}
use Rattle.disk_mirror.specs.Mirror.{IsMirrorOf}
use Rattle.disk_mirror.proofs.Images.{honest_of}
use Rattle.disk_mirror.proofs.Lags.{behind_of}
use Rattle.disk_mirror.proofs.Steps.{get-behind}

-- these hold in one way
upto_prop : (m : ℕ) (ts : List ℕ) → IsProp (AreUpTo m ts)
upto_prop m [] = Unit-prop
upto_prop m (t ∷ ts) = ×_prop (hlevel props) (upto_prop m ts)

from_prop : (m : ℕ) (ts : List ℕ) → IsProp (AreFrom m ts)
from_prop m [] = Unit-prop
from_prop m (t ∷ ts) = ×_prop (hlevel props) (from_prop m ts)

ascend_prop : (ts : List ℕ) → IsProp (Ascend ts)
ascend_prop [] = Unit-prop
ascend_prop (t ∷ ts) = ×_prop (from_prop t ts) (ascend_prop ts)

-- a mirror of n blocks of which that is known
module _ (n : ℕ) (base began : Blocks) (a b : List Event) (first second : Bool) (ea eb : ℕ) (o : OrderState) (told : ∥ IsMirrorOf n base began a b first second ea eb o ∥₁) where
  -- what a crash may leave of a disk
  pub left_first : IsLawful a → first ≡ true → (img : Blocks) → IsHonest n base a img → ∥ IsHonest n base (log_of a b o.events) img ∥₁
  left_first lawful live img h = ∥∥₁_map told (λ (m : IsMirrorOf n base began a b first second ea eb o). honest_of n base (log_of a b o.events) base a (behind_of n base base First o.pairs o.heard (log_of a b o.events) a m.on_first.alike m.log.lawful lawful (m.on_first.twin live)) img h)

  pub left_second : IsLawful b → second ≡ true → (img : Blocks) → IsHonest n began b img → ∥ IsHonest n base (log_of a b o.events) img ∥₁
  left_second lawful live img h = ∥∥₁_map told (λ (m : IsMirrorOf n base began a b first second ea eb o). honest_of n base (log_of a b o.events) began b (behind_of n base began Second o.pairs o.heard (log_of a b o.events) b m.on_second.alike m.log.lawful lawful (m.on_second.twin live)) img h)

  pub left_first_down : first ≡ false → (img : Blocks) → IsHonest n base a img → ∥ IsHonest n base (take ea (log_of a b o.events)) img ∥₁
  left_first_down off img h = ∥∥₁_map told (λ (m : IsMirrorOf n base began a b first second ea eb o). honest_of n base (take ea (log_of a b o.events)) base a (m.on_first.behind off).1 img h)

  pub left_second_down : second ≡ false → (img : Blocks) → IsHonest n began b img → ∥ IsHonest n base (take eb (log_of a b o.events)) img ∥₁
  left_second_down off img h = ∥∥₁_map told (λ (m : IsMirrorOf n base began a b first second ea eb o). honest_of n base (take eb (log_of a b o.events)) began b (m.on_second.behind off).1 img h)

  -- at each of a disk's moments
  pub moments_first : LeavesAtMoments n base (log_of a b o.events) (times_on First o.times) first ea base a
  moments_first = record {
    alike = λ k low. ∥∥₁_elim told (search props) (λ m. m.on_first.alike k low);
    full = ∥∥₁_elim told (search props) (λ m. m.timed_first.full);
    low = ∥∥₁_elim told (upto_prop (length a) (times_on First o.times)) (λ m. m.timed_first.low);
    ascend = ∥∥₁_elim told (ascend_prop (times_on First o.times)) (λ m. m.timed_first.ascend);
    images = λ k img low h. ∥∥₁_map told (λ (m : IsMirrorOf n base began a b first second ea eb o). honest_of n base (take (moment_of first ea k (times_on First o.times)) (log_of a b o.events)) base (take k a) (m.timed_first.images k low) img h);
  }

  pub moments_second : LeavesAtMoments n base (log_of a b o.events) (times_on Second o.times) second eb began b
  moments_second = record {
    alike = λ k low. ∥∥₁_elim told (search props) (λ m. m.on_second.alike k low);
    full = ∥∥₁_elim told (search props) (λ m. m.timed_second.full);
    low = ∥∥₁_elim told (upto_prop (length b) (times_on Second o.times)) (λ m. m.timed_second.low);
    ascend = ∥∥₁_elim told (ascend_prop (times_on Second o.times)) (λ m. m.timed_second.ascend);
    images = λ k img low h. ∥∥₁_map told (λ (m : IsMirrorOf n base began a b first second ea eb o). honest_of n base (take (moment_of second eb k (times_on Second o.times)) (log_of a b o.events)) began (take k b) (m.timed_second.images k low) img h);
  }

  -- facts that hold in one way
  pub found_now : (first || second) ≡ true → are_found a b o.events ≡ true
  found_now some = ∥∥₁_elim told (search props) (λ m. m.found some)

  pub next_above : greatest_ticket (log_of a b o.events) < length o.pairs + 1
  next_above = ∥∥₁_elim told (search props) (λ m. omega (arith, m.count))

  pub next_unnoticed : length o.heard ≡ length o.pairs → IsNoticed (length o.pairs + 1) (log_of a b o.events) → ⊥
  next_unnoticed fit noticed = ∥∥₁_elim told (λ x y. absurd x) (λ m. false≢true (sym (ap (λ (h : _). h.reported) (get-behind (unheard ∷ o.heard) unheard (length o.pairs + 1) (omega (arith, fit)))) ∙ m.reported (length o.pairs + 1) ∙ noticed))

  pub lossless_first : first ≡ true → lost_in a ≡ None
  lossless_first live = none_of (lost_in a) (∥∥₁_elim told (search props) (λ m. ap (λ (p : Option Put). is_some p) (m.on_first.twin live).lossless))
    where
      none_of : (p : Option Put) → is_some p ≡ false → p ≡ None
      none_of None e = refl
      none_of (Some p) e = absurd (false≢true (sym e))

  pub lossless_second : second ≡ true → lost_in b ≡ None
  lossless_second live = none_of (lost_in b) (∥∥₁_elim told (search props) (λ m. ap (λ (p : Option Put). is_some p) (m.on_second.twin live).lossless))
    where
      none_of : (p : Option Put) → is_some p ≡ false → p ≡ None
      none_of None e = refl
      none_of (Some p) e = absurd (false≢true (sym e))

  -- the second disk began as the mirror did
  pub alike_second : (k : ℕ) → k < n → began k ≡ base k
  alike_second k low = ∥∥₁_elim told (search props) (λ m. m.on_second.alike k low)
