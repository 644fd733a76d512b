-- The moments of a disk, as events come.
use Rattle.std.proofs.Common.{◌≡◌, ◌⊎◌, ⊎_elim, ℕ, zero, suc, ◌<◌, ◌≤◌, ◌+◌, ◌-◌, min, nat_le, Bool, true, false, if◌then◌else◌, List, [], ◌∷◌, ◌++◌, length, take, refl, sym, ◌∙◌, ap, subst, arith, length-append}
use Rattle.std.proofs.lemmas.Bool.{false≢true}
use Rattle.std.proofs.lemmas.List.{take_all, take-append-le}
use Rattle.base_types.specs.Seal.{Blocks}
use Rattle.disk_contract.specs.declared.event.Event.{Event}
use Rattle.disk_contract.specs.declared.event.Event.TheVariants.{Noticed}
use Rattle.disk_contract.specs.Cell.{notices}
use Rattle.disk_contract.specs.Lawful.{IsLawful}
use Rattle.disk_mirror.specs.Behind.{LagsBehind}
use Rattle.disk_mirror.specs.Half.{end_at}
use Rattle.disk_mirror.specs.Times.{came_by, moment_of, AreUpTo, AreFrom, Ascend, IsTimed}
use Rattle.disk_mirror.specs.declared.entry.Side.{Side}
use Rattle.disk_mirror.specs.declared.entry.Pair.{Pair}
use Rattle.disk_mirror.specs.declared.entry.Heard.{Heard}
use Rattle.disk_mirror.specs.Mirror.{IsOnSide}
use Rattle.disk_mirror.proofs.Lags.{behind_of, behind_notices}

le_true : (t k : ℕ) → t ≤ k → nat_le t k ≡ true
le_true t k low = grind (arith, low)

le_false : (t k : ℕ) → k < t → nat_le t k ≡ false
le_false t k high = grind (arith, high)

came_most : (k : ℕ) (ts : List ℕ) → came_by k ts ≤ length ts
came_most k [] = omega arith
came_most k (t ∷ ts) = elim (nat_le t k) as (λ v. (if v then 1 + came_by k ts else 0) ≤ suc (length ts)) [ true ↦ omega (arith, came_most k ts) | false ↦ omega arith ]

came_all : (k : ℕ) (ts : List ℕ) → AreUpTo k ts → came_by k ts ≡ length ts
came_all k [] up = refl
came_all k (t ∷ ts) up = ap (λ v. if v then 1 + came_by k ts else 0) (le_true t k up.0) ∙ omega (arith, came_all k ts up.1)

came_below : (k t : ℕ) (ts : List ℕ) → k < t → came_by k (ts ++ t ∷ []) ≡ came_by k ts
came_below k t [] high = ap (λ v. if v then 1 + 0 else 0) (le_false t k high)
came_below k t (u ∷ ts) high = elim (nat_le u k) as (λ v. (if v then 1 + came_by k (ts ++ t ∷ []) else 0) ≡ (if v then 1 + came_by k ts else 0)) [ true ↦ ap (λ m. 1 + m) (came_below k t ts high) | false ↦ refl ]

pub upto_more : (m k : ℕ) (ts : List ℕ) → m ≤ k → AreUpTo m ts → AreUpTo k ts
upto_more m k [] low up = tt
upto_more m k (t ∷ ts) low up = (omega (arith, low, up.0), upto_more m k ts low up.1)

pub upto_snoc : (m t : ℕ) (ts : List ℕ) → AreUpTo m ts → t ≤ m → AreUpTo m (ts ++ t ∷ [])
upto_snoc m t [] up low = (low, tt)
upto_snoc m t (u ∷ ts) up low = (up.0, upto_snoc m t ts up.1 low)

-- a number that isn't below the others keeps them ascending
from_more : (m t : ℕ) (ts : List ℕ) → m ≤ t → AreFrom m ts → AreFrom m (ts ++ t ∷ [])
from_more m t [] low up = (low, tt)
from_more m t (u ∷ ts) low up = (up.0, from_more m t ts low up.1)

ascend_snoc : (t : ℕ) (ts : List ℕ) → AreUpTo t ts → Ascend ts → Ascend (ts ++ t ∷ [])
ascend_snoc t [] low up = (tt, tt)
ascend_snoc t (u ∷ ts) low up = (from_more u t ts low.0 up.0, ascend_snoc t ts low.1 up.1)

-- the moment that stands for k stays where the disk stays as it was, or goes down now
same_moment : (live now : Bool) (end later size k : ℕ) (ts : List ℕ) → length ts ≡ size → (now ≡ true → live ≡ true) → (now ≡ false → later ≡ end_at size live end) → moment_of now later k ts ≡ moment_of live end k ts
same_moment live true end later size k ts full stays goes = sym (ap (λ v. moment_of v end k ts) (stays refl))
same_moment true false end later size k ts full stays goes = ap (λ e. min e (came_by k ts)) (goes refl) ∙ omega (arith, came_most k ts, full)
same_moment false false end later size k ts full stays goes = ap (λ e. min e (came_by k ts)) (goes refl)

moment_low : (live : Bool) (end k : ℕ) (ts : List ℕ) → moment_of live end k ts ≤ length ts
moment_low true end k ts = came_most k ts
moment_low false end k ts = omega (arith, came_most k ts)

-- all events of the mirror had come by the disk's last moment, and so they had by a later one
same_last : (live : Bool) (end k m : ℕ) (ts : List ℕ) → AreUpTo m ts → m ≤ k → moment_of live end k ts ≡ moment_of live end m ts
same_last true end k m ts up low = came_all k ts (upto_more m k ts low up) ∙ sym (came_all m ts up)
same_last false end k m ts up low = ap (λ c. min end c) (came_all k ts (upto_more m k ts low up) ∙ sym (came_all m ts up))

parted : (k n : ℕ) → (k ≤ n) ⊎ (n < k)
parted k n = grind arith

take_notices : (k : ℕ) (ts : List ℕ) → take k (notices ts) ≡ notices (take k ts)
take_notices zero ts = refl
take_notices (suc k) [] = refl
take_notices (suc k) (t ∷ ts) = ap (λ (l : List Event). Noticed t ∷ l) (take_notices k ts)

take_past : (k : ℕ) (xs ys : List Event) → length xs ≤ k → take k (xs ++ ys) ≡ xs ++ take (k - length xs) ys
take_past k [] ys low = ap (λ m. take m ys) {x = k} {y = k - 0} (omega arith)
take_past zero (x ∷ xs) ys low = absurd (none low)
  where
    none : suc (length xs) ≤ 0 → ⊥
    none low = omega (arith, low)
take_past (suc k) (x ∷ xs) ys low = ap (λ (l : List Event). x ∷ l) (take_past k xs ys (omega (arith, low)) ∙ ap (λ m. xs ++ take m ys) {x = k - length xs} {y = suc k - suc (length xs)} (omega arith))

-- notices on the disk alone, or that it goes down
pub timed_notices : (n : ℕ) (base : Blocks) (log : List Event) (times : List ℕ) (live now : Bool) (end later : ℕ) (began : Blocks) (events : List Event) (ts : List ℕ) → (now ≡ true → live ≡ true) → (now ≡ false → later ≡ end_at (length log) live end)
    → IsTimed n base log times live end began events → IsTimed n base log times now later began (events ++ notices ts)
timed_notices n base log times live now end later began events ts stays goes t = record {
  full = t.full;
  low = upto_more (length events) (length (events ++ notices ts)) times (omega (arith, length-append events (notices ts))) t.low;
  ascend = t.ascend;
  images = λ k _. subst (λ m. LagsBehind n base (take m log) began (take k (events ++ notices ts))) (sym (same_moment live now end later (length log) k times t.full stays goes)) (⊎_elim (before k) (behind k) (parted k (length events)));
}
  where
    before : (k : ℕ) → k ≤ length events → LagsBehind n base (take (moment_of live end k times) log) began (take k (events ++ notices ts))
    before k low = subst (λ (l : List Event). LagsBehind n base (take (moment_of live end k times) log) began l) (sym (take-append-le k events (notices ts) low)) (t.images k low)

    behind : (k : ℕ) → length events < k → LagsBehind n base (take (moment_of live end k times) log) began (take k (events ++ notices ts))
    behind k high =
        let last = subst (λ (l : List Event). LagsBehind n base (take (moment_of live end (length events) times) log) began l) (take_all (length events) events (omega arith)) (t.images (length events) (omega arith)) in
        subst (λ m. LagsBehind n base (take m log) began (take k (events ++ notices ts))) (sym (same_last live end k (length events) times t.low (omega (arith, high))))
        (subst (λ (l : List Event). LagsBehind n base (take (moment_of live end (length events) times) log) began l) (sym (take_past k events (notices ts) (omega (arith, high)) ∙ ap (λ l. events ++ l) (take_notices (k - length events) ts)))
        (behind_notices n base began (take (moment_of live end (length events) times) log) events (take (k - length events) ts) last))

-- one event of the mirror, by which the disk has at most one more: at its last moment the disk lags behind the log with it
pub timed_event : (n : ℕ) (base : Blocks) (log : List Event) (times : List ℕ) (live now : Bool) (end later : ℕ) (began : Blocks) (events more : List Event) (e : Event) → (now ≡ true → live ≡ true) → (k : ℕ) → k ≡ length (events ++ more) → k ≤ length events + 1
    → ((j : ℕ) → j < k → moment_of now later j times ≡ moment_of live end j times)
    → LagsBehind n base (take (moment_of now later k (times ++ k ∷ [])) (log ++ e ∷ [])) began (events ++ more)
    → IsTimed n base log times live end began events → IsTimed n base (log ++ e ∷ []) (times ++ k ∷ []) now later began (events ++ more)
timed_event n base log times live now end later began events more e stays k size short same last t = record {
  full = length-append times (k ∷ []) ∙ omega (arith, t.full, length-append log (e ∷ []));
  ascend = ascend_snoc k times (upto_more (length events) k times (omega (arith, size, length-append events more)) t.low) t.ascend;
  low = subst (λ m. AreUpTo m (times ++ k ∷ [])) size (upto_snoc k k times (upto_more (length events) k times (omega (arith, size, length-append events more)) t.low) (omega arith));
  images = λ j low. ⊎_elim (at_last j) (before j) (parted_last j (omega (arith, low, size)));
}
  where
    parted_last : (j : ℕ) → j ≤ k → (j ≡ k) ⊎ (j < k)
    parted_last j low = grind (arith, low)

    at_last : (j : ℕ) → j ≡ k → LagsBehind n base (take (moment_of now later j (times ++ k ∷ [])) (log ++ e ∷ [])) began (take j (events ++ more))
    at_last j is = subst (λ m. LagsBehind n base (take (moment_of now later m (times ++ k ∷ [])) (log ++ e ∷ [])) began (take m (events ++ more))) (sym is)
        (subst (λ (l : List Event). LagsBehind n base (take (moment_of now later k (times ++ k ∷ [])) (log ++ e ∷ [])) began l) (sym (take_all k (events ++ more) (omega (arith, size)))) last)

    moment_before : (v : Bool) (j : ℕ) → j < k → moment_of v later j (times ++ k ∷ []) ≡ moment_of v later j times
    moment_before true j below = came_below j k times below
    moment_before false j below = ap (λ c. min later c) (came_below j k times below)

    before : (j : ℕ) → j < k → LagsBehind n base (take (moment_of now later j (times ++ k ∷ [])) (log ++ e ∷ [])) began (take j (events ++ more))
    before j below =
        let moment = moment_before now j below ∙ same j below in
        subst (λ m. LagsBehind n base (take m (log ++ e ∷ [])) began (take j (events ++ more))) (sym moment)
        (subst (λ (l : List Event). LagsBehind n base l began (take j (events ++ more))) (sym (take-append-le (moment_of live end j times) log (e ∷ []) (omega (arith, moment_low live end j times, t.full))))
        (subst (λ (l : List Event). LagsBehind n base (take (moment_of live end j times) log) began l) (sym (take-append-le j events more (omega (arith, below, short)))) (t.images j (omega (arith, below, short)))))

-- whether the disk stays live, goes down at no moment of the mirror before now, or was down
pub record Goes (live now : Bool) (end later size : ℕ) : Type 0 where
  pub stays : now ≡ true → live ≡ true
  pub falls : now ≡ false → live ≡ true → size ≤ later
  pub is_down : now ≡ false → live ≡ false → later ≡ end

same_before : (live now : Bool) (end later size j : ℕ) (ts : List ℕ) → length ts ≡ size → Goes live now end later size → moment_of now later j ts ≡ moment_of live end j ts
same_before true true end later size j ts full g = refl
same_before false true end later size j ts full g = absurd (false≢true (g.stays refl))
same_before true false end later size j ts full g = omega (arith, came_most j ts, full, g.falls refl refl)
same_before false false end later size j ts full g = ap (λ e. min e (came_by j ts)) (g.is_down refl refl)

-- one event of the mirror and at most one of the disk, behind which the disk is on its side
pub timed_step : (side : Side) (n : ℕ) (base : Blocks) (log : List Event) (pairs : List Pair) (rows : List Heard) (times : List ℕ) (live now : Bool) (end later : ℕ) (began : Blocks) (events more : List Event) (e : Event) (k : ℕ)
    → IsLawful (log ++ e ∷ []) → IsLawful (events ++ more) → length more ≤ 1 → Goes live now end later (length log) → k ≡ length (events ++ more)
    → IsOnSide side n base (log ++ e ∷ []) pairs rows now later began (events ++ more) → IsTimed n base log times live end began events → IsTimed n base (log ++ e ∷ []) (times ++ k ∷ []) now later began (events ++ more)
timed_step side n base log pairs rows times live now end later began events more e k h lawful few g size s t =
    timed_event n base log times live now end later began events more e g.stays k size (omega (arith, size, few, length-append events more)) (λ j below. same_before live now end later (length log) j times t.full g) (last now refl) t
  where
    all_up : AreUpTo k (times ++ k ∷ [])
    all_up = upto_snoc k k times (upto_more (length events) k times (omega (arith, size, length-append events more)) t.low) (omega arith)

    came : came_by k (times ++ k ∷ []) ≡ length (log ++ e ∷ [])
    came = came_all k (times ++ k ∷ []) all_up ∙ omega (arith, length-append times (k ∷ []), length-append log (e ∷ []), t.full)

    last : (v : Bool) → now ≡ v → LagsBehind n base (take (moment_of now later k (times ++ k ∷ [])) (log ++ e ∷ [])) began (events ++ more)
    last true on_it =
        let whole : take (moment_of now later k (times ++ k ∷ [])) (log ++ e ∷ []) ≡ log ++ e ∷ [] = ap (λ v. take (moment_of v later k (times ++ k ∷ [])) (log ++ e ∷ [])) on_it ∙ take_all (came_by k (times ++ k ∷ [])) (log ++ e ∷ []) (omega (arith, came)) in
        subst (λ (l : List Event). LagsBehind n base l began (events ++ more)) (sym whole) (behind_of n base began side pairs rows (log ++ e ∷ []) (events ++ more) s.alike h lawful (s.twin on_it))
    last false off =
        let down = s.behind off in
        let at : moment_of now later k (times ++ k ∷ []) ≡ later = ap (λ v. moment_of v later k (times ++ k ∷ [])) off ∙ omega (arith, came, down.0) in
        subst (λ m. LagsBehind n base (take m (log ++ e ∷ [])) began (events ++ more)) (sym at) down.1
