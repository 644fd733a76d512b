-- No disk has noticed a write of ticket 0: so no wait for it was done.
use Rattle.std.proofs.Common.{◌≡◌, ⊎_elim, ℕ, ◌<◌, ◌==◌, ◌||◌, Bool, true, false, List, [], ◌∷◌, ◌++◌, refl, sym, ◌∙◌, ap, ap₂, arith}
use Rattle.std.proofs.lemmas.Bool.{eqb-true, false≢true, or_cases, cases_Bool}
use Rattle.disk_contract.specs.declared.event.Event.{Event}
use Rattle.disk_contract.specs.declared.event.Event.TheVariants.{Wrote, Lost, Noticed}
use Rattle.disk_contract.specs.Cell.{is_accepted, is_noticed}
use Rattle.disk_contract.specs.Lawful.{AreLawfulAfter, IsLawful}
use Rattle.disk_mirror.specs.Half.{HalfWaits}
use Rattle.disk_mirror.proofs.Logs.{is_accepted-append}

unlike_zero : (t : ℕ) → 0 < t → (t == 0) ≡ false
unlike_zero t up = ⊎_elim (λ on_it. absurd (at_zero (eqb-true t 0 on_it))) (λ off. off) (cases_Bool (t == 0))
  where
    at_zero : t ≡ 0 → ⊥
    at_zero e = omega (arith, e, up)

still_unaccepted : (before : List Event) (e : Event) → is_accepted 0 before ≡ false → is_accepted 0 (e ∷ []) ≡ false → is_accepted 0 (before ++ e ∷ []) ≡ false
still_unaccepted before e none last = is_accepted-append 0 before (e ∷ []) ∙ ap₂ (λ u v. u || v) none last

unnoticed_behind : (before es : List Event) → AreLawfulAfter before es → is_accepted 0 before ≡ false → is_noticed 0 es ≡ true → ⊥
unnoticed_behind before [] lawful none n = false≢true n
unnoticed_behind before (Wrote t b x ∷ es) lawful none n = unnoticed_behind (before ++ Wrote t b x ∷ []) es lawful.1 (still_unaccepted before (Wrote t b x) none (ap (λ v. v || false) (unlike_zero t (omega (arith, lawful.0))))) n
unnoticed_behind before (Lost b x ∷ es) lawful none n = unnoticed_behind (before ++ Lost b x ∷ []) es lawful.1 (still_unaccepted before (Lost b x) none refl) n
unnoticed_behind before (Noticed t ∷ es) lawful none n = ⊎_elim now (unnoticed_behind (before ++ Noticed t ∷ []) es lawful.1 (still_unaccepted before (Noticed t) none refl)) (or_cases _ _ n)
  where
    now : (t == 0) ≡ true → ⊥
    now on_it = false≢true (sym none ∙ ap (λ u. is_accepted u before) (sym (eqb-true t 0 on_it)) ∙ lawful.0.0)

pub none_waits : (m : ℕ) (r f now : Bool) (ea la : ℕ) (old new : List Event) → IsLawful new → HalfWaits true m 0 r f now ea la old new → now ≡ false
none_waits m true f now ea la old new lawful w = absurd (unnoticed_behind [] new lawful refl (w.3 refl).0)
none_waits m false f now ea la old new lawful w = w.0
