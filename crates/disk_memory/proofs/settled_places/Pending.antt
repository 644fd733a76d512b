-- Which writes of a lawful log are pending, by the settled place of their block.
use Rattle.std.proofs.Common.{◌≡◌, inl, inr, ⊎_elim, ℕ, zero, suc, ◌+◌, ◌-◌, ◌≤◌, true, false, ◌==◌, ◌&&◌, List, [], ◌∷◌, drop, Some, refl, sym, ◌∙◌, ap, subst, arith}
use Rattle.std.proofs.lemmas.Bool.{eqb-true, eq-eqb, or_left, or_right, or_from, and_from, and_right, and_parts, cases_lt, lt-ltb, le-ltb, false_from_ne_true}
use Rattle.std.proofs.lemmas.List.{drop-drop}
use Rattle.std.specs.Prelude.{nat_lt}
use Rattle.std.specs.List.{slice_get}
use Rattle.disk_contract.specs.declared.event.Event.{Event}
use Rattle.disk_contract.specs.declared.event.Event.TheVariants.{Wrote, Lost, Noticed}
use Rattle.disk_contract.specs.Cell.{is_noticed, IsNoticed}
use Rattle.disk_contract.specs.Lawful.{IsLawful, IsWriteOf, IsNewestNoticed}
use Rattle.disk_memory.specs.Choice.{writes_named, has_noticed}
use Rattle.disk_memory.specs.Settled.{IsSettledPlace}
use Rattle.disk_memory.proofs.settled_places.SettledWrites.{later_above}

-- where no write to the block among these events was noticed, none has it so
pub none_noticed : (log : List Event) (b lost : ℕ) (es : List Event) → ((u : ℕ) → IsWriteOf u b es → ¬ IsNoticed u log) → has_noticed log b (writes_named lost es) ≡ false
none_noticed log b lost [] none = refl
none_noticed log b lost (Wrote t d x ∷ es) none =
    let here : ((d == b) && is_noticed t log) ≡ false = false_from_ne_true _ (λ both. none t (inl (refl, eqb-true d b (and_parts _ _ both).0)) (and_parts _ _ both).1) in
    or_from _ _ here (none_noticed log b lost es (λ u w. none u (inr w)))
none_noticed log b lost (Lost d x ∷ es) none = or_from _ _ (and_right (d == b) false refl) (none_noticed log b (lost + 1) es none)
none_noticed log b lost (Noticed t ∷ es) none = none_noticed log b lost es none

-- where a noticed write to the block is at place p, one of those from an earlier place on was noticed
pub some_noticed : (log : List Event) (b t : ℕ) (x : List ℕ) (lost p q : ℕ) (es : List Event) → IsNoticed t log → slice_get es p ≡ Some (Wrote t b x) → q ≤ p → has_noticed log b (writes_named lost (drop q es)) ≡ true
some_noticed log b t x lost p q [] noticed at le = cc
some_noticed log b t x lost zero zero (Wrote k d y ∷ es) noticed at le =
    let same : t ≡ k = cc in
    let here : d ≡ b = cc in
    or_left _ _ (and_from _ _ (eq-eqb d b here) (subst (λ u. IsNoticed u log) same noticed))
some_noticed log b t x lost zero zero (Lost d y ∷ es) noticed at le = cc
some_noticed log b t x lost zero zero (Noticed k ∷ es) noticed at le = cc
some_noticed log b t x lost zero (suc q) (e ∷ es) noticed at le = absurd (omega arith)
some_noticed log b t x lost (suc p) zero (Wrote k d y ∷ es) noticed at le = or_right _ _ (some_noticed log b t x lost p zero es noticed at (omega arith))
some_noticed log b t x lost (suc p) zero (Lost d y ∷ es) noticed at le = or_right _ _ (some_noticed log b t x (lost + 1) p zero es noticed at (omega arith))
some_noticed log b t x lost (suc p) zero (Noticed k ∷ es) noticed at le = some_noticed log b t x lost p zero es noticed at (omega arith)
some_noticed log b t x lost (suc p) (suc q) (e ∷ es) noticed at le = some_noticed log b t x lost p q es noticed at (omega arith)

-- a write among these events, some of which are left out, is one of them all
write_dropped : (u b n : ℕ) (es : List Event) → IsWriteOf u b (drop n es) → IsWriteOf u b es
write_dropped u b zero es w = w
write_dropped u b (suc n) [] w = w
write_dropped u b (suc n) (Wrote t d x ∷ es) w = inr (write_dropped u b n es w)
write_dropped u b (suc n) (Lost d x ∷ es) w = write_dropped u b n es w
write_dropped u b (suc n) (Noticed t ∷ es) w = write_dropped u b n es w

-- behind the newest noticed write to the block none was noticed
pub none_behind : (log : List Event) (b p t : ℕ) (x : List ℕ) → IsLawful log → IsNewestNoticed log b t x (drop (suc p) log) → (u : ℕ) → IsWriteOf u b (drop (suc p) log) → ¬ IsNoticed u log
none_behind log b p t x lawful newest u w noticed =
    let low = newest.greatest u (write_dropped u b (suc p) log w) noticed in
    let high = later_above t u b b x [] newest.before (drop (suc p) log) (subst IsLawful newest.split lawful) w in
    omega (arith, low, high)

-- the writes at place q and behind are over for a block exactly where q is before its settled place
pub over : (log : List Event) (b place q lost : ℕ) → IsLawful log → IsSettledPlace log b place → has_noticed log b (writes_named lost (drop q log)) ≡ nat_lt q place
over log b zero q lost lawful none = none_noticed log b lost (drop q log) (λ u w. none u (write_dropped u b q log w)) ∙ sym (le-ltb q 0 (omega arith))
over log b (suc p) q lost lawful (t, x, at, newest) = ⊎_elim
    (λ before. some_noticed log b t x lost p q log newest.noticed at (omega (arith, before)) ∙ sym (lt-ltb q (suc p) before))
    (λ behind. none_noticed log b lost (drop q log) (λ u w. none_behind log b p t x lawful newest u (write_dropped u b (q - suc p) (drop (suc p) log) (subst (λ (l : List Event). IsWriteOf u b l) (parts q (suc p) behind) w)))
    ∙ sym (le-ltb q (suc p) behind))
    (cases_lt q (suc p))
  where
    parts : (m n : ℕ) → n ≤ m → drop m log ≡ drop (m - n) (drop n log)
    parts m n le =
        let sum : n + (m - n) ≡ m = omega arith in
        ap (λ k. drop k log) (sym sum) ∙ sym (drop-drop (m - n) n log)
