-- Ring places are safe: what lies behind the records within the ring is none of theirs.
use Rattle.std.proofs.Common.{◌≡◌, ◌≢◌, ◌⊎◌, inl, ⊎_elim, ℕ, zero, suc, ◌+◌, ◌-◌, ◌%◌, ◌<◌, ◌≤◌, List, [], ◌∷◌, ◌++◌, Some, slice_get, refl, sym, ◌∙◌, ap, subst, arith}
use Rattle.std.proofs.lemmas.Bool.{cases_lt}
use Rattle.std.proofs.lemmas.Nat.{mod_below}
use Rattle.std.proofs.Math.Nat.{mod-add-mod, add-mod_right, mod-eq_of_lt}
use Rattle.base_types.specs.Seal.{Blocks}
use Rattle.disk_contract.specs.declared.event.Event.{Event}
use Rattle.layout_journal.specs.Run.{Record, AreConsecutive, place_after, all_places, places}
use Rattle.crash_argument.specs.Ledger.{Ledger, WrittenRecord, IsConsistentWith, all_say}
use Rattle.crash_argument.specs.Steps.{IsFreePlace}
use Rattle.crash_argument.proofs.log.Lists.{whole_list}

-- two numbers less than j apart are apart modulo j
pub apart : (a d j : ℕ) → 0 < d → d < j → a % j ≡ (a + d) % j → ⊥
apart a d j some small e = ⊎_elim (λ lt. omega (arith, e, same, mod-eq_of_lt lt, some)) around (cases_lt (a % j + d) j)
  where
    low : a % j < j
    low = mod_below a j (omega arith)

    same : (a + d) % j ≡ (a % j + d) % j
    same = sym (mod-add-mod a j d)

    around : j ≤ a % j + d → ⊥
    around le =
        let less : a % j + d ≡ (a % j + d - j) + j = omega arith in
        let wrapped : (a % j + d) % j ≡ (a % j + d - j) % j = ap (λ n. n % j) less ∙ add-mod_right (a % j + d - j) j in
        omega (arith, e, same, wrapped, mod-eq_of_lt (below (a % j + d - j) j (omega (arith, low))), low, small, le)
      where
        below : (m n : ℕ) → m < n → m < n
        below m n lt = lt

-- a place behind some records is the one so many places behind where they begin
place_mod : (j p k : ℕ) (rs : List Record) → (place_after j p rs + k) % j ≡ (p + (all_places rs + k)) % j
place_mod j p k [] = ap (λ n. n % j) (omega arith)
place_mod j p k (r ∷ rs) = place_mod j ((p + places r) % j) k rs ∙ mod-add-mod (p + places r) j (all_places rs + k) ∙ ap (λ n. n % j) (omega arith)

-- and it is none of theirs, as long as all fit in the ring
free_behind : (j n p k : ℕ) (ws : List WrittenRecord) → AreConsecutive j n p (all_say ws) → all_places (all_say ws) + k < j → (i x : ℕ) (w : WrittenRecord) → slice_get ws x ≡ Some w → i < places w.says → (w.says.place + i) % j ≡ (place_after j p (all_say ws) + k) % j → ⊥
free_behind j n p k [] c small i x w is lt e = cc
free_behind j n p k (v ∷ ws) c small i zero w is lt e =
    let same : v ≡ w = cc in
    let at : w.says.place ≡ p = sym (ap (λ (u : WrittenRecord). u.says.place) same) ∙ c.1 in
    let size : places v.says ≡ places w.says = ap (λ (u : WrittenRecord). places u.says) same in
    apart (p + i) (places v.says + all_places (all_say ws) + k - i) j (omega (arith, lt, size)) (omega (arith, small))
    (ap (λ q. (q + i) % j) (sym at) ∙ e ∙ place_mod j p k (all_say (v ∷ ws)) ∙ ap (λ m. m % j) (omega (arith, lt, size)))
free_behind j n p k (v ∷ ws) c small i (suc x) w is lt e = free_behind j (n + 1) ((p + places v.says) % j) k ws c.2 (omega arith) i x w is lt e

-- a place behind the last record, within the ring, is free
pub behind_free : (base : Blocks) (log : List Event) (l : Ledger) → IsConsistentWith base log l → (k : ℕ) → all_places (all_say l.records) + k < l.geom.j → IsFreePlace l (place_after l.geom.j l.header.at (all_say l.records) + k)
behind_free base log l keeps k small = λ x i w is lt same.
    free_behind l.geom.j l.header.start l.header.at k l.records
    (subst (λ (ws : List WrittenRecord). AreConsecutive l.geom.j l.header.start l.header.at (all_say ws)) (whole_list l) (keeps.headers.fits l.header (inl refl)).consecutive) small i x w is lt (omega (arith, same))
