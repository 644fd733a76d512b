-- Lists of records, and tests on them.
use Rattle.std.proofs.Common.{◌≡◌, ◌≢◌, ◌⊎◌, inl, inr, ⊎_elim, ℕ, zero, suc, ◌+◌, ◌-◌, ◌%◌, ◌<◌, ◌≤◌, true, ◌==◌, List, [], ◌∷◌, ◌++◌, length, drop, Option, Some, None, slice_get, refl, sym, ◌∙◌, ap, subst, arith, bytes_eq}
use Rattle.std.proofs.lemmas.Slice.Eq.{bytes_eq-Decides}
use Rattle.std.proofs.lemmas.Bool.{cases_Bool, both_ways, eqb-true, cond-false}
use Rattle.std.proofs.lemmas.Option.{same_Some}
use Rattle.layout_journal.specs.declared.entry.Entry.{Entry}
use Rattle.layout_journal.specs.Run.{Record, AreConsecutive, place_after, all_places, places, names_block}
use Rattle.crash_argument.specs.Ledger.{Ledger, WrittenRecord, all_say, from_start}

-- an answer is nothing, or it is a value
pub inspect : {A : Type 0} (o : Option A) → (o ≡ None) ⊎ ((x : A) × (o ≡ Some x))
inspect None = inl refl
inspect (Some x) = inr (x, refl)

-- a list is empty, or it has a first element
pub first_or_none : {A : Type 0} (xs : List A) → (xs ≡ []) ⊎ ((x : A) × (slice_get xs 0 ≡ Some x))
first_or_none [] = inl refl
first_or_none (x ∷ xs) = inr (x, refl)

-- bytes are the same, or they aren't
pub bytes_same : (xs ys : List ℕ) → (xs ≡ ys) ⊎ (xs ≢ ys)
bytes_same xs ys = ⊎_elim (λ e. inl ((bytes_eq-Decides xs ys).0 e)) (λ e. inr (λ is. both_ways _ e ((bytes_eq-Decides xs ys).1 is))) (cases_Bool (bytes_eq xs ys))

-- a test on each number below n
pub decide_below : (P : ℕ → Type 0) → ((i : ℕ) → P i ⊎ ¬ P i) → (n : ℕ) → ((i : ℕ) → i < n → P i) ⊎ ((i : ℕ) × (i < n) × ¬ P i)
decide_below P d zero = inl (λ i lt. absurd (omega arith))
decide_below P d (suc n) =
    ⊎_elim (λ all. ⊎_elim (λ here. inl (λ i lt. ⊎_elim (λ e. subst P (sym e) here) (λ low. all i low) (last i n lt))) (λ no. inr (n, omega arith, no)) (d n))
    (λ some. inr (some.0, omega (arith, some.1), some.2)) (decide_below P d n)
  where
    last : (i n : ℕ) → i < suc n → (i ≡ n) ⊎ (i < n)
    last i n lt = grind arith

-- the longest front of which each has P
pub record Front {A : Type 0} (P : A → Type 0) (xs : List A) : Type 0 where
  pub good : List A
  pub bad : List A
  pub whole : xs ≡ good ++ bad
  pub each : (k : ℕ) (x : A) → slice_get good k ≡ Some x → P x
  pub stops : (x : A) → slice_get bad 0 ≡ Some x → ¬ P x

-- each list has one, where P is decided
pub front : {A : Type 0} (P : A → Type 0) → ((x : A) → P x ⊎ ¬ P x) → (xs : List A) → Front P xs
front P d [] = record { good = []; bad = []; whole = refl; each = λ k x e. cc; stops = λ x e. cc }
front {A} P d (x ∷ xs) = ⊎_elim (λ p. go_on p (front P d xs)) (λ no. record { good = []; bad = x ∷ xs; whole = refl; each = λ k y e. cc; stops = λ y e h. no (subst P (sym (same_Some _ _ e)) h) }) (d x)
  where
    more : (good : List A) → P x → ((k : ℕ) (y : A) → slice_get good k ≡ Some y → P y) → (k : ℕ) (y : A) → slice_get (x ∷ good) k ≡ Some y → P y
    more good p each zero y e = subst P (same_Some _ _ e) p
    more good p each (suc k) y e = each k y e

    go_on : P x → Front P xs → Front P (x ∷ xs)
    go_on p f = record { good = x ∷ f.good; bad = f.bad; whole = ap (λ (l : List A). x ∷ l) f.whole; each = more f.good p f.each; stops = f.stops }

-- an element of a front is one of the list
pub get_front : {A : Type 0} (xs ys : List A) (k : ℕ) (x : A) → slice_get xs k ≡ Some x → slice_get (xs ++ ys) k ≡ Some x
get_front [] ys k x e = cc
get_front (y ∷ xs) ys zero x e = e
get_front (y ∷ xs) ys (suc k) x e = get_front xs ys k x e

-- and an element of the list within the front is one of the front
pub front_get : {A : Type 0} (xs ys : List A) (k : ℕ) (x : A) → k < length xs → slice_get (xs ++ ys) k ≡ Some x → slice_get xs k ≡ Some x
front_get [] ys k x lt e = absurd (omega arith)
front_get (y ∷ xs) ys zero x lt e = e
front_get (y ∷ xs) ys (suc k) x lt e = front_get xs ys k x (omega arith) e

-- an element behind a front is one of what follows it
pub get_behind : {A : Type 0} (xs ys : List A) (k : ℕ) → slice_get (xs ++ ys) (length xs + k) ≡ slice_get ys k
get_behind [] ys k = ap (slice_get ys) {x = 0 + k} {y = k} (omega arith)
get_behind (x ∷ xs) ys k = ap (slice_get (x ∷ xs ++ ys)) {x = suc (length xs) + k} {y = suc (length xs + k)} (omega arith) ∙ get_behind xs ys k

-- an element of what is left of a list
pub get_drop : {A : Type 0} (n : ℕ) (xs : List A) (k : ℕ) → slice_get (drop n xs) k ≡ slice_get xs (n + k)
get_drop zero xs k = ap (slice_get xs) {x = k} {y = 0 + k} (omega arith)
get_drop (suc n) [] k = refl
get_drop (suc n) (x ∷ xs) k = get_drop n xs k ∙ ap (slice_get (x ∷ xs)) {x = suc (n + k)} {y = suc n + k} (omega arith)

-- each index within a list has an element
pub get_some : {A : Type 0} (xs : List A) (k : ℕ) → k < length xs → (x : A) × (slice_get xs k ≡ Some x)
get_some [] k lt = absurd (omega arith)
get_some (x ∷ xs) zero lt = (x, refl)
get_some (x ∷ xs) (suc k) lt = get_some xs k (omega arith)

-- a block that entries name is named by one of them
pub named_at : (es : List Entry) (b : ℕ) → names_block es b ≡ true → (i : ℕ) × (e : Entry) × (slice_get es i ≡ Some e) × (e.block ≡ b)
named_at [] b h = cc
named_at (e ∷ es) b h = ⊎_elim (λ same. (0, e, refl, eqb-true e.block b same)) (λ other. let rest = named_at es b (sym (cond-false (e.block == b) true (names_block es b) other) ∙ h) in (suc rest.0, rest.1, rest.2, rest.3)) (cases_Bool (e.block == b))

-- what two lists of records say, one behind the other
pub say_append : (xs ys : List WrittenRecord) → all_say (xs ++ ys) ≡ all_say xs ++ all_say ys
say_append [] ys = refl
say_append (x ∷ xs) ys = ap (λ (l : List Record). x.says ∷ l) (say_append xs ys)

-- the front of consecutive records is consecutive
pub consecutive_front : (j n p : ℕ) (xs ys : List Record) → AreConsecutive j n p (xs ++ ys) → AreConsecutive j n p xs
consecutive_front j n p [] ys h = tt
consecutive_front j n p (x ∷ xs) ys h = (h.0, h.1, consecutive_front j (n + 1) ((p + places x) % j) xs ys h.2)

-- the number and the place of the one behind a front
pub consecutive_at : (j n p : ℕ) (ws : List WrittenRecord) (r : Record) (rest : List Record) → AreConsecutive j n p (all_say ws ++ r ∷ rest) → (r.number ≡ n + length ws) × (r.place ≡ place_after j p (all_say ws))
consecutive_at j n p [] r rest h = (h.0 ∙ omega arith, h.1)
consecutive_at j n p (w ∷ ws) r rest h =
    let later = consecutive_at j (n + 1) ((p + places w.says) % j) ws r rest h.2 in
    (later.0 ∙ omega arith, later.1)

-- each of them says one record
pub say_length : (ws : List WrittenRecord) → length (all_say ws) ≡ length ws
say_length [] = refl
say_length (w ∷ ws) = omega (arith, say_length ws)

-- places behind two lists, one behind the other
pub place_after-append : (j p : ℕ) (xs ys : List Record) → place_after j p (xs ++ ys) ≡ place_after j (place_after j p xs) ys
place_after-append j p [] ys = refl
place_after-append j p (x ∷ xs) ys = place_after-append j ((p + places x) % j) xs ys

-- and how many places both take
pub places_append : (xs ys : List Record) → all_places (xs ++ ys) ≡ all_places xs + all_places ys
places_append [] ys = omega arith
places_append (x ∷ xs) ys = omega (arith, places_append xs ys)

-- the last of a longer list, or one before it
pub in_longer : {A : Type 0} (ws : List A) (w v : A) (k : ℕ) → slice_get (ws ++ w ∷ []) k ≡ Some v → (slice_get ws k ≡ Some v) ⊎ ((v ≡ w) × (k ≡ length ws))
in_longer [] w v zero e = inr (sym (same_Some _ _ e), refl)
in_longer [] w v (suc k) e = cc
in_longer (u ∷ ws) w v zero e = inl e
in_longer (u ∷ ws) w v (suc k) e = ⊎_elim inl (λ p. inr (p.0, omega (arith, p.1))) (in_longer ws w v k e)

-- the parts of an empty list are empty
pub empty_parts : (xs ys : List WrittenRecord) → [] ≡ xs ++ ys → (xs ≡ []) × (ys ≡ [])
empty_parts [] ys e = (refl, sym e)
empty_parts (x ∷ xs) ys e = cc

-- one more at the end of a list
pub last_or : {A : Type 0} (xs : List A) (y : A) (k : ℕ) (z : A) → slice_get (xs ++ y ∷ []) k ≡ Some z → (slice_get xs k ≡ Some z) ⊎ (y ≡ z)
last_or xs y k z is = ⊎_elim inl (λ p. inr (sym p.0)) (in_longer xs y z k is)

-- from the durable header's start on there are all records
pub whole_list : (l : Ledger) → from_start l l.header ≡ l.records
whole_list l = ap (λ n. drop n l.records) {x = l.header.start - l.header.start} {y = 0} (omega arith)
