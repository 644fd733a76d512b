-- A live disk of a mirror, as events come.
use Rattle.std.proofs.Common.{◌≡◌, ◌⊎◌, inl, inr, ⊎_elim, ℕ, zero, suc, ◌<◌, ◌≤◌, ◌+◌, ◌==◌, ◌||◌, nat_lt, Bool, true, false, if◌then◌else◌, is_some, List, [], ◌∷◌, ◌++◌, map, length, get_or, Option, Some, None, refl, sym, ◌∙◌, ap, ap₂, subst, arith, append-nil, length-append}
use Rattle.std.proofs.lemmas.Bool.{eqb-true, or_cases, false≢true, or_left}
use Rattle.disk_contract.specs.declared.event.Event.{Event}
use Rattle.disk_contract.specs.declared.event.Event.TheVariants.{Wrote, Lost, Noticed}
use Rattle.disk_contract.specs.Cell.{Write, accepted_from, is_lost_from, is_lost, is_noticed, IsWritten, greatest_ticket, notices}
use Rattle.disk_contract.specs.Lawful.{writes_to}
pub use Rattle.disk_contract.specs.Logs.{writes_append as writes-append}
use Rattle.disk_mirror.proofs.Logs.{is_noticed-append, accepted_from-append, greatest-append, IsWritten-append}
use Rattle.disk_mirror.specs.declared.entry.Side.{Side}
use Rattle.disk_mirror.specs.declared.entry.Side.TheVariants.{First, Second}
use Rattle.disk_mirror.specs.declared.entry.Pair.{Pair}
use Rattle.disk_mirror.specs.declared.entry.Heard.{Heard}
use Rattle.disk_mirror.specs.Twin.{on, heard_on, no_pair, unheard, heard_of, is_over, is_less, AreAscending, ticket_on, twin, IsTwin}
use Rattle.disk_mirror.specs.Order.{Put, lost_in}
use Rattle.disk_mirror.proofs.Lags.{written_more}

-- one more at the end of a row
pub get-last : {X : Type 0} (xs : List X) (x d : X) (k : ℕ) → k ≡ length xs → get_or (xs ++ x ∷ []) k d ≡ x
get-last {X = X} xs x d k is = subst (λ n. get_or (xs ++ x ∷ []) n d ≡ x) (sym is) (last xs)
  where
    last : (ys : List X) → get_or (ys ++ x ∷ []) (length ys) d ≡ x
    last [] = refl
    last (y ∷ ys) = last ys

pub get-front : {X : Type 0} (xs ys : List X) (d : X) (k : ℕ) → k < length xs → get_or (xs ++ ys) k d ≡ get_or xs k d
get-front [] ys d k low = absurd (none k low)
  where
    none : (k : ℕ) → k < 0 → ⊥
    none k low = omega (arith, low)
get-front (x ∷ xs) ys d zero low = refl
get-front (x ∷ xs) ys d (suc k) low = get-front xs ys d k (omega (arith, low))

pub get-behind : {X : Type 0} (xs : List X) (d : X) (k : ℕ) → length xs ≤ k → get_or xs k d ≡ d
get-behind [] d k low = refl
get-behind (x ∷ xs) d zero low = absurd (none low)
  where
    none : suc (length xs) ≤ 0 → ⊥
    none low = omega (arith, low)
get-behind (x ∷ xs) d (suc k) low = get-behind xs d k (omega (arith, low))

pub parted : (k n : ℕ) → (k < n) ⊎ (n ≤ k)
parted k n = grind arith

on_none : (s : Side) → on s no_pair ≡ None
on_none First = refl
on_none Second = refl

heard_none : (s : Side) → heard_on s unheard ≡ false
heard_none First = refl
heard_none Second = refl

-- what is over stays so
pub over_more : (log more : List Event) (o : Option ℕ) → is_over log o ≡ true → is_over (log ++ more) o ≡ true
over_more log more None e = absurd (false≢true e)
over_more log more (Some t) e = is_noticed-append t log more ∙ or_left _ _ e

-- the tickets of the rows stay as rows come
ticket_front : (s : Side) (pairs : List Pair) (p : Pair) (i : ℕ) → i ≤ length pairs → ticket_on s (pairs ++ p ∷ []) (Some i) ≡ ticket_on s pairs (Some i)
ticket_front s pairs p i low = ap (on s) (get-front (no_pair ∷ pairs) (p ∷ []) no_pair i (omega (arith, low)))

ticket_behind : (s : Side) (pairs : List Pair) (i : ℕ) → length pairs < i → ticket_on s pairs (Some i) ≡ None
ticket_behind s pairs i high = ap (on s) (get-behind (no_pair ∷ pairs) no_pair i (omega (arith, high))) ∙ on_none s

ticket_last : (s : Side) (pairs : List Pair) (p : Pair) (i : ℕ) → i ≡ length pairs + 1 → ticket_on s (pairs ++ p ∷ []) (Some i) ≡ on s p
ticket_last s pairs p i is = ap (on s) (get-last (no_pair ∷ pairs) p no_pair i (omega (arith, is)))

over_then : (s : Side) (pairs : List Pair) (p : Pair) (log more : List Event) (i : ℕ) → is_over log (ticket_on s pairs (Some i)) ≡ true → is_over (log ++ more) (ticket_on s (pairs ++ p ∷ []) (Some i)) ≡ true
over_then s pairs p log more i e =
    ⊎_elim (λ low. ap (is_over (log ++ more)) (ticket_front s pairs p i (omega (arith, low))) ∙ over_more log more (ticket_on s pairs (Some i)) e)
    (λ high. absurd (false≢true (sym (ap (is_over log) (ticket_behind s pairs i high)) ∙ e))) (parted_next i (length pairs))
  where
    parted_next : (k n : ℕ) → (k ≤ n) ⊎ (n < k)
    parted_next k n = grind arith

writes-notices : (b : ℕ) (ts : List ℕ) → writes_to b (notices ts) ≡ []
writes-notices b [] = refl
writes-notices b (t ∷ ts) = writes-notices b ts

accepted-notices : (b : ℕ) (x : List ℕ) (ts : List ℕ) → accepted_from b x (notices ts) ≡ x
accepted-notices b x [] = refl
accepted-notices b x (t ∷ ts) = accepted-notices b x ts

lost-notices : (xs : List Event) (ts : List ℕ) → lost_in (xs ++ notices ts) ≡ lost_in xs
lost-notices [] [] = refl
lost-notices [] (t ∷ ts) = lost-notices [] ts
lost-notices (Wrote t d x ∷ xs) ts = lost-notices xs ts
lost-notices (Lost d x ∷ xs) ts = refl
lost-notices (Noticed t ∷ xs) ts = lost-notices xs ts

lost-wrote : (xs : List Event) (t d : ℕ) (x : List ℕ) → lost_in (xs ++ Wrote t d x ∷ []) ≡ lost_in xs
lost-wrote [] t d x = refl
lost-wrote (Wrote u c y ∷ xs) t d x = lost-wrote xs t d x
lost-wrote (Lost c y ∷ xs) t d x = refl
lost-wrote (Noticed u ∷ xs) t d x = lost-wrote xs t d x

pub lost_new : (xs : List Event) (d : ℕ) (x : List ℕ) → lost_in xs ≡ None → lost_in (xs ++ Lost d x ∷ []) ≡ Some (record { block = d; bytes = x })
lost_new [] d x e = refl
lost_new (Wrote u c y ∷ xs) d x e = lost_new xs d x e
lost_new (Lost c y ∷ xs) d x e = absurd (some_none _ e)
  where
    some_none : (p : Put) → Some p ≡ None → ⊥
    some_none p e = cc
lost_new (Noticed u ∷ xs) d x e = lost_new xs d x e

-- a log without lost writes has none behind the last accepted one
pub calm_of : (b : ℕ) (xs : List Event) → lost_in xs ≡ None → is_lost b xs ≡ false
calm_of b [] e = refl
calm_of b (Wrote t d x ∷ xs) e = ap (λ v. is_lost_from b v xs) (both_false (d == b)) ∙ calm_of b xs e
  where
    both_false : (v : Bool) → (if v then false else false) ≡ false
    both_false true = refl
    both_false false = refl
calm_of b (Lost d x ∷ xs) e = absurd (some_none _ e)
  where
    some_none : (p : Put) → Some p ≡ None → ⊥
    some_none p e = cc
calm_of b (Noticed t ∷ xs) e = calm_of b xs e

map-append : (f : Write → Write) (xs ys : List Write) → map f (xs ++ ys) ≡ map f xs ++ map f ys
map-append f [] ys = refl
map-append f (x ∷ xs) ys = ap (λ (l : List Write). f x ∷ l) (map-append f xs ys)

-- writes of few rows have the same twins as rows come
twins_front : (s : Side) (pairs : List Pair) (p : Pair) (b : ℕ) (log : List Event) → greatest_ticket log ≤ length pairs → map (twin s (pairs ++ p ∷ [])) (writes_to b log) ≡ map (twin s pairs) (writes_to b log)
twins_front s pairs p b [] low = refl
twins_front s pairs p b (Wrote t d x ∷ log) low =
    let rest = twins_front s pairs p b log (omega (arith, low)) in
    let own : twin s (pairs ++ p ∷ []) (record { ticket = Some t; bytes = x }) ≡ twin s pairs (record { ticket = Some t; bytes = x }) = ap (λ o. record { ticket = o; bytes = x }) (ticket_front s pairs p t (omega (arith, low))) in
    elim (d == b) as (λ v. map (twin s (pairs ++ p ∷ [])) (if v then record { ticket = Some t; bytes = x } ∷ writes_to b log else writes_to b log) ≡ map (twin s pairs) (if v then record { ticket = Some t; bytes = x } ∷ writes_to b log else writes_to b log))
    [ true ↦ ap₂ (λ (w : Write) (l : List Write). w ∷ l) own rest | false ↦ rest ]
twins_front s pairs p b (Lost d x ∷ log) low =
    let rest = twins_front s pairs p b log low in
    elim (d == b) as (λ v. map (twin s (pairs ++ p ∷ [])) (if v then record { ticket = None; bytes = x } ∷ writes_to b log else writes_to b log) ≡ map (twin s pairs) (if v then record { ticket = None; bytes = x } ∷ writes_to b log else writes_to b log))
    [ true ↦ ap (λ (l : List Write). record { ticket = None; bytes = x } ∷ l) rest | false ↦ rest ]
twins_front s pairs p b (Noticed t ∷ log) low = twins_front s pairs p b log low

-- the tickets of the rows stay ascending as a greater one comes
on_at : (s : Side) (pairs : List Pair) (p : Pair) (i : ℕ) → i < length pairs → on s (get_or (pairs ++ p ∷ []) i no_pair) ≡ on s (get_or pairs i no_pair)
on_at s pairs p i low = ap (on s) (get-front pairs (p ∷ []) no_pair i low)

less_of : (o : Option ℕ) (t m : ℕ) → is_some o ≡ true → ((u : ℕ) → o ≡ Some u → u ≤ m) → m < t → is_less o (Some t) ≡ true
less_of None t m there low under = absurd (false≢true there)
less_of (Some u) t m there low under = lt u (omega (arith, low u refl, under))
  where
    lt : (u : ℕ) → u < t → nat_lt u t ≡ true
    lt u below = grind (arith, below)

pub ascend_more : (s : Side) (pairs : List Pair) (p : Pair) (t m : ℕ) → on s p ≡ Some t → m < t → ((i : ℕ) → 0 < i → i ≤ length pairs → is_some (ticket_on s pairs (Some i)) ≡ true) → ((i u : ℕ) → ticket_on s pairs (Some i) ≡ Some u → u ≤ m)
    → AreAscending s pairs → AreAscending s (pairs ++ p ∷ [])
ascend_more s pairs p t m own above there low up i j less within =
    ⊎_elim (λ old. ap₂ is_less (on_at s pairs p i (omega (arith, less, old))) (on_at s pairs p j old) ∙ up i j less old)
    (λ new. ap₂ is_less (on_at s pairs p i (first new)) (ap (on s) (get-last pairs p no_pair j (last new)) ∙ own) ∙ less_of (on s (get_or pairs i no_pair)) t m (there (suc i) (omega arith) (omega (arith, first new))) (low (suc i)) above)
    (parted j (length pairs))
  where
    last : length pairs ≤ j → j ≡ length pairs
    last new = omega (arith, new, within, length-append pairs (p ∷ []))

    first : length pairs ≤ j → i < length pairs
    first new = omega (arith, less, last new)

low_more : (s : Side) (pairs : List Pair) (p : Pair) (t m n : ℕ) → on s p ≡ Some t → m ≤ n → t ≤ n → ((i u : ℕ) → ticket_on s pairs (Some i) ≡ Some u → u ≤ m) → (i u : ℕ) → ticket_on s (pairs ++ p ∷ []) (Some i) ≡ Some u → u ≤ n
low_more s pairs p t m n own more under low i u is =
    ⊎_elim (λ old. omega (arith, more, low i u (sym (ticket_front s pairs p i (omega (arith, old))) ∙ is))) (λ new. by new) (parted i (length pairs + 1))
  where
    some_is : (v u : ℕ) → Some v ≡ Some u → v ≡ u
    some_is v u e = cc

    none_some : (u : ℕ) → None ≡ Some u → ⊥
    none_some u e = cc

    by : length pairs + 1 ≤ i → u ≤ n
    by new = ⊎_elim (λ at. omega (arith, under, some_is t u (sym (ticket_last s pairs p i (omega (arith, new, at)) ∙ own) ∙ is)))
        (λ past. absurd (none_some u (sym (ticket_behind s (pairs ++ p ∷ []) i (omega (arith, past, length-append pairs (p ∷ [])))) ∙ is))) (parted i (length pairs + 2))

greatest-notices : (xs : List Event) (ts : List ℕ) → greatest_ticket (xs ++ notices ts) ≡ greatest_ticket xs
greatest-notices xs ts = greatest-append xs (notices ts) ∙ omega (arith, none ts)
  where
    none : (ts : List ℕ) → greatest_ticket (notices ts) ≡ 0
    none [] = refl
    none (t ∷ ts) = none ts

-- one more write, with a ticket of its own on the disk
pub twin_write : (s : Side) (pairs : List Pair) (rows : List Heard) (p : Pair) (log events : List Event) (i t d : ℕ) (x : List ℕ) → length rows ≡ length pairs → greatest_ticket log ≡ length pairs → i ≡ length pairs + 1 → on s p ≡ Some t → greatest_ticket events < t
    → IsTwin s pairs rows log events → IsTwin s (pairs ++ p ∷ []) (rows ++ unheard ∷ []) (log ++ Wrote i d x ∷ []) (events ++ Wrote t d x ∷ [])
twin_write s pairs rows p log events i t d x fit count is own above w = record {
  writes = writes;
  accepted = λ b y. accepted_from-append b y events (Wrote t d x ∷ []) ∙ ap (λ z. if d == b then x else z) (w.accepted b y) ∙ sym (accepted_from-append b y log (Wrote i d x ∷ []));
  lossless = lost-wrote events t d x ∙ w.lossless;
  written = written_more log events (Wrote i d x) (Wrote t d x) w.written (λ y a. a);
  ascend = ascend_more s pairs p t (greatest_ticket events) own above w.given w.low w.ascend;
  low = low_more s pairs p t (greatest_ticket events) (greatest_ticket (events ++ Wrote t d x ∷ [])) own (omega (arith, greatest-append events (Wrote t d x ∷ []))) (omega (arith, greatest-append events (Wrote t d x ∷ []))) w.low;
  given = λ j up upto. ⊎_elim (λ low. ap (λ (o : Option ℕ). is_some o) (ticket_front s pairs p j (omega (arith, low))) ∙ w.given j up (omega (arith, low)))
      (λ high. ap (λ (o : Option ℕ). is_some o) (ticket_last s pairs p j (omega (arith, high, upto, length-append pairs (p ∷ []))) ∙ own)) (parted j (length pairs + 1));
  heard = λ j e. over_then s pairs p events (Wrote t d x ∷ []) j (w.heard j (⊎_elim (λ low. sym (ap (heard_on s) (get-front (unheard ∷ rows) (unheard ∷ []) unheard j low)) ∙ e)
      (λ high. absurd (false≢true (sym (ap (heard_on s) (none_behind j high) ∙ heard_none s) ∙ e))) (parted j (suc (length rows)))));
  noticed = λ j e. over_then s pairs p events (Wrote t d x ∷ []) j (w.noticed j (noticed_before j e));
}
  where
    noticed_before : (j : ℕ) → is_noticed j (log ++ Wrote i d x ∷ []) ≡ true → is_noticed j log ≡ true
    noticed_before j e = ⊎_elim (λ l. l) (λ r. absurd (false≢true r)) (or_cases _ _ (sym (is_noticed-append j log (Wrote i d x ∷ [])) ∙ e))

    none_behind : (j : ℕ) → suc (length rows) ≤ j → get_or (unheard ∷ (rows ++ unheard ∷ [])) j unheard ≡ unheard
    none_behind j high = ⊎_elim (λ low. get-last (unheard ∷ rows) unheard unheard j (omega (arith, high, low))) (λ more. get-behind (unheard ∷ (rows ++ unheard ∷ [])) unheard j (omega (arith, more, length-append rows (unheard ∷ [])))) (parted j (suc (suc (length rows))))

    last : (b : ℕ) → map (twin s (pairs ++ p ∷ [])) (writes_to b (Wrote i d x ∷ [])) ≡ writes_to b (Wrote t d x ∷ [])
    last b =
        let mine : twin s (pairs ++ p ∷ []) (record { ticket = Some i; bytes = x }) ≡ record { ticket = Some t; bytes = x } = ap (λ o. record { ticket = o; bytes = x }) (ticket_last s pairs p i is ∙ own) in
        elim (d == b) as (λ v. map (twin s (pairs ++ p ∷ [])) (if v then record { ticket = Some i; bytes = x } ∷ [] else []) ≡ (if v then record { ticket = Some t; bytes = x } ∷ [] else []))
        [ true ↦ ap (λ (o : Write). o ∷ []) mine | false ↦ refl ]

    writes : (b : ℕ) → writes_to b (events ++ Wrote t d x ∷ []) ≡ map (twin s (pairs ++ p ∷ [])) (writes_to b (log ++ Wrote i d x ∷ []))
    writes b =
        writes-append b events (Wrote t d x ∷ [])
        ∙ ap₂ (λ (l r : List Write). l ++ r) (w.writes b ∙ sym (twins_front s pairs p b log (omega (arith, count)))) (sym (last b))
        ∙ sym (ap (map (twin s (pairs ++ p ∷ []))) (writes-append b log (Wrote i d x ∷ [])) ∙ map-append (twin s (pairs ++ p ∷ [])) (writes_to b log) (writes_to b (Wrote i d x ∷ [])))

-- notices on the disk alone
pub twin_notices : (s : Side) (pairs : List Pair) (rows : List Heard) (log events : List Event) (ts : List ℕ) → IsTwin s pairs rows log events → IsTwin s pairs rows log (events ++ notices ts)
twin_notices s pairs rows log events ts w = record {
  writes = λ b. writes-append b events (notices ts) ∙ ap (λ l. writes_to b events ++ l) (writes-notices b ts) ∙ append-nil (writes_to b events) ∙ w.writes b;
  accepted = λ b x. accepted_from-append b x events (notices ts) ∙ accepted-notices b (accepted_from b x events) ts ∙ w.accepted b x;
  lossless = lost-notices events ts ∙ w.lossless;
  written = λ x a. IsWritten-append x events (notices ts) (w.written x a);
  ascend = w.ascend;
  low = λ i t is. omega (arith, w.low i t is, greatest-notices events ts);
  given = w.given;
  heard = λ j e. over_more events (notices ts) _ (w.heard j e);
  noticed = λ j e. over_more events (notices ts) _ (w.noticed j e);
}

-- rows that note no more of this disk than what it noticed
pub twin_rows : (s : Side) (pairs : List Pair) (rows new : List Heard) (log events : List Event) → ((j : ℕ) → heard_on s (heard_of new j) ≡ true → (heard_on s (heard_of rows j) ≡ true) ⊎ (is_over events (ticket_on s pairs (Some j)) ≡ true))
    → IsTwin s pairs rows log events → IsTwin s pairs new log events
twin_rows s pairs rows new log events less w = record {
  writes = w.writes;
  accepted = w.accepted;
  lossless = w.lossless;
  written = w.written;
  ascend = w.ascend;
  low = w.low;
  given = w.given;
  heard = λ j e. ⊎_elim (w.heard j) (λ over. over) (less j e);
  noticed = w.noticed;
}

-- a report of the mirror, of what came from this disk
pub twin_report : (s : Side) (pairs : List Pair) (rows : List Heard) (log events : List Event) (i : ℕ) → is_over events (ticket_on s pairs (Some i)) ≡ true → IsTwin s pairs rows log events → IsTwin s pairs rows (log ++ Noticed i ∷ []) events
twin_report s pairs rows log events i over w = record {
  writes = λ b. w.writes b ∙ ap (map (twin s pairs)) (sym (writes-append b log (Noticed i ∷ []) ∙ append-nil (writes_to b log)));
  accepted = λ b x. w.accepted b x ∙ sym (accepted_from-append b x log (Noticed i ∷ []));
  lossless = w.lossless;
  written = λ x a. w.written x (written_before x log i a);
  ascend = w.ascend;
  low = w.low;
  given = w.given;
  heard = w.heard;
  noticed = λ j e. ⊎_elim (w.noticed j) (λ last. ap (λ k. is_over events (ticket_on s pairs (Some k))) (sym (eqb-true i j (or_one _ last))) ∙ over) (or_cases _ _ (sym (is_noticed-append j log (Noticed i ∷ [])) ∙ e));
}
  where
    or_one : (p : Bool) → (p || false) ≡ true → p ≡ true
    or_one true e = refl
    or_one false e = absurd (false≢true e)

    written_before : (x : List ℕ) (xs : List Event) (i : ℕ) → IsWritten x (xs ++ Noticed i ∷ []) → IsWritten x xs
    written_before x [] i a = a
    written_before x (Wrote t b y ∷ xs) i a = ⊎_elim inl (λ r. inr (written_before x xs i r)) a
    written_before x (Lost b y ∷ xs) i a = ⊎_elim inl (λ r. inr (written_before x xs i r)) a
    written_before x (Noticed t ∷ xs) i a = written_before x xs i a
