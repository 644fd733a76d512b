-- The entries of an `LruCache`, the last used one first, as the finite map that contracts see of them.
use Rattle.std.proofs.Common.{◌≡◌, ◌≢◌, ℕ, zero, suc, ◌+◌, ◌-◌, ◌<◌, ◌≤◌, nat_eq, Bool, false, cond, inl, inr, List, [], ◌∷◌, length, take, Option, Some, None, is_some, IfSome, IsSome, option_map, Result, Ok, Err, OnOk, OnErr, IsOk, refl, sym, ap, subst, ◌∙◌, arith, nat_cmp}
use Rattle.std.proofs.lemmas.Bool.{eqb-true, eq-eqb, ne_eqb, cond-true, cond-false, cases_Bool, cases_lt, false≢true}
use Rattle.std.proofs.lemmas.List.{take_all, length-take}
use Rattle.std.specs.Cmp.{nat_cmp_total, nat_eq_equiv, unsigned_ties}
use Rattle.std.specs.List.{IsDistinct, AllByRecursion}
use Rattle.std.specs.Ordering.{eq_by_cmp}
use Rattle.std.specs.Option.{option_map_or}
use Rattle.std.specs.Map.{keys_of, lookup, lookup_entry, remove_entry}
use Rattle.std.specs.FinMap.{FinMap, get, contains_key, len, insert, get-insert, remove, from_entries, find, nat_cmp-IsAntisymmetric, get-from_entries, get-remove, len-insert, len-empty, same_map}
use Rattle.std.proofs.lemmas.Map.{lookup-remove_entry}
use Rattle.std.proofs.lemmas.Map.Keys.{IsDistinct-head, IsDistinct-tail}
use Rattle.std.proofs.lemmas.Bool.Decides.{nat_tests}
use Rattle.lru.specs.LruCache.{LruCache, lru_cache, IsValid, promoted, put_entries}
use Rattle.lru.proofs.CallerLemmas.{Contains-lookup_entry}
use Rattle.lru.proofs.Pairs.{lookup-lookup_entry}
use Rattle.engine_cache.specs.Cache.{Cache, without, SameElsewhere, ComesIn}

-- the entries of a cache
abbrev pub Entries : Type 0
Entries = List (ℕ × List ℕ)

-- the entries as a finite map
abbrev pub map_of : Entries → FinMap nat_cmp (List ℕ)
map_of es = from_entries es

-- what contracts see of an `LruCache`
abbrev pub seen : LruCache ℕ (List ℕ) → Cache
seen c = record { kept = map_of c.entries; capacity = c.cap }

-- no number stands twice
abbrev pub AreSingle : Entries → Type 0
AreSingle es = IsDistinct nat_eq (keys_of es)

find_is : (q : ℕ) (es : Entries) → find nat_cmp q es ≡ lookup (nat_eq q) es
find_is q [] = refl
find_is q (e ∷ es) = λ i. cond (sym (unsigned_ties q e.0) i) (Some e.1) (find_is q es i)

-- the finite map answers as a look-up in the entries does
get_seen : (es : Entries) (q : ℕ) → get (map_of es) q ≡ lookup (nat_eq q) es
get_seen es q = get-from_entries nat_cmp_total es q ∙ find_is q es

-- entries that are looked up alike are one finite map
alike : (es fs : Entries) → ((q : ℕ) → lookup (nat_eq q) es ≡ lookup (nat_eq q) fs) → map_of es ≡ map_of fs
alike es fs same = same_map nat_cmp_total nat_cmp-IsAntisymmetric _ _ (λ q. get_seen es q ∙ same q ∙ sym (get_seen fs q))

-- a number that none of the keys is isn't found
not_found : (k : ℕ) (es : Entries) → AllByRecursion (λ n. nat_eq k n ≡ false) (keys_of es) → lookup (nat_eq k) es ≡ None
not_found k [] h = refl
not_found k (e ∷ es) h = cond-false _ _ _ h.0 ∙ not_found k es h.1

-- as many blocks are kept as there are entries
pub len_seen : (es : Entries) → AreSingle es → len (map_of es) ≡ length es
len_seen [] single = len-empty nat_cmp (List ℕ)
len_seen (e ∷ es) single =
    let rest = len_seen es (IsDistinct-tail nat_eq e.0 (keys_of es) single) in
    let new : is_some (get (map_of es) e.0) ≡ false = ap is_some (get_seen es e.0 ∙ not_found e.0 es (IsDistinct-head nat_eq e.0 (keys_of es) single)) in
    len-insert nat_cmp_total (map_of es) e.0 e.1 ∙ cond-false _ _ _ new ∙ ap (λ n. n + 1) rest ∙ omega arith

-- another number is found as before once an entry is taken out
other_stays : (k q : ℕ) → q ≢ k → (es : Entries) → lookup (nat_eq q) (remove_entry (nat_eq k) es) ≡ lookup (nat_eq q) es
other_stays k q apart [] = refl
other_stays k q apart (e ∷ es) = grind (arith, apart, other_stays k q apart es, nat_tests)

-- the number k as the first entry, in place of the entry that it had
in_front : (k : ℕ) (v : List ℕ) (es : Entries) (q : ℕ) → lookup (nat_eq q) ((k, v) ∷ remove_entry (nat_eq k) es) ≡ cond (nat_eq q k) (Some v) (lookup (nat_eq q) es)
in_front k v es q = grind (arith, other_stays k q, nat_tests)

-- an entry that is found for a number has that number
found_key : (k : ℕ) (es : Entries) (e : ℕ × List ℕ) → lookup_entry (nat_eq k) es ≡ Some e → e.0 ≡ k
found_key k es e h = sym (eqb-true k e.0 (Contains-lookup_entry (nat_eq k) es e h).1)

-- and what is found for it are the bytes of the entry that is
found_as : (k : ℕ) (es : Entries) (o : Option (ℕ × List ℕ)) → lookup_entry (nat_eq k) es ≡ o → lookup (nat_eq k) es ≡ option_map (λ f. f.1) o
found_as k es o h = sym (lookup-lookup_entry (nat_eq k) es) ∙ ap (option_map (λ f. f.1)) h

-- an entry that was found first is looked up as before
used_last : (k q : ℕ) (es : Entries) (o : Option (ℕ × List ℕ)) → lookup_entry (nat_eq k) es ≡ o
    → lookup (nat_eq q) (option_map_or (λ e. e ∷ remove_entry (nat_eq k) es) o es) ≡ lookup (nat_eq q) es
used_last k q es None h = refl
used_last k q es (Some e) h = rw (found_key k es e h) (grind (arith, in_front k e.1 es q, found_as k es (Some e) h, nat_tests))

-- what is kept stays so when a block is asked for
pub asked_for : (a b : LruCache ℕ (List ℕ)) (old : Cache) (k : ℕ) → seen a ≡ old → b ≡ lru_cache (promoted (nat_eq k) a.entries) a.cap → seen b ≡ old
asked_for a b old k is promotes = ap seen promotes ∙ ap (λ m. record { kept = m; capacity = a.cap }) (alike _ a.entries (λ q. used_last k q a.entries (lookup_entry (nat_eq k) a.entries) refl)) ∙ is

-- what a look-up shows of a block is what is kept of it
pub shown : (a : LruCache ℕ (List ℕ)) (old : Cache) (k : ℕ) (o : Option (List ℕ)) → seen a ≡ old → o ≡ lookup (nat_eq k) a.entries → get old.kept k ≡ o
shown a old k o is value = ap (λ c. get c.kept k) (sym is) ∙ get_seen a.entries k ∙ sym value

-- a block that is forgotten isn't kept, and no other goes
pub forgotten : (a b : LruCache ℕ (List ℕ)) (old : Cache) (k : ℕ) → IsValid nat_eq a → seen a ≡ old → b ≡ lru_cache (remove_entry (nat_eq k) a.entries) a.cap → seen b ≡ without k old
forgotten a b old k valid is entries = ap seen entries ∙ ap (λ m. record { kept = m; capacity = a.cap }) (taken_out k a.entries valid.0) ∙ ap (without k) is
  where
    taken_out : (k : ℕ) (es : Entries) → AreSingle es → map_of (remove_entry (nat_eq k) es) ≡ remove (map_of es) k
    taken_out k es single = same_map nat_cmp_total nat_cmp-IsAntisymmetric _ _ (λ q. get_seen _ q
        ∙ lookup-remove_entry nat_eq_equiv (nat_eq k) (λ x y is. nat_eq_equiv.congr k x y is) q es single
        ∙ ap (λ b. cond b None (lookup (nat_eq q) es)) (nat_eq_equiv.symm k q ∙ unsigned_ties q k)
        ∙ sym (get-remove nat_cmp_total (map_of es) k q ∙ ap (cond (eq_by_cmp nat_cmp q k) None) (get_seen es q)))

-- what is found is what is found
itself : (o p : Option (List ℕ)) → o ≡ p → IfSome o (λ x. p ≡ Some x)
itself None p e = tt
itself (Some x) p e = sym e

one_more_at_most : (b : Bool) (n : ℕ) → n ≤ cond b n (n + 1)
one_more_at_most b n = grind arith

-- a block comes in, and no other one goes
comes_in_alone : (es fs : Entries) (most k : ℕ) (v : List ℕ) → ((q : ℕ) → lookup (nat_eq q) fs ≡ cond (nat_eq q k) (Some v) (lookup (nat_eq q) es))
    → ComesIn k v (seen (lru_cache es most)) (seen (lru_cache fs most))
comes_in_alone es fs most k v found = record {
  block = subst (λ o. IfSome o (λ x. x ≡ v)) (sym there) refl;
  others = λ n apart. itself _ _ (elsewhere n apart);
  again = λ _. (ap is_some there, elsewhere);
  room = λ _. elsewhere;
  no_fewer = subst (λ m. len (map_of es) ≤ len m) (sym inserted) no_fewer;
  capacity = refl;
}
  where
    inserted : map_of fs ≡ insert (map_of es) k v
    inserted = same_map nat_cmp_total nat_cmp-IsAntisymmetric _ _ (λ q. get_seen fs q ∙ found q ∙ (λ i. cond (unsigned_ties q k i) (Some v) (sym (get_seen es q) i)) ∙ sym (get-insert nat_cmp_total (map_of es) k v q))

    no_fewer : len (map_of es) ≤ len (insert (map_of es) k v)
    no_fewer = rw (len-insert nat_cmp_total (map_of es) k v) (one_more_at_most (contains_key (map_of es) k) (len (map_of es)))

    there : get (map_of fs) k ≡ Some v
    there = get_seen fs k ∙ found k ∙ cond-true (nat_eq k k) _ _ (eq-eqb k k refl)

    elsewhere : SameElsewhere k (seen (lru_cache es most)) (seen (lru_cache fs most))
    elsewhere n apart = get_seen fs n ∙ found n ∙ cond-false (nat_eq n k) _ _ (ne_eqb n k apart) ∙ sym (get_seen es n)

-- what is found among the first entries is found among all
found_among : (n : ℕ) (es : Entries) (q : ℕ) → IfSome (lookup (nat_eq q) (take n es)) (λ x. lookup (nat_eq q) es ≡ Some x)
found_among zero es q = tt
found_among (suc n) [] q = tt
found_among (suc n) (e ∷ es) q = elim (cases_Bool (nat_eq q e.0)) [ inl yes' ↦ rw yes' refl | inr no' ↦ rw no' (found_among n es q) ]

-- a new block comes into a full cache, and the entry that was used the longest ago goes
comes_in_full : (es : Entries) (most k : ℕ) (v : List ℕ) → AreSingle es → AreSingle ((k, v) ∷ take (most - 1) es) → 0 < most → length es ≡ most → lookup (nat_eq k) es ≡ None
    → ComesIn k v (seen (lru_cache es most)) (seen (lru_cache ((k, v) ∷ take (most - 1) es) most))
comes_in_full es most k v single_old single some full none = record {
  block = subst (λ o. IfSome o (λ x. x ≡ v)) (sym there) refl;
  others = λ n apart. subst (λ o. IfSome o (λ x. get (map_of es) n ≡ Some x)) (sym (get_seen ((k, v) ∷ take (most - 1) es) n ∙ cond-false (nat_eq n k) _ _ (ne_eqb n k apart)))
      (subst (λ o. IfSome (lookup (nat_eq n) (take (most - 1) es)) (λ x. o ≡ Some x)) (sym (get_seen es n)) (found_among (most - 1) es n));
  again = λ kept. absurd (false≢true (sym (ap is_some (get_seen es k ∙ none)) ∙ kept));
  room = λ less. absurd (omega (arith, less, len_seen es single_old, full));
  no_fewer = rw (len_seen es single_old) (rw (len_seen ((k, v) ∷ take (most - 1) es) single) (omega (arith, full, some, length-take (most - 1) es)));
  capacity = refl;
}
  where
    there : get (map_of ((k, v) ∷ take (most - 1) es)) k ≡ Some v
    there = get_seen ((k, v) ∷ take (most - 1) es) k ∙ cond-true (nat_eq k k) _ _ (eq-eqb k k refl)

-- a new block comes in, where the cache may be full
comes_in_new : (es : Entries) (most k : ℕ) (v : List ℕ) → AreSingle es → AreSingle ((k, v) ∷ take (most - 1) es) → 0 < most → length es ≤ most → lookup (nat_eq k) es ≡ None
    → ComesIn k v (seen (lru_cache es most)) (seen (lru_cache ((k, v) ∷ take (most - 1) es) most))
comes_in_new es most k v single_old single some within none = elim (cases_lt (length es) most) [
  | inl less ↦ comes_in_alone es ((k, v) ∷ take (most - 1) es) most k v (λ q. ap (λ l. cond (nat_eq q k) (Some v) (lookup (nat_eq q) l)) (take_all (most - 1) es (omega (arith, less))))
  | inr full ↦ comes_in_full es most k v single_old single some (omega (arith, full, within)) none
]

-- a block that is there comes in
comes_in_again : (es : Entries) (most k : ℕ) (v : List ℕ) (e : ℕ × List ℕ) → lookup_entry (nat_eq k) es ≡ Some e → ComesIn k v (seen (lru_cache es most)) (seen (lru_cache ((e.0, v) ∷ remove_entry (nat_eq k) es) most))
comes_in_again es most k v e h = subst (λ n. ComesIn k v (seen (lru_cache es most)) (seen (lru_cache ((n, v) ∷ remove_entry (nat_eq k) es) most))) (sym (found_key k es e h))
    (comes_in_alone es ((k, v) ∷ remove_entry (nat_eq k) es) most k v (in_front k v es))

-- `put` in either case
put_comes_in : (es : Entries) (most k : ℕ) (v : List ℕ) (o : Option (ℕ × List ℕ)) → lookup_entry (nat_eq k) es ≡ o → (fs : Entries) → fs ≡ option_map_or (λ e. (e.0, v) ∷ remove_entry (nat_eq k) es) o ((k, v) ∷ take (most - 1) es)
    → AreSingle es → AreSingle fs → 0 < most → length es ≤ most → ComesIn k v (seen (lru_cache es most)) (seen (lru_cache fs most))
put_comes_in es most k v None h fs is single_old single some within = subst (λ l. ComesIn k v (seen (lru_cache es most)) (seen (lru_cache l most))) (sym is)
    (comes_in_new es most k v single_old (subst AreSingle is single) some within (found_as k es None h))
put_comes_in es most k v (Some e) h fs is single_old single some within = subst (λ l. ComesIn k v (seen (lru_cache es most)) (seen (lru_cache l most))) (sym is) (comes_in_again es most k v e h)

-- a block that wasn't kept, and for which there is no memory, leaves all as it was
left_out : (es : Entries) (most k : ℕ) (v : List ℕ) → lookup (nat_eq k) es ≡ None → ComesIn k v (seen (lru_cache es most)) (seen (lru_cache es most))
left_out es most k v none = record {
  block = subst (λ o. IfSome o (λ x. x ≡ v)) (sym (get_seen es k ∙ none)) tt;
  others = λ n apart. itself _ _ refl;
  again = λ kept. (kept, λ n apart. refl);
  room = λ _ n apart. refl;
  no_fewer = omega arith;
  capacity = refl;
}

absent : (o : Option (List ℕ)) → (IsSome o → ⊥) → o ≡ None
absent None h = refl
absent (Some x) h = absurd (h refl)

-- what `put` makes of a cache, whether or not it found memory
pub noted : {T E : Type 0} (a b : LruCache ℕ (List ℕ)) (old : Cache) (k : ℕ) (v : List ℕ) (result : Result T E) → IsValid nat_eq a → IsValid nat_eq b → seen a ≡ old
    → OnOk result (b ≡ lru_cache (put_entries nat_eq a k v) a.cap) → OnErr result (b ≡ a) → (IsSome (lookup (nat_eq k) a.entries) → IsOk result) → ComesIn k v old (seen b)
noted a b old k v (Ok x) valid after is ok err succeeds = subst (λ o. ComesIn k v o (seen b)) is
    (subst (λ c. ComesIn k v (seen a) (seen c)) (sym ok) (put_comes_in a.entries a.cap k v (lookup_entry (nat_eq k) a.entries) refl _ refl valid.0 (subst (λ (c : LruCache ℕ (List ℕ)). AreSingle c.entries) ok after.0) valid.2 valid.1))
noted a b old k v (Err e) valid after is ok err succeeds = subst (λ o. ComesIn k v o (seen b)) is
    (subst (λ c. ComesIn k v (seen a) (seen c)) (sym err) (left_out a.entries a.cap k v (absent _ (λ some. false≢true (succeeds some)))))
