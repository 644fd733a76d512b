-- What is in a row is a finite map from the numbers 1, 2 and so on, and its unused numbers are a set.
use Rattle.std.proofs.Common.{◌≡◌, ℕ, zero, suc, ◌+◌, ◌-◌, ◌<◌, ◌≤◌, nat_lt, nat_le, Bool, true, false, cond, not, ◌&&◌, if◌then◌else◌, List, [], ◌∷◌, ◌++◌, length, slice_get, slice_set, Option, Some, None, option_map, is_none, is_some, find as first, sym, refl, ap, ◌∙◌, ◌⊎◌, inl, inr, arith, nat_cmp, true≢false, Bor, option_copied, get_or, IsTrue, IsSome, btree_set_len, take, ⊎_elim}
use Rattle.std.proofs.lemmas.Bool.{cases_eq, cases_Bool, and_parts}
use Rattle.std.proofs.lemmas.List.{map-append, map-set, length-map, take_more}
use Rattle.std.proofs.Math.Seq.{map-set_same}
use Rattle.std.proofs.lemmas.Option.{slice_get_past, slice_get_read, slice_get-map, get_or_from_slice_get}
use Rattle.std.proofs.lemmas.Bool.Decides.{nat_tests}
use Rattle.std.proofs.lemmas.Map.Keys.{le_from_not_gt}
use Rattle.std.specs.Ordering.{eq_by_cmp, ord_max}
use Rattle.std.specs.List.{range_with_len}
use Rattle.std.specs.Cmp.{nat_cmp_total, eq_by_cmp_equiv}
use Rattle.std.specs.BTreeSet.{BTreeSet, contains, IsLowerBound}
use Rattle.std.specs.FinMap.{nat_cmp-IsAntisymmetric, get, insert, remove, from_entries, find, get-from_entries, get-insert, get-remove, same_map}
use Rattle.std.proofs.lemmas.Grind.{common_steps}
use Rattle.fs_memtree.specs.declared.node.Node.{Node}
use Rattle.lang_tree.specs.Tree.{Tree, Thing}
use Rattle.lang_tree.specs.Conditions.{is_snapshot}
use Rattle.lang_tree.specs.Conditions as unused
use Rattle.fs_memtree.specs.Kept.{Kept, KeptNodes, changed_at, put_changed}
use Rattle.fs_memtree.specs.Stored.{kept, things, numbered, nodes_of, place, in_place, thing_in, is_gap, AreUnused}
use Rattle.fs_memtree.proofs.keys.Keys.{remove_absent}

pub tied : (a b : ℕ) → a ≡ b → eq_by_cmp nat_cmp a b ≡ true
tied a b e = grind arith

pub apart : (a b : ℕ) → (a ≡ b → ⊥) → eq_by_cmp nat_cmp a b ≡ false
apart a b n = grind arith

-- Look-up.

find_below : (n k : ℕ) (xs : List (Option Kept)) → n < k → find nat_cmp n (numbered k xs) ≡ None
find_below n k [] below = refl
find_below n k (None ∷ xs) below = grind (arith, nat_tests, (find_below n (k + 1) xs (omega (arith, below))))
find_below n k (Some x ∷ xs) below = grind (arith, nat_tests, apart, (find_below n (k + 1) xs (omega (arith, below))))

find_numbered : (k n q : ℕ) (xs : List (Option Kept)) → q ≡ k + n → find nat_cmp q (numbered k xs) ≡ in_place (slice_get xs n)
find_numbered k n q [] e = refl
find_numbered k zero q (None ∷ xs) e = find_below q (k + 1) xs (omega (arith, e))
find_numbered k zero q (Some x ∷ xs) e = ap (λ b. cond b (Some x) (find nat_cmp q (numbered (k + 1) xs))) (tied q k (omega (arith, e)))
find_numbered k (suc n) q (None ∷ xs) e = grind (arith, common_steps, (find_numbered (k + 1) n q xs (omega (arith, e))))
find_numbered k (suc n) q (Some x ∷ xs) e = grind (arith, common_steps, apart, (find_numbered (k + 1) n q xs (omega (arith, e))))

abbrev pub row : List (Option Kept) → KeptNodes
row xs = from_entries (numbered 1 xs)

pub get_row : (xs : List (Option Kept)) (n : ℕ) → get (row xs) n ≡ thing_in xs n
get_row xs zero = get-from_entries nat_cmp_total (numbered 1 xs) 0 ∙ find_below 0 1 xs (omega arith)
get_row xs (suc i) = get-from_entries nat_cmp_total (numbered 1 xs) (suc i) ∙ find_numbered 1 i (suc i) xs (omega arith)

-- One place with other contents, or one more.

-- place n has become x, and no other place has changed
abbrev pub IsPut : List (Option Kept) → List (Option Kept) → ℕ → Option Kept → Type 0
IsPut xs ys n x = (q : ℕ) → place ys q ≡ cond (eq_by_cmp nat_cmp q n) (Some x) (place xs q)

get_set : {A : Type 0} (xs : List A) (i j : ℕ) (x : A) → i < length xs → (j ≡ i → ⊥) → slice_get (slice_set xs i x) j ≡ slice_get xs j
get_set [] i j x h n = refl
get_set (y ∷ xs) zero zero x h n = absurd (n refl)
get_set (y ∷ xs) zero (suc j) x h n = refl
get_set (y ∷ xs) (suc i) zero x h n = refl
get_set (y ∷ xs) (suc i) (suc j) x h n = get_set xs i j x (omega (arith, h)) (λ e. n (ap suc e))

get_set_same : {A : Type 0} (xs : List A) (i : ℕ) (x : A) → i < length xs → slice_get (slice_set xs i x) i ≡ Some x
get_set_same [] i x h = absurd (omega (arith, h))
get_set_same (y ∷ xs) zero x h = refl
get_set_same (y ∷ xs) (suc i) x h = get_set_same xs i x (omega (arith, h))

get_push : {A : Type 0} (xs : List A) (j : ℕ) (x : A) → (j ≡ length xs → ⊥) → slice_get (xs ++ x ∷ []) j ≡ slice_get xs j
get_push [] zero x n = absurd (n refl)
get_push [] (suc j) x n = refl
get_push (y ∷ xs) zero x n = refl
get_push (y ∷ xs) (suc j) x n = get_push xs j x (λ e. n (ap suc e))

get_push_same : {A : Type 0} (xs : List A) (x : A) → slice_get (xs ++ x ∷ []) (length xs) ≡ Some x
get_push_same [] x = refl
get_push_same (y ∷ xs) x = get_push_same xs x

abbrev chosen : List (Option Kept) → ℕ → ℕ → Option Kept → Option (Option Kept)
chosen xs q n x = cond (eq_by_cmp nat_cmp q n) (Some x) (place xs q)

chosen_same : (xs : List (Option Kept)) (q n : ℕ) (x : Option Kept) → q ≡ n → chosen xs q n x ≡ Some x
chosen_same xs q n x e = ap (λ b. cond b (Some x) (place xs q)) (tied q n e)

chosen_other : (xs : List (Option Kept)) (q n : ℕ) (x : Option Kept) → (q ≡ n → ⊥) → chosen xs q n x ≡ place xs q
chosen_other xs q n x d = ap (λ b. cond b (Some x) (place xs q)) (apart q n d)

put_set : (xs : List (Option Kept)) (i n : ℕ) (x : Option Kept) → n ≡ i + 1 → i < length xs → IsPut xs (slice_set xs i x) n x
put_set xs i n x e h zero = sym (chosen_other xs 0 n x (λ z. omega (arith, e, z)))
put_set xs i n x e h (suc j) = ⊎_elim (λ s. ap (slice_get (slice_set xs i x)) s ∙ get_set_same xs i x h ∙ sym (chosen_same xs (suc j) n x (omega (arith, e, s))))
    (λ d. get_set xs i j x h d ∙ sym (chosen_other xs (suc j) n x (λ z. d (omega (arith, e, z)))))
    (cases_eq j i)

put_push : (xs : List (Option Kept)) (n : ℕ) (x : Option Kept) → n ≡ length xs + 1 → IsPut xs (xs ++ x ∷ []) n x
put_push xs n x e zero = sym (chosen_other xs 0 n x (λ z. omega (arith, e, z)))
put_push xs n x e (suc j) = ⊎_elim (λ s. ap (slice_get (xs ++ x ∷ [])) s ∙ get_push_same xs x ∙ sym (chosen_same xs (suc j) n x (omega (arith, e, s))))
    (λ d. get_push xs j x d ∙ sym (chosen_other xs (suc j) n x (λ z. d (omega (arith, e, z)))))
    (cases_eq j (length xs))

pub is_set : (xs : List (Option Node)) (i n : ℕ) (x : Option Node) → n ≡ i + 1 → i < length xs → IsPut (things xs) (things (slice_set xs i x)) n (option_map kept x)
is_set xs i n x e h q = ap (λ ys. place ys q) (map-set (option_map kept) xs i x) ∙ put_set (things xs) i n (option_map kept x) e (omega (arith, h, length-map xs (option_map kept))) q

pub is_pushed : (xs : List (Option Node)) (n : ℕ) (x : Option Node) → n ≡ length xs + 1 → IsPut (things xs) (things (xs ++ x ∷ [])) n (option_map kept x)
is_pushed xs n x e q = ap (λ ys. place ys q) (map-append (option_map kept) xs (x ∷ [])) ∙ put_push (things xs) n (option_map kept x) (omega (arith, e, length-map xs (option_map kept))) q

in_chosen : (b : Bool) (x : Option Kept) (y : Option (Option Kept)) → in_place (cond b (Some x) y) ≡ cond b x (in_place y)
in_chosen b x y = grind (arith, nat_tests)

gap_chosen : (b : Bool) (x : Option Kept) (y : Option (Option Kept)) → is_gap (cond b (Some x) y) ≡ cond b (is_gap (Some x)) (is_gap y)
gap_chosen b x y = grind (arith, nat_tests)

module _ (xs ys : List (Option Kept)) (n : ℕ) where
  get_put : (x : Option Kept) → IsPut xs ys n x → (q : ℕ) → get (row ys) q ≡ cond (eq_by_cmp nat_cmp q n) x (get (row xs) q)
  get_put x put q = grind (arith, nat_tests, get_row, in_chosen)

  pub row_put : (x : Kept) → IsPut xs ys n (Some x) → row ys ≡ insert (row xs) n x
  row_put x put = same_map nat_cmp_total nat_cmp-IsAntisymmetric _ _ (λ q. get_put (Some x) put q ∙ sym (get-insert nat_cmp_total (row xs) n x q))

  pub row_taken : IsPut xs ys n None → row ys ≡ remove (row xs) n
  row_taken put = same_map nat_cmp_total nat_cmp-IsAntisymmetric _ _ (λ q. get_put None put q ∙ sym (get-remove nat_cmp_total (row xs) n q))

  pub unused_put : (s t : BTreeSet ℕ) (x : Option Kept) → AreUnused s xs → IsPut xs ys n x
      → ((q : ℕ) → contains nat_cmp t q ≡ cond (eq_by_cmp nat_cmp q n) (is_gap (Some x)) (contains nat_cmp s q)) → AreUnused t ys
  unused_put s t x are put now q = grind (arith, nat_tests, gap_chosen)

-- a set in which a number came or went, as its contract says
pub turned : (s t : BTreeSet ℕ) (n : ℕ) (b : Bool) → ((q : ℕ) → contains nat_cmp t q ≡ cond (eq_by_cmp nat_cmp n q) b (contains nat_cmp s q))
    → (q : ℕ) → contains nat_cmp t q ≡ cond (eq_by_cmp nat_cmp q n) b (contains nat_cmp s q)
turned s t n b is q = is q ∙ ap (λ e. cond e b (contains nat_cmp s q)) ((eq_by_cmp_equiv nat_cmp_total).symm n q)

-- where the number wasn't in the set, the set is as if it went
pub set_kept : (s : BTreeSet ℕ) (n : ℕ) → contains nat_cmp s n ≡ false → (q : ℕ) → contains nat_cmp s q ≡ cond (eq_by_cmp nat_cmp q n) false (contains nat_cmp s q)
set_kept s n none q = grind (arith, nat_tests, tied, apart)

-- The least unused number.

found_first : (test : ℕ → Bool) (a n m : ℕ) → first test (range_with_len a n) ≡ Some m → (test m ≡ true) × (a ≤ m) × ((k : ℕ) → a ≤ k → k < m → test k ≡ false)
found_first test a zero m e = absurd (cc)
found_first test a (suc n) m e = by (test a) refl (found_first test (a + 1) n m) e
  where
    go_on : test a ≡ false → ((k : ℕ) → a + 1 ≤ k → k < m → test k ≡ false) → (k : ℕ) → a ≤ k → k < m → test k ≡ false
    go_on is others k low high = grind (arith, nat_tests, test)

    by : (b : Bool) → test a ≡ b → (first test (range_with_len (a + 1) n) ≡ Some m → (test m ≡ true) × (a + 1 ≤ m) × ((k : ℕ) → a + 1 ≤ k → k < m → test k ≡ false))
        → cond b (Some a) (first test (range_with_len (a + 1) n)) ≡ Some m → (test m ≡ true) × (a ≤ m) × ((k : ℕ) → a ≤ k → k < m → test k ≡ false)
    by true is go e = let same : a ≡ m = cc in (ap test (sym same) ∙ is, omega (arith, same), λ k low high. absurd (omega (arith, same, low, high)))
    by false is go e = let r = go e in (r.0, omega (arith, r.1), go_on is r.2)

pub first_none : (test : ℕ → Bool) (a n : ℕ) → ((k : ℕ) → a ≤ k → k < a + n → test k ≡ false) → first test (range_with_len a n) ≡ None
first_none test a zero all = refl
first_none test a (suc n) all = grind (arith, nat_tests, (first_none test (a + 1) n (λ k low high. all k (omega (arith, low)) (omega (arith, high)))))

pub first_some : (test : ℕ → Bool) (a n m : ℕ) → a ≤ m → m < a + n → ((k : ℕ) → a ≤ k → k < m → test k ≡ false) → test m ≡ true → first test (range_with_len a n) ≡ Some m
first_some test a zero m low high before here = absurd (omega (arith, low, high))
first_some test a (suc n) m low high before here = by (λ l. first_some test (a + 1) n m l (omega (arith, high)) (λ k l h. before k (omega (arith, l)) h) here) (cases_eq a m)
  where
    by : (a + 1 ≤ m → first test (range_with_len (a + 1) n) ≡ Some m) → (a ≡ m) ⊎ (a ≡ m → ⊥) → first test (range_with_len a (suc n)) ≡ Some m
    by go (inl e) = ap (λ b. cond b (Some a) (first test (range_with_len (a + 1) n))) (ap test e ∙ here) ∙ ap Some e
    by go (inr d) = ap (λ b. cond b (Some a) (first test (range_with_len (a + 1) n))) (before a (omega arith) (grind (arith, low, d))) ∙ go (grind (arith, low, d))

-- the least number from 1 to the limit that no node has
abbrev pub least_unused : ℕ → KeptNodes → Option ℕ
least_unused limit m = first (λ n. is_none (get m n)) (range_with_len 1 limit)

-- no node has the least unused number of a tree
pub unused_there : (limit : ℕ) (t : Tree) (n : ℕ) → unused.least_unused limit t ≡ Some n → get t.nodes n ≡ None
unfolding unused.least_unused
unused_there limit t n e = none_is (get t.nodes n) (and_parts (is_none (get t.nodes n)) _ (found_first (λ k. is_none (get t.nodes k) && not (is_snapshot t.snapshots k)) 1 limit n e).0).0
  where
    none_is : (o : Option Thing) → is_none o ≡ true → o ≡ None
    none_is None e = refl
    none_is (Some x) e = absurd (true≢false (sym e))

-- a number that is found in a range from 1 on is at least 1, and is free
pub found_free : (test : ℕ → Bool) (limit n : ℕ) → first test (range_with_len 1 limit) ≡ Some n → (test n ≡ true) × (1 ≤ n)
found_free test limit n e = let r = found_first test 1 limit n e in (r.0, r.1)

-- the number is unused, and each before it is used
pub record IsFirst (xs : List (Option Kept)) (n : ℕ) : Type 0 where
  pub low : 1 ≤ n
  pub here : is_none (thing_in xs n) ≡ true
  pub before : (k : ℕ) → 1 ≤ k → k < n → is_none (thing_in xs k) ≡ false

pub least_is : (limit n : ℕ) (xs : List (Option Kept)) → IsFirst xs n → least_unused limit (row xs) ≡ (if nat_le n limit then Some n else None)
least_is limit n xs is = by (nat_le n limit) refl
  where
    test : ℕ → Bool
    test k = is_none (get (row xs) k)

    by : (b : Bool) → nat_le n limit ≡ b → first (λ k. is_none (get (row xs) k)) (range_with_len 1 limit) ≡ (if b then Some n else None)
    by true e = first_some (λ k. is_none (get (row xs) k)) 1 limit n is.low (grind (arith, e)) (λ k low high. ap is_none (get_row xs k) ∙ is.before k low high) (ap is_none (get_row xs n) ∙ is.here)
    by false e = first_none (λ k. is_none (get (row xs) k)) 1 limit (λ k low high. ap is_none (get_row xs k) ∙ is.before k low (grind (arith, e, high)))

past_end : (xs : List (Option Kept)) (n : ℕ) → length xs < n → place xs n ≡ None
past_end xs n e = grind (arith, nat_tests, slice_get_past)

-- a place within the row is used, or it is a gap
used_or_gap : (xs : List (Option Kept)) (n : ℕ) → 1 ≤ n → n ≤ length xs → is_gap (place xs n) ≡ false → is_none (thing_in xs n) ≡ false
used_or_gap xs zero low high no_gap = absurd (omega (arith, low))
used_or_gap [] (suc i) low high no_gap = absurd (omega (arith, high))
used_or_gap (None ∷ xs) (suc zero) low high no_gap = absurd (true≢false no_gap)
used_or_gap (Some x ∷ xs) (suc zero) low high no_gap = refl
used_or_gap (x ∷ xs) (suc (suc i)) low high no_gap = used_or_gap xs (suc i) (omega arith) (omega (arith, high)) no_gap

gap_is_none : (p : Option (Option Kept)) → is_gap p ≡ true → is_none (in_place p) ≡ true
gap_is_none p e = grind (arith, nat_tests)

gap_within : (xs : List (Option Kept)) (n : ℕ) → is_gap (place xs n) ≡ true → (1 ≤ n) × (n ≤ length xs)
gap_within xs zero e = absurd (true≢false (sym e))
gap_within [] (suc i) e = absurd (true≢false (sym e))
gap_within (x ∷ xs) (suc zero) e = (omega arith, omega arith)
gap_within (x ∷ xs) (suc (suc i)) e = (omega arith, omega (arith, gap_within xs (suc i) e))

-- the least number of the set is the first one
pub first_of_set : (s : BTreeSet ℕ) (xs : List (Option Kept)) (n : ℕ) → AreUnused s xs → contains nat_cmp s n ≡ true → ((q : ℕ) → contains nat_cmp s q ≡ true → n ≤ q) → IsFirst xs n
first_of_set s xs n are member least = grind (arith, nat_tests, gap_within, gap_is_none, used_or_gap)

-- where the set is empty, the number after those of the row is the first one
pub first_past : (s : BTreeSet ℕ) (xs : List (Option Kept)) (n : ℕ) → AreUnused s xs → s.keys ≡ [] → n ≡ length xs + 1 → IsFirst xs n
first_past s xs n are empty e = grind (arith, nat_tests, past_end, used_or_gap)

-- What the code reads and does.

next : (i : ℕ) → i + 1 ≡ suc i
next i = omega arith

at_thing : (o : Option (Bor Node)) → option_map (λ node. kept node.now) o ≡ option_map kept (option_copied o)
at_thing o = grind (arith, nat_tests)

thing_at_index : (xs : List (Option Node)) (i : ℕ) (x : Option Node) → i < length xs → x ≡ get_or xs i x → slice_get (things xs) i ≡ Some (option_map kept x)
thing_at_index xs i x h is = slice_get-map (option_map kept) xs i ∙ ap (option_map (option_map kept)) (slice_get_read xs (length xs) i x refl h is)

pub stands : (xs : List (Option Node)) (i : ℕ) (o : Option (Bor Node)) (x : Option Node) → option_copied o ≡ x → i < length xs → x ≡ get_or xs i x
    → option_map (λ node. kept node.now) o ≡ thing_in (things xs) (i + 1)
stands xs i o x is h at = at_thing o ∙ ap (option_map kept) is ∙ sym (ap (thing_in (things xs)) (next i) ∙ ap in_place (thing_at_index xs i x h at))

none_of : {A : Type 0} (o : Option A) → false ≡ is_some o → o ≡ None
none_of o e = grind (arith, nat_tests)

get_none : (xs ys : List (Option Node)) (n : ℕ) → ys ≡ xs → false ≡ is_some (thing_in (things ys) n) → get (nodes_of xs) n ≡ None
get_none xs ys n same none = get_row (things xs) n ∙ ap (λ row. thing_in (things row) n) (sym same) ∙ none_of (thing_in (things ys) n) none

pub not_there : (xs ys : List (Option Node)) (n : ℕ) (m : KeptNodes) → nodes_of xs ≡ m → ys ≡ xs → false ≡ is_some (thing_in (things ys) n) → m ≡ remove m n
not_there xs ys n m is same none = sym (remove_absent nat_cmp_total nat_cmp-IsAntisymmetric m n (ap (λ k. get k n) (sym is) ∙ get_none xs ys n same none))

pub unused_set : (s t : BTreeSet ℕ) (xs : List (Option Node)) (i n : ℕ) (x : Option Node) → n ≡ i + 1 → i < length xs → AreUnused s (things xs)
    → ((q : ℕ) → contains nat_cmp t q ≡ cond (eq_by_cmp nat_cmp n q) (is_gap (Some (option_map kept x))) (contains nat_cmp s q)) → AreUnused t (things (slice_set xs i x))
unused_set s t xs i n x e h are now = unused_put (things xs) (things (slice_set xs i x)) n s t (option_map kept x) are (is_set xs i n x e h) (turned s t n (is_gap (Some (option_map kept x))) now)

pub nodes_set : (xs : List (Option Node)) (i n : ℕ) (x : Node) (m : KeptNodes) → n ≡ i + 1 → i < length xs → nodes_of xs ≡ m → nodes_of (slice_set xs i (Some x)) ≡ insert m n (kept x)
nodes_set xs i n x m e h is = row_put (things xs) (things (slice_set xs i (Some x))) n (kept x) (is_set xs i n (Some x) e h) ∙ ap (λ k. insert k n (kept x)) is

pub nodes_taken : (xs : List (Option Node)) (i n : ℕ) (m : KeptNodes) → n ≡ i + 1 → i < length xs → nodes_of xs ≡ m → nodes_of (slice_set xs i None) ≡ remove m n
nodes_taken xs i n m e h is = row_taken (things xs) (things (slice_set xs i None)) n (is_set xs i n None e h) ∙ ap (λ k. remove k n) is

pub unused_pushed : (s : BTreeSet ℕ) (xs ys : List (Option Node)) (n : ℕ) (x : Node) → ys ≡ xs ++ Some x ∷ [] → n ≡ length xs + 1 → AreUnused s (things xs) → AreUnused s (things ys)
unused_pushed s xs ys n x is e are = grind (arith, nat_tests, is_pushed, set_kept, past_end, length-map)

pub nodes_pushed : (xs ys : List (Option Node)) (n : ℕ) (x : Node) (m : KeptNodes) → ys ≡ xs ++ Some x ∷ [] → n ≡ length xs + 1 → nodes_of xs ≡ m → nodes_of ys ≡ insert m n (kept x)
nodes_pushed xs ys n x m is e old = ap nodes_of is ∙ row_put (things xs) (things (xs ++ Some x ∷ [])) n (kept x) (is_pushed xs n (Some x) e) ∙ ap (λ k. insert k n (kept x)) old

-- an empty place more
pub unused_gap : (s t : BTreeSet ℕ) (xs ys : List (Option Node)) (n : ℕ) → ys ≡ xs ++ None ∷ [] → n ≡ length xs + 1 → AreUnused s (things xs)
    → ((q : ℕ) → contains nat_cmp t q ≡ cond (eq_by_cmp nat_cmp n q) true (contains nat_cmp s q)) → AreUnused t (things ys)
unused_gap s t xs ys n is e are now q =
    unused_put (things xs) (things (xs ++ None ∷ [])) n s t None are (is_pushed xs n None e) (turned s t n true now) q
    ∙ ap (λ zs. is_gap (place (things zs) q)) (sym is)

pub nodes_gap : (xs ys : List (Option Node)) (n : ℕ) → ys ≡ xs ++ None ∷ [] → n ≡ length xs + 1 → nodes_of ys ≡ nodes_of xs
nodes_gap xs ys n is e =
    let beyond : length (things xs) < n = omega (arith, e, length-map xs (option_map kept)) in
    ap nodes_of is ∙ row_taken (things xs) (things (xs ++ None ∷ [])) n (is_pushed xs n None e)
    ∙ remove_absent nat_cmp_total nat_cmp-IsAntisymmetric (nodes_of xs) n (get_row (things xs) n ∙ ap in_place (past_end (things xs) n beyond))

-- the least number of the set, as its contract says, up to the limit
pub least_in_set : (s : BTreeSet ℕ) (xs : List (Option Node)) (limit n : ℕ) (m : KeptNodes) → nodes_of xs ≡ m → AreUnused s (things xs) → IsTrue (contains nat_cmp s n) → IsLowerBound nat_cmp s n
    → (if nat_le n limit then Some n else None) ≡ least_unused limit m
least_in_set s xs limit n m is are member least = grind (arith, nat_tests, least_is, first_of_set, le_from_not_gt)

-- where the set is empty
pub least_past : (s : BTreeSet ℕ) (xs ys : List (Option Node)) (limit n : ℕ) (m : KeptNodes) → nodes_of xs ≡ m → ys ≡ xs → AreUnused s (things xs) → s.keys ≡ [] → n ≡ length ys + 1
    → (if nat_le n limit then Some n else None) ≡ least_unused limit m
least_past s xs ys limit n m is same are empty e =
    sym (ap (least_unused limit) (sym is) ∙ least_is limit n (things xs) (first_past s (things xs) n are empty (omega (arith, e, length-map xs (option_map kept), ap length same))))

pub least_beyond : (s : BTreeSet ℕ) (xs ys : List (Option Node)) (limit : ℕ) (m : KeptNodes) → nodes_of xs ≡ m → ys ≡ xs → AreUnused s (things xs) → s.keys ≡ [] → limit < length ys + 1
    → None ≡ least_unused limit m
least_beyond s xs ys limit m is same are empty beyond =
    sym (ap (λ b. if b then Some (length ys + 1) else None) (above (length ys + 1) limit beyond)) ∙ least_past s xs ys limit (length ys + 1) m is same are empty refl
  where
    above : (a b : ℕ) → b < a → nat_le a b ≡ false
    above a b h = grind arith

pub no_keys : (s : BTreeSet ℕ) (o : Option (Bor ℕ)) → o ≡ None → (0 < btree_set_len s → IsSome o) → s.keys ≡ []
no_keys s o none some = by s.keys refl
  where
    by : (ks : List ℕ) → s.keys ≡ ks → s.keys ≡ []
    by [] e = e
    by (k ∷ ks) e = absurd (true≢false (sym (some (omega (arith, ap length e))) ∙ ap is_some none))

-- A change of one node.

pub things_set_same : (xs : List (Option Node)) (i : ℕ) (x y : Option Node) → y ≡ get_or xs i y → option_map kept x ≡ option_map kept y → things (slice_set xs i x) ≡ things xs
things_set_same xs i x y is e = map-set_same (option_map kept) xs i x y (e ∙ ap (option_map kept) is)

pub not_edited : (xs ys : List (Option Node)) (n : ℕ) (change : Kept → Kept) → ys ≡ xs → false ≡ is_some (thing_in (things ys) n) → nodes_of xs ≡ changed_at (nodes_of xs) n change
not_edited xs ys n change same none = sym (ap (put_changed (nodes_of xs) n change) (get_none xs ys n same none))

module _ (xs : List (Option Node)) (i n : ℕ) (x y : Option Node) (change : Kept → Kept) (e : n ≡ i + 1) (h : i < length xs) (is : y ≡ get_or xs i y)
    (put : option_map kept x ≡ option_map change (option_map kept y)) where
  was : place (things xs) n ≡ Some (option_map kept y)
  was = ap (place (things xs)) (e ∙ next i) ∙ thing_at_index xs i y h is

  by_thing : (t : Option Kept) → get (nodes_of xs) n ≡ t → IsPut (things xs) (things (slice_set xs i x)) n (option_map change t)
      → nodes_of (slice_set xs i x) ≡ put_changed (nodes_of xs) n change t
  by_thing None there now = row_taken (things xs) (things (slice_set xs i x)) n now ∙ remove_absent nat_cmp_total nat_cmp-IsAntisymmetric (nodes_of xs) n there
  by_thing (Some t) there now = row_put (things xs) (things (slice_set xs i x)) n (change t) now

  pub nodes_edited : nodes_of (slice_set xs i x) ≡ changed_at (nodes_of xs) n change
  nodes_edited = grind (arith, nat_tests, get_row, was, by_thing, is_set)

  gap_kept : (t : Option Kept) → is_gap (Some (option_map change t)) ≡ is_gap (Some t)
  gap_kept t = grind (arith, nat_tests)

  same_gaps : (q : ℕ) → (q ≡ n) ⊎ (q ≡ n → ⊥) → is_gap (chosen (things xs) q n (option_map kept x)) ≡ is_gap (place (things xs) q)
  same_gaps q e = grind (arith, nat_tests, chosen_same, gap_kept, was, chosen_other)

  pub gaps_edited : (q : ℕ) → is_gap (place (things (slice_set xs i x)) q) ≡ is_gap (place (things xs) q)
  gaps_edited q = ap is_gap (is_set xs i n x e h q) ∙ same_gaps q (cases_eq q n)

-- Two rows, and a copy of one.

pub thing_same : (xs ys : List (Option Node)) (n : ℕ) → nodes_of xs ≡ nodes_of ys → thing_in (things xs) n ≡ thing_in (things ys) n
thing_same xs ys n same = sym (get_row (things xs) n) ∙ ap (λ m. get m n) same ∙ get_row (things ys) n

max_left : (a b : ℕ) → a ≤ ord_max nat_cmp a b
max_left a b = grind (arith, nat_tests)

max_right : (a b : ℕ) → b ≤ ord_max nat_cmp a b
max_right a b = grind (arith, nat_tests)

pub rows_same : (xs ys : List (Option Node)) (most end : ℕ) → most ≡ ord_max nat_cmp (length xs) (length ys) → most ≤ end
    → ((k : ℕ) → k < end → thing_in (things xs) (k + 1) ≡ thing_in (things ys) (k + 1)) → nodes_of xs ≡ nodes_of ys
rows_same xs ys most end is high same = same_map nat_cmp_total nat_cmp-IsAntisymmetric _ _ (λ q. get_row (things xs) q ∙ at q ∙ sym (get_row (things ys) q))
  where
    left : length (things xs) ≤ end
    left = omega (arith, length-map xs (option_map kept), is, high, max_left (length xs) (length ys))

    right : length (things ys) ≤ end
    right = omega (arith, length-map ys (option_map kept), is, high, max_right (length xs) (length ys))

    at : (q : ℕ) → thing_in (things xs) q ≡ thing_in (things ys) q
    at zero = refl
    at (suc k) = ⊎_elim (λ e. ap (thing_in (things xs)) (sym (next k)) ∙ same k (grind (arith, e)) ∙ ap (thing_in (things ys)) (next k))
        (λ e. ap in_place (slice_get_past (things xs) k (grind (arith, e, left))) ∙ sym (ap in_place (slice_get_past (things ys) k (grind (arith, e, right)))))
        (cases_Bool (nat_lt k end))

pub copied_more : (xs copy copied : List (Option Node)) (i : ℕ) (x y : Option Node) → i < length xs → y ≡ get_or xs i y → option_map kept x ≡ option_map kept y
    → copied ≡ copy ++ x ∷ [] → things copy ≡ take i (things xs) → things copied ≡ take (i + 1) (things xs)
copied_more xs copy copied i x y h at same is before = ap things is ∙ map-append (option_map kept) copy (x ∷ [])
    ∙ ap (λ front. front ++ option_map kept x ∷ []) before
    ∙ ap (λ t. take i (things xs) ++ t ∷ []) (same ∙ sym (get_or_from_slice_get (things xs) i (option_map kept y) None (thing_at_index xs i y h at)))
    ∙ sym (take_more (things xs) i None (omega (arith, h, length-map xs (option_map kept))))
