-- How many paths a number has: none where none leads to it, one more with each path put in, one less with each taken out.
use Rattle.std.proofs.Common.{◌≡◌, ℕ, ◌+◌, ◌≤◌, arith, Bool, true, false, cond, ◌&&◌, ◌==◌, T, if◌then◌else◌, List, [], ◌∷◌, map, Some, None, refl, sym, ap, ◌∙◌, true≢false, eq-eqb, eqb-true}
use Rattle.std.proofs.lemmas.List.{nil_from_length}
use Rattle.std.specs.Ordering.{eq_by_cmp}
use Rattle.std.specs.FinMap.{get, insert, remove, entries, find, put, from_entries, empty, is_sorted, entries_sorted, entries-insert, get-entries, get-from_entries, len-empty, len-entries}
use Rattle.std.specs.FinMap.Entries.{below_all}
use Rattle.std.proofs.lemmas.Option.{same_Some, none-some}
use Rattle.lang_tree.specs.Tree.{Tree, Names, Dir, IsSound, path_cmp}
use Rattle.lang_tree.specs.Names.{times, path_count}
use Rattle.lang_tree.proofs.basics.Order.{path_total, path_same}
use Rattle.lang_tree.proofs.basics.Finds.{tied, apart, which_key, gone_here, was, put_back, later, first_is, find_left}

both : (a b : Bool) → T (a && b) → (T a) × (T b)
both a b h1 = grind arith

-- a number that is found is counted
pub counted : (es : List (List (List ℕ) × ℕ)) (p : List (List ℕ)) (n : ℕ) → find path_cmp p es ≡ Some n → 1 ≤ times n es
counted [] p n is = absurd (none-some n is)
counted (e ∷ es) p n is = by (eq_by_cmp path_cmp p e.0) is (counted es p n)
  where
    one : (b : Bool) → b ≡ true → 1 ≤ (if b then 1 else 0) + times n es
    one b h1 = grind arith

    by : (b : Bool) → cond b (Some e.1) (find path_cmp p es) ≡ Some n → (find path_cmp p es ≡ Some n → 1 ≤ times n es) → 1 ≤ times n (e ∷ es)
    by b h1 h2 = grind (arith, one, eq-eqb, same_Some)

below_found : (x : List (List ℕ)) (es : List (List (List ℕ) × ℕ)) (p : List (List ℕ)) (n : ℕ) → T (below_all path_cmp x es) → find path_cmp p es ≡ Some n → x ≡ p → ⊥
below_found x [] p n h is same = none-some n is
below_found x (e ∷ es) p n h is same = grind (arith, below_found x es p n, which_key path_same p e.0, which_key, path_same, path_total, both)

-- a number that is counted is found
pub uncounted : (es : List (List (List ℕ) × ℕ)) (n : ℕ) → T (is_sorted path_cmp es) → 1 ≤ times n es → (p : List (List ℕ)) × (find path_cmp p es ≡ Some n)
uncounted [] n h c = absurd (omega (arith, c))
uncounted (e ∷ es) n h c = by (e.1 == n) refl c (uncounted es n (both _ _ h).1)
  where
    by : (b : Bool) → (e.1 == n) ≡ b → 1 ≤ cond b 1 0 + times n es → (1 ≤ times n es → (p : List (List ℕ)) × (find path_cmp p es ≡ Some n)) → (p : List (List ℕ)) × (find path_cmp p (e ∷ es) ≡ Some n)
    by true is c go = (e.0, ap (λ b. cond b (Some e.1) (find path_cmp e.0 es)) (tied path_total e.0 e.0 refl) ∙ ap Some (eqb-true e.1 n is))
    by false is c go =
        let r = go (omega (arith, c)) in
        (r.0, ap (λ b. cond b (Some e.1) (find path_cmp r.0 es)) (apart path_same r.0 e.0 (λ at. below_found e.0 es r.0 n (both _ _ h).0 r.1 (sym at))) ∙ r.1)

pub used : (names : Names) (p : List (List ℕ)) (n : ℕ) → get names p ≡ Some n → 1 ≤ path_count names n
used names p n at = counted (entries names) p n (sym (get-entries names p) ∙ at)

pub unused : (names : Names) (p : List (List ℕ)) (n : ℕ) → (path_count names n == 0) ≡ true → get names p ≡ Some n → ⊥
unused names p n none at = let gone : path_count names n ≡ 0 = eqb-true (path_count names n) 0 none in omega (arith, gone, used names p n at)

pub used_by : (names : Names) (n : ℕ) → (path_count names n == 0) ≡ false → (p : List (List ℕ)) × (get names p ≡ Some n)
used_by names n some =
    let apart : path_count names n ≡ 0 → ⊥ = λ e. true≢false (sym (eq-eqb (path_count names n) 0 e) ∙ some) in
    let r = uncounted (entries names) n (entries_sorted names) (omega (arith, apart)) in
    (r.0, get-entries names r.0 ∙ r.1)

-- one for the number itself
abbrev pub one_for : ℕ → ℕ → ℕ
one_for m n = if m == n then 1 else 0

times_put : (es : List (List (List ℕ) × ℕ)) (p : List (List ℕ)) (m n : ℕ) → find path_cmp p es ≡ None → times n (put path_cmp p m es) ≡ one_for m n + times n es
times_put [] p m n none = refl
times_put (e ∷ es) p m n none = grind (arith, times_put es p m n, path_cmp p e.0)

pub count_inserted : (names : Names) (p : List (List ℕ)) (m n : ℕ) → get names p ≡ None → path_count (insert names p m) n ≡ one_for m n + path_count names n
count_inserted names p m n none = ap (times n) (entries-insert path_total names p m) ∙ times_put (entries names) p m n (sym (get-entries names p) ∙ none)

pub count_removed : (names : Names) (p : List (List ℕ)) (m n : ℕ) → get names p ≡ Some m → path_count names n ≡ one_for m n + path_count (remove names p) n
count_removed names p m n at = ap (λ names. path_count names n) (sym (put_back path_total path_same names p m at)) ∙ count_inserted (remove names p) p m n (gone_here path_total names p p refl)

-- the number that the path leads to has one less
pub one_less : (names : Names) (p : List (List ℕ)) (n : ℕ) → get names p ≡ Some n → path_count names n ≡ 1 + path_count (remove names p) n
one_less names p n at = count_removed names p n n at ∙ ap (λ b. (if b then 1 else 0) + path_count (remove names p) n) (eq-eqb n n refl)

-- it has none then exactly where the path was its only one
pub was_last : (names : Names) (p : List (List ℕ)) (n : ℕ) → get names p ≡ Some n → (path_count (remove names p) n == 0) ≡ (path_count names n == 1)
was_last names p n at = grind (arith, one_less, eq-eqb, eqb-true)

-- a directory of a sound tree has one path
pub one_of_dir : (limit : ℕ) (t : Tree) → IsSound limit t → (p : List (List ℕ)) (n : ℕ) → get t.names p ≡ Some n → get t.nodes n ≡ Some Dir → path_count t.names n ≡ 1
one_of_dir limit t s p n at dir = by (path_count (remove t.names p) n == 0) refl
  where
    by : (b : Bool) → (path_count (remove t.names p) n == 0) ≡ b → path_count t.names n ≡ 1
    by true is = let none : path_count (remove t.names p) n ≡ 0 = eqb-true (path_count (remove t.names p) n) 0 is in omega (arith, none, one_less t.names p n at)
    by false is =
        let q = used_by (remove t.names p) n is in
        let same : q.0 ≡ p = s.one_path n q.0 p dir (was path_total t.names p q.0 n q.1) at in
        absurd (none-some n (sym (gone_here path_total t.names p q.0 same) ∙ q.1))

-- Other keys for all entries.

pub none_in : entries (empty {X = ℕ} {R = path_cmp}) ≡ []
none_in = nil_from_length (entries (empty {X = ℕ} {R = path_cmp})) (sym (len-entries (empty {X = ℕ} {R = path_cmp})) ∙ len-empty path_cmp ℕ)

-- no two keys of the entries come to one
abbrev pub KeepApart : (List (List ℕ) → List (List ℕ)) → List (List (List ℕ) × ℕ) → Type 0
KeepApart f es = (p q : List (List ℕ)) (m n : ℕ) → find path_cmp p es ≡ Some m → find path_cmp q es ≡ Some n → f p ≡ f q → p ≡ q

-- so it is behind the first entry
pub behind_first : (f : List (List ℕ) → List (List ℕ)) (e : List (List ℕ) × ℕ) (es : List (List (List ℕ) × ℕ)) → T (is_sorted path_cmp (e ∷ es)) → KeepApart f (e ∷ es) → (T (is_sorted path_cmp es)) × KeepApart f es
behind_first f e es h same = grind (arith, both, later, path_total)

-- and none of the others comes where the first one does
pub first_free : (f : List (List ℕ) → List (List ℕ)) (e : List (List ℕ) × ℕ) (es : List (List (List ℕ) × ℕ)) → T (is_sorted path_cmp (e ∷ es)) → KeepApart f (e ∷ es)
    → get (from_entries {R = path_cmp} (map (λ e. (f e.0, e.1)) es)) (f e.0) ≡ None
first_free f e es h same = get-from_entries path_total (map (λ e. (f e.0, e.1)) es) (f e.0)
    ∙ find_left path_total f (f e.0) es (λ k v is. apart path_same (f e.0) (f k) (λ t. below_found e.0 es k v (both _ _ h).0 is
    (same e.0 k e.1 (later path_total e es k v is).0 (first_is path_total e es) (later path_total e es k v is).1 t)))

pub count_moved : (f : List (List ℕ) → List (List ℕ)) (es : List (List (List ℕ) × ℕ)) (n : ℕ) → T (is_sorted path_cmp es) → KeepApart f es
    → path_count (from_entries (map (λ e. (f e.0, e.1)) es)) n ≡ times n es
count_moved f [] n h same = ap (times n) none_in
count_moved f (e ∷ es) n h same =
    let b = behind_first f e es h same in
    count_inserted (from_entries (map (λ e. (f e.0, e.1)) es)) (f e.0) e.1 n (first_free f e es h same) ∙ ap (λ k. one_for e.1 n + k) (count_moved f es n b.0 b.1)
