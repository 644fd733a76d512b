-- The names that the directory of a log holds rise, and so do the numbers of segments among them.
use Rattle.std.proofs.Common.{◌≡◌, ℕ, zero, suc, ◌+◌, ◌*◌, ◌/◌, ◌%◌, ◌^◌, ◌<◌, ◌≤◌, Bool, true, false, ◌&&◌, List, [], ◌∷◌, ◌++◌, length, Option, Some, None, refl, sym, ap, ◌∙◌, ◌⊎◌, inl, inr, subst, arith}
use Rattle.std.specs.Prelude.{T, ⊤}
use Rattle.std.proofs.lemmas.Bool.{cases_order}
use Rattle.std.proofs.lemmas.List.{length-append}
use Rattle.std.proofs.Math.Nat.{eq-or-lt_of_le, pow-suc}
use Rattle.std.specs.declared.cmp.Ordering.{Ordering}
use Rattle.std.specs.declared.cmp.Ordering.TheVariants.{Less, Equal, Greater}
use Rattle.std.specs.Ordering.{is_lt, nat_cmp, ordering_then}
use Rattle.std.specs.Cmp.{nat_cmp_is, tied_itself}
use Rattle.std.specs.Cmp.Lexicographic.{nat_list_cmp_total, slice_cmp}
use Rattle.std.specs.FinMap.{entries, entries_sorted, get}
use Rattle.std.specs.FinMap.Entries.{below_all, is_sorted}
use Rattle.std.specs.List.{AllByRecursion, cons_option}
use Rattle.lang_tree.specs.Names.{names_in}
use Rattle.lang_tree.specs.Paths.{name_in}
use Rattle.lang_tree.specs.Tree.{Names, path_cmp}
use Rattle.lang_log.specs.Names.{digits, log_path, path_in_log, segment_name, segment_path}
use Rattle.lang_log.specs.Segments.{IsOneOf}
use Rattle.lang_log.proofs.Digits.{same_number}
use Rattle.lang_log.proofs.Listed.{all_held, held_by, named_so}

-- Numbers of as many digits are in the order of these.

then_in_turn : (o s t : Ordering) → ordering_then o (ordering_then s t) ≡ ordering_then (ordering_then o s) t
then_in_turn Less s t = refl
then_in_turn Equal s t = refl
then_in_turn Greater s t = refl

last_digit : (xs ys : List ℕ) (a b : ℕ) → length xs ≡ length ys
    → slice_cmp nat_cmp (xs ++ a ∷ []) (ys ++ b ∷ []) ≡ ordering_then (slice_cmp nat_cmp xs ys) (ordering_then (nat_cmp a b) Equal)
last_digit [] [] a b long = refl
last_digit [] (y ∷ ys) a b long = absurd (omega (arith, long))
last_digit (x ∷ xs) [] a b long = absurd (omega (arith, long))
last_digit (x ∷ xs) (y ∷ ys) a b long =
    ap (ordering_then (nat_cmp x y)) (last_digit xs ys a b (omega (arith, long)))
    ∙ then_in_turn (nat_cmp x y) (slice_cmp nat_cmp xs ys) (ordering_then (nat_cmp a b) Equal)

pub so_many : (k n : ℕ) → length (digits k n) ≡ k
so_many zero n = refl
so_many (suc k) n = omega (arith, length-append (digits k (n / 10)) ((48 + n % 10) ∷ []), so_many k (n / 10))

digits_rise : (k m n : ℕ) → m < n → n < 10 ^ k → slice_cmp nat_cmp (digits k m) (digits k n) ≡ Less
digits_rise zero m n less few = absurd (omega (arith, less, few))
digits_rise (suc k) m n less few =
    last_digit (digits k (m / 10)) (digits k (n / 10)) (48 + m % 10) (48 + n % 10) (so_many k (m / 10) ∙ sym (so_many k (n / 10)))
    ∙ by (eq-or-lt_of_le front) (digits_rise k (m / 10) (n / 10))
  where
    front : m / 10 ≤ n / 10
    front = omega (arith, less)

    by : (m / 10 ≡ n / 10) ⊎ (m / 10 < n / 10)
        → (m / 10 < n / 10 → n / 10 < 10 ^ k → slice_cmp nat_cmp (digits k (m / 10)) (digits k (n / 10)) ≡ Less)
        → ordering_then (slice_cmp nat_cmp (digits k (m / 10)) (digits k (n / 10))) (ordering_then (nat_cmp (48 + m % 10) (48 + n % 10)) Equal) ≡ Less
    by (inr before) more =
        ap (λ o. ordering_then o (ordering_then (nat_cmp (48 + m % 10) (48 + n % 10)) Equal)) (more before (omega (arith, few, pow-suc 10 k)))
    by (inl same) more =
        ap (λ o. ordering_then o (ordering_then (nat_cmp (48 + m % 10) (48 + n % 10)) Equal))
        (ap (λ d. slice_cmp nat_cmp (digits k d) (digits k (n / 10))) same ∙ tied_itself nat_list_cmp_total (digits k (n / 10)))
        ∙ ap (λ o. ordering_then o Equal) (sym (nat_cmp_is (48 + m % 10) (48 + n % 10) Less (omega (arith, less, same))))

-- a name before another one is that of a lesser number
number_rises : (m n : ℕ) → m < 4294967296 → n < 4294967296 → slice_cmp nat_cmp (segment_name m) (segment_name n) ≡ Less → m < n
number_rises m n a b before = by (cases_order m n)
  where
    by : (m ≡ n) ⊎ ((m < n) ⊎ (n < m)) → m < n
    by (inl same) =
        let tied = ap (λ m. slice_cmp nat_cmp (segment_name m) (segment_name n)) same ∙ tied_itself nat_list_cmp_total (segment_name n) in absurd cc
    by (inr (inl less)) = less
    by (inr (inr more)) =
        let back = digits_rise 10 n m more (omega (arith, a)) in
        let circle = nat_list_cmp_total.trans (segment_name m) (segment_name n) (segment_name m) before back in
        let tied = tied_itself nat_list_cmp_total (segment_name m) in absurd cc

-- The names rise: each comes before all behind it.

less_of : (o : Ordering) → T (is_lt o) → o ≡ Less
less_of Less h = refl
less_of Equal h = absurd h
less_of Greater h = absurd h

less_then : (o : Ordering) → ordering_then o Equal ≡ Less → o ≡ Less
less_then Less e = refl
less_then Equal e = absurd cc
less_then Greater e = absurd cc

both_hold : (a b : Bool) → T (a && b) → T a × T b
both_hold true b h = (tt, h)
both_hold false b h = absurd h

above : (x : List ℕ) (es : List (List (List ℕ) × ℕ)) → T (below_all path_cmp (path_in_log x) es)
    → AllByRecursion (λ y. slice_cmp nat_cmp x y ≡ Less) (held_by es)
above x [] h = tt
above x (e ∷ es) h = by (name_in log_path e.0) refl (above x es parts.1)
  where
    parts : T (is_lt (path_cmp (path_in_log x) e.0)) × T (below_all path_cmp (path_in_log x) es)
    parts = both_hold _ _ h

    by : (o : Option (List ℕ)) → name_in log_path e.0 ≡ o → AllByRecursion (λ y. slice_cmp nat_cmp x y ≡ Less) (held_by es)
        → AllByRecursion (λ y. slice_cmp nat_cmp x y ≡ Less) (cons_option o (held_by es))
    by None is rest = rest
    by (Some y) is rest =
        (less_then (slice_cmp nat_cmp x y) (ap (path_cmp (path_in_log x)) (sym (named_so e.0 y is)) ∙ less_of _ parts.0), rest)

abbrev Rise : List (List ℕ) → Type 0
Rise [] = ⊤
Rise (x ∷ xs) = AllByRecursion (λ y. slice_cmp nat_cmp x y ≡ Less) xs × Rise xs

in_order : (es : List (List (List ℕ) × ℕ)) → T (is_sorted path_cmp es) → Rise (held_by es)
in_order [] h = tt
in_order (e ∷ es) h = by (name_in log_path e.0) refl (in_order es parts.1)
  where
    parts : T (below_all path_cmp e.0 es) × T (is_sorted path_cmp es)
    parts = both_hold _ _ h

    by : (o : Option (List ℕ)) → name_in log_path e.0 ≡ o → Rise (held_by es)
        → Rise (cons_option o (held_by es))
    by None is rest = rest
    by (Some x) is rest = (above x es (subst (λ p. T (below_all path_cmp p es)) (named_so e.0 x is) parts.0), rest)

-- Two names of which one comes directly behind the other.

all_one : {A : Type 0} (P : A → Type 0) (x : A) (xs : List A) → AllByRecursion P xs → IsOneOf x xs → P x
all_one P x [] all one = absurd one
all_one P x (y ∷ ys) all (inl e) = subst P (sym e) all.0
all_one P x (y ∷ ys) all (inr one) = all_one P x ys all.1 one

at_seam : (before : List (List ℕ)) (a : List ℕ) (rest : List (List ℕ)) → IsOneOf a (before ++ a ∷ rest)
at_seam [] a rest = inl refl
at_seam (q ∷ before) a rest = inr (at_seam before a rest)

neighbours_rise : (before : List (List ℕ)) (a b : List ℕ) (behind : List (List ℕ))
    → Rise (before ++ a ∷ b ∷ behind) → slice_cmp nat_cmp a b ≡ Less
neighbours_rise [] a b behind h = h.0.0
neighbours_rise (q ∷ before) a b behind h = neighbours_rise before a b behind h.1

-- any other name comes before both or behind both
elsewhere : (before : List (List ℕ)) (a b : List ℕ) (behind : List (List ℕ)) (x : List ℕ)
    → Rise (before ++ a ∷ b ∷ behind) → IsOneOf x (before ++ a ∷ b ∷ behind)
    → (slice_cmp nat_cmp x a ≡ Less) ⊎ ((x ≡ a) ⊎ ((x ≡ b) ⊎ (slice_cmp nat_cmp b x ≡ Less)))
elsewhere [] a b behind x h (inl e) = inr (inl e)
elsewhere [] a b behind x h (inr (inl e)) = inr (inr (inl e))
elsewhere [] a b behind x h (inr (inr one)) = inr (inr (inr (all_one (λ y. slice_cmp nat_cmp b y ≡ Less) x behind h.1.0 one)))
elsewhere (q ∷ before) a b behind x h (inl e) =
    inl (ap (λ x. slice_cmp nat_cmp x a) e
    ∙ all_one (λ y. slice_cmp nat_cmp q y ≡ Less) a (before ++ a ∷ b ∷ behind) h.0 (at_seam before a (b ∷ behind)))
elsewhere (q ∷ before) a b behind x h (inr one) = elsewhere before a b behind x h.1 one

module _ (names : Names) (before behind : List (List ℕ)) (m n : ℕ) (low : m < 4294967296) (few : n < 4294967296)
    (e : names_in names log_path ≡ before ++ segment_name m ∷ segment_name n ∷ behind) where
  sorted : Rise (before ++ segment_name m ∷ segment_name n ∷ behind)
  sorted = subst (Rise) e (in_order (entries names) (entries_sorted names))

  pub rising : m < n
  rising = number_rises m n low few (neighbours_rise before (segment_name m) (segment_name n) behind sorted)

  pub none_between : (between : ℕ) → m < between → between < n → get names (segment_path between) ≡ None
  none_between between above below = by (get names (segment_path between)) refl
    where
      fits : between < 4294967296
      fits = omega (arith, below, few)

      none : (slice_cmp nat_cmp (segment_name between) (segment_name m) ≡ Less)
          ⊎ ((segment_name between ≡ segment_name m) ⊎ ((segment_name between ≡ segment_name n) ⊎ (slice_cmp nat_cmp (segment_name n) (segment_name between) ≡ Less))) → ⊥
      none (inl less) = omega (arith, above, number_rises between m fits low less)
      none (inr (inl same)) = omega (arith, above, same_number between m (omega (arith, fits)) (omega (arith, low)) same)
      none (inr (inr (inl same))) = omega (arith, below, same_number between n (omega (arith, fits)) (omega (arith, few)) same)
      none (inr (inr (inr more))) = omega (arith, below, number_rises n between few fits more)

      by : (o : Option ℕ) → get names (segment_path between) ≡ o → get names (segment_path between) ≡ None
      by None is = is
      by (Some k) is =
          absurd (none (elsewhere before (segment_name m) (segment_name n) behind (segment_name between) sorted
          (subst (IsOneOf (segment_name between)) e (all_held names (segment_name between) k is))))

pub names_rise : (names : Names) (before behind : List (List ℕ)) (m n : ℕ) → m < 2 ^ 32 → n < 2 ^ 32
    → names_in names log_path ≡ before ++ segment_name m ∷ segment_name n ∷ behind
    → (m < n) × ((between : ℕ) → m < between → between < n → get names (segment_path between) ≡ None)
names_rise names before behind m n low few e = (rising names before behind m n low few e, none_between names before behind m n low few e)
