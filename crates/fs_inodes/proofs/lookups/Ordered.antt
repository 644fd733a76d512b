-- The names of a directory's slots, sorted, are the names that the tree has there.
use Rattle.std.proofs.Common.{◌≡◌, ℕ, zero, suc, ◌<◌, Bool, true, false, cond, T, List, [], ◌∷◌, map, length, get_or, set, slice_get, Some, None, is_some, refl, sym, ap, ◌∙◌, ◌⊎◌, inl, inr, arith}
use Rattle.std.proofs.lemmas.Bool.{cases_eq}
use Rattle.std.proofs.lemmas.Option.{slice_get-get_or, slice_get_within, get_or_from_slice_get, same_Some, none-some}
use Rattle.std.proofs.lemmas.List.Sorted.{IsPermutation-keeps, IsPermutation-sym, All-permutation, sorted_far, ranks_by}
use Rattle.std.specs.List.{All, swap}
use Rattle.std.specs.List.Sorted.{IsPermutation, IsSorted}
use Rattle.std.specs.Ordering.{eq_by_cmp, is_lt, ordering_reverse}
use Rattle.std.specs.declared.cmp.Ordering.{Ordering}
use Rattle.std.specs.declared.cmp.Ordering.TheVariants.{Equal}
use Rattle.std.specs.FinMap.{entries, keys, from_sorted, find, is_sorted, entries_sorted, get-entries, get-from_sorted, entries-from_sorted, same_map}
use Rattle.std.specs.FinMap.Entries.{below_all}
use Rattle.layout_bytes.specs.declared.slot.Slot.{Slot}
use Rattle.crash_stands.specs.Inodes.{AreDistinct}
use Rattle.crash_stands.specs.Walks.{node_in}
use Rattle.fs_inodes.proofs.basics.Paths.{which}
use Rattle.fs_inodes.proofs.basics.FinMaps.{tied, which_key}
use Rattle.fs_inodes.proofs.slots.Slots.{set_here, set_other, finds, found}
use Rattle.fs_inodes.proofs.lookups.Rows.{name_cmp, name_total, name_same, row_in, row_at, join_of, both_of}

-- each name is at one place at most
abbrev OnePlace : List (List ℕ) → Type 0
OnePlace l = (i j : ℕ) (x : List ℕ) → slice_get l i ≡ Some x → slice_get l j ≡ Some x → i ≡ j

-- where what is in a list after an exchange stood before it
came : (l : List (List ℕ)) (a b k : ℕ) (x : List ℕ) → a < length l → b < length l → slice_get (swap l a b) k ≡ Some x
    → ((k ≡ b) × (slice_get l a ≡ Some x)) ⊎ (((k ≡ b → ⊥) × (k ≡ a) × (slice_get l b ≡ Some x)) ⊎ ((k ≡ b → ⊥) × (k ≡ a → ⊥) × (slice_get l k ≡ Some x)))
came [] a b k x low_a low_b e = absurd (omega (arith, low_a))
came (d ∷ ys) a b k x low_a low_b e = by (cases_eq k b) (cases_eq k a)
  where
    first : List (List ℕ)
    first = set (d ∷ ys) a (get_or (d ∷ ys) b d)

    at_a : slice_get (d ∷ ys) a ≡ Some (get_or (d ∷ ys) a d)
    at_a = slice_get-get_or (d ∷ ys) a d low_a

    at_b : slice_get (d ∷ ys) b ≡ Some (get_or (d ∷ ys) b d)
    at_b = slice_get-get_or (d ∷ ys) b d low_b

    -- something is at b after the first step
    there : (y : List ℕ) × (slice_get (set (d ∷ ys) a (get_or (d ∷ ys) b d)) b ≡ Some y)
    there = by (cases_eq b a)
      where
        by : (b ≡ a) ⊎ (b ≡ a → ⊥) → (y : List ℕ) × (slice_get (set (d ∷ ys) a (get_or (d ∷ ys) b d)) b ≡ Some y)
        by (inl same) = (get_or (d ∷ ys) b d, ap (slice_get (set (d ∷ ys) a (get_or (d ∷ ys) b d))) same ∙ set_here (d ∷ ys) a _ _ at_a)
        by (inr off) = (get_or (d ∷ ys) b d, set_other (d ∷ ys) a b _ off ∙ at_b)

    by : (k ≡ b) ⊎ (k ≡ b → ⊥) → (k ≡ a) ⊎ (k ≡ a → ⊥)
        → ((k ≡ b) × (slice_get (d ∷ ys) a ≡ Some x)) ⊎ (((k ≡ b → ⊥) × (k ≡ a) × (slice_get (d ∷ ys) b ≡ Some x)) ⊎ ((k ≡ b → ⊥) × (k ≡ a → ⊥) × (slice_get (d ∷ ys) k ≡ Some x)))
    by h1 h2 = grind (arith, at_a, set_here, set_other, at_b)

-- where what is in a list after an exchange stood before it, in a word
abbrev Came : List (List ℕ) → ℕ → ℕ → List ℕ → ℕ → Type 0
Came l a b x k = ((k ≡ b) × (slice_get l a ≡ Some x)) ⊎ (((k ≡ b → ⊥) × (k ≡ a) × (slice_get l b ≡ Some x)) ⊎ ((k ≡ b → ⊥) × (k ≡ a → ⊥) × (slice_get l k ≡ Some x)))

-- an exchange leaves each name at one place
swapped_one : (l : List (List ℕ)) (a b : ℕ) → a < length l → b < length l → OnePlace l → OnePlace (swap l a b)
swapped_one l a b low_a low_b one i j x at_i at_j = by (came l a b i x low_a low_b at_i) (came l a b j x low_a low_b at_j)
  where
    by : Came l a b x i → Came l a b x j → i ≡ j
    by (inl e) (inl f) = e.0 ∙ sym f.0
    by (inl e) (inr (inl f)) = let same = one a b x e.1 f.2 in absurd (f.0 (f.1 ∙ same))
    by (inl e) (inr (inr f)) = let same = one a j x e.1 f.2 in absurd (f.1 (sym same))
    by (inr (inl e)) (inl f) = let same = one a b x f.1 e.2 in absurd (e.0 (e.1 ∙ same))
    by (inr (inl e)) (inr (inl f)) = e.1 ∙ sym f.1
    by (inr (inl e)) (inr (inr f)) = let same = one b j x e.2 f.2 in absurd (f.0 (sym same))
    by (inr (inr e)) (inl f) = let same = one a i x f.1 e.2 in absurd (e.1 (sym same))
    by (inr (inr e)) (inr (inl f)) = let same = one b i x f.2 e.2 in absurd (e.0 (sym same))
    by (inr (inr e)) (inr (inr f)) = one i j x e.2 f.2

-- and so does every shuffle
shuffled_one : (xs ys : List (List ℕ)) → IsPermutation xs ys → OnePlace xs → OnePlace ys
shuffled_one xs ys p one = IsPermutation-keeps xs OnePlace one (λ l i j low_i low_j h. swapped_one l i j low_i low_j h) ys p

-- A list that doesn't fall and has each name once rises.

-- names with a number that doesn't count
abbrev pub zeros : List (List ℕ) → List (List ℕ × ℕ)
zeros l = map (λ b. (b, 0)) l

-- what isn't greater and isn't equal is less
is_less : (o : Ordering) → is_lt (ordering_reverse o) ≡ false → (o ≡ Equal → ⊥) → T (is_lt o)
is_less o h1 h2 = grind arith

-- a name is before a list where it is before each
all_behind : (x : List ℕ) (xs : List (List ℕ)) → ((i : ℕ) (y : List ℕ) → slice_get xs i ≡ Some y → T (is_lt (name_cmp x y))) → T (below_all name_cmp x (zeros xs))
all_behind x [] h = tt
all_behind x (y ∷ xs) h = join_of _ _ (h 0 y refl) (all_behind x xs (λ i z at. h (suc i) z at))

-- a list rises where each name is before all later ones
rises : (xs : List (List ℕ)) → ((i j : ℕ) (x y : List ℕ) → i < j → slice_get xs i ≡ Some x → slice_get xs j ≡ Some y → T (is_lt (name_cmp x y))) → T (is_sorted name_cmp (zeros xs))
rises [] h = tt
rises (x ∷ xs) h = join_of _ _ (all_behind x xs (λ i y at. h 0 (suc i) x y (omega arith) refl at)) (rises xs (λ i j u v low at_i at_j. h (suc i) (suc j) u v (omega (arith, low)) at_i at_j))

-- a sorted list of names that differ rises
sorted_rises : (xs : List (List ℕ)) → IsSorted name_cmp xs → OnePlace xs → T (is_sorted name_cmp (zeros xs))
sorted_rises xs up one = rises xs (λ i j x y low at_i at_j.
    let far = sorted_far (λ a b. is_lt (name_cmp a b)) (ranks_by name_total (λ (z : List ℕ). z)) xs up i j x (omega (arith, low)) (slice_get_within xs j y at_j) in
    let as_given : is_lt (name_cmp y x) ≡ false = ap (λ a. is_lt (name_cmp a x)) (sym (get_or_from_slice_get xs j y x at_j)) ∙ ap (λ b. is_lt (name_cmp (get_or xs j x) b)) (sym (get_or_from_slice_get xs i x x at_i)) ∙ far in
    is_less (name_cmp x y) (ap is_lt (sym (name_total.antisymm y x)) ∙ as_given)
    (λ equal. let same = one i j x at_i (at_j ∙ ap Some (sym (name_same x y equal))) in omega (arith, low, same)))

-- Whether a name is in the list.

-- what is found among zeros is a zero
zero_there : (q : List ℕ) (xs : List (List ℕ)) (n : ℕ) → find name_cmp q (zeros xs) ≡ Some n → n ≡ 0
zero_there q [] n e = absurd (none-some n e)
zero_there q (x ∷ xs) n e = by (eq_by_cmp name_cmp q x) e (zero_there q xs n)
  where
    by : (b : Bool) → cond b (Some 0) (find name_cmp q (zeros xs)) ≡ Some n → (find name_cmp q (zeros xs) ≡ Some n → n ≡ 0) → n ≡ 0
    by b h1 h2 = grind (arith, same_Some)

-- a name that no one has isn't found
not_in : (q : List ℕ) (xs : List (List ℕ)) → All (λ x. x ≡ q → ⊥) xs → find name_cmp q (zeros xs) ≡ None
not_in q [] all = refl
not_in q (x ∷ xs) all = by (which_key name_total name_same q x) (not_in q xs (λ k d low. all (suc k) d (omega (arith, low))))
  where
    by : (q ≡ x) ⊎ (eq_by_cmp name_cmp q x ≡ false) → find name_cmp q (zeros xs) ≡ None → cond (eq_by_cmp name_cmp q x) (Some 0) (find name_cmp q (zeros xs)) ≡ None
    by h1 h2 = grind (arith, name_cmp)

-- a name that isn't found is at no place
none_in : (q : List ℕ) (xs : List (List ℕ)) → find name_cmp q (zeros xs) ≡ None → (i : ℕ) (x : List ℕ) → slice_get xs i ≡ Some x → x ≡ q → ⊥
none_in q [] none i x at same = none-some x at
none_in q (y ∷ xs) none zero x at same = grind (arith, none-some, name_cmp, tied, name_total, name_same, same_Some)
none_in q (y ∷ xs) none (suc i) x at same = grind (arith, none_in q xs, which_key name_total name_same q y, which_key, name_total, name_same, name_cmp, none-some, tied)

-- so no one has it
none_of : (q : List ℕ) (xs : List (List ℕ)) → find name_cmp q (zeros xs) ≡ None → All (λ x. x ≡ q → ⊥) xs
none_of q xs none k d low = none_in q xs none k (get_or xs k d) (slice_get-get_or xs k d low)

-- The keys of a map, with zeros for what they have.

-- the keys of later entries come later
keys_below : (x : List ℕ) (es : List (List ℕ × ℕ)) → T (below_all name_cmp x es) → T (below_all name_cmp x (zeros (map (λ e. e.0) es)))
keys_below x [] h = tt
keys_below x (e ∷ es) h = join_of _ _ (both_of _ _ h).0 (keys_below x es (both_of _ _ h).1)

-- the keys of a map rise
pub keys_rise : (es : List (List ℕ × ℕ)) → T (is_sorted name_cmp es) → T (is_sorted name_cmp (zeros (map (λ e. e.0) es)))
keys_rise [] h = tt
keys_rise (e ∷ es) h = join_of _ _ (keys_below e.0 es (both_of _ _ h).0) (keys_rise es (both_of _ _ h).1)

-- a key is found among the keys where it has a value
pub key_found : (q : List ℕ) (es : List (List ℕ × ℕ)) → is_some (find name_cmp q (zeros (map (λ e. e.0) es))) ≡ is_some (find name_cmp q es)
key_found q [] = refl
key_found q (e ∷ es) = grind (arith, key_found q es, eq_by_cmp name_cmp q e.0, name_cmp)

-- the names of names with zeros
first_part : (l : List (List ℕ)) → map (λ e. e.0) (zeros l) ≡ l
first_part [] = refl
first_part (x ∷ l) = ap (λ l. x ∷ l) (first_part l)

module _ (slots : List Slot) (distinct : AreDistinct slots) (names : List (List ℕ)) (shuffled : IsPermutation (map (λ s. s.name) slots) names) (up : IsSorted name_cmp names) where
  -- a name among them is that of a slot
  named : (l : List Slot) (i : ℕ) (x : List ℕ) → slice_get (map (λ s. s.name) l) i ≡ Some x → (s : Slot) × (slice_get l i ≡ Some s) × (s.name ≡ x)
  named [] i x e = absurd (none-some x e)
  named (s ∷ l) zero x e = (s, refl, same_Some s.name x e)
  named (s ∷ l) (suc i) x e = named l i x e

  -- and each slot's is among them
  at_name : (l : List Slot) (i : ℕ) (s : Slot) → slice_get l i ≡ Some s → slice_get (map (λ s. s.name) l) i ≡ Some s.name
  at_name [] i s e = absurd (none-some s e)
  at_name (r ∷ l) zero s e = ap (λ r. Some r.name) (same_Some r s e)
  at_name (r ∷ l) (suc i) s e = at_name l i s e

  -- each is at one place
  one_place : OnePlace (map (λ s. s.name) slots)
  one_place i j x at_i at_j = grind (arith, named)

  -- the sorted names rise
  names_rise : T (is_sorted name_cmp (zeros names))
  names_rise = sorted_rises names up (shuffled_one (map (λ s. s.name) slots) names shuffled one_place)

  -- a name is a key of the row where something is under it
  in_keys : (q : List ℕ) → is_some (find name_cmp q (zeros (keys (row_in slots)))) ≡ is_some (node_in slots q)
  in_keys q = key_found q (entries (row_in slots)) ∙ ap is_some (sym (get-entries (row_in slots) q) ∙ row_at slots q)

  -- a name under which something stands is among the sorted ones
  some_in : (q : List ℕ) (n : ℕ) → node_in slots q ≡ Some n → find name_cmp q (zeros names) ≡ None → ⊥
  some_in q n is none =
      let s = found slots q n is in
      let all : All (λ x. x ≡ q → ⊥) (map (λ s. s.name) slots) = All-permutation (λ x. x ≡ q → ⊥) names (map (λ s. s.name) slots) (IsPermutation-sym (map (λ s. s.name) slots) names shuffled) (none_of q names none) in
      let at = at_name slots s.1.0 s.0 s.1.1 in
      all s.1.0 s.0.name (slice_get_within (map (λ s. s.name) slots) s.1.0 s.0.name at) (get_or_from_slice_get (map (λ s. s.name) slots) s.1.0 s.0.name s.0.name at ∙ s.2)

  -- and one under which nothing stands isn't
  none_there : (q : List ℕ) → node_in slots q ≡ None → find name_cmp q (zeros names) ≡ None
  none_there q none = not_in q names (All-permutation (λ x. x ≡ q → ⊥) (map (λ s. s.name) slots) names shuffled
      (λ k d low same.
      let s = named slots k (get_or (map (λ s. s.name) slots) k d) (slice_get-get_or (map (λ s. s.name) slots) k d low) in
      none-some s.0.node (sym (ap (node_in slots) (s.2 ∙ same) ∙ none) ∙ finds slots k s.0 distinct s.1)))

  -- what is found is a zero
  zero_of : (q : List ℕ) (l : List (List ℕ)) → is_some (find name_cmp q (zeros l)) ≡ true → find name_cmp q (zeros l) ≡ Some 0
  zero_of q l e = grind (arith, name_cmp, zero_there)

  -- what isn't found is none
  none_if : (q : List ℕ) (l : List (List ℕ)) → is_some (find name_cmp q (zeros l)) ≡ false → find name_cmp q (zeros l) ≡ None
  none_if q l e = grind (arith, name_cmp)

  -- so the same names are found in both lists
  same_found : (q : List ℕ) → find name_cmp q (zeros (keys (row_in slots))) ≡ find name_cmp q (zeros names)
  same_found q = grind (arith, which (node_in slots q), keys (row_in slots), which, name_cmp, zero_of, some_in, none_if, row_in, in_keys, none_there)

  -- the keys of the row rise
  keys_sorted : T (is_sorted name_cmp (zeros (keys (row_in slots))))
  keys_sorted = keys_rise (entries (row_in slots)) (entries_sorted (row_in slots))

  -- the sorted names are the keys of the row
  pub sorted_is_keys : names ≡ keys (row_in slots)
  sorted_is_keys =
      let maps : from_sorted {R = name_cmp} (zeros (keys (row_in slots))) ≡ from_sorted (zeros names)
      = same_map name_total name_same _ _ (λ q. get-from_sorted name_cmp (zeros (keys (row_in slots))) q keys_sorted ∙ same_found q ∙ sym (get-from_sorted name_cmp (zeros names) q names_rise)) in
      let lists : zeros (keys (row_in slots)) ≡ zeros names
      = sym (entries-from_sorted name_cmp (zeros (keys (row_in slots))) keys_sorted) ∙ ap entries maps ∙ entries-from_sorted name_cmp (zeros names) names_rise in
      sym (first_part names) ∙ ap (map (λ e. e.0)) (sym lists) ∙ first_part (keys (row_in slots))
