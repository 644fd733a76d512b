-- What a search tree from names to snapshots says of the finite map that it is: its entries, one by one.
use Rattle.std.proofs.Common.{◌≡◌, ℕ, ◌==◌, Bool, true, false, cond, ◌||◌, List, [], ◌∷◌, ◌++◌, length, map, Option, Some, None, option_map, Bor, option_copied, refl, sym, ap, ap₂, subst, ◌∙◌, ◌⊎◌, inl, inr, append_assoc, append-nil}
use Rattle.std.proofs.lemmas.Option.{none-some, same_Some}
use Rattle.std.proofs.lemmas.List.{nil_from_length}
use Rattle.std.specs.List.{AllByRecursion}
use Rattle.std.specs.List.Sorted.{IsStrictlySortedBy}
use Rattle.std.specs.Ordering.{eq_by_cmp}
use Rattle.std.specs.declared.cmp.Ordering.{Ordering}
use Rattle.std.specs.declared.cmp.Ordering.TheVariants.{Less, Equal}
use Rattle.std.specs.Cmp.{tied_itself}
use Rattle.std.specs.FinMap.{FinMap, get, insert, empty, entries, from_entries, from_entries_push, get-from_entries, get-entries, find, same_map}
use Rattle.fs_memtree.specs.Kept.{name_cmp}
use Rattle.fs_memtree.proofs.keys.Keys.{name_total, name_same, which_key, tied, apart}
use Rattle.fs_memtree.proofs.keys.InOrder.{Rise, tree_in_order, entries_empty}

-- a value that is lent
pub seen_copied : {X : Type 0} (o : Option (Bor X)) → option_map (λ x. x.now) o ≡ option_copied o
seen_copied None = refl
seen_copied (Some x) = refl

no_less : Less ≡ Equal → ⊥
no_less e = cc

differ : (k q : List ℕ) → name_cmp k q ≡ Less → eq_by_cmp name_cmp q k ≡ false
differ k q low = apart name_total name_same q k (λ same. no_less (sym low ∙ ap (name_cmp k) same ∙ tied_itself name_total k))

module _ {X : Type 0} where
  -- what holds of each entry holds of what is found
  found_all : (P : List ℕ × X → Type 0) (es : List (List ℕ × X)) → AllByRecursion P es → (q : List ℕ) (x : X) → find name_cmp q es ≡ Some x → P (q, x)
  found_all P [] all q x at = absurd (none-some x at)
  found_all P (e ∷ es) all q x at = by (which_key name_total name_same q e.0) (found_all P es all.1 q x)
    where
      by : (q ≡ e.0) ⊎ (eq_by_cmp name_cmp q e.0 ≡ false) → (find name_cmp q es ≡ Some x → P (q, x)) → P (q, x)
      by (inl same) later =
          let same_x : e.1 ≡ x = same_Some e.1 x (sym (ap (λ b. cond b (Some e.1) (find name_cmp q es)) (tied name_total name_same q e.0 same)) ∙ at) in
          subst P (ap₂ (λ a b. (a, b)) (sym same) same_x) all.0
      by (inr off) later = later (sym (ap (λ b. cond b (Some e.1) (find name_cmp q es)) off) ∙ at)

  less_at : (k : List ℕ) (front : List (List ℕ × X)) (e : List ℕ × X) (es : List (List ℕ × X)) → AllByRecursion (λ y. name_cmp k y ≡ Less) (map (λ d. d.0) (front ++ e ∷ es)) → name_cmp k e.0 ≡ Less
  less_at k [] e es all = all.0
  less_at k (f ∷ front) e es all = less_at k front e es all.1

  none_before : (front : List (List ℕ × X)) (e : List ℕ × X) (es : List (List ℕ × X)) → Rise name_cmp (front ++ e ∷ es) → find name_cmp e.0 front ≡ None
  unfolding IsStrictlySortedBy
  none_before [] e es rise = refl
  none_before (f ∷ front) e es rise =
      ap (λ b. cond b (Some f.1) (find name_cmp e.0 front)) (differ f.0 e.0 (less_at f.0 front e es rise.0)) ∙ none_before front e es rise.1

  found_there : (front : List (List ℕ × X)) (e : List ℕ × X) (es : List (List ℕ × X)) → Rise name_cmp (front ++ e ∷ es) → find name_cmp e.0 (front ++ e ∷ es) ≡ Some e.1
  unfolding IsStrictlySortedBy
  found_there [] e es rise = ap (λ b. cond b (Some e.1) (find name_cmp e.0 es)) (tied name_total name_same e.0 e.0 refl)
  found_there (f ∷ front) e es rise =
      ap (λ b. cond b (Some f.1) (find name_cmp e.0 (front ++ e ∷ es))) (differ f.0 e.0 (less_at f.0 front e es rise.0)) ∙ found_there front e es rise.1

  -- each entry is found in all of them
  each_found : (all front es : List (List ℕ × X)) → all ≡ front ++ es → Rise name_cmp all → AllByRecursion (λ e. find name_cmp e.0 all ≡ Some e.1) es
  each_found all front [] is rise = tt
  each_found all front (e ∷ es) is rise = (
    ap (find name_cmp e.0) is ∙ found_there front e es (subst (Rise name_cmp) is rise),
    each_found all (front ++ e ∷ []) es (is ∙ sym (append_assoc front (e ∷ []) es)) rise,
  )

  all_same : (P Q : List ℕ × X → Type 0) → ((e : List ℕ × X) → P e → Q e) → (es : List (List ℕ × X)) → AllByRecursion P es → AllByRecursion Q es
  all_same P Q more [] all = tt
  all_same P Q more (e ∷ es) all = (more e all.0, all_same P Q more es all.1)

  module _ (es : List (List ℕ × X)) (m : FinMap name_cmp X) (rise : Rise name_cmp es) (is : from_entries {R = name_cmp} es ≡ m) where
    -- the map has each entry of the tree
    pub each_there : AllByRecursion (λ e. get m e.0 ≡ Some e.1) es
    each_there = all_same (λ e. find name_cmp e.0 es ≡ Some e.1) (λ e. get m e.0 ≡ Some e.1)
        (λ e at. ap (λ n. get n e.0) (sym is) ∙ get-from_entries name_total es e.0 ∙ at) es (each_found es [] es refl rise)

    -- and what holds of each of them holds of what the map has
    pub all_there : (P : List ℕ × X → Type 0) → AllByRecursion P es → (q : List ℕ) (x : X) → get m q ≡ Some x → P (q, x)
    all_there P all q x at = found_all P es all q x (sym (ap (λ n. get n q) (sym is) ∙ get-from_entries name_total es q) ∙ at)

    -- its entries are those of the tree
    pub entries_there : entries m ≡ es
    entries_there = ap entries (sym is) ∙ tree_in_order es rise

-- Entries put in one behind the other.
abbrev pub put_all : {X : Type 0} → FinMap name_cmp X → List (List ℕ × X) → FinMap name_cmp X
put_all m [] = m
put_all m (e ∷ es) = put_all (insert m e.0 e.1) es

module _ {X : Type 0} where
  put_behind : (front es : List (List ℕ × X)) → Rise name_cmp (front ++ es) → put_all (from_entries {R = name_cmp} front) es ≡ from_entries {R = name_cmp} (front ++ es)
  put_behind front [] rise = ap from_entries (sym (append-nil front))
  put_behind front (e ∷ es) rise =
      let together = append_assoc front (e ∷ []) es in
      ap (λ m. put_all m es) (sym (from_entries_push name_total name_same front e.0 e.1 (none_before front e es rise)))
      ∙ put_behind (front ++ e ∷ []) es (subst (Rise name_cmp) (sym together) rise) ∙ ap from_entries together

  -- put into none they make the map
  pub put_all_makes : (es : List (List ℕ × X)) (m : FinMap name_cmp X) → Rise name_cmp es → from_entries {R = name_cmp} es ≡ m → put_all empty es ≡ m
  put_all_makes es m rise is = put_behind [] es rise ∙ is

-- Two maps that have all of each other are the same.
pub both_ways : {X : Type 0} (one two : FinMap name_cmp X) → ((q : List ℕ) (x : X) → get one q ≡ Some x → get two q ≡ Some x) → ((q : List ℕ) (x : X) → get two q ≡ Some x → get one q ≡ Some x) → one ≡ two
both_ways {X} one two there back = same_map name_total name_same one two (λ q. by q (get one q) (get two q) refl refl)
  where
    by : (q : List ℕ) (a b : Option X) → get one q ≡ a → get two q ≡ b → get one q ≡ get two q
    by q (Some x) b is_a is_b = is_a ∙ sym (there q x is_a)
    by q None None is_a is_b = is_a ∙ sym is_b
    by q None (Some y) is_a is_b = absurd (none-some y (sym is_a ∙ back q y is_b))

-- The map is empty where the tree has no entries.
module _ {X : Type 0} (es : List (List ℕ × X)) (m : FinMap name_cmp X) (rise : Rise name_cmp es) (is : from_entries {R = name_cmp} es ≡ m) where
  pub empty_there : length es ≡ 0 → m ≡ empty
  empty_there none = sym is ∙ ap from_entries (nil_from_length es none)

  pub none_there : m ≡ empty → length es ≡ 0
  none_there none = ap length (sym (entries_there es m rise is) ∙ ap entries none ∙ entries_empty name_cmp)
