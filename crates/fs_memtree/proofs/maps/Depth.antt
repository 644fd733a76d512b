-- No path of a tree has as many names as there are nodes: each of its fronts leads to a node of its own.
use Rattle.std.proofs.Common.{◌≡◌, ℕ, suc, ◌<◌, ◌≤◌, true, false, true≢false, if◌then◌else◌, ◌||◌, List, [], ◌∷◌, ◌++◌, length, Option, None, Some, IsSome, option_and_then, refl, sym, ap, subst, ◌∙◌, ◌⊎◌, inl, inr, arith, append_assoc}
use Rattle.std.proofs.lemmas.Map.Steps.{length-le_from_keys}
use Rattle.std.specs.List.{list_any, IsDistinct, AllByRecursion}
use Rattle.std.specs.Map.{lookup}
use Rattle.std.specs.Ordering.{nat_cmp, eq_by_cmp}
use Rattle.std.specs.Cmp.{nat_cmp_total, eq_by_cmp_equiv}
use Rattle.std.specs.FinMap.{nat_cmp-IsAntisymmetric, get, entries, len, find, get-entries, len-entries}
use Rattle.std.proofs.lemmas.Option.{none-some}
use Rattle.std.proofs.lemmas.Bool.Decides.{nat_tests}
use Rattle.layout_bytes.specs.declared.slot.Slot.{Slot}
use Rattle.lang_tree.specs.Tree.{Tree}
use Rattle.crash_stands.specs.Inodes.{Inode, Inodes, ADir}
use Rattle.crash_stands.specs.Maps.{IsMapOf}
use Rattle.crash_stands.specs.Walks.{entries_of, walk, LeadsTo}
use Rattle.fs_memtree.specs.Kept.{Kept, KeptNodes, map_of}
use Rattle.fs_memtree.proofs.keys.Keys.{which_key, apart}
use Rattle.fs_memtree.proofs.maps.Walking.{walk_last}

-- an item of a list
all_more : {A : Type 0} {P Q : A → Type 0} → ((x : A) → P x → Q x) → (xs : List A) → AllByRecursion P xs → AllByRecursion Q xs
all_more f [] all = tt
all_more f (x ∷ xs) all = (f x all.0, all_more f xs all.1)

all_of_none : {A : Type 0} (P : A → Type 0) (xs : List A) → length xs ≡ 0 → AllByRecursion P xs
all_of_none P [] e = tt
all_of_none P (x ∷ xs) e = absurd (omega (arith, e))

-- a walk that goes on from a node goes on from a directory
dir_or_end : (m : Inodes) (j n : ℕ) (rest : List (List ℕ)) → walk (entries_of m) j rest ≡ Some n → (rest ≡ []) ⊎ ((slots : List Slot) × (m j ≡ Some (ADir slots)))
dir_or_end m j n [] at = inl refl
dir_or_end m j n (x ∷ rest) at = inr (by (m j) refl)
  where
    by : (o : Option Inode) → m j ≡ o → (slots : List Slot) × (m j ≡ Some (ADir slots))
    by o e = grind (arith, nat_tests)

-- a node behind a path on a walk
abbrev IsBehind : Inodes → List (List ℕ) → ℕ → Type 0
IsBehind m here q = (name : List ℕ) × (s : List (List ℕ)) × LeadsTo m (here ++ name ∷ s) q

-- So many nodes behind a path on one walk, no two of them equal.
record Chain (m : Inodes) (here : List (List ℕ)) (n : ℕ) : Type 0 where
  numbers : List ℕ
  count : length numbers ≡ n
  behind : AllByRecursion (IsBehind m here) numbers
  distinct : IsDistinct (eq_by_cmp nat_cmp) numbers

none_distinct : IsDistinct (eq_by_cmp nat_cmp) []
unfolding IsDistinct
none_distinct = tt

more_distinct : (j : ℕ) (xs : List ℕ) → AllByRecursion (λ q. eq_by_cmp nat_cmp j q ≡ false) xs → IsDistinct (eq_by_cmp nat_cmp) xs → IsDistinct (eq_by_cmp nat_cmp) (j ∷ xs)
unfolding IsDistinct
more_distinct j xs all distinct = (all, distinct)

longer : (here s : List (List ℕ)) (name : List ℕ) → here ++ name ∷ s ≡ here → ⊥
longer [] s name e = cc
longer (x ∷ here) s name e = longer here s name cc

module _ (limit : ℕ) (m : Inodes) (t : Tree) (is : IsMapOf limit m t) where
  -- a node behind a directory is another one
  another : (here : List (List ℕ)) (j q : ℕ) (slots : List Slot) → m j ≡ Some (ADir slots) → LeadsTo m here j → IsBehind m here q → eq_by_cmp nat_cmp j q ≡ false
  another here j q slots dir at behind = grind (arith, nat_tests, apart, nat_cmp-IsAntisymmetric, longer)

  chain : (here rest : List (List ℕ)) (k n : ℕ) → LeadsTo m here k → walk (entries_of m) k rest ≡ Some n → Chain m here (length rest)
  chain here [] k n at there = record { numbers = []; count = refl; behind = tt; distinct = none_distinct }
  chain here (name ∷ rest) k n at there = by (entries_of m k name) refl there (λ j. chain (here ++ name ∷ []) rest j n)
    where
      at_next : (j : ℕ) → entries_of m k name ≡ Some j → LeadsTo m (here ++ name ∷ []) j
      at_next j entry = walk_last (entries_of m) 1 here name ∙ ap (option_and_then (λ k. entries_of m k name)) at ∙ entry

      others : (j : ℕ) → LeadsTo m (here ++ name ∷ []) j → (c : Chain m (here ++ name ∷ []) (length rest)) → (rest ≡ []) ⊎ ((slots : List Slot) × (m j ≡ Some (ADir slots)))
          → AllByRecursion (λ q. eq_by_cmp nat_cmp j q ≡ false) c.numbers
      others j leads c (inl end) = all_of_none _ c.numbers (c.count ∙ ap length end)
      others j leads c (inr dir) = all_more (λ q b. another (here ++ name ∷ []) j q dir.0 dir.1 leads b) c.numbers c.behind

      deeper : (q : ℕ) → IsBehind m (here ++ name ∷ []) q → IsBehind m here q
      deeper q b = (name, b.0 ∷ b.1, ap (λ p. walk (entries_of m) 1 p) (sym (append_assoc here (name ∷ []) (b.0 ∷ b.1))) ∙ b.2)

      by : (o : Option ℕ) → entries_of m k name ≡ o → option_and_then (λ j. walk (entries_of m) j rest) o ≡ Some n
          → ((j : ℕ) → LeadsTo m (here ++ name ∷ []) j → walk (entries_of m) j rest ≡ Some n → Chain m (here ++ name ∷ []) (length rest)) → Chain m here (length (name ∷ rest))
      by None entry on go = absurd (none-some _ on)
      by (Some j) entry on go =
          let c = go j (at_next j entry) on in
          record {
            numbers = j ∷ c.numbers;
            count = ap suc c.count;
            behind = ((name, [], at_next j entry), all_more deeper c.numbers c.behind);
            distinct = more_distinct j c.numbers (others j (at_next j entry) c (dir_or_end m j n rest on)) c.distinct;
          }

-- Numbers that are keys.
same_search : (q : ℕ) (es : List (ℕ × Kept)) → lookup (λ k. eq_by_cmp nat_cmp q k) es ≡ find nat_cmp q es
same_search q [] = refl
same_search q (e ∷ es) = ap (λ (o : Option Kept). if eq_by_cmp nat_cmp q e.0 then Some e.1 else o) (same_search q es)

key_found : (nodes : KeptNodes) (y : ℕ) → IsSome (get nodes y) → IsSome (lookup (eq_by_cmp nat_cmp y) (entries nodes))
key_found nodes y is = subst IsSome (get-entries nodes y ∙ sym (same_search y (entries nodes))) is

all_keys : (nodes : KeptNodes) (xs : List ℕ) → AllByRecursion (λ q. IsSome (get nodes q)) xs → (q : ℕ) → list_any (eq_by_cmp nat_cmp q) xs ≡ true → IsSome (lookup (eq_by_cmp nat_cmp q) (entries nodes))
all_keys nodes [] all q there = absurd (true≢false (sym there))
all_keys nodes (x ∷ xs) all q there = by (which_key nat_cmp_total nat_cmp-IsAntisymmetric q x) (all_keys nodes xs all.1 q)
  where
    by : (q ≡ x) ⊎ (eq_by_cmp nat_cmp q x ≡ false) → (list_any (eq_by_cmp nat_cmp q) xs ≡ true → IsSome (lookup (eq_by_cmp nat_cmp q) (entries nodes))) → IsSome (lookup (eq_by_cmp nat_cmp q) (entries nodes))
    by (inl e) later = key_found nodes q (subst (λ y. IsSome (get nodes y)) (sym e) all.0)
    by (inr off) later = later (sym (ap (λ b. b || list_any (eq_by_cmp nat_cmp q) xs) off) ∙ there)

module _ (limit : ℕ) (nodes : KeptNodes) (t : Tree) (is : IsMapOf limit (map_of nodes) t) where
  key_of : (q : ℕ) (path : List (List ℕ)) → LeadsTo (map_of nodes) path q → IsSome (get nodes q)
  key_of q path at = grind (arith, nat_tests)

  -- no path has as many names as there are nodes
  pub depth : (path : List (List ℕ)) (k : ℕ) → LeadsTo (map_of nodes) path k → length path < len nodes
  depth path k at =
      let c = chain limit (map_of nodes) t is [] path 1 k refl at in
      let keys_all : AllByRecursion (λ q. IsSome (get nodes q)) (1 ∷ c.numbers) = (key_of 1 [] refl, all_more (λ q b. key_of q (b.0 ∷ b.1) b.2) c.numbers c.behind) in
      let few : length (1 ∷ c.numbers) ≤ length (entries nodes) = length-le_from_keys (eq_by_cmp_equiv nat_cmp_total) (1 ∷ c.numbers) (entries nodes) (more_distinct 1 c.numbers (all_more (λ q b. another limit (map_of nodes) t is [] 1 q is.root.0 is.root.1 refl b) c.numbers c.behind) c.distinct) (all_keys nodes (1 ∷ c.numbers) keys_all) in
      omega (arith, c.count, few, len-entries nodes)
