-- The tree of the nodes is the one whose inode map they are.
use Rattle.std.proofs.Common.{◌≡◌, ℕ, zero, suc, ◌<◌, ◌≤◌, nat_lt, Bool, true, false, cond, if◌then◌else◌, List, [], ◌∷◌, ◌++◌, length, map, flat_map, bytes_eq, slice_get, Option, None, Some, option_map, option_and_then, refl, sym, ap, ap₂, subst, ◌∙◌, ◌⊎◌, inl, inr, arith}
use Rattle.std.proofs.lemmas.Bool.{cases_Bool}
use Rattle.std.proofs.lemmas.Slice.Eq.{bytes_eq-Decides}
use Rattle.std.specs.Ordering.{nat_cmp, eq_by_cmp}
use Rattle.std.specs.Cmp.{IsTotalOrder, nat_cmp_total}
use Rattle.std.specs.Cmp.Lexicographic.{lists_total}
use Rattle.std.specs.FinMap.{empty, IsAntisymmetric, nat_cmp-IsAntisymmetric, slice_cmp-IsAntisymmetric, entries, from_entries, len, find, get-entries, get-from_entries, same_map}
use Rattle.std.proofs.lemmas.Bool.Decides.{nat_tests}
use Rattle.std.proofs.lemmas.Grind.{common_steps}
use Rattle.layout_bytes.specs.declared.slot.Slot.{Slot}
use Rattle.lang_tree.specs.Tree.{Tree, Snapshots, path_cmp, alone}
use Rattle.crash_stands.specs.Inodes.{Inode, Inodes, ADir, AreDistinct, thing_of, AFile}
use Rattle.crash_stands.specs.Maps.{IsMapOf}
use Rattle.crash_stands.specs.Walks.{entries_of, entry_in, node_in, walk}
use Rattle.fs_inodes.specs.Lookups.{slots_of}
use Rattle.fs_memtree.specs.Kept.{Kept, KeptNodes, map_of, inode_of, paths_from, tree_of}
use Rattle.fs_memtree.proofs.keys.Keys.{tied, apart, tie_same}
use Rattle.fs_memtree.proofs.maps.Depth.{depth}

path_total : IsTotalOrder path_cmp
path_total = lists_total (lists_total nat_cmp_total)

path_same : IsAntisymmetric path_cmp
path_same = slice_cmp-IsAntisymmetric (slice_cmp-IsAntisymmetric nat_cmp-IsAntisymmetric)

abbrev Entries : Type 0
Entries = List (List (List ℕ) × ℕ)

-- Look-ups in lists of paths.

abbrev either : Option ℕ → Option ℕ → Option ℕ
either None o = o
either (Some x) o = Some x

find_joined : (p : List (List ℕ)) (xs ys : Entries) → find path_cmp p (xs ++ ys) ≡ either (find path_cmp p xs) (find path_cmp p ys)
find_joined p [] ys = refl
find_joined p (x ∷ xs) ys = grind (arith, nat_tests, (find_joined p xs ys))

abbrev below : List ℕ → Entries → Entries
below name es = map (λ e. (name ∷ e.0, e.1)) es

test_joined : (name other : List ℕ) (p q : List (List ℕ)) → eq_by_cmp path_cmp (name ∷ p) (other ∷ q) ≡ (if bytes_eq other name then eq_by_cmp path_cmp p q else false)
test_joined name other p q = by (cases_Bool (bytes_eq other name))
  where
    same_path : (x y : List (List ℕ)) → x ≡ y → eq_by_cmp path_cmp x y ≡ true
    same_path x y e = tied path_total path_same x y e

    other_path : (x y : List (List ℕ)) → (x ≡ y → ⊥) → eq_by_cmp path_cmp x y ≡ false
    other_path x y off = apart path_total path_same x y off

    tails : (b : Bool) → eq_by_cmp path_cmp p q ≡ b → other ≡ name → eq_by_cmp path_cmp (name ∷ p) (other ∷ q) ≡ b
    tails true e names = same_path (name ∷ p) (other ∷ q) (ap₂ (λ x xs. x ∷ xs) (sym names) (is_same p q e))
      where
        is_same : (x y : List (List ℕ)) → eq_by_cmp path_cmp x y ≡ true → x ≡ y
        is_same x y t = tie_same path_total path_same x y t
    tails false e names = other_path (name ∷ p) (other ∷ q) (λ same. not_both (eq_by_cmp path_cmp p q) (same_path p q (tail_of same)) e)
      where
        tail_of : name ∷ p ≡ other ∷ q → p ≡ q
        tail_of same = cc

        not_both : (t : Bool) → t ≡ true → t ≡ false → ⊥
        not_both t yes_ no_ = cc

    by : (bytes_eq other name ≡ true) ⊎ (bytes_eq other name ≡ false) → eq_by_cmp path_cmp (name ∷ p) (other ∷ q) ≡ (if bytes_eq other name then eq_by_cmp path_cmp p q else false)
    by (inl e) = tails (eq_by_cmp path_cmp p q) refl ((bytes_eq-Decides other name).0 e) ∙ sym (ap (λ b. if b then eq_by_cmp path_cmp p q else false) e)
    by (inr e) = other_path (name ∷ p) (other ∷ q) (λ same. differ (bytes_eq other name) ((bytes_eq-Decides other name).1 (sym (head_of same))) e) ∙ sym (ap (λ b. if b then eq_by_cmp path_cmp p q else false) e)
      where
        head_of : name ∷ p ≡ other ∷ q → name ≡ other
        head_of same = cc

        differ : (t : Bool) → t ≡ true → t ≡ false → ⊥
        differ t yes_ no_ = cc

find_below : (name other : List ℕ) (p : List (List ℕ)) (es : Entries) → find path_cmp (name ∷ p) (below other es) ≡ (if bytes_eq other name then find path_cmp p es else None)
find_below name other p [] = grind (arith, common_steps)
find_below name other p (e ∷ es) = grind (arith, common_steps, test_joined, (find_below name other p es))

not_root : (name : List ℕ) (p : List (List ℕ)) → eq_by_cmp path_cmp (name ∷ p) [] ≡ false
not_root name p = apart path_total path_same (name ∷ p) [] (λ e. cc)

is_root : eq_by_cmp path_cmp [] [] ≡ true
is_root = tied path_total path_same [] [] refl

nothing_at : {s : Slot} → None ≡ Some s → ⊥
nothing_at e = cc

module _ (m : Inodes) (distinct : (k : ℕ) (slots : List Slot) → m k ≡ Some (ADir slots) → AreDistinct slots) where
  abbrev all_below : ℕ → List Slot → Entries
  all_below n slots = flat_map (λ s. below s.name (paths_from n m s.node)) slots

  -- where no slot has the first name, no path begins with it
  none_below : (n : ℕ) (name : List ℕ) (p : List (List ℕ)) (slots : List Slot) → node_in slots name ≡ None → find path_cmp (name ∷ p) (all_below n slots) ≡ None
  none_below n name p [] none = refl
  none_below n name p (s ∷ slots) none = find_joined (name ∷ p) (below s.name (paths_from n m s.node)) (all_below n slots)
      ∙ ap (λ o. either o (find path_cmp (name ∷ p) (all_below n slots))) (find_below name s.name p (paths_from n m s.node))
      ∙ by (bytes_eq s.name name) none (λ rest. none_below n name p slots rest)
    where
      by : (b : Bool) → cond b (Some s.node) (node_in slots name) ≡ None → (node_in slots name ≡ None → find path_cmp (name ∷ p) (all_below n slots) ≡ None)
          → either (if b then find path_cmp p (paths_from n m s.node) else None) (find path_cmp (name ∷ p) (all_below n slots)) ≡ None
      by true e go = absurd (cc)
      by false e go = go e

  rest_distinct : (s : Slot) (slots : List Slot) → AreDistinct (s ∷ slots) → AreDistinct slots
  rest_distinct s slots d i j u v at_i at_j same = less (d (suc i) (suc j) u v at_i at_j same)
    where
      less : suc i ≡ suc j → i ≡ j
      less e = omega (arith, e)

  -- the first slot's name comes once
  first_alone : (s : Slot) (slots : List Slot) (name : List ℕ) → AreDistinct (s ∷ slots) → s.name ≡ name → node_in slots name ≡ None
  first_alone s slots name d is = none_there slots (λ i u at same. differ i (d 0 (suc i) s u refl at (is ∙ sym same)))
    where
      differ : (i : ℕ) → 0 ≡ suc i → ⊥
      differ i e = absurd (omega (arith, e))

      none_there : (us : List Slot) → ((i : ℕ) (u : Slot) → slice_get us i ≡ Some u → u.name ≡ name → ⊥) → node_in us name ≡ None
      none_there [] never = refl
      none_there (u ∷ us) never = by (cases_Bool (bytes_eq u.name name)) (none_there us (λ i v at same. never (suc i) v at same))
        where
          by : (bytes_eq u.name name ≡ true) ⊎ (bytes_eq u.name name ≡ false) → node_in us name ≡ None → cond (bytes_eq u.name name) (Some u.node) (node_in us name) ≡ None
          by (inl e) rest = absurd (never 0 u refl ((bytes_eq-Decides u.name name).0 e))
          by (inr e) rest = ap (λ b. cond b (Some u.node) (node_in us name)) e ∙ rest

  -- the paths below a directory are those below its slots
  in_slots : (n : ℕ) (name : List ℕ) (p : List (List ℕ)) (slots : List Slot) → AreDistinct slots
      → find path_cmp (name ∷ p) (all_below n slots) ≡ option_and_then (λ j. find path_cmp p (paths_from n m j)) (node_in slots name)
  in_slots n name p [] d = refl
  in_slots n name p (s ∷ slots) d = find_joined (name ∷ p) (below s.name (paths_from n m s.node)) (all_below n slots)
      ∙ ap (λ o. either o (find path_cmp (name ∷ p) (all_below n slots))) (find_below name s.name p (paths_from n m s.node))
      ∙ by (bytes_eq s.name name) refl (in_slots n name p slots (rest_distinct s slots d))
    where
      all_or_none : (o rest : Option ℕ) → rest ≡ None → either o rest ≡ o
      all_or_none None rest e = e
      all_or_none (Some x) rest e = refl

      by : (b : Bool) → bytes_eq s.name name ≡ b → find path_cmp (name ∷ p) (all_below n slots) ≡ option_and_then (λ j. find path_cmp p (paths_from n m j)) (node_in slots name)
          → either (if b then find path_cmp p (paths_from n m s.node) else None) (find path_cmp (name ∷ p) (all_below n slots))
          ≡ option_and_then (λ j. find path_cmp p (paths_from n m j)) (cond b (Some s.node) (node_in slots name))
      by true e go = all_or_none (find path_cmp p (paths_from n m s.node)) _ (none_below n name p slots (first_alone s slots name d ((bytes_eq-Decides s.name name).0 e)))
      by false e go = go

  slots_distinct_in : (o : Option Inode) → ((slots : List Slot) → o ≡ Some (ADir slots) → AreDistinct slots) → AreDistinct (slots_of o)
  slots_distinct_in None own = λ i j s t at_i at_j same. absurd (nothing_at at_i)
  slots_distinct_in (Some (ADir slots)) own = own slots refl
  slots_distinct_in (Some (AFile links bytes)) own = λ i j s t at_i at_j same. absurd (nothing_at at_i)

  entry_by_slots : (o : Option Inode) (name : List ℕ) → node_in (slots_of o) name ≡ entry_in o name
  entry_by_slots None name = refl
  entry_by_slots (Some (ADir slots)) name = refl
  entry_by_slots (Some (AFile links bytes)) name = refl

  -- a path of few names leads where its walk does
  pub short_path : (n k : ℕ) (p : List (List ℕ)) → length p < n → find path_cmp p (paths_from n m k) ≡ walk (entries_of m) k p
  short_path zero k p short = absurd (omega (arith, short))
  short_path (suc n) k [] short = ap (λ b. cond b (Some k) (find path_cmp [] (all_below n (slots_of (m k))))) is_root
  short_path (suc n) k (name ∷ p) short =
      ap (λ b. cond b (Some k) (find path_cmp (name ∷ p) (all_below n (slots_of (m k))))) (not_root name p)
      ∙ in_slots n name p (slots_of (m k)) (slots_distinct_in (m k) (distinct k))
      ∙ ap (option_and_then (λ j. find path_cmp p (paths_from n m j))) (entry_by_slots (m k) name)
      ∙ by (entry_in (m k) name) (λ j. short_path n j p (omega (arith, short)))
    where
      by : (o : Option ℕ) → ((j : ℕ) → find path_cmp p (paths_from n m j) ≡ walk (entries_of m) j p) → option_and_then (λ j. find path_cmp p (paths_from n m j)) o ≡ option_and_then (λ j. walk (entries_of m) j p) o
      by None go = refl
      by (Some j) go = go j

  -- no path of more names is there
  pub long_path : (n k : ℕ) (p : List (List ℕ)) → n ≤ length p → find path_cmp p (paths_from n m k) ≡ None
  long_path zero k p long = refl
  long_path (suc n) k [] long = absurd (omega (arith, long))
  long_path (suc n) k (name ∷ p) long =
      ap (λ b. cond b (Some k) (find path_cmp (name ∷ p) (all_below n (slots_of (m k))))) (not_root name p)
      ∙ in_slots n name p (slots_of (m k)) (slots_distinct_in (m k) (distinct k)) ∙ by (node_in (slots_of (m k)) name) (λ j. long_path n j p (omega (arith, long)))
    where
      by : (o : Option ℕ) → ((j : ℕ) → find path_cmp p (paths_from n m j) ≡ None) → option_and_then (λ j. find path_cmp p (paths_from n m j)) o ≡ None
      by None go = refl
      by (Some j) go = go j

-- What is the map of a tree is that of one with other snapshots.
pub aside : (limit : ℕ) (m : Inodes) (t : Tree) (snapshots : Snapshots) → IsMapOf limit m t → IsMapOf limit m (record t { snapshots = snapshots })
aside limit m t snapshots is = record {
  root = is.root;
  distinct = is.distinct;
  within = is.within;
  shows = record { names = is.shows.names; nodes = is.shows.nodes; links = is.shows.links; only = is.shows.only; reached = is.shows.reached; used = is.shows.used };
}

things_found : (es : List (ℕ × Kept)) (k : ℕ) → find nat_cmp k (map (λ e. (e.0, thing_of (inode_of e.1))) es) ≡ option_map thing_of (option_map inode_of (find nat_cmp k es))
things_found [] k = refl
things_found (e ∷ es) k = by (eq_by_cmp nat_cmp k e.0) (things_found es k)
  where
    by : (b : Bool) → find nat_cmp k (map (λ e. (e.0, thing_of (inode_of e.1))) es) ≡ option_map thing_of (option_map inode_of (find nat_cmp k es))
        → cond b (Some (thing_of (inode_of e.1))) (find nat_cmp k (map (λ e. (e.0, thing_of (inode_of e.1))) es)) ≡ option_map thing_of (option_map inode_of (cond b (Some e.1) (find nat_cmp k es)))
    by true rest = refl
    by false rest = rest

module _ (limit : ℕ) (nodes : KeptNodes) (t : Tree) (is : IsMapOf limit (map_of nodes) t) where
  same_names : (p : List (List ℕ)) → find path_cmp p (paths_from (len nodes) (map_of nodes) 1) ≡ walk (entries_of (map_of nodes)) 1 p
  same_names p = by (cases_Bool (nat_lt (length p) (len nodes)))
    where
      none_deep : (o : Option ℕ) → walk (entries_of (map_of nodes)) 1 p ≡ o → len nodes ≤ length p → None ≡ walk (entries_of (map_of nodes)) 1 p
      none_deep None at long = sym at
      none_deep (Some k) at long = absurd (omega (arith, long, depth limit nodes t is p k at))

      by : (nat_lt (length p) (len nodes) ≡ true) ⊎ (nat_lt (length p) (len nodes) ≡ false) → find path_cmp p (paths_from (len nodes) (map_of nodes) 1) ≡ walk (entries_of (map_of nodes)) 1 p
      by (inl e) = short_path (map_of nodes) is.distinct (len nodes) 1 p (grind (arith, e))
      by (inr e) = let long : len nodes ≤ length p = grind (arith, e) in long_path (map_of nodes) is.distinct (len nodes) 1 p long ∙ none_deep (walk (entries_of (map_of nodes)) 1 p) refl long

  names_are : from_entries {R = path_cmp} (paths_from (len nodes) (map_of nodes) 1) ≡ t.names
  names_are = same_map path_total path_same _ _ (λ p. get-from_entries path_total (paths_from (len nodes) (map_of nodes) 1) p ∙ same_names p ∙ sym (is.shows.names p))

  nodes_are : from_entries {R = nat_cmp} (map (λ e. (e.0, thing_of (inode_of e.1))) (entries nodes)) ≡ t.nodes
  nodes_are = same_map nat_cmp_total nat_cmp-IsAntisymmetric _ _ (λ k. get-from_entries nat_cmp_total (map (λ e. (e.0, thing_of (inode_of e.1))) (entries nodes)) k
      ∙ things_found (entries nodes) k ∙ ap (λ o. option_map thing_of (option_map inode_of o)) (sym (get-entries nodes k)) ∙ sym (is.shows.nodes k))

  pub the_tree : tree_of nodes ≡ alone t.names t.nodes
  unfolding tree_of
  the_tree = λ i. record { names = names_are i; nodes = nodes_are i; snapshots = empty }

  pub own_tree : IsMapOf limit (map_of nodes) (tree_of nodes)
  own_tree = subst (IsMapOf limit (map_of nodes)) (sym the_tree) (aside limit (map_of nodes) t empty is)
