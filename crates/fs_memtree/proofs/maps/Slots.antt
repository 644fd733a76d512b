-- The slots that stand for the names of a directory: what is under each name, that none comes twice, how many there are and what they are in order.
use Rattle.std.proofs.Common.{◌≡◌, ℕ, zero, suc, ◌*◌, Bool, cond, ◌&&◌, is_lt, List, [], ◌∷◌, ◌++◌, map, length, slice_get, bytes_eq, None, Some, option_map, refl, sym, ap, subst, ◌∙◌, T, arith}
use Rattle.std.proofs.lemmas.List.{length-map}
use Rattle.std.proofs.lemmas.Slice.Eq.{bytes_eq-Decides}
use Rattle.std.specs.Ordering.{eq_by_cmp}
use Rattle.std.specs.Cmp.{tied_itself}
use Rattle.std.specs.FinMap.Entries.{below_all}
use Rattle.std.specs.FinMap.{get, entries, from_entries, keys, len, find, is_sorted, get-entries, len-entries, entries_sorted, get-from_entries, same_map}
use Rattle.std.proofs.lemmas.Option.{same_Some, none-some}
use Rattle.std.proofs.lemmas.Bool.Decides.{nat_tests}
use Rattle.layout_bytes.specs.declared.slot.Slot.{Slot}
use Rattle.lang_tree.specs.declared.command.Kind.TheVariants.{Dir as DirKind}
use Rattle.lang_tree.specs.declared.command.Reply.TheVariants.{Stat as StatReply}
use Rattle.crash_stands.specs.Inodes.{AreDistinct}
use Rattle.crash_stands.specs.Walks.{node_in, entry_in}
use Rattle.fs_inodes.specs.Changes.{slot_of}
use Rattle.fs_inodes.specs.Lookups.{slots_of}
use Rattle.fs_inodes.specs.Names.{names_of, stat_by}
use Rattle.fs_memtree.specs.Kept.{DirNames, name_cmp, KeptDir, KeptFile, KeptNodes, inode_of, map_of, slots_for}
use Rattle.fs_memtree.proofs.keys.InOrder.{entries_empty}
use Rattle.fs_memtree.proofs.keys.Keys.{name_total, name_same, tied, apart}

-- the two tests of a name agree
test_same : (a b : List ℕ) → bytes_eq a b ≡ eq_by_cmp name_cmp b a
test_same a b = grind (arith, nat_tests, tied, name_total, name_same, bytes_eq-Decides, apart)

abbrev pub as_slots : List (List ℕ × ℕ) → List Slot
as_slots es = map (λ e. slot_of e.1 e.0) es

found_in : (es : List (List ℕ × ℕ)) (name : List ℕ) → node_in (as_slots es) name ≡ find name_cmp name es
found_in [] name = refl
found_in (e ∷ es) name = ap (λ b. cond b (Some e.1) (node_in (as_slots es) name)) (test_same e.0 name) ∙ ap (cond (eq_by_cmp name_cmp name e.0) (Some e.1)) (found_in es name)

-- what is under a name
pub under_name : (names : DirNames) (name : List ℕ) → node_in (slots_for names) name ≡ get names name
under_name names name = found_in (entries names) name ∙ sym (get-entries names name)

-- how many there are
pub count_of_slots : (names : DirNames) → length (slots_for names) ≡ len names
count_of_slots names = length-map (entries names) (λ e. slot_of e.1 e.0) ∙ sym (len-entries names)

paired_back : (es : List (List ℕ × ℕ)) → map (λ (s : Slot). (s.name, s.node)) (as_slots es) ≡ es
paired_back [] = refl
paired_back (e ∷ es) = ap (λ rest. e ∷ rest) (paired_back es)

-- the names in order
pub names_of_slots : (names : DirNames) → names_of (slots_for names) ≡ keys names
names_of_slots names = ap (λ es. keys (from_entries {R = name_cmp} es)) (paired_back (entries names))
    ∙ ap keys (same_map name_total name_same _ _ (λ q. get-from_entries name_total (entries names) q ∙ sym (get-entries names q)))

-- No name comes twice.

first_of : (a b : Bool) → T (a && b) → T a
first_of a b e = grind (arith, nat_tests)

second_of : (a b : Bool) → T (a && b) → T b
second_of a b e = grind (arith, nat_tests)

not_below : (x y : List ℕ) → T (is_lt (name_cmp x y)) → x ≡ y → ⊥
not_below x y less same = subst (λ r. T (is_lt r)) (ap (λ z. name_cmp z y) same ∙ tied_itself name_total y) less

below_apart : (x : List ℕ) (es : List (List ℕ × ℕ)) (i : ℕ) (s : Slot) → T (below_all name_cmp x es) → slice_get (as_slots es) i ≡ Some s → x ≡ s.name → ⊥
below_apart x [] i s below at same = absurd (none-some _ at)
below_apart x (e ∷ es) zero s below at same = not_below x e.0 (first_of _ _ below) (same ∙ ap (λ r. r.name) (sym (same_Some _ _ at)))
below_apart x (e ∷ es) (suc i) s below at same = below_apart x es i s (second_of _ _ below) at same

distinct_in : (es : List (List ℕ × ℕ)) → T (is_sorted name_cmp es) → AreDistinct (as_slots es)
distinct_in [] sorted i j s t at_i at_j same = absurd (none-some _ at_i)
distinct_in (e ∷ es) sorted zero zero s t at_i at_j same = refl
distinct_in (e ∷ es) sorted zero (suc j) s t at_i at_j same = absurd (below_apart e.0 es j t (first_of _ _ sorted) at_j (ap (λ r. r.name) (same_Some _ _ at_i) ∙ same))
distinct_in (e ∷ es) sorted (suc i) zero s t at_i at_j same = absurd (below_apart e.0 es i s (first_of _ _ sorted) at_i (ap (λ r. r.name) (same_Some _ _ at_j) ∙ sym same))
distinct_in (e ∷ es) sorted (suc i) (suc j) s t at_i at_j same = ap suc (distinct_in es (second_of _ _ sorted) i j s t at_i at_j same)

pub slots_distinct : (names : DirNames) → AreDistinct (slots_for names)
slots_distinct names = distinct_in (entries names) (entries_sorted names)

-- What the code reads of a node.

module _ (nodes : KeptNodes) (k : ℕ) where
  pub entry_of_dir : (names : DirNames) (name : List ℕ) → Some (KeptDir names) ≡ get nodes k → get names name ≡ entry_in (map_of nodes k) name
  entry_of_dir names name is = sym (ap (λ o. entry_in (option_map inode_of o) name) (sym is) ∙ under_name names name)

  pub count_in_dir : (names : DirNames) → Some (KeptDir names) ≡ get nodes k → len names ≡ length (slots_of (map_of nodes k))
  count_in_dir names is = sym (ap (λ o. length (slots_of (option_map inode_of o))) (sym is) ∙ count_of_slots names)

  pub names_of_dir : (names : DirNames) → Some (KeptDir names) ≡ get nodes k → keys names ≡ names_of (slots_of (map_of nodes k))
  names_of_dir names is = sym (ap (λ o. names_of (slots_of (option_map inode_of o))) (sym is) ∙ names_of_slots names)

-- no slots have no names
pub no_names : names_of [] ≡ []
no_names = ap (map (λ e. e.0)) (entries_empty name_cmp)

module _ (nodes : KeptNodes) (k : ℕ) where
  pub names_of_file : (links : ℕ) (bytes : List ℕ) → Some (KeptFile links bytes) ≡ get nodes k → names_of (slots_of (map_of nodes k)) ≡ []
  names_of_file links bytes is = ap (λ o. names_of (slots_of (option_map inode_of o))) (sym is) ∙ no_names

  pub names_of_none : None ≡ get nodes k → names_of (slots_of (map_of nodes k)) ≡ []
  names_of_none is = ap (λ o. names_of (slots_of (option_map inode_of o))) (sym is) ∙ no_names

-- what a stat of a directory says
pub stat_dir : (nodes : KeptNodes) (k size : ℕ) (names : DirNames) → Some (KeptDir names) ≡ get nodes k → size ≡ len names
    → StatReply (record { kind = DirKind; number = k; size = 64 * size; links = 1 }) ≡ stat_by k (map_of nodes k)
stat_dir nodes k size names is count = grind (arith, nat_tests, count_of_slots)

-- an entry is found by its name
below_mid : (x : List ℕ) (front : List (List ℕ × ℕ)) (e : List ℕ × ℕ) (es : List (List ℕ × ℕ)) → T (below_all name_cmp x (front ++ e ∷ es)) → T (is_lt (name_cmp x e.0))
below_mid x [] e es b = first_of _ _ b
below_mid x (f ∷ front) e es b = below_mid x front e es (second_of _ _ b)

pub find_mid : (front : List (List ℕ × ℕ)) (e : List ℕ × ℕ) (es : List (List ℕ × ℕ)) → T (is_sorted name_cmp (front ++ e ∷ es)) → find name_cmp e.0 (front ++ e ∷ es) ≡ Some e.1
find_mid [] e es sorted = ap (λ b. cond b (Some e.1) (find name_cmp e.0 es)) (tied name_total name_same e.0 e.0 refl)
find_mid (f ∷ front) e es sorted =
    ap (λ b. cond b (Some f.1) (find name_cmp e.0 (front ++ e ∷ es))) (apart name_total name_same e.0 f.0 (λ same. not_below f.0 e.0 (below_mid f.0 front e es (first_of _ _ sorted)) (sym same)))
    ∙ find_mid front e es (second_of _ _ sorted)
