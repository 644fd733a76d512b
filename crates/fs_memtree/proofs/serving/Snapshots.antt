-- The snapshots that are kept, as the tree has them: what is under each name, after one came or went, and which numbers they have.
use Rattle.std.proofs.Common.{◌≡◌, ℕ, ◌==◌, Bool, true, false, cond, not, ◌&&◌, ◌||◌, List, [], ◌∷◌, map, Option, Some, None, is_none, find as first, option_map, T, refl, sym, ap, ap₂, subst, ◌∙◌}
use Rattle.std.specs.List.{list_any, range_with_len}
use Rattle.std.specs.Ordering.{eq_by_cmp, is_lt}
use Rattle.std.specs.FinMap.{get, insert, remove, keys, entries, entries_sorted, entries-from_sorted, get-from_sorted, get-entries, get-insert, get-remove, find, is_sorted, same_map}
use Rattle.std.specs.FinMap.Entries.{below_all}
use Rattle.lang_tree.specs.Tree.{Tree}
use Rattle.lang_tree.specs.Tree as whole
use Rattle.lang_tree.specs.Conditions.{is_snapshot, least_unused}
use Rattle.crash_stands.specs.Inodes.{thing_of}
use Rattle.crash_stands.specs.Maps.{IsMapOf}
use Rattle.fs_memtree.specs.declared.snapshots.Snapshot.{Snapshot}
use Rattle.fs_memtree.specs.Kept.{Kept, KeptNodes, name_cmp, map_of, inode_of}
use Rattle.fs_memtree.specs.Snapshots.{KeptSnapshots, kept_by, snapshots_of, has_number, least_number}
use Rattle.fs_memtree.proofs.keys.Keys.{name_total, name_same}

abbrev shown_entries : List (List ℕ × Snapshot) → List (List ℕ × whole.Kept)
shown_entries es = map (λ e. (e.0, kept_by e.1)) es

below_shown : (k : List ℕ) (es : List (List ℕ × Snapshot)) → below_all name_cmp k (shown_entries es) ≡ below_all name_cmp k es
below_shown k [] = refl
below_shown k (e ∷ es) = ap (λ b. is_lt (name_cmp k e.0) && b) (below_shown k es)

sorted_shown : (es : List (List ℕ × Snapshot)) → is_sorted name_cmp (shown_entries es) ≡ is_sorted name_cmp es
sorted_shown [] = refl
sorted_shown (e ∷ es) = ap₂ (λ a b. a && b) (below_shown e.0 es) (sorted_shown es)

rise : (kept : KeptSnapshots) → T (is_sorted name_cmp (shown_entries (entries kept)))
rise kept = subst T (sym (sorted_shown (entries kept))) (entries_sorted kept)

-- the entries of the tree's snapshots are those that are kept
pub entries_shown : (kept : KeptSnapshots) → entries (snapshots_of kept) ≡ shown_entries (entries kept)
unfolding snapshots_of
entries_shown kept = entries-from_sorted name_cmp (shown_entries (entries kept)) (rise kept)

find_shown : (q : List ℕ) (es : List (List ℕ × Snapshot)) → find name_cmp q (shown_entries es) ≡ option_map kept_by (find name_cmp q es)
find_shown q [] = refl
find_shown q (e ∷ es) = by (eq_by_cmp name_cmp q e.0) (find_shown q es)
  where
    by : (b : Bool) → find name_cmp q (shown_entries es) ≡ option_map kept_by (find name_cmp q es)
        → cond b (Some (kept_by e.1)) (find name_cmp q (shown_entries es)) ≡ option_map kept_by (cond b (Some e.1) (find name_cmp q es))
    by true rest = refl
    by false rest = rest

-- what is under a name
pub under_shown : (kept : KeptSnapshots) (q : List ℕ) → get (snapshots_of kept) q ≡ option_map kept_by (get kept q)
under_shown kept q = get-entries (snapshots_of kept) q ∙ ap (find name_cmp q) (entries_shown kept) ∙ find_shown q (entries kept) ∙ ap (option_map kept_by) (sym (get-entries kept q))

-- one more
pub shown_insert : (kept : KeptSnapshots) (name : List ℕ) (x : Snapshot) → snapshots_of (insert kept name x) ≡ insert (snapshots_of kept) name (kept_by x)
shown_insert kept name x = same_map name_total name_same _ _ (λ q.
    under_shown (insert kept name x) q ∙ ap (option_map kept_by) (get-insert name_total kept name x q) ∙ by (eq_by_cmp name_cmp q name) q
    ∙ sym (get-insert name_total (snapshots_of kept) name (kept_by x) q))
  where
    by : (b : Bool) (q : List ℕ) → option_map kept_by (cond b (Some x) (get kept q)) ≡ cond b (Some (kept_by x)) (get (snapshots_of kept) q)
    by true q = refl
    by false q = sym (under_shown kept q)

-- one less
pub shown_remove : (kept : KeptSnapshots) (name : List ℕ) → snapshots_of (remove kept name) ≡ remove (snapshots_of kept) name
shown_remove kept name = same_map name_total name_same _ _ (λ q.
    under_shown (remove kept name) q ∙ ap (option_map kept_by) (get-remove name_total kept name q) ∙ by (eq_by_cmp name_cmp q name) q
    ∙ sym (get-remove name_total (snapshots_of kept) name q))
  where
    by : (b : Bool) (q : List ℕ) → option_map kept_by (cond b None (get kept q)) ≡ cond b None (get (snapshots_of kept) q)
    by true q = refl
    by false q = sym (under_shown kept q)

names_shown : (es : List (List ℕ × Snapshot)) → map (λ e. e.0) (shown_entries es) ≡ map (λ e. e.0) es
names_shown [] = refl
names_shown (e ∷ es) = ap (λ l. e.0 ∷ l) (names_shown es)

-- the names
pub keys_shown : (kept : KeptSnapshots) → keys (snapshots_of kept) ≡ keys kept
keys_shown kept = ap (map (λ e. e.0)) (entries_shown kept) ∙ names_shown (entries kept)

numbers_shown : (n : ℕ) (es : List (List ℕ × Snapshot)) → list_any (λ e. e.1.number == n) (shown_entries es) ≡ list_any (λ e. e.1.number == n) es
numbers_shown n [] = refl
numbers_shown n (e ∷ es) = ap (λ b. (e.1.number == n) || b) (numbers_shown n es)

-- the numbers
pub number_shown : (kept : KeptSnapshots) (n : ℕ) → is_snapshot (snapshots_of kept) n ≡ has_number kept n
number_shown kept n = ap (list_any (λ e. e.1.number == n)) (entries_shown kept) ∙ numbers_shown n (entries kept)

none_shown : (o : Option Kept) → is_none (option_map thing_of (option_map inode_of o)) ≡ is_none o
none_shown None = refl
none_shown (Some x) = refl

-- the least unused number of the tree is the least one that no node and no snapshot that is kept has
pub least_shown : (limit : ℕ) (nodes : KeptNodes) (kept : KeptSnapshots) (t : Tree) → IsMapOf limit (map_of nodes) t → t.snapshots ≡ snapshots_of kept
    → least_unused limit t ≡ least_number limit nodes kept
unfolding least_unused
least_shown limit nodes kept t is same = ap (λ test. first test (range_with_len 1 limit)) (λ i n. tested n i)
  where
    tested : (n : ℕ) → (is_none (get t.nodes n) && not (is_snapshot t.snapshots n)) ≡ (is_none (get nodes n) && not (has_number kept n))
    tested n = ap₂ (λ a b. a && not b) (ap is_none (is.shows.nodes n) ∙ none_shown (get nodes n)) (ap (λ s. is_snapshot s n) same ∙ number_shown kept n)
