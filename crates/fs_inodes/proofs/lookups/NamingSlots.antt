-- The paths of a node other than the root are the slots that name it: each path has one parent, and each slot of a directory gives one path.
use Rattle.std.proofs.Common.{◌≡◌, ◌≢◌, ℕ, zero, suc, ◌+◌, ◌*◌, ◌==◌, Bool, true, false, T, List, [], ◌∷◌, ◌++◌, length, if◌then◌else◌, Option, Some, None, is_some, option_map, option_and_then, refl, sym, ap, ap₂, ◌∙◌, ◌⊎◌, inl, inr, arith, eqb-true}
use Rattle.std.specs.FinMap.{get, entries, find, put, is_sorted, entries_sorted, get-entries, entries-insert, len-empty, len-entries, empty}
use Rattle.std.proofs.lemmas.Option.{same_Some, none-some}
use Rattle.layout_bytes.specs.declared.slot.Slot.{Slot}
use Rattle.lang_tree.specs.Tree.{Tree, Dir, path_cmp}
use Rattle.lang_tree.specs.Paths.{name_in}
use Rattle.lang_tree.specs.Names.{times, path_count}
use Rattle.crash_stands.specs.Inodes.{Inode, Inodes, ADir, AFile, AreDistinct, thing_of}
use Rattle.crash_stands.specs.Maps.{IsMapOf}
use Rattle.fs_inodes.specs.Lookups.{slots_of, inode_at}
use Rattle.fs_inodes.specs.Names.{row_in}
use Rattle.fs_inodes.specs.Links.{naming, naming_from, slots_naming}
use Rattle.fs_inodes.specs.TreeLaws.{TreeLaws}
use Rattle.fs_inodes.proofs.basics.Paths.{Path, which, from_end, last_same}
use Rattle.fs_inodes.proofs.basics.FinMaps.{path_total, path_same, tied, which_key}
use Rattle.fs_inodes.proofs.agreement.Agree.{Agrees}
use Rattle.fs_inodes.proofs.commands.Adding.{dir_file}
use Rattle.fs_inodes.proofs.lookups.Walking.{number_given}
use Rattle.fs_inodes.proofs.slots.Slots.{rest_distinct}
use Rattle.fs_inodes.proofs.lookups.Rows.{name_cmp, name_total, both_of, row_of, row_at, row_entries, first_new, here_distinct, lone_is, lone_at}
use Rattle.fs_inodes.proofs.sums.Totals.{exchange, gone_in_front, sum_from, sum_same, by_number, numbers_summed, numbers_within, all_are, nothing_times, one_times, later_paths, here_path}

-- how often the number is in a row
abbrev in_row : ℕ → List (List ℕ × ℕ) → ℕ
in_row n [] = 0
in_row n (e ∷ es) = (if e.1 == n then 1 else 0) + in_row n es

-- A row of slots has each once.

-- two first numbers exchanged
swap_ones : (a b c : ℕ) → a + (b + c) ≡ b + (a + c)
swap_ones a b c = omega arith

-- a name put into a row counts once
put_in_row : (n : ℕ) (b : List ℕ) (v : ℕ) (es : List (List ℕ × ℕ)) → find name_cmp b es ≡ None → in_row n (put name_cmp b v es) ≡ (if v == n then 1 else 0) + in_row n es
put_in_row n b v [] none = refl
put_in_row n b v (e ∷ es) none = grind (arith, put_in_row n b v es, name_cmp b e.0, name_cmp, none-some, swap_ones)

-- an empty row has no entries
no_entries : entries (empty {X = ℕ} {R = name_cmp}) ≡ []
no_entries = nothing _ (sym (len-entries (empty {X = ℕ} {R = name_cmp})) ∙ len-empty name_cmp ℕ)
  where
    nothing : (xs : List (List ℕ × ℕ)) → length xs ≡ 0 → xs ≡ []
    nothing [] is = refl
    nothing (x ∷ xs) is = absurd (omega (arith, is))

-- a row of slots has each number as often as slots name it
row_counts : (n : ℕ) (slots : List Slot) → AreDistinct slots → in_row n (entries (row_in slots)) ≡ naming n slots
row_counts n [] distinct = ap (in_row n) no_entries
row_counts n (s ∷ slots) distinct =
    ap (in_row n) (entries-insert name_total (row_in slots) s.name s.node)
    ∙ put_in_row n s.name s.node (entries (row_in slots)) (sym (get-entries (row_in slots) s.name) ∙ row_at slots s.name ∙ first_new s slots distinct)
    ∙ ap (λ k. (if s.node == n then 1 else 0) + k) (row_counts n slots (rest_distinct s slots distinct))

-- Sums over lists of paths.

-- a sum over paths
abbrev total : (Path × ℕ → ℕ) → List (Path × ℕ) → ℕ
total f [] = 0
total f (e ∷ es) = f e + total f es

-- the same summands have the same sum
total_same : (f h : Path × ℕ → ℕ) → ((e : Path × ℕ) → f e ≡ h e) → (es : List (Path × ℕ)) → total f es ≡ total h es
total_same f h same [] = refl
total_same f h same (e ∷ es) = ap₂ (λ x y. x + y) (same e) (total_same f h same es)

-- a sum of sums
total_added : (f h : Path × ℕ → ℕ) (es : List (Path × ℕ)) → total (λ e. f e + h e) es ≡ total f es + total h es
total_added f h [] = refl
total_added f h (e ∷ es) = ap (λ s. (f e + h e) + s) (total_added f h es) ∙ exchange (f e) (h e) (total f es) (total h es)

-- a sum of nothing
total_nothing : (f : Path × ℕ → ℕ) → ((e : Path × ℕ) → f e ≡ 0) → (es : List (Path × ℕ)) → total f es ≡ 0
total_nothing f none [] = refl
total_nothing f none (e ∷ es) = let rest = total_nothing f none es in omega (arith, none e, rest)

-- whether e lies in the directory at a path
abbrev lies_in : Path → Path × ℕ → ℕ
lies_in up e = if is_some (name_in up e.0) then 1 else 0

-- how many of these paths are the parent of e
abbrev parents_of : List (Path × ℕ) → Path × ℕ → ℕ
parents_of ps e = total (λ p. lies_in p.0 e) ps

-- something for the paths of one number alone
abbrev where_is : ℕ → (Path × ℕ → ℕ) → Path × ℕ → ℕ
where_is n f e = if e.1 == n then f e else 0

-- nothing, either way
zero_else : (b : Bool) → ◌≡◌ {A = ℕ} (if b then 0 else 0) 0
zero_else b = grind arith

-- a row has what lies in its directory
row_lies : (n : ℕ) (up : Path) (es : List (Path × ℕ)) → in_row n (row_of up es) ≡ total (where_is n (lies_in up)) es
row_lies n up [] = refl
row_lies n up (e ∷ es) = grind (arith, row_lies n up es, name_in up e.0, row_of, zero_else)

-- of two things
both_where : (n : ℕ) (f h : Path × ℕ → ℕ) (e : Path × ℕ) → where_is n f e + where_is n h e ≡ where_is n (λ e. f e + h e) e
both_where n f h e = grind (arith, e.1 == n)

-- all rows together have each path as often as it has a parent
rows_lie : (n : ℕ) (ps es : List (Path × ℕ)) → total (λ p. in_row n (row_of p.0 es)) ps ≡ total (where_is n (parents_of ps)) es
rows_lie n [] es = sym (total_nothing (where_is n (λ e. 0)) (λ e. zero_else (e.1 == n)) es)
rows_lie n (p ∷ ps) es =
    ap₂ (λ x y. x + y) (row_lies n p.0 es) (rows_lie n ps es)
    ∙ sym (total_added (where_is n (lies_in p.0)) (where_is n (parents_of ps)) es)
    ∙ total_same (λ e. where_is n (lies_in p.0) e + where_is n (parents_of ps) e) (where_is n (parents_of (p ∷ ps))) (both_where n (lies_in p.0) (parents_of ps)) es

-- One parent.

-- e lies in the directory at `up` and in no other
module _ (e : Path × ℕ) (up : Path) (name : List ℕ) (is : e.0 ≡ up ++ name ∷ []) where
  -- it lies in its parent
  in_its_own : (p : Path) → p ≡ up → lies_in p e ≡ 1
  in_its_own p same = ap (λ o. if is_some o then 1 else 0) (ap₂ name_in same is ∙ lone_at up name)

  -- and in no other directory
  in_no_other : (p : Path) → (p ≡ up → ⊥) → lies_in p e ≡ 0
  in_no_other p off = by (which (name_in p e.0))
    where
      by : (name_in p e.0 ≡ None) ⊎ ((b : List ℕ) × (name_in p e.0 ≡ Some b)) → lies_in p e ≡ 0
      by (inl none) = ap (λ o. if is_some o then 1 else 0) none
      by (inr some) = absurd (off (last_same p up some.0 name (sym (lone_is p e.0 some.0 some.1) ∙ is)).0)

  -- so it has no parent where that isn't among the paths
  no_parent : (ps : List (Path × ℕ)) → find path_cmp up ps ≡ None → parents_of ps e ≡ 0
  no_parent [] none = refl
  no_parent (p ∷ ps) none = grind (arith, no_parent ps, which_key path_total path_same up p.0, which_key, path_total, path_same, none-some, tied, in_no_other)

  -- and one where it is
  one_parent : (ps : List (Path × ℕ)) (k : ℕ) → T (is_sorted path_cmp ps) → find path_cmp up ps ≡ Some k → parents_of ps e ≡ 1
  one_parent [] k h at = absurd (none-some k at)
  one_parent (p ∷ ps) k h at = grind (arith, one_parent ps k, which_key path_total path_same up p.0, which_key, path_total, path_same, both_of, in_its_own, no_parent, gone_in_front, in_no_other, tied)

module _ (laws : TreeLaws) (limit : ℕ) (m : Inodes) (t : Tree) (a : Agrees limit m t) (n : ℕ) (not_root : n ≢ 1) where
  -- each path of n has one parent
  parent_counted : (e : Path × ℕ) → get t.names e.0 ≡ Some e.1 → where_is n (parents_of (entries t.names)) e ≡ (if e.1 == n then 1 else 0)
  parent_counted e at = by (e.1 == n) refl
    where
      counted : e.1 ≡ n → (e.0 ≡ []) ⊎ ((up : Path) × (name : List ℕ) × (e.0 ≡ up ++ name ∷ [])) → parents_of (entries t.names) e ≡ 1
      counted same (inl root) = absurd (not_root (same_Some n 1 (ap Some (sym same) ∙ sym at ∙ ap (get t.names) root ∙ a.sound.root)))
      counted same (inr end) =
          let up = a.sound.parents end.0 end.1 e.1 (ap (get t.names) (sym end.2) ∙ at) in
          one_parent e end.0 end.1 end.2 (entries t.names) up.0 (entries_sorted t.names) (sym (get-entries t.names end.0) ∙ up.1)

      by : (b : Bool) → (e.1 == n) ≡ b → (if b then parents_of (entries t.names) e else 0) ≡ (if b then 1 else 0)
      by true is = counted (eqb-true e.1 n is) (from_end e.0)
      by false is = refl

  -- all paths together
  counted_all : (es : List (Path × ℕ)) → T (is_sorted path_cmp es) → ((p : Path) (k : ℕ) → find path_cmp p es ≡ Some k → get t.names p ≡ Some k) → total (where_is n (parents_of (entries t.names))) es ≡ times n es
  counted_all [] h are = refl
  counted_all (e ∷ es) h are =
      ap₂ (λ x y. x + y) (parent_counted e (are e.0 e.1 (here_path laws limit m t a e es)))
      (counted_all es (both_of _ _ h).1 (λ p k is. are p k (later_paths laws limit m t a e es h p k is)))

  -- the slots of the directories that paths lead to
  rows_given : (es : List (Path × ℕ)) → T (is_sorted path_cmp es) → ((p : Path) (k : ℕ) → find path_cmp p es ≡ Some k → get t.names p ≡ Some k)
      → by_number (λ k. naming n (slots_of (m k))) es ≡ total (λ p. in_row n (row_of p.0 (entries t.names))) es
  rows_given [] h are = refl
  rows_given (e ∷ es) h are = ap₂ (λ x y. x + y) (sym row) (rows_given es (both_of _ _ h).1 (λ p k is. are p k (later_paths laws limit m t a e es h p k is)))
    where
      at : get t.names e.0 ≡ Some e.1
      at = are e.0 e.1 (here_path laws limit m t a e es)

      row : in_row n (row_of e.0 (entries t.names)) ≡ naming n (slots_of (m e.1))
      row = ap (in_row n) (row_entries limit m t a e.0) ∙ row_counts n (slots_of (inode_at m e.0)) (here_distinct limit m t a e.0)
          ∙ ap (λ o. naming n (slots_of (option_and_then m o))) (sym (number_given limit m t a e.0) ∙ at)

  -- a directory has one path, and what is none has no slots
  dir_once : (k : ℕ) → times k (entries t.names) * naming n (slots_of (m k)) ≡ naming n (slots_of (m k))
  dir_once k = by (m k) refl
    where
      by : (o : Option Inode) → m k ≡ o → times k (entries t.names) * naming n (slots_of o) ≡ naming n (slots_of o)
      by None is = nothing_times laws limit m t a (path_count t.names k) 0 refl
      by (Some (ADir slots)) is =
          let dir : get t.nodes k ≡ Some Dir = a.nodes k ∙ ap (option_map thing_of) is in
          let p = a.sound.reached k Dir dir in
          one_times laws limit m t a (path_count t.names k) (naming n slots) (laws.count_dir limit t p.0 k a.sound p.1 dir)
      by (Some (AFile links bytes)) is = nothing_times laws limit m t a (path_count t.names k) 0 refl

  -- the slots that name a node, as a sum over directories
  naming_summed : (k c : ℕ) → naming_from m n k c ≡ sum_from (λ j. naming n (slots_of (m j))) k c
  naming_summed k zero = refl
  naming_summed k (suc c) = ap (λ s. naming n (slots_of (m k)) + s) (naming_summed (k + 1) c)

  -- the paths of a node are the slots that name it
  pub paths_are_slots : path_count t.names n ≡ slots_naming limit m n
  paths_are_slots =
      sym (counted_all (entries t.names) (entries_sorted t.names) (all_are laws limit m t a))
      ∙ sym (rows_lie n (entries t.names) (entries t.names))
      ∙ sym (rows_given (entries t.names) (entries_sorted t.names) (all_are laws limit m t a))
      ∙ numbers_summed (λ k. naming n (slots_of (m k))) (entries t.names) 1 limit (numbers_within laws limit m t a (entries t.names) (entries_sorted t.names) (all_are laws limit m t a))
      ∙ sum_same (λ j. times j (entries t.names) * naming n (slots_of (m j))) (λ j. naming n (slots_of (m j))) dir_once 1 limit
      ∙ sym (naming_summed 1 limit)

-- a file isn't the root
pub file_apart : (limit : ℕ) (m : Inodes) (t : Tree) → IsMapOf limit m t → (n links : ℕ) (bytes : List ℕ) → m n ≡ Some (AFile links bytes) → n ≢ 1
file_apart limit m t is n links bytes at same = dir_file is.root.0 links bytes is.root.1 (ap m (sym same) ∙ at)
