-- The blocks of a tree are those of its inodes, added up by their numbers.
use Rattle.std.proofs.Common.{◌≡◌, ℕ, zero, suc, ◌+◌, ◌*◌, ◌≤◌, ◌<◌, ◌==◌, Bool, cond, T, List, [], ◌∷◌, length, if◌then◌else◌, Option, Some, None, option_map, option_and_then, refl, sym, ap, ap₂, ◌∙◌, arith, eq-eqb, ne_eqb}
use Rattle.std.proofs.lemmas.Bool.{cases_eq}
use Rattle.std.specs.Ordering.{nat_cmp}
use Rattle.std.specs.Cmp.{nat_cmp_total}
use Rattle.std.specs.FinMap.{nat_cmp-IsAntisymmetric, get, entries, find, is_sorted, entries_sorted, get-entries}
use Rattle.std.specs.FinMap.Entries.{below_all}
use Rattle.std.proofs.lemmas.Option.{none-some}
use Rattle.base_types.specs.declared.layout.Layout.{Layout}
use Rattle.base_types.specs.Layouts.{directory_blocks}
use Rattle.base_types.specs.LayoutLaws.{no_directory_blocks}
use Rattle.lang_tree.specs.Tree.{Tree, Thing, Dir, path_cmp}
use Rattle.lang_tree.specs.Names.{times, path_count}
use Rattle.lang_tree.specs.Figures.{content_blocks, file_blocks, all_directory_blocks, blocks}
use Rattle.crash_stands.specs.Inodes.{Inode, Inodes, ADir, AFile, thing_of}
use Rattle.fs_inodes.specs.Lookups.{links_in}
use Rattle.fs_inodes.specs.Listing.{links_from}
use Rattle.fs_inodes.specs.Figures.{inode_blocks, dir_blocks, directories_from, blocks_from}
use Rattle.fs_inodes.specs.TreeLaws.{TreeLaws}
use Rattle.fs_inodes.proofs.basics.Paths.{Path}
use Rattle.fs_inodes.proofs.basics.FinMaps.{path_total, path_same, tied, which_key}
use Rattle.fs_inodes.proofs.agreement.Agree.{Agrees}
use Rattle.fs_inodes.proofs.lookups.Walking.{number_given}
use Rattle.fs_inodes.proofs.lookups.Rows.{both_of, names_count}

-- Sums over n numbers from k on.

-- a sum over n numbers from k on
abbrev pub sum_from : (ℕ → ℕ) → ℕ → ℕ → ℕ
sum_from f k zero = 0
sum_from f k (suc n) = f k + sum_from f (k + 1) n

-- sums put together
pub exchange : (a b c d : ℕ) → (a + b) + (c + d) ≡ (a + c) + (b + d)
exchange a b c d = omega arith

-- a sum of sums
sum_added : (f h : ℕ → ℕ) (k n : ℕ) → sum_from (λ i. f i + h i) k n ≡ sum_from f k n + sum_from h k n
sum_added f h k zero = refl
sum_added f h k (suc n) = ap (λ s. (f k + h k) + s) (sum_added f h (k + 1) n) ∙ exchange (f k) (h k) (sum_from f (k + 1) n) (sum_from h (k + 1) n)

-- the same summands have the same sum
pub sum_same : (f h : ℕ → ℕ) → ((i : ℕ) → f i ≡ h i) → (k n : ℕ) → sum_from f k n ≡ sum_from h k n
sum_same f h same k zero = refl
sum_same f h same k (suc n) = ap₂ (λ x y. x + y) (same k) (sum_same f h same (k + 1) n)

-- a sum of nothing
sum_nothing : (f : ℕ → ℕ) (k n : ℕ) → ((i : ℕ) → k ≤ i → f i ≡ 0) → sum_from f k n ≡ 0
sum_nothing f k zero none = refl
sum_nothing f k (suc n) none = let rest = sum_nothing f (k + 1) n (λ i low. none i (omega (arith, low))) in omega (arith, none k (omega arith), rest)

-- where f has something at one number of the range alone, that is the sum
sum_one : (f : ℕ → ℕ) (j c k n : ℕ) → k ≤ j → j < k + n → f j ≡ c → ((i : ℕ) → (i ≡ j → ⊥) → f i ≡ 0) → sum_from f k n ≡ c
sum_one f j c k zero low high here others = absurd (omega (arith, low, high))
sum_one f j c k (suc n) low high here others = grind (arith, sum_one f j c (k + 1) n, cases_eq k j, sum_nothing)

-- the blocks of inodes as such a sum
pub blocks_summed : (l : Layout) (m : Inodes) (k n : ℕ) → blocks_from l m k n ≡ sum_from (λ i. inode_blocks l (m i)) k n
blocks_summed l m k zero = refl
blocks_summed l m k (suc n) = ap (λ s. inode_blocks l (m k) + s) (blocks_summed l m (k + 1) n)

-- those of directories
directories_summed : (l : Layout) (m : Inodes) (k n : ℕ) → directories_from l m k n ≡ sum_from (λ i. dir_blocks l (m i)) k n
directories_summed l m k zero = refl
directories_summed l m k (suc n) = ap (λ s. dir_blocks l (m k) + s) (directories_summed l m (k + 1) n)

-- The files.

-- the blocks of a file, if there is one
abbrev thing_blocks : Option Thing → ℕ
thing_blocks None = 0
thing_blocks (Some x) = content_blocks x

-- a number before all others isn't among them
not_below : (k : ℕ) (es : List (ℕ × Thing)) → T (below_all nat_cmp k es) → find nat_cmp k es ≡ None
not_below k [] h = refl
not_below k (e ∷ es) h = grind (arith, not_below k es, which_key nat_cmp_total nat_cmp-IsAntisymmetric k e.0, which_key, both_of)

-- the number of an entry is within the range
abbrev AreWithin : List (ℕ × Thing) → ℕ → ℕ → Type 0
AreWithin es k n = (j : ℕ) (x : Thing) → find nat_cmp j es ≡ Some x → (k ≤ j) × (j < k + n)

module _ (e : ℕ × Thing) (es : List (ℕ × Thing)) (h : T (is_sorted nat_cmp (e ∷ es))) where
  -- the first entry is found under its number
  first_found : find nat_cmp e.0 (e ∷ es) ≡ Some e.1
  first_found = ap (λ b. cond b (Some e.1) (find nat_cmp e.0 es)) (tied nat_cmp_total nat_cmp-IsAntisymmetric e.0 e.0 refl)

  -- and no later one is
  first_gone : find nat_cmp e.0 es ≡ None
  first_gone = not_below e.0 es (both_of _ _ h).0

  -- under another number a later one is
  found_later : (j : ℕ) → (j ≡ e.0 → ⊥) → find nat_cmp j (e ∷ es) ≡ find nat_cmp j es
  found_later j off = grind arith

  -- the blocks under a number are those of the first entry or of a later one
  split : (j : ℕ) → thing_blocks (find nat_cmp j (e ∷ es)) ≡ (if j == e.0 then content_blocks e.1 else 0) + thing_blocks (find nat_cmp j es)
  split j = grind (arith, cases_eq j e.0, eq-eqb, first_gone, ne_eqb)

-- the blocks of all files, by their numbers
files_summed : (es : List (ℕ × Thing)) (k n : ℕ) → T (is_sorted nat_cmp es) → AreWithin es k n → file_blocks es ≡ sum_from (λ j. thing_blocks (find nat_cmp j es)) k n
files_summed [] k n h within = sym (sum_nothing (λ j. 0) k n (λ i low. refl))
files_summed (e ∷ es) k n h within =
    let at = within e.0 e.1 (first_found e es h) in
    let rest = files_summed es k n (both_of _ _ h).1 (λ j x is. within j x (found_later e es h j (λ same. none-some x (sym (first_gone e es h) ∙ ap (λ j. find nat_cmp j es) (sym same) ∙ is)) ∙ is)) in
    let one : sum_from (λ j. if j == e.0 then content_blocks e.1 else 0) k n ≡ content_blocks e.1
    = sum_one (λ j. if j == e.0 then content_blocks e.1 else 0) e.0 (content_blocks e.1) k n at.0 at.1
    (ap (λ b. if b then content_blocks e.1 else 0) (eq-eqb e.0 e.0 refl)) (λ i off. ap (λ b. if b then content_blocks e.1 else 0) (ne_eqb i e.0 off)) in
    sym (sum_same (λ j. thing_blocks (find nat_cmp j (e ∷ es))) (λ j. (if j == e.0 then content_blocks e.1 else 0) + thing_blocks (find nat_cmp j es)) (split e es h) k n
    ∙ sum_added (λ j. if j == e.0 then content_blocks e.1 else 0) (λ j. thing_blocks (find nat_cmp j es)) k n
    ∙ ap₂ (λ x y. x + y) one (sym rest))

-- The directories.

-- a sum over the paths, by the number that each leads to
abbrev pub by_number : (ℕ → ℕ) → List (Path × ℕ) → ℕ
by_number f [] = 0
by_number f (e ∷ es) = f e.1 + by_number f es

-- the number of each path is within the range
abbrev pub AreNumbers : List (Path × ℕ) → ℕ → ℕ → Type 0
AreNumbers [] k n = Unit {0}
AreNumbers (e ∷ es) k n = (k ≤ e.1) × (e.1 < k + n) × AreNumbers es k n

-- one more of something
times_more : (b : Bool) (t f : ℕ) → ((if b then 1 else 0) + t) * f ≡ (if b then f else 0) + t * f
times_more b t f = grind arith

-- a sum over paths is one over numbers, each as often as it has paths
pub numbers_summed : (f : ℕ → ℕ) (es : List (Path × ℕ)) (k n : ℕ) → AreNumbers es k n → by_number f es ≡ sum_from (λ j. times j es * f j) k n
numbers_summed f [] k n within = sym (sum_nothing (λ j. 0 * f j) k n (λ i low. omega arith))
numbers_summed f (e ∷ es) k n within =
    let rest = numbers_summed f es k n within.2 in
    let one : sum_from (λ j. if e.1 == j then f j else 0) k n ≡ f e.1
    = sum_one (λ j. if e.1 == j then f j else 0) e.1 (f e.1) k n within.0 within.1
    (ap (λ b. if b then f e.1 else 0) (eq-eqb e.1 e.1 refl)) (λ i off. ap (λ b. if b then f i else 0) (ne_eqb e.1 i (λ same. off (sym same)))) in
    sym (sum_same (λ j. times j (e ∷ es) * f j) (λ j. (if e.1 == j then f j else 0) + times j es * f j) (λ j. times_more (e.1 == j) (times j es) (f j)) k n
    ∙ sum_added (λ j. if e.1 == j then f j else 0) (λ j. times j es * f j) k n
    ∙ ap₂ (λ x y. x + y) one (sym rest))

-- a key before all others isn't among them
pub gone_in_front : (x : Path) (es : List (Path × ℕ)) → T (below_all path_cmp x es) → find path_cmp x es ≡ None
gone_in_front x [] h = refl
gone_in_front x (d ∷ es) h = grind (arith, gone_in_front x es, which_key path_total path_same x d.0, which_key, path_total, path_same, both_of)

module _ (laws : TreeLaws) (limit : ℕ) (m : Inodes) (t : Tree) (a : Agrees limit m t) where
  -- a later path is found among all
  pub later_paths : (e : Path × ℕ) (es : List (Path × ℕ)) → T (is_sorted path_cmp (e ∷ es)) → (p : Path) (n : ℕ) → find path_cmp p es ≡ Some n → find path_cmp p (e ∷ es) ≡ Some n
  later_paths e es h p n is = grind (arith, which_key path_total path_same p e.0, which_key, path_total, path_same, none-some, gone_in_front, both_of)

  -- the first one is
  pub here_path : (e : Path × ℕ) (es : List (Path × ℕ)) → find path_cmp e.0 (e ∷ es) ≡ Some e.1
  here_path e es = ap (λ b. cond b (Some e.1) (find path_cmp e.0 es)) (tied path_total path_same e.0 e.0 refl)

  -- what each path holds is what the directory that it leads to holds
  dirs_by_number : (l : Layout) (es : List (Path × ℕ)) → T (is_sorted path_cmp es) → ((p : Path) (n : ℕ) → find path_cmp p es ≡ Some n → get t.names p ≡ Some n)
      → all_directory_blocks l t.names es ≡ by_number (λ n. dir_blocks l (m n)) es
  dirs_by_number l [] h are = refl
  dirs_by_number l (e ∷ es) h are =
      ap₂ (λ x y. x + y)
      (ap (directory_blocks l) (names_count limit m t a e.0)
      ∙ ap (λ o. dir_blocks l (option_and_then m o)) (sym (number_given limit m t a e.0) ∙ are e.0 e.1 (here_path e es)))
      (dirs_by_number l es (both_of _ _ h).1 (λ p n is. are p n (later_paths e es h p n is)))

  -- each path leads to a number of the range
  pub numbers_within : (es : List (Path × ℕ)) → T (is_sorted path_cmp es) → ((p : Path) (n : ℕ) → find path_cmp p es ≡ Some n → get t.names p ≡ Some n) → AreNumbers es 1 limit
  numbers_within [] h are = tt
  numbers_within (e ∷ es) h are =
      let x = a.sound.named e.0 e.1 (are e.0 e.1 (here_path e es)) in
      let at = a.sound.within e.1 x.0 x.1 in
      (at.0, omega (arith, at.1), numbers_within es (both_of _ _ h).1 (λ p n is. are p n (later_paths e es h p n is)))

  -- the entries are paths of the tree
  pub all_are : (p : Path) (n : ℕ) → find path_cmp p (entries t.names) ≡ Some n → get t.names p ≡ Some n
  all_are p n is = get-entries t.names p ∙ is

  -- once is once
  pub one_times : (c n : ℕ) → c ≡ 1 → c * n ≡ n
  one_times c n e = ap (λ c. c * n) e ∙ omega arith

  -- nothing is nothing, however often
  pub nothing_times : (c n : ℕ) → n ≡ 0 → c * n ≡ 0
  nothing_times c n e = ap (λ n. c * n) e ∙ omega arith

  -- a directory has one path, and what is none has no slots
  counted_once : (l : Layout) (n : ℕ) → path_count t.names n * dir_blocks l (m n) ≡ dir_blocks l (m n)
  counted_once l n = by (m n) refl
    where
      none : path_count t.names n * directory_blocks l 0 ≡ directory_blocks l 0
      none = nothing_times (path_count t.names n) (directory_blocks l 0) (no_directory_blocks l) ∙ sym (no_directory_blocks l)

      by : (o : Option Inode) → m n ≡ o → path_count t.names n * dir_blocks l o ≡ dir_blocks l o
      by None is = none
      by (Some (ADir slots)) is =
          let dir : get t.nodes n ≡ Some Dir = a.nodes n ∙ ap (option_map thing_of) is in
          let p = a.sound.reached n Dir dir in
          one_times (path_count t.names n) (directory_blocks l (length slots)) (laws.count_dir limit t p.0 n a.sound p.1 dir)
      by (Some (AFile links bytes)) is = none

  -- the blocks of all directories are those of the inodes
  dirs_summed : (l : Layout) → all_directory_blocks l t.names (entries t.names) ≡ sum_from (λ j. dir_blocks l (m j)) 1 limit
  dirs_summed l =
      dirs_by_number l (entries t.names) (entries_sorted t.names) all_are
      ∙ numbers_summed (λ n. dir_blocks l (m n)) (entries t.names) 1 limit (numbers_within (entries t.names) (entries_sorted t.names) all_are)
      ∙ sum_same (λ j. times j (entries t.names) * dir_blocks l (m j)) (λ j. dir_blocks l (m j)) (counted_once l) 1 limit

  -- and are so, number by number
  pub directories_given : (l : Layout) → all_directory_blocks l t.names (entries t.names) ≡ directories_from l m 1 limit
  directories_given l = dirs_summed l ∙ sym (directories_summed l m 1 limit)

  -- nothing and a number
  zero_first : (n : ℕ) → 0 + n ≡ n
  zero_first n = omega arith

  -- the blocks of an inode are those of a file and of a directory
  two_parts : (l : Layout) (o : Option Inode) → thing_blocks (option_map thing_of o) + dir_blocks l o ≡ inode_blocks l o
  two_parts l None = omega (arith, no_directory_blocks l)
  two_parts l (Some (ADir slots)) = omega arith
  two_parts l (Some (AFile links bytes)) = omega (arith, no_directory_blocks l)

  -- the blocks of the tree are those of the inodes
  pub blocks_given : (l : Layout) → blocks l t ≡ blocks_from l m 1 limit
  blocks_given l =
      let files : file_blocks (entries t.nodes) ≡ sum_from (λ j. thing_blocks (find nat_cmp j (entries t.nodes))) 1 limit
      = files_summed (entries t.nodes) 1 limit (entries_sorted t.nodes) (λ j x is. let at = a.sound.within j x (get-entries t.nodes j ∙ is) in (at.0, omega (arith, at.1))) in
      ap₂ (λ x y. x + y)
      (files ∙ sum_same (λ j. thing_blocks (find nat_cmp j (entries t.nodes))) (λ j. thing_blocks (option_map thing_of (m j))) (λ j. ap thing_blocks (sym (get-entries t.nodes j) ∙ a.nodes j)) 1 limit)
      (dirs_summed l)
      ∙ sym (sum_added (λ j. thing_blocks (option_map thing_of (m j))) (λ j. dir_blocks l (m j)) 1 limit)
      ∙ sum_same (λ j. thing_blocks (option_map thing_of (m j)) + dir_blocks l (m j)) (λ j. inode_blocks l (m j)) (λ j. two_parts l (m j)) 1 limit
      ∙ sym (blocks_summed l m 1 limit)

  -- The links of all numbers are the paths.

  -- the paths, as a sum of ones
  paths_by_number : (es : List (Path × ℕ)) → length es ≡ by_number (λ n. 1) es
  paths_by_number [] = refl
  paths_by_number (e ∷ es) = let rest = paths_by_number es in omega (arith, rest)

  -- the links, as a sum
  links_summed : (k n : ℕ) → links_from m k n ≡ sum_from (λ i. links_in (m i)) k n
  links_summed k zero = refl
  links_summed k (suc n) = ap (λ s. links_in (m k) + s) (links_summed (k + 1) n)

  -- each number has as many paths as links
  counted_links : (n : ℕ) → path_count t.names n * 1 ≡ links_in (m n)
  counted_links n = by (m n) refl
    where
      once : (c l : ℕ) → c ≡ l → c * 1 ≡ l
      once c l e = omega (arith, e)

      unused : m n ≡ None → (c : ℕ) → path_count t.names n ≡ c → c ≡ 0
      unused h1 c h2 = grind (arith, laws.count_found, t.names, a.sound.named, none-some, a.nodes)

      by : (o : Option Inode) → m n ≡ o → path_count t.names n * 1 ≡ links_in o
      by None is = once (path_count t.names n) 0 (unused is (path_count t.names n) refl)
      by (Some (ADir slots)) is =
          let dir : get t.nodes n ≡ Some Dir = a.nodes n ∙ ap (option_map thing_of) is in
          let p = a.sound.reached n Dir dir in
          once (path_count t.names n) 1 (laws.count_dir limit t p.0 n a.sound p.1 dir)
      by (Some (AFile links bytes)) is = once (path_count t.names n) links (a.links n links bytes is)

  -- so there are as many paths as links
  pub paths_counted : length (entries t.names) ≡ links_from m 1 limit
  paths_counted = paths_by_number (entries t.names)
      ∙ numbers_summed (λ n. 1) (entries t.names) 1 limit (numbers_within (entries t.names) (entries_sorted t.names) all_are)
      ∙ sum_same (λ j. times j (entries t.names) * 1) (λ j. links_in (m j)) counted_links 1 limit
      ∙ sym (links_summed 1 limit)
