-- Blocks as sums: what the files of a tree take, and what its directories take with a path more or less.
use Rattle.std.proofs.Common.{◌≡◌, ℕ, ◌+◌, ◌-◌, true, false, if◌then◌else◌, List, [], ◌∷◌, ◌++◌, length, Option, Some, None, is_some, refl, sym, ap, ap₂, ◌∙◌, arith, true≢false}
use Rattle.std.proofs.lemmas.Bool.{false_from_ne_true}
use Rattle.std.specs.List.{filter_map}
use Rattle.std.specs.Cmp.{nat_cmp_total}
use Rattle.std.specs.FinMap.{nat_cmp-IsAntisymmetric, get, insert, remove, entries}
use Rattle.std.proofs.lemmas.Option.{none-some}
use Rattle.base_types.specs.declared.layout.Layout.{Layout}
use Rattle.base_types.specs.Layouts.{directory_blocks}
use Rattle.base_types.specs.LayoutLaws.{directory_blocks_rise, no_directory_blocks}
use Rattle.lang_tree.specs.Tree.{Names, Nodes, Thing}
use Rattle.lang_tree.specs.Paths.{strip, name_in, lone_name, is_below, parent}
use Rattle.lang_tree.specs.Names.{names_in, holds_names}
use Rattle.lang_tree.specs.Figures.{content_blocks, file_blocks, all_directory_blocks, growth, release}
use Rattle.lang_tree.proofs.basics.Order.{path_total, path_same}
use Rattle.lang_tree.proofs.basics.Strips.{strip_is, strip_join, from_end, parent_append}
use Rattle.lang_tree.proofs.basics.Finds.{gone_here, stays, put_back}
use Rattle.lang_tree.proofs.walking.Found.{some_held}
use Rattle.lang_tree.proofs.soundness.SoundMoves.{not_own_parent}
use Rattle.lang_tree.proofs.counting.Totals.{total, total_none, total_inserted, total_removed, total_same, total_changed}

abbrev Place : Type 0
Place = List (List ℕ)

-- Files.

pub files_total : (es : List (ℕ × Thing)) → file_blocks es ≡ total (λ e. content_blocks e.1) es
files_total [] = refl
files_total (e ∷ es) = ap (λ n. content_blocks e.1 + n) (files_total es)

pub file_added : (nodes : Nodes) (n : ℕ) (x : Thing) → get nodes n ≡ None → file_blocks (entries (insert nodes n x)) ≡ content_blocks x + file_blocks (entries nodes)
file_added nodes n x none = files_total (entries (insert nodes n x)) ∙ total_inserted nat_cmp_total (λ e. content_blocks e.1) nodes n x none ∙ ap (λ k. content_blocks x + k) (sym (files_total (entries nodes)))

pub file_gone : (nodes : Nodes) (n : ℕ) (x : Thing) → get nodes n ≡ Some x → file_blocks (entries nodes) ≡ content_blocks x + file_blocks (entries (remove nodes n))
file_gone nodes n x at = files_total (entries nodes) ∙ total_removed nat_cmp_total nat_cmp-IsAntisymmetric (λ e. content_blocks e.1) nodes n x at
    ∙ ap (λ k. content_blocks x + k) (sym (files_total (entries (remove nodes n))))

-- Which directory holds a path.

abbrev one_for : Option (List ℕ) → ℕ
one_for o = if is_some o then 1 else 0

-- one where the directory at `up` holds the path, and else none
abbrev pub one_in : Place → Place → ℕ
one_in up path = one_for (name_in up path)

pub in_parent : (path : Place) → (path ≡ [] → ⊥) → is_some (name_in (parent path) path) ≡ true
in_parent path below_root = grind (arith, from_end path, from_end, parent_append, strip_join)

-- a path that the directory holds has one name more
pub last_name : (up path : Place) → is_some (name_in up path) ≡ true → (name : List ℕ) × (path ≡ up ++ name ∷ [])
last_name up path h = by (strip up path) refl h
  where
    by : (o : Option Place) → strip up path ≡ o → is_some (lone_name o) ≡ true → (name : List ℕ) × (path ≡ up ++ name ∷ [])
    by None is h = absurd cc
    by (Some []) is h = absurd cc
    by (Some (name ∷ [])) is h = (name, strip_is up path (name ∷ []) is)
    by (Some (name ∷ more ∷ rest)) is h = absurd cc

pub in_parent_alone : (up path : Place) → is_some (name_in up path) ≡ true → up ≡ parent path
in_parent_alone up path h = let end = last_name up path h in sym (ap parent end.1 ∙ parent_append up end.0)

pub one_at_parent : (path : Place) → (path ≡ [] → ⊥) → one_in (parent path) path ≡ 1
one_at_parent path below_root = ap (λ b. if b then 1 else 0) (in_parent path below_root)

pub none_elsewhere : (up path : Place) → (up ≡ parent path → ⊥) → one_in up path ≡ 0
none_elsewhere up path off = ap (λ b. if b then 1 else 0) (false_from_ne_true (is_some (name_in up path)) (λ h. off (in_parent_alone up path h)))

pub none_without : (up path : Place) → ((name : List ℕ) → path ≡ up ++ name ∷ [] → ⊥) → one_in up path ≡ 0
none_without up path off = ap (λ b. if b then 1 else 0) (false_from_ne_true (is_some (name_in up path)) (λ h. let end = last_name up path h in off end.0 end.1))

-- a directory that holds a path has it below
one_below : (up path : Place) → is_below up path ≡ false → one_in up path ≡ 0
one_below up path h = grind (arith, strip up path)

-- How many names a directory holds.

abbrev pub held : Names → Place → ℕ
held names up = length (names_in names up)

counted : (up : Place) (es : List (Place × ℕ)) → length (filter_map (λ e. name_in up e.0) es) ≡ total (λ e. one_in up e.0) es
counted up [] = refl
counted up (e ∷ es) = grind (arith, counted up es, name_in up e.0, total)

pub held_total : (names : Names) (up : Place) → held names up ≡ total (λ e. one_in up e.0) (entries names)
held_total names up = counted up (entries names)

pub held_more : (names : Names) (path : Place) (n : ℕ) (up : Place) → get names path ≡ None → held (insert names path n) up ≡ one_in up path + held names up
held_more names path n up none = held_total (insert names path n) up ∙ total_inserted path_total (λ e. one_in up e.0) names path n none ∙ ap (λ k. one_in up path + k) (sym (held_total names up))

pub held_same : (names : Names) (path : Place) (n : ℕ) (up : Place) → get names path ≡ None → (up ≡ parent path → ⊥) → held (insert names path n) up ≡ held names up
held_same names path n up none off = let more = held_more names path n up none in let other = none_elsewhere up path off in omega (arith, more, other)

pub held_less : (names : Names) (path : Place) (n : ℕ) (up : Place) → get names path ≡ Some n → held names up ≡ one_in up path + held (remove names path) up
held_less names path n up at = held_total names up ∙ total_removed path_total path_same (λ e. one_in up e.0) names path n at ∙ ap (λ k. one_in up path + k) (sym (held_total (remove names path) up))

pub holds_none : (names : Names) (path : Place) → holds_names names path ≡ false → held names path ≡ 0
holds_none names path free = held_total names path
    ∙ total_same path_total (λ p. one_in path p) (λ p. 0) names (λ p n at. one_below path p (false_from_ne_true (is_below path p) (λ below. true≢false (sym (some_held names path p n at below) ∙ free))))
    ∙ total_none (entries names)

-- The blocks of the directories.

abbrev pub dirs : Layout → Names → ℕ
dirs l names = all_directory_blocks l names (entries names)

each_dir : (l : Layout) (names : Names) (es : List (Place × ℕ)) → all_directory_blocks l names es ≡ total (λ e. directory_blocks l (held names e.0)) es
each_dir l names [] = refl
each_dir l names (e ∷ es) = ap (λ n. directory_blocks l (held names e.0) + n) (each_dir l names es)

pub dirs_total : (l : Layout) (names : Names) → dirs l names ≡ total (λ e. directory_blocks l (held names e.0)) (entries names)
dirs_total l names = each_dir l names (entries names)

-- the same count, written in the two ways
pub more_names : (l : Layout) (count : ℕ) → directory_blocks l (count + 1) ≡ directory_blocks l (1 + count)
more_names l count = ap (directory_blocks l) (omega arith)

pub fewer_names : (l : Layout) (count : ℕ) → directory_blocks l (1 + count - 1) ≡ directory_blocks l count
fewer_names l count = ap (directory_blocks l) (omega arith)

pub grown : (l : Layout) (before after count : ℕ) → after + directory_blocks l count ≡ before + directory_blocks l (1 + count) → after ≡ before + growth l count
grown l before after count e = let more = more_names l count in let rises = directory_blocks_rise l count (1 + count) (omega arith) in omega (arith, e, more, rises)

pub freed : (l : Layout) (before after count : ℕ) → before + directory_blocks l count ≡ after + directory_blocks l (1 + count) → after + release l (1 + count) ≡ before
freed l before after count e = let fewer = fewer_names l count in let rises = directory_blocks_rise l count (1 + count) (omega arith) in omega (arith, e, fewer, rises)

-- a new path, with nothing below it and a directory above it
module _ (l : Layout) (names : Names) (path : Place) (n k : ℕ) (none : get names path ≡ None) (empty : held names path ≡ 0) (below_root : path ≡ [] → ⊥) (up_at : get names (parent path) ≡ Some k) where
  blocks_then : Place → ℕ
  blocks_then p = directory_blocks l (held (insert names path n) p)

  blocks_now : Place → ℕ
  blocks_now p = directory_blocks l (held names p)

  pub dirs_more : dirs l (insert names path n) + directory_blocks l (held names (parent path)) ≡ dirs l names + directory_blocks l (1 + held names (parent path))
  unfolding blocks_then blocks_now
  dirs_more =
      let own : one_in path path ≡ 0 = none_elsewhere path path (λ e. none-some k (sym none ∙ ap (get names) e ∙ up_at)) in
      let of_path : directory_blocks l (held (insert names path n) path) ≡ 0 =
      ap (directory_blocks l) (held_more names path n path none ∙ ap₂ (λ a b. a + b) own empty) ∙ no_directory_blocks l in
      let of_up : held (insert names path n) (parent path) ≡ 1 + held names (parent path) = held_more names path n (parent path) none ∙ ap (λ a. a + held names (parent path)) (one_at_parent path below_root) in
      let with_path = total_inserted path_total (λ e. blocks_then e.0) names path n none in
      let at_up = total_changed path_total path_same blocks_then blocks_now names (parent path) k up_at (λ p m at off. ap (directory_blocks l) (held_same names path n p none off)) in
      omega (arith, dirs_total l (insert names path n), dirs_total l names, of_path, with_path, at_up, ap (directory_blocks l) of_up)

  pub dirs_grown : dirs l (insert names path n) ≡ dirs l names + growth l (held names (parent path))
  dirs_grown = grown l _ _ _ dirs_more

-- a path that goes, with nothing below it
module _ (names : Names) (path : Place) (n k : ℕ) (at : get names path ≡ Some n) (free : holds_names names path ≡ false) (below_root : path ≡ [] → ⊥) (up_at : get names (parent path) ≡ Some k) where
  pub held_one_less : held names (parent path) ≡ 1 + held (remove names path) (parent path)
  held_one_less = held_less names path n (parent path) at ∙ ap (λ a. a + held (remove names path) (parent path)) (one_at_parent path below_root)

  pub dirs_freed : (l : Layout) → dirs l (remove names path) + release l (held names (parent path)) ≡ dirs l names
  dirs_freed l =
      let gone = gone_here path_total names path path refl in
      let all = held_less names path n path at in
      let whole = holds_none names path free in
      let empty : held (remove names path) path ≡ 0 = omega (arith, all, whole) in
      let up_left = stays path_total path_same names path (parent path) (not_own_parent path below_root) ∙ up_at in
      let back = ap (λ m. dirs l m + directory_blocks l (held (remove names path) (parent path))) (sym (put_back path_total path_same names path n at)) in
      ap (λ a. dirs l (remove names path) + release l a) held_one_less
      ∙ freed l _ _ _ (back ∙ dirs_more l (remove names path) path n k gone empty below_root up_left)
