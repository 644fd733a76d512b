-- The paths that a walk over the directories makes, and the blocks of these directories: those of one directory, and then those at and below its paths.
use Rattle.std.proofs.Common.{◌≡◌, ℕ, zero, suc, ◌+◌, Bool, true, false, cond, List, [], ◌∷◌, ◌++◌, length, map, Option, Some, None, refl, sym, ap, ap₂, ◌∙◌, subst, arith, append_assoc, append-nil}
use Rattle.std.specs.Prelude.{option_and_then, option_map}
use Rattle.std.specs.List.{filter, flat_map}
use Rattle.std.specs.Ordering.{nat_cmp}
use Rattle.std.specs.Cmp.Lexicographic.{slice_cmp}
use Rattle.std.specs.FinMap.{entries, get, keys, len-empty, len-entries}
use Rattle.std.proofs.lemmas.Grind.{flat_map-append}
use Rattle.std.proofs.lemmas.List.Folds.{flat_map-map}
use Rattle.std.proofs.lemmas.Option.{none-some, same_Some}
use Rattle.base_types.specs.declared.layout.Layout.{Layout}
use Rattle.base_types.specs.declared.layout.Layout.TheVariants.{One, Two}
use Rattle.base_types.specs.Layouts.{directory_blocks}
use Rattle.layout_bytes.specs.declared.slot.Slot.{Slot}
use Rattle.lang_tree.specs.Figures.{all_directory_blocks}
use Rattle.lang_tree.specs.Names.{names_in}
use Rattle.lang_tree.specs.Paths.{is_within}
use Rattle.lang_tree.specs.Tree.{Dir, File, Names, Tree}
use Rattle.lang_making.specs.Making.{paths_in, paths_made}
use Rattle.crash_stands.specs.Inodes.{ADir, AFile, Inode, Inodes, thing_of}
use Rattle.crash_stands.specs.Maps.{IsMapOf}
use Rattle.crash_stands.specs.Walks.{LeadsTo}
use Rattle.fs_inodes.specs.Listing.{at_and_below}
use Rattle.fs_inodes.specs.Lookups.{inode_at, slots_of}
use Rattle.fs_inodes.specs.Names.{names_of, row_in}
use Rattle.cmd_upgrade.specs.Plans.{dirs_below, dirs_to_come, made_below}

flat_flat : {A B C : Type 0} (f : B → List C) (g : A → List B) (xs : List A) → flat_map f (flat_map g xs) ≡ flat_map (λ x. flat_map f (g x)) xs
flat_flat f g [] = refl
flat_flat f g (x ∷ xs) = flat_map-append f (g x) (flat_map g xs) ∙ ap (λ ys. flat_map f (g x) ++ ys) (flat_flat f g xs)

dirs_append : (l : Layout) (names : Names) (xs ys : List (List (List ℕ) × ℕ)) → all_directory_blocks l names (xs ++ ys) ≡ all_directory_blocks l names xs + all_directory_blocks l names ys
dirs_append l names [] ys = omega arith
dirs_append l names (x ∷ xs) ys = omega (arith, dirs_append l names xs ys)

pub no_length : {A : Type 0} (xs : List A) → length xs ≡ 0 → xs ≡ []
no_length [] e = refl
no_length (x ∷ xs) e = absurd (omega (arith, e))

-- no slot has no name
no_names : names_of [] ≡ []
no_names = ap (map (λ (e : List ℕ × ℕ). e.0)) (no_length (entries (row_in [])) (sym (len-entries (row_in [])) ∙ len-empty (slice_cmp nat_cmp) ℕ))

pub all_within : (es : List (List (List ℕ) × ℕ)) → filter (λ e. is_within [] e.0) es ≡ es
all_within [] = refl
all_within (e ∷ es) = ap (λ xs. e ∷ xs) (all_within es)

-- the directories of a tree are made from the root down
pub from_root : (t : Tree) → made_below t [] ≡ paths_made t.names
from_root t = ap (λ (es : List (List (List ℕ) × ℕ)). flat_map (λ e. paths_in t.names e.0) es) (all_within (entries t.names))
    ∙ sym (flat_map-map (paths_in t.names) (λ (e : List (List ℕ) × ℕ). e.0) (entries t.names))

module _ (limit : ℕ) (m : Inodes) (t : Tree) (is : IsMapOf limit m t)
    (down : (path : List (List ℕ)) (node : ℕ) → LeadsTo m path node → at_and_below t path ≡ (path, node) ∷ flat_map (λ name. at_and_below t (path ++ name ∷ [])) (names_of (slots_of (m node))))
    (named : (path : List (List ℕ)) (dir : ℕ) (slots : List Slot) → LeadsTo m path dir → m dir ≡ Some (ADir slots) → names_in t.names path ≡ names_of slots)
    (count : (path : List (List ℕ)) → length (names_in t.names path) ≡ length (slots_of (inode_at m path))) where
  -- the names at a path are those of the slots of what is there
  names_are : (path : List (List ℕ)) (n : ℕ) → LeadsTo m path n → names_in t.names path ≡ names_of (slots_of (m n))
  names_are path n leads = by (m n) refl
    where
      none : (o : Option Inode) → m n ≡ o → slots_of o ≡ [] → names_in t.names path ≡ names_of (slots_of o)
      none o e empty = no_length (names_in t.names path)
          (count path ∙ ap (λ (x : Option ℕ). length (slots_of (option_and_then m x))) leads ∙ ap (λ (x : Option Inode). length (slots_of x)) e ∙ ap (λ (xs : List Slot). length xs) empty)
          ∙ sym (ap names_of empty ∙ no_names)

      by : (o : Option Inode) → m n ≡ o → names_in t.names path ≡ names_of (slots_of o)
      by None e = none None e refl
      by (Some (ADir slots)) e = named path n slots leads e
      by (Some (AFile links bytes)) e = none (Some (AFile links bytes)) e refl

  below_is : (path : List (List ℕ)) (n : ℕ) → LeadsTo m path n → at_and_below t path ≡ (path, n) ∷ flat_map (λ name. at_and_below t (path ++ name ∷ [])) (names_in t.names path)
  below_is path n leads = down path n leads ∙ ap (λ names. (path, n) ∷ flat_map (λ name. at_and_below t (path ++ name ∷ [])) names) (sym (names_are path n leads))

  -- first the paths of the directory itself
  pub made_is : (path : List (List ℕ)) (n : ℕ) → LeadsTo m path n → made_below t path ≡ paths_in t.names path ++ flat_map (made_below t) (paths_in t.names path)
  made_is path n leads =
      ap (flat_map (λ (e : List (List ℕ) × ℕ). paths_in t.names e.0)) (below_is path n leads)
      ∙ ap (λ ps. paths_in t.names path ++ ps)
      (flat_flat (λ (e : List (List ℕ) × ℕ). paths_in t.names e.0) (λ name. at_and_below t (path ++ name ∷ [])) (names_in t.names path)
      ∙ sym (flat_map-map (made_below t) (λ name. path ++ name ∷ []) (names_in t.names path)))

  dirs_in : (l : Layout) (path : List (List ℕ)) (names : List (List ℕ))
      → all_directory_blocks l t.names (flat_map (λ name. at_and_below t (path ++ name ∷ [])) names) ≡ dirs_to_come l t (map (λ name. path ++ name ∷ []) names)
  dirs_in l path [] = refl
  dirs_in l path (name ∷ names) =
      dirs_append l t.names (at_and_below t (path ++ name ∷ [])) (flat_map (λ x. at_and_below t (path ++ x ∷ [])) names) ∙ ap (λ n. dirs_below l t (path ++ name ∷ []) + n) (dirs_in l path names)

  pub dirs_is : (l : Layout) (path : List (List ℕ)) (n : ℕ) → LeadsTo m path n
      → dirs_below l t path ≡ directory_blocks l (length (names_in t.names path)) + dirs_to_come l t (paths_in t.names path)
  dirs_is l path n leads =
      ap (all_directory_blocks l t.names) (below_is path n leads) ∙ ap (λ k. directory_blocks l (length (names_in t.names path)) + k) (dirs_in l path (names_in t.names path))

  -- a file has no names, so nothing is made below it
  file_has_none : (path : List (List ℕ)) (n links : ℕ) (bytes : List ℕ) → LeadsTo m path n → m n ≡ Some (AFile links bytes) → names_in t.names path ≡ []
  file_has_none path n links bytes leads e = names_are path n leads ∙ ap (λ (o : Option Inode). names_of (slots_of o)) e ∙ no_names

  pub nothing_in_file : (path : List (List ℕ)) (n : ℕ) (bytes : List ℕ) → LeadsTo m path n → get t.nodes n ≡ Some (File bytes) → names_in t.names path ≡ []
  nothing_in_file path n bytes leads there = by (m n) refl (sym (is.shows.nodes n) ∙ there)
    where
      by : (o : Option Inode) → m n ≡ o → option_map thing_of o ≡ Some (File bytes) → names_in t.names path ≡ []
      by None e f = absurd (none-some (File bytes) f)
      by (Some (ADir slots)) e f = let same = same_Some Dir (File bytes) f in absurd cc
      by (Some (AFile links xs)) e f = file_has_none path n links xs leads e

  pub none_made : (path : List (List ℕ)) (n : ℕ) → LeadsTo m path n → names_in t.names path ≡ [] → made_below t path ≡ []
  none_made path n leads none =
      made_is path n leads ∙ ap (λ (names : List (List ℕ)). map (λ name. path ++ name ∷ []) names ++ flat_map (made_below t) (map (λ name. path ++ name ∷ []) names)) none

  pub no_blocks : (l : Layout) (path : List (List ℕ)) (n : ℕ) → LeadsTo m path n → names_in t.names path ≡ [] → dirs_below l t path ≡ 0
  no_blocks l path n leads none =
      dirs_is l path n leads ∙ ap (λ (names : List (List ℕ)). directory_blocks l (length names) + dirs_to_come l t (map (λ name. path ++ name ∷ []) names)) none ∙ by l
    where
      by : (l : Layout) → directory_blocks l 0 + 0 ≡ 0
      by One = refl
      by Two = refl
