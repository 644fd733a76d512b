-- A worked example: the commands that make a tree of two directories and a file with two paths.
use Rattle.std.proofs.Common.{◌≡◌, ℕ, List, [], ◌∷◌, ◌++◌, map, Option, Some, option_and_then, if◌then◌else◌, find as first, refl, ap, ap₂, ◌∙◌}
use Rattle.std.specs.Prelude.{codes}
use Rattle.std.specs.List.{flat_map, filter_map}
use Rattle.std.specs.FinMap.{get, entries, find, get-entries}
use Rattle.lang_tree.specs.declared.command.Cmd.{Cmd}
use Rattle.lang_tree.specs.declared.command.Cmd.TheVariants.{Mkdir, Create, Write, Link}
use Rattle.lang_tree.specs.Tree.{Tree, Thing, Dir, File, path_cmp}
use Rattle.lang_tree.specs.Paths.{name_in}
use Rattle.lang_tree.specs.Walk.{is_dir, are_same, bytes_in}
use Rattle.lang_making.specs.Making.{paths_made, is_path, file_command, writing, making}

abbrev a : List (List ℕ)
a = codes "a" ∷ []

abbrev b : List (List ℕ)
b = codes "b" ∷ []

abbrev x : List (List ℕ)
x = codes "a" ∷ codes "x" ∷ []

abbrev es : List (List (List ℕ) × ℕ)
es = ([], 1) ∷ (a, 3) ∷ (x, 2) ∷ (b, 2) ∷ []

-- the order of the paths, from the entries alone
abbrev ordered : List (List (List ℕ) × ℕ) → List (List (List ℕ))
ordered es = flat_map (λ up. map (λ name. up ++ name ∷ []) (filter_map (λ e. name_in up e.0) es)) (map (λ e. e.0) es)

-- the commands, from what is at each path and each number
abbrev commands : (List (List ℕ) → Option ℕ) → (ℕ → Option Thing) → List (List (List ℕ)) → List Cmd
commands number thing paths =
    map (λ p. if is_dir (option_and_then thing (number p)) then Mkdir p else file_command (first (λ q. are_same (number p) (number q)) paths) p) paths
    ++ flat_map (λ p. if is_path p (first (λ q. are_same (number p) (number q)) paths) then writing p (bytes_in (option_and_then thing (number p))) else []) paths

-- and from the two things that there are
abbrev of_things : Option Thing → Option Thing → List Cmd
of_things dir file =
    (if is_dir dir then Mkdir a else Create a) ∷ (if is_dir file then Mkdir b else Create b) ∷ (if is_dir file then Mkdir x else Link b x) ∷ []
    ++ (writing a (bytes_in dir) ++ (writing b (bytes_in file) ++ []))

module _ (t : Tree) (is : entries t.names ≡ es) (dir : get t.nodes 3 ≡ Some Dir) (file : get t.nodes 2 ≡ Some (File (104 ∷ 105 ∷ []))) where
  numbers : (p : List (List ℕ)) → get t.names p ≡ find path_cmp p es
  numbers p = get-entries t.names p ∙ ap (find path_cmp p) is

  order : paths_made t.names ≡ a ∷ b ∷ x ∷ []
  order = ap ordered is

  from_entries : making t ≡ commands (λ p. find path_cmp p es) (λ n. get t.nodes n) (a ∷ b ∷ x ∷ [])
  from_entries = λ i. commands (λ p. numbers p i) (λ n. get t.nodes n) (order i)

  from_things : commands (λ p. find path_cmp p es) (λ n. get t.nodes n) (a ∷ b ∷ x ∷ []) ≡ of_things (get t.nodes 3) (get t.nodes 2)
  from_things = refl

  pub small_made : making t ≡ Mkdir a ∷ Create b ∷ Link b x ∷ Write b 0 (104 ∷ 105 ∷ []) ∷ []
  small_made = from_entries ∙ from_things ∙ ap₂ of_things dir file
