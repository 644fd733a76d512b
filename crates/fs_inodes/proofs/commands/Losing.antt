-- What is left of a node where one slot less names it, and of the tree's nodes where a path is gone.
use Rattle.std.proofs.Common.{◌≡◌, ℕ, ◌+◌, ◌-◌, ◌==◌, Bool, true, false, if◌then◌else◌, List, Option, Some, None, option_map, option_and_then, sym, refl, ap, ◌∙◌, ◌⊎◌, arith, eq-eqb, ne_eqb}
use Rattle.std.proofs.lemmas.Bool.{cases_eq}
use Rattle.std.specs.FinMap.{get, remove}
use Rattle.std.proofs.lemmas.Option.{none-some}
use Rattle.layout_bytes.specs.declared.slot.Slot.{Slot}
use Rattle.lang_tree.specs.Tree.{Tree, Thing, File}
use Rattle.lang_tree.specs.Names.{path_count}
use Rattle.lang_tree.specs.Step.{with_used}
use Rattle.crash_stands.specs.Inodes.{Inode, Inodes, ADir, AFile, thing_of}
use Rattle.crash_stands.specs.Walks.{entry_in}
use Rattle.fs_inodes.specs.Changes.{one_link_less}
use Rattle.fs_inodes.specs.TreeLaws.{TreeLaws}
use Rattle.fs_inodes.proofs.basics.Paths.{Path}
use Rattle.fs_inodes.proofs.basics.FinMaps.{node_gone, node_stays}
use Rattle.fs_inodes.proofs.commands.Adding.{one_if, counts_one}
use Rattle.fs_inodes.proofs.agreement.Agree.{Agrees}

-- nothing is in what is left
pub left_empty : (o : Option Inode) (b : List ℕ) → entry_in (option_and_then one_link_less o) b ≡ None
left_empty o b = grind arith

-- what is left isn't a directory
pub left_no_dir : (o : Option Inode) (slots : List Slot) → option_and_then one_link_less o ≡ Some (ADir slots) → ⊥
left_no_dir o slots h1 = grind (arith, none-some)

module _ (laws : TreeLaws) (limit : ℕ) (m : Inodes) (t : Tree) (a : Agrees limit m t) (path : Path) (n : ℕ) (there : get t.names path ≡ Some n) where
  -- the number that the path leads to has one path less
  pub one_less_path : (k : ℕ) → path_count t.names k ≡ one_if n k + path_count (remove t.names path) k
  one_less_path k = laws.count_taken t.names path n k there

  -- of the number itself
  pub one_less_here : path_count t.names n ≡ 1 + path_count (remove t.names path) n
  one_less_here = one_less_path n ∙ ap (λ c. c + path_count (remove t.names path) n) (counts_one n n refl)

  -- the nodes of the tree after the path is gone
  abbrev nodes_left : Option Thing → Bool → Option Thing
  nodes_left there true = None
  nodes_left there false = there

  -- the node stays where another path leads to it
  pub used_here : get (with_used t (remove t.names path) n).nodes n ≡ nodes_left (get t.nodes n) (path_count (remove t.names path) n == 0)
  used_here = by (path_count (remove t.names path) n == 0)
    where
      by : (b : Bool) → get (if b then remove t.nodes n else t.nodes) n ≡ nodes_left (get t.nodes n) b
      by true = node_gone t.nodes n n refl
      by false = refl

  -- all other nodes stay
  pub used_other : (k : ℕ) → (k ≡ n → ⊥) → get (with_used t (remove t.names path) n).nodes k ≡ get t.nodes k
  used_other k off = by (path_count (remove t.names path) n == 0)
    where
      by : (b : Bool) → get (if b then remove t.nodes n else t.nodes) k ≡ get t.nodes k
      by true = node_stays t.nodes n k off
      by false = refl

  -- the node itself is as one link less leaves it
  pub lost_here : get (with_used t (remove t.names path) n).nodes n ≡ option_map thing_of (option_and_then one_link_less (m n))
  lost_here = used_here ∙ by (m n) refl
    where
      zero_left : (c : ℕ) → c ≡ 0 → (c == 0) ≡ true
      zero_left c e = eq-eqb c 0 e

      file_left : (links : ℕ) (bytes : List ℕ) → path_count t.names n ≡ links → get t.nodes n ≡ Some (File bytes) → (links ≡ 1) ⊎ (links ≡ 1 → ⊥)
          → nodes_left (get t.nodes n) (path_count (remove t.names path) n == 0) ≡ option_map thing_of (if links == 1 then None else Some (AFile (links - 1) bytes))
      file_left links bytes h1 h2 h3 = grind (arith, t.nodes, zero_left, t.names, one_less_here, eq-eqb, ne_eqb)

      by : (o : Option Inode) → m n ≡ o → nodes_left (get t.nodes n) (path_count (remove t.names path) n == 0) ≡ option_map thing_of (option_and_then one_link_less o)
      by None is = let x = a.sound.named path n there in absurd (none-some x.0 (sym (a.nodes n ∙ ap (option_map thing_of) is) ∙ x.1))
      by (Some (ADir slots)) is =
          let one = laws.count_dir limit t path n a.sound there (a.nodes n ∙ ap (option_map thing_of) is) in
          ap (nodes_left (get t.nodes n)) (zero_left (path_count (remove t.names path) n) (omega (arith, one_less_here, one)))
      by (Some (AFile links bytes)) is = file_left links bytes (a.links n links bytes is) (a.nodes n ∙ ap (option_map thing_of) is) (cases_eq links 1)

  -- its links are the paths that are left
  pub lost_links : (links : ℕ) (bytes : List ℕ) → option_and_then one_link_less (m n) ≡ Some (AFile links bytes) → path_count (remove t.names path) n ≡ links
  lost_links links bytes e = grind (arith, one_less_here, a.links)
