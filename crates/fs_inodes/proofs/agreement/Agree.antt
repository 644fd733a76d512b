-- An inode map and its tree, in the form in which each change is proved: the tree is sound, its paths go on as the map's entries do, and nodes and links are those of the map.
use Rattle.std.proofs.Common.{◌≡◌, ℕ, List, [], ◌∷◌, ◌++◌, Option, Some, None, option_map, option_and_then, sym, ap, ◌∙◌, append_assoc, append-nil, arith}
use Rattle.std.specs.FinMap.{get}
use Rattle.std.proofs.lemmas.Option.{none-some}
use Rattle.layout_bytes.specs.declared.slot.Slot.{Slot}
use Rattle.lang_tree.specs.Tree.{Tree, IsSound}
use Rattle.lang_tree.specs.Names.{path_count}
use Rattle.crash_stands.specs.Inodes.{Inode, Inodes, ADir, AFile, AreDistinct, thing_of}
use Rattle.crash_stands.specs.Walks.{Entries, entries_of, walk}
use Rattle.crash_stands.specs.Maps.{IsMapOf}
use Rattle.fs_inodes.specs.TreeLaws.{TreeLaws}
use Rattle.fs_inodes.proofs.basics.Paths.{Path}

-- Where paths lead goes on from each to the next by the entries.
abbrev pub GoesOn : Entries → (Path → Option ℕ) → Type 0
GoesOn e names = (up : Path) (name : List ℕ) → names (up ++ name ∷ []) ≡ option_and_then (λ k. e k name) (names up)

-- The map and the tree agree.
pub record Agrees (limit : ℕ) (m : Inodes) (t : Tree) : Type 0 where
  pub sound : IsSound limit t
  pub goes : GoesOn (entries_of m) (get t.names)
  pub nodes : (k : ℕ) → get t.nodes k ≡ option_map thing_of (m k)
  pub links : (k links : ℕ) (bytes : List ℕ) → m k ≡ Some (AFile links bytes) → path_count t.names k ≡ links
  pub distinct : (k : ℕ) (slots : List Slot) → m k ≡ Some (ADir slots) → AreDistinct slots

-- behind a path that isn't there, none is
pub nowhere : (e : Entries) (names : Path → Option ℕ) → GoesOn e names → (here rest : Path) → names here ≡ None → names (here ++ rest) ≡ None
nowhere e names goes here [] none = ap names (append-nil here) ∙ none
nowhere e names goes here (x ∷ rest) none = grind (arith, nowhere e names goes (here ++ x ∷ []) rest, append_assoc)

-- behind a path that leads to k, paths lead where the walks from k do
pub onward : (e : Entries) (names : Path → Option ℕ) → GoesOn e names → (here rest : Path) (k : ℕ) → names here ≡ Some k → names (here ++ rest) ≡ walk e k rest
onward e names goes here [] k at = ap names (append-nil here) ∙ at
onward e names goes here (x ∷ rest) k at = by (e k x) (goes here x ∙ ap (option_and_then (λ k. e k x)) at) (λ j. onward e names goes (here ++ x ∷ []) rest j)
  where
    by : (o : Option ℕ) → names (here ++ x ∷ []) ≡ o → ((j : ℕ) → names (here ++ x ∷ []) ≡ Some j → names ((here ++ x ∷ []) ++ rest) ≡ walk e j rest)
        → names (here ++ x ∷ rest) ≡ option_and_then (λ j. walk e j rest) o
    by None is on = ap names (sym (append_assoc here (x ∷ []) rest)) ∙ nowhere e names goes (here ++ x ∷ []) rest is
    by (Some j) is on = ap names (sym (append_assoc here (x ∷ []) rest)) ∙ on j is

module _ (limit : ℕ) (m : Inodes) (t : Tree) (a : Agrees limit m t) where
  -- each path leads where its walk does
  pub walked : (p : Path) → get t.names p ≡ walk (entries_of m) 1 p
  walked p = onward (entries_of m) (get t.names) a.goes [] p 1 a.sound.root

  -- and what a path of the tree leads to is an inode
  pub inode_named : (p : Path) (k : ℕ) → get t.names p ≡ Some k → (x : Inode) × (m k ≡ Some x)
  inode_named p k at = let x = a.sound.named p k at in grind (arith, none-some, m k, a.nodes k, x.1)

  -- so the map is that of the tree
  pub is_map : IsMapOf limit m t
  is_map = record {
    root = grind (arith, none-some, m 1, a.nodes 1, a.sound.root_dir);
    distinct = a.distinct;
    within = λ k x e. a.sound.within k (thing_of x) (a.nodes k ∙ ap (option_map thing_of) e);
    shows = record {
      names = walked;
      nodes = a.nodes;
      links = a.links;
      only = λ k slots p e at q at_q. a.sound.one_path k q p (a.nodes k ∙ ap (option_map thing_of) e) (walked q ∙ at_q) (walked p ∙ at);
      reached = λ k x e. let p = a.sound.reached k (thing_of x) (a.nodes k ∙ ap (option_map thing_of) e) in (p.0, sym (walked p.0) ∙ p.1);
      used = λ p k at. inode_named p k (walked p ∙ at);
    };
  }

-- And the map of a tree agrees with it.
pub agrees : (laws : TreeLaws) (limit : ℕ) (m : Inodes) (t : Tree) → IsMapOf limit m t → Agrees limit m t
agrees laws limit m t is = record {
  sound = laws.map_sound limit m t is;
  goes = λ up name. is.shows.names (up ++ name ∷ []) ∙ laws.walk_last (entries_of m) 1 up name ∙ ap (option_and_then (λ k. entries_of m k name)) (sym (is.shows.names up));
  nodes = is.shows.nodes;
  links = is.shows.links;
  distinct = is.distinct;
}
