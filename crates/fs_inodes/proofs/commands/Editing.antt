-- A file has other bytes.
use Rattle.std.proofs.Common.{◌≡◌, ℕ, List, Some, option_map, arith}
use Rattle.std.proofs.lemmas.Bool.{cases_eq}
use Rattle.std.specs.FinMap.{get, insert}
use Rattle.layout_bytes.specs.declared.slot.Slot.{Slot}
use Rattle.lang_tree.specs.Tree.{Tree, File, IsSound}
use Rattle.lang_tree.specs.Names.{path_count}
use Rattle.crash_stands.specs.Inodes.{Inodes, ADir, AFile, AreDistinct, thing_of}
use Rattle.crash_stands.specs.Walks.{entries_of}
use Rattle.fs_inodes.specs.Changes.{Sets}
use Rattle.fs_inodes.proofs.basics.FinMaps.{node_here, node_other}
use Rattle.fs_inodes.proofs.agreement.Agree.{Agrees}

module _ (limit : ℕ) (m new : Inodes) (t : Tree) (a : Agrees limit m t) (k links : ℕ) (old bytes : List ℕ) (there : m k ≡ Some (AFile links old)) (ch : Sets m new k (Some (AFile links bytes))) where
  -- no entry changed
  same_entries : (j : ℕ) (b : List ℕ) → entries_of new j b ≡ entries_of m j b
  same_entries j b = grind (arith, cases_eq j k, ch.here, ch.others)

  -- the nodes with the new bytes are those of the new map
  edited_nodes : (j : ℕ) → get (insert t.nodes k (File bytes)) j ≡ option_map thing_of (new j)
  edited_nodes j = grind (arith, cases_eq j k, node_here, node_other, a.nodes, ch.here, ch.others)

  -- each file has as many paths as links, as before
  edited_links : (j l : ℕ) (b : List ℕ) → new j ≡ Some (AFile l b) → path_count t.names j ≡ l
  edited_links j l b is = grind (arith, cases_eq j k, a.links, ch.here, ch.others)

  -- no directory changed
  edited_distinct : (j : ℕ) (slots : List Slot) → new j ≡ Some (ADir slots) → AreDistinct slots
  edited_distinct j slots is = grind (arith, cases_eq j k, a.distinct, ch.here, ch.others)

  -- the new map is that of the tree with the new bytes
  pub edited_agrees : IsSound limit (record t { nodes = insert t.nodes k (File bytes) }) → Agrees limit new (record t { nodes = insert t.nodes k (File bytes) })
  edited_agrees sound = grind (arith, t.names, same_entries, a.goes, edited_nodes)
