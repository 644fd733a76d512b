-- The laws of trees and of their maps that the proofs of this crate rest on, gathered. Each is a clause of a function of lang_tree or crash_stands.
use Rattle.std.specs.Prelude.{◌≡◌, ◌≢◌, ℕ, ◌≤◌, ◌+◌, ◌==◌, if◌then◌else◌, true, false, List, [], ◌∷◌, ◌++◌, slice_get, find, is_none, None, Some, option_and_then}
use Rattle.std.specs.List.{range_with_len}
use Rattle.std.specs.FinMap.{get, insert, remove, empty}
use Rattle.base_types.specs.declared.layout.Layout.{Layout}
use Rattle.layout_bytes.specs.declared.slot.Slot.{Slot}
use Rattle.lang_tree.specs.declared.command.Cmd.{Cmd}
use Rattle.lang_tree.specs.declared.command.Cmd.TheVariants.{Rename}
use Rattle.lang_tree.specs.Tree.{Tree, Bounds, Names, Thing, Dir, File, IsSound}
use Rattle.lang_tree.specs.Paths.{parent, is_within}
use Rattle.lang_tree.specs.Names.{path_count, holds_names, renamed}
use Rattle.lang_tree.specs.Walk.{is_same_node}
use Rattle.lang_tree.specs.Conditions.{least_unused, file_refusal, rmdir_refusal, rename_refusal, refusal}
use Rattle.lang_tree.specs.Step.{Session, step, start, changes_snapshots}
use Rattle.lang_tree.specs.Listing.{path_lines, listing}
use Rattle.crash_stands.specs.Inodes.{Inode, Inodes, ADir, root_alone}
use Rattle.crash_stands.specs.Walks.{Entries, walk}
use Rattle.crash_stands.specs.Maps.{IsMapOf}

-- what the proofs of this crate need to know of trees and their maps
pub record TreeLaws : Type 0 where
  -- how many paths a number has
  pub count_found : (names : Names) (n : ℕ) → 1 ≤ path_count names n → (p : List (List ℕ)) × (get names p ≡ Some n)
  pub count_put : (names : Names) (p : List (List ℕ)) (m n : ℕ) → get names p ≡ None → path_count (insert names p m) n ≡ (if m == n then 1 else 0) + path_count names n
  pub count_taken : (names : Names) (p : List (List ℕ)) (m n : ℕ) → get names p ≡ Some m → path_count names n ≡ (if m == n then 1 else 0) + path_count (remove names p) n
  pub count_moved : (names : Names) (from to : List (List ℕ)) (n : ℕ) → holds_names names to ≡ false → path_count (renamed (remove names to) from to) n ≡ path_count (remove names to) n
  pub count_dir : (limit : ℕ) (t : Tree) (p : List (List ℕ)) (n : ℕ) → IsSound limit t → get t.names p ≡ Some n → get t.nodes n ≡ Some Dir → path_count t.names n ≡ 1
  -- what lies below a path
  pub held : (names : Names) (p rest : List (List ℕ)) (name : List ℕ) (n : ℕ) → get names (p ++ name ∷ rest) ≡ Some n → holds_names names p ≡ true
  pub holds : (limit : ℕ) (t : Tree) (p : List (List ℕ)) → IsSound limit t → holds_names t.names p ≡ true → (name : List ℕ) × (n : ℕ) × (get t.names (p ++ name ∷ []) ≡ Some n)
  -- what keeps a tree sound
  pub sound_step : (s : Session) (cmd : Cmd) → IsSound s.limit.nodes s.tree → IsSound s.limit.nodes (step s cmd).0.tree
  pub same_limit : (s : Session) (cmd : Cmd) → (step s cmd).0.limit ≡ s.limit
  pub sound_node : (limit : ℕ) (t : Tree) (path : List (List ℕ)) (n k : ℕ) (x : Thing) → IsSound limit t → get t.names path ≡ None → get t.nodes n ≡ None → 1 ≤ n → n ≤ limit
      → get t.names (parent path) ≡ Some k → get t.nodes k ≡ Some Dir → IsSound limit (record t { names = insert t.names path n; nodes = insert t.nodes n x })
  pub sound_path : (limit : ℕ) (t : Tree) (path : List (List ℕ)) (n k : ℕ) (bytes : List ℕ) → IsSound limit t → get t.names path ≡ None → get t.nodes n ≡ Some (File bytes)
      → get t.names (parent path) ≡ Some k → get t.nodes k ≡ Some Dir → IsSound limit (record t { names = insert t.names path n })
  -- what becomes of snapshots, and what a tree without any is
  pub same_snapshots : (s : Session) (cmd : Cmd) → changes_snapshots cmd ≡ false → (step s cmd).0.tree.snapshots ≡ s.tree.snapshots
  pub unused_alone : (limit : ℕ) (t : Tree) → t.snapshots ≡ empty → least_unused limit t ≡ find (λ n. is_none (get t.nodes n)) (range_with_len 1 limit)
  pub listed_alone : (t : Tree) → t.snapshots ≡ empty → listing t ≡ path_lines t.names t.nodes
  -- what goes or moves
  pub unlinked : (limit : ℕ) (t : Tree) (path : List (List ℕ)) → IsSound limit t → file_refusal t path ≡ None → (holds_names t.names path ≡ false) × (path ≢ [])
  pub removed : (limit : ℕ) (t : Tree) (path : List (List ℕ)) → IsSound limit t → rmdir_refusal t path ≡ None → (holds_names t.names path ≡ false) × (path ≢ [])
  pub moved : (limit : ℕ) (l : Layout) (t : Tree) (from to : List (List ℕ)) → IsSound limit t → rename_refusal l t from to ≡ None → is_same_node t from to ≡ false
      → (is_within from to ≡ false) × (holds_names t.names to ≡ false) × (to ≢ [])
  pub move_second : (s : Session) (from to rest : List (List ℕ)) → IsSound s.limit.nodes s.tree → refusal s.limit s.tree (Rename from to) ≡ None → is_same_node s.tree from to ≡ false
      → get (step s (Rename from to)).0.tree.names (to ++ rest) ≡ get s.tree.names (from ++ rest)
  pub move_first : (s : Session) (from to rest : List (List ℕ)) → IsSound s.limit.nodes s.tree → refusal s.limit s.tree (Rename from to) ≡ None → is_same_node s.tree from to ≡ false
      → get (step s (Rename from to)).0.tree.names (from ++ rest) ≡ None
  pub move_others : (s : Session) (from to path : List (List ℕ)) → IsSound s.limit.nodes s.tree → refusal s.limit s.tree (Rename from to) ≡ None → is_same_node s.tree from to ≡ false
      → is_within from path ≡ false → is_within to path ≡ false → get (step s (Rename from to)).0.tree.names path ≡ get s.tree.names path
  -- what a map has in common with its tree
  pub walk_last : (e : Entries) (k : ℕ) (up : List (List ℕ)) (name : List ℕ) → walk e k (up ++ name ∷ []) ≡ option_and_then (λ j. e j name) (walk e k up)
  pub map_sound : (limit : ℕ) (m : Inodes) (t : Tree) → IsMapOf limit m t → IsSound limit t
  pub map_start : (limit : Bounds) → 1 ≤ limit.nodes → IsMapOf limit.nodes root_alone (start limit).tree
  -- what its slots name
  pub slot_root : (limit : ℕ) (m : Inodes) (t : Tree) → IsMapOf limit m t → (k i : ℕ) (slots : List Slot) (s : Slot) → m k ≡ Some (ADir slots) → slice_get slots i ≡ Some s → s.node ≢ 1
  pub slot_used : (limit : ℕ) (m : Inodes) (t : Tree) → IsMapOf limit m t → (k i : ℕ) (slots : List Slot) (s : Slot) → m k ≡ Some (ADir slots) → slice_get slots i ≡ Some s → (x : Inode) × (m s.node ≡ Some x)
  pub slot_once : (limit : ℕ) (m : Inodes) (t : Tree) → IsMapOf limit m t → (k l i j n : ℕ) (slots others below : List Slot) (s u : Slot) → m k ≡ Some (ADir slots) → m l ≡ Some (ADir others)
      → slice_get slots i ≡ Some s → slice_get others j ≡ Some u → s.node ≡ n → u.node ≡ n → m n ≡ Some (ADir below) → (k ≡ l) × (i ≡ j)
