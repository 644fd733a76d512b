-- The laws of trees and of their inode maps that the proofs of this crate rest on, gathered. Each is a clause of a function of lang_tree, crash_stands or fs_inodes.
use Rattle.std.specs.Prelude.{◌≡◌, ◌≢◌, ℕ, ◌<◌, ◌≤◌, ◌+◌, true, false, List, [], ◌∷◌, ◌++◌, length, replicate, None, Some}
use Rattle.std.specs.FinMap.{get, empty}
use Rattle.base_types.specs.declared.layout.Layout.{Layout}
use Rattle.lang_tree.specs.declared.command.Cmd.{Cmd}
use Rattle.lang_tree.specs.declared.command.Cmd.TheVariants.{Mkdir, Create, Write, Fill, Truncate, Link, Unlink, Rmdir, Rename}
use Rattle.lang_tree.specs.declared.command.Look.{Look}
use Rattle.lang_tree.specs.Tree.{Tree, Bounds, Names, Dir, File, IsSound, HasSoundSnapshots, HasSmallFiles}
use Rattle.lang_tree.specs.Paths.{is_within}
use Rattle.lang_tree.specs.Names.{holds_names}
use Rattle.lang_tree.specs.Walk.{is_same_node, content}
use Rattle.lang_tree.specs.Conditions.{least_unused, file_refusal, rmdir_refusal, rename_refusal, look_refusal, refusal}
use Rattle.lang_tree.specs.Points.{answers_point}
use Rattle.lang_tree.specs.Step.{Session, step, start, written, resized, seen, changes_snapshots}
use Rattle.crash_stands.specs.Inodes.{Inodes, AFile, root_alone}
use Rattle.crash_stands.specs.Maps.{IsMapOf}
use Rattle.crash_stands.specs.Walks.{LeadsTo}
use Rattle.fs_inodes.specs.Changes.{new_inode, Sets, AddsName, TakesName, MovesName}
use Rattle.fs_inodes.specs.Lookups.{bytes_of, inode_at}
use Rattle.fs_inodes.specs.Refusals.{look_reason, reason}
use Rattle.fs_inodes.specs.Replies.{shown, reply_of}

-- what the proofs of this crate need to know of trees and their maps
pub record MapLaws : Type 0 where
  pub one : (limit : ℕ) (m : Inodes) (t u : Tree) → IsMapOf limit m t → IsMapOf limit m u → (t.names ≡ u.names) × (t.nodes ≡ u.nodes)
  pub sound : (limit : ℕ) (m : Inodes) (t : Tree) → IsMapOf limit m t → IsSound limit t
  pub alike : (limit : ℕ) (m w : Inodes) (t : Tree) → ((k : ℕ) → m k ≡ w k) → IsMapOf limit m t → IsMapOf limit w t
  pub root : (limit : Bounds) → 1 ≤ limit.nodes → IsMapOf limit.nodes root_alone (start limit).tree
  pub small_start : (limit : Bounds) → HasSmallFiles (start limit).tree.nodes
  pub small_step : (s : Session) (cmd : Cmd) → HasSmallFiles s.tree.nodes → HasSmallFiles (step s cmd).0.tree.nodes
  pub same_limit : (s : Session) (cmd : Cmd) → (step s cmd).0.limit ≡ s.limit
  -- what the map gives of its tree
  pub refuses : (limit : Bounds) (m : Inodes) (t : Tree) (cmd : Cmd) → IsMapOf limit.nodes m t → refusal limit t cmd ≡ reason limit.layout (least_unused limit.nodes t) t.snapshots m cmd
  pub reply : (s : Session) (m : Inodes) (cmd : Cmd) → IsMapOf s.limit.nodes m s.tree → answers_point cmd ≡ false → (step s cmd).1 ≡ reply_of s.limit.layout (least_unused s.limit.nodes s.tree) s.tree.snapshots m cmd
  pub looks : (limit : ℕ) (m : Inodes) (t : Tree) (l : Look) → IsMapOf limit m t → (look_refusal t l ≡ look_reason m l) × (seen t l ≡ shown m l)
  -- only some commands change snapshots, and each leaves them sound
  pub same_snapshots : (s : Session) (cmd : Cmd) → changes_snapshots cmd ≡ false → (step s cmd).0.tree.snapshots ≡ s.tree.snapshots
  pub none_sound : (limit : ℕ) (t : Tree) → t.snapshots ≡ empty → HasSoundSnapshots limit t
  pub sound_snapshots : (s : Session) (cmd : Cmd) → IsSound s.limit.nodes s.tree → HasSoundSnapshots s.limit.nodes s.tree → HasSoundSnapshots s.limit.nodes (step s cmd).0.tree
  pub bytes : (limit : ℕ) (m : Inodes) (t : Tree) (path : List (List ℕ)) → IsMapOf limit m t → content t path ≡ bytes_of (inode_at m path)
  -- what goes and what moves
  pub held : (names : Names) (p rest : List (List ℕ)) (name : List ℕ) (n : ℕ) → get names (p ++ name ∷ rest) ≡ Some n → holds_names names p ≡ true
  pub unlinked : (limit : ℕ) (t : Tree) (path : List (List ℕ)) → IsSound limit t → file_refusal t path ≡ None → (holds_names t.names path ≡ false) × (path ≢ [])
  pub removed : (limit : ℕ) (t : Tree) (path : List (List ℕ)) → IsSound limit t → rmdir_refusal t path ≡ None → (holds_names t.names path ≡ false) × (path ≢ [])
  pub moved : (limit : ℕ) (l : Layout) (t : Tree) (from to : List (List ℕ)) → IsSound limit t → rename_refusal l t from to ≡ None → is_same_node t from to ≡ false
      → (is_within from to ≡ false) × (holds_names t.names to ≡ false) × (to ≢ [])
  -- what commands make of the map
  pub mkdir : (s : Session) (m new : Inodes) (up : List (List ℕ)) (name : List ℕ) (dir node : ℕ) → IsMapOf s.limit.nodes m s.tree → refusal s.limit s.tree (Mkdir (up ++ name ∷ [])) ≡ None
      → LeadsTo m up dir → least_unused s.limit.nodes s.tree ≡ Some node → AddsName m new dir node name (new_inode Dir) → IsMapOf s.limit.nodes new (step s (Mkdir (up ++ name ∷ []))).0.tree
  pub create : (s : Session) (m new : Inodes) (up : List (List ℕ)) (name : List ℕ) (dir node : ℕ) → IsMapOf s.limit.nodes m s.tree → refusal s.limit s.tree (Create (up ++ name ∷ [])) ≡ None
      → LeadsTo m up dir → least_unused s.limit.nodes s.tree ≡ Some node → AddsName m new dir node name (new_inode (File [])) → IsMapOf s.limit.nodes new (step s (Create (up ++ name ∷ []))).0.tree
  pub link : (s : Session) (m new : Inodes) (path up : List (List ℕ)) (name : List ℕ) (dir node links : ℕ) (bytes : List ℕ) → IsMapOf s.limit.nodes m s.tree → refusal s.limit s.tree (Link path (up ++ name ∷ [])) ≡ None
      → LeadsTo m path node → m node ≡ Some (AFile links bytes) → LeadsTo m up dir → AddsName m new dir node name (AFile (links + 1) bytes) → IsMapOf s.limit.nodes new (step s (Link path (up ++ name ∷ []))).0.tree
  pub unlink : (s : Session) (m new : Inodes) (up : List (List ℕ)) (name : List ℕ) (dir node : ℕ) → IsMapOf s.limit.nodes m s.tree → refusal s.limit s.tree (Unlink (up ++ name ∷ [])) ≡ None
      → LeadsTo m up dir → TakesName m new dir node name → IsMapOf s.limit.nodes new (step s (Unlink (up ++ name ∷ []))).0.tree
  pub rmdir : (s : Session) (m new : Inodes) (up : List (List ℕ)) (name : List ℕ) (dir node : ℕ) → IsMapOf s.limit.nodes m s.tree → refusal s.limit s.tree (Rmdir (up ++ name ∷ [])) ≡ None
      → LeadsTo m up dir → TakesName m new dir node name → IsMapOf s.limit.nodes new (step s (Rmdir (up ++ name ∷ []))).0.tree
  pub rename : (s : Session) (m new : Inodes) (up to : List (List ℕ)) (name other : List ℕ) (from into node : ℕ) → IsMapOf s.limit.nodes m s.tree → refusal s.limit s.tree (Rename (up ++ name ∷ []) (to ++ other ∷ [])) ≡ None
      → LeadsTo m up from → LeadsTo m to into → MovesName m new from into node name other → IsMapOf s.limit.nodes new (step s (Rename (up ++ name ∷ []) (to ++ other ∷ []))).0.tree
  pub write : (s : Session) (m new : Inodes) (path : List (List ℕ)) (offset : ℕ) (bytes : List ℕ) (node links : ℕ) (old : List ℕ) → IsMapOf s.limit.nodes m s.tree → refusal s.limit s.tree (Write path offset bytes) ≡ None
      → 0 < length bytes → LeadsTo m path node → m node ≡ Some (AFile links old) → Sets m new node (Some (AFile links (written offset bytes old))) → IsMapOf s.limit.nodes new (step s (Write path offset bytes)).0.tree
  pub fill : (s : Session) (m new : Inodes) (path : List (List ℕ)) (offset count byte node links : ℕ) (old : List ℕ) → IsMapOf s.limit.nodes m s.tree → refusal s.limit s.tree (Fill path offset count byte) ≡ None
      → 0 < count → LeadsTo m path node → m node ≡ Some (AFile links old) → Sets m new node (Some (AFile links (written offset (replicate count byte) old))) → IsMapOf s.limit.nodes new (step s (Fill path offset count byte)).0.tree
  pub truncate : (s : Session) (m new : Inodes) (path : List (List ℕ)) (size node links : ℕ) (old : List ℕ) → IsMapOf s.limit.nodes m s.tree → refusal s.limit s.tree (Truncate path size) ≡ None
      → size ≢ length old → LeadsTo m path node → m node ≡ Some (AFile links old) → Sets m new node (Some (AFile links (resized size old))) → IsMapOf s.limit.nodes new (step s (Truncate path size)).0.tree
