-- Each command's tree is that of the inode map which the code makes: the changes of slots and nodes, put to the steps of trees.
use Rattle.std.proofs.Common.{◌≡◌, ◌≢◌, ◌<◌, ℕ, ◌+◌, ◌==◌, Bool, false, if◌then◌else◌, List, [], ◌∷◌, ◌++◌, length, replicate, Option, Some, None, is_none, option_map, option_and_then, sym, refl, ap, subst, ◌∙◌, arith, ne_eqb}
use Rattle.std.proofs.lemmas.List.{length-replicate}
use Rattle.std.specs.FinMap.{get, insert}
use Rattle.lang_tree.specs.declared.command.Cmd.{Cmd}
use Rattle.lang_tree.specs.declared.command.Cmd.TheVariants.{Write, Fill, Truncate, Link, Unlink, Rmdir, Rename}
use Rattle.lang_tree.specs.declared.command.Reply.TheVariants.{Ok as Done}
use Rattle.lang_tree.specs.declared.command.Refusal.{Refusal}
use Rattle.lang_tree.specs.declared.command.Refusal.TheVariants.{Exists, NoNode, IsDir}
use Rattle.lang_tree.specs.Tree.{Tree, Thing, File, IsSound}
use Rattle.lang_tree.specs.Names.{holds_names}
use Rattle.lang_tree.specs.Walk.{parent_refusal, walk_refusal, is_there, is_dir, thing_at, links, bytes_in, content}
use Rattle.lang_tree.specs.Conditions.{when, refusal, least_unused, make_refusal, first_reason}
use Rattle.lang_tree.specs.Step.{Session, step, answered, accepted, changed_to, added, with_node, linked_by, removed, removed_by, written, resized, with_bytes, edited, edited_at}
use Rattle.crash_stands.specs.Inodes.{Inodes, AFile, thing_of}
use Rattle.crash_stands.specs.Maps.{IsMapOf}
use Rattle.crash_stands.specs.Walks.{LeadsTo}
use Rattle.fs_inodes.specs.Changes.{new_inode, Sets, AddsSlot, AddsName, TakesSlot, TakesName, MovesSlot, MovesName}
use Rattle.fs_inodes.specs.TreeLaws.{TreeLaws}
use Rattle.fs_inodes.proofs.basics.Paths.{Path}
use Rattle.fs_inodes.proofs.basics.Numbers.{unused_is}
use Rattle.fs_inodes.proofs.agreement.Agree.{Agrees, agrees, is_map}
use Rattle.fs_inodes.proofs.commands.Adding.{adds_name, node_agrees, link_agrees}
use Rattle.fs_inodes.proofs.commands.Taking.{takes_name, taken_agrees}
use Rattle.fs_inodes.proofs.commands.Editing.{edited_agrees}
use Rattle.fs_inodes.proofs.commands.Moving.{empty_at}
use Rattle.fs_inodes.proofs.commands.Renaming.{under, moves_name, renamed_agrees}

-- where no reason comes first, the first one is none, and none of the later ones is
no_reason : (r : Option Refusal) (rest : List (Option Refusal)) → first_reason (r ∷ rest) ≡ None → (r ≡ None) × (first_reason rest ≡ None)
no_reason r rest h1 = grind arith

-- a condition that gives no reason doesn't hold
not_so : (b : Bool) (why : Refusal) → when b why ≡ None → b ≡ false
not_so b why h1 = grind arith

-- where nothing refuses it, a command leaves what it does when it is accepted
done : (s : Session) (cmd : Cmd) → refusal s.limit s.tree cmd ≡ None → (step s cmd).0.tree ≡ (accepted s cmd).0.tree
done s cmd e = ap (λ r. (answered s cmd r).0.tree) e

-- the map of the tree that the command leaves
by_tree : (s : Session) (cmd : Cmd) (new : Inodes) (u : Tree) → (step s cmd).0.tree ≡ u → Agrees s.limit.nodes new u → IsMapOf s.limit.nodes new (step s cmd).0.tree
by_tree s cmd new u is a = subst (IsMapOf s.limit.nodes new) (sym is) (is_map s.limit.nodes new u a)

-- the command makes a thing at the path, where that isn't refused
abbrev pub Makes : Session → Cmd → Path → Thing → Type 0
Makes s cmd p thing = (refusal s.limit s.tree cmd ≡ make_refusal s.limit s.tree p) × ((accepted s cmd).0.tree ≡ added s.limit.nodes s.tree p thing)

module _ (laws : TreeLaws) (s : Session) (m new : Inodes) (is : IsMapOf s.limit.nodes m s.tree) where
  -- the map and the tree agree
  a : Agrees s.limit.nodes m s.tree
  a = agrees laws s.limit.nodes m s.tree is

  -- a command leaves a sound tree
  stays_sound : (cmd : Cmd) (u : Tree) → (step s cmd).0.tree ≡ u → IsSound s.limit.nodes u
  stays_sound cmd u same = subst (IsSound s.limit.nodes) same (laws.sound_step s cmd a.sound)

  -- a path that leads to a number in the map is there in the tree
  at : (p : Path) (k : ℕ) → LeadsTo m p k → get s.tree.names p ≡ Some k
  at p k leads = is.shows.names p ∙ leads

  -- A new node.
  module _ (up : Path) (name : List ℕ) (d n : ℕ) (leads : LeadsTo m up d) (free : least_unused s.limit.nodes s.tree ≡ Some n) (thing : Thing) (ch : AddsName m new d n name (new_inode thing))
      (accepts : make_refusal s.limit s.tree (up ++ name ∷ []) ≡ None) where
    -- a new node comes under the least unused number
    made_tree : added s.limit.nodes s.tree (up ++ name ∷ []) thing ≡ record s.tree { names = insert s.tree.names (up ++ name ∷ []) n; nodes = insert s.tree.nodes n thing }
    made_tree = ap (with_node s.tree (up ++ name ∷ []) thing) free

    -- the map with the new node is that of the tree with it
    made_agrees : Agrees s.limit.nodes new (record s.tree { names = insert s.tree.names (up ++ name ∷ []) n; nodes = insert s.tree.nodes n thing })
    made_agrees =
        let rest : List (Option Refusal) = when (is_none (least_unused s.limit.nodes s.tree)) NoNode ∷ _ in
        let one = no_reason (parent_refusal s.tree (up ++ name ∷ [])) (when (is_there s.tree (up ++ name ∷ [])) Exists ∷ rest) accepts in
        let two = no_reason (when (is_there s.tree (up ++ name ∷ [])) Exists) rest one.1 in
        let number = unused_is s.limit.nodes n m s.tree a.nodes free in
        node_agrees laws s.limit.nodes m new s.tree a up name d n (new_inode thing) (at up d leads) (grind (arith, get s.tree.names (up ++ name ∷ []), not_so (is_there s.tree (up ++ name ∷ [])) Exists two.0)) ch
        thing refl number.0 number.1 number.2

  -- a mkdir or a create
  pub made_named : (cmd : Cmd) (up : Path) (name : List ℕ) (d n : ℕ) (thing : Thing) → Makes s cmd (up ++ name ∷ []) thing → refusal s.limit s.tree cmd ≡ None → LeadsTo m up d → least_unused s.limit.nodes s.tree ≡ Some n
      → AddsName m new d n name (new_inode thing) → IsMapOf s.limit.nodes new (step s cmd).0.tree
  made_named cmd up name d n thing makes accepts leads free ch =
      by_tree s cmd new _ (done s cmd accepts ∙ makes.1 ∙ made_tree up name d n leads free thing ch (sym makes.0 ∙ accepts)) (made_agrees up name d n leads free thing ch (sym makes.0 ∙ accepts))

  -- Another path.
  pub link_named : (path up : Path) (name : List ℕ) (d n links : ℕ) (bytes : List ℕ) → refusal s.limit s.tree (Link path (up ++ name ∷ [])) ≡ None → LeadsTo m path n → m n ≡ Some (AFile links bytes)
      → LeadsTo m up d → AddsName m new d n name (AFile (links + 1) bytes) → IsMapOf s.limit.nodes new (step s (Link path (up ++ name ∷ []))).0.tree
  link_named path up name d n l bytes accepts to_file file leads ch =
      let other = up ++ name ∷ [] in
      let there : Option Refusal = when (is_there s.tree other) Exists in
      let dir : Option Refusal = when (is_dir (thing_at s.tree path)) IsDir in
      let rest : List (Option Refusal) = dir ∷ _ in
      let one = no_reason (walk_refusal s.tree path) (parent_refusal s.tree other ∷ there ∷ rest) accepts in
      let two = no_reason (parent_refusal s.tree other) (there ∷ rest) one.1 in
      let three = no_reason there rest two.1 in
      by_tree s (Link path other) new _ (done s (Link path other) accepts ∙ ap (linked_by s.tree other) (at path n to_file))
      (link_agrees laws s.limit.nodes m new s.tree a up name d n (AFile (l + 1) bytes) (at up d leads) (grind (arith, get s.tree.names other, not_so (is_there s.tree other) Exists three.0)) ch l bytes file refl)

  -- A path that goes.
  taken_named : (cmd : Cmd) (up : Path) (name : List ℕ) (d n : ℕ) → (step s cmd).0.tree ≡ removed s.tree (up ++ name ∷ []) → holds_names s.tree.names (up ++ name ∷ []) ≡ false
      → LeadsTo m up d → TakesName m new d n name → IsMapOf s.limit.nodes new (step s cmd).0.tree
  taken_named cmd up name d n tree free leads ch =
      let is_there = under s.limit.nodes m s.tree a up d ch.under.slots name (at up d leads) ch.under.dir ∙ ch.there in
      let same = tree ∙ ap (removed_by s.tree (up ++ name ∷ [])) is_there in
      by_tree s cmd new _ same
      (taken_agrees laws s.limit.nodes m new s.tree a up name d n (at up d leads) ch (empty_at laws s.limit.nodes m s.tree a (up ++ name ∷ []) n is_there free) (stays_sound cmd _ same))

  -- an unlink
  pub unlink_named : (up : Path) (name : List ℕ) (d n : ℕ) → refusal s.limit s.tree (Unlink (up ++ name ∷ [])) ≡ None → LeadsTo m up d → TakesName m new d n name
      → IsMapOf s.limit.nodes new (step s (Unlink (up ++ name ∷ []))).0.tree
  unlink_named up name d n accepts leads ch = taken_named (Unlink (up ++ name ∷ [])) up name d n (done s (Unlink (up ++ name ∷ [])) accepts) (laws.unlinked s.limit.nodes s.tree (up ++ name ∷ []) a.sound accepts).0 leads ch

  -- an rmdir
  pub rmdir_named : (up : Path) (name : List ℕ) (d n : ℕ) → refusal s.limit s.tree (Rmdir (up ++ name ∷ [])) ≡ None → LeadsTo m up d → TakesName m new d n name
      → IsMapOf s.limit.nodes new (step s (Rmdir (up ++ name ∷ []))).0.tree
  rmdir_named up name d n accepts leads ch = taken_named (Rmdir (up ++ name ∷ [])) up name d n (done s (Rmdir (up ++ name ∷ [])) accepts) (laws.removed s.limit.nodes s.tree (up ++ name ∷ []) a.sound accepts).0 leads ch

  -- Other bytes of a file.
  edited_tree : (path : Path) (n : ℕ) (old : List ℕ) (change : List ℕ → List ℕ) → get s.tree.names path ≡ Some n → get s.tree.nodes n ≡ Some (File old)
      → edited s.tree path change ≡ record s.tree { nodes = insert s.tree.nodes n (File (change old)) }
  edited_tree path n old change at_path file = ap (edited_at s.tree change) at_path ∙ ap (λ x. record s.tree { nodes = with_bytes s.tree.nodes n change x }) file

  -- a command that changes the bytes of a file
  edit_shown : (cmd : Cmd) (path : Path) (n links : ℕ) (old : List ℕ) (change : List ℕ → List ℕ) → (step s cmd).0.tree ≡ edited s.tree path change → LeadsTo m path n → m n ≡ Some (AFile links old)
      → Sets m new n (Some (AFile links (change old))) → IsMapOf s.limit.nodes new (step s cmd).0.tree
  edit_shown cmd path n links old change tree leads file ch =
      let same = tree ∙ edited_tree path n old change (at path n leads) (a.nodes n ∙ ap (option_map thing_of) file) in
      by_tree s cmd new _ same (edited_agrees s.limit.nodes m new s.tree a n links old (change old) file ch (stays_sound cmd _ same))

  -- a change where the test fails
  chosen : (b : Bool) (u : Tree) → b ≡ false → (if b then (s, Done) else changed_to s u).0.tree ≡ u
  chosen b u e = ap (λ b. (if b then (s, Done) else changed_to s u).0.tree) e

  -- a write of some bytes
  pub write_shown : (path : Path) (offset : ℕ) (bytes : List ℕ) (n links : ℕ) (old : List ℕ) → refusal s.limit s.tree (Write path offset bytes) ≡ None → 0 < length bytes → LeadsTo m path n
      → m n ≡ Some (AFile links old) → Sets m new n (Some (AFile links (written offset bytes old))) → IsMapOf s.limit.nodes new (step s (Write path offset bytes)).0.tree
  write_shown path offset bytes n links old accepts some leads file ch =
      edit_shown (Write path offset bytes) path n links old (written offset bytes)
      (done s (Write path offset bytes) accepts ∙ chosen (length bytes == 0) (edited s.tree path (written offset bytes)) (ne_eqb (length bytes) 0 (λ e. omega (arith, some, e)))) leads file ch

  -- a fill of some bytes
  pub fill_shown : (path : Path) (offset count byte n links : ℕ) (old : List ℕ) → refusal s.limit s.tree (Fill path offset count byte) ≡ None → 0 < count → LeadsTo m path n
      → m n ≡ Some (AFile links old) → Sets m new n (Some (AFile links (written offset (replicate count byte) old))) → IsMapOf s.limit.nodes new (step s (Fill path offset count byte)).0.tree
  fill_shown path offset count byte n links old accepts some leads file ch =
      edit_shown (Fill path offset count byte) path n links old (written offset (replicate count byte))
      (done s (Fill path offset count byte) accepts
      ∙ chosen (length (replicate count byte) == 0) (edited s.tree path (written offset (replicate count byte))) (ne_eqb (length (replicate count byte)) 0 (λ e. omega (arith, some, e, length-replicate count byte)))) leads file ch

  -- the bytes at the path are those of the file
  bytes_at : (path : Path) (n links : ℕ) (old : List ℕ) → get s.tree.names path ≡ Some n → m n ≡ Some (AFile links old) → content s.tree path ≡ old
  bytes_at path n links old at_path file = ap bytes_in (ap (option_and_then (λ n. get s.tree.nodes n)) at_path ∙ a.nodes n ∙ ap (option_map thing_of) file)

  -- a truncate to another size
  pub truncate_shown : (path : Path) (size n links : ℕ) (old : List ℕ) → refusal s.limit s.tree (Truncate path size) ≡ None → size ≢ length old → LeadsTo m path n
      → m n ≡ Some (AFile links old) → Sets m new n (Some (AFile links (resized size old))) → IsMapOf s.limit.nodes new (step s (Truncate path size)).0.tree
  truncate_shown path size n links old accepts other leads file ch =
      edit_shown (Truncate path size) path n links old (resized size)
      (done s (Truncate path size) accepts
      ∙ chosen (size == length (content s.tree path)) (edited s.tree path (resized size)) (ap (λ bytes. size == length bytes) (bytes_at path n links old (at path n leads) file) ∙ ne_eqb size (length old) other)) leads file ch

  -- A move.
  pub rename_named : (up to : Path) (name other : List ℕ) (d c n : ℕ) → refusal s.limit s.tree (Rename (up ++ name ∷ []) (to ++ other ∷ [])) ≡ None → LeadsTo m up d → LeadsTo m to c → MovesName m new d c n name other
      → IsMapOf s.limit.nodes new (step s (Rename (up ++ name ∷ []) (to ++ other ∷ []))).0.tree
  rename_named up to name other d c n accepts leads leads_to ch = is_map s.limit.nodes new _ (renamed_agrees laws s m new a up to name other d c n (at up d leads) (at to c leads_to) ch accepts)

  -- Slots are names.

  -- the reasons of a new node leave its path free
  free_to_make : (p : Path) → make_refusal s.limit s.tree p ≡ None → get s.tree.names p ≡ None
  free_to_make p accepts = grind (arith, s.tree, s.limit, s.tree.nodes, s.tree.names)

  -- and so do those of another path
  free_to_link : (path p : Path) → refusal s.limit s.tree (Link path p) ≡ None → get s.tree.names p ≡ None
  free_to_link path p accepts = grind (arith, s.tree, s.tree.names)

  -- a mkdir or a create
  pub made_shown : (cmd : Cmd) (up : Path) (name : List ℕ) (d n : ℕ) (thing : Thing) → Makes s cmd (up ++ name ∷ []) thing → refusal s.limit s.tree cmd ≡ None → LeadsTo m up d → least_unused s.limit.nodes s.tree ≡ Some n
      → AddsSlot m new d n name (new_inode thing) → IsMapOf s.limit.nodes new (step s cmd).0.tree
  made_shown cmd up name d n thing makes accepts leads free ch =
      made_named cmd up name d n thing makes accepts leads free (adds_name s.limit.nodes m new s.tree a up name d n (new_inode thing) (at up d leads) (free_to_make (up ++ name ∷ []) (sym makes.0 ∙ accepts)) ch)

  -- another path
  pub link_shown : (path up : Path) (name : List ℕ) (d n links : ℕ) (bytes : List ℕ) → refusal s.limit s.tree (Link path (up ++ name ∷ [])) ≡ None → LeadsTo m path n → m n ≡ Some (AFile links bytes)
      → LeadsTo m up d → AddsSlot m new d n name (AFile (links + 1) bytes) → IsMapOf s.limit.nodes new (step s (Link path (up ++ name ∷ []))).0.tree
  link_shown path up name d n l bytes accepts to_file file leads ch =
      link_named path up name d n l bytes accepts to_file file leads
      (adds_name s.limit.nodes m new s.tree a up name d n (AFile (l + 1) bytes) (at up d leads) (free_to_link path (up ++ name ∷ []) accepts) ch)

  -- an unlink
  pub unlink_shown : (up : Path) (name : List ℕ) (d n : ℕ) → refusal s.limit s.tree (Unlink (up ++ name ∷ [])) ≡ None → LeadsTo m up d → TakesSlot m new d n name
      → IsMapOf s.limit.nodes new (step s (Unlink (up ++ name ∷ []))).0.tree
  unlink_shown up name d n accepts leads ch = unlink_named up name d n accepts leads (takes_name s.limit.nodes m new s.tree a name d n ch)

  -- an rmdir
  pub rmdir_shown : (up : Path) (name : List ℕ) (d n : ℕ) → refusal s.limit s.tree (Rmdir (up ++ name ∷ [])) ≡ None → LeadsTo m up d → TakesSlot m new d n name
      → IsMapOf s.limit.nodes new (step s (Rmdir (up ++ name ∷ []))).0.tree
  rmdir_shown up name d n accepts leads ch = rmdir_named up name d n accepts leads (takes_name s.limit.nodes m new s.tree a name d n ch)

  -- a move
  pub rename_shown : (up to : Path) (name other : List ℕ) (d c n : ℕ) → refusal s.limit s.tree (Rename (up ++ name ∷ []) (to ++ other ∷ [])) ≡ None → LeadsTo m up d → LeadsTo m to c → MovesSlot m new d c n name other
      → IsMapOf s.limit.nodes new (step s (Rename (up ++ name ∷ []) (to ++ other ∷ []))).0.tree
  rename_shown up to name other d c n accepts leads leads_to ch = rename_named up to name other d c n accepts leads leads_to (moves_name s.limit.nodes m new s.tree a name other d c n ch)
