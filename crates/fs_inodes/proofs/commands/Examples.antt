-- The short runs, step by step: the inode map that the code would make, and the tree that goes with it.
use Rattle.std.proofs.Common.{◌≡◌, ◌≢◌, ℕ, ◌+◌, ◌<◌, ◌==◌, false, List, [], ◌∷◌, ◌++◌, length, codes, slice_get, Some, None, option_and_then, sym, refl, ap, subst, ◌∙◌, arith}
use Rattle.std.specs.FinMap.{empty}
use Rattle.std.proofs.lemmas.Option.{same_Some, none-some}
use Rattle.base_types.specs.declared.layout.Layout.TheVariants.{One}
use Rattle.layout_bytes.specs.declared.slot.Slot.{Slot}
use Rattle.layout_directory.specs.Directory.{without_at}
use Rattle.lang_tree.specs.declared.command.Cmd.{Cmd}
use Rattle.lang_tree.specs.declared.command.Cmd.TheVariants.{Mkdir, Create, Write, Link, Unlink, Rename}
use Rattle.lang_tree.specs.Conditions.{least_unused, refusal}
use Rattle.lang_tree.specs.Step.{Session, step, start, written, changes_snapshots}
use Rattle.lang_tree.specs.Tree.{Bounds, Thing, Dir, File, in_layout_one}
use Rattle.crash_stands.specs.Inodes.{Inode, Inodes, ADir, AFile, root_alone}
use Rattle.crash_stands.specs.Maps.{IsMapOf}
use Rattle.crash_stands.specs.Walks.{LeadsTo, node_in}
use Rattle.fs_inodes.specs.Changes.{slot_of, new_inode, one_link_less, with_inode, with_move}
use Rattle.fs_inodes.specs.Lookups.{least_free, slots_of}
use Rattle.fs_inodes.specs.Refusals.{reason}
use Rattle.fs_inodes.specs.Examples.{after, short_run, run_of_moves}
use Rattle.fs_inodes.specs.TreeLaws.{TreeLaws}
use Rattle.fs_inodes.proofs.basics.Paths.{Path}
use Rattle.fs_inodes.proofs.basics.Numbers.{unused_is_free}
use Rattle.fs_inodes.proofs.agreement.Agree.{agrees}
use Rattle.fs_inodes.proofs.lookups.Reasons.{reason_given}
use Rattle.fs_inodes.proofs.commands.Made.{sets, adds, takes, moves}
use Rattle.fs_inodes.proofs.commands.Commands.{Makes, made_shown, link_shown, unlink_shown, write_shown, rename_shown}

-- a session of at most 16 numbers in layout 1 with its map, and without snapshots
record Has (s : Session) (m : Inodes) : Type 0 where
  limit : s.limit ≡ in_layout_one 16
  map : IsMapOf 16 m s.tree
  alone : s.tree.snapshots ≡ empty

-- numbers that differ by test differ
differ : (i j : ℕ) → (i == j) ≡ false → i ≢ j
differ i j e = grind arith

-- and so do options that hold them
differ_in : (i j : ℕ) → (i == j) ≡ false → Some i ≢ Some j
differ_in i j e same = differ i j e (same_Some i j same)

-- the map with a new node in a directory
abbrev with_node : Inodes → ℕ → Inode → ℕ → List Slot → List ℕ → Inodes
with_node m n x d slots name = with_inode (with_inode m n (Some x)) d (Some (ADir (slots ++ slot_of n name ∷ [])))

-- One command more.
module _ (laws : TreeLaws) (s : Session) (m : Inodes) (has : Has s m) where
  -- the least unused number
  free_here : least_unused s.limit.nodes s.tree ≡ least_free 16 m
  free_here = ap (λ (b : Bounds). least_unused b.nodes s.tree) has.limit ∙ unused_is_free laws 16 m s.tree has.alone has.map.shows.nodes

  -- of any kind
  go : (new : Inodes) (cmd : Cmd) → changes_snapshots cmd ≡ false → reason One (least_free 16 m) empty m cmd ≡ None → (IsMapOf s.limit.nodes m s.tree → refusal s.limit s.tree cmd ≡ None → IsMapOf s.limit.nodes new (step s cmd).0.tree) → Has (step s cmd).0 new
  go new cmd live accepts does =
      let is : IsMapOf s.limit.nodes m s.tree = subst (λ (b : Bounds). IsMapOf b.nodes m s.tree) (sym has.limit) has.map in
      let given : refusal s.limit s.tree cmd ≡ None = reason_given laws s.limit m s.tree (agrees laws s.limit.nodes m s.tree is) cmd
      ∙ ap (λ (b : Bounds). reason b.layout (least_unused s.limit.nodes s.tree) s.tree.snapshots m cmd) has.limit
      ∙ ap (λ l. reason One l s.tree.snapshots m cmd) free_here ∙ ap (λ kept. reason One (least_free 16 m) kept m cmd) has.alone ∙ accepts in
      record {
        limit = laws.same_limit s cmd ∙ has.limit;
        map = subst (λ (b : Bounds). IsMapOf b.nodes new (step s cmd).0.tree) has.limit (does is given);
        alone = laws.same_snapshots s cmd live ∙ has.alone;
      }

  -- a mkdir or a create
  made : (cmd : Cmd) (up : Path) (name : List ℕ) (d n : ℕ) (thing : Thing) (slots : List Slot) → Makes s cmd (up ++ name ∷ []) thing → changes_snapshots cmd ≡ false → reason One (least_free 16 m) empty m cmd ≡ None → LeadsTo m up d → least_free 16 m ≡ Some n
      → m d ≡ Some (ADir slots) → (d == n) ≡ false → Has (step s cmd).0 (with_node m n (new_inode thing) d slots name)
  made cmd up name d n thing slots makes live accepts leads free dir apart = go (with_node m n (new_inode thing) d slots name) cmd live accepts (λ is given.
      made_shown laws s m (with_node m n (new_inode thing) d slots name) is cmd up name d n thing makes given leads (free_here ∙ free) (adds m d n name (new_inode thing) slots dir (differ d n apart)))

  -- a link
  linked : (path up : Path) (name : List ℕ) (d n links : ℕ) (bytes : List ℕ) (slots : List Slot) → reason One (least_free 16 m) empty m (Link path (up ++ name ∷ [])) ≡ None → LeadsTo m path n → m n ≡ Some (AFile links bytes) → LeadsTo m up d
      → m d ≡ Some (ADir slots) → (d == n) ≡ false → Has (step s (Link path (up ++ name ∷ []))).0 (with_node m n (AFile (links + 1) bytes) d slots name)
  linked path up name d n links bytes slots accepts to_file file leads dir apart = go (with_node m n (AFile (links + 1) bytes) d slots name) (Link path (up ++ name ∷ [])) refl accepts (λ is given.
      link_shown laws s m (with_node m n (AFile (links + 1) bytes) d slots name) is path up name d n links bytes given to_file file leads (adds m d n name (AFile (links + 1) bytes) slots dir (differ d n apart)))

  -- an unlink
  unlinked : (up : Path) (name : List ℕ) (d n place : ℕ) (slots : List Slot) → reason One (least_free 16 m) empty m (Unlink (up ++ name ∷ [])) ≡ None → LeadsTo m up d → m d ≡ Some (ADir slots) → slice_get slots place ≡ Some (slot_of n name)
      → (d == n) ≡ false → Has (step s (Unlink (up ++ name ∷ []))).0 (with_inode (with_inode m d (Some (ADir (without_at place slots)))) n (option_and_then one_link_less (m n)))
  unlinked up name d n place slots accepts leads dir slot apart = go _ (Unlink (up ++ name ∷ [])) refl accepts (λ is given.
      unlink_shown laws s m _ is up name d n given leads (takes m d n place name slots dir slot (differ d n apart)))

  -- a write to a file
  wrote : (path : Path) (offset : ℕ) (bytes : List ℕ) (n links : ℕ) (old : List ℕ) → reason One (least_free 16 m) empty m (Write path offset bytes) ≡ None → 0 < length bytes → LeadsTo m path n → m n ≡ Some (AFile links old)
      → Has (step s (Write path offset bytes)).0 (with_inode m n (Some (AFile links (written offset bytes old))))
  wrote path offset bytes n links old accepts some leads file = go _ (Write path offset bytes) refl accepts (λ is given.
      write_shown laws s m _ is path offset bytes n links old given some leads file (sets m n (Some (AFile links (written offset bytes old)))))

  -- a move
  moved : (up to : Path) (name other : List ℕ) (d c n place : ℕ) → reason One (least_free 16 m) empty m (Rename (up ++ name ∷ []) (to ++ other ∷ [])) ≡ None → LeadsTo m up d → LeadsTo m to c → m d ≡ Some (ADir (slots_of (m d)))
      → slice_get (slots_of (m d)) place ≡ Some (slot_of n name) → m c ≡ Some (ADir (slots_of (m c))) → node_in (slots_of (m c)) other ≢ Some n → node_in (slots_of (m c)) other ≢ Some d → node_in (slots_of (m c)) other ≢ Some c
      → Has (step s (Rename (up ++ name ∷ []) (to ++ other ∷ []))).0 (with_move m d place c (slot_of n other))
  moved up to name other d c n place accepts leads leads_to from slot into one two three = go _ (Rename (up ++ name ∷ []) (to ++ other ∷ [])) refl accepts (λ is given.
      rename_shown laws s m _ is up to name other d c n given leads leads_to (moves m d c n place name other (slots_of (m d)) (slots_of (m c)) from slot into one two three))

-- the first session with its map
first : TreeLaws → Has (start (in_layout_one 16)) root_alone
first laws = record { limit = refl; map = laws.map_start (in_layout_one 16) (omega arith); alone = refl }

-- after a mkdir, a create, a link, a move, an unlink and a write: the last map, with its three inodes
pub short_map : (laws : TreeLaws) → (m : Inodes) × IsMapOf 16 m (after (start (in_layout_one 16)) short_run).tree
    × (m 1 ≡ Some (ADir (slot_of 2 (codes "a") ∷ []))) × (m 2 ≡ Some (ADir (slot_of 3 (codes "h") ∷ []))) × (m 3 ≡ Some (AFile 1 (120 ∷ [])))
short_map laws =
    let h1 = made laws (start (in_layout_one 16)) root_alone (first laws) (Mkdir (codes "a" ∷ [])) [] (codes "a") 1 2 Dir [] (refl, refl) refl refl refl refl refl refl in
    let h2 = made laws _ _ h1 (Create (codes "a" ∷ codes "f" ∷ [])) (codes "a" ∷ []) (codes "f") 2 3 (File []) [] (refl, refl) refl refl refl refl refl refl in
    let h3 = linked laws _ _ h2 (codes "a" ∷ codes "f" ∷ []) [] (codes "g") 1 3 1 [] (slot_of 2 (codes "a") ∷ []) refl refl refl refl refl refl in
    let h4 = moved laws _ _ h3 [] (codes "a" ∷ []) (codes "g") (codes "h") 1 2 3 1 refl refl refl refl refl refl (none-some 3) (none-some 1) (none-some 2) in
    let h5 = unlinked laws _ _ h4 (codes "a" ∷ []) (codes "f") 2 3 0 (slot_of 3 (codes "f") ∷ slot_of 3 (codes "h") ∷ []) refl refl refl refl refl in
    let h6 = wrote laws _ _ h5 (codes "a" ∷ codes "h" ∷ []) 0 (120 ∷ []) 3 1 [] refl (omega arith) refl refl in
    (_, h6.map, refl, refl, refl)

-- after two creates and a mkdir a move of each kind, with a third create before the last one, which takes the number that is free again: the last map, with its inodes
pub moves_map : (laws : TreeLaws) → (m : Inodes) × IsMapOf 16 m (after (start (in_layout_one 16)) run_of_moves).tree
    × (m 1 ≡ Some (ADir (slot_of 4 (codes "a") ∷ []))) × (m 4 ≡ Some (ADir (slot_of 2 (codes "f") ∷ []))) × (m 2 ≡ Some (AFile 1 [])) × (m 3 ≡ None)
moves_map laws =
    let h1 = made laws (start (in_layout_one 16)) root_alone (first laws) (Create (codes "f" ∷ [])) [] (codes "f") 1 2 (File []) [] (refl, refl) refl refl refl refl refl refl in
    let h2 = made laws _ _ h1 (Create (codes "g" ∷ [])) [] (codes "g") 1 3 (File []) (slot_of 2 (codes "f") ∷ []) (refl, refl) refl refl refl refl refl refl in
    let h3 = made laws _ _ h2 (Mkdir (codes "a" ∷ [])) [] (codes "a") 1 4 Dir (slot_of 2 (codes "f") ∷ slot_of 3 (codes "g") ∷ []) (refl, refl) refl refl refl refl refl refl in
    let h4 = moved laws _ _ h3 [] [] (codes "f") (codes "h") 1 1 2 0 refl refl refl refl refl refl (none-some 2) (none-some 1) (none-some 1) in
    let h5 = moved laws _ _ h4 [] [] (codes "g") (codes "h") 1 1 3 1 refl refl refl refl refl refl (differ_in 2 3 refl) (differ_in 2 1 refl) (differ_in 2 1 refl) in
    let h6 = moved laws _ _ h5 [] (codes "a" ∷ []) (codes "h") (codes "f") 1 4 3 0 refl refl refl refl refl refl (none-some 3) (none-some 1) (none-some 4) in
    let h7 = made laws _ _ h6 (Create (codes "h" ∷ [])) [] (codes "h") 1 2 (File []) (slot_of 4 (codes "a") ∷ []) (refl, refl) refl refl refl refl refl refl in
    let h8 = moved laws _ _ h7 [] (codes "a" ∷ []) (codes "h") (codes "f") 1 4 2 1 refl refl refl refl refl refl (differ_in 3 2 refl) (differ_in 3 1 refl) (differ_in 3 4 refl) in
    (_, h8.map, refl, refl, refl, refl)
