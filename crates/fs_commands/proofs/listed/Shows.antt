-- A node shown at the walk's path: what its line makes of the walk, and that a fault leaves a prefix taken.
use Rattle.std.proofs.Common.{◌≡◌, ℕ, ◌<◌, Bool, true, false, IsTrue, List, [], ◌∷◌, ◌++◌, length, Option, Some, option_map, ap, ◌∙◌, arith}
use Rattle.std.specs.FinMap.{get}
use Rattle.std.specs.Io.KnownBytes.{Appends}
use Rattle.layout_bytes.specs.declared.slot.Slot.{Slot}
use Rattle.base_io.specs.Prefix.{TakesPrefix}
use Rattle.lang_tree.specs.Tree.{Tree, Dir, File}
use Rattle.lang_tree.specs.Paths.{parent}
use Rattle.lang_tree.specs.Listing.{line_of}
use Rattle.crash_stands.specs.Files.{FileNode}
use Rattle.crash_stands.specs.Inodes.{Inodes, ADir}
use Rattle.crash_stands.specs.Maps.{IsMapOf}
use Rattle.crash_stands.specs.Walks.{LeadsTo}
use Rattle.fs_inodes.specs.Lookups.{slots_of}
use Rattle.fs_inodes.specs.Names.{names_of}
use Rattle.fs_inodes.specs.Listing.{at_and_below}
use Rattle.engine_blocks.specs.State.{Bookkeeping, State}
use Rattle.fs_files.specs.declared.look.FileFacts.{FileFacts}
use Rattle.fs_files.specs.Asks.{MayRead}
use Rattle.fs_files.specs.Calls.{facts_of, is_dir}
use Rattle.fs_files.specs.Effects.{LooksOnly}
use Rattle.fs_files.specs.NodeMaps.{NodeMap}
use Rattle.fs_snapshots.specs.Nodes.{facts_are}
use Rattle.fs_dirs.specs.Directories.{IsNumber}
use Rattle.fs_commands.specs.declared.listing.Walk.{Walk}
use Rattle.fs_commands.specs.Listing.{MayReadNode, IsMapIn, lines_of, under_names, to_come, AreFrames, IsWalk, HasWritten, Enters}
use Rattle.fs_commands.proofs.listed.Texts.{IsFirst, IsSecond}
use Rattle.fs_commands.proofs.listed.Reads.{map_stays, dir_there, bytes_there}
use Rattle.fs_commands.proofs.listed.Steps.{thing_there, line_front, line_taken, showed_dir, showed_file, may_enter}

-- a node of which something is known may be read
pub may_read : (tells : Bool) (s mid : State) (P Q : Type 0) (v u : NodeMap) (number : ℕ) (facts : FileFacts) → LooksOnly tells false s mid → (P → Q) → (IsTrue tells → u ≡ v) → MayRead P s → IsNumber s.books.geom.i number
    → (IsTrue tells → Some facts ≡ option_map facts_of (v.files number)) → MayReadNode tells Q mid u.files number
may_read tells s mid P Q v u number facts looks on same may is_number known = record {
  look = record {
    going = ap (λ (b : Bookkeeping). b.stopped) looks.books ∙ may.going;
    from = is_number.from;
    upto = omega (arith, is_number.upto, ap (λ (b : Bookkeeping). b.geom.i) looks.books);
    may = on may.may;
  };
  used = λ told. let x = facts_are (v.files number) facts (known told) in (x.0, ap (λ (n : NodeMap). n.files number) (same told) ∙ x.1);
}

-- the paths at and below one, as the law of listings has them
abbrev pub GoesDown : Type 0
GoesDown = (limit : ℕ) (m : Inodes) (t : Tree) (path : List (List ℕ)) (node : ℕ) → IsMapOf limit m t → LeadsTo m path node → at_and_below t path ≡ (path, node) ∷ under_names t path (names_of (slots_of (m node)))

module _ (s : State) (v : NodeMap) (w : Walk) (number : ℕ) where
  -- something that holds where the walk comes to the node, whatever the tree
  abbrev pub AtNode : (Inodes → Tree → Type 0) → Type 0
  AtNode P = (m : Inodes) (t : Tree) → IsMapIn s v m t → LeadsTo m w.path.items number → IsWalk m t (at_and_below t w.path.items) w → P m t

  -- a prefix was taken of the lines that are still to come
  abbrev pub FrontAtNode : Option (List ℕ) → Option (List ℕ) → Type 0
  FrontAtNode old new = AtNode (λ m t. TakesPrefix old new (lines_of t (at_and_below t w.path.items ++ to_come t w)))

  module _ (down : GoesDown) (facts : FileFacts) (known : Some facts ≡ option_map facts_of (v.files number)) (old : Option (List ℕ)) where
    -- It is a directory.
    module _ (dir : is_dir facts.kind ≡ true) where
      dir_down : (m : Inodes) (t : Tree) (h : IsMapIn s v m t) (leads : LeadsTo m w.path.items number) → at_and_below t w.path.items ≡ (w.path.items, number) ∷ under_names t w.path.items (names_of (dir_there s v m t h w.path.items number leads facts known dir).0)
      dir_down m t h leads = down s.books.geom.i m t w.path.items number h.map leads ∙ ap (λ i. (w.path.items, number) ∷ under_names t w.path.items (names_of (slots_of i))) (dir_there s v m t h w.path.items number leads facts known dir).1

      dir_thing : (m : Inodes) (t : Tree) (h : IsMapIn s v m t) (leads : LeadsTo m w.path.items number) → get t.nodes number ≡ Some Dir
      dir_thing m t h leads = let found = dir_there s v m t h w.path.items number leads facts known dir in thing_there t m number (ADir found.0) h.map.shows.nodes found.1

      pub dir_front : (new : Option (List ℕ)) → IsFirst → TakesPrefix old new (line_of w.path.items number (Some Dir)) → FrontAtNode old new
      dir_front new first front m t h leads walk = line_front t w.path.items number Dir (dir_thing m t h leads) _ (to_come t w) (dir_down m t h leads) old new first front

      pub dir_taken : (new : Option (List ℕ)) → IsSecond → Appends old new (line_of w.path.items number (Some Dir)) → FrontAtNode old new
      dir_taken new second taken m t h leads walk = line_taken t w.path.items number Dir (dir_thing m t h leads) _ (to_come t w) (dir_down m t h leads) old new second taken

      pub dir_writes : (tells : Bool) (mid : State) (u : NodeMap) (new : Walk) (now : Option (List ℕ)) → LooksOnly tells false s mid → u ≡ v → Appends old now (line_of w.path.items number (Some Dir))
          → ((m : Inodes) (t : Tree) (slots : List Slot) → IsMapIn mid u m t → LeadsTo m w.path.items number → m number ≡ Some (ADir slots) → 0 < w.left → AreFrames m w.path.items 0 w.frames.items → length w.path.items ≡ length w.frames.items
          → Enters m t (names_of slots) w new)
          → AtNode (λ m t. HasWritten m t (at_and_below t w.path.items ++ to_come t w) new old now)
      dir_writes tells mid u new now looks same taken enters m t h leads walk =
          let found = dir_there s v m t h w.path.items number leads facts known dir in
          let some = may_enter t w number _ (dir_thing m t h leads) (dir_down m t h leads) walk.room in
          showed_dir m t w new number found.0 old now (dir_thing m t h leads) (dir_down m t h leads) walk.room
          (enters m t found.0 (map_stays tells false s mid v u looks same m t h) leads found.1 some walk.frames walk.depth) taken

    -- It is a file.
    module _ (file : is_dir facts.kind ≡ false) (u : NodeMap) (same : u ≡ v) where
      abbrev bytes_at : List ℕ
      bytes_at = (facts_are (v.files number) facts known).0.bytes

      there : u.files number ≡ Some (facts_are (v.files number) facts known).0
      there = ap (λ (n : NodeMap). n.files number) same ∙ (facts_are (v.files number) facts known).1

      size : facts.size ≡ length bytes_at
      size = ap (λ (f : FileFacts). f.size) (facts_are (v.files number) facts known).2

      file_down : (m : Inodes) (t : Tree) (h : IsMapIn s v m t) (leads : LeadsTo m w.path.items number) → at_and_below t w.path.items ≡ (w.path.items, number) ∷ under_names t w.path.items (names_of [])
      file_down m t h leads = down s.books.geom.i m t w.path.items number h.map leads ∙ ap (λ i. (w.path.items, number) ∷ under_names t w.path.items (names_of (slots_of i))) (bytes_there s v m t h w.path.items number leads facts known file)

      file_thing : (m : Inodes) (t : Tree) (h : IsMapIn s v m t) (leads : LeadsTo m w.path.items number) → get t.nodes number ≡ Some (File bytes_at)
      file_thing m t h leads = thing_there t m number _ h.map.shows.nodes (bytes_there s v m t h w.path.items number leads facts known file)

      pub file_front : (new : Option (List ℕ)) → IsFirst
          → ((x : FileNode) → u.files number ≡ Some x → facts.size ≡ length x.bytes → TakesPrefix old new (line_of w.path.items number (Some (File x.bytes)))) → FrontAtNode old new
      file_front new first front m t h leads walk =
          line_front t w.path.items number (File bytes_at) (file_thing m t h leads) _ (to_come t w) (file_down m t h leads) old new first (front (facts_are (v.files number) facts known).0 there size)

      pub file_writes : (new : Walk) (now : Option (List ℕ)) → ((x : FileNode) → u.files number ≡ Some x → facts.size ≡ length x.bytes → Appends old now (line_of w.path.items number (Some (File x.bytes))))
          → new.path.items ≡ parent w.path.items → new.frames ≡ w.frames → new.left ≡ w.left → AtNode (λ m t. HasWritten m t (at_and_below t w.path.items ++ to_come t w) new old now)
      file_writes new now taken path frames left m t h leads walk =
          showed_file m t w new number bytes_at old now (file_thing m t h leads) (file_down m t h leads) walk path frames left (taken (facts_are (v.files number) facts known).0 there size)
