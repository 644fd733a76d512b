-- What the commands make of an inode map: which slots come, change and go, and which inodes. `m` is the map before, `new` the one after.
use Rattle.std.specs.Prelude.{◌≡◌, ◌≢◌, ◌⊎◌, ℕ, ◌-◌, ◌==◌, Bool, true, false, if◌then◌else◌, List, [], ◌∷◌, ◌++◌, set, slice_get, Option, None, Some, option_and_then}
use Rattle.layout_bytes.specs.declared.slot.Slot.{Slot}
use Rattle.layout_directory.specs.Directory.{place_of, without_at}
use Rattle.lang_tree.specs.declared.command.Cmd.{Cmd}
use Rattle.lang_tree.specs.declared.command.Cmd.TheVariants.{Read, Stat, List as ListNames, Snaps, At, Osync, Dsync, Durable, Poll, Bad}
use Rattle.lang_tree.specs.Tree.{Thing, Dir, File}
use Rattle.crash_stands.specs.Files.{FileNode}
use Rattle.crash_stands.specs.Inodes.{Inode, Inodes, ADir, AFile, AreDistinct}
use Rattle.crash_stands.specs.Walks.{entries_of, node_in}
use Rattle.fs_inodes.specs.Lookups.{slots_of}

abbrev pub slot_of : ℕ → List ℕ → Slot
slot_of node name = record { node = node; name = name }

abbrev pub put_at : Option ℕ → Slot → List Slot → List Slot
put_at None s slots = slots ++ s ∷ []
put_at (Some place) s slots = set slots place s

-- the slots with this one: in the stead of the first slot of its name, or behind the last slot
abbrev pub with_slot : List Slot → Slot → List Slot
with_slot slots s = put_at (place_of s.name slots) s slots

-- what a node is at first: a directory without slots, or a file with one link
abbrev pub new_inode : Thing → Inode
new_inode Dir = ADir []
new_inode (File bytes) = AFile 1 bytes

-- what is left of a node where one slot less names it: a directory goes, and a file with its last link
abbrev pub one_link_less : Inode → Option Inode
one_link_less (ADir slots) = None
one_link_less (AFile links bytes) = if links == 1 then None else Some (AFile (links - 1) bytes)

-- whether the command leaves each tree as it is: it looks, is about sync points, or is none
abbrev pub looks_alone : Cmd → Bool
looks_alone (Read path offset count) = true
looks_alone (Stat path) = true
looks_alone (ListNames path) = true
looks_alone Snaps = true
looks_alone (At name l) = true
looks_alone Osync = true
looks_alone Dsync = true
looks_alone Durable = true
looks_alone Poll = true
looks_alone Bad = true
looks_alone _ = false

-- the map with x under the number k
abbrev pub with_inode : Inodes → ℕ → Option Inode → Inodes
with_inode m k x l = if l == k then x else m l

-- Node k became x, and nothing else changed.
pub record Sets (m new : Inodes) (k : ℕ) (x : Option Inode) : Type 0 where
  pub here : new k ≡ x
  pub others : (l : ℕ) → l ≢ k → new l ≡ m l

-- A slot came behind the last one of directory `up`, and the node that it names became x.
pub record AddsSlot (m new : Inodes) (up node : ℕ) (name : List ℕ) (x : Inode) : Type 0 where
  pub slots : List Slot
  pub dir : m up ≡ Some (ADir slots)
  pub added : new up ≡ Some (ADir (slots ++ slot_of node name ∷ []))
  pub named : new node ≡ Some x
  pub others : (k : ℕ) → k ≢ up → k ≢ node → new k ≡ m k

-- The slot at a place of directory `up` went, the last one came into the hole, and the node that it named has one link less.
pub record TakesSlot (m new : Inodes) (up node : ℕ) (name : List ℕ) : Type 0 where
  pub slots : List Slot
  pub place : ℕ
  pub dir : m up ≡ Some (ADir slots)
  pub slot : slice_get slots place ≡ Some (slot_of node name)
  pub taken : new up ≡ Some (ADir (without_at place slots))
  pub left : new node ≡ option_and_then one_link_less (m node)
  pub others : (k : ℕ) → k ≢ up → k ≢ node → new k ≡ m k

-- A move: the slot of the first name, in directory `from`, goes once directory `into` has one for its node under the second name. The node that the second name named has one link less.
pub record MovesSlot (m new : Inodes) (from into node : ℕ) (name other : List ℕ) : Type 0 where
  pub slots : List Slot
  pub place : ℕ
  pub from_dir : m from ≡ Some (ADir slots)
  pub slot : slice_get slots place ≡ Some (slot_of node name)
  pub target : List Slot
  pub into_dir : m into ≡ Some (ADir target)
  pub differ : node_in target other ≢ Some node
  -- within one directory the slot goes from those with the new one; a slot that only changes its name so keeps its place
  pub within : from ≡ into → new from ≡ Some (ADir (without_at place (with_slot target (slot_of node other))))
  pub across : from ≢ into → (new from ≡ Some (ADir (without_at place slots))) × (new into ≡ Some (ADir (with_slot target (slot_of node other))))
  pub left : (old : ℕ) → node_in target other ≡ Some old → new old ≡ option_and_then one_link_less (m old)
  pub others : (k : ℕ) → k ≢ from → k ≢ into → node_in target other ≢ Some k → new k ≡ m k

-- The same changes where names stand in any order: what is under each name is all that counts then.

-- Directory k is one still, and no name comes twice there: x is under this name, and under each other one what was.
pub record HasUnder (m new : Inodes) (k : ℕ) (name : List ℕ) (x : Option ℕ) : Type 0 where
  pub slots : List Slot
  pub dir : m k ≡ Some (ADir slots)
  pub after : List Slot
  pub now : new k ≡ Some (ADir after)
  pub here : node_in after name ≡ x
  pub others : (b : List ℕ) → b ≢ name → node_in after b ≡ node_in slots b
  pub distinct : AreDistinct after

-- A name came to directory `up` for a node, which became x.
pub record AddsName (m new : Inodes) (up node : ℕ) (name : List ℕ) (x : Inode) : Type 0 where
  pub under : HasUnder m new up name (Some node)
  pub named : new node ≡ Some x
  pub others : (k : ℕ) → k ≢ up → k ≢ node → new k ≡ m k

-- A name of directory `up` went, and the node that was under it has one link less.
pub record TakesName (m new : Inodes) (up node : ℕ) (name : List ℕ) : Type 0 where
  pub under : HasUnder m new up name None
  pub there : node_in under.slots name ≡ Some node
  pub left : new node ≡ option_and_then one_link_less (m node)
  pub others : (k : ℕ) → k ≢ up → k ≢ node → new k ≡ m k

-- The name of a node in directory `from` went, and it is under a name of directory `into`, which may be the same directory. The node that was there has one link less.
pub record MovesName (m new : Inodes) (from into node : ℕ) (name other : List ℕ) : Type 0 where
  pub slots : List Slot
  pub from_dir : m from ≡ Some (ADir slots)
  pub there : node_in slots name ≡ Some node
  pub target : List Slot
  pub into_dir : m into ≡ Some (ADir target)
  pub differ : node_in target other ≢ Some node
  pub from_stays : (after : List Slot) × (new from ≡ Some (ADir after))
  pub into_stays : (after : List Slot) × (new into ≡ Some (ADir after))
  pub gone : entries_of new from name ≡ None
  pub come : entries_of new into other ≡ Some node
  pub same : (k : ℕ) (b : List ℕ) → (k ≡ from) ⊎ (k ≡ into) → ((k ≡ from) × (b ≡ name) → ⊥) → ((k ≡ into) × (b ≡ other) → ⊥) → entries_of new k b ≡ entries_of m k b
  pub distinct : (k : ℕ) (after : List Slot) → (k ≡ from) ⊎ (k ≡ into) → new k ≡ Some (ADir after) → AreDistinct after
  pub left : (old : ℕ) → node_in target other ≡ Some old → new old ≡ option_and_then one_link_less (m old)
  pub others : (k : ℕ) → k ≢ from → k ≢ into → node_in target other ≢ Some k → new k ≡ m k

-- the map where node k, if there is one, has one link less
abbrev pub with_less : Inodes → Option ℕ → Inodes
with_less m None = m
with_less m (Some k) = with_inode m k (option_and_then one_link_less (m k))

-- the map once directory `into` has the slot
abbrev pub with_slot_in : Inodes → ℕ → Slot → Inodes
with_slot_in m into s = with_inode m into (Some (ADir (with_slot (slots_of (m into)) s)))

-- the map without the slot at a place of directory `from`
abbrev pub without_slot_in : Inodes → ℕ → ℕ → Inodes
without_slot_in m from place = with_inode m from (Some (ADir (without_at place (slots_of (m from)))))

-- the map after a move: each step in its turn
abbrev pub with_move : Inodes → ℕ → ℕ → ℕ → Slot → Inodes
with_move m from place into s = with_less (without_slot_in (with_slot_in m into s) from place) (node_in (slots_of (m into)) s.name)

-- the node with other bytes
abbrev pub with_bytes : FileNode → List ℕ → FileNode
with_bytes file bytes = record { kind = file.kind; links = file.links; bytes = bytes }
