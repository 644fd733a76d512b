-- The walk that writes a listing: which paths it has still to come to, and what its calls leave. It is described in docs/FILE-SYSTEM.md.
use Rattle.std.specs.Prelude.{◌≡◌, ℕ, ◌+◌, ◌-◌, ◌*◌, ◌^◌, ◌≤◌, ⊤, Bool, true, false, IsTrue, if◌then◌else◌, List, [], ◌∷◌, ◌++◌, length, map, take, drop, Option, Some, Result, Ok, Err}
use Rattle.std.specs.List.{All, flat_map}
use Rattle.std.specs.List.Sorted.{IsPermutation}
use Rattle.std.specs.FinMap.{entries, get}
use Rattle.std.specs.Io.KnownBytes.{Appends}
use Rattle.base_types.specs.Counts.{after_call}
use Rattle.layout_bytes.specs.declared.slot.Slot.{Slot}
use Rattle.lang_tree.specs.Tree.{Snapshots, Tree, Thing, Dir}
use Rattle.lang_tree.specs.Listing.{line_of, snapshot_lines}
use Rattle.crash_stands.specs.Files.{Files}
use Rattle.crash_stands.specs.Inodes.{Inodes, ADir, inodes_of}
use Rattle.crash_stands.specs.Maps.{IsMapOf}
use Rattle.crash_stands.specs.Walks.{LeadsTo}
use Rattle.fs_inodes.specs.Listing.{at_and_below}
use Rattle.engine_blocks.specs.State.{State}
use Rattle.engine_blocks.specs.Running.{HasNoBare}
use Rattle.crash_stands.specs.Stands.{AreSound}
use Rattle.fs_files.specs.declared.refusal.FileRefusal.{FileRefusal}
use Rattle.fs_files.specs.declared.refusal.FileRefusal.TheVariants as file
use Rattle.fs_files.specs.Asks.{MayLookAt}
use Rattle.fs_files.specs.Calls.{IsUsed}
use Rattle.fs_files.specs.Effects.{LooksOnly}
use Rattle.fs_files.specs.NodeMaps.{NodeMap}
use Rattle.fs_files.specs.Shared.{is_kept}
use Rattle.fs_files.specs.Sound.{TellsKept}
use Rattle.fs_dirs.specs.Directories.{IsNumber}
use Rattle.fs_commands.specs.declared.listing.Frame.{Frame}
use Rattle.fs_commands.specs.declared.listing.Walk.{Walk}
use Rattle.fs_commands.specs.declared.listing.ListRefusal.{ListRefusal}
use Rattle.fs_commands.specs.declared.listing.ListRefusal.TheVariants as refusal

-- The answers.

-- whether a listing, or a part of one, was refused by a failed read
abbrev pub ended_by_read : {T : Type 0} → Result T ListRefusal → Bool
ended_by_read (Ok x) = false
ended_by_read (Err refusal.Stopped) = false
ended_by_read (Err refusal.ReadFault) = true
ended_by_read (Err refusal.SinkFault) = false
ended_by_read (Err refusal.NoMemory) = false

-- whether it was refused by a failed push
abbrev pub ended_by_push : {T : Type 0} → Result T ListRefusal → Bool
ended_by_push (Ok x) = false
ended_by_push (Err refusal.Stopped) = false
ended_by_push (Err refusal.ReadFault) = false
ended_by_push (Err refusal.SinkFault) = true
ended_by_push (Err refusal.NoMemory) = false

-- whether it was refused since the disk had failed before
abbrev pub ended_by_stop : {T : Type 0} → Result T ListRefusal → Bool
ended_by_stop (Ok x) = false
ended_by_stop (Err refusal.Stopped) = true
ended_by_stop (Err refusal.ReadFault) = false
ended_by_stop (Err refusal.SinkFault) = false
ended_by_stop (Err refusal.NoMemory) = false

-- why a listing ends where a call on a file that only looks does
abbrev pub list_refusal_of : FileRefusal → ListRefusal
list_refusal_of file.ReadFault = refusal.ReadFault
list_refusal_of (file.Short need reusable) = refusal.NoMemory
list_refusal_of (file.Scattered runs) = refusal.NoMemory
list_refusal_of file.DiskFault = refusal.NoMemory
list_refusal_of file.NoMemory = refusal.NoMemory

-- What a listing needs, and what its calls leave.

-- Each block that was taken is filled or freed, and where they are known the blocks are sound, and snapshots keep just those that have a count.
pub record MayList (tells : Bool) (s : State) (counts : List ℕ) : Type 0 where
  pub none_bare : HasNoBare s.books.running
  pub sound : IsTrue tells → AreSound s.books.geom s.map
  pub kept : IsTrue tells → TellsKept s.books.geom (is_kept counts) s.map

-- Node k may be looked at, and is in use.
pub record MayReadNode (tells : Bool) (may_read : Type 0) (s : State) (files : Files) (k : ℕ) : Type 0 where
  pub look : MayLookAt may_read s k
  pub used : IsTrue tells → IsUsed files k

-- a count of failed pushes never falls, and a push that failed is counted once
abbrev pub CountsPushes : Bool → ℕ → ℕ → Type 0
CountsPushes failed before now = (before ≤ now) × (now ≡ after_call failed before)

-- Blocks were read and bytes pushed, and nothing else was done. A read or a push that failed is counted once; `before` and `now` count the pushes. No call was refused since the disk failed before.
pub record Lists {T : Type 0} (tells : Bool) (result : Result T ListRefusal) (old new : State) (before now : ℕ) : Type 0 where
  pub looks : LooksOnly tells (ended_by_read result) old new
  pub pushes : CountsPushes (ended_by_push result) before now
  pub going : ended_by_stop result ≡ false

-- m is what the nodes in use read as, and it is the map of the tree.
pub record IsMapIn (s : State) (v : NodeMap) (m : Inodes) (t : Tree) : Type 0 where
  pub same : m ≡ inodes_of s.books.geom.layout v.files
  pub map : IsMapOf s.books.geom.i m t

-- the lines of snapshots, the names ascending
abbrev pub kept_lines : Snapshots → List ℕ
kept_lines snapshots = flat_map (λ e. snapshot_lines e.0 e.1) (entries snapshots)

-- Paths of a tree.

-- paths with their numbers
abbrev pub Paths : Type 0
Paths = List (List (List ℕ) × ℕ)

-- their lines in the listing
abbrev pub lines_of : Tree → Paths → List ℕ
lines_of t paths = flat_map (λ e. line_of e.0 e.1 (get t.nodes e.1)) paths

-- whether a directory is there
abbrev pub is_dir_thing : Option Thing → Bool
is_dir_thing (Some Dir) = true
is_dir_thing _ = false

-- how many of them lead to directories
abbrev pub dirs_among : Tree → Paths → ℕ
dirs_among t [] = 0
dirs_among t (e ∷ paths) = (if is_dir_thing (get t.nodes e.1) then 1 else 0) + dirs_among t paths

-- those at and below these names of the directory at `up`
abbrev pub under_names : Tree → List (List ℕ) → List (List ℕ) → Paths
under_names t up names = flat_map (λ name. at_and_below t (up ++ name ∷ [])) names

-- The directories that a walk is in. Each lies in the one before it, and the names of the walk's path lead to them.

-- the names that a directory has still to come
abbrev pub names_left : Frame → List (List ℕ)
names_left f = map (λ s. s.name) (drop f.next f.entries.items)

-- The directory is the one to which so many names of the path lead, and the entries are its slots, in any order.
pub record IsFrame (m : Inodes) (path : List (List ℕ)) (depth : ℕ) (f : Frame) : Type 0 where
  pub leads : LeadsTo m (take depth path) f.dir
  pub slots : List Slot
  pub dir : m f.dir ≡ Some (ADir slots)
  pub entries : IsPermutation slots f.entries.items

-- so are they all, the first one at this depth
abbrev pub AreFrames : Inodes → List (List ℕ) → ℕ → List Frame → Type 0
AreFrames m path depth [] = ⊤
AreFrames m path depth (f ∷ frames) = IsFrame m path depth f × AreFrames m path (depth + 1) frames

-- each has a number of the table
abbrev pub HaveNumbers : ℕ → List Frame → Type 0
HaveNumbers limit frames = All (λ f. IsNumber limit f.dir) frames

-- the paths that they have still to come, those of the deepest one first
abbrev pub paths_left : Tree → List (List ℕ) → ℕ → List Frame → Paths
paths_left t path depth [] = []
paths_left t path depth (f ∷ frames) = paths_left t path (depth + 1) frames ++ under_names t (take depth path) (names_left f)

-- how many turns one takes still: one for each name, and one to leave it
abbrev pub turns_of : Frame → ℕ
turns_of f = length f.entries.items - f.next + 1

-- how many they all take
abbrev pub turns_in : List Frame → ℕ
turns_in [] = 0
turns_in (f ∷ frames) = turns_of f + turns_in frames

-- An entry was taken from those that the directory has still to come.
pub record TakesEntry (old new : Frame) (entry : Slot) : Type 0 where
  pub rest : drop old.next old.entries.items ≡ entry ∷ drop new.next new.entries.items
  pub dir : new.dir ≡ old.dir
  pub entries : new.entries.items ≡ old.entries.items
  pub turns : turns_of new + 1 ≡ turns_of old

-- The walk.

-- the paths that it has still to come to
abbrev pub to_come : Tree → Walk → Paths
to_come t w = paths_left t w.path.items 0 w.frames.items

-- those that the directory at its path has still to come
abbrev pub under_frame : Tree → Walk → Frame → Paths
under_frame t w f = under_names t w.path.items (names_left f)

-- how many turns it takes at most: a directory that it may enter has fewer than 2^64 names
abbrev pub turns_left : Walk → ℕ
turns_left w = w.left * 2 ^ 64 + turns_in w.frames.items

-- It is in each directory above its path, has some paths at and below that ahead of the others, and may enter as many directories as are to come.
pub record IsWalk (m : Inodes) (t : Tree) (ahead : Paths) (w : Walk) : Type 0 where
  pub frames : AreFrames m w.path.items 0 w.frames.items
  pub depth : length w.path.items ≡ length w.frames.items
  pub room : dirs_among t (ahead ++ to_come t w) ≤ w.left

-- Of these paths the lines of some were written, in their order, and the walk has the others still to come to. It is in the directory at its path too, unless it came to its end.
pub record HasWritten (m : Inodes) (t : Tree) (paths : Paths) (w : Walk) (before after : Option (List ℕ)) : Type 0 where
  pub seen : Paths
  pub wrote : Appends before after (lines_of t seen)
  pub rest : paths ≡ seen ++ to_come t w
  pub frames : AreFrames m w.path.items 0 w.frames.items
  pub depth : length w.path.items ≡ length w.frames.items - 1
  pub room : dirs_among t (to_come t w) ≤ w.left

-- It entered the directory at its path, which has these names.
pub record Enters (m : Inodes) (t : Tree) (names : List (List ℕ)) (old new : Walk) : Type 0 where
  pub rest : to_come t new ≡ under_names t old.path.items names ++ to_come t old
  pub frames : AreFrames m new.path.items 0 new.frames.items
  pub depth : length new.path.items ≡ length new.frames.items - 1
  pub left : new.left + 1 ≡ old.left
