-- How many blocks trees and commands take, from sizes and numbers of names alone, and what a command costs in the journal. They are the table in docs/TREE.md.
use Rattle.std.specs.Prelude.{ℕ, ◌+◌, ◌-◌, ◌*◌, ◌/◌, ◌==◌, min, max, Bool, ◌&&◌, if◌then◌else◌, List, [], ◌∷◌, length, nat_lt, is_some, Option, None, Some}
use Rattle.std.specs.List.{filter, range_with_len}
use Rattle.std.specs.FinMap.{get, entries}
use Rattle.base_types.specs.declared.layout.Layout.{Layout}
use Rattle.base_types.specs.Layouts.{table_blocks, directory_blocks}
use Rattle.lang_tree.specs.declared.command.Cmd.{Cmd}
use Rattle.lang_tree.specs.declared.command.Cmd.TheVariants.{Mkdir, Create, Write, Fill, Truncate, Link, Unlink, Rmdir, Rename, Snap, Unsnap}
use Rattle.lang_tree.specs.declared.command.Refusal.{Refusal}
use Rattle.lang_tree.specs.Tree.{Tree, Bounds, Names, Kept, Thing, Dir, File}
use Rattle.lang_tree.specs.Paths.{parent, name_in}
use Rattle.lang_tree.specs.Names.{names_in}
use Rattle.lang_tree.specs.Walk.{content, links, is_there, is_same_node}
use Rattle.lang_tree.specs.Conditions.{refusal}
use Rattle.lang_tree.specs.Step.{Session}

-- What a command does to the blocks: by how many its file or its target directory grows, the most that it may add to the journal record, and how many it frees.
pub record Figures : Type 0 where
  pub need : ℕ
  pub cost : ℕ
  pub freed : ℕ

-- blocks of so many bytes
abbrev pub blocks_for : ℕ → ℕ
blocks_for size = (size + 1023) / 1024

-- Blocks of the whole tree.

abbrev pub content_blocks : Thing → ℕ
content_blocks Dir = 0
content_blocks (File bytes) = blocks_for (length bytes)

abbrev pub file_blocks : List (ℕ × Thing) → ℕ
file_blocks [] = 0
file_blocks (e ∷ es) = content_blocks e.1 + file_blocks es

abbrev pub all_directory_blocks : Layout → Names → List (List (List ℕ) × ℕ) → ℕ
all_directory_blocks l names [] = 0
all_directory_blocks l names (e ∷ es) = directory_blocks l (length (names_in names e.0)) + all_directory_blocks l names es

-- the blocks of each file, and of what each path holds: a file's path holds nothing, and a directory has one path
abbrev pub blocks : Layout → Tree → ℕ
blocks l t = file_blocks (entries t.nodes) + all_directory_blocks l t.names (entries t.names)

-- blocks of a snapshot of these paths: one for its name, those of a table of all nodes that there may be, and those of all directories
abbrev pub snapshot_blocks : Bounds → Names → ℕ
snapshot_blocks limit names = 1 + (table_blocks limit.layout limit.nodes + all_directory_blocks limit.layout names (entries names))

-- blocks of a snapshot, where there is one
abbrev pub kept_blocks : Bounds → Option Kept → ℕ
kept_blocks limit None = 0
kept_blocks limit (Some k) = snapshot_blocks limit k.names

-- Directories.

-- by how many blocks a directory of so many names grows with one more
abbrev pub growth : Layout → ℕ → ℕ
growth l count = directory_blocks l (count + 1) - directory_blocks l count

-- how many blocks a directory of so many names frees with one less
abbrev pub release : Layout → ℕ → ℕ
release l count = directory_blocks l count - directory_blocks l (count - 1)

-- how many names the directory above the path holds
abbrev pub siblings : Names → List (List ℕ) → ℕ
siblings names path = length (names_in names (parent path))

-- the blocks that go with the path, where it is the last one of a file
abbrev pub blocks_gone : Tree → List (List ℕ) → ℕ
blocks_gone t path = if links t path == 1 then blocks_for (length (content t path)) else 0

-- whether both paths lie in one directory
abbrev pub are_in_one : List (List ℕ) → List (List ℕ) → Bool
are_in_one p q = is_some (name_in (parent p) q)

-- Files.

-- whether block i of a file touches the bytes from lo up to hi
abbrev pub touches : ℕ → ℕ → ℕ → Bool
touches lo hi i = nat_lt (1024 * i) hi && nat_lt lo (1024 * (i + 1))

-- how many blocks that a file of this size has touch the bytes from lo up to hi
abbrev pub blocks_met : ℕ → ℕ → ℕ → ℕ
blocks_met size lo hi = length (filter (touches lo hi) (range_with_len 0 (blocks_for size)))

-- The figures of the commands. `bitmap` is the number of the bitmap's blocks.

abbrev pub nothing : Figures
nothing = record { need = 0; cost = 0; freed = 0 }

-- one name more in a directory
abbrev pub adding : ℕ → Figures
adding grown = record { need = grown; cost = 25 * (3 + grown); freed = 0 }

-- one name less in a directory, with what goes
abbrev pub removing : ℕ → ℕ → Figures
removing bitmap freed = record { need = 0; cost = 25 * (4 + min freed bitmap); freed = freed }

abbrev pub moving : ℕ → ℕ → ℕ → Figures
moving bitmap grown freed = record { need = grown; cost = 25 * (6 + (grown + min freed bitmap)); freed = freed }

-- bytes from lo up to hi come into a file of this size
abbrev pub writing : ℕ → ℕ → ℕ → ℕ → Figures
writing bitmap size lo hi =
    let grown = blocks_for (max size hi) - blocks_for size in
    record { need = grown; cost = 25 * (blocks_met size lo hi + (1 + min grown bitmap)) + grown; freed = 0 }

abbrev pub shrinking : ℕ → ℕ → Figures
shrinking bitmap freed = record { need = 0; cost = 25 * (1 + min freed bitmap); freed = freed }

-- a snapshot of so many blocks is made
abbrev pub snapping : ℕ → ℕ → Figures
snapping bitmap count = record { need = count; cost = 25 * (1 + min count bitmap) + count; freed = 0 }

abbrev pub write_figures : ℕ → ℕ → ℕ → ℕ → Figures
write_figures bitmap size offset count = if count == 0 then nothing else writing bitmap size (min offset size) (offset + count)

abbrev pub truncate_figures : ℕ → ℕ → ℕ → Figures
truncate_figures bitmap old new =
    if nat_lt old new then writing bitmap old old new
    else if nat_lt new old then shrinking bitmap (blocks_for old - blocks_for new)
    else nothing

-- a move onto what is there takes a name out; within one directory a name changes; else one goes here and one comes there
abbrev pub move_figures : ℕ → Layout → Tree → List (List ℕ) → List (List ℕ) → Figures
move_figures bitmap l t from to =
    if is_there t to then moving bitmap 0 (release l (siblings t.names from) + blocks_gone t to)
    else if are_in_one from to then moving bitmap 0 0
    else moving bitmap (growth l (siblings t.names to)) (release l (siblings t.names from))

abbrev pub accepted_figures : ℕ → Bounds → Tree → Cmd → Figures
accepted_figures bitmap limit t (Mkdir path) = adding (growth limit.layout (siblings t.names path))
accepted_figures bitmap limit t (Create path) = adding (growth limit.layout (siblings t.names path))
accepted_figures bitmap limit t (Link path other) = adding (growth limit.layout (siblings t.names other))
accepted_figures bitmap limit t (Unlink path) = removing bitmap (release limit.layout (siblings t.names path) + blocks_gone t path)
accepted_figures bitmap limit t (Rmdir path) = removing bitmap (release limit.layout (siblings t.names path))
accepted_figures bitmap limit t (Rename from to) = if is_same_node t from to then nothing else move_figures bitmap limit.layout t from to
accepted_figures bitmap limit t (Write path offset bytes) = write_figures bitmap (length (content t path)) offset (length bytes)
accepted_figures bitmap limit t (Fill path offset count byte) = write_figures bitmap (length (content t path)) offset count
accepted_figures bitmap limit t (Truncate path size) = truncate_figures bitmap (length (content t path)) size
accepted_figures bitmap limit t (Snap name) = snapping bitmap (snapshot_blocks limit t.names)
accepted_figures bitmap limit t (Unsnap name) = shrinking bitmap (kept_blocks limit (get t.snapshots name))
accepted_figures bitmap limit t _ = nothing

abbrev pub figures_by : ℕ → Bounds → Tree → Cmd → Option Refusal → Figures
figures_by bitmap limit t cmd (Some why) = nothing
figures_by bitmap limit t cmd None = accepted_figures bitmap limit t cmd

-- need, cost and blocks freed of a command; nothing where the tree refuses it
abbrev pub figures : ℕ → Session → Cmd → Figures
figures bitmap s cmd = figures_by bitmap s.limit s.tree cmd (refusal s.limit s.tree cmd)
