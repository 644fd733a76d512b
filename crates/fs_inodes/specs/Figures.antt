-- How many blocks inode maps and commands take, from the sizes of inodes and from what snapshots keep. The figures of changes are those of lang_tree.
use Rattle.std.specs.Prelude.{ℕ, zero, suc, ◌+◌, ◌==◌, if◌then◌else◌, List, length, is_some, Option, None, Some}
use Rattle.base_types.specs.declared.layout.Layout.{Layout}
use Rattle.base_types.specs.Layouts.{table_blocks, directory_blocks}
use Rattle.lang_tree.specs.declared.command.Cmd.{Cmd}
use Rattle.lang_tree.specs.declared.command.Cmd.TheVariants.{Mkdir, Create, Write, Fill, Truncate, Link, Unlink, Rmdir, Rename, Snap, Unsnap}
use Rattle.lang_tree.specs.declared.command.Refusal.{Refusal}
use Rattle.std.specs.FinMap.{get}
use Rattle.lang_tree.specs.Tree.{Bounds, Snapshots}
use Rattle.lang_tree.specs.Paths.{parent}
use Rattle.lang_tree.specs.Walk.{are_same}
use Rattle.lang_tree.specs.Figures.{Figures, blocks_for, growth, release, are_in_one, nothing, adding, removing, moving, snapping, kept_blocks}
use Rattle.lang_tree.specs.Sharing.{SharedNodes, BlocksAlone, alone_from, shared_at, write_over_figures, truncate_over_figures, unsnapping}
use Rattle.crash_stands.specs.Inodes.{Inode, Inodes, ADir, AFile}
use Rattle.fs_inodes.specs.Lookups.{links_in, bytes_of, slots_of, number_at, inode_at}
use Rattle.fs_inodes.specs.Refusals.{reason}

-- the blocks of one inode: a directory's are those that its slots need in the layout
abbrev pub inode_blocks : Layout → Option Inode → ℕ
inode_blocks l None = 0
inode_blocks l (Some (ADir slots)) = directory_blocks l (length slots)
inode_blocks l (Some (AFile links bytes)) = blocks_for (length bytes)

-- the blocks of one inode that is a directory
abbrev pub dir_blocks : Layout → Option Inode → ℕ
dir_blocks l o = directory_blocks l (length (slots_of o))

-- those of the directories among n numbers from k on
abbrev pub directories_from : Layout → Inodes → ℕ → ℕ → ℕ
directories_from l m k zero = 0
directories_from l m k (suc n) = dir_blocks l (m k) + directories_from l m (k + 1) n

-- the blocks of a snapshot of these inodes, with that of its name and those of the table of all numbers
abbrev pub copied_blocks : Bounds → Inodes → ℕ
copied_blocks limit m = 1 + (table_blocks limit.layout limit.nodes + directories_from limit.layout m 1 limit.nodes)

-- the blocks of n numbers from k on
abbrev pub blocks_from : Layout → Inodes → ℕ → ℕ → ℕ
blocks_from l m k zero = 0
blocks_from l m k (suc n) = inode_blocks l (m k) + blocks_from l m (k + 1) n

-- the blocks of all numbers up to the limit
abbrev pub blocks_of : Bounds → Inodes → ℕ
blocks_of limit m = blocks_from limit.layout m 1 limit.nodes

-- how many slots the directory above the path has
abbrev pub slots_above : Inodes → List (List ℕ) → ℕ
slots_above m path = length (slots_of (inode_at m (parent path)))

-- the blocks that go with the path, where it is the last one of a file: those that no snapshot keeps
abbrev pub blocks_lost : SharedNodes → Inodes → List (List ℕ) → ℕ
blocks_lost shared m path =
    if links_in (inode_at m path) == 1 then alone_from (shared_at shared (number_at m path)) 0 (blocks_for (length (bytes_of (inode_at m path)))) else 0

abbrev pub move_cost : ℕ → SharedNodes → Layout → Inodes → List (List ℕ) → List (List ℕ) → Figures
move_cost bitmap shared l m from to =
    if is_some (number_at m to) then moving bitmap 0 (release l (slots_above m from) + blocks_lost shared m to)
    else if are_in_one from to then moving bitmap 0 0
    else moving bitmap (growth l (slots_above m to)) (release l (slots_above m from))

abbrev pub accepted_cost_over : ℕ → SharedNodes → BlocksAlone → Bounds → Snapshots → Inodes → Cmd → Figures
accepted_cost_over bitmap shared alone limit kept m (Mkdir path) = adding (growth limit.layout (slots_above m path))
accepted_cost_over bitmap shared alone limit kept m (Create path) = adding (growth limit.layout (slots_above m path))
accepted_cost_over bitmap shared alone limit kept m (Link path other) = adding (growth limit.layout (slots_above m other))
accepted_cost_over bitmap shared alone limit kept m (Unlink path) = removing bitmap (release limit.layout (slots_above m path) + blocks_lost shared m path)
accepted_cost_over bitmap shared alone limit kept m (Rmdir path) = removing bitmap (release limit.layout (slots_above m path))
accepted_cost_over bitmap shared alone limit kept m (Rename from to) =
    if are_same (number_at m from) (number_at m to) then nothing else move_cost bitmap shared limit.layout m from to
accepted_cost_over bitmap shared alone limit kept m (Write path offset bytes) =
    write_over_figures bitmap (shared_at shared (number_at m path)) (length (bytes_of (inode_at m path))) offset (length bytes)
accepted_cost_over bitmap shared alone limit kept m (Fill path offset count byte) =
    write_over_figures bitmap (shared_at shared (number_at m path)) (length (bytes_of (inode_at m path))) offset count
accepted_cost_over bitmap shared alone limit kept m (Truncate path size) =
    truncate_over_figures bitmap (shared_at shared (number_at m path)) (length (bytes_of (inode_at m path))) size
accepted_cost_over bitmap shared alone limit kept m (Snap name) = snapping bitmap (copied_blocks limit m)
accepted_cost_over bitmap shared alone limit kept m (Unsnap name) = unsnapping bitmap (kept_blocks limit (get kept name)) (alone name)
accepted_cost_over bitmap shared alone limit kept m _ = nothing

abbrev pub cost_over_by : ℕ → SharedNodes → BlocksAlone → Bounds → Snapshots → Inodes → Cmd → Option Refusal → Figures
cost_over_by bitmap shared alone limit kept m cmd (Some why) = nothing
cost_over_by bitmap shared alone limit kept m cmd None = accepted_cost_over bitmap shared alone limit kept m cmd

-- need, cost and blocks freed of a command, within these bounds, where this is the least unused number and these are the snapshots
abbrev pub cost_over : ℕ → SharedNodes → BlocksAlone → Bounds → Option ℕ → Snapshots → Inodes → Cmd → Figures
cost_over bitmap shared alone limit least kept m cmd = cost_over_by bitmap shared alone limit kept m cmd (reason limit.layout least kept m cmd)
