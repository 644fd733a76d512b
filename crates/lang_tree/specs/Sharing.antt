-- What commands need, cost and free where snapshots keep blocks of files beside the tree. Where nothing is shared it is what `Figures` says.
use Rattle.std.specs.Prelude.{ℕ, ◌+◌, ◌-◌, ◌*◌, ◌==◌, min, max, Bool, false, ◌&&◌, not, if◌then◌else◌, List, length, nat_lt, Option, None, Some}
use Rattle.std.specs.List.{filter, range_with_len}
use Rattle.std.specs.FinMap.{get}
use Rattle.base_types.specs.declared.layout.Layout.{Layout}
use Rattle.lang_tree.specs.declared.command.Cmd.{Cmd}
use Rattle.lang_tree.specs.declared.command.Cmd.TheVariants.{Write, Fill, Truncate, Unlink, Rename, Unsnap}
use Rattle.lang_tree.specs.declared.command.Refusal.{Refusal}
use Rattle.lang_tree.specs.Tree.{Tree, Bounds}
use Rattle.lang_tree.specs.Figures.{Figures, blocks_for, kept_blocks, touches, blocks_met, nothing, removing, moving, shrinking, growth, release, siblings, are_in_one, accepted_figures}
use Rattle.lang_tree.specs.Walk.{content, links, is_there, is_same_node}
use Rattle.lang_tree.specs.Conditions.{refusal}
use Rattle.lang_tree.specs.Step.{Session}

-- Which blocks of a file a snapshot keeps, by their places in the file.
abbrev pub SharedPlaces : Type 0
SharedPlaces = ℕ → Bool

-- a file of which no snapshot keeps a block
abbrev pub none_shared : SharedPlaces
none_shared i = false

-- which blocks of each node a snapshot keeps, by its number and their places
abbrev pub SharedNodes : Type 0
SharedNodes = ℕ → SharedPlaces

-- how many blocks of its files each snapshot alone has, by its name: neither the tree nor another snapshot has them
abbrev pub BlocksAlone : Type 0
BlocksAlone = List ℕ → ℕ

-- no snapshot has a block alone
abbrev pub none_alone : BlocksAlone
none_alone name = 0

-- a block of the file that the bytes from lo up to hi touch and a snapshot keeps
abbrev pub is_renewed : SharedPlaces → ℕ → ℕ → ℕ → Bool
is_renewed shared lo hi i = touches lo hi i && shared i

-- how many there are in a file of this size
abbrev pub shared_met : SharedPlaces → ℕ → ℕ → ℕ → ℕ
shared_met shared size lo hi = length (filter (is_renewed shared lo hi) (range_with_len 0 (blocks_for size)))

-- how many of so many blocks from place `from` on no snapshot keeps
abbrev pub alone_from : SharedPlaces → ℕ → ℕ → ℕ
alone_from shared from count = length (filter (λ i. not (shared i)) (range_with_len from count))

-- bytes from lo up to hi come into a file of this size: a block that a snapshot keeps isn't written over, a new one stands in its stead
abbrev pub writing_over : ℕ → SharedPlaces → ℕ → ℕ → ℕ → Figures
writing_over bitmap shared size lo hi =
    let taken = shared_met shared size lo hi + (blocks_for (max size hi) - blocks_for size) in
    record { need = taken; cost = 25 * (blocks_met size lo hi - shared_met shared size lo hi + (1 + min taken bitmap)) + taken; freed = 0 }

-- a file of so many blocks keeps the first of them, and of the others those are freed that no snapshot keeps
abbrev pub cutting : ℕ → SharedPlaces → ℕ → ℕ → Figures
cutting bitmap shared count kept =
    let freed = alone_from shared kept (count - kept) in
    record { need = 0; cost = 25 * (1 + min freed bitmap); freed = freed }

-- a snapshot of so many blocks goes, and so many blocks of its files that nothing else has
abbrev pub unsnapping : ℕ → ℕ → ℕ → Figures
unsnapping bitmap count alone = shrinking bitmap (count + alone)

-- The figures of the commands, with what is shared.

-- which blocks of the file that the path leads to are shared
abbrev pub shared_at : SharedNodes → Option ℕ → SharedPlaces
shared_at shared None = none_shared
shared_at shared (Some n) = shared n

-- the blocks that go with the path, where it is the last one of a file
abbrev pub alone_gone : SharedNodes → Tree → List (List ℕ) → ℕ
alone_gone shared t path = if links t path == 1 then alone_from (shared_at shared (get t.names path)) 0 (blocks_for (length (content t path))) else 0

abbrev pub write_over_figures : ℕ → SharedPlaces → ℕ → ℕ → ℕ → Figures
write_over_figures bitmap shared size offset count = if count == 0 then nothing else writing_over bitmap shared size (min offset size) (offset + count)

abbrev pub truncate_over_figures : ℕ → SharedPlaces → ℕ → ℕ → Figures
truncate_over_figures bitmap shared old new =
    if nat_lt old new then writing_over bitmap shared old old new
    else if nat_lt new old then cutting bitmap shared (blocks_for old) (blocks_for new)
    else nothing

-- a move as without snapshots, but for what goes with the path that it takes the place of
abbrev pub move_over_figures : ℕ → SharedNodes → Layout → Tree → List (List ℕ) → List (List ℕ) → Figures
move_over_figures bitmap shared l t from to =
    if is_there t to then moving bitmap 0 (release l (siblings t.names from) + alone_gone shared t to)
    else if are_in_one from to then moving bitmap 0 0
    else moving bitmap (growth l (siblings t.names to)) (release l (siblings t.names from))

-- of an accepted command: those that write, cut or drop a file's blocks look at what is shared, a snapshot that goes frees what it has alone, and all others have their figures without sharing
abbrev pub accepted_over : ℕ → SharedNodes → BlocksAlone → Bounds → Tree → Cmd → Figures
accepted_over bitmap shared alone limit t (Unlink path) = removing bitmap (release limit.layout (siblings t.names path) + alone_gone shared t path)
accepted_over bitmap shared alone limit t (Rename from to) = if is_same_node t from to then nothing else move_over_figures bitmap shared limit.layout t from to
accepted_over bitmap shared alone limit t (Write path offset bytes) =
    write_over_figures bitmap (shared_at shared (get t.names path)) (length (content t path)) offset (length bytes)
accepted_over bitmap shared alone limit t (Fill path offset count byte) =
    write_over_figures bitmap (shared_at shared (get t.names path)) (length (content t path)) offset count
accepted_over bitmap shared alone limit t (Truncate path size) = truncate_over_figures bitmap (shared_at shared (get t.names path)) (length (content t path)) size
accepted_over bitmap shared alone limit t (Unsnap name) = unsnapping bitmap (kept_blocks limit (get t.snapshots name)) (alone name)
accepted_over bitmap shared alone limit t cmd = accepted_figures bitmap limit t cmd

abbrev pub figures_over_by : ℕ → SharedNodes → BlocksAlone → Bounds → Tree → Cmd → Option Refusal → Figures
figures_over_by bitmap shared alone limit t cmd (Some why) = nothing
figures_over_by bitmap shared alone limit t cmd None = accepted_over bitmap shared alone limit t cmd

-- need, cost and blocks freed of a command; nothing where the tree refuses it
abbrev pub figures_over : ℕ → SharedNodes → BlocksAlone → Session → Cmd → Figures
figures_over bitmap shared alone s cmd = figures_over_by bitmap shared alone s.limit s.tree cmd (refusal s.limit s.tree cmd)
