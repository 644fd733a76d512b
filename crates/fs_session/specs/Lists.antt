-- Which blocks the nodes of a session have and its snapshots keep, by lists. It is described in docs/SPACE.md.
use Rattle.std.specs.Prelude.{ℕ, Bool, false, ◌||◌, not, if◌then◌else◌, List, [], length, slice_get, bytes_eq, Option, None, Some}
use Rattle.std.specs.List.{filter, list_any, range_with_len}
use Rattle.std.specs.FinMap.{get}
use Rattle.lang_tree.specs.declared.command.Cmd.{Cmd}
use Rattle.lang_tree.specs.declared.command.Cmd.TheVariants.{Snap, Unsnap}
use Rattle.lang_tree.specs.declared.command.Refusal.{Refusal}
use Rattle.lang_tree.specs.Conditions.{refusal}
use Rattle.lang_tree.specs.Sharing.{SharedNodes}
use Rattle.lang_tree.specs.Step.{Session}
use Rattle.lang_tree.specs.Tree.{Tree}
use Rattle.lang_tree.specs.Walk.{is_file}
use Rattle.engine_blocks.specs.Running.{has}
use Rattle.fs_snapshots.specs.Known.{node_blocks}

-- of each snapshot, by its name, the blocks of each file that it keeps
abbrev pub KeptLists : Type 0
KeptLists = List ℕ → ℕ → List ℕ

-- nothing is kept
abbrev pub nothing_kept : KeptLists
nothing_kept name k = []

-- whether one of the snapshots of these names keeps block b as a file's, where nodes have numbers 1 to n
abbrev pub is_kept_block : ℕ → KeptLists → List (List ℕ) → ℕ → Bool
is_kept_block n kept names b = list_any (λ name. has (node_blocks (kept name) n) b) names

-- whether the block at a place, where there is one, is kept
abbrev pub kept_at : ℕ → KeptLists → List (List ℕ) → Option ℕ → Bool
kept_at n kept names None = false
kept_at n kept names (Some b) = is_kept_block n kept names b

-- which blocks of each node a snapshot keeps, by its number and their places
abbrev pub shared_in : ℕ → (ℕ → List ℕ) → KeptLists → List (List ℕ) → SharedNodes
shared_in n places kept names k i = kept_at n kept names (slice_get (places k) i)

-- the other names
abbrev pub others : List ℕ → List (List ℕ) → List (List ℕ)
others name names = filter (λ other. not (bytes_eq other name)) names

-- how many blocks of the files of this snapshot are in no other list: no node's and of no other snapshot
abbrev pub alone_in : ℕ → (ℕ → List ℕ) → KeptLists → List (List ℕ) → List ℕ → ℕ
alone_in n places kept names name =
    length (filter (λ b. not (has (node_blocks places n) b || is_kept_block n kept (others name names) b)) (node_blocks (kept name) n))

-- whether block b is in some list: a node's, or of a file that a snapshot keeps
abbrev pub is_listed : ℕ → (ℕ → List ℕ) → KeptLists → List (List ℕ) → ℕ → Bool
is_listed n places kept names b = has (node_blocks places n) b || is_kept_block n kept names b

-- how many of so many blocks from number `from` on are
abbrev pub listed : ℕ → (ℕ → List ℕ) → KeptLists → List (List ℕ) → ℕ → ℕ → ℕ
listed n places kept names from count = length (filter (is_listed n places kept names) (range_with_len from count))

-- What snapshots keep behind a command: a new one keeps the blocks of each file, and one that goes keeps none.

abbrev pub kept_by : Tree → (ℕ → List ℕ) → KeptLists → Cmd → KeptLists
kept_by t places kept (Snap name) other k = if bytes_eq other name then (if is_file (get t.nodes k) then places k else []) else kept other k
kept_by t places kept (Unsnap name) other k = if bytes_eq other name then [] else kept other k
kept_by t places kept _ other k = kept other k

abbrev pub kept_unless : Option Refusal → KeptLists → KeptLists → KeptLists
kept_unless None old new = new
kept_unless (Some why) old new = old

-- and nothing else where the tree refuses it
abbrev pub kept_after : Session → (ℕ → List ℕ) → KeptLists → Cmd → KeptLists
kept_after f places kept cmd = kept_unless (refusal f.limit f.tree cmd) kept (kept_by f.tree places kept cmd)
