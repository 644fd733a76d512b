use Rattle.std.proofs.Common.{◌≡◌, ◌≤◌, IsTrue, length, take}
use Rattle.std.specs.BTreeSet.{contains}
use Rattle.std.specs.Ordering.{nat_cmp}
use Rattle.lang_tree.specs.Names.{names_in}
use Rattle.lang_tree.specs.Step.{Session}
use Rattle.lang_log.specs.Names.{log_path}
use Rattle.fs_session.specs.Sessions.{IsSession}
use Rattle.fs_commands.specs.Opened.{MayFollow, blocks_in}
use Rattle.fs_log.specs.Finding.{AsksOnly, HasDirectory, HasFoundSome}
use Rattle.fs_log.proofs.opening.find_segments.Given as goal

abbrev pub invariant-loop-name : goal.invariant-loop-name
invariant-loop-name g l =
    MayFollow g.S.Blocks.tells g.S.Blocks.state l.fs
    × (l.name-index ≤ length l.names)
    × (IsTrue g.S.Blocks.tells → AsksOnly g.S.Blocks.tells g.S.Blocks.state (blocks_in l.fn.fs) (blocks_in l.fs))
    × (IsTrue g.S.Blocks.tells → (f : Session) → IsSession (g.S.Blocks.state (blocks_in l.fn.fs)) f → HasDirectory f.tree
    → (l.names ≡ names_in f.tree.names log_path) × HasFoundSome f.tree (take l.name-index l.names) l.found.firsts.items l.found.size l.found.next (contains nat_cmp l.nodes))
