use Rattle.std.proofs.Common.{◌≡◌, ℕ, ◌*◌, ◌-◌, ◌≤◌, IsTrue, List}
use Rattle.lang_tree.specs.Step.{Session}
use Rattle.lang_log.specs.Spelling.{HasPassed}
use Rattle.fs_session.specs.Sessions.{IsSession}
use Rattle.fs_commands.specs.Opened.{MayFollow, blocks_in}
use Rattle.fs_log.specs.Finding.{AsksOnly, HasFile}
use Rattle.fs_log.proofs.finding.count_appends.Given as goal

abbrev pub invariant-loop-offset : goal.invariant-loop-offset
invariant-loop-offset g l =
    MayFollow g.S.Blocks.tells g.S.Blocks.state l.fs
    × (IsTrue g.S.Blocks.tells → AsksOnly g.S.Blocks.tells g.S.Blocks.state (blocks_in l.fn.fs) (blocks_in l.fs))
    × (4 * l.appends ≤ l.offset)
    × (IsTrue g.S.Blocks.tells → (f : Session) (node : ℕ) (bytes : List ℕ) → IsSession (g.S.Blocks.state (blocks_in l.fn.fs)) f → HasFile f.tree l.first node bytes → HasPassed bytes l.appends l.offset)

abbrev pub decreases-loop-offset : goal.decreases-loop-offset
decreases-loop-offset g l = l.size - l.offset
