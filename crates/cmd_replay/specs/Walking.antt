-- A walk over the commands of a trace, which looks for the newest sync point whose tree has a listing. Only private contracts speak of it.
use Rattle.std.specs.Prelude.{◌≡◌, ℕ, ◌+◌, ◌≤◌, nat_le, Bool, bytes_eq, ◌&&◌, if◌then◌else◌, List, ◌++◌, length, drop, Some, None}
use Rattle.lang_tree.specs.declared.command.Cmd.{Cmd}
use Rattle.lang_tree.specs.declared.command.Reply.{Reply}
use Rattle.lang_tree.specs.Listing.{listing}
use Rattle.lang_tree.specs.Points.{Point, points_after, begun_by, after_reply, is_sync, may_have_written}
use Rattle.lang_tree.specs.Step.{Session}
use Rattle.lang_tree.specs.Tree.{Tree}
use Rattle.cmd_trace.specs.Contents.{Contents}
use Rattle.cmd_trace.specs.Trace.{Ascend}
use Rattle.cmd_replay.specs.Newest.{IsNewest}
use Rattle.cmd_replay.specs.Points.{points_in}
use Rattle.cmd_replay.specs.declared.walk.Walk.{Walk}
use Rattle.cmd_replay.specs.declared.walk.Tally.{Tally}

-- the tree has this listing
abbrev pub IsListedAs : List ℕ → Tree → Type 0
IsListedAs text t = listing t ≡ text

-- whether a point of this number and this tree is looked for
abbrev pub is_sought : List ℕ → ℕ → ℕ → Tree → Bool
is_sought text low number t = nat_le low number && bytes_eq (listing t) text

-- point 0 alone, of this tree
abbrev pub first_tally : List ℕ → ℕ → Tree → Tally
first_tally text low t = record { last = 0; newest = if is_sought text low 0 t then Some 0 else None }

-- one more point, of this tree
abbrev pub with_point : List ℕ → ℕ → Tree → Tally → Tally
with_point text low t y = record {
  last = y.last + 1;
  newest = if is_sought text low (y.last + 1) t then Some (y.last + 1) else y.newest;
}

-- whether a command that was answered so makes a point
abbrev pub makes_point : Session → Cmd → Reply → Bool
makes_point s cmd reply = is_sync cmd && (s.changed && may_have_written reply)

-- what one command, answered so, does to a walk
pub record WalksOn (text : List ℕ) (low : ℕ) (cmd : Cmd) (reply : Reply) (old new : Walk) : Type 0 where
  pub session : new.tree ≡ after_reply old.tree cmd reply
  pub tally : new.tally ≡ (if makes_point old.tree cmd reply then with_point text low old.tree.tree old.tally else old.tally)
  pub synced : new.synced ≡ new.tree.points
  pub few : new.synced ≤ old.synced + 1

-- Some points were counted: so many, behind point 0, and of those from low on the newest with this listing.
pub record AreCounted (text : List ℕ) (low : ℕ) (points : List Point) (y : Tally) : Type 0 where
  pub count : length points ≡ y.last + 1
  pub newest : IsNewest (IsListedAs text) points low y.last y.newest

-- The walk is before command i, which begins at this moment: the points of the commands before are counted, and all of them began by moment k.
pub record HasCome (text : List ℕ) (low k : ℕ) (c : Contents) (i begun : ℕ) (w : Walk) : Type 0 where
  pub before : List Point
  pub split : points_in c ≡ before ++ points_after w.tree begun (drop i c.cmds) (drop i c.replies) (drop i c.marks)
  pub counted : AreCounted text low before w.tally
  pub early : begun_by k before ≡ length before
  pub events : ℕ
  pub ascend : Ascend begun (drop i c.marks) events
  pub synced : w.synced ≡ w.tree.points
  pub few : w.synced ≤ i
  pub last : w.tally.last ≤ i
