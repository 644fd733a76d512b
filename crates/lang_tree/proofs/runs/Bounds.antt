-- From moment to moment neither bound on the points that a crash may leave falls.
use Rattle.std.proofs.Common.{◌≡◌, ◌≤◌, ℕ, max, nat_le, Bool, if◌then◌else◌, List, [], ◌∷◌, arith}
use Rattle.std.proofs.lemmas.Bool.Decides.{nat_tests}
use Rattle.lang_tree.specs.declared.command.Cmd.{Cmd}
use Rattle.lang_tree.specs.declared.command.Reply.{Reply}
use Rattle.lang_tree.specs.Step.{Session}
use Rattle.lang_tree.specs.Points.{Point, points_after, begun_by, top, floor}

-- what counts from mark m on counts at a later moment where it counts at an earlier one
counts : (n m k later : ℕ) (early late : Bool) → nat_le m k ≡ early → nat_le m later ≡ late → k ≤ later → (if early then n else 0) ≤ (if late then n else 0)
counts n m k later early late h1 h2 h3 = grind (arith, nat_tests)

begun_rises : (k later : ℕ) (points : List Point) → k ≤ later → begun_by k points ≤ begun_by later points
begun_rises k later [] below = omega arith
begun_rises k later (p ∷ points) below = grind (arith, begun_rises k later points below, counts, p.begun)

pub top_rises : (k later mounted : ℕ) (s : Session) (cmds : List Cmd) (replies : List Reply) (marks : List ℕ) → k ≤ later
    → top k s mounted cmds replies marks ≤ top later s mounted cmds replies marks
top_rises k later mounted s cmds replies marks below = begun_rises k later (points_after s mounted cmds replies marks) below

max_rises : (a b c d : ℕ) → a ≤ b → c ≤ d → max a c ≤ max b d
max_rises a b c d ab cd = grind (arith, nat_tests, ab, cd)

pub floor_rises : (k later : ℕ) (replies : List Reply) (marks : List ℕ) → k ≤ later → floor k replies marks ≤ floor later replies marks
floor_rises k later [] marks below = omega arith
floor_rises k later (reply ∷ replies) [] below = omega arith
floor_rises k later (reply ∷ replies) (mark ∷ marks) below = grind (arith, floor_rises k later replies marks below, max_rises, counts)
