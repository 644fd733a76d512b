-- All that was issued stands for the last point: where it is known now, and at the mark of one reply more.
use Rattle.std.proofs.Common.{◌≡◌, ℕ, ◌+◌, List, [], ◌∷◌, ◌++◌, length, slice_get, Some, sym, subst, arith}
use Rattle.std.proofs.Math.Logic.{∥∥₁_map}
use Rattle.base_types.specs.Seal.{Blocks}
use Rattle.disk_contract.specs.declared.event.Event.{Event}
use Rattle.disk_contract.specs.Disk.{Grows}
use Rattle.layout_geometry.specs.Geometry.{Geometry}
use Rattle.crash_argument.specs.Ledger.{issued}
use Rattle.crash_stands.specs.Stands.{IsTreeOf, StandsFor}
use Rattle.lang_tree.specs.declared.command.Cmd.{Cmd}
use Rattle.lang_tree.specs.declared.command.Reply.{Reply}
use Rattle.lang_tree.specs.Points.{Point, points_of}
use Rattle.lang_tree.specs.Step.{Session}
use Rattle.lang_tree.specs.Tree.{Tree}
use Rattle.cmd_trace.specs.Trace.{Ascend}
use Rattle.engine_blocks.specs.State.{State}
use Rattle.cmd_session.specs.Histories.{HasNoFault}
use Rattle.cmd_session.specs.Issued.{StandsForLast, IssuesLast}
use Rattle.cmd_session.specs.Serving.{HasTree, IsDrawn}
use Rattle.cmd_session.proofs.Marks.{each_more}

-- where the last point has tree t, and what was issued stands for it
pub issued_now : (s : State) (g : Geometry) (points : List Point) (t : Tree) → s.books.geom ≡ g → IsDrawn s → length points ≡ s.books.point + 1 → HasTree points s.books.point t
    → ∥ ((m : Blocks) × s.crash.issued m) ∥₁ → ((m : Blocks) → s.crash.issued m → IsTreeOf s.books.geom m t) → ∥ StandsForLast g.n s.crash.base s.crash.log points ∥₁
issued_now s g points t geom drawn exact last some each = ∥∥₁_map some stands
  where
    image : Blocks
    image = issued s.crash.base s.crash.log

    here : (m : Blocks) → s.crash.issued m → StandsFor s.books.geom.n image t
    here m is = let held = drawn.holds image m (drawn.issued m is) in
        record { map = m; held = held.held; tree = subst (λ (k : Geometry). IsTreeOf k m t) (sym held.geom) (each m is) }

    stands : (m : Blocks) × s.crash.issued m → StandsForLast g.n s.crash.base s.crash.log points
    stands one = record {
      point = last.point;
      is = subst (λ (k : ℕ). slice_get points k ≡ Some last.point) (omega (arith, exact)) last.is;
      stands = subst (λ (k : Geometry). StandsFor k.n image last.point.tree) geom (subst (λ (u : Tree). StandsFor s.books.geom.n image u) (sym last.tree) (here one.0 one.1));
    }

module _ (n : ℕ) (base : Blocks) (s : Session) (old new : List Event) (mounted : ℕ) (cmds : List Cmd) (replies : List Reply) (marks : List ℕ) (cmd : Cmd) (reply : Reply)
    (answered : length cmds ≡ length replies) (marked : length marks ≡ length replies) (up : Ascend mounted marks (length old)) (grows : Grows old new) where
  -- what is said of some of the commands, and the events by then
  abbrev Last : List Event → List Cmd → List Reply → List ℕ → Type 0
  Last es cs rs ms = HasNoFault rs → ∥ StandsForLast n base es (points_of s mounted cs rs ms) ∥₁

  pub issues_more : (HasNoFault (replies ++ reply ∷ []) → ∥ StandsForLast n base new (points_of s mounted (cmds ++ cmd ∷ []) (replies ++ reply ∷ []) (marks ++ length new ∷ [])) ∥₁) → IssuesLast n base s old mounted cmds replies marks
      → IssuesLast n base s new mounted (cmds ++ cmd ∷ []) (replies ++ reply ∷ []) (marks ++ length new ∷ [])
  issues_more now before = record { each = λ i le. each_more Last old new mounted cmds replies marks cmd reply answered marked up grows now before.each i }
