-- What crashes leave after one command more: before its events what they left before, and since then the tree of a point that is known.
use Rattle.std.proofs.Common.{◌≡◌, ⊎_elim, ℕ, ◌<◌, ◌≤◌, List, [], ◌∷◌, ◌++◌, length, take, slice_get, Some, sym, ◌∙◌, ap, subst, arith}
use Rattle.std.proofs.Math.Logic.{∥∥₁_map}
use Rattle.std.proofs.lemmas.List.{length-append, take-append-le}
use Rattle.std.proofs.lemmas.Bool.{cases_lt}
use Rattle.cmd_trace.specs.Contents.{Each}
use Rattle.base_types.specs.Seal.{Blocks}
use Rattle.disk_contract.specs.declared.event.Event.{Event}
use Rattle.disk_contract.specs.Crash.{IsHonest}
use Rattle.disk_contract.specs.Disk.{Grows}
use Rattle.crash_stands.specs.Stands.{StandsFor}
use Rattle.lang_tree.specs.declared.command.Cmd.{Cmd}
use Rattle.lang_tree.specs.declared.command.Reply.{Reply}
use Rattle.lang_tree.specs.Points.{Point, made_by, points_after, points_of, begun_by, floor, top, promised_by}
use Rattle.lang_tree.specs.Step.{Session}
use Rattle.lang_tree.specs.Tree.{Tree}
use Rattle.cmd_trace.specs.Trace.{Ascend}
use Rattle.cmd_session.specs.Shared.{begun_append}
use Rattle.cmd_session.specs.Crashes.{StandsForOne, LeavesPoints}
use Rattle.cmd_session.specs.Histories.{session_after, last_mark}
use Rattle.cmd_session.specs.Serving.{HasTree}
use Rattle.cmd_session.proofs.Histories.{points_more, floor_more, last_is, begun_all, points_begun, made_begun, all_append, get_before}

-- The image stands for one of these trees, with a number from `low` to `high`.
pub record StandsForTree (n : ℕ) (img : Blocks) (trees : ℕ → Tree) (low high : ℕ) : Type 0 where
  pub number : ℕ
  pub from : low ≤ number
  pub upto : number ≤ high
  pub stands : StandsFor n img (trees number)

module _ (n : ℕ) (base : Blocks) (s : Session) (old new : List Event) (mounted : ℕ) (cmds : List Cmd) (replies : List Reply) (marks : List ℕ) (cmd : Cmd) (reply : Reply)
    (answered : length cmds ≡ length replies) (marked : length marks ≡ length replies) (up : Ascend mounted marks (length old)) (grows : Grows old new) where
  abbrev all_cmds : List Cmd
  all_cmds = cmds ++ cmd ∷ []

  abbrev all_replies : List Reply
  all_replies = replies ++ reply ∷ []

  abbrev all_marks : List ℕ
  all_marks = marks ++ length new ∷ []

  abbrev earlier : List Point
  earlier = points_after s mounted cmds replies marks

  abbrev made : List Point
  made = made_by (session_after s cmds replies) cmd reply (last_mark mounted marks)

  points_are : points_after s mounted all_cmds all_replies all_marks ≡ earlier ++ made
  points_are = points_more s mounted cmds replies marks cmd reply (length new) answered marked

  longer : length old ≤ length new
  longer = omega (arith, ap (λ (es : List Event). length es) grows.log, length-append old grows.more)

  -- from the command's beginning on all points have begun
  top_is : (k : ℕ) → length old ≤ k → top k s mounted all_cmds all_replies all_marks ≡ length (points_after s mounted all_cmds all_replies all_marks)
  top_is k late = begun_all k (points_after s mounted all_cmds all_replies all_marks) (subst (λ (ps : List Point). Each (λ p. p.begun ≤ k) ps) (sym points_are)
      (all_append (λ p. p.begun ≤ k) earlier made (later k late earlier (points_begun s mounted cmds replies marks (length old) up)) (made_begun (session_after s cmds replies) cmd reply (last_mark mounted marks) k (omega (arith, last_is mounted marks (length old) up, late)))))
    where
      later : (k : ℕ) → length old ≤ k → (ps : List Point) → Each (λ p. p.begun ≤ length old) ps → Each (λ p. p.begun ≤ k) ps
      later k late [] all = tt
      later k late (p ∷ ps) all = (omega (arith, all.0, late), later k late ps all.1)

  -- before its events
  early : (k : ℕ) (img : Blocks) → k < length old → StandsForOne n img (points_of s mounted cmds replies marks) (floor k replies marks) (top k s mounted cmds replies marks)
      → StandsForOne n img (points_of s mounted all_cmds all_replies all_marks) (floor k all_replies all_marks) (top k s mounted all_cmds all_replies all_marks)
  early k img before one = record {
    number = one.number;
    point = one.point;
    from = floor_more k one.number replies marks reply (length new) marked one.from (λ come. absurd (omega (arith, come, before, longer)));
    upto = omega (arith, one.upto, ap (begun_by k) points_are, begun_append k earlier made);
    is = subst (λ (ps : List Point). slice_get (record { tree = s.tree; begun = 0 } ∷ ps) one.number ≡ Some one.point) (sym points_are) (get_before (record { tree = s.tree; begun = 0 } ∷ earlier) made one.number one.point one.is);
    stands = one.stands;
  }

  module _ (trees : ℕ → Tree) (first known last : ℕ) (low : (k : ℕ) → floor k replies marks ≤ first) (rises : first ≤ known) (promised : promised_by reply ≤ known)
      (numbered : (p : ℕ) → p ≤ last → HasTree (points_of s mounted all_cmds all_replies all_marks) p (trees p)) (few : last ≤ length (points_after s mounted all_cmds all_replies all_marks)) where
    -- since then, where what it stands for isn't older than what was promised
    late : (k f : ℕ) (img : Blocks) → length old ≤ k → first ≤ f → (length new ≤ k → promised_by reply ≤ f) → StandsForTree n img trees f last
        → StandsForOne n img (points_of s mounted all_cmds all_replies all_marks) (floor k all_replies all_marks) (top k s mounted all_cmds all_replies all_marks)
    late k f img since above come one =
        let here = numbered one.number one.upto in record {
          number = one.number;
          point = here.point;
          from = floor_more k one.number replies marks reply (length new) marked (omega (arith, low k, above, one.from)) (λ m. omega (arith, come m, one.from));
          upto = omega (arith, one.upto, few, top_is k since);
          is = here.is;
          stands = subst (λ (t : Tree). StandsFor n img t) (sym here.tree) one.stands;
        }

    pub crashes_more : LeavesPoints n base s old mounted cmds replies marks
        → ((k : ℕ) (img : Blocks) → length old ≤ k → k ≤ length new → IsHonest n base (take k new) img → ∥ StandsForTree n img trees first last ∥₁)
        → ((img : Blocks) → IsHonest n base (take (length new) new) img → ∥ StandsForTree n img trees known last ∥₁)
        → LeavesPoints n base s new mounted all_cmds all_replies all_marks
    crashes_more before during now = record { each = each }
      where
        each : (k : ℕ) (img : Blocks) → k ≤ length new → IsHonest n base (take k new) img
            → ∥ StandsForOne n img (points_of s mounted all_cmds all_replies all_marks) (floor k all_replies all_marks) (top k s mounted all_cmds all_replies all_marks) ∥₁
        each k img within honest = ⊎_elim
            (λ lt. ∥∥₁_map (before.each k img (omega (arith, lt)) (subst (λ (es : List Event). IsHonest n base es img) (ap (take k) grows.log ∙ take-append-le k old grows.more (omega (arith, lt))) honest)) (early k img lt))
            (λ ge. ⊎_elim
            (λ more. ∥∥₁_map (during k img ge within honest) (late k first img ge (omega arith) (λ come. absurd (omega (arith, come, more)))))
            (λ end. ∥∥₁_map (now img (subst (λ (m : ℕ). IsHonest n base (take m new) img) (omega (arith, end, within)) honest)) (late k known img ge rises (λ come. promised)))
            (cases_lt k (length new)))
            (cases_lt k (length old))
