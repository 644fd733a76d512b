use Rattle.std.proofs.Common.{◌∙◌, ◌≡◌, ℕ, ◌+◌, ◌<◌, inl, inr, sym, ap, ap₂, subst, arith, List, ◌∷◌, drop, length, get_or}
use Rattle.base_types.specs.declared.layout.Layout.{Layout}
use Rattle.lang_tree.specs.declared.command.Cmd.{Cmd}
use Rattle.lang_tree.specs.declared.command.Reply.{Reply}
use Rattle.lang_tree.specs.Step.{start}
use Rattle.lang_tree.specs.Tree.{Bounds}
use Rattle.crash_stands.specs.Bounds.{bounds_of}
use Rattle.cmd_replay.specs.Newest.{IsNewest}
use Rattle.cmd_replay.specs.Points.{points_in, top_at}
use Rattle.cmd_replay.specs.Walking.{HasCome, IsListedAs, first_tally}
use Rattle.cmd_replay.specs.declared.walk.Tally.{Tally}
use Rattle.cmd_replay.proofs.Lists.{left_from, number_from}
use Rattle.cmd_replay.proofs.Walks.{begun_walk, walk_ends, walked_on}
use Rattle.cmd_replay.proofs.points.search.Goals.{then-loop-i-test+else-begun-moment, else-loop-i-test}
use Rattle.cmd_replay.proofs.points.search.Goals as goal

pub loop-i-init : goal.loop-i-init
loop-i-init c =
    let nodes : c.i.result ≡ c.args.trace.now.geometry.i = c.i.ensures ∙ ap (λ g. g.i) c.geom-geom.ensures in
    let layout : c.layout.result ≡ c.args.trace.now.geometry.layout = c.layout.ensures ∙ ap (λ g. g.layout) c.geom-geom.ensures in
    let bounds : record { nodes = c.i.result; layout = c.layout.result } ≡ bounds_of c.args.trace.now.geometry = ap₂ (λ (n : ℕ) (l : Layout). record { nodes = n; layout = l }) nodes layout in
    subst (λ (b : ℕ). HasCome c.args.text.now c.args.low c.args.moment c.args.trace.now 0 b c.in_ok-walk.walk) (sym c.mounted-begun.ensures)
    (begun_walk c.args.text.now c.args.low c.args.moment c.args.trace.now c.in_ok-walk.walk c.requires
    (c.in_ok-walk.ensures ∙ ap (λ (b : Bounds). record { tree = start b; synced = 0; tally = first_tally c.args.text.now c.args.low (start b).tree }) bounds))

pub loop-i-preserved : goal.loop-i-preserved
loop-i-preserved c =
    let t = c.args.trace.now in
    let cmds_are : c.commands-cmds.result.now ≡ t.cmds = c.commands-cmds.ensures in
    let replies_are : c.replies-replies.result.now ≡ t.replies = c.replies-replies.ensures in
    let marks_are : c.marks-marks.result.now ≡ t.marks = c.marks-marks.ensures in
    let few : c.loop-i.i < length c.commands-cmds.result.now = c.loop-i-test.true in
    walked_on c.args.text.now c.args.low c.args.moment t c.loop-i.i c.loop-i.begun c.loop-i.walk c.take.new.self c.index-cmds-i.result c.index-replies-i.result (get_or c.marks-marks.result.now c.loop-i.i 0)
    c.if-begun-moment.true
    (subst (λ (l : List Cmd). drop c.loop-i.i l ≡ c.index-cmds-i.result ∷ drop (c.loop-i.i + 1) l) cmds_are (left_from c.commands-cmds.result.now c.loop-i.i c.index-cmds-i.result few c.index-cmds-i.is))
    (subst (λ (l : List Reply). drop c.loop-i.i l ≡ c.index-replies-i.result ∷ drop (c.loop-i.i + 1) l) replies_are (left_from c.replies-replies.result.now c.loop-i.i c.index-replies-i.result (omega (arith, few, ap length cmds_are, ap length replies_are, c.requires.answered)) c.index-replies-i.is))
    (subst (λ (l : List ℕ). drop c.loop-i.i l ≡ get_or c.marks-marks.result.now c.loop-i.i 0 ∷ drop (c.loop-i.i + 1) l) marks_are (number_from c.marks-marks.result.now c.loop-i.i (omega (arith, few, ap length cmds_are, ap length marks_are, c.requires.answered, c.requires.marked))))
    c.loop-i.invariant c.in_ok-take.ensures

pub returns : goal.returns
returns c =
    subst (λ (y : Tally). (y.last ≡ top_at c.args.moment c.args.trace.now) × IsNewest (IsListedAs c.args.text.now) (points_in c.args.trace.now) c.args.low y.last y.newest) (sym c.tally.ensures)
    (walk_ends c.args.text.now c.args.low c.args.moment c.args.trace.now c.loop-i.i c.loop-i.begun c.loop-i.walk
    (elim c.loop-i-test.branch [
      | then-loop-i-test+else-begun-moment w ↦ inr w.if-begun-moment.false
      | else-loop-i-test w ↦ inl (omega (arith, w.loop-i-test.false, ap length c.commands-cmds.ensures))
    ])
    c.loop-i.invariant)
