use Rattle.std.proofs.Common.{◌∙◌, ◌≡◌, ℕ, inr, sym, ap, subst, drop, max, get_or, ◌+◌}
use Rattle.lang_tree.specs.Points.{floor}
use Rattle.cmd_replay.proofs.Lists.{left_from, number_from, some_left}
use Rattle.cmd_replay.proofs.Walks.{floor_ends, floor_more, floor_past}
use Rattle.cmd_replay.proofs.points.floor_by.Goals.{then-marks-i, else-marks-i}
use Rattle.cmd_replay.proofs.points.floor_by.Goals as goal

pub loop-i-preserved : goal.loop-i-preserved
loop-i-preserved c =
    let replies = c.args.replies.now in
    let marks = c.args.marks.now in
    let i = c.loop-i.i in
    let whole = floor c.args.moment replies marks in
    let later = floor c.args.moment (drop (i + 1) replies) (drop (i + 1) marks) in
    elim c.if-marks-i.branch [
      | then-marks-i w ↦
          subst (λ (g : ℕ). max g later ≡ whole) (sym (w.greatest-is ∙ w.max-greatest.ensures ∙ ap (λ (p : ℕ). max p c.loop-i.greatest) w.promised_by.ensures))
          (floor_more c.loop-i.greatest c.args.moment i replies marks w.index-replies-i.result (get_or marks i 0) whole (left_from replies i w.index-replies-i.result c.loop-i-test.true w.index-replies-i.is) (number_from marks i c.if-i-marks.true) w.if-marks-i.true c.loop-i.invariant)
      | else-marks-i w ↦
          let left = some_left replies i c.loop-i-test.true in
          subst (λ (g : ℕ). max g later ≡ whole) (sym w.greatest-is)
          (floor_past c.loop-i.greatest c.args.moment i replies marks left.0 (get_or marks i 0) whole left.1 (number_from marks i c.if-i-marks.true) w.if-marks-i.false c.loop-i.invariant)
    ]

pub returns-else-i-marks : goal.returns-else-i-marks
returns-else-i-marks c = floor_ends c.loop-i.greatest c.args.moment c.loop-i.i c.args.replies.now c.args.marks.now (floor c.args.moment c.args.replies.now c.args.marks.now) (inr c.if-i-marks.false) c.loop-i.invariant
