-- Some more bytes are taken; behind a wrong line the rest is passed over.
use Rattle.std.proofs.Common.{◌∙◌, ap, subst, arith, List, ◌++◌, length, take, drop, append_assoc, take-append-drop, take_all, ◌≡◌, ◌≤◌, ◌+◌, ◌-◌, ◌^◌, ℕ, false}
use Rattle.std.proofs.lemmas.List.{length-drop}
use Rattle.cmd_trace_reader.specs.Progress.{HasRead}
use Rattle.cmd_trace_reader.proofs.Growing.{passed, taken_more}
use Rattle.cmd_trace_reader.proofs.lines.Lines.take_all.Goals as goal

pub returns-then-self : goal.returns-then-self
returns-then-self c = λ seen fits h.
    let done = c.loop-done.done in
    let bytes = c.args.bytes.now in
    subst (λ xs. HasRead xs c.loop-done.self) (append_assoc seen (take done bytes) (drop done bytes) ∙ ap (λ t. seen ++ t) (take-append-drop done bytes))
    (passed c.loop-done.self.wrong (seen ++ take done bytes) (drop done bytes) _ _ _ c.if-self.true (c.loop-done.invariant.taken seen fits h))

pub loop-done-preserved : goal.loop-done-preserved
loop-done-preserved c =
    let done = c.loop-done.done in
    let bytes = c.args.bytes.now in
    let rest = take_all (length bytes - done) (drop done bytes) (omega (arith, length-drop done bytes)) in
    let few = subst (λ r. c.in_ok-more.more ≤ length r) rest c.in_ok-more.ensures.some.1 in
    let next = subst (λ r. (seen : List ℕ) → length seen + length r ≤ 2 ^ 30 → c.loop-done.self.wrong ≡ false → HasRead seen c.loop-done.self → HasRead (seen ++ take c.in_ok-more.more r) c.take_some.new.self) rest c.in_ok-more.ensures.takes in
    record {
      within = omega (arith, few, length-drop done bytes, c.loop-done.invariant.within);
      taken = taken_more bytes done c.in_ok-more.more c.args.self.now c.loop-done.self c.take_some.new.self c.loop-done.invariant.within few c.if-self.false c.loop-done.invariant.taken next;
    }
