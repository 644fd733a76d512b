use Rattle.std.proofs.Common.{◌∙◌, ◌≡◌, ◌+◌, true, false, sym, ap, subst, length, take, drop, bytes_eq, ◌++◌}
use Rattle.cmd_replay.specs.Comparing.{ComparingState, taken_by}
use Rattle.cmd_replay.proofs.Comparisons.{all_bytes, first_differs, next_came, one_byte, some_differ, takes_more}
use Rattle.cmd_replay.proofs.comparing.ComparingSink.push.Goals as goal

pub returns-then-has_next-clause-bytes : goal.returns-then-has_next-clause-bytes
returns-then-has_next-clause-bytes c =
    let bytes = c.args.bytes.now in
    let inside : ComparingState = record { text = c.self.inside.text.now; done = c.self.inside.done; other = c.self.inside.other; faults = c.self.inside.faults } in
    let next = subst (λ (s : ComparingState). bytes_eq (take (length bytes) (drop s.done s.text)) bytes ≡ true) (sym c.self.view_is) (sym c.has_next.ensures ∙ c.if-has_next.true) in
    takes_more inside.text (take (length bytes) bytes) inside.done (inside.done + length bytes) inside.faults inside.other (sym c.is_some.ensures ∙ c.if-is_some.false)
    (next_came inside.text bytes inside.done next ∙ ap (λ l. take inside.done inside.text ++ l) (sym (all_bytes bytes)))
    ∙ ap (λ (s : ComparingState). taken_by s ++ take (length bytes) bytes) c.self.view_is

pub returns-then-has_next-2-clause-bytes : goal.returns-then-has_next-2-clause-bytes
returns-then-has_next-2-clause-bytes c =
    let bytes = c.args.bytes.now in
    let inside : ComparingState = record { text = c.self.inside.text.now; done = c.self.inside.done; other = c.self.inside.other; faults = c.self.inside.faults } in
    let next = subst (λ (s : ComparingState). bytes_eq (take (length (take 1 bytes)) (drop s.done s.text)) (take 1 bytes) ≡ true) (sym c.self.view_is) (sym c.has_next-2.ensures ∙ c.if-has_next-2.true) in
    let some = some_differ c.args.self.now.text bytes c.args.self.now.done (sym c.has_next.ensures ∙ c.if-has_next.false) in
    takes_more inside.text (take 1 bytes) inside.done (inside.done + 1) inside.faults inside.other (sym c.is_some.ensures ∙ c.if-is_some.false)
    (ap (λ n. take (inside.done + n) inside.text) (sym (one_byte bytes some)) ∙ next_came inside.text (take 1 bytes) inside.done next)
    ∙ ap (λ (s : ComparingState). taken_by s ++ take 1 bytes) c.self.view_is

pub invariant_of-self-2 : goal.invariant_of-self-2
invariant_of-self-2 c =
    let bytes = c.args.bytes.now in
    let next = subst (λ (s : ComparingState). bytes_eq (take (length (take 1 bytes)) (drop s.done s.text)) (take 1 bytes) ≡ false) (sym c.self.view_is) (sym c.has_next-2.ensures ∙ c.if-has_next-2.false) in
    record {
      within = c.self.invariant.within;
      differs = first_differs c.self.inside.text.now bytes c.self.inside.done (some_differ c.args.self.now.text bytes c.args.self.now.done (sym c.has_next.ensures ∙ c.if-has_next.false)) next;
      fails = tt;
    }
