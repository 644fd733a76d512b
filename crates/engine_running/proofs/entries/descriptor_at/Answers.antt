-- The entries from the first of the descriptor on are pushed one by one.
use Rattle.std.proofs.Common.{◌≡◌, ◌≤◌, ⊎_elim, min, ℕ, ◌+◌, ◌-◌, ◌*◌, ◌++◌, ◌∷◌, [], List, take, drop, length, slice_get, ◌∙◌, ap, arith, length-drop}
use Rattle.std.proofs.lemmas.Bool.{cases_lt}
use Rattle.layout_journal.specs.declared.entry.Entry.{Entry}
use Rattle.layout_journal.specs.Run.{entries}
use Rattle.engine_running.specs.Record.{record_of}
use Rattle.engine_running.proofs.spelling.Forms.{take_push, get_drop, take_enough}
use Rattle.engine_running.proofs.spelling.Spelled.{entries_length}
use Rattle.engine_running.proofs.entries.descriptor_at.Goals as goal

back : (a b : ℕ) → a ≤ b → a + (b - a) ≡ b
back a b le = omega (arith, le)

one_more : (a b : ℕ) → a ≤ b → b - a + 1 ≡ b + 1 - a
one_more a b le = omega (arith, le)

-- up to the end of the entries, or 24 of them
all_taken : (all : List Entry) (from at : ℕ) → from ≤ at → at ≡ min (length all) (from + 24) → take (at - from) (drop from all) ≡ take 24 (drop from all)
all_taken all from at le e = ⊎_elim (λ lt. take_enough (drop from all) (at - from) 24 (omega (arith, e, lt, le, length-drop from all)) (omega (arith, lt, length-drop from all)))
    (λ ge. ap (λ n. take n (drop from all)) (full at from (length all) e ge)) (cases_lt (length all) (from + 24))
  where
    full : (at from n : ℕ) → at ≡ min n (from + 24) → from + 24 ≤ n → at - from ≡ 24
    full at from n e ge = omega (arith, e, ge)

pub loop-at-preserved : goal.loop-at-preserved
loop-at-preserved c =
    let all = entries (record_of 0 0 c.args.paid.now c.args.laid.now) in
    let from = 24 * c.args.index in
    let at = c.loop-at.at in
    let behind : from ≤ at = omega (arith, c.loop-at.auto.at) in
    record {
      entries = c.push.ensures ∙ ap (λ (l : List Entry). l ++ c.entry_at.result ∷ []) c.loop-at.invariant.entries
          ∙ take_push all from (at - from) c.entry_at.result (get_drop from all (at - from) ∙ ap (slice_get all) (back from at behind) ∙ c.entry_at.ensures)
          ∙ ap (λ n. take n (drop from all)) (one_more from at behind);
    }

pub returns : goal.returns
returns c =
    let all = entries (record_of 0 0 c.args.paid.now c.args.laid.now) in
    let from = 24 * c.args.index in
    let own = c.loop-at.invariant.entries in
    let behind : from ≤ c.loop-at.at = omega (arith, c.loop-at.auto.at, c.min-end.ensures, c.requires.index) in
    ap (λ (es : List Entry). record { epoch = c.args.epoch; number = c.args.number; index = c.args.index; entries = es }) (own ∙ all_taken all from c.loop-at.at behind (omega (arith, c.loop-at.auto.at-end, c.min-end.ensures, entries_length 0 0 c.args.paid.now c.args.laid.now, c.requires.index)))
