-- Each turn reads one more entry, and the last leaves none to read.
use Rattle.std.proofs.Common.{◌≡◌, ◌+◌, ◌-◌, ◌*◌, ◌<◌, Some, None, take, drop, length, ◌∙◌, ap, sym, arith}
use Rattle.layout_journal.specs.Layout.{entry_of}
use Rattle.layout_journal.proofs.ReadEntries.{so_far, length_one_more, one_more, none_fits}
use Rattle.layout_journal.proofs.read.entries_in.Goals as goal

pub returns-in_err-entry : goal.returns-in_err-entry
returns-in_err-entry c =
    let more : c.loop-k.k < c.args.count = omega (arith, c.loop-k-test.true, c.loop-k.auto.k-end) in
    let none : entry_of c.args.geom.now (take 40 (drop (40 * c.loop-k.k) c.args.bytes.now)) ≡ None =
    ap (λ n. entry_of c.args.geom.now (take n (drop (40 * c.loop-k.k) c.args.bytes.now))) {x = 40} {y = 40 * c.loop-k.k + 40 - 40 * c.loop-k.k} (omega arith)
    ∙ sym c.read_entry.ensures ∙ c.in_err-entry.was in
    c.from_residual.ensures
    ∙ sym (c.loop-k.invariant.1 ∙ none_fits c.args.geom.now c.args.count c.args.bytes.now c.loop-k.k c.loop-k.entries more none)

pub loop-k-preserved : goal.loop-k-preserved
loop-k-preserved c =
    let more : c.loop-k.k < c.args.count = omega (arith, c.loop-k-test.true, c.loop-k.auto.k-end) in
    let read : entry_of c.args.geom.now (take 40 (drop (40 * c.loop-k.k) c.args.bytes.now)) ≡ Some c.in_ok-entry.entry =
    ap (λ n. entry_of c.args.geom.now (take n (drop (40 * c.loop-k.k) c.args.bytes.now))) {x = 40} {y = 40 * c.loop-k.k + 40 - 40 * c.loop-k.k} (omega arith)
    ∙ sym c.read_entry.ensures ∙ c.in_ok-entry.was in (
      ap length c.push.ensures ∙ length_one_more c.loop-k.entries c.in_ok-entry.entry ∙ ap (λ n. n + 1) c.loop-k.invariant.0,
      c.loop-k.invariant.1
          ∙ one_more c.args.geom.now c.args.count c.args.bytes.now c.loop-k.k c.loop-k.entries c.in_ok-entry.entry more read
          ∙ ap (so_far c.args.geom.now c.args.count c.args.bytes.now (c.loop-k.k + 1)) (sym c.push.ensures),
    )
