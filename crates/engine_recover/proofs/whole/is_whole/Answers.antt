use Rattle.std.proofs.Common.{List, slice_get, refl, sym, ◌∙◌, ap, true≢false, arith}
use Rattle.layout_journal.specs.declared.entry.Entry.{Entry}
use Rattle.crash_record.specs.Found.{fresh_fit}
use Rattle.engine_recover.proofs.Readings.{still_gives}
use Rattle.engine_recover.proofs.whole.is_whole.Goals as goal

pub returns-then-not-stand-clause-whole : goal.returns-then-not-stand-clause-whole
returns-then-not-stand-clause-whole g c = λ img gives described.
    let pay = c.in_ok-stand.ensures.value img gives in
    (λ t. absurd (true≢false (sym t)), λ w. sym c.if-not-stand.true ∙ pay ∙ (c.whole_records_pass_their_tests.ensures img c.args.header.now c.args.found.now).payloads w)

pub returns-then-number-header-clause-whole : goal.returns-then-number-header-clause-whole
returns-then-number-header-clause-whole g c = λ img gives described.
    let pay = c.in_ok-stand.ensures.value img gives in (
      λ _. (c.whole_records_pass_their_tests.ensures img c.args.header.now c.args.found.now).is_whole described (sym c.entries_fit.ensures ∙ c.if-not-entries_fit.false) (sym pay ∙ c.if-not-stand.false)
          (λ past. absurd (omega (arith, past, c.number.ensures, c.if-number-header.true))),
      λ w. refl,
    )

pub fresh_fit-requires : goal.fresh_fit-requires
fresh_fit-requires g c = λ i e at.
    let lt = c.entries_that_fit_keep_to_the_disk.ensures.fresh c.args.header.now.geom c.args.found.now i e (sym c.entries_fit.ensures ∙ c.if-not-entries_fit.false) (sym (ap (λ (l : List Entry). slice_get l i) c.fresh.ensures) ∙ at) in
    omega (arith, lt.1, c.requires, c.have_payloads.ensures.reads.only.same.blocks)

pub returns-clause-whole : goal.returns-clause-whole
returns-clause-whole g c = λ img gives described.
    let pay = c.in_ok-stand.ensures.value img gives in
    let fresh = c.in_ok-same.ensures.value img (still_gives _ _ _ _ img c.have_payloads.ensures.reads gives) ∙ ap (λ (l : List Entry). fresh_fit img l) c.fresh.ensures in (
      λ t. (c.whole_records_pass_their_tests.ensures img c.args.header.now c.args.found.now).is_whole described (sym c.entries_fit.ensures ∙ c.if-not-entries_fit.false) (sym pay ∙ c.if-not-stand.false) (λ _. sym fresh ∙ t),
      λ w. fresh ∙ (c.whole_records_pass_their_tests.ensures img c.args.header.now c.args.found.now).fresh w (omega (arith, c.number.ensures, c.if-number-header.false)),
    )
