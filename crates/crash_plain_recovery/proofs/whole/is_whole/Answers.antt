use Rattle.std.proofs.Common.{◌≡◌, List, slice_get, refl, sym, ◌∙◌, ap, true≢false, arith}
use Rattle.base_types.specs.Seal.{blocks_of}
use Rattle.layout_journal.specs.declared.entry.Entry.{Entry}
use Rattle.crash_record.specs.Found.{fresh_fit}
use Rattle.crash_plain_recovery.proofs.Wholes.{payloads_as}
use Rattle.crash_plain_recovery.proofs.whole.is_whole.Goals as goal

pub returns-then-not-payloads_fit : goal.returns-then-not-payloads_fit
returns-then-not-payloads_fit c =
    let found = c.args.found.now in
    let pay = payloads_as c.args.header.now.geom (blocks_of c.args.image.now) found c.place.result c.heads.result c.payloads.result.now c.payloads_fit.result c.payloads_fit.ensures c.place.ensures c.heads.ensures.value c.payloads.ensures in
    (λ t. absurd (true≢false (sym t)), λ w. sym c.if-not-payloads_fit.true ∙ sym pay ∙ (c.whole_records_pass_their_tests.ensures (blocks_of c.args.image.now) c.args.header.now c.args.found.now).payloads w)

pub returns-then-number-header : goal.returns-then-number-header
returns-then-number-header c =
    let found = c.args.found.now in
    let pay = payloads_as c.args.header.now.geom (blocks_of c.args.image.now) found c.place.result c.heads.result c.payloads.result.now c.payloads_fit.result c.payloads_fit.ensures c.place.ensures c.heads.ensures.value c.payloads.ensures in (
      λ _. (c.whole_records_pass_their_tests.ensures (blocks_of c.args.image.now) c.args.header.now c.args.found.now).is_whole c.requires.described (sym c.entries_fit.ensures ∙ c.if-not-entries_fit.false) (pay ∙ c.if-not-payloads_fit.false)
          (λ past. absurd (omega (arith, past, c.number.ensures, c.if-number-header.true))),
      λ w. refl,
    )

pub fresh_fit-requires : goal.fresh_fit-requires
fresh_fit-requires c = λ i e at.
    let lt = c.entries_that_fit_keep_to_the_disk.ensures.fresh c.args.header.now.geom c.args.found.now i e (sym c.entries_fit.ensures ∙ c.if-not-entries_fit.false) (sym (ap (λ (l : List Entry). slice_get l i) c.fresh.ensures) ∙ at) in
    omega (arith, lt.1, c.requires.size)

pub returns : goal.returns
returns c =
    let found = c.args.found.now in
    let pay = payloads_as c.args.header.now.geom (blocks_of c.args.image.now) found c.place.result c.heads.result c.payloads.result.now c.payloads_fit.result c.payloads_fit.ensures c.place.ensures c.heads.ensures.value c.payloads.ensures in
    let fresh : c.fresh_fit.result ≡ fresh_fit (blocks_of c.args.image.now) found.fresh = c.fresh_fit.ensures ∙ ap (λ (l : List Entry). fresh_fit (blocks_of c.args.image.now) l) c.fresh.ensures in (
      λ t. (c.whole_records_pass_their_tests.ensures (blocks_of c.args.image.now) c.args.header.now c.args.found.now).is_whole c.requires.described (sym c.entries_fit.ensures ∙ c.if-not-entries_fit.false) (pay ∙ c.if-not-payloads_fit.false) (λ _. sym fresh ∙ t),
      λ w. fresh ∙ (c.whole_records_pass_their_tests.ensures (blocks_of c.args.image.now) c.args.header.now c.args.found.now).fresh w (omega (arith, c.number.ensures, c.if-number-header.false)),
    )
