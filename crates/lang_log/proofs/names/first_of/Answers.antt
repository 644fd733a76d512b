use Rattle.std.proofs.Common.{◌≡◌, ◌∙◌, sym, ap, arith}
use Rattle.std.proofs.lemmas.Bool.{true≢false}
use Rattle.std.proofs.lemmas.Slice.Eq.{bytes_eq-Decides}
use Rattle.lang_log.specs.Names.{number_in, segment_name}
use Rattle.lang_log.proofs.Digits.{number_of_name}
use Rattle.lang_log.proofs.names.first_of.Goals as goal

pub returns-then-eq-clause-found : goal.returns-then-eq-clause-found
returns-then-eq-clause-found c = sym ((bytes_eq-Decides c.segment_name.result c.args.name.now).0 (sym c.if-eq.ensures)) ∙ c.segment_name.ensures

pub returns-clause-none : goal.returns-clause-none
returns-clause-none c = λ _ first low e.
    let n : c.in_ok-first.first ≡ first = c.in_ok-first.ensures.found ∙ ap (number_in 0) c.as_bytes.ensures.value ∙ ap (number_in 0) e ∙ number_of_name first (omega (arith, low)) in
    let same : c.segment_name.result ≡ c.args.name.now = c.segment_name.ensures ∙ ap segment_name n ∙ sym e in
    true≢false (sym ((bytes_eq-Decides c.segment_name.result c.args.name.now).1 same) ∙ sym c.if-eq.ensures)
