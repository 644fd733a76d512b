use Rattle.std.proofs.Common.{◌≡◌, ◌∙◌, sym, arith, decimal}
use Rattle.std.proofs.lemmas.Bool.{false≢true}
use Rattle.std.proofs.lemmas.Slice.Eq.{bytes_eq-Decides}
use Rattle.cmd_words.proofs.Texts.{seed_read, no_seed_read, seed_not_read}
use Rattle.cmd_words.proofs.values.seed_of.Goals as goal

pub returns-in_default : goal.returns-in_default
returns-in_default c = seed_not_read c.args.text.now c.in_default.field-0 c.in_default.ensures.value.0

pub returns-then-number-lt-LEAST_SEED : goal.returns-then-number-lt-LEAST_SEED
returns-then-number-lt-LEAST_SEED c = no_seed_read c.args.text.now c.in-Ok.number c.in-Ok.ensures.value.0 (λ text some.
    absurd (omega (arith, some, c.if-number-lt-LEAST_SEED.true)))

pub returns-then-eq : goal.returns-then-eq
returns-then-eq c =
    let text : decimal c.in-Ok.number ≡ c.args.text.now = sym c.format.ensures.text ∙ (bytes_eq-Decides c.format.result.now c.args.text.now).0 (sym c.if-eq.ensures) in
    seed_read c.args.text.now c.in-Ok.number text (omega (arith, c.if-number-lt-LEAST_SEED.false)) (omega (arith, c.in-Ok.ensures.value.0.0.1, c.in-Ok.ensures.value.0.1))

pub returns : goal.returns
returns c = no_seed_read c.args.text.now c.in-Ok.number c.in-Ok.ensures.value.0 (λ text some.
    false≢true (c.if-eq.ensures ∙ (bytes_eq-Decides c.format.result.now c.args.text.now).1 (c.format.ensures.text ∙ text)))
