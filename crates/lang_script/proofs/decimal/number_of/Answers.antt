use Rattle.std.proofs.Common.{◌∙◌, sym}
use Rattle.lang_script.proofs.Numbers.{digits_are_text, not_read}
use Rattle.lang_script.proofs.decimal.number_of.Goals as goal

pub returns-in_default : goal.returns-in_default
returns-in_default c =
    absurd (c.in_default.ensures.cases.0 (digits_are_text c.args.text.now (sym c.has_digits_alone.ensures ∙ c.if-not-has_digits_alone.false)))

pub returns-in_default-parse : goal.returns-in_default-parse
returns-in_default-parse c =
    not_read c.args.text.now c.in_default-parse.field-0 (rw c.in-Ok.ensures.cases.0 at c.in_default-parse.ensures.value.0)
    (sym c.has_digits_alone.ensures ∙ c.if-not-has_digits_alone.false)
