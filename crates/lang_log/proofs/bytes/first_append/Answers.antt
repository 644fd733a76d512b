use Rattle.lang_log.proofs.bytes.first_append.Goals as goal

pub returns-in_err-size-clause-none : goal.returns-in_err-size-clause-none
returns-in_err-size-clause-none c = λ _. c.size_of_first.ensures.none c.in_err-size.was
