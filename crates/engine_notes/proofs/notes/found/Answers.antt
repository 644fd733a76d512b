-- The ticket is where the search says, or nowhere.
use Rattle.std.proofs.Common.{sym, ◌∙◌, arith}
use Rattle.std.proofs.lemmas.Bool.Decides.{nat_tests}
use Rattle.std.proofs.lemmas.Bool.{false≢true}
use Rattle.engine_notes.proofs.Rising.{front_lacks, lacks}
use Rattle.engine_notes.proofs.notes.found.Goals as goal

pub returns-then-is_at-clause-there : goal.returns-then-is_at-clause-there
returns-then-is_at-clause-there c = grind (arith, nat_tests, front_lacks)

pub returns-clause-none : goal.returns-clause-none
returns-clause-none c = λ e. lacks c.args.ticket c.args.notes.now.items c.place_of-at.result c.requires c.place_of-at.ensures.below c.place_of-at.ensures.above (λ n is same. false≢true (sym c.if-is_at.false ∙ c.is_at.ensures.other n is same))
