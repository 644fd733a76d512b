use Rattle.lang_making.proofs.Places.{is_made, stands_once}
use Rattle.lang_making.proofs.laws.each_path_is_made_once.Goals as goal

pub returns-clause-made : goal.returns-clause-made
returns-clause-made c = λ limit t p n ok at apart. is_made limit t ok p n at apart

pub returns-clause-once : goal.returns-clause-once
returns-clause-once c = λ limit t p i j ok a b. stands_once limit t ok p i j a b
