use Rattle.base_types.specs.declared.layout.Layout.TheVariants.{Two}
use Rattle.lang_tree.specs.Names.{names_in}
use Rattle.lang_making.proofs.Order.{at_in, directory_in}
use Rattle.lang_making.proofs.Walks.{no_walk_refusal}
use Rattle.lang_making.proofs.laws.a_walk_comes_to_each_path.Goals as goal

pub returns-clause-walk : goal.returns-clause-walk
returns-clause-walk c = λ limit t p n sound at. no_walk_refusal (record { nodes = limit; layout = Two }) t sound p n at

pub returns-clause-names : goal.returns-clause-names
returns-clause-names c = λ names up i name at. directory_in names up name (at_in (names_in names up) i name at)
