use Rattle.lang_making.proofs.Renumbered.{same_keys, same_names, same_things, same_count, same_blocks}
use Rattle.lang_making.proofs.laws.other_numbers_are_no_other_tree.Goals as goal

pub returns-clause-paths : goal.returns-clause-paths
returns-clause-paths c = same_keys

pub returns-clause-names : goal.returns-clause-names
returns-clause-names c = λ t u up d. same_names t.names u.names (same_keys t u d) up

pub returns-clause-things : goal.returns-clause-things
returns-clause-things c = λ most t u p ok d. same_things t u d most ok p

pub returns-clause-nodes : goal.returns-clause-nodes
returns-clause-nodes c = same_count

pub returns-clause-blocks : goal.returns-clause-blocks
returns-clause-blocks c = λ l t u d. same_blocks t u d l
