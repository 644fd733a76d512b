use Rattle.lang_tree.proofs.counting.PathCounts.{used, count_inserted, count_removed, one_of_dir}
use Rattle.lang_tree.proofs.soundness.PathLaws.{path_of, count_after_move}
use Rattle.lang_tree.proofs.path_laws.paths_are_counted.Goals as goal

pub returns-clause-there : goal.returns-clause-there
returns-clause-there c = used

pub returns-clause-found : goal.returns-clause-found
returns-clause-found c = path_of

pub returns-clause-put_in : goal.returns-clause-put_in
returns-clause-put_in c = count_inserted

pub returns-clause-taken_out : goal.returns-clause-taken_out
returns-clause-taken_out c = count_removed

pub returns-clause-moved : goal.returns-clause-moved
returns-clause-moved c = count_after_move

pub returns-clause-directory : goal.returns-clause-directory
returns-clause-directory c = λ limit t p n s at dir. one_of_dir limit t s p n at dir
