use Rattle.fs_files.proofs.drafts.Alone.{all_alone, none_placed, none_taken}
use Rattle.fs_files.proofs.laws.where_nothing_is_kept.Goals as goal

pub returns-clause-takes : goal.returns-clause-takes
returns-clause-takes c = λ kept lo hi places none. none_taken kept places none lo hi

pub returns-clause-behind : goal.returns-clause-behind
returns-clause-behind c = λ kept lo hi places more none. none_placed kept places none lo hi more

pub returns-clause-all : goal.returns-clause-all
returns-clause-all c = all_alone
