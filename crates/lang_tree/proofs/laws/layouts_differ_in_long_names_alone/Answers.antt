use Rattle.lang_tree.proofs.runs.LongNames.{last_long, never_long, refused_long, layouts_alike}
use Rattle.lang_tree.proofs.runs.Outside.{long_alone}
use Rattle.lang_tree.proofs.laws.layouts_differ_in_long_names_alone.Goals as goal

pub returns-clause-last : goal.returns-clause-last
returns-clause-last c = last_long

pub returns-clause-never : goal.returns-clause-never
returns-clause-never c = never_long

pub returns-clause-refused : goal.returns-clause-refused
returns-clause-refused c = refused_long

pub returns-clause-alone : goal.returns-clause-alone
returns-clause-alone c = long_alone

pub returns-clause-alike : goal.returns-clause-alike
returns-clause-alike c = layouts_alike
