use Rattle.engine_blocks.proofs.Growths.{none_begun, put_grows, fresh_grows, take_grows, frees_grow}
use Rattle.engine_blocks.proofs.laws.a_commit_grows_by_each_call.Goals as goal

pub returns-clause-begins : goal.returns-clause-begins
returns-clause-begins c = none_begun

pub returns-clause-put : goal.returns-clause-put
returns-clause-put c = put_grows

pub returns-clause-fresh : goal.returns-clause-fresh
returns-clause-fresh c = fresh_grows

pub returns-clause-take : goal.returns-clause-take
returns-clause-take c = take_grows

pub returns-clause-frees : goal.returns-clause-frees
returns-clause-frees c = frees_grow
