use Rattle.lang_tree.proofs.soundness.SnapshotLaws.{is_made, is_gone, step_stays, looks_so, looks_back}
use Rattle.lang_tree.proofs.snapshot_laws.a_snapshot_keeps_its_tree.Goals as goal

pub returns-clause-made : goal.returns-clause-made
returns-clause-made c = is_made

pub returns-clause-kept : goal.returns-clause-kept
returns-clause-kept c = λ s cmd name k there other. step_stays s name k there cmd other

pub returns-clause-gone : goal.returns-clause-gone
returns-clause-gone c = is_gone

pub returns-clause-looks : goal.returns-clause-looks
returns-clause-looks c = looks_so

pub returns-clause-answers : goal.returns-clause-answers
returns-clause-answers c = looks_back
