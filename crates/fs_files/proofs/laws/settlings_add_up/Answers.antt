use Rattle.fs_files.proofs.calling.WriteLooks.{looked, looks_then, then_looks}
use Rattle.fs_files.proofs.laws.settlings_add_up.Goals as goal

pub returns-clause-looks : goal.returns-clause-looks
returns-clause-looks g c = looked g.S.Blocks.state g.S.Blocks.tells c.calls_compose.ensures.advances c.calls_compose.ensures.rests

pub returns-clause-after : goal.returns-clause-after
returns-clause-after g c = looks_then g.S.Blocks.state g.S.Blocks.tells c.calls_compose.ensures.advances c.calls_compose.ensures.rests

pub returns-clause-before : goal.returns-clause-before
returns-clause-before g c = then_looks g.S.Blocks.state g.S.Blocks.tells c.calls_compose.ensures.advances c.calls_compose.ensures.rests
