use Rattle.std.proofs.Common.{arith}
use Rattle.engine_blocks.proofs.Times.{advances_on, disk_on, nothing_on, nothing_advances}
use Rattle.engine_blocks.proofs.laws.calls_compose.Goals as goal

pub returns-clause-advances : goal.returns-clause-advances
returns-clause-advances g c = λ old mid new. advances_on (g.S.Blocks.state old) (g.S.Blocks.state mid) (g.S.Blocks.state new)

pub returns-clause-issues_nothing : goal.returns-clause-issues_nothing
returns-clause-issues_nothing g c = λ old mid new. nothing_on (g.S.Blocks.state old) (g.S.Blocks.state mid) (g.S.Blocks.state new)

pub returns-clause-rests : goal.returns-clause-rests
returns-clause-rests g c = λ tells old new. nothing_advances (g.S.Blocks.state old) (g.S.Blocks.state new) (g.met.S.Blocks.is_told old tells)

pub returns-clause-disk : goal.returns-clause-disk
returns-clause-disk g c = λ old mid new failed. disk_on failed (g.S.Blocks.state old) (g.S.Blocks.state mid) (g.S.Blocks.state new)

pub returns-clause-writes : goal.returns-clause-writes
returns-clause-writes g c = λ old mid new a b first last. omega (arith, first, last)
