use Rattle.std.proofs.Common.{subst}
use Rattle.fs_session.specs.declared.unused.NodeUse.{NodeUse}
use Rattle.fs_session.specs.Sessions.{KeepsUsed}
use Rattle.fs_session.proofs.unused.UnusedNodes.follow.Goals as goal

pub returns-in-Taken : goal.returns-in-Taken
returns-in-Taken c = λ old new uses used. c.take.ensures old new (subst (λ (k : NodeUse). KeepsUsed k old new) c.in-Taken.is uses) used

pub returns-in-Dropped : goal.returns-in-Dropped
returns-in-Dropped c = λ old new uses used. c.drop_node.ensures old new (subst (λ (k : NodeUse). KeepsUsed k old new) c.in-Dropped.is uses) used
