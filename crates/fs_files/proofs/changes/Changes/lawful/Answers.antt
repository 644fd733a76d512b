use Rattle.std.proofs.Common.{◌≢◌, ℕ, AllPairs, subst}
use Rattle.fs_files.specs.declared.changes.Changed.{Changed}
use Rattle.fs_files.proofs.finishing.Few.{keys_apart}
use Rattle.fs_files.proofs.changes.Changes.lawful.Goals as goal

pub returns : goal.returns
returns c = record { once = subst (AllPairs (λ (a b : ℕ × Changed). a.0 ≢ b.0)) c.self.view_is (keys_apart c.self.inside.blocks.entries c.len.ensures.ordered) }
