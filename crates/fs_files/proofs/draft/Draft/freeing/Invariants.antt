use Rattle.std.proofs.Common.{take}
use Rattle.fs_files.specs.Drafts.{begun_beside, FreesBlocks}
use Rattle.fs_files.proofs.draft.Draft.freeing.Given as goal

abbrev pub invariant-loop-b : goal.invariant-loop-b
invariant-loop-b l = FreesBlocks (take l.b-index l.list) (begun_beside l.shared) l.draft
