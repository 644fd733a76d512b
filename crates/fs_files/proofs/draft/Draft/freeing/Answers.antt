use Rattle.std.proofs.Common.{[], ◌∷◌, get_or, take, sym, subst}
use Rattle.std.proofs.lemmas.List.{take_more}
use Rattle.fs_files.specs.Drafts.{begun_beside, FreesBlocks}
use Rattle.fs_files.proofs.drafts.Listed.{frees_on}
use Rattle.fs_files.proofs.draft.Draft.freeing.Goals as goal

pub loop-b-preserved : goal.loop-b-preserved
loop-b-preserved c =
    let i = c.loop-b.b-index in
    let b = get_or c.args.list.now i 0 in
    subst (λ xs. FreesBlocks xs (begun_beside c.args.shared.now) c.free.new.self) (sym (take_more c.args.list.now i 0 c.loop-b-test.true))
    (frees_on (take i c.args.list.now) (b ∷ []) (begun_beside c.args.shared.now) c.loop-b.draft c.free.new.self c.loop-b.invariant c.in_ok-free.ensures)
