use Rattle.std.proofs.Common.{get_or, take, sym, subst}
use Rattle.std.proofs.lemmas.List.{take_more}
use Rattle.fs_files.specs.Zeros.{HaveZeros}
use Rattle.fs_files.proofs.drafts.Listed.{zeros_more}
use Rattle.fs_files.proofs.draft.put_zeros.Goals as goal

pub loop-b-preserved : goal.loop-b-preserved
loop-b-preserved c =
    let i = c.loop-b.b-index in
    let b = get_or c.args.list.now i 0 in
    subst (λ xs. HaveZeros c.args.class xs c.args.changes.now c.put.new.self) (sym (take_more c.args.list.now i 0 c.loop-b-test.true))
    (zeros_more c.args.class (take i c.args.list.now) b c.args.changes.now c.loop-b.changes c.put.new.self c.loop-b.invariant c.in_ok-put.ensures.ok c.in_ok-put.ensures.len)
