use Rattle.std.proofs.Common.{◌≡◌, ◌+◌, ◌/◌, ◌++◌, ◌≤◌, sym, subst}
use Rattle.std.specs.Prelude.{IsOk, OnOk, IfErr}
use Rattle.base_types.specs.Layouts.{most_runs}
use Rattle.layout_extent.specs.Renew.{makes_way}
use Rattle.layout_extent.specs.Runs.{stretches}
use Rattle.fs_files.specs.Bytes.{blocks_for}
use Rattle.fs_files.specs.Growing.{placed}
use Rattle.fs_files.specs.Shared.{is_kept}
use Rattle.fs_files.proofs.growing.Counted.{way_none}
use Rattle.fs_files.proofs.drafts.Alone.{no_way}
use Rattle.fs_files.proofs.grow.renew.Goals as goal
use Rattle.fs_files.proofs.grow.renew.Goals.{After-append}

behind : (c : After-append) → placed (is_kept c.args.draft.now.kept) c.args.lo c.args.hi c.args.places.now c.args.list.now ≡ c.args.places.now ++ c.args.list.now
behind c =
    let kept = is_kept c.args.draft.now.kept in
    no_way (makes_way (c.args.lo / 1024) (blocks_for c.args.hi) kept c.args.places.now) 0 c.args.places.now c.args.list.now (λ j low. way_none kept (c.args.lo / 1024) (blocks_for c.args.hi) c.args.places.now (0 + j) (c.keeps_none.ensures c.if-keeps_none.true))

pub returns-then-keeps_none-clause-exact : goal.returns-then-keeps_none-clause-exact
returns-then-keeps_none-clause-exact c = subst (λ xs. (IsOk c.append.result → stretches xs ≤ most_runs c.args.layout) × (stretches xs ≤ most_runs c.args.layout → IsOk c.append.result)) (sym (behind c)) c.append.ensures.exact

pub returns-then-keeps_none-clause-ok : goal.returns-then-keeps_none-clause-ok
returns-then-keeps_none-clause-ok c = subst (λ xs. OnOk c.append.result (c.append.new.self ≡ xs)) (sym (behind c)) c.append.ensures.ok

pub returns-then-keeps_none-clause-runs : goal.returns-then-keeps_none-clause-runs
returns-then-keeps_none-clause-runs c = subst (λ xs. IfErr c.append.result (λ scattered. scattered.runs ≡ stretches xs)) (sym (behind c)) c.append.ensures.runs
