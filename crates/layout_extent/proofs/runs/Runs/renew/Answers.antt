use Rattle.std.proofs.Common.{◌≡◌, ◌↔◌, ◌≤◌, ◌++◌, min, true≢false, IsOk, OnOk, IfErr, refl, sym, ap, ap₂, subst, ◌∙◌, arith}
use Rattle.base_types.specs.Layouts.{most_runs}
use Rattle.base_types.specs.LayoutLaws.{few_runs}
use Rattle.layout_extent.specs.Renew.{renewed}
use Rattle.layout_extent.specs.Runs.{stretches}
use Rattle.layout_extent.proofs.Renewed.{renewed_nowhere, renewed_within}
use Rattle.layout_extent.proofs.runs.Runs.renew.Goals as goal

pub returns-then-first-last-clause-exact : goal.returns-then-first-last-clause-exact
returns-then-first-last-clause-exact g c =
    let has = g.S.BlockSet.has c.args.set.now in
    let same : renewed c.min-first.result c.min-last.result has c.args.self.now c.args.list.now ≡ renewed c.args.from c.args.past has c.args.self.now c.args.list.now =
    ap₂ (λ a b. renewed a b has c.args.self.now c.args.list.now) (c.min-first.ensures ∙ ap (min c.args.from) c.count-count.ensures.value) (c.min-last.ensures ∙ ap (min c.args.past) c.count-count.ensures.value)
    ∙ renewed_within c.args.from c.args.past has c.args.self.now c.args.list.now in
    let nothing : c.args.self.now ++ c.args.list.now ≡ renewed c.args.from c.args.past has c.args.self.now c.args.list.now =
    sym (renewed_nowhere c.min-first.result has c.args.self.now c.args.list.now) ∙ ap (λ n. renewed c.min-first.result n has c.args.self.now c.args.list.now) c.if-first-last.true ∙ same in
    subst (λ xs. IsOk c.append.result ↔ (stretches xs ≤ most_runs c.args.layout)) nothing c.append.ensures.exact

pub returns-then-first-last-clause-ok : goal.returns-then-first-last-clause-ok
returns-then-first-last-clause-ok g c =
    let has = g.S.BlockSet.has c.args.set.now in
    let same : renewed c.min-first.result c.min-last.result has c.args.self.now c.args.list.now ≡ renewed c.args.from c.args.past has c.args.self.now c.args.list.now =
    ap₂ (λ a b. renewed a b has c.args.self.now c.args.list.now) (c.min-first.ensures ∙ ap (min c.args.from) c.count-count.ensures.value) (c.min-last.ensures ∙ ap (min c.args.past) c.count-count.ensures.value)
    ∙ renewed_within c.args.from c.args.past has c.args.self.now c.args.list.now in
    let nothing : c.args.self.now ++ c.args.list.now ≡ renewed c.args.from c.args.past has c.args.self.now c.args.list.now =
    sym (renewed_nowhere c.min-first.result has c.args.self.now c.args.list.now) ∙ ap (λ n. renewed c.min-first.result n has c.args.self.now c.args.list.now) c.if-first-last.true ∙ same in
    subst (λ xs. OnOk c.append.result (c.append.new.self ≡ xs)) nothing c.append.ensures.ok

pub returns-then-first-last-clause-runs : goal.returns-then-first-last-clause-runs
returns-then-first-last-clause-runs g c =
    let has = g.S.BlockSet.has c.args.set.now in
    let same : renewed c.min-first.result c.min-last.result has c.args.self.now c.args.list.now ≡ renewed c.args.from c.args.past has c.args.self.now c.args.list.now =
    ap₂ (λ a b. renewed a b has c.args.self.now c.args.list.now) (c.min-first.ensures ∙ ap (min c.args.from) c.count-count.ensures.value) (c.min-last.ensures ∙ ap (min c.args.past) c.count-count.ensures.value)
    ∙ renewed_within c.args.from c.args.past has c.args.self.now c.args.list.now in
    let nothing : c.args.self.now ++ c.args.list.now ≡ renewed c.args.from c.args.past has c.args.self.now c.args.list.now =
    sym (renewed_nowhere c.min-first.result has c.args.self.now c.args.list.now) ∙ ap (λ n. renewed c.min-first.result n has c.args.self.now c.args.list.now) c.if-first-last.true ∙ same in
    subst (λ xs. IfErr c.append.result (λ scattered. scattered.runs ≡ stretches xs)) nothing c.append.ensures.runs

pub returns-then-joining-most-clause-exact : goal.returns-then-joining-most-clause-exact
returns-then-joining-most-clause-exact g c =
    let has = g.S.BlockSet.has c.args.set.now in
    let same : renewed c.min-first.result c.min-last.result has c.args.self.now c.args.list.now ≡ renewed c.args.from c.args.past has c.args.self.now c.args.list.now =
    ap₂ (λ a b. renewed a b has c.args.self.now c.args.list.now) (c.min-first.ensures ∙ ap (min c.args.from) c.count-count.ensures.value) (c.min-last.ensures ∙ ap (min c.args.past) c.count-count.ensures.value)
    ∙ renewed_within c.args.from c.args.past has c.args.self.now c.args.list.now in
    let runs : c.joined_anew-joining.result.runs ≡ stretches (renewed c.args.from c.args.past has c.args.self.now c.args.list.now) = c.joined_anew-joining.ensures.runs ∙ ap stretches same in
    (λ e. absurd (true≢false (sym e)), λ few. absurd (omega (arith, few, runs, c.most_runs-most.ensures, c.if-joining-most.true)))

pub returns-then-joining-most-clause-runs : goal.returns-then-joining-most-clause-runs
returns-then-joining-most-clause-runs g c =
    let has = g.S.BlockSet.has c.args.set.now in
    let same : renewed c.min-first.result c.min-last.result has c.args.self.now c.args.list.now ≡ renewed c.args.from c.args.past has c.args.self.now c.args.list.now =
    ap₂ (λ a b. renewed a b has c.args.self.now c.args.list.now) (c.min-first.ensures ∙ ap (min c.args.from) c.count-count.ensures.value) (c.min-last.ensures ∙ ap (min c.args.past) c.count-count.ensures.value)
    ∙ renewed_within c.args.from c.args.past has c.args.self.now c.args.list.now in
    let runs : c.joined_anew-joining.result.runs ≡ stretches (renewed c.args.from c.args.past has c.args.self.now c.args.list.now) = c.joined_anew-joining.ensures.runs ∙ ap stretches same in
    runs

pub returns-clause-exact : goal.returns-clause-exact
returns-clause-exact g c =
    let has = g.S.BlockSet.has c.args.set.now in
    let same : renewed c.min-first.result c.min-last.result has c.args.self.now c.args.list.now ≡ renewed c.args.from c.args.past has c.args.self.now c.args.list.now =
    ap₂ (λ a b. renewed a b has c.args.self.now c.args.list.now) (c.min-first.ensures ∙ ap (min c.args.from) c.count-count.ensures.value) (c.min-last.ensures ∙ ap (min c.args.past) c.count-count.ensures.value)
    ∙ renewed_within c.args.from c.args.past has c.args.self.now c.args.list.now in
    let runs : c.joined_anew-joining.result.runs ≡ stretches (renewed c.args.from c.args.past has c.args.self.now c.args.list.now) = c.joined_anew-joining.ensures.runs ∙ ap stretches same in
    (λ e. omega (arith, runs, c.most_runs-most.ensures, c.if-joining-most.false), λ few. refl)

pub returns-clause-ok : goal.returns-clause-ok
returns-clause-ok g c =
    let has = g.S.BlockSet.has c.args.set.now in
    let same : renewed c.min-first.result c.min-last.result has c.args.self.now c.args.list.now ≡ renewed c.args.from c.args.past has c.args.self.now c.args.list.now =
    ap₂ (λ a b. renewed a b has c.args.self.now c.args.list.now) (c.min-first.ensures ∙ ap (min c.args.from) c.count-count.ensures.value) (c.min-last.ensures ∙ ap (min c.args.past) c.count-count.ensures.value)
    ∙ renewed_within c.args.from c.args.past has c.args.self.now c.args.list.now in
    c.joined_anew-joining.ensures.kept (omega (arith, few_runs c.args.layout, c.most_runs-most.ensures, c.if-joining-most.false)) ∙ same
