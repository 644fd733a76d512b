use Rattle.std.proofs.Common.{◌≡◌, ◌+◌, cond, length, take, take_all, get_or, slice_get, sym, ap, ◌∙◌, arith}
use Rattle.std.specs.List.{filter, range_with_len}
use Rattle.std.proofs.lemmas.Option.{get_or_from_slice_get}
use Rattle.std.proofs.lemmas.List.{nil_from_length}
use Rattle.std.proofs.lemmas.List.Filters.{length-filter_more}
use Rattle.std.proofs.lemmas.Bool.{eqb-true}
use Rattle.fs_files.specs.Shared.{is_kept, is_kept_at}
use Rattle.fs_files.proofs.growing.Ranges.{kept_range, none_range, rest_range}
use Rattle.fs_files.proofs.node_blocks.NodeBlocks.kept_in.Goals as goal
use Rattle.fs_files.proofs.node_blocks.NodeBlocks.kept_in.Goals.{then-keeps, else-keeps}

pub returns-then-is_empty-clause-kept : goal.returns-then-is_empty-clause-kept
returns-then-is_empty-clause-kept c =
    let empty = nil_from_length c.args.shared.now (eqb-true (length c.args.shared.now) 0 (sym c.is_empty.ensures ∙ c.if-is_empty.true)) in
    sym (none_range c.args.shared.now c.args.self.now c.args.from c.args.count empty)

pub returns-then-is_empty-clause-rest : goal.returns-then-is_empty-clause-rest
returns-then-is_empty-clause-rest c =
    let empty = nil_from_length c.args.shared.now (eqb-true (length c.args.shared.now) 0 (sym c.is_empty.ensures ∙ c.if-is_empty.true)) in
    (rest_range c.args.shared.now c.args.self.now c.args.from c.args.count 0 (sym (none_range c.args.shared.now c.args.self.now c.args.from c.args.count empty))).0

pub loop-i-preserved : goal.loop-i-preserved
loop-i-preserved c =
    let ks = c.args.shared.now in
    let ps = c.part.inside.places in
    let i = c.loop-i.i in
    let here : is_kept ks (get_or ps i 0) ≡ c.keeps.result = ap (is_kept ks) (get_or_from_slice_get ps i c.place.result 0 c.place.ensures.value) ∙ sym c.keeps.ensures in
    let more = length-filter_more (is_kept ks) ps i 0 (omega (arith, c.loop-i-test.true, c.count-i-end.ensures.value)) ∙ ap (λ t. length (filter (is_kept ks) (take i ps)) + cond t 1 0) here in
    elim c.if-keeps.branch [
      | then-keeps w ↦ (omega (arith, w.kept-is, c.loop-i.invariant.0), w.kept-is ∙ ap (λ n. n + 1) c.loop-i.invariant.1 ∙ sym (more ∙ ap (λ t. length (filter (is_kept ks) (take i ps)) + cond t 1 0) w.if-keeps.true))
      | else-keeps w ↦ (omega (arith, w.kept-is, c.loop-i.invariant.0), w.kept-is ∙ c.loop-i.invariant.1 ∙ sym (more ∙ ap (λ t. length (filter (is_kept ks) (take i ps)) + cond t 1 0) w.if-keeps.false ∙ omega arith))
    ]

-- what was counted in the end
counted : (c : goal.After-loop-i) → c.loop-i.kept ≡ length (filter (λ i. is_kept_at c.args.shared.now (slice_get c.args.self.now i)) (range_with_len c.args.from c.args.count))
counted c =
    let ps = c.part.inside.places in
    c.loop-i.invariant.1
    ∙ ap (λ xs. length (filter (is_kept c.args.shared.now) xs)) (take_all c.loop-i.i ps (omega (arith, c.loop-i-test.false, c.count-i-end.ensures.value)) ∙ c.part.view_is ∙ c.part-part.ensures)
    ∙ sym (kept_range c.args.shared.now c.args.self.now c.args.from c.args.count)

pub returns-clause-kept : goal.returns-clause-kept
returns-clause-kept c = counted c

pub returns-clause-rest : goal.returns-clause-rest
returns-clause-rest c = (rest_range c.args.shared.now c.args.self.now c.args.from c.args.count c.loop-i.kept (counted c)).0

pub returns-clause-most : goal.returns-clause-most
returns-clause-most c = (rest_range c.args.shared.now c.args.self.now c.args.from c.args.count c.loop-i.kept (counted c)).1
