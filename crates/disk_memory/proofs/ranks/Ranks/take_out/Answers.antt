use Rattle.std.proofs.Common.{◌≡◌, length, ap, sym, ◌∙◌, List, ℕ, ◌+◌, ◌-◌, ◌==◌, not, arith}
use Rattle.std.proofs.lemmas.List.{with_items_is}
use Rattle.std.specs.Prelude.{slice_index}
use Rattle.std.specs.List.{filter}
use Rattle.disk_memory.specs.Ranks.{RanksState, without, is_member}
use Rattle.disk_memory.specs.Counts.{marked}
use Rattle.disk_memory.proofs.count_trees.Kept.{member_joined}
use Rattle.disk_memory.proofs.count_trees.Marks.{marked_without, filter_none}
use Rattle.disk_memory.proofs.ranks.Ranks.take_out.Goals as goal

pub overflow_sub-leaf : goal.overflow_sub-leaf
overflow_sub-leaf c =
    let is = ap (is_member c.args.number) c.self.view_is ∙ sym c.has-was.ensures ∙ c.if-was.true in
    (member_joined _ _ _ _ c.args.number c.self.invariant is).0

pub set_leaf-requires-clause-leaf : goal.set_leaf-requires-clause-leaf
set_leaf-requires-clause-leaf c =
    let is = ap (is_member c.args.number) c.self.view_is ∙ sym c.has-was.ensures ∙ c.if-was.true in
    omega (arith, member_joined _ _ _ _ c.args.number c.self.invariant is, c.self.invariant.few, c.self.invariant.room)

pub returns-then-was-clause-state : goal.returns-then-was-clause-state
returns-then-was-clause-state c =
    let r = c.self.inside in
    let leaf = c.args.number - 1 in
    let is = ap (is_member c.args.number) c.self.view_is ∙ sym c.has-was.ensures ∙ c.if-was.true in
    let some : leaf + 1 ≡ c.args.number = omega (arith, member_joined _ _ _ _ c.args.number c.self.invariant is) in
    let new = c.set_leaf.new.counts in
    let old : c.as_mut_slice.result.now ≡ r.counts.items = c.as_mut_slice.ensures.value in
    let long : length new ≡ length r.counts.items = c.set_leaf.ensures.length ∙ ap length old in
    let items = with_items_is r.counts new (omega (arith, long, r.counts.ok)) in
    let state : List ℕ → RanksState = λ members. record { members = members; joined = r.joined; most = r.most } in
    ap (λ xs. state (marked xs r.size r.joined)) items
    ∙ ap state (marked_without r.counts.items new r.size leaf r.joined c.self.invariant.marks (λ n apart. c.set_leaf.ensures.others n apart ∙ ap (λ xs. slice_index xs (r.size + n)) old) c.set_leaf.ensures.leaf)
    ∙ ap (λ (number : ℕ). state (filter (λ member. not (member == number)) (marked r.counts.items r.size r.joined))) some
    ∙ ap (without c.args.number) c.self.view_is

pub returns-else-was-clause-state : goal.returns-else-was-clause-state
returns-else-was-clause-state c =
    let isnt = sym c.has-was.ensures ∙ c.if-was.false in
    ap (λ members. record c.args.self.now { members = members }) (sym (filter_none c.args.number c.args.self.now.members isnt))
