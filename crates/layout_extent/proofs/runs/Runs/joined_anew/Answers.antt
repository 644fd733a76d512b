use Rattle.std.proofs.Common.{◌≡◌, ◌-◌, ◌++◌, length, take, drop, ap, subst, ◌∙◌, arith}
use Rattle.std.proofs.lemmas.List.{length-drop, take_all}
use Rattle.base_types.specs.Runs.{run_places}
use Rattle.layout_extent.specs.Renew.{IsJoined}
use Rattle.layout_extent.specs.TidyLaws.{places_of_runs}
use Rattle.layout_extent.proofs.Renewed.{renewed_parts}
use Rattle.layout_extent.proofs.runs.Runs.joined_anew.Goals as goal

pub returns : goal.returns
returns g c =
    let old = c.args.self.now in
    let list = c.args.list.now in
    let used = c.push_renewed-used.result in
    let has = g.S.BlockSet.has c.args.set.now in
    let start : IsJoined c.of-joining.result (take c.args.from old) = subst (IsJoined c.of-joining.result) c.front.ensures c.of-joining.ensures.holds in
    let part = c.push_renewed-used.ensures.holds (take c.args.from old) start in
    let places : run_places c.as_slice.result.now ≡ old = ap run_places (c.as_slice.ensures.value ∙ c.list.ensures.value) ∙ places_of_runs old in
    let behind = c.push_behind.ensures.holds part.0 part.1 in
    let rest : take (length list - used) (drop used list) ≡ drop used list = take_all (length list - used) (drop used list) (omega (arith, length-drop used list)) in
    let all = c.push_numbers.ensures (part.0 ++ drop c.args.past (run_places c.as_slice.result.now)) behind in
    subst (IsJoined c.push_numbers.new.self)
    (ap (λ ys. (part.0 ++ drop c.args.past ys) ++ take (length list - used) (drop used list)) places
    ∙ ap (λ ys. (part.0 ++ drop c.args.past old) ++ ys) rest
    ∙ renewed_parts c.args.from c.args.past has old list part.0 (drop used list) c.requires.ordered c.requires.within part.2)
    all
