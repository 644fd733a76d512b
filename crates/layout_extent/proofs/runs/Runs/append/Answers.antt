use Rattle.std.proofs.Common.{◌<◌, ◌≤◌, ◌∷◌, [], ◌++◌, length, get_or, take, ap, arith}
use Rattle.base_types.specs.LayoutLaws.{few_runs}
use Rattle.layout_extent.specs.Runs.{stretches}
use Rattle.layout_extent.proofs.Count.{front_room}
use Rattle.layout_extent.proofs.runs.Runs.append.Goals as goal

pub add-requires-clause-room : goal.add-requires-clause-room
add-requires-clause-room c =
    let i = c.loop-number.number-index in
    let more : i < length c.args.list.now = omega (arith, c.loop-number-test.true, c.loop-number.auto.number-index-end) in
    let room : stretches ((c.args.self.now ++ take i c.args.list.now) ++ get_or c.args.list.now i 0 ∷ []) ≤ stretches (c.args.self.now ++ c.args.list.now) =
    front_room c.args.self.now c.args.list.now i more in
    omega (arith, room, ap (λ xs. stretches (xs ++ get_or c.args.list.now i 0 ∷ [])) c.loop-number.invariant, c.joined-runs.ensures, few_runs c.args.layout, c.most_runs-most.ensures, c.if-runs-most.false)
