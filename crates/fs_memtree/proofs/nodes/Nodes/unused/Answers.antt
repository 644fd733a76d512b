use Rattle.std.proofs.Common.{◌≡◌, ◌∙◌, [], arith}
use Rattle.fs_memtree.proofs.rows.Row.{least_in_set, least_past, least_beyond, no_keys}
use Rattle.fs_memtree.proofs.nodes.Nodes.unused.Goals as goal

pub returns-in-Some : goal.returns-in-Some
returns-in-Some c = c.up_to.ensures
    ∙ least_in_set c.self.inside.unused c.self.inside.row.items c.args.limit c.in-Some.number.now c.args.self.now c.self.view_is c.self.invariant c.in-Some.ensures.member c.in-Some.ensures.least

pub returns-in_err-next_number : goal.returns-in_err-next_number
returns-in_err-next_number c =
    let empty : c.self.inside.unused.keys ≡ [] = no_keys c.self.inside.unused c.first.result c.in_default.is c.first.ensures.variant.1 in
    c.from_residual.ensures ∙ least_beyond c.self.inside.unused c.self.inside.row.items c.as_slice.result.now c.args.limit c.args.self.now c.self.view_is c.as_slice.ensures.value c.self.invariant empty
    (omega (arith, c.ranges.limit.fits, c.in_err-next_number.ensures.none))

pub returns : goal.returns
returns c =
    let empty : c.self.inside.unused.keys ≡ [] = no_keys c.self.inside.unused c.first.result c.in_default.is c.first.ensures.variant.1 in
    c.up_to-2.ensures ∙ least_past c.self.inside.unused c.self.inside.row.items c.as_slice.result.now c.args.limit c.in_ok-next_number.field-0 c.args.self.now c.self.view_is c.as_slice.ensures.value
    c.self.invariant empty c.in_ok-next_number.ensures.some
