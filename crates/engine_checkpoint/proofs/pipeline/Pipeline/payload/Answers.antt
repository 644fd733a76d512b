-- The index says which record and which of its payloads.
use Rattle.std.proofs.Common.{◌-◌, ◌+◌, Some, arith, sym, ◌∙◌, ap}
use Rattle.engine_checkpoint.proofs.Payloads.{nothing_found, spot_found, found_below, found_bytes}
use Rattle.engine_checkpoint.proofs.pipeline.Pipeline.payload.Goals as goal

pub returns-in_err-spot-clause-none : goal.returns-in_err-spot-clause-none
returns-in_err-spot-clause-none c = λ none. nothing_found c.args.self.now c.args.block c.requires.index (sym c.in_err-spot.ensures)

pub overflow_sub-spot : goal.overflow_sub-spot
overflow_sub-spot c =
    let found = spot_found c.args.self.now c.args.block c.in_ok-spot.spot c.requires.order c.requires.index (sym c.in_ok-spot.ensures) in
    omega (arith, found.number, c.len.ensures, c.args.self.now.placed.ok)

pub payloads_at-payloads-requires : goal.payloads_at-payloads-requires
payloads_at-payloads-requires c =
    let found = spot_found c.args.self.now c.args.block c.in_ok-spot.spot c.requires.order c.requires.index (sym c.in_ok-spot.ensures) in
    omega (arith, found.number, found.below, c.len.ensures, c.args.self.now.placed.ok)

pub bounds-payloads-spot : goal.bounds-payloads-spot
bounds-payloads-spot c =
    let found = spot_found c.args.self.now c.args.block c.in_ok-spot.spot c.requires.order c.requires.index (sym c.in_ok-spot.ensures) in
    found_below c.args.self.now c.args.block c.in_ok-spot.spot c.payloads_at-payloads.result.now (c.in_ok-spot.spot.number - (c.args.self.now.header.start + c.len.result)) found (omega (arith, found.number, c.len.ensures, c.args.self.now.placed.ok)) c.payloads_at-payloads.ensures

pub returns-clause-some : goal.returns-clause-some
returns-clause-some c =
    let found = spot_found c.args.self.now c.args.block c.in_ok-spot.spot c.requires.order c.requires.index (sym c.in_ok-spot.ensures) in
    found_bytes c.args.self.now c.args.block c.in_ok-spot.spot c.payloads_at-payloads.result.now (c.in_ok-spot.spot.number - (c.args.self.now.header.start + c.len.result)) c.index-payloads-spot.result found (omega (arith, found.number, c.len.ensures, c.args.self.now.placed.ok)) c.payloads_at-payloads.ensures ∙ ap Some (sym c.bytes.ensures.bytes)
