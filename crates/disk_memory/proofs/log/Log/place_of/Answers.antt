use Rattle.std.proofs.Common.{◌∙◌, Some, ap, sym, arith}
use Rattle.std.proofs.lemmas.Option.{IfSome_then}
use Rattle.disk_memory.specs.declared.choice.WriteName.{WriteName}
use Rattle.disk_memory.specs.Log.{LogState, accepted_places, lost_places}
use Rattle.disk_memory.proofs.log_rows.RowPlaces.{accepted_read, accepted_within, accepted_nowhere, lost_found, lost_there, lost_nowhere}
use Rattle.disk_memory.proofs.log.Log.place_of.Goals as goal

pub returns-in_err-index-in-Accepted-clause-none : goal.returns-in_err-index-in-Accepted-clause-none
returns-in_err-index-in-Accepted-clause-none c = rw c.from_residual.ensures (λ p e. accepted_nowhere c.args.self.now.events c.in-Accepted.ticket p c.in_err-index-in-Accepted.ensures.none (e ∙ ap (λ (w : WriteName). Some w) c.in-Accepted.is))

pub index-requires : goal.index-requires
index-requires c =
    let within = accepted_within c.args.self.now.events c.self.inside.places.items c.in_ok-index-in-Accepted.index c.in-Accepted.ticket
    (c.self.invariant.places_are ∙ ap (λ (s : LogState). accepted_places 0 s.events) c.self.view_is) c.in_ok-index-in-Accepted.ensures.there in
    omega arith

pub returns-then-number-eq0-clause-none : goal.returns-then-number-eq0-clause-none
returns-then-number-eq0-clause-none c = λ p e.
    let found = lost_found c.args.self.now.events p c.in-Lost.number (e ∙ ap (λ (w : WriteName). Some w) c.in-Lost.is) in
    omega (arith, found.0)

pub returns-in_ok-index-in-Accepted-clause-there : goal.returns-in_ok-index-in-Accepted-clause-there
returns-in_ok-index-in-Accepted-clause-there c =
    accepted_read c.args.self.now.events c.self.inside.places.items c.in_ok-index-in-Accepted.index c.index.result.now c.in-Accepted.ticket
    (c.self.invariant.places_are ∙ ap (λ (s : LogState). accepted_places 0 s.events) c.self.view_is) c.in_ok-index-in-Accepted.ensures.there c.index.ensures
    ∙ ap (λ (w : WriteName). Some w) (sym c.in-Accepted.is)

pub returns-else-number-eq0-clause-there : goal.returns-else-number-eq0-clause-there
returns-else-number-eq0-clause-there c =
    IfSome_then c.numbered.result
    (lost_there c.args.self.now.events _ c.in-Lost.number c.numbered.result
    (c.as_slice.ensures.value ∙ c.self.invariant.lost_are ∙ ap (λ (s : LogState). lost_places 0 s.events) c.self.view_is) (omega arith) c.numbered.ensures)
    (λ p e. e ∙ ap (λ (w : WriteName). Some w) (sym c.in-Lost.is))

pub returns-else-number-eq0-clause-none : goal.returns-else-number-eq0-clause-none
returns-else-number-eq0-clause-none c = rw c.in-Lost.is
    (lost_nowhere c.args.self.now.events _ c.in-Lost.number c.numbered.result
    (c.as_slice.ensures.value ∙ c.self.invariant.lost_are ∙ ap (λ (s : LogState). lost_places 0 s.events) c.self.view_is) (omega arith) c.numbered.ensures)
