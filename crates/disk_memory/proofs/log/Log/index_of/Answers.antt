use Rattle.std.proofs.Common.{◌∙◌, sym, ap, subst, arith}
use Rattle.std.specs.List.Sorted.{IsNonDecreasing}
use Rattle.disk_memory.specs.Log.{LogState, tickets}
use Rattle.disk_memory.proofs.log_rows.RowTickets.{tickets_in_order}
use Rattle.disk_memory.proofs.log_rows.RowSearch.{place_short, none_accepted}
use Rattle.disk_memory.proofs.log.Log.index_of.Goals as goal

pub place_in-requires : goal.place_in-requires
place_in-requires c = subst IsNonDecreasing (sym (c.as_slice.ensures.value ∙ c.self.invariant.row_is)) (tickets_in_order _ c.self.invariant.lawful)

pub returns-clause-short : goal.returns-clause-short
returns-clause-short c =
    place_short _ c.self.inside.events.events c.self.inside.room c.args.ticket c.place_in.result (c.as_slice.ensures.value ∙ c.self.invariant.row_is)
    (omega (arith, c.self.invariant.few)) c.self.invariant.short c.place_in.ensures.there

pub returns-clause-none : goal.returns-clause-none
returns-clause-none c =
    none_accepted _ c.args.self.now.events c.args.ticket c.place_in.result
    (c.as_slice.ensures.value ∙ c.self.invariant.row_is ∙ ap (λ (s : LogState). tickets s.events) c.self.view_is) c.place_in.ensures.none
