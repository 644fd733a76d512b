-- What an order of events is after one event more.
use Rattle.std.specs.Prelude.{ℕ, ◌+◌, ◌-◌, [], ◌∷◌, ◌++◌, length, Option}
use Rattle.disk_mirror.specs.declared.entry.Side.{Side}
use Rattle.disk_mirror.specs.declared.entry.Side.TheVariants.{First, Second}
use Rattle.disk_mirror.specs.declared.entry.Came.{Came}
use Rattle.disk_mirror.specs.declared.entry.Entry.TheVariants.{Accepted, Failed, Reported}
use Rattle.disk_mirror.specs.declared.entry.Written.{Written}
use Rattle.disk_mirror.specs.declared.entry.Written.TheVariants.{Given, Missed, Nothing}
use Rattle.disk_mirror.specs.Order.{OrderState}
use Rattle.disk_mirror.specs.Rows.{with_heard, with_report}
use Rattle.disk_mirror.specs.Twin.{unheard}

-- a write was accepted with these tickets, when the disks had so many events
abbrev pub accepted_in : OrderState → Option ℕ → Option ℕ → Came → OrderState
accepted_in o first second came = record o { events = o.events ++ Accepted (length o.pairs + 1) first second ∷ []; times = o.times ++ came ∷ []; pairs = o.pairs ++ record { first = first; second = second } ∷ []; heard = o.heard ++ unheard ∷ [] }

-- a write was lost, by this disk
abbrev pub failed_in : OrderState → Side → Came → OrderState
failed_in o side came = record o { events = o.events ++ Failed side ∷ []; times = o.times ++ came ∷ []; room = o.room - 1 }

-- the notice of a ticket came from this disk
abbrev pub heard_in : OrderState → Side → ℕ → OrderState
heard_in o side ticket = record o { heard = with_heard side ticket o.heard }

-- a ticket was reported
abbrev pub reported_in_order : OrderState → ℕ → Came → OrderState
reported_in_order o ticket came = record o { events = o.events ++ Reported ticket ∷ []; times = o.times ++ came ∷ []; heard = with_report ticket o.heard }

-- what came of a write on two disks of which none is live then
abbrev pub after_none : OrderState → Written → Written → Came → OrderState
after_none o Missed q came = failed_in o First came
after_none o (Given t) Missed came = failed_in o Second came
after_none o Nothing Missed came = failed_in o Second came
after_none o (Given t) (Given u) came = o
after_none o (Given t) Nothing came = o
after_none o Nothing (Given u) came = o
after_none o Nothing Nothing came = o
