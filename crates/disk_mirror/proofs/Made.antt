-- How many writes a mirror was asked for, by its log, and how many more it has room for.
use Rattle.std.proofs.Common.{◌≡◌, ℕ, ◌+◌, ◌<◌, ◌≤◌, List, [], ◌∷◌, ◌++◌, length, Option, refl, ◌∙◌, ap, arith, length-append}
use Rattle.std.proofs.lemmas.Bool.{lt-ltb}
use Rattle.disk_contract.specs.declared.event.Event.{Event}
use Rattle.disk_contract.specs.declared.event.Event.TheVariants.{Wrote, Lost, Noticed}
use Rattle.disk_contract.specs.Disk.{writes_in}
use Rattle.disk_contract.specs.Manner.{MayAllComeBy}
use Rattle.disk_contract.specs.Logs.{writes_in-append as writes-append}
use Rattle.disk_mirror.specs.declared.entry.Came.{Came}
use Rattle.disk_mirror.specs.declared.entry.Entry.{Entry}
use Rattle.disk_mirror.specs.declared.entry.Entry.TheVariants.{Accepted, Failed, Reported}
use Rattle.disk_mirror.specs.declared.entry.Side.{Side}
use Rattle.disk_mirror.specs.declared.entry.Side.TheVariants.{First, Second}
use Rattle.disk_mirror.specs.declared.entry.Written.{Written}
use Rattle.disk_mirror.specs.declared.entry.Written.TheVariants.{Given, Missed, Nothing}
use Rattle.disk_mirror.specs.Mirror.{KeepsRoom, mirror_manner}
use Rattle.disk_mirror.specs.Order.{OrderState, log_of, writes_made}
use Rattle.disk_mirror.specs.Turns.{accepted_in, after_none, failed_in, reported_in_order}

-- the order and the log have as many writes
pub made_log : (a b : List Event) (es : List Entry) → writes_in (log_of a b es) ≡ writes_made es
made_log a b [] = refl
made_log a b (Accepted t first second ∷ es) = ap (λ n. 1 + n) (made_log a b es)
made_log a b (Failed side ∷ es) = ap (λ n. 1 + n) (made_log a b es)
made_log a b (Reported t ∷ es) = made_log a b es

made-append : (xs ys : List Entry) → writes_made (xs ++ ys) ≡ writes_made xs + writes_made ys
made-append [] ys = omega (arith)
made-append (Accepted t first second ∷ xs) ys = omega (arith, made-append xs ys)
made-append (Failed side ∷ xs) ys = omega (arith, made-append xs ys)
made-append (Reported t ∷ xs) ys = made-append xs ys

-- none were made of a new mirror
pub keeps_new : (room : ℕ) → KeepsRoom room (record { events = []; times = []; pairs = []; heard = []; room = room })
keeps_new room = omega (arith)

-- a write takes one place of the room, and a notice none
pub keeps_accept : (most : ℕ) (o : OrderState) (first second : Option ℕ) (came : Came) → KeepsRoom most o → KeepsRoom most (accepted_in o first second came)
keeps_accept most o first second came keeps = omega (arith, keeps, made-append o.events (Accepted (length o.pairs + 1) first second ∷ []), length-append o.pairs (record { first = first; second = second } ∷ []))

keeps_fail : (most : ℕ) (o : OrderState) (side : Side) (came : Came) → length o.pairs < o.room → KeepsRoom most o → KeepsRoom most (failed_in o side came)
keeps_fail most o side came more keeps = omega (arith, keeps, more, made-append o.events (Failed side ∷ []))

pub keeps_none : (most : ℕ) (o : OrderState) (p q : Written) (came : Came) → length o.pairs < o.room → KeepsRoom most o → KeepsRoom most (after_none o p q came)
keeps_none most o Missed q came more keeps = keeps_fail most o First came more keeps
keeps_none most o (Given t) Missed came more keeps = keeps_fail most o Second came more keeps
keeps_none most o Nothing Missed came more keeps = keeps_fail most o Second came more keeps
keeps_none most o (Given t) (Given u) came more keeps = keeps
keeps_none most o (Given t) Nothing came more keeps = keeps
keeps_none most o Nothing (Given u) came more keeps = keeps
keeps_none most o Nothing Nothing came more keeps = keeps

pub keeps_report : (most : ℕ) (o : OrderState) (ticket : ℕ) (came : Came) → KeepsRoom most o → KeepsRoom most (reported_in_order o ticket came)
keeps_report most o ticket came keeps = omega (arith, keeps, made-append o.events (Reported ticket ∷ []))

-- the mirror's manner lets so many writes come
pub goes_within : (most : ℕ) (before es : List Event) → writes_in before + writes_in es ≤ most → MayAllComeBy (mirror_manner most) before es
goes_within most before [] few = tt
goes_within most before (Wrote t b x ∷ es) few = (lt-ltb _ _ (omega (arith, few)), goes_within most (before ++ Wrote t b x ∷ []) es (omega (arith, few, writes-append before (Wrote t b x ∷ []))))
goes_within most before (Lost b x ∷ es) few = (lt-ltb _ _ (omega (arith, few)), goes_within most (before ++ Lost b x ∷ []) es (omega (arith, few, writes-append before (Lost b x ∷ []))))
goes_within most before (Noticed t ∷ es) few = (tt, goes_within most (before ++ Noticed t ∷ []) es (omega (arith, few, writes-append before (Noticed t ∷ []))))
