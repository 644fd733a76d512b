-- What is always so of a disk in memory stays so with one event more.
use Rattle.std.proofs.Common.{◌≡◌, ℕ, ◌+◌, ◌-◌, ◌<◌, List, [], ◌∷◌, ◌++◌, length, slice_set, sym, subst, arith}
use Rattle.disk_contract.specs.declared.event.Event.TheVariants.{Wrote, Lost, Noticed}
use Rattle.disk_memory.specs.Log.{LogState}
use Rattle.disk_memory.specs.MemDisk.{AreLast, IsDisk}
use Rattle.disk_memory.proofs.disk_calls.LastPlaces.{last_wrote, last_lost, last_noticed}
use Rattle.disk_memory.proofs.log_rows.Events.{write_count-append, within-append}

-- after a write that is accepted
pub disk_wrote : (base : List (List ℕ)) (old : LogState) (last : List ℕ) (t b place : ℕ) (x : List ℕ) → b < length base → 0 < old.ready → place ≡ length old.events + 1 → IsDisk base old last
    → IsDisk base (record old { events = old.events ++ Wrote t b x ∷ []; ready = old.ready - 1 }) (slice_set last b place)
disk_wrote base old last t b place x low some at is = record {
  places = subst (λ p. AreLast base (old.events ++ Wrote t b x ∷ []) (slice_set last b p)) (sym at) (last_wrote base old.events last t b x low is.places);
  within = within-append (length base) old.events (Wrote t b x ∷ []) is.within (low, tt);
  ready = omega (arith, write_count-append old.events (Wrote t b x ∷ []), is.ready);
}

-- after a write that is lost
pub disk_lost : (base : List (List ℕ)) (old : LogState) (last : List ℕ) (b : ℕ) (x : List ℕ) → b < length base → 0 < old.ready → IsDisk base old last
    → IsDisk base (record old { events = old.events ++ Lost b x ∷ []; ready = old.ready - 1 }) last
disk_lost base old last b x low some is = record {
  places = last_lost base old.events last b x is.places;
  within = within-append (length base) old.events (Lost b x ∷ []) is.within (low, tt);
  ready = omega (arith, write_count-append old.events (Lost b x ∷ []), is.ready);
}

-- after a notice
pub disk_noticed : (base : List (List ℕ)) (old : LogState) (last : List ℕ) (t : ℕ) → IsDisk base old last → IsDisk base (record old { events = old.events ++ Noticed t ∷ [] }) last
disk_noticed base old last t is = record {
  places = last_noticed base old.events last t is.places;
  within = within-append (length base) old.events (Noticed t ∷ []) is.within tt;
  ready = omega (arith, write_count-append old.events (Noticed t ∷ []), is.ready);
}
