-- What each state of a transaction keeps of the one before.
use Rattle.std.specs.Prelude.{◌≡◌, ℕ, ◌+◌, ◌&&◌, not, List, length}
use Rattle.engine_notes.specs.Notes.{Expected, is_expected, is_noticed, is_among}
use Rattle.engine_running.specs.declared.commit.Committed.{Committed}
use Rattle.engine_running.specs.declared.states.Durable.{Durable}
use Rattle.engine_running.specs.declared.states.Sure.{Sure}
use Rattle.engine_running.specs.declared.states.Placed.{Placed}
use Rattle.engine_running.specs.declared.states.Released.{Released}

pub record IsDurableOf (c : Committed) (d : Durable) : Type 0 where
  pub number : d.number ≡ c.number
  pub place : d.place ≡ c.place
  pub count : d.count ≡ c.count
  pub payloads : d.payloads ≡ c.payloads
  pub fresh : d.fresh ≡ c.fresh
  pub freed : d.freed ≡ c.freed

-- these tickets have left the notes, with their marks; each note that was dropped gave its room back
pub record Forgets (tickets : List ℕ) (old new : Expected) : Type 0 where
  pub expected : (u : ℕ) → is_expected u new.notes ≡ (not (is_among u tickets) && is_expected u old.notes)
  pub noticed : (u : ℕ) → is_noticed u new.notes ≡ (not (is_among u tickets) && is_noticed u old.notes)
  pub room : length new.notes + new.room ≡ length old.notes + old.room

pub record IsSureOf (d : Durable) (s : Sure) : Type 0 where
  pub number : s.number ≡ d.number
  pub place : s.place ≡ d.place
  pub count : s.count ≡ d.count
  pub payloads : s.payloads ≡ d.payloads
  pub fresh : s.fresh ≡ d.fresh
  pub freed : s.freed ≡ d.freed

pub record IsPlacedOf (s : Sure) (p : Placed) : Type 0 where
  pub number : p.number ≡ s.number
  pub place : p.place ≡ s.place
  pub count : p.count ≡ s.count

pub record IsReleasedOf (p : Placed) (r : Released) : Type 0 where
  pub place : r.place ≡ p.place
  pub count : r.count ≡ p.count
