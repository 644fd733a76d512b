-- The settled content of a block, as it is read out of the log by its settled place.
use Rattle.std.proofs.Common.{[], ◌∷◌, ◌≡◌, ℕ, zero, suc, ◌-◌, List, take, Option, Some, None, option_map, refl, sym, ◌∙◌, ap, arith}
use Rattle.std.specs.List.{slice_get}
use Rattle.std.proofs.lemmas.Option.{none-some, same_Some}
use Rattle.base_types.specs.Seal.{Blocks}
use Rattle.disk_contract.specs.declared.event.Event.{Event}
use Rattle.disk_contract.specs.declared.event.Event.TheVariants.{Wrote}
use Rattle.disk_contract.specs.Cell.{Cell, cell_of}
use Rattle.disk_contract.specs.Lawful.{IsLawful, writes_to, IsNewestNoticed, HasNoneNoticed}
use Rattle.disk_memory.specs.Log.{tickets}
use Rattle.disk_memory.specs.Settled.{IsSettledPlace}
use Rattle.disk_memory.specs.declared.logged.Logged.{Logged}
use Rattle.disk_memory.specs.Logged.{event_of}
use Rattle.disk_memory.proofs.settled_places.SettledCells.{cell_at_zero, cell_at_suc}
use Rattle.disk_memory.proofs.log_rows.Events.{get_taken, lawful_taken}

-- which event it is that was looked up
pub looked : (found : Option Logged) (l m : Logged) → found ≡ Some l → l ≡ m → option_map event_of found ≡ Some (event_of m)
looked found l m is one = ap (option_map event_of) (is ∙ ap Some one)

module _ (noticed : (base : Blocks) (log later : List Event) (b t : ℕ) (x : List ℕ) → IsLawful log → IsNewestNoticed log b t x later → cell_of base log b ≡ record { settled = x; pending = writes_to b later })
    (none : (base : Blocks) (log : List Event) (b : ℕ) → IsLawful log → HasNoneNoticed log b → cell_of base log b ≡ record { settled = base b; pending = writes_to b log }) where
  -- with place 0 it is the base's
  pub bytes_zero : (base : Blocks) (log : List Event) (moment b place : ℕ) (x : List ℕ) → IsLawful log → place ≡ 0 → x ≡ base b → IsSettledPlace (take moment log) b place → x ≡ (cell_of base (take moment log) b).settled
  bytes_zero base log moment b zero x h first is s = is ∙ ap (λ (c : Cell). c.settled) (sym (cell_at_zero noticed none base (take moment log) b (lawful_taken log moment h) s))
  bytes_zero base log moment b (suc place) x h first is s = absurd (omega arith)

  -- else the event before the place is a write to the block, and it is the write's
  bytes_before : (base : Blocks) (log : List Event) (moment b place : ℕ) (o : Option Event) → IsLawful log → (place ≡ 0 → ⊥) → o ≡ slice_get log (place - 1) → IsSettledPlace (take moment log) b place
      → (t : ℕ) × (x : List ℕ) × (o ≡ Some (Wrote t b x)) × (x ≡ (cell_of base (take moment log) b).settled)
  bytes_before base log moment b zero o h past read s = absurd (past refl)
  bytes_before base log moment b (suc place) o h past read s =
      let at : slice_get log place ≡ Some (Wrote s.0 b s.1) = get_taken log moment place (Wrote s.0 b s.1) s.2 in
      let one : suc place - 1 ≡ place = omega arith in
      (s.0, s.1, read ∙ ap (slice_get log) one ∙ at, ap (λ (c : Cell). c.settled) (sym (cell_at_suc noticed none base (take moment log) b place s.0 s.1 (lawful_taken log moment h) s s.2)))

  -- so where a write is there, its bytes are the settled content
  pub bytes_wrote : (base : Blocks) (log : List Event) (moment b place : ℕ) (o : Option Event) (u d : ℕ) (x : List ℕ) → IsLawful log → (place ≡ 0 → ⊥) → o ≡ slice_get log (place - 1) → o ≡ Some (Wrote u d x) → IsSettledPlace (take moment log) b place
      → x ≡ (cell_of base (take moment log) b).settled
  bytes_wrote base log moment b place o u d x h past read is s =
      let before = bytes_before base log moment b place o h past read s in
      own before.0 before.1 (same_Some (Wrote u d x) (Wrote before.0 b before.1) (sym is ∙ before.2)) ∙ before.3
    where
      own : (t : ℕ) (z : List ℕ) → Wrote u d x ≡ Wrote t b z → x ≡ z
      own t z one = cc

  -- and no event without a ticket is there
  pub no_other : (base : Blocks) (log : List Event) (moment b place : ℕ) (o : Option Event) (e : Event) → IsLawful log → (place ≡ 0 → ⊥) → o ≡ slice_get log (place - 1) → o ≡ Some e → tickets (e ∷ []) ≡ [] → IsSettledPlace (take moment log) b place → ⊥
  no_other base log moment b place o e h past read is other s =
      let before = bytes_before base log moment b place o h past read s in
      let some : [] ≡ before.0 ∷ [] = sym other ∙ ap (λ (f : Event). tickets (f ∷ [])) (same_Some e (Wrote before.0 b before.1) (sym is ∙ before.2)) in
      cc

  -- nor none
  pub no_end : (base : Blocks) (log : List Event) (moment b place : ℕ) (o : Option Event) → IsLawful log → (place ≡ 0 → ⊥) → o ≡ slice_get log (place - 1) → o ≡ None → IsSettledPlace (take moment log) b place → ⊥
  no_end base log moment b place o h past read is s =
      let before = bytes_before base log moment b place o h past read s in
      none-some (Wrote before.0 b before.1) (sym is ∙ before.2)
