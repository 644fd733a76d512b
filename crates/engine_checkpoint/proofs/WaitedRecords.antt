-- Where the tickets of the records up to a number are noticed, and those are settled that may be, that number is durable.
use Rattle.std.proofs.Common.{◌≡◌, ⊎_elim, ℕ, ◌+◌, ◌<◌, ◌≤◌, true, false, List, [], ◌∷◌, length, map, slice_get, Some, refl, sym, ◌∙◌, ap, arith, length-append}
use Rattle.std.proofs.lemmas.Bool.Decides.{nat_tests}
use Rattle.std.proofs.lemmas.Bool.{cases_lt, false≢true}
use Rattle.std.proofs.lemmas.List.{length-map}
use Rattle.base_types.specs.Seal.{Blocks}
use Rattle.disk_contract.specs.declared.event.Event.{Event}
use Rattle.layout_journal.specs.Ring.{RingPlaces}
use Rattle.crash_argument.specs.Ledger.{Ledger}
use Rattle.crash_argument.specs.Points.{MountedSession}
use Rattle.engine_notes.specs.declared.notes.Note.{Note}
use Rattle.engine_notes.specs.Notes.{none_open}
use Rattle.engine_reuse.specs.Dead.{DeadBlocks}
use Rattle.engine_running.specs.declared.commit.Committed.{Committed}
use Rattle.engine_checkpoint.specs.declared.pipeline.Pipeline.{Pipeline}
use Rattle.engine_checkpoint.specs.Advance.{AgreesOn, MayServe, IsSound, StaysRight}
use Rattle.engine_checkpoint.specs.Agree.{durable_count}
use Rattle.engine_checkpoint.specs.Kept.{kept, number_of, placed_number}
use Rattle.engine_checkpoint.specs.Order.{IsInOrder, HasRoom}
use Rattle.engine_checkpoint.specs.Steps.{SettlesSome, is_first_settled}
use Rattle.engine_checkpoint.specs.Waits.{AreWaitedFor}
use Rattle.engine_checkpoint.proofs.Forgotten.{OpensNone, forgotten_opens}
use Rattle.engine_checkpoint.proofs.ForwardRight.{serves_settled}
use Rattle.engine_checkpoint.proofs.ForwardSound.{index_some, goes_settled}
use Rattle.engine_checkpoint.proofs.Lists.{get_drop}
use Rattle.engine_checkpoint.proofs.Numbers.{committed_number}
use Rattle.engine_checkpoint.proofs.StageRows.{kept_length}

-- where no ticket is open that wasn't, of tickets none of which was open none is
still_none : (ts : List ℕ) (old new : List Note) → OpensNone old new → none_open ts old ≡ true → none_open ts new ≡ true
still_none [] old new fewer none = refl
still_none (t ∷ ts) old new fewer none = grind (arith, nat_tests, still_none ts old new fewer)

-- all records are numbered in a row, the last ones behind the durable ones
last_by_count : (w : Pipeline) → IsInOrder w → w.header.start + durable_count w + length w.committed.items ≡ w.last + 1
last_by_count w o = omega (arith, o.last, length-append (map placed_number w.placed.items) (map number_of (kept w)), length-map w.placed.items placed_number, length-map (kept w) number_of, kept_length w)

module _ (count : ℕ) (v w : Pipeline) (s : SettlesSome count v w) where
  pub sound_settled : (ring : RingPlaces) (dead : DeadBlocks) → IsInOrder w → HasRoom w → IsSound v ring dead → IsSound w ring dead
  sound_settled ring dead order room sound = record { order = order; room = room; index = index_some count v w s sound.index; goes_with = goes_settled count v w ring dead s sound.goes_with }

  pub durable_upto : (upto : ℕ) → IsInOrder w → AreWaitedFor upto v → is_first_settled w.committed.items w.notes.notes ≡ false → upto ≤ w.last → upto < w.header.start + durable_count w
  durable_upto upto o waited none le = by w.committed.items refl none
    where
      by : (cs : List Committed) → w.committed.items ≡ cs → is_first_settled cs w.notes.notes ≡ false → upto < w.header.start + durable_count w
      by [] is none = omega (arith, le, last_by_count w o, ap (λ (cs : List Committed). length cs) is)
      by (c ∷ cs) is none = ⊎_elim (λ less. less) (λ more. absurd (false≢true (sym none ∙ still_none c.tickets.items v.notes.notes w.notes.notes (forgotten_opens v.notes.notes w.notes.notes s.forgets) (waited count c there (omega (arith, more, number)))))) (cases_lt upto (w.header.start + durable_count w))
        where
          first : slice_get w.committed.items 0 ≡ Some c
          first = ap (λ (ds : List Committed). slice_get ds 0) is

          number : c.number ≡ w.header.start + durable_count w + 0
          number = committed_number w o 0 c first

          there : slice_get v.committed.items count ≡ Some c
          there = ap (λ n. slice_get v.committed.items n) (at count) ∙ sym (get_drop count v.committed.items 0) ∙ sym (ap (λ (ds : List Committed). slice_get ds 0) s.committed) ∙ first
            where
              at : (n : ℕ) → n ≡ n + 0
              at n = omega arith

  pub right_settled : (m : MountedSession) (base : Blocks) (log : List Event) (l : Ledger) (t floor : ℕ) (ring : RingPlaces) (dead : DeadBlocks) (taken : List ℕ) → AgreesOn m base log l t floor w ring dead.waiting taken → MayServe l v dead → StaysRight m base log l t floor w ring dead taken
  right_settled m base log l t floor ring dead taken a serves = record { now = a.now; turned = a.turned; right = record { safe = a.safe; agrees = a.agrees; serves = serves_settled count v w l a.now dead s a.turned serves } }
