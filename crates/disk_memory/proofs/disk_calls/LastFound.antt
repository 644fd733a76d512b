-- The places of the blocks of a whole log are found event by event.
use Rattle.std.proofs.Common.{◌≡◌, ℕ, ◌+◌, ◌<◌, List, [], ◌∷◌, ◌++◌, length, get_or, take, slice_set, Some, refl, sym, ap, subst, ◌∙◌, arith}
use Rattle.std.specs.List.{slice_get}
use Rattle.std.proofs.lemmas.List.{length-set, length-take-le}
use Rattle.std.proofs.lemmas.Option.{slice_get_read}
use Rattle.disk_contract.specs.declared.event.Event.{Event}
use Rattle.disk_contract.specs.declared.event.Event.TheVariants.{Wrote, Lost, Noticed}
use Rattle.disk_memory.specs.Log.{AreWithin}
use Rattle.disk_memory.specs.MemDisk.{AreLast}
use Rattle.disk_memory.proofs.disk_calls.LastPlaces.{last_wrote, last_lost, last_noticed}
use Rattle.disk_memory.proofs.log_rows.Events.{take_event, write_within}

-- the places of n blocks after these events, whatever bytes the blocks began with
pub record AreFound (n : ℕ) (log : List Event) (places : List ℕ) : Type 0 where
  pub size : length places ≡ n
  pub each : (base : List (List ℕ)) → length base ≡ n → AreLast base log places

-- what was read at a place of the log is there
read_at : (log : List Event) (p : ℕ) (e : Event) → p < length log → e ≡ get_or log p e → slice_get log p ≡ Some e
read_at log p e low at = slice_get_read log (length log) p e refl low at

-- where it is a write, that is to one of the blocks
pub found_within : (n : ℕ) (log : List Event) (p : ℕ) (e : Event) (t b : ℕ) (x : List ℕ) → AreWithin n log → p < length log → e ≡ get_or log p e → e ≡ Wrote t b x → b < n
found_within n log p e t b x within low at is = write_within n log p t b x within (read_at log p e low at ∙ ap Some is)

-- a write that is accepted is the last one of its block
pub found_wrote : (n : ℕ) (log : List Event) (places : List ℕ) (p : ℕ) (e : Event) (t b : ℕ) (x : List ℕ) → AreWithin n log → p < length log → e ≡ get_or log p e → e ≡ Wrote t b x
    → AreFound n (take p log) places → AreFound n (take (p + 1) log) (slice_set places b (p + 1))
found_wrote n log places p e t b x within low at is found =
    subst (λ events. AreFound n events (slice_set places b (p + 1))) (sym (take_event log p e (read_at log p e low at) ∙ ap (λ (d : Event). take p log ++ d ∷ []) is)) (record {
      size = omega (arith, length-set places b (p + 1), found.size);
      each = λ base long. subst (λ k. AreLast base (take p log ++ Wrote t b x ∷ []) (slice_set places b (k + 1))) (length-take-le p log (omega arith))
          (last_wrote base (take p log) places t b x (omega (arith, found_within n log p e t b x within low at is)) (found.each base long));
    })

-- the places stay with one event more that isn't an accepted write
behind : (n : ℕ) (log : List Event) (places : List ℕ) (e : Event) → ((t b : ℕ) (x : List ℕ) → e ≡ Wrote t b x → ⊥) → AreFound n log places → AreFound n (log ++ e ∷ []) places
behind n log places (Wrote t b x) other found = absurd (other t b x refl)
behind n log places (Lost b x) other found = record { size = found.size; each = λ base long. last_lost base log places b x (found.each base long) }
behind n log places (Noticed t) other found = record { size = found.size; each = λ base long. last_noticed base log places t (found.each base long) }

-- after any other event of the log the places stay
pub found_other : (n : ℕ) (log : List Event) (places : List ℕ) (p : ℕ) (e : Event) → p < length log → e ≡ get_or log p e → ((t b : ℕ) (x : List ℕ) → e ≡ Wrote t b x → ⊥)
    → AreFound n (take p log) places → AreFound n (take (p + 1) log) places
found_other n log places p e low at other found = subst (λ events. AreFound n events places) (sym (take_event log p e (read_at log p e low at))) (behind n (take p log) places e other found)
