-- How the settled places of all blocks go on with the event at a moment of a lawful log.
use Rattle.std.proofs.Common.{◌≡◌, inl, inr, ℕ, suc, ◌+◌, ◌<◌, ◌≤◌, List, [], ◌∷◌, ◌++◌, length, take, drop, replicate, Some, sym, ◌∙◌, ap, subst, arith}
use Rattle.std.specs.Prelude.{slice_index_or, slice_set}
use Rattle.std.specs.List.{slice_get}
use Rattle.std.proofs.lemmas.Bool.{cases_eq}
use Rattle.std.proofs.lemmas.List.{take_at, get_or-replicate, get_or-set_same, get_or-set_other, length-replicate, length-set}
use Rattle.std.proofs.lemmas.Option.{same_Some}
use Rattle.disk_contract.specs.declared.event.Event.{Event}
use Rattle.disk_contract.specs.declared.event.Event.TheVariants.{Wrote, Lost, Noticed}
use Rattle.disk_contract.specs.Lawful.{IsLawful}
use Rattle.disk_memory.specs.declared.choice.WriteName.TheVariants as names
use Rattle.disk_memory.specs.Settled.{IsSettledPlace, AreSettledPlaces, name_at}
use Rattle.disk_memory.proofs.settled_places.SettledWrites.{accepted_place, once}
use Rattle.disk_memory.proofs.settled_places.SettledSteps.{settled_wrote, settled_lost, settled_other, settled_later, settled_here}
use Rattle.disk_memory.proofs.log_rows.Events.{take_event, get_taken, lawful_behind, lawful_taken}
use Rattle.disk_memory.proofs.crash_images.FateBehind.{behind_at, name_there}

-- at first no write is settled
pub places_start : (n : ℕ) → AreSettledPlaces n [] (replicate n 0)
places_start n = record { size = length-replicate n 0; each = λ b below. subst (IsSettledPlace [] b) (sym (get_or-replicate n b 0 0 below)) (λ u w m. w) }

-- what the settled places become where those of all blocks go on with one more event
places_event : (log : List Event) (k n : ℕ) (e : Event) (old new : List ℕ) → slice_get log k ≡ Some e → length new ≡ n → ((b : ℕ) → b < n → IsSettledPlace (take k log ++ e ∷ []) b (slice_index_or new b 0)) → AreSettledPlaces n (take (k + 1) log) new
places_event log k n e old new at size each = record { size = size; each = λ b below. subst (λ (l : List Event). IsSettledPlace l b (slice_index_or new b 0)) (sym (take_event log k e at)) (each b below) }

-- the first events and the one behind them are lawful
lawful_event : (log : List Event) (k : ℕ) (e : Event) → IsLawful log → slice_get log k ≡ Some e → IsLawful (take k log ++ e ∷ [])
lawful_event log k e h at = subst IsLawful (take_event log k e at) (lawful_taken log (k + 1) h)

-- a write leaves all settled places
pub places_wrote : (log : List Event) (k n t d : ℕ) (x : List ℕ) (old : List ℕ) → IsLawful log → slice_get log k ≡ Some (Wrote t d x) → AreSettledPlaces n (take k log) old → AreSettledPlaces n (take (k + 1) log) old
places_wrote log k n t d x old h at s = places_event log k n (Wrote t d x) old old at s.size (λ b below. settled_wrote (take k log) b (slice_index_or old b 0) t d x (lawful_event log k (Wrote t d x) h at) (s.each b below))

-- and so does a lost one
pub places_lost : (log : List Event) (k n d : ℕ) (x : List ℕ) (old : List ℕ) → slice_get log k ≡ Some (Lost d x) → AreSettledPlaces n (take k log) old → AreSettledPlaces n (take (k + 1) log) old
places_lost log k n d x old at s = places_event log k n (Lost d x) old old at s.size (λ b below. settled_lost (take k log) b (slice_index_or old b 0) d x (s.each b below))

-- the write of a notice's ticket is before the notice
stands_before : (log : List Event) (k t : ℕ) → IsLawful log → slice_get log k ≡ Some (Noticed t) → (b : ℕ) × (p : ℕ) × (x : List ℕ) × (slice_get (take k log) p ≡ Some (Wrote t b x))
stands_before log k t h event =
    let there = accepted_place t (take k log) (lawful_behind [] (take k log) (Noticed t ∷ []) (lawful_event log k (Noticed t) h event)).0.0 in
    (there.0, there.1.place, there.1.bytes, there.1.at)

-- so some place has its name
pub notice_has_place : (log : List Event) (k t : ℕ) → IsLawful log → slice_get log k ≡ Some (Noticed t) → ((p : ℕ) → name_at log p ≡ Some (names.Accepted t) → ⊥) → ⊥
notice_has_place log k t h event none =
    let there = stands_before log k t h event in
    none there.1 (behind_at 0 log there.1 (Wrote t there.0 there.2) (get_taken log k there.1 (Wrote t there.0 there.2) there.3)).1

-- a notice, and the place of the write of its ticket
module _ (log : List Event) (k n t p d : ℕ) (x : List ℕ) (old : List ℕ) (h : IsLawful log) (event : slice_get log k ≡ Some (Noticed t)) (at : slice_get log p ≡ Some (Wrote t d x)) (s : AreSettledPlaces n (take k log) old) where
  -- the write stands among the first events
  before : slice_get (take k log) p ≡ Some (Wrote t d x)
  before =
      let there = stands_before log k t h event in
      let whole = get_taken log k there.1 (Wrote t there.0 there.2) there.3 in
      let same = (once log p there.1 t d there.0 x there.2 h at whole).0 in
      ap (slice_get (take k log)) same ∙ there.3 ∙ sym whole ∙ ap (slice_get log) (sym same) ∙ at

  -- a later write to the block is settled, so all places stay
  pub places_later : p < slice_index_or old d 0 → AreSettledPlaces n (take (k + 1) log) old
  places_later past = places_event log k n (Noticed t) old old event s.size (λ b below. elim (cases_eq b d) [
    | inl same ↦ subst (λ c. IsSettledPlace (take k log ++ Noticed t ∷ []) c (slice_index_or old c 0)) (sym same) (settled_later (take k log) t d p x (lawful_taken log k h) before (slice_index_or old d 0) past (subst (λ c. IsSettledPlace (take k log) c (slice_index_or old c 0)) same (s.each b below)))
    | inr apart ↦ settled_other (take k log) t d p x (lawful_taken log k h) before b (slice_index_or old b 0) apart (s.each b below)
  ])

  -- else the write is settled
  pub places_here : slice_index_or old d 0 ≤ p → AreSettledPlaces n (take (k + 1) log) (slice_set old d (p + 1))
  places_here within = places_event log k n (Noticed t) old (slice_set old d (p + 1)) event (length-set old d (p + 1) ∙ s.size) (λ b below. elim (cases_eq b d) [
    | inl same ↦
        let own : IsSettledPlace (take k log) d (slice_index_or old d 0) = subst (λ c. IsSettledPlace (take k log) c (slice_index_or old c 0)) same (s.each b below) in
        let one : p + 1 ≡ suc p = omega arith in
        let new : slice_index_or (slice_set old d (p + 1)) b 0 ≡ suc p = ap (λ c. slice_index_or (slice_set old d (p + 1)) c 0) same ∙ get_or-set_same old d (p + 1) 0 (omega (arith, s.size)) ∙ one in
        subst (IsSettledPlace (take k log ++ Noticed t ∷ []) b) (sym new) (subst (λ c. IsSettledPlace (take k log ++ Noticed t ∷ []) c (suc p)) (sym same) (settled_here (take k log) t d p x (lawful_taken log k h) before (slice_index_or old d 0) within own))
    | inr apart ↦
        let kept : slice_index_or (slice_set old d (p + 1)) b 0 ≡ slice_index_or old b 0 = get_or-set_other old d b (p + 1) 0 apart in
        subst (IsSettledPlace (take k log ++ Noticed t ∷ []) b) (sym kept) (settled_other (take k log) t d p x (lawful_taken log k h) before b (slice_index_or old b 0) apart (s.each b below))
  ])

-- the event where the name of an accepted write is told is that write
pub read_there : (log : List Event) (p t u b : ℕ) (x : List ℕ) → slice_get log p ≡ Some (Wrote u b x) → name_at log p ≡ Some (names.Accepted t) → slice_get log p ≡ Some (Wrote t b x)
read_there log p t u b x at name =
    let there = name_there 0 log p t name in
    at ∙ ap (λ k. Some (Wrote k b x)) (own there.0 there.1 (same_Some (Wrote u b x) (Wrote t there.0 there.1) (sym at ∙ there.2)))
  where
    own : (d : ℕ) (y : List ℕ) → Wrote u b x ≡ Wrote t d y → u ≡ t
    own d y found = cc

-- it is no other event
pub read_other : (log : List Event) (p t : ℕ) (e : Event) → slice_get log p ≡ Some e → name_at log p ≡ Some (names.Accepted t) → (u : ℕ) × (b : ℕ) × (x : List ℕ) × (e ≡ Wrote u b x)
read_other log p t e at name =
    let there = name_there 0 log p t name in
    (t, there.0, there.1, same_Some e (Wrote t there.0 there.1) (sym at ∙ there.2))

-- the places are settled after one more event, once it has passed
pub places_passed : (log : List Event) (k n len : ℕ) (old lent new : List ℕ) → lent ≡ old → len ≡ length old → length new ≡ length lent
    → (AreSettledPlaces (length lent) (take k log) lent → AreSettledPlaces (length lent) (take (k + 1) log) new)
    → AreSettledPlaces n (take k log) old → AreSettledPlaces n (take (k + 1) log) (take len (new ++ drop (length new) old))
places_passed log k n len old lent new whole long kept passes s =
    let size : length lent ≡ n = ap length whole ∙ s.size in
    let now = passes (subst (λ m. AreSettledPlaces m (take k log) lent) (sym size) (subst (AreSettledPlaces n (take k log)) (sym whole) s)) in
    subst (AreSettledPlaces n (take (k + 1) log)) (sym (take_at new (drop (length new) old) len (kept ∙ ap length whole ∙ sym long))) (subst (λ m. AreSettledPlaces m (take (k + 1) log) new) size now)
