-- How the settled place of a block goes on with each event of a lawful log, and that each block has one.
use Rattle.std.proofs.Common.{◌≡◌, ◌⊎◌, inl, inr, ⊎_elim, ℕ, zero, suc, ◌<◌, ◌≤◌, List, [], ◌∷◌, ◌++◌, take, Some, sym, subst, arith, append-nil, append_assoc}
use Rattle.std.specs.List.{slice_get}
use Rattle.std.proofs.lemmas.Bool.{eqb-true, or_cases, false≢true, cases_eq, cases_lt}
use Rattle.disk_contract.specs.declared.event.Event.{Event}
use Rattle.disk_contract.specs.declared.event.Event.TheVariants.{Wrote, Lost, Noticed}
use Rattle.disk_contract.specs.Cell.{greatest_ticket, IsNoticed}
use Rattle.disk_contract.specs.Lawful.{AreLawfulAfter, IsLawful, IsWriteOf}
use Rattle.disk_memory.specs.Settled.{IsSettledPlace}
use Rattle.disk_memory.proofs.settled_places.SettledWrites.{write_parts, write_place, accepted_place, once, ascend, no_smaller}
use Rattle.disk_memory.proofs.log_rows.Events.{get_before, split_at, lawful_front, lawful_behind, noticed_before, noticed_last, noticed_parts, noticed_low, lawful_onto}

-- a write that was noticed has the settled place, where no noticed one to its block has a greater ticket
settled_at : (log : List Event) (b place t : ℕ) (x : List ℕ) → slice_get log place ≡ Some (Wrote t b x) → IsNoticed t log → ((u : ℕ) → IsWriteOf u b log → IsNoticed u log → u ≤ t) → IsSettledPlace log b (suc place)
settled_at log b place t x at noticed greatest = (t, x, at, record { before = take place log; split = split_at log place (Wrote t b x) at; noticed = noticed; greatest = greatest })

-- an event behind which each noticed write to the block was one before leaves the settled place
settled_stays : (log : List Event) (e : Event) (b place : ℕ) → ((u : ℕ) → IsWriteOf u b (log ++ e ∷ []) → IsNoticed u (log ++ e ∷ []) → IsWriteOf u b log × IsNoticed u log) → IsSettledPlace log b place → IsSettledPlace (log ++ e ∷ []) b place
settled_stays log e b zero old none = λ u w n. let o = old u w n in none u o.0 o.1
settled_stays log e b (suc place) old s = settled_at (log ++ e ∷ []) b place s.0 s.1 (get_before log (e ∷ []) place _ s.2) (noticed_before s.0 log (e ∷ []) s.3.noticed) (λ u w n. let o = old u w n in s.3.greatest u o.0 o.1)

-- so does one that brings no notice, and no write that is noticed
settled_quiet : (log : List Event) (e : Event) (b place : ℕ) → ((u : ℕ) → ¬ IsNoticed u (e ∷ [])) → ((u : ℕ) → IsWriteOf u b (e ∷ []) → ¬ IsNoticed u log) → IsSettledPlace log b place → IsSettledPlace (log ++ e ∷ []) b place
settled_quiet log e b place quiet fresh = settled_stays log e b place (λ u w n. ⊎_elim
    (λ before. ⊎_elim (λ was. (was, before)) (λ now. absurd (fresh u now before)) (write_parts u b log (e ∷ []) w)) (λ now. absurd (quiet u now)) (noticed_parts u log (e ∷ []) n))

-- a write leaves the settled place of each block
pub settled_wrote : (log : List Event) (b place t d : ℕ) (x : List ℕ) → IsLawful (log ++ Wrote t d x ∷ []) → IsSettledPlace log b place → IsSettledPlace (log ++ Wrote t d x ∷ []) b place
settled_wrote log b place t d x h s = settled_quiet log (Wrote t d x) b place (λ u n. false≢true n)
    (λ u w n. ⊎_elim (λ is. omega (arith, is.0, (noticed_low log u (lawful_front [] log (Wrote t d x ∷ []) h) n), (lawful_behind [] log (Wrote t d x ∷ []) h).0)) (λ none. none) w) s

-- and so does a lost one
pub settled_lost : (log : List Event) (b place d : ℕ) (x : List ℕ) → IsSettledPlace log b place → IsSettledPlace (log ++ Lost d x ∷ []) b place
settled_lost log b place d x s = settled_quiet log (Lost d x) b place (λ u n. false≢true n) (λ u w n. w) s

-- a notice, of the write of this ticket, which is at place q
module _ (log : List Event) (n d q : ℕ) (y : List ℕ) (h : IsLawful log) (at : slice_get log q ≡ Some (Wrote n d y)) where
  -- a ticket that is noticed now was so before, or is the notice's
  noticed_now : (u : ℕ) → IsNoticed u (log ++ Noticed n ∷ []) → IsNoticed u log ⊎ (u ≡ n)
  noticed_now u told = ⊎_elim inl (λ now. inr (own now)) (noticed_parts u log (Noticed n ∷ []) told)
    where
      own : IsNoticed u (Noticed n ∷ []) → u ≡ n
      own now = ⊎_elim (λ is. sym (eqb-true n u is)) (λ none. absurd (false≢true none)) (or_cases _ _ now)

  -- a notice is no write
  write_old : (u b : ℕ) → IsWriteOf u b (log ++ Noticed n ∷ []) → IsWriteOf u b log
  write_old u b w = ⊎_elim (λ before. before) (λ none. absurd none) (write_parts u b log (Noticed n ∷ []) w)

  -- the ticket is that of a write to its block alone
  block_is : (u b : ℕ) → u ≡ n → IsWriteOf u b log → b ≡ d
  block_is u b own w =
      let stands = write_place n b log (subst (λ k. IsWriteOf k b log) own w) in
      (once log stands.place q n b d stands.bytes y h stands.at at).1

  -- the settled place of another block stays
  pub settled_other : (b place : ℕ) → (b ≡ d → ⊥) → IsSettledPlace log b place → IsSettledPlace (log ++ Noticed n ∷ []) b place
  settled_other b place apart = settled_stays log (Noticed n) b place (λ u w told. ⊎_elim (λ before. (write_old u b w, before)) (λ own. absurd (apart (block_is u b own (write_old u b w)))) (noticed_now u told))

  -- and so does that of the write's block, where it is past the write
  pub settled_later : (place : ℕ) → q < place → IsSettledPlace log d place → IsSettledPlace (log ++ Noticed n ∷ []) d place
  settled_later zero past s = absurd (omega arith)
  settled_later (suc place) past s =
      settled_at (log ++ Noticed n ∷ []) d place s.0 s.1 (get_before log (Noticed n ∷ []) place _ s.2) (noticed_before s.0 log (Noticed n ∷ []) s.3.noticed)
      (λ u w told. ⊎_elim (λ before. s.3.greatest u (write_old u d w) before) (λ own. omega (arith, no_smaller log q place n s.0 d d y s.1 h at s.2 (omega arith))) (noticed_now u told))

  -- else it becomes the write's
  pub settled_here : (place : ℕ) → place ≤ q → IsSettledPlace log d place → IsSettledPlace (log ++ Noticed n ∷ []) d (suc q)
  settled_here zero within none =
      settled_at (log ++ Noticed n ∷ []) d q n y (get_before log (Noticed n ∷ []) q _ at) (noticed_last n log)
      (λ u w told. ⊎_elim (λ before. absurd (none u (write_old u d w) before)) (λ (own : u ≡ n). omega arith) (noticed_now u told))
  settled_here (suc place) within s =
      settled_at (log ++ Noticed n ∷ []) d q n y (get_before log (Noticed n ∷ []) q _ at) (noticed_last n log)
      (λ u w told. ⊎_elim (λ before. omega (arith, (s.3.greatest u (write_old u d w) before), ascend [] log place q s.0 n d d s.1 y h s.2 at (omega arith))) (λ (own : u ≡ n). omega arith) (noticed_now u told))

-- a settled place goes on with one more event
settled_event : (log : List Event) (e : Event) (b place : ℕ) → IsLawful (log ++ e ∷ []) → IsSettledPlace log b place → (next : ℕ) × IsSettledPlace (log ++ e ∷ []) b next
settled_event log (Wrote t d x) b place h s = (place, settled_wrote log b place t d x h s)
settled_event log (Lost d x) b place h s = (place, settled_lost log b place d x s)
settled_event log (Noticed n) b place h s =
    let front = lawful_front [] log (Noticed n ∷ []) h in
    let stands = accepted_place n log (lawful_behind [] log (Noticed n ∷ []) h).0.0 in
    elim (cases_eq b stands.0) [
      | inl same ↦
          let here = subst (λ k. IsSettledPlace log k place) same s in
          elim (cases_lt stands.1.place place) [
            | inl past ↦ (place, subst (λ k. IsSettledPlace (log ++ Noticed n ∷ []) k place) (sym same) (settled_later log n stands.0 stands.1.place stands.1.bytes front stands.1.at place past here))
            | inr within ↦ (suc stands.1.place, subst (λ k. IsSettledPlace (log ++ Noticed n ∷ []) k (suc stands.1.place)) (sym same) (settled_here log n stands.0 stands.1.place stands.1.bytes front stands.1.at place within here))
          ]
      | inr apart ↦ (place, settled_other log n stands.0 stands.1.place stands.1.bytes front stands.1.at b place apart s)
    ]

-- and so with more events, one after the other
settled_all : (before es : List Event) (b place : ℕ) → IsLawful before → AreLawfulAfter before es → IsSettledPlace before b place → (next : ℕ) × IsSettledPlace (before ++ es) b next
settled_all before [] b place front h s = (place, subst (λ (l : List Event). IsSettledPlace l b place) (sym (append-nil before)) s)
settled_all before (e ∷ es) b place front h s =
    let now = lawful_onto [] before e front h.0 in
    let next = settled_event before e b place now s in
    let last = settled_all (before ++ e ∷ []) es b next.0 now h.1 next.1 in
    (last.0, subst (λ (l : List Event). IsSettledPlace l b last.0) (append_assoc before (e ∷ []) es) last.1)

-- each block has a settled place after a lawful log
pub has_settled_place : (log : List Event) (b : ℕ) → IsLawful log → (place : ℕ) × IsSettledPlace log b place
has_settled_place log b h = settled_all [] log b 0 tt h (λ u w n. w)
