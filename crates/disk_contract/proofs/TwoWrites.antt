-- What `write_in_order` leaves at each moment.
use Rattle.std.proofs.Common.{◌≡◌, ◌≢◌, ⊎_elim, ℕ, ◌<◌, ◌≤◌, List, [], ◌∷◌, ◌++◌, length, ◌==◌, Some, refl, sym, ◌∙◌, ap, subst, arith, length-append}
use Rattle.std.proofs.lemmas.Bool.{false≢true, eq-eqb, cond-true}
use Rattle.base_types.specs.Seal.{Blocks}
use Rattle.disk_contract.specs.declared.event.Event.{Event}
use Rattle.disk_contract.specs.declared.event.Event.TheVariants.{Wrote, Lost}
use Rattle.disk_contract.specs.Cell.{accepted, Cell, Write, after_all, cell_of, IsNoticed, notices}
use Rattle.disk_contract.specs.Crash.{IsHonest, Window}
use Rattle.disk_contract.specs.Logs.{accepted_from-append, cell_of-append, other_wrote, other_lost, IsNoticed-append}
use Rattle.disk_contract.proofs.Cells.{own_wrote, same_noticed, idle-holds, waited}
use Rattle.disk_contract.proofs.Windows.{window_start, window_more, window_notices}

abbrev pub InOrder : ℕ → ℕ → List ℕ → List ℕ → Blocks → Type 0
InOrder a b first second img = img b ≡ second → img a ≡ first

module _ (size : ℕ) (base : Blocks) (a b : ℕ) (a_in : a < size) (b_in : b < size) (first second : List ℕ) (apart : a ≢ b) (t : ℕ) where
  -- until the second write
  pub record Early (log : List Event) : Type 0 where
    pub since : t ≤ length log
    pub idle : (cell_of base log b).pending ≡ []
    pub differs : (cell_of base log b).settled ≢ second
    pub window : Window size base log t (InOrder a b first second)

  -- while the second block is idle and differs, no image has its new content
  quiet : (log : List Event) → (cell_of base log b).pending ≡ [] → (cell_of base log b).settled ≢ second → (img : Blocks) → IsHonest size base log img → InOrder a b first second img
  quiet log idle differs img h is = absurd (differs (sym (idle-holds _ _ idle (h.leaves b b_in)) ∙ is))

  -- that is so where the call begins
  pub early_start : (log : List Event) → length log ≡ t → (cell_of base log b).pending ≡ [] → (cell_of base log b).settled ≢ second → Early log
  early_start log len idle differs = record {
    since = omega arith;
    idle = idle;
    differs = differs;
    window = subst (λ n. Window size base log n (InOrder a b first second)) len (window_start size base (InOrder a b first second) log (quiet log idle differs));
  }

  -- and stays so with an event that leaves the second block alone
  early_more : (log : List Event) (e : Event) → cell_of base (log ++ e ∷ []) b ≡ cell_of base log b → Early log → Early (log ++ e ∷ [])
  early_more log e same p =
      let idle : (cell_of base (log ++ e ∷ []) b).pending ≡ [] = ap (λ (c : Cell). c.pending) same ∙ p.idle in
      let differs : (cell_of base (log ++ e ∷ []) b).settled ≢ second = subst (λ (c : Cell). c.settled ≢ second) (sym same) p.differs in
      record {
        since = omega (arith, p.since, length-append log (e ∷ []));
        idle = idle;
        differs = differs;
        window = window_more size base (InOrder a b first second) log t e p.window (quiet _ idle differs);
      }

  -- as the first write does
  pub early_wrote : (log : List Event) (n : ℕ) → Early log → Early (log ++ Wrote n a first ∷ [])
  early_wrote log n p = early_more log _ (other_wrote base log n a b first apart) p

  -- or its loss
  pub early_lost : (log : List Event) → Early log → Early (log ++ Lost a first ∷ [])
  early_lost log p = early_more log _ (other_lost base log a b first apart) p

  -- or notices
  pub early_notices : (log : List Event) (ts : List ℕ) → Early log → Early (log ++ notices ts)
  early_notices log ts p =
      let same = same_noticed base log b ts p.idle in
      record {
        since = omega (arith, p.since, length-append log (notices ts));
        idle = ap (λ (c : Cell). c.pending) same ∙ p.idle;
        differs = subst (λ (c : Cell). c.settled ≢ second) (sym same) p.differs;
        window = window_notices size base (InOrder a b first second) log t ts p.since p.window;
      }

  -- the first block once it was waited for
  pub first_there : (log : List Event) (n : ℕ) (ts : List ℕ) → (cell_of base log a).pending ≡ [] → ¬ IsNoticed n log → IsNoticed n ((log ++ Wrote n a first ∷ []) ++ notices ts)
      → cell_of base ((log ++ Wrote n a first ∷ []) ++ notices ts) a ≡ record { settled = first; pending = [] }
  first_there log n ts idle fresh told =
      let one : cell_of base (log ++ Wrote n a first ∷ []) a ≡ record { settled = (cell_of base log a).settled; pending = record { ticket = Some n; bytes = first } ∷ [] } = own_wrote base log n a first ∙ ap (λ (l : List Write). record { settled = (cell_of base log a).settled; pending = l ++ record { ticket = Some n; bytes = first } ∷ [] }) idle in
      let here : IsNoticed n (notices ts) = ⊎_elim (λ old. ⊎_elim (λ o. absurd (fresh o)) (λ none. absurd (false≢true none)) (IsNoticed-append n log _ old)) (λ r. r) (IsNoticed-append n (log ++ Wrote n a first ∷ []) (notices ts) told) in
      cell_of-append base (log ++ Wrote n a first ∷ []) (notices ts) a ∙ ap (λ (c : Cell). after_all a c (notices ts)) one ∙ waited a n _ first ts here

  -- the second write, accepted or lost
  late : (log : List Event) (e : Event) → cell_of base (log ++ e ∷ []) a ≡ record { settled = first; pending = [] } → Early log → Window size base (log ++ e ∷ []) t (InOrder a b first second)
  late log e there p = window_more size base (InOrder a b first second) log t e p.window (λ img h is. idle-holds _ _ (ap (λ (c : Cell). c.pending) there) (h.leaves a a_in) ∙ ap (λ (c : Cell). c.settled) there)

  -- the two blocks differ, read the other way
  back : b ≢ a
  back e = apart (sym e)

  -- where it is accepted
  pub late_wrote : (log : List Event) (n : ℕ) → cell_of base log a ≡ record { settled = first; pending = [] } → Early log → Window size base (log ++ Wrote n b second ∷ []) t (InOrder a b first second)
  late_wrote log n there p = late log _ (other_wrote base log n b a second back ∙ there) p

  -- and where it is lost
  pub late_lost : (log : List Event) → cell_of base log a ≡ record { settled = first; pending = [] } → Early log → Window size base (log ++ Lost b second ∷ []) t (InOrder a b first second)
  late_lost log there p = late log _ (other_lost base log b a second back ∙ there) p

  -- the first block is as it was after the second write
  pub first_stays : (log : List Event) (n : ℕ) → cell_of base log a ≡ record { settled = first; pending = [] } → cell_of base (log ++ Wrote n b second ∷ []) a ≡ record { settled = first; pending = [] }
  first_stays log n there = other_wrote base log n b a second back ∙ there

  -- and the second block's last accepted bytes are the new ones
  pub second_there : (log : List Event) (n : ℕ) → accepted base (log ++ Wrote n b second ∷ []) b ≡ second
  second_there log n = accepted_from-append b (base b) log (Wrote n b second ∷ []) ∙ cond-true (b == b) _ _ (eq-eqb b b refl)
