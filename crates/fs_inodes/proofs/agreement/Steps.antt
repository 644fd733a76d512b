-- Where paths lead after entries change: the new paths go on by the new entries. It knows no slots, nodes or trees.
use Rattle.std.proofs.Common.{◌≡◌, ℕ, List, [], ◌∷◌, ◌++◌, Option, Some, None, option_and_then, sym, ap, ◌∙◌, ◌⊎◌, inl, inr, append_assoc, append-nil, arith}
use Rattle.std.proofs.lemmas.Option.{none-some}
use Rattle.crash_stands.specs.Walks.{Entries}
use Rattle.fs_inodes.proofs.basics.Paths.{Path, which, which_entry, which_side, last_same, no_end, from_end}
use Rattle.fs_inodes.proofs.agreement.Agree.{GoesOn}

-- Entry `name` of directory d became x, and no other entry changed.
pub record EntryIs (e f : Entries) (d : ℕ) (name : List ℕ) (x : Option ℕ) : Type 0 where
  pub here : f d name ≡ x
  pub others : (k : ℕ) (b : List ℕ) → ((k ≡ d) × (b ≡ name) → ⊥) → f k b ≡ e k b

-- one step from a path that leads to k
pub step_at : (e : Entries) (names : Path → Option ℕ) → GoesOn e names → (up : Path) (b : List ℕ) (k : ℕ) → names up ≡ Some k → names (up ++ b ∷ []) ≡ e k b
step_at e names goes up b k at = goes up b ∙ ap (option_and_then (λ j. e j b)) at

-- one step from nowhere
pub no_step : (e : Entries) (names : Path → Option ℕ) → GoesOn e names → (up : Path) (b : List ℕ) → names up ≡ None → names (up ++ b ∷ []) ≡ None
no_step e names goes up b none = goes up b ∙ ap (option_and_then (λ j. e j b)) none

-- One path leads elsewhere, or nowhere. Nothing stood below where it led, and nothing stands below where it leads.
module _ (e f : Entries) (old new : Path → Option ℕ) (goes : GoesOn e old) (up : Path) (name : List ℕ) (d : ℕ) (x : Option ℕ)
    (at_up : old up ≡ Some d) (only : (q : Path) → old q ≡ Some d → q ≡ up) (entry : EntryIs e f d name x)
    (bare : (b : List ℕ) → option_and_then (λ k. e k b) (old (up ++ name ∷ [])) ≡ None) (empty : (b : List ℕ) → option_and_then (λ k. f k b) x ≡ None)
    (here : new (up ++ name ∷ []) ≡ x) (look : (q : Path) → (q ≡ up ++ name ∷ []) ⊎ (new q ≡ old q)) where
  -- the way on from an old path to node k
  turn_on : (at : Path) (b : List ℕ) (k : ℕ) → old at ≡ Some k → (at ++ b ∷ [] ≡ up ++ name ∷ []) ⊎ (new (at ++ b ∷ []) ≡ old (at ++ b ∷ [])) → new (at ++ b ∷ []) ≡ f k b
  turn_on at b k is side = grind (arith, which_entry k d b name, entry.here, last_same, entry.others)

  -- one step from any path
  turn_step : (at : Path) (b : List ℕ) → (at ≡ up ++ name ∷ []) ⊎ (new at ≡ old at) → (at ++ b ∷ [] ≡ up ++ name ∷ []) ⊎ (new (at ++ b ∷ []) ≡ old (at ++ b ∷ []))
      → new (at ++ b ∷ []) ≡ option_and_then (λ k. f k b) (new at)
  turn_step at b h1 h2 = grind (arith, none-some, last_same, turn_on)

  -- so the new paths go on by the new entries
  pub turn_goes : GoesOn f new
  turn_goes at b = turn_step at b (look at) (look (at ++ b ∷ []))

-- What is at or below one path comes to another one, which isn't at or below the first. Nothing stands below what was there.
module _ (e f : Entries) (old new : Path → Option ℕ) (goes : GoesOn e old) (up to : Path) (name other : List ℕ) (d c n : ℕ)
    (at_up : old up ≡ Some d) (only_up : (q : Path) → old q ≡ Some d → q ≡ up)
    (at_to : old to ≡ Some c) (only_to : (q : Path) → old q ≡ Some c → q ≡ to)
    (there : old (up ++ name ∷ []) ≡ Some n)
    (apart : (r : Path) → to ++ other ∷ [] ≡ (up ++ name ∷ []) ++ r → ⊥)
    (entry_new : f c other ≡ Some n) (entry_gone : f d name ≡ None)
    (others : (k : ℕ) (b : List ℕ) → ((k ≡ d) × (b ≡ name) → ⊥) → ((k ≡ c) × (b ≡ other) → ⊥) → f k b ≡ e k b)
    (second : (r : Path) → new ((to ++ other ∷ []) ++ r) ≡ old ((up ++ name ∷ []) ++ r))
    (first : (r : Path) → new ((up ++ name ∷ []) ++ r) ≡ None)
    (elsewhere : (q : Path) → ((r : Path) → q ≡ (up ++ name ∷ []) ++ r → ⊥) → ((r : Path) → q ≡ (to ++ other ∷ []) ++ r → ⊥) → new q ≡ old q) where
  -- below the new place the entries are the old ones
  moved_entry : (r : Path) (b : List ℕ) (k : ℕ) → old ((up ++ name ∷ []) ++ r) ≡ Some k → f k b ≡ e k b
  moved_entry r b k is = others k b
      (λ both. no_end r name (in_front (only_up _ (is ∙ ap Some both.0))))
      (λ both. apart (r ++ other ∷ []) (ap (λ p. p ++ other ∷ []) (sym (only_to _ (is ∙ ap Some both.0))) ∙ append_assoc (up ++ name ∷ []) r (other ∷ [])))
    where
      shorter : (p q : Path) (x : List ℕ) → p ++ x ∷ q ≡ p → ⊥
      shorter [] q x e = cc
      shorter (y ∷ p) q x e = shorter p q x cc

      in_front : (up ++ name ∷ []) ++ r ≡ up → r ++ name ∷ [] ≡ []
      in_front e = absurd (shorter up r name (sym (append_assoc up (name ∷ []) r) ∙ e))

  -- one step from at or below the new place
  from_target : (r : Path) (b : List ℕ) → new (((to ++ other ∷ []) ++ r) ++ b ∷ []) ≡ option_and_then (λ k. f k b) (new ((to ++ other ∷ []) ++ r))
  from_target r b = ap new (append_assoc (to ++ other ∷ []) r (b ∷ [])) ∙ second (r ++ b ∷ []) ∙ ap old (sym (append_assoc (up ++ name ∷ []) r (b ∷ [])))
      ∙ by (which (old ((up ++ name ∷ []) ++ r))) ∙ ap (option_and_then (λ k. f k b)) (sym (second r))
    where
      by : (old ((up ++ name ∷ []) ++ r) ≡ None) ⊎ ((k : ℕ) × (old ((up ++ name ∷ []) ++ r) ≡ Some k))
          → old (((up ++ name ∷ []) ++ r) ++ b ∷ []) ≡ option_and_then (λ k. f k b) (old ((up ++ name ∷ []) ++ r))
      by (inl none) = no_step e old goes ((up ++ name ∷ []) ++ r) b none ∙ sym (ap (option_and_then (λ k. f k b)) none)
      by (inr some) = step_at e old goes ((up ++ name ∷ []) ++ r) b some.0 some.1 ∙ sym (ap (option_and_then (λ k. f k b)) some.1 ∙ moved_entry r b some.0 some.1)

  -- one step from at or below the old place
  from_source : (r : Path) (b : List ℕ) → new (((up ++ name ∷ []) ++ r) ++ b ∷ []) ≡ option_and_then (λ k. f k b) (new ((up ++ name ∷ []) ++ r))
  from_source r b = ap new (append_assoc (up ++ name ∷ []) r (b ∷ [])) ∙ first (r ++ b ∷ []) ∙ sym (ap (option_and_then (λ k. f k b)) (first r))

  -- a path with a name more that lies at or below another one ends there, or its front lies there
  ends_or_in : (at top : Path) (b x : List ℕ) (r : Path) → at ++ b ∷ [] ≡ (top ++ x ∷ []) ++ r → ((at ≡ top) × (b ≡ x)) ⊎ ((s : Path) × (at ≡ (top ++ x ∷ []) ++ s))
  ends_or_in at top b x r e = by (from_end r) e
    where
      by : (r ≡ []) ⊎ ((s : Path) × (y : List ℕ) × (r ≡ s ++ y ∷ [])) → at ++ b ∷ [] ≡ (top ++ x ∷ []) ++ r → ((at ≡ top) × (b ≡ x)) ⊎ ((s : Path) × (at ≡ (top ++ x ∷ []) ++ s))
      by (inl none) e = inl (last_same at top b x (e ∙ ap (λ r. (top ++ x ∷ []) ++ r) none ∙ append-nil (top ++ x ∷ [])))
      by (inr end) e = inr (end.0, (last_same at ((top ++ x ∷ []) ++ end.0) b end.1 (e ∙ ap (λ r. (top ++ x ∷ []) ++ r) end.2 ∙ sym (append_assoc (top ++ x ∷ []) end.0 (end.1 ∷ [])))).0)

  module _ (at : Path) (b : List ℕ) (off_up : (r : Path) → at ≡ (up ++ name ∷ []) ++ r → ⊥) (off_to : (r : Path) → at ≡ (to ++ other ∷ []) ++ r → ⊥) where
    -- one step from a path outside both
    as_before : (k : ℕ) → old at ≡ Some k → ((k ≡ d) × (b ≡ name) → ⊥) → ((k ≡ c) × (b ≡ other) → ⊥) → new (at ++ b ∷ []) ≡ f k b
    as_before k is no_first no_second = elsewhere (at ++ b ∷ []) (λ r e. out_up (ends_or_in at up b name r e)) (λ r e. out_to (ends_or_in at to b other r e))
        ∙ step_at e old goes at b k is ∙ sym (others k b no_first no_second)
      where
        out_up : ((at ≡ up) × (b ≡ name)) ⊎ ((s : Path) × (at ≡ (up ++ name ∷ []) ++ s)) → ⊥
        out_up h1 = grind arith

        out_to : ((at ≡ to) × (b ≡ other)) ⊎ ((s : Path) × (at ≡ (to ++ other ∷ []) ++ s)) → ⊥
        out_to h1 = grind arith

    -- one step from a path outside both that is there
    from_there : (k : ℕ) → old at ≡ Some k → ((k ≡ c) × (b ≡ other)) ⊎ ((k ≡ c) × (b ≡ other) → ⊥) → ((k ≡ d) × (b ≡ name)) ⊎ ((k ≡ d) × (b ≡ name) → ⊥) → new (at ++ b ∷ []) ≡ f k b
    from_there k is (inl both) first_entry =
        let same : at ≡ to = only_to at (is ∙ ap Some both.0) in
        ap new (ap (λ p. p ++ b ∷ []) same ∙ ap (λ x. to ++ x ∷ []) both.1 ∙ sym (append-nil (to ++ other ∷ []))) ∙ second [] ∙ ap old (append-nil (up ++ name ∷ [])) ∙ there
        ∙ sym (ap (λ j. f j b) both.0 ∙ ap (f c) both.1 ∙ entry_new)
    from_there k is (inr no_second) (inl both) =
        let same : at ≡ up = only_up at (is ∙ ap Some both.0) in
        ap new (ap (λ p. p ++ b ∷ []) same ∙ ap (λ x. up ++ x ∷ []) both.1 ∙ sym (append-nil (up ++ name ∷ []))) ∙ first []
        ∙ sym (ap (λ j. f j b) both.0 ∙ ap (f d) both.1 ∙ entry_gone)
    from_there k is (inr no_second) (inr no_first) = as_before k is no_first no_second

    -- and from one that isn't
    from_nowhere : old at ≡ None → new (at ++ b ∷ []) ≡ None
    from_nowhere none = by (which_side (up ++ name ∷ []) (at ++ b ∷ [])) (which_side (to ++ other ∷ []) (at ++ b ∷ []))
      where
        out_to : ((at ≡ to) × (b ≡ other)) ⊎ ((s : Path) × (at ≡ (to ++ other ∷ []) ++ s)) → ⊥
        out_to h1 = grind (arith, none-some)

        by : ((r : Path) × (at ++ b ∷ [] ≡ (up ++ name ∷ []) ++ r)) ⊎ ((r : Path) → at ++ b ∷ [] ≡ (up ++ name ∷ []) ++ r → ⊥)
            → ((r : Path) × (at ++ b ∷ [] ≡ (to ++ other ∷ []) ++ r)) ⊎ ((r : Path) → at ++ b ∷ [] ≡ (to ++ other ∷ []) ++ r → ⊥) → new (at ++ b ∷ []) ≡ None
        by (inl r) side = ap new r.1 ∙ first r.0
        by (inr off) (inl r) = absurd (out_to (ends_or_in at to b other r.0 r.1))
        by (inr off) (inr away) = elsewhere (at ++ b ∷ []) off away ∙ no_step e old goes at b none

    -- one step from a path outside both
    from_outside : new (at ++ b ∷ []) ≡ option_and_then (λ k. f k b) (new at)
    from_outside = by (which (old at))
      where
        stays : new at ≡ old at
        stays = elsewhere at off_up off_to

        by : (old at ≡ None) ⊎ ((k : ℕ) × (old at ≡ Some k)) → new (at ++ b ∷ []) ≡ option_and_then (λ k. f k b) (new at)
        by (inl none) = from_nowhere none ∙ sym (ap (option_and_then (λ k. f k b)) (stays ∙ none))
        by (inr some) = from_there some.0 some.1 (which_entry some.0 c b other) (which_entry some.0 d b name) ∙ sym (ap (option_and_then (λ k. f k b)) (stays ∙ some.1))

  -- so the new paths go on by the new entries
  pub move_goes : GoesOn f new
  move_goes at b = by (which_side (to ++ other ∷ []) at) (which_side (up ++ name ∷ []) at)
    where
      by : ((r : Path) × (at ≡ (to ++ other ∷ []) ++ r)) ⊎ ((r : Path) → at ≡ (to ++ other ∷ []) ++ r → ⊥)
          → ((r : Path) × (at ≡ (up ++ name ∷ []) ++ r)) ⊎ ((r : Path) → at ≡ (up ++ name ∷ []) ++ r → ⊥) → new (at ++ b ∷ []) ≡ option_and_then (λ k. f k b) (new at)
      by (inl r) side = ap (λ p. new (p ++ b ∷ [])) r.1 ∙ from_target r.0 b ∙ ap (λ p. option_and_then (λ k. f k b) (new p)) (sym r.1)
      by (inr off_to) (inl r) = ap (λ p. new (p ++ b ∷ [])) r.1 ∙ from_source r.0 b ∙ ap (λ p. option_and_then (λ k. f k b) (new p)) (sym r.1)
      by (inr off_to) (inr off_up) = from_outside at b off_up off_to
