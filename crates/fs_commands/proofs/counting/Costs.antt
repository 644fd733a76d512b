-- What a file that is written or gets another size takes, from how many of its blocks are shared.
use Rattle.std.proofs.Common.{◌≡◌, ◌≢◌, ℕ, ◌+◌, ◌-◌, ◌<◌, ◌==◌, nat_lt, min, Bool, if◌then◌else◌, sym, ap, ap₂, ◌∙◌, arith}
use Rattle.std.proofs.lemmas.Bool.{cond-false, ne_eqb, lt-ltb, le-ltb}
use Rattle.lang_tree.specs.Figures.{Figures, nothing, blocks_for, shrinking}
use Rattle.lang_tree.specs.Sharing.{SharedPlaces, alone_from, cutting, shared_met, truncate_over_figures, write_over_figures, writing_over}

module _ (bitmap : ℕ) (shared : SharedPlaces) where
  -- bytes that are put into a file
  pub overwritten_costs : (size held offset count met lo : ℕ) (f : Figures) → 0 < count → size ≡ held → lo ≡ min offset size → met ≡ shared_met shared held (min offset size) (offset + count)
      → (met ≡ shared_met shared size lo (offset + count) → f ≡ writing_over bitmap shared size lo (offset + count)) → f ≡ write_over_figures bitmap shared held offset count
  overwritten_costs size held offset count met lo f some same low is costs =
      costs (is ∙ ap₂ (λ n l. shared_met shared n l (offset + count)) (sym same) (sym low)) ∙ ap (λ l. writing_over bitmap shared size l (offset + count)) low ∙ ap (λ n. writing_over bitmap shared n (min offset n) (offset + count)) same
      ∙ sym (cond-false (count == 0) nothing (writing_over bitmap shared held (min offset held) (offset + count)) (ne_eqb count 0 (λ e. absurd (omega (arith, e, some)))))

  -- a file that grows, and one that is cut
  pub grown_costs : (old new : ℕ) → old < new → truncate_over_figures bitmap shared old new ≡ writing_over bitmap shared old old new
  grown_costs old new more = ap (λ (b : Bool). if b then writing_over bitmap shared old old new else if nat_lt new old then cutting bitmap shared (blocks_for old) (blocks_for new) else nothing) (lt-ltb old new more)

  pub cut_costs : (old new freed : ℕ) → new < old → freed ≡ alone_from shared (blocks_for new) (blocks_for old - blocks_for new) → shrinking bitmap freed ≡ truncate_over_figures bitmap shared old new
  cut_costs old new freed less is =
      ap (shrinking bitmap) is
      ∙ sym (ap₂ (λ (a b : Bool). if a then writing_over bitmap shared old old new else if b then cutting bitmap shared (blocks_for old) (blocks_for new) else nothing) (le-ltb old new (omega (arith, less))) (lt-ltb new old less))

  -- one that has the size that it had
  pub same_costs : (n : ℕ) → truncate_over_figures bitmap shared n n ≡ nothing
  same_costs n = ap₂ (λ (a b : Bool). if a then writing_over bitmap shared n n n else if b then cutting bitmap shared (blocks_for n) (blocks_for n) else nothing) (le-ltb n n (omega arith)) (le-ltb n n (omega arith))
