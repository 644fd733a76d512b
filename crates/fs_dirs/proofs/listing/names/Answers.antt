use Rattle.std.proofs.Common.{map, sym, subst, ap, ◌∙◌}
use Rattle.std.proofs.lemmas.List.Sorted.{IsPermutation-map}
use Rattle.std.specs.List.Sorted.{IsPermutation, IsSorted}
use Rattle.std.specs.Ordering.{nat_cmp}
use Rattle.std.specs.Cmp.Lexicographic.{slice_cmp}
use Rattle.layout_bytes.specs.declared.slot.Slot.{Slot}
use Rattle.fs_dirs.proofs.listing.names.Goals as goal

pub returns-clause-all : goal.returns-clause-all
returns-clause-all g c = λ told slots is.
    subst (IsPermutation (map (λ (s : Slot). s.name) slots)) (sym (c.from_names.ensures ∙ c.in_ok-names.ensures ∙ ap (map (λ (s : Slot). s.name)) c.deref.ensures.value))
    (IsPermutation-map (λ (s : Slot). s.name) _ _ (c.in_ok-found.ensures.all told slots is))

pub returns-clause-sorted : goal.returns-clause-sorted
returns-clause-sorted g c =
    subst (IsSorted (slice_cmp nat_cmp)) (sym (c.from_names.ensures ∙ c.in_ok-names.ensures ∙ ap (map (λ (s : Slot). s.name)) c.deref.ensures.value)) c.in_ok-found.ensures.sorted
