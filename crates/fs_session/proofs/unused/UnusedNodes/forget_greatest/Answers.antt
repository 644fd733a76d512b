use Rattle.std.proofs.Common.{◌≡◌, ℕ, ◌≤◌, ◌<◌, ◌==◌, min, List, length, false, subst, ap, ◌∙◌}
use Rattle.std.specs.List.{list_any}
use Rattle.fs_session.proofs.Holes.{forgotten}
use Rattle.fs_session.proofs.unused.UnusedNodes.forget_greatest.Goals as goal

pub returns-clause-used : goal.returns-clause-used
returns-clause-used c = λ files used l from most bare.
    forgotten files c.args.self.now.used_to c.greatest_place-place.result c.remove-hole.result c.args.self.now.holes.items (subst (λ (xs : List ℕ). c.greatest_place-place.result < length xs) c.as_slice.ensures.value c.greatest_place-place.ensures) c.remove-hole.ensures.value used l from
    (subst (λ n. l ≤ n) (c.min-self.ensures ∙ ap (λ n. min c.args.self.now.used_to n) c.saturating_sub.ensures) most) (subst (λ (xs : List ℕ). list_any (λ hole. hole == l) xs ≡ false) c.remove-hole.ensures.items bare)
