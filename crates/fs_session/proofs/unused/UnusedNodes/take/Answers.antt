use Rattle.std.proofs.Common.{◌≡◌, ℕ, ◌≤◌, ◌==◌, List, false, subst}
use Rattle.std.specs.List.{list_any}
use Rattle.fs_session.proofs.Holes.{taken}
use Rattle.fs_session.proofs.unused.UnusedNodes.take.Goals as goal

pub returns : goal.returns
returns c = λ old new uses used l from most bare.
    taken old new c.args.number c.args.self.now.used_to c.args.self.now.holes.items uses used l from
    (subst (λ n. l ≤ n) c.max-self.ensures most) (subst (λ (xs : List ℕ). list_any (λ hole. hole == l) xs ≡ false) c.keep_above.ensures bare)
