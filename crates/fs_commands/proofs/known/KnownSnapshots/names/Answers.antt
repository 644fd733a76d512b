use Rattle.std.proofs.Common.{◌≡◌, ◌∙◌, ◌++◌, ℕ, List, [], map, ap, rules}
use Rattle.fs_commands.specs.Known.{names_in}
use Rattle.fs_commands.proofs.numbered.Keys.{keys_in_order}
use Rattle.fs_commands.proofs.known.KnownSnapshots.names.Goals as goal

pub loop-name-init : goal.loop-name-init
loop-name-init c =
    let empty : c.in_ok-names.names.items ≡ [] = search rules in
    let started = c.into_iter-name-iterator.ensures.into_iter_gives in
    ap (λ (names : List (List ℕ)). names ++ map (λ (e : List ℕ × ℕ). e.0) c.into_iter-name-iterator.result) empty
    ∙ ap (λ (es : List (List ℕ × ℕ)). map (λ e. e.0) es) started.0
    ∙ keys_in_order c.self.inside.numbers.entries c.len.ensures.ordered ∙ ap names_in c.self.view_is
