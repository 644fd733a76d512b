use Rattle.std.proofs.Common.{◌≡◌, ◌∙◌, ◌++◌, ℕ, List, [], map, ap, rules}
use Rattle.fs_memtree.specs.declared.snapshots.Snapshot.{Snapshot}
use Rattle.fs_memtree.proofs.keys.InOrder.{keys_in_order}
use Rattle.fs_memtree.proofs.snapshots.Snapshots.names.Goals as goal

pub loop-name-init : goal.loop-name-init
loop-name-init c =
    let empty : c.in_ok-names.names.items ≡ [] = search rules in
    let started = c.into_iter-name-iterator.ensures.into_iter_gives in
    ap (λ (names : List (List ℕ)). names ++ map (λ (e : List ℕ × Snapshot). e.0) c.into_iter-name-iterator.result) empty
    ∙ ap (λ (es : List (List ℕ × Snapshot)). map (λ e. e.0) es) started.0
    ∙ keys_in_order c.self.inside.entries.entries c.args.self.now c.len.ensures.ordered c.self.view_is
