-- The laws on paths on which other crates are built, in the form in which they are promised.
use Rattle.std.proofs.Common.{◌≡◌, ℕ, ◌≤◌, true, false, List, [], ◌∷◌, ◌++◌, Some, None, sym, refl, ap, ◌∙◌, arith, append_assoc}
use Rattle.std.specs.FinMap.{get, remove}
use Rattle.base_types.specs.declared.layout.Layout.{Layout}
use Rattle.lang_tree.specs.Tree.{Tree, Names, IsSound}
use Rattle.lang_tree.specs.Paths.{is_within}
use Rattle.lang_tree.specs.Names.{path_count, holds_names, renamed}
use Rattle.lang_tree.specs.Walk.{is_same_node}
use Rattle.lang_tree.specs.Conditions.{file_refusal, rmdir_refusal, rename_refusal}
use Rattle.lang_tree.proofs.basics.Order.{path_total}
use Rattle.lang_tree.proofs.basics.Strips.{below_is, below_at}
use Rattle.lang_tree.proofs.basics.Finds.{gone_here}
use Rattle.lang_tree.proofs.counting.PathCounts.{used_by}
use Rattle.lang_tree.proofs.walking.Found.{holds_some, some_held, above, target_apart, no_reasons, walked_there}
use Rattle.lang_tree.proofs.moves.Renames.{free_after, count_renamed}
use Rattle.lang_tree.proofs.soundness.Sound.{can_unlink, can_rmdir}

pub path_of : (names : Names) (n : ℕ) → 1 ≤ path_count names n → (p : List (List ℕ)) × (get names p ≡ Some n)
path_of names n some = grind (arith, path_count names n, used_by)

pub count_after_move : (names : Names) (from to : List (List ℕ)) (n : ℕ) → holds_names names to ≡ false → path_count (renamed (remove names to) from to) n ≡ path_count (remove names to) n
count_after_move names from to n free = count_renamed (remove names to) from to (gone_here path_total names to to refl) (free_after names to free) n

pub held_by : (names : Names) (p rest : List (List ℕ)) (name : List ℕ) (n : ℕ) → get names (p ++ name ∷ rest) ≡ Some n → holds_names names p ≡ true
held_by names p rest name n at = some_held names p (p ++ name ∷ rest) n at (below_at p (p ++ name ∷ rest) rest name refl)

-- where a path lies below p, the first name behind p is in the directory at p
pub first_name : (limit : ℕ) (t : Tree) (p : List (List ℕ)) → IsSound limit t → holds_names t.names p ≡ true → (name : List ℕ) × (n : ℕ) × (get t.names (p ++ name ∷ []) ≡ Some n)
first_name limit t p s held =
    let q = holds_some t.names p held in
    let r = below_is p q.0 q.3 in
    by r.0 r.1 (ap (get t.names) (sym r.2) ∙ q.2)
  where
    by : {n : ℕ} (name : List ℕ) (rest : List (List ℕ)) → get t.names (p ++ name ∷ rest) ≡ Some n → (name : List ℕ) × (n : ℕ) × (get t.names (p ++ name ∷ []) ≡ Some n)
    by {n} name [] at = (name, n, at)
    by {n} name (x ∷ rest) at =
        let k = above limit t s (p ++ name ∷ []) rest x n (ap (get t.names) (append_assoc p (name ∷ []) (x ∷ rest)) ∙ at) in
        (name, k.0, k.1)

pub unlink_finds : (limit : ℕ) (t : Tree) (path : List (List ℕ)) → IsSound limit t → file_refusal t path ≡ None → (holds_names t.names path ≡ false) × (path ≡ [] → ⊥)
unlink_finds limit t path s e = let can = can_unlink limit t s path e in (can.free, can.below_root)

pub rmdir_finds : (limit : ℕ) (t : Tree) (path : List (List ℕ)) → IsSound limit t → rmdir_refusal t path ≡ None → (holds_names t.names path ≡ false) × (path ≡ [] → ⊥)
rmdir_finds limit t path s e = let can = can_rmdir limit t s path e in (can.free, can.below_root)

pub move_finds : (limit : ℕ) (l : Layout) (t : Tree) (from to : List (List ℕ)) → IsSound limit t → rename_refusal l t from to ≡ None → is_same_node t from to ≡ false
    → (is_within from to ≡ false) × (holds_names t.names to ≡ false) × (to ≡ [] → ⊥)
move_finds limit l t from to s e other = let can = target_apart limit t s from to l e other in (can.apart, can.free, can.below_root)

-- what moves is there
pub source_there : (limit : ℕ) (l : Layout) (t : Tree) (from to : List (List ℕ)) → IsSound limit t → rename_refusal l t from to ≡ None → (n : ℕ) × (get t.names from ≡ Some n)
source_there limit l t from to s e = grind (arith, no_reasons, walked_there, s.root)
