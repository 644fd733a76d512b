-- The inode map of the root alone, which has no entry.
use Rattle.std.proofs.Common.{◌≡◌, ℕ, zero, suc, ◌≤◌, true, false, cond, List, [], ◌∷◌, Some, None, slice_get, option_map, sym, refl, ap, ◌∙◌, subst, ◌⊎◌, inl, inr, arith, nat_cmp}
use Rattle.std.proofs.lemmas.Bool.{cases_eq}
use Rattle.std.specs.Ordering.{eq_by_cmp}
use Rattle.std.specs.Cmp.{nat_cmp_total}
use Rattle.std.specs.Cmp.Lexicographic.{lists_total}
use Rattle.std.specs.FinMap.{get, insert, empty, get-insert, get-empty}
use Rattle.std.proofs.lemmas.Option.{same_Some, none-some}
use Rattle.layout_bytes.specs.declared.slot.Slot.{Slot}
use Rattle.lang_tree.specs.Tree.{Bounds, path_cmp, Dir}
use Rattle.lang_tree.specs.Step.{start}
use Rattle.crash_stands.specs.Inodes.{Inode, ADir, AFile, root_alone, thing_of, AreDistinct}
use Rattle.crash_stands.specs.Walks.{entries_of, walk, LeadsTo}
use Rattle.crash_stands.specs.Maps.{IsMapOf}

-- each walk that ends somewhere has no name in it, and ends at the root
ends : (p : List (List ℕ)) (k : ℕ) → LeadsTo root_alone p k → (p ≡ []) × (k ≡ 1)
ends [] k e = (refl, sym (same_Some 1 k e))
ends (name ∷ p) k e = absurd (none-some k e)

at_root : (k : ℕ) (x : Inode) → root_alone k ≡ Some x → (k ≡ 1) × (x ≡ ADir [])
at_root zero x e = absurd (none-some x e)
at_root (suc zero) x e = (refl, sym (same_Some (ADir []) x e))
at_root (suc (suc k)) x e = absurd (none-some x e)

file_dir : (links : ℕ) (bytes : List ℕ) → AFile links bytes ≡ ADir [] → ⊥
file_dir links bytes e = cc

no_slots : (slots : List Slot) → ADir slots ≡ ADir [] → slots ≡ []
no_slots slots e = cc

root_is_distinct : (k : ℕ) (slots : List Slot) → root_alone k ≡ Some (ADir slots) → AreDistinct slots
root_is_distinct k slots e i j s t at_i at_j same = absurd (none-some s (subst (λ l. slice_get l i ≡ Some s) (no_slots slots (at_root k (ADir slots) e).1) at_i))

same_names : (p : List (List ℕ)) → get {R = path_cmp} (insert empty [] 1) p ≡ walk (entries_of root_alone) 1 p
same_names [] = get-insert (lists_total (lists_total nat_cmp_total)) empty [] 1 []
same_names (name ∷ p) = get-insert (lists_total (lists_total nat_cmp_total)) empty [] 1 (name ∷ p) ∙ get-empty path_cmp (name ∷ p)

nothing_else : (k : ℕ) → (k ≡ 1 → ⊥) → root_alone k ≡ None
nothing_else zero n = refl
nothing_else (suc zero) n = absurd (n refl)
nothing_else (suc (suc k)) n = refl

same_nodes : (k : ℕ) → get {R = nat_cmp} (insert empty 1 Dir) k ≡ option_map thing_of (root_alone k)
same_nodes k = get-insert nat_cmp_total empty 1 Dir k ∙ by (cases_eq k 1)
  where
    by : (k ≡ 1) ⊎ (k ≡ 1 → ⊥) → cond (eq_by_cmp nat_cmp k 1) (Some Dir) (get {R = nat_cmp} empty k) ≡ option_map thing_of (root_alone k)
    by (inl e) =
        let tied : eq_by_cmp nat_cmp k 1 ≡ true = grind arith in
        ap (λ b. cond b (Some Dir) (get {R = nat_cmp} empty k)) tied ∙ ap (λ n. option_map thing_of (root_alone n)) (sym e)
    by (inr n) =
        let apart : eq_by_cmp nat_cmp k 1 ≡ false = grind arith in
        ap (λ b. cond b (Some Dir) (get {R = nat_cmp} empty k)) apart ∙ get-empty nat_cmp k ∙ sym (ap (option_map thing_of) (nothing_else k n))

number_of : (k : ℕ) (x : Inode) → root_alone k ≡ Some x → k ≡ 1
number_of k x e = (at_root k x e).0

-- the root alone is the map of the tree that every session starts with
pub root_is_map : (limit : Bounds) → 1 ≤ limit.nodes → IsMapOf limit.nodes root_alone (start limit).tree
root_is_map limit low = record {
  root = ([], refl);
  distinct = root_is_distinct;
  within = λ k x e. let one = number_of k x e in (omega (arith, one), omega (arith, one, low));
  shows = record {
    names = same_names;
    nodes = same_nodes;
    links = λ k links bytes e. absurd (file_dir links bytes (at_root k _ e).1);
    only = λ k slots p e at q at_q. (ends q k at_q).0 ∙ sym (ends p k at).0;
    reached = λ k x e. ([], ap Some (sym (number_of k _ e)));
    used = λ p k e. (ADir [], ap root_alone (ends p k e).1);
  };
}
