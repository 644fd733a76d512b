-- Each entry of a search tree is what it finds under its name; and a number that a name has is that of a snapshot.
use Rattle.std.proofs.Common.{◌≡◌, ℕ, Bool, true, false, cond, ◌&&◌, bytes_eq, find as first, T, List, [], ◌∷◌, ◌++◌, get_or, Option, Some, None, refl, sym, ap, subst, ◌∙◌, ◌⊎◌, inl, inr, append_assoc, arith}
use Rattle.std.proofs.lemmas.Bool.{and_parts, cases_Bool, false≢true}
use Rattle.std.proofs.lemmas.Option.{none-some, same_Some}
use Rattle.std.specs.List.{AllByRecursion, range_with_len}
use Rattle.std.specs.Ordering.{is_lt}
use Rattle.std.specs.declared.cmp.Ordering.{Ordering}
use Rattle.std.specs.declared.cmp.Ordering.TheVariants.{Less, Equal}
use Rattle.std.specs.Cmp.{tied_itself}
use Rattle.std.specs.FinMap.{FinMap, get, entries, entries_sorted, get-entries, find, is_sorted}
use Rattle.std.specs.FinMap.Entries.{below_all}
use Rattle.std.proofs.lemmas.Bool.Decides.{nat_tests}
use Rattle.base_types.specs.Runs.{run_places}
use Rattle.base_types.specs.Seal.{Blocks}
use Rattle.layout_geometry.specs.Geometry.{Geometry}
use Rattle.layout_bytes.specs.declared.node.Node.{Node}
use Rattle.layout_bytes.specs.SnapshotName.{name_block}
use Rattle.crash_stands.specs.Files.{used_node}
use Rattle.crash_snapshots.specs.Kept.{is_snapshot}
use Rattle.fs_snapshots.specs.Known.{has_name, snapshot_number}
use Rattle.fs_snapshots.specs.Nodes.{snapshot_kind}
use Rattle.fs_commands.specs.Snapping.{IsSnapshot}
use Rattle.fs_commands.proofs.numbered.Keys.{name_cmp, name_total, apart, tied}

no_less : Less ≡ Equal → ⊥
no_less e = cc

is_less : (o : Ordering) → is_lt o ≡ true → o ≡ Less
is_less o e = grind (arith, nat_tests)

T_true : (b : Bool) → T b → b ≡ true
T_true true t = refl
T_true false t = absurd t

module _ {X : Type 0} where
  less_at : (k : List ℕ) (front : List (List ℕ × X)) (e : List ℕ × X) (es : List (List ℕ × X)) → below_all name_cmp k (front ++ e ∷ es) ≡ true → name_cmp k e.0 ≡ Less
  less_at k [] e es all = is_less (name_cmp k e.0) (and_parts (is_lt (name_cmp k e.0)) (below_all name_cmp k es) all).0
  less_at k (f ∷ front) e es all = less_at k front e es (and_parts (is_lt (name_cmp k f.0)) (below_all name_cmp k (front ++ e ∷ es)) all).1

  found_there : (front : List (List ℕ × X)) (e : List ℕ × X) (es : List (List ℕ × X)) → is_sorted name_cmp (front ++ e ∷ es) ≡ true → find name_cmp e.0 (front ++ e ∷ es) ≡ Some e.1
  found_there [] e es rise = ap (λ b. cond b (Some e.1) (find name_cmp e.0 es)) (tied e.0 e.0 refl)
  found_there (f ∷ front) e es rise =
      let parts = and_parts (below_all name_cmp f.0 (front ++ e ∷ es)) (is_sorted name_cmp (front ++ e ∷ es)) rise in
      let low = less_at f.0 front e es parts.0 in
      let other = apart e.0 f.0 (λ same. no_less (sym low ∙ ap (name_cmp f.0) same ∙ tied_itself name_total f.0)) in
      ap (λ b. cond b (Some f.1) (find name_cmp e.0 (front ++ e ∷ es))) other ∙ found_there front e es parts.1

  each_found : (m : FinMap name_cmp X) (front es : List (List ℕ × X)) → entries m ≡ front ++ es → AllByRecursion (λ e. get m e.0 ≡ Some e.1) es
  each_found m front [] is = tt
  each_found m front (e ∷ es) is = (
    get-entries m e.0 ∙ ap (find name_cmp e.0) is ∙ found_there front e es (ap (is_sorted name_cmp) (sym is) ∙ T_true (is_sorted name_cmp (entries m)) (entries_sorted m)),
    each_found m (front ++ e ∷ []) es (is ∙ sym (append_assoc front (e ∷ []) es)),
  )

  -- a finite map has each of its entries
  pub each_there : (m : FinMap name_cmp X) → AllByRecursion (λ e. get m e.0 ≡ Some e.1) (entries m)
  each_there m = each_found m [] (entries m) refl

-- what is found passes
passes : (test : ℕ → Bool) (xs : List ℕ) (k : ℕ) → first test xs ≡ Some k → test k ≡ true
passes test [] k e = absurd (none-some k e)
passes test (x ∷ xs) k e = by (cases_Bool (test x)) (passes test xs k)
  where
    by : (test x ≡ true) ⊎ (test x ≡ false) → (first test xs ≡ Some k → test k ≡ true) → test k ≡ true
    by (inl p) later = subst (λ n. test n ≡ true) (same_Some x k (sym (ap (λ b. cond b (Some x) (first test xs)) p) ∙ e)) p
    by (inr f) later = later (sym (ap (λ b. cond b (Some x) (first test xs)) f) ∙ e)

-- so a number that a name has is a snapshot's
pub named_snapshot : (g : Geometry) (m : Blocks) (name : List ℕ) (n : ℕ) → snapshot_number g m name ≡ Some n → IsSnapshot g m n
named_snapshot g m name n e = by (used_node g m n) refl (passes (λ k. has_name m name (used_node g m k)) (range_with_len 1 g.i) n e)
  where
    by : (o : Option Node) → used_node g m n ≡ o → has_name m name o ≡ true → IsSnapshot g m n
    by None used is = absurd (false≢true is)
    by (Some node) used is = (node, used, snapshot_kind node.kind (and_parts (is_snapshot node.kind) (bytes_eq (m (get_or (run_places node.runs) 0 0)) (name_block name)) is).0)
