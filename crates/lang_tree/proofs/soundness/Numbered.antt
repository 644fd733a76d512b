-- The snapshot that has a number, by the entries of the map.
use Rattle.std.proofs.Common.{◌≡◌, ℕ, ◌==◌, Bool, true, false, cond, ◌||◌, List, [], ◌∷◌, Some, refl, ap, ◌∙◌, eqb-true}
use Rattle.std.specs.Prelude.{T, ◌&&◌}
use Rattle.std.proofs.lemmas.Bool.{false≢true}
use Rattle.std.specs.List.{list_any}
use Rattle.std.specs.Ordering.{is_lt, is_eq, eq_by_cmp, ordering_reverse}
use Rattle.std.specs.declared.cmp.Ordering.{Ordering}
use Rattle.std.specs.declared.cmp.Ordering.TheVariants.{Less}
use Rattle.std.specs.Cmp.{IsTotalOrder, tied_itself, nat_cmp_total}
use Rattle.std.specs.Cmp.Lexicographic.{lists_total}
use Rattle.std.specs.FinMap.{get, entries, entries_sorted, get-entries, find, is_sorted}
use Rattle.std.specs.FinMap.Entries.{below_all}
use Rattle.lang_tree.specs.Tree.{Snapshots, Kept}
use Rattle.lang_tree.specs.Conditions.{is_snapshot}

first_of : (a b : Bool) → T (a && b) → T a
first_of true b p = tt
first_of false b p = p

second_of : (a b : Bool) → T (a && b) → T b
second_of true b p = p
second_of false b p = absurd p

less : (r : Ordering) → T (is_lt r) → r ≡ Less
less Less h = refl
less other h = absurd h

module _ {K X : Type 0} {R : K → K → Ordering} (o : IsTotalOrder R) (test : X → Bool) where
  -- a key above another isn't it
  apart : (k q : K) → R k q ≡ Less → eq_by_cmp R q k ≡ false
  apart k q low = ap is_eq (o.antisymm q k ∙ ap ordering_reverse low)

  record Found (es : List (K × X)) : Type 0 where
    key : K
    value : X
    there : find R key es ≡ Some value
    passes : test value ≡ true

  -- an entry that passes a test is found by its key, above what is below all keys
  above : (k : K) (es : List (K × X)) → T (below_all R k es) → T (is_sorted R es) → list_any (λ e. test e.1) es ≡ true → (f : Found es) × (R k f.key ≡ Less)
  above k [] below sorted any = absurd (false≢true any)
  above k (e ∷ es) below sorted any = by (test e.1) refl (λ later. above e.0 es (first_of _ _ sorted) (second_of _ _ sorted) later) any
    where
      by : (b : Bool) → test e.1 ≡ b → (list_any (λ f. test f.1) es ≡ true → (f : Found es) × (R e.0 f.key ≡ Less)) → (b || list_any (λ f. test f.1) es) ≡ true
          → (f : Found (e ∷ es)) × (R k f.key ≡ Less)
      by true is go any = (
        record { key = e.0; value = e.1; there = ap (λ r. cond (is_eq r) (Some e.1) (find R e.0 es)) (tied_itself o e.0); passes = is },
        less _ (first_of _ _ below),
      )
      by false is go any =
          let later = go any in (
            record {
              key = later.0.key;
              value = later.0.value;
              there = ap (λ b. cond b (Some e.1) (find R later.0.key es)) (apart e.0 later.0.key later.1) ∙ later.0.there;
              passes = later.0.passes;
            },
            o.trans k e.0 later.0.key (less _ (first_of _ _ below)) later.1,
          )

  found : (es : List (K × X)) → T (is_sorted R es) → list_any (λ e. test e.1) es ≡ true → Found es
  found [] sorted any = absurd (false≢true any)
  found (e ∷ es) sorted any = by (test e.1) refl any
    where
      by : (b : Bool) → test e.1 ≡ b → (b || list_any (λ f. test f.1) es) ≡ true → Found (e ∷ es)
      by true is any = record { key = e.0; value = e.1; there = ap (λ r. cond (is_eq r) (Some e.1) (find R e.0 es)) (tied_itself o e.0); passes = is }
      by false is any =
          let later = above e.0 es (first_of _ _ sorted) (second_of _ _ sorted) any in
          record {
            key = later.0.key;
            value = later.0.value;
            there = ap (λ b. cond b (Some e.1) (find R later.0.key es)) (apart e.0 later.0.key later.1) ∙ later.0.there;
            passes = later.0.passes;
          }

-- a number that a snapshot has is that of one in the map
pub named : (m : Snapshots) (n : ℕ) → is_snapshot m n ≡ true → (name : List ℕ) × (k : Kept) × (get m name ≡ Some k) × (k.number ≡ n)
named m n is =
    let one = found (lists_total nat_cmp_total) (λ k. k.number == n) (entries m) (entries_sorted m) is in
    (one.key, one.value, get-entries m one.key ∙ one.there, eqb-true one.value.number n one.passes)
