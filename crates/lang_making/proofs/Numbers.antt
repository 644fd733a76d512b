-- New numbers for nodes, which are met one after the other: the first one met has number 1. The list has the one met last in front.
use Rattle.std.proofs.Common.{◌≡◌, ℕ, zero, suc, ◌+◌, ◌-◌, ◌≤◌, ◌<◌, ◌==◌, Bool, true, false, cond, if◌then◌else◌, List, [], ◌∷◌, length, Option, Some, None, is_some, find as first, refl, sym, ap, ◌∙◌, subst, ◌⊎◌, inl, inr, arith, eq-eqb, eqb-true}
use Rattle.std.proofs.lemmas.Bool.{cases_eq, ne_eqb}
use Rattle.std.proofs.lemmas.Option.{same_Some, none-some}
use Rattle.std.specs.List.{range_with_len}
use Rattle.std.specs.Cmp.{nat_cmp_total}
use Rattle.std.specs.Ordering.{nat_cmp}
use Rattle.std.specs.FinMap.{nat_cmp-IsAntisymmetric, get, remove, len, len-remove, empty_of_len, get-empty}
use Rattle.lang_tree.specs.Tree.{Nodes, Thing}
use Rattle.lang_making.proofs.Lists.{In, Apart}
use Rattle.lang_making.proofs.Maps.{taken_or}

-- the number that the node has
abbrev pub number_of : List ℕ → ℕ → ℕ
number_of [] n = 0
number_of (m ∷ ms) n = if m == n then suc (length ms) else number_of ms n

-- the node that has the number
abbrev pub met_as : List ℕ → ℕ → Option ℕ
met_as [] k = None
met_as (m ∷ ms) k = if k == suc (length ms) then Some m else met_as ms k

pub number_here : (m n : ℕ) (ms : List ℕ) → n ≡ m → number_of (m ∷ ms) n ≡ suc (length ms)
number_here m n ms e = ap (λ b. if b then suc (length ms) else number_of ms n) (eq-eqb m n (sym e))

pub number_there : (m n : ℕ) (ms : List ℕ) → (n ≡ m → ⊥) → number_of (m ∷ ms) n ≡ number_of ms n
number_there m n ms apart = ap (λ b. if b then suc (length ms) else number_of ms n) (ne_eqb m n (λ e. apart (sym e)))

pub met_here : (m k : ℕ) (ms : List ℕ) → k ≡ suc (length ms) → met_as (m ∷ ms) k ≡ Some m
met_here m k ms e = ap (λ b. if b then Some m else met_as ms k) (eq-eqb k (suc (length ms)) e)

pub met_there : (m k : ℕ) (ms : List ℕ) → (k ≡ suc (length ms) → ⊥) → met_as (m ∷ ms) k ≡ met_as ms k
met_there m k ms apart = ap (λ b. if b then Some m else met_as ms k) (ne_eqb k (suc (length ms)) apart)

number_low : (ms : List ℕ) (n : ℕ) → number_of ms n ≤ length ms
number_low [] n = omega arith
number_low (m ∷ ms) n = by (m == n) (number_low ms n)
  where
    by : (b : Bool) → number_of ms n ≤ length ms → (if b then suc (length ms) else number_of ms n) ≤ suc (length ms)
    by true h = omega arith
    by false h = omega (arith, h)

met_within : (ms : List ℕ) (k n : ℕ) → met_as ms k ≡ Some n → (1 ≤ k) × (k ≤ length ms)
met_within [] k n e = absurd (none-some n e)
met_within (m ∷ ms) k n e = by (k == suc (length ms)) refl e (met_within ms k n)
  where
    by : (b : Bool) → (k == suc (length ms)) ≡ b → (if b then Some m else met_as ms k) ≡ Some n → (met_as ms k ≡ Some n → (1 ≤ k) × (k ≤ length ms)) → (1 ≤ k) × (k ≤ suc (length ms))
    by true is e later = let same : k ≡ suc (length ms) = eqb-true k (suc (length ms)) is in (omega (arith, same), omega (arith, same))
    by false is e later = let r = later e in (r.0, omega (arith, r.1))

pub met_past : (ms : List ℕ) (k : ℕ) → length ms < k → met_as ms k ≡ None
met_past ms k past = by (met_as ms k) refl
  where
    by : (o : Option ℕ) → met_as ms k ≡ o → met_as ms k ≡ None
    by None is = is
    by (Some n) is = let r = met_within ms k n is in absurd (omega (arith, r.1, past))

-- each number up to the last one is that of a node that was met
pub met_some : (ms : List ℕ) (k : ℕ) → 1 ≤ k → k ≤ length ms → (n : ℕ) × (met_as ms k ≡ Some n)
met_some [] k low high = absurd (omega (arith, low, high))
met_some (m ∷ ms) k low high = by (cases_eq k (suc (length ms))) (met_some ms k low)
  where
    by : (k ≡ suc (length ms)) ⊎ (k ≡ suc (length ms) → ⊥) → (k ≤ length ms → (n : ℕ) × (met_as ms k ≡ Some n)) → (n : ℕ) × (met_as (m ∷ ms) k ≡ Some n)
    by (inl e) later = (m, met_here m k ms e)
    by (inr apart) later = let r = later (omega (arith, high, apart)) in (r.0, met_there m k ms apart ∙ r.1)

-- where no node was met twice, the number of one that was met is its own alone
pub met_number : (ms : List ℕ) (n : ℕ) → Apart ms → In ms n → met_as ms (number_of ms n) ≡ Some n
met_number [] n once e = absurd e
met_number (m ∷ ms) n once e = by (cases_eq n m) e (met_number ms n once.1)
  where
    by : (n ≡ m) ⊎ (n ≡ m → ⊥) → In (m ∷ ms) n → (In ms n → met_as ms (number_of ms n) ≡ Some n) → met_as (m ∷ ms) (number_of (m ∷ ms) n) ≡ Some n
    by (inl is) e later = met_here m (number_of (m ∷ ms) n) ms (number_here m n ms is) ∙ ap Some (sym is)
    by (inr apart) (inl is) later = absurd (apart is)
    by (inr apart) (inr there) later =
        let low = number_low ms n in
        ap (met_as (m ∷ ms)) (number_there m n ms apart) ∙ met_there m (number_of ms n) ms (λ e. omega (arith, low, e)) ∙ later there

pub number_met : (ms : List ℕ) (k n : ℕ) → Apart ms → met_as ms k ≡ Some n → (number_of ms n ≡ k) × In ms n
number_met [] k n once e = absurd (none-some n e)
number_met (m ∷ ms) k n once e = by (cases_eq k (suc (length ms))) (number_met ms k n once.1)
  where
    by : (k ≡ suc (length ms)) ⊎ (k ≡ suc (length ms) → ⊥) → (met_as ms k ≡ Some n → (number_of ms n ≡ k) × In ms n) → (number_of (m ∷ ms) n ≡ k) × In (m ∷ ms) n
    by (inl is) later =
        let same : n ≡ m = same_Some n m (sym e ∙ met_here m k ms is) in
        (number_here m n ms same ∙ sym is, inl same)
    by (inr apart) later =
        let r = later (sym (met_there m k ms apart) ∙ e) in
        (number_there m n ms (λ same. once.0 (subst (In ms) same r.1)) ∙ r.0, inr r.1)

-- There are no more nodes met than the map has.

pub keyed : (nodes : Nodes) (n : ℕ) (x : Thing) → get nodes n ≡ Some x → len nodes ≡ suc (len (remove nodes n))
keyed nodes n x there = by (cases_eq (len nodes) 0)
  where
    less : len (remove nodes n) ≡ len nodes - 1
    less = len-remove nat_cmp_total nodes n ∙ ap (λ o. cond (is_some o) (len nodes - 1) (len nodes)) there

    by : (len nodes ≡ 0) ⊎ (len nodes ≡ 0 → ⊥) → len nodes ≡ suc (len (remove nodes n))
    by (inl none) = absurd (none-some x (sym (ap (λ (m : Nodes). get m n) (empty_of_len nodes none) ∙ get-empty nat_cmp n) ∙ there))
    by (inr some) = omega (arith, less, some)

pub few_met : (ms : List ℕ) (nodes : Nodes) → Apart ms → ((n : ℕ) → In ms n → (x : Thing) × (get nodes n ≡ Some x)) → length ms ≤ len nodes
few_met [] nodes once has = omega arith
few_met (m ∷ ms) nodes once has =
    let there = has m (inl refl) in
    let rest = few_met ms (remove nodes m) once.1 (λ n e. by n e (taken_or nat_cmp_total nat_cmp-IsAntisymmetric nodes m n)) in
    omega (arith, rest, keyed nodes m there.0 there.1)
  where
    by : (n : ℕ) → In ms n → (n ≡ m) ⊎ (get (remove nodes m) n ≡ get nodes n) → (x : Thing) × (get (remove nodes m) n ≡ Some x)
    by n e (inl same) = absurd (once.0 (subst (In ms) same e))
    by n e (inr is) = let r = has n (inr e) in (r.0, is ∙ r.1)

-- The least number that passes, where none below it does.
pub first_from : (test : ℕ → Bool) (a k count : ℕ) → k < count → ((j : ℕ) → a ≤ j → j < a + k → test j ≡ false) → test (a + k) ≡ true → first test (range_with_len a count) ≡ Some (a + k)
first_from test a k zero low none pass = absurd (omega (arith, low))
first_from test a zero (suc count) low none pass =
    let here : a + 0 ≡ a = omega arith in
    ap (λ b. if b then Some a else first test (range_with_len (a + 1) count)) (ap test (sym here) ∙ pass) ∙ ap Some (sym here)
first_from test a (suc k) (suc count) low none pass =
    let next : (a + 1) + k ≡ a + suc k = omega arith in
    ap (λ b. if b then Some a else first test (range_with_len (a + 1) count)) (none a (omega arith) (omega arith))
    ∙ first_from test (a + 1) k count (omega (arith, low)) (λ j from upto. none j (omega (arith, from)) (omega (arith, upto))) (ap test next ∙ pass)
    ∙ ap Some next
