-- How many slots name a node, one slot and one directory more.
use Rattle.std.proofs.Common.{◌≡◌, ℕ, zero, suc, ◌+◌, ◌-◌, ◌^◌, ◌<◌, ◌==◌, min, true, false, Bool, cond, List, [], ◌∷◌, ◌++◌, length, set, get_or, Some, slice_get, refl, sym, ap, ◌∙◌, arith, subst, get_or-set_same, get_or-set_other, ⊎_elim}
use Rattle.std.proofs.lemmas.Bool.{cases_eq, cases_lt, ne_eqb, eq-eqb}
use Rattle.std.proofs.lemmas.Option.{same_Some}
use Rattle.layout_bytes.specs.declared.slot.Slot.{Slot}
use Rattle.crash_stands.specs.Inodes.{Inodes}
use Rattle.fs_inodes.specs.Links.{naming, naming_from}
use Rattle.fs_inodes.specs.Lookups.{slots_of}
use Rattle.fs_check.specs.declared.looked.Looked.{Looked}
use Rattle.fs_check.specs.Slots.{capped, AreCounted, MayName}

pub naming-append : (n : ℕ) (xs ys : List Slot) → naming n (xs ++ ys) ≡ naming n xs + naming n ys
naming-append n [] ys = omega arith
naming-append n (s ∷ xs) ys = omega (arith, naming-append n xs ys)

-- the directories up to one number more
pub naming_from-more : (m : Inodes) (n k c : ℕ) → naming_from m n k (c + 1) ≡ naming_from m n k c + naming n (slots_of (m (k + c)))
naming_from-more m n k zero =
    let e : k + zero ≡ k = omega arith in
    omega (arith, ap (λ j. naming n (slots_of (m j))) e)
naming_from-more m n k (suc c) =
    let one : suc c + 1 ≡ suc (c + 1) = omega arith in
    let at : k + 1 + c ≡ k + suc c = omega arith in
    ap (naming_from m n k) one ∙ omega (arith, naming_from-more m n (k + 1) c, ap (λ j. naming n (slots_of (m j))) at)

capped_more : (a b c : ℕ) → a ≡ capped b → c ≡ min (a + 1) (2 ^ 64 - 1) → c ≡ capped (b + 1)
capped_more a b c h is = omega arith

abbrev one_if : Bool → ℕ
one_if b = cond b 1 0

one_true : (b : Bool) → b ≡ true → one_if b ≡ 1
one_true true e = refl
one_true false e = absurd cc

one_false : (b : Bool) → b ≡ false → one_if b ≡ 0
one_false true e = absurd cc
one_false false e = refl

naming_same : (n : ℕ) (slots : List Slot) (s : Slot) → n ≡ s.node → naming n (slots ++ s ∷ []) ≡ naming n slots + 1
naming_same n slots s e = omega (arith, naming-append n slots (s ∷ []), one_true (s.node == n) (eq-eqb s.node n (sym e)))

naming_other : (n : ℕ) (slots : List Slot) (s : Slot) → (n ≡ s.node → ⊥) → naming n (slots ++ s ∷ []) ≡ naming n slots
naming_other n slots s e = omega (arith, naming-append n slots (s ∷ []), one_false (s.node == n) (ne_eqb s.node n (λ h. e (sym h))))

-- one slot more
pub count_more : (slots : List Slot) (named now : List ℕ) (s : Slot) (v : ℕ) → length now ≡ length named → AreCounted slots named now → s.node < length named → v ≡ min (get_or now s.node 0 + 1) (2 ^ 64 - 1)
    → AreCounted (slots ++ s ∷ []) named (set now s.node v)
count_more slots named now s v same counted inside is n low = ⊎_elim (λ e. ap (λ k. get_or (set now s.node v) k 0) e
    ∙ get_or-set_same now s.node v 0 (omega (arith, same, inside))
    ∙ capped_more (get_or now s.node 0) (get_or named n 0 + naming n slots) v (ap (λ k. get_or now k 0) (sym e) ∙ counted n low) is
    ∙ ap capped (omega (arith, naming_same n slots s e)))
    (λ apart. get_or-set_other now s.node n v 0 apart
    ∙ counted n low
    ∙ ap (λ k. capped (get_or named n 0 + k)) (sym (naming_other n slots s apart)))
    (cases_eq n s.node)

-- one slot more that may name what it names
pub names_more : (nodes : List Looked) (slots : List Slot) (at : ℕ) (s : Slot) → slice_get slots at ≡ Some s → ((i : ℕ) (t : Slot) → i < at → slice_get slots i ≡ Some t → MayName nodes t.node) → MayName nodes s.node
    → (i : ℕ) (t : Slot) → i < at + 1 → slice_get slots i ≡ Some t → MayName nodes t.node
names_more nodes slots at s here before may i t low is = ⊎_elim (λ less. before i t less is)
    (λ more. let e : at ≡ i = omega (arith, low, more) in
    let same : s ≡ t = same_Some s t (sym here ∙ ap (slice_get slots) e ∙ is) in
    subst (λ (u : Slot). MayName nodes u.node) same may)
    (cases_lt i at)

pub capped_sum : (a b : ℕ) → capped (capped a + b) ≡ capped (a + b)
capped_sum a b = omega arith
