-- Options, and paths by their last name.
use Rattle.std.proofs.Common.{◌≡◌, ℕ, Bool, true, false, List, [], ◌∷◌, ◌++◌, ◌-◌, length, bytes_eq, Option, Some, None, is_some, if◌then◌else◌, refl, ap, ◌∙◌, ◌⊎◌, inl, inr, length-append, arith, take_at}
use Rattle.std.proofs.lemmas.Bool.{cases_Bool, cases_eq}
use Rattle.std.proofs.lemmas.List.{same_from_push}
use Rattle.std.proofs.lemmas.Slice.Eq.{bytes_eq-Decides}
use Rattle.std.proofs.lemmas.Option.{same_Some, none-some}
use Rattle.lang_tree.specs.Paths.{strip, is_within, parent}

-- a path as the list of its names
abbrev pub Path : Type 0
Path = List (List ℕ)

-- an option is nothing or something
pub which : {A : Type 0} (o : Option A) → (o ≡ None) ⊎ ((x : A) × (o ≡ Some x))
which None = inl refl
which (Some x) = inr (x, refl)

-- one name is another one, or not
pub which_name : (a b : List ℕ) → (a ≡ b) ⊎ (a ≡ b → ⊥)
which_name a b = grind (arith, cases_Bool (bytes_eq a b), bytes_eq-Decides)

-- a name is itself
pub same_name : (a : List ℕ) → bytes_eq a a ≡ true
same_name a = (bytes_eq-Decides a a).1 refl

-- names that differ fail the test
pub other_name : (a b : List ℕ) → (a ≡ b → ⊥) → bytes_eq a b ≡ false
other_name a b off = grind (arith, cases_Bool (bytes_eq a b), bytes_eq-Decides)

-- a number with a name is another one, or not
pub which_entry : (k d : ℕ) (a b : List ℕ) → ((k ≡ d) × (a ≡ b)) ⊎ ((k ≡ d) × (a ≡ b) → ⊥)
which_entry k d a b = grind (arith, cases_eq k d, which_name a b)

-- two paths with a last name each are equal in both parts
pub last_same : (p q : Path) (a b : List ℕ) → p ++ a ∷ [] ≡ q ++ b ∷ [] → (p ≡ q) × (a ≡ b)
last_same p q a b e = let both = same_from_push p q a b e in (both.0, both.1)

-- a path with a last name isn't the root
pub no_end : (p : Path) (a : List ℕ) → p ++ a ∷ [] ≡ [] → ⊥
no_end [] a e = cc
no_end (x ∷ p) a e = cc

-- the parent of a path with a last name is the path before it
pub parent_end : (up : Path) (name : List ℕ) → parent (up ++ name ∷ []) ≡ up
parent_end up name = take_at up (name ∷ []) (length (up ++ name ∷ []) - 1) (omega (arith, length-append up (name ∷ [])))

-- a path is the root, or it has a last name
pub from_end : (p : Path) → (p ≡ []) ⊎ ((up : Path) × (name : List ℕ) × (p ≡ up ++ name ∷ []))
from_end [] = inl refl
from_end (a ∷ p) = by (from_end p)
  where
    by : (p ≡ []) ⊎ ((up : Path) × (name : List ℕ) × (p ≡ up ++ name ∷ [])) → (a ∷ p ≡ []) ⊎ ((up : Path) × (name : List ℕ) × (a ∷ p ≡ up ++ name ∷ []))
    by (inl e) = inr ([], a, ap (λ p. a ∷ p) e)
    by (inr s) = inr (a ∷ s.0, s.1, ap (λ p. a ∷ p) s.2)

-- what is left of a path is behind its front
pub strip_is : (p q r : Path) → strip p q ≡ Some r → q ≡ p ++ r
strip_is [] q r e = same_Some q r e
strip_is (a ∷ p) [] r e = absurd (none-some r e)
strip_is (a ∷ p) (b ∷ q) r e = by (bytes_eq a b) refl (strip_is p q r) e
  where
    by : (t : Bool) → bytes_eq a b ≡ t → (strip p q ≡ Some r → q ≡ p ++ r) → (if t then strip p q else None) ≡ Some r → b ∷ q ≡ (a ∷ p) ++ r
    by t h1 h2 h3 = grind (arith, bytes_eq-Decides, none-some)

-- a path behind its front is what is left
pub strip_join : (p r : Path) → strip p (p ++ r) ≡ Some r
strip_join [] r = refl
strip_join (a ∷ p) r = ap (λ t. if t then strip p (p ++ r) else None) (same_name a) ∙ strip_join p r

-- a path lies within another one that it begins with
pub within_at : (p q r : Path) → q ≡ p ++ r → is_within p q ≡ true
within_at p q r e = ap is_some (ap (strip p) e ∙ strip_join p r)

-- a path lies at or below another one, or not
pub which_side : (p q : Path) → ((r : Path) × (q ≡ p ++ r)) ⊎ ((r : Path) → q ≡ p ++ r → ⊥)
which_side p q = grind (arith, which (strip p q), none-some, strip_join, strip_is)

-- a path that doesn't begin with another one doesn't lie there
pub away : (p q : Path) → ((r : Path) → q ≡ p ++ r → ⊥) → is_within p q ≡ false
away p q off = by (which (strip p q))
  where
    by : (strip p q ≡ None) ⊎ ((r : Path) × (strip p q ≡ Some r)) → is_within p q ≡ false
    by (inl none) = ap is_some none
    by (inr some) = absurd (off some.0 (strip_is p q some.0 some.1))
