-- What lies at or below a path: its front is that path. Two paths, one with a name more, lie there together.
use Rattle.std.proofs.Common.{◌≡◌, ℕ, ◌-◌, arith, Bool, true, false, List, [], ◌∷◌, ◌++◌, length, bytes_eq, Option, Some, None, is_some, if◌then◌else◌, refl, sym, ap, ◌∙◌, ◌⊎◌, inl, inr, append_assoc, append-nil, take_at}
use Rattle.std.proofs.lemmas.List.{same_from_push, length-append}
use Rattle.std.proofs.lemmas.Slice.Eq.{bytes_eq-Decides}
use Rattle.std.proofs.lemmas.Option.{same_Some, none-some}
use Rattle.lang_tree.specs.Paths.{strip, is_within, is_below, has_names, parent}

pub lacks : {A : Type 0} (o : Option A) → is_some o ≡ false → o ≡ None
lacks o h1 = grind arith

pub has : {A : Type 0} (o : Option A) → is_some o ≡ true → (x : A) × (o ≡ Some x)
has o h1 = grind arith

-- what is left of a path is behind its front
pub strip_is : (p q r : List (List ℕ)) → strip p q ≡ Some r → q ≡ p ++ r
strip_is [] q r e = same_Some q r e
strip_is (a ∷ p) [] r e = absurd (none-some r e)
strip_is (a ∷ p) (b ∷ q) r e = by (bytes_eq a b) refl (strip_is p q r) e
  where
    by : (t : Bool) → bytes_eq a b ≡ t → (strip p q ≡ Some r → q ≡ p ++ r) → (if t then strip p q else None) ≡ Some r → b ∷ q ≡ (a ∷ p) ++ r
    by t h1 h2 h3 = grind (arith, bytes_eq-Decides, none-some)

pub strip_join : (p r : List (List ℕ)) → strip p (p ++ r) ≡ Some r
strip_join [] r = refl
strip_join (a ∷ p) r = ap (λ t. if t then strip p (p ++ r) else None) ((bytes_eq-Decides a a).1 refl) ∙ strip_join p r

pub strip_at : (p q r : List (List ℕ)) → q ≡ p ++ r → strip p q ≡ Some r
strip_at p q r e = ap (strip p) e ∙ strip_join p r

pub not_behind : (p q r : List (List ℕ)) → strip p q ≡ None → q ≡ p ++ r → ⊥
not_behind p q r none e = none-some r (sym none ∙ strip_at p q r e)

pub within_is : (p q : List (List ℕ)) → is_within p q ≡ true → (r : List (List ℕ)) × (q ≡ p ++ r)
within_is p q e = let r = has (strip p q) e in (r.0, strip_is p q r.0 r.1)

pub within_at : (p q r : List (List ℕ)) → q ≡ p ++ r → is_within p q ≡ true
within_at p q r e = ap is_some (strip_at p q r e)

pub below_is : (p q : List (List ℕ)) → is_below p q ≡ true → (name : List ℕ) × (r : List (List ℕ)) × (q ≡ p ++ name ∷ r)
below_is p q e = by (strip p q) refl e
  where
    by : (o : Option (List (List ℕ))) → strip p q ≡ o → has_names o ≡ true → (name : List ℕ) × (r : List (List ℕ)) × (q ≡ p ++ name ∷ r)
    by None is e = absurd cc
    by (Some []) is e = absurd cc
    by (Some (name ∷ r)) is e = (name, r, strip_is p q (name ∷ r) is)

pub below_at : (p q r : List (List ℕ)) (name : List ℕ) → q ≡ p ++ name ∷ r → is_below p q ≡ true
below_at p q r name e = ap has_names (strip_at p q (name ∷ r) e)

-- a path is the root, or it has a last name
pub from_end : (p : List (List ℕ)) → (p ≡ []) ⊎ ((up : List (List ℕ)) × (name : List ℕ) × (p ≡ up ++ name ∷ []))
from_end [] = inl refl
from_end (a ∷ p) = by (from_end p)
  where
    by : (p ≡ []) ⊎ ((up : List (List ℕ)) × (name : List ℕ) × (p ≡ up ++ name ∷ [])) → (a ∷ p ≡ []) ⊎ ((up : List (List ℕ)) × (name : List ℕ) × (a ∷ p ≡ up ++ name ∷ []))
    by (inl e) = inr ([], a, ap (λ p. a ∷ p) e)
    by (inr s) = inr (a ∷ s.0, s.1, ap (λ p. a ∷ p) s.2)

pub no_append : (up : List (List ℕ)) (name : List ℕ) → up ++ name ∷ [] ≡ [] → ⊥
no_append [] name e = cc
no_append (x ∷ up) name e = cc

-- the parent of what lies at or below p is p's parent, or lies there too
pub parted : (p up r : List (List ℕ)) (name : List ℕ) → up ++ name ∷ [] ≡ p ++ r
    → ((r ≡ []) × (p ≡ up ++ name ∷ [])) ⊎ ((s : List (List ℕ)) × (r ≡ s ++ name ∷ []) × (up ≡ p ++ s))
parted p up r name e = by (from_end r)
  where
    by : (r ≡ []) ⊎ ((s : List (List ℕ)) × (x : List ℕ) × (r ≡ s ++ x ∷ []))
        → ((r ≡ []) × (p ≡ up ++ name ∷ [])) ⊎ ((s : List (List ℕ)) × (r ≡ s ++ name ∷ []) × (up ≡ p ++ s))
    by (inl none) = inl (none, sym (append-nil p) ∙ ap (λ r. p ++ r) (sym none) ∙ sym e)
    by (inr t) =
        let both = same_from_push up (p ++ t.0) name t.1 (e ∙ ap (λ r. p ++ r) t.2 ∙ sym (append_assoc p t.0 (t.1 ∷ []))) in
        inr (t.0, t.2 ∙ ap (λ x. t.0 ++ x ∷ []) (sym both.1), both.0)

pub parent_append : (up : List (List ℕ)) (name : List ℕ) → parent (up ++ name ∷ []) ≡ up
parent_append up name = take_at up (name ∷ []) (length (up ++ name ∷ []) - 1) (omega (arith, length-append up (name ∷ [])))
