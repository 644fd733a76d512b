-- What is in a list, and lists that have each element once or in a rising order.
use Rattle.std.proofs.Common.{◌≡◌, Bool, true, false, cond, List, [], ◌∷◌, ◌++◌, map, Option, Some, None, refl, sym, ap, ◌∙◌, ◌⊎◌, inl, inr}
use Rattle.std.specs.List.{flat_map, filter_map, cons_option}
use Rattle.std.specs.Prelude.{find}
use Rattle.std.proofs.lemmas.Option.{same_Some, none-some}

-- x is an element
abbrev pub In : {A : Type 0} → List A → A → Type 0
In [] x = ⊥
In (y ∷ ys) x = (x ≡ y) ⊎ In ys x

-- no element stands twice
abbrev pub Apart : {A : Type 0} → List A → Type 0
Apart [] = Unit {0}
Apart (x ∷ xs) = (In xs x → ⊥) × Apart xs

module _ {A : Type 0} where
  pub in_left : (xs ys : List A) (x : A) → In xs x → In (xs ++ ys) x
  in_left [] ys x e = absurd e
  in_left (y ∷ xs) ys x (inl e) = inl e
  in_left (y ∷ xs) ys x (inr e) = inr (in_left xs ys x e)

  pub in_right : (xs ys : List A) (x : A) → In ys x → In (xs ++ ys) x
  in_right [] ys x e = e
  in_right (y ∷ xs) ys x e = inr (in_right xs ys x e)

  pub in_either : (xs ys : List A) (x : A) → In (xs ++ ys) x → In xs x ⊎ In ys x
  in_either [] ys x e = inr e
  in_either (y ∷ xs) ys x (inl e) = inl (inl e)
  in_either (y ∷ xs) ys x (inr e) = by (in_either xs ys x e)
    where
      by : In xs x ⊎ In ys x → In (y ∷ xs) x ⊎ In ys x
      by (inl e) = inl (inr e)
      by (inr e) = inr e

  pub in_middle : (xs ys : List A) (x : A) → In (xs ++ x ∷ ys) x
  in_middle xs ys x = in_right xs (x ∷ ys) x (inl refl)

  -- the element behind the others, or one of them
  pub in_push : (xs : List A) (y x : A) → In (xs ++ y ∷ []) x → In xs x ⊎ (x ≡ y)
  in_push xs y x e = by (in_either xs (y ∷ []) x e)
    where
      by : In xs x ⊎ In (y ∷ []) x → In xs x ⊎ (x ≡ y)
      by (inl e) = inl e
      by (inr (inl e)) = inr e
      by (inr (inr e)) = absurd e

  -- where each element stands once, one isn't among those before it, nor among those behind it
  pub apart_before : (xs ys : List A) (x : A) → Apart (xs ++ x ∷ ys) → In xs x → ⊥
  apart_before [] ys x once e = e
  apart_before (y ∷ xs) ys x once (inl e) = once.0 (in_right xs (x ∷ ys) y (inl (sym e)))
  apart_before (y ∷ xs) ys x once (inr e) = apart_before xs ys x once.1 e

module _ {A B : Type 0} where
  pub in_map : (f : A → B) (xs : List A) (x : A) → In xs x → In (map f xs) (f x)
  in_map f [] x e = e
  in_map f (y ∷ xs) x (inl e) = inl (ap f e)
  in_map f (y ∷ xs) x (inr e) = inr (in_map f xs x e)

  pub map_in : (f : A → B) (xs : List A) (y : B) → In (map f xs) y → (x : A) × In xs x × (y ≡ f x)
  map_in f [] y e = absurd e
  map_in f (x ∷ xs) y (inl e) = (x, inl refl, e)
  map_in f (x ∷ xs) y (inr e) = let r = map_in f xs y e in (r.0, inr r.1, r.2)

  pub in_flat : (f : A → List B) (xs : List A) (x : A) (y : B) → In xs x → In (f x) y → In (flat_map f xs) y
  in_flat f [] x y e is = absurd e
  in_flat f (z ∷ xs) x y (inl e) is = in_left (f z) (flat_map f xs) y (by z e)
    where
      by : (z : A) → x ≡ z → In (f z) y
      by z e = rw (← e) is
  in_flat f (z ∷ xs) x y (inr e) is = in_right (f z) (flat_map f xs) y (in_flat f xs x y e is)

  pub flat_in : (f : A → List B) (xs : List A) (y : B) → In (flat_map f xs) y → (x : A) × In xs x × In (f x) y
  flat_in f [] y e = absurd e
  flat_in f (x ∷ xs) y e = by (flat_in f xs y) (in_either (f x) (flat_map f xs) y e)
    where
      by : (In (flat_map f xs) y → (z : A) × In xs z × In (f z) y) → In (f x) y ⊎ In (flat_map f xs) y → (z : A) × In (x ∷ xs) z × In (f z) y
      by later (inl e) = (x, inl refl, e)
      by later (inr e) = let r = later e in (r.0, inr r.1, r.2)

module _ {B : Type 0} where
  pub in_cons : (o : Option B) (ys : List B) (y : B) → In ys y → In (cons_option o ys) y
  in_cons None ys y e = e
  in_cons (Some z) ys y e = inr e

module _ {A B : Type 0} where
  pub in_filtered : (h : A → Option B) (xs : List A) (x : A) (y : B) → In xs x → h x ≡ Some y → In (filter_map h xs) y
  in_filtered h [] x y e is = absurd e
  in_filtered h (z ∷ xs) x y (inl e) is = by (h z) (ap h (sym e) ∙ is)
    where
      by : (o : Option B) → o ≡ Some y → In (cons_option o (filter_map h xs)) y
      by None none = absurd (none-some y none)
      by (Some w) some = inl (sym (same_Some w y some))
  in_filtered h (z ∷ xs) x y (inr e) is = in_cons (h z) (filter_map h xs) y (in_filtered h xs x y e is)

  pub filtered_in : (h : A → Option B) (xs : List A) (y : B) → In (filter_map h xs) y → (x : A) × In xs x × (h x ≡ Some y)
  filtered_in h [] y e = absurd e
  filtered_in h (x ∷ xs) y e = by (filtered_in h xs y) (h x) refl e
    where
      by : (In (filter_map h xs) y → (z : A) × In xs z × (h z ≡ Some y)) → (o : Option B) → h x ≡ o → In (cons_option o (filter_map h xs)) y
          → (z : A) × In (x ∷ xs) z × (h z ≡ Some y)
      by later None is e = let r = later e in (r.0, inr r.1, r.2)
      by later (Some w) is (inl e) = (x, inl refl, is ∙ ap Some (sym e))
      by later (Some w) is (inr e) = let r = later e in (r.0, inr r.1, r.2)

-- The first element that passes a test.

module _ {A : Type 0} (test : A → Bool) where
  -- it is among those in front where one of them passes, and else it is this one where it passes
  abbrev pub Finds : List A → A → List A → Type 0
  Finds before x later = ((y : A) × In before y × (test y ≡ true) × (find test (before ++ x ∷ later) ≡ Some y))
      ⊎ (((y : A) → In before y → test y ≡ false) × (find test (before ++ x ∷ later) ≡ Some x))

  pub finds : (before later : List A) (x : A) → test x ≡ true → Finds before x later
  finds [] later x pass = inr ((λ y e. absurd e), ap (λ b. cond b (Some x) (find test later)) pass)
  finds (z ∷ before) later x pass = by (test z) refl (finds before later x pass)
    where
      by : (b : Bool) → test z ≡ b → Finds before x later → Finds (z ∷ before) x later
      by true is rest = inl (z, inl refl, is, ap (λ b. cond b (Some z) (find test (before ++ x ∷ later))) is)
      by false is (inl r) = inl (r.0, inr r.1, r.2, ap (λ b. cond b (Some z) (find test (before ++ x ∷ later))) is ∙ r.3)
      by false is (inr r) = inr (none, ap (λ b. cond b (Some z) (find test (before ++ x ∷ later))) is ∙ r.1)
        where
          none : (y : A) → In (z ∷ before) y → test y ≡ false
          none y (inl e) = ap test e ∙ is
          none y (inr e) = r.0 y e
