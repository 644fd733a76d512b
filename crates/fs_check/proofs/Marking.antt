-- Marks of nodes: one node more, and one list of nodes behind another.
use Rattle.std.proofs.Common.{◌≡◌, ℕ, zero, suc, ◌+◌, ◌<◌, ◌≤◌, true, false, Bool, List, [], ◌∷◌, ◌++◌, length, set, get_or, slice_get, None, Some, refl, sym, ap, ◌∙◌, arith, subst, ◌⊎◌, inl, inr, append_assoc, length-append, length-set, get_or-set_same, get_or-set_other}
use Rattle.std.proofs.lemmas.Bool.{cases_eq}
use Rattle.fs_check.specs.declared.looked.Looked.{Looked}
use Rattle.fs_check.specs.Marks.{has_mark, marked, Stands, WasDir, Marks}

-- What stands in lists.

pub stands_here : (k : ℕ) → Stands (k ∷ []) k
stands_here k = record { place = zero; at = refl }

same_some : (a b : ℕ) → Some a ≡ Some b → a ≡ b
same_some a b e = cc

alone : (k n i : ℕ) → slice_get (k ∷ []) i ≡ Some n → n ≡ k
alone k n zero h = sym (same_some k n h)
alone k n (suc i) h = absurd cc

pub stands_alone : (k n : ℕ) → Stands (k ∷ []) n → n ≡ k
stands_alone k n s = alone k n s.place s.at

pub stands_none : (k : ℕ) → Stands [] k → ⊥
stands_none k s = none s.at
  where
    none : None ≡ Some k → ⊥
    none e = absurd cc

left : (xs ys : List ℕ) (i k : ℕ) → slice_get xs i ≡ Some k → slice_get (xs ++ ys) i ≡ Some k
left [] ys i k h = absurd cc
left (x ∷ xs) ys zero k h = h
left (x ∷ xs) ys (suc i) k h = left xs ys i k h

pub stands_left : (xs ys : List ℕ) (k : ℕ) → Stands xs k → Stands (xs ++ ys) k
stands_left xs ys k s = record { place = s.place; at = left xs ys s.place k s.at }

pub stands_right : (xs ys : List ℕ) (k : ℕ) → Stands ys k → Stands (xs ++ ys) k
stands_right [] ys k s = s
stands_right (x ∷ xs) ys k s = let r = stands_right xs ys k s in record { place = suc r.place; at = r.at }

later : (x : ℕ) (xs ys : List ℕ) (k : ℕ) → Stands xs k ⊎ Stands ys k → Stands (x ∷ xs) k ⊎ Stands ys k
later x xs ys k (inl s) = inl (record { place = suc s.place; at = s.at })
later x xs ys k (inr s) = inr s

split : (xs ys : List ℕ) (k i : ℕ) → slice_get (xs ++ ys) i ≡ Some k → Stands xs k ⊎ Stands ys k
split [] ys k i h = inr (record { place = i; at = h })
split (x ∷ xs) ys k zero h = inl (record { place = zero; at = h })
split (x ∷ xs) ys k (suc i) h = later x xs ys k (split xs ys k i h)

pub stands_split : (xs ys : List ℕ) (k : ℕ) → Stands (xs ++ ys) k → Stands xs k ⊎ Stands ys k
stands_split xs ys k s = split xs ys k s.place s.at

-- How many marks there are.

pub marked_most : (marks : List Bool) → marked marks ≤ length marks
marked_most [] = omega arith
marked_most (true ∷ bs) = omega (arith, marked_most bs)
marked_most (false ∷ bs) = omega (arith, marked_most bs)

pub marked_set : (marks : List Bool) (i : ℕ) → i < length marks → get_or marks i false ≡ false → marked (set marks i true) ≡ marked marks + 1
marked_set [] i low h = absurd (omega (arith, low))
marked_set (true ∷ bs) zero low h = absurd cc
marked_set (false ∷ bs) zero low h = omega arith
marked_set (true ∷ bs) (suc i) low h = omega (arith, marked_set bs i (omega arith) h)
marked_set (false ∷ bs) (suc i) low h = omega (arith, marked_set bs i (omega arith) h)

-- Marks.

-- these nodes, and then those
pub marks_more : (nodes : List Looked) (ns os : List ℕ) (a b c : List Bool) (p q r : List ℕ) → Marks nodes ns a b p q → Marks nodes os b c q r → Marks nodes (ns ++ os) a c p r
marks_more nodes ns os a b c p q r h g = record {
  count = g.count ∙ h.count;
  keeps = λ k m. g.keeps k (h.keeps k m);
  each = λ k s low. each k low (stands_split ns os k s);
  only = λ k m. only k (g.only k m);
  front = (h.front.0 ++ g.front.0, g.front.1 ∙ ap (λ xs. xs ++ g.front.0) h.front.1 ∙ append_assoc p h.front.0 g.front.0);
  queued = λ k m dir. queued k dir (g.queued k m dir);
  dirs = λ k s. dirs k (g.dirs k s);
  room = omega (arith, h.room, g.room);
}
  where
    each : (k : ℕ) → k < length a → Stands ns k ⊎ Stands os k → has_mark c k ≡ true
    each k low (inl s) = g.keeps k (h.each k s low)
    each k low (inr s) = g.each k s (omega (arith, h.count, low))

    first : (k : ℕ) → (has_mark a k ≡ true) ⊎ Stands ns k → (has_mark a k ≡ true) ⊎ Stands (ns ++ os) k
    first k (inl m) = inl m
    first k (inr s) = inr (stands_left ns os k s)

    only : (k : ℕ) → (has_mark b k ≡ true) ⊎ Stands os k → (has_mark a k ≡ true) ⊎ Stands (ns ++ os) k
    only k (inl m) = first k (h.only k m)
    only k (inr s) = inr (stands_right ns os k s)

    before : (k : ℕ) → (has_mark a k ≡ true) ⊎ Stands q k → (has_mark a k ≡ true) ⊎ Stands r k
    before k (inl m) = inl m
    before k (inr s) = inr (subst (λ xs. Stands xs k) (sym g.front.1) (stands_left q g.front.0 k s))

    queued : (k : ℕ) → WasDir nodes k → (has_mark b k ≡ true) ⊎ Stands r k → (has_mark a k ≡ true) ⊎ Stands r k
    queued k dir (inl m) = before k (h.queued k m dir)
    queued k dir (inr s) = inr s

    still : (k : ℕ) → Stands p k ⊎ ((has_mark b k ≡ true) × WasDir nodes k) → Stands p k ⊎ ((has_mark c k ≡ true) × WasDir nodes k)
    still k (inl s) = inl s
    still k (inr m) = inr (g.keeps k m.0, m.1)

    dirs : (k : ℕ) → Stands q k ⊎ ((has_mark c k ≡ true) × WasDir nodes k) → Stands p k ⊎ ((has_mark c k ≡ true) × WasDir nodes k)
    dirs k (inl s) = still k (h.dirs k s)
    dirs k (inr m) = inr m

-- a mark that is set, and the others
mark_here : (marks : List Bool) (n : ℕ) → n < length marks → has_mark (set marks n true) n ≡ true
mark_here marks n low = get_or-set_same marks n true false low

mark_kept : (marks : List Bool) (n k : ℕ) → n < length marks → (k ≡ n) ⊎ (k ≡ n → ⊥) → has_mark marks k ≡ true → has_mark (set marks n true) k ≡ true
mark_kept marks n k low (inl e) h = ap (has_mark (set marks n true)) e ∙ mark_here marks n low
mark_kept marks n k low (inr apart) h = get_or-set_other marks n k true false apart ∙ h

mark_only : (marks : List Bool) (n k : ℕ) → (k ≡ n) ⊎ (k ≡ n → ⊥) → has_mark (set marks n true) k ≡ true → (has_mark marks k ≡ true) ⊎ (k ≡ n)
mark_only marks n k (inl e) h = inr e
mark_only marks n k (inr apart) h = inl (sym (get_or-set_other marks n k true false apart) ∙ h)

stands_at : (n k : ℕ) → k ≡ n → Stands (n ∷ []) k
stands_at n k e = subst (λ j. Stands (n ∷ []) j) (sym e) (stands_here n)

-- a node that had none, and comes into the queue where it is a directory
pub marks_new : (nodes : List Looked) (n : ℕ) (marks : List Bool) (queue more : List ℕ) → n < length marks → has_mark marks n ≡ false → (WasDir nodes n → more ≡ n ∷ []) → ((more ≡ []) ⊎ (WasDir nodes n × (more ≡ n ∷ [])))
    → Marks nodes (n ∷ []) marks (set marks n true) queue (queue ++ more)
marks_new nodes n marks queue more low unset as_dir is = record {
  count = length-set marks n true;
  keeps = λ k h. mark_kept marks n k low (cases_eq k n) h;
  each = λ k s _. ap (has_mark (set marks n true)) (stands_alone n k s) ∙ mark_here marks n low;
  only = λ k h. only k (mark_only marks n k (cases_eq k n) h);
  front = (more, refl);
  queued = λ k h dir. queued k dir (mark_only marks n k (cases_eq k n) h);
  dirs = λ k s. dirs k (stands_split queue more k s) is;
  room = omega (arith, length-append queue more, marked_set marks n low unset, short is);
}
  where
    only : (k : ℕ) → (has_mark marks k ≡ true) ⊎ (k ≡ n) → (has_mark marks k ≡ true) ⊎ Stands (n ∷ []) k
    only k (inl m) = inl m
    only k (inr e) = inr (stands_at n k e)

    queued : (k : ℕ) → WasDir nodes k → (has_mark marks k ≡ true) ⊎ (k ≡ n) → (has_mark marks k ≡ true) ⊎ Stands (queue ++ more) k
    queued k dir (inl m) = inl m
    queued k dir (inr e) = inr (stands_right queue more k (subst (λ xs. Stands xs k) (sym (as_dir (subst (WasDir nodes) e dir))) (stands_at n k e)))

    dirs : (k : ℕ) → Stands queue k ⊎ Stands more k → ((more ≡ []) ⊎ (WasDir nodes n × (more ≡ n ∷ []))) → Stands queue k ⊎ ((has_mark (set marks n true) k ≡ true) × WasDir nodes k)
    dirs k (inl s) w = inl s
    dirs k (inr s) (inl e) = absurd (stands_none k (subst (λ xs. Stands xs k) e s))
    dirs k (inr s) (inr w) =
        let e = stands_alone n k (subst (λ xs. Stands xs k) w.1 s) in
        inr (ap (has_mark (set marks n true)) e ∙ mark_here marks n low, subst (WasDir nodes) (sym e) w.0)

    short : ((more ≡ []) ⊎ (WasDir nodes n × (more ≡ n ∷ []))) → length more ≤ 1
    short (inl e) = omega (arith, ap length e)
    short (inr w) = omega (arith, ap length w.1)
