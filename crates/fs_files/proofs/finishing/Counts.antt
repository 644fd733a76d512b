-- How many data blocks are marked after a draft, and how many the transaction holds.
use Rattle.std.proofs.Common.{◌≡◌, ◌≢◌, ℕ, zero, suc, ◌+◌, ◌<◌, ◌≤◌, Bool, true, false, cond, not, ◌&&◌, ◌||◌, List, [], ◌∷◌, length, filter, get_or, All, AllPairs, refl, sym, ap, ap₂, ◌∙◌, arith, ◌⊎◌, inl, inr}
use Rattle.std.proofs.lemmas.Bool.{cases_Bool, cases_eq, eq-eqb, ne_eqb, false≢true}
use Rattle.std.specs.List.{range_with_len}
use Rattle.std.proofs.lemmas.Bool.Decides.{nat_tests}
use Rattle.engine_blocks.specs.Running.{has}
use Rattle.engine_blocks.specs.State.{Bookkeeping, after_take, after_free}
use Rattle.engine_blocks.specs.Puts.{after_frees}
use Rattle.fs_files.specs.Drafts.{DraftState, marks_of}
use Rattle.fs_files.specs.Making.{after_changes, after_draft}
use Rattle.fs_files.proofs.finishing.Books.{changes_keep}

-- how many of n numbers from a on pass
abbrev pub counted : (ℕ → Bool) → ℕ → ℕ → ℕ
counted p a n = length (filter p (range_with_len a n))

passes : (p : ℕ → Bool) (a n : ℕ) → p a ≡ true → counted p a (suc n) ≡ counted p (a + 1) n + 1
passes p a n e = ap (λ x. length (cond x (a ∷ filter p (range_with_len (a + 1) n)) (filter p (range_with_len (a + 1) n)))) e ∙ omega arith

fails : (p : ℕ → Bool) (a n : ℕ) → p a ≡ false → counted p a (suc n) ≡ counted p (a + 1) n
fails p a n e = ap (λ x. length (cond x (a ∷ filter p (range_with_len (a + 1) n)) (filter p (range_with_len (a + 1) n)))) e

-- where a number of the range passes, some do
pub some_pass : (p : ℕ → Bool) (b a n : ℕ) → a ≤ b → b < a + n → p b ≡ true → 1 ≤ counted p a n
some_pass p b a zero low high is = absurd (omega (arith, low, high))
some_pass p b a (suc n) low high is = by (cases_eq a b) (cases_Bool (p a)) (λ d. some_pass p b (a + 1) n (omega (arith, low, d)) (omega (arith, high)) is)
  where
    by : (a ≡ b) ⊎ (a ≢ b) → (p a ≡ true) ⊎ (p a ≡ false) → (a ≢ b → 1 ≤ counted p (a + 1) n) → 1 ≤ counted p a (suc n)
    by c (inl e) rec = omega (arith, passes p a n e)
    by (inl e) (inr f) rec = absurd (false≢true (sym f ∙ ap p e ∙ is))
    by (inr d) (inr f) rec = omega (arith, fails p a n f, rec d)

-- two tests that agree pass as many
pub same_count : (p q : ℕ → Bool) (a n : ℕ) → ((b : ℕ) → a ≤ b → q b ≡ p b) → counted q a n ≡ counted p a n
same_count p q a zero same = refl
same_count p q a (suc n) same = grind (arith, nat_tests, passes, fails, (same_count p q (a + 1) n (λ b from. same b (omega (arith, from)))))

-- a test that passes one number more
one_more : (p q : ℕ → Bool) (b a n : ℕ) → a ≤ b → b < a + n → p b ≡ false → q b ≡ true → ((c : ℕ) → c ≢ b → q c ≡ p c) → counted q a n ≡ counted p a n + 1
one_more p q b a zero from below out is same = absurd (omega (arith, from, below))
one_more p q b a (suc n) from below out is same = by (cases_eq a b) (cases_Bool (p a)) (λ d. one_more p q b (a + 1) n (omega (arith, from, d)) (omega (arith, below)) out is same)
  where
    by : (a ≡ b) ⊎ (a ≢ b) → (p a ≡ true) ⊎ (p a ≡ false) → (a ≢ b → counted q (a + 1) n ≡ counted p (a + 1) n + 1) → counted q a (suc n) ≡ counted p a (suc n) + 1
    by (inl e) f rec = omega (arith, passes q a n (ap q e ∙ is), fails p a n (ap p e ∙ out), same_count p q (a + 1) n (λ c low. same c (λ h. omega (arith, h, e, low))))
    by (inr d) (inl f) rec = omega (arith, passes p a n f, passes q a n (same a d ∙ f), rec d)
    by (inr d) (inr f) rec = omega (arith, fails p a n f, fails q a n (same a d ∙ f), rec d)

-- a number isn't among those from which it differs
absent : (bs : List ℕ) (b : ℕ) → All (λ x. b ≢ x) bs → has bs b ≡ false
absent [] b all = refl
absent (x ∷ xs) b all = ap₂ (λ s t. s || t) (ne_eqb b x (all 0 0 (omega arith))) (absent xs b (λ i d low. all (suc i) d (omega (arith, low))))

absent_first : (b : ℕ) (bs : List ℕ) → AllPairs (λ x y. x ≢ y) (b ∷ bs) → has bs b ≡ false
absent_first b bs pairs = absent bs b (λ i d low. pairs 0 (suc i) d (omega arith) (omega (arith, low)))

later_pairs : (b : ℕ) (bs : List ℕ) → AllPairs (λ x y. x ≢ y) (b ∷ bs) → AllPairs (λ x y. x ≢ y) bs
later_pairs b bs pairs i j d low high = pairs (suc i) (suc j) d (omega (arith, low)) (omega (arith, high))

-- a number of the range that doesn't pass
pub record IsOut (p : ℕ → Bool) (a n b : ℕ) : Type 0 where
  pub from : a ≤ b
  pub below : b < a + n
  pub out : p b ≡ false

-- one that does
pub record IsIn (p : ℕ → Bool) (a n b : ℕ) : Type 0 where
  pub from : a ≤ b
  pub below : b < a + n
  pub is : p b ≡ true

-- so many more pass as are added
pub more_pass : (p : ℕ → Bool) (a n : ℕ) (bs : List ℕ) → AllPairs (λ x y. x ≢ y) bs → All (IsOut p a n) bs → counted (λ c. has bs c || p c) a n ≡ counted p a n + length bs
more_pass p a n [] pairs all = omega arith
more_pass p a n (b ∷ bs) pairs all =
    let one : IsOut p a n b = all 0 0 (omega arith) in
    omega (
      arith,
      more_pass p a n bs (later_pairs b bs pairs) (λ i d low. all (suc i) d (omega (arith, low))),
      one_more (λ c. has bs c || p c) (λ c. has (b ∷ bs) c || p c) b a n one.from one.below (ap₂ (λ x y. x || y) (absent_first b bs pairs) one.out)
          (ap (λ t. (t || has bs b) || p b) (eq-eqb b b refl)) (λ c d. ap (λ t. (t || has bs c) || p c) (ne_eqb c b d)),
    )

-- so many fewer as are taken away
pub fewer_pass : (p : ℕ → Bool) (a n : ℕ) (bs : List ℕ) → AllPairs (λ x y. x ≢ y) bs → All (IsIn p a n) bs → counted (λ c. not (has bs c) && p c) a n + length bs ≡ counted p a n
fewer_pass p a n [] pairs all = omega arith
fewer_pass p a n (b ∷ bs) pairs all =
    let one : IsIn p a n b = all 0 0 (omega arith) in
    omega (
      arith,
      fewer_pass p a n bs (later_pairs b bs pairs) (λ i d low. all (suc i) d (omega (arith, low))),
      one_more (λ c. not (has (b ∷ bs) c) && p c) (λ c. not (has bs c) && p c) b a n one.from one.below (ap (λ t. not (t || has bs b) && p b) (eq-eqb b b refl))
          (ap₂ (λ x y. not x && y) (absent_first b bs pairs) one.is) (λ c d. sym (ap (λ t. not (t || has bs c) && p c) (ne_eqb c b d))),
    )

-- the marks of a draft
pub draft_count : (marked : ℕ → Bool) (d : DraftState) (a n : ℕ) → AllPairs (λ x y. x ≢ y) d.taken → All (IsOut marked a n) d.taken → AllPairs (λ x y. x ≢ y) d.freed → All (IsIn (λ c. has d.taken c || marked c) a n) d.freed
    → counted (marks_of d marked) a n + length d.freed ≡ counted marked a n + length d.taken
draft_count marked d a n distinct outs once ins = omega (arith, more_pass marked a n d.taken distinct outs, fewer_pass (λ c. has d.taken c || marked c) a n d.freed once ins)

-- each block that is freed is held, where it was marked
pub frees_hold : (k : Bookkeeping) (bs : List ℕ) → AllPairs (λ x y. x ≢ y) bs → All (λ b. k.marked b ≡ true) bs → (after_frees k bs).running.held ≡ k.running.held + length bs
frees_hold k [] pairs all = omega arith
frees_hold k (b ∷ bs) pairs all =
    omega (
      arith,
      frees_hold (after_free k b) bs (later_pairs b bs pairs) (λ i d low. ap (λ t. cond t false (k.marked (get_or bs i d))) (ne_eqb (get_or bs i d) b (λ e. pairs 0 (suc i) d (omega arith) (omega (arith, low)) (sym e))) ∙ all (suc i) d (omega (arith, low))),
      ap {B = ℕ} (λ t. cond t 1 0) (all 0 0 (omega arith)),
    )

-- what a draft frees is held, where it was taken by the draft or marked before
pub draft_holds : (k : Bookkeeping) (d : DraftState) → AllPairs (λ x y. x ≢ y) d.freed → All (λ b. (has d.taken b || k.marked b) ≡ true) d.freed → (after_draft k d).running.held ≡ k.running.held + length d.freed
draft_holds k d once marks =
    let one = after_take k d.taken in
    let two = after_changes one true d.fresh in
    let three = after_changes two false d.changed in
    let marked : (b : ℕ) → three.marked b ≡ (has d.taken b || k.marked b) = λ b. changes_keep (λ l. l.marked b) (λ l c class. refl) two false d.changed ∙ changes_keep (λ l. l.marked b) (λ l c class. refl) one true d.fresh in
    omega (
      arith,
      frees_hold three d.freed once (λ i e low. marked (get_or d.freed i e) ∙ marks i e low),
      changes_keep (λ l. l.running.held) (λ l b class. refl) two false d.changed,
      changes_keep (λ l. l.running.held) (λ l b class. refl) one true d.fresh,
    )
