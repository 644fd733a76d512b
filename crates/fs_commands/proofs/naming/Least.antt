-- The least number that no node has, from a search of the node table.
use Rattle.std.proofs.Common.{◌≡◌, ◌≢◌, ◌⊎◌, inl, inr, ℕ, zero, suc, ◌+◌, ◌≤◌, ◌<◌, Bool, true, false, cond, is_none, is_some, not, find, List, [], ◌∷◌, Option, None, Some, option_map, Result, Ok, Err, IfOk, IfSome, sym, refl, ap, ◌∙◌, arith}
use Rattle.std.specs.Prelude.{IfNone}
use Rattle.std.specs.List.{range_with_len}
use Rattle.std.proofs.lemmas.Bool.{cases_eq}
use Rattle.std.proofs.lemmas.Option.{none-some, same_Some}
use Rattle.crash_stands.specs.Files.{FileNode, Files}
use Rattle.fs_files.specs.declared.refusal.FileRefusal.{FileRefusal}
use Rattle.fs_files.specs.declared.look.FileFacts.{FileFacts}
use Rattle.fs_files.specs.Calls.{facts_of, IsUsed, IsLeastUnused}
use Rattle.fs_dirs.specs.Directories.{IsNumber}
use Rattle.fs_session.specs.Sessions.{AreUsedBelow}

-- the first number of a range that passes a test
first_at : (test : ℕ → Bool) (a n k : ℕ) → a ≤ k → k < a + n → test k ≡ true → ((l : ℕ) → a ≤ l → l < k → test l ≡ false) → find test (range_with_len a n) ≡ Some k
first_at test a zero k from upto is before = absurd (omega (arith, from, upto))
first_at test a (suc n) k from upto is before = by (cases_eq a k) (first_at test (a + 1) n k)
  where
    by : (a ≡ k) ⊎ (a ≢ k) → (a + 1 ≤ k → k < a + 1 + n → test k ≡ true → ((l : ℕ) → a + 1 ≤ l → l < k → test l ≡ false) → find test (range_with_len (a + 1) n) ≡ Some k)
        → cond (test a) (Some a) (find test (range_with_len (a + 1) n)) ≡ Some k
    by (inl e) rec = ap (λ b. cond b (Some a) (find test (range_with_len (a + 1) n))) (ap test e ∙ is) ∙ ap Some e
    by (inr e) rec =
        ap (λ b. cond b (Some a) (find test (range_with_len (a + 1) n))) (before a (omega arith) (omega (arith, from, e)))
        ∙ rec (omega (arith, from, e)) (omega (arith, upto)) is (λ l above below. before l (omega (arith, above)) below)

-- and where none does
first_none : (test : ℕ → Bool) (a n : ℕ) → ((l : ℕ) → a ≤ l → l < a + n → test l ≡ false) → find test (range_with_len a n) ≡ None
first_none test a zero all = refl
first_none test a (suc n) all =
    ap (λ b. cond b (Some a) (find test (range_with_len (a + 1) n))) (all a (omega arith) (omega arith))
    ∙ first_none test (a + 1) n (λ l above below. all l (omega (arith, above)) (omega (arith, below)))

-- the least of the table that no node in use has
abbrev pub least_of_files : ℕ → Files → Option ℕ
least_of_files limit files = find (λ n. is_none (files n)) (range_with_len 1 limit)

module _ (limit : ℕ) (files : Files) where
  not_free : (l : ℕ) → IsUsed files l → is_none (files l) ≡ false
  not_free l used = ap is_none used.1

  pub least_is : (k : ℕ) → IsLeastUnused limit files k → Some k ≡ least_of_files limit files
  least_is k h =
      sym (first_at (λ n. is_none (files n)) 1 limit k h.from (omega (arith, h.upto)) (ap is_none h.unused) (λ l above below. not_free l (h.below l above below)))

  pub none_is : ((l : ℕ) → 1 ≤ l → l ≤ limit → IsUsed files l) → None ≡ least_of_files limit files
  none_is all = sym (first_none (λ n. is_none (files n)) 1 limit (λ l above below. not_free l (all l above (omega (arith, below)))))

  -- what a search of the table answers
  pub least_of : (P : ℕ → Type 0) (Q : Type 0) (r : Result (Option ℕ) FileRefusal) → IfOk r (λ found. IfSome found (λ n. IsLeastUnused limit files n × P n))
      → IfOk r (λ found. IfNone found (((l : ℕ) → 1 ≤ l → l ≤ limit → IsUsed files l) × Q)) → IfOk r (λ found. found ≡ least_of_files limit files)
  least_of P Q (Err why) some none = tt
  least_of P Q (Ok None) some none = none_is none.0
  least_of P Q (Ok (Some n)) some none = least_is n some.0

-- a number at which nothing is seen is that of no node in use
pub none_there : (o : Option FileNode) (facts : Option FileFacts) (unused : Bool) → facts ≡ option_map facts_of o → is_some facts ≡ not unused → unused ≡ true → o ≡ None
none_there None facts unused same seen none = refl
none_there (Some file) facts unused same seen none = absurd (clash (facts_of file) (ap is_some (sym same) ∙ seen ∙ ap not none))
  where
    clash : (f : FileFacts) → is_some (Some f) ≡ false → ⊥
    clash f e = absurd cc

-- it is a number of the table
pub number_of_table : (limit bound : ℕ) (r : Result (Option ℕ) FileRefusal) → limit ≡ bound → IfOk r (λ found. IfSome found (λ n. (1 ≤ n) × (n ≤ limit))) → IfOk r (λ found. IfSome found (IsNumber bound))
number_of_table limit bound (Err why) same h = tt
number_of_table limit bound (Ok None) same h = tt
number_of_table limit bound (Ok (Some n)) same h = record { from = h.0; upto = omega (arith, h.1, same) }

-- all below it are in use
pub used_before : (limit : ℕ) (files : Files) (P : ℕ → Type 0) (r : Result (Option ℕ) FileRefusal) → IfOk r (λ found. IfSome found (λ n. IsLeastUnused limit files n × P n)) → IfOk r (λ found. IfSome found (AreUsedBelow files))
used_before limit files P (Err why) h = tt
used_before limit files P (Ok None) h = tt
used_before limit files P (Ok (Some n)) h = h.0.below

-- the least number that no node has is none's
passes : (test : ℕ → Bool) (xs : List ℕ) (k : ℕ) → find test xs ≡ Some k → test k ≡ true
passes test [] k e = absurd (none-some k e)
passes test (x ∷ xs) k e = by (test x) refl (passes test xs k) e
  where
    by : (b : Bool) → test x ≡ b → (find test xs ≡ Some k → test k ≡ true) → cond b (Some x) (find test xs) ≡ Some k → test k ≡ true
    by true is rec e = ap test (sym (same_Some x k e)) ∙ is
    by false is rec e = rec e

nothing_there : {A : Type 0} (o : Option A) → is_none o ≡ true → o ≡ None
nothing_there None e = refl
nothing_there (Some x) e = absurd cc

pub least_unused : (limit : ℕ) (files : Files) (k : ℕ) → least_of_files limit files ≡ Some k → files k ≡ None
least_unused limit files k e = nothing_there (files k) (passes (λ n. is_none (files n)) (range_with_len 1 limit) k e)
