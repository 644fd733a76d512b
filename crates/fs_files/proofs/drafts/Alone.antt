-- Lists of which no number is kept.
use Rattle.std.proofs.Common.{◌≡◌, ℕ, ◌+◌, ◌-◌, ◌/◌, ◌<◌, Bool, true, false, not, ◌&&◌, cond, List, [], ◌∷◌, ◌++◌, length, get_or, zero, suc, take, drop, take_all, drop_of_length-le, refl, sym, subst, ap, ap₂, ◌∙◌, arith}
use Rattle.std.specs.Prelude.{nat_le, nat_lt}
use Rattle.std.specs.List.{All}
use Rattle.std.proofs.lemmas.List.{append-nil}
use Rattle.std.proofs.lemmas.List.Elements.{All-tail}
use Rattle.std.proofs.lemmas.Bool.{le-ltb, lt-leb}
use Rattle.std.proofs.lemmas.Bool.Decides.{nat_tests}
use Rattle.layout_extent.specs.Renew.{renew, renewals, makes_way}
use Rattle.fs_files.specs.Bytes.{blocks_for, met}
use Rattle.fs_files.specs.Growing.{alone, placed, taken_by}

-- the test holds at no place
abbrev pub Never : (ℕ → Bool) → ℕ → ℕ → Type 0
Never test i count = (j : ℕ) → j < count → test (i + j) ≡ false

first : (test : ℕ → Bool) (i : ℕ) (count : ℕ) → Never test i (suc count) → test i ≡ false
first test i count h = subst (λ k. test k ≡ false) (omega arith) (h 0 (omega arith))

rest : (test : ℕ → Bool) (i : ℕ) (count : ℕ) → Never test i (suc count) → Never test (i + 1) count
rest test i count h j low = subst (λ k. test k ≡ false) (omega arith) (h (j + 1) (omega (arith, low)))

pub no_way : (test : ℕ → Bool) (i : ℕ) (bs more : List ℕ) → Never test i (length bs) → renew test i bs more ≡ bs ++ more
no_way test i [] more h = refl
no_way test i (b ∷ bs) [] h = sym (append-nil (b ∷ bs))
no_way test i (b ∷ bs) (c ∷ more) h = ap (λ t. cond t (c ∷ renew test (i + 1) bs more) (b ∷ renew test (i + 1) bs (c ∷ more))) (first test i (length bs) h)
    ∙ ap (λ xs. b ∷ xs) (no_way test (i + 1) bs (c ∷ more) (rest test i (length bs) h))

pub no_ways : (test : ℕ → Bool) (i : ℕ) (bs : List ℕ) → Never test i (length bs) → renewals test i bs ≡ 0
no_ways test i [] h = refl
no_ways test i (b ∷ bs) h = ap₂ (λ t n. cond t 1 0 + n) (first test i (length bs) h) (no_ways test (i + 1) bs (rest test i (length bs) h))

module _ (kept : ℕ → Bool) (places : List ℕ) (none : All (λ b. kept b ≡ false) places) where
  never : (from past : ℕ) → Never (makes_way from past kept places) 0 (length places)
  never from past j low = way (nat_le from (0 + j)) (nat_lt (0 + j) past) (kept (get_or places (0 + j) 0)) (none (0 + j) 0 (omega (arith, low)))
    where
      way : (a b c : Bool) → c ≡ false → (a && (b && c)) ≡ false
      way a b c e = grind (arith, nat_tests)

  pub none_taken : (lo hi : ℕ) → taken_by kept lo hi places ≡ blocks_for hi - length places
  none_taken lo hi = let none : renewals (makes_way (lo / 1024) (blocks_for hi) kept places) 0 places ≡ 0 = no_ways (makes_way (lo / 1024) (blocks_for hi) kept places) 0 places (never (lo / 1024) (blocks_for hi)) in omega (arith, none)

  pub none_placed : (lo hi : ℕ) (more : List ℕ) → placed kept lo hi places more ≡ places ++ more
  none_placed lo hi more = no_way (makes_way (lo / 1024) (blocks_for hi) kept places) 0 places more (never (lo / 1024) (blocks_for hi))

pub all_alone : (kept : ℕ → Bool) (places : List ℕ) → All (λ b. kept b ≡ false) places → alone kept places ≡ places
all_alone kept [] none = refl
all_alone kept (b ∷ bs) none = ap (λ t. cond (not t) (b ∷ alone kept bs) (alone kept bs)) (none 0 0 (omega arith)) ∙ ap (λ xs. b ∷ xs) (all_alone kept bs (All-tail (λ x. kept x ≡ false) b bs none))

-- Of the blocks that bytes meet those that aren't kept and those that make way are all.

no_part : (a n : ℕ) → ◌≡◌ {A = List ℕ} (drop a (take n [])) []
no_part a n = ap (drop a) (take_all n [] (omega arith)) ∙ drop_of_length-le {A = ℕ} [] (omega arith)

counts : (kept : ℕ → Bool) (way : ℕ → Bool) (i a n : ℕ) (ps : List ℕ) → ((j : ℕ) → j < length ps → way (i + j) ≡ (nat_le a j && (nat_lt j n && kept (get_or ps j 0))))
    → length (alone kept (drop a (take n ps))) + renewals way i ps ≡ length (drop a (take n ps))
counts kept way i a n [] is = ap (λ xs. length (alone kept xs) + 0) (no_part a n) ∙ sym (ap length (no_part a n))
counts kept way i a zero (x ∷ xs) is =
    let none : renewals way i (x ∷ xs) ≡ 0 = no_ways way i (x ∷ xs) (λ j low. is j low ∙ out (nat_le a j) (nat_lt j 0) (kept (get_or (x ∷ xs) j 0)) (le-ltb j 0 (omega arith))) in
    let empty : drop a (take 0 (x ∷ xs)) ≡ [] = drop_of_length-le {A = ℕ} [] (omega arith) in
    ap₂ (λ ys k. length (alone kept ys) + k) empty none ∙ sym (ap length empty)
  where
    out : (s t u : Bool) → t ≡ false → (s && (t && u)) ≡ false
    out s t u e = grind (arith, nat_tests)
counts kept way i (suc a) (suc n) (x ∷ xs) is =
    let here : way i ≡ false = ap way {x = i} {y = i + 0} (omega arith) ∙ is 0 (omega arith) ∙ ap (λ t. t && (nat_lt 0 (suc n) && kept x)) (lt-leb (suc a) 0 (omega arith)) in
    let rest = counts kept way (i + 1) a n xs (λ j low. ap way {x = i + 1 + j} {y = i + suc j} (omega arith) ∙ is (suc j) (omega (arith, low)) ∙ shifted a n j (kept (get_or xs j 0))) in
    ap (λ t. length (alone kept (drop a (take n xs))) + ((cond t 1 0) + renewals way (i + 1) xs)) here
    ∙ ap (λ k. length (alone kept (drop a (take n xs))) + k) {x = cond false 1 0 + renewals way (i + 1) xs} {y = renewals way (i + 1) xs} (omega arith) ∙ rest
  where
    shifted : (a n j : ℕ) (t : Bool) → (nat_le (suc a) (suc j) && (nat_lt (suc j) (suc n) && t)) ≡ (nat_le a j && (nat_lt j n && t))
    shifted a n j t = grind (arith, nat_tests)
counts kept way i zero (suc n) (x ∷ xs) is =
    let here : way i ≡ kept x = ap way {x = i} {y = i + 0} (omega arith) ∙ is 0 (omega arith) ∙ first n (kept x) in
    let rest = counts kept way (i + 1) zero n xs (λ j low. ap way {x = i + 1 + j} {y = i + suc j} (omega arith) ∙ is (suc j) (omega (arith, low)) ∙ shifted n j (kept (get_or xs j 0))) in
    ap (λ t. length (alone kept (x ∷ take n xs)) + ((cond t 1 0) + renewals way (i + 1) xs)) here ∙ one (kept x) (take n xs) (renewals way (i + 1) xs) rest
  where
    first : (n : ℕ) (t : Bool) → (nat_le 0 0 && (nat_lt 0 (suc n) && t)) ≡ t
    first n t = grind (arith, nat_tests)

    shifted : (n j : ℕ) (t : Bool) → (nat_le 0 (suc j) && (nat_lt (suc j) (suc n) && t)) ≡ (nat_le 0 j && (nat_lt j n && t))
    shifted n j t = grind (arith, nat_tests)

    one : (t : Bool) (ys : List ℕ) (r : ℕ) → length (alone kept ys) + r ≡ length ys → length (cond (not t) (x ∷ alone kept ys) (alone kept ys)) + ((cond t 1 0) + r) ≡ suc (length ys)
    one true ys r e = omega (arith, e)
    one false ys r e = omega (arith, e)

pub met_alone : (kept : ℕ → Bool) (lo hi : ℕ) (places : List ℕ) → length (alone kept (met lo hi places)) + renewals (makes_way (lo / 1024) (blocks_for hi) kept places) 0 places ≡ length (met lo hi places)
met_alone kept lo hi places = counts kept (makes_way (lo / 1024) (blocks_for hi) kept places) 0 (lo / 1024) (blocks_for hi) places (λ j low. ap (makes_way (lo / 1024) (blocks_for hi) kept places) {x = 0 + j} {y = j} (omega arith))
