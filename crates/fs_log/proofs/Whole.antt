-- Whole appends in a file, passed a window at a time.
use Rattle.std.proofs.Common.{◌≡◌, ◌≢◌, ◌⊎◌, ⊎_elim, ℕ, zero, suc, ◌+◌, ◌*◌, ◌-◌, ◌<◌, ◌≤◌, List, [], ◌∷◌, ◌++◌, length, take, drop, refl, sym, ◌∙◌, ap, subst, arith}
use Rattle.std.proofs.lemmas.Grind.{flat_map-append}
use Rattle.std.proofs.lemmas.List.{append-nil, append_assoc, drop-drop, drop_all, length-append, length-drop, take-append-drop}
use Rattle.std.proofs.Math.Seq.{drop-append_seam, take-append-add}
use Rattle.lang_log.specs.Spelling.{AreShort, BeginsWithNone, HasPassed, Passes, spelling, spellings}
use Rattle.fs_log.specs.Finding.{HasWhole}

all_both : (xs ys : List (List ℕ)) → AreShort xs → AreShort ys → AreShort (xs ++ ys)
all_both [] ys a b = b
all_both (x ∷ xs) ys a b = (a.0, all_both xs ys a.1 b)

-- each append takes four bytes at least
pub at_least : (appends : List (List ℕ)) → 4 * length appends ≤ length (spellings appends)
at_least [] = omega arith
at_least (x ∷ xs) =
    let head : length (spelling x) ≡ 4 + length x = omega arith in
    omega (arith, head, at_least xs, length-append (spelling x) (spellings xs))

pub none_passed : (bytes : List ℕ) → HasPassed bytes 0 0
none_passed bytes = record { passed = []; is = refl; short = tt; counts = refl; takes = refl }

-- what was passed lies in the bytes
pub passed_within : (bytes : List ℕ) (count offset : ℕ) → HasPassed bytes count offset → offset ≤ length bytes
passed_within bytes count offset p = omega (arith, p.takes, ap (λ (q : List ℕ). length q) p.is, length-append (spellings p.passed) (drop offset bytes))

-- those in a window come behind those before them
pub more_passed : (bytes : List ℕ) (count offset n : ℕ) (window : List ℕ) (more taken : ℕ) → HasPassed bytes count offset → window ≡ take n (drop offset bytes) → HasPassed window more taken → HasPassed bytes (count + more) (offset + taken)
more_passed bytes count offset n window more taken p window_is q =
    let past = drop n (drop offset bytes) in
    let rest = drop taken window ++ past in
    let left : drop offset bytes ≡ spellings q.passed ++ rest =
    sym (take-append-drop n (drop offset bytes)) ∙ (ap (λ (w : List ℕ). w ++ past) (sym window_is ∙ q.is) ∙ append_assoc (spellings q.passed) (drop taken window) past) in
    let behind : drop (offset + taken) bytes ≡ rest =
    sym (drop-drop taken offset bytes) ∙ (ap (λ (w : List ℕ). drop taken w) left ∙ (ap (λ (k : ℕ). drop k (spellings q.passed ++ rest)) q.takes ∙ drop-append_seam (spellings q.passed) rest)) in
    let joined : spellings (p.passed ++ q.passed) ≡ spellings p.passed ++ spellings q.passed = flat_map-append spelling p.passed q.passed in
    record {
      passed = p.passed ++ q.passed;
      is = p.is ∙ (ap (λ (w : List ℕ). spellings p.passed ++ w) left ∙ (sym (append_assoc (spellings p.passed) (spellings q.passed) rest)
          ∙ (ap (λ (w : List ℕ). w ++ rest) (sym joined) ∙ ap (λ (w : List ℕ). spellings (p.passed ++ q.passed) ++ w) (sym behind))));
      short = all_both p.passed q.passed p.short q.short;
      counts = omega (arith, p.counts, q.counts, length-append p.passed q.passed);
      takes = omega (arith, p.takes, q.takes, ap (λ (w : List ℕ). length w) joined, length-append (spellings p.passed) (spellings q.passed));
    }

-- where all was passed, the bytes are those of whole appends
pub all_passed : (bytes : List ℕ) (count offset : ℕ) → HasPassed bytes count offset → length bytes ≤ offset → HasWhole bytes count
all_passed bytes count offset p all = record {
  appends = p.passed;
  is = p.is ∙ (ap (λ (w : List ℕ). spellings p.passed ++ w) (drop_all offset bytes all) ∙ append-nil (spellings p.passed));
  short = p.short;
  counts = p.counts;
}

-- a window as long as the longest append begins with the first one
window_begins : (n : ℕ) (a : List ℕ) (rest : List ℕ) → length (spelling a) ≤ n → take n (spelling a ++ rest) ≡ spelling a ++ take (n - length (spelling a)) rest
window_begins n a rest fits =
    let sum : n ≡ length (spelling a) + (n - length (spelling a)) = omega (arith, fits) in
    ap (λ (k : ℕ). take k (spelling a ++ rest)) sum ∙ take-append-add (spelling a) rest (n - length (spelling a))

-- Bytes of which some are left, where no whole append begins, aren't those of whole appends.
module _ (read_back : (appends passed : List (List ℕ)) (rest : List ℕ) → AreShort appends → AreShort passed → spellings appends ≡ spellings passed ++ rest → (passed ≡ take (length passed) appends) × (rest ≡ spellings (drop (length passed) appends)))
    (bytes : List ℕ) (count offset n : ℕ) (window : List ℕ) (p : HasPassed bytes count offset) (some : offset < length bytes) (window_is : window ≡ take n (drop offset bytes)) (long : 65540 ≤ n) (none : BeginsWithNone window) where
  all_of : (xs : List (List ℕ)) (k : ℕ) → AreShort xs → AreShort (drop k xs)
  all_of xs zero all = all
  all_of [] (suc k) all = all
  all_of (x ∷ xs) (suc k) all = all_of xs k all.1

  begins : (left : List (List ℕ)) → AreShort left → drop offset bytes ≡ spellings left → ⊥
  begins [] short is = omega (arith, some, length-drop offset bytes, ap (λ (w : List ℕ). length w) is)
  begins (a ∷ left) short is =
      let head : length (spelling a) ≡ 4 + length a = omega arith in
      let fits : length (spelling a) ≤ n = omega (arith, head, short.0, long) in
      none a (record {
        rest = take (n - length (spelling a)) (spellings left);
        short = short.0;
        is = window_is ∙ (ap (λ (w : List ℕ). take n w) is ∙ window_begins n a (spellings left) fits);
      })

  pub torn : (appends : List (List ℕ)) → AreShort appends → bytes ≢ spellings appends
  torn appends short is =
      let back = read_back appends p.passed (drop offset bytes) short p.short (sym is ∙ p.is) in
      begins (drop (length p.passed) appends) (all_of appends (length p.passed) short) back.1

-- where no append was passed over, none begins
pub none_begins : (window : List ℕ) (most taken : ℕ) → 0 < most → Passes window most 0 taken → BeginsWithNone window
none_begins window most taken some passes = subst BeginsWithNone (ap (λ (k : ℕ). drop k window) nothing) (passes.ends some)
  where
    empty : (passed : List (List ℕ)) → 0 ≡ length passed → length (spellings passed) ≡ 0
    empty [] none = refl
    empty (x ∷ passed) none = absurd (omega (arith, none))

    nothing : taken ≡ 0
    nothing = passes.so_far.takes ∙ empty passes.so_far.passed passes.so_far.counts
