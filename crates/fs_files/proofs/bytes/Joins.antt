-- Blocks of 1,024 bytes one behind the other.
use Rattle.std.proofs.Common.{◌≡◌, ◌≢◌, ℕ, zero, suc, ◌+◌, ◌*◌, ◌≤◌, List, [], ◌∷◌, ◌++◌, Some, length, take, drop, get_or, refl, sym, ap, ap₂, subst, ◌∙◌, arith, rules}
use Rattle.std.specs.List.{All, AllPairs, slice_get}
use Rattle.std.proofs.lemmas.List.{places, same_lists, length-append, drop_at, drop-drop, take_all}
use Rattle.std.proofs.lemmas.Option.{slice_get_within, get_or_from_slice_get}
use Rattle.base_types.specs.Seal.{Blocks}
use Rattle.crash_stands.specs.Files.{joined}
use Rattle.fs_files.specs.Bytes.{overwrite}
use Rattle.fs_files.proofs.bytes.Overwrites.{overwrite_front, overwrite_behind}

-- what holds of each holds of the first, and of each behind it
pub of_first : (P : ℕ → Type 0) (b : ℕ) (bs : List ℕ) → All P (b ∷ bs) → P b
of_first P b bs all = all 0 0 (omega arith)

pub of_rest : (P : ℕ → Type 0) (b : ℕ) (bs : List ℕ) → All P (b ∷ bs) → All P bs
of_rest P b bs all = λ k d h. all (suc k) d (omega arith)

-- what holds of each holds of the one at a place
pub of_place : (P : ℕ → Type 0) (ps : List ℕ) (i b : ℕ) → All P ps → slice_get ps i ≡ Some b → P b
of_place P ps i b all at = subst P (get_or_from_slice_get ps i b 0 at) (all i 0 (slice_get_within ps i b at))

-- their length
pub joined_length : (m : Blocks) (ps : List ℕ) → All (λ b. length (m b) ≡ 1024) ps → length (joined m ps) ≡ 1024 * length ps
joined_length m [] whole = refl
joined_length m (b ∷ bs) whole = omega (arith, length-append (m b) (joined m bs), joined_length m bs (of_rest (λ b. length (m b) ≡ 1024) b bs whole), of_first (λ b. length (m b) ≡ 1024) b bs whole)

-- blocks that are the same
pub joined_same : (m m' : Blocks) (ps : List ℕ) → All (λ b. m' b ≡ m b) ps → joined m' ps ≡ joined m ps
joined_same m m' [] same = refl
joined_same m m' (b ∷ bs) same = ap₂ (λ (x y : List ℕ). x ++ y) (of_first (λ b. m' b ≡ m b) b bs same) (joined_same m m' bs (of_rest (λ b. m' b ≡ m b) b bs same))

-- bytes within one of the blocks
pub joined_part : (m : Blocks) (ps : List ℕ) (i b start count : ℕ) → All (λ b. length (m b) ≡ 1024) ps → slice_get ps i ≡ Some b → start + count ≤ 1024
    → take count (drop (1024 * i + start) (joined m ps)) ≡ take count (drop start (m b))
joined_part m [] i b start count whole at fits = absurd cc
joined_part m (p ∷ ps) zero b start count whole at fits =
    let is : p ≡ b = cc in
    let size : length (m p) ≡ 1024 = of_first (λ b. length (m b) ≡ 1024) p ps whole in
    let same : take count (drop start (m p ++ joined m ps)) ≡ take count (drop start (m p)) = same_lists _ _ (search (rules, places)) (λ k d h. grind (arith, places)) in
    ap (λ k. take count (drop k (m p ++ joined m ps))) {x = 1024 * 0 + start} {y = start} (omega arith) ∙ same ∙ ap (λ q. take count (drop start (m q))) is
joined_part m (p ∷ ps) (suc i) b start count whole at fits =
    let size : length (m p) ≡ 1024 = of_first (λ b. length (m b) ≡ 1024) p ps whole in
    let behind : drop (1024 * i + start) (drop 1024 (m p ++ joined m ps)) ≡ drop (1024 * i + start) (joined m ps) = ap (λ xs. drop (1024 * i + start) xs) (drop_at (m p) (joined m ps) 1024 size) in
    let on : drop (1024 * suc i + start) (m p ++ joined m ps) ≡ drop (1024 * i + start) (joined m ps) =
    ap (λ k. drop k (m p ++ joined m ps)) {x = 1024 * suc i + start} {y = 1024 + (1024 * i + start)} (omega arith) ∙ sym (drop-drop (1024 * i + start) 1024 (m p ++ joined m ps)) ∙ behind in
    ap (λ xs. take count xs) on ∙ joined_part m ps i b start count (of_rest (λ b. length (m b) ≡ 1024) p ps whole) at fits

-- bytes over bytes of one of the blocks
pub joined_put : (m m' : Blocks) (ps : List ℕ) (i b off : ℕ) (ys : List ℕ) → All (λ b. length (m b) ≡ 1024) ps → AllPairs (λ a b. a ≢ b) ps → slice_get ps i ≡ Some b → off + length ys ≤ 1024
    → m' b ≡ overwrite off ys (m b) → ((q : ℕ) → q ≢ b → m' q ≡ m q) → joined m' ps ≡ overwrite (1024 * i + off) ys (joined m ps)
joined_put m m' [] i b off ys whole once at fits own others = absurd cc
joined_put m m' (p ∷ ps) zero b off ys whole once at fits own others =
    let is : p ≡ b = cc in
    let size : length (m p) ≡ 1024 = of_first (λ b. length (m b) ≡ 1024) p ps whole in
    let first : m' p ≡ overwrite off ys (m p) = subst (λ q. m' q ≡ overwrite off ys (m q)) (sym is) own in
    let rest : joined m' ps ≡ joined m ps = joined_same m m' ps (λ k d h. others (get_or ps k d) (λ e. once 0 (suc k) d (omega arith) (omega arith) (is ∙ sym e))) in
    ap₂ (λ (x y : List ℕ). x ++ y) first rest ∙ sym (overwrite_front off ys (m p) (joined m ps) (omega arith))
    ∙ ap (λ k. overwrite k ys (m p ++ joined m ps)) {x = off} {y = 1024 * 0 + off} (omega arith)
joined_put m m' (p ∷ ps) (suc i) b off ys whole once at fits own others =
    let size : length (m p) ≡ 1024 = of_first (λ b. length (m b) ≡ 1024) p ps whole in
    let first : m' p ≡ m p = others p (λ e. once 0 (suc i) 0 (omega arith) (omega (arith, slice_get_within ps i b at)) (e ∙ sym (get_or_from_slice_get ps i b 0 at))) in
    let rest : joined m' ps ≡ overwrite (1024 * i + off) ys (joined m ps) = joined_put m m' ps i b off ys (of_rest (λ b. length (m b) ≡ 1024) p ps whole) (λ j k d l h. once (suc j) (suc k) d (omega arith) (omega arith)) at fits own others in
    ap₂ (λ (x y : List ℕ). x ++ y) first rest ∙ sym (overwrite_behind 1024 (1024 * i + off) ys (m p) (joined m ps) size)
    ∙ ap (λ k. overwrite k ys (m p ++ joined m ps)) {x = 1024 + (1024 * i + off)} {y = 1024 * suc i + off} (omega arith)

-- the first i blocks
pub joined_take : (m : Blocks) (ps : List ℕ) (i : ℕ) → All (λ b. length (m b) ≡ 1024) ps → joined m (take i ps) ≡ take (1024 * i) (joined m ps)
joined_take m ps zero whole = ap (λ k. take k (joined m ps)) {x = 0} {y = 1024 * 0} (omega arith)
joined_take m [] (suc i) whole = sym (take_all (1024 * suc i) [] (omega arith))
joined_take m (b ∷ bs) (suc i) whole =
    let size : length (m b) ≡ 1024 = of_first (λ b. length (m b) ≡ 1024) b bs whole in
    ap (λ xs. m b ++ xs) (joined_take m bs i (of_rest (λ b. length (m b) ≡ 1024) b bs whole))
    ∙ more (m b) (joined m bs) (1024 * i) (1024 * suc i) (omega (arith, size))
  where
    more : (x y : List ℕ) (k n : ℕ) → n ≡ length x + k → x ++ take k y ≡ take n (x ++ y)
    more x y k n is = same_lists _ _ (search (rules, places)) (λ j d h. grind (arith, places))
