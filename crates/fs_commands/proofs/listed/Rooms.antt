-- A tree has no more directories than there are numbers.
use Rattle.std.proofs.Common.{◌≡◌, ℕ, zero, suc, ◌+◌, ◌≤◌, Bool, true, ◌&&◌, if◌then◌else◌, List, [], ◌∷◌, Option, None, Some, refl, ap, ap₂, arith}
use Rattle.std.proofs.Math.Dec.{leb}
use Rattle.std.specs.List.{filter}
use Rattle.std.specs.FinMap.{get, entries}
use Rattle.lang_tree.specs.Tree.{Tree, Thing, Dir, File, IsSound}
use Rattle.lang_tree.specs.Names.{times, path_count}
use Rattle.lang_tree.specs.Paths.{is_within}
use Rattle.fs_inodes.specs.Listing.{at_and_below}
use Rattle.fs_commands.specs.Listing.{Paths, is_dir_thing, dirs_among}
use Rattle.std.proofs.lemmas.Bool.Decides.{nat_tests}

module _ (d : ℕ → Bool) where
  -- one, where the number passes and is at most n
  abbrev one_upto : ℕ → ℕ → ℕ
  one_upto n x = if d x && leb x n then 1 else 0

  -- how many of these paths have a number that passes and is at most n
  abbrev upto : ℕ → Paths → ℕ
  upto n [] = 0
  upto n (e ∷ es) = one_upto n e.1 + upto n es

  -- how many have this number, if it passes
  abbrev here : ℕ → Paths → ℕ
  here k es = if d k then times k es else 0

  none_at : (x : ℕ) → (d x ≡ true → 1 ≤ x) → one_upto 0 x ≡ 0
  none_at x least = grind (arith, nat_tests)

  none_upto : ((x : ℕ) → d x ≡ true → 1 ≤ x) → (es : Paths) → upto 0 es ≡ 0
  none_upto least [] = refl
  none_upto least (e ∷ es) = ap₂ (λ a b. a + b) (none_at e.1 (least e.1)) (none_upto least es)

  -- one number more lets in those that have it
  one_more : (n x : ℕ) (e : List (List ℕ)) → one_upto (suc n) x ≤ one_upto n x + here (suc n) ((e, x) ∷ [])
  one_more n x e = grind (arith, nat_tests)

  here_join : (k x : ℕ) (e : List (List ℕ)) (es : Paths) → here k ((e, x) ∷ es) ≡ here k ((e, x) ∷ []) + here k es
  here_join k x e es = grind arith

  one_number_more : (n : ℕ) (es : Paths) → upto (suc n) es ≤ upto n es + here (suc n) es
  one_number_more n [] = omega arith
  one_number_more n ((e, x) ∷ es) = omega (arith, one_more n x e, here_join (suc n) x e es, one_number_more n es)

  here_once : (k : ℕ) (es : Paths) → (d k ≡ true → times k es ≤ 1) → here k es ≤ 1
  here_once k es once = grind arith

  -- where each number that passes has one path at most, there are as many as numbers at most
  few_upto : ((x : ℕ) → d x ≡ true → 1 ≤ x) → (es : Paths) → ((k : ℕ) → d k ≡ true → times k es ≤ 1) → (n : ℕ) → upto n es ≤ n
  few_upto least es once zero = omega (arith, none_upto least es)
  few_upto least es once (suc n) = omega (arith, one_number_more n es, few_upto least es once n, here_once (suc n) es (once (suc n)))

  -- how many pass, where none is above the limit
  abbrev passing : Paths → ℕ
  passing [] = 0
  passing (e ∷ es) = (if d e.1 then 1 else 0) + passing es

  all_at : (limit x : ℕ) → (d x ≡ true → x ≤ limit) → (if d x then 1 else 0) ≡ one_upto limit x
  all_at limit x most = grind (arith, nat_tests)

  all_upto : (limit : ℕ) → ((x : ℕ) → d x ≡ true → x ≤ limit) → (es : Paths) → passing es ≡ upto limit es
  all_upto limit most [] = refl
  all_upto limit most (e ∷ es) = ap₂ (λ a b. a + b) (all_at limit e.1 (most e.1)) (all_upto limit most es)

-- each path is at or below the root
from_root : (es : Paths) → filter (λ e. is_within [] e.0) es ≡ es
from_root [] = refl
from_root (e ∷ es) = ap (λ l. e ∷ l) (from_root es)

is_dir : (o : Option Thing) → is_dir_thing o ≡ true → o ≡ Some Dir
is_dir (Some Dir) e = refl
is_dir (Some (File bytes)) e = absurd cc
is_dir None e = absurd cc

dirs_pass : (t : Tree) (es : Paths) → dirs_among t es ≡ passing (λ x. is_dir_thing (get t.nodes x)) es
dirs_pass t [] = refl
dirs_pass t (e ∷ es) = ap (λ n. (if is_dir_thing (get t.nodes e.1) then 1 else 0) + n) (dirs_pass t es)

-- a tree in which each directory has one path has no more directories than numbers
pub few_dirs : (limit : ℕ) (t : Tree) → IsSound limit t
    → ((p : List (List ℕ)) (n : ℕ) → get t.names p ≡ Some n → get t.nodes n ≡ Some Dir → path_count t.names n ≡ 1)
    → dirs_among t (at_and_below t []) ≤ limit
few_dirs limit t sound one =
    omega (
      arith,
      ap (dirs_among t) (from_root (entries t.names)),
      dirs_pass t (entries t.names),
      all_upto d limit (λ x dir. (sound.within x Dir (is_dir (get t.nodes x) dir)).1) (entries t.names),
      few_upto d (λ x dir. (sound.within x Dir (is_dir (get t.nodes x) dir)).0) (entries t.names) once limit,
    )
  where
    d : ℕ → Bool
    d x = is_dir_thing (get t.nodes x)

    once : (k : ℕ) → d k ≡ true → times k (entries t.names) ≤ 1
    once k dir =
        let path = sound.reached k Dir (is_dir (get t.nodes k) dir) in
        omega (arith, one path.0 k path.1 (is_dir (get t.nodes k) dir))
