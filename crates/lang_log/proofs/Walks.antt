-- What a sound tree with segments finds at their paths, and that no command on a segment is refused for it.
use Rattle.std.proofs.Common.{◌≡◌, ℕ, ◌+◌, ◌≤◌, Bool, true, false, not, ◌&&◌, List, [], ◌∷◌, Option, Some, None, option_and_then, Result, Ok, refl, sym, ap, ◌∙◌, arith, le-ltb, nat_lt, is_some, is_none, if◌then◌else◌, find}
use Rattle.std.proofs.lemmas.Option.{same_Some}
use Rattle.std.specs.FinMap.{get}
use Rattle.std.specs.List.{range_with_len}
use Rattle.base_types.specs.declared.layout.Layout.{Layout}
use Rattle.base_types.specs.Layouts.{longest_name}
use Rattle.base_types.specs.LayoutLaws.{taken_name}
use Rattle.lang_tree.specs.declared.command.Refusal.{Refusal}
use Rattle.lang_tree.specs.declared.command.Refusal.TheVariants.{Exists, NotDir, IsDir, TooLarge, NoNode, NameTooLong}
use Rattle.lang_tree.specs.Tree.{Tree, Bounds, Thing, Dir, File, IsSound}
use Rattle.lang_tree.specs.Walk.{walk, enter, is_dir, is_there, thing_at, walk_refusal, refusal_in, no_directory, parent_refusal}
use Rattle.lang_tree.specs.Conditions.{when, first_reason, is_too_large, write_refusal, file_refusal, make_refusal, least_unused, is_snapshot}
use Rattle.lang_tree.specs.Paths.{is_too_long}
use Rattle.lang_log.specs.Names.{log_path, path_in_log, segment_path}

pub none_some : {A : Type 0} {o : Option A} (x : A) → o ≡ None → o ≡ Some x → ⊥
none_some x none some = cc

pub enter_on : (b : Bool) (found : Option ℕ) (on : ℕ → Result ℕ Refusal) (n : ℕ) → b ≡ true → found ≡ Some n → enter b found on ≡ on n
enter_on b found on n p q = ap (λ b. enter b found on) p ∙ ap (λ f. enter true f on) q

pub one_none : (a : Option Refusal) (b : Bool) (why : Refusal) → a ≡ None → b ≡ false → first_reason (a ∷ when b why ∷ []) ≡ None
one_none a b why p q = ap (λ a. first_reason (a ∷ when b why ∷ [])) p ∙ ap (λ b. first_reason (None ∷ when b why ∷ [])) q

two_none : (a : Option Refusal) (b c : Bool) (why other : Refusal) → a ≡ None → b ≡ false → c ≡ false → first_reason (a ∷ when b why ∷ when c other ∷ []) ≡ None
two_none a b c why other p q r =
    ap (λ a. first_reason (a ∷ when b why ∷ when c other ∷ [])) p ∙ ap (λ b. first_reason (None ∷ when b why ∷ when c other ∷ [])) q
    ∙ ap (λ c. first_reason (None ∷ when false why ∷ when c other ∷ [])) r

small : (size : ℕ) → size ≤ 1073741824 → is_too_large size ≡ false
small size h = grind arith

and_false : (a b : Bool) → b ≡ false → (a && b) ≡ false
and_false true b e = e
and_false false b e = refl

pub thing_is : (t : Tree) (p : List (List ℕ)) (n : ℕ) (x : Thing) → get t.names p ≡ Some n → get t.nodes n ≡ Some x → thing_at t p ≡ Some x
thing_is t p n x at is = ap (option_and_then (λ n. get t.nodes n)) at ∙ is

module _ (limit : ℕ) (t : Tree) (s : IsSound limit t) where
  -- the walk to a name in the directory of the log comes to its end
  pub walk_is : (name : List ℕ) (n : ℕ) → get t.names (path_in_log name) ≡ Some n → walk t (path_in_log name) ≡ Ok n
  walk_is name n at =
      let up = s.parents log_path name n at in
      enter_on _ _ _ up.0 (ap is_dir s.root_dir) up.1 ∙ enter_on _ _ _ n (ap is_dir up.2) at

  pub walk_free : (name : List ℕ) (n : ℕ) → get t.names (path_in_log name) ≡ Some n → walk_refusal t (path_in_log name) ≡ None
  walk_free name n at = ap refusal_in (walk_is name n at)

  module _ (name : List ℕ) (n : ℕ) (bytes : List ℕ) (at : get t.names (path_in_log name) ≡ Some n) (file : get t.nodes n ≡ Some (File bytes)) where
    pub is_no_dir : is_dir (thing_at t (path_in_log name)) ≡ false
    is_no_dir = ap is_dir (thing_is t (path_in_log name) n (File bytes) at file)

    pub file_free : file_refusal t (path_in_log name) ≡ None
    file_free = one_none _ _ IsDir (walk_free name n at) is_no_dir

    pub write_free : (offset count : ℕ) → offset + count ≤ 1073741824 → write_refusal t (path_in_log name) offset count ≡ None
    write_free offset count h = two_none _ _ _ IsDir TooLarge (walk_free name n at) is_no_dir (and_false (nat_lt 0 count) _ (small (offset + count) h))

no_directory_is : (t : Tree) (w : Result ℕ Refusal) (n : ℕ) → w ≡ Ok n → get t.nodes n ≡ Some Dir → no_directory t w ≡ None
no_directory_is t w n is dir = ap (no_directory t) is ∙ ap (λ x. if is_dir x then None else Some NotDir) dir

-- a name may come into the directory of the log
pub parent_free : (limit : ℕ) (t : Tree) (s : IsSound limit t) (name : List ℕ) (k : ℕ) → get t.names log_path ≡ Some k → get t.nodes k ≡ Some Dir
    → parent_refusal t (path_in_log name) ≡ None
parent_free limit t s name k at dir = no_directory_is t (walk t log_path) k (enter_on _ _ _ k (ap is_dir s.root_dir) at) dir

-- and the directory of the log into the root
pub log_free : (limit : ℕ) (t : Tree) (s : IsSound limit t) → parent_refusal t log_path ≡ None
log_free limit t s = no_directory_is t (walk t []) 1 refl s.root_dir

-- each layout takes the names of a log
pub log_short : (l : Layout) → is_too_long l log_path ≡ false
log_short l = le-ltb (longest_name l) 3 (omega (arith, taken_name l))

pub segment_short : (l : Layout) (first : ℕ) → is_too_long l (segment_path first) ≡ false
segment_short l first = le-ltb (longest_name l) 10 (omega (arith, taken_name l))

absent : (o : Option ℕ) → o ≡ None → is_some o ≡ false
absent o e = ap is_some e

-- A path that isn't there may be made where its parent allows it, unless no number is unused.
pub make_is : (limit : Bounds) (t : Tree) (path : List (List ℕ)) → is_too_long limit.layout path ≡ false → parent_refusal t path ≡ None → get t.names path ≡ None
    → make_refusal limit t path ≡ when (is_none (least_unused limit.nodes t)) NoNode
make_is limit t path short free none =
    let full = is_none (least_unused limit.nodes t) in
    let long = is_too_long limit.layout path in
    ap (λ a. first_reason (a ∷ when (is_there t path) Exists ∷ when full NoNode ∷ when long NameTooLong ∷ [])) free
    ∙ ap (λ b. first_reason (None ∷ when b Exists ∷ when full NoNode ∷ when long NameTooLong ∷ [])) (absent (get t.names path) none)
    ∙ ap (λ b. first_reason (None ∷ when false Exists ∷ when full NoNode ∷ when b NameTooLong ∷ [])) short
    ∙ only full
  where
    only : (b : Bool) → first_reason (None ∷ when false Exists ∷ when b NoNode ∷ when false NameTooLong ∷ []) ≡ when b NoNode
    only true = refl
    only false = refl

-- The least unused number.

none_of : (o : Option Thing) → is_none o ≡ true → o ≡ None
none_of None e = refl
none_of (Some x) e = absurd cc

both : (a b : Bool) → (a && b) ≡ true → a ≡ true
both true b e = refl
both false b e = e

found_passes : (p : ℕ → Bool) (xs : List ℕ) (n : ℕ) → find p xs ≡ Some n → p n ≡ true
found_passes p [] n e = absurd cc
found_passes p (x ∷ xs) n e = by (p x) refl e (found_passes p xs n)
  where
    by : (b : Bool) → p x ≡ b → (if b then Some x else find p xs) ≡ Some n → (find p xs ≡ Some n → p n ≡ true) → p n ≡ true
    by true is e later = ap p (sym (same_Some x n e)) ∙ is
    by false is e later = later e

pub unused_is_free : (limit : ℕ) (t : Tree) (n : ℕ) → least_unused limit t ≡ Some n → get t.nodes n ≡ None
unfolding least_unused
unused_is_free limit t n e =
    none_of (get t.nodes n)
    (both (is_none (get t.nodes n)) (not (is_snapshot t.snapshots n))
    (found_passes (λ n. is_none (get t.nodes n) && not (is_snapshot t.snapshots n)) (range_with_len 1 limit) n e))
