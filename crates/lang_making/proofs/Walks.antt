-- What a sound tree answers to the commands that make a tree: walks come to their ends, and nothing refuses.
use Rattle.std.proofs.Common.{◌≡◌, ℕ, ◌+◌, ◌≤◌, ◌<◌, Bool, true, false, ◌&&◌, List, [], ◌∷◌, ◌++◌, Option, Some, None, is_some, is_none, option_and_then, Result, Ok, if◌then◌else◌, nat_lt, nat_le, refl, sym, ap, ap₂, ◌∙◌, arith, append_assoc, append-nil}
use Rattle.std.proofs.lemmas.Bool.Decides.{nat_tests}
use Rattle.std.proofs.lemmas.Option.{same_Some}
use Rattle.std.specs.FinMap.{get}
use Rattle.lang_tree.specs.declared.command.Refusal.{Refusal}
use Rattle.lang_tree.specs.declared.command.Refusal.TheVariants.{Exists, NotDir, IsDir, TooLarge, TooManyLinks, NoNode, NameTooLong}
use Rattle.lang_tree.specs.Tree.{Tree, Bounds, Thing, Dir, File, IsSound}
use Rattle.lang_tree.specs.Paths.{parent, is_too_long}
use Rattle.lang_tree.specs.Names.{path_count}
use Rattle.lang_tree.specs.Walk.{walk, walk_from, enter, is_dir, is_there, thing_at, walk_refusal, refusal_in, no_directory, parent_refusal, counted, links}
use Rattle.lang_tree.specs.Conditions.{when, first_reason, least_unused, is_too_large, make_refusal, link_refusal, write_refusal}

entered : (b : Bool) (found : Option ℕ) (on : ℕ → Result ℕ Refusal) (n : ℕ) → b ≡ true → found ≡ Some n → enter b found on ≡ on n
entered b found on n p q = ap₂ (λ b o. enter b o on) p q

pub thing_there : (t : Tree) (p : List (List ℕ)) (n : ℕ) (x : Thing) → get t.names p ≡ Some n → get t.nodes n ≡ Some x → thing_at t p ≡ Some x
thing_there t p n x at is = ap (option_and_then (λ n. get t.nodes n)) at ∙ is

size_fits : (size : ℕ) → size ≤ 1073741824 → is_too_large size ≡ false
size_fits size h = grind arith

few_links : (n : ℕ) → n < 65535 → nat_le 65535 n ≡ false
few_links n h = grind (arith, nat_tests)

second_fails : (a b : Bool) → b ≡ false → (a && b) ≡ false
second_fails true b e = e
second_fails false b e = refl

module _ (limit : Bounds) (t : Tree) (s : IsSound limit.nodes t) where
  -- what has a path below it is a directory
  over : (p r : List (List ℕ)) (name : List ℕ) (n : ℕ) → get t.names (p ++ name ∷ r) ≡ Some n → (k : ℕ) × (get t.names p ≡ Some k) × (get t.nodes k ≡ Some Dir)
  over p [] name n at = s.parents p name n at
  over p (x ∷ r) name n at =
      let k = over (p ++ name ∷ []) r x n (ap (get t.names) (append_assoc p (name ∷ []) (x ∷ r)) ∙ at) in
      s.parents p name k.0 k.1

  next_there : (here rest : List (List ℕ)) (name : List ℕ) (k : ℕ) → get t.names (here ++ name ∷ rest) ≡ Some k → (m : ℕ) × (get t.names (here ++ name ∷ []) ≡ Some m)
  next_there here [] name k end = (k, end)
  next_there here (x ∷ rest) name k end =
      let m = over (here ++ name ∷ []) rest x k (ap (get t.names) (append_assoc here (name ∷ []) (x ∷ rest)) ∙ end) in
      (m.0, m.1)

  walks_on : (here rest : List (List ℕ)) (n k : ℕ) → get t.names here ≡ Some n → get t.names (here ++ rest) ≡ Some k → walk_from t here n rest ≡ Ok k
  walks_on here [] n k at end =
      let same : n ≡ k = same_Some n k (sym at ∙ ap (get t.names) (sym (append-nil here)) ∙ end) in
      λ i. Ok (same i)
  walks_on here (name ∷ rest) n k at end =
      let up = over here rest name k end in
      let same : up.0 ≡ n = same_Some up.0 n (sym up.1 ∙ at) in
      let dir : is_dir (get t.nodes n) ≡ true = ap is_dir (ap (get t.nodes) (sym same) ∙ up.2) in
      let next = next_there here rest name k end in
      entered (is_dir (get t.nodes n)) (get t.names (here ++ name ∷ [])) (λ m. walk_from t (here ++ name ∷ []) m rest) next.0 dir next.1
      ∙ walks_on (here ++ name ∷ []) rest next.0 k next.1 (ap (get t.names) (append_assoc here (name ∷ []) rest) ∙ end)

  walks : (p : List (List ℕ)) (k : ℕ) → get t.names p ≡ Some k → walk t p ≡ Ok k
  walks p k at = walks_on [] p 1 k s.root at

  pub no_walk_refusal : (p : List (List ℕ)) (k : ℕ) → get t.names p ≡ Some k → walk_refusal t p ≡ None
  no_walk_refusal p k at = ap refusal_in (walks p k at)

  no_parent_refusal : (p : List (List ℕ)) (k : ℕ) → get t.names (parent p) ≡ Some k → get t.nodes k ≡ Some Dir → parent_refusal t p ≡ None
  no_parent_refusal [] k at dir = refl
  no_parent_refusal (x ∷ p) k at dir = ap (no_directory t) (walks (parent (x ∷ p)) k at) ∙ ap (λ o. if is_dir o then None else Some NotDir) dir

  pub nothing_refuses_new : (p : List (List ℕ)) (k m : ℕ) → get t.names (parent p) ≡ Some k → get t.nodes k ≡ Some Dir → get t.names p ≡ None → least_unused limit.nodes t ≡ Some m
      → is_too_long limit.layout p ≡ false → make_refusal limit t p ≡ None
  nothing_refuses_new p k m up dir none unused short =
      ap (λ a. first_reason (a ∷ when (is_there t p) Exists ∷ when (is_none (least_unused limit.nodes t)) NoNode ∷ when (is_too_long limit.layout p) NameTooLong ∷ []))
      (no_parent_refusal p k up dir)
      ∙ ap (λ o. first_reason (None ∷ when (is_some o) Exists ∷ when (is_none (least_unused limit.nodes t)) NoNode ∷ when (is_too_long limit.layout p) NameTooLong ∷ [])) none
      ∙ ap (λ o. first_reason (None ∷ None ∷ when (is_none o) NoNode ∷ when (is_too_long limit.layout p) NameTooLong ∷ [])) unused
      ∙ ap (λ b. first_reason (None ∷ None ∷ None ∷ when b NameTooLong ∷ [])) short

  -- the last reason of a link to a path
  abbrev long_name : List (List ℕ) → List (Option Refusal)
  long_name p = when (is_too_long limit.layout p) NameTooLong ∷ []

  pub nothing_refuses_link : (q p : List (List ℕ)) (j k : ℕ) (bytes : List ℕ) → get t.names q ≡ Some j → get t.nodes j ≡ Some (File bytes)
      → get t.names (parent p) ≡ Some k → get t.nodes k ≡ Some Dir → get t.names p ≡ None → path_count t.names j < 65535
      → is_too_long limit.layout p ≡ false → link_refusal limit.layout t q p ≡ None
  nothing_refuses_link q p j k bytes at file up dir none few short =
      ap (λ a. first_reason (a ∷ parent_refusal t p ∷ when (is_there t p) Exists ∷ when (is_dir (thing_at t q)) IsDir ∷ when (nat_le 65535 (links t q)) TooManyLinks ∷ long_name p))
      (no_walk_refusal q j at)
      ∙ ap (λ a. first_reason (None ∷ a ∷ when (is_there t p) Exists ∷ when (is_dir (thing_at t q)) IsDir ∷ when (nat_le 65535 (links t q)) TooManyLinks ∷ long_name p))
      (no_parent_refusal p k up dir)
      ∙ ap (λ o. first_reason (None ∷ None ∷ when (is_some o) Exists ∷ when (is_dir (thing_at t q)) IsDir ∷ when (nat_le 65535 (links t q)) TooManyLinks ∷ long_name p)) none
      ∙ ap (λ o. first_reason (None ∷ None ∷ None ∷ when (is_dir o) IsDir ∷ when (nat_le 65535 (links t q)) TooManyLinks ∷ long_name p)) (thing_there t q j (File bytes) at file)
      ∙ ap (λ o. first_reason (None ∷ None ∷ None ∷ None ∷ when (nat_le 65535 (counted t o)) TooManyLinks ∷ long_name p)) at
      ∙ ap (λ b. first_reason (None ∷ None ∷ None ∷ None ∷ when b TooManyLinks ∷ long_name p)) (few_links (path_count t.names j) few)
      ∙ ap (λ b. first_reason (None ∷ None ∷ None ∷ None ∷ None ∷ when b NameTooLong ∷ [])) short

  pub nothing_refuses_write : (p : List (List ℕ)) (j offset count : ℕ) (bytes : List ℕ) → get t.names p ≡ Some j → get t.nodes j ≡ Some (File bytes)
      → offset + count ≤ 1073741824 → write_refusal t p offset count ≡ None
  nothing_refuses_write p j offset count bytes at file fits =
      ap (λ a. first_reason (a ∷ when (is_dir (thing_at t p)) IsDir ∷ when (nat_lt 0 count && is_too_large (offset + count)) TooLarge ∷ [])) (no_walk_refusal p j at)
      ∙ ap (λ o. first_reason (None ∷ when (is_dir o) IsDir ∷ when (nat_lt 0 count && is_too_large (offset + count)) TooLarge ∷ [])) (thing_there t p j (File bytes) at file)
      ∙ ap (λ b. first_reason (None ∷ None ∷ when b TooLarge ∷ [])) (second_fails (nat_lt 0 count) (is_too_large (offset + count)) (size_fits (offset + count) fits))
