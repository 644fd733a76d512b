-- What walks and refusals tell of a sound tree: what is there, what is a directory, and what lies below a path.
use Rattle.std.proofs.Common.{◌≡◌, ℕ, Bool, true, false, ◌&&◌, List, [], ◌∷◌, ◌++◌, Option, Some, None, option_and_then, Ok, is_none, is_some, nat_le, if◌then◌else◌, sym, refl, ap, ◌∙◌, ◌⊎◌, inl, inr, append_assoc, append-nil, eq-eqb, arith}
use Rattle.std.proofs.lemmas.Bool.{false_from_ne_true}
use Rattle.std.specs.FinMap.{get, entries, get-entries}
use Rattle.std.proofs.lemmas.Option.{none-some}
use Rattle.base_types.specs.declared.layout.Layout.{Layout}
use Rattle.lang_tree.specs.declared.command.Refusal.{Refusal}
use Rattle.lang_tree.specs.declared.command.Refusal.TheVariants.{Exists, IsDir, TooManyLinks, NoNode, NameTooLong}
use Rattle.lang_tree.specs.Tree.{Tree, Bounds, Names, Thing, Dir, File, IsSound}
use Rattle.lang_tree.specs.Paths.{is_within, is_below, parent, is_too_long}
use Rattle.lang_tree.specs.Names.{holds_names}
use Rattle.lang_tree.specs.Walk.{walk, walk_from, is_dir, is_file, is_there, thing_at, walk_refusal, parent_refusal, are_same, is_same_node, links}
use Rattle.lang_tree.specs.Conditions.{when, first_reason, least_unused, make_refusal, link_refusal, onto_refusal, rename_refusal}
use Rattle.lang_tree.proofs.basics.Order.{path_total, path_same}
use Rattle.lang_tree.proofs.basics.Strips.{within_is, below_is, below_at, from_end, no_append, parent_append}
use Rattle.lang_tree.proofs.basics.Finds.{any_found, found_any}

-- Refusals.

pub no_reason : (r : Option Refusal) (rest : List (Option Refusal)) → first_reason (r ∷ rest) ≡ None → (r ≡ None) × (first_reason rest ≡ None)
no_reason r rest h1 = grind arith

pub no_reasons : (a b c : Option Refusal) (rest : List (Option Refusal)) → first_reason (a ∷ b ∷ c ∷ rest) ≡ None → (a ≡ None) × (b ≡ None) × (c ≡ None)
no_reasons a b c rest e = grind (arith, no_reason)

pub not_so : (b : Bool) (why : Refusal) → when b why ≡ None → b ≡ false
not_so b why h1 = grind arith

-- what an accepted new node finds
pub make_reasons : (limit : Bounds) (t : Tree) (path : List (List ℕ)) → make_refusal limit t path ≡ None
    → (parent_refusal t path ≡ None) × (is_there t path ≡ false) × (is_none (least_unused limit.nodes t) ≡ false)
make_reasons limit t path e =
    let r = no_reasons (parent_refusal t path) (when (is_there t path) Exists) (when (is_none (least_unused limit.nodes t)) NoNode) (when (is_too_long limit.layout path) NameTooLong ∷ []) e in
    (r.0, not_so (is_there t path) Exists r.1, not_so (is_none (least_unused limit.nodes t)) NoNode r.2)

-- what an accepted link finds
pub link_reasons : (l : Layout) (t : Tree) (path other : List (List ℕ)) → link_refusal l t path other ≡ None
    → (walk_refusal t path ≡ None) × (parent_refusal t other ≡ None) × (is_there t other ≡ false) × (is_dir (thing_at t path) ≡ false)
link_reasons l t path other e =
    let long : Option Refusal = when (is_too_long l other) NameTooLong in
    let many : Option Refusal = when (nat_le 65535 (links t path)) TooManyLinks in
    let dir : Option Refusal = when (is_dir (thing_at t path)) IsDir in
    let there : Option Refusal = when (is_there t other) Exists in
    let one = no_reason (walk_refusal t path) (parent_refusal t other ∷ there ∷ dir ∷ many ∷ long ∷ []) e in
    let two = no_reason (parent_refusal t other) (there ∷ dir ∷ many ∷ long ∷ []) one.1 in
    let r = no_reasons there dir many (long ∷ []) two.1 in
    (one.0, two.0, not_so (is_there t other) Exists r.0, not_so (is_dir (thing_at t path)) IsDir r.1)

-- Directories and files.

pub dir_of : (o : Option Thing) → is_dir o ≡ true → o ≡ Some Dir
dir_of o h1 = grind arith

pub dir_file : {bytes : List ℕ} {o : Option Thing} → o ≡ Some Dir → o ≡ Some (File bytes) → ⊥
dir_file dir file = cc

pub thing_is : (t : Tree) (p : List (List ℕ)) (n : ℕ) (x : Thing) → get t.names p ≡ Some n → get t.nodes n ≡ Some x → thing_at t p ≡ Some x
thing_is t p n x at is = ap (option_and_then (λ n. get t.nodes n)) at ∙ is

-- Walks.

-- the walk ends at the number that the whole path has
pub walked_on : (t : Tree) (here : List (List ℕ)) (n : ℕ) (rest : List (List ℕ)) (k : ℕ) → get t.names here ≡ Some n → walk_from t here n rest ≡ Ok k → get t.names (here ++ rest) ≡ Some k
walked_on t here n [] k at end = ap (get t.names) (append-nil here) ∙ at ∙ cc
walked_on t here n (name ∷ rest) k at end = grind (arith, λ (m : ℕ). walked_on t (here ++ name ∷ []) m rest k, is_dir (get t.nodes n), get t.names (here ++ name ∷ []), get t.names, t.nodes, t.names, append_assoc)

pub walked : (t : Tree) (path : List (List ℕ)) (n : ℕ) → get t.names [] ≡ Some 1 → walk t path ≡ Ok n → get t.names path ≡ Some n
walked t path n root end = walked_on t [] 1 path n root end

-- a path whose walk isn't refused is there
pub walked_there : (t : Tree) (path : List (List ℕ)) → get t.names [] ≡ Some 1 → walk_refusal t path ≡ None → (n : ℕ) × (get t.names path ≡ Some n)
walked_there t path root e = grind (arith, walk t path, t.names, walked)

-- a parent that is no refusal is a directory with its path
pub parent_is : (t : Tree) (path : List (List ℕ)) → get t.names [] ≡ Some 1 → (path ≡ [] → ⊥) → parent_refusal t path ≡ None → (k : ℕ) × (get t.names (parent path) ≡ Some k) × (get t.nodes k ≡ Some Dir)
parent_is t path h1 h2 h3 = grind (arith, t.nodes, dir_of, t.names, walked)

-- What lies below a path.

pub holds_some : (names : Names) (p : List (List ℕ)) → holds_names names p ≡ true → (q : List (List ℕ)) × (n : ℕ) × (get names q ≡ Some n) × (is_below p q ≡ true)
holds_some names p e = let r = any_found path_total path_same (is_below p) (entries names) e in (r.0, r.1, get-entries names r.0 ∙ r.2, r.3)

pub some_held : (names : Names) (p q : List (List ℕ)) (n : ℕ) → get names q ≡ Some n → is_below p q ≡ true → holds_names names p ≡ true
some_held names p q n at below = found_any path_total path_same (is_below p) (entries names) q n (sym (get-entries names q) ∙ at) below

-- where no path lies below p, no path begins with p and has more names
pub none_held : (names : Names) (p r : List (List ℕ)) (name : List ℕ) (n : ℕ) → holds_names names p ≡ false → get names (p ++ name ∷ r) ≡ Some n → ⊥
none_held names p r name n free at = let held = some_held names p (p ++ name ∷ r) n at (below_at p (p ++ name ∷ r) r name refl) in cc

module _ (limit : ℕ) (t : Tree) (s : IsSound limit t) where
  -- what has a path below it is a directory
  pub above : (p r : List (List ℕ)) (name : List ℕ) (n : ℕ) → get t.names (p ++ name ∷ r) ≡ Some n → (k : ℕ) × (get t.names p ≡ Some k) × (get t.nodes k ≡ Some Dir)
  above p [] name n at = s.parents p name n at
  above p (x ∷ r) name n at = grind (arith, above (p ++ name ∷ []) r x n (ap (get t.names) (append_assoc p (name ∷ []) (x ∷ r)) ∙ at), t.names, append_assoc, s.parents)

  pub above_dir : (p r : List (List ℕ)) (n : ℕ) → get t.names (p ++ r) ≡ Some n → get t.nodes n ≡ Some Dir → (k : ℕ) × (get t.names p ≡ Some k) × (get t.nodes k ≡ Some Dir)
  above_dir p [] n at dir = (n, ap (get t.names) (sym (append-nil p)) ∙ at, dir)
  above_dir p (x ∷ r) n at dir = above p r x n at

  pub holds_dir : (p : List (List ℕ)) → holds_names t.names p ≡ true → (k : ℕ) × (get t.names p ≡ Some k) × (get t.nodes k ≡ Some Dir)
  holds_dir p e = grind (arith, holds_some, t.names, below_is, above)

  pub nothing_below_absent : (p : List (List ℕ)) → get t.names p ≡ None → holds_names t.names p ≡ false
  nothing_below_absent p none = false_from_ne_true (holds_names t.names p) (λ e. let k = holds_dir p e in none-some k.0 (sym none ∙ k.1))

  pub nothing_below_file : (p : List (List ℕ)) → is_file (thing_at t p) ≡ true → holds_names t.names p ≡ false
  nothing_below_file p file = grind (arith, false_from_ne_true, t.names, holds_dir, thing_is)

-- Moves.

-- What a move that isn't refused finds: something is there, below the second path lies nothing, which is neither the first one nor below it, nor the root, and its parent is a directory.
pub record CanMove (t : Tree) (from to : List (List ℕ)) : Type 0 where
  pub there : is_some (get t.names from) ≡ true
  pub free : holds_names t.names to ≡ false
  pub apart : is_within from to ≡ false
  pub below_root : to ≡ [] → ⊥
  pub dir : ℕ
  pub dir_at : get t.names (parent to) ≡ Some dir
  pub is_dir : get t.nodes dir ≡ Some Dir

same_here : (n : ℕ) (o : Option ℕ) → o ≡ Some n → are_same o o ≡ true
same_here n o e = ap (λ o. are_same o o) e ∙ eq-eqb n n refl

module _ (limit : ℕ) (t : Tree) (s : IsSound limit t) (from to : List (List ℕ)) where
  -- the node at `from` is a directory, or else a file
  sort : (n : ℕ) → get t.names from ≡ Some n → (thing_at t from ≡ Some Dir) ⊎ ((bytes : List ℕ) × (thing_at t from ≡ Some (File bytes)))
  sort n at = grind (arith, s.named from n at, s.named, t.nodes, thing_is)

  -- why what is at `to` can take what is at `from`
  record CanTake : Type 0 where
    kind : (is_file (thing_at t from) && is_dir (thing_at t to)) ≡ false
    empty : (is_dir (thing_at t from) && (is_dir (thing_at t to) && holds_names t.names to)) ≡ false
    apart : (is_dir (thing_at t from) && is_below from to) ≡ false

  can_take : onto_refusal t from to ≡ None → CanTake
  can_take e = grind (arith, above, t.names, no_reason, no_reasons, not_so)

  -- not onto what holds names
  onto_free : (n : ℕ) → get t.names from ≡ Some n → onto_refusal t from to ≡ None → holds_names t.names to ≡ false
  onto_free n at e = false_from_ne_true (holds_names t.names to) (λ held.
      let k = holds_dir limit t s to held in
      let to_dir : thing_at t to ≡ Some Dir = thing_is t to k.0 Dir k.1 k.2 in
      let can = can_take e in
      by held to_dir can.kind can.empty (sort n at))
    where
      by : holds_names t.names to ≡ true → thing_at t to ≡ Some Dir → (is_file (thing_at t from) && is_dir (thing_at t to)) ≡ false
          → (is_dir (thing_at t from) && (is_dir (thing_at t to) && holds_names t.names to)) ≡ false
          → (thing_at t from ≡ Some Dir) ⊎ ((bytes : List ℕ) × (thing_at t from ≡ Some (File bytes))) → ⊥
      by h1 h2 h3 h4 h5 = grind (arith, t.names)

  -- not at or below itself
  onto_apart : (n k : ℕ) → get t.names from ≡ Some n → get t.names (parent to) ≡ Some k → get t.nodes k ≡ Some Dir → is_same_node t from to ≡ false → onto_refusal t from to ≡ None
      → (r : List (List ℕ)) → to ≡ from ++ r → ⊥
  onto_apart n k at up dir other e [] is =
      let same : to ≡ from = is ∙ append-nil from in
      let test : is_same_node t from to ≡ true = ap (λ p. are_same (get t.names from) (get t.names p)) same ∙ same_here n (get t.names from) at in
      cc
  onto_apart n k at up dir other e (x ∷ r) is =
      let can = can_take e in
      by can.apart (sort n at) (from_end (x ∷ r))
    where
      by : (is_dir (thing_at t from) && is_below from to) ≡ false → (thing_at t from ≡ Some Dir) ⊎ ((bytes : List ℕ) × (thing_at t from ≡ Some (File bytes)))
          → (x ∷ r ≡ []) ⊎ ((up : List (List ℕ)) × (name : List ℕ) × (x ∷ r ≡ up ++ name ∷ [])) → ⊥
      by four (inl dir) end = let below : is_below from to ≡ true = below_at from to r x is in let e : (is_dir (thing_at t from) && is_below from to) ≡ true = cc in cc
      by four (inr file) (inl none) = cc
      by four (inr file) (inr end) =
          let is_up : parent to ≡ from ++ end.0 = ap parent (is ∙ ap (λ r. from ++ r) end.2 ∙ sym (append_assoc from end.0 (end.1 ∷ []))) ∙ parent_append (from ++ end.0) end.1 in
          let d = above_dir limit t s from end.0 k (ap (get t.names) (sym is_up) ∙ up) dir in
          dir_file (thing_is t from d.0 Dir d.1 d.2) file.1

  onto_root : (n : ℕ) → get t.names from ≡ Some n → is_same_node t from to ≡ false → holds_names t.names to ≡ false → to ≡ [] → ⊥
  onto_root n at other free root = by (from_end from)
    where
      by : (from ≡ []) ⊎ ((up : List (List ℕ)) × (name : List ℕ) × (from ≡ up ++ name ∷ [])) → ⊥
      by (inl none) =
          let test : is_same_node t from to ≡ true = ap (λ p. are_same (get t.names from) (get t.names p)) (root ∙ sym none) ∙ same_here n (get t.names from) at in
          cc
      by (inr end) = first from refl at
        where
          first : (p : List (List ℕ)) → from ≡ p → get t.names p ≡ Some n → ⊥
          first [] is at = no_append end.0 end.1 (sym end.2 ∙ is)
          first (x ∷ p) is at = none_held t.names to p x n free (ap (λ q. get t.names (q ++ x ∷ p)) root ∙ at)

  pub target_apart : (l : Layout) → rename_refusal l t from to ≡ None → is_same_node t from to ≡ false → CanMove t from to
  target_apart l e other =
      let r = no_reasons (walk_refusal t from) (parent_refusal t to) (if is_same_node t from to then None else onto_refusal t from to) (when (is_too_long l to) NameTooLong ∷ []) e in
      let n = walked_there t from s.root r.0 in
      let onto : onto_refusal t from to ≡ None = ap (λ b. if b then None else onto_refusal t from to) (sym other) ∙ r.2 in
      let free = onto_free n.0 n.1 onto in
      let root = onto_root n.0 n.1 other free in
      let up = parent_is t to s.root root r.1 in
      record {
        there = ap is_some n.1;
        free = free;
        apart = false_from_ne_true (is_within from to) (λ w. let r = within_is from to w in onto_apart n.0 up.0 n.1 up.1 up.2 other onto r.0 r.1);
        below_root = root;
        dir = up.0;
        dir_at = up.1;
        is_dir = up.2;
      }
