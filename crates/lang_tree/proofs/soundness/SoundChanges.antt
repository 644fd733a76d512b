-- A sound tree stays sound with a new node at a new path, with another path of a file, and with other bytes in a file.
use Rattle.std.proofs.Common.{◌≡◌, ℕ, zero, suc, ◌+◌, ◌≤◌, ◌<◌, Bool, true, false, ◌&&◌, not, List, [], ◌∷◌, ◌++◌, Option, Some, None, is_none, find as first, sym, refl, ap, ◌∙◌, ◌⊎◌, inl, inr, arith}
use Rattle.std.specs.List.{range_with_len}
use Rattle.std.specs.Cmp.{nat_cmp_total}
use Rattle.std.specs.FinMap.{nat_cmp-IsAntisymmetric, get, insert}
use Rattle.std.proofs.lemmas.Option.{same_Some, none-some}
use Rattle.base_types.specs.declared.layout.Layout.{Layout}
use Rattle.lang_tree.specs.Tree.{Tree, Thing, Dir, File, IsSound}
use Rattle.lang_tree.specs.Paths.{parent}
use Rattle.lang_tree.specs.Conditions.{is_snapshot, least_unused, make_refusal}
use Rattle.lang_tree.specs.Step.{with_node, added, with_bytes, edited_at, edited}
use Rattle.lang_tree.proofs.basics.Order.{path_total, path_same}
use Rattle.lang_tree.proofs.basics.Strips.{lacks, parent_append}
use Rattle.lang_tree.proofs.basics.Finds.{put_here, look, keeps}
use Rattle.lang_tree.proofs.walking.Found.{make_reasons, dir_file, parent_is}

found_in : (test : ℕ → Bool) (a n m : ℕ) → first test (range_with_len a n) ≡ Some m → (test m ≡ true) × (a ≤ m) × (m < a + n)
found_in test a zero m e = absurd (none-some m e)
found_in test a (suc n) m e = grind (arith, found_in test (a + 1) n m, test a, same_Some)

none_of : {A : Type 0} (o : Option A) → is_none o ≡ true → o ≡ None
none_of o h1 = grind arith

both : (a b : Bool) → (a && not b) ≡ true → (a ≡ true) × (b ≡ false)
both a b h1 = grind arith

pub unused_is : (limit m : ℕ) (t : Tree) → least_unused limit t ≡ Some m → (get t.nodes m ≡ None) × (1 ≤ m) × (m ≤ limit) × (is_snapshot t.snapshots m ≡ false)
unfolding least_unused
unused_is limit m t e =
    let r = found_in (λ n. is_none (get t.nodes n) && not (is_snapshot t.snapshots n)) 1 limit m e in
    let free = both (is_none (get t.nodes m)) (is_snapshot t.snapshots m) r.0 in
    (none_of _ free.0, r.1, omega (arith, r.2), free.1)

module _ (limit : ℕ) (t : Tree) (s : IsSound limit t) where
  -- a new node at a new path, below a directory
  module _ (path : List (List ℕ)) (m k : ℕ) (x : Thing) (no_path : get t.names path ≡ None) (no_node : get t.nodes m ≡ None) (low : 1 ≤ m) (high : m ≤ limit)
      (up_at : get t.names (parent path) ≡ Some k) (up_dir : get t.nodes k ≡ Some Dir) where
    look_name : (p : List (List ℕ)) → (p ≡ path) ⊎ (get (insert t.names path m) p ≡ get t.names p)
    look_name p = look path_total path_same t.names path m p

    look_node : (n : ℕ) → (n ≡ m) ⊎ (get (insert t.nodes m x) n ≡ get t.nodes n)
    look_node n = look nat_cmp_total nat_cmp-IsAntisymmetric t.nodes m x n

    keep_name : (p : List (List ℕ)) (n : ℕ) → get t.names p ≡ Some n → get (insert t.names path m) p ≡ Some n
    keep_name p n e = keeps path_total path_same t.names path m p n no_path e

    keep_node : (n : ℕ) (y : Thing) → get t.nodes n ≡ Some y → get (insert t.nodes m x) n ≡ Some y
    keep_node n y e = keeps nat_cmp_total nat_cmp-IsAntisymmetric t.nodes m x n y no_node e

    new_name : (p : List (List ℕ)) → p ≡ path → get (insert t.names path m) p ≡ Some m
    new_name p e = put_here path_total t.names path m p e

    new_node : (n : ℕ) → n ≡ m → get (insert t.nodes m x) n ≡ Some x
    new_node n e = put_here nat_cmp_total t.nodes m x n e

    -- no old path leads to the new number
    no_old : (p : List (List ℕ)) → get t.names p ≡ Some m → ⊥
    no_old p e = let y = s.named p m e in none-some y.0 (sym no_node ∙ y.1)

    lift : (up : List (List ℕ)) → (j : ℕ) × (get t.names up ≡ Some j) × (get t.nodes j ≡ Some Dir) → (j : ℕ) × (get (insert t.names path m) up ≡ Some j) × (get (insert t.nodes m x) j ≡ Some Dir)
    lift up r = (r.0, keep_name up r.0 r.1, keep_node r.0 Dir r.2)

    parents_by : (up : List (List ℕ)) (name : List ℕ) (n : ℕ) → get (insert t.names path m) (up ++ name ∷ []) ≡ Some n
        → (up ++ name ∷ [] ≡ path) ⊎ (get (insert t.names path m) (up ++ name ∷ []) ≡ get t.names (up ++ name ∷ []))
        → (j : ℕ) × (get (insert t.names path m) up ≡ Some j) × (get (insert t.nodes m x) j ≡ Some Dir)
    parents_by up name n h1 h2 = grind (arith, lift, t.names, parent_append, s.parents)

    named_by : (p : List (List ℕ)) (n : ℕ) → get (insert t.names path m) p ≡ Some n → (p ≡ path) ⊎ (get (insert t.names path m) p ≡ get t.names p) → (y : Thing) × (get (insert t.nodes m x) n ≡ Some y)
    named_by p n e (inl is) = (x, new_node n (same_Some n m (sym e ∙ new_name p is)))
    named_by p n e (inr is) = let r = s.named p n (sym is ∙ e) in (r.0, keep_node n r.0 r.1)

    reached_by : (n : ℕ) (y : Thing) → get (insert t.nodes m x) n ≡ Some y → (n ≡ m) ⊎ (get (insert t.nodes m x) n ≡ get t.nodes n) → (p : List (List ℕ)) × (get (insert t.names path m) p ≡ Some n)
    reached_by n y e (inl is) = (path, new_name path refl ∙ ap Some (sym is))
    reached_by n y e (inr is) = let r = s.reached n y (sym is ∙ e) in (r.0, keep_name r.0 n r.1)

    -- a path of the new number is the new path
    own_path : (p : List (List ℕ)) → get (insert t.names path m) p ≡ Some m → (p ≡ path) ⊎ (get (insert t.names path m) p ≡ get t.names p) → p ≡ path
    own_path p h1 h2 = grind (arith, no_old)

    old_path : (n : ℕ) (p : List (List ℕ)) (y : Thing) → get t.nodes n ≡ Some y → get (insert t.names path m) p ≡ Some n → (p ≡ path) ⊎ (get (insert t.names path m) p ≡ get t.names p) → get t.names p ≡ Some n
    old_path n p y h1 h2 h3 = grind (arith, none-some, t.nodes, same_Some, new_name)

    one_by : (n : ℕ) (p q : List (List ℕ)) → get (insert t.nodes m x) n ≡ Some Dir → get (insert t.names path m) p ≡ Some n → get (insert t.names path m) q ≡ Some n
        → (n ≡ m) ⊎ (get (insert t.nodes m x) n ≡ get t.nodes n) → p ≡ q
    one_by n p q dir at_p at_q (inl is) = own_path p (at_p ∙ ap Some is) (look_name p) ∙ sym (own_path q (at_q ∙ ap Some is) (look_name q))
    one_by n p q dir at_p at_q (inr is) = let dir_before : get t.nodes n ≡ Some Dir = sym is ∙ dir in
        s.one_path n p q dir_before (old_path n p Dir dir_before at_p (look_name p)) (old_path n q Dir dir_before at_q (look_name q))

    within_by : (n : ℕ) (y : Thing) → get (insert t.nodes m x) n ≡ Some y → (n ≡ m) ⊎ (get (insert t.nodes m x) n ≡ get t.nodes n) → (1 ≤ n) × (n ≤ limit)
    within_by n y h1 h2 = grind (arith, s.within)

    pub with_new : IsSound limit (record t { names = insert t.names path m; nodes = insert t.nodes m x })
    with_new = record {
      root = keep_name [] 1 s.root;
      root_dir = keep_node 1 Dir s.root_dir;
      parents = λ up name n e. parents_by up name n e (look_name (up ++ name ∷ []));
      named = λ p n e. named_by p n e (look_name p);
      reached = λ n y e. reached_by n y e (look_node n);
      one_path = λ n p q dir at_p at_q. one_by n p q dir at_p at_q (look_node n);
      within = λ n y e. within_by n y e (look_node n);
    }

  -- another path of a file
  module _ (path : List (List ℕ)) (n k : ℕ) (bytes : List ℕ) (no_path : get t.names path ≡ None) (file : get t.nodes n ≡ Some (File bytes))
      (up_at : get t.names (parent path) ≡ Some k) (up_dir : get t.nodes k ≡ Some Dir) where
    look_other : (p : List (List ℕ)) → (p ≡ path) ⊎ (get (insert t.names path n) p ≡ get t.names p)
    look_other p = look path_total path_same t.names path n p

    keep_other : (p : List (List ℕ)) (m : ℕ) → get t.names p ≡ Some m → get (insert t.names path n) p ≡ Some m
    keep_other p m e = keeps path_total path_same t.names path n p m no_path e

    link_here : (p : List (List ℕ)) (m : ℕ) → get (insert t.names path n) p ≡ Some m → p ≡ path → m ≡ n
    link_here p m e is = same_Some m n (sym e ∙ put_here path_total t.names path n p is)

    link_parents : (up : List (List ℕ)) (name : List ℕ) (m : ℕ) → get (insert t.names path n) (up ++ name ∷ []) ≡ Some m
        → (up ++ name ∷ [] ≡ path) ⊎ (get (insert t.names path n) (up ++ name ∷ []) ≡ get t.names (up ++ name ∷ []))
        → (j : ℕ) × (get (insert t.names path n) up ≡ Some j) × (get t.nodes j ≡ Some Dir)
    link_parents up name m e (inl is) = (k, keep_other up k (ap (get t.names) (sym (parent_append up name) ∙ ap parent is) ∙ up_at), up_dir)
    link_parents up name m e (inr is) = let r = s.parents up name m (sym is ∙ e) in (r.0, keep_other up r.0 r.1, r.2)

    link_named : (p : List (List ℕ)) (m : ℕ) → get (insert t.names path n) p ≡ Some m → (p ≡ path) ⊎ (get (insert t.names path n) p ≡ get t.names p) → (y : Thing) × (get t.nodes m ≡ Some y)
    link_named p m h1 h2 = grind (arith, t.nodes, link_here, s.named)

    link_old : (p : List (List ℕ)) (m : ℕ) → get t.nodes m ≡ Some Dir → get (insert t.names path n) p ≡ Some m → (p ≡ path) ⊎ (get (insert t.names path n) p ≡ get t.names p) → get t.names p ≡ Some m
    link_old p m h1 h2 h3 = grind (arith, dir_file, t.nodes, link_here)

    pub with_link : IsSound limit (record t { names = insert t.names path n })
    with_link = record {
      root = keep_other [] 1 s.root;
      root_dir = s.root_dir;
      parents = λ up name m e. link_parents up name m e (look_other (up ++ name ∷ []));
      named = λ p m e. link_named p m e (look_other p);
      reached = λ m y e. let r = s.reached m y e in (r.0, keep_other r.0 m r.1);
      one_path = λ m p q dir at_p at_q. s.one_path m p q dir (link_old p m dir at_p (look_other p)) (link_old q m dir at_q (look_other q));
      within = s.within;
    }

  -- other bytes in a file
  module _ (n : ℕ) (old bytes : List ℕ) (there : get t.nodes n ≡ Some (File old)) where
    look_file : (j : ℕ) → (j ≡ n) ⊎ (get (insert t.nodes n (File bytes)) j ≡ get t.nodes j)
    look_file j = look nat_cmp_total nat_cmp-IsAntisymmetric t.nodes n (File bytes) j

    new_file : (j : ℕ) → j ≡ n → get (insert t.nodes n (File bytes)) j ≡ Some (File bytes)
    new_file j e = put_here nat_cmp_total t.nodes n (File bytes) j e

    dir_at : (j : ℕ) → get t.nodes j ≡ Some Dir → (j ≡ n) ⊎ (get (insert t.nodes n (File bytes)) j ≡ get t.nodes j) → get (insert t.nodes n (File bytes)) j ≡ Some Dir
    dir_at j h1 h2 = grind (arith, dir_file, t.nodes)

    some_by : (j : ℕ) → (x : Thing) × (get t.nodes j ≡ Some x) → (j ≡ n) ⊎ (get (insert t.nodes n (File bytes)) j ≡ get t.nodes j) → (x : Thing) × (get (insert t.nodes n (File bytes)) j ≡ Some x)
    some_by j r (inl is) = (File bytes, new_file j is)
    some_by j r (inr is) = (r.0, is ∙ r.1)

    old_by : (j : ℕ) (x : Thing) → get (insert t.nodes n (File bytes)) j ≡ Some x → (j ≡ n) ⊎ (get (insert t.nodes n (File bytes)) j ≡ get t.nodes j) → (y : Thing) × (get t.nodes j ≡ Some y)
    old_by j x h1 h2 = grind (arith, t.nodes)

    dir_by : (j : ℕ) → get (insert t.nodes n (File bytes)) j ≡ Some Dir → (j ≡ n) ⊎ (get (insert t.nodes n (File bytes)) j ≡ get t.nodes j) → get t.nodes j ≡ Some Dir
    dir_by j h1 h2 = grind (arith, dir_file, new_file)

    pub with_other : IsSound limit (record t { nodes = insert t.nodes n (File bytes) })
    with_other = record {
      root = s.root;
      root_dir = dir_at 1 s.root_dir (look_file 1);
      parents = λ up name j e. let r = s.parents up name j e in (r.0, r.1, dir_at r.0 r.2 (look_file r.0));
      named = λ p j e. some_by j (s.named p j e) (look_file j);
      reached = λ j x e. let r = old_by j x e (look_file j) in s.reached j r.0 r.1;
      one_path = λ j p q is at_p at_q. s.one_path j p q (dir_by j is (look_file j)) at_p at_q;
      within = λ j x e. let r = old_by j x e (look_file j) in s.within j r.0 r.1;
    }

  -- The effects of the commands.

  pub added_sound : (l : Layout) (path : List (List ℕ)) (x : Thing) → make_refusal (record { nodes = limit; layout = l }) t path ≡ None → IsSound limit (added limit t path x)
  added_sound l path x e = by (least_unused limit t) refl
    where
      by : (o : Option ℕ) → least_unused limit t ≡ o → IsSound limit (with_node t path x o)
      by None is = s
      by (Some m) is =
          let r = make_reasons (record { nodes = limit; layout = l }) t path e in
          let free : get t.names path ≡ None = lacks (get t.names path) r.1 in
          let up = parent_is t path s.root (λ root. none-some 1 (sym (ap (get t.names) (sym root) ∙ free) ∙ s.root)) r.0 in
          let number = unused_is limit m t is in
          with_new path m up.0 x free number.0 number.1 number.2 up.1 up.2

  pub edited_sound : (path : List (List ℕ)) (change : List ℕ → List ℕ) → IsSound limit (edited t path change)
  edited_sound path change = by (get t.names path)
    where
      by_thing : (n : ℕ) (x : Option Thing) → get t.nodes n ≡ x → IsSound limit (record t { nodes = with_bytes t.nodes n change x })
      by_thing n None is = s
      by_thing n (Some Dir) is = s
      by_thing n (Some (File old)) is = with_other n old (change old) is

      by : (o : Option ℕ) → IsSound limit (edited_at t change o)
      by o = grind (arith, by_thing, t.nodes)
