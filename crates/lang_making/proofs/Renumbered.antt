-- Trees that differ in numbers alone have the same paths, the same names in each directory, and as many nodes and blocks.
use Rattle.std.proofs.Common.{◌≡◌, ℕ, zero, suc, ◌+◌, cond, List, [], ◌∷◌, length, map, Option, Some, None, option_and_then, option_map, refl, sym, ap, ap₂, ◌∙◌, ◌⊎◌, inl, inr, arith}
use Rattle.std.proofs.lemmas.Bool.{cases_eq}
use Rattle.std.proofs.lemmas.Option.{none-some}
use Rattle.std.specs.List.{filter_map, cons_option}
use Rattle.std.specs.Cmp.{nat_cmp_total}
use Rattle.std.specs.Ordering.{nat_cmp}
use Rattle.std.specs.FinMap.{nat_cmp-IsAntisymmetric, get, insert, remove, keys, entries, len, find, put, get-entries, len-entries, entries-insert, same_map}
use Rattle.base_types.specs.declared.layout.Layout.{Layout}
use Rattle.base_types.specs.Layouts.{directory_blocks}
use Rattle.lang_tree.specs.Tree.{Tree, Names, Nodes, Thing, IsSound, path_cmp}
use Rattle.lang_tree.specs.Paths.{name_in}
use Rattle.lang_tree.specs.Names.{names_in}
use Rattle.lang_tree.specs.Walk.{thing_at}
use Rattle.lang_tree.specs.Figures.{blocks, file_blocks, all_directory_blocks, content_blocks}
use Rattle.lang_making.specs.Renumbered.{DifferInNumbers}
use Rattle.lang_making.proofs.Lists.{In}
use Rattle.lang_making.proofs.Maps.{Rising, path_in, in_paths, paths_rise, not_less, not_both, ties, put_at, put_beside, taken_at, taken_or}
use Rattle.lang_making.proofs.Numbers.{keyed}

-- Paths.

-- two rising lists of the same paths are one
same_rising : (xs ys : List (List (List ℕ))) → Rising xs → Rising ys → ((p : List (List ℕ)) → In xs p → In ys p) → ((p : List (List ℕ)) → In ys p → In xs p) → xs ≡ ys
same_rising [] [] up vp a b = refl
same_rising [] (y ∷ ys) up vp a b = absurd (b y (inl refl))
same_rising (x ∷ xs) [] up vp a b = absurd (a x (inl refl))
same_rising (x ∷ xs) (y ∷ ys) up vp a b = by (a x (inl refl)) (b y (inl refl)) (same_rising xs ys up.1 vp.1)
  where
    left : x ≡ y → (p : List (List ℕ)) → In xs p → (p ≡ y) ⊎ In ys p → In ys p
    left same p e (inl is) = absurd (not_less x (ap (path_cmp x) (same ∙ sym is) ∙ up.0 p e))
    left same p e (inr there) = there

    right : x ≡ y → (p : List (List ℕ)) → In ys p → (p ≡ x) ⊎ In xs p → In xs p
    right same p e (inl is) = absurd (not_less y (ap (path_cmp y) (sym same ∙ sym is) ∙ vp.0 p e))
    right same p e (inr there) = there

    by : (x ≡ y) ⊎ In ys x → (y ≡ x) ⊎ In xs y → (((p : List (List ℕ)) → In xs p → In ys p) → ((p : List (List ℕ)) → In ys p → In xs p) → xs ≡ ys) → x ∷ xs ≡ y ∷ ys
    by (inl same) e later = ap₂ (λ x xs. x ∷ xs) same (later (λ p e. left same p e (a p (inr e))) (λ p e. right same p e (b p (inr e))))
    by (inr above) (inl same) later = absurd (not_less x (ap (λ z. path_cmp z x) (sym same) ∙ vp.0 x above))
    by (inr above) (inr below) later = absurd (not_both x y (up.0 y below) (vp.0 x above))

module _ (t u : Tree) (d : DifferInNumbers t u) where
  in_both : (p : List (List ℕ)) → In (keys u.names) p → In (keys t.names) p
  in_both p e = let n = in_paths u.names p e in by n.0 (get t.names p) refl (sym (d.1.names p) ∙ n.1)
    where
      by : (n : ℕ) → (o : Option ℕ) → get t.names p ≡ o → option_map d.0 (get t.names p) ≡ Some n → In (keys t.names) p
      by n None is e = absurd (none-some n (sym (ap (option_map d.0) is) ∙ e))
      by n (Some m) is e = path_in t.names p m is

  both_in : (p : List (List ℕ)) → In (keys t.names) p → In (keys u.names) p
  both_in p e = let n = in_paths t.names p e in path_in u.names p (d.0 n.0) (d.1.names p ∙ ap (option_map d.0) n.1)

  pub same_keys : keys u.names ≡ keys t.names
  same_keys = same_rising (keys u.names) (keys t.names) (paths_rise u.names) (paths_rise t.names) in_both both_in

  pub same_things : (most : ℕ) → IsSound most t → (p : List (List ℕ)) → thing_at u p ≡ thing_at t p
  same_things most ok p = ap (option_and_then (λ n. get u.nodes n)) (d.1.names p) ∙ by (get t.names p) refl
    where
      by : (o : Option ℕ) → get t.names p ≡ o → option_and_then (λ n. get u.nodes n) (option_map d.0 (get t.names p)) ≡ thing_at t p
      by None is = ap (λ o. option_and_then (λ n. get u.nodes n) (option_map d.0 o)) is ∙ sym (ap (option_and_then (λ n. get t.nodes n)) is)
      by (Some n) is =
          let x = ok.named p n is in
          ap (λ o. option_and_then (λ n. get u.nodes n) (option_map d.0 o)) is ∙ d.1.nodes n x.0 x.1
          ∙ sym (ap (option_and_then (λ n. get t.nodes n)) is ∙ x.1)

-- Names and blocks of directories, by the paths alone.

names_of_keys : (up : List (List ℕ)) (es : List (List (List ℕ) × ℕ)) → filter_map (λ e. name_in up e.0) es ≡ filter_map (name_in up) (map (λ e. e.0) es)
names_of_keys up [] = refl
names_of_keys up (e ∷ es) = ap (cons_option (name_in up e.0)) (names_of_keys up es)

pub same_names : (names other : Names) → keys other ≡ keys names → (up : List (List ℕ)) → names_in other up ≡ names_in names up
same_names names other same up = names_of_keys up (entries other) ∙ ap (filter_map (name_in up)) same ∙ sym (names_of_keys up (entries names))

directories_of : Layout → Names → List (List (List ℕ)) → ℕ
directories_of l names [] = 0
directories_of l names (p ∷ ps) = directory_blocks l (length (names_in names p)) + directories_of l names ps

directories_by_keys : (l : Layout) (names : Names) (es : List (List (List ℕ) × ℕ)) → all_directory_blocks l names es ≡ directories_of l names (map (λ e. e.0) es)
unfolding directories_of
directories_by_keys l names [] = refl
directories_by_keys l names (e ∷ es) = ap (λ n. directory_blocks l (length (names_in names e.0)) + n) (directories_by_keys l names es)

same_directories : (l : Layout) (names other : Names) → keys other ≡ keys names → (ps : List (List (List ℕ))) → directories_of l other ps ≡ directories_of l names ps
unfolding directories_of
same_directories l names other same [] = refl
same_directories l names other same (p ∷ ps) =
    ap₂ (λ a b. a + b) (ap (λ names. directory_blocks l (length names)) (same_names names other same p)) (same_directories l names other same ps)

directories_same : (l : Layout) (names other : Names) → keys other ≡ keys names → all_directory_blocks l other (entries other) ≡ all_directory_blocks l names (entries names)
directories_same l names other same =
    directories_by_keys l other (entries other) ∙ same_directories l names other same (keys other) ∙ ap (directories_of l names) same ∙ sym (directories_by_keys l names (entries names))

-- Sums over nodes.

sum_of : (Thing → ℕ) → List (ℕ × Thing) → ℕ
sum_of f [] = 0
sum_of f (e ∷ es) = f e.1 + sum_of f es

files_sum : (es : List (ℕ × Thing)) → file_blocks es ≡ sum_of content_blocks es
unfolding sum_of
files_sum [] = refl
files_sum (e ∷ es) = ap (λ n. content_blocks e.1 + n) (files_sum es)

nodes_sum : (es : List (ℕ × Thing)) → length es ≡ sum_of (λ x. 1) es
unfolding sum_of
nodes_sum [] = refl
nodes_sum (e ∷ es) = let rest = nodes_sum es in omega (arith, rest)

module _ (f : Thing → ℕ) where
  sum_put : (es : List (ℕ × Thing)) (k : ℕ) (x : Thing) → find nat_cmp k es ≡ None → sum_of f (put nat_cmp k x es) ≡ f x + sum_of f es
  unfolding sum_of
  sum_put [] k x none = refl
  sum_put (e ∷ es) k x none = grind (arith, sum_put es k x, nat_cmp k e.0)

  put_again : (m : Nodes) (k : ℕ) (x : Thing) → get m k ≡ Some x → insert (remove m k) k x ≡ m
  put_again m k x there = same_map nat_cmp_total nat_cmp-IsAntisymmetric (insert (remove m k) k x) m (λ q. by q (taken_or nat_cmp_total nat_cmp-IsAntisymmetric m k q) (cases_eq q k))
    where
      by : (q : ℕ) → (q ≡ k) ⊎ (get (remove m k) q ≡ get m q) → (q ≡ k) ⊎ (q ≡ k → ⊥) → get (insert (remove m k) k x) q ≡ get m q
      by q old (inl same) = put_at nat_cmp_total nat_cmp-IsAntisymmetric (remove m k) k x q same ∙ sym (ap (get m) same ∙ there)
      by q (inl same) (inr apart) = absurd (apart same)
      by q (inr old) (inr apart) = put_beside nat_cmp_total nat_cmp-IsAntisymmetric (remove m k) k x q apart ∙ old

  sum_taken : (m : Nodes) (k : ℕ) (x : Thing) → get m k ≡ Some x → sum_of f (entries m) ≡ f x + sum_of f (entries (remove m k))
  sum_taken m k x there =
      ap (λ (m : Nodes). sum_of f (entries m)) (sym (put_again m k x there))
      ∙ ap (sum_of f) (entries-insert nat_cmp_total (remove m k) k x)
      ∙ sum_put (entries (remove m k)) k x (sym (get-entries (remove m k) k) ∙ taken_at nat_cmp_total nat_cmp-IsAntisymmetric m k k refl)

-- Nodes under other numbers.
record AreMoved (move : ℕ → ℕ) (a b : Nodes) : Type 0 where
  there : (n : ℕ) (x : Thing) → get a n ≡ Some x → get b (move n) ≡ Some x
  once : (m n : ℕ) (x y : Thing) → get a m ≡ Some x → get a n ≡ Some y → move m ≡ move n → m ≡ n
  all : (k : ℕ) (x : Thing) → get b k ≡ Some x → (n : ℕ) × (get a n ≡ Some x) × (move n ≡ k)

-- so are all but one
all_but : (move : ℕ → ℕ) (a b : Nodes) (n : ℕ) (x : Thing) → AreMoved move a b → get a n ≡ Some x → AreMoved move (remove a n) (remove b (move n))
all_but move a b n x moved is = record {
  there = λ m y e. there m y e (taken_or nat_cmp_total nat_cmp-IsAntisymmetric a n m) (taken_or nat_cmp_total nat_cmp-IsAntisymmetric b (move n) (move m));
  once = λ k m y z p q same. moved.once k m y z (was k y p (taken_or nat_cmp_total nat_cmp-IsAntisymmetric a n k)) (was m z q (taken_or nat_cmp_total nat_cmp-IsAntisymmetric a n m)) same;
  all = λ k y e. all k y e (taken_or nat_cmp_total nat_cmp-IsAntisymmetric b (move n) k);
}
  where
    was : (m : ℕ) (y : Thing) → get (remove a n) m ≡ Some y → (m ≡ n) ⊎ (get (remove a n) m ≡ get a m) → get a m ≡ Some y
    was m y e (inl same) = absurd (none-some y (sym (taken_at nat_cmp_total nat_cmp-IsAntisymmetric a n m same) ∙ e))
    was m y e (inr old) = sym old ∙ e

    there : (m : ℕ) (y : Thing) → get (remove a n) m ≡ Some y → (m ≡ n) ⊎ (get (remove a n) m ≡ get a m)
        → (move m ≡ move n) ⊎ (get (remove b (move n)) (move m) ≡ get b (move m)) → get (remove b (move n)) (move m) ≡ Some y
    there m y e (inl same) other = absurd (none-some y (sym (taken_at nat_cmp_total nat_cmp-IsAntisymmetric a n m same) ∙ e))
    there m y e (inr old) (inl same) =
        let one = moved.once m n y x (sym old ∙ e) is same in
        absurd (none-some y (sym (taken_at nat_cmp_total nat_cmp-IsAntisymmetric a n m one) ∙ e))
    there m y e (inr old) (inr other) = other ∙ moved.there m y (sym old ∙ e)

    kept : (m : ℕ) (y : Thing) → get a m ≡ Some y → (m ≡ n → ⊥) → (m ≡ n) ⊎ (get (remove a n) m ≡ get a m) → get (remove a n) m ≡ Some y
    kept m y at apart (inl same) = absurd (apart same)
    kept m y at apart (inr old) = old ∙ at

    all : (k : ℕ) (y : Thing) → get (remove b (move n)) k ≡ Some y → (k ≡ move n) ⊎ (get (remove b (move n)) k ≡ get b k) → (m : ℕ) × (get (remove a n) m ≡ Some y) × (move m ≡ k)
    all k y e (inl same) = absurd (none-some y (sym (taken_at nat_cmp_total nat_cmp-IsAntisymmetric b (move n) k same) ∙ e))
    all k y e (inr old) =
        let m = moved.all k y (sym old ∙ e) in
        let apart : m.0 ≡ n → ⊥ = λ same. none-some y (sym (taken_at nat_cmp_total nat_cmp-IsAntisymmetric b (move n) k (sym m.2 ∙ ap move same)) ∙ e) in
        (m.0, kept m.0 y m.1 apart (taken_or nat_cmp_total nat_cmp-IsAntisymmetric a n m.0), m.2)

first_node : (m : Nodes) (e : ℕ × Thing) (es : List (ℕ × Thing)) → entries m ≡ e ∷ es → get m e.0 ≡ Some e.1
first_node m e es is = get-entries m e.0 ∙ ap (find nat_cmp e.0) is ∙ ap (λ b. cond b (Some e.1) (find nat_cmp e.0 es)) (ties nat_cmp_total nat_cmp-IsAntisymmetric e.0 e.0 refl)

no_first : (m : Nodes) (n : ℕ) (x : Thing) → entries m ≡ [] → get m n ≡ Some x → ⊥
no_first m n x is at = none-some x (sym (get-entries m n ∙ ap (find nat_cmp n) is) ∙ at)

module _ (f : Thing → ℕ) (move : ℕ → ℕ) where
  abbrev SameSum : ℕ → Type 0
  SameSum k = (a b : Nodes) → len a ≡ k → AreMoved move a b → sum_of f (entries b) ≡ sum_of f (entries a)

  -- where the first one has no node, neither has the other one
  both_none : (a b : Nodes) → AreMoved move a b → entries a ≡ [] → (fs : List (ℕ × Thing)) → entries b ≡ fs → sum_of f (entries b) ≡ sum_of f (entries a)
  both_none a b moved is [] so = ap (sum_of f) (so ∙ sym is)
  both_none a b moved is (e ∷ fs) so = let n = moved.all e.0 e.1 (first_node b e fs so) in absurd (no_first a n.0 e.1 is n.1)

  one_each : (k : ℕ) (a b : Nodes) → len a ≡ suc k → AreMoved move a b → (e : ℕ × Thing) (es : List (ℕ × Thing)) → entries a ≡ e ∷ es → SameSum k → sum_of f (entries b) ≡ sum_of f (entries a)
  one_each k a b size moved e es is later =
      let at = first_node a e es is in
      let more = keyed a e.0 e.1 at in
      let rest = later (remove a e.0) (remove b (move e.0)) (omega (arith, more, size)) (all_but move a b e.0 e.1 moved at) in
      sum_taken f b (move e.0) e.1 (moved.there e.0 e.1 at) ∙ ap (λ n. f e.1 + n) rest ∙ sym (sum_taken f a e.0 e.1 at)

  same_sum : (k : ℕ) → SameSum k
  same_sum zero a b size moved = by (entries a) refl
    where
      by : (es : List (ℕ × Thing)) → entries a ≡ es → sum_of f (entries b) ≡ sum_of f (entries a)
      by [] is = both_none a b moved is (entries b) refl
      by (e ∷ es) is = let more = keyed a e.0 e.1 (first_node a e es is) in absurd (omega (arith, more, size))
  same_sum (suc k) a b size moved = by (entries a) refl (same_sum k)
    where
      by : (es : List (ℕ × Thing)) → entries a ≡ es → SameSum k → sum_of f (entries b) ≡ sum_of f (entries a)
      by [] is later = both_none a b moved is (entries b) refl
      by (e ∷ es) is later = one_each k a b size moved e es is later

module _ (t u : Tree) (d : DifferInNumbers t u) where
  moved : AreMoved d.0 t.nodes u.nodes
  moved = record { there = d.1.nodes; once = d.1.one_to_one; all = d.1.all }

  pub same_count : len u.nodes ≡ len t.nodes
  same_count = len-entries u.nodes ∙ nodes_sum (entries u.nodes) ∙ same_sum (λ x. 1) d.0 (len t.nodes) t.nodes u.nodes refl moved ∙ sym (len-entries t.nodes ∙ nodes_sum (entries t.nodes))

  pub same_blocks : (l : Layout) → blocks l u ≡ blocks l t
  same_blocks l = ap₂ (λ a b. a + b)
      (files_sum (entries u.nodes) ∙ same_sum content_blocks d.0 (len t.nodes) t.nodes u.nodes refl moved ∙ sym (files_sum (entries t.nodes)))
      (directories_same l t.names u.names (same_keys t u d))
