-- A sound tree stays sound where a path goes with nothing below it, and where what is at a path moves.
use Rattle.std.proofs.Common.{◌≡◌, ℕ, ◌==◌, Bool, true, false, if◌then◌else◌, List, [], ◌∷◌, ◌++◌, length, length-append, arith, Option, Some, None, is_some, refl, sym, ap, ◌∙◌, ◌⊎◌, inl, inr, true≢false, append_assoc, append-nil}
use Rattle.std.proofs.lemmas.Bool.{cases_eq}
use Rattle.std.proofs.lemmas.List.{append_cancel_left}
use Rattle.std.specs.Cmp.{nat_cmp_total}
use Rattle.std.specs.FinMap.{nat_cmp-IsAntisymmetric, get, remove}
use Rattle.std.proofs.lemmas.Option.{same_Some, none-some}
use Rattle.lang_tree.specs.Tree.{Tree, Names, Thing, Dir, IsSound}
use Rattle.lang_tree.specs.Paths.{strip, parent}
use Rattle.lang_tree.specs.Names.{holds_names, path_count, renamed}
use Rattle.lang_tree.specs.Step.{with_used, removed, removed_by, moved}
use Rattle.lang_tree.proofs.basics.Order.{path_total, path_same}
use Rattle.lang_tree.proofs.basics.Strips.{has, strip_is, not_behind, within_at, from_end, parted, parent_append}
use Rattle.lang_tree.proofs.basics.Finds.{gone_here, was, stays}
use Rattle.lang_tree.proofs.counting.PathCounts.{unused, used_by}
use Rattle.lang_tree.proofs.walking.Found.{none_held, CanMove}
use Rattle.lang_tree.proofs.moves.Renames.{free_after, none_at, at_target, at_source, elsewhere}

abbrev Place : Type 0
Place = List (List ℕ)

-- a path other than the root goes, that leads to n and has nothing below it
module _ (limit : ℕ) (t : Tree) (s : IsSound limit t) (path : Place) (n : ℕ) (at : get t.names path ≡ Some n) (free : holds_names t.names path ≡ false) (below_root : path ≡ [] → ⊥) where
  was_name : (p : Place) (m : ℕ) → get (remove t.names path) p ≡ Some m → get t.names p ≡ Some m
  was_name p m e = was path_total t.names path p m e

  name_stays : (p : Place) (m : ℕ) → (p ≡ path → ⊥) → get t.names p ≡ Some m → get (remove t.names path) p ≡ Some m
  name_stays p m off e = stays path_total path_same t.names path p off ∙ e

  root_left : get (remove t.names path) [] ≡ Some 1
  root_left = name_stays [] 1 (λ e. below_root (sym e)) s.root

  up_stays : (up : Place) (name : List ℕ) (m k : ℕ) → get t.names (up ++ name ∷ []) ≡ Some m → get t.names up ≡ Some k → get (remove t.names path) up ≡ Some k
  up_stays up name m k below e = name_stays up k (λ same. none_held t.names path [] name m free (ap (λ p. get t.names (p ++ name ∷ [])) (sym same) ∙ below)) e

  -- another path leads to n too
  kept_sound : (p : Place) → get (remove t.names path) p ≡ Some n → IsSound limit (record t { names = remove t.names path })
  kept_sound p other = record {
    root = root_left;
    root_dir = s.root_dir;
    parents = λ up name m e. let k = s.parents up name m (was_name (up ++ name ∷ []) m e) in (k.0, up_stays up name m k.0 (was_name (up ++ name ∷ []) m e) k.1, k.2);
    named = λ q m e. s.named q m (was_name q m e);
    reached = λ m x e. reach m (cases_eq m n) (s.reached m x e);
    one_path = λ m p q dir at_p at_q. s.one_path m p q dir (was_name p m at_p) (was_name q m at_q);
    within = s.within;
  }
    where
      reach : (m : ℕ) → (m ≡ n) ⊎ (m ≡ n → ⊥) → (q : Place) × (get t.names q ≡ Some m) → (q : Place) × (get (remove t.names path) q ≡ Some m)
      reach m (inl e) q = (p, other ∙ ap Some (sym e))
      reach m (inr off) q = (q.0, name_stays q.0 m (λ same. off (same_Some m n (sym q.1 ∙ ap (get t.names) same ∙ at))) q.1)

  -- no other path leads to n, and it goes too
  last_sound : ((p : Place) → get (remove t.names path) p ≡ Some n → ⊥) → IsSound limit (record t { names = remove t.names path; nodes = remove t.nodes n })
  last_sound last = record {
    root = root_left;
    root_dir = node_stays 1 Dir (λ e. last [] (root_left ∙ ap Some e)) s.root_dir;
    parents = λ up name m e.
        let k = s.parents up name m (was_name (up ++ name ∷ []) m e) in
        let up_at = up_stays up name m k.0 (was_name (up ++ name ∷ []) m e) k.1 in
        (k.0, up_at, node_stays k.0 Dir (λ e. last up (up_at ∙ ap Some e)) k.2);
    named = λ q m e. let x = s.named q m (was_name q m e) in (x.0, node_stays m x.0 (λ same. last q (e ∙ ap Some same)) x.1);
    reached = λ m x e. let q = s.reached m x (was_node m x e) in (q.0, name_stays q.0 m (λ same. gone_node m x e (same_Some m n (sym q.1 ∙ ap (get t.names) same ∙ at))) q.1);
    one_path = λ m p q dir at_p at_q. s.one_path m p q (was_node m Dir dir) (was_name p m at_p) (was_name q m at_q);
    within = λ m x e. s.within m x (was_node m x e);
  }
    where
      was_node : (m : ℕ) (x : Thing) → get (remove t.nodes n) m ≡ Some x → get t.nodes m ≡ Some x
      was_node m x e = was nat_cmp_total t.nodes n m x e

      node_stays : (m : ℕ) (x : Thing) → (m ≡ n → ⊥) → get t.nodes m ≡ Some x → get (remove t.nodes n) m ≡ Some x
      node_stays m x off e = stays nat_cmp_total nat_cmp-IsAntisymmetric t.nodes n m off ∙ e

      gone_node : (m : ℕ) (x : Thing) → get (remove t.nodes n) m ≡ Some x → m ≡ n → ⊥
      gone_node m x e same = none-some x (sym (gone_here nat_cmp_total t.nodes n m same) ∙ e)

  pub with_used_sound : IsSound limit (with_used t (remove t.names path) n)
  with_used_sound = grind (arith, path_count (remove t.names path) n == 0, remove t.names path, t.names, t.nodes, last_sound, unused, used_by, kept_sound)

-- a path without one below it goes, if it is there
pub removed_sound : (limit : ℕ) (t : Tree) → IsSound limit t → (path : Place) → holds_names t.names path ≡ false → (path ≡ [] → ⊥) → IsSound limit (removed t path)
removed_sound limit t s path free below_root = by (get t.names path) refl
  where
    by : (o : Option ℕ) → get t.names path ≡ o → IsSound limit (removed_by t path o)
    by None is = s
    by (Some n) is = with_used_sound limit t s path n is free below_root

-- what is at `from` moves to `to`, where nothing is
module _ (limit : ℕ) (t : Tree) (s : IsSound limit t) (from to : Place) (n : ℕ) (at : get t.names from ≡ Some n) (gone : get t.names to ≡ None) (can : CanMove t from to) where
  here : (r : Place) (m : ℕ) → get t.names (from ++ r) ≡ Some m → get (renamed t.names from to) (to ++ r) ≡ Some m
  here r m e = at_target t.names from to gone can.free r ∙ e

  out_of : (p : Place) (m : ℕ) → get t.names p ≡ Some m → strip to p ≡ None
  out_of p m e = by (strip to p) refl
    where
      by : (o : Option Place) → strip to p ≡ o → o ≡ None
      by None is = refl
      by (Some r) is = absurd (none_at t.names from to gone can.free r m (ap (get t.names) (sym (strip_is to p r is)) ∙ e))

  keep : (p : Place) (m : ℕ) → ((r : Place) → p ≡ from ++ r → ⊥) → get t.names p ≡ Some m → get (renamed t.names from to) p ≡ Some m
  keep p m off e = elsewhere t.names from to gone can.free p (out_of p m e) (by (strip from p) refl) ∙ e
    where
      by : (o : Option Place) → strip from p ≡ o → o ≡ None
      by None is = refl
      by (Some r) is = absurd (off r (strip_is from p r is))

  not_in : (r : Place) → to ≡ from ++ r → ⊥
  not_in r e = true≢false (sym (within_at from to r e) ∙ can.apart)

  -- where a path of the new tree comes from
  Origin : Place → ℕ → Type 0
  Origin p m = ((r : Place) × (p ≡ to ++ r) × (get t.names (from ++ r) ≡ Some m)) ⊎ (((r : Place) → p ≡ from ++ r → ⊥) × (get t.names p ≡ Some m))

  origin : (p : Place) (m : ℕ) → get (renamed t.names from to) p ≡ Some m → Origin p m
  unfolding Origin
  origin p m e = by (strip to p) (strip from p) refl refl
    where
      by : (o u : Option Place) → strip to p ≡ o → strip from p ≡ u → Origin p m
      by (Some r) u is out = inl (r, strip_is to p r is, sym (at_target t.names from to gone can.free r) ∙ ap (get (renamed t.names from to)) (sym (strip_is to p r is)) ∙ e)
      by None None is out = inr (λ r. not_behind from p r out, sym (elsewhere t.names from to gone can.free p is out) ∙ e)
      by None (Some r) is out = absurd (none-some m (sym (at_source t.names from to gone can.free p r is (strip_is from p r out)) ∙ e))

  parents_by : (up : Place) (name : List ℕ) (m : ℕ) → Origin (up ++ name ∷ []) m → (k : ℕ) × (get (renamed t.names from to) up ≡ Some k) × (get t.nodes k ≡ Some Dir)
  unfolding Origin
  parents_by up name m (inl o) = by (parted to up o.0 name o.1)
    where
      by : ((o.0 ≡ []) × (to ≡ up ++ name ∷ [])) ⊎ ((r : Place) × (o.0 ≡ r ++ name ∷ []) × (up ≡ to ++ r)) → (k : ℕ) × (get (renamed t.names from to) up ≡ Some k) × (get t.nodes k ≡ Some Dir)
      by (inl end) =
          let is_up : parent to ≡ up = ap parent end.1 ∙ parent_append up name in
          let off = λ (r : Place) (e : up ≡ from ++ r). not_in (r ++ name ∷ []) (end.1 ∙ ap (λ p. p ++ name ∷ []) e ∙ append_assoc from r (name ∷ [])) in
          (can.dir, keep up can.dir off (ap (get t.names) (sym is_up) ∙ can.dir_at), can.is_dir)
      by (inr more) =
          let k = s.parents (from ++ more.0) name m (ap (get t.names) (append_assoc from more.0 (name ∷ []) ∙ ap (λ r. from ++ r) (sym more.1)) ∙ o.2) in
          (k.0, ap (get (renamed t.names from to)) more.2 ∙ here more.0 k.0 k.1, k.2)
  parents_by up name m (inr o) =
      let k = s.parents up name m o.1 in
      (k.0, keep up k.0 (λ r e. o.0 (r ++ name ∷ []) (ap (λ p. p ++ name ∷ []) e ∙ append_assoc from r (name ∷ []))) k.1, k.2)

  named_by : (p : Place) (m : ℕ) → Origin p m → (x : Thing) × (get t.nodes m ≡ Some x)
  unfolding Origin
  named_by p m h1 = grind (arith, s.named)

  reached_by : (m : ℕ) → (p : Place) × (get t.names p ≡ Some m) → (p : Place) × (get (renamed t.names from to) p ≡ Some m)
  reached_by m p = by (strip from p.0) refl
    where
      by : (o : Option Place) → strip from p.0 ≡ o → (p : Place) × (get (renamed t.names from to) p ≡ Some m)
      by (Some r) is = (to ++ r, here r m (ap (get t.names) (sym (strip_is from p.0 r is)) ∙ p.1))
      by None is = (p.0, keep p.0 m (λ r. not_behind from p.0 r is) p.1)

  one_by : (m : ℕ) (p q : Place) → get t.nodes m ≡ Some Dir → Origin p m → Origin q m → p ≡ q
  unfolding Origin
  one_by m p q dir (inl o) (inl u) = o.1 ∙ ap (λ r. to ++ r) (append_cancel_left from o.0 u.0 (s.one_path m (from ++ o.0) (from ++ u.0) dir o.2 u.2)) ∙ sym u.1
  one_by m p q dir (inl o) (inr u) = absurd (u.0 o.0 (s.one_path m q (from ++ o.0) dir u.1 o.2))
  one_by m p q dir (inr o) (inl u) = absurd (o.0 u.0 (s.one_path m p (from ++ u.0) dir o.1 u.2))
  one_by m p q dir (inr o) (inr u) = s.one_path m p q dir o.1 u.1

  not_root : (r : Place) → [] ≡ from ++ r → ⊥
  not_root r e = by from refl e
    where
      by : (p : Place) → from ≡ p → [] ≡ p ++ r → ⊥
      by [] is e = not_in to (ap (λ p. p ++ to) (sym is))
      by (x ∷ p) is e = cc

  pub moved_sound : IsSound limit (moved t from to)
  moved_sound = record {
    root = keep [] 1 not_root s.root;
    root_dir = s.root_dir;
    parents = λ up name m e. parents_by up name m (origin (up ++ name ∷ []) m e);
    named = λ p m e. named_by p m (origin p m e);
    reached = λ m x e. reached_by m (s.reached m x e);
    one_path = λ m p q dir at_p at_q. one_by m p q dir (origin p m at_p) (origin q m at_q);
    within = s.within;
  }

-- Onto what is there, which goes first.

longer : (up : Place) (name : List ℕ) → up ++ name ∷ [] ≡ up → ⊥
longer up name e = omega (arith, length-append up (name ∷ []), ap length e)

-- a path that isn't the root doesn't lie in itself
pub not_own_parent : (p : Place) → (p ≡ [] → ⊥) → parent p ≡ p → ⊥
not_own_parent p below_root e = grind (arith, from_end p, from_end, longer, parent_append)

-- what a node is, where fewer nodes are used
was_used : (t : Tree) (names : Names) (n k : ℕ) (x : Thing) → get (with_used t names n).nodes k ≡ Some x → get t.nodes k ≡ Some x
was_used t names n k x e = by (path_count names n == 0) e
  where
    by : (b : Bool) → get (if b then remove t.nodes n else t.nodes) k ≡ Some x → get t.nodes k ≡ Some x
    by true e = was nat_cmp_total t.nodes n k x e
    by false e = e

module _ (limit : ℕ) (t : Tree) (s : IsSound limit t) (from to : Place) (can : CanMove t from to) where
  from_other : from ≡ to → ⊥
  from_other e = true≢false (sym (within_at from to [] (sym e ∙ sym (append-nil from))) ∙ can.apart)

  -- the tree without the second path can take the move too
  can_after : (n m : ℕ) → get t.names from ≡ Some n → IsSound limit (with_used t (remove t.names to) m) → CanMove (with_used t (remove t.names to) m) from to
  can_after n m at s' =
      let dir_at : get (remove t.names to) (parent to) ≡ Some can.dir = stays path_total path_same t.names to (parent to) (not_own_parent to can.below_root) ∙ can.dir_at in
      let x = s'.named (parent to) can.dir dir_at in
      let is : Some x.0 ≡ Some Dir = sym (was_used t (remove t.names to) m can.dir x.0 x.1) ∙ can.is_dir in
      record {
        there = ap is_some (stays path_total path_same t.names to from from_other ∙ at);
        free = free_after t.names to can.free;
        apart = can.apart;
        below_root = can.below_root;
        dir = can.dir;
        dir_at = dir_at;
        is_dir = x.1 ∙ is;
      }

  pub moved_onto_sound : IsSound limit (moved (removed t to) from to)
  moved_onto_sound = let n = has (get t.names from) can.there in by n.0 n.1 (get t.names to) refl
    where
      by : (n : ℕ) → get t.names from ≡ Some n → (o : Option ℕ) → get t.names to ≡ o → IsSound limit (moved (removed_by t to o) from to)
      by n at None is = moved_sound limit t s from to n at is can
      by n at (Some m) is =
          let s' = with_used_sound limit t s to m is can.free can.below_root in
          moved_sound limit (with_used t (remove t.names to) m) s' from to n (stays path_total path_same t.names to from from_other ∙ at) (gone_here path_total t.names to to refl) (can_after n m at s')
