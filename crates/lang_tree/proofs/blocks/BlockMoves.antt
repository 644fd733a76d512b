-- What the directories of a tree take after a move: one holds a name less, another one a name more, and all else that moves holds as many as before.
use Rattle.std.proofs.Common.{◌≡◌, ℕ, ◌+◌, false, List, [], ◌∷◌, ◌++◌, Option, Some, None, is_some, refl, sym, ap, ap₂, ◌∙◌, ◌⊎◌, arith, true≢false, append_assoc, append-nil, length, length-append, if◌then◌else◌}
use Rattle.std.proofs.lemmas.List.{append_cancel_left}
use Rattle.std.specs.Ordering.{eq_by_cmp}
use Rattle.std.specs.FinMap.{get, remove, entries, entries_sorted}
use Rattle.base_types.specs.declared.layout.Layout.{Layout}
use Rattle.base_types.specs.Layouts.{directory_blocks}
use Rattle.base_types.specs.LayoutLaws.{directory_blocks_rise}
use Rattle.lang_tree.specs.Tree.{Names, path_cmp}
use Rattle.lang_tree.specs.Paths.{strip, is_within, lone_name, moved_path, moved_by, parent}
use Rattle.lang_tree.specs.Names.{holds_names, renamed}
use Rattle.lang_tree.specs.Figures.{growth, release}
use Rattle.lang_tree.proofs.basics.Order.{path_total, path_same}
use Rattle.lang_tree.proofs.basics.Strips.{strip_is, strip_at, not_behind, within_at, parted}
use Rattle.lang_tree.proofs.basics.Finds.{tied, which_key, gone_here, stays}
use Rattle.lang_tree.proofs.counting.PathCounts.{KeepApart}
use Rattle.lang_tree.proofs.walking.Found.{none_held}
use Rattle.lang_tree.proofs.moves.Renames.{none_at, found, two_apart, free_after}
use Rattle.lang_tree.proofs.soundness.SoundMoves.{not_own_parent}
use Rattle.lang_tree.proofs.counting.Totals.{total, total_same, total_changed, total_moved}
use Rattle.lang_tree.proofs.blocks.BlockSums.{one_in, last_name, in_parent, one_at_parent, none_elsewhere, none_without, held, held_total, held_less, held_one_less, dirs, dirs_total, dirs_freed, more_names, fewer_names, grown, freed}

abbrev Place : Type 0
Place = List (List ℕ)

-- what a directory frees with a name less it takes again with one more
balance : (l : Layout) (after between before freed count : ℕ) → after + freed ≡ between + growth l count → between + release l (1 + count) ≡ before → after + freed ≡ before
balance l after between before freed count out back =
    let more = more_names l count in let fewer = fewer_names l count in let rises = directory_blocks_rise l count (1 + count) (omega arith) in omega (arith, out, back, more, fewer, rises)

-- behind one front and behind another the same is left
strip_both : (p r s : Place) → strip (p ++ s) (p ++ r) ≡ strip s r
strip_both p r s = by (strip s r) refl (strip (p ++ s) (p ++ r)) refl
  where
    by : (o : Option Place) → strip s r ≡ o → (u : Option Place) → strip (p ++ s) (p ++ r) ≡ u → strip (p ++ s) (p ++ r) ≡ strip s r
    by (Some x) is u at = strip_at (p ++ s) (p ++ r) x (ap (λ q. p ++ q) (strip_is s r x is) ∙ sym (append_assoc p s x)) ∙ sym is
    by None is None at = at ∙ sym is
    by None is (Some x) at = absurd (not_behind s r x is (append_cancel_left p r (s ++ x) (strip_is (p ++ s) (p ++ r) x at ∙ append_assoc p s x)))

both_one : (p q r s : Place) → one_in (p ++ s) (p ++ r) ≡ one_in (q ++ s) (q ++ r)
both_one p q r s = ap (λ o. if is_some (lone_name o) then 1 else 0) (strip_both p r s ∙ sym (strip_both q r s))

-- what is at `from` moves to `to`, where nothing is
module _ (l : Layout) (names : Names) (from to : Place) (gone : get names to ≡ None) (free : holds_names names to ≡ false) (apart : is_within from to ≡ false) where
  -- a path other than `from` lies after the move in the directory in which it lay
  one_stays : (q p : Place) (k m : ℕ) → get names q ≡ Some k → get names p ≡ Some m → (p ≡ from → ⊥) → one_in (moved_path from to q) (moved_path from to p) ≡ one_in q p
  one_stays q p k m at_q at_p off = by (strip from q) (strip from p) refl refl
    where
      not_top : (r : Place) → strip from p ≡ Some r → r ≡ [] → ⊥
      not_top r is e = off (strip_is from p r is ∙ ap (λ r. from ++ r) e ∙ append-nil from)

      -- nothing of what lies elsewhere holds what lies below the one path or the other
      apart_from : (top r : Place) (name : List ℕ) → (r ≡ [] → ⊥) → ((s : Place) → q ≡ top ++ s → ⊥) → top ++ r ≡ q ++ name ∷ [] → ⊥
      apart_from top r name some out e = grind (arith, parted top q r name (sym e), parted)

      not_to : (s : Place) → q ≡ to ++ s → ⊥
      not_to s e = none_at names from to gone free s k (ap (get names) (sym e) ∙ at_q)

      by : (o u : Option Place) → strip from q ≡ o → strip from p ≡ u → one_in (moved_by to q o) (moved_by to p u) ≡ one_in q p
      by None None is_q is_p = refl
      by None (Some r) is_q is_p =
          let now = none_without q (to ++ r) (λ name e. apart_from to r name (not_top r is_p) not_to e) in
          let before = none_without q p (λ name e. apart_from from r name (not_top r is_p) (λ s. not_behind from q s is_q) (sym (strip_is from p r is_p) ∙ e)) in
          now ∙ sym before
      by (Some s) None is_q is_p =
          let now = none_without (to ++ s) p (λ name e. none_at names from to gone free (s ++ name ∷ []) m (ap (get names) (sym (e ∙ append_assoc to s (name ∷ []))) ∙ at_p)) in
          let before = none_without q p (λ name e. not_behind from p (s ++ name ∷ []) is_p (e ∙ ap (λ q. q ++ name ∷ []) (strip_is from q s is_q) ∙ append_assoc from s (name ∷ []))) in
          now ∙ sym before
      by (Some s) (Some r) is_q is_p = both_one to from r s ∙ ap₂ one_in (sym (strip_is from q s is_q)) (sym (strip_is from p r is_p))

  -- the directory that comes to hold `to` doesn't move
  one_to : (q : Place) → one_in (moved_path from to q) to ≡ one_in q to
  one_to q = by (strip from q) refl
    where
      longer : (s : Place) (name : List ℕ) → to ≡ (to ++ s) ++ name ∷ [] → ⊥
      longer s name e = omega (arith, length-append (to ++ s) (name ∷ []), length-append to s, ap length e)

      not_in : (r : Place) → to ≡ from ++ r → ⊥
      not_in r e = true≢false (sym (within_at from to r e) ∙ apart)

      by : (o : Option Place) → strip from q ≡ o → one_in (moved_by to q o) to ≡ one_in q to
      by None is = refl
      by (Some s) is = none_without (to ++ s) to (λ name e. longer s name e)
          ∙ sym (none_without q to (λ name e. not_in (s ++ name ∷ []) (e ∙ ap (λ q. q ++ name ∷ []) (strip_is from q s is) ∙ append_assoc from s (name ∷ []))))

  moved_top : moved_path from to from ≡ to
  moved_top = ap (moved_by to from) (strip_at from from [] (sym (append-nil from))) ∙ append-nil to

  keep_apart : KeepApart (moved_path from to) (entries names)
  keep_apart k l m u at_k at_l e = two_apart names from to gone free k l m u (found names from to gone free k m at_k) (found names from to gone free l u at_l) e

  total_now : (f : Place → ℕ) → total (λ e. f e.0) (entries (renamed names from to)) ≡ total (λ e. f (moved_path from to e.0)) (entries names)
  total_now f = total_moved f (moved_path from to) (entries names) (entries_sorted names) keep_apart

  module _ (n j k : ℕ) (at : get names from ≡ Some n) (below_root : from ≡ [] → ⊥) (to_below_root : to ≡ [] → ⊥)
      (from_up : get names (parent from) ≡ Some j) (to_up : get names (parent to) ≡ Some k) where
    -- what a path holds where it lies after the move
    now : Place → ℕ
    now q = held (renamed names from to) (moved_path from to q)

    now_and_then : (q : Place) (m : ℕ) → get names q ≡ Some m → now q + one_in q from ≡ held names q + one_in q to
    unfolding now
    now_and_then q m at_q =
        let moved = held_total (renamed names from to) (moved_path from to q) ∙ total_now (one_in (moved_path from to q)) in
        let change = total_changed path_total path_same (λ p. one_in (moved_path from to q) (moved_path from to p)) (one_in q) names from n at (λ p u at_p off. one_stays q p m u at_q at_p off) in
        let top = ap (one_in (moved_path from to q)) moved_top ∙ one_to q in
        let before = held_total names q in
        omega (arith, moved, change, top, before)

    dirs_now : dirs l (renamed names from to) ≡ total (λ e. directory_blocks l (now e.0)) (entries names)
    unfolding now
    dirs_now = dirs_total l (renamed names from to) ∙ total_now (λ p. directory_blocks l (held (renamed names from to) p))

    -- within one directory nothing changes
    pub dirs_within : parent from ≡ parent to → dirs l (renamed names from to) ≡ dirs l names
    dirs_within one = dirs_now ∙ total_same path_total (λ q. directory_blocks l (now q)) (λ q. directory_blocks l (held names q)) names (λ q m at_q. ap (directory_blocks l) (same q m at_q)) ∙ sym (dirs_total l names)
      where
        as_many : (q : Place) → one_in q from ≡ one_in q to
        as_many q = grind (arith, which_key path_same q (parent from), one_at_parent to to_below_root, which_key, path_same, one_in, one_at_parent, tied, path_total, none_elsewhere)

        same : (q : Place) (m : ℕ) → get names q ≡ Some m → now q ≡ held names q
        same q m at_q = let a = now_and_then q m at_q in let b = as_many q in omega (arith, a, b)

    -- from one directory to another
    pub dirs_across : (parent from ≡ parent to → ⊥) → dirs l (renamed names from to) + release l (held names (parent from)) ≡ dirs l names + growth l (held names (parent to))
    dirs_across two =
        let more = total_changed path_total path_same (λ q. directory_blocks l (held names q + one_in q to)) (λ q. directory_blocks l (held names q)) names (parent to) k to_up
        (λ q m at_q off. ap (directory_blocks l) (nothing_more q (none_elsewhere q to off))) in
        let less = total_changed path_total path_same (λ q. directory_blocks l (now q)) (λ q. directory_blocks l (held names q + one_in q to)) names (parent from) j from_up
        (λ q m at_q off. ap (directory_blocks l) (nothing_less q m at_q (none_elsewhere q from off))) in
        let one_less : held names (parent from) ≡ 1 + now (parent from) = left (parent from) (now_and_then (parent from) j from_up) (one_at_parent from below_root) (none_elsewhere (parent from) to two) in
        let from_side = freed l _ _ (now (parent from)) (sym less ∙ ap (λ c. total (λ e. directory_blocks l (now e.0)) (entries names) + directory_blocks l c) (nothing_more (parent from) (none_elsewhere (parent from) to two) ∙ one_less)) in
        let to_side = grown l _ _ (held names (parent to)) (more ∙ ap (λ c. total (λ e. directory_blocks l (held names e.0)) (entries names) + directory_blocks l c) (one_more (parent to) (one_at_parent to to_below_root))) in
        ap₂ (λ d c. d + release l c) dirs_now one_less ∙ from_side ∙ to_side ∙ ap (λ d. d + growth l (held names (parent to))) (sym (dirs_total l names))
      where
        nothing_more : (q : Place) → one_in q to ≡ 0 → held names q + one_in q to ≡ held names q
        nothing_more q none = omega (arith, none)

        one_more : (q : Place) → one_in q to ≡ 1 → held names q + one_in q to ≡ 1 + held names q
        one_more q one = omega (arith, one)

        nothing_less : (q : Place) (m : ℕ) → get names q ≡ Some m → one_in q from ≡ 0 → now q ≡ held names q + one_in q to
        nothing_less q m at_q none = let a = now_and_then q m at_q in omega (arith, a, none)

        left : (q : Place) → now q + one_in q from ≡ held names q + one_in q to → one_in q from ≡ 1 → one_in q to ≡ 0 → held names q ≡ 1 + now q
        left q a one none = omega (arith, a, one, none)

-- the same where something is at `to`, which goes first: the directory above it holds as many names as before
module _ (l : Layout) (names : Names) (from to : Place) (free : holds_names names to ≡ false) (apart : is_within from to ≡ false) (n m j k : ℕ) (at : get names from ≡ Some n) (there : get names to ≡ Some m)
    (below_root : from ≡ [] → ⊥) (to_below_root : to ≡ [] → ⊥) (from_up : get names (parent from) ≡ Some j) (to_up : get names (parent to) ≡ Some k) where
  stays_there : (p : Place) (v : ℕ) → (p ≡ to → ⊥) → get names p ≡ Some v → get (remove names to) p ≡ Some v
  stays_there p v off e = stays path_total path_same names to p off ∙ e

  from_other : from ≡ to → ⊥
  from_other e = true≢false (sym (within_at from to [] (sym e ∙ sym (append-nil from))) ∙ apart)

  -- what holds `from` isn't what goes
  up_other : parent from ≡ to → ⊥
  up_other e = let end = last_name (parent from) from (in_parent from below_root) in none_held names to [] end.0 n free (ap (get names) (ap (λ p. p ++ end.0 ∷ []) (sym e) ∙ sym end.1) ∙ at)

  pub dirs_onto : dirs l (renamed (remove names to) from to) + release l (held names (parent from)) ≡ dirs l names
  dirs_onto = by (which_key path_same (parent from) (parent to))
    where
      gone : get (remove names to) to ≡ None
      gone = gone_here path_total names to to refl

      free_now : holds_names (remove names to) to ≡ false
      free_now = free_after names to free

      from_at : get (remove names to) from ≡ Some n
      from_at = stays_there from n from_other at

      from_above : get (remove names to) (parent from) ≡ Some j
      from_above = stays_there (parent from) j up_other from_up

      to_above : get (remove names to) (parent to) ≡ Some k
      to_above = stays_there (parent to) k (not_own_parent to to_below_root) to_up

      first : dirs l (remove names to) + release l (held names (parent to)) ≡ dirs l names
      first = dirs_freed names to m k there free to_below_root to_up l

      up_as_before : (parent from ≡ parent to → ⊥) → held names (parent from) ≡ held (remove names to) (parent from)
      up_as_before two = let less = held_less names to m (parent from) there in let none = none_elsewhere (parent from) to two in omega (arith, less, none)

      by : (parent from ≡ parent to) ⊎ (eq_by_cmp path_cmp (parent from) (parent to) ≡ false) → dirs l (renamed (remove names to) from to) + release l (held names (parent from)) ≡ dirs l names
      by h1 = grind (arith, held, dirs_within, gone, free_now, from_at, from_above, to_above, first, tied, path_total, dirs_across, held_one_less, balance, dirs, up_as_before)
