-- What a map of paths has at a path after a move, where nothing is at or below the second path: what was at or below the first one is there, and all else stays.
use Rattle.std.proofs.Common.{◌≡◌, ℕ, true, false, List, [], ◌∷◌, ◌++◌, map, Option, Some, None, is_some, refl, sym, ap, ◌∙◌, ◌⊎◌, inl, inr, append-nil, true≢false, arith}
use Rattle.std.proofs.lemmas.Bool.{false_from_ne_true}
use Rattle.std.proofs.lemmas.List.{append_cancel_left}
use Rattle.std.proofs.lemmas.Slice.Eq.{bytes_eq-Decides}
use Rattle.std.specs.Ordering.{eq_by_cmp}
use Rattle.std.specs.FinMap.{get, remove, entries, entries_sorted, find, get-entries, get-from_entries}
use Rattle.std.proofs.lemmas.Option.{none-some}
use Rattle.lang_tree.specs.Tree.{Names, path_cmp}
use Rattle.lang_tree.specs.Paths.{strip, is_within, moved_path, moved_by}
use Rattle.lang_tree.specs.Names.{path_count, holds_names, renamed}
use Rattle.lang_tree.proofs.basics.Order.{path_total, path_same}
use Rattle.lang_tree.proofs.basics.Strips.{lacks, strip_is, not_behind, within_at}
use Rattle.lang_tree.proofs.basics.Finds.{tied, apart, which_key, gone_here, was, stays, find_moved, find_left}
use Rattle.lang_tree.proofs.counting.PathCounts.{count_moved}
use Rattle.lang_tree.proofs.walking.Found.{none_held, holds_some, some_held}

-- two fronts of one path: one begins with the other
pub two_fronts : (p r q s : List (List ℕ)) → p ++ r ≡ q ++ s → (is_within p q ≡ true) ⊎ (is_within q p ≡ true)
two_fronts [] r q s e = inl refl
two_fronts (a ∷ p) r [] s e = inr refl
two_fronts (a ∷ p) r (b ∷ q) s e = grind (arith, two_fronts p r q s, bytes_eq-Decides)

-- behind one front and behind another the same two paths tie
same_test : (p q r s : List (List ℕ)) → eq_by_cmp path_cmp (p ++ r) (p ++ s) ≡ eq_by_cmp path_cmp (q ++ r) (q ++ s)
same_test p q r s = by (which_key path_same r s)
  where
    by : (r ≡ s) ⊎ (eq_by_cmp path_cmp r s ≡ false) → eq_by_cmp path_cmp (p ++ r) (p ++ s) ≡ eq_by_cmp path_cmp (q ++ r) (q ++ s)
    by (inl e) = tied path_total (p ++ r) (p ++ s) (ap (λ r. p ++ r) e) ∙ sym (tied path_total (q ++ r) (q ++ s) (ap (λ r. q ++ r) e))
    by (inr e) =
        let differ = λ (same : r ≡ s). true≢false (sym (tied path_total r s same) ∙ e) in
        apart path_same (p ++ r) (p ++ s) (λ e. differ (append_cancel_left p r s e)) ∙ sym (apart path_same (q ++ r) (q ++ s) (λ e. differ (append_cancel_left q r s e)))

module _ (names : Names) (from to : List (List ℕ)) (gone : get names to ≡ None) (free : holds_names names to ≡ false) where
  -- nothing is at or below `to`
  pub none_at : (r : List (List ℕ)) (n : ℕ) → get names (to ++ r) ≡ Some n → ⊥
  none_at [] n at = none-some n (sym gone ∙ ap (get names) (sym (append-nil to)) ∙ at)
  none_at (x ∷ r) n at = none_held names to r x n free at

  pub found : (k : List (List ℕ)) (v : ℕ) → find path_cmp k (entries names) ≡ Some v → get names k ≡ Some v
  found k v is = get-entries names k ∙ is

  look_up : (y : List (List ℕ)) → get (renamed names from to) y ≡ find path_cmp y (map (λ e. (moved_path from to e.0, e.1)) (entries names))
  look_up y = get-from_entries path_total (map (λ e. (moved_path from to e.0, e.1)) (entries names)) y

  pub at_target : (r : List (List ℕ)) → get (renamed names from to) (to ++ r) ≡ get names (from ++ r)
  at_target r = look_up (to ++ r)
      ∙ find_moved path_total (moved_path from to) (to ++ r) (from ++ r) (entries names) (λ k v is. by k v (found k v is) (strip from k) refl)
      ∙ sym (get-entries names (from ++ r))
    where
      by : (k : List (List ℕ)) (v : ℕ) → get names k ≡ Some v → (o : Option (List (List ℕ))) → strip from k ≡ o → eq_by_cmp path_cmp (to ++ r) (moved_by to k o) ≡ eq_by_cmp path_cmp (from ++ r) k
      by k v at None none = apart path_same (to ++ r) k (λ e. none_at r v (ap (get names) e ∙ at)) ∙ sym (apart path_same (from ++ r) k (λ e. not_behind from k r none (sym e)))
      by k v at (Some s) is = same_test to from r s ∙ ap (eq_by_cmp path_cmp (from ++ r)) (sym (strip_is from k s is))

  pub at_source : (y r : List (List ℕ)) → strip to y ≡ None → y ≡ from ++ r → get (renamed names from to) y ≡ None
  at_source y r out e = look_up y ∙ find_left path_total (moved_path from to) y (entries names) (λ k v is. by k v (found k v is) (strip from k) refl)
    where
      by : (k : List (List ℕ)) (v : ℕ) → get names k ≡ Some v → (o : Option (List (List ℕ))) → strip from k ≡ o → eq_by_cmp path_cmp y (moved_by to k o) ≡ false
      by k v at None none = apart path_same y k (λ same. not_behind from k r none (sym same ∙ e))
      by k v at (Some s) is = apart path_same y (to ++ s) (λ same. not_behind to y s out same)

  pub elsewhere : (y : List (List ℕ)) → strip to y ≡ None → strip from y ≡ None → get (renamed names from to) y ≡ get names y
  elsewhere y out apart_from = look_up y
      ∙ find_moved path_total (moved_path from to) y y (entries names) (λ k v is. by k v (found k v is) (strip from k) refl)
      ∙ sym (get-entries names y)
    where
      by : (k : List (List ℕ)) (v : ℕ) → get names k ≡ Some v → (o : Option (List (List ℕ))) → strip from k ≡ o → eq_by_cmp path_cmp y (moved_by to k o) ≡ eq_by_cmp path_cmp y k
      by k v at None none = refl
      by k v at (Some s) is = apart path_same y (to ++ s) (λ same. not_behind to y s out same)
          ∙ sym (apart path_same y k (λ same. not_behind from y s apart_from (same ∙ strip_is from k s is)))

  -- no two paths come to one
  pub two_apart : (k l : List (List ℕ)) (m n : ℕ) → get names k ≡ Some m → get names l ≡ Some n → moved_path from to k ≡ moved_path from to l → k ≡ l
  two_apart k l m n at_k at_l e = by (strip from k) (strip from l) refl refl e
    where
      by : (o u : Option (List (List ℕ))) → strip from k ≡ o → strip from l ≡ u → moved_by to k o ≡ moved_by to l u → k ≡ l
      by None None is_k is_l e = e
      by None (Some s) is_k is_l e = absurd (none_at s m (ap (get names) (sym e) ∙ at_k))
      by (Some r) None is_k is_l e = absurd (none_at r n (ap (get names) e ∙ at_l))
      by (Some r) (Some s) is_k is_l e = strip_is from k r is_k ∙ ap (λ r. from ++ r) (append_cancel_left to r s e) ∙ sym (strip_is from l s is_l)

  -- each number has as many paths as before
  pub count_renamed : (n : ℕ) → path_count (renamed names from to) n ≡ path_count names n
  count_renamed n = count_moved (moved_path from to) (entries names) n (entries_sorted names) (λ k l m u at_k at_l e. two_apart k l m u (found k m at_k) (found l u at_l) e)

  -- What lies at or below `from` doesn't lie at or below `to`, where something is there and neither lies within the other.
  pub sides_differ : (n : ℕ) → get names from ≡ Some n → is_within from to ≡ false → (r s : List (List ℕ)) → from ++ r ≡ to ++ s → ⊥
  sides_differ n at out r s e = by (two_fronts from r to s e)
    where
      within : (o : Option (List (List ℕ))) → strip to from ≡ o → is_some o ≡ true → ⊥
      within None is w = true≢false (sym w)
      within (Some u) is w = none_at u n (ap (get names) (sym (strip_is to from u is)) ∙ at)

      by : (is_within from to ≡ true) ⊎ (is_within to from ≡ true) → ⊥
      by h1 = grind (arith, within)

pub free_after : (names : Names) (p : List (List ℕ)) → holds_names names p ≡ false → holds_names (remove names p) p ≡ false
free_after names p free = grind (arith, false_from_ne_true, holds_some, some_held, was, path_total)

-- the same where something may be at the second path, which goes first
module _ (names : Names) (from to : List (List ℕ)) (free : holds_names names to ≡ false) (out : is_within from to ≡ false) where
  gone_now : get (remove names to) to ≡ None
  gone_now = gone_here path_total names to to refl

  other : (p : List (List ℕ)) → (p ≡ to → ⊥) → get (remove names to) p ≡ get names p
  other p off = stays path_total path_same names to p off

  from_apart : (r : List (List ℕ)) → from ++ r ≡ to → ⊥
  from_apart r e = true≢false (sym (within_at from to r (sym e)) ∙ out)

  pub onto_target : (r : List (List ℕ)) → get (renamed (remove names to) from to) (to ++ r) ≡ get names (from ++ r)
  onto_target r = at_target (remove names to) from to gone_now (free_after names to free) r ∙ other (from ++ r) (from_apart r)

  pub onto_source : (n : ℕ) → get names from ≡ Some n → (r : List (List ℕ)) → get (renamed (remove names to) from to) (from ++ r) ≡ None
  onto_source n at r = at_source (remove names to) from to gone_now (free_after names to free) (from ++ r) r (by (strip to (from ++ r)) refl) refl
    where
      at_from : get (remove names to) from ≡ Some n
      at_from = other from (λ e. from_apart [] (append-nil from ∙ e)) ∙ at

      by : (o : Option (List (List ℕ))) → strip to (from ++ r) ≡ o → o ≡ None
      by None is = refl
      by (Some s) is = absurd (sides_differ (remove names to) from to gone_now (free_after names to free) n at_from out r s (strip_is to (from ++ r) s is))

  pub onto_elsewhere : (p : List (List ℕ)) → is_within from p ≡ false → is_within to p ≡ false → get (renamed (remove names to) from to) p ≡ get names p
  onto_elsewhere p off_from off_to = elsewhere (remove names to) from to gone_now (free_after names to free) p (lacks (strip to p) off_to) (lacks (strip from p) off_from)
      ∙ other p (λ e. true≢false (sym (within_at to p [] (e ∙ sym (append-nil to))) ∙ off_to))
