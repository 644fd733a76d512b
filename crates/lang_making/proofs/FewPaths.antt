-- No command gives a node more paths than a file may have.
use Rattle.std.proofs.Common.{◌≡◌, ◌≢◌, ℕ, ◌+◌, ◌≤◌, ◌==◌, Bool, true, false, not, ◌&&◌, List, [], ◌∷◌, length, replicate, Option, Some, None, is_some, is_none, if◌then◌else◌, nat_le, find as first, refl, sym, ap, ◌∙◌, subst, ◌⊎◌, inl, inr, arith, eq-eqb}
use Rattle.std.proofs.lemmas.Bool.{cases_eq, ne_eqb}
use Rattle.std.proofs.lemmas.Bool.Decides.{nat_tests}
use Rattle.std.proofs.lemmas.Option.{same_Some, none-some}
use Rattle.std.specs.List.{range_with_len}
use Rattle.std.specs.FinMap.{get, insert, remove, empty, same_map, get-empty}
use Rattle.base_types.specs.declared.layout.Layout.{Layout}
use Rattle.lang_tree.specs.declared.command.Cmd.{Cmd}
use Rattle.lang_tree.specs.declared.command.Cmd.TheVariants.{Mkdir, Create, Write, Fill, Read, Truncate, Link, Unlink, Rmdir, Rename, Stat, List as ListNames, Snap, Unsnap, Snaps, At, Osync, Dsync, Durable, Dwait, Poll, Bad}
use Rattle.lang_tree.specs.declared.command.Refusal.{Refusal}
use Rattle.lang_tree.specs.declared.command.Refusal.TheVariants.{Exists, IsDir, TooManyLinks, NoNode, NameTooLong}
use Rattle.lang_tree.specs.declared.command.Reply.{Reply}
use Rattle.lang_tree.specs.declared.command.Reply.TheVariants.{Ok as Done}
use Rattle.lang_tree.specs.Tree.{Tree, Bounds, Names, Thing, Dir, File, IsSound, path_cmp}
use Rattle.lang_tree.specs.Paths.{is_within, is_too_long}
use Rattle.lang_tree.specs.Names.{path_count, holds_names, renamed}
use Rattle.lang_tree.specs.Walk.{walk_refusal, parent_refusal, is_there, is_dir, thing_at, is_same_node, content, links, counted}
use Rattle.lang_tree.specs.Conditions.{when, first_reason, is_snapshot, least_unused, make_refusal, link_refusal, rename_refusal, refusal}
use Rattle.lang_tree.specs.Step.{Session, step, start, answered, accepted, changed_to, written, resized, with_node, added, edited, edited_at, linked, linked_by, removed, removed_by, moved, snapped_by, osync, dwait}
use Rattle.lang_making.specs.Making.{HasFewPaths}
use Rattle.lang_making.proofs.Maps.{path_total, path_same, taken_at, taken_or}
use Rattle.lang_making.proofs.Counting.{CountsFound, CountsTaken, fewer}

-- a path that is put in is counted
abbrev pub CountsPut : Type 0
CountsPut = (names : Names) (p : List (List ℕ)) (m n : ℕ) → get names p ≡ None → path_count (insert names p m) n ≡ (if m == n then 1 else 0) + path_count names n

-- a move to where nothing is changes no count
abbrev pub CountsMoved : Type 0
CountsMoved = (names : Names) (from to : List (List ℕ)) (n : ℕ) → holds_names names to ≡ false → path_count (renamed (remove names to) from to) n ≡ path_count (remove names to) n

-- a move leads to where nothing is
abbrev pub MovesFree : Type 0
MovesFree = (limit : ℕ) (l : Layout) (t : Tree) (from to : List (List ℕ)) → IsSound limit t → rename_refusal l t from to ≡ None → is_same_node t from to ≡ false
    → (is_within from to ≡ false) × (holds_names t.names to ≡ false) × (to ≢ [])

-- What the laws of trees say of counts of paths.
pub record Counts : Type 0 where
  pub found : CountsFound
  pub taken : CountsTaken
  pub put : CountsPut
  pub moved : CountsMoved
  pub free : MovesFree

-- Refusals.

not_first : (r : Option Refusal) (rest : List (Option Refusal)) → first_reason (r ∷ rest) ≡ None → (r ≡ None) × (first_reason rest ≡ None)
not_first r rest h1 = grind arith

not_when : (b : Bool) (why : Refusal) → when b why ≡ None → b ≡ false
not_when b why h1 = grind arith

lacks : {A : Type 0} (o : Option A) → is_some o ≡ false → o ≡ None
lacks o h1 = grind arith

lacks_too : {A : Type 0} (o : Option A) → is_none o ≡ true → o ≡ None
lacks_too o h1 = grind arith

first_passes : (test : ℕ → Bool) (xs : List ℕ) (n : ℕ) → first test xs ≡ Some n → test n ≡ true
first_passes test [] n e = absurd (none-some n e)
first_passes test (x ∷ xs) n e = by (test x) refl e (first_passes test xs n)
  where
    by : (b : Bool) → test x ≡ b → (if b then Some x else first test xs) ≡ Some n → (first test xs ≡ Some n → test n ≡ true) → test n ≡ true
    by true is e later = ap test (sym (same_Some x n e)) ∙ is
    by false is e later = later e

both_pass : (a b : Bool) → (a && b) ≡ true → a ≡ true
both_pass true b e = refl
both_pass false b e = e

no_node : (limit n : ℕ) (t : Tree) → least_unused limit t ≡ Some n → get t.nodes n ≡ None
unfolding least_unused
no_node limit n t e =
    lacks_too (get t.nodes n)
    (both_pass (is_none (get t.nodes n)) (not (is_snapshot t.snapshots n)) (first_passes (λ n. is_none (get t.nodes n) && not (is_snapshot t.snapshots n)) (range_with_len 1 limit) n e))

at_most : (n : ℕ) → nat_le 65535 n ≡ false → n ≤ 65534
at_most n h = grind (arith, nat_tests)

module _ (laws : Counts) where
  put_few : (names : Names) (p : List (List ℕ)) (m : ℕ) → HasFewPaths names → get names p ≡ None → path_count names m ≤ 65534 → HasFewPaths (insert names p m)
  put_few names p m few none low n = by (cases_eq m n)
    where
      by : (m ≡ n) ⊎ (m ≡ n → ⊥) → path_count (insert names p m) n ≤ 65535
      by (inl same) =
          let count = laws.put names p m n none ∙ ap (λ b. (if b then 1 else 0) + path_count names n) (eq-eqb m n same) in
          let low_too : path_count names n ≤ 65534 = subst (λ k. path_count names k ≤ 65534) same low in
          omega (arith, count, low_too)
      by (inr apart) =
          let count = laws.put names p m n none ∙ ap (λ b. (if b then 1 else 0) + path_count names n) (ne_eqb m n apart) in
          omega (arith, count, few n)

  take_few : (names : Names) (p : List (List ℕ)) → HasFewPaths names → HasFewPaths (remove names p)
  take_few names p few n =
      let less = fewer laws.found laws.taken (path_count (remove names p) n) (remove names p) names n n refl (λ q at. by q at (taken_or path_total path_same names p q)) in
      omega (arith, less, few n)
    where
      by : (q : List (List ℕ)) → get (remove names p) q ≡ Some n → (q ≡ p) ⊎ (get (remove names p) q ≡ get names q) → get names q ≡ Some n
      by q at (inl same) = absurd (none-some n (sym (taken_at path_total path_same names p q same) ∙ at))
      by q at (inr old) = sym old ∙ at

  take_none : (names : Names) (p : List (List ℕ)) → get names p ≡ None → remove names p ≡ names
  take_none names p none = same_map path_total path_same (remove names p) names (λ q. by q (taken_or path_total path_same names p q))
    where
      by : (q : List (List ℕ)) → (q ≡ p) ⊎ (get (remove names p) q ≡ get names q) → get (remove names p) q ≡ get names q
      by q (inl same) = taken_at path_total path_same names p q same ∙ sym (ap (get names) same ∙ none)
      by q (inr old) = old

  module _ (limit : Bounds) (t : Tree) (ok : IsSound limit.nodes t) (few : HasFewPaths t.names) where
    -- no path leads to a number that no node has
    no_path : (m : ℕ) → get t.nodes m ≡ None → path_count t.names m ≤ 65534
    no_path m none = by (cases_eq (path_count t.names m) 0)
      where
        by : (path_count t.names m ≡ 0) ⊎ (path_count t.names m ≡ 0 → ⊥) → path_count t.names m ≤ 65534
        by (inl zero) = omega (arith, zero)
        by (inr some) =
            let p = laws.found t.names m (omega (arith, some)) in
            let x = ok.named p.0 m p.1 in
            absurd (none-some x.0 (sym none ∙ x.1))

    added_few : (path : List (List ℕ)) (x : Thing) → make_refusal limit t path ≡ None → HasFewPaths (added limit.nodes t path x).names
    added_few path x e = by (least_unused limit.nodes t) refl
      where
        absent : get t.names path ≡ None
        absent =
            let room : Option Refusal = when (is_none (least_unused limit.nodes t)) NoNode in
            let long : Option Refusal = when (is_too_long limit.layout path) NameTooLong in
            let later = not_first (parent_refusal t path) (when (is_there t path) Exists ∷ room ∷ long ∷ []) e in
            let there = not_first (when (is_there t path) Exists) (room ∷ long ∷ []) later.1 in
            lacks (get t.names path) (not_when (is_there t path) Exists there.0)

        by : (o : Option ℕ) → least_unused limit.nodes t ≡ o → HasFewPaths (with_node t path x o).names
        by None is = few
        by (Some m) is = put_few t.names path m few absent (no_path m (no_node limit.nodes m t is))

    module _ (path other : List (List ℕ)) (e : link_refusal limit.layout t path other ≡ None) where
      abbrev many : Option Refusal
      many = when (nat_le 65535 (links t path)) TooManyLinks

      abbrev dir : Option Refusal
      dir = when (is_dir (thing_at t path)) IsDir

      abbrev there : Option Refusal
      there = when (is_there t other) Exists

      abbrev long : Option Refusal
      long = when (is_too_long limit.layout other) NameTooLong

      walked : first_reason (there ∷ dir ∷ many ∷ long ∷ []) ≡ None
      walked = (not_first (parent_refusal t other) (there ∷ dir ∷ many ∷ long ∷ []) (not_first (walk_refusal t path) (parent_refusal t other ∷ there ∷ dir ∷ many ∷ long ∷ []) e).1).1

      other_absent : get t.names other ≡ None
      other_absent = lacks (get t.names other) (not_when (is_there t other) Exists (not_first there (dir ∷ many ∷ long ∷ []) walked).0)

      not_many : many ≡ None
      not_many = (not_first many (long ∷ []) (not_first dir (many ∷ long ∷ []) (not_first there (dir ∷ many ∷ long ∷ []) walked).1).1).0

      linked_few : HasFewPaths (linked t path other).names
      linked_few = by (get t.names path) refl
        where
          by : (o : Option ℕ) → get t.names path ≡ o → HasFewPaths (linked_by t other o).names
          by None is = few
          by (Some n) is =
              let low : counted t (Some n) ≤ 65534 = subst (λ o. counted t o ≤ 65534) is (at_most (links t path) (not_when (nat_le 65535 (links t path)) TooManyLinks not_many)) in
              put_few t.names other n few other_absent low

    removed_few : (path : List (List ℕ)) → HasFewPaths (removed t path).names
    removed_few path = by (get t.names path)
      where
        by : (o : Option ℕ) → HasFewPaths (removed_by t path o).names
        by None = few
        by (Some n) = take_few t.names path few

    edited_few : (path : List (List ℕ)) (change : List ℕ → List ℕ) → HasFewPaths (edited t path change).names
    edited_few path change = by (get t.names path)
      where
        by : (o : Option ℕ) → HasFewPaths (edited_at t change o).names
        by None = few
        by (Some n) = few

    snapped_few : (name : List ℕ) (o : Option ℕ) → HasFewPaths (snapped_by t name o).names
    snapped_few name None = few
    snapped_few name (Some n) = few

    moved_few : (from to : List (List ℕ)) → rename_refusal limit.layout t from to ≡ None → is_same_node t from to ≡ false → HasFewPaths (moved (removed t to) from to).names
    moved_few from to e other = by (get t.names to) refl
      where
        free : holds_names t.names to ≡ false
        free = (laws.free limit.nodes limit.layout t from to ok e other).1

        move : HasFewPaths (renamed (remove t.names to) from to)
        move n = let count = laws.moved t.names from to n free in let low = take_few t.names to few n in omega (arith, count, low)

        by : (o : Option ℕ) → get t.names to ≡ o → HasFewPaths (moved (removed_by t to o) from to).names
        by None is = subst (λ names. HasFewPaths (renamed names from to)) (take_none t.names to is) move
        by (Some n) is = move

  module _ (s : Session) (ok : IsSound s.limit.nodes s.tree) (few : HasFewPaths s.tree.names) where
    abbrev Few : Session × Reply → Type 0
    Few answer = HasFewPaths answer.0.tree.names

    choice_few : (t : Tree) (b : Bool) → (b ≡ false → HasFewPaths t.names) → Few (if b then (s, Done) else changed_to s t)
    choice_few t true h = few
    choice_few t false h = h refl

    osync_few : (b : Bool) → Few (osync s b)
    osync_few true = few
    osync_few false = few

    dwait_few : (n : ℕ) (b : Bool) → Few (dwait s n b)
    dwait_few n true = few
    dwait_few n false = few

    accepted_few : (cmd : Cmd) → refusal s.limit s.tree cmd ≡ None → Few (accepted s cmd)
    accepted_few (Mkdir path) e = added_few s.limit s.tree ok few path Dir e
    accepted_few (Create path) e = added_few s.limit s.tree ok few path (File []) e
    accepted_few (Write path offset bytes) e =
        choice_few (edited s.tree path (written offset bytes)) (length bytes == 0) (λ h. edited_few s.limit s.tree ok few path (written offset bytes))
    accepted_few (Fill path offset count byte) e =
        choice_few (edited s.tree path (written offset (replicate count byte))) (length (replicate count byte) == 0)
        (λ h. edited_few s.limit s.tree ok few path (written offset (replicate count byte)))
    accepted_few (Read path offset count) e = few
    accepted_few (Truncate path size) e =
        choice_few (edited s.tree path (resized size)) (size == length (content s.tree path)) (λ h. edited_few s.limit s.tree ok few path (resized size))
    accepted_few (Link path other) e = linked_few s.limit s.tree ok few path other e
    accepted_few (Unlink path) e = removed_few s.limit s.tree ok few path
    accepted_few (Rmdir path) e = removed_few s.limit s.tree ok few path
    accepted_few (Rename from to) e =
        choice_few (moved (removed s.tree to) from to) (is_same_node s.tree from to) (λ other. moved_few s.limit s.tree ok few from to e other)
    accepted_few (Stat path) e = few
    accepted_few (ListNames path) e = few
    accepted_few (Snap name) e = snapped_few s.limit s.tree ok few name (least_unused s.limit.nodes s.tree)
    accepted_few (Unsnap name) e = few
    accepted_few Snaps e = few
    accepted_few (At name l) e = few
    accepted_few Osync e = osync_few s.changed
    accepted_few Dsync e = osync_few s.changed
    accepted_few Durable e = few
    accepted_few (Dwait n) e = dwait_few n (nat_le n s.points)
    accepted_few Poll e = few
    accepted_few Bad e = few

    answered_few : (cmd : Cmd) (r : Option Refusal) → refusal s.limit s.tree cmd ≡ r → Few (answered s cmd r)
    answered_few cmd None is = accepted_few cmd is
    answered_few cmd (Some why) is = few

    pub step_few : (cmd : Cmd) → HasFewPaths (step s cmd).0.tree.names
    step_few cmd = answered_few cmd (refusal s.limit s.tree cmd) refl

  abbrev no_names : Names
  no_names = empty

  pub start_few : (limit : Bounds) → HasFewPaths (start limit).tree.names
  start_few limit = put_few no_names [] 1 none_few (get-empty path_cmp []) (omega (arith, none_few 1, nothing 1))
    where
      nothing : (n : ℕ) → path_count no_names n ≡ 0
      nothing n = by (cases_eq (path_count no_names n) 0)
        where
          by : (path_count no_names n ≡ 0) ⊎ (path_count no_names n ≡ 0 → ⊥) → path_count no_names n ≡ 0
          by (inl zero) = zero
          by (inr some) =
              let p = laws.found no_names n (omega (arith, some)) in
              absurd (none-some n (sym (get-empty path_cmp p.0) ∙ p.1))

      none_few : HasFewPaths no_names
      none_few n = omega (arith, nothing n)
