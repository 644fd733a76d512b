-- No command gives a node the number of a snapshot, so sound snapshots stay sound, with one more and with one less. And what a tree without any is.
use Rattle.std.proofs.Common.{◌≡◌, ℕ, ◌≤◌, ◌==◌, Bool, true, false, cond, ◌||◌, ◌&&◌, not, if◌then◌else◌, List, [], ◌∷◌, ◌++◌, length, replicate, Option, Some, None, is_none, find as first, refl, sym, ap, subst, ◌∙◌, ◌⊎◌, inl, inr, arith, append-nil, nat_le, eq-eqb}
use Rattle.std.proofs.lemmas.Bool.{or_right, false≢true, true≢false}
use Rattle.std.proofs.lemmas.List.{nil_from_length}
use Rattle.std.proofs.lemmas.Option.{none-some, same_Some}
use Rattle.std.specs.List.{range_with_len, list_any, flat_map}
use Rattle.std.specs.Ordering.{eq_by_cmp, nat_cmp}
use Rattle.std.specs.declared.cmp.Ordering.{Ordering}
use Rattle.std.specs.Cmp.{IsTotalOrder, nat_cmp_total}
use Rattle.std.specs.Cmp.Lexicographic.{lists_total, slice_cmp}
use Rattle.std.specs.FinMap.{IsAntisymmetric, nat_cmp-IsAntisymmetric, slice_cmp-IsAntisymmetric, get, insert, remove, empty, entries, find, get-entries, get-empty, len-empty, len-entries}
use Rattle.lang_tree.specs.declared.command.Cmd.{Cmd}
use Rattle.lang_tree.specs.declared.command.Cmd.TheVariants.{Mkdir, Create, Write, Fill, Read, Truncate, Link, Unlink, Rmdir, Rename, Stat, List as ListNames, Snap, Unsnap, Snaps, At, Osync, Dsync, Durable, Dwait, Poll, Bad}
use Rattle.lang_tree.specs.declared.command.Reply.TheVariants.{Ok as Done}
use Rattle.lang_tree.specs.declared.command.Refusal.{Refusal}
use Rattle.lang_tree.specs.Tree.{Tree, Nodes, Snapshots, Kept, Thing, Dir, File, kept_tree, IsSound, HasSoundSnapshots}
use Rattle.lang_tree.specs.Names.{path_count}
use Rattle.lang_tree.specs.Walk.{content, is_same_node}
use Rattle.lang_tree.specs.Conditions.{is_snapshot, least_unused, refusal}
use Rattle.lang_tree.specs.Step.{Session, step, answered, changed_to, with_node, added, with_bytes, edited_at, linked_by, removed_by, removed, moved, osync, dwait, written, resized, kept_of, snapped, snapped_by, unsnapped, changes_snapshots}
use Rattle.lang_tree.specs.Listing.{path_lines, listing, snapshot_lines}
use Rattle.lang_tree.proofs.basics.Finds.{put_here, look, was}
use Rattle.lang_tree.proofs.soundness.SoundChanges.{unused_is}
use Rattle.lang_tree.proofs.soundness.Sound.{with_snapshots_sound}

-- The numbers of snapshots.

any_value : {K X : Type 0} (R : K → K → Ordering) (test : X → Bool) (es : List (K × X)) (q : K) (v : X) → find R q es ≡ Some v → test v ≡ true → list_any (λ e. test e.1) es ≡ true
any_value R test [] q v is t = absurd (none-some v is)
any_value R test (e ∷ es) q v is t = by (eq_by_cmp R q e.0) is (any_value R test es q v)
  where
    by : (b : Bool) → cond b (Some e.1) (find R q es) ≡ Some v → (find R q es ≡ Some v → test v ≡ true → list_any (λ e. test e.1) es ≡ true) → (test e.1 || list_any (λ e. test e.1) es) ≡ true
    by true is go = grind (arith, t, is)
    by false is go = or_right (test e.1) (list_any (λ e. test e.1) es) (go is t)

-- the number of a snapshot is that of one
pub numbered : (m : Snapshots) (name : List ℕ) (k : Kept) → get m name ≡ Some k → is_snapshot m k.number ≡ true
numbered m name k at = any_value (slice_cmp nat_cmp) (λ x. x.number == k.number) (entries m) name k (sym (get-entries m name) ∙ at) (eq-eqb k.number k.number refl)

-- A tree after a change: it has the snapshots of the tree before, and no new node has the number of one.
pub record KeepsSnapshots (new old : Tree) : Type 0 where
  pub same : new.snapshots ≡ old.snapshots
  free : (n : ℕ) → is_snapshot old.snapshots n ≡ true → get old.nodes n ≡ None → get new.nodes n ≡ None

stays_free : (nodes : Nodes) (n k : ℕ) → get nodes n ≡ None → get (remove nodes k) n ≡ None
stays_free nodes n k free = by (get (remove nodes k) n) refl
  where
    by : (o : Option Thing) → get (remove nodes k) n ≡ o → o ≡ None
    by None is = refl
    by (Some x) is = absurd (none-some x (sym free ∙ was nat_cmp_total nodes k n x is))

put_apart : (nodes : Nodes) (n k : ℕ) (x : Thing) → (n ≡ k → ⊥) → get nodes n ≡ None → get (insert nodes k x) n ≡ None
put_apart nodes n k x apart free = by (look nat_cmp_total nat_cmp-IsAntisymmetric nodes k x n)
  where
    by : (n ≡ k) ⊎ (get (insert nodes k x) n ≡ get nodes n) → get (insert nodes k x) n ≡ None
    by (inl e) = absurd (apart e)
    by (inr e) = e ∙ free

nothing_new : (t : Tree) → KeepsSnapshots t t
nothing_new t = record { same = refl; free = λ n used none. none }

added_keeps : (limit : ℕ) (t : Tree) (path : List (List ℕ)) (x : Thing) → KeepsSnapshots (added limit t path x) t
added_keeps limit t path x = by (least_unused limit t) refl
  where
    by : (o : Option ℕ) → least_unused limit t ≡ o → KeepsSnapshots (with_node t path x o) t
    by None is = nothing_new t
    by (Some m) is = record {
      same = refl;
      free = λ n used none. put_apart t.nodes n m x (λ e. false≢true (sym (unused_is limit m t is).3 ∙ ap (is_snapshot t.snapshots) (sym e) ∙ used)) none;
    }

edited_keeps : (t : Tree) (change : List ℕ → List ℕ) (o : Option ℕ) → KeepsSnapshots (edited_at t change o) t
edited_keeps t change None = nothing_new t
edited_keeps t change (Some k) = record { same = refl; free = λ n used none. by n none (get t.nodes k) refl }
  where
    by : (n : ℕ) → get t.nodes n ≡ None → (o : Option Thing) → get t.nodes k ≡ o → get (with_bytes t.nodes k change o) n ≡ None
    by n none None is = none
    by n none (Some Dir) is = none
    by n none (Some (File bytes)) is = put_apart t.nodes n k (File (change bytes)) (λ e. none-some (File bytes) (sym none ∙ ap (get t.nodes) e ∙ is)) none

linked_keeps : (t : Tree) (other : List (List ℕ)) (o : Option ℕ) → KeepsSnapshots (linked_by t other o) t
linked_keeps t other None = nothing_new t
linked_keeps t other (Some n) = record { same = refl; free = λ n used none. none }

removed_keeps : (t : Tree) (path : List (List ℕ)) (o : Option ℕ) → KeepsSnapshots (removed_by t path o) t
removed_keeps t path None = nothing_new t
removed_keeps t path (Some k) = record { same = refl; free = λ n used none. by (path_count (remove t.names path) k == 0) n none }
  where
    by : (b : Bool) (n : ℕ) → get t.nodes n ≡ None → get (if b then remove t.nodes k else t.nodes) n ≡ None
    by true n none = stays_free t.nodes n k none
    by false n none = none

moved_keeps : (t : Tree) (from to : List (List ℕ)) → KeepsSnapshots (moved (removed t to) from to) t
moved_keeps t from to = let gone = removed_keeps t to (get t.names to) in record { same = gone.same; free = gone.free }

-- The commands.

choice_keeps : (s : Session) (t : Tree) (b : Bool) → KeepsSnapshots t s.tree → KeepsSnapshots (if b then (s, Done) else changed_to s t).0.tree s.tree
choice_keeps s t true keeps = nothing_new s.tree
choice_keeps s t false keeps = keeps

osync_keeps : (s : Session) (b : Bool) → KeepsSnapshots (osync s b).0.tree s.tree
osync_keeps s true = nothing_new s.tree
osync_keeps s false = nothing_new s.tree

dwait_keeps : (s : Session) (n : ℕ) (b : Bool) → KeepsSnapshots (dwait s n b).0.tree s.tree
dwait_keeps s n true = nothing_new s.tree
dwait_keeps s n false = nothing_new s.tree

pub answered_keeps : (s : Session) (cmd : Cmd) (r : Option Refusal) → changes_snapshots cmd ≡ false → KeepsSnapshots (answered s cmd r).0.tree s.tree
answered_keeps s cmd (Some why) live = nothing_new s.tree
answered_keeps s (Mkdir path) None live = added_keeps s.limit.nodes s.tree path Dir
answered_keeps s (Create path) None live = added_keeps s.limit.nodes s.tree path (File [])
answered_keeps s (Write path offset bytes) None live = choice_keeps s _ (length bytes == 0) (edited_keeps s.tree (written offset bytes) (get s.tree.names path))
answered_keeps s (Fill path offset count byte) None live =
    choice_keeps s _ (length (replicate count byte) == 0) (edited_keeps s.tree (written offset (replicate count byte)) (get s.tree.names path))
answered_keeps s (Read path offset count) None live = nothing_new s.tree
answered_keeps s (Truncate path size) None live = choice_keeps s _ (size == length (content s.tree path)) (edited_keeps s.tree (resized size) (get s.tree.names path))
answered_keeps s (Link path other) None live = linked_keeps s.tree other (get s.tree.names path)
answered_keeps s (Unlink path) None live = removed_keeps s.tree path (get s.tree.names path)
answered_keeps s (Rmdir path) None live = removed_keeps s.tree path (get s.tree.names path)
answered_keeps s (Rename from to) None live = choice_keeps s _ (is_same_node s.tree from to) (moved_keeps s.tree from to)
answered_keeps s (Stat path) None live = nothing_new s.tree
answered_keeps s (ListNames path) None live = nothing_new s.tree
answered_keeps s (Snap name) None live = absurd (true≢false live)
answered_keeps s (Unsnap name) None live = absurd (true≢false live)
answered_keeps s Snaps None live = nothing_new s.tree
answered_keeps s (At name l) None live = nothing_new s.tree
answered_keeps s Osync None live = osync_keeps s s.changed
answered_keeps s Dsync None live = osync_keeps s s.changed
answered_keeps s Durable None live = nothing_new s.tree
answered_keeps s (Dwait n) None live = dwait_keeps s n (nat_le n s.points)
answered_keeps s Poll None live = nothing_new s.tree
answered_keeps s Bad None live = nothing_new s.tree

step_keeps : (s : Session) (cmd : Cmd) → changes_snapshots cmd ≡ false → KeepsSnapshots (step s cmd).0.tree s.tree
step_keeps s cmd live = answered_keeps s cmd (refusal s.limit s.tree cmd) live

pub step_same : (s : Session) (cmd : Cmd) → changes_snapshots cmd ≡ false → (step s cmd).0.tree.snapshots ≡ s.tree.snapshots
step_same s cmd live = (step_keeps s cmd live).same

still_sound : (limit : ℕ) (new old : Tree) → KeepsSnapshots new old → HasSoundSnapshots limit old → HasSoundSnapshots limit new
still_sound limit new old keeps ok = record {
  within = λ name k at. ok.within name k (before name k at);
  apart = λ name k at. keeps.free k.number (numbered old.snapshots name k (before name k at)) (ok.apart name k (before name k at));
  once = λ a b k l at_a at_b e. ok.once a b k l (before a k at_a) (before b l at_b) e;
  sound = λ name k at. ok.sound name k (before name k at);
}
  where
    before : (name : List ℕ) (k : Kept) → get new.snapshots name ≡ Some k → get old.snapshots name ≡ Some k
    before name k at = ap (λ m. get m name) (sym keeps.same) ∙ at

-- One more, and one less.

pub name_total : IsTotalOrder (slice_cmp nat_cmp)
name_total = lists_total nat_cmp_total

pub name_same : IsAntisymmetric (slice_cmp nat_cmp)
name_same = slice_cmp-IsAntisymmetric nat_cmp-IsAntisymmetric

module _ (limit : ℕ) (t : Tree) (ok : IsSound limit t) (has : HasSoundSnapshots limit t) where
  module _ (name : List ℕ) (m : ℕ) (no_node : get t.nodes m ≡ None) (low : 1 ≤ m) (high : m ≤ limit) (unused : is_snapshot t.snapshots m ≡ false) where
    -- what is there by now is the new one, or was there
    which : (other : List ℕ) (k : Kept) → get (insert t.snapshots name (kept_of m t)) other ≡ Some k → ((other ≡ name) × (k ≡ kept_of m t)) ⊎ (get t.snapshots other ≡ Some k)
    which other k at = by (look name_total name_same t.snapshots name (kept_of m t) other)
      where
        by : (other ≡ name) ⊎ (get (insert t.snapshots name (kept_of m t)) other ≡ get t.snapshots other) → ((other ≡ name) × (k ≡ kept_of m t)) ⊎ (get t.snapshots other ≡ Some k)
        by (inl e) = inl (e, same_Some k (kept_of m t) (sym at ∙ put_here name_total t.snapshots name (kept_of m t) other e))
        by (inr e) = inr (sym e ∙ at)

    within_by : (other : List ℕ) (k : Kept) → ((other ≡ name) × (k ≡ kept_of m t)) ⊎ (get t.snapshots other ≡ Some k) → (1 ≤ k.number) × (k.number ≤ limit)
    within_by other k (inl new) = let is : k.number ≡ m = ap (λ x. x.number) new.1 in (omega (arith, is, low), omega (arith, is, high))
    within_by other k (inr old) = has.within other k old

    apart_by : (other : List ℕ) (k : Kept) → ((other ≡ name) × (k ≡ kept_of m t)) ⊎ (get t.snapshots other ≡ Some k) → get t.nodes k.number ≡ None
    apart_by other k (inl new) = ap (λ x. get t.nodes x.number) new.1 ∙ no_node
    apart_by other k (inr old) = has.apart other k old

    no_old : (other : List ℕ) (k l : Kept) → get t.snapshots other ≡ Some k → l ≡ kept_of m t → k.number ≡ l.number → ⊥
    no_old other k l old new e = false≢true (sym unused ∙ ap (is_snapshot t.snapshots) (sym (e ∙ ap (λ x. x.number) new)) ∙ numbered t.snapshots other k old)

    once_by : (a b : List ℕ) (k l : Kept) → k.number ≡ l.number → ((a ≡ name) × (k ≡ kept_of m t)) ⊎ (get t.snapshots a ≡ Some k)
        → ((b ≡ name) × (l ≡ kept_of m t)) ⊎ (get t.snapshots b ≡ Some l) → a ≡ b
    once_by a b k l e (inl new) (inl same) = new.0 ∙ sym same.0
    once_by a b k l e (inl new) (inr old) = absurd (no_old b l k old new.1 (sym e))
    once_by a b k l e (inr old) (inl new) = absurd (no_old a k l old new.1 e)
    once_by a b k l e (inr old) (inr other) = has.once a b k l old other e

    sound_by : (other : List ℕ) (k : Kept) → ((other ≡ name) × (k ≡ kept_of m t)) ⊎ (get t.snapshots other ≡ Some k) → IsSound limit (kept_tree k)
    sound_by other k (inl new) = subst (λ x. IsSound limit (kept_tree x)) (sym new.1) (with_snapshots_sound limit t empty ok)
    sound_by other k (inr old) = has.sound other k old

    with_snapshot : HasSoundSnapshots limit (snapped_by t name (Some m))
    with_snapshot = record {
      within = λ other k at. within_by other k (which other k at);
      apart = λ other k at. apart_by other k (which other k at);
      once = λ a b k l at_a at_b e. once_by a b k l e (which a k at_a) (which b l at_b);
      sound = λ other k at. sound_by other k (which other k at);
    }

  snap_sound : (name : List ℕ) → HasSoundSnapshots limit (snapped limit t name)
  snap_sound name = by (least_unused limit t) refl
    where
      by : (o : Option ℕ) → least_unused limit t ≡ o → HasSoundSnapshots limit (snapped_by t name o)
      by None is = has
      by (Some m) is = let number = unused_is limit m t is in with_snapshot name m number.0 number.1 number.2 number.3

  unsnap_sound : (name : List ℕ) → HasSoundSnapshots limit (unsnapped t name)
  unsnap_sound name = record {
    within = λ other k at. has.within other k (was name_total t.snapshots name other k at);
    apart = λ other k at. has.apart other k (was name_total t.snapshots name other k at);
    once = λ a b k l at_a at_b e. has.once a b k l (was name_total t.snapshots name a k at_a) (was name_total t.snapshots name b l at_b) e;
    sound = λ other k at. has.sound other k (was name_total t.snapshots name other k at);
  }

answered_sound : (s : Session) (cmd : Cmd) (r : Option Refusal) → IsSound s.limit.nodes s.tree → HasSoundSnapshots s.limit.nodes s.tree → HasSoundSnapshots s.limit.nodes (answered s cmd r).0.tree
answered_sound s cmd (Some why) ok has = has
answered_sound s (Snap name) None ok has = snap_sound s.limit.nodes s.tree ok has name
answered_sound s (Unsnap name) None ok has = unsnap_sound s.limit.nodes s.tree ok has name
answered_sound s cmd None ok has = still_sound s.limit.nodes (answered s cmd None).0.tree s.tree (answered_keeps s cmd None refl) has

pub step_sound : (s : Session) (cmd : Cmd) → IsSound s.limit.nodes s.tree → HasSoundSnapshots s.limit.nodes s.tree → HasSoundSnapshots s.limit.nodes (step s cmd).0.tree
step_sound s cmd ok has = answered_sound s cmd (refusal s.limit s.tree cmd) ok has

-- Without snapshots.

none_kept : entries (empty {X = Kept} {R = slice_cmp nat_cmp}) ≡ []
none_kept = nil_from_length (entries (empty {X = Kept} {R = slice_cmp nat_cmp})) (sym (len-entries (empty {X = Kept} {R = slice_cmp nat_cmp})) ∙ len-empty (slice_cmp nat_cmp) Kept)

none_there : (t : Tree) → t.snapshots ≡ empty → (name : List ℕ) (k : Kept) → get t.snapshots name ≡ Some k → ⊥
none_there t none name k at = none-some k (sym (ap (λ m. get m name) none ∙ get-empty (slice_cmp nat_cmp) name) ∙ at)

pub none_sound : (limit : ℕ) (t : Tree) → t.snapshots ≡ empty → HasSoundSnapshots limit t
none_sound limit t none = record {
  within = λ name k at. absurd (none_there t none name k at);
  apart = λ name k at. absurd (none_there t none name k at);
  once = λ a b k l at_a at_b e. absurd (none_there t none a k at_a);
  sound = λ name k at. absurd (none_there t none name k at);
}

no_number : (t : Tree) → t.snapshots ≡ empty → (n : ℕ) → is_snapshot t.snapshots n ≡ false
no_number t none n = ap (list_any (λ e. e.1.number == n)) (ap entries none ∙ none_kept)

same_first : (f g : ℕ → Bool) → ((n : ℕ) → f n ≡ g n) → (ns : List ℕ) → first f ns ≡ first g ns
same_first f g same [] = refl
same_first f g same (n ∷ ns) = grind (arith, same_first f g same ns, same n)

nothing_besides : (a b : Bool) → b ≡ false → (a && not b) ≡ a
nothing_besides a b h1 = grind arith

pub none_unused : (limit : ℕ) (t : Tree) → t.snapshots ≡ empty → least_unused limit t ≡ first (λ n. is_none (get t.nodes n)) (range_with_len 1 limit)
unfolding least_unused
none_unused limit t none =
    same_first _ _ (λ n. nothing_besides (is_none (get t.nodes n)) (is_snapshot t.snapshots n) (no_number t none n)) (range_with_len 1 limit)

pub none_listed : (t : Tree) → t.snapshots ≡ empty → listing t ≡ path_lines t.names t.nodes
none_listed t none =
    ap (λ es. path_lines t.names t.nodes ++ flat_map (λ e. snapshot_lines e.0 e.1) es) (ap entries none ∙ none_kept) ∙ append-nil (path_lines t.names t.nodes)
