-- A snapshot that is asked for or taken away: which reason comes, by what is kept.
use Rattle.std.proofs.Common.{◌≡◌, ℕ, ◌+◌, ◌≤◌, ◌<◌, Bool, true, false, not, ◌&&◌, List, [], Option, Some, None, Bor, is_none, is_some, find as first, option_map, refl, sym, ap, ap₂, ◌∙◌, ◌==◌, ◌∷◌, arith}
use Rattle.std.proofs.lemmas.Bool.{and_parts, true≢false}
use Rattle.std.specs.List.{list_any, range_with_len}
use Rattle.std.specs.FinMap.{get, empty}
use Rattle.lang_tree.specs.declared.command.Reply.{Reply}
use Rattle.lang_tree.specs.declared.command.Reply.TheVariants.{Refused}
use Rattle.lang_tree.specs.declared.command.Refusal.TheVariants.{Exists, NoNode, NoSnap}
use Rattle.lang_tree.specs.Conditions.{when, first_reason}
use Rattle.fs_inodes.specs.Refusals.{snap_reason}
use Rattle.fs_memtree.specs.declared.state.State.{State}
use Rattle.fs_memtree.specs.declared.snapshots.Snapshot.{Snapshot}
use Rattle.fs_memtree.specs.Kept.{KeptNodes, name_cmp}
use Rattle.fs_memtree.specs.Snapshots.{KeptSnapshots, kept_by, snapshots_of, has_number, least_number}
use Rattle.fs_memtree.specs.Serving.{served_by}
use Rattle.fs_memtree.proofs.keys.InOrder.{entries_empty}
use Rattle.fs_memtree.proofs.rows.Row.{first_none, first_some, found_free}
use Rattle.fs_memtree.proofs.serving.Snapshots.{under_shown}

some_shown : (o : Option Snapshot) → is_some (option_map kept_by o) ≡ is_some o
some_shown None = refl
some_shown (Some x) = refl

none_shown : (o : Option Snapshot) → is_none (option_map kept_by o) ≡ is_none o
none_shown None = refl
none_shown (Some x) = refl

module _ (s : State) (name : List ℕ) (done : State × Reply) where
  there : is_some (get (snapshots_of s.kept) name) ≡ is_some (get s.kept name)
  there = ap is_some (under_shown s.kept name) ∙ some_shown (get s.kept name)

  absent : is_none (get (snapshots_of s.kept) name) ≡ is_none (get s.kept name)
  absent = ap is_none (under_shown s.kept name) ∙ none_shown (get s.kept name)

  -- the name is there
  pub snap_there : (least : Option ℕ) → is_some (get s.kept name) ≡ true → served_by s (snap_reason least (snapshots_of s.kept) name) done ≡ (s, Refused Exists)
  snap_there least is = ap (λ b. served_by s (first_reason (when b Exists ∷ when (is_none least) NoNode ∷ [])) done) (there ∙ is)

  -- no number is unused
  pub snap_full : (least : Option ℕ) → is_some (get s.kept name) ≡ false → least ≡ None → served_by s (snap_reason least (snapshots_of s.kept) name) done ≡ (s, Refused NoNode)
  snap_full least is none = ap₂ (λ b l. served_by s (first_reason (when b Exists ∷ when (is_none l) NoNode ∷ [])) done) (there ∙ is) none

  -- a snapshot is made
  pub snap_made : (least : Option ℕ) (n : ℕ) → is_some (get s.kept name) ≡ false → least ≡ Some n → served_by s (snap_reason least (snapshots_of s.kept) name) done ≡ done
  snap_made least n is some = ap₂ (λ b l. served_by s (first_reason (when b Exists ∷ when (is_none l) NoNode ∷ [])) done) (there ∙ is) some

  -- none of this name is there to be taken away
  pub unsnap_none : is_none (get s.kept name) ≡ true → served_by s (when (is_none (get (snapshots_of s.kept) name)) NoSnap) done ≡ (s, Refused NoSnap)
  unsnap_none is = ap (λ b. served_by s (when b NoSnap) done) (absent ∙ is)

  pub unsnap_gone : is_none (get s.kept name) ≡ false → served_by s (when (is_none (get (snapshots_of s.kept) name)) NoSnap) done ≡ done
  unsnap_gone is = ap (λ b. served_by s (when b NoSnap) done) (absent ∙ is)

-- The least unused number.

-- where there is no snapshot it is that of the nodes alone
pub least_alone : (limit : ℕ) (nodes : KeptNodes) (kept : KeptSnapshots) → kept ≡ empty → first (λ n. is_none (get nodes n)) (range_with_len 1 limit) ≡ least_number limit nodes kept
least_alone limit nodes kept none = ap (λ test. first test (range_with_len 1 limit)) (λ i n. tested n i)
  where
    and_true : (b : Bool) → b ≡ (b && true)
    and_true true = refl
    and_true false = refl

    no_number : (n : ℕ) → has_number kept n ≡ false
    no_number n = ap (λ k. has_number k n) none ∙ ap (list_any (λ e. e.1.number == n)) (entries_empty name_cmp)

    tested : (n : ℕ) → is_none (get nodes n) ≡ (is_none (get nodes n) && not (has_number kept n))
    tested n = and_true (is_none (get nodes n)) ∙ ap (λ b. is_none (get nodes n) && not b) (sym (no_number n))

-- where each number before one is used, that one is it
pub least_found : (limit used : ℕ) (nodes : KeptNodes) (kept : KeptSnapshots) → used < limit
    → ((k : ℕ) → 1 ≤ k → k < used + 1 → (is_none (get nodes k) && not (has_number kept k)) ≡ false)
    → (is_none (get nodes (used + 1)) && not (has_number kept (used + 1))) ≡ true → Some (used + 1) ≡ least_number limit nodes kept
least_found limit used nodes kept below before here = sym (first_some (λ n. is_none (get nodes n) && not (has_number kept n)) 1 limit (used + 1) (omega arith) (omega (arith, below)) before here)

-- where all are used, there is none
pub least_none : (limit used : ℕ) (nodes : KeptNodes) (kept : KeptSnapshots) → limit ≤ used
    → ((k : ℕ) → 1 ≤ k → k < used + 1 → (is_none (get nodes k) && not (has_number kept k)) ≡ false) → None ≡ least_number limit nodes kept
least_none limit used nodes kept all before = sym (first_none (λ n. is_none (get nodes n) && not (has_number kept n)) 1 limit (λ k low high. before k low (omega (arith, all, high))))

-- what is lent is there where it is
pub none_now : (o : Option (Bor Snapshot)) → is_none (option_map (λ x. x.now) o) ≡ is_none o
none_now None = refl
none_now (Some x) = refl

pub some_now : (o : Option (Bor Snapshot)) → is_some (option_map (λ x. x.now) o) ≡ is_some o
some_now None = refl
some_now (Some x) = refl

-- no node has it, and it is at least 1
pub least_is_free : (limit n : ℕ) (nodes : KeptNodes) (kept : KeptSnapshots) → least_number limit nodes kept ≡ Some n → (get nodes n ≡ None) × (1 ≤ n)
least_is_free limit n nodes kept is =
    let found = found_free (λ n. is_none (get nodes n) && not (has_number kept n)) limit n is in
    (is_none_of (get nodes n) (and_parts (is_none (get nodes n)) (not (has_number kept n)) found.0).0, found.1)
  where
    is_none_of : {A : Type 0} (o : Option A) → is_none o ≡ true → o ≡ None
    is_none_of None e = refl
    is_none_of (Some x) e = absurd (true≢false (sym e))
