-- What counts of how many snapshots keep each block tell of the lists of snapshots: which blocks are shared, and which one snapshot alone has.
use Rattle.std.proofs.Common.{⊎_elim, ◌≡◌, ◌≢◌, ◌⊎◌, inl, inr, ℕ, zero, suc, ◌+◌, ◌<◌, ◌≤◌, ◌==◌, ◌&&◌, ◌||◌, not, Bool, true, false, bytes_eq, cond, List, [], ◌∷◌, length, filter, Option, Some, None, refl, sym, ap, ap₂, ◌∙◌, arith}
use Rattle.std.specs.List.{list_any, range_with_len}
use Rattle.std.specs.FinMap.{entries, get, get-entries, keys}
use Rattle.std.specs.Cmp.{both_ways}
use Rattle.std.proofs.lemmas.Bool.{and_parts, cases_Bool, eq-eqb, eqb-true, false≢true, true≢false, or_cases, or_left, or_right}
use Rattle.std.proofs.lemmas.Option.{same_Some}
use Rattle.std.proofs.lemmas.Slice.Eq.{bytes_eq-Decides}
use Rattle.base_types.specs.Seal.{Blocks}
use Rattle.base_types.specs.Runs.{run_places}
use Rattle.layout_geometry.specs.Geometry.{Geometry}
use Rattle.layout_bytes.specs.declared.node.Node.{Node}
use Rattle.layout_bytes.specs.declared.node.NodeKind.{NodeKind}
use Rattle.layout_bytes.specs.declared.node.NodeKind.TheVariants.{Free, Dir, File, Snapshot}
use Rattle.lang_tree.specs.Tree.{HasSoundSnapshots, Kept, Tree}
use Rattle.engine_blocks.specs.Running.{has}
use Rattle.crash_stands.specs.Files.{used_node}
use Rattle.crash_stands.specs.Sharing.{IsKeptBlock}
use Rattle.crash_stands.specs.Stands.{IsTreeOf}
use Rattle.fs_files.specs.Calls.{places_of, places_or_none}
use Rattle.fs_files.specs.Places.{has_place, place_of}
use Rattle.fs_files.specs.Shared.{is_kept, is_kept_at, keepers}
use Rattle.fs_files.specs.Sound.{TellsKept}
use Rattle.fs_snapshots.specs.Among.{among_nodes, is_among, node_among, used_number}
use Rattle.fs_snapshots.specs.Known.{CountsKeepers, blocks_by_kind, file_blocks, keeps_block, node_blocks}
use Rattle.fs_session.specs.Lists.{alone_in, is_kept_block, kept_at, others}
use Rattle.fs_session.specs.Snapshots.{alone_among, kept_files_of, kept_lists, live_files}
use Rattle.fs_session.proofs.standing.Nodes.{place_block}
use Rattle.fs_session.proofs.rooms.KeptBlocks.{SnapshotLaws, among_keys, has_none, its_blocks, its_keeps, kept_listed, kept_named, listed_kept}

-- Tests and lists.

same_kept : (p q : ℕ → Bool) (xs : List ℕ) → ((b : ℕ) → has xs b ≡ true → p b ≡ q b) → filter p xs ≡ filter q xs
same_kept p q [] same = refl
same_kept p q (x ∷ xs) same =
    ap₂ (λ t (l : List ℕ). cond t (x ∷ l) l) (same x (or_left (x == x) (has xs x) (eq-eqb x x refl))) (same_kept p q xs (λ b is. same b (or_right (b == x) (has xs b) is)))

-- a list of one number has no other
one_only : (xs : List ℕ) (x y : ℕ) → length xs ≡ 1 → has xs x ≡ true → has xs y ≡ true → x ≡ y
one_only [] x y long at_x at_y = absurd (false≢true at_x)
one_only (z ∷ []) x y long at_x at_y = is x (or_cases (x == z) false at_x) ∙ sym (is y (or_cases (y == z) false at_y))
  where
    is : (w : ℕ) → ((w == z) ≡ true) ⊎ (false ≡ true) → w ≡ z
    is w (inl same) = eqb-true w z same
    is w (inr never) = absurd (false≢true never)
one_only (z ∷ w ∷ xs) x y long at_x at_y = absurd (omega (arith, long))

-- of a range in which one number alone passes, one passes
none_past : (p : ℕ → Bool) (x a n : ℕ) → x < a → ((y : ℕ) → p y ≡ true → y ≡ x) → length (filter p (range_with_len a n)) ≡ 0
none_past p x a zero past alone = refl
none_past p x a (suc n) past alone = by (cases_Bool (p a)) (none_past p x (a + 1) n (omega (arith, past)) alone)
  where
    rest : List ℕ
    rest = filter p (range_with_len (a + 1) n)

    by : (p a ≡ true) ⊎ (p a ≡ false) → length rest ≡ 0 → length (cond (p a) (a ∷ rest) rest) ≡ 0
    by (inl passes) none = absurd (omega (arith, past, alone a passes))
    by (inr fails) none = ap (λ t. length (cond t (a ∷ rest) rest)) fails ∙ none

one_passes : (p : ℕ → Bool) (x a n : ℕ) → a ≤ x → x < a + n → p x ≡ true → ((y : ℕ) → p y ≡ true → y ≡ x) → length (filter p (range_with_len a n)) ≡ 1
one_passes p x a zero from below is alone = absurd (omega (arith, from, below))
one_passes p x a (suc n) from below is alone = by (cases_Bool (p a)) (λ past. one_passes p x (a + 1) n past (omega (arith, below)) is alone)
  where
    rest : List ℕ
    rest = filter p (range_with_len (a + 1) n)

    by : (p a ≡ true) ⊎ (p a ≡ false) → (a + 1 ≤ x → length rest ≡ 1) → length (cond (p a) (a ∷ rest) rest) ≡ 1
    by (inl passes) further = ap (λ t. length (cond t (a ∷ rest) rest)) passes ∙ ap suc (none_past p x (a + 1) n (omega (arith, alone a passes)) alone)
    by (inr fails) further =
        let other : a ≢ x = λ same. false≢true (sym fails ∙ ap p same ∙ is) in
        ap (λ t. length (cond t (a ∷ rest) rest)) fails ∙ further (omega (arith, from, other))

-- a test that one of the other names passes
any_other : (test : List ℕ → Bool) (name : List ℕ) (names : List (List ℕ)) → list_any test (others name names) ≡ true → (other : List ℕ) × (other ≢ name) × (test other ≡ true)
any_other test name [] is = absurd (false≢true is)
any_other test name (x ∷ names) is = by (bytes_eq x name) refl (any_other test name names) is
  where
    rest : List (List ℕ)
    rest = others name names

    by : (t : Bool) → bytes_eq x name ≡ t → (list_any test rest ≡ true → (other : List ℕ) × (other ≢ name) × (test other ≡ true)) → list_any test (cond (not t) (x ∷ rest) rest) ≡ true
        → (other : List ℕ) × (other ≢ name) × (test other ≡ true)
    by true same further is = further is
    by false apart further is = ⊎_elim (λ here. (x, λ e. false≢true (sym apart ∙ (bytes_eq-Decides x name).1 e), here)) further (or_cases (test x) (list_any test rest) is)

-- and what passes among the others passes
among_others : (test : List ℕ → Bool) (name : List ℕ) (names : List (List ℕ)) → list_any (λ other. test other && not (bytes_eq other name)) names ≡ true → list_any test (others name names) ≡ true
among_others test name [] is = is
among_others test name (x ∷ names) is = by (bytes_eq x name) (among_others test name names) (or_cases (test x && not (bytes_eq x name)) _ is)
  where
    rest : List (List ℕ)
    rest = others name names

    by : (t : Bool) → (list_any (λ other. test other && not (bytes_eq other name)) names ≡ true → list_any test rest ≡ true) → ((test x && not t) ≡ true) ⊎ (list_any (λ other. test other && not (bytes_eq other name)) names ≡ true) → list_any test (cond (not t) (x ∷ rest) rest) ≡ true
    by true further (inl here) = absurd (false≢true (and_parts (test x) false here).1)
    by true further (inr later) = further later
    by false further (inl here) = or_left (test x) (list_any test rest) (and_parts (test x) true here).0
    by false further (inr later) = or_right (test x) (list_any test rest) (further later)

-- in no list but this one's
in_neither : (nodes kept one : Bool) → not kept ≡ one → not (nodes || kept) ≡ (one && not nodes)
in_neither true true one is = cases one (sym is)
  where
    cases : (t : Bool) → t ≡ false → false ≡ (t && false)
    cases true e = refl
    cases false e = refl
in_neither true false one is = cases one
  where
    cases : (t : Bool) → false ≡ (t && false)
    cases true = refl
    cases false = refl
in_neither false true one is = is ∙ same one
  where
    same : (t : Bool) → t ≡ (t && true)
    same true = refl
    same false = refl
in_neither false false one is = is ∙ same one
  where
    same : (t : Bool) → t ≡ (t && true)
    same true = refl
    same false = refl

-- a block of a file is one of its node
file_places : (o : Option Node) (b : ℕ) → has (file_blocks o) b ≡ true → has (places_or_none o) b ≡ true
file_places None b is = is
file_places (Some node) b is = by node.kind is
  where
    by : (kind : NodeKind) → has (blocks_by_kind kind (run_places node.runs)) b ≡ true → has (run_places node.runs) b ≡ true
    by Free is = absurd (false≢true is)
    by Dir is = absurd (false≢true is)
    by File is = is
    by Snapshot is = absurd (false≢true is)

module _ (laws : SnapshotLaws) (g : Geometry) (m : Blocks) (t : Tree) (stands : IsTreeOf g m t) where
  -- where blocks are listed and where they are kept
  pub is_shared : (counts : List ℕ) → TellsKept g (is_kept counts) m → (at : Option ℕ) → kept_at g.i (kept_lists g m) (keys t.snapshots) at ≡ is_kept_at counts at
  is_shared counts tells None = refl
  is_shared counts tells (Some b) = both_ways (is_kept_block g.i (kept_lists g m) (keys t.snapshots) b) (is_kept counts b)
      (λ is. (tells b).1 (listed_kept laws g m t stands (keys t.snapshots) b is))
      (λ is. kept_listed laws g m t stands b ((tells b).0 is))

  -- a node that has a kept block is a file
  in_live : (b : ℕ) → IsKeptBlock g m b → has (node_blocks (places_of g m) g.i) b ≡ has (live_files g m) b
  in_live b kept = both_ways (has (node_blocks (places_of g m) g.i) b) (has (live_files g m) b)
      (λ is. let r = node_among (places_of g m) g.i b is in there r.0 r.1)
      (λ is. let r = node_among (λ k. file_blocks (used_node g m k)) g.i b is in back r.0 r.1)
    where
      there : (k : ℕ) → has (places_of g m k) b ≡ true → has (live_files g m) b ≡ true
      there k is =
          let p = place_of (places_of g m k) b is in
          let owner = place_block g m k p.0 b p.1 in
          let number = used_number g m k owner.node owner.is_node in
          let file = stands.sound.shared k p.0 b owner kept in
          among_nodes (λ k. file_blocks (used_node g m k)) g.i k b number.0 number.1
          (ap (λ o. has (file_blocks o) b) owner.is_node
          ∙ ap (λ kind. has (blocks_by_kind kind (run_places owner.node.runs)) b) file
          ∙ has_place (run_places owner.node.runs) p.0 b owner.place)

      back : (k : ℕ) → has (file_blocks (used_node g m k)) b ≡ true → has (node_blocks (places_of g m) g.i) b ≡ true
      back k is =
          let here = file_places (used_node g m k) b is in
          let p = place_of (places_of g m k) b here in
          let owner = place_block g m k p.0 b p.1 in
          let number = used_number g m k owner.node owner.is_node in
          among_nodes (places_of g m) g.i k b number.0 number.1 here

  module _ (sound : HasSoundSnapshots g.i t) (counts : List ℕ) (known : CountsKeepers g m counts) (name : List ℕ) (k : Kept) (at : get t.snapshots name ≡ Some k) where
    -- a block that this snapshot keeps is kept by it alone where one keeps it
    module _ (b : ℕ) (keeps : keeps_block g m b k.number ≡ true) where
      number_in : (l : ℕ) → keeps_block g m b l ≡ true → (1 ≤ l) × (l < 1 + g.i)
      number_in l is =
          let x = (laws.each g m b l).0 is in
          let number = used_number g m x.0.snapshot x.0.node x.0.is_node in
          (omega (arith, number.0, x.1), omega (arith, number.1, x.1))

      abbrev listed_others : Bool
      listed_others = is_kept_block g.i (kept_lists g m) (others name (keys t.snapshots)) b

      -- by its own name, or by another
      other_name : (l : ℕ) → keeps_block g m b l ≡ true → listed_others ≡ false → l ≡ k.number
      other_name l is none =
          let x = (laws.each g m b l).0 is in
          let its = kept_named laws g m t stands b x.0 in
          by its.0 its.1 its.2 (its.3 ∙ x.1) its.4 (bytes_eq its.0 name) refl
        where
          by : (other : List ℕ) (o : Kept) → get t.snapshots other ≡ Some o → o.number ≡ l → has (node_blocks (kept_lists g m other) g.i) b ≡ true → (same : Bool) → bytes_eq other name ≡ same → l ≡ k.number
          by other o there number listed true same =
              sym number ∙ ap (λ (x : Kept). x.number) (same_Some o k (sym there ∙ ap (get t.snapshots) ((bytes_eq-Decides other name).0 same) ∙ at))
          by other o there number listed false apart =
              let test : List ℕ → Bool = λ n. has (node_blocks (kept_lists g m n) g.i) b in
              absurd (false≢true (sym none ∙ among_others test name (keys t.snapshots)
              (among_keys (λ n. test n && not (bytes_eq n name)) other o (entries t.snapshots) (ap₂ (λ x y. x && not y) listed apart) (sym (get-entries t.snapshots other) ∙ there))))

      count_one : listed_others ≡ false → (keepers counts b == 1) ≡ true
      count_one none =
          let number = number_in k.number keeps in
          eq-eqb (keepers counts b) 1 (known.each b ∙ one_passes (keeps_block g m b) k.number 1 g.i number.0 number.1 keeps (λ l is. other_name l is none))

      one_named : (keepers counts b == 1) ≡ true → listed_others ≡ true → ⊥
      one_named one listed =
          let other = any_other (λ n. has (node_blocks (kept_lists g m n) g.i) b) name (keys t.snapshots) listed in
          by other.0 other.1 other.2 (get t.snapshots other.0) refl
        where
          by : (other : List ℕ) → other ≢ name → has (node_blocks (kept_lists g m other) g.i) b ≡ true → (o : Option Kept) → get t.snapshots other ≡ o → ⊥
          by other apart is None there = true≢false (sym is ∙ has_none laws g m t stands other there b)
          by other apart is (Some o) there =
              let also = sym (its_keeps laws g m t stands other o there b) ∙ is in
              let first = number_in k.number keeps in
              let second = number_in o.number also in
              apart (sound.once other name o k there at (one_only (filter (keeps_block g m b) (range_with_len 1 g.i)) o.number k.number (sym (known.each b) ∙ eqb-true (keepers counts b) 1 one)
              (is_among (keeps_block g m b) 1 g.i o.number second.0 second.1 also)
              (is_among (keeps_block g m b) 1 g.i k.number first.0 first.1 keeps)))

      alone_is : not listed_others ≡ (keepers counts b == 1)
      alone_is = both_ways (not listed_others) (keepers counts b == 1)
          (λ is. count_one (not_true listed_others is))
          (λ one. ⊎_elim (λ listed. absurd (one_named one listed)) (ap not) (cases_Bool listed_others))
        where
          not_true : (x : Bool) → not x ≡ true → x ≡ false
          not_true true e = absurd (false≢true e)
          not_true false e = refl

    pub are_alone : alone_in g.i (places_of g m) (kept_lists g m) (keys t.snapshots) name ≡ length (alone_among counts (live_files g m) (kept_files_of g m k.number))
    are_alone =
        ap (λ (xs : List ℕ). length xs)
        (same_kept (λ b. not (has (node_blocks (places_of g m) g.i) b || is_kept_block g.i (kept_lists g m) (others name (keys t.snapshots)) b)) (λ b. (keepers counts b == 1) && not (has (live_files g m) b)) (node_blocks (kept_lists g m name) g.i)
        (λ b is.
        let keeps = sym (its_keeps laws g m t stands name k at b) ∙ is in
        ap (λ x. not (x || is_kept_block g.i (kept_lists g m) (others name (keys t.snapshots)) b)) (in_live b ((laws.each g m b k.number).0 keeps).0)
        ∙ in_neither (has (live_files g m) b) (is_kept_block g.i (kept_lists g m) (others name (keys t.snapshots)) b) (keepers counts b == 1) (alone_is b keeps)))
        ∙ ap (λ xs. length (alone_among counts (live_files g m) xs)) (its_blocks laws g m t stands name k at)
