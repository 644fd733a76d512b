-- The blocks of a sound tree after a change: with a path more or less, with other bytes in a file, and after a move.
use Rattle.std.proofs.Common.{◌≡◌, ℕ, ◌+◌, ◌==◌, max, Bool, true, false, if◌then◌else◌, List, [], ◌∷◌, ◌++◌, length, Option, Some, None, is_none, is_some, refl, sym, ap, ap₂, ◌∙◌, ◌⊎◌, inl, inr, arith, length-append, length-take, length-drop, true≢false}
use Rattle.std.proofs.lemmas.List.{length-replicate}
use Rattle.std.specs.Cmp.{nat_cmp_total}
use Rattle.std.specs.FinMap.{nat_cmp-IsAntisymmetric, get, insert, remove, entries}
use Rattle.std.proofs.lemmas.Option.{none-some}
use Rattle.base_types.specs.declared.layout.Layout.{Layout}
use Rattle.lang_tree.specs.Tree.{Tree, Thing, Dir, File, IsSound}
use Rattle.lang_tree.specs.Paths.{name_in, is_within, parent}
use Rattle.lang_tree.specs.Names.{renamed}
use Rattle.lang_tree.specs.Walk.{walk_refusal, parent_refusal, thing_at, is_dir, is_file, is_same_node, links, counted, content, bytes_in}
use Rattle.lang_tree.specs.Conditions.{least_unused, make_refusal, link_refusal, rmdir_refusal, rename_refusal}
use Rattle.lang_tree.specs.Step.{with_node, added, with_bytes, edited_at, edited, written, resized, linked_by, linked, with_used, removed, removed_by, moved}
use Rattle.lang_tree.specs.Figures.{moving, growth, release, siblings, content_blocks, file_blocks, blocks, blocks_gone, blocks_for, are_in_one, move_figures}
use Rattle.lang_tree.proofs.basics.Strips.{lacks, has, from_end, parent_append}
use Rattle.lang_tree.proofs.counting.PathCounts.{was_last}
use Rattle.lang_tree.proofs.walking.Found.{make_reasons, link_reasons, no_reason, not_so, thing_is, walked_there, parent_is, nothing_below_absent, CanMove, target_apart}
use Rattle.lang_tree.proofs.soundness.SoundChanges.{unused_is}
use Rattle.lang_tree.proofs.soundness.Sound.{CanGo, file_there, can_rmdir}
use Rattle.lang_tree.proofs.counting.Totals.{total_replaced}
use Rattle.lang_tree.proofs.blocks.BlockSums.{in_parent, in_parent_alone, held, holds_none, files_total, file_added, file_gone, dirs, dirs_grown, dirs_freed}
use Rattle.lang_tree.proofs.blocks.BlockMoves.{dirs_within, dirs_across, dirs_onto}

abbrev Place : Type 0
Place = List (List ℕ)

pub length_written : (off : ℕ) (ys xs : List ℕ) → length (written off ys xs) ≡ max (length xs) (off + length ys)
length_written off ys xs = grind (arith, length-append, length-take, length-replicate, length-drop)

pub length_resized : (size : ℕ) (xs : List ℕ) → length (resized size xs) ≡ size
length_resized size xs = grind (arith, length-take, length-append, length-replicate)

content_is : (t : Tree) (path : Place) (n : ℕ) (x : Thing) → get t.names path ≡ Some n → get t.nodes n ≡ Some x → content_blocks x ≡ blocks_for (length (content t path))
content_is t path n x at is = grind (arith, thing_is)

module _ (l : Layout) (limit : ℕ) (t : Tree) (s : IsSound limit t) where
  empty_where_absent : (path : Place) → get t.names path ≡ None → held t.names path ≡ 0
  empty_where_absent path none = holds_none t.names path (nothing_below_absent limit t s path none)

  not_root : (path : Place) → get t.names path ≡ None → path ≡ [] → ⊥
  not_root path none root = none-some 1 (sym (ap (get t.names) (sym root) ∙ none) ∙ s.root)

  above : (path : Place) (n : ℕ) → get t.names path ≡ Some n → (path ≡ [] → ⊥) → (k : ℕ) × (get t.names (parent path) ≡ Some k) × (get t.nodes k ≡ Some Dir)
  above path n at below_root = by (from_end path)
    where
      by : (path ≡ []) ⊎ ((up : Place) × (name : List ℕ) × (path ≡ up ++ name ∷ [])) → (k : ℕ) × (get t.names (parent path) ≡ Some k) × (get t.nodes k ≡ Some Dir)
      by (inl root) = absurd (below_root root)
      by (inr end) =
          let k = s.parents end.0 end.1 n (ap (get t.names) (sym end.2) ∙ at) in
          (k.0, ap (get t.names) (ap parent end.2 ∙ parent_append end.0 end.1) ∙ k.1, k.2)

  -- A path more.

  pub added_blocks : (path : Place) (x : Thing) → content_blocks x ≡ 0 → make_refusal (record { nodes = limit; layout = l }) t path ≡ None → blocks l (added limit t path x) ≡ blocks l t + growth l (siblings t.names path)
  added_blocks path x none e =
      let r = make_reasons (record { nodes = limit; layout = l }) t path e in
      let free : get t.names path ≡ None = lacks (get t.names path) r.1 in
      by (least_unused limit t) refl r.0 free r.2
    where
      by : (o : Option ℕ) → least_unused limit t ≡ o → parent_refusal t path ≡ None → get t.names path ≡ None → is_none o ≡ false
          → blocks l (with_node t path x o) ≡ blocks l t + growth l (siblings t.names path)
      by None is up free some = absurd cc
      by (Some m) is up free some =
          let root = not_root path free in
          let k = parent_is t path s.root root up in
          let names = dirs_grown l t.names path m k.0 free (empty_where_absent path free) root k.1 in
          let nodes = file_added t.nodes m x (unused_is limit m t is).0 in
          omega (arith, names, nodes, none)

  pub linked_blocks : (path other : Place) → link_refusal l t path other ≡ None → blocks l (linked t path other) ≡ blocks l t + growth l (siblings t.names other)
  linked_blocks path other e =
      let r = link_reasons l t path other e in
      let free : get t.names other ≡ None = lacks (get t.names other) r.2 in
      let root = not_root other free in
      let k = parent_is t other s.root root r.1 in
      let n = walked_there t path s.root r.0 in
      let names = dirs_grown l t.names other n.0 k.0 free (empty_where_absent other free) root k.1 in
      ap (λ o. blocks l (linked_by t other o)) n.1 ∙ ap (λ d. file_blocks (entries t.nodes) + d) names ∙ regroup (file_blocks (entries t.nodes)) (dirs l t.names) (growth l (siblings t.names other))
    where
      regroup : (a b c : ℕ) → a + (b + c) ≡ a + b + c
      regroup a b c = omega arith

  -- Other bytes.

  pub edited_blocks : (path : Place) (change : List ℕ → List ℕ) → walk_refusal t path ≡ None → is_dir (thing_at t path) ≡ false
      → blocks l (edited t path change) + blocks_for (length (content t path)) ≡ blocks l t + blocks_for (length (change (content t path)))
  edited_blocks path change walk file =
      let n = walked_there t path s.root walk in
      let f = file_there limit t s path n.0 n.1 file in
      let bytes = ap bytes_in (thing_is t path n.0 (File f.0) n.1 f.1) in
      let nodes = total_replaced nat_cmp_total nat_cmp-IsAntisymmetric (λ e. content_blocks e.1) t.nodes n.0 (File f.0) (File (change f.0)) f.1 in
      let now = ap (λ o. blocks l (edited_at t change o)) n.1 ∙ ap (λ x. blocks l (record t { nodes = with_bytes t.nodes n.0 change x })) f.1 in
      ap₂ (λ b xs. b + blocks_for (length xs)) now bytes
      ∙ swap _ _ _ _ _ (files_total (entries (insert t.nodes n.0 (File (change f.0))))) (files_total (entries t.nodes)) nodes
      ∙ ap (λ xs. blocks l t + blocks_for (length (change xs))) (sym bytes)
    where
      swap : (after before dirs old new : ℕ) {a b : ℕ} → after ≡ a → before ≡ b → a + old ≡ b + new → after + dirs + old ≡ before + dirs + new
      swap after before dirs old new p q r = omega (arith, p, q, r)

  -- A path less.

  used_blocks : (path : Place) (n : ℕ) → get t.names path ≡ Some n
      → file_blocks (entries (with_used t (remove t.names path) n).nodes) + blocks_gone t path ≡ file_blocks (entries t.nodes)
  used_blocks path n at =
      let x = s.named path n at in
      let last = was_last t.names path n at ∙ ap (λ o. counted t o == 1) (sym at) in
      let size = content_is t path n x.0 at x.1 in
      ap (λ b. file_blocks (entries (if b then remove t.nodes n else t.nodes)) + blocks_gone t path) last
      ∙ by (links t path == 1) x.0 size (file_gone t.nodes n x.0 x.1)
    where
      by : (b : Bool) (x : Thing) → content_blocks x ≡ blocks_for (length (content t path)) → file_blocks (entries t.nodes) ≡ content_blocks x + file_blocks (entries (remove t.nodes n))
          → file_blocks (entries (if b then remove t.nodes n else t.nodes)) + (if b then blocks_for (length (content t path)) else 0) ≡ file_blocks (entries t.nodes)
      by true x size gone = omega (arith, size, gone)
      by false x size gone = omega arith

  both : (files dirs gone released all_files all_dirs : ℕ) → files + gone ≡ all_files → dirs + released ≡ all_dirs → files + dirs + (released + gone) ≡ all_files + all_dirs
  both files dirs gone released all_files all_dirs p q = omega (arith, p, q)

  pub gone_blocks : (path : Place) → CanGo t path → blocks l (removed t path) + (release l (siblings t.names path) + blocks_gone t path) ≡ blocks l t
  gone_blocks path can =
      let k = above path can.number can.at can.below_root in
      ap (λ o. blocks l (removed_by t path o) + (release l (siblings t.names path) + blocks_gone t path)) can.at
      ∙ both _ _ _ _ _ _ (used_blocks path can.number can.at) (dirs_freed t.names path can.number k.0 can.at can.free can.below_root k.1 l)

  -- an empty directory has no blocks of its own
  pub rmdir_blocks : (path : Place) → rmdir_refusal t path ≡ None → blocks l (removed t path) + release l (siblings t.names path) ≡ blocks l t
  rmdir_blocks path e =
      let can = can_rmdir limit t s path e in
      let gone = gone_blocks path can in
      let none = nothing_gone (links t path == 1) (ap length (no_bytes (thing_at t path) (no_file e))) in
      omega (arith, gone, none)
    where
      no_file : rmdir_refusal t path ≡ None → is_file (thing_at t path) ≡ false
      no_file e = grind (arith, t.names, no_reason, not_so)

      no_bytes : (o : Option Thing) → is_file o ≡ false → bytes_in o ≡ []
      no_bytes o h1 = grind arith

      nothing_gone : (b : Bool) → length (content t path) ≡ 0 → (if b then blocks_for (length (content t path)) else 0) ≡ 0
      nothing_gone b h1 = grind arith

  -- Moves.

  pub moved_blocks : (bitmap : ℕ) (from to : Place) → rename_refusal l t from to ≡ None → is_same_node t from to ≡ false
      → blocks l (moved (removed t to) from to) + (move_figures bitmap l t from to).freed ≡ blocks l t + (move_figures bitmap l t from to).need
  moved_blocks bitmap from to e other = by (get t.names to) refl
    where
      can : CanMove t from to
      can = target_apart limit t s from to l e other

      here : (n : ℕ) × (get t.names from ≡ Some n)
      here = has (get t.names from) can.there

      from_root : from ≡ [] → ⊥
      from_root root = true≢false (ap (λ p. is_within p to) (sym root) ∙ can.apart)

      up : (k : ℕ) × (get t.names (parent from) ≡ Some k) × (get t.nodes k ≡ Some Dir)
      up = above from here.0 here.1 from_root

      onto : (m : ℕ) → get t.names to ≡ Some m → dirs l (renamed (remove t.names to) from to) + release l (siblings t.names from) ≡ dirs l t.names
      onto m at = dirs_onto l t.names from to can.free can.apart here.0 m up.0 can.dir here.1 at from_root can.below_root up.1 can.dir_at

      by_place : (b : Bool) → are_in_one from to ≡ b → get t.names to ≡ None
          → blocks l (moved t from to) + (if b then moving bitmap 0 0 else moving bitmap (growth l (siblings t.names to)) (release l (siblings t.names from))).freed
          ≡ blocks l t + (if b then moving bitmap 0 0 else moving bitmap (growth l (siblings t.names to)) (release l (siblings t.names from))).need
      by_place true is none =
          let names = dirs_within l t.names from to none can.free can.apart here.0 up.0 can.dir here.1 from_root can.below_root up.1 can.dir_at (in_parent_alone (parent from) to is) in
          omega (arith, names)
      by_place false is none =
          let two = λ (one : parent from ≡ parent to). true≢false (sym (ap (λ p. is_some (name_in p to)) one ∙ in_parent to can.below_root) ∙ is) in
          let names = dirs_across l t.names from to none can.free can.apart here.0 up.0 can.dir here.1 from_root can.below_root up.1 can.dir_at two in
          omega (arith, names)

      by : (o : Option ℕ) → get t.names to ≡ o
          → blocks l (moved (removed_by t to o) from to) + (if is_some o then moving bitmap 0 (release l (siblings t.names from) + blocks_gone t to) else if are_in_one from to then moving bitmap 0 0 else moving bitmap (growth l (siblings t.names to)) (release l (siblings t.names from))).freed
          ≡ blocks l t + (if is_some o then moving bitmap 0 (release l (siblings t.names from) + blocks_gone t to) else if are_in_one from to then moving bitmap 0 0 else moving bitmap (growth l (siblings t.names to)) (release l (siblings t.names from))).need
      by None none = by_place (are_in_one from to) refl none
      by (Some m) at = let names = onto m at in let files = used_blocks to m at in omega (arith, names, files)
