-- What is known where a snapshot went, and where it stayed.
use Rattle.std.proofs.Common.{◌≡◌, ◌≢◌, ◌⊎◌, inl, inr, ℕ, zero, suc, ◌+◌, ◌<◌, ◌≤◌, Bool, true, false, cond, IsTrue, ◌==◌, ◌&&◌, not, List, [], ◌∷◌, length, get_or, All, Option, None, Some, option_map, sym, ap, subst, ◌∙◌, arith}
use Rattle.std.proofs.lemmas.Bool.{cases_Bool, true≢false}
use Rattle.std.proofs.lemmas.Option.{none-some, slice_get-get_or}
use Rattle.std.specs.FinMap.{get, get-remove}
use Rattle.std.specs.Ordering.{eq_by_cmp}
use Rattle.base_types.specs.Seal.{Blocks}
use Rattle.layout_geometry.specs.Geometry.{IsGeometry}
use Rattle.layout_bytes.specs.declared.node.NodeKind.{NodeKind}
use Rattle.lang_tree.specs.Step.{unsnapped}
use Rattle.lang_tree.specs.Tree.{Kept}
use Rattle.crash_snapshots.specs.Taking.{TakesSnapshot}
use Rattle.crash_stands.specs.Files.{file_of, used_node}
use Rattle.crash_stands.specs.Inodes.{ADir, IsInodeOf, inode_by}
use Rattle.crash_stands.specs.Sharing.{IsKeptBlock}
use Rattle.crash_stands.specs.Stands.{IsTreeOf}
use Rattle.engine_blocks.specs.Running.{has}
use Rattle.engine_blocks.specs.State.{State}
use Rattle.fs_files.specs.Places.{has_place}
use Rattle.fs_files.specs.Shared.{keepers}
use Rattle.fs_snapshots.specs.Among.{used_number}
use Rattle.fs_snapshots.specs.Known.{CountsKeepers, KnowsSnapshots, keeps_block, snapshot_number}
use Rattle.fs_session.specs.Sessions.{Stands}
use Rattle.fs_commands.specs.declared.snapping.Gone.{Gone}
use Rattle.fs_commands.specs.Known.{CountsOut}
use Rattle.fs_commands.specs.Snapping.{IsSnapshot, MayUnsnap}
use Rattle.fs_commands.proofs.numbered.Keys.{name_cmp, name_total, tied, which_key}
use Rattle.fs_commands.proofs.snapped.Answers.{NamedLaw, named_is, one_named}
use Rattle.fs_commands.proofs.unsnapped.Keepers.{bit, but, count_less, none_here, two_fewer}
use Rattle.fs_commands.proofs.unsnapped.Known.{MarkedLaw, StayLaw, known_then, list_counted, list_once, same_list}
use Rattle.fs_commands.proofs.unsnapped.Once.{IsOnce}
use Rattle.fs_commands.proofs.unsnapped.Planned.{GoesLaw}
use Rattle.fs_commands.proofs.unsnapped.Taken.{EachLaw}

within_list : (xs : List ℕ) (b : ℕ) → 0 < get_or xs b 0 → b < length xs
within_list [] b some = absurd (omega (arith, some))
within_list (x ∷ xs) zero some = omega arith
within_list (x ∷ xs) (suc b) some = omega (arith, within_list xs b some)

module _ (tells : Bool) (s : State) (name counts : List ℕ) (gone : Gone) (goes : MayUnsnap tells s name counts gone) (told : IsTrue tells) (stands : Stands s) (named : NamedLaw) (known : CountsKeepers s.books.geom s.map counts) (each : EachLaw) where
  snapshot : IsSnapshot s.books.geom s.map gone.number
  snapshot = named_is s.books.geom s.map stands.0 name stands.1 named gone.number (goes.named told)

  -- the counts of its blocks may be lowered
  pub goes_counted : All (λ b. 0 < keepers counts b) gone.kept.items
  goes_counted = by snapshot
    where
      by : IsSnapshot s.books.geom s.map gone.number → All (λ b. 0 < keepers counts b) gone.kept.items
      by (node, used, kind) = list_counted s.books.geom s.map gone.number node used kind gone.kept.items (goes.kept told) each counts known

  pub goes_listed : IsOnce gone.kept.items
  goes_listed = by snapshot
    where
      by : IsSnapshot s.books.geom s.map gone.number → IsOnce gone.kept.items
      by (node, used, kind) = list_once s.books.geom s.map gone.number node used kind gone.kept.items (goes.kept told) each stands.1.sound

  listed_so : (b : ℕ) → has gone.kept.items b ≡ keeps_block s.books.geom s.map b gone.number
  listed_so = by snapshot
    where
      by : IsSnapshot s.books.geom s.map gone.number → (b : ℕ) → has gone.kept.items b ≡ keeps_block s.books.geom s.map b gone.number
      by (node, used, kind) = same_list s.books.geom s.map gone.number node used kind gone.kept.items (goes.kept told) each

  -- The root is no snapshot, so no count is at its most without one.
  root_none : (b : ℕ) → keeps_block s.books.geom s.map b 1 ≡ false
  root_none b = by (cases_Bool (keeps_block s.books.geom s.map b 1))
    where
      never : (one : IsKeptBlock s.books.geom s.map b) × (one.snapshot ≡ 1) → ⊥
      never (one, at) =
          let tree = stands.1 in
          let used : used_node s.books.geom s.map 1 ≡ Some one.node = ap (used_node s.books.geom s.map) (sym at) ∙ one.is_node in
          let l = s.books.geom.layout in
          let read : IsInodeOf l (Some (file_of l s.map one.node)) (Some (ADir tree.map.root.0)) = subst (λ o. IsInodeOf l o (Some (ADir tree.map.root.0))) (ap (option_map (file_of l s.map)) used) (subst (IsInodeOf l _) tree.map.root.1 (tree.read 1)) in
          none-some (ADir tree.map.root.0) (sym (ap (λ (k : NodeKind). inode_by l k one.node.links (file_of l s.map one.node).bytes) one.kind) ∙ read)

      by : (keeps_block s.books.geom s.map b 1 ≡ true) ⊎ (keeps_block s.books.geom s.map b 1 ≡ false) → keeps_block s.books.geom s.map b 1 ≡ false
      by (inl e) = absurd (never ((each s.books.geom s.map b 1).0 e))
      by (inr e) = e

  few_others : (limits : IsGeometry s.books.geom) (b : ℕ) → has gone.kept.items b ≡ true → keepers counts b ≤ 65535
  few_others limits b mine = by snapshot
    where
      by : IsSnapshot s.books.geom s.map gone.number → keepers counts b ≤ 65535
      by (node, used, kind) =
          let at = used_number s.books.geom s.map gone.number node used in
          let mine_too : keeps_block s.books.geom s.map b gone.number ≡ true = sym (listed_so b) ∙ mine in
          let less = count_less (keeps_block s.books.geom s.map b) gone.number 1 s.books.geom.i at.0 (omega (arith, at.1)) in
          let first : but (keeps_block s.books.geom s.map b) gone.number 1 ≡ false = ap (λ t. t && not (1 == gone.number)) (root_none b) in
          let other : gone.number ≢ 1 = λ it. true≢false (sym mine_too ∙ ap (keeps_block s.books.geom s.map b) it ∙ root_none b) in
          let few = two_fewer (but (keeps_block s.books.geom s.map b) gone.number) gone.number s.books.geom.i (omega (arith, at.0, other)) at.1 first (none_here (keeps_block s.books.geom s.map b) gone.number) in
          omega (arith, known.each b, less, few, limits.most_nodes, ap bit mine_too)

  module _ (rest : List ℕ) (out : CountsOut gone.kept.items counts rest) where
    -- they may be raised again
    pub room_again : All (λ b. b < length rest) gone.kept.items
    room_again i d low = omega (arith, within_list counts (get_or gone.kept.items i d) (goes_counted i d low), out.room)

    pub below_most : IsGeometry s.books.geom → All (λ b. keepers rest b < 65535) gone.kept.items
    below_most limits i d low =
        let b = get_or gone.kept.items i d in
        let mine = has_place gone.kept.items i b (slice_get-get_or gone.kept.items i d low) in
        omega (arith, out.each b, few_others limits b mine, ap bit mine)

    -- It went.
    pub knows_gone : (numbers after : List ℕ → Option ℕ) (new : Blocks) → ((q : List ℕ) → numbers q ≡ snapshot_number s.books.geom s.map q) → after name ≡ None → ((q : List ℕ) → q ≢ name → after q ≡ numbers q) → IsGeometry s.books.geom → TakesSnapshot s.books.geom s.map new gone.number
        → GoesLaw → MarkedLaw → StayLaw → KnowsSnapshots s.books.geom new rest after
    knows_gone numbers after new before here others limits takes law marked stay = by (one_named s.books.geom s.map stands.0 name stands.1 named gone.number (goes.named told))
      where
        by : (k : Kept) × (get stands.0.snapshots name ≡ Some k) × (k.number ≡ gone.number) → KnowsSnapshots s.books.geom new rest after
        by (k, at, is) =
            let tree = law s.books.geom s.map new stands.0 name k limits stands.1 at (subst (TakesSnapshot s.books.geom s.map new) (sym is) takes) in
            record {
              kept = known_then s.books.geom limits s.map new gone.number takes tree.sound marked stay each counts gone.kept.items rest known out listed_so;
              named = λ q. which tree q (which_key q name);
            }
          where
            which : IsTreeOf s.books.geom new (unsnapped stands.0 name) → (q : List ℕ) → (q ≡ name) ⊎ (eq_by_cmp name_cmp q name ≡ false) → after q ≡ snapshot_number s.books.geom new q
            which tree q (inl it) =
                ap after it ∙ here
                ∙ sym (named s.books.geom new (unsnapped stands.0 name) q tree ∙ ap (option_map (λ (k : Kept). k.number)) (get-remove name_total stands.0.snapshots name q ∙ ap (λ t. cond t None (get stands.0.snapshots q)) (tied q name it)))
            which tree q (inr other) =
                others q (λ it. true≢false (sym (tied q name it) ∙ other)) ∙ before q ∙ named s.books.geom s.map stands.0 q stands.1
                ∙ sym (named s.books.geom new (unsnapped stands.0 name) q tree ∙ ap (option_map (λ (k : Kept). k.number)) (get-remove name_total stands.0.snapshots name q ∙ ap (λ t. cond t None (get stands.0.snapshots q)) other))
