-- A command is answered as the session that is kept answers it, and leaves the session after it.
use Rattle.std.proofs.Common.{◌≡◌, ℕ, ◌<◌, ◌≤◌, ◌==◌, nat_le, Bool, true, false, true≢false, cond, if◌then◌else◌, List, [], length, replicate, Option, Some, None, option_map, refl, sym, ap, subst, ◌∙◌, arith, eq-eqb, ◌⊎◌, inl, inr}
use Rattle.std.proofs.lemmas.List.{length-replicate}
use Rattle.std.proofs.lemmas.Bool.{eqb-false}
use Rattle.std.proofs.lemmas.Option.{same_Some, none-some}
use Rattle.std.specs.Ordering.{eq_by_cmp}
use Rattle.std.specs.FinMap.{get, insert, empty, get-insert, get-remove}
use Rattle.lang_tree.specs.declared.command.Cmd.{Cmd}
use Rattle.lang_tree.specs.declared.command.Cmd.TheVariants.{Mkdir, Create, Write, Fill, Read, Truncate, Link, Unlink, Rmdir, Rename, Stat, List as ListNames, Snap, Unsnap, Snaps, At, Osync, Dsync, Durable, Dwait, Poll, Bad}
use Rattle.lang_tree.specs.declared.command.Look.{Look}
use Rattle.lang_tree.specs.declared.command.Reply.{Reply}
use Rattle.lang_tree.specs.declared.command.Reply.TheVariants.{Ok as Done, Synced, Refused}
use Rattle.lang_tree.specs.declared.command.Refusal.{Refusal}
use Rattle.lang_tree.specs.Tree.{Tree, Snapshots, File, HasSmallFiles, kept_tree}
use Rattle.lang_tree.specs.Walk.{is_same_node}
use Rattle.lang_tree.specs.Conditions.{least_unused, refusal, at_refusal}
use Rattle.lang_tree.specs.Points.{answers_point}
use Rattle.lang_tree.specs.Step.{Session, step, answered, osync, written, resized, changes_snapshots}
use Rattle.lang_tree.specs.Step as tree
use Rattle.crash_stands.specs.Inodes.{Inode, Inodes, ADir, AFile, thing_of}
use Rattle.crash_stands.specs.Maps.{IsMapOf}
use Rattle.fs_inodes.specs.Lookups.{bytes_of, inode_at}
use Rattle.fs_inodes.specs.Refusals.{look_reason, reason}
use Rattle.fs_inodes.specs.Replies.{shown, accepted_reply, reply_by}
use Rattle.fs_memtree.specs.declared.state.State.{State}
use Rattle.fs_memtree.specs.declared.snapshots.Snapshot.{Snapshot}
use Rattle.fs_memtree.specs.Kept.{KeptNodes, KeptDir, KeptFile, name_cmp, map_of, tree_of, AreSmall, with_bytes}
use Rattle.fs_memtree.specs.Snapshots.{snapshots_of, kept_by}
use Rattle.fs_memtree.specs.Changes.{made, edited, moved}
use Rattle.fs_memtree.specs.Serving.{session_of, IsKept, least, changed_to, rename_by, snapped, unsnapped, synced, waited, awaited, looked_by, looked_at, accepted, served, served_by}
use Rattle.fs_memtree.specs.Laws.{MapLaws}
use Rattle.fs_memtree.proofs.keys.Keys.{name_total, name_same, which_key, tied, put_here}
use Rattle.fs_memtree.proofs.maps.TreeOf.{the_tree, own_tree, aside}
use Rattle.fs_memtree.proofs.serving.Snapshots.{under_shown, shown_insert, shown_remove, least_shown}
use Rattle.fs_memtree.proofs.serving.Mapped.{mkdir_mapped, create_mapped, write_mapped, fill_mapped, truncate_mapped, link_mapped, unlink_mapped, rmdir_mapped, stays, rename_mapped}

-- files of a tree are those of its map
pub small_map : (limit : ℕ) (m : Inodes) (t : Tree) → IsMapOf limit m t → HasSmallFiles t.nodes → AreSmall m
small_map limit m t is small k links bytes e = small k bytes (is.shows.nodes k ∙ ap (option_map thing_of) e)

pub small_tree : (limit : ℕ) (m : Inodes) (t : Tree) → IsMapOf limit m t → AreSmall m → HasSmallFiles t.nodes
small_tree limit m t is small n bytes e = by (m n) refl (sym (is.shows.nodes n) ∙ e)
  where
    same_bytes : {b c : List ℕ} → Some (File b) ≡ Some (File c) → b ≡ c
    same_bytes e = cc

    by : (o : Option Inode) → m n ≡ o → option_map thing_of o ≡ Some (File bytes) → length bytes ≤ 1073741824
    by None at f = absurd cc
    by (Some (ADir slots)) at f = absurd cc
    by (Some (AFile links b)) at f = subst (λ b. length b ≤ 1073741824) (same_bytes f) (small n links b at)

-- a tree with these snapshots
abbrev beside : Tree → Snapshots → Tree
beside t snapshots = record t { snapshots = snapshots }

module _ (laws : MapLaws) (old : State) (kept : IsKept old) where
  abbrev s : Session
  s = session_of old

  -- the nodes are those of the tree with its snapshots, too
  whole : IsMapOf s.limit.nodes (map_of old.nodes) s.tree
  whole = aside s.limit.nodes (map_of old.nodes) (tree_of old.nodes) (snapshots_of old.kept) kept.map

  least_is : least_unused s.limit.nodes s.tree ≡ least old
  least_is = least_shown s.limit.nodes old.nodes old.kept s.tree whole refl

  reason_is : (cmd : Cmd) → refusal s.limit s.tree cmd ≡ reason old.layout (least old) (snapshots_of old.kept) (map_of old.nodes) cmd
  reason_is cmd = laws.refuses s.limit (map_of old.nodes) s.tree cmd whole ∙ ap (λ l. reason old.layout l (snapshots_of old.kept) (map_of old.nodes) cmd) least_is

  abbrev Serves : Cmd → State × Reply → Type 0
  Serves cmd r = (step (session_of old) cmd ≡ (session_of r.0, r.1)) × IsKept r.0

  small : HasSmallFiles s.tree.nodes
  small = small_tree old.limit (map_of old.nodes) s.tree whole kept.small

  -- a command that changes the nodes
  changed : (cmd : Cmd) (nodes : KeptNodes) (t : Tree) → changes_snapshots cmd ≡ false → step s cmd ≡ tree.changed_to s t → IsMapOf s.limit.nodes (map_of nodes) (step s cmd).0.tree → Serves cmd (changed_to old nodes)
  changed cmd nodes t live steps is =
      let t_is : (step s cmd).0.tree ≡ t = ap (λ r. r.0.tree) steps in
      let is_t : IsMapOf s.limit.nodes (map_of nodes) t = subst (IsMapOf s.limit.nodes (map_of nodes)) t_is is in
      let same : t.snapshots ≡ snapshots_of old.kept = ap (λ u. u.snapshots) (sym t_is) ∙ laws.same_snapshots s cmd live in
      let tree_is : beside (tree_of nodes) (snapshots_of old.kept) ≡ t =
      ap (λ u. beside u (snapshots_of old.kept)) (the_tree s.limit.nodes nodes t is_t) ∙ ap (beside t) (sym same) in (
        steps ∙ ap (λ u. tree.changed_to s u) (sym tree_is),
        record {
          map = own_tree s.limit.nodes nodes t is_t;
          small = small_map s.limit.nodes (map_of nodes) (step s cmd).0.tree is (laws.small_step s cmd small);
          snapshots = kept.snapshots;
        },
      )

  -- one that doesn't
  unchanged : (cmd : Cmd) (reply : Reply) → step s cmd ≡ (s, reply) → Serves cmd (old, reply)
  unchanged cmd reply steps = (steps, kept)

  -- one that only looks
  looked : (cmd : Cmd) (reply : Reply) → refusal s.limit s.tree cmd ≡ None → answers_point cmd ≡ false → step s cmd ≡ (s, reply) → Serves cmd (old, accepted_reply (snapshots_of old.kept) (map_of old.nodes) cmd)
  looked cmd reply accepts no_point steps =
      let answer : reply ≡ accepted_reply (snapshots_of old.kept) (map_of old.nodes) cmd =
      sym (ap (λ r. r.1) steps) ∙ laws.reply s (map_of old.nodes) cmd whole no_point
      ∙ ap (reply_by (snapshots_of old.kept) (map_of old.nodes) cmd) (sym (laws.refuses s.limit (map_of old.nodes) s.tree cmd whole) ∙ accepts) in
      (steps ∙ ap (λ r. (s, r)) answer, kept)

  -- bytes that come, or none
  writes : (cmd : Cmd) (path : List (List ℕ)) (offset : ℕ) (bytes : List ℕ) → changes_snapshots cmd ≡ false → step s cmd ≡ tree.write s path offset bytes
      → (0 < length bytes → IsMapOf s.limit.nodes (map_of (edited old.nodes path (with_bytes (written offset bytes)))) (step s cmd).0.tree)
      → Serves cmd (if length bytes == 0 then (old, Done) else changed_to old (edited old.nodes path (with_bytes (written offset bytes))))
  writes cmd path offset bytes live steps maps = by (length bytes == 0) refl
    where
      by : (b : Bool) → (length bytes == 0) ≡ b → Serves cmd (if b then (old, Done) else changed_to old (edited old.nodes path (with_bytes (written offset bytes))))
      by true e = unchanged cmd Done (steps ∙ ap (λ b. if b then (s, Done) else tree.changed_to s (tree.edited s.tree path (written offset bytes))) e)
      by false e = changed cmd (edited old.nodes path (with_bytes (written offset bytes))) (tree.edited s.tree path (written offset bytes)) live
          (steps ∙ ap (λ b. if b then (s, Done) else tree.changed_to s (tree.edited s.tree path (written offset bytes))) e) (maps (omega (arith, eqb-false (length bytes) 0 e)))

  truncates : (path : List (List ℕ)) (size : ℕ) → refusal s.limit s.tree (Truncate path size) ≡ None → Serves (Truncate path size) (accepted old (Truncate path size))
  truncates path size accepts = by (size == length (bytes_of (inode_at (map_of old.nodes) path))) refl
    where
      cmd : Cmd
      cmd = Truncate path size

      steps : (b : Bool) → (size == length (bytes_of (inode_at (map_of old.nodes) path))) ≡ b → step s (Truncate path size) ≡ (if b then (s, Done) else tree.changed_to s (tree.edited s.tree path (resized size)))
      steps b e = ap (answered s (Truncate path size)) accepts
          ∙ ap (λ b. if b then (s, Done) else tree.changed_to s (tree.edited s.tree path (resized size))) (ap (λ bytes. size == length bytes) (laws.bytes s.limit.nodes (map_of old.nodes) s.tree path whole) ∙ e)

      by : (b : Bool) → (size == length (bytes_of (inode_at (map_of old.nodes) path))) ≡ b
          → Serves (Truncate path size) (if b then (old, Done) else changed_to old (edited old.nodes path (with_bytes (resized size))))
      by true e = unchanged (Truncate path size) Done (steps true e)
      by false e = changed (Truncate path size) (edited old.nodes path (with_bytes (resized size))) (tree.edited s.tree path (resized size)) refl (steps false e)
          (truncate_mapped laws s old.nodes whole path size (λ same. true≢false (sym (eq-eqb size _ same) ∙ e)) accepts)

  renames : (from to : List (List ℕ)) → refusal s.limit s.tree (Rename from to) ≡ None → Serves (Rename from to) (accepted old (Rename from to))
  renames from to accepts = by (is_same_node s.tree from to) refl
    where
      steps : (b : Bool) → is_same_node s.tree from to ≡ b → step s (Rename from to) ≡ (if b then (s, Done) else tree.changed_to s (tree.moved (tree.removed s.tree to) from to))
      steps b e = ap (answered s (Rename from to)) accepts ∙ ap (λ b. if b then (s, Done) else tree.changed_to s (tree.moved (tree.removed s.tree to) from to)) e

      by : (b : Bool) → is_same_node s.tree from to ≡ b → Serves (Rename from to) (rename_by old (moved old.nodes from to))
      by true e = subst (λ mv. Serves (Rename from to) (rename_by old mv)) (sym (stays laws s old.nodes whole from to e)) (unchanged (Rename from to) Done (steps true e))
      by false e =
          let r = rename_mapped laws s old.nodes whole from to accepts e in
          subst (λ b. Serves (Rename from to) (if b then changed_to old (moved old.nodes from to).0 else (old, Done))) (sym r.1)
          (changed (Rename from to) (moved old.nodes from to).0 (tree.moved (tree.removed s.tree to) from to) refl (steps false e) r.0)

  syncs : (b : Bool) → (osync s b ≡ (session_of (synced old b), Synced (synced old b).points)) × IsKept (synced old b)
  syncs true = (refl, record { map = kept.map; small = kept.small; snapshots = kept.snapshots })
  syncs false = (refl, kept)

  waits : (b : Bool) → IsKept (synced old b) → IsKept (waited (synced old b))
  waits b k = record { map = k.map; small = k.small; snapshots = k.snapshots }

  awaits : (n : ℕ) (b : Bool) → (tree.dwait s n b ≡ (session_of (awaited old n b).0, (awaited old n b).1)) × IsKept (awaited old n b).0
  awaits n true = (refl, record { map = kept.map; small = kept.small; snapshots = kept.snapshots })
  awaits n false = (refl, kept)

  -- a snapshot more
  snaps : (name : List ℕ) (o : Option ℕ) → (tree.changed_to s (tree.snapped_by s.tree name o) ≡ (session_of (snapped old name o).0, (snapped old name o).1)) × IsKept (snapped old name o).0
  snaps name None = (refl, record { map = kept.map; small = kept.small; snapshots = kept.snapshots })
  snaps name (Some n) = (
    ap (λ k. tree.changed_to s (beside s.tree k)) (sym (shown_insert old.kept name (record { number = n; nodes = old.nodes }))),
    record { map = kept.map; small = kept.small; snapshots = λ q y at. by q y at (which_key name_total name_same q name) },
  )
    where
      x : Snapshot
      x = record { number = n; nodes = old.nodes }

      by : (q : List ℕ) (y : Snapshot) → get (insert old.kept name x) q ≡ Some y → (q ≡ name) ⊎ (eq_by_cmp name_cmp q name ≡ false) → IsMapOf s.limit.nodes (map_of y.nodes) (tree_of y.nodes)
      by q y at (inl e) =
          let same : x ≡ y = same_Some x y (sym (put_here name_total name_same old.kept name x q e) ∙ at) in
          subst (λ (y : Snapshot). IsMapOf s.limit.nodes (map_of y.nodes) (tree_of y.nodes)) same kept.map
      by q y at (inr e) = kept.snapshots q y (sym (get-insert name_total old.kept name x q ∙ ap (λ b. cond b (Some x) (get old.kept q)) e) ∙ at)

  -- one less
  unsnaps : (name : List ℕ) → (tree.changed_to s (tree.unsnapped s.tree name) ≡ (session_of (unsnapped old name).0, Done)) × IsKept (unsnapped old name).0
  unsnaps name = (
    ap (λ k. tree.changed_to s (beside s.tree k)) (sym (shown_remove old.kept name)),
    record { map = kept.map; small = kept.small; snapshots = λ q y at. by q y (which_key name_total name_same q name) (sym (get-remove name_total old.kept name q) ∙ at) },
  )
    where
      by : (q : List ℕ) (y : Snapshot) → (q ≡ name) ⊎ (eq_by_cmp name_cmp q name ≡ false) → cond (eq_by_cmp name_cmp q name) None (get old.kept q) ≡ Some y → IsMapOf s.limit.nodes (map_of y.nodes) (tree_of y.nodes)
      by q y (inl e) at = absurd (none-some y (sym (ap (λ b. cond b None (get old.kept q)) (tied name_total name_same q name e)) ∙ at))
      by q y (inr e) at = kept.snapshots q y (sym (ap (λ b. cond b None (get old.kept q)) e) ∙ at)

  -- a look at what a snapshot keeps
  looks : (name : List ℕ) (l : Look) (o : Option Snapshot) → get old.kept name ≡ o → step s (At name l) ≡ (s, looked_at o l)
  looks name l o is = ap (λ k. answered s (At name l) (at_refusal k l)) found ∙ by o found is
    where
      found : get s.tree.snapshots name ≡ option_map kept_by o
      found = under_shown old.kept name ∙ ap (option_map kept_by) is

      last : (x : Snapshot) → get s.tree.snapshots name ≡ Some (kept_by x) → tree.seen (kept_tree (kept_by x)) l ≡ shown (map_of x.nodes) l
          → (r : Option Refusal) → answered s (At name l) r ≡ (s, looked_by (map_of x.nodes) l r)
      last x at same (Some why) = refl
      last x at same None = ap (λ k. (s, tree.seen_in k l)) at ∙ ap (λ r. (s, r)) same

      by : (o : Option Snapshot) → get s.tree.snapshots name ≡ option_map kept_by o → get old.kept name ≡ o → answered s (At name l) (at_refusal (option_map kept_by o) l) ≡ (s, looked_at o l)
      by None at there = refl
      by (Some x) at there =
          let law = laws.looks s.limit.nodes (map_of x.nodes) (kept_tree (kept_by x)) l (aside s.limit.nodes (map_of x.nodes) (tree_of x.nodes) empty (kept.snapshots name x there)) in
          ap (answered s (At name l)) law.0 ∙ last x at law.1 (look_reason (map_of x.nodes) l)

  pub serves_accepted : (cmd : Cmd) → refusal s.limit s.tree cmd ≡ None → Serves cmd (accepted old cmd)
  serves_accepted (Mkdir path) accepts = changed (Mkdir path) _ _ refl (ap (answered s (Mkdir path)) accepts)
      (subst (λ l. IsMapOf s.limit.nodes (map_of (made l old.nodes path (KeptDir empty))) (step s (Mkdir path)).0.tree) least_is (mkdir_mapped laws s old.nodes whole path accepts))
  serves_accepted (Create path) accepts = changed (Create path) _ _ refl (ap (answered s (Create path)) accepts)
      (subst (λ l. IsMapOf s.limit.nodes (map_of (made l old.nodes path (KeptFile 1 []))) (step s (Create path)).0.tree) least_is (create_mapped laws s old.nodes whole path accepts))
  serves_accepted (Write path offset bytes) accepts = writes (Write path offset bytes) path offset bytes refl (ap (answered s (Write path offset bytes)) accepts)
      (λ some. write_mapped laws s old.nodes whole path offset bytes some accepts)
  serves_accepted (Fill path offset count byte) accepts = writes (Fill path offset count byte) path offset (replicate count byte) refl (ap (answered s (Fill path offset count byte)) accepts)
      (λ some. fill_mapped laws s old.nodes whole path offset count byte (omega (arith, some, length-replicate count byte)) accepts)
  serves_accepted (Read path offset count) accepts = looked (Read path offset count) _ accepts refl (ap (answered s (Read path offset count)) accepts)
  serves_accepted (Truncate path size) accepts = truncates path size accepts
  serves_accepted (Link path other) accepts = changed (Link path other) _ _ refl (ap (answered s (Link path other)) accepts) (link_mapped laws s old.nodes whole path other accepts)
  serves_accepted (Unlink path) accepts = changed (Unlink path) _ _ refl (ap (answered s (Unlink path)) accepts) (unlink_mapped laws s old.nodes whole path accepts)
  serves_accepted (Rmdir path) accepts = changed (Rmdir path) _ _ refl (ap (answered s (Rmdir path)) accepts) (rmdir_mapped laws s old.nodes whole path accepts)
  serves_accepted (Rename from to) accepts = renames from to accepts
  serves_accepted (Stat path) accepts = looked (Stat path) _ accepts refl (ap (answered s (Stat path)) accepts)
  serves_accepted (ListNames path) accepts = looked (ListNames path) _ accepts refl (ap (answered s (ListNames path)) accepts)
  serves_accepted (Snap name) accepts =
      let r = snaps name (least old) in
      (ap (answered s (Snap name)) accepts ∙ ap (λ o. tree.changed_to s (tree.snapped_by s.tree name o)) least_is ∙ r.0, r.1)
  serves_accepted (Unsnap name) accepts = let r = unsnaps name in (ap (answered s (Unsnap name)) accepts ∙ r.0, r.1)
  serves_accepted Snaps accepts = looked Snaps _ accepts refl (ap (answered s Snaps) accepts)
  serves_accepted (At name l) accepts = looked (At name l) _ accepts refl (ap (answered s (At name l)) accepts)
  serves_accepted Osync accepts = syncs old.changed
  serves_accepted Dsync accepts = (ap (λ r. tree.waited r.0) (syncs old.changed).0, waits old.changed (syncs old.changed).1)
  serves_accepted Durable accepts = (refl, kept)
  serves_accepted (Dwait n) accepts = awaits n (nat_le n old.points)
  serves_accepted Poll accepts = (refl, kept)
  serves_accepted Bad accepts = (refl, kept)

  -- refused, or done
  serves_by : (cmd : Cmd) (o : Option Refusal) → reason old.layout (least old) (snapshots_of old.kept) (map_of old.nodes) cmd ≡ o → Serves cmd (served_by old o (accepted old cmd))
  serves_by cmd None e = serves_accepted cmd (reason_is cmd ∙ e)
  serves_by cmd (Some why) e = unchanged cmd (Refused why) (ap (answered s cmd) (reason_is cmd ∙ e))

  -- each command
  pub serves : (cmd : Cmd) (new : State) (reply : Reply) → served old cmd ≡ (new, reply) → (step s cmd ≡ (session_of new, reply)) × IsKept new
  serves (At name l) new reply is = subst (λ r. Serves (At name l) r) is (looks name l (get old.kept name) refl, kept)
  serves cmd new reply is = subst (λ r. Serves cmd r) is (serves_by cmd (reason old.layout (least old) (snapshots_of old.kept) (map_of old.nodes) cmd) refl)
