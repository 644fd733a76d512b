-- What is kept at first, and that two that have one tree are the same nodes.
use Rattle.std.proofs.Common.{◌≡◌, ℕ, zero, suc, ◌≤◌, List, [], ◌∷◌, ◌++◌, Option, Some, None, Result, Ok, Err, IfOk, OnErr, false, option_map, option_and_then, refl, sym, ap, ap₂, subst, ◌∙◌, arith, inl, inr}
use Rattle.std.specs.Ordering.{nat_cmp}
use Rattle.std.specs.Cmp.{nat_cmp_total}
use Rattle.std.specs.FinMap.{nat_cmp-IsAntisymmetric, get, empty, get-empty, same_map}
use Rattle.base_types.specs.declared.layout.Layout.{Layout}
use Rattle.base_types.specs.declared.memory.NoMemory.{NoMemory}
use Rattle.lang_tree.specs.declared.command.Cmd.{Cmd}
use Rattle.lang_tree.specs.declared.command.Reply.{Reply}
use Rattle.lang_tree.specs.declared.command.Reply.TheVariants.{Refused}
use Rattle.lang_tree.specs.declared.command.Refusal.TheVariants.{NoMemory as OutOfMemory}
use Rattle.lang_tree.specs.Run.{Answers, is_of_memory}
use Rattle.lang_tree.specs.Tree.{Tree, Bounds, Thing, Dir, File, alone, kept_tree, HasSoundSnapshots}
use Rattle.lang_tree.specs.Tree.{Kept as KeptTree}
use Rattle.lang_tree.specs.Step.{Session, start, step}
use Rattle.crash_stands.specs.Inodes.{ADir, thing_of, root_alone}
use Rattle.crash_stands.specs.Maps.{IsMapOf}
use Rattle.crash_stands.specs.Walks.{entry_in, LeadsTo}
use Rattle.fs_inodes.specs.Lookups.{number_at}
use Rattle.std.proofs.lemmas.Option.{same_Some, none-some}
use Rattle.fs_memtree.specs.declared.state.State.{State}
use Rattle.fs_memtree.specs.declared.snapshots.Snapshot.{Snapshot}
use Rattle.fs_memtree.specs.Snapshots.{snapshots_of, kept_by}
use Rattle.fs_memtree.specs.Kept.{DirNames, name_cmp, Kept, KeptDir, KeptFile, KeptNodes, map_of, inode_of, tree_of}
use Rattle.fs_memtree.specs.Serving.{root_node, first_state, whole_tree, session_of, IsKept, IsSoundState, served}
use Rattle.fs_memtree.specs.Laws.{MapLaws}
use Rattle.fs_memtree.proofs.keys.Keys.{name_total, name_same, put_here, put_other}
use Rattle.fs_memtree.proofs.keys.InOrder.{entries_empty}
use Rattle.fs_memtree.proofs.maps.Slots.{as_slots, under_name}
use Rattle.fs_memtree.proofs.maps.TreeOf.{the_tree, own_tree, aside}
use Rattle.fs_memtree.proofs.serving.Snapshots.{under_shown}
use Rattle.fs_memtree.proofs.maps.Walking.{number_last}
use Rattle.fs_memtree.proofs.serving.Served.{serves, small_map}

root_there : (k : ℕ) → root_alone k ≡ map_of root_node k
root_there zero = sym (ap (option_map inode_of) (put_other nat_cmp_total nat_cmp-IsAntisymmetric empty 1 (KeptDir empty) 0 (λ e. omega (arith, e)) ∙ get-empty nat_cmp 0))
root_there (suc zero) = sym (ap (option_map inode_of) (put_here nat_cmp_total nat_cmp-IsAntisymmetric empty 1 (KeptDir empty) 1 refl) ∙ ap (λ es. Some (ADir (as_slots es))) (entries_empty name_cmp))
root_there (suc (suc k)) = sym (ap (option_map inode_of) (put_other nat_cmp_total nat_cmp-IsAntisymmetric empty 1 (KeptDir empty) (suc (suc k)) (λ e. omega (arith, e)) ∙ get-empty nat_cmp (suc (suc k))))

-- no snapshots
none_shown : snapshots_of empty ≡ empty
none_shown = same_map name_total name_same _ _ (λ q. under_shown empty q ∙ ap (option_map kept_by) (get-empty name_cmp q) ∙ sym (get-empty name_cmp q))

-- the root alone
module _ (laws : MapLaws) (limit : ℕ) (layout : Layout) (low : 1 ≤ limit) where
  abbrev bounds : Bounds
  bounds = record { nodes = limit; layout = layout }

  root_map : IsMapOf limit (map_of root_node) (start bounds).tree
  root_map = laws.alike limit root_alone (map_of root_node) (start bounds).tree root_there (laws.root bounds low)

  first_kept : IsKept (first_state limit layout)
  first_kept = record {
    map = own_tree limit root_node (start bounds).tree root_map;
    small = small_map limit (map_of root_node) (start bounds).tree root_map (laws.small_start bounds);
    snapshots = λ name x at. absurd (none-some x (sym (get-empty name_cmp name) ∙ at));
  }

  pub first_sound : IsSoundState (first_state limit layout)
  first_sound = record { kept = first_kept; snapshots = laws.none_sound limit (whole_tree (first_state limit layout)) none_shown }

  pub first_session : session_of (first_state limit layout) ≡ start bounds
  first_session = ap₂ (λ (t : Tree) k. record { tree = record t { snapshots = k }; limit = bounds; points = 0; changed = false; durable = 0 }) (the_tree limit root_node (start bounds).tree root_map) none_shown

-- the snapshots after a command
sound_after : (laws : MapLaws) (old new : State) (cmd : Cmd) (reply : Reply) → IsSoundState old → step (session_of old) cmd ≡ (session_of new, reply) → HasSoundSnapshots new.limit (whole_tree new)
sound_after laws old new cmd reply is steps =
    let s = session_of old in
    let sound = laws.sound old.limit (map_of old.nodes) (whole_tree old) (aside old.limit (map_of old.nodes) (tree_of old.nodes) (snapshots_of old.kept) is.kept.map) in
    let limit : old.limit ≡ new.limit = ap (λ (b : Bounds). b.nodes) (sym (laws.same_limit s cmd) ∙ ap (λ (r : Session × Reply). r.0.limit) steps) in
    subst (λ l. HasSoundSnapshots l (whole_tree new)) limit
    (subst (HasSoundSnapshots old.limit) (ap (λ (r : Session × Reply). r.0.tree) steps) (laws.sound_snapshots s cmd sound is.snapshots))

-- what is left of a command
pub result_sound : (laws : MapLaws) (old new : State) (cmd : Cmd) (result : Result Reply NoMemory) → IsSoundState old
    → IfOk result (λ reply. served old cmd ≡ (new, reply)) → OnErr result (new ≡ old) → IsSoundState new
result_sound laws old new cmd (Ok reply) is done same =
    let r = serves laws old is.kept cmd new reply done in
    record { kept = r.1; snapshots = sound_after laws old new cmd reply is r.0 }
result_sound laws old new cmd (Err why) is done same = subst IsSoundState (sym same) is

-- a reply that this result gives
abbrev pub IsReply : Result Reply NoMemory → Reply → Type 0
IsReply (Ok said) reply = reply ≡ said
IsReply (Err why) reply = reply ≡ Refused OutOfMemory

-- a command is answered as the session answers it, or refused since there is no memory
pub answered : (laws : MapLaws) (old new : State) (view : Session) (cmd : Cmd) (result : Result Reply NoMemory) (reply : Reply) → session_of old ≡ view → IsKept old
    → IfOk result (λ said. served old cmd ≡ (new, said)) → OnErr result (new ≡ old) → IsReply result reply → Answers is_of_memory view cmd reply (session_of new)
answered laws old new view cmd (Ok said) reply is kept done same said_is =
    inl (ap (λ s. step s cmd) (sym is) ∙ (serves laws old kept cmd new said done).0 ∙ ap (λ r. (session_of new, r)) (sym said_is))
answered laws old new view cmd (Err why) reply is kept done same said_is = inr (inl (OutOfMemory, refl, said_is, ap session_of same ∙ is))

-- Two that have one tree.

module _ (limit other : ℕ) (one two : KeptNodes) (t : Tree) (first : IsMapOf limit (map_of one) t) (second : IsMapOf other (map_of two) t) where
  in_dir : (nodes : KeptNodes) (p : List (List ℕ)) (k : ℕ) (names : DirNames) (q : List ℕ) → LeadsTo (map_of nodes) p k → get nodes k ≡ Some (KeptDir names) → number_at (map_of nodes) (p ++ q ∷ []) ≡ get names q
  in_dir nodes p k names q leads dir = number_last (map_of nodes) p q ∙ ap (option_and_then (λ j. entry_in (map_of nodes j) q)) leads ∙ ap (λ o. entry_in (option_map inode_of o) q) dir ∙ under_name names q

  names_same : (k : ℕ) (a b : DirNames) → get one k ≡ Some (KeptDir a) → get two k ≡ Some (KeptDir b) → a ≡ b
  names_same k a b in_one in_two =
      let p = first.shows.reached k (inode_of (KeptDir a)) (ap (option_map inode_of) in_one) in
      let leads : LeadsTo (map_of two) p.0 k = sym (second.shows.names p.0) ∙ first.shows.names p.0 ∙ p.1 in
      same_map name_total name_same a b (λ q. sym (in_dir one p.0 k a q p.1 in_one) ∙ sym (first.shows.names (p.0 ++ q ∷ [])) ∙ second.shows.names (p.0 ++ q ∷ []) ∙ in_dir two p.0 k b q leads in_two)

  nothing_there : {x : Thing} → None ≡ Some x → ⊥
  nothing_there e = cc

  no_dir_file : {bytes : List ℕ} → Some Dir ≡ Some (File bytes) → ⊥
  no_dir_file e = cc

  bytes_same : {a b : List ℕ} → Some (File a) ≡ Some (File b) → a ≡ b
  bytes_same e = cc

  node_same : (k : ℕ) (a b : Option Kept) → get one k ≡ a → get two k ≡ b → option_map thing_of (option_map inode_of a) ≡ option_map thing_of (option_map inode_of b) → a ≡ b
  node_same k None None in_one in_two e = refl
  node_same k None (Some (KeptDir b)) in_one in_two e = absurd (nothing_there e)
  node_same k None (Some (KeptFile m b)) in_one in_two e = absurd (nothing_there e)
  node_same k (Some (KeptDir a)) None in_one in_two e = absurd (nothing_there (sym e))
  node_same k (Some (KeptFile l a)) None in_one in_two e = absurd (nothing_there (sym e))
  node_same k (Some (KeptDir a)) (Some (KeptDir b)) in_one in_two e = ap (λ names. Some (KeptDir names)) (names_same k a b in_one in_two)
  node_same k (Some (KeptDir a)) (Some (KeptFile m b)) in_one in_two e = absurd (no_dir_file e)
  node_same k (Some (KeptFile l a)) (Some (KeptDir b)) in_one in_two e = absurd (no_dir_file (sym e))
  node_same k (Some (KeptFile l a)) (Some (KeptFile m b)) in_one in_two e =
      ap₂ (λ x y. Some (KeptFile x y)) (sym (first.shows.links k l a (ap (option_map inode_of) in_one)) ∙ second.shows.links k m b (ap (option_map inode_of) in_two)) (bytes_same e)

  one_tree : one ≡ two
  one_tree = same_map nat_cmp_total nat_cmp-IsAntisymmetric one two (λ k. node_same k (get one k) (get two k) refl refl
      (sym (first.shows.nodes k) ∙ second.shows.nodes k))

-- Two sessions with one tree.
module _ (a b : State) (first : IsKept a) (second : IsKept b) (same : whole_tree a ≡ whole_tree b) where
  -- what two have under a name
  under_same : (q : List ℕ) → option_map kept_by (get a.kept q) ≡ option_map kept_by (get b.kept q)
  under_same q = sym (under_shown a.kept q) ∙ ap (λ (t : Tree). get t.snapshots q) same ∙ under_shown b.kept q

  -- the nodes of two snapshots that keep the same
  snapshot_same : (q : List ℕ) (x y : Snapshot) → get a.kept q ≡ Some x → get b.kept q ≡ Some y → kept_by x ≡ kept_by y → x ≡ y
  snapshot_same q x y at_a at_b e =
      let one : IsMapOf a.limit (map_of x.nodes) (alone (tree_of y.nodes).names (tree_of y.nodes).nodes) =
      subst (IsMapOf a.limit (map_of x.nodes)) (ap (λ k. kept_tree k) e) (aside a.limit (map_of x.nodes) (tree_of x.nodes) empty (first.snapshots q x at_a)) in
      let two : IsMapOf b.limit (map_of y.nodes) (alone (tree_of y.nodes).names (tree_of y.nodes).nodes) = aside b.limit (map_of y.nodes) (tree_of y.nodes) empty (second.snapshots q y at_b) in
      ap₂ (λ n nodes. record { number = n; nodes = nodes }) (ap (λ k. k.number) e) (one_tree a.limit b.limit x.nodes y.nodes (alone (tree_of y.nodes).names (tree_of y.nodes).nodes) one two)

  no_snapshot : {x : KeptTree} → None ≡ Some x → ⊥
  no_snapshot e = cc

  kept_same : (q : List ℕ) (o p : Option Snapshot) → get a.kept q ≡ o → get b.kept q ≡ p → option_map kept_by o ≡ option_map kept_by p → o ≡ p
  kept_same q None None at_a at_b e = refl
  kept_same q None (Some y) at_a at_b e = absurd (no_snapshot e)
  kept_same q (Some x) None at_a at_b e = absurd (no_snapshot (sym e))
  kept_same q (Some x) (Some y) at_a at_b e = ap Some (snapshot_same q x y at_a at_b (same_Some (kept_by x) (kept_by y) e))

  pub same_kept : a.kept ≡ b.kept
  same_kept = same_map name_total name_same a.kept b.kept (λ q. kept_same q (get a.kept q) (get b.kept q) refl refl (under_same q))

  pub same_nodes : a.nodes ≡ b.nodes
  same_nodes =
      let t = alone (tree_of b.nodes).names (tree_of b.nodes).nodes in
      one_tree a.limit b.limit a.nodes b.nodes t
      (subst (IsMapOf a.limit (map_of a.nodes)) (ap (λ (u : Tree). alone u.names u.nodes) same) (aside a.limit (map_of a.nodes) (tree_of a.nodes) empty first.map))
      (aside b.limit (map_of b.nodes) (tree_of b.nodes) empty second.map)
