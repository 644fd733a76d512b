-- After each command that changes the nodes, their inode map is that of the tree after the command.
use Rattle.std.proofs.Common.{◌≡◌, ◌≢◌, ℕ, ◌+◌, ◌<◌, ◌==◌, nat_le, Bool, true, false, true≢false, if◌then◌else◌, List, [], ◌∷◌, ◌++◌, length, replicate, is_none, is_some, Option, Some, None, option_map, option_and_then, refl, sym, ap, ap₂, subst, ◌∙◌, arith, eq-eqb}
use Rattle.std.proofs.Math.Nat.{min-eq_left}
use Rattle.std.specs.FinMap.{get, insert, empty}
use Rattle.std.proofs.lemmas.Bool.Decides.{nat_tests}
use Rattle.std.proofs.lemmas.Grind.{common_steps}
use Rattle.base_types.specs.Counts.{next_count}
use Rattle.layout_bytes.specs.declared.slot.Slot.{Slot}
use Rattle.lang_tree.specs.declared.command.Cmd.{Cmd}
use Rattle.lang_tree.specs.declared.command.Cmd.TheVariants.{Mkdir, Create, Write, Fill, Truncate, Link, Unlink, Rmdir, Rename}
use Rattle.lang_tree.specs.declared.command.Refusal.{Refusal}
use Rattle.lang_tree.specs.declared.command.Refusal.TheVariants.{Exists, IsDir, NoNode, TooManyLinks}
use Rattle.lang_tree.specs.Tree.{Thing, Dir}
use Rattle.lang_tree.specs.Walk.{are_same, is_same_node}
use Rattle.lang_tree.specs.Conditions.{least_unused, refusal, when, first_reason}
use Rattle.lang_tree.specs.Step.{Session, step, written, resized}
use Rattle.crash_stands.specs.Inodes.{Inode, Inodes, ADir, AFile, thing_of}
use Rattle.crash_stands.specs.Maps.{IsMapOf}
use Rattle.crash_stands.specs.Walks.{entry_in, LeadsTo}
use Rattle.fs_inodes.specs.Changes.{new_inode, Sets, AddsName, TakesName, MovesName}
use Rattle.fs_inodes.specs.Lookups.{is_dir_inode, links_in, bytes_of, number_at, inode_at}
use Rattle.fs_inodes.specs.Refusals.{reason, walk_reason, parent_reason, make_reason}
use Rattle.fs_memtree.specs.Kept.{name_cmp, DirNames, Kept, KeptDir, KeptFile, KeptNodes, map_of, inode_of, slots_for, spot_at, changed_at, with_bytes, with_links, with_name}
use Rattle.fs_memtree.specs.Changes.{made, made_at, edited, linked, linked_at, removed, removed_at, moved, moved_at, is_that, put_and_take}
use Rattle.fs_memtree.specs.Laws.{MapLaws}
use Rattle.fs_memtree.proofs.maps.Slots.{as_slots, under_name}
use Rattle.fs_memtree.proofs.maps.Walking.{number_last, spot_is, by_parts}
use Rattle.fs_memtree.proofs.keys.InOrder.{entries_empty}
use Rattle.fs_memtree.proofs.rows.Row.{unused_there}
use Rattle.fs_memtree.proofs.serving.Changed.{kept_dir, kept_file, mapped, changed_here, changed_other}
use Rattle.fs_memtree.proofs.serving.Naming.{adds_node, adds_path, takes_path, moves_path}
use Rattle.fs_memtree.proofs.serving.Reasons.{no_reason, not_so, some_of, walked, parent_there, FileAt, file_there}

no_slots : inode_of (KeptDir empty) ≡ new_inode Dir
no_slots = ap (λ es. ADir (as_slots es)) (entries_empty name_cmp)

longer : (up : List (List ℕ)) (name : List ℕ) → up ++ name ∷ [] ≡ up → ⊥
longer [] name e = cc
longer (x ∷ up) name e = longer up name cc

last_there : {A B : Type 0} (f : A → Option B) (o : Option A) (n : B) → option_and_then f o ≡ Some n → (d : A) × (o ≡ Some d) × (f d ≡ Some n)
last_there f o n e = grind (arith, nat_tests)

is_none_of : {A : Type 0} (o : Option A) → is_none o ≡ true → o ≡ None
is_none_of o e = grind (arith, nat_tests)

one_link_more : (links : ℕ) → links < 65535 → next_count links ≡ links + 1
one_link_more links few = min-eq_left (omega (arith, few))

same_that : (n : ℕ) (o : Option ℕ) → o ≢ Some n → is_that n o ≡ false
same_that n o e = grind (arith, nat_tests)

-- what the code does with a move
moved_by : (nodes : KeptNodes) (a b : Option (ℕ × List ℕ)) (o p : Option ℕ) (from to : ℕ × List ℕ) (n : ℕ) (old : Option ℕ) (t : Bool) → a ≡ Some from → b ≡ Some to → o ≡ Some n → p ≡ old → is_that n old ≡ t
    → moved_at nodes a b o p ≡ (if t then (nodes, false) else (put_and_take nodes from to n old, true))
moved_by nodes a b o p from to n old t a_is b_is o_is p_is that = grind (arith, nat_tests)

moved_nowhere : (nodes : KeptNodes) (a b : Option (ℕ × List ℕ)) (n w : ℕ) → (n == w) ≡ true → moved_at nodes a b (Some n) (Some w) ≡ (nodes, false)
moved_nowhere nodes a b n w e = grind (arith, nat_tests)

module _ (laws : MapLaws) (s : Session) (nodes : KeptNodes) (is : IsMapOf s.limit.nodes (map_of nodes) s.tree) where
  abbrev m : Inodes
  m = map_of nodes

  -- no refusal, no reason
  reason_none : (cmd : Cmd) → refusal s.limit s.tree cmd ≡ None → reason s.limit.layout (least_unused s.limit.nodes s.tree) s.tree.snapshots m cmd ≡ None
  reason_none cmd e = sym (laws.refuses s.limit m s.tree cmd is) ∙ e

  dir_apart : (n d : ℕ) (names : DirNames) → m n ≡ None → get nodes d ≡ Some (KeptDir names) → n ≢ d
  dir_apart n d names none dir e = grind (arith, nat_tests, mapped)

  -- A name, with the directory in which it is.
  record Under (up : List (List ℕ)) (name : List ℕ) (n : ℕ) : Type 0 where
    d : ℕ
    leads : LeadsTo m up d
    names : DirNames
    dir : get nodes d ≡ Some (KeptDir names)
    entry : get names name ≡ Some n

  under_in : (o : Option Kept) (name : List ℕ) (n : ℕ) → entry_in (option_map inode_of o) name ≡ Some n → (names : DirNames) × (o ≡ Some (KeptDir names)) × (get names name ≡ Some n)
  under_in None name n e = absurd cc
  under_in (Some (KeptDir names)) name n e = (names, refl, sym (under_name names name) ∙ e)
  under_in (Some (KeptFile links bytes)) name n e = absurd cc

  under_there : (up : List (List ℕ)) (name : List ℕ) (n : ℕ) → LeadsTo m (up ++ name ∷ []) n → Under up name n
  under_there up name n leads =
      let r = last_there (λ j. entry_in (m j) name) (number_at m up) n (sym (number_last m up name) ∙ leads) in
      let u = under_in (get nodes r.0) name n r.2 in
      record { d = r.0; leads = r.1; names = u.0; dir = u.1; entry = u.2 }

  -- what is in a directory isn't the directory
  child_apart : (up : List (List ℕ)) (name : List ℕ) (n d : ℕ) (names : DirNames) → LeadsTo m up d → get nodes d ≡ Some (KeptDir names) → LeadsTo m (up ++ name ∷ []) n → n ≢ d
  child_apart up name n d names leads dir below e = grind (arith, nat_tests, longer, mapped)

  spot_there : (up : List (List ℕ)) (name : List ℕ) (d : ℕ) → LeadsTo m up d → spot_at m (up ++ name ∷ []) ≡ Some (d, name)
  spot_there up name d leads = spot_is m up name ∙ ap (option_map (λ d. (d, name))) leads

  -- A new node, under the least unused number.
  abbrev least : Option ℕ
  least = least_unused s.limit.nodes s.tree

  not_there : (o : Option Inode) → option_map thing_of o ≡ None → o ≡ None
  not_there None e = refl
  not_there (Some x) e = absurd (no_thing e)
    where
      no_thing : {x : Thing} → Some x ≡ None → ⊥
      no_thing e = cc

  no_inode : (n : ℕ) → least ≡ Some n → m n ≡ None
  no_inode n e = not_there (m n) (sym (is.shows.nodes n) ∙ unused_there s.limit.nodes s.tree n e)

  record Made (up : List (List ℕ)) (name : List ℕ) (x : Kept) : Type 0 where
    d : ℕ
    n : ℕ
    leads : LeadsTo m up d
    free : least ≡ Some n
    adds : AddsName m (map_of (made least nodes (up ++ name ∷ []) x)) d n name (inode_of x)

  makes : (up : List (List ℕ)) (name : List ℕ) (x : Kept) → make_reason s.limit.layout least m (up ++ name ∷ []) ≡ None → Made up name x
  makes up name x none =
      let path = up ++ name ∷ [] in
      let one = no_reason (parent_reason m path) _ none in
      let two = no_reason (when (is_some (number_at m path)) Exists) _ one.1 in
      let three = no_reason (when (is_none least) NoNode) _ two.1 in
      let p = parent_there m up name one.0 in
      let n = some_of least (not_so (is_none least) NoNode three.0) in
      let k = kept_dir nodes p.dir p.slots p.is in
      let made_is : insert (changed_at nodes p.dir (with_name name n.0)) n.0 x ≡ made least nodes path x = sym (ap₂ (λ a b. made_at nodes a b x) (spot_there up name p.dir p.leads) n.1) in
      record {
        d = p.dir;
        n = n.0;
        leads = p.leads;
        free = n.1;
        adds = subst (λ new. AddsName m (map_of new) p.dir n.0 name (inode_of x)) made_is
            (adds_node nodes p.dir n.0 k.0 name k.1 (dir_apart n.0 p.dir k.0 (no_inode n.0 n.1) k.1) x);
      }

  -- nothing is made at the root
  there_already : Some Exists ≡ None → ⊥
  there_already e = cc

  pub mkdir_mapped : (path : List (List ℕ)) → refusal s.limit s.tree (Mkdir path) ≡ None → IsMapOf s.limit.nodes (map_of (made least nodes path (KeptDir empty))) (step s (Mkdir path)).0.tree
  mkdir_mapped = by_parts (λ path. refusal s.limit s.tree (Mkdir path) ≡ None → IsMapOf s.limit.nodes (map_of (made least nodes path (KeptDir empty))) (step s (Mkdir path)).0.tree)
      (λ accepts. absurd (there_already (reason_none (Mkdir []) accepts)))
      (λ up name accepts.
      let c = makes up name (KeptDir empty) (reason_none (Mkdir (up ++ name ∷ [])) accepts) in
      laws.mkdir s m _ up name c.d c.n is accepts c.leads c.free (subst (λ x. AddsName m (map_of (made least nodes (up ++ name ∷ []) (KeptDir empty))) c.d c.n name x) no_slots c.adds))

  pub create_mapped : (path : List (List ℕ)) → refusal s.limit s.tree (Create path) ≡ None → IsMapOf s.limit.nodes (map_of (made least nodes path (KeptFile 1 []))) (step s (Create path)).0.tree
  create_mapped = by_parts (λ path. refusal s.limit s.tree (Create path) ≡ None → IsMapOf s.limit.nodes (map_of (made least nodes path (KeptFile 1 []))) (step s (Create path)).0.tree)
      (λ accepts. absurd (there_already (reason_none (Create []) accepts)))
      (λ up name accepts.
      let c = makes up name (KeptFile 1 []) (reason_none (Create (up ++ name ∷ [])) accepts) in
      laws.create s m _ up name c.d c.n is accepts c.leads c.free c.adds)

  -- Bytes of a file.
  file_met : (path : List (List ℕ)) (rest : List (Option Refusal)) → first_reason (walk_reason m path ∷ when (is_dir_inode (inode_at m path)) IsDir ∷ rest) ≡ None → FileAt m path
  file_met path rest none =
      let one = no_reason (walk_reason m path) (when (is_dir_inode (inode_at m path)) IsDir ∷ rest) none in
      file_there m s.limit.nodes s.tree path is one.0 (not_so (is_dir_inode (inode_at m path)) IsDir (no_reason (when (is_dir_inode (inode_at m path)) IsDir) rest one.1).0)

  sets_bytes : (path : List (List ℕ)) (n links : ℕ) (bytes : List ℕ) (change : List ℕ → List ℕ) → LeadsTo m path n → m n ≡ Some (AFile links bytes)
      → Sets m (map_of (edited nodes path (with_bytes change))) n (Some (AFile links (change bytes)))
  sets_bytes path n links bytes change leads file = grind (arith, nat_tests, mapped, changed_here, kept_file, changed_other)

  pub write_mapped : (path : List (List ℕ)) (offset : ℕ) (bytes : List ℕ) → 0 < length bytes → refusal s.limit s.tree (Write path offset bytes) ≡ None
      → IsMapOf s.limit.nodes (map_of (edited nodes path (with_bytes (written offset bytes)))) (step s (Write path offset bytes)).0.tree
  write_mapped path offset bytes some accepts =
      let f = file_met path _ (reason_none (Write path offset bytes) accepts) in
      laws.write s m _ path offset bytes f.node f.links f.bytes is accepts some f.leads f.is (sets_bytes path f.node f.links f.bytes (written offset bytes) f.leads f.is)

  pub fill_mapped : (path : List (List ℕ)) (offset count byte : ℕ) → 0 < count → refusal s.limit s.tree (Fill path offset count byte) ≡ None
      → IsMapOf s.limit.nodes (map_of (edited nodes path (with_bytes (written offset (replicate count byte))))) (step s (Fill path offset count byte)).0.tree
  fill_mapped path offset count byte some accepts =
      let f = file_met path _ (reason_none (Fill path offset count byte) accepts) in
      laws.fill s m _ path offset count byte f.node f.links f.bytes is accepts some f.leads f.is (sets_bytes path f.node f.links f.bytes (written offset (replicate count byte)) f.leads f.is)

  pub truncate_mapped : (path : List (List ℕ)) (size : ℕ) → size ≢ length (bytes_of (inode_at m path)) → refusal s.limit s.tree (Truncate path size) ≡ None
      → IsMapOf s.limit.nodes (map_of (edited nodes path (with_bytes (resized size)))) (step s (Truncate path size)).0.tree
  truncate_mapped path size other accepts =
      let f = file_met path _ (reason_none (Truncate path size) accepts) in
      let bytes : bytes_of (inode_at m path) ≡ f.bytes = ap bytes_of (ap (option_and_then m) f.leads ∙ f.is) in
      laws.truncate s m _ path size f.node f.links f.bytes is accepts (λ e. other (e ∙ ap length (sym bytes))) f.leads f.is (sets_bytes path f.node f.links f.bytes (resized size) f.leads f.is)

  -- Another path.
  pub link_mapped : (path other : List (List ℕ)) → refusal s.limit s.tree (Link path other) ≡ None → IsMapOf s.limit.nodes (map_of (linked nodes path other)) (step s (Link path other)).0.tree
  link_mapped path = by_parts (λ other. refusal s.limit s.tree (Link path other) ≡ None → IsMapOf s.limit.nodes (map_of (linked nodes path other)) (step s (Link path other)).0.tree) no_root last
    where
      no_root : refusal s.limit s.tree (Link path []) ≡ None → IsMapOf s.limit.nodes (map_of (linked nodes path [])) (step s (Link path [])).0.tree
      no_root accepts = absurd (there_already (no_reason (walk_reason m path) _ (reason_none (Link path []) accepts)).1)

      last : (up : List (List ℕ)) (name : List ℕ) → refusal s.limit s.tree (Link path (up ++ name ∷ [])) ≡ None → IsMapOf s.limit.nodes (map_of (linked nodes path (up ++ name ∷ []))) (step s (Link path (up ++ name ∷ []))).0.tree
      last up name accepts =
          let other = up ++ name ∷ [] in
          let one = no_reason (walk_reason m path) _ (reason_none (Link path other) accepts) in
          let two = no_reason (parent_reason m other) _ one.1 in
          let three = no_reason (when (is_some (number_at m other)) Exists) _ two.1 in
          let four = no_reason (when (is_dir_inode (inode_at m path)) IsDir) _ three.1 in
          let five = no_reason (when (nat_le 65535 (links_in (inode_at m path))) TooManyLinks) _ four.1 in
          let f = file_there m s.limit.nodes s.tree path is one.0 (not_so (is_dir_inode (inode_at m path)) IsDir four.0) in
          let p = parent_there m up name two.0 in
          let k = kept_dir nodes p.dir p.slots p.is in
          let few : nat_le 65535 f.links ≡ false = ap (nat_le 65535) (sym (ap links_in (ap (option_and_then m) f.leads ∙ f.is))) ∙ not_so (nat_le 65535 (links_in (inode_at m path))) TooManyLinks five.0 in
          let more : next_count f.links ≡ f.links + 1 = one_link_more f.links (grind (arith, few)) in
          let off : f.node ≢ p.dir = λ e. no_both (sym f.is ∙ ap m e ∙ p.is) in
          let adds = adds_path nodes p.dir f.node k.0 name k.1 off (with_links next_count) (KeptFile f.links f.bytes) (kept_file nodes f.node f.links f.bytes f.is) in
          let linked_is : changed_at (changed_at nodes p.dir (with_name name f.node)) f.node (with_links next_count) ≡ linked nodes path other = sym (ap₂ (linked_at nodes) f.leads (spot_there up name p.dir p.leads)) in
          laws.link s m _ path up name p.dir f.node f.links f.bytes is accepts f.leads f.is p.leads
          (subst (λ links. AddsName m (map_of (linked nodes path other)) p.dir f.node name (AFile links f.bytes)) more
          (subst (λ new. AddsName m (map_of new) p.dir f.node name (AFile (next_count f.links) f.bytes)) linked_is adds))
        where
          no_both : {links : ℕ} {bytes : List ℕ} {slots : List Slot} → Some (AFile links bytes) ≡ Some (ADir slots) → ⊥
          no_both e = cc

  -- A path that goes.
  takes : (up : List (List ℕ)) (name : List ℕ) (n : ℕ) → LeadsTo m (up ++ name ∷ []) n → (u : Under up name n) → TakesName m (map_of (removed nodes (up ++ name ∷ []))) u.d n name
  takes up name n leads u =
      subst (λ new. TakesName m (map_of new) u.d n name) (sym (ap₂ (removed_at nodes) (spot_there up name u.d u.leads) leads))
      (takes_path nodes u.d n u.names name u.dir (child_apart up name n u.d u.names u.leads u.dir leads) u.entry)

  pub unlink_mapped : (path : List (List ℕ)) → refusal s.limit s.tree (Unlink path) ≡ None → IsMapOf s.limit.nodes (map_of (removed nodes path)) (step s (Unlink path)).0.tree
  unlink_mapped = by_parts (λ path. refusal s.limit s.tree (Unlink path) ≡ None → IsMapOf s.limit.nodes (map_of (removed nodes path)) (step s (Unlink path)).0.tree)
      (λ accepts. absurd ((laws.unlinked s.limit.nodes s.tree [] (laws.sound s.limit.nodes m s.tree is) accepts).1 refl))
      (λ up name accepts.
      let path = up ++ name ∷ [] in
      let n = walked m path (no_reason (walk_reason m path) (when (is_dir_inode (inode_at m path)) IsDir ∷ []) (reason_none (Unlink path) accepts)).0 in
      let u = under_there up name n.0 n.1 in
      laws.unlink s m _ up name u.d n.0 is accepts u.leads (takes up name n.0 n.1 u))

  pub rmdir_mapped : (path : List (List ℕ)) → refusal s.limit s.tree (Rmdir path) ≡ None → IsMapOf s.limit.nodes (map_of (removed nodes path)) (step s (Rmdir path)).0.tree
  rmdir_mapped = by_parts (λ path. refusal s.limit s.tree (Rmdir path) ≡ None → IsMapOf s.limit.nodes (map_of (removed nodes path)) (step s (Rmdir path)).0.tree)
      (λ accepts. absurd ((laws.removed s.limit.nodes s.tree [] (laws.sound s.limit.nodes m s.tree is) accepts).1 refl))
      (λ up name accepts.
      let path = up ++ name ∷ [] in
      let n = walked m path (no_reason (walk_reason m path) _ (reason_none (Rmdir path) accepts)).0 in
      let u = under_there up name n.0 n.1 in
      laws.rmdir s m _ up name u.d n.0 is accepts u.leads (takes up name n.0 n.1 u))

  -- A move.
  numbers_same : (from to : List (List ℕ)) → is_same_node s.tree from to ≡ are_same (number_at m from) (number_at m to)
  numbers_same from to = ap₂ are_same (is.shows.names from) (is.shows.names to)

  pub stays : (from to : List (List ℕ)) → is_same_node s.tree from to ≡ true → moved nodes from to ≡ (nodes, false)
  stays from to same = grind (arith, common_steps, numbers_same, moved_nowhere)

  abbrev Moves : List (List ℕ) → List (List ℕ) → Type 0
  Moves from to = refusal s.limit s.tree (Rename from to) ≡ None → is_same_node s.tree from to ≡ false
      → IsMapOf s.limit.nodes (map_of (moved nodes from to).0) (step s (Rename from to)).0.tree × ((moved nodes from to).1 ≡ true)

  moves_between : (up to : List (List ℕ)) (name other : List ℕ) → Moves (up ++ name ∷ []) (to ++ other ∷ [])
  moves_between up to name other accepts differ =
      let from = up ++ name ∷ [] in
      let into = to ++ other ∷ [] in
      let none = reason_none (Rename from into) accepts in
      let one = no_reason (walk_reason m from) (parent_reason m into ∷ _) none in
      let two = no_reason (parent_reason m into) _ one.1 in
      let n = walked m from one.0 in
      let u = under_there up name n.0 n.1 in
      let p = parent_there m to other two.0 in
      let k = kept_dir nodes p.dir p.slots p.is in
      let at_into : number_at m into ≡ get k.0 other = number_last m to other ∙ ap (option_and_then (λ j. entry_in (m j) other)) p.leads ∙ ap (λ o. entry_in (option_map inode_of o) other) k.1 ∙ under_name k.0 other in
      let not_same : get k.0 other ≢ Some n.0 = λ e. true≢false (sym (numbers_same from into ∙ ap₂ are_same n.1 (at_into ∙ e) ∙ eq-eqb n.0 n.0 refl) ∙ differ) in
      let law = laws.moved s.limit.nodes s.limit.layout s.tree from into (laws.sound s.limit.nodes m s.tree is) accepts differ in
      let apart : (old : ℕ) → get k.0 other ≡ Some old → (old ≢ u.d) × (old ≢ p.dir) = λ old at. (
        λ e. true≢false (sym (laws.held s.tree.names into [] name n.0 (is.shows.names (into ++ name ∷ []) ∙ ap (λ q. number_at m (q ++ name ∷ [])) (is.shows.only u.d (slots_for u.names) up (mapped nodes u.d (KeptDir u.names) u.dir) u.leads into (at_into ∙ at ∙ ap Some e)) ∙ n.1)) ∙ law.1),
        λ e. child_apart to other old p.dir k.0 p.leads k.1 (at_into ∙ at) e,
      ) in
      let moves = moves_path nodes u.d p.dir n.0 u.names k.0 name other u.dir k.1 u.entry not_same apart in
      let moved_is : moved nodes from into ≡ (put_and_take nodes (u.d, name) (p.dir, other) n.0 (get k.0 other), true) =
      moved_by nodes (spot_at m from) (spot_at m into) (number_at m from) (number_at m into) (u.d, name) (p.dir, other) n.0 (get k.0 other) false
      (spot_there up name u.d u.leads) (spot_there to other p.dir p.leads) n.1 at_into (same_that n.0 (get k.0 other) not_same) in (
        laws.rename s m _ up to name other u.d p.dir n.0 is accepts u.leads p.leads (subst (λ new. MovesName m (map_of new.0) u.d p.dir n.0 name other) (sym moved_is) moves),
        ap (λ r. r.1) moved_is,
      )

  pub rename_mapped : (from to : List (List ℕ)) → Moves from to
  rename_mapped = by_parts (λ from. (to : List (List ℕ)) → Moves from to)
      (λ to accepts differ. absurd (true≢false (laws.moved s.limit.nodes s.limit.layout s.tree [] to (laws.sound s.limit.nodes m s.tree is) accepts differ).0))
      (λ up name. by_parts (Moves (up ++ name ∷ []))
      (λ accepts differ. absurd ((laws.moved s.limit.nodes s.limit.layout s.tree (up ++ name ∷ []) [] (laws.sound s.limit.nodes m s.tree is) accepts differ).2 refl))
      (λ to other. moves_between up to name other))
