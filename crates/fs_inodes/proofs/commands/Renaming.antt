-- What a move makes of the slots, within one directory or between two, to a free name or onto what is there: all in one shape.
use Rattle.std.proofs.Common.{◌≡◌, ℕ, false, List, [], ◌∷◌, ◌++◌, slice_get, Option, Some, None, option_map, option_and_then, sym, refl, ap, ap₂, ◌∙◌, ◌⊎◌, inl, inr, arith, ne_eqb}
use Rattle.std.proofs.lemmas.Bool.{cases_eq}
use Rattle.std.specs.FinMap.{get, remove}
use Rattle.std.proofs.lemmas.Option.{same_Some, none-some}
use Rattle.layout_bytes.specs.declared.slot.Slot.{Slot}
use Rattle.layout_directory.specs.Directory.{without_at}
use Rattle.lang_tree.specs.declared.command.Cmd.TheVariants.{Rename}
use Rattle.lang_tree.specs.Tree.{Tree, Dir}
use Rattle.lang_tree.specs.Names.{path_count}
use Rattle.lang_tree.specs.Walk.{is_same_node, are_same}
use Rattle.lang_tree.specs.Conditions.{refusal}
use Rattle.lang_tree.specs.Step.{Session, step, removed, removed_by, with_used}
use Rattle.crash_stands.specs.Inodes.{Inodes, ADir, AFile, AreDistinct, thing_of}
use Rattle.crash_stands.specs.Walks.{entries_of, entry_in, node_in}
use Rattle.fs_inodes.specs.Changes.{slot_of, with_slot, one_link_less, MovesSlot, MovesName}
use Rattle.fs_inodes.specs.TreeLaws.{TreeLaws}
use Rattle.fs_inodes.proofs.basics.Paths.{Path, which}
use Rattle.fs_inodes.proofs.slots.Slots.{finds, taken_distinct, taken_here, taken_other}
use Rattle.fs_inodes.proofs.slots.NamePlaces.{Puts, puts}
use Rattle.fs_inodes.proofs.agreement.Steps.{step_at}
use Rattle.fs_inodes.proofs.agreement.Agree.{Agrees}
use Rattle.fs_inodes.proofs.commands.Adding.{one_dir, counts_none}
use Rattle.fs_inodes.proofs.commands.Losing.{left_empty, left_no_dir, one_less_path, used_other, lost_here, lost_links}
use Rattle.fs_inodes.proofs.commands.Taking.{distinct_as}
use Rattle.fs_inodes.proofs.commands.Moving.{empty_at, moved_agrees}

module _ (limit : ℕ) (m : Inodes) (t : Tree) (a : Agrees limit m t) where
  -- a directory of the map is one of the tree
  dir_of : (d : ℕ) (slots : List Slot) → m d ≡ Some (ADir slots) → get t.nodes d ≡ Some Dir
  dir_of d slots is = a.nodes d ∙ ap (option_map thing_of) is

  -- what is under a name is at the path with that name
  pub under : (up : Path) (d : ℕ) (slots : List Slot) (b : List ℕ) → get t.names up ≡ Some d → m d ≡ Some (ADir slots) → get t.names (up ++ b ∷ []) ≡ node_in slots b
  under up d slots b at is = step_at (entries_of m) (get t.names) a.goes up b d at ∙ ap (λ o. entry_in o b) is

-- what isn't node n isn't the same node
not_same : (n : ℕ) (o : Option ℕ) → (o ≡ Some n → ⊥) → are_same (Some n) o ≡ false
not_same n o h1 = grind (arith, ne_eqb)

-- an option holds a number, or not
holds_number : (o : Option ℕ) (k : ℕ) → (o ≡ Some k) ⊎ (o ≡ Some k → ⊥)
holds_number o k = grind (arith, none-some, same_Some)

-- What holds of all numbers but w holds of w too, which loses a path.
module _ (laws : TreeLaws) (limit : ℕ) (m new : Inodes) (t : Tree) (a : Agrees limit m t) (target : Path) (w : ℕ) (there : get t.names target ≡ Some w)
    (left : new w ≡ option_and_then one_link_less (m w)) where
  -- the tree without the path that w had there
  gone_tree : removed t target ≡ with_used t (remove t.names target) w
  gone_tree = ap (removed_by t target) there

  -- the nodes that are left are those of the new map
  nodes_onto : ((k : ℕ) → (k ≡ w → ⊥) → option_map thing_of (m k) ≡ option_map thing_of (new k)) → (k : ℕ) → get (removed t target).nodes k ≡ option_map thing_of (new k)
  nodes_onto alike k = ap (λ t. get t.nodes k) gone_tree ∙ by (cases_eq k w)
    where
      by : (k ≡ w) ⊎ (k ≡ w → ⊥) → get (with_used t (remove t.names target) w).nodes k ≡ option_map thing_of (new k)
      by (inl e) = ap (get (with_used t (remove t.names target) w).nodes) e ∙ lost_here laws limit m t a target w there
          ∙ sym (ap (λ k. option_map thing_of (new k)) e ∙ ap (option_map thing_of) left)
      by (inr off) = used_other laws limit m t a target w there k off ∙ a.nodes k ∙ alike k off

  -- each file has as many paths as links
  links_onto : ((k links : ℕ) (bytes : List ℕ) → (k ≡ w → ⊥) → new k ≡ Some (AFile links bytes) → m k ≡ Some (AFile links bytes))
      → (k links : ℕ) (bytes : List ℕ) → new k ≡ Some (AFile links bytes) → path_count (removed t target).names k ≡ links
  links_onto same k links bytes is = ap (λ t. path_count t.names k) gone_tree ∙ by (cases_eq k w)
    where
      by : (k ≡ w) ⊎ (k ≡ w → ⊥) → path_count (remove t.names target) k ≡ links
      by (inl e) = ap (path_count (remove t.names target)) e ∙ lost_links laws limit m t a target w there links bytes (sym left ∙ ap new (sym e) ∙ is)
      by (inr off) = omega (arith, one_less_path laws limit m t a target w there k, counts_none w k (λ e. off (sym e)), a.links k links bytes (same k links bytes off is))

-- A slot that moves is a name that moves.
module _ (limit : ℕ) (m new : Inodes) (t : Tree) (a : Agrees limit m t) (name other : List ℕ) (d c n : ℕ) (ch : MovesSlot m new d c n name other) where
  -- no name comes twice in the first directory
  from_distinct : AreDistinct ch.slots
  from_distinct = a.distinct d ch.slots ch.from_dir

  -- the second directory with the new slot
  put : Puts ch.target (with_slot ch.target (slot_of n other)) (slot_of n other)
  put = puts ch.target (slot_of n other) (a.distinct c ch.target ch.into_dir)

  -- Within one directory.

  -- both lists are one
  one_list : d ≡ c → ch.target ≡ ch.slots
  one_list e = one_dir ch.target ch.slots ch.into_dir (ap m (sym e) ∙ ch.from_dir)

  -- and the two names differ
  two_names : d ≡ c → name ≡ other → ⊥
  two_names e same = ch.differ (ap (node_in ch.target) (sym same) ∙ ap (λ l. node_in l name) (one_list e) ∙ finds ch.slots ch.place (slot_of n name) from_distinct ch.slot)

  -- so the slot is where it was
  still_there : d ≡ c → slice_get (with_slot ch.target (slot_of n other)) ch.place ≡ Some (slot_of n name)
  still_there e = put.kept ch.place (slot_of n name) (ap (λ l. slice_get l ch.place) (one_list e) ∙ ch.slot) (two_names e)

  -- The slots of the first directory, just before its slot goes.
  record Source : Type 0 where
    list : List Slot
    distinct : AreDistinct list
    slot : slice_get list ch.place ≡ Some (slot_of n name)
    taken : new d ≡ Some (ADir (without_at ch.place list))
    others : (b : List ℕ) → ((d ≡ c) × (b ≡ other) → ⊥) → node_in list b ≡ node_in ch.slots b

  -- those with the new slot, or those that it had
  source : Source
  source = by (cases_eq d c)
    where
      by : (d ≡ c) ⊎ (d ≡ c → ⊥) → Source
      by (inl e) = record {
        list = with_slot ch.target (slot_of n other);
        distinct = put.distinct;
        slot = still_there e;
        taken = ch.within e;
        others = λ b off. put.others b (λ f. off (e, f)) ∙ ap (λ l. node_in l b) (one_list e);
      }
      by (inr apart) = record { list = ch.slots; distinct = from_distinct; slot = ch.slot; taken = (ch.across apart).0; others = λ b off. refl }

  -- the second name leads to the node
  entry_new : entries_of new c other ≡ Some n
  entry_new = by (cases_eq d c)
    where
      by : (d ≡ c) ⊎ (d ≡ c → ⊥) → entries_of new c other ≡ Some n
      by (inl e) = ap (λ k. entries_of new k other) (sym e) ∙ ap (λ o. entry_in o other) (ch.within e)
          ∙ taken_other (with_slot ch.target (slot_of n other)) ch.place (slot_of n name) put.distinct (still_there e) other (λ f. two_names e (sym f)) ∙ put.here
      by (inr apart) = ap (λ o. entry_in o other) (ch.across apart).1 ∙ put.here

  module _ (k : ℕ) (side : (k ≡ d) ⊎ (k ≡ c)) where
    -- the second directory, where it isn't the first one
    is_target : (k ≡ d → ⊥) → k ≡ c → new k ≡ Some (ADir (with_slot ch.target (slot_of n other)))
    is_target off e = ap new e ∙ (ch.across (λ f. off (e ∙ sym f))).1

    -- no other entry changed
    entry_stays : (b : List ℕ) → ((k ≡ d) × (b ≡ name) → ⊥) → ((k ≡ c) × (b ≡ other) → ⊥) → entries_of new k b ≡ entries_of m k b
    entry_stays b off_name off_other = by (cases_eq k d) side
      where
        by : (k ≡ d) ⊎ (k ≡ d → ⊥) → (k ≡ d) ⊎ (k ≡ c) → entries_of new k b ≡ entries_of m k b
        by (inl e) two = ap (λ k. entries_of new k b) e ∙ ap (λ o. entry_in o b) source.taken
            ∙ taken_other source.list ch.place (slot_of n name) source.distinct source.slot b (λ f. off_name (e, f))
            ∙ source.others b (λ both. off_other (e ∙ both.0, both.1))
            ∙ sym (ap (λ k. entries_of m k b) e ∙ ap (λ o. entry_in o b) ch.from_dir)
        by (inr off) (inl e) = absurd (off e)
        by (inr off) (inr e) = ap (λ o. entry_in o b) (is_target off e) ∙ put.others b (λ f. off_other (e, f)) ∙ sym (ap (λ k. entries_of m k b) e ∙ ap (λ o. entry_in o b) ch.into_dir)

    -- no name comes twice
    names_distinct : (slots : List Slot) → new k ≡ Some (ADir slots) → AreDistinct slots
    names_distinct slots is = by (cases_eq k d) side
      where
        by : (k ≡ d) ⊎ (k ≡ d → ⊥) → (k ≡ d) ⊎ (k ≡ c) → AreDistinct slots
        by (inl e) two = distinct_as (one_dir slots _ (ap new (sym e) ∙ is) source.taken) (taken_distinct source.list ch.place (slot_of n name) source.distinct source.slot)
        by (inr off) (inl e) = absurd (off e)
        by (inr off) (inr e) = distinct_as (one_dir slots _ is (is_target off e)) put.distinct

  -- the second directory stays one
  into_stays : (d ≡ c) ⊎ (d ≡ c → ⊥) → (after : List Slot) × (new c ≡ Some (ADir after))
  into_stays h1 = grind (arith, ch.across)

  -- so the name moves
  pub moves_name : MovesName m new d c n name other
  moves_name = record {
    slots = ch.slots;
    from_dir = ch.from_dir;
    there = finds ch.slots ch.place (slot_of n name) from_distinct ch.slot;
    target = ch.target;
    into_dir = ch.into_dir;
    differ = ch.differ;
    from_stays = (_, source.taken);
    into_stays = into_stays (cases_eq d c);
    gone = ap (λ o. entry_in o name) source.taken ∙ taken_here source.list ch.place (slot_of n name) source.distinct source.slot;
    come = entry_new;
    same = λ k b side off_name off_other. entry_stays k side b off_name off_other;
    distinct = λ k after side is. names_distinct k side after is;
    left = ch.left;
    others = ch.others;
  }

module _ (laws : TreeLaws) (s : Session) (m new : Inodes) (a : Agrees s.limit.nodes m s.tree) (up to : Path) (name other : List ℕ) (d c n : ℕ)
    (at_up : get s.tree.names up ≡ Some d) (at_to : get s.tree.names to ≡ Some c) (ch : MovesName m new d c n name other)
    (accepted : refusal s.limit s.tree (Rename (up ++ name ∷ []) (to ++ other ∷ [])) ≡ None) where
  -- the first path leads to the node
  first_path : get s.tree.names (up ++ name ∷ []) ≡ Some n
  first_path = under s.limit.nodes m s.tree a up d ch.slots name at_up ch.from_dir ∙ ch.there

  -- the second one leads where the second name does
  second_path : get s.tree.names (to ++ other ∷ []) ≡ node_in ch.target other
  second_path = under s.limit.nodes m s.tree a to c ch.target other at_to ch.into_dir

  -- and not to that node
  two_nodes : is_same_node s.tree (up ++ name ∷ []) (to ++ other ∷ []) ≡ false
  two_nodes = ap₂ are_same first_path second_path ∙ not_same n (node_in ch.target other) ch.differ

  -- nothing stands below what goes
  old_empty : (w : ℕ) → node_in ch.target other ≡ Some w → (b : List ℕ) → entry_in (m w) b ≡ None
  old_empty w is = empty_at laws s.limit.nodes m s.tree a (to ++ other ∷ []) w (second_path ∙ is) (laws.moved s.limit.nodes s.limit.layout s.tree (up ++ name ∷ []) (to ++ other ∷ []) a.sound accepted two_nodes).1

  -- Each number: one of the two directories, what goes, or another one.
  module _ (k : ℕ) where
    -- it is one of the two directories, or none
    which_side : ((k ≡ d) ⊎ (k ≡ c)) ⊎ ((k ≡ d → ⊥) × (k ≡ c → ⊥))
    which_side = grind (arith, cases_eq k d, cases_eq k c)

    -- a directory before and after
    dir_before : (k ≡ d) ⊎ (k ≡ c) → (slots : List Slot) × (m k ≡ Some (ADir slots))
    dir_before h1 = grind (arith, ch.slots, ch.from_dir, ch.target, ch.into_dir)

    dir_after : (k ≡ d) ⊎ (k ≡ c) → (slots : List Slot) × (new k ≡ Some (ADir slots))
    dir_after (inl e) = (ch.from_stays.0, ap new e ∙ ch.from_stays.1)
    dir_after (inr e) = (ch.into_stays.0, ap new e ∙ ch.into_stays.1)

    -- no other entry changed
    entry_others : (b : List ℕ) → ((k ≡ d) × (b ≡ name) → ⊥) → ((k ≡ c) × (b ≡ other) → ⊥) → entries_of new k b ≡ entries_of m k b
    entry_others b off_name off_other = by which_side (holds_number (node_in ch.target other) k)
      where
        by : ((k ≡ d) ⊎ (k ≡ c)) ⊎ ((k ≡ d → ⊥) × (k ≡ c → ⊥)) → (node_in ch.target other ≡ Some k) ⊎ (node_in ch.target other ≡ Some k → ⊥) → entries_of new k b ≡ entries_of m k b
        by (inl side) three = ch.same k b side off_name off_other
        by (inr off) (inl old) = ap (λ o. entry_in o b) (ch.left k old) ∙ left_empty (m k) b ∙ sym (old_empty k old b)
        by (inr off) (inr far) = ap (λ o. entry_in o b) (ch.others k off.0 off.1 far)

    -- every number but what goes stands for the same
    alike : (node_in ch.target other ≡ Some k → ⊥) → option_map thing_of (m k) ≡ option_map thing_of (new k)
    alike far = grind (arith, option_map thing_of, which_side, ch.others)

    -- and every file but what goes is the same
    file_same : (links : ℕ) (bytes : List ℕ) → (node_in ch.target other ≡ Some k → ⊥) → new k ≡ Some (AFile links bytes) → m k ≡ Some (AFile links bytes)
    file_same links bytes far is = grind (arith, which_side, ch.others)

    -- no directory has a name twice
    slots_distinct : (slots : List Slot) → new k ≡ Some (ADir slots) → AreDistinct slots
    slots_distinct slots is = by which_side (holds_number (node_in ch.target other) k)
      where
        by : ((k ≡ d) ⊎ (k ≡ c)) ⊎ ((k ≡ d → ⊥) × (k ≡ c → ⊥)) → (node_in ch.target other ≡ Some k) ⊎ (node_in ch.target other ≡ Some k → ⊥) → AreDistinct slots
        by (inl side) three = ch.distinct k slots side is
        by (inr off) (inl old) = absurd (left_no_dir (m k) slots (sym (ch.left k old) ∙ is))
        by (inr off) (inr far) = a.distinct k slots (sym (ch.others k off.0 off.1 far) ∙ is)

  -- the nodes once the second path is gone are those of the new map
  nodes_left : (k : ℕ) → get (removed s.tree (to ++ other ∷ [])).nodes k ≡ option_map thing_of (new k)
  nodes_left k = by (which (node_in ch.target other))
    where
      by : (node_in ch.target other ≡ None) ⊎ ((w : ℕ) × (node_in ch.target other ≡ Some w)) → get (removed s.tree (to ++ other ∷ [])).nodes k ≡ option_map thing_of (new k)
      by (inl none) = ap (λ t. get t.nodes k) (ap (removed_by s.tree (to ++ other ∷ [])) (second_path ∙ none)) ∙ a.nodes k ∙ alike k (λ e. none-some k (sym none ∙ e))
      by (inr some) = nodes_onto laws s.limit.nodes m new s.tree a (to ++ other ∷ []) some.0 (second_path ∙ some.1) (ch.left some.0 some.1)
          (λ j off. alike j (λ e. off (same_Some j some.0 (sym e ∙ some.1)))) k

  -- and each file has as many paths as links
  links_left : (k links : ℕ) (bytes : List ℕ) → new k ≡ Some (AFile links bytes) → path_count (removed s.tree (to ++ other ∷ [])).names k ≡ links
  links_left k links bytes is = by (which (node_in ch.target other))
    where
      by : (node_in ch.target other ≡ None) ⊎ ((w : ℕ) × (node_in ch.target other ≡ Some w)) → path_count (removed s.tree (to ++ other ∷ [])).names k ≡ links
      by (inl none) = ap (λ t. path_count t.names k) (ap (removed_by s.tree (to ++ other ∷ [])) (second_path ∙ none)) ∙ a.links k links bytes (file_same k links bytes (λ e. none-some k (sym none ∙ e)) is)
      by (inr some) = links_onto laws s.limit.nodes m new s.tree a (to ++ other ∷ []) some.0 (second_path ∙ some.1) (ch.left some.0 some.1)
          (λ j l bs off. file_same j l bs (λ e. off (same_Some j some.0 (sym e ∙ some.1)))) k links bytes is

  -- the new map is that of the tree after the move
  pub renamed_agrees : Agrees s.limit.nodes new (step s (Rename (up ++ name ∷ []) (to ++ other ∷ []))).0.tree
  renamed_agrees = moved_agrees laws s m new a up to name other d c n at_up (dir_of s.limit.nodes m s.tree a d ch.slots ch.from_dir) at_to (dir_of s.limit.nodes m s.tree a c ch.target ch.into_dir) first_path accepted two_nodes
      ch.come ch.gone entry_others
      nodes_left links_left slots_distinct
