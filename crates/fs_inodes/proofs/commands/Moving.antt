-- What is at a path moves, whatever slots of which directories that changed: what these give of entries, nodes, links and names is a premise here.
use Rattle.std.proofs.Common.{◌≡◌, ℕ, false, true≢false, List, [], ◌∷◌, ◌++◌, Some, None, option_map, sym, ap, ◌∙◌, ◌⊎◌, inl, inr, arith}
use Rattle.std.specs.FinMap.{get, remove}
use Rattle.layout_bytes.specs.declared.slot.Slot.{Slot}
use Rattle.lang_tree.specs.declared.command.Cmd.TheVariants.{Rename}
use Rattle.lang_tree.specs.Tree.{Tree, Dir}
use Rattle.lang_tree.specs.Paths.{is_within}
use Rattle.lang_tree.specs.Names.{path_count, holds_names}
use Rattle.lang_tree.specs.Walk.{is_same_node}
use Rattle.lang_tree.specs.Conditions.{refusal}
use Rattle.lang_tree.specs.Step.{Session, step, moved, removed}
use Rattle.crash_stands.specs.Inodes.{Inodes, ADir, AFile, AreDistinct, thing_of}
use Rattle.crash_stands.specs.Walks.{entries_of, entry_in}
use Rattle.fs_inodes.specs.TreeLaws.{TreeLaws}
use Rattle.fs_inodes.proofs.basics.Paths.{Path, which, within_at, away}
use Rattle.fs_inodes.proofs.basics.FinMaps.{no_name}
use Rattle.fs_inodes.proofs.agreement.Steps.{step_at, move_goes}
use Rattle.fs_inodes.proofs.agreement.Agree.{Agrees, GoesOn}

-- below a path that holds no names, nothing stands
pub empty_at : (laws : TreeLaws) (limit : ℕ) (m : Inodes) (t : Tree) → Agrees limit m t → (p : Path) (n : ℕ) → get t.names p ≡ Some n → holds_names t.names p ≡ false
    → (b : List ℕ) → entry_in (m n) b ≡ None
empty_at laws limit m t a p n at free b = by (which (entry_in (m n) b))
  where
    by : (entry_in (m n) b ≡ None) ⊎ ((j : ℕ) × (entry_in (m n) b ≡ Some j)) → entry_in (m n) b ≡ None
    by (inl none) = none
    by (inr some) = absurd (true≢false (sym (laws.held t.names p [] b some.0 (step_at (entries_of m) (get t.names) a.goes p b n at ∙ some.1)) ∙ free))

-- the names that are left without a path
pub removed_names : (t : Tree) (path : Path) → (removed t path).names ≡ remove t.names path
removed_names t path = grind (arith, get t.names path, t.names, no_name)

module _ (laws : TreeLaws) (s : Session) (m new : Inodes) (a : Agrees s.limit.nodes m s.tree) (up to : Path) (name other : List ℕ) (d c n : ℕ)
    (at_up : get s.tree.names up ≡ Some d) (up_dir : get s.tree.nodes d ≡ Some Dir) (at_to : get s.tree.names to ≡ Some c) (to_dir : get s.tree.nodes c ≡ Some Dir)
    (there : get s.tree.names (up ++ name ∷ []) ≡ Some n)
    (accepted : refusal s.limit s.tree (Rename (up ++ name ∷ []) (to ++ other ∷ [])) ≡ None) (differ : is_same_node s.tree (up ++ name ∷ []) (to ++ other ∷ []) ≡ false)
    (entry_new : entries_of new c other ≡ Some n) (entry_gone : entries_of new d name ≡ None)
    (entry_others : (k : ℕ) (b : List ℕ) → ((k ≡ d) × (b ≡ name) → ⊥) → ((k ≡ c) × (b ≡ other) → ⊥) → entries_of new k b ≡ entries_of m k b)
    (nodes : (k : ℕ) → get (removed s.tree (to ++ other ∷ [])).nodes k ≡ option_map thing_of (new k))
    (links : (k links : ℕ) (bytes : List ℕ) → new k ≡ Some (AFile links bytes) → path_count (removed s.tree (to ++ other ∷ [])).names k ≡ links)
    (distinct : (k : ℕ) (slots : List Slot) → new k ≡ Some (ADir slots) → AreDistinct slots) where
  -- it doesn't lead below itself
  apart : is_within (up ++ name ∷ []) (to ++ other ∷ []) ≡ false
  apart = (laws.moved s.limit.nodes s.limit.layout s.tree (up ++ name ∷ []) (to ++ other ∷ []) a.sound accepted differ).0

  -- and not to what holds names
  free : holds_names s.tree.names (to ++ other ∷ []) ≡ false
  free = (laws.moved s.limit.nodes s.limit.layout s.tree (up ++ name ∷ []) (to ++ other ∷ []) a.sound accepted differ).1

  -- the tree after the step
  moved_tree : (step s (Rename (up ++ name ∷ []) (to ++ other ∷ []))).0.tree ≡ moved (removed s.tree (to ++ other ∷ [])) (up ++ name ∷ []) (to ++ other ∷ [])
  moved_tree = grind (arith, s.tree)

  -- the paths after the move go on as the new entries do
  moved_goes : GoesOn (entries_of new) (get (step s (Rename (up ++ name ∷ []) (to ++ other ∷ []))).0.tree.names)
  moved_goes = move_goes (entries_of m) (entries_of new) (get s.tree.names) (get (step s (Rename (up ++ name ∷ []) (to ++ other ∷ []))).0.tree.names) a.goes up to name other d c n
      at_up (λ q at. a.sound.one_path d q up up_dir at at_up) at_to (λ q at. a.sound.one_path c q to to_dir at at_to) there
      (λ r e. true≢false (sym (within_at (up ++ name ∷ []) (to ++ other ∷ []) r e) ∙ apart))
      entry_new entry_gone entry_others
      (λ r. laws.move_second s (up ++ name ∷ []) (to ++ other ∷ []) r a.sound accepted differ)
      (λ r. laws.move_first s (up ++ name ∷ []) (to ++ other ∷ []) r a.sound accepted differ)
      (λ q off_from off_to. laws.move_others s (up ++ name ∷ []) (to ++ other ∷ []) q a.sound accepted differ (away (up ++ name ∷ []) q off_from) (away (to ++ other ∷ []) q off_to))

  -- each number has as many paths as without the one that went
  moved_count : (k : ℕ) → path_count (step s (Rename (up ++ name ∷ []) (to ++ other ∷ []))).0.tree.names k ≡ path_count (removed s.tree (to ++ other ∷ [])).names k
  moved_count k = grind (arith, removed_names, s.tree, laws.count_moved, s.tree.names, free)

  -- the new map is that of the tree after the move
  pub moved_agrees : Agrees s.limit.nodes new (step s (Rename (up ++ name ∷ []) (to ++ other ∷ []))).0.tree
  moved_agrees = record {
    sound = laws.sound_step s (Rename (up ++ name ∷ []) (to ++ other ∷ [])) a.sound;
    goes = moved_goes;
    nodes = λ k. ap (λ t. get t.nodes k) moved_tree ∙ nodes k;
    links = λ k l bytes is. moved_count k ∙ links k l bytes is;
    distinct = distinct;
  }
