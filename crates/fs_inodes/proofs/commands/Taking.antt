-- A name goes from a directory, and the node that it named has one link less or goes.
use Rattle.std.proofs.Common.{◌≡◌, ℕ, List, [], ◌∷◌, ◌++◌, slice_get, Some, None, option_map, option_and_then, sym, refl, ap, ◌∙◌, ◌⊎◌, inl, inr, arith}
use Rattle.std.proofs.lemmas.Bool.{cases_eq}
use Rattle.std.specs.FinMap.{get, remove}
use Rattle.layout_bytes.specs.declared.slot.Slot.{Slot}
use Rattle.layout_directory.specs.Directory.{without_at}
use Rattle.lang_tree.specs.Tree.{Tree, IsSound}
use Rattle.lang_tree.specs.Names.{path_count}
use Rattle.lang_tree.specs.Step.{with_used}
use Rattle.crash_stands.specs.Inodes.{Inodes, ADir, AFile, AreDistinct, thing_of}
use Rattle.crash_stands.specs.Walks.{entries_of, entry_in}
use Rattle.fs_inodes.specs.Changes.{slot_of, TakesSlot, TakesName}
use Rattle.fs_inodes.specs.TreeLaws.{TreeLaws}
use Rattle.fs_inodes.proofs.basics.Paths.{Path}
use Rattle.fs_inodes.proofs.basics.FinMaps.{name_gone, name_left}
use Rattle.fs_inodes.proofs.slots.Slots.{finds, taken_distinct, taken_here, taken_other}
use Rattle.fs_inodes.proofs.agreement.Steps.{EntryIs, step_at, turn_goes}
use Rattle.fs_inodes.proofs.agreement.Agree.{Agrees, GoesOn}
use Rattle.fs_inodes.proofs.commands.Adding.{dir_file, counts_none}
use Rattle.fs_inodes.proofs.commands.Losing.{left_empty, one_less_path, used_other, lost_here, lost_links}

-- distinct slots, by another word for the list
pub distinct_as : {slots others : List Slot} → slots ≡ others → AreDistinct others → AreDistinct slots
distinct_as e distinct i j s u at_i at_j same = distinct i j s u (ap (λ l. slice_get l i) (sym e) ∙ at_i) (ap (λ l. slice_get l j) (sym e) ∙ at_j) same

-- A slot that goes is a name that goes.
pub takes_name : (limit : ℕ) (m new : Inodes) (t : Tree) (a : Agrees limit m t) (name : List ℕ) (d n : ℕ) → TakesSlot m new d n name → TakesName m new d n name
takes_name limit m new t a name d n ch =
    let distinct : AreDistinct ch.slots = a.distinct d ch.slots ch.dir in
    record {
      under = record {
        slots = ch.slots;
        dir = ch.dir;
        after = without_at ch.place ch.slots;
        now = ch.taken;
        here = taken_here ch.slots ch.place (slot_of n name) distinct ch.slot;
        others = taken_other ch.slots ch.place (slot_of n name) distinct ch.slot;
        distinct = taken_distinct ch.slots ch.place (slot_of n name) distinct ch.slot;
      };
      there = finds ch.slots ch.place (slot_of n name) distinct ch.slot;
      left = ch.left;
      others = ch.others;
    }

module _ (laws : TreeLaws) (limit : ℕ) (m new : Inodes) (t : Tree) (a : Agrees limit m t) (up : Path) (name : List ℕ) (d n : ℕ)
    (at_up : get t.names up ≡ Some d) (ch : TakesName m new d n name) (empty : (b : List ℕ) → entry_in (m n) b ≡ None) where
  -- the path leads to the node
  pub there : get t.names (up ++ name ∷ []) ≡ Some n
  there = step_at (entries_of m) (get t.names) a.goes up name d at_up ∙ ap (λ o. entry_in o name) ch.under.dir ∙ ch.there

  -- nothing is under the name, and no other entry changed
  entry : EntryIs (entries_of m) (entries_of new) d name None
  entry = record {
    here = ap (λ o. entry_in o name) ch.under.now ∙ ch.under.here;
    others = λ k b off. by k b off (cases_eq k d) (cases_eq k n);
  }
    where
      by : (k : ℕ) (b : List ℕ) → ((k ≡ d) × (b ≡ name) → ⊥) → (k ≡ d) ⊎ (k ≡ d → ⊥) → (k ≡ n) ⊎ (k ≡ n → ⊥) → entries_of new k b ≡ entries_of m k b
      by k b h1 h2 h3 = grind (arith, ch.left, left_empty, ch.others, ch.under.now, ch.under.others, ch.under.dir)

  -- the paths without this one go on as the new entries do
  taken_goes : GoesOn (entries_of new) (get (remove t.names (up ++ name ∷ [])))
  taken_goes = turn_goes (entries_of m) (entries_of new) (get t.names) (get (remove t.names (up ++ name ∷ []))) a.goes up name d None at_up
      (λ q at. a.sound.one_path d q up (a.nodes d ∙ ap (option_map thing_of) ch.under.dir) at at_up) entry (λ b. ap (option_and_then (λ k. entries_of m k b)) there ∙ empty b) (λ b. refl)
      (name_gone t.names (up ++ name ∷ [])) (name_left t.names (up ++ name ∷ []))

  -- the nodes that are left are those of the new map
  taken_nodes : (k : ℕ) → get (with_used t (remove t.names (up ++ name ∷ [])) n).nodes k ≡ option_map thing_of (new k)
  taken_nodes k = by (cases_eq k n) (cases_eq k d)
    where
      by : (k ≡ n) ⊎ (k ≡ n → ⊥) → (k ≡ d) ⊎ (k ≡ d → ⊥) → get (with_used t (remove t.names (up ++ name ∷ [])) n).nodes k ≡ option_map thing_of (new k)
      by (inl e) side =
          ap (get (with_used t (remove t.names (up ++ name ∷ [])) n).nodes) e ∙ lost_here laws limit m t a (up ++ name ∷ []) n there
          ∙ sym (ap (λ k. option_map thing_of (new k)) e ∙ ap (option_map thing_of) ch.left)
      by (inr off) (inl e) =
          used_other laws limit m t a (up ++ name ∷ []) n there k off ∙ ap (get t.nodes) e ∙ a.nodes d ∙ ap (option_map thing_of) ch.under.dir
          ∙ sym (ap (λ k. option_map thing_of (new k)) e ∙ ap (option_map thing_of) ch.under.now)
      by (inr off) (inr away) = used_other laws limit m t a (up ++ name ∷ []) n there k off ∙ a.nodes k ∙ ap (option_map thing_of) (sym (ch.others k away off))

  -- each file has as many paths as links
  taken_links : (k links : ℕ) (bytes : List ℕ) → new k ≡ Some (AFile links bytes) → path_count (remove t.names (up ++ name ∷ [])) k ≡ links
  taken_links k links bytes is = by (cases_eq k d) (cases_eq k n)
    where
      by : (k ≡ d) ⊎ (k ≡ d → ⊥) → (k ≡ n) ⊎ (k ≡ n → ⊥) → path_count (remove t.names (up ++ name ∷ [])) k ≡ links
      by (inl e) side = absurd (dir_file ch.under.after links bytes (ap new e ∙ ch.under.now) is)
      by (inr away) (inl e) =
          ap (path_count (remove t.names (up ++ name ∷ []))) e
          ∙ lost_links laws limit m t a (up ++ name ∷ []) n there links bytes (sym ch.left ∙ ap new (sym e) ∙ is)
      by (inr away) (inr off) =
          omega (arith, one_less_path laws limit m t a (up ++ name ∷ []) n there k, counts_none n k (λ e. off (sym e)), a.links k links bytes (sym (ch.others k away off) ∙ is))

  -- no directory has a name twice
  taken_slots_distinct : (k : ℕ) (slots : List Slot) → new k ≡ Some (ADir slots) → AreDistinct slots
  taken_slots_distinct k slots is = grind (arith, cases_eq k d, cases_eq k n, ch.under.after, ch.under.now, ch.under.distinct, ch.left, a.distinct, ch.others)

  -- the new map is that of the tree without the path
  pub taken_agrees : IsSound limit (with_used t (remove t.names (up ++ name ∷ [])) n) → Agrees limit new (with_used t (remove t.names (up ++ name ∷ [])) n)
  taken_agrees sound = record {
    sound = sound;
    goes = taken_goes;
    nodes = taken_nodes;
    links = taken_links;
    distinct = taken_slots_distinct;
  }
