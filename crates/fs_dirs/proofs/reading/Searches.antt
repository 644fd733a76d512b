-- A search for a name, block by block.
use Rattle.std.proofs.Common.{◌≡◌, ◌≢◌, ◌⊎◌, inl, inr, ℕ, ◌+◌, ◌-◌, ◌<◌, ◌≤◌, min, Bool, false, IsTrue, List, length, slice_get, All, Option, None, Some, IfSome, sym, subst, ap, ◌∙◌, arith, ⊎_elim}
use Rattle.std.proofs.lemmas.Bool.{cases_lt}
use Rattle.std.proofs.lemmas.Option.{slice_get_within, get_or_from_slice_get, same_Some}
use Rattle.base_types.specs.declared.layout.Layout.{Layout}
use Rattle.base_types.specs.Layouts.{slots_in_block}
use Rattle.layout_bytes.specs.declared.slot.Slot.{Slot}
use Rattle.layout_directory.specs.Directory.{ReadAs, place_of}
use Rattle.lang_tree.specs.Tree.{Tree}
use Rattle.crash_stands.specs.Inodes.{Inode, Inodes, ADir}
use Rattle.crash_stands.specs.Maps.{IsMapOf}
use Rattle.crash_stands.specs.Walks.{node_in}
use Rattle.engine_blocks.specs.State.{State}
use Rattle.fs_files.specs.NodeMaps.{NodeMap}
use Rattle.fs_files.specs.Effects.{LooksOnly}
use Rattle.fs_inodes.specs.Changes.{slot_of}
use Rattle.fs_dirs.specs.declared.lookup.Found.{Found}
use Rattle.fs_dirs.specs.Directories.{Finds, IsNumber}
use Rattle.fs_dirs.specs.Reading.{HasSlots, MissesBefore, HasSought, slots_from}
use Rattle.fs_dirs.proofs.reading.BlockSlots.{begins_next}
use Rattle.fs_dirs.proofs.reading.Looks.{looks_more}
use Rattle.fs_dirs.proofs.reading.Names.{finds_slot, finds_nothing}
use Rattle.fs_dirs.proofs.reading.Parts.{part_at, part_has, part_length}

-- a place before the block, or in it
before_or_in : (n k first : ℕ) → k < first + n → (k < first) ⊎ ((first ≤ k) × (k - first < n))
before_or_in n k first low = ⊎_elim (λ h. inl h)
    (λ h. inr (h, omega (arith, low, h)))
    (cases_lt k first)

-- no slot before the block has the name, and none in it
pub misses_more : (l : Layout) (slots : List Slot) (name : List ℕ) (first : ℕ) → MissesBefore slots name first → ((k : ℕ) (s : Slot) → slice_get (slots_from l first slots) k ≡ Some s → s.name ≢ name) → MissesBefore slots name (first + slots_in_block l)
misses_more l slots name first before none k s low at = ⊎_elim (λ h. before k s h at)
    (λ h. none (k - first) s (part_has (slots_in_block l) first slots (k - first) s h.1 (ap (slice_get slots) {x = first + (k - first)} {y = k} (omega (arith, h.0)) ∙ at)))
    (before_or_in (slots_in_block l) k first low)

-- no slot before the one that was found in the block has the name
misses_upto : (l : Layout) (slots : List Slot) (name : List ℕ) (first p : ℕ) → p < slots_in_block l → MissesBefore slots name first → MissesBefore (slots_from l first slots) name p → MissesBefore slots name (first + p)
misses_upto l slots name first p small before none k s low at = ⊎_elim (λ h. before k s h at)
    (λ h. none (k - first) s (omega (arith, low, h.0)) (part_has (slots_in_block l) first slots (k - first) s h.1 (ap (slice_get slots) {x = first + (k - first)} {y = k} (omega (arith, h.0)) ∙ at)))
    (before_or_in (slots_in_block l) k first (omega (arith, low, small)))

module _ (first_law : (name : List ℕ) (slots : List Slot) (i k : ℕ) (s : Slot) → place_of name slots ≡ Some i → k < i → slice_get slots k ≡ Some s → s.name ≢ name)
    (missing_law : (name : List ℕ) (slots : List Slot) → place_of name slots ≡ None → All (λ (s : Slot). s.name ≢ name) slots)
    (found_law : (slots : List Slot) (name : List ℕ) (place : ℕ) → place_of name slots ≡ Some place → (node : ℕ) × (slice_get slots place ≡ Some (slot_of node name)) × (node_in slots name ≡ Some node)) where
  -- what was found is at its place
  pub slot_there : (slots : List Slot) (name : List ℕ) (found : Found) → Finds slots name (Some found) → slice_get slots found.place ≡ Some (slot_of found.node name)
  slot_there slots name found h =
      let r = found_law slots name found.place (sym h.place) in
      r.1 ∙ ap (λ n. Some (slot_of n name)) (same_Some r.0 found.node (sym r.2 ∙ sym h.node))

  -- and where nothing was found, no slot has the name
  pub none_there : (slots : List Slot) (name : List ℕ) → Finds slots name None → (k : ℕ) (s : Slot) → slice_get slots k ≡ Some s → s.name ≢ name
  none_there slots name h k s at =
      subst (λ (t : Slot). t.name ≢ name) (get_or_from_slice_get slots k s s at) (missing_law name slots (sym h.place) k s (slice_get_within slots k s at))

  -- a slot found in the block is found in the directory
  pub found_in_block : (l : Layout) (slots : List Slot) (name : List ℕ) (first : ℕ) (found : Found) → found.place < slots_in_block l → MissesBefore slots name first → Finds (slots_from l first slots) name (Some found) → Finds slots name (Some (record { place = first + found.place; node = found.node }))
  found_in_block l slots name first found small before h =
      finds_slot slots name (first + found.place) found.node (part_at (slots_in_block l) first slots found.place (slot_of found.node name) (slot_there (slots_from l first slots) name found h))
      (misses_upto l slots name first found.place small before (λ k s low at. first_law name (slots_from l first slots) found.place k s (sym h.place) low at))

  -- the search goes on behind a block in which nothing was found
  pub sought_more : (tells : Bool) (start now new : State) (v : NodeMap) (node : List ℕ) (count : ℕ) (name : List ℕ) (first : ℕ) → HasSought tells start now v node count name first → LooksOnly tells false now new
      → (IsTrue tells → (slots : List Slot) → HasSlots start.books.geom.layout v node slots → length slots ≡ count → Finds (slots_from start.books.geom.layout first slots) name None) → HasSought tells start new v node count name (first + slots_in_block start.books.geom.layout)
  sought_more tells start now new v node count name first h looks none = record {
    looks = looks_more tells false start now new h.looks looks;
    begins = begins_next start.books.geom.layout first h.begins;
    misses = λ told slots has many. misses_more start.books.geom.layout slots name first (h.misses told slots has many) (none_there (slots_from start.books.geom.layout first slots) name (none told slots has many));
  }

-- how many slots the block has
pub entries_are : (l : Layout) (slots : List Slot) (count first entries : ℕ) → length slots ≡ count → entries ≡ min (count - first) (slots_in_block l) → length (slots_from l first slots) ≡ entries
entries_are l slots count first entries many e = omega (arith, e, many, part_length (slots_in_block l) first slots)

-- the slots of a block that was read, in a later state
pub read_entries : (l k : Layout) (v w : NodeMap) (first : ℕ) (node block : List ℕ) (slots : List Slot) → k ≡ l → w ≡ v → HasSlots l v node slots
    → ((slots : List Slot) → HasSlots k w node slots → ReadAs k block (slots_from k first slots)) → ReadAs l block (slots_from l first slots)
read_entries l k v w first node block slots layout same has reads =
    subst (λ n. ReadAs n block (slots_from n first slots)) layout (reads slots (subst (λ n. HasSlots n w node slots) (sym layout) (subst (λ x. HasSlots l x node slots) (sym same) has)))

-- at the end nothing was found
pub finds_end : (slots : List Slot) (name : List ℕ) (count first : ℕ) → length slots ≡ count → count ≤ first → MissesBefore slots name first → Finds slots name None
finds_end slots name count first many all misses = finds_nothing slots name first (omega (arith, all, many)) misses

-- a name stands at its place, as the law says it
abbrev pub NamesAreFound : Type 0
NamesAreFound = (slots : List Slot) (name : List ℕ) (place : ℕ) → place_of name slots ≡ Some place → (node : ℕ) × (slice_get slots place ≡ Some (slot_of node name)) × (node_in slots name ≡ Some node)

-- what was found in a directory of a tree's map is a number of the table
pub number_found : NamesAreFound
    → (limit l dir : ℕ) (m : Inodes) (t : Tree) (slots : List Slot) (name : List ℕ) (found : Option Found) → limit ≡ l → IsMapOf l m t
    → ((k i : ℕ) (slots : List Slot) (s : Slot) → m k ≡ Some (ADir slots) → slice_get slots i ≡ Some s → (x : Inode) × (m s.node ≡ Some x))
    → m dir ≡ Some (ADir slots) → Finds slots name found → IfSome found (λ (f : Found). IsNumber limit f.node)
number_found law limit l dir m t slots name None e map used is h = tt
number_found law limit l dir m t slots name (Some f) e map used is h =
    let r = law slots name f.place (sym h.place) in
    let x = used dir f.place slots (slot_of r.0 name) is r.1 in
    let same : r.0 ≡ f.node = same_Some r.0 f.node (sym r.2 ∙ sym h.node) in
    let low = map.within r.0 x.0 x.1 in
    record { from = omega (arith, low.0, same); upto = omega (arith, low.1, same, e) }
