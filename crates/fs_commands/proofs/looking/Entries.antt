-- What stands under a name in a directory, from what was found there, and what a path comes to then.
use Rattle.std.proofs.Common.{◌≡◌, ◌⊎◌, inl, inr, ℕ, ◌-◌, Bool, false, IsTrue, List, [], ◌∷◌, ◌++◌, length, slice_get, Option, None, Some, option_map, Result, Ok, refl, sym, subst, ap, ap₂, ◌∙◌, arith, length-append}
use Rattle.std.proofs.Math.Seq.{get_or-append_seam}
use Rattle.std.proofs.lemmas.Option.{none-some, slice_get-get_or, same_Some}
use Rattle.base_types.specs.declared.layout.Layout.{Layout}
use Rattle.layout_bytes.specs.declared.slot.Slot.{Slot}
use Rattle.lang_tree.specs.declared.command.Refusal.{Refusal}
use Rattle.lang_tree.specs.Tree.{Tree}
use Rattle.lang_tree.specs.Paths.{parent}
use Rattle.crash_stands.specs.Files.{Files}
use Rattle.crash_stands.specs.Inodes.{Inode, ADir, inodes_of}
use Rattle.crash_stands.specs.Maps.{IsMapOf}
use Rattle.fs_inodes.specs.Changes.{slot_of}
use Rattle.engine_blocks.specs.State.{Bookkeeping, State}
use Rattle.fs_files.specs.declared.look.FileFacts.{FileFacts}
use Rattle.fs_files.specs.Calls.{facts_of, files_in}
use Rattle.fs_files.specs.Drafts.{DraftState, begun_beside, nothing_drafted}
use Rattle.fs_files.specs.Effects.{LooksOnly}
use Rattle.fs_snapshots.specs.Nodes.{facts_are}
use Rattle.fs_dirs.specs.declared.lookup.Directory.{Directory}
use Rattle.fs_dirs.specs.declared.lookup.Found.{Found}
use Rattle.fs_dirs.specs.Directories.{inodes_in, EndsAtParent, Finds}
use Rattle.fs_commands.specs.declared.paths.Entry.{Entry}
use Rattle.fs_commands.specs.declared.paths.Spot.TheVariants.{Inside}
use Rattle.fs_commands.specs.Looks.{ComesTo, HasEntry}
use Rattle.fs_commands.proofs.looking.Found.{files_stay, is_used}
use Rattle.fs_commands.proofs.looking.Spots.{from_end, above}
use Rattle.fs_commands.proofs.Given.{PlaceLaw}

module _ (l : Layout) (files : Files) (dir : ℕ) (slots : List Slot) (name : List ℕ) (at : inodes_of l files dir ≡ Some (ADir slots)) where
  -- nothing was found
  pub no_entry : (found : Option Found) → found ≡ None → Finds slots name found → HasEntry l files dir (length slots) name None
  no_entry None none finds = record { slots = slots; dir = at; count = refl; place = finds.place; node = finds.node; facts = tt }
  no_entry (Some f) none finds = absurd (none-some f (sym none))

  -- a slot was found, and its node looked at
  pub an_entry : (found : Found) (facts : FileFacts) → Finds slots name (Some found) → Some facts ≡ option_map facts_of (files found.node)
      → HasEntry l files dir (length slots) name (Some (record { place = found.place; node = record { number = found.node; facts = facts } }))
  an_entry found facts finds known = record { slots = slots; dir = at; count = refl; place = finds.place; node = finds.node; facts = facts_are (files found.node) facts known }

  -- the node of a slot is in use
  pub no_stray : {A : Type 0} → PlaceLaw → ((k i : ℕ) (slots : List Slot) (s : Slot) → inodes_of l files k ≡ Some (ADir slots) → slice_get slots i ≡ Some s → (x : Inode) × (inodes_of l files s.node ≡ Some x))
      → (found : Found) → Finds slots name (Some found) → None ≡ option_map facts_of (files found.node) → A
  no_stray law used found finds unknown =
      let r = law slots name found.place (sym finds.place) in
      let x = used dir found.place slots (slot_of r.0 name) at r.1 in
      absurd (is_used _ (files found.node) x.0 (ap (inodes_of l files) (same_Some found.node r.0 (finds.node ∙ r.2)) ∙ x.1) unknown)

-- what the walk to the directory above a path comes to in an empty draft
pub above_as : {counts : List ℕ} (s : State) (d : DraftState) (path : List (List ℕ)) (end r : Result (Option Directory) Refusal) → d ≡ begun_beside counts → end ≡ r
    → ((t : Tree) → IsMapOf s.books.geom.i (inodes_in s d) t → EndsAtParent (inodes_in s d) path end)
    → (t : Tree) → IsMapOf s.books.geom.i (inodes_in s nothing_drafted) t → EndsAtParent (inodes_in s nothing_drafted) path r
above_as s d path end r none is ends t map =
    subst (λ e. EndsAtParent (inodes_in s e) path r) none (subst (λ o. EndsAtParent (inodes_in s d) path o) is (ends t (subst (λ e. IsMapOf s.books.geom.i (inodes_in s e) t) (sym none) map)))

-- the last name of a path
pub last_name : (path names : List (List ℕ)) (name : List ℕ) → names ≡ path → Some name ≡ slice_get names (length names - 1) → path ≡ parent path ++ name ∷ []
last_name path names name same is = by (from_end path)
  where
    at_end : (up : List (List ℕ)) (a : List ℕ) → slice_get (up ++ a ∷ []) (length (up ++ a ∷ []) - 1) ≡ Some a
    at_end up a =
        ap (slice_get (up ++ a ∷ [])) {x = length (up ++ a ∷ []) - 1} {y = length up} (omega (arith, length-append up (a ∷ [])))
        ∙ slice_get-get_or (up ++ a ∷ []) (length up) a (omega (arith, length-append up (a ∷ []))) ∙ ap Some (get_or-append_seam up a [] a)

    nothing : slice_get {X = List ℕ} [] 0 ≡ None
    nothing = refl

    by : (path ≡ []) ⊎ ((up : List (List ℕ)) × (a : List ℕ) × (path ≡ up ++ a ∷ [])) → path ≡ parent path ++ name ∷ []
    by (inl none) = absurd (none-some name (sym (is ∙ ap (λ l. slice_get l (length l - 1)) (same ∙ none) ∙ nothing)))
    by (inr r) =
        let named : name ≡ r.1 = same_Some name r.1 (is ∙ ap (λ l. slice_get l (length l - 1)) (same ∙ r.2) ∙ at_end r.0 r.1) in
        r.2 ∙ ap (λ n. r.0 ++ n ∷ []) (sym named) ∙ ap (λ up. up ++ name ∷ []) (sym (ap parent r.2 ∙ above r.0 r.1))

-- a path whose directory was found comes to an entry there, or to none
pub comes_inside : (l : Layout) (files : Files) (path names : List (List ℕ)) (name : List ℕ) (dir : Directory) (entry : Option Entry) → names ≡ path → Some name ≡ slice_get names (length names - 1) → EndsAtParent (inodes_of l files) path (Ok (Some dir))
    → ((slots : List Slot) → inodes_of l files dir.number ≡ Some (ADir slots) → HasEntry l files dir.number (length slots) name entry)
    → ComesTo l files path (Ok (Inside dir.number dir.count entry))
comes_inside l files path names name dir entry same is ends has =
    let slots = ends.2.0 in
    (parent path, name, last_name path names name same is, ends.1, subst (λ n. HasEntry l files dir.number n name entry) (sym ends.2.2) (has slots ends.2.1))

-- after looks an empty draft has the map that it had
module _ {counts : List ℕ} (tells : Bool) (s t : State) (d : DraftState) (none : d ≡ begun_beside counts) (told : IsTrue tells) (looks : LooksOnly tells false s t) where
  same : files_in t d ≡ files_in s nothing_drafted
  same = files_stay tells s t d none told looks

  pub map_stays : (tree : Tree) → IsMapOf s.books.geom.i (inodes_in s nothing_drafted) tree → IsMapOf t.books.geom.i (inodes_in t d) tree
  map_stays tree map = subst (λ (b : Bookkeeping). IsMapOf b.geom.i (inodes_in t d) tree) (sym looks.books) (subst (λ (k : Bookkeeping). IsMapOf s.books.geom.i (inodes_of k.geom.layout (files_in t d)) tree) (sym looks.books)
      (subst (λ files. IsMapOf s.books.geom.i (inodes_of s.books.geom.layout files) tree) (sym same) map))

  -- and what stands under a name there stood there before
  pub entry_stays : (dir : ℕ) (name : List ℕ) (entry : Option Entry) (tree : Tree) → IsMapOf s.books.geom.i (inodes_in s nothing_drafted) tree
      → ((u : Tree) (slots : List Slot) → IsMapOf t.books.geom.i (inodes_in t d) u → inodes_in t d dir ≡ Some (ADir slots) → HasEntry t.books.geom.layout (files_in t d) dir (length slots) name entry)
      → (slots : List Slot) → inodes_in s nothing_drafted dir ≡ Some (ADir slots) → HasEntry s.books.geom.layout (files_in s nothing_drafted) dir (length slots) name entry
  entry_stays dir name entry tree map has slots at =
      subst (λ files. HasEntry s.books.geom.layout files dir (length slots) name entry) same
      (subst (λ (k : Bookkeeping). HasEntry k.geom.layout (files_in t d) dir (length slots) name entry) looks.books
      (has tree slots (map_stays tree map) (ap₂ (λ (k : Bookkeeping) files. inodes_of k.geom.layout files dir) looks.books same ∙ at)))
