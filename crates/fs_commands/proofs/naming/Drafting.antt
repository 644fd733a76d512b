-- A name drafted: first a slot, and then the node that it names.
use Rattle.base_types.specs.Layouts.{most_runs}
use Rattle.std.proofs.Common.{◌≡◌, ◌≢◌, ◌⊎◌, inl, inr, ℕ, ◌+◌, ◌^◌, ◌≤◌, ◌<◌, Bool, false, List, [], ◌∷◌, ◌++◌, length, take, Option, None, Some, option_map, option_and_then, IfSome, sym, refl, subst, ap, ◌∙◌, arith}
use Rattle.std.specs.Prelude.{IfNone}
use Rattle.std.proofs.lemmas.Bool.{cases_eq, cases_lt}
use Rattle.std.proofs.lemmas.Option.{none-some}
use Rattle.std.proofs.lemmas.List.{append-nil, length-append, length-take}
use Rattle.base_types.specs.declared.layout.Layout.{Layout}
use Rattle.layout_geometry.specs.Geometry.{Geometry}
use Rattle.layout_extent.specs.Runs.{stretches}
use Rattle.layout_bytes.specs.declared.slot.Slot.{Slot}
use Rattle.layout_bytes.specs.declared.node.Node.{Node}
use Rattle.layout_bytes.specs.declared.node.NodeKind.TheVariants.{Dir as DirNode, File as FileKind, Snapshot}
use Rattle.lang_tree.specs.declared.command.Kind.{Kind}
use Rattle.lang_tree.specs.declared.command.Kind.TheVariants.{Dir, File}
use Rattle.lang_tree.specs.Figures.{adding, growth}
use Rattle.lang_tree.specs.Tree.{Dir as DirThing, File as FileThing}
use Rattle.crash_stands.specs.Files.{FileNode, Files, file_of, used_node}
use Rattle.crash_stands.specs.Inodes.{Inode, ADir, AFile, AreInodesOf, inode_of, inodes_of}
use Rattle.fs_inodes.specs.Changes.{AddsSlot, new_inode, slot_of}
use Rattle.engine_blocks.specs.State.{Bookkeeping, State, reusable_blocks}
use Rattle.fs_files.specs.Calls.{files_in, places_in, places_or_none, IsUsed, IsLeastUnused, IsWithFile, IsWithPlaces}
use Rattle.fs_files.specs.Bytes.{blocks_for}
use Rattle.fs_files.specs.Drafts.{DraftState, begun_beside, drafted, nothing_drafted}
use Rattle.fs_files.specs.Effects.{LooksOnly, LooksAndSettles}
use Rattle.fs_dirs.specs.Changing.{Alters, IsWithSlots}
use Rattle.fs_session.specs.Changes.{IsWithinCost, Uses}
use Rattle.fs_session.specs.Commands.{places_of, GrowsInRuns}
use Rattle.fs_commands.specs.Making.{AddsName, first_thing, node_kind}
use Rattle.fs_session.specs.Sessions.{AreUsedBelow, inodes}
use Rattle.fs_session.specs.Space.{ArePlaced, none_renewed}
use Rattle.fs_commands.proofs.Placing.{placed_grown, placed_then}
use Rattle.fs_commands.proofs.Given.{PriceLaw, SumLaw}
use Rattle.fs_commands.proofs.keeping.Begun.{altered_beside}
use Rattle.fs_commands.proofs.looking.InUse.{still_used}
use Rattle.lang_tree.specs.Sharing.{none_shared}
use Rattle.fs_session.specs.NothingKept.{runs_behind}

-- once the least node that wasn't in use is so, all up to the number from which it was sought are
pub used_upto : (limit n : ℕ) (old new : Files) (x : FileNode) (E : Type 0) (found : Option ℕ) → n ≤ limit → AreUsedBelow old n → (E → (l : ℕ) → new l ≡ old l)
    → IfSome found (λ k. IsLeastUnused limit old k × IsWithFile old new k (Some x)) → IfNone found (((l : ℕ) → 1 ≤ l → l ≤ limit → IsUsed old l) × E) → AreUsedBelow new (n + 1)
used_upto limit n old new x E None upto before same some none l above below = let u = none.0 l above (omega (arith, below, upto)) in (u.0, same none.1 l ∙ u.1)
used_upto limit n old new x E (Some k) upto before same some none l above below = by (cases_eq l k)
  where
    later : (k < n) ⊎ (n ≤ k) → n ≤ k
    later (inl low) = let u = before k some.0.from low in absurd (none-some u.0 (sym some.0.unused ∙ u.1))
    later (inr h) = h

    by : (l ≡ k) ⊎ (l ≢ k) → IsUsed new l
    by (inl e) = (x, ap new e ∙ some.1.own)
    by (inr ne) = let u = some.0.below l above (omega (arith, below, ne, later (cases_lt k n))) in (u.0, some.1.others l ne ∙ u.1)

-- all that were in use stay so
pub used_with : (limit : ℕ) (old new : Files) (x : FileNode) (E : Type 0) (found : Option ℕ) → (E → (l : ℕ) → new l ≡ old l)
    → IfSome found (λ k. IsLeastUnused limit old k × IsWithFile old new k (Some x)) → IfNone found (((l : ℕ) → 1 ≤ l → l ≤ limit → IsUsed old l) × E) → (l : ℕ) → IsUsed old l → IsUsed new l
used_with limit old new x E None same some none l u = (u.0, same none.1 l ∙ u.1)
used_with limit old new x E (Some k) same some none l u = still_used old new k x some.1 l u

-- the number from which it was sought is the one that was found, where that wasn't in use
pub found_is : (limit n : ℕ) (old : Files) (P : ℕ → Type 0) (Q : Type 0) (found : Option ℕ) → 1 ≤ n → n ≤ limit → old n ≡ None → AreUsedBelow old n → IfSome found (λ k. IsLeastUnused limit old k × P k)
    → IfNone found (((l : ℕ) → 1 ≤ l → l ≤ limit → IsUsed old l) × Q) → (found ≡ Some n) × P n
found_is limit n old P Q None from upto unused before some none = let u = none.0 n from upto in absurd (none-some u.0 (sym unused ∙ u.1))
found_is limit n old P Q (Some k) from upto unused before some none = by (cases_eq k n)
  where
    by : (k ≡ n) ⊎ (k ≢ n) → (Some k ≡ Some n) × P n
    by (inl e) = (ap Some e, subst P e some.1)
    by (inr ne) = other (cases_lt k n)
      where
        other : (k < n) ⊎ (n ≤ k) → (Some k ≡ Some n) × P n
        other (inl low) = let u = before k some.0.from low in absurd (none-some u.0 (sym some.0.unused ∙ u.1))
        other (inr h) = let u = some.0.below n from (omega (arith, h, ne)) in absurd (none-some u.0 (sym unused ∙ u.1))

-- a directory is no file
pub dir_no_file : (slots : List Slot) (links : ℕ) (bytes : List ℕ) → Some (ADir slots) ≡ Some (AFile links bytes) → ⊥
dir_no_file slots links bytes e = absurd cc

-- a new node is no snapshot
pub plain_kind : (kind : Kind) → node_kind kind ≢ Snapshot
plain_kind Dir e = absurd cc
plain_kind File e = absurd cc

-- what a new node of each kind reads as
pub first_read : (l : Layout) → inode_of l (record { kind = DirNode; links = 1; bytes = [] }) ≡ Some (new_inode DirThing) → inode_of l (record { kind = FileKind; links = 1; bytes = [] }) ≡ Some (new_inode (FileThing []))
    → (kind : Kind) → inode_of l (record { kind = node_kind kind; links = 1; bytes = [] }) ≡ Some (new_inode (first_thing kind))
first_read l dir file Dir = dir
first_read l dir file File = file

-- each node in use that is no snapshot reads as an inode
abbrev pub DoesRead : Layout → Files → Type 0
DoesRead l files = (k : ℕ) (file : FileNode) → files k ≡ Some file → file.kind ≢ Snapshot → (i : Inode) × (inode_of l file ≡ Some i)

-- A slot was added to a draft that began beside what is kept, and then the node that it names became y.
module _ (tells : Bool) (old mid now : State) (d e : DraftState) (dir node : ℕ) (name : List ℕ) (slots : List Slot) (x : Inode) (y : FileNode) (at : inodes old dir ≡ Some (ADir slots)) (apart : dir ≢ node)
    (reads : DoesRead old.books.geom.layout (files_in old nothing_drafted))
    (slotted : IsWithSlots old.books.geom.layout (files_in old nothing_drafted) (files_in mid d) dir (slots ++ slot_of node name ∷ [])) (set : IsWithFile (files_in mid d) (files_in now e) node (Some y)) (reads_as : inode_of old.books.geom.layout y ≡ Some x) where
  -- the slot is there
  slot_added : AddsSlot (inodes old) (inodes_of old.books.geom.layout (files_in now e)) dir node name x
  slot_added = record {
    slots = slots;
    dir = at;
    added = ap (option_and_then (inode_of old.books.geom.layout)) (set.others dir apart) ∙ slotted.inodes.here;
    named = ap (option_and_then (inode_of old.books.geom.layout)) set.own ∙ reads_as;
    others = λ k up other. ap (option_and_then (inode_of old.books.geom.layout)) (set.others k other) ∙ slotted.inodes.others k up;
  }

  -- each node in use that is no snapshot reads as an inode still
  all_read : DoesRead old.books.geom.layout (files_in now e)
  all_read k file is plain = by (cases_eq k node) (cases_eq k dir)
    where
      by : (k ≡ node) ⊎ (k ≢ node) → (k ≡ dir) ⊎ (k ≢ dir) → (i : Inode) × (inode_of old.books.geom.layout file ≡ Some i)
      by (inl same) o = (x, ap (option_and_then (inode_of old.books.geom.layout)) (sym is ∙ ap (files_in now e) same ∙ set.own) ∙ reads_as)
      by (inr n) (inl o) = (ADir (slots ++ slot_of node name ∷ []), ap (option_and_then (inode_of old.books.geom.layout)) (sym is ∙ set.others k n) ∙ ap (inodes_of old.books.geom.layout (files_in mid d)) o ∙ slotted.inodes.here)
      by (inr n) (inr o) = reads k file (sym (slotted.others k o) ∙ sym (set.others k n) ∙ is) plain

  module _ (counts : List ℕ) (alters : Alters 2 (take (growth old.books.geom.layout (length slots)) (reusable_blocks mid.books)) 0 (begun_beside counts) d) (then_alters : Alters 1 [] 0 d e)
      (settles : LooksAndSettles tells false false old mid) (looks : LooksOnly tells false mid now) (rests : growth old.books.geom.layout (length slots) ≤ length (reusable_blocks old.books) → LooksOnly tells false old mid)
      (grown : IsWithPlaces (places_of old) (places_in mid d) dir (places_of old dir ++ take (growth old.books.geom.layout (length slots)) (reusable_blocks mid.books))) (then_placed : ArePlaced none_renewed (places_in mid d) (places_in now e) [])
      (room : growth old.books.geom.layout (length slots) ≤ length (reusable_blocks mid.books)) (runs : stretches (places_of old dir ++ take (growth old.books.geom.layout (length slots)) (reusable_blocks mid.books)) ≤ most_runs old.books.geom.layout)
      (both : SumLaw)
      (priced : PriceLaw)
      (read : (l : Layout) (files : Files) → DoesRead l files → AreInodesOf l files (inodes_of l files)) where
    -- the blocks by which the directory grows
    abbrev more : List ℕ
    more = take (growth old.books.geom.layout (length slots)) (reusable_blocks mid.books)

    -- the disk is laid out as it was
    same : now.books.geom ≡ old.books.geom
    same = ap (λ (b : Bookkeeping). b.geom) looks.books ∙ settles.pipeline.geom

    -- what both calls altered
    all : Alters 3 (more ++ []) 0 nothing_drafted e
    all = altered_beside counts 3 (more ++ []) 0 e (both 2 1 0 0 more [] (begun_beside counts) d e alters then_alters)

    -- it costs no more than a name more does
    within : (g : Geometry) → IsWithinCost g e (adding (growth old.books.geom.layout (length slots))).cost
    within g =
        let p = priced g 3 0 (more ++ []) e all in
        record {
          blocks = p.0;
          only = p.1;
          price = omega (arith, p.2, length-append more [], length-take (growth old.books.geom.layout (length slots)) (reusable_blocks mid.books));
          some = λ costs. all.some;
        }

    -- it takes what the directory grows by
    takes : Uses (growth old.books.geom.layout (length slots)) 0 (reusable_blocks mid.books) none_renewed (places_of old) (places_in now e) e
    takes = record {
      taken = all.taken ∙ append-nil more;
      freed_are = all.freed;
      placed = placed_then (places_of old) (places_in mid d) (places_in now e) more (placed_grown (places_of old) (places_in mid d) dir more grown) then_placed;
    }

    pub name_added : AddsName old now e dir node name x slots
    name_added = record {
      adds = subst (λ (g : Geometry). AddsSlot (inodes old) (inodes_of g.layout (files_in now e)) dir node name x) (sym same) slot_added;
      reads = subst (λ (g : Geometry). AreInodesOf g.layout (files_in now e) (inodes_of g.layout (files_in now e))) (sym same) (read old.books.geom.layout (files_in now e) all_read);
      within = within now.books.geom;
      runs = subst (λ (k : Bookkeeping). GrowsInRuns none_shared old k dir (growth old.books.geom.layout (length slots))) (sym looks.books) (runs_behind old mid.books dir (growth old.books.geom.layout (length slots)) room runs);
      uses = subst (λ (k : Bookkeeping). Uses (growth old.books.geom.layout (length slots)) 0 (reusable_blocks k) none_renewed (places_of old) (places_in now e) e) (sym looks.books) takes;
      rests = λ few. looks.books ∙ (rests few).books;
    }

-- The blocks of a node.

-- a node that isn't in use has none, and one in use as many as its bytes need
pub few_places : (s : State) (k : ℕ) → ((x : FileNode) → files_in s nothing_drafted k ≡ Some x → (length (places_of s k) ≡ blocks_for (length x.bytes)) × (length x.bytes + 1024 ≤ 2 ^ 30)) → length (places_of s k) ≤ 1048576
few_places s k h = by (used_node s.books.geom (drafted nothing_drafted s.map) k) refl
  where
    by : (o : Option Node) → used_node s.books.geom (drafted nothing_drafted s.map) k ≡ o → length (places_of s k) ≤ 1048576
    by None e = omega (arith, ap (λ o. length (places_or_none o)) e)
    by (Some node) e = let r = h (file_of s.books.geom.layout (drafted nothing_drafted s.map) node) (ap (option_map (file_of s.books.geom.layout (drafted nothing_drafted s.map))) e) in omega (arith, r.0, r.1)
