-- A snapshot that comes keeps the blocks of each file, and the others what they kept.
use Rattle.std.proofs.Common.{◌≡◌, ◌≢◌, ◌⊎◌, inl, inr, ℕ, ◌≤◌, ◌==◌, ◌&&◌, Bool, true, false, if◌then◌else◌, cond, List, [], bytes_eq, Option, Some, None, option_map, refl, sym, ap, subst, ◌∙◌}
use Rattle.std.proofs.lemmas.Bool.{cases_Bool, true≢false}
use Rattle.std.proofs.lemmas.Option.{none-some}
use Rattle.std.proofs.lemmas.Slice.Eq.{bytes_eq-Decides}
use Rattle.std.specs.Ordering.{nat_cmp, eq_by_cmp, is_eq}
use Rattle.std.specs.Cmp.{nat_cmp_total, tied_itself}
use Rattle.std.specs.Cmp.Lexicographic.{slice_cmp, lists_total}
use Rattle.std.specs.FinMap.{get, insert, remove, get-insert, get-remove}
use Rattle.base_types.specs.Seal.{Blocks}
use Rattle.base_types.specs.Runs.{run_places}
use Rattle.layout_geometry.specs.Geometry.{Geometry, IsGeometry}
use Rattle.layout_bytes.specs.declared.node.Node.{Node}
use Rattle.layout_bytes.specs.declared.node.NodeKind.{NodeKind}
use Rattle.layout_bytes.specs.declared.node.NodeKind.TheVariants.{Free, Dir, File, Snapshot}
use Rattle.layout_bytes.specs.Node.{used_kind}
use Rattle.lang_tree.specs.declared.command.Cmd.TheVariants.{Snap}
use Rattle.lang_tree.specs.Step.{kept_of}
use Rattle.lang_tree.specs.Tree.{Tree, Kept, Snapshots}
use Rattle.lang_tree.specs.Walk.{is_file}
use Rattle.crash_stands.specs.Files.{file_of, used_node}
use Rattle.crash_stands.specs.Inodes.{Inode, ADir, AFile, IsInodeOf, inode_by, thing_of}
use Rattle.crash_stands.specs.Kept.{kept_nodes}
use Rattle.crash_stands.specs.Places.{kept_table}
use Rattle.crash_stands.specs.Stands.{IsTreeOf}
use Rattle.crash_snapshots.specs.Adding.{AddsSnapshot}
use Rattle.fs_files.specs.Calls.{places_of, places_or_none}
use Rattle.fs_snapshots.specs.Known.{blocks_by_kind, blocks_kept, file_blocks}
use Rattle.fs_snapshots.specs.Nodes.{not_file, read_table}
use Rattle.fs_session.specs.Lists.{kept_by}
use Rattle.fs_session.specs.Snapshots.{kept_lists}
use Rattle.fs_session.proofs.leaving.Listed.{kept_alike, listed_alike, listed_one}
use Rattle.fs_session.proofs.leaving.Stays.{NamesSnapshots, StayLaws}
use Rattle.fs_session.proofs.rooms.KeptBlocks.{tie}

-- The tree's files have the blocks of the nodes that are files.

module _ (g : Geometry) (m : Blocks) (t : Tree) (stands : IsTreeOf g m t) (used_kind : (k : ℕ) (node : Node) → used_node g m k ≡ Some node → node.kind ≢ Free) where
  by_kind : (k : ℕ) (node : Node) (kind : NodeKind) (x : Option Inode) → used_node g m k ≡ Some node → node.kind ≡ kind → IsInodeOf g.layout (Some (file_of g.layout m node)) x
      → blocks_by_kind kind (run_places node.runs) ≡ (if is_file (option_map thing_of x) then run_places node.runs else [])
  by_kind k node Free x used of reads = absurd (used_kind k node used of)
  by_kind k node Dir None used of reads = let e : Dir ≡ Snapshot = sym of ∙ reads in cc
  by_kind k node Dir (Some (ADir slots)) used of reads = refl
  by_kind k node Dir (Some (AFile links bytes)) used of reads =
      absurd (not_file _ _ links bytes (sym (ap (λ (kind : NodeKind). inode_by g.layout kind (file_of g.layout m node).links (file_of g.layout m node).bytes) of) ∙ reads))
  by_kind k node File None used of reads = let e : File ≡ Snapshot = sym of ∙ reads in cc
  by_kind k node File (Some (ADir slots)) used of reads =
      let e = sym (ap (λ (kind : NodeKind). inode_by g.layout kind (file_of g.layout m node).links (file_of g.layout m node).bytes) of) ∙ reads in cc
  by_kind k node File (Some (AFile links bytes)) used of reads = refl
  by_kind k node Snapshot None used of reads = refl
  by_kind k node Snapshot (Some x) used of reads =
      absurd (none-some x (sym (ap (λ (kind : NodeKind). inode_by g.layout kind (file_of g.layout m node).links (file_of g.layout m node).bytes) of) ∙ reads))

  by_node : (k : ℕ) (o : Option Node) (x : Option Inode) → used_node g m k ≡ o → IsInodeOf g.layout (option_map (file_of g.layout m) o) x → file_blocks o ≡ (if is_file (option_map thing_of x) then places_or_none o else [])
  by_node k None None used reads = refl
  by_node k None (Some (ADir slots)) used reads = refl
  by_node k None (Some (AFile links bytes)) used reads = refl
  by_node k (Some node) x used reads = by_kind k node node.kind x used refl reads

  pub file_listed : (k : ℕ) → file_blocks (used_node g m k) ≡ (if is_file (get t.nodes k) then places_of g m k else [])
  file_listed k = by_node k (used_node g m k) (stands.inodes k) refl (stands.read k) ∙ sym (ap (λ o. if is_file o then places_of g m k else []) (stands.map.shows.nodes k))

-- What is under a name once one is put or taken.

put_same : (m : Snapshots) (name : List ℕ) (k : Kept) → get (insert m name k) name ≡ Some k
put_same m name k = get-insert (lists_total nat_cmp_total) m name k name ∙ ap (λ b. cond b (Some k) (get m name)) (ap is_eq (tied_itself (lists_total nat_cmp_total) name))

put_other : (m : Snapshots) (name other : List ℕ) (k : Kept) → other ≢ name → get (insert m name k) other ≡ get m other
put_other m name other k apart = get-insert (lists_total nat_cmp_total) m name k other ∙ by (eq_by_cmp (slice_cmp nat_cmp) other name) refl
  where
    by : (b : Bool) → eq_by_cmp (slice_cmp nat_cmp) other name ≡ b → cond b (Some k) (get m other) ≡ get m other
    by true e = absurd (apart (tie other name e))
    by false e = refl

pub gone_same : (m : Snapshots) (name : List ℕ) → get (remove m name) name ≡ None
gone_same m name = get-remove (lists_total nat_cmp_total) m name name ∙ ap (λ b. cond b None (get m name)) (ap is_eq (tied_itself (lists_total nat_cmp_total) name))

pub gone_other : (m : Snapshots) (name other : List ℕ) → other ≢ name → get (remove m name) other ≡ get m other
gone_other m name other apart = get-remove (lists_total nat_cmp_total) m name other ∙ by (eq_by_cmp (slice_cmp nat_cmp) other name) refl
  where
    by : (b : Bool) → eq_by_cmp (slice_cmp nat_cmp) other name ≡ b → cond b None (get m other) ≡ get m other
    by true e = absurd (apart (tie other name e))
    by false e = refl

module _ (laws : StayLaws) (named : NamesSnapshots) (g : Geometry) (fits : IsGeometry g) (old new : Blocks) (t : Tree) (n : ℕ) (name places : List ℕ) (stands : IsTreeOf g old t) (adds : AddsSnapshot g old new n name places)
    (becomes : IsTreeOf g new (record t { snapshots = insert t.snapshots name (kept_of n t) })) where
  -- the snapshot that comes
  own_lists : (l : ℕ) → kept_lists g new name l ≡ (if is_file (get t.nodes l) then places_of g old l else [])
  own_lists l =
      listed_one g old new t (record t { snapshots = insert t.snapshots name (kept_of n t) }) (λ a. named g old t a stands) (λ a. named g new (record t { snapshots = insert t.snapshots name (kept_of n t) }) a becomes)
      name (kept_of n t) l (put_same t.snapshots name (kept_of n t))
      ∙ ap (λ (ps : List ℕ). file_blocks (kept_nodes g new ps l)) (ap places_or_none adds.is_node ∙ adds.runs)
      ∙ read_table g old (kept_table new places g) adds.made.table l
      ∙ file_listed g old t stands (laws.kinds g old) l

  -- another one
  other_kept : (k : Kept) (other : List ℕ) → get t.snapshots other ≡ Some k → (l : ℕ) → blocks_kept g new k.number l ≡ blocks_kept g old k.number l
  other_kept k other at l =
      let held = stands.keeps other k at in
      let apart : k.number ≢ n = λ e. none-some held.node (sym adds.free ∙ ap (used_node g old) (sym e) ∙ held.is_node) in
      let here : used_node g new k.number ≡ Some held.node = adds.others k.number apart ∙ held.is_node in
      kept_alike g old new k.number l (run_places held.node.runs) (ap places_or_none held.is_node) (ap places_or_none here)
      (λ i b. laws.blocks g old new (run_places held.node.runs) fits (laws.marked g old new stands.sound adds.stays k.number held.node held.is_node held.kind) l i b)

  pub coming_lists : (other : List ℕ) (l : ℕ) → kept_lists g new other l ≡ kept_by t (places_of g old) (kept_lists g old) (Snap name) other l
  coming_lists other l = by (cases_Bool (bytes_eq other name))
    where
      Goal : Bool → Type 0
      Goal b = kept_lists g new other l ≡ (if b then (if is_file (get t.nodes l) then places_of g old l else []) else kept_lists g old other l)

      by : (bytes_eq other name ≡ true) ⊎ (bytes_eq other name ≡ false) → Goal (bytes_eq other name)
      by (inl is) = subst Goal (sym is) (ap (λ (a : List ℕ). kept_lists g new a l) ((bytes_eq-Decides other name).0 is) ∙ own_lists l)
      by (inr isnt) =
          let apart : other ≢ name = λ e. true≢false (sym ((bytes_eq-Decides other name).1 e) ∙ isnt) in
          subst Goal (sym isnt) (listed_alike g old new t (record t { snapshots = insert t.snapshots name (kept_of n t) }) (λ a. named g old t a stands)
          (λ a. named g new (record t { snapshots = insert t.snapshots name (kept_of n t) }) a becomes) other (put_other t.snapshots name other (kept_of n t) apart) (λ k at l. other_kept k other at l) l)
