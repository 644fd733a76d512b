-- The check of all snapshots goes on from node to node and from block to block of the node table.
use Rattle.std.proofs.Common.{◌≡◌, ◌≢◌, ℕ, ◌+◌, ◌<◌, ◌≤◌, Bool, false, IsTrue, List, [], option_map, option_and_then, Option, None, Some, sym, ap, subst, ◌∙◌, arith}
use Rattle.std.proofs.lemmas.Option.{none-some, same_Some}
use Rattle.std.specs.FinMap.{empty, get-empty}
use Rattle.std.specs.Ordering.{nat_cmp}
use Rattle.std.specs.Cmp.Lexicographic.{slice_cmp}
use Rattle.base_types.specs.Seal.{Blocks}
use Rattle.layout_geometry.specs.Geometry.{Geometry}
use Rattle.layout_bytes.specs.declared.node.Node.{Node}
use Rattle.layout_bytes.specs.declared.node.NodeKind.{NodeKind}
use Rattle.layout_bytes.specs.declared.node.NodeKind.TheVariants.{Dir, File, Snapshot}
use Rattle.layout_bytes.specs.declared.slot.Slot.{Slot}
use Rattle.layout_bytes.specs.Node.{node_bytes, node_of}
use Rattle.lang_tree.specs.Tree.{Kept}
use Rattle.crash_stands.specs.Files.{file_of, files_of, used_node}
use Rattle.crash_stands.specs.Inodes.{ADir, inode_of, inodes_of}
use Rattle.crash_stands.specs.Stands.{HasNoSnapshots}
use Rattle.engine_blocks.specs.State.{Bookkeeping, State}
use Rattle.fs_files.specs.declared.node_blocks.OpenFile.{OpenFile}
use Rattle.fs_files.specs.Effects.{LooksOnly}
use Rattle.fs_files.specs.Given.{node_of_file}
use Rattle.fs_files.specs.Shared.{keepers}
use Rattle.fs_check.specs.declared.checking.CheckRefusal.{CheckRefusal}
use Rattle.fs_check.specs.declared.kept_meeting.Maps.{Maps}
use Rattle.fs_check.specs.declared.snapshots.Found.{Found}
use Rattle.fs_check.specs.KeptMeeting.{AreTrueMaps, MayCheckKept}
use Rattle.fs_check.specs.SnapshotCalls.{AreSoundNodes, HoldsCounts, IsKnownBelow}
use Rattle.fs_check.specs.Snapshots.{AreCheckedBelow, numbers_in}
use Rattle.fs_check.specs.Whole.{IsDamaged, OnDamage}
use Rattle.fs_check.proofs.Looking.{looks_more, looks_none}
use Rattle.fs_check.proofs.Seeing.{snapshot_inode}
use Rattle.fs_check.proofs.keeping.Counts.{Each, none_below}
use Rattle.fs_check.proofs.keeping.Firm.{node_read}
use Rattle.fs_check.proofs.keeping.Found.{checked_plain}
use Rattle.fs_check.proofs.sound.Nodes.{used_is}

-- One node.

-- it is no snapshot
plain_known : Each → (g : Geometry) (m : Blocks) (maps : Maps) (k : ℕ) (found : Found) → ((node : Node) → used_node g m k ≡ Some node → node.kind ≢ Snapshot) → IsKnownBelow g m maps k found → IsKnownBelow g m maps (k + 1) found
plain_known each g m maps k found plain h = record { nodes = h.nodes; maps_true = h.maps_true; below = checked_plain each g m k _ found.tally.counts plain h.below }

-- there is none in these bytes
pub none_known : Each → (g : Geometry) (m : Blocks) (maps : Maps) (k : ℕ) (found : Found) (bytes : List ℕ) (o : Option OpenFile) → 1 ≤ k → k ≤ g.i → bytes ≡ node_bytes g m k → option_map (node_of_file g.layout) o ≡ node_of g bytes → o ≡ None → IsKnownBelow g m maps k found → IsKnownBelow g m maps (k + 1) found
none_known each g m maps k found bytes o from upto is read there h =
    plain_known each g m maps k found (λ node used. absurd (none-some node (sym (node_read g m k bytes o from upto is read ∙ ap (option_map (node_of_file g.layout)) there) ∙ used))) h

-- there is one of another kind
pub other_known : Each → (g : Geometry) (m : Blocks) (maps : Maps) (k : ℕ) (found : Found) (bytes : List ℕ) (o : Option OpenFile) (file : OpenFile) → 1 ≤ k → k ≤ g.i → bytes ≡ node_bytes g m k → option_map (node_of_file g.layout) o ≡ node_of g bytes → o ≡ Some file → file.facts.kind ≢ Snapshot
    → IsKnownBelow g m maps k found → IsKnownBelow g m maps (k + 1) found
other_known each g m maps k found bytes o file from upto is read there other h =
    plain_known each g m maps k found (λ node used kind. other (ap (λ (n : Node). n.kind) (same_Some (node_of_file g.layout file) node (sym (node_read g m k bytes o from upto is read ∙ ap (option_map (node_of_file g.layout)) there) ∙ used)) ∙ kind)) h

pub dir_other : (kind : NodeKind) → kind ≡ Dir → kind ≢ Snapshot
dir_other kind is = λ other. let both : Dir ≡ Snapshot = sym is ∙ other in cc

pub file_other : (kind : NodeKind) → kind ≡ File → kind ≢ Snapshot
file_other kind is = λ other. let both : File ≡ Snapshot = sym is ∙ other in cc

-- node 1 is a snapshot: then there is no root
pub no_root : (g : Geometry) (m : Blocks) (bytes : List ℕ) (o : Option OpenFile) (file : OpenFile) (k : ℕ) → k ≡ 1 → 1 ≤ k → k ≤ g.i → bytes ≡ node_bytes g m k → option_map (node_of_file g.layout) o ≡ node_of g bytes → o ≡ Some file → file.facts.kind ≡ Snapshot
    → (slots : List Slot) → inodes_of g.layout (files_of g m) 1 ≢ Some (ADir slots)
no_root g m bytes o file k one from upto is read there kind slots root =
    let used : used_node g m k ≡ Some (node_of_file g.layout file) = node_read g m k bytes o from upto is read ∙ ap (option_map (node_of_file g.layout)) there in
    let none : inodes_of g.layout (files_of g m) k ≡ None = ap (λ u. option_and_then (inode_of g.layout) (option_map (file_of g.layout m) u)) used ∙ snapshot_inode g.layout (file_of g.layout m (node_of_file g.layout file)) kind in
    none-some (ADir slots) (sym none ∙ ap (inodes_of g.layout (files_of g m)) one ∙ root)

-- Many nodes.

-- what is known in the midst: blocks were read, and the snapshots among the nodes from `from` up to `at` were checked
pub record FindsOn (P : Type 0) (tells : Bool) (g : Geometry) (s t : State) (maps : Maps) (old new : Found) (from at : ℕ) : Type 0 where
  pub looks : LooksOnly tells false s t
  pub counts : HoldsCounts g new at
  pub known : P → IsKnownBelow g s.map maps from old → IsKnownBelow g s.map maps at new

pub finds_begins : (P : Type 0) (tells : Bool) (g : Geometry) (s : State) (maps : Maps) (found : Found) (from at : ℕ) → from ≡ at → HoldsCounts g found from → FindsOn P tells g s s maps found found from at
finds_begins P tells g s maps found from at same counts = record {
  looks = looks_none tells s;
  counts = subst (HoldsCounts g found) same counts;
  known = λ p known. subst (λ k. IsKnownBelow g s.map maps k found) same known;
}

-- in the midst the map is the same
pub finds_here : (tells : Bool) (g : Geometry) (s t : State) (maps : Maps) (found : Found) (at here : ℕ) → LooksOnly tells false s t → at ≡ here → IsTrue tells → IsKnownBelow g s.map maps at found → IsKnownBelow g t.map maps here found
finds_here tells g s t maps found at here looks same told known =
    subst (λ (m : Blocks). IsKnownBelow g m maps here found) (sym (looks.map told)) (subst (λ k. IsKnownBelow g s.map maps k found) same known)

pub finds_more : (P : Type 0) (tells : Bool) (g : Geometry) (s t u : State) (maps : Maps) (old new newer : Found) (from at here then next : ℕ) → (P → IsTrue tells) → at ≡ here → then ≡ next → FindsOn P tells g s t maps old new from at
    → LooksOnly tells false t u → HoldsCounts g newer then → (P → IsKnownBelow g t.map maps here new → IsKnownBelow g t.map maps then newer) → FindsOn P tells g s u maps old newer from next
finds_more P tells g s t u maps old new newer from at here then next told same on so_far looks counts step = record {
  looks = looks_more tells false s t u so_far.looks looks;
  counts = subst (HoldsCounts g newer) on counts;
  known = λ p known. subst (λ k. IsKnownBelow g s.map maps k newer) on (subst (λ (m : Blocks). IsKnownBelow g m maps then newer) (so_far.looks.map (told p))
      (step p (finds_here tells g s t maps new at here so_far.looks same (told p) (so_far.known p known))));
}

pub finds_broken : (P : Type 0) (tells : Bool) (g : Geometry) (s t : State) (maps : Maps) (old new : Found) (from at here : ℕ) (why : CheckRefusal) → (P → IsTrue tells) → at ≡ here → FindsOn P tells g s t maps old new from at
    → (P → IsKnownBelow g t.map maps here new → OnDamage why (IsDamaged g t.map)) → P → IsKnownBelow g s.map maps from old → OnDamage why (IsDamaged g s.map)
finds_broken P tells g s t maps old new from at here why told same so_far broken p known =
    subst (λ (m : Blocks). OnDamage why (IsDamaged g m)) (so_far.looks.map (told p))
    (broken p (finds_here tells g s t maps new at here so_far.looks same (told p) (so_far.known p known)))

-- a block was read, and nothing else is new
pub finds_read : (P : Type 0) (tells : Bool) (g : Geometry) (s t u : State) (maps : Maps) (old new : Found) (from at : ℕ) → LooksOnly tells false t u → FindsOn P tells g s t maps old new from at → FindsOn P tells g s u maps old new from at
finds_read P tells g s t u maps old new from at looks so_far = record { looks = looks_more tells false s t u so_far.looks looks; counts = so_far.counts; known = so_far.known }

pub may_still : (tells failed : Bool) (g : Geometry) (s t : State) (bits firm : List (List ℕ)) → LooksOnly tells failed s t → MayCheckKept g s bits firm → MayCheckKept g t bits firm
may_still tells failed g s t bits firm looks may = subst (λ (k : Bookkeeping). MayCheckKept g (record t { books = k }) bits firm) (sym looks.books) (record {
  going = may.going;
  none_bare = may.none_bare;
  geom = may.geom;
  bits_size = may.bits_size;
  firm_size = may.firm_size;
})

-- The beginning.

-- no node below `bound` is a snapshot: no name has a number, and no block a keeper
none_checked : Each → (g : Geometry) (m : Blocks) (bound : ℕ) (counts : List ℕ) → ((n : ℕ) (node : Node) → n < bound → used_node g m n ≡ Some node → node.kind ≢ Snapshot) → ((b : ℕ) → keepers counts b ≡ 0) → AreCheckedBelow g m bound (numbers_in []) counts
none_checked each g m bound counts none zeros = record {
  snapshots = empty;
  keeps = λ name k at. absurd (none-some k (sym (get-empty (slice_cmp nat_cmp) name) ∙ at));
  each = λ n node low used kind. absurd (none n node low used kind);
  good = λ n node low used kind. absurd (none n node low used kind);
  named = λ name. get-empty (slice_cmp nat_cmp) name ∙ sym (ap (option_map (λ (k : Kept). k.number)) (get-empty (slice_cmp nat_cmp) name));
  counted = λ b. zeros b ∙ sym (none_below each g m bound b (λ k low keeps. none k keeps.0.node low (ap (used_node g m) (sym keeps.1) ∙ keeps.0.is_node) keeps.0.kind));
}

-- there is no snapshot
pub none_found : Each → (g : Geometry) (m : Blocks) (bound : ℕ) (entries : List (List ℕ × ℕ)) (counts : List ℕ) → HasNoSnapshots g m → entries ≡ [] → counts ≡ [] → AreCheckedBelow g m bound (numbers_in entries) counts
none_found each g m bound entries counts none no_names no_counts =
    subst (λ es. AreCheckedBelow g m bound (numbers_in es) counts) (sym no_names) (none_checked each g m bound counts (λ n node low used. none n node used) (λ b. ap (λ xs. keepers xs b) no_counts))

-- a check begins with the first node
pub known_begins : Each → (g : Geometry) (m : Blocks) (maps : Maps) (found : Found) → AreSoundNodes g m → AreTrueMaps g m maps.marked.items maps.firm.items → found.numbers.entries ≡ [] → ((b : ℕ) → keepers found.tally.counts b ≡ 0) → IsKnownBelow g m maps 1 found
known_begins each g m maps found nodes maps_true no_names zeros = record {
  nodes = nodes;
  maps_true = maps_true;
  below = subst (λ es. AreCheckedBelow g m 1 (numbers_in es) found.tally.counts) (sym no_names) (none_checked each g m 1 found.tally.counts (λ n node low used. absurd (let from = (used_is g m n node used).from in omega (arith, from, low))) zeros);
}
