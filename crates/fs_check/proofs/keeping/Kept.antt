-- One node more of those that a snapshot keeps: what is known of it then, and what is broken in it.
use Rattle.std.proofs.Common.{◌≡◌, ◌≢◌, inl, inr, ℕ, ◌+◌, ◌-◌, ◌≤◌, Bool, false, IsTrue, if◌then◌else◌, min, List, length, drop, replicate, None, Some, sym, ap, subst, ◌∙◌, arith}
use Rattle.std.proofs.lemmas.Option.{none-some, same_Some}
use Rattle.base_types.specs.Runs.{run_places}
use Rattle.base_types.specs.Seal.{Blocks, blocks_of}
use Rattle.layout_geometry.specs.Geometry.{Geometry}
use Rattle.layout_bytes.specs.declared.node.Node.{Node}
use Rattle.layout_bytes.specs.declared.node.NodeKind.TheVariants.{Free, Dir, File, Snapshot}
use Rattle.layout_bytes.specs.Bytes.{are_zeros}
use Rattle.layout_bytes.specs.Node.{content_blocks, content_of, node_bytes, node_size}
use Rattle.crash_stands.specs.Files.{joined}
use Rattle.crash_stands.specs.Places.{dir_blocks, dirs_from, is_copied, kept_table}
use Rattle.crash_stands.specs.Kept.{kept_nodes, kept_places}
use Rattle.fs_check.specs.declared.checking.CheckRefusal.{CheckRefusal}
use Rattle.fs_check.specs.declared.checking.CheckRefusal.TheVariants as refusal
use Rattle.fs_check.specs.declared.checking.Damage.TheVariants as whole
use Rattle.fs_check.specs.declared.kept_meeting.Maps.{Maps}
use Rattle.fs_check.specs.declared.kept_meeting.Tally.{Tally}
use Rattle.fs_check.specs.declared.kept_table.SnapshotIn.{SnapshotIn}
use Rattle.fs_check.specs.declared.snapshot_damage.SnapshotDamage.TheVariants.{KeptNode, KeptTail}
use Rattle.fs_check.specs.BrokenSnapshots.{HasBadNode, KeepsBadNode}
use Rattle.fs_check.specs.KeptGoing.{IsKeptTo}
use Rattle.fs_check.specs.KeptMeeting.{HasMetKept}
use Rattle.fs_check.specs.Whole.{IsDamaged, OnDamage}
use Rattle.fs_check.proofs.keeping.Dirs.{HasDir, dirs_with}
use Rattle.fs_check.proofs.keeping.Meets.{keep_all, keep_none}
use Rattle.fs_check.proofs.keeping.Steps.{IsKeptNext, kept_step}
use Rattle.fs_check.proofs.sound.Nodes.{used_is}

-- one node more was gone through
pub kept_on : (g : Geometry) (m : Blocks) (maps : Maps) (old new : Tally) (snapshot : SnapshotIn) (k : ℕ) → IsKeptTo g m maps old snapshot k → IsKeptNext g m snapshot.places k new.dirs (blocks_of new.met.items) → IsKeptTo g m maps new snapshot (k + 1)
kept_on g m maps old new snapshot k so_far next = record {
  maps_true = so_far.maps_true;
  is = so_far.is;
  at = so_far.at;
  parts = so_far.parts;
  whole = so_far.whole;
  below = kept_step g m snapshot.places k old.dirs new.dirs (blocks_of old.met.items) (blocks_of new.met.items) so_far.below next;
}

-- a node with no blocks in the snapshot: none, a file or a free one
no_dirs : (g : Geometry) (m : Blocks) (own : List ℕ) (k : ℕ) (node : Node) → kept_nodes g m own k ≡ Some node → is_copied node.kind ≡ false → dirs_from g.layout (kept_nodes g m own) 1 (k - 1) ≡ dirs_from g.layout (kept_nodes g m own) 1 k
no_dirs g m own k node used copied =
    let from = (used_is g (kept_table m own g) k node used).from in
    let here : dir_blocks g.layout (kept_nodes g m own k) ≡ 0 = ap (dir_blocks g.layout) used ∙ ap (λ (t : Bool). if t then content_blocks g.layout node.kind node.size else 0) copied in
    omega (arith, dirs_with g.layout (kept_nodes g m own) k from, here)

-- what is known of node k where it is this one
next_is : (g : Geometry) (m : Blocks) (own : List ℕ) (k dirs : ℕ) (node : Node) (met : Blocks) → kept_nodes g m own k ≡ Some node → node.kind ≢ Snapshot
    → (node.kind ≡ Dir → IsTrue (are_zeros (drop (content_of g.layout node.kind node.size) (joined m (kept_places g m own k node))))) → dirs ≡ dirs_from g.layout (kept_nodes g m own) 1 k → HasMetKept g m own (k + 1) 0 met → IsKeptNext g m own k dirs met
next_is g m own k dirs node met used plain tail behind blocks = record {
  blocks = blocks;
  plain = λ other at. subst (λ (n : Node). n.kind ≢ Snapshot) (same_Some node other (sym used ∙ at)) plain;
  free = λ none. absurd (none-some node (sym none ∙ used));
  tail = λ other at dir.
      let one : node ≡ other = same_Some node other (sym used ∙ at) in
      subst (λ (n : Node). IsTrue (are_zeros (drop (content_of g.layout n.kind n.size) (joined m (kept_places g m own k n))))) one (tail (ap (λ (n : Node). n.kind) one ∙ dir));
  behind = behind;
}

no_node : (g : Geometry) (m : Blocks) (own : List ℕ) (k : ℕ) (node : Node) → kept_nodes g m own k ≡ Some node → node.kind ≢ File → (other : Node) → kept_nodes g m own k ≡ Some other → other.kind ≢ File
no_node g m own k node used kind other at = subst (λ (n : Node). n.kind ≢ File) (same_Some node other (sym used ∙ at)) kind

-- a file, whose blocks were met
pub next_file : (g : Geometry) (m : Blocks) (own list : List ℕ) (k dirs later : ℕ) (node : Node) (met : Blocks) → kept_nodes g m own k ≡ Some node → node.kind ≡ File → run_places node.runs ≡ list
    → dirs ≡ dirs_from g.layout (kept_nodes g m own) 1 (k - 1) → later ≡ dirs → HasMetKept g m own k (length list) met → IsKeptNext g m own k later met
next_file g m own list k dirs later node met used kind places before same so_far =
    next_is g m own k later node met used (λ e. let both : File ≡ Snapshot = sym kind ∙ e in cc) (λ e. absurd (let both : File ≡ Dir = sym kind ∙ e in cc))
    (same ∙ before ∙ no_dirs g m own k node used (ap is_copied kind)) (keep_all g m own met k list (record { node = node; is_node = used; kind = kind; places = places }) so_far)

-- a free one
pub next_free : (g : Geometry) (m : Blocks) (own : List ℕ) (k dirs : ℕ) (node : Node) (met : Blocks) → kept_nodes g m own k ≡ Some node → node.kind ≡ Free → dirs ≡ dirs_from g.layout (kept_nodes g m own) 1 (k - 1) → HasMetKept g m own k 0 met → IsKeptNext g m own k dirs met
next_free g m own k dirs node met used kind before so_far =
    next_is g m own k dirs node met used (λ e. let both : Free ≡ Snapshot = sym kind ∙ e in cc) (λ e. absurd (let both : Free ≡ Dir = sym kind ∙ e in cc))
    (before ∙ no_dirs g m own k node used (ap is_copied kind)) (keep_none g m own met k (no_node g m own k node used (λ e. let both : Free ≡ File = sym kind ∙ e in cc)) so_far)

-- a directory
pub next_dir : (g : Geometry) (m : Blocks) (own places : List ℕ) (k dirs count later : ℕ) (node : Node) (met : Blocks) → kept_nodes g m own k ≡ Some node → node.kind ≡ Dir → HasDir g m own k dirs count node places → later ≡ min (dirs + count) 4294967295
    → IsTrue (are_zeros (drop (content_of g.layout node.kind node.size) (joined m places))) → HasMetKept g m own k 0 met → IsKeptNext g m own k later met
next_dir g m own places k dirs count later node met used kind has is zeros so_far =
    next_is g m own k later node met used (λ e. let both : Dir ≡ Snapshot = sym kind ∙ e in cc)
    (λ e. subst (λ ps. IsTrue (are_zeros (drop (content_of g.layout node.kind node.size) (joined m ps)))) has.at zeros)
    (is ∙ has.behind) (keep_none g m own met k (no_node g m own k node used (λ e. let both : Dir ≡ File = sym kind ∙ e in cc)) so_far)

-- none, where the bytes are zeros
pub next_none : (g : Geometry) (m : Blocks) (own : List ℕ) (k dirs : ℕ) (met : Blocks) → 1 ≤ k → kept_nodes g m own k ≡ None → node_bytes g (kept_table m own g) k ≡ replicate (node_size g.layout) 0 → dirs ≡ dirs_from g.layout (kept_nodes g m own) 1 (k - 1)
    → HasMetKept g m own k 0 met → IsKeptNext g m own k dirs met
next_none g m own k dirs met from none zeros before so_far = record {
  blocks = keep_none g m own met k (λ node at. absurd (none-some node (sym none ∙ at))) so_far;
  plain = λ node at. absurd (none-some node (sym none ∙ at));
  free = λ _. zeros;
  tail = λ node at dir. absurd (none-some node (sym none ∙ at));
  behind = before ∙ (let here = ap (dir_blocks g.layout) none in omega (arith, dirs_with g.layout (kept_nodes g m own) k from, here));
}

-- What is broken.

bad_there : (g : Geometry) (m : Blocks) (maps : Maps) (tally : Tally) (snapshot : SnapshotIn) (k l : ℕ) → IsKeptTo g m maps tally snapshot k → 1 ≤ l → l ≤ g.i → KeepsBadNode g m snapshot.places l → HasBadNode g m snapshot.number l
bad_there g m maps tally snapshot k l so_far from upto keeps = record { is = so_far.is; from = from; upto = upto; keeps = subst (λ ps. KeepsBadNode g m ps l) (sym so_far.at) keeps }

-- a node that is a snapshot
pub snapshot_broken : (g : Geometry) (m : Blocks) (maps : Maps) (tally : Tally) (snapshot : SnapshotIn) (k l : ℕ) (node : Node) (why : CheckRefusal) → IsKeptTo g m maps tally snapshot k → kept_nodes g m snapshot.places l ≡ Some node → node.kind ≡ Snapshot
    → why ≡ refusal.Damaged (whole.Snapshot (KeptNode snapshot.number l)) → OnDamage why (IsDamaged g m)
snapshot_broken g m maps tally snapshot k l node why so_far used kind is =
    let of = used_is g (kept_table m snapshot.places g) l node used in
    subst (λ w. OnDamage w (IsDamaged g m)) (sym is) (bad_there g m maps tally snapshot k l so_far of.from of.upto (inl (node, used, kind)))

-- bytes that are no node's
pub bytes_broken : (g : Geometry) (m : Blocks) (maps : Maps) (tally : Tally) (snapshot : SnapshotIn) (k l : ℕ) (why : CheckRefusal) → IsKeptTo g m maps tally snapshot k → 1 ≤ l → l ≤ g.i → kept_nodes g m snapshot.places l ≡ None
    → node_bytes g (kept_table m snapshot.places g) l ≢ replicate (node_size g.layout) 0 → why ≡ refusal.Damaged (whole.Snapshot (KeptNode snapshot.number l)) → OnDamage why (IsDamaged g m)
bytes_broken g m maps tally snapshot k l why so_far from upto none carries is =
    subst (λ w. OnDamage w (IsDamaged g m)) (sym is) (bad_there g m maps tally snapshot k l so_far from upto (inr (none, carries)))

-- a tail
pub tail_broken : (g : Geometry) (m : Blocks) (maps : Maps) (tally : Tally) (snapshot : SnapshotIn) (k l : ℕ) (node : Node) (places : List ℕ) (why : CheckRefusal) → IsKeptTo g m maps tally snapshot k → kept_nodes g m snapshot.places l ≡ Some node → node.kind ≡ Dir
    → places ≡ kept_places g m snapshot.places l node → OnDamage why (λ what. (what ≡ whole.Snapshot (KeptTail snapshot.number l)) × (are_zeros (drop (content_of g.layout node.kind node.size) (joined m places)) ≡ false)) → OnDamage why (IsDamaged g m)
tail_broken g m maps tally snapshot k l node places refusal.ReadFault so_far used kind at is = tt
tail_broken g m maps tally snapshot k l node places refusal.NoMemory so_far used kind at is = tt
tail_broken g m maps tally snapshot k l node places (refusal.Damaged what) so_far used kind at is = subst (IsDamaged g m) (sym is.0) (record {
  is = so_far.is;
  node = node;
  is_node = subst (λ ps. kept_nodes g m ps l ≡ Some node) (sym so_far.at) used;
  is_dir = kind;
  carries = subst (λ ps. are_zeros (drop (content_of g.layout node.kind node.size) (joined m (kept_places g m ps l node))) ≡ false) (sym so_far.at) (subst (λ ps. are_zeros (drop (content_of g.layout node.kind node.size) (joined m ps)) ≡ false) at is.1);
})
