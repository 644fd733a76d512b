-- Nodes as a snapshot keeps them: how many blocks each has, which are read as the same, and where the blocks of a directory were copied to.
use Rattle.std.proofs.Common.{◌≡◌, ◌≢◌, ℕ, zero, suc, ◌+◌, ◌<◌, ◌≤◌, ◌==◌, ◌&&◌, nat_le, Bool, true, false, if◌then◌else◌, List, [], length, take, drop, replicate, slice_get, slice_index, Option, Some, None, option_and_then, ◌++◌, refl, sym, ap, ap₂, subst, ◌∙◌, arith}
use Rattle.std.proofs.lemmas.List.{drop-drop}
use Rattle.std.proofs.lemmas.Bool.{and_parts, leb-true, eqb-true}
use Rattle.std.proofs.lemmas.Option.{none-some, same_Some}
use Rattle.base_types.specs.Seal.{Blocks}
use Rattle.base_types.specs.Runs.{run_places}
use Rattle.base_types.specs.declared.layout.Layout.{Layout}
use Rattle.layout_geometry.specs.Geometry.{Geometry, data_start}
use Rattle.layout_bytes.specs.declared.node.Node.{Node}
use Rattle.layout_bytes.specs.declared.node.NodeKind.{NodeKind}
use Rattle.layout_bytes.specs.declared.node.NodeKind.TheVariants.{Free, Dir, File, Snapshot}
use Rattle.layout_bytes.specs.Bytes.{when}
use Rattle.layout_bytes.specs.Node.{node_size, content_blocks, used_kind, node_of, node_with, node_at, node_bytes, node_fields, node_fits, spare_zeros}
use Rattle.crash_stands.specs.Files.{used_node}
use Rattle.crash_stands.specs.Places.{NodesInUse, is_copied, dir_blocks, dirs_from}
use Rattle.crash_snapshots.specs.Places.{places_of_dir, all_dirs}
use Rattle.crash_snapshots.specs.Kept.{AreCopies, is_snapshot, kept_bytes}
use Rattle.crash_snapshots.proofs.Copies.{copies_front, copies_rest}

-- What crash_stands promises of nodes in use.
pub record NodeLaws : Type 0 where
  pub number : (g : Geometry) (m : Blocks) (k : ℕ) (node : Node) → used_node g m k ≡ Some node → (1 ≤ k) × (k ≤ g.i)
  pub kind : (g : Geometry) (m : Blocks) (k : ℕ) (node : Node) → used_node g m k ≡ Some node → node.kind ≢ Free
  pub within : (g : Geometry) (m : Blocks) (k : ℕ) (node : Node) → used_node g m k ≡ Some node → (i b : ℕ) → slice_get (run_places node.runs) i ≡ Some b → (data_start g ≤ b) × (b < g.n)
  pub count : (g : Geometry) (m : Blocks) (k : ℕ) (node : Node) → used_node g m k ≡ Some node → length (run_places node.runs) ≡ content_blocks g.layout node.kind node.size

when_some : {A : Type 0} (t : Bool) (x : Option A) (y : A) → when t x ≡ Some y → (t ≡ true) × (x ≡ Some y)
when_some true x y e = (refl, e)
when_some false x y e = absurd (none-some y e)

-- What is read.

pub when_same : {A : Type 0} (t : Bool) (x y : Option A) → (t ≡ true → x ≡ y) → when t x ≡ when t y
when_same true x y e = e refl
when_same false x y e = refl

-- the node, where it is no snapshot
abbrev pub unless_snapshot : Node → Option Node
unless_snapshot node = if is_snapshot node.kind then None else Some node

-- the nodes without snapshots
abbrev pub plain_nodes : NodesInUse → NodesInUse
plain_nodes nodes k = option_and_then unless_snapshot (nodes k)

pub snapshot_is : (kind : NodeKind) → is_snapshot kind ≡ true → kind ≡ Snapshot
snapshot_is Snapshot is = refl
snapshot_is Free is = cc
snapshot_is Dir is = cc
snapshot_is File is = cc

kind_of : (g : Geometry) (b : List ℕ) (kind : NodeKind) (node : Node) → node_with g b (Some kind) ≡ Some node → node.kind ≡ kind
kind_of g b kind node e =
    let spare = when_some (spare_zeros g.layout b) (when (node_fits g (node_fields kind b)) (Some (node_fields kind b))) node e in
    let fits = when_some (node_fits g (node_fields kind b)) (Some (node_fields kind b)) node spare.1 in
    ap (λ (m : Node). m.kind) (sym (same_Some (node_fields kind b) node fits.1))

-- a node in use is a snapshot exactly where its first byte says so
snapshot_by : (g : Geometry) (b : List ℕ) (n : ℕ) (p q r : Bool) (node : Node) → (n == 1) ≡ p → (n == 2) ≡ q → (n == 3) ≡ r
    → node_with g b (if p then Some Dir else if q then Some File else if r then Some Snapshot else None) ≡ Some node → is_snapshot node.kind ≡ (n == 3)
snapshot_by g b n true q r node is_p is_q is_r e = ap is_snapshot (kind_of g b Dir node e) ∙ sym (ap (λ x. x == 3) (eqb-true n 1 is_p))
snapshot_by g b n false true r node is_p is_q is_r e = ap is_snapshot (kind_of g b File node e) ∙ sym (ap (λ x. x == 3) (eqb-true n 2 is_q))
snapshot_by g b n false false true node is_p is_q is_r e = ap is_snapshot (kind_of g b Snapshot node e) ∙ sym is_r
snapshot_by g b n false false false node is_p is_q is_r e = absurd (none-some node e)

snapshot_read : (g : Geometry) (b : List ℕ) (node : Node) → node_of g b ≡ Some node → is_snapshot node.kind ≡ (slice_index b 0 == 3)
unfolding node_of
snapshot_read g b node e =
    let n = slice_index b 0 in
    snapshot_by g b n (n == 1) (n == 2) (n == 3) node refl refl refl e

first_zero : (n : ℕ) → slice_index (replicate n 0) 0 ≡ 0
first_zero zero = refl
first_zero (suc n) = refl

zeros_none : (g : Geometry) → node_of g (replicate (node_size g.layout) 0) ≡ None
unfolding node_of
zeros_none g = ap (λ n. node_with g (replicate (node_size g.layout) 0) (used_kind n)) (first_zero (node_size g.layout))

-- the bytes of a node as a snapshot keeps them are read as the node, where it is no snapshot
kept_by : (g : Geometry) (b : List ℕ) (o : Option Node) (t : Bool) → node_of g b ≡ o → (slice_index b 0 == 3) ≡ t → node_of g (if t then replicate (node_size g.layout) 0 else b) ≡ option_and_then unless_snapshot o
kept_by g b None true at is = zeros_none g
kept_by g b None false at is = at
kept_by g b (Some node) true at is = zeros_none g ∙ sym (ap (λ s. if s then None else Some node) (snapshot_read g b node at ∙ is))
kept_by g b (Some node) false at is = at ∙ sym (ap (λ s. if s then None else Some node) (snapshot_read g b node at ∙ is))

when_and : {A B : Type 0} (t : Bool) (f : A → Option B) (o : Option A) → when t (option_and_then f o) ≡ option_and_then f (when t o)
when_and true f o = refl
when_and false f o = refl

-- nodes whose bytes are as a snapshot keeps them are the same, without snapshots
pub nodes_kept : (g : Geometry) (m n : Blocks) → ((k : ℕ) → 1 ≤ k → k ≤ g.i → node_bytes g n k ≡ kept_bytes g.layout (node_bytes g m k)) → (k : ℕ) → used_node g n k ≡ plain_nodes (used_node g m) k
nodes_kept g m n same k = when_same (nat_le 1 k && nat_le k g.i) (node_at g n k) (option_and_then unless_snapshot (node_at g m k)) (λ is.
    let number = and_parts (nat_le 1 k) (nat_le k g.i) is in
    ap (node_of g) (same k (leb-true 1 k number.0) (leb-true k g.i number.1))
    ∙ kept_by g (node_bytes g m k) (node_at g m k) (slice_index (node_bytes g m k) 0 == 3) refl refl)
    ∙ when_and (nat_le 1 k && nat_le k g.i) unless_snapshot (node_at g m k)

-- a node in use that has its blocks to itself and is no snapshot is a file
pub file_kind : (kind : NodeKind) → kind ≢ Free → is_copied kind ≡ false → is_snapshot kind ≡ false → kind ≡ File
file_kind Free used own plain = absurd (used refl)
file_kind Dir used own plain = cc
file_kind File used own plain = refl
file_kind Snapshot used own plain = cc

-- what is there without snapshots is there, and is none
pub plain_is : (o : Option Node) (node : Node) → option_and_then unless_snapshot o ≡ Some node → (o ≡ Some node) × (is_snapshot node.kind ≡ false)
plain_is None node e = absurd (none-some node e)
plain_is (Some other) node e = by (is_snapshot other.kind) refl e
  where
    by : (t : Bool) → is_snapshot other.kind ≡ t → (if t then None else Some other) ≡ Some node → (Some other ≡ Some node) × (is_snapshot node.kind ≡ false)
    by true is e = absurd (none-some node e)
    by false is e = (e, ap (λ (m : Node). is_snapshot m.kind) (sym (same_Some other node e)) ∙ is)

-- snapshots have no blocks that are copied

not_copied : (kind : NodeKind) → is_snapshot kind ≡ true → is_copied kind ≡ false
not_copied kind is = ap is_copied (snapshot_is kind is)

pub same_dirs : (nodes : NodesInUse) (k n : ℕ) → all_dirs (plain_nodes nodes) k n ≡ all_dirs nodes k n
same_dirs nodes k zero = refl
same_dirs nodes k (suc n) = ap₂ (λ (xs ys : List ℕ). xs ++ ys) (by (nodes k)) (same_dirs nodes (k + 1) n)
  where
    in_use : (node : Node) (t : Bool) → is_snapshot node.kind ≡ t → places_of_dir (if t then None else Some node) ≡ places_of_dir (Some node)
    in_use node true is = sym (ap (λ b. if b then run_places node.runs else []) (not_copied node.kind is))
    in_use node false is = refl

    by : (o : Option Node) → places_of_dir (option_and_then unless_snapshot o) ≡ places_of_dir o
    by None = refl
    by (Some node) = in_use node (is_snapshot node.kind) refl

pub same_counts : (l : Layout) (nodes : NodesInUse) (k n : ℕ) → dirs_from l (plain_nodes nodes) k n ≡ dirs_from l nodes k n
same_counts l nodes k zero = refl
same_counts l nodes k (suc n) = ap₂ (λ x y. x + y) (by (nodes k)) (same_counts l nodes (k + 1) n)
  where
    in_use : (node : Node) (t : Bool) → is_snapshot node.kind ≡ t → dir_blocks l (if t then None else Some node) ≡ dir_blocks l (Some node)
    in_use node true is = sym (ap (λ b. if b then content_blocks l node.kind node.size else 0) (not_copied node.kind is))
    in_use node false is = refl

    by : (o : Option Node) → dir_blocks l (option_and_then unless_snapshot o) ≡ dir_blocks l o
    by None = refl
    by (Some node) = in_use node (is_snapshot node.kind) refl

-- The directories.

module _ (l : Layout) (old new : Blocks) (nodes : NodesInUse) (count : (k : ℕ) (node : Node) → nodes k ≡ Some node → length (run_places node.runs) ≡ content_blocks l node.kind node.size) where
  by_kind : (node : Node) (t : Bool) → is_copied node.kind ≡ t → length (run_places node.runs) ≡ content_blocks l node.kind node.size
      → length (if t then run_places node.runs else []) ≡ (if t then content_blocks l node.kind node.size else 0)
  by_kind node true e long = long
  by_kind node false e long = refl

  -- a node's blocks as a directory are as many as are counted
  dir_length : (k : ℕ) (o : Option Node) → nodes k ≡ o → length (places_of_dir o) ≡ dir_blocks l o
  dir_length k None e = refl
  dir_length k (Some node) e = by_kind node (is_copied node.kind) refl (count k node e)

  its_dir : (node : Node) → is_copied node.kind ≡ true → places_of_dir (Some node) ≡ run_places node.runs
  its_dir node dir = ap (λ t. if t then run_places node.runs else []) dir

  -- among the copies of all directories' blocks those of one directory are where it is counted
  pub dir_copies : (k n j : ℕ) (ps : List ℕ) (node : Node) → AreCopies old new (all_dirs nodes k n) ps → j < n → nodes (k + j) ≡ Some node → is_copied node.kind ≡ true
      → AreCopies old new (run_places node.runs) (take (content_blocks l node.kind node.size) (drop (dirs_from l nodes k j) ps))
  dir_copies k zero j ps node are below at dir = absurd (omega (arith, below))
  dir_copies k (suc n) zero ps node are below at dir =
      let here : nodes k ≡ Some node = ap nodes {x = k} {y = k + 0} (omega arith) ∙ at in
      let mine : places_of_dir (nodes k) ≡ run_places node.runs = ap places_of_dir here ∙ its_dir node dir in
      let first = copies_front old new (places_of_dir (nodes k)) (all_dirs nodes (k + 1) n) ps are in
      subst (λ c. AreCopies old new (run_places node.runs) (take c ps)) (count k node here) (subst (λ bs. AreCopies old new bs (take (length bs) ps)) mine first)
  dir_copies k (suc n) (suc j) ps node are below at dir =
      let rest = copies_rest old new (places_of_dir (nodes k)) (all_dirs nodes (k + 1) n) ps are in
      let there : nodes (k + 1 + j) ≡ Some node = ap nodes {x = k + 1 + j} {y = k + suc j} (omega arith) ∙ at in
      let further = dir_copies (k + 1) n j (drop (length (places_of_dir (nodes k))) ps) node rest (omega (arith, below)) there dir in
      subst (λ qs. AreCopies old new (run_places node.runs) (take (content_blocks l node.kind node.size) qs))
      (ap (λ c. drop (dirs_from l nodes (k + 1) j) (drop c ps)) (dir_length k (nodes k) refl)
      ∙ drop-drop (dirs_from l nodes (k + 1) j) (dir_blocks l (nodes k)) ps)
      further
