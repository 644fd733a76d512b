-- A check of the nodes that one snapshot keeps goes on from node to node.
use Rattle.std.proofs.Common.{◌≡◌, ◌≢◌, ◌⊎◌, inl, inr, ℕ, ◌+◌, ◌-◌, ◌<◌, ◌≤◌, false, IsTrue, List, drop, replicate, None, Some, refl, sym, ap, subst, ◌∙◌, arith}
use Rattle.std.proofs.lemmas.Bool.{cases_lt}
use Rattle.base_types.specs.Seal.{Blocks}
use Rattle.layout_geometry.specs.Geometry.{Geometry}
use Rattle.layout_bytes.specs.declared.node.Node.{Node}
use Rattle.layout_bytes.specs.declared.node.NodeKind.TheVariants.{Dir, Snapshot}
use Rattle.layout_bytes.specs.Bitmap.{bit_in}
use Rattle.layout_bytes.specs.Bytes.{are_zeros}
use Rattle.layout_bytes.specs.Node.{content_of, node_bytes, node_size}
use Rattle.crash_stands.specs.Files.{joined}
use Rattle.crash_stands.specs.Places.{dirs_from, kept_table}
use Rattle.crash_stands.specs.Kept.{kept_nodes, kept_places}
use Rattle.crash_stands.specs.Sharing.{HasKeptBlock, IsSoundKept}
use Rattle.fs_snapshots.specs.Kept.{HasItsParts}
use Rattle.fs_check.specs.Broken.{Precedes}
use Rattle.fs_check.specs.KeptMeeting.{HasMetKept, IsKeptSoundBelow}
use Rattle.fs_check.proofs.sound.Nodes.{used_is}
use Rattle.fs_check.proofs.keeping.Meets.{keep_begins}

-- what is found of kept node k: its blocks were met, it is no snapshot, it is zeros where it is none, and a directory has no tail
pub record IsKeptNext (g : Geometry) (m : Blocks) (own : List ℕ) (k dirs : ℕ) (met : Blocks) : Type 0 where
  pub blocks : HasMetKept g m own (k + 1) 0 met
  pub plain : (node : Node) → kept_nodes g m own k ≡ Some node → node.kind ≢ Snapshot
  pub free : kept_nodes g m own k ≡ None → node_bytes g (kept_table m own g) k ≡ replicate (node_size g.layout) 0
  pub tail : (node : Node) → kept_nodes g m own k ≡ Some node → node.kind ≡ Dir → IsTrue (are_zeros (drop (content_of g.layout node.kind node.size) (joined m (kept_places g m own k node))))
  pub behind : dirs ≡ dirs_from g.layout (kept_nodes g m own) 1 k

pub kept_step : (g : Geometry) (m : Blocks) (own : List ℕ) (k dirs later : ℕ) (met new : Blocks) → IsKeptSoundBelow g m own k dirs met → IsKeptNext g m own k later new → IsKeptSoundBelow g m own (k + 1) later new
kept_step g m own k dirs later met new below next = record {
  blocks = next.blocks;
  plain = λ l node low at. plain l node at low (cases_lt l k);
  free = λ l from low none. free l from none low (cases_lt l k);
  tail = λ l node low at dir. tail l node at dir low (cases_lt l k);
  behind = next.behind ∙ ap (dirs_from g.layout (kept_nodes g m own) 1) (minus k);
}
  where
    minus : (n : ℕ) → n ≡ n + 1 - 1
    minus n = omega arith

    plain : (l : ℕ) (node : Node) → kept_nodes g m own l ≡ Some node → l < k + 1 → (l < k) ⊎ (k ≤ l) → node.kind ≢ Snapshot
    plain l node at low (inl under) = below.plain l node under at
    plain l node at low (inr over) = let same : k ≡ l = omega (arith, low, over) in next.plain node (ap (kept_nodes g m own) same ∙ at)

    free : (l : ℕ) → 1 ≤ l → kept_nodes g m own l ≡ None → l < k + 1 → (l < k) ⊎ (k ≤ l) → node_bytes g (kept_table m own g) l ≡ replicate (node_size g.layout) 0
    free l from none low (inl under) = below.free l from under none
    free l from none low (inr over) =
        let same : k ≡ l = omega (arith, low, over) in
        ap (node_bytes g (kept_table m own g)) (sym same) ∙ next.free (ap (kept_nodes g m own) same ∙ none)

    tail : (l : ℕ) (node : Node) → kept_nodes g m own l ≡ Some node → node.kind ≡ Dir → l < k + 1 → (l < k) ⊎ (k ≤ l) → IsTrue (are_zeros (drop (content_of g.layout node.kind node.size) (joined m (kept_places g m own l node))))
    tail l node at dir low (inl under) = below.tail l node under at dir
    tail l node at dir low (inr over) =
        let same : k ≡ l = omega (arith, low, over) in
        subst (λ n. IsTrue (are_zeros (drop (content_of g.layout node.kind node.size) (joined m (kept_places g m own n node))))) same (next.tail node (ap (kept_nodes g m own) same ∙ at) dir)

-- a check of a snapshot begins with its first node
pub kept_begins : (g : Geometry) (m : Blocks) (own : List ℕ) (met : Blocks) → ((b : ℕ) → bit_in met b ≡ false) → IsKeptSoundBelow g m own 1 0 met
kept_begins g m own met clear = record {
  blocks = keep_begins g m own met clear;
  plain = λ l node low at. absurd (none l node low at);
  free = λ l from low at. absurd (omega (arith, from, low));
  tail = λ l node low at dir. absurd (none l node low at);
  behind = refl;
}
  where
    none : (l : ℕ) (node : Node) → l < 1 → kept_nodes g m own l ≡ Some node → ⊥
    none l node low at = let from = (used_is g (kept_table m own g) l node at).from in omega (arith, low, from)

-- all nodes that a snapshot keeps were gone through: it is sound
pub kept_sound : (g : Geometry) (m : Blocks) (own : List ℕ) (dirs : ℕ) (met : Blocks) → HasItsParts g m own → IsKeptSoundBelow g m own (g.i + 1) dirs met → IsSoundKept g m own
kept_sound g m own dirs met parts below = record {
  long = parts;
  plain = λ k node at. below.plain k node (under k node at) at;
  once = λ k l i j b has other. below.blocks.once k i l j b (before k i b has) (before l j b other) has other;
  free = λ k from upto none. below.free k from (omega (arith, upto)) none;
  tail = λ k node at dir. below.tail k node (under k node at) at dir;
}
  where
    under : (k : ℕ) (node : Node) → kept_nodes g m own k ≡ Some node → k < g.i + 1
    under k node at = let upto = (used_is g (kept_table m own g) k node at).upto in omega (arith, upto)

    before : (k i b : ℕ) → HasKeptBlock g m own k i b → Precedes k i (g.i + 1) 0
    before k i b has = inl (under k has.node has.is_node)
