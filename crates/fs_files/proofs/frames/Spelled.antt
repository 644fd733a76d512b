-- The spelling of a node that fits: it is read as that node, by the laws of nodes and their bytes.
use Rattle.std.proofs.Common.{◌≡◌, ◌≢◌, ◌↔◌, ℕ, zero, suc, ◌-◌, ◌*◌, ◌<◌, Bool, true, false, List, [], ◌∷◌, ◌++◌, length, replicate, slice_index, Some, None, refl, sym, ap, ◌∙◌, arith}
use Rattle.std.proofs.lemmas.Bool.{false≢true}
use Rattle.std.specs.Int.{byte_at, bytes_low_first}
use Rattle.std.proofs.lemmas.Bool.Decides.{nat_tests}
use Rattle.base_types.specs.declared.places.Run.{Run}
use Rattle.base_types.specs.declared.layout.Layout.{Layout}
use Rattle.base_types.specs.Layouts.{node_size}
use Rattle.layout_geometry.specs.Geometry.{Geometry}
use Rattle.layout_bytes.specs.declared.node.Node.{Node}
use Rattle.layout_bytes.specs.declared.node.NodeKind.{NodeKind}
use Rattle.layout_bytes.specs.declared.node.NodeKind.TheVariants.{Free, Dir, File, Snapshot}
use Rattle.layout_bytes.specs.Node.{node_of, node_fits, node_spelling, kind_byte, run_bytes, FitsAs, IsNode}
use Rattle.fs_files.specs.Frames.{used_of, used_by, ReadsBack}

-- Its bytes are below 256.

abbrev AreBytes : List ℕ → Type 0
AreBytes xs = (i : ℕ) → slice_index xs i < 256

none : AreBytes []
none i = omega arith

one_more : (x : ℕ) (xs : List ℕ) → x < 256 → AreBytes xs → AreBytes (x ∷ xs)
one_more x xs low rest zero = low
one_more x xs low rest (suc i) = rest i

both_are : (xs ys : List ℕ) → AreBytes xs → AreBytes ys → AreBytes (xs ++ ys)
both_are [] ys first second = second
both_are (x ∷ xs) ys first second = one_more x (xs ++ ys) (first 0) (both_are xs ys (λ i. first (suc i)) second)

byte_below : (j x : ℕ) → byte_at j x < 256
byte_below j x = grind (arith, nat_tests)

number_bytes : (j n x : ℕ) → AreBytes (bytes_low_first j n x)
number_bytes j zero x = none
number_bytes j (suc n) x = one_more (byte_at j x) (bytes_low_first (suc j) n x) (byte_below j x) (number_bytes (suc j) n x)

zero_bytes : (n : ℕ) → AreBytes (replicate n 0)
zero_bytes zero = none
zero_bytes (suc n) = one_more 0 (replicate n 0) (omega arith) (zero_bytes n)

runs_bytes : (rs : List Run) → AreBytes (run_bytes rs)
runs_bytes [] = none
runs_bytes (r ∷ rs) = both_are (bytes_low_first 0 4 r.first) (bytes_low_first 0 4 r.count ++ run_bytes rs) (number_bytes 0 4 r.first) (both_are (bytes_low_first 0 4 r.count) (run_bytes rs) (number_bytes 0 4 r.count) (runs_bytes rs))

kind_below : (kind : NodeKind) → kind_byte kind < 256
kind_below kind = grind (arith, nat_tests)

-- the parts of a spelling
parts_bytes : (kind : ℕ) (count links size spare runs zeros : List ℕ) → kind < 256 → AreBytes count → AreBytes links → AreBytes size → AreBytes spare → AreBytes runs → AreBytes zeros
    → AreBytes (kind ∷ 0 ∷ (count ++ (links ++ (size ++ (spare ++ (runs ++ zeros))))))
parts_bytes kind count links size spare runs zeros k c l s p r z =
    one_more kind (0 ∷ (count ++ (links ++ (size ++ (spare ++ (runs ++ zeros)))))) k
    (one_more 0 (count ++ (links ++ (size ++ (spare ++ (runs ++ zeros))))) (omega arith)
    (both_are count (links ++ (size ++ (spare ++ (runs ++ zeros)))) c (both_are links (size ++ (spare ++ (runs ++ zeros))) l (both_are size (spare ++ (runs ++ zeros)) s (both_are spare (runs ++ zeros) p (both_are runs zeros r z))))))

spelling_bytes : (l : Layout) (node : Node) → AreBytes (node_spelling l node)
spelling_bytes l node =
    parts_bytes (kind_byte node.kind) (bytes_low_first 0 2 (length node.runs)) (bytes_low_first 0 4 node.links) (bytes_low_first 0 8 node.size) (replicate 16 0) (run_bytes node.runs) (replicate (node_size l - 32 - 8 * length node.runs) 0)
    (kind_below node.kind) (number_bytes 0 2 (length node.runs)) (number_bytes 0 4 node.links) (number_bytes 0 8 node.size) (zero_bytes 16) (runs_bytes node.runs) (zero_bytes (node_size l - 32 - 8 * length node.runs))

-- What it reads as.

abbrev is_free : NodeKind → Bool
is_free Free = true
is_free Dir = false
is_free File = false
is_free Snapshot = false

dir_used : Dir ≡ Free → ⊥
dir_used e = false≢true (ap is_free e)

file_used : File ≡ Free → ⊥
file_used e = false≢true (ap is_free e)

snapshot_used : Snapshot ≡ Free → ⊥
snapshot_used e = false≢true (ap is_free e)

pub reads_back : (g : Geometry) (node : Node)
    → ((b : List ℕ) (n : Node) → length b ≡ node_size g.layout → ((i : ℕ) → slice_index b i < 256) → (node_of g b ≡ Some n) ↔ (IsNode g b n × (n.kind ≡ Free → ⊥)))
    → ((b : List ℕ) (n : Node) → length b ≡ node_size g.layout → ((i : ℕ) → slice_index b i < 256) → IsNode g b n → n.kind ≡ Free → node_of g b ≡ None)
    → ((b : List ℕ) (n : Node) → IsNode g b n → length b ≡ node_size g.layout)
    → ((b : List ℕ) (n : Node) → IsNode g b n → n.kind ≡ Free → b ≡ replicate (node_size g.layout) 0)
    → IsNode g (node_spelling g.layout node) node → ReadsBack g node
reads_back g node read free size zeros is = record {
  size = size (node_spelling g.layout node) node is;
  reads = by node.kind refl;
  zeros = zeros (node_spelling g.layout node) node is;
}
  where
    used : (node.kind ≡ Free → ⊥) → node_of g (node_spelling g.layout node) ≡ Some node
    used isnt = (read (node_spelling g.layout node) node (size (node_spelling g.layout node) node is) (spelling_bytes g.layout node)).1 (is, isnt)

    by : (kind : NodeKind) → node.kind ≡ kind → node_of g (node_spelling g.layout node) ≡ used_by node kind
    by Free e = free (node_spelling g.layout node) node (size (node_spelling g.layout node) node is) (spelling_bytes g.layout node) is e
    by Dir e = used (λ free. dir_used (sym e ∙ free))
    by File e = used (λ free. file_used (sym e ∙ free))
    by Snapshot e = used (λ free. snapshot_used (sym e ∙ free))

-- A node in use is the one that it is.

pub used_some : (node : Node) → node.kind ≢ Free → used_of node ≡ Some node
used_some node isnt = grind (arith, nat_tests)

pub fits_as : (g : Geometry) (node : Node) → node.kind ≢ Free → node_fits g node ≡ true → FitsAs g node node.kind
fits_as g node isnt fits = grind (arith, nat_tests)
