-- The node among some blocks is in its bytes, and bytes are written over others.
use Rattle.std.proofs.Common.{◌≡◌, ℕ, ◌+◌, ◌-◌, ◌≤◌, List, ◌++◌, length, take, drop, Option, sym, ap, ap₂, ◌∙◌, arith}
use borrow.Rule.Slice.PartMut.{put_mid}
use Rattle.std.proofs.lemmas.List.{drop-drop}
use Rattle.std.proofs.lemmas.Bool.Decides.{nat_tests}
use Rattle.base_types.specs.Seal.{Blocks}
use Rattle.base_types.specs.Layouts.{node_byte, node_size}
use Rattle.layout_geometry.specs.Geometry.{Geometry}
use Rattle.layout_bytes.specs.declared.node.Node.{Node}
use Rattle.layout_bytes.specs.Node.{node_of}
use Rattle.crash_stands.specs.Files.{used_node}
use Rattle.fs_files.specs.Bytes.{overwrite}
use Rattle.fs_files.specs.Nodes.{node_block}

-- a node of the table is in its bytes
used_in : (g : Geometry) (m : Blocks) (k : ℕ) (bytes : List ℕ) → 1 ≤ k → k ≤ g.i → bytes ≡ m (node_block g k) → node_of g (take (node_size g.layout) (drop (node_byte g.layout k) bytes)) ≡ used_node g m k
used_in g m k bytes from upto e = grind (arith, nat_tests)

-- the same where its place and the geometry are told apart
pub loaded : (x : Option Node) (g h : Geometry) (m : Blocks) (k at size : ℕ) (bytes : List ℕ) → h ≡ g → at ≡ node_byte h.layout k → size ≡ node_size h.layout → 1 ≤ k → k ≤ g.i → bytes ≡ m (node_block g k)
    → x ≡ node_of h (take (at + size - at) (drop at bytes)) → x ≡ used_node g m k
loaded x g h m k at size bytes same place long from upto e is =
    is ∙ ap (λ n. node_of h (take n (drop at bytes))) {x = at + size - at} {y = node_size h.layout} (omega (arith, long))
    ∙ ap (λ n. node_of h (take (node_size h.layout) (drop n bytes))) place
    ∙ ap (λ (i : Geometry). node_of i (take (node_size i.layout) (drop (node_byte i.layout k) bytes))) same
    ∙ used_in g m k bytes from upto e

-- bytes put into the middle of others are written over those there
pub put_over : (a n at : ℕ) (xs ys text : List ℕ) → a ≡ at → length ys ≡ n → ys ≡ text → put_mid a n xs ys ≡ overwrite at text xs
put_over a n at xs ys text place long is =
    ap (λ zs. take a xs ++ (ys ++ zs)) (drop-drop n a xs)
    ∙ ap (λ m. take a xs ++ (ys ++ drop (a + m) xs)) (sym long)
    ∙ ap₂ (λ b zs. overwrite b zs xs) place is
