-- Lemmas on what the size of a node says of its content, which crates above cite too. They add no meaning to the promises.
use Rattle.std.proofs.Common.{◌≡◌, ℕ, ◌+◌, ◌*◌, ◌/◌, ◌%◌, ◌≤◌, refl, ap, ◌∙◌, arith}
use Rattle.base_types.specs.declared.layout.Layout.{Layout}
use Rattle.base_types.specs.Layouts.{directory_bytes, directory_blocks}
use Rattle.base_types.specs.LayoutLaws.{content_is, directory_least, directory_needs, size_is}
use Rattle.layout_bytes.specs.declared.node.NodeKind.{NodeKind}
use Rattle.layout_bytes.specs.declared.node.NodeKind.TheVariants.{Free, Dir, File, Snapshot}
use Rattle.layout_bytes.specs.Node.{content_of, content_blocks, size_of}

-- a size is told by the content that it says, where a directory's is whole slots
pub size_of_content : (l : Layout) (kind : NodeKind) (size : ℕ) → (kind ≡ Dir → size % 64 ≡ 0) → size_of l kind (content_of l kind size) ≡ size
size_of_content l Free size whole = refl
size_of_content l Dir size whole = size_is l size (whole refl)
size_of_content l File size whole = refl
size_of_content l Snapshot size whole = refl

-- a directory of so many slots
pub content_of_slots : (l : Layout) (e : ℕ) → content_of l Dir (64 * e) ≡ directory_bytes l e
content_of_slots l e = content_is l e

pub blocks_of_slots : (l : Layout) (e : ℕ) → content_blocks l Dir (64 * e) ≡ directory_blocks l e
blocks_of_slots l e = ap (λ n. (n + 1023) / 1024) (content_is l e) ∙ directory_needs l e

-- a size is hardly more than its content
pub size_below : (l : Layout) (kind : NodeKind) (size : ℕ) → size ≤ content_of l kind size + 63
size_below l Free size = omega arith
size_below l Dir size = omega (arith, directory_least l (size / 64))
size_below l File size = omega arith
size_below l Snapshot size = omega arith
