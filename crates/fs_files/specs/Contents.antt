-- Lemmas on the bytes of nodes and on the sizes that tell how many there are, that crates above cite too. They add no meaning to the promises.
use Rattle.std.proofs.Common.{◌≡◌, ℕ, ◌+◌, ◌*◌, ◌/◌, ◌<◌, ◌≤◌, true, refl, sym, ap, subst, ◌∙◌, arith, ⊎_elim}
use Rattle.std.proofs.lemmas.Bool.{cases_lt, eqb-true}
use Rattle.base_types.specs.declared.layout.Layout.{Layout}
use Rattle.base_types.specs.Layouts.{slot_place, slot_size, slots_before, slots_held, directory_bytes}
use Rattle.base_types.specs.LayoutLaws.{content_is, directory_count, directory_holds, directory_rises, first_slot, no_directory, slots_of_block}
use Rattle.layout_bytes.specs.declared.node.NodeKind.{NodeKind}
use Rattle.layout_bytes.specs.declared.node.NodeKind.TheVariants.{Free, Dir, File, Snapshot}
use Rattle.layout_bytes.specs.Node.{content_of, content_blocks, size_of}
use Rattle.fs_files.specs.Bytes.{blocks_for}
use Rattle.fs_files.specs.Nodes.{AreWholeSlots, fills_blocks}

-- Sizes.

-- a number of bytes is that which its size tells, where a directory's are whole slots
pub content_of_size : (l : Layout) (kind : NodeKind) (bytes : ℕ) → (kind ≡ Dir → AreWholeSlots l bytes) → content_of l kind (size_of l kind bytes) ≡ bytes
content_of_size l Free bytes whole = refl
content_of_size l Dir bytes whole = content_is l (slots_held l bytes) ∙ whole refl
content_of_size l File bytes whole = refl
content_of_size l Snapshot bytes whole = refl

-- so the blocks of its content are those that so many bytes need
pub blocks_of_size : (l : Layout) (kind : NodeKind) (bytes : ℕ) → (kind ≡ Dir → AreWholeSlots l bytes) → content_blocks l kind (size_of l kind bytes) ≡ blocks_for bytes
blocks_of_size l kind bytes whole = ap (λ n. (n + 1023) / 1024) (content_of_size l kind bytes whole)

-- a node without bytes has no blocks
pub no_blocks : (l : Layout) (kind : NodeKind) → content_blocks l kind 0 ≡ 0
no_blocks l Free = refl
no_blocks l Dir = ap (λ n. (n + 1023) / 1024) (no_directory l)
no_blocks l File = refl
no_blocks l Snapshot = refl

-- Whole slots.

pub whole_slots : (l : Layout) (e : ℕ) → AreWholeSlots l (directory_bytes l e)
whole_slots l e = ap (directory_bytes l) (directory_count l e)

-- a directory's size tells whole slots
pub whole_content : (l : Layout) (kind : NodeKind) (size : ℕ) → kind ≡ Dir → AreWholeSlots l (content_of l kind size)
whole_content l kind size is = subst (λ k. AreWholeSlots l (content_of l k size)) (sym is) (whole_slots l (size / 64))

-- where one number of whole slots is below another the place of the next slot is within the other
pub next_within : (l : Layout) (less more : ℕ) → AreWholeSlots l less → AreWholeSlots l more → less < more → slot_place l (slots_held l less) + slot_size l ≤ more
next_within l less more first second below = ⊎_elim (λ fewer. omega (arith, directory_holds l (slots_held l less) (slots_held l more) fewer, second))
    (λ as_many. absurd (omega (arith, directory_rises l (slots_held l more) (slots_held l less) as_many, first, second, below)))
    (cases_lt (slots_held l less) (slots_held l more))

-- the next slot behind full blocks begins where they end
pub next_block : (l : Layout) (n : ℕ) → fills_blocks l n ≡ true → slot_place l (slots_held l n) ≡ 1024 * blocks_for n
next_block l n full =
    let is = eqb-true (slots_before l (blocks_for n)) (slots_held l n) full in
    ap (slot_place l) {x = slots_held l n} {y = slots_before l (blocks_for n) + 0} (omega (arith, is)) ∙ omega (arith, slots_of_block l (blocks_for n) 0, first_slot l)
