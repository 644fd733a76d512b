-- The journal of a formatted disk may be opened, and no record of it counts.
use Rattle.std.proofs.Common.{◌≡◌, ℕ, zero, suc, ◌+◌, ◌<◌, ◌≤◌, true, [], Some, None, refl, sym, ◌∙◌, ap, subst, arith, replicate}
use Rattle.std.proofs.lemmas.Option.{none-some, same_Some}
use Rattle.disk_contract.specs.Cell.{cell_of}
use Rattle.layout_geometry.specs.Geometry.{Geometry, ring_block, geometry_fits, data_start}
use Rattle.layout_journal.specs.declared.header.Header.{Header}
use Rattle.layout_journal.specs.Layout.{header_of, commit_of, descriptor_of}
use Rattle.layout_journal.specs.Spelling.{header_block, IsHeader}
use Rattle.layout_journal.specs.Formatted.{empty_header, formatted}
use Rattle.layout_journal.specs.Run.{IsRun}
use Rattle.crash_argument.specs.Opening.{settled, IsReadyToOpen}
use Rattle.crash_argument.proofs.mount.Formatted.{HasZeros, empty_is}
use Rattle.crash_argument.proofs.theorem.Images.{in_ring}

-- the slot beside the header is zeros
beside : HasZeros → (g : Geometry) → formatted g 1 ≡ replicate 1024 0
beside zeros g = zeros g 1 (omega arith) (omega arith)

-- and so is the ring
on_ring : HasZeros → (g : Geometry) (p : ℕ) → 0 < g.j → formatted g (ring_block g p) ≡ replicate 1024 0
on_ring zeros g p some = zeros g (ring_block g p) (omega arith) (in_ring g p some)

-- what the laws of the journal's blocks say: a header that can be written reads back, and zeros read as nothing
pub formatted_opens : ((h : Header) → IsHeader h → header_of h.geom.n (header_block h) ≡ Some h) → ((n : ℕ) → header_of n (replicate 1024 0) ≡ None) → ((g : Geometry) → commit_of g (replicate 1024 0) ≡ None) → ((g : Geometry) → descriptor_of g (replicate 1024 0) ≡ None)
    → HasZeros → (g : Geometry) → geometry_fits g ≡ true → (0 < g.j) × (data_start g ≤ g.n) → IsReadyToOpen (cell_of (formatted g) []) 0 (empty_header g 1 1) 1
formatted_opens reads no_header no_commit no_descriptor zeros g fits sizes = record {
  idle = λ b. refl;
  is_newest = record {
    is_slot = omega arith;
    stands = reads (empty_header g 1 1) (empty_is g 1 1 fits sizes.0 (omega arith) (omega arith) (omega arith) (omega arith));
    other = λ k is. absurd (none-some _ (sym (no_header g.n) ∙ sym (ap (header_of g.n) (beside zeros g)) ∙ is));
  };
  epochs = record {
    headers = λ slot h low is. in_slot slot h (omega (arith, low)) is;
    commits = λ p c is. absurd (none-some _ (sym (no_commit g) ∙ sym (ap (commit_of g) (on_ring zeros g p sizes.0)) ∙ is));
    descriptors = λ p d is. absurd (none-some _ (sym (no_descriptor g) ∙ sym (ap (descriptor_of g) (on_ring zeros g p sizes.0)) ∙ is));
  };
}
  where
    first : header_of g.n (formatted g 0) ≡ Some (empty_header g 1 1)
    first = reads (empty_header g 1 1) (empty_is g 1 1 fits sizes.0 (omega arith) (omega arith) (omega arith) (omega arith))

    in_slot : (slot : ℕ) (h : Header) → slot < 2 → header_of g.n (formatted g slot) ≡ Some h → h.epoch ≤ 1
    in_slot zero h low is = subst (λ (k : Header). k.epoch ≤ 1) (same_Some _ _ (sym first ∙ is)) (omega arith)
    in_slot (suc zero) h low is = absurd (none-some _ (sym (no_header g.n) ∙ sym (ap (header_of g.n) (beside zeros g)) ∙ is))
    in_slot (suc (suc k)) h low is = absurd (omega (arith, low))

-- and the run behind the first header is empty
pub formatted_runs : ((g : Geometry) → commit_of g (replicate 1024 0) ≡ None) → HasZeros → (g : Geometry) → 0 < g.j → IsRun (settled (cell_of (formatted g) [])) (empty_header g 1 1) []
formatted_runs no_commit zeros g some = record {
  consecutive = tt;
  whole = tt;
  let_in = tt;
  within = omega arith;
  longest = λ r can. absurd (none-some _ (sym (no_commit g) ∙ sym (ap (commit_of g) (on_ring zeros g r.place some)) ∙ can.whole.commit));
}
