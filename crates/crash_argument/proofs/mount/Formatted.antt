-- The formatted disk, once its first mount has written its header, is mounted.
use Rattle.std.proofs.Common.{◌≡◌, ◌≢◌, ℕ, ◌+◌, ◌%◌, ◌<◌, ◌≤◌, ◌==◌, Bool, true, false, List, [], ◌∷◌, Some, None, refl, sym, ◌∙◌, ap, subst, arith, replicate}
use Rattle.std.proofs.lemmas.Bool.{eq-eqb, ne_eqb, cond-true, cond-false}
use Rattle.std.proofs.lemmas.Option.{none-some, same_Some}
use Rattle.base_types.specs.Seal.{Blocks}
use Rattle.disk_contract.specs.Cell.{Cell, cell_of, settle, from_ticket}
use Rattle.layout_geometry.specs.Geometry.{Geometry, ring_block, geometry_fits, bitmap_start, data_start}
use Rattle.layout_journal.specs.declared.header.Header.{Header}
use Rattle.layout_journal.specs.declared.entry.EntryKind.TheVariants.{Payload}
use Rattle.layout_journal.specs.Layout.{header_of, commit_of, descriptor_of, is_stored}
use Rattle.layout_journal.specs.Spelling.{header_block, IsHeader}
use Rattle.crash_argument.proofs.theorem.Images.{in_ring}
use Rattle.crash_argument.specs.Points.{IsMounted}
use Rattle.layout_journal.specs.Formatted.{empty_header, formatted}
use Rattle.crash_argument.specs.Formatted.{mount_events}

-- a small number has room in eight bytes
small8 : (v : ℕ) → v ≤ 2 → Rattle.layout_journal.specs.Spelling.fits_in 8 v
small8 v low = omega arith

-- a header without records can be written
pub empty_is : (g : Geometry) (epoch turn : ℕ) → geometry_fits g ≡ true → 0 < g.j → 0 < epoch → epoch ≤ 2 → 0 < turn → turn ≤ 2 → IsHeader (empty_header g epoch turn)
empty_is g epoch turn fits ring e0 e2 t0 t2 = record {
  epoch = small8 epoch e2;
  turn = small8 turn t2;
  first = small8 1 (omega arith);
  sure = small8 0 (omega arith);
  epoch_from = e0;
  turn_from = t0;
  start_from = omega arith;
  start_upto = omega arith;
  at = ring;
  geom = fits;
}

-- behind the header and before the bitmap a formatted disk has zeros, as the law of its blocks says
abbrev pub HasZeros : Type 0
HasZeros = (g : Geometry) (b : ℕ) → 0 < b → b < bitmap_start g → formatted g b ≡ replicate 1024 0

-- a block of zeros is a payload as it is stored
pub zeros_are_stored : is_stored Payload (replicate 1024 0) ≡ true
unfolding is_stored
zeros_are_stored = refl

-- what the laws of the journal's blocks say: a header that can be written reads back, and zeros read as nothing
module _ (reads : (h : Header) → IsHeader h → header_of h.geom.n (header_block h) ≡ Some h)
    (no_commit : (g : Geometry) → commit_of g (replicate 1024 0) ≡ None) (no_descriptor : (g : Geometry) → descriptor_of g (replicate 1024 0) ≡ None)
    (zeros : HasZeros) (g : Geometry) (ticket : ℕ) (fits : geometry_fits g ≡ true) (sizes : (0 < g.j) × (data_start g ≤ g.n)) where
  -- what the disk held before the mount
  abbrev base : Blocks
  base = formatted g

  -- what the mount writes
  abbrev block : List ℕ
  block = header_block (empty_header g 2 2)

  -- slot 1 is settled in the header
  own : cell_of base (mount_events g ticket) 1 ≡ record { settled = block; pending = [] }
  own = ap (settle (record { settled = base 1; pending = record { ticket = Some ticket; bytes = block } ∷ [] })) (cond-true (ticket == ticket) _ _ (eq-eqb ticket ticket refl))

  -- every other block is settled in what it held
  other : (b : ℕ) → 1 ≢ b → cell_of base (mount_events g ticket) b ≡ record { settled = base b; pending = [] }
  other b apart = ap (λ (c : Cell). settle c (from_ticket ticket c.pending)) (cond-false (1 == b) _ _ (ne_eqb 1 b apart))

  -- the ring is zeros
  on_ring : (p : ℕ) → (cell_of base (mount_events g ticket) (ring_block g p)).settled ≡ replicate 1024 0
  on_ring p = ap (λ (c : Cell). c.settled) (other (ring_block g p) (λ e. omega arith)) ∙ zeros g (ring_block g p) (omega arith) (in_ring g p sizes.0)

  -- so the disk is mounted with that header
  pub formatted_mounts : IsMounted (cell_of base (mount_events g ticket)) g 1 (empty_header g 2 2)
  formatted_mounts = record {
    is_slot = omega arith;
    idle = λ b. idle_at b (1 == b) refl;
    stands = ap (λ (c : Cell). header_of g.n c.settled) own ∙ reads (empty_header g 2 2) (empty_is g 2 2 fits sizes.0 (omega arith) (omega arith) (omega arith) (omega arith));
    other = λ k is. subst (λ (h : Header). h.turn < 2) (same_Some _ _ (sym first ∙ is)) (omega arith);
    new_epoch = λ k is. subst (λ (h : Header). h.epoch < 2) (same_Some _ _ (sym first ∙ is)) (omega arith);
    geom = refl;
    not_closed = refl;
    empty = refl;
    no_commit = λ p c is. absurd (none-some c (sym (no_commit g) ∙ sym (ap (commit_of g) (on_ring p)) ∙ is));
    no_descriptor = λ p d is. absurd (none-some d (sym (no_descriptor g) ∙ sym (ap (descriptor_of g) (on_ring p)) ∙ is));
    shape = sizes.1;
    ring = sizes.0;
  }
    where
      first : header_of g.n (cell_of base (mount_events g ticket) 0).settled ≡ Some (empty_header g 1 1)
      first = ap (λ (c : Cell). header_of g.n c.settled) (other 0 (λ e. omega arith)) ∙ reads (empty_header g 1 1) (empty_is g 1 1 fits sizes.0 (omega arith) (omega arith) (omega arith) (omega arith))

      idle_at : (b : ℕ) (v : Bool) → (1 == b) ≡ v → (cell_of base (mount_events g ticket) b).pending ≡ []
      idle_at b true e = ap (λ (c : Cell). c.pending) (ap (cell_of base (mount_events g ticket)) (sym (Rattle.std.proofs.lemmas.Bool.eqb-true 1 b e)) ∙ own)
      idle_at b false e = ap (λ (c : Cell). c.pending) (other b (Rattle.std.proofs.lemmas.Bool.eqb-false 1 b e))
