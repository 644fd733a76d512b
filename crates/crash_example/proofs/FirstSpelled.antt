-- The blocks of the first record are spelled as it says.
use Rattle.std.proofs.Common.{◌≡◌, ℕ, zero, suc, ◌+◌, ◌<◌, ◌≤◌, IsTrue, List, [], ◌∷◌, length, Some, slice_get, refl, ap, subst, arith}
use Rattle.sha2.proofs.Facts256.{length-sha256}
use Rattle.std.proofs.lemmas.Option.{same_Some}
use Rattle.base_types.specs.Seal.{sha256}
use Rattle.layout_geometry.specs.Geometry.{Geometry}
use Rattle.layout_journal.specs.declared.record.Commit.{Commit}
use Rattle.layout_journal.specs.declared.record.Descriptor.{Descriptor}
use Rattle.layout_journal.specs.declared.entry.Entry.{Entry}
use Rattle.layout_journal.specs.declared.entry.EntryKind.TheVariants.{Payload, Fresh}
use Rattle.layout_journal.specs.Layout.{commit_of, descriptor_of, descriptor_count, is_stored}
use Rattle.layout_journal.specs.Spelling.{fits_in, commit_block, descriptor_block, AreEntries}
use Rattle.layout_journal.specs.Run.{entries_fit, commit_says, descriptor_says, Fits}
use Rattle.crash_example.specs.FirstRecord.{least, first_bitmap, first_says, first_record}
use Rattle.crash_argument.specs.Ledger.{IsSpelled, block_at}

-- the bitmap block may be in the ring as it is
bitmap_stored : IsTrue (is_stored Payload first_bitmap)
unfolding is_stored first_bitmap
bitmap_stored = refl

-- the entries are in order, and fit the geometry
in_order : (x : List ℕ) → IsTrue (entries_fit least (first_says x))
unfolding entries_fit
in_order x = refl

-- a small number has room in four bytes
room4 : (v : ℕ) → v ≤ 2 → fits_in 4 v
room4 v low = omega arith

-- and in eight
room8 : (v : ℕ) → v ≤ 2 → fits_in 8 v
room8 v low = omega arith

-- the record's entries fit the disk
fit_disk : (x : List ℕ) → AreEntries least (record { block = 18; kind = Payload; digest = sha256 first_bitmap } ∷ record { block = 23; kind = Fresh; digest = sha256 x } ∷ [])
fit_disk x = (
  record { low = omega arith; high = omega arith; digest = length-sha256 first_bitmap },
  (record { low = omega arith; high = omega arith; digest = length-sha256 x }, tt),
)

-- what the laws of the journal's blocks say: commit blocks and descriptors read back
module _ (commits : (g : Geometry) (c : Commit) → fits_in 8 c.epoch → fits_in 8 c.number → fits_in 4 c.descriptors → fits_in 4 c.payloads → fits_in 4 c.fresh
    → 0 < c.payloads → c.descriptors ≡ descriptor_count (c.payloads + c.fresh) → 1 + c.descriptors + c.payloads ≤ g.j → commit_of g (commit_block c) ≡ Some c)
    (descriptors : (g : Geometry) (d : Descriptor) → g.n ≤ 1048576 → fits_in 8 d.epoch → fits_in 8 d.number → fits_in 4 d.index → 0 < length d.entries → length d.entries ≤ 24
    → AreEntries g d.entries → descriptor_of g (descriptor_block d) ≡ Some d) (x : List ℕ) where
  -- its commit block reads back
  commit_reads : commit_of least (commit_block (commit_says 2 (first_says x))) ≡ Some (commit_says 2 (first_says x))
  commit_reads = commits least (commit_says 2 (first_says x)) (room8 2 (omega arith)) (room8 1 (omega arith)) (room4 1 (omega arith)) (room4 1 (omega arith)) (room4 1 (omega arith)) (omega arith) refl (omega arith)

  -- and so does its descriptor
  descriptor_reads : descriptor_of least (descriptor_block (descriptor_says 2 (first_says x) 0)) ≡ Some (descriptor_says 2 (first_says x) 0)
  descriptor_reads = descriptors least (descriptor_says 2 (first_says x) 0) (omega arith) (room8 2 (omega arith)) (room8 1 (omega arith)) (room4 0 (omega arith)) (omega arith) (omega arith) (fit_disk x)

  -- so the first record is spelled by its blocks
  pub first_spelled : IsSpelled least 2 (first_record x)
  first_spelled = record {
    fit = in_order x;
    commit = commit_reads;
    descriptors = by_descriptor;
    payloads = by_payload;
    fresh = by_fresh;
  }
    where
      by_descriptor : (i : ℕ) → i < 1 → descriptor_of least (block_at (first_record x).ring (1 + i)) ≡ Some (descriptor_says 2 (first_says x) i)
      by_descriptor zero lt = descriptor_reads
      by_descriptor (suc i) lt = absurd (omega arith)

      by_payload : (i : ℕ) (e : Entry) → slice_get (first_says x).payloads i ≡ Some e → Fits e (block_at (first_record x).ring (2 + i))
      by_payload zero e is = subst (λ (f : Entry). Fits f first_bitmap) (same_Some _ _ is) (record { digest = refl; kind = bitmap_stored })
      by_payload (suc i) e is = cc

      by_fresh : (i : ℕ) (e : Entry) → slice_get (first_says x).fresh i ≡ Some e → sha256 (block_at (first_record x).fresh i) ≡ e.digest
      by_fresh zero e is = ap (λ (f : Entry). f.digest) (same_Some _ _ is)
      by_fresh (suc i) e is = cc
