-- Of the answers that a mount may give of a disk, one alone is so: there is one newest header, one run and one greatest epoch.
use Rattle.std.proofs.Common.{◌≡◌, ◌⊎◌, inl, inr, ℕ, ◌≤◌, true, length, sym, ◌∙◌, ap₂, subst, arith, true≢false, List}
use Rattle.base_types.specs.Seal.{Blocks}
use Rattle.disk_contract.specs.Disk.{State}
use Rattle.layout_geometry.specs.Geometry.{Geometry}
use Rattle.layout_journal.specs.declared.header.Header.{Header}
use Rattle.layout_journal.specs.Run.{Record, IsRun}
use Rattle.engine_recover.specs.Epoch.{IsGreatestEpoch, IsHeaderEpoch, IsRecordEpoch}
use Rattle.engine_recover.specs.Search.{FoundRun, IsFound, is_spent}
use Rattle.engine_mount.specs.Mount.{FoundDisk, IsUsedUp, settled_on}
use Rattle.engine_store.specs.Refusal.{HasBadBit, HasNumbersLeft, MayBeMounted, replayed_bitmap}
use Rattle.layout_bitmap.specs.Bits.{is_bad_bit}
use Rattle.engine_store.proofs.Bitmaps.{OneNewest, OneRun}

-- the header and the run that are found are the same ones
found_once : OneNewest → OneRun → (n : ℕ) (img : Blocks) (r q : FoundRun) → IsFound n img r → IsFound n img q → (q.header ≡ r.header) × (q.records ≡ r.records)
found_once one runs n img r q first second =
    let same : q.header ≡ r.header = (one n img q.slot r.slot q.header r.header second.newest first.newest).1 in
    (same, runs img r.header q.records r.records (subst (λ (h : Header). IsRun img h q.records) same second.is_run) first.is_run)

-- none of two greatest epochs is above the other
no_greater : (g : Geometry) (img : Blocks) (e k : ℕ) → IsGreatestEpoch g img e → IsGreatestEpoch g img k → e ≤ k
no_greater g img e k is top = by is.is_one
  where
    by : (e ≡ 0) ⊎ (IsHeaderEpoch g img e ⊎ IsRecordEpoch g img e) → e ≤ k
    by (inl none) = omega (arith, none)
    by (inr (inl header)) = top.headers e header
    by (inr (inr block)) = top.blocks e block

-- numbers that are left aren't at their end
pub not_used_up : OneNewest → OneRun → (d : State) (f : FoundDisk) → HasNumbersLeft d f → ¬ IsUsedUp d.blocks (settled_on d)
not_used_up one runs d f left used = by used.at_end
  where
    same : (used.found.header ≡ f.run.header) × (used.found.records ≡ f.run.records)
    same = found_once one runs d.blocks (settled_on d) f.run used.found left.is_found.is_found used.is_found

    by : (is_spent used.found.header (length used.found.records) ≡ true) ⊎ ((greatest : ℕ) × IsGreatestEpoch used.found.header.geom (settled_on d) greatest × (9223372036854775792 ≤ greatest)) → ⊥
    by (inl spent) = true≢false (sym spent ∙ (ap₂ (λ (h : Header) (rs : List Record). is_spent h (length rs)) same.0 same.1 ∙ left.going))
    by (inr (k, is, high)) =
        let low : k ≤ f.epoch = no_greater f.run.header.geom (settled_on d) k f.epoch (subst (λ (h : Header). IsGreatestEpoch h.geom (settled_on d) k) same.0 is) left.is_found.is_greatest in
        omega (arith, low, high, left.epoch)

-- nor has the bitmap that the run leaves a wrong bit and none
pub not_bad : OneNewest → OneRun → (d : State) (b : ℕ) → MayBeMounted d → ¬ HasBadBit d b
not_bad one runs d b may has =
    let same = found_once one runs d.blocks (settled_on d) has.found.run may.found.run has.left.is_found.is_found may.left.is_found.is_found in
    true≢false (sym has.bad.bad ∙ (sym (ap₂ (λ (h : Header) (rs : List Record). is_bad_bit h.geom (replayed_bitmap (record { slot = 0; header = h; records = rs }) (settled_on d)) b) same.0 same.1) ∙ may.no_bad b))
