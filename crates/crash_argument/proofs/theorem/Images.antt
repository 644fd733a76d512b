-- What is needed of an image: it holds what stands or what isn't sealed, and the digests of a record's blocks tell their bytes.
use Rattle.std.proofs.Common.{◌≡◌, ◌⊎◌, inl, inr, ⊎_elim, ℕ, ◌+◌, ◌<◌, ◌≤◌, List, [], ◌∷◌, length, Some, slice_get, refl, sym, ◌∙◌, ap, subst, arith}
use Rattle.std.proofs.lemmas.Nat.{mod_below}
use Rattle.base_types.specs.Seal.{Blocks, sha256, IsSealed}
use Rattle.disk_contract.specs.declared.event.Event.{Event}
use Rattle.disk_contract.specs.Cell.{Cell, Write, cell_of}
use Rattle.disk_contract.specs.Crash.{AreBytesOf, MayHold, IsTorn, IsHonest}
use Rattle.layout_geometry.specs.Geometry.{Geometry, ring_block, bitmap_start, data_start}
use Rattle.layout_journal.specs.declared.entry.Entry.{Entry}
use Rattle.layout_journal.specs.Run.{places}
use Rattle.crash_argument.specs.JournalLaws.{JournalLaws}
use Rattle.crash_argument.specs.Ledger.{Ledger, WrittenRecord, IsConsistentWith, IsOnDisk, StandsIn, block_at, latest, last_of, issued}
use Rattle.crash_argument.proofs.log.Adds.{stands_settled}
use Rattle.crash_argument.proofs.log.Lists.{bytes_same}

-- a faithful image: each block holds what is there or what isn't sealed, and a digest tells the bytes of a record's block
pub record IsFaithful (cells : ℕ → Cell) (l : Ledger) (img : Blocks) : Type 0 where
  pub slots : (b : ℕ) → b < 2 → b < l.geom.n
  pub places_in : (p : ℕ) → ring_block l.geom p < l.geom.n
  pub stands : (b : ℕ) → b < l.geom.n → StandsIn (cells b) (img b) ⊎ ((0 < length (cells b).pending) × ¬ IsSealed (img b))
  pub ring : (k i : ℕ) (w : WrittenRecord) → slice_get l.records k ≡ Some w → i < places w.says → sha256 (img (ring_block l.geom (w.says.place + i))) ≡ sha256 (block_at w.ring i) → img (ring_block l.geom (w.says.place + i)) ≡ block_at w.ring i
  pub fresh : (k i : ℕ) (w : WrittenRecord) (e : Entry) → slice_get l.records k ≡ Some w → slice_get w.says.fresh i ≡ Some e → l.header.sure < w.says.number → sha256 (img e.block) ≡ sha256 (block_at w.fresh i) → img e.block ≡ block_at w.fresh i

-- bytes are those of one of these writes, or of none
bytes_of_or_not : (ws : List Write) (x : List ℕ) → AreBytesOf ws x ⊎ ¬ AreBytesOf ws x
bytes_of_or_not [] x = inr (λ h. h)
bytes_of_or_not (w ∷ ws) x = ⊎_elim (λ e. inl (inl e)) (λ no. ⊎_elim (λ r. inl (inr r)) (λ none. inr (λ h. ⊎_elim no none h)) (bytes_of_or_not ws x)) (bytes_same x w.bytes)

-- bytes are in a cell, or they are torn there
stands_or_torn : (c : Cell) (x : List ℕ) → StandsIn c x ⊎ IsTorn c x
stands_or_torn c x = ⊎_elim (λ e. inl (inl e)) (λ no. ⊎_elim (λ h. inl (inr h)) (λ none. inr (record { not_settled = no; not_written = none })) (bytes_of_or_not c.pending x)) (bytes_same x c.settled)

-- a block of an honest image holds what is there; or something is pending there, and what it holds isn't sealed
pub honest_stands : (n : ℕ) (base : Blocks) (log : List Event) (img : Blocks) → IsHonest n base log img → (b : ℕ) → b < n → StandsIn (cell_of base log b) (img b) ⊎ ((0 < length (cell_of base log b).pending) × ¬ IsSealed (img b))
honest_stands n base log img h b within = ⊎_elim inl (λ torn. inr (some torn (h.leaves b within), h.unsealed b within torn)) (stands_or_torn (cell_of base log b) (img b))
  where
    some : IsTorn (cell_of base log b) (img b) → MayHold (cell_of base log b) (img b) → 0 < length (cell_of base log b).pending
    some torn may = ⊎_elim (λ e. absurd (torn.not_settled e)) (λ r. ⊎_elim (λ w. absurd (torn.not_written w)) (λ p. p.0) r) may

-- the ring lies before the bitmap
pub in_ring : (g : Geometry) (p : ℕ) → 0 < g.j → ring_block g p < bitmap_start g
in_ring g p some = omega (arith, mod_below p g.j some)

-- so it lies within the disk
pub ring_within : (g : Geometry) (p : ℕ) → 0 < g.j → data_start g ≤ g.n → ring_block g p < g.n
ring_within g p some shape = omega (arith, in_ring g p some, shape)

-- and so do the slots of the headers
pub slot_within : (g : Geometry) (b : ℕ) → data_start g ≤ g.n → b < 2 → b < g.n
slot_within g b shape low = omega (arith, shape)

-- an honest image is faithful, where the disk is as the ledger says
pub honest_faithful : JournalLaws → (base : Blocks) (log : List Event) (l : Ledger) (img : Blocks) → IsConsistentWith base log l → IsHonest l.geom.n base log img → IsFaithful (cell_of base log) l img
honest_faithful laws base log l img k h = record {
  slots = λ b low. slot_within l.geom b k.shape low;
  places_in = λ p. ring_within l.geom p k.ring k.shape;
  stands = λ b within. honest_stands l.geom.n base log img h b within;
  ring = λ n i w is below same. known_bytes _ _ (ring_within l.geom (w.says.place + i) k.ring k.shape) ((k.each n w is).ring_logged i below) same;
  fresh = λ n i w e is at late same. known_bytes _ _ (laws.fresh_below l.geom w.says i e (k.each n w is).spelled.fit at) ((k.each n w is).fresh_logged i e at) same;
}
  where
    known_bytes : (b : ℕ) (x : List ℕ) → b < l.geom.n → IsOnDisk l.geom.n base log x → sha256 (img b) ≡ sha256 x → img b ≡ x
    known_bytes b x within on same = ⊎_elim (λ w. h.like_written b x within w same) (λ p. h.like_base b p.0 within p.1 (same ∙ ap sha256 (sym p.2)) ∙ p.2) on

-- the last bytes are those of a write, or those before all writes
last_stands : (x : List ℕ) (ws : List Write) → (last_of x ws ≡ x) ⊎ AreBytesOf ws (last_of x ws)
last_stands x [] = inl refl
last_stands x (w ∷ ws) = inr (⊎_elim inl inr (last_stands w.bytes ws))

-- the image in which all that was issued stands is faithful too
pub issued_faithful : (base : Blocks) (log : List Event) (l : Ledger) → IsConsistentWith base log l → IsFaithful (cell_of base log) l (issued base log)
issued_faithful base log l k = record {
  slots = λ b low. slot_within l.geom b k.shape low;
  places_in = λ p. ring_within l.geom p k.ring k.shape;
  stands = λ b within. inl (last_stands (cell_of base log b).settled (cell_of base log b).pending);
  ring = λ n i w is below same. (k.each n w is).ring i below;
  fresh = λ n i w e is at late same. (k.each n w is).fresh late i e at;
}

-- where nothing is pending, bytes that stand or are torn are what is settled
pub idle_holds : (c : Cell) (x : List ℕ) → c.pending ≡ [] → StandsIn c x ⊎ ((0 < length c.pending) × ¬ IsSealed x) → x ≡ c.settled
idle_holds c x idle h = ⊎_elim (stands_settled c x idle) (λ p. absurd (omega (arith, (subst (λ (ws : List Write). 0 < length ws) idle p.0)))) h

-- so a faithful image holds what is settled
pub idle_settled : (cells : ℕ → Cell) (l : Ledger) (img : Blocks) (b : ℕ) → b < l.geom.n → IsFaithful cells l img → (cells b).pending ≡ [] → img b ≡ (cells b).settled
idle_settled cells l img b within f idle = idle_holds (cells b) (img b) idle (f.stands b within)

-- which is what was written last
pub idle_latest : (cells : ℕ → Cell) (l : Ledger) (img : Blocks) (b : ℕ) → b < l.geom.n → IsFaithful cells l img → (cells b).pending ≡ [] → img b ≡ latest (cells b)
idle_latest cells l img b within f idle = idle_settled cells l img b within f idle ∙ sym (ap (last_of (cells b).settled) idle)

-- what is sealed in a faithful image is there
pub sealed_stands : (cells : ℕ → Cell) (l : Ledger) (img : Blocks) (b : ℕ) → b < l.geom.n → IsFaithful cells l img → IsSealed (img b) → StandsIn (cells b) (img b)
sealed_stands cells l img b within f sealed = ⊎_elim (λ s. s) (λ p. absurd (p.1 sealed)) (f.stands b within)
