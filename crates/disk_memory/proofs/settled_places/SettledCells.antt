-- The cell of a block by its settled place. The law of disk_contract, that settled is the newest noticed write, is taken
-- by its two clauses: a function that calls it has them.
use Rattle.std.proofs.Common.{◌≡◌, ℕ, zero, suc, List, drop, Some, sym, ◌∙◌, ap}
use Rattle.std.specs.List.{slice_get}
use Rattle.base_types.specs.Seal.{Blocks}
use Rattle.disk_contract.specs.declared.event.Event.{Event}
use Rattle.disk_contract.specs.declared.event.Event.TheVariants.{Wrote}
use Rattle.disk_contract.specs.Cell.{Cell, cell_of}
use Rattle.disk_contract.specs.Lawful.{IsLawful, writes_to, IsNewestNoticed, HasNoneNoticed}
use Rattle.disk_memory.specs.Settled.{IsSettledPlace}

module _ (noticed : (base : Blocks) (log later : List Event) (b t : ℕ) (x : List ℕ) → IsLawful log → IsNewestNoticed log b t x later → cell_of base log b ≡ record { settled = x; pending = writes_to b later })
    (none : (base : Blocks) (log : List Event) (b : ℕ) → IsLawful log → HasNoneNoticed log b → cell_of base log b ≡ record { settled = base b; pending = writes_to b log }) where
  -- where no write to the block is settled, the base is, and all its writes are pending
  pub cell_at_zero : (base : Blocks) (log : List Event) (b : ℕ) → IsLawful log → IsSettledPlace log b zero → cell_of base log b ≡ record { settled = base b; pending = writes_to b log }
  cell_at_zero base log b h s = none base log b h s

  -- else the write before the place is settled, and those behind it are pending
  pub cell_at_suc : (base : Blocks) (log : List Event) (b place t : ℕ) (x : List ℕ) → IsLawful log → IsSettledPlace log b (suc place) → slice_get log place ≡ Some (Wrote t b x)
      → cell_of base log b ≡ record { settled = x; pending = writes_to b (drop (suc place) log) }
  cell_at_suc base log b place t x h s at =
      let same : s.1 ≡ x = one s.0 s.1 (sym s.2 ∙ at) in
      noticed base log (drop (suc place) log) b s.0 s.1 h s.3 ∙ ap (λ (y : List ℕ). record { settled = y; pending = writes_to b (drop (suc place) log) }) same
    where
      one : (u : ℕ) (y : List ℕ) → Some (Wrote u b y) ≡ Some (Wrote t b x) → y ≡ x
      one u y e = cc

  -- in both cases the pending writes are those from the place on
  pub pending_at : (base : Blocks) (log : List Event) (b place : ℕ) → IsLawful log → IsSettledPlace log b place → (cell_of base log b).pending ≡ writes_to b (drop place log)
  pending_at base log b zero h s = ap (λ (c : Cell). c.pending) (none base log b h s)
  pending_at base log b (suc place) h s = ap (λ (c : Cell). c.pending) (noticed base log (drop (suc place) log) b s.0 s.1 h s.3)
