-- The writes of a record, in their order, and calls that only write.
use Rattle.std.specs.Prelude.{ℕ, ◌+◌, Bool, IsTrue, List, [], ◌∷◌, ◌++◌, map, Result, OnErr, is_err}
use Rattle.disk_contract.specs.Disk.{HasFailed, OnlyWrites, State}
use Rattle.layout_geometry.specs.Geometry.{Geometry, ring_block}
use Rattle.layout_journal.specs.Spelling.{commit_block}
use Rattle.layout_journal.specs.Run.{heads, commit_says}
use Rattle.engine_running.specs.declared.put.Put.{Put}
use Rattle.engine_running.specs.Record.{record_of, stored_put, descriptor_blocks}

abbrev pub fresh_write : Put → ℕ × List ℕ
fresh_write p = (p.block, p.bytes)

-- blocks that go into the ring one behind the other, from this place on
abbrev pub ring_writes : Geometry → ℕ → List (List ℕ) → List (ℕ × List ℕ)
ring_writes g place [] = []
ring_writes g place (x ∷ xs) = (ring_block g place, x) ∷ ring_writes g (place + 1) xs

-- The writes of a transaction's record, in their order: fresh blocks, descriptors, payloads, and the commit block.
abbrev pub record_writes : Geometry → ℕ → ℕ → ℕ → List Put → List Put → List (ℕ × List ℕ)
record_writes g epoch number place paid laid =
    map fresh_write laid
    ++ (ring_writes g (place + 1) (descriptor_blocks epoch (record_of number place paid laid))
    ++ (ring_writes g (place + heads (record_of number place paid laid)) (map stored_put paid)
    ++ (ring_block g place, commit_block (commit_says epoch (record_of number place paid laid))) ∷ []))

-- A call asked the disk for writes alone, and where the disk tells, it has failed if the call did.
pub record AsksWrites {A E : Type 0} (tells : Bool) (result : Result A E) (old new : State) : Type 0 where
  pub spends : OnlyWrites (is_err result) old new
  pub cause : IsTrue tells → OnErr result (HasFailed new)
