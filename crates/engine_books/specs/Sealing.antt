-- The books after the commit of their transaction, and with other dead blocks. It is described in docs/BOOKS.md.
use Rattle.std.specs.Prelude.{◌≡◌, ℕ}
use Rattle.engine_reuse.specs.Numbers.{is_among}
use Rattle.engine_reuse.specs.Dead.{DeadBlocks, dead_blocks}
use Rattle.engine_reuse.specs.Calls.{with_sealed}
use Rattle.engine_blocks.specs.Running.{Spare}
use Rattle.engine_books.specs.Books.{TransactionBooks}

-- nothing is ready
abbrev pub nothing_spare : Spare
nothing_spare = record { puts = 0; takes = 0; frees = 0 }

-- the transaction became the record of this number: what it freed waits for it, and the next one has no weight and took nothing
abbrev pub with_record : TransactionBooks → ℕ → TransactionBooks
with_record v number = record v { dead = with_sealed v.dead number; weight = 0; took = 0; spare = nothing_spare }

-- the same blocks are dead and held, and there is the same room for frees: only which of the dead wait may be new
pub record SameDead (old new : DeadBlocks) : Type 0 where
  pub geom : new.geom ≡ old.geom
  pub dead : (b : ℕ) → is_among b (dead_blocks new) ≡ is_among b (dead_blocks old)
  pub held : new.held ≡ old.held
  pub room : new.room ≡ old.room
