-- What is read of a disk, and what reading changes of it.
use Rattle.std.specs.Prelude.{◌≡◌, ℕ, ◌<◌, Bool, IsTrue, true, false, Result, Ok, Err}
use Rattle.base_types.specs.Seal.{Blocks}
use Rattle.disk_contract.specs.Cell.{accepted, is_lost}
use Rattle.disk_contract.specs.Disk.{State, OnlyReads}
use Rattle.engine_recover.specs.declared.reading.Stop.{Stop}
use Rattle.engine_recover.specs.declared.reading.Stop.TheVariants.{ReadFault, NoMemory}

-- a disk that tells gives these blocks: no write of its blocks is lost, and each was last accepted so
pub record Gives (tells : Bool) (s : State) (img : Blocks) : Type 0 where
  pub told : IsTrue tells
  pub calm : (b : ℕ) → b < s.blocks → is_lost b s.log ≡ false
  pub blocks : (b : ℕ) → img b ≡ accepted s.base s.log b

-- A search only reads: the read that stopped it was counted, once, and nothing else of the disk is new.
pub record Searches (tells failed : Bool) (old new : State) : Type 0 where
  pub log : IsTrue tells → new.log ≡ old.log
  pub only : OnlyReads failed old new

-- a failed read stopped the search
abbrev pub is_unread : {T : Type 0} → Result T Stop → Bool
is_unread (Ok x) = false
is_unread (Err ReadFault) = true
is_unread (Err NoMemory) = false
