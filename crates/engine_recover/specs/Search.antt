-- What the search finds on a disk.
use Rattle.std.specs.Prelude.{◌≡◌, ℕ, ◌+◌, ◌-◌, ⊤, Bool, nat_le, ◌||◌, true, false, List, length, Result, Ok, Err}
use Rattle.base_types.specs.Seal.{Blocks}
use Rattle.layout_journal.specs.declared.header.Header.{Header}
use Rattle.layout_journal.specs.Run.{Newest, Record, IsRun}
use Rattle.engine_recover.specs.declared.find.RecoverRefusal.{RecoverRefusal}
use Rattle.engine_recover.specs.declared.find.RecoverRefusal.TheVariants.{NoHeader, Spent, ReadFault, NoMemory}

-- the newest header, its slot, and the run under it
pub record FoundRun : Type 0 where
  pub slot : ℕ
  pub header : Header
  pub records : List Record

-- the number of the last record of a run of so many, or the one before its start
abbrev pub last_number : Header → ℕ → ℕ
last_number h count = h.start - 1 + count

-- whether a number that a mount raises is at its end, 2^63 - 16
abbrev pub is_spent : Header → ℕ → Bool
is_spent h count = nat_le 9223372036854775792 h.turn || (nat_le 9223372036854775792 h.start || (nat_le 9223372036854775792 h.sure || nat_le 9223372036854775792 (last_number h count)))

-- each part of it is what the definitions say of an image of n blocks
pub record IsFound (n : ℕ) (img : Blocks) (r : FoundRun) : Type 0 where
  pub newest : Newest n img r.slot r.header
  pub is_run : IsRun img r.header r.records

-- the image has a newest header and a run, and a number of theirs is at its end
pub record IsSpent (n : ℕ) (img : Blocks) : Type 0 where
  pub found : FoundRun
  pub is_found : IsFound n img found
  pub spent : is_spent found.header (length found.records) ≡ true

-- what a refusal says of an image of n blocks
abbrev pub RefusalSays : ℕ → Blocks → RecoverRefusal → Type 0
RefusalSays n img NoHeader = (slot : ℕ) (h : Header) → ¬ Newest n img slot h
RefusalSays n img Spent = IsSpent n img
RefusalSays n img ReadFault = ⊤
RefusalSays n img NoMemory = ⊤

-- a failed read stopped the search for the run
abbrev pub find_is_unread : {T : Type 0} → Result T RecoverRefusal → Bool
find_is_unread (Ok x) = false
find_is_unread (Err NoHeader) = false
find_is_unread (Err Spent) = false
find_is_unread (Err ReadFault) = true
find_is_unread (Err NoMemory) = false
