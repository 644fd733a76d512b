-- What a running transaction is, and what its calls change of it. It is described in docs/PIPELINE.md.
use Rattle.std.specs.Prelude.{◌≡◌, ℕ, ◌+◌, ◌<◌, ◌≤◌, ◌==◌, nat_lt, Bool, false, if◌then◌else◌, List, [], ◌∷◌, ◌++◌, length, slice_get, Option, Some}
use Rattle.layout_journal.specs.Run.{or_else}
use Rattle.crash_argument.specs.HomeTest.{is_one_of}
use Rattle.engine_running.specs.declared.put.Put.{Put}
use Rattle.engine_running.specs.declared.put.Class.{Class}
use Rattle.engine_running.specs.declared.put.Class.TheVariants.{Meta, Content}
use Rattle.engine_running.specs.Rows.{IsRising, with_put, without_put, put_of, LacksBlock}

-- the puts that will be payloads, those that will be fresh blocks, the blocks taken, and the blocks freed; and for how many puts, takes and frees more there is room
pub record Changes : Type 0 where
  pub paid : List Put
  pub laid : List Put
  pub taken : List ℕ
  pub freed : List ℕ
  pub puts : ℕ
  pub takes : ℕ
  pub frees : ℕ

-- both rows of puts ascend, and no block is in both
pub record IsOrdered (payloads fresh : List Put) : Type 0 where
  pub paid : IsRising payloads
  pub laid : IsRising fresh
  pub apart : (k : ℕ) (p : Put) → slice_get fresh k ≡ Some p → LacksBlock p.block payloads

-- the numbers ascend
abbrev pub IsRisingNumbers : List ℕ → Type 0
IsRisingNumbers ns = (i k m n : ℕ) → i < k → slice_get ns i ≡ Some m → slice_get ns k ≡ Some n → m < n

-- what the type keeps: rows and taken blocks ascend, and each box that there is, in a row or spare, has room in either row and among the spare ones
pub record IsKept (payloads fresh : List Put) (taken : List ℕ) (boxes paid_room laid_room spare_room : ℕ) : Type 0 where
  pub ordered : IsOrdered payloads fresh
  pub numbers : IsRisingNumbers taken
  pub paid_has : boxes ≤ paid_room
  pub laid_has : boxes ≤ laid_room
  pub spare_has : boxes ≤ spare_room

-- the bytes that it put for a block
abbrev pub bytes_put : Changes → ℕ → Option (List ℕ)
bytes_put c b = or_else (put_of b c.laid) (put_of b c.paid)

-- it changed nothing
pub record IsEmpty (c : Changes) : Type 0 where
  pub paid : c.paid ≡ []
  pub laid : c.laid ≡ []
  pub taken : c.taken ≡ []
  pub freed : c.freed ≡ []

-- room for so many puts, takes and frees
pub record HasRoomFor (c : Changes) (puts takes frees : ℕ) : Type 0 where
  pub for_puts : puts ≤ c.puts
  pub for_takes : takes ≤ c.takes
  pub for_frees : frees ≤ c.frees

-- what it changed, took and freed is as it was
pub record SameChanges (old new : Changes) : Type 0 where
  pub paid : new.paid ≡ old.paid
  pub laid : new.laid ≡ old.laid
  pub taken : new.taken ≡ old.taken
  pub freed : new.freed ≡ old.freed

-- a put of this class is of a block that will be written in place: content of a block that was taken in this transaction
abbrev pub is_fresh : Class → List ℕ → ℕ → Bool
is_fresh Meta taken b = false
is_fresh Content taken b = is_one_of b taken

-- the puts, and those for which there is room, are as many together as before
abbrev pub KeepsBoxes : Changes → Changes → Type 0
KeepsBoxes old new = length new.paid + length new.laid + new.puts ≡ length old.paid + length old.laid + old.puts

-- a put: one row has it, the other has none of its block, and one put less at most has room; where the block was put before, none less
pub record Puts (fresh : Bool) (p : Put) (old new : Changes) : Type 0 where
  pub laid : new.laid ≡ (if fresh then with_put p old.laid else without_put p.block old.laid)
  pub paid : new.paid ≡ (if fresh then without_put p.block old.paid else with_put p old.paid)
  pub taken : new.taken ≡ old.taken
  pub freed : new.freed ≡ old.freed
  pub puts : old.puts ≤ new.puts + 1
  pub boxes : KeepsBoxes old new
  pub takes : new.takes ≡ old.takes
  pub frees : new.frees ≡ old.frees

-- with this number among those that ascend
abbrev pub with_number : ℕ → List ℕ → List ℕ
with_number n [] = n ∷ []
with_number n (m ∷ ms) = if nat_lt m n then m ∷ with_number n ms else if m == n then m ∷ ms else n ∷ m ∷ ms

-- a block is taken, and one take less at most has room
pub record Takes (b : ℕ) (old new : Changes) : Type 0 where
  pub taken : new.taken ≡ with_number b old.taken
  pub paid : new.paid ≡ old.paid
  pub laid : new.laid ≡ old.laid
  pub freed : new.freed ≡ old.freed
  pub puts : new.puts ≡ old.puts
  pub takes : old.takes ≤ new.takes + 1
  pub frees : new.frees ≡ old.frees

-- a block's put, if there is one, is given up: it leaves both rows
pub record Forgets (b : ℕ) (old new : Changes) : Type 0 where
  pub paid : new.paid ≡ without_put b old.paid
  pub laid : new.laid ≡ without_put b old.laid
  pub taken : new.taken ≡ old.taken
  pub freed : new.freed ≡ old.freed
  pub puts : old.puts ≤ new.puts
  pub boxes : KeepsBoxes old new
  pub takes : new.takes ≡ old.takes
  pub frees : new.frees ≡ old.frees

-- a block is freed: it leaves both rows, and one free less at most has room
pub record Frees (b : ℕ) (old new : Changes) : Type 0 where
  pub freed : new.freed ≡ old.freed ++ b ∷ []
  pub paid : new.paid ≡ without_put b old.paid
  pub laid : new.laid ≡ without_put b old.laid
  pub taken : new.taken ≡ old.taken
  pub puts : old.puts ≤ new.puts
  pub boxes : KeepsBoxes old new
  pub takes : new.takes ≡ old.takes
  pub frees : old.frees ≤ new.frees + 1
