-- What a comparison of two disks says of them, on which nothing has happened yet.
use Rattle.std.specs.Prelude.{◌≡◌, ◌≢◌, ◌⊎◌, ℕ, ◌<◌, Bool, true, false, IsTrue, Result, Ok, Err}
use Rattle.disk_contract.specs.Disk.{OnlyReads, State}

-- two disks are alike: they have as many blocks, and began with the same ones
pub record AreAlike (tells : Bool) (first second : State) : Type 0 where
  pub size : second.blocks ≡ first.blocks
  pub same : IsTrue tells → (b : ℕ) → b < first.blocks → second.base b ≡ first.base b

-- they differ in a block
pub record DifferInABlock (first second : State) : Type 0 where
  pub block : ℕ
  pub there : block < first.blocks
  pub differs : second.base block ≢ first.base block

-- they are unlike: they differ in the number of blocks, or in a block
abbrev pub AreUnlike : Bool → State → State → Type 0
AreUnlike tells first second = (second.blocks ≢ first.blocks) ⊎ ((second.blocks ≡ first.blocks) × (IsTrue tells → DifferInABlock first second))

-- two disks were only read: neither has a new event, and where a read of one failed, it has counted that once
pub record AreOnlyRead (tells first_unread second_unread : Bool) (first first_now second second_now : State) : Type 0 where
  pub reads_first : OnlyReads first_unread first first_now
  pub reads_second : OnlyReads second_unread second second_now
  pub log_first : IsTrue tells → first_now.log ≡ first.log
  pub log_second : IsTrue tells → second_now.log ≡ second.log

-- a read of one of the two failed, and none of the other
abbrev pub OneIsUnread : Bool → Bool → Type 0
OneIsUnread first_unread second_unread = ((first_unread ≡ true) × (second_unread ≡ false)) ⊎ ((first_unread ≡ false) × (second_unread ≡ true))

-- no read failed
abbrev pub NoneIsUnread : Bool → Bool → Type 0
NoneIsUnread first_unread second_unread = (first_unread ≡ false) × (second_unread ≡ false)

-- what the answer says, by whether a read of the first disk failed, and one of the second: a failed read counts before what was read, and different numbers of blocks before any read
abbrev pub SaysOfTwo : {E : Type 0} → Bool → Result Bool E → Bool → Bool → State → State → Type 0
SaysOfTwo tells (Ok true) first_unread second_unread first second = NoneIsUnread first_unread second_unread × AreAlike tells first second
SaysOfTwo tells (Ok false) first_unread second_unread first second = NoneIsUnread first_unread second_unread × AreUnlike tells first second
SaysOfTwo tells (Err e) first_unread second_unread first second = OneIsUnread first_unread second_unread × (second.blocks ≡ first.blocks)

-- what comes of a comparison: whether two disks are alike, or that a read failed
pub record Compares {E : Type 0} (tells : Bool) (result : Result Bool E) (first first_now second second_now : State) : Type 0 where
  pub first_unread : Bool
  pub second_unread : Bool
  pub reads : AreOnlyRead tells first_unread second_unread first first_now second second_now
  pub says : SaysOfTwo tells result first_unread second_unread first second

-- what is said of one block, where the two disks have as many
abbrev pub SaysOfBlock : {E : Type 0} → Bool → ℕ → Result Bool E → Bool → Bool → State → State → Type 0
SaysOfBlock tells b (Ok true) first_unread second_unread first second = NoneIsUnread first_unread second_unread × (IsTrue tells → second.base b ≡ first.base b)
SaysOfBlock tells b (Ok false) first_unread second_unread first second = NoneIsUnread first_unread second_unread × (IsTrue tells → second.base b ≢ first.base b)
SaysOfBlock tells b (Err e) first_unread second_unread first second = OneIsUnread first_unread second_unread

-- what comes of the comparison of one block. Only private contracts speak of it.
pub record ComparesBlock {E : Type 0} (tells : Bool) (b : ℕ) (result : Result Bool E) (first first_now second second_now : State) : Type 0 where
  pub first_unread : Bool
  pub second_unread : Bool
  pub reads : AreOnlyRead tells first_unread second_unread first first_now second second_now
  pub says : SaysOfBlock tells b result first_unread second_unread first second

-- two disks of as many blocks were compared below block b: no read failed, and they are alike there or differ in a block. Only a loop speaks of it.
pub record ComparedBelow (tells : Bool) (b : ℕ) (alike : Bool) (first first_now second second_now : State) : Type 0 where
  pub reads : AreOnlyRead tells false false first first_now second second_now
  pub same : alike ≡ true → IsTrue tells → (i : ℕ) → i < b → second.base i ≡ first.base i
  pub differs : alike ≡ false → IsTrue tells → DifferInABlock first second
