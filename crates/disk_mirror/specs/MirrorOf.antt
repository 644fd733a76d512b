-- A mirror as a whole: its two disks, which of them are live, what it keeps, and what is known of it as of a disk.
use Rattle.std.specs.Prelude.{◌≡◌, ℕ, Bool, []}
use Rattle.disk_contract.specs.Disk.{State}
use Rattle.disk_contract.specs.declared.disk.Disk.{Ghosts}
use Rattle.disk_mirror.specs.declared.mirror.Mirror.{Mirror}
use Rattle.disk_mirror.specs.Mirror.{Counts, counts_of, mirror_state}
use Rattle.disk_mirror.specs.Order.{OrderState}

abbrev pub first_in : {A : Type 0} {k : Ghosts A} {B : Type 0} {l : Ghosts B} → Mirror A B k l → A
first_in m = m.a.disk

abbrev pub second_in : {A : Type 0} {k : Ghosts A} {B : Type 0} {l : Ghosts B} → Mirror A B k l → B
second_in m = m.b.disk

-- the order of its events, and what it keeps of its writes
abbrev pub order_in : {A : Type 0} {k : Ghosts A} {B : Type 0} {l : Ghosts B} → Mirror A B k l → OrderState
order_in m = m.order

-- its own numbers
abbrev pub counts_in : {A : Type 0} {k : Ghosts A} {B : Type 0} {l : Ghosts B} → Mirror A B k l → Counts
counts_in m = counts_of m.faults m.read_faults m.waits m.polls m.most

-- how many writes it has room for in all
abbrev pub room_in : {A : Type 0} {k : Ghosts A} {B : Type 0} {l : Ghosts B} → Mirror A B k l → ℕ
room_in m = m.most

-- whether no call on the first disk has failed
abbrev pub first_is_live : {A : Type 0} {k : Ghosts A} {B : Type 0} {l : Ghosts B} → Mirror A B k l → Bool
first_is_live m = m.a.live

abbrev pub second_is_live : {A : Type 0} {k : Ghosts A} {B : Type 0} {l : Ghosts B} → Mirror A B k l → Bool
second_is_live m = m.b.live

-- the moment of the mirror at which the first disk went down, where it did
abbrev pub first_end : {A : Type 0} {k : Ghosts A} {B : Type 0} {l : Ghosts B} → Mirror A B k l → ℕ
first_end m = m.a.end

abbrev pub second_end : {A : Type 0} {k : Ghosts A} {B : Type 0} {l : Ghosts B} → Mirror A B k l → ℕ
second_end m = m.b.end

-- what is known of a mirror of two disks of which so much is known
abbrev pub state_of : {A : Type 0} {k : Ghosts A} {B : Type 0} {l : Ghosts B} → (A → State) → (B → State) → Mirror A B k l → State
state_of S T m = mirror_state (S m.a.disk) (T m.b.disk) m.order (counts_in m)

-- nothing has happened on it yet
pub record IsNew (s : State) : Type 0 where
  pub log : s.log ≡ []
  pub faults : s.faults ≡ 0
  pub read_faults : s.read_faults ≡ 0
  pub waits : s.waits ≡ 0
  pub polls : s.polls ≡ 0
