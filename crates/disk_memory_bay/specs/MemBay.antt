-- A bay of disks in memory as a value, and which of its calls fail. The rules are described in docs/BAYS.md.
use Rattle.std.specs.Prelude.{◌≡◌, ℕ, ◌==◌, ◌&&◌, Bool, true, false, if◌then◌else◌, List, [], ◌∷◌, option_map, is_none, Result, Ok, Err, OnErr}
use Rattle.std.specs.List.{list_any}
use Rattle.base_types.specs.Counts.{next_count, after_call}
use Rattle.disk_contract.specs.declared.bay.BayFault.{BayFault}
use Rattle.disk_contract.specs.declared.bay.BayFault.TheVariants.{Fault, NoMemory}
use Rattle.disk_contract.specs.Bay.{BayState}
use Rattle.disk_memory.specs.declared.rule.Rule.TheVariants.{Silent}
use Rattle.disk_memory.specs.MemDisk.{MemDiskState, begun, manner_by}
use Rattle.disk_memory_bay.specs.declared.calls.BayCall.{BayCall}
use Rattle.disk_memory_bay.specs.declared.calls.BayCall.TheVariants.{Make, Open, Close}
use Rattle.disk_memory_bay.specs.declared.calls.BayFail.{BayFail}
use Rattle.disk_memory_bay.specs.Shelves.{ShelfState, kept_of, held_in, fails_in, has_blocks}

-- how many calls of each kind there were
pub record CallCounts : Type 0 where
  pub makes : ℕ
  pub opens : ℕ
  pub closes : ℕ

-- a bay in memory: the room of its disks, which of its calls are to fail, what is under each name, and its counts
pub record MemBayState : Type 0 where
  pub room : ℕ
  pub fails : List BayFail
  pub shelves : List ShelfState
  pub calls : CallCounts
  pub faults : ℕ
  pub disk_faults : ℕ
  pub handed : ℕ
  pub closed : ℕ

-- whether some call of the bay is listed to fail
abbrev pub has_listed : List BayFail → Bool
has_listed [] = false
has_listed (f ∷ fails) = true

-- what the contract of bays says of it: its calls may fail of themselves where one is listed, and its disks have its room, the list of their name, and polls without notices
abbrev pub bay_of : MemBayState → BayState
bay_of m = record {
  faults = m.faults;
  disk_faults = m.disk_faults;
  handed = m.handed;
  closed = m.closed;
  may_fail = has_listed m.fails;
  manner = λ name. manner_by m.room (fails_in m.shelves name) Silent;
  kept = λ name. option_map kept_of (held_in m.shelves name);
}

-- one more call of this kind
abbrev pub counted : BayCall → CallCounts → CallCounts
counted Make n = record n { makes = next_count n.makes }
counted Open n = record n { opens = next_count n.opens }
counted Close n = record n { closes = next_count n.closes }

-- how many calls of this kind there were
abbrev pub calls_of : BayCall → CallCounts → ℕ
calls_of Make n = n.makes
calls_of Open n = n.opens
calls_of Close n = n.closes

-- whether two kinds are one
abbrev pub same_call : BayCall → BayCall → Bool
same_call Make Make = true
same_call Make Open = false
same_call Make Close = false
same_call Open Make = false
same_call Open Open = true
same_call Open Close = false
same_call Close Make = false
same_call Close Open = false
same_call Close Close = true

-- whether the next call of this kind is listed to fail
abbrev pub fails_next : BayCall → MemBayState → Bool
fails_next call m = list_any (λ f. same_call f.kind call && (f.nth == next_count (calls_of call m.calls))) m.fails

-- whether a call failed by a fault
abbrev pub is_fault : {T : Type 0} → Result T BayFault → Bool
is_fault (Ok x) = false
is_fault (Err Fault) = true
is_fault (Err NoMemory) = false

-- What a call of a kind does beside what it is for: the call is counted, a fault is counted once, and where the call fails nothing under any name changes. The room and the list of failing calls stay.
pub record Counts {T : Type 0} (call : BayCall) (result : Result T BayFault) (old new : MemBayState) : Type 0 where
  pub calls : new.calls ≡ counted call old.calls
  pub faults : new.faults ≡ after_call (is_fault result) old.faults
  pub failed : OnErr result (new.shelves ≡ old.shelves)
  pub room : new.room ≡ old.room
  pub fails : new.fails ≡ old.fails

-- a disk as the bay hands it out under a name: it begins with the image, has the bay's room, its polls have no notices, and the calls fail that are listed for the name
abbrev pub handed_out : MemBayState → List ℕ → List (List ℕ) → MemDiskState
handed_out m name image = record (begun image m.room) { fails = fails_in m.shelves name }

-- the disk that opening a name gives
abbrev pub IsOpened : MemBayState → List ℕ → MemDiskState → Type 0
IsOpened m name disk = disk ≡ handed_out m name disk.base

-- whether opening a name fails by a fault: the call is listed, or nothing is under the name
abbrev pub open_fails : MemBayState → List ℕ → Bool
open_fails m name = if fails_next Open m then true else is_none (held_in m.shelves name)

-- what handing back a disk of so many blocks under a name is answered: it is taken where the call isn't listed and an image of so many blocks is there
abbrev pub close_answer : MemBayState → List ℕ → ℕ → Result (Unit {0}) BayFault
close_answer m name n = if fails_next Close m then Err Fault else (if has_blocks n (held_in m.shelves name) then Ok tt else Err Fault)
