-- A bay of which nothing fails of itself, as far as one name goes. It is described in docs/PROMISES.md.
use Rattle.std.specs.Prelude.{◌≡◌, ◌≢◌, ℕ, Bool, true, false, List, None}
use Rattle.disk_contract.specs.declared.event.Event.{Event}
use Rattle.disk_contract.specs.Bay.{BayState}
use Rattle.disk_contract.specs.Manner.{Manner}
use Rattle.lang_tree.specs.declared.command.Refusal.{Refusal}
use Rattle.lang_tree.specs.declared.command.Refusal.TheVariants.{ReadFault, DiskFault, Stopped}

-- By this manner nothing fails: no read, no poll and no wait; and no write is lost or refused, whatever came before it.
pub record NothingFails (m : Manner) : Type 0 where
  pub reads : m.reads_fail ≡ false
  pub stalls : m.stalls ≡ false
  pub loses : (log : List Event) → m.loses log ≡ false
  pub refuses : (log : List Event) → m.refuses log ≡ false

-- No call of the bay fails of itself, something is under the name, and nothing fails by the manner of the disks there.
pub record IsCalm (name : List ℕ) (bay : BayState) : Type 0 where
  pub calls : bay.may_fail ≡ false
  pub there : bay.kept name ≢ None
  pub disks : NothingFails (bay.manner name)

-- whether a refusal is for a call of the disk that failed, now or before: 13, 14 or 15
abbrev pub is_for_a_call : Refusal → Bool
is_for_a_call ReadFault = true
is_for_a_call DiskFault = true
is_for_a_call Stopped = true
is_for_a_call _ = false
