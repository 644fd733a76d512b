-- The theorem on images, as one lemma.
use Rattle.std.proofs.Common.{◌≡◌, ◌+◌, ◌-◌, ◌≤◌, List, ◌++◌, length, ap, arith, length-append, length-drop}
use Rattle.base_types.specs.Seal.{Blocks}
use Rattle.disk_contract.specs.declared.event.Event.{Event}
use Rattle.disk_contract.specs.Crash.{IsHonest}
use Rattle.crash_argument.specs.JournalLaws.{JournalLaws}
use Rattle.layout_journal.specs.declared.header.Header.{Header}
use Rattle.crash_argument.specs.Ledger.{Ledger, WrittenRecord, IsConsistentWith, IsStanding, StandsForOne, from_start, next_number}
use Rattle.crash_argument.proofs.theorem.Images.{honest_faithful}
use Rattle.crash_argument.proofs.theorem.Stands.{reached}

-- the records of a front, counted from a standing header's start, end at the next number or before it
pub count_of : (base : Blocks) (log : List Event) (l : Ledger) → IsConsistentWith base log l → (h : Header) (good bad : List WrittenRecord) → IsStanding l h → from_start l h ≡ good ++ bad → h.start + length good ≤ next_number l
count_of base log l k h good bad st split =
    let f = k.headers.fits h st in
    omega (arith, f.start, f.sure, f.last, ap (λ (ws : List WrittenRecord). length ws) split, length-append good bad, length-drop {A = WrittenRecord} (h.start - l.header.start) l.records)

-- each honest image stands for the map after some number of records
pub stands_for_one : JournalLaws → (base : Blocks) (log : List Event) (l : Ledger) (img : Blocks) → IsConsistentWith base log l → IsHonest l.geom.n base log img → StandsForOne l img
stands_for_one laws base log l img keeps honest =
    let r = reached laws base log l img keeps (honest_faithful laws base log l img keeps honest) in
    record {
      number = r.header.start + length r.good;
      known = r.known;
      issued = count_of base log l keeps r.header r.good r.bad r.standing r.split;
      held = r.held;
    }
