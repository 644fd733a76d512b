-- A header that opens the journal, written beside the newest one and waited for: the disk is mounted then.
use Rattle.std.proofs.Common.{◌≡◌, ◌≢◌, ◌⊎◌, inl, inr, ⊎_elim, ℕ, ◌+◌, ◌-◌, ◌^◌, ◌<◌, ◌≤◌, List, [], ◌∷◌, ◌++◌, Some, Result, Ok, Err, refl, sym, ◌∙◌, ap, subst, arith, append-nil, append_assoc}
use Rattle.std.specs.Result.{IsErr}
use Rattle.std.proofs.lemmas.Bool.{cases_eq, false≢true}
use Rattle.std.proofs.lemmas.Option.{same_Some}
use Rattle.base_types.specs.Seal.{Blocks}
use Rattle.disk_contract.specs.declared.event.Event.{Event}
use Rattle.disk_contract.specs.declared.event.Event.TheVariants.{Wrote, Lost, Noticed}
use Rattle.disk_contract.specs.declared.disk.DiskFault.{DiskFault}
use Rattle.disk_contract.specs.Cell.{Cell, cell_of, IsNoticed, notices}
use Rattle.disk_contract.specs.Disk.{AddsWrite, AddsNotices}
use Rattle.layout_geometry.specs.Geometry.{Geometry, ring_block}
use Rattle.layout_journal.specs.declared.header.Header.{Header}
use Rattle.layout_journal.specs.Layout.{header_of, commit_of, descriptor_of, IsWithinDisk}
use Rattle.layout_journal.specs.Spelling.{IsHeader, header_block}
use Rattle.crash_argument.specs.JournalLaws.{JournalLaws}
use Rattle.crash_argument.specs.LastWrites.{AvoidsBlock, IsLastWrite}
use Rattle.crash_argument.specs.PipelineData.{IsSettledIn}
use Rattle.crash_argument.specs.Points.{IsMounted}
use Rattle.crash_argument.specs.Opening.{opening_header, closed_header, IsReadyToOpen, AddsWaited, AddsDurable}
use Rattle.crash_argument.proofs.log.Adds.{settles_one}
use Rattle.crash_argument.proofs.log.Events.{other_wrote}
use Rattle.crash_argument.proofs.log.LastWrites.{last_new, last_stays}
use Rattle.crash_argument.proofs.log.Tickets.{noticed_done}

-- notices write no block
avoids_notices : (b : ℕ) (ts : List ℕ) → AvoidsBlock b (notices ts)
avoids_notices b [] = tt
avoids_notices b (t ∷ ts) = avoids_notices b ts

-- nothing is pending on a block, and what was settled there still is
pub record IsLeft (old new : Cell) : Type 0 where
  pub idle : new.pending ≡ []
  pub settled : new.settled ≡ old.settled

-- so notices leave a block on which nothing was pending
left_by_notices : (base : Blocks) (log : List Event) (b : ℕ) (ts : List ℕ) → (cell_of base log b).pending ≡ [] → IsLeft (cell_of base log b) (cell_of base (log ++ notices ts) b)
left_by_notices base log b [] e = subst (λ (l : List Event). IsLeft (cell_of base log b) (cell_of base l b)) (sym (append-nil log)) (record { idle = e; settled = refl })
left_by_notices base log b (t ∷ ts) e =
    let one = (settles_one base log t b).idle e in
    let more = left_by_notices base (log ++ Noticed t ∷ []) b ts one.0 in
    subst (λ (l : List Event). IsLeft (cell_of base log b) (cell_of base l b)) (append_assoc log (Noticed t ∷ []) (notices ts)) (record { idle = more.idle; settled = more.settled ∙ one.1 })

-- after a write that was waited for its block is settled in the bytes
pub own_settled : (base : Blocks) (log new : List Event) (block : ℕ) (x : List ℕ) (w : AddsWaited block x log new) → IsNoticed w.ticket new → IsSettledIn (cell_of base new block) x
own_settled base log new block x w noticed = noticed_done base new block w.ticket x
    (subst (λ (l : List Event). IsLastWrite l block w.ticket x) (sym w.waited.log) (last_stays (log ++ Wrote w.ticket block x ∷ []) (notices w.waited.tickets) block w.ticket x (avoids_notices block w.waited.tickets) (last_new log block w.ticket x w.above w.fresh)))
    noticed

-- and every other block on which nothing was pending is as it was
pub other_left : (base : Blocks) (log new : List Event) (block b : ℕ) (x : List ℕ) (w : AddsWaited block x log new) → block ≢ b → (cell_of base log b).pending ≡ [] → IsLeft (cell_of base log b) (cell_of base new b)
other_left base log new block b x w apart idle =
    let same : cell_of base (log ++ Wrote w.ticket block x ∷ []) b ≡ cell_of base log b = other_wrote base log w.ticket block b x apart in
    subst (λ (l : List Event). IsLeft (cell_of base log b) (cell_of base l b)) (sym w.waited.log)
    (subst (λ (c : Cell). IsLeft c (cell_of base ((log ++ Wrote w.ticket block x ∷ []) ++ notices w.waited.tickets) b)) same (left_by_notices base (log ++ Wrote w.ticket block x ∷ []) b w.waited.tickets (ap (λ (c : Cell). c.pending) same ∙ idle)))

-- eight bytes hold a number
in8 : (v : ℕ) → v < 2 ^ 64 → Rattle.layout_journal.specs.Spelling.fits_in 8 v
in8 v lt = omega arith

-- the opening header can be written
pub opening_is : (newest : Header) (last epoch n : ℕ) → IsWithinDisk n newest → epoch < 2 ^ 64 - 1 → newest.turn < 2 ^ 64 - 1 → last < 2 ^ 64 - 1 → IsHeader (opening_header newest last epoch)
opening_is newest last epoch n within low turn sure = record {
  epoch = in8 (epoch + 1) (omega (arith, low));
  turn = in8 (newest.turn + 1) (omega (arith, turn));
  first = in8 (last + 1) (omega (arith, sure));
  sure = in8 last (omega (arith, sure));
  epoch_from = omega arith;
  turn_from = omega arith;
  start_from = omega arith;
  start_upto = omega arith;
  at = omega (arith, within.at);
  geom = within.geom;
}

-- and so can the one that closes a run
pub closing_is : (h : Header) (last count n : ℕ) → IsWithinDisk n h → last ≡ h.start + count - 1 → h.epoch < 2 ^ 64 → h.turn < 2 ^ 64 - 1 → h.start < 2 ^ 64 → last < 2 ^ 64 → IsHeader (closed_header h last)
closing_is h last count n within is epoch turn start sure = record {
  epoch = in8 h.epoch (omega (arith, epoch));
  turn = in8 (h.turn + 1) (omega (arith, turn));
  first = in8 h.start (omega (arith, start));
  sure = in8 last (omega (arith, sure));
  epoch_from = within.epoch;
  turn_from = omega arith;
  start_from = within.first;
  start_upto = omega (arith, within.first, is);
  at = within.at;
  geom = within.geom;
}

-- what the laws of the journal's blocks say: a header that can be written reads back
module _ (laws : JournalLaws) (reads : (h : Header) → IsHeader h → header_of h.geom.n (header_block h) ≡ Some h)
    (base : Blocks) (log new : List Event) (slot : ℕ) (newest : Header) (last epoch : ℕ) (low : epoch < 2 ^ 64 - 1) (turn : newest.turn < 2 ^ 64 - 1) (sure : last < 2 ^ 64 - 1)
    (ready : IsReadyToOpen (cell_of base log) slot newest epoch)
    (w : AddsWaited (1 - slot) (header_block (opening_header newest last epoch)) log new) (noticed : IsNoticed w.ticket new) where
  -- the geometry stays
  abbrev shape : Geometry
  shape = newest.geom

  -- the newest header lies within the disk
  within : IsWithinDisk shape.n newest
  within = laws.header_bounds shape.n _ newest ready.is_newest.stands

  -- the slot beside it is settled in the opening header
  own : IsSettledIn (cell_of base new (1 - slot)) (header_block (opening_header newest last epoch))
  own = own_settled base log new (1 - slot) (header_block (opening_header newest last epoch)) w noticed

  -- every other block is as it was
  other : (b : ℕ) → 1 - slot ≢ b → IsLeft (cell_of base log b) (cell_of base new b)
  other b apart = other_left base log new (1 - slot) b (header_block (opening_header newest last epoch)) w apart (ready.idle b)

  -- the ring is as it was
  ring : (p : ℕ) → (cell_of base new (ring_block shape p)).settled ≡ (cell_of base log (ring_block shape p)).settled
  ring p = (other (ring_block shape p) (λ e. omega arith)).settled

  -- nothing is pending on any block
  idle : (b : ℕ) → (cell_of base new b).pending ≡ []
  idle b = ⊎_elim (λ same. ap (λ c. (cell_of base new c).pending) (sym same) ∙ own.pending) (λ apart. (other b apart).idle) (cases_eq (1 - slot) b)

  -- so the disk is mounted with the opening header
  pub opened : IsMounted (cell_of base new) shape (1 - slot) (opening_header newest last epoch)
  opened = record {
    is_slot = omega arith;
    idle = idle;
    stands = ap (header_of shape.n) own.settled ∙ reads (opening_header newest last epoch) (opening_is newest last epoch shape.n within low turn sure);
    other = λ k is. subst (λ (h : Header). h.turn < newest.turn + 1) (same_Some _ _ (sym ready.is_newest.stands ∙ sym (ap (header_of shape.n) before) ∙ is)) (omega arith);
    new_epoch = λ k is. below k.epoch (ready.epochs.headers slot k ready.is_newest.is_slot (sym (ap (header_of shape.n) before) ∙ is));
    geom = refl;
    not_closed = refl;
    empty = refl;
    no_commit = λ p c is. below c.epoch (ready.epochs.commits p c (sym (ap (commit_of shape) (ring p)) ∙ is));
    no_descriptor = λ p d is. below d.epoch (ready.epochs.descriptors p d (sym (ap (descriptor_of shape) (ring p)) ∙ is));
    shape = (laws.geometry_sizes shape within.geom).1;
    ring = (laws.geometry_sizes shape within.geom).0;
  }
    where
      below : (n : ℕ) → n ≤ epoch → n < epoch + 1
      below n le = omega arith

      before : (cell_of base new (1 - (1 - slot))).settled ≡ (cell_of base log slot).settled
      before = ap (λ b. (cell_of base new b).settled) (omega (arith, ready.is_newest.is_slot)) ∙ (other slot (λ e. omega (arith, ready.is_newest.is_slot))).settled

-- a write that was accepted, and a wait behind it
pub then_waited : (block ticket : ℕ) (x y : List ℕ) (old middle new : List Event) → y ≡ x → AddsWrite {E = DiskFault} block y (Ok ticket) old middle → AddsNotices middle new → AddsWaited block x old new
then_waited block ticket x y old middle new same write waited = record {
  ticket = ticket;
  above = write.0;
  fresh = write.1;
  waited = subst (λ (l : List Event). AddsNotices l new) (write.2 ∙ ap (λ (z : List ℕ). old ++ Wrote ticket block z ∷ []) same) waited;
}

-- and the wait noticed the ticket of that write
pub then_noticed : (block ticket : ℕ) (x y : List ℕ) (old middle new : List Event) → y ≡ x → AddsWrite {E = DiskFault} block y (Ok ticket) old middle → AddsNotices middle new → IsNoticed ticket new → (w : AddsWaited block x old new) × IsNoticed w.ticket new
unfolding then_waited
then_noticed block ticket x y old middle new same write waited noticed = (then_waited block ticket x y old middle new same write waited, noticed)

-- a call that failed
failed : {T : Type 0} (block : ℕ) (x : List ℕ) (old new : List Event) (r : Result T DiskFault) → IsErr r → (new ≡ old) ⊎ (new ≡ old ++ Lost block x ∷ []) ⊎ AddsWaited block x old new → AddsDurable block x r old new
failed block x old new (Ok done) is adds = absurd (false≢true is)
failed block x old new (Err e) is adds = adds

-- it failed at the write
pub failed_write : {T : Type 0} (block : ℕ) (x y : List ℕ) (old new : List Event) (e : DiskFault) (r : Result T DiskFault) → IsErr r → y ≡ x → AddsWrite block y (Err e) old new → AddsDurable block x r old new
failed_write block x y old new e r is same adds = failed block x old new r is (⊎_elim inl (λ lost. inr (inl (lost ∙ ap (λ (z : List ℕ). old ++ Lost block z ∷ []) same))) adds)

-- or at the wait behind it
pub failed_wait : {T : Type 0} (block : ℕ) (x : List ℕ) (old new : List Event) (r : Result T DiskFault) → IsErr r → AddsWaited block x old new → AddsDurable block x r old new
failed_wait block x old new r is w = failed block x old new r is (inr (inr w))

-- the slot beside this one is before the ring
pub is_low : (slot : ℕ) → 1 - slot < 2
is_low slot = omega arith
