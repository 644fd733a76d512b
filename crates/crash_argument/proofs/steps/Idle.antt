-- Between records no descriptor has the next number, and while one is written all that have it are its own.
use Rattle.std.proofs.Common.{◌≡◌, ◌≢◌, ⊎_elim, ℕ, ◌+◌, ◌<◌, ◌≤◌, List, [], ◌∷◌, ◌++◌, Some, None, sym, ◌∙◌, ap, subst, arith, length-append}
use Rattle.std.proofs.lemmas.Bool.{cases_lt}
use Rattle.std.proofs.lemmas.Option.{none-some, same_Some}
use Rattle.base_types.specs.Seal.{Blocks}
use Rattle.disk_contract.specs.declared.event.Event.{Event}
use Rattle.disk_contract.specs.declared.event.Event.TheVariants.{Noticed}
use Rattle.disk_contract.specs.Cell.{Cell, cell_of}
use Rattle.layout_geometry.specs.Geometry.{Geometry, ring_block}
use Rattle.layout_journal.specs.declared.header.Header.{Header}
use Rattle.layout_journal.specs.declared.record.Descriptor.{Descriptor}
use Rattle.layout_journal.specs.Layout.{descriptor_of}
use Rattle.layout_journal.specs.Run.{descriptor_says}
use Rattle.crash_argument.specs.JournalLaws.{JournalLaws}
use Rattle.crash_argument.specs.Ledger.{Ledger, WrittenRecord, StandsIn, block_at, next_number}
use Rattle.crash_argument.specs.Steps.{NoneIsBeingWritten, IsBeingWritten, IsReadyToCommit, with_record}
use Rattle.crash_argument.specs.Points.{IsMounted, ledger_at_mount}
use Rattle.crash_argument.proofs.log.Adds.{Adds, stood, stands_settled, settles_one}

-- idle as a session begins
pub begins_idle : (base : Blocks) (log : List Event) (g : Geometry) (slot : ℕ) (h : Header) → IsMounted (cell_of base log) g slot h → NoneIsBeingWritten (cell_of base log) (ledger_at_mount (cell_of base log) g slot h)
begins_idle base log g slot h m = record {
  each = λ p x d st is e. absurd (omega (arith, m.no_descriptor p d (ap (descriptor_of g) (sym (stands_settled _ x (m.idle (ring_block g p)) st)) ∙ is), e));
}

-- and after a notice
pub notice_idle : (base : Blocks) (log : List Event) (l : Ledger) (t : ℕ) → NoneIsBeingWritten (cell_of base log) l → NoneIsBeingWritten (cell_of base (log ++ Noticed t ∷ [])) l
notice_idle base log l t i = record { each = λ p x d st is e. i.each p x d ((settles_one base log t (ring_block l.geom p)).stands x st) is e }

-- and after a write outside the ring
pub outside_idle : (base : Blocks) (log new : List Event) (l : Ledger) (block : ℕ) (x : List ℕ) → Adds base log new block x → ((p : ℕ) → ring_block l.geom p ≢ block) → NoneIsBeingWritten (cell_of base log) l → NoneIsBeingWritten (cell_of base new) l
outside_idle base log new l block x a apart i = record { each = λ p y d st is e. i.each p y d (subst (λ (c : Cell). StandsIn c y) (a.other _ (apart p)) st) is e }

-- one of its descriptors is written
pub descriptor_writing : (base : Blocks) (log new : List Event) (l : Ledger) (w : WrittenRecord) (place i : ℕ) (x : List ℕ) → Adds base log new (ring_block l.geom place) x → w.says.number ≡ next_number l
    → descriptor_of l.geom x ≡ Some (descriptor_says l.epoch w.says i) → x ≡ block_at w.ring (1 + i) → IsBeingWritten (cell_of base log) l w → IsBeingWritten (cell_of base new) l w
descriptor_writing base log new l w place i x a number reads at wr = record {
  each = λ p y d st is e from. ⊎_elim (λ old. wr.each p y d old is e from)
      (λ own.
      let same : descriptor_says l.epoch w.says i ≡ d = same_Some _ _ (sym reads ∙ ap (descriptor_of l.geom) (sym own) ∙ is) in
      (sym (ap (λ (c : Descriptor). c.number) same) ∙ number, own ∙ at ∙ ap (λ n. block_at w.ring (1 + n)) (ap (λ (c : Descriptor). c.index) same)))
      (stood a (ring_block l.geom p) y st);
}

-- or a block that is no descriptor
pub payload_writing : (base : Blocks) (log new : List Event) (l : Ledger) (w : WrittenRecord) (place : ℕ) (x : List ℕ) → Adds base log new (ring_block l.geom place) x → descriptor_of l.geom x ≡ None → IsBeingWritten (cell_of base log) l w → IsBeingWritten (cell_of base new) l w
payload_writing base log new l w place x a none wr = record {
  each = λ p y d st is e from. ⊎_elim (λ old. wr.each p y d old is e from) (λ own. absurd (none-some d (sym none ∙ ap (descriptor_of l.geom) (sym own) ∙ is))) (stood a (ring_block l.geom p) y st);
}

-- after the commit block none is being written
pub commit_idle : JournalLaws → (base : Blocks) (log new : List Event) (l : Ledger) (w : WrittenRecord) (m : Blocks) → Adds base log new (ring_block l.geom w.says.place) (block_at w.ring 0) → IsReadyToCommit base log l w m → NoneIsBeingWritten (cell_of base new) (with_record l w m)
commit_idle laws base log new l w m a ready = record {
  each = λ p y d st is e. ⊎_elim (λ old. low d.number (λ from. (ready.writing.each p y d old is e from).0))
      (λ own. absurd (none-some d (sym (laws.commit_no_descriptor l.geom l.geom (block_at w.ring 0) _ ready.spelled.commit) ∙ ap (descriptor_of l.geom) (sym own) ∙ is)))
      (stood a (ring_block l.geom p) y st);
}
  where
    low : (n : ℕ) → (next_number l ≤ n → n ≡ next_number l) → n < next_number (with_record l w m)
    low n own = ⊎_elim (λ lt. omega (arith, lt, length-append l.records (w ∷ []))) (λ ge. omega (arith, own ge, length-append l.records (w ∷ []))) (cases_lt n (next_number l))
