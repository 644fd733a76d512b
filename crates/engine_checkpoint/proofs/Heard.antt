-- All stays sound and right as more is heard: the notes alone have changed.
use Rattle.std.proofs.Common.{◌≡◌, ℕ, ◌+◌, ◌≤◌, if◌then◌else◌, List, [], ◌∷◌, ◌++◌, Option, Some, None, refl, sym, ap, subst, arith}
use Rattle.std.proofs.lemmas.Bool.Decides.{nat_tests}
use Rattle.disk_contract.specs.declared.event.Event.{Event}
use Rattle.disk_contract.specs.declared.event.Event.TheVariants.{Wrote, Lost, Noticed}
use Rattle.disk_contract.specs.Cell.{notices}
use Rattle.layout_journal.specs.Ring.{RingPlaces}
use Rattle.disk_contract.specs.Disk.{writes_in}
use Rattle.crash_argument.specs.Ledger.{Ledger}
use Rattle.engine_notes.specs.declared.notes.Note.{Note}
use Rattle.engine_notes.specs.Notes.{Expected, is_expected}
use Rattle.engine_reuse.specs.Dead.{DeadBlocks}
use Rattle.engine_checkpoint.specs.declared.pipeline.Pending.{Pending}
use Rattle.engine_checkpoint.specs.declared.pipeline.Pipeline.{Pipeline}
use Rattle.engine_checkpoint.specs.Order.{IsInOrder, HasRoom, pending_notes}
use Rattle.engine_checkpoint.specs.Waits.{HearsMore}
use Rattle.engine_checkpoint.specs.Advance.{IsSound, HasTurns, LeavesTurns, MayServe, NothingIsDue, writes_owed}
use Rattle.engine_checkpoint.proofs.Hears.{expected_same, heard_opens}

-- the pipeline with other notes
abbrev pub heard : Pipeline → Expected → Pipeline
heard v notes = record v { notes = notes }

pending_same : (o : Option Pending) (old new : List Note) → ((u : ℕ) → is_expected u new ≡ is_expected u old) → pending_notes o new ≡ pending_notes o old
pending_same None old new same = refl
pending_same (Some q) old new same = ap (λ b. if b then 1 else 0) (same q.ticket)

pub order_heard : (v : Pipeline) (notes : Expected) → IsInOrder v → IsInOrder (heard v notes)
order_heard v notes o = record { numbers_are = o.numbers_are; last = o.last; sure = o.sure; next = λ q is. let m = o.next q is in record { start = m.start; start_upto = m.start_upto; sure = m.sure; sure_upto = m.sure_upto; turn = m.turn; epoch = m.epoch }; written = o.written; batch = o.batch; none = o.none; home = o.home; unplaced = o.unplaced; few = o.few; have_places = o.have_places; within = o.within; below = o.below }

pub room_heard : (v : Pipeline) (notes : Expected) → HearsMore v.notes notes → HasRoom v → HasRoom (heard v notes)
room_heard v notes hears r = record { placed = r.placed; sure = r.sure; durable = r.durable; committed = r.committed; home = r.home; blocks = r.blocks; last = r.last; newest = r.newest; notes = omega (arith, r.notes, hears.room, pending_same v.next v.notes.notes notes.notes (expected_same v.notes.notes notes.notes hears.tickets)) }

pub sound_heard : (v w : Pipeline) (ring : RingPlaces) (dead : DeadBlocks) → w ≡ heard v w.notes → HearsMore v.notes w.notes → IsSound v ring dead → IsSound w ring dead
sound_heard v w ring dead rest hears s = grind (arith, nat_tests, order_heard, room_heard)

pub turns_heard : (n : ℕ) (v w : Pipeline) → w ≡ heard v w.notes → LeavesTurns n v → LeavesTurns n w
turns_heard n v w rest t = subst (LeavesTurns n) (sym rest) (record { turn = t.turn; last = t.last })

pub has_turns : (n : ℕ) (v : Pipeline) → n ≤ 4 → HasTurns v → LeavesTurns n v
has_turns n v few t = record { turn = omega (arith, t.turn, few); last = omega (arith, t.last) }

pub serves_heard : (l : Ledger) (v w : Pipeline) (dead : DeadBlocks) → w ≡ heard v w.notes → HearsMore v.notes w.notes → MayServe l v dead → MayServe l w dead
serves_heard l v w dead rest hears serves = grind (arith, nat_tests, heard_opens)

pub owed_heard : (v w : Pipeline) → w ≡ heard v w.notes → writes_owed w ≡ writes_owed v
owed_heard v w rest = ap writes_owed rest

pub due_heard : (v w x : Pipeline) → w ≡ heard v w.notes → NothingIsDue w x → NothingIsDue v x
due_heard v w x rest due = grind (arith, nat_tests)

-- notices are no writes
pub writes_noticed : (log : List Event) (ts : List ℕ) → writes_in (log ++ notices ts) ≡ writes_in log
writes_noticed [] [] = refl
writes_noticed [] (t ∷ ts) = writes_noticed [] ts
writes_noticed (Wrote t b x ∷ log) ts = ap (λ n. 1 + n) (writes_noticed log ts)
writes_noticed (Lost b x ∷ log) ts = ap (λ n. 1 + n) (writes_noticed log ts)
writes_noticed (Noticed t ∷ log) ts = writes_noticed log ts
