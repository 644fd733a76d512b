-- All stays right as a batch begins and a header is written; and where the disk failed it is safe.
use Rattle.std.proofs.Common.{◌≡◌, ◌⊎◌, ⊎_elim, ℕ, ◌+◌, ◌-◌, ◌<◌, ◌≤◌, Bool, true, false, if◌then◌else◌, List, Result, Ok, Err, IsErr, refl, sym, ◌∙◌, ap, subst, arith}
use Rattle.std.proofs.lemmas.Bool.{false≢true}
use Rattle.std.proofs.lemmas.Option.{same_Some}
use Rattle.base_types.specs.Seal.{Blocks}
use Rattle.disk_contract.specs.declared.event.Event.{Event}
use Rattle.disk_contract.specs.declared.disk.DiskFault.{DiskFault}
use Rattle.disk_contract.specs.Cell.{greatest_ticket}
use Rattle.disk_contract.specs.Disk.{State, AddsWrite, writes_in}
use Rattle.layout_journal.specs.declared.header.Header.{Header}
use Rattle.layout_journal.specs.Ring.{RingPlaces}
use Rattle.layout_journal.specs.Spelling.{header_block}
use Rattle.crash_argument.specs.Ledger.{Ledger}
use Rattle.crash_argument.specs.Points.{MountedSession, IsSafe}
use Rattle.crash_argument.specs.Steps.{with_header}
use Rattle.engine_reuse.specs.Dead.{DeadBlocks}
use Rattle.engine_checkpoint.specs.declared.pipeline.Pending.{Pending}
use Rattle.engine_checkpoint.specs.declared.pipeline.Pipeline.{Pipeline}
use Rattle.engine_checkpoint.specs.Agree.{PipelineAgrees}
use Rattle.engine_checkpoint.specs.Advance.{Turned, MayServe, StaysRight, StaysSafe, Leaves, writes_owed}
use Rattle.engine_checkpoint.specs.Turns.{HeaderAdds, AddsHeader, due_header, header_made, is_header_due}
use Rattle.engine_checkpoint.proofs.HeaderTurns.{serves_made, turned_made}
use Rattle.engine_checkpoint.proofs.Settled.{turned_on}

pub leaves_failed : {A E : Type 0} (r : Result A E) (s : MountedSession) (d : State) (l : Ledger) (t floor : ℕ) (v : Pipeline) (ring : RingPlaces) (dead : DeadBlocks) (taken : List ℕ) → IsErr r → StaysSafe s d l t floor → Leaves r s d l t floor v ring dead taken
leaves_failed (Ok a) s d l t floor v ring dead taken e safe = absurd (false≢true e)
leaves_failed (Err x) s d l t floor v ring dead taken e safe = safe

-- with a header beside the durable one, or without it
pub header_failed : (s : MountedSession) (d : State) (l k : Ledger) (t floor : ℕ) (h : Header) → Turned l k → IsSafe s d.base d.log k t floor ⊎ IsSafe s d.base d.log (with_header k h) t floor → StaysSafe s d l t floor
header_failed s d l k t floor h turned safe = ⊎_elim (λ as_was. record { now = k; turned = turned; safe = as_was }) (λ with_it. record { now = with_header k h; turned = record { geom = turned.geom; epoch = turned.epoch; map_before = turned.map_before; next = turned.next; known = turned.known }; safe = with_it }) safe

-- the header was written, or none was due
pub serves_header : (base : Blocks) (log new : List Event) (l : Ledger) (v w : Pipeline) (ring : RingPlaces) (waiting : List (ℕ × ℕ)) (taken : List ℕ) (dead : DeadBlocks) (due : Bool) → is_header_due v ≡ due → PipelineAgrees base log l v ring waiting taken
    → HeaderAdds {A = Unit {0}} {E = DiskFault} due (Ok tt) v w ring → AddsHeader {A = Unit {0}} {E = DiskFault} due (Ok tt) v w ring log new → MayServe l v dead → MayServe (header_made v ring l) w dead
serves_header base log new l v w ring waiting taken dead true is a writes adds serves = serves_made base log l v w ring waiting taken dead a writes (subst (λ (q : Pending). greatest_ticket log < q.ticket) (same_Some adds.0 writes.pending (sym adds.1 ∙ writes.is_next)) adds.2.0) serves
serves_header base log new l v w ring waiting taken dead false is a same adds serves = subst (λ (p : Pipeline). MayServe (header_made v ring l) p dead) (sym same) (subst (λ b. MayServe (if b then with_header l (due_header v ring) else l) v dead) (sym is) serves)

-- all is right then, by the ledger that there is
pub right_header : (s : MountedSession) (d : State) (l k : Ledger) (t floor : ℕ) (v w : Pipeline) (ring : RingPlaces) (dead : DeadBlocks) (taken : List ℕ) → Turned l k → IsSafe s d.base d.log (header_made v ring k) t floor → PipelineAgrees d.base d.log (header_made v ring k) w ring dead.waiting taken → MayServe (header_made v ring k) w dead
    → StaysRight s d.base d.log l t floor w ring dead taken
right_header s d l k t floor v w ring dead taken turned safe agrees serves = record { now = header_made v ring k; turned = turned_on l k (header_made v ring k) turned (turned_made k v ring); right = record { safe = safe; agrees = agrees; serves = serves } }

-- How many writes were made, and are owed.

pub owed_header : (v w : Pipeline) (ring : RingPlaces) (due : Bool) (r : Result (Unit {0}) DiskFault) (log new : List Event) → ((b : ℕ) (x : List ℕ) (r : Result ℕ DiskFault) (old new : List Event) → AddsWrite b x r old new → writes_in new ≤ writes_in old + 1)
    → HeaderAdds due r v w ring → AddsHeader due r v w ring log new → (due ≡ true → writes_owed w + 1 ≤ writes_owed v) → writes_in new + writes_owed w ≤ writes_in log + writes_owed v
owed_header v w ring true (Ok a) log new one adds writes owed = omega (arith, owed refl, one (1 - v.slot) (header_block (due_header v ring)) (Ok writes.0.ticket) log new writes.2)
owed_header v w ring true (Err e) log new one adds writes owed = omega (arith, owed refl, one (1 - v.slot) (header_block (due_header v ring)) (Err e) log new writes)
owed_header v w ring false (Ok a) log new one same none owed = omega (arith, ap writes_in none, ap writes_owed same)
owed_header v w ring false (Err e) log new one bad none owed = absurd bad
