-- What a header's two steps leave of all that a call of the pipeline promises: the ledger has turned, what may be taken may be still, and ring and dead blocks go with the pipeline.
use Rattle.std.proofs.Common.{◌≡◌, ℕ, ◌-◌, ◌<◌, ◌==◌, ◌&&◌, ◌||◌, not, Bool, true, false, List, [], ◌∷◌, slice_get, Option, Some, None, option_map, refl, sym, ◌∙◌, subst, ap, arith, length-drop}
use Rattle.std.proofs.lemmas.Bool.Decides.{nat_tests}
use Rattle.base_types.specs.Seal.{Blocks}
use Rattle.disk_contract.specs.declared.event.Event.{Event}
use Rattle.disk_contract.specs.Cell.{greatest_ticket}
use Rattle.layout_journal.specs.Ring.{RingPlaces}
use Rattle.layout_journal.specs.Run.{is_live}
use Rattle.crash_argument.specs.Ledger.{Ledger, IsConsistentWith, next_number}
use Rattle.engine_notes.specs.declared.notes.Note.{Note}
use Rattle.engine_notes.specs.Notes.{is_expected, is_noticed, is_open, is_among}
use Rattle.engine_reuse.specs.Dead.{DeadBlocks}
use Rattle.engine_checkpoint.specs.declared.pipeline.HomeWrite.{HomeWrite}
use Rattle.engine_checkpoint.specs.declared.pipeline.Pending.{Pending}
use Rattle.engine_checkpoint.specs.declared.pipeline.Pipeline.{Pipeline}
use Rattle.engine_checkpoint.specs.Advance.{Turned, MayServe}
use Rattle.engine_checkpoint.specs.Agree.{PipelineAgrees, header_in}
use Rattle.engine_checkpoint.specs.Kept.{places_taken}
use Rattle.engine_checkpoint.specs.Order.{GoesWith}
use Rattle.engine_checkpoint.specs.Turns.{TurnsOrStays, WritesHeader, with_turned, header_turned, header_made}

-- The ledger.

-- a ledger turns to itself
pub turned_same : (l : Ledger) → Turned l l
turned_same l = record { geom = refl; epoch = refl; map_before = refl; next = refl; known = omega arith }

-- where this header stands beside the durable one
turned_with : (base : Blocks) (log : List Event) (l : Ledger) (o : Option Pending) → IsConsistentWith base log l → l.next ≡ option_map header_in o → Turned l (with_turned o l)
turned_with base log l None keeps is = turned_same l
turned_with base log l (Some q) keeps is = grind (arith, nat_tests, length-drop)

pub turned_header : (base : Blocks) (log : List Event) (l : Ledger) (v : Pipeline) (b : Bool) → IsConsistentWith base log l → l.next ≡ option_map header_in v.next → Turned l (header_turned b v l)
turned_header base log l v true keeps is = turned_with base log l v.next keeps is
turned_header base log l v false keeps is = turned_same l

pub turned_made : (l : Ledger) (v : Pipeline) (ring : RingPlaces) → Turned l (header_made v ring l)
turned_made l v ring = grind (arith, nat_tests, turned_same)

-- What may be taken.

-- a ticket that is open once one has left the notes was open before
open_left : (u t : ℕ) (old new : List Note) → is_expected u new ≡ (not (is_among u (t ∷ [])) && is_expected u old) → is_noticed u new ≡ (not (is_among u (t ∷ [])) && is_noticed u old) → is_open u new ≡ true → is_open u old ≡ true
open_left u t old new expected noticed is = grind (arith, nat_tests)

-- one that is open beside a new ticket was open before
open_beside : (u t : ℕ) (old new : List Note) → (t == u) ≡ false → is_expected u new ≡ (t == u || is_expected u old) → is_noticed u new ≡ is_noticed u old → is_open u new ≡ true → is_open u old ≡ true
open_beside u t old new other expected noticed is = ap (λ b. b && not (is_noticed u old)) (sym (expected ∙ ap (λ b. b || is_expected u old) other)) ∙ ap (λ b. is_expected u new && not b) (sym noticed) ∙ is

-- what is dead stays so as the ledger turns
pub still_dead : (l k : Ledger) (v w : Pipeline) (dead : DeadBlocks) → Turned l k → MayServe l v dead → ((i : ℕ) (h : HomeWrite) → slice_get w.home.items i ≡ Some h → is_open h.ticket w.notes.notes ≡ true → (slice_get v.home.items i ≡ Some h) × (is_open h.ticket v.notes.notes ≡ true)) → MayServe k w dead
still_dead l k v w dead turned serves back = record {
  dead_now = λ b own. subst (λ g. is_live g (k.map_before (next_number k)) b ≡ false) (sym turned.geom) (subst (λ (m : ℕ → Blocks). is_live l.geom (m (next_number k)) b ≡ false) (sym turned.map_before) (subst (λ n. is_live l.geom (l.map_before n) b ≡ false) (sym turned.next) (serves.dead_now b own)));
  not_going = λ i h is at. let was = back i h is at in serves.not_going i h was.0 was.1;
}

pub serves_turned : (base : Blocks) (log : List Event) (l : Ledger) (v w : Pipeline) (old new : RingPlaces) (dead : DeadBlocks) (b : Bool) → IsConsistentWith base log l → l.next ≡ option_map header_in v.next → TurnsOrStays b v w old new → MayServe l v dead → MayServe (header_turned b v l) w dead
serves_turned base log l v w old new dead false keeps is same serves = subst (λ (p : Pipeline). MayServe l p dead) (sym same.0) serves
serves_turned base log l v w old new dead true keeps is turns serves = still_dead l (with_turned v.next l) v w dead (turned_with base log l v.next keeps is) serves
    (λ i h at opens. (sym (ap (λ (p : Pipeline). slice_get p.home.items i) turns.rest) ∙ at, open_left h.ticket turns.pending.ticket v.notes.notes w.notes.notes (turns.forgets.expected h.ticket) (turns.forgets.noticed h.ticket) opens))

pub serves_made : (base : Blocks) (log : List Event) (l : Ledger) (v w : Pipeline) (ring : RingPlaces) (waiting : List (ℕ × ℕ)) (taken : List ℕ) (dead : DeadBlocks) → PipelineAgrees base log l v ring waiting taken → (writes : WritesHeader v w ring) → greatest_ticket log < writes.pending.ticket → MayServe l v dead → MayServe (header_made v ring l) w dead
serves_made base log l v w ring waiting taken dead a writes above serves = grind (arith, nat_tests, still_dead, turned_made, open_beside)

-- Ring and dead blocks.

pub goes_turned : (v w : Pipeline) (old new : RingPlaces) (dead : DeadBlocks) (b : Bool) → TurnsOrStays b v w old new → new.taken ≡ places_taken w → GoesWith v old dead → GoesWith w new dead
goes_turned v w old new dead false same taken goes = subst (λ (p : Pipeline). GoesWith p new dead) (sym same.0) (subst (λ r. GoesWith v r dead) (sym same.1) goes)
goes_turned v w old new dead true turns taken goes = grind (arith, nat_tests)

pub goes_made : (v w : Pipeline) (ring : RingPlaces) (dead : DeadBlocks) → WritesHeader v w ring → GoesWith v ring dead → GoesWith w ring dead
goes_made v w ring dead writes goes = grind (arith, nat_tests)
