-- The steps that make no write, one after the other, over any disk: the index, the ring and the dead blocks go with the pipeline still, and as many writes may come as before.
use Rattle.std.proofs.Common.{◌≡◌, ℕ, ◌-◌, ◌≤◌, not, Bool, true, false, All, sym, ◌∙◌, subst, ap, arith}
use Rattle.std.proofs.lemmas.Bool.Decides.{nat_tests}
use Rattle.std.proofs.lemmas.List.Elements.{All-filter}
use Rattle.layout_journal.specs.Ring.{RingPlaces}
use Rattle.engine_reuse.specs.Dead.{DeadBlocks, freed_by}
use Rattle.engine_reuse.specs.Calls.{is_given_up}
use Rattle.engine_checkpoint.specs.declared.pipeline.Pipeline.{Pipeline}
use Rattle.engine_checkpoint.specs.Advance.{IsSound, GoesForward, writes_owed}
use Rattle.engine_checkpoint.specs.Index.{IndexIsRight}
use Rattle.engine_checkpoint.specs.Kept.{kept, places_taken}
use Rattle.engine_checkpoint.specs.Newest.{spot_of}
use Rattle.engine_checkpoint.specs.Order.{IsInOrder, HasRoom, GoesWith}
use Rattle.engine_checkpoint.specs.Steps.{SettlesSome, is_first_settled}
use Rattle.engine_checkpoint.specs.Turns.{TurnsOrStays, EndsOrStays, going_home, with_served, is_header_noticed, is_batch_noticed}
use Rattle.engine_checkpoint.proofs.BatchEnds.{places_ended}
use Rattle.engine_checkpoint.proofs.HeaderTurns.{goes_turned}
use Rattle.engine_checkpoint.proofs.Index.{index_same, index_turned}

-- Records become durable.

pub places_settled : (count : ℕ) (v a : Pipeline) → SettlesSome count v a → places_taken a ≡ places_taken v
places_settled count v a s = grind (arith, nat_tests)

pub owed_settled : (count : ℕ) (v a : Pipeline) → SettlesSome count v a → writes_owed a ≡ writes_owed v
owed_settled count v a s = grind (arith, nat_tests)

pub index_some : (count : ℕ) (v a : Pipeline) → SettlesSome count v a → IndexIsRight v → IndexIsRight a
index_some count v a s right = index_same v a s.kept (λ b. ap (λ (p : Pipeline). spot_of p.newest b) s.rest) right

pub goes_settled : (count : ℕ) (v a : Pipeline) (ring : RingPlaces) (dead : DeadBlocks) → SettlesSome count v a → GoesWith v ring dead → GoesWith a ring dead
goes_settled count v a ring dead s goes = grind (arith, nat_tests, places_settled)

-- The pending header turns.

index_turns : (r : Bool) (a b : Pipeline) (old new : RingPlaces) → TurnsOrStays r a b old new → IndexIsRight a → IndexIsRight b
index_turns true a b old new turns right = index_turned a b old new turns right
index_turns false a b old new same right = subst IndexIsRight (sym same.0) right

-- The batch is placed.

goes_ended : (r : Bool) (b c : Pipeline) (ring : RingPlaces) (dead : DeadBlocks) → IsInOrder b → EndsOrStays r b c → GoesWith b ring dead → GoesWith c ring dead
goes_ended false b c ring dead o same goes = subst (λ (p : Pipeline). GoesWith p ring dead) (sym same) goes
goes_ended true b c ring dead o ends goes = grind (arith, nat_tests, places_ended)

-- Blocks serve again.

pub goes_served : (c w : Pipeline) (ring : RingPlaces) (dead next : DeadBlocks) → next ≡ with_served c dead → w ≡ record c { blocks = w.blocks } → GoesWith c ring dead → GoesWith w ring next
goes_served c w ring dead next serves rest goes = record {
  ring_geom = goes.ring_geom ∙ sym (ap (λ (p : Pipeline). p.geom) rest);
  taken = goes.taken ∙ sym (ap places_taken rest);
  dead_geom = ap (λ (d : DeadBlocks). d.geom) serves ∙ goes.dead_geom ∙ sym (ap (λ (p : Pipeline). p.geom) rest);
  waiting = subst (λ n. All (λ p. freed_by p ≤ n) next.waiting) (sym (ap (λ (p : Pipeline). p.last) rest))
      (subst (λ (d : DeadBlocks). All (λ p. freed_by p ≤ c.last) d.waiting) (sym serves) (All-filter (λ p. not (is_given_up c.header.sure (going_home c.home.items c.notes.notes) p)) (λ p. freed_by p ≤ c.last) dead.waiting goes.waiting));
}

pub index_served : (c w : Pipeline) → w ≡ record c { blocks = w.blocks } → IndexIsRight c → IndexIsRight w
index_served c w rest right = index_same c w (ap kept rest) (λ b. ap (λ (p : Pipeline). spot_of p.newest b) rest) right

-- All steps, one after the other.

module _ (v a b c w : Pipeline) (ring next_ring : RingPlaces) (dead next_dead : DeadBlocks) (count : ℕ) (turned ended : Bool)
    (settles : SettlesSome count v a) (turns : TurnsOrStays turned a b ring next_ring) (ends : EndsOrStays ended b c) (serves : next_dead ≡ with_served c dead) (rest : w ≡ record c { blocks = w.blocks }) where
  pub forward_sound : IsSound v ring dead → next_ring.taken ≡ places_taken b → IsInOrder b → (IndexIsRight b → IndexIsRight c) → IsInOrder w → HasRoom w → IsSound w next_ring next_dead
  forward_sound sound taken o newest order room = record {
    order = order;
    room = room;
    index = index_served c w rest (newest (index_turns turned a b ring next_ring turns (index_some count v a settles sound.index)));
    goes_with = goes_served c w next_ring dead next_dead serves rest (goes_ended ended b c next_ring dead o ends (goes_turned a b ring next_ring dead turned turns taken (goes_settled count v a ring dead settles sound.goes_with)));
  }

  pub forward_goes : is_first_settled a.committed.items a.notes.notes ≡ false → turned ≡ is_header_noticed a.next a.notes.notes → ended ≡ is_batch_noticed b → GoesForward v a b c w ring next_ring dead next_dead
  forward_goes settled noticed placed = grind (arith, nat_tests)

  pub forward_owed : writes_owed b ≡ writes_owed a → writes_owed c ≡ writes_owed b → writes_owed w ≡ writes_owed v
  forward_owed second third = ap writes_owed rest ∙ third ∙ second ∙ owed_settled count v a settles
