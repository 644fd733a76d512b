-- Rounds of a drain, one after the other.
use Rattle.std.proofs.Common.{◌≡◌, ℕ, suc, ◌+◌, ◌≤◌, not, ◌&&◌, true, false, List, [], ◌∷◌, ◌++◌, map, length, filter, cond, All, slice_get, Some, Result, Ok, Err, refl, sym, ◌∙◌, ap, subst, arith}
use Rattle.std.proofs.lemmas.Bool.{le-leb}
use Rattle.base_types.specs.Seal.{Blocks}
use Rattle.disk_contract.specs.declared.event.Event.{Event}
use Rattle.disk_contract.specs.Disk.{State}
use Rattle.layout_journal.specs.Ring.{RingPlaces}
use Rattle.crash_argument.specs.Ledger.{Ledger}
use Rattle.crash_argument.specs.Points.{MountedSession}
use Rattle.engine_reuse.specs.Dead.{DeadBlocks, freed_by}
use Rattle.engine_reuse.specs.Calls.{is_given_up, with_released}
use Rattle.engine_running.specs.declared.commit.Committed.{Committed}
use Rattle.engine_running.specs.declared.states.Durable.{Durable}
use Rattle.engine_running.specs.declared.states.Sure.{Sure}
use Rattle.engine_running.specs.declared.states.Placed.{Placed}
use Rattle.engine_checkpoint.specs.declared.pipeline.Pipeline.{Pipeline}
use Rattle.crash_argument.specs.PipelineData.{PipelineData, DataAgree, WaitAbove, with_waiting}
use Rattle.engine_checkpoint.specs.Advance.{StaysRight, Leaves, Turned, IsSound, IsDrained}
use Rattle.engine_checkpoint.specs.Kept.{kept, numbers, placed_number, number_of, of_sure, of_durable, of_committed}
use Rattle.engine_checkpoint.specs.Order.{IsInOrder, HasRoom, GoesWith}
use Rattle.engine_checkpoint.specs.Stages.{IsAtStage}
use Rattle.engine_checkpoint.specs.Turns.{with_served, going_home}
use Rattle.engine_checkpoint.proofs.ForwardRight.{served_right}
use Rattle.engine_checkpoint.proofs.ForwardSound.{goes_served, index_served}
use Rattle.engine_checkpoint.proofs.Settled.{turned_on}
use Rattle.engine_checkpoint.proofs.StageRows.{drained_lists}

-- what the first part left, and then what the second did
pub leaves_on : {A E : Type 0} (r : Result A E) (s : MountedSession) (d : State) (l : Ledger) (t floor : ℕ) (v : Pipeline) (ring : RingPlaces) (dead : DeadBlocks) (taken : List ℕ) (k : Ledger) → Turned l k → Leaves r s d k t floor v ring dead taken → Leaves r s d l t floor v ring dead taken
leaves_on (Ok a) s d l t floor v ring dead taken k turned stays = record { now = stays.now; turned = turned_on l k stays.now turned stays.turned; right = stays.right }
leaves_on (Err e) s d l t floor v ring dead taken k turned stays = record { now = stays.now; turned = turned_on l k stays.now turned stays.turned; safe = stays.safe }

-- Where there is no record, no block waits once those serve again that may.

all_given : (sure : ℕ) (ps : List (ℕ × ℕ)) → All (λ p. freed_by p ≤ sure) ps → filter (λ p. not (is_given_up sure [] p)) ps ≡ []
all_given sure [] low = refl
all_given sure (p ∷ ps) low = one p ps (low 0 p (omega arith)) (all_given sure ps (λ k d lt. low (suc k) d (omega (arith, lt))))
  where
    one : (p : ℕ × ℕ) (ps : List (ℕ × ℕ)) → freed_by p ≤ sure → filter (λ p. not (is_given_up sure [] p)) ps ≡ [] → filter (λ p. not (is_given_up sure [] p)) (p ∷ ps) ≡ []
    one p ps le rest = ap (λ b. cond (not (b && true)) (p ∷ filter (λ p. not (is_given_up sure [] p)) ps) (filter (λ p. not (is_given_up sure [] p)) ps)) (le-leb (freed_by p) sure le) ∙ rest

pub none_waits : (v : Pipeline) (ring : RingPlaces) (dead : DeadBlocks) → IsInOrder v → GoesWith v ring dead → v.placed.items ≡ [] → v.sure.items ≡ [] → v.durable.items ≡ [] → v.committed.items ≡ [] → (with_served v dead).waiting ≡ []
none_waits v ring dead o goes placed sure durable committed =
    ap (λ hs. filter (λ p. not (is_given_up v.header.sure (going_home hs v.notes.notes) p)) dead.waiting) (o.none (omega (arith, o.batch, ap (λ (ss : List Sure). length ss) sure)))
    ∙ all_given v.header.sure dead.waiting (λ k d lt. omega (arith, goes.waiting k d lt, same))
  where
    none : numbers v ≡ []
    none = ap (λ (ps : List Placed). map placed_number ps ++ map number_of (kept v)) placed ∙ ap (λ (ss : List Sure). map number_of (map of_sure ss ++ (map of_durable v.durable.items ++ map of_committed v.committed.items))) sure
        ∙ ap (λ (ds : List Durable). map number_of (map of_durable ds ++ map of_committed v.committed.items)) durable ∙ ap (λ (cs : List Committed). map number_of (map of_committed cs)) committed

    same : v.header.sure ≡ v.last
    same = omega (arith, o.sure, o.last, ap (λ (ps : List Placed). length ps) placed, ap (λ (ss : List Sure). length ss) sure, ap (λ (ns : List ℕ). length ns) none)

-- Blocks serve again behind the last round.

module _ (v w : Pipeline) (ring : RingPlaces) (dead next : DeadBlocks) (serves : next ≡ with_served v dead) (rest : w ≡ record v { blocks = w.blocks }) where
  pub served_sound : IsSound v ring dead → IsInOrder w → HasRoom w → IsSound w ring next
  served_sound sound order room = record { order = order; room = room; index = index_served v w rest sound.index; goes_with = goes_served v w ring dead next serves rest sound.goes_with }

  pub served_drained : (rounds : ℕ) → rounds ≡ 4 → IsAtStage rounds v → IsSound v ring dead → IsDrained w next
  served_drained rounds four stage sound =
      let none = drained_lists v (subst (λ k. IsAtStage k v) four stage) in
      record {
        placed = ap (λ (p : Pipeline). p.placed.items) rest ∙ none.0;
        sure = ap (λ (p : Pipeline). p.sure.items) rest ∙ none.1;
        durable = ap (λ (p : Pipeline). p.durable.items) rest ∙ none.2;
        committed = ap (λ (p : Pipeline). p.committed.items) rest ∙ none.3;
        waiting = ap (λ (d : DeadBlocks). d.waiting) serves ∙ none_waits v ring dead sound.order sound.goes_with none.0 none.1 none.2 none.3;
      }

  pub served_stays : (s : MountedSession) (base : Blocks) (log : List Event) (l : Ledger) (t floor : ℕ) (taken : List ℕ)
      → ((v : DeadBlocks) (sure : ℕ) (going_home : List ℕ) (k : ℕ) (p : ℕ × ℕ) → slice_get v.waiting k ≡ Some p → is_given_up sure going_home p ≡ false → (i : ℕ) × (slice_get (with_released v sure going_home).waiting i ≡ Some p))
      → ((base : Blocks) (log : List Event) (l : Ledger) (p : PipelineData) (few : List (ℕ × ℕ)) → DataAgree base log l p → WaitAbove l.header.sure p.waiting few → DataAgree base log l (with_waiting p few))
      → StaysRight s base log l t floor v ring dead taken → StaysRight s base log l t floor w ring next taken
  served_stays s base log l t floor taken stays fewer right =
      subst (λ (d : DeadBlocks). StaysRight s base log l t floor w ring d taken) (sym serves) (subst (λ (p : Pipeline). StaysRight s base log l t floor p ring (with_served v dead) taken) (sym rest)
      (served_right s base log l t floor taken ring dead stays fewer right.now v w.blocks right.turned right.right.safe right.right.agrees right.right.serves))
