-- The points of a map of blocks in memory, before and after a call.
use Rattle.std.proofs.Common.{◌≡◌, ℕ, ◌-◌, ◌<◌, ◌≤◌, List, [], ◌∷◌, ◌++◌, length, get_or, None, refl, sym, ap, ◌∙◌, arith, inr}
use Rattle.std.proofs.lemmas.List.{get_or_append_left, get_or_push, length-append, length_push, append-nil}
use Rattle.base_types.specs.Seal.{blocks_of}
use Rattle.engine_blocks.specs.declared.plain.PlainBlocks.{PlainBlocks}
use Rattle.engine_blocks.specs.Running.{HasNoBare}
use Rattle.engine_blocks.specs.State.{RecordsView, State}
use Rattle.engine_blocks.specs.Crashes.{Advances, MakesPoint}
use Rattle.engine_blocks.specs.Plain.{crash_of}
use Rattle.engine_blocks.specs.PlainOf.{books_of, state_of}
use Rattle.engine_blocks.specs.PlainLaws.{marked_is}
use Rattle.engine_blocks.proofs.DefinedSteps.{kept_live}
use Rattle.engine_blocks.proofs.Times.{records_not}

-- memory tells of no records
abbrev no_records : RecordsView
no_records = record { told = λ log. None; starts = λ log number. ⊥ }

-- a point of the first ones is one of them all
among : (ps more : List (List (List ℕ))) (p : ℕ) → p < length ps → blocks_of (get_or (ps ++ more) p []) ≡ blocks_of (get_or ps p [])
among ps more p low = ap blocks_of (get_or_append_left ps more [] p low)

-- there are more points, or the floor rises
advances_parts : (p : PlainBlocks) (s : State) (points more : List (List (List ℕ))) (floor : ℕ) → points ≡ p.history.points ++ more → p.floor ≤ floor
    → Advances (state_of p) (record s { books = record s.books { point = length points - 1; floor = floor }; crash = crash_of points floor })
advances_parts p s points more floor e rises = record {
  base = refl;
  grows = record { more = []; log = refl };
  window = λ m left. ∣ record { point = left.point; from = omega (arith, left.from, rises); upto = omega (arith, left.kept.below); map = m; holds = refl; is = left.kept } ∣₁;
  earlier = λ t m before left. inr ∣ record { point = left.point; from = omega (arith, left.from, rises); upto = omega (arith, left.kept.below); map = m; holds = refl; is = left.kept } ∣₁;
  point = λ k m low.
      let below : k < length p.history.points = omega (arith, low, p.floor_is) in (
        λ is. record { below = below; is = is.is ∙ ap (λ ps. blocks_of (get_or ps k [])) e ∙ among p.history.points more k below },
        λ is. record { below = omega (arith, below, ap length e, length-append p.history.points more); is = is.is ∙ sym (among p.history.points more k below) ∙ sym (ap (λ ps. blocks_of (get_or ps k [])) e) },
      );
  holds = λ img m. (λ is. is, λ is. is);
  sure = λ log p. (λ is. is, λ is. is);
  records = records_not no_records;
  last = omega (arith, ap length e, length-append p.history.points more);
  floor = rises;
  awaits = λ q t waits. absurd waits;
}

-- the points stay or one more is made
pub advances_by : (old new : PlainBlocks) (more : List (List (List ℕ))) → new.history.points ≡ old.history.points ++ more → old.floor ≤ new.floor → Advances (state_of old) (state_of new)
advances_by old new more e rises = advances_parts old (state_of new) new.history.points more new.floor e rises

pub advances_not : (p : PlainBlocks) → Advances (state_of p) (state_of p)
advances_not p = advances_by p p [] (sym (append-nil p.history.points)) (omega arith)

-- the floor rises alone
pub floor_rises : (p : PlainBlocks) (floor : ℕ) → p.floor ≤ floor → Advances (state_of p) (record (state_of p) { books = record (books_of p) { floor = floor }; crash = crash_of p.history.points floor })
floor_rises p floor rises = advances_parts p (state_of p) p.history.points [] floor (sym (append-nil p.history.points)) rises

-- the new point is the map now
pub makes_point : (old new : PlainBlocks) → new.history.points ≡ old.history.points ++ old.history.now ∷ [] → new.history.now ≡ old.history.now → HasNoBare (books_of new).running → MakesPoint (state_of old) (state_of new)
makes_point old new e same none later m is = kept_live (books_of new) (blocks_of new.history.now) m none (λ b low. marked_is new b low)
    (is.is ∙ ap blocks_of (ap (λ ps. get_or ps (length new.history.points - 1) []) e
    ∙ get_or_push old.history.points old.history.now [] (length new.history.points - 1) (omega (arith, ap length e, length_push old.history.points old.history.now))
    ∙ sym same))
