-- Tickets that the notes forget: none is expected that wasn't, and of each that still is the same is known. And which committed records are left.
use Rattle.std.proofs.Common.{◌≡◌, ℕ, ◌+◌, Bool, true, false, List, [], ◌∷◌, drop, map, Result, Ok, Err, refl, sym, ◌∙◌, ap, subst, arith}
use Rattle.std.proofs.lemmas.Bool.Decides.{nat_tests}
use Rattle.layout_journal.specs.Ring.{RingPlaces}
use Rattle.engine_notes.specs.declared.notes.Note.{Note}
use Rattle.engine_notes.specs.Notes.{Expected, is_noticed, is_open}
use Rattle.engine_reuse.specs.Dead.{DeadBlocks}
use Rattle.engine_running.specs.States.{Forgets}
use Rattle.engine_checkpoint.specs.declared.pipeline.Pipeline.{Pipeline}
use Rattle.engine_checkpoint.specs.Advance.{GoesForward}
use Rattle.engine_checkpoint.specs.Agree.{home_ticket}
use Rattle.engine_checkpoint.specs.Steps.{SettlesSome}
use Rattle.engine_checkpoint.specs.Turns.{TurnsOrStays, EndsOrStays, BatchAdds, HeaderAdds}
use Rattle.engine_checkpoint.specs.Waits.{ForgetsSome, LosesCommitted, AreAllNoticed}
use Rattle.engine_checkpoint.proofs.Added.{drop_more}

-- What it means for notes that some tickets are forgotten.

-- of the tickets that aren't dropped the same is known
pub forgets_these : (ts : List ℕ) (old new : Expected) → Forgets ts old new → ForgetsSome old.notes new.notes
forgets_these ts old new f = grind (arith, nat_tests)

pub forgets_none : (notes : List Note) → ForgetsSome notes notes
forgets_none notes = record { expected = λ u e. e; noticed = λ u e. refl }

pub forgets_on : (a b c : List Note) → ForgetsSome a b → ForgetsSome b c → ForgetsSome a c
forgets_on a b c one two = record { expected = λ u e. one.expected u (two.expected u e); noticed = λ u e. two.noticed u e ∙ one.noticed u (two.expected u e) }

-- no ticket is open that wasn't
abbrev pub OpensNone : List Note → List Note → Type 0
OpensNone old new = (u : ℕ) → is_open u new ≡ true → is_open u old ≡ true

pub forgotten_opens : (old new : List Note) → ForgetsSome old new → OpensNone old new
forgotten_opens old new f u e = grind (arith, nat_tests)

-- where all tickets are noticed, those that are left are
pub forgotten_noticed : (old new : List Note) → ForgetsSome old new → AreAllNoticed old → AreAllNoticed new
forgotten_noticed old new f all u e = f.noticed u e ∙ all u (f.expected u e)

-- Committed records that aren't committed ones any more.

pub committed_same : (v w : Pipeline) → w.committed.items ≡ v.committed.items → LosesCommitted v w
committed_same v w same = record { count = 0; left = same }

pub committed_on : (a b c : Pipeline) → LosesCommitted a b → LosesCommitted b c → LosesCommitted a c
committed_on a b c one two = record { count = one.count + two.count; left = two.left ∙ ap (drop two.count) one.left ∙ drop_more two.count one.count a.committed.items }

pub committed_settled : (count : ℕ) (v w : Pipeline) → SettlesSome count v w → LosesCommitted v w
committed_settled count v w s = record { count = count; left = s.committed }

-- notices leave them as they are
pub committed_heard : (v w : Pipeline) → w ≡ record v { notes = w.notes } → LosesCommitted v w
committed_heard v w rest = committed_same v w (ap (λ (p : Pipeline). p.committed.items) rest)

-- The steps that make no write.

turned_forgets : (turned : Bool) (a b : Pipeline) (old new : RingPlaces) → TurnsOrStays turned a b old new → ForgetsSome a.notes.notes b.notes.notes
turned_forgets true a b old new t = forgets_these (t.pending.ticket ∷ []) a.notes b.notes t.forgets
turned_forgets false a b old new s = subst (λ (p : Pipeline). ForgetsSome a.notes.notes p.notes.notes) (sym s.0) (forgets_none a.notes.notes)

ended_forgets : (ended : Bool) (b c : Pipeline) → EndsOrStays ended b c → ForgetsSome b.notes.notes c.notes.notes
ended_forgets true b c e = forgets_these (map home_ticket b.home.items) b.notes c.notes e.forgets
ended_forgets false b c same = subst (λ (p : Pipeline). ForgetsSome b.notes.notes p.notes.notes) (sym same) (forgets_none b.notes.notes)

turned_committed : (turned : Bool) (a b : Pipeline) (old new : RingPlaces) → TurnsOrStays turned a b old new → b.committed.items ≡ a.committed.items
turned_committed true a b old new t = ap (λ (p : Pipeline). p.committed.items) t.rest
turned_committed false a b old new s = ap (λ (p : Pipeline). p.committed.items) s.0

ended_committed : (ended : Bool) (b c : Pipeline) → EndsOrStays ended b c → c.committed.items ≡ b.committed.items
ended_committed true b c e = ap (λ (p : Pipeline). p.committed.items) e.rest
ended_committed false b c same = ap (λ (p : Pipeline). p.committed.items) same

module _ (v a b c w : Pipeline) (ring next_ring : RingPlaces) (dead next_dead : DeadBlocks) (g : GoesForward v a b c w ring next_ring dead next_dead) where
  pub forward_forgets : ForgetsSome v.notes.notes w.notes.notes
  forward_forgets = grind (arith, nat_tests, forgets_on, turned_forgets, ended_forgets)

  pub forward_loses : LosesCommitted v w
  forward_loses = grind (arith, nat_tests, ended_committed, turned_committed)

-- The steps that write: they leave the committed records, and what is noticed.

begun_committed : {A E : Type 0} (due : Bool) (r : Result A E) (w x : Pipeline) → BatchAdds due r w x → x.committed.items ≡ w.committed.items
begun_committed true (Ok a) w x begins = ap (λ (p : Pipeline). p.committed.items) begins.0.rest
begun_committed true (Err e) w x begins = ap (λ (p : Pipeline). p.committed.items) begins.rest
begun_committed false (Ok a) w x same = ap (λ (p : Pipeline). p.committed.items) same
begun_committed false (Err e) w x bad = absurd bad

made_committed : {A E : Type 0} (due : Bool) (r : Result A E) (x y : Pipeline) (ring : RingPlaces) → HeaderAdds due r x y ring → y.committed.items ≡ x.committed.items
made_committed true (Ok a) x y ring writes = ap (λ (p : Pipeline). p.committed.items) writes.rest
made_committed true (Err e) x y ring same = ap (λ (p : Pipeline). p.committed.items) same
made_committed false (Ok a) x y ring same = ap (λ (p : Pipeline). p.committed.items) same
made_committed false (Err e) x y ring bad = absurd bad

begun_noticed : {A E : Type 0} (due : Bool) (r : Result A E) (w x : Pipeline) → BatchAdds due r w x → (u : ℕ) → is_noticed u x.notes.notes ≡ is_noticed u w.notes.notes
begun_noticed true (Ok a) w x begins = begins.0.noticed
begun_noticed true (Err e) w x begins = begins.noticed
begun_noticed false (Ok a) w x same = λ u. ap (λ (p : Pipeline). is_noticed u p.notes.notes) same
begun_noticed false (Err e) w x bad = absurd bad

made_noticed : {A E : Type 0} (due : Bool) (r : Result A E) (x y : Pipeline) (ring : RingPlaces) → HeaderAdds due r x y ring → (u : ℕ) → is_noticed u y.notes.notes ≡ is_noticed u x.notes.notes
made_noticed true (Ok a) x y ring writes = writes.noticed
made_noticed true (Err e) x y ring same = λ u. ap (λ (p : Pipeline). is_noticed u p.notes.notes) same
made_noticed false (Ok a) x y ring same = λ u. ap (λ (p : Pipeline). is_noticed u p.notes.notes) same
made_noticed false (Err e) x y ring bad = absurd bad

module _ {A E B F : Type 0} (batch header : Bool) (q : Result A E) (r : Result B F) (w x y : Pipeline) (ring : RingPlaces) (begins : BatchAdds batch q w x) (adds : HeaderAdds header r x y ring) where
  pub written_committed : y.committed.items ≡ w.committed.items
  written_committed = made_committed header r x y ring adds ∙ begun_committed batch q w x begins

  pub written_noticed : (u : ℕ) → is_noticed u y.notes.notes ≡ is_noticed u w.notes.notes
  written_noticed u = made_noticed header r x y ring adds u ∙ begun_noticed batch q w x begins u
