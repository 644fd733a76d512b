-- A sync of a map of blocks in memory: nothing to commit, out of memory, a point made, and the floor raised.
use Rattle.std.proofs.Common.{◌≡◌, ◌≢◌, ℕ, ◌+◌, ◌≤◌, ◌==◌, true, false, [], ◌∷◌, ◌++◌, refl, sym, ap, subst, ◌∙◌, arith, inr, Ok, Err}
use Rattle.std.proofs.lemmas.Bool.{cond-false, ne_eqb}
use Rattle.std.proofs.lemmas.Option.{none-some}
use Rattle.disk_contract.specs.Manner.{any_manner}
use Rattle.layout_journal.specs.Layout.{descriptor_count}
use Rattle.engine_blocks.specs.declared.plain.PlainBlocks.{PlainBlocks}
use Rattle.engine_blocks.specs.declared.refusals.SyncRefusal.TheVariants.{NoMemory}
use Rattle.engine_blocks.specs.Running.{Running, HasNoBare, fresh_blocks, nothing_running, payloads}
use Rattle.engine_blocks.specs.State.{State, IsReusable}
use Rattle.engine_blocks.specs.Calls.{if_changed, UsesDisk}
use Rattle.engine_blocks.specs.Effects.{ChangesNothing, Syncs, WritesItsRecord}
use Rattle.engine_blocks.specs.Plain.{crash_of}
use Rattle.engine_blocks.specs.PlainOf.{books_of, state_of}
use Rattle.engine_blocks.proofs.Times.{advances_on, leaves_not}
use Rattle.engine_blocks.proofs.DefinedSteps.{same_part}
use Rattle.engine_blocks.proofs.PlainPoints.{advances_not, advances_by, makes_point, floor_rises}

changed : {T : Type 0} (r : Running) (x y : T) → r.weight ≢ 0 → if_changed r x y ≡ x
changed r x y d = cond-false (r.weight == 0) y x (ne_eqb r.weight 0 d)

-- memory has no counts but that of ticks
quiet : (old new : PlainBlocks) → UsesDisk false (state_of old) (state_of new)
quiet old new = record {
  faults = refl;
  stopped = refl;
  read_faults = refl;
  waits = omega arith;
}

-- memory has no log, so a record is none of it
pub writes_record : (old new : PlainBlocks) → WritesItsRecord (state_of old) (state_of new)
writes_record old new = record {
  some = λ some. record {
    begun = 0;
    from = omega arith;
    upto = omega arith;
    commit = record { epoch = 0; number = 0; descriptors = descriptor_count (m + n); payloads = m; fresh = n };
    payloads = refl;
    fresh = refl;
    descriptors = refl;
    told = λ before known. absurd (none-some before known);
    writes = omega arith;
    awaits = λ t waits. absurd waits;
    fits = λ fits. refl;
  };
  none = λ none. (refl, refl);
}
  where
    m : ℕ
    m = payloads (books_of old).geom (books_of old).running

    n : ℕ
    n = fresh_blocks (books_of old).geom (books_of old).running

pub syncs_refused : (old new : PlainBlocks) → new ≡ old → Syncs true (Err NoMemory) (state_of old) (state_of new)
syncs_refused old new same = subst (λ p. Syncs true (Err NoMemory) (state_of old) (state_of p)) (sym same) (record {
  point = tt;
  after = tt;
  ends = tt;
  disk = quiet old old;
  ticks = refl;
  map = λ t. refl;
  crash = λ t. advances_not old;
  made = λ t more. absurd (omega (arith, more));
  writes = λ t. omega arith;
  none = record { books = refl; disk = leaves_not true (state_of old) };
})

pub syncs_changed : (old new : PlainBlocks) (point : ℕ) → old.weight ≢ 0 → HasNoBare (books_of old).running → point ≡ (books_of new).point
    → books_of new ≡ record (books_of old) { running = nothing_running; reusable = (books_of new).reusable; point = (books_of old).point + 1 }
    → ((b : ℕ) → IsReusable old.geom (books_of old).reusable b → (books_of new).reusable b ≡ true)
    → new.history.now ≡ old.history.now → new.history.points ≡ old.history.points ++ old.history.now ∷ [] → new.ticks ≡ old.ticks
    → Syncs true (Ok point) (state_of old) (state_of new)
syncs_changed old new point some filled is books reusable now points ticks = record {
  point = is;
  after = record {
    geom = ap (λ k. k.geom) books;
    running = inr (ap (λ k. k.running) books);
    marked = ap (λ k. k.marked) books;
    reusable = reusable;
    turns = omega arith;
    point = ap (λ k. k.point) books ∙ ap (λ n. (books_of old).point + n) (sym (changed {T = ℕ} (books_of old).running 1 0 some));
    floor = omega (arith, ap (λ k. k.floor) books);
  };
  ends = record {
    running = ap (λ k. k.running) books ∙ sym (changed (books_of old).running nothing_running (books_of old).running some);
    free_places = omega (arith, ap (λ k. k.free_places) books);
  };
  disk = quiet old new;
  ticks = ap (λ (n : ℕ). record { made = n; polls = 0; manner = any_manner }) ticks;
  map = λ t. same_part (books_of old) (books_of new) old.history.now new.history.now (ap (λ k. k.geom) books) (ap (λ k. k.marked) books) filled none now;
  crash = λ t. advances_by old new (old.history.now ∷ []) points (omega (arith, ap (λ k. k.floor) books));
  made = λ t. makes_point old new points now none;
  writes = λ t. omega arith;
  none = tt;
}
  where
    none : HasNoBare (books_of new).running
    none = subst HasNoBare (sym (ap (λ k. k.running) books)) (λ b. refl)

-- the map of blocks with another floor
abbrev pub with_floor : PlainBlocks → ℕ → State
with_floor p floor = record (state_of p) { books = record (books_of p) { floor = floor }; crash = crash_of p.history.points floor }

pub syncs_durably : (old mid : PlainBlocks) (point floor : ℕ) → mid.floor ≤ floor → Syncs true (Ok point) (state_of old) (state_of mid) → Syncs true (Ok point) (state_of old) (with_floor mid floor)
syncs_durably old mid point floor rises h = record {
  point = h.point;
  after = record {
    geom = h.after.geom;
    running = h.after.running;
    marked = h.after.marked;
    reusable = h.after.reusable;
    turns = h.after.turns;
    point = h.after.point;
    floor = omega (arith, h.after.floor, rises);
  };
  ends = record { running = h.ends.running; free_places = h.ends.free_places };
  disk = record { faults = h.disk.faults; stopped = h.disk.stopped; read_faults = h.disk.read_faults; waits = h.disk.waits };
  ticks = h.ticks;
  map = h.map;
  crash = λ t. advances_on (state_of old) (state_of mid) (with_floor mid floor) (h.crash t) (floor_rises mid floor rises);
  made = λ t more m is. h.made t more m is;
  writes = h.writes;
  none = tt;
}

-- the floor that there was leaves all as it was
pub floor_stays : (old mid : PlainBlocks) (floor : ℕ) → floor ≡ mid.floor → ChangesNothing true (state_of old) (state_of mid) → ChangesNothing true (state_of old) (with_floor mid floor)
floor_stays old mid floor e h = subst (λ x. ChangesNothing true (state_of old) (with_floor mid x)) (sym e) h
