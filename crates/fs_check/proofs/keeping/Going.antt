-- The check of the nodes that one snapshot keeps goes on from node to node and from block to block of its table.
use Rattle.std.proofs.Common.{◌≡◌, ℕ, ◌+◌, ◌-◌, ◌<◌, ◌≤◌, Bool, false, IsTrue, List, length, get_or, slice_get, Some, sym, ap, subst, ◌∙◌, arith}
use Rattle.std.proofs.lemmas.Option.{slice_get-get_or}
use Rattle.base_types.specs.Seal.{Blocks, blocks_of}
use Rattle.layout_geometry.specs.Geometry.{Geometry, table_start}
use Rattle.engine_blocks.specs.State.{Bookkeeping, State}
use Rattle.crash_stands.specs.Places.{kept_table, table_blocks}
use Rattle.fs_files.specs.Effects.{LooksOnly}
use Rattle.fs_check.specs.declared.checking.CheckRefusal.{CheckRefusal}
use Rattle.fs_check.specs.declared.kept_meeting.Maps.{Maps}
use Rattle.fs_check.specs.declared.kept_meeting.Tally.{Tally}
use Rattle.fs_check.specs.declared.kept_table.SnapshotIn.{SnapshotIn}
use Rattle.fs_check.specs.KeptGoing.{IsKeptTo, MayGo}
use Rattle.fs_check.specs.KeptMeeting.{CountsMet, MayCheckKept}
use Rattle.fs_check.specs.Whole.{IsDamaged, OnDamage}
use Rattle.fs_check.proofs.Looking.{looks_more, looks_none}
use Rattle.fs_check.proofs.sound.Tails.{AreWhole}

-- what is known in the midst: blocks were read, and the kept nodes from `from` up to `at` were gone through
pub record KeepsOn (P : Type 0) (tells : Bool) (g : Geometry) (s t : State) (maps : Maps) (old new : Tally) (snapshot : SnapshotIn) (from at : ℕ) : Type 0 where
  pub looks : LooksOnly tells false s t
  pub may : MayGo g t maps new snapshot.places
  pub counts : (before : List ℕ) → CountsMet (blocks_of old.met.items) before old.counts → CountsMet (blocks_of new.met.items) before new.counts
  pub sound : P → IsKeptTo g s.map maps old snapshot from → IsKeptTo g s.map maps new snapshot at

pub on_begins : (P : Type 0) (tells : Bool) (g : Geometry) (s : State) (maps : Maps) (tally : Tally) (snapshot : SnapshotIn) (from at : ℕ) → from ≡ at → MayGo g s maps tally snapshot.places → KeepsOn P tells g s s maps tally tally snapshot from at
on_begins P tells g s maps tally snapshot from at same may = record {
  looks = looks_none tells s;
  may = may;
  counts = λ before is. is;
  sound = λ p kept. subst (IsKeptTo g s.map maps tally snapshot) same kept;
}

-- in the midst the map is the same
on_here : (tells : Bool) (g : Geometry) (s t : State) (maps : Maps) (tally : Tally) (snapshot : SnapshotIn) (at here : ℕ) → LooksOnly tells false s t → at ≡ here → IsTrue tells → IsKeptTo g s.map maps tally snapshot at → IsKeptTo g t.map maps tally snapshot here
on_here tells g s t maps tally snapshot at here looks same told kept =
    subst (λ (m : Blocks). IsKeptTo g m maps tally snapshot here) (sym (looks.map told)) (subst (IsKeptTo g s.map maps tally snapshot) same kept)

pub on_more : (P : Type 0) (tells : Bool) (g : Geometry) (s t u : State) (maps : Maps) (old new newer : Tally) (snapshot : SnapshotIn) (from at here then next : ℕ) → (P → IsTrue tells) → at ≡ here → then ≡ next → KeepsOn P tells g s t maps old new snapshot from at
    → LooksOnly tells false t u → MayGo g u maps newer snapshot.places → ((before : List ℕ) → CountsMet (blocks_of new.met.items) before new.counts → CountsMet (blocks_of newer.met.items) before newer.counts)
    → (P → IsKeptTo g t.map maps new snapshot here → IsKeptTo g t.map maps newer snapshot then) → KeepsOn P tells g s u maps old newer snapshot from next
on_more P tells g s t u maps old new newer snapshot from at here then next told same on so_far looks may counts step = record {
  looks = looks_more tells false s t u so_far.looks looks;
  may = may;
  counts = λ before is. counts before (so_far.counts before is);
  sound = λ p kept. subst (IsKeptTo g s.map maps newer snapshot) on (subst (λ (m : Blocks). IsKeptTo g m maps newer snapshot then) (so_far.looks.map (told p))
      (step p (on_here tells g s t maps new snapshot at here so_far.looks same (told p) (so_far.sound p kept))));
}

pub on_broken : (P : Type 0) (tells : Bool) (g : Geometry) (s t : State) (maps : Maps) (old new : Tally) (snapshot : SnapshotIn) (from at here : ℕ) (why : CheckRefusal) → (P → IsTrue tells) → at ≡ here → KeepsOn P tells g s t maps old new snapshot from at
    → (P → IsKeptTo g t.map maps new snapshot here → OnDamage why (IsDamaged g t.map)) → P → IsKeptTo g s.map maps old snapshot from → OnDamage why (IsDamaged g s.map)
on_broken P tells g s t maps old new snapshot from at here why told same so_far broken p kept =
    subst (λ (m : Blocks). OnDamage why (IsDamaged g m)) (so_far.looks.map (told p))
    (broken p (on_here tells g s t maps new snapshot at here so_far.looks same (told p) (so_far.sound p kept)))

-- block k of the table that a snapshot keeps is its block 1 + k
pub table_read : (g : Geometry) (m : Blocks) (own table : List ℕ) (k i : ℕ) → i ≡ 1 + k → k < table_blocks g → 1 + table_blocks g ≤ length own → AreWhole m own
    → ((b : ℕ) → slice_get own i ≡ Some b → length (m b) ≡ 1024 → table ≡ m b) → table ≡ kept_table m own g (table_start g + k)
table_read g m own table k i is low most whole read =
    let within : i < length own = omega (arith, is, low, most) in
    let there : slice_get own i ≡ Some (get_or own i 0) = slice_get-get_or own i 0 within in
    read (get_or own i 0) there (whole i 0 within)
    ∙ ap (λ j. m (get_or own j 0)) {x = i} {y = 1 + (table_start g + k - table_start g)} (omega (arith, is))

-- a block was read, and nothing else is new
pub may_stays : (tells failed : Bool) (g : Geometry) (s t : State) (maps : Maps) (tally : Tally) (places : List ℕ) → LooksOnly tells failed s t → MayGo g s maps tally places → MayGo g t maps tally places
may_stays tells failed g s t maps tally places looks may = record {
  may = subst (λ (k : Bookkeeping). MayCheckKept g (record t { books = k }) maps.marked.items maps.firm.items) (sym looks.books) (record {
    going = may.may.going;
    none_bare = may.may.none_bare;
    geom = may.may.geom;
    bits_size = may.may.bits_size;
    firm_size = may.may.firm_size;
  });
  met_size = may.met_size;
  room = may.room;
  «data» = may.«data»;
  table = may.table;
  most = may.most;
}

pub on_read : (P : Type 0) (tells : Bool) (g : Geometry) (s t u : State) (maps : Maps) (old new : Tally) (snapshot : SnapshotIn) (from at : ℕ) → LooksOnly tells false t u → KeepsOn P tells g s t maps old new snapshot from at → KeepsOn P tells g s u maps old new snapshot from at
on_read P tells g s t u maps old new snapshot from at looks so_far = record {
  looks = looks_more tells false s t u so_far.looks looks;
  may = may_stays tells false g t u maps new snapshot.places looks so_far.may;
  counts = so_far.counts;
  sound = so_far.sound;
}

-- what was read of the table stands in the map behind the read
pub table_there : (tells : Bool) (g : Geometry) (s t : State) (maps : Maps) (tally : Tally) (snapshot : SnapshotIn) (table : List ℕ) (k i at : ℕ) → LooksOnly tells false s t → IsTrue tells → i ≡ 1 + k → k < table_blocks g → 1 + table_blocks g ≤ length snapshot.places
    → ((b : ℕ) → slice_get snapshot.places i ≡ Some b → length (s.map b) ≡ 1024 → table ≡ s.map b) → IsKeptTo g t.map maps tally snapshot at → table ≡ kept_table t.map snapshot.places g (table_start g + k)
table_there tells g s t maps tally snapshot table k i at looks told is low most read kept =
    table_read g s.map snapshot.places table k i is low most (subst (λ (m : Blocks). AreWhole m snapshot.places) (looks.map told) kept.whole) read
    ∙ ap (λ (m : Blocks). kept_table m snapshot.places g (table_start g + k)) (sym (looks.map told))
