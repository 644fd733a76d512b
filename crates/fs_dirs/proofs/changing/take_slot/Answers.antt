use Rattle.std.proofs.Common.{◌≡◌, ◌+◌, ◌-◌, ◌<◌, ◌≤◌, false, IsTrue, List, [], length, take, set, slice_get, Some, refl, sym, subst, ap, ap₂, ◌∙◌, arith, length-set, Err}
use Rattle.std.proofs.lemmas.Option.{none-some, same_Some, slice_get-get_or}
use Rattle.std.proofs.lemmas.Result.{err_from_is_err_and}
use Rattle.layout_bytes.specs.declared.slot.Slot.{Slot}
use Rattle.base_types.specs.Layouts.{directory_blocks, longest_name}
use Rattle.lang_tree.specs.Figures.{release}
use Rattle.crash_stands.specs.Files.{Files}
use Rattle.crash_stands.specs.Inodes.{ADir, inodes_of}
use Rattle.engine_blocks.specs.State.{Bookkeeping, State}
use Rattle.fs_files.specs.Calls.{files_in, places_in}
use Rattle.fs_files.specs.Effects.{LooksOnly}
use Rattle.fs_files.specs.NodeMaps.{nodes_in}
use Rattle.fs_dirs.specs.Changing.{Alters, IsWithSlots, TakesSlot}
use Rattle.fs_dirs.specs.Directories.{inodes_in}
use Rattle.fs_dirs.specs.Reading.{IsOpened}
use Rattle.fs_dirs.proofs.reading.Looks.{draft_stays, looks_more, of_found, of_none, same_files, same_inodes, same_layout, same_places}
use Rattle.fs_dirs.proofs.writing.Alterings.{alters_both}
use Rattle.fs_dirs.proofs.writing.Nodes.{place_of_slots}
use Rattle.fs_dirs.proofs.writing.Taking.{out_is, slots_twice, places_twice}
use Rattle.fs_dirs.proofs.changing.take_slot.Goals as goal
use Rattle.fs_dirs.proofs.changing.take_slot.Goals.{In-Some, In-Some-last_place, In_ok-set_slot}

-- it is a directory
pub returns-in_default : goal.returns-in_default
returns-in_default g c = record {
  slots = λ told slots is. absurd (none-some _ (of_none _ c.in_default.is (c.in_ok-directory.ensures.none told) (ADir slots) is));
  places = λ told slots is. absurd (none-some _ (of_none _ c.in_default.is (c.in_ok-directory.ensures.none told) (ADir slots) is));
  draft = draft_stays g.S.Blocks.tells false _ _ c.args.draft.now c.in_ok-directory.ensures.looks c.requires.look.may;
  kept = refl;
  alters = λ told slots is. absurd (none-some _ (of_none _ c.in_default.is (c.in_ok-directory.ensures.none told) (ADir slots) is));
  refused = tt;
  looks = c.in_ok-directory.ensures.looks;
}

-- which was read
module _ (g : _) (c : In-Some g) where
  abbrev s : State
  s = g.S.Blocks.state c.args.blocks.now

  abbrev t : State
  t = g.S.Blocks.state c.open_directory.new.blocks

  opened : (c.in-Some.directory.number ≡ c.args.dir) × IsOpened g.S.Blocks.tells t (nodes_in t c.args.draft.now) c.in-Some.directory
  opened = of_found _ _ _ c.in-Some.is c.in_ok-directory.ensures.opened

  place_low : IsTrue g.S.Blocks.tells → (slots : List Slot) → inodes_in s c.args.draft.now c.args.dir ≡ Some (ADir slots) → c.args.place < length slots
  place_low told slots is = place_of_slots _ c.args.place slots (c.requires.there told) is

  still : IsTrue g.S.Blocks.tells → (slots : List Slot) → inodes_in s c.args.draft.now c.args.dir ≡ Some (ADir slots) → inodes_in t c.args.draft.now c.in-Some.directory.number ≡ Some (ADir slots)
  still told slots is = ap (inodes_in t c.args.draft.now) opened.0 ∙ ap (λ m. m c.args.dir) (same_inodes g.S.Blocks.tells false s t c.args.draft.now c.in_ok-directory.ensures.looks told) ∙ is

  some : IsTrue g.S.Blocks.tells → (slots : List Slot) → inodes_in s c.args.draft.now c.args.dir ≡ Some (ADir slots) → 0 < c.in-Some.directory.count
  some told slots is = omega (arith, place_low told slots is, same_Some _ _ (opened.1.count told (ADir slots) (still told slots is)))

-- it has a last slot
pub returns-in_default-last_place : goal.returns-in_default-last_place
returns-in_default-last_place g c =
    let b = (goal.at.returns-in_default-last_place g c).In-Some in
    record {
      slots = λ told slots is. absurd (none-some _ (sym c.in_default-last_place.is ∙ c.last_place.ensures.last (some g b told slots is)));
      places = λ told slots is. absurd (none-some _ (sym c.in_default-last_place.is ∙ c.last_place.ensures.last (some g b told slots is)));
      draft = draft_stays g.S.Blocks.tells false _ _ c.args.draft.now c.in_ok-directory.ensures.looks c.requires.look.may;
      kept = refl;
      alters = λ told slots is. absurd (none-some _ (sym c.in_default-last_place.is ∙ c.last_place.ensures.last (some g b told slots is)));
      refused = tt;
      looks = c.in_ok-directory.ensures.looks;
    }

module _ (g : _) (c : In-Some-last_place g) where
  abbrev old : State
  old = g.S.Blocks.state c.args.blocks.now

  last_is : IsTrue g.S.Blocks.tells → (slots : List Slot) → inodes_in old c.args.draft.now c.args.dir ≡ Some (ADir slots) → c.in-Some-last_place.last ≡ length slots - 1
  last_is told slots is =
      let b = (goal.at.In-Some-last_place g c).In-Some in
      same_Some _ _ (sym c.in-Some-last_place.is ∙ c.last_place.ensures.last (some g b told slots is))
      ∙ ap (λ n. n - 1) (same_Some _ _ ((opened g b).1.count told (ADir slots) (still g b told slots is)))

pub slot_at-requires-clause-going : goal.slot_at-requires-clause-going
slot_at-requires-clause-going g c = ap (λ (b : Bookkeeping). b.stopped) c.in_ok-directory.ensures.looks.books ∙ c.requires.look.going

pub slot_at-requires-clause-draft : goal.slot_at-requires-clause-draft
slot_at-requires-clause-draft g c = draft_stays g.S.Blocks.tells false _ _ c.args.draft.now c.in_ok-directory.ensures.looks c.requires.look.may

pub slot_at-requires-clause-opened : goal.slot_at-requires-clause-opened
slot_at-requires-clause-opened g c = (of_found _ _ _ c.in-Some.is c.in_ok-directory.ensures.opened).1

pub set_slot-requires-clause-short : goal.set_slot-requires-clause-short
set_slot-requires-clause-short g c = subst (λ k. length c.in-Some-2.moved.name ≤ longest_name k) (sym (same_layout g.S.Blocks.tells false _ _ c.in_ok-moved.ensures.looks)) (of_found _ _ _ c.in-Some-2.is c.in_ok-moved.ensures.short)

-- and its bytes are a slot's
pub returns-in_default-2 : goal.returns-in_default-2
returns-in_default-2 g c =
    let all = goal.at.returns-in_default-2 g c in
    let d = all.In-Some in
    let looks = looks_more g.S.Blocks.tells false (s g d) (t g d) (g.S.Blocks.state c.slot_at.new.blocks) c.in_ok-directory.ensures.looks c.in_ok-moved.ensures.looks in
    let never : (P : Type 0) → IsTrue g.S.Blocks.tells → (slots : List Slot) → inodes_in (s g d) c.args.draft.now c.args.dir ≡ Some (ADir slots) → P = λ P told slots is.
    let low : c.in-Some-last_place.last < length slots = omega (arith, last_is g all.In-Some-last_place told slots is, place_low g d told slots is) in
    absurd (none-some _ (sym c.in_default-2.is ∙ c.in_ok-moved.ensures.slot told slots (still g d told slots is) low ∙ slice_get-get_or slots c.in-Some-last_place.last (record { node = 0; name = [] }) low)) in
    record {
      slots = λ told slots is. never _ told slots is;
      places = λ told slots is. never _ told slots is;
      draft = draft_stays g.S.Blocks.tells false (s g d) (g.S.Blocks.state c.slot_at.new.blocks) c.args.draft.now looks c.requires.look.may;
      kept = refl;
      alters = λ told slots is. never _ told slots is;
      refused = tt;
      looks = looks;
    }

-- and its slot was written over the one at the place
module _ (g : _) (c : In_ok-set_slot g) where
  abbrev start : State
  start = g.S.Blocks.state c.args.blocks.now

  abbrev mid : State
  mid = g.S.Blocks.state c.open_directory.new.blocks

  abbrev read : State
  read = g.S.Blocks.state c.slot_at.new.blocks

  abbrev put : State
  put = g.S.Blocks.state c.set_slot.new.blocks

  looks : LooksOnly g.S.Blocks.tells false start read
  looks = looks_more g.S.Blocks.tells false start mid read c.in_ok-directory.ensures.looks c.in_ok-moved.ensures.looks

  put_looks : LooksOnly g.S.Blocks.tells false start put
  put_looks = looks_more g.S.Blocks.tells false start read put looks c.in_ok-set_slot.ensures.looks

  low : IsTrue g.S.Blocks.tells → (slots : List Slot) → inodes_in start c.args.draft.now c.args.dir ≡ Some (ADir slots) → c.args.place < length slots
  low told slots is = place_of_slots _ c.args.place slots (c.requires.there told) is

  its_last : IsTrue g.S.Blocks.tells → (slots : List Slot) → inodes_in start c.args.draft.now c.args.dir ≡ Some (ADir slots) → c.in-Some-last_place.last ≡ length slots - 1
  its_last told slots is = last_is g (goal.at.In_ok-set_slot g c).In-Some-last_place told slots is

  moved_is : IsTrue g.S.Blocks.tells → (slots : List Slot) → inodes_in start c.args.draft.now c.args.dir ≡ Some (ADir slots) → slice_get slots c.in-Some-last_place.last ≡ Some c.in-Some-2.moved
  moved_is told slots is =
      sym (c.in_ok-moved.ensures.slot told slots (still g (goal.at.In_ok-set_slot g c).In-Some told slots is) (omega (arith, its_last told slots is, low told slots is)))
      ∙ c.in-Some-2.is

  -- its slots then
  set_is : IsTrue g.S.Blocks.tells → (slots : List Slot) → inodes_in start c.args.draft.now c.args.dir ≡ Some (ADir slots) → IsWithSlots start.books.geom.layout (files_in start c.args.draft.now) (files_in put c.set_slot.new.draft) c.args.dir (set slots c.args.place c.in-Some-2.moved)
  set_is told slots is =
      subst (λ (f : Files). IsWithSlots start.books.geom.layout f (files_in put c.set_slot.new.draft) c.args.dir (set slots c.args.place c.in-Some-2.moved)) (same_files g.S.Blocks.tells false start read c.args.draft.now looks told)
      (subst (λ k. IsWithSlots k (files_in read c.args.draft.now) (files_in put c.set_slot.new.draft) c.args.dir (set slots c.args.place c.in-Some-2.moved)) (same_layout g.S.Blocks.tells false start read looks)
      (c.in_ok-set_slot.ensures.slots told slots (ap (λ m. m c.args.dir) (same_inodes g.S.Blocks.tells false start read c.args.draft.now looks told) ∙ is)))

  -- they are read by the same layout
  put_layout : put.books.geom.layout ≡ start.books.geom.layout
  put_layout = same_layout g.S.Blocks.tells false start put put_looks

  -- as the directory has them now
  now_is : IsTrue g.S.Blocks.tells → (slots : List Slot) → inodes_in start c.args.draft.now c.args.dir ≡ Some (ADir slots) → inodes_in put c.set_slot.new.draft c.args.dir ≡ Some (ADir (set slots c.args.place c.in-Some-2.moved))
  now_is told slots is = ap (λ k. inodes_of k (files_in put c.set_slot.new.draft) c.args.dir) put_layout ∙ (set_is told slots is).inodes.here

pub cut_slots-requires-clause-there : goal.cut_slots-requires-clause-there
cut_slots-requires-clause-there g c = λ told.
    let b = (goal.at.cut_slots-requires-clause-there g c).In_ok-set_slot in
    let there = c.requires.there told in
    (set there.0 c.args.place c.in-Some-2.moved, now_is g b told there.0 there.1, omega (arith, its_last g b told there.0 there.1, there.2, length-set there.0 c.args.place c.in-Some-2.moved))

pub returns : goal.returns
returns g c =
    let b = (goal.at.returns g c).In_ok-set_slot in
    record {
      slots = λ told slots is.
          let mine = set_is g b told slots is in
          let new = files_in (g.S.Blocks.state c.cut_slots.new.blocks) c.cut_slots.new.draft in
          subst (λ xs. IsWithSlots (start g b).books.geom.layout (files_in (start g b) c.args.draft.now) new c.args.dir xs) (out_is slots c.args.place c.in-Some-last_place.last c.in-Some-2.moved (its_last g b told slots is) (moved_is g b told slots is))
          (slots_twice (start g b).books.geom.layout (files_in (start g b) c.args.draft.now) (files_in (put g b) c.set_slot.new.draft) new c.args.dir (set slots c.args.place c.in-Some-2.moved) _ mine
          (subst (λ k. IsWithSlots k (files_in (put g b) c.set_slot.new.draft) new c.args.dir (take c.in-Some-last_place.last (set slots c.args.place c.in-Some-2.moved))) (put_layout g b) (c.in_ok-cut_slots.ensures.slots told (set slots c.args.place c.in-Some-2.moved) (now_is g b told slots is))));
      places = λ told slots is.
          places_twice (places_in (read g b) c.args.draft.now) (places_in (start g b) c.args.draft.now) (places_in (put g b) c.set_slot.new.draft) (places_in (g.S.Blocks.state c.cut_slots.new.blocks) c.cut_slots.new.draft) c.args.dir _ _
          (λ l. same_places g.S.Blocks.tells false (start g b) (read g b) c.args.draft.now (looks g b) l told) (ap₂ directory_blocks (put_layout g b) (its_last g b told slots is))
          (c.in_ok-set_slot.ensures.places told) (c.in_ok-cut_slots.ensures.places told);
      draft = c.in_ok-cut_slots.ensures.draft;
      kept = c.in_ok-cut_slots.ensures.kept ∙ c.in_ok-set_slot.ensures.kept;
      alters = λ told slots is.
          let long = length-set slots c.args.place c.in-Some-2.moved in
          let last = its_last g b told slots is in
          let fewer : 0 + (directory_blocks (put g b).books.geom.layout (length (set slots c.args.place c.in-Some-2.moved)) - directory_blocks (put g b).books.geom.layout c.in-Some-last_place.last) ≡ release (start g b).books.geom.layout (length slots) =
          omega (arith, ap₂ directory_blocks (put_layout g b) long, ap₂ directory_blocks (put_layout g b) last) in
          subst (λ n. Alters 3 [] n c.args.draft.now c.cut_slots.new.draft) fewer
          (alters_both 1 2 0 _ [] [] c.args.draft.now c.set_slot.new.draft c.cut_slots.new.draft (c.in_ok-set_slot.ensures.alters told) (c.in_ok-cut_slots.ensures.alters told (set slots c.args.place c.in-Some-2.moved) (now_is g b told slots is)));
      refused = tt;
      looks = looks_more g.S.Blocks.tells false (start g b) (put g b) (g.S.Blocks.state c.cut_slots.new.blocks) (put_looks g b) c.in_ok-cut_slots.ensures.looks;
    }

pub returns-in_err-cut_slots : goal.returns-in_err-cut_slots
returns-in_err-cut_slots g c =
    let b = (goal.at.returns-in_err-cut_slots g c).In_ok-set_slot in
    let new = g.S.Blocks.state c.cut_slots.new.blocks in
    let error = err_from_is_err_and c.from_residual-in_err-cut_slots.result c.from_residual-in_err-cut_slots.ensures.1 in
    subst (λ r. TakesSlot g.S.Blocks.tells c.args.dir c.args.place r (start g b) new c.args.draft.now c.cut_slots.new.draft) (sym (error.1 ∙ ap Err error.2))
    (record {
      slots = λ told. tt;
      places = λ told. tt;
      draft = tt;
      kept = tt;
      alters = λ told. tt;
      refused = c.in_err-cut_slots.ensures.refused;
      looks = looks_more g.S.Blocks.tells _ (start g b) (put g b) new (put_looks g b) c.in_err-cut_slots.ensures.looks;
    })
