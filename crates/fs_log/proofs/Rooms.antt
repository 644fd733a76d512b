-- What fits one record of the journal: each command that changes a log, behind a sync point.
use Rattle.std.proofs.Common.{◌≡◌, ◌⊎◌, inl, inr, ⊎_elim, ℕ, ◌+◌, ◌-◌, ◌*◌, ◌/◌, ◌≤◌, nat_le, min, max, ◌==◌, Bool, true, false, if◌then◌else◌, List, length, Option, None, Some, refl, sym, ◌∙◌, ap, subst, arith}
use Rattle.std.proofs.lemmas.Bool.{and_parts, cases_Bool, false≢true, leb-true, true≢false}
use Rattle.std.specs.FinMap.{get}
use Rattle.base_types.specs.LayoutLaws.{directory_grows}
use Rattle.layout_geometry.specs.Geometry.{Geometry, IsGeometry, bitmap_blocks}
use Rattle.lang_tree.specs.declared.command.Cmd.{Cmd}
use Rattle.lang_tree.specs.declared.command.Cmd.TheVariants.{Create, Dsync, List as ListPath, Mkdir, Osync, Read, Stat as StatPath, Unlink, Write}
use Rattle.lang_tree.specs.declared.command.Refusal.{Refusal}
use Rattle.lang_tree.specs.declared.command.Refusal.TheVariants.{DiskFault, NoMemory, ReadFault, Spent, Stopped}
use Rattle.lang_tree.specs.declared.command.Reply.{Reply}
use Rattle.lang_tree.specs.declared.command.Reply.TheVariants.{Ok as Done, Bytes, Stat, Names, Synced, DurableAt, Known, Bad, Refused}
use Rattle.lang_tree.specs.Conditions.{refusal}
use Rattle.lang_tree.specs.Figures.{Figures, blocks_for, blocks_met, nothing, siblings, touches}
use Rattle.lang_tree.specs.Refusals.{refusal_number}
use Rattle.lang_tree.specs.Run.{Answers, is_of_disk, is_of_memory}
use Rattle.lang_tree.specs.Sharing.{BlocksAlone, SharedNodes, SharedPlaces, accepted_over, figures_over_by, is_renewed, shared_at, shared_met, write_over_figures, writing_over}
use Rattle.lang_tree.specs.Step.{Session, osync, step}
use Rattle.lang_tree.specs.Tree.{Tree, Bounds}
use Rattle.lang_tree.specs.Walk.{content}
use Rattle.engine_blocks.specs.Ranges.{fewer_from}
use Rattle.engine_blocks.specs.State.{State}
use Rattle.fs_session.specs.Applying.{Applies}
use Rattle.fs_session.specs.Commands.{is_on_tree}
use Rattle.fs_session.specs.DiskRoom.{AnswersOn, ComesBack, SyncsOver}
use Rattle.fs_session.specs.Memory.{room_of}
use Rattle.fs_session.specs.Room.{IsDoneIn, IsRefusedIn, RefusesIn, Room, figures_in, left_in, most_weight, shared_by, alone_by}
use Rattle.fs_session.specs.Sessions.{IsSession}
use Rattle.fs_session.specs.Space.{FailsToFit}
use Rattle.fs_session.specs.Staying.{figures_stay}
use Rattle.fs_log.specs.Asked.{IsLate, is_durable, is_past_room, is_synced}
use Rattle.fs_log.specs.Causes.{is_too_big}

-- how commands are answered over any blocks that tell
abbrev pub RoomLaw : {S : Type 0} → Bool → (S → State) → Type 0
RoomLaw {S} tells state = (old new : S) (f : Session) (cmd : Cmd) (reply : Reply) → IsSession (state old) f → Applies tells state cmd reply old new
    → (next : Session) × IsSession (state new) next × ((state new).books.geom ≡ (state old).books.geom) × AnswersOn (state old).books.geom f (room_of (state old)) cmd reply next (room_of (state new))

-- a refusal of the disk has a number from 10 on
pub from_ten : (why : Refusal) → is_of_disk why ≡ true → 10 ≤ refusal_number why
from_ten why outside = leb-true 10 (refusal_number why) (and_parts (nat_le 10 (refusal_number why)) (nat_le (refusal_number why) 17) outside).0

-- and one up to 17
pub to_seventeen : (why : Refusal) → is_of_disk why ≡ true → refusal_number why ≤ 17
to_seventeen why outside = leb-true (refusal_number why) 17 (and_parts (nat_le 10 (refusal_number why)) (nat_le (refusal_number why) 17) outside).1

-- a refusal from outside the tree, of a command that fits
pub outside_late : (why : Refusal) → is_of_disk why ≡ true → is_too_big why ≡ false → IsLate (Refused why)
outside_late why outside fits = ((omega (arith, from_ten why outside), to_seventeen why outside), fits)

-- Syncs.

osync_made : (f : Session) (changed : Bool) → is_synced (osync f changed).1 ≡ true
osync_made f true = refl
osync_made f false = refl

module _ (g : Geometry) (f next : Session) (r room : Room) (reply : Reply) where
  -- behind an osync that is answered nothing is weighed
  pub empties : AnswersOn g f r Osync reply next room → is_synced reply ≡ true → room.weight ≡ 0
  empties (inl refused) made = absurd (false≢true (sym (ap is_synced refused.2) ∙ made))
  empties (inr begun) made = by begun.answers
    where
      by : SyncsOver f begun.back Osync reply next room → room.weight ≡ 0
      by (inl done) = done.1.weight
      by (inr (inl refused)) = absurd (false≢true (sym (ap is_synced refused.2) ∙ made))
      by (inr (inr fault)) = absurd (false≢true (sym (ap is_synced fault.0) ∙ made))

  -- one that isn't answered is refused
  ended_late : (why : Refusal) → (why ≡ Stopped) ⊎ (why ≡ Spent) → IsLate (Refused why)
  ended_late why (inl is) = subst (λ (w : Refusal). IsLate (Refused w)) (sym is) ((omega arith, omega arith), refl)
  ended_late why (inr is) = subst (λ (w : Refusal). IsLate (Refused w)) (sym is) ((omega arith, omega arith), refl)

  lacking_late : (why : Refusal) → why ≡ NoMemory → IsLate (Refused why)
  lacking_late why is = subst (λ (w : Refusal). IsLate (Refused w)) (sym is) ((omega arith, omega arith), refl)

  late : (cmd : Cmd) (back : Room) → (step f cmd ≡ (next, reply) → ⊥) → SyncsOver f back cmd reply next room → IsLate reply
  late cmd back not (inl done) = absurd (not done.0)
  late cmd back not (inr (inl refused)) = subst IsLate (sym refused.2) (lacking_late refused.0 refused.1.0)
  late cmd back not (inr (inr fault)) = subst IsLate (sym fault.0) ((omega arith, omega arith), refl)

  pub order_late : AnswersOn g f r Osync reply next room → is_synced reply ≡ false → IsLate reply
  order_late (inl refused) none = subst IsLate (sym refused.2) (ended_late refused.0 refused.1)
  order_late (inr begun) none = late Osync begun.back (λ is. false≢true (sym none ∙ (sym (ap (λ x. is_synced x.1) is) ∙ osync_made f f.changed))) begun.answers

  pub sync_late : AnswersOn g f r Dsync reply next room → is_durable reply ≡ false → IsLate reply
  sync_late (inl refused) none = subst IsLate (sym refused.2) (ended_late refused.0 refused.1)
  sync_late (inr begun) none = late Dsync begun.back (λ is. false≢true (sym none ∙ sym (ap (λ x. is_durable x.1) is))) begun.answers

-- Commands on the tree.

-- the tree refuses none for its cost
pub fits_by_itself : ((old new : Session) (cmd : Cmd) (why : Refusal) → Answers is_of_memory old cmd (Refused why) new → (is_of_disk why ≡ false) ⊎ (why ≡ NoMemory)) → (f : Session) (cmd : Cmd) → is_past_room (step f cmd).1 ≡ false
fits_by_itself alone f cmd = by (step f cmd).1 refl
  where
    small : (why : Refusal) → (is_of_disk why ≡ false) ⊎ (why ≡ NoMemory) → is_too_big why ≡ false
    small why is = grind (arith, true≢false)

    by : (reply : Reply) → (step f cmd).1 ≡ reply → is_past_room reply ≡ false
    by (Refused why) is = small why (alone f (step f cmd).0 cmd why (inl (ap (λ (r : Reply). ((step f cmd).0, r)) is)))
    by Done is = refl
    by (Bytes bytes) is = refl
    by (Stat stat) is = refl
    by (Names names) is = refl
    by (Synced point) is = refl
    by (DurableAt point) is = refl
    by (Known point) is = refl
    by Bad is = refl

-- A command that began was answered in a room of the same weight, or refused by the disk; or it didn't begin.
abbrev pub AnswersTree : Geometry → Session → Room → Cmd → Reply → Session → Room → Type 0
AnswersTree g f r cmd reply next room =
    RefusesIn (λ why. (why ≡ Stopped) ⊎ (why ≡ Spent)) f r reply next room
    ⊎ ((back : Room) × ComesBack g f r back
    × ((IsDoneIn g f back cmd reply next room ⊎ RefusesIn (IsRefusedIn g f back cmd) f back reply next room)
    ⊎ RefusesIn (λ why. (why ≡ DiskFault) ⊎ ((is_on_tree cmd ≡ true) × (why ≡ ReadFault))) f back reply next room))

module _ (g : Geometry) (f next : Session) (r room : Room) (reply : Reply) where
  pub mkdir_answers : (path : List (List ℕ)) → AnswersOn g f r (Mkdir path) reply next room → AnswersTree g f r (Mkdir path) reply next room
  mkdir_answers path (inl refused) = inl refused
  mkdir_answers path (inr begun) = inr (begun.back, begun.comes_back, begun.answers)

  pub create_answers : (path : List (List ℕ)) → AnswersOn g f r (Create path) reply next room → AnswersTree g f r (Create path) reply next room
  create_answers path (inl refused) = inl refused
  create_answers path (inr begun) = inr (begun.back, begun.comes_back, begun.answers)

  pub write_answers : (path : List (List ℕ)) (offset : ℕ) (bytes : List ℕ) → AnswersOn g f r (Write path offset bytes) reply next room → AnswersTree g f r (Write path offset bytes) reply next room
  write_answers path offset bytes (inl refused) = inl refused
  write_answers path offset bytes (inr begun) = inr (begun.back, begun.comes_back, begun.answers)

  pub unlink_answers : (path : List (List ℕ)) → AnswersOn g f r (Unlink path) reply next room → AnswersTree g f r (Unlink path) reply next room
  unlink_answers path (inl refused) = inl refused
  unlink_answers path (inr begun) = inr (begun.back, begun.comes_back, begun.answers)

  pub read_answers : (path : List (List ℕ)) (offset count : ℕ) → AnswersOn g f r (Read path offset count) reply next room → AnswersTree g f r (Read path offset count) reply next room
  read_answers path offset count (inl refused) = inl refused
  read_answers path offset count (inr begun) = inr (begun.back, begun.comes_back, begun.answers)

  pub stat_answers : (path : List (List ℕ)) → AnswersOn g f r (StatPath path) reply next room → AnswersTree g f r (StatPath path) reply next room
  stat_answers path (inl refused) = inl refused
  stat_answers path (inr begun) = inr (begun.back, begun.comes_back, begun.answers)

  pub list_answers : (path : List (List ℕ)) → AnswersOn g f r (ListPath path) reply next room → AnswersTree g f r (ListPath path) reply next room
  list_answers path (inl refused) = inl refused
  list_answers path (inr begun) = inr (begun.back, begun.comes_back, begun.answers)

  -- a command whose cost fits what is weighed isn't refused for it
  module _ (cmd : Cmd) (by_itself : is_past_room (step f cmd).1 ≡ false) (fits : r.weight + (figures_in g f r cmd).cost ≤ most_weight g) where
    fits_so : (back : Room) → ComesBack g f r back → (why : Refusal) → IsRefusedIn g f back cmd why → is_too_big why ≡ false
    fits_so back same why (inl lacks) = by lacks.1
      where
        by : FailsToFit (left_in g f back) back.weight (most_weight g) (figures_in g f back cmd) why → is_too_big why ≡ false
        by (inl full) = ap is_too_big full.is
        by (inr big) = absurd (omega (arith, big.weight, same.weight, ap (λ (n : Figures). n.cost) (figures_stay g f r back cmd same.keeps), fits))
    fits_so back same why (inr (inl scatters)) = ap is_too_big scatters.2.is
    fits_so back same why (inr (inr none)) = ap is_too_big none

    ended : (why : Refusal) → (why ≡ Stopped) ⊎ (why ≡ Spent) → is_too_big why ≡ false
    ended why (inl is) = ap is_too_big is
    ended why (inr is) = ap is_too_big is

    failed : (why : Refusal) → (why ≡ DiskFault) ⊎ ((is_on_tree cmd ≡ true) × (why ≡ ReadFault)) → is_too_big why ≡ false
    failed why (inl is) = ap is_too_big is
    failed why (inr is) = ap is_too_big is.1

    pub fits_now : AnswersTree g f r cmd reply next room → is_past_room reply ≡ false
    fits_now (inl refused) = ap is_past_room refused.2 ∙ ended refused.0 refused.1
    fits_now (inr (back, same, inl (inl done))) = sym (ap (λ x. is_past_room x.1) done.answer) ∙ by_itself
    fits_now (inr (back, same, inl (inr refused))) = ap is_past_room refused.2 ∙ fits_so back same refused.0 refused.1
    fits_now (inr (back, same, inr refused)) = ap is_past_room refused.2 ∙ failed refused.0 refused.1

-- Costs.

no_more : (bitmap : ℕ) (shared : SharedNodes) (alone : BlocksAlone) (limit : Bounds) (t : Tree) (cmd : Cmd) (most : ℕ) (why : Option Refusal) → (accepted_over bitmap shared alone limit t cmd).cost ≤ most
    → (figures_over_by bitmap shared alone limit t cmd why).cost ≤ most
no_more bitmap shared alone limit t cmd most None upto = upto
no_more bitmap shared alone limit t cmd most (Some why) upto = omega arith

module _ (g : Geometry) (f : Session) (r : Room) where
  abbrev bitmap : ℕ
  bitmap = bitmap_blocks g

  -- a command that asks costs nothing
  pub read_is_free : (path : List (List ℕ)) (offset count : ℕ) → (figures_in g f r (Read path offset count)).cost ≤ 0
  read_is_free path offset count = no_more bitmap (shared_by g f.tree r) (alone_by g f.tree r) f.limit f.tree (Read path offset count) 0 (refusal f.limit f.tree (Read path offset count)) (omega arith)

  pub stat_is_free : (path : List (List ℕ)) → (figures_in g f r (StatPath path)).cost ≤ 0
  stat_is_free path = no_more bitmap (shared_by g f.tree r) (alone_by g f.tree r) f.limit f.tree (StatPath path) 0 (refusal f.limit f.tree (StatPath path)) (omega arith)

  pub list_is_free : (path : List (List ℕ)) → (figures_in g f r (ListPath path)).cost ≤ 0
  list_is_free path = no_more bitmap (shared_by g f.tree r) (alone_by g f.tree r) f.limit f.tree (ListPath path) 0 (refusal f.limit f.tree (ListPath path)) (omega arith)

module _ (g : Geometry) (limits : IsGeometry g) (f : Session) (r : Room) where
  abbrev bits : ℕ
  bits = bitmap_blocks g

  room : 25 * (7 + bits) ≤ most_weight g
  room = limits.journal_room

  abbrev shared : SharedNodes
  shared = shared_by g f.tree r

  within : (cmd : Cmd) → (accepted_over bits shared (alone_by g f.tree r) f.limit f.tree cmd).cost ≤ most_weight g → (figures_in g f r cmd).cost ≤ most_weight g
  within cmd upto = no_more bits shared (alone_by g f.tree r) f.limit f.tree cmd (most_weight g) (refusal f.limit f.tree cmd) upto

  pub mkdir_is_cheap : (path : List (List ℕ)) → (figures_in g f r (Mkdir path)).cost ≤ most_weight g
  mkdir_is_cheap path = within (Mkdir path) (omega (arith, room, directory_grows f.limit.layout (siblings f.tree.names path)))

  pub create_is_cheap : (path : List (List ℕ)) → (figures_in g f r (Create path)).cost ≤ most_weight g
  create_is_cheap path = within (Create path) (omega (arith, room, directory_grows f.limit.layout (siblings f.tree.names path)))

  pub unlink_is_cheap : (path : List (List ℕ)) → (figures_in g f r (Unlink path)).cost ≤ most_weight g
  unlink_is_cheap path = within (Unlink path) (omega (arith, room))

  -- a write behind all that a file has
  pub write_is_cheap : ((size lo hi : ℕ) → min (blocks_for size) (blocks_for hi) - lo / 1024 ≡ blocks_met size lo hi) → (path : List (List ℕ)) (offset : ℕ) (bytes : List ℕ)
      → length (content f.tree path) ≡ offset → length bytes ≤ 65540 → (figures_in g f r (Write path offset bytes)).cost ≤ most_weight g
  write_is_cheap division path offset bytes all few = within (Write path offset bytes) (cost (shared_at shared (get f.tree.names path)) (length (content f.tree path)) (length bytes) all few)
    where
      -- of the blocks that it touches no more are shared than there are
      few_shared : (kept : SharedPlaces) (size lo hi : ℕ) → shared_met kept size lo hi ≤ blocks_met size lo hi
      few_shared kept size lo hi = fewer_from (touches lo hi) (is_renewed kept lo hi) 0 (blocks_for size) (λ i from is. (and_parts (touches lo hi i) (kept i) is).0)

      least : (a b : ℕ) → min a b ≤ b
      least a b = grind arith

      cost : (kept : SharedPlaces) (size count : ℕ) → size ≡ offset → count ≤ 65540 → (write_over_figures bits kept size offset count).cost ≤ most_weight g
      cost kept size count all few = ⊎_elim
          (λ none. subst (λ (b : Bool). (if b then nothing else writing_over bits kept size (min offset size) (offset + count)).cost ≤ most_weight g) (sym none) (omega arith))
          (λ some. subst (λ (b : Bool). (if b then nothing else writing_over bits kept size (min offset size) (offset + count)).cost ≤ most_weight g) (sym some)
          (omega (
            arith,
            division size (min offset size) (offset + count),
            few_shared kept size (min offset size) (offset + count),
            least (shared_met kept size (min offset size) (offset + count) + (blocks_for (max size (offset + count)) - blocks_for size)) bits,
            all,
            few,
            room,
          )))
          (cases_Bool (count == 0))
