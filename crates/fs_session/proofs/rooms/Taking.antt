-- How many blocks may be taken behind a command: no fewer than before it, but for those that it needs where it is done.
use Rattle.std.proofs.Common.{◌≡◌, ◌⊎◌, inl, inr, ℕ, ◌+◌, ◌-◌, ◌==◌, ◌≤◌, Bool, true, false, if◌then◌else◌, List, length, filter, Option, None, Some, refl, sym, subst, ap, ◌∙◌, arith}
use Rattle.std.proofs.lemmas.Bool.{false≢true}
use Rattle.std.proofs.lemmas.List.{length-drop}
use Rattle.layout_geometry.specs.Geometry.{Geometry, bitmap_blocks, data_start}
use Rattle.lang_tree.specs.declared.command.Cmd.{Cmd}
use Rattle.lang_tree.specs.declared.command.Cmd.TheVariants.{Mkdir, Create, Write, Fill, Truncate, Link, Rename, Snap, Osync, Dsync, Durable, Dwait, Poll, Bad}
use Rattle.lang_tree.specs.declared.command.Refusal.{Refusal}
use Rattle.lang_tree.specs.declared.command.Reply.{Reply}
use Rattle.lang_tree.specs.declared.command.Reply.TheVariants.{Ok as Done}
use Rattle.lang_tree.specs.Conditions.{refusal}
use Rattle.lang_tree.specs.Figures.{Figures}
use Rattle.lang_tree.specs.Sharing.{BlocksAlone, SharedNodes, accepted_over, figures_over_by}
use Rattle.lang_tree.specs.Points.{is_refusal}
use Rattle.lang_tree.specs.Step.{Session, accepted, answered, changed_to, step}
use Rattle.lang_tree.specs.Tree.{Tree}
use Rattle.lang_tree.specs.Walk.{content, is_same_node}
use Rattle.engine_blocks.specs.Ranges.{fewer_from}
use Rattle.engine_blocks.specs.Running.{has}
use Rattle.engine_blocks.specs.State.{data_blocks}
use Rattle.fs_session.specs.DiskRoom.{AnswersOn, AnswersOver, BeginsOver, KeepsRoom, SyncsOver}
use Rattle.fs_session.specs.Room.{IsDoneIn, RefusesIn, Room, alone_by, figures_in, shared_by}
use Rattle.fs_session.specs.Staying.{figures_stay}

-- What the tree refuses needs no block.

changed_or_not : (t : Bool) (f : Session) (tree : Tree) → is_refusal (if t then (f, Done) else changed_to f tree).1 ≡ false
changed_or_not true f tree = refl
changed_or_not false f tree = refl

module _ (bitmap : ℕ) (shared : SharedNodes) (alone : BlocksAlone) (f : Session) where
  abbrev NeedsNone : Cmd → Type 0
  NeedsNone cmd = (accepted_over bitmap shared alone f.limit f.tree cmd).need ≡ 0

  accepted_none : (cmd : Cmd) → is_refusal (accepted f cmd).1 ≡ true → NeedsNone cmd
  accepted_none (Mkdir path) e = absurd (false≢true e)
  accepted_none (Create path) e = absurd (false≢true e)
  accepted_none (Write path offset bytes) e = absurd (false≢true (sym (changed_or_not (length bytes == 0) f _) ∙ e))
  accepted_none (Fill path offset count byte) e = absurd (false≢true (sym (changed_or_not _ f _) ∙ e))
  accepted_none (Truncate path size) e = absurd (false≢true (sym (changed_or_not (size == length (content f.tree path)) f _) ∙ e))
  accepted_none (Link path other) e = absurd (false≢true e)
  accepted_none (Rename from to) e = absurd (false≢true (sym (changed_or_not (is_same_node f.tree from to) f _) ∙ e))
  accepted_none (Snap name) e = absurd (false≢true e)
  accepted_none cmd e = refl

  answered_none : (cmd : Cmd) (why : Option Refusal) → is_refusal (answered f cmd why).1 ≡ true → (figures_over_by bitmap shared alone f.limit f.tree cmd why).need ≡ 0
  answered_none cmd None e = accepted_none cmd e
  answered_none cmd (Some why) e = refl

refused_none : (g : Geometry) (f : Session) (r : Room) (cmd : Cmd) → is_refusal (step f cmd).1 ≡ true → (figures_in g f r cmd).need ≡ 0
refused_none g f r cmd e = answered_none (bitmap_blocks g) (shared_by g f.tree r) (alone_by g f.tree r) f cmd (refusal f.limit f.tree cmd) e

-- So many blocks may be taken still.

-- the blocks that may be taken are data blocks, ascending
abbrev TakesData : Geometry → Room → Type 0
TakesData g r = r.takeable ≡ filter (has r.takeable) (data_blocks g)

-- where what might be taken still may, no fewer may
as_many : (g : Geometry) (old new : Room) → TakesData g old → TakesData g new → KeepsRoom old new → length old.takeable ≤ length new.takeable
as_many g old new before after keeps =
    omega (arith, ap (λ (xs : List ℕ). length xs) before, ap (λ (xs : List ℕ). length xs) after, fewer_from (has new.takeable) (has old.takeable) (data_start g) (g.n - data_start g) (λ b from may. keeps.takeable b may))

-- what the command takes: what it needs, or nothing where it is refused
abbrev taken_at_most : Geometry → Session → Room → Cmd → Reply → ℕ
taken_at_most g f r cmd reply = if is_refusal reply then 0 else (figures_in g f r cmd).need

module _ (g : Geometry) (f : Session) (reply : Reply) (next : Session) where
  -- no more than that many fewer
  abbrev Leaves : Cmd → Room → Room → Type 0
  Leaves cmd old new = length old.takeable ≤ length new.takeable + taken_at_most g f old cmd reply

  no_fewer : (cmd : Cmd) (old new : Room) → length old.takeable ≤ length new.takeable → Leaves cmd old new
  no_fewer cmd old new h = by (taken_at_most g f old cmd reply)
    where
      by : (n : ℕ) → length old.takeable ≤ length new.takeable + n
      by n = omega (arith, h)

  of_same : (cmd : Cmd) (old new : Room) → new ≡ old → Leaves cmd old new
  of_same cmd old new same = no_fewer cmd old new (omega (arith, ap (λ (r : Room). length r.takeable) same))

  of_refused : (P : Refusal → Type 0) (cmd : Cmd) (old new : Room) → RefusesIn P f old reply next new → Leaves cmd old new
  of_refused P cmd old new x = of_same cmd old new x.4

  of_done : (cmd : Cmd) (old new : Room) → IsDoneIn g f old cmd reply next new → Leaves cmd old new
  of_done cmd old new x = by (is_refusal reply) refl
    where
      drops : length old.takeable ≤ length new.takeable + (figures_in g f old cmd).need
      drops = omega (arith, ap (λ (xs : List ℕ). length xs) x.spends.takeable, length-drop (figures_in g f old cmd).need old.takeable)

      by : (t : Bool) → is_refusal reply ≡ t → length old.takeable ≤ length new.takeable + (if t then 0 else (figures_in g f old cmd).need)
      by true refused = omega (arith, drops, refused_none g f old cmd (ap (λ (r : Session × Reply). is_refusal r.1) x.answer ∙ refused))
      by false done = drops

  of_sync : (cmd : Cmd) (old new : Room) → TakesData g old → TakesData g new → SyncsOver f old cmd reply next new → Leaves cmd old new
  of_sync cmd old new before after (inl done) = no_fewer cmd old new (as_many g old new before after done.1.keeps)
  of_sync cmd old new before after (inr (inl refused)) = of_refused _ cmd old new refused
  of_sync cmd old new before after (inr (inr fault)) = no_fewer cmd old new (as_many g old new before after fault.2)

  on_tree : (P Q : Refusal → Type 0) (cmd : Cmd) (old new : Room) → (IsDoneIn g f old cmd reply next new ⊎ RefusesIn P f old reply next new) ⊎ RefusesIn Q f old reply next new → Leaves cmd old new
  on_tree P Q cmd old new (inl (inl done)) = of_done cmd old new done
  on_tree P Q cmd old new (inl (inr refused)) = of_refused P cmd old new refused
  on_tree P Q cmd old new (inr refused) = of_refused Q cmd old new refused

  -- a command that began, in the room that came back
  over : (cmd : Cmd) (old new : Room) → TakesData g old → TakesData g new → AnswersOver g f old cmd reply next new → Leaves cmd old new
  over Bad old new before after (inl x) = of_same Bad old new x.1
  over Bad old new before after (inr refused) = of_refused _ Bad old new refused
  over Poll old new before after (inl x) = of_same Poll old new x.1
  over Poll old new before after (inr refused) = of_refused _ Poll old new refused
  over (Dwait n) old new before after (inl x) = of_same (Dwait n) old new x.1
  over (Dwait n) old new before after (inr refused) = of_refused _ (Dwait n) old new refused
  over Durable old new before after (inl x) = of_same Durable old new x.1
  over Durable old new before after (inr refused) = of_refused _ Durable old new refused
  over Osync old new before after x = of_sync Osync old new before after x
  over Dsync old new before after x = of_sync Dsync old new before after x
  over cmd old new before after x = on_tree _ _ cmd old new x

  -- Behind a command what may be taken are data blocks again, ascending, and enough of them.

  abbrev Takes : Cmd → Room → Room → Type 0
  Takes cmd old new = TakesData g new × Leaves cmd old new

  at_once : (cmd : Cmd) (old new : Room) → TakesData g old → new ≡ old → Takes cmd old new
  at_once cmd old new before same = (subst (λ (r : Room). TakesData g r) (sym same) before, of_same cmd old new same)

  began : (P : Refusal → Type 0) (cmd : Cmd) (old new : Room) → TakesData g old → RefusesIn P f old reply next new ⊎ BeginsOver g f old cmd reply next new → Takes cmd old new
  began P cmd old new before (inl refused) = at_once cmd old new before refused.4
  began P cmd old new before (inr b) =
      let back = b.comes_back in (
        b.is_room.takeable,
        omega (arith, as_many g old b.back before back.is_room.takeable back.keeps, over cmd b.back new back.is_room.takeable b.is_room.takeable b.answers, ap (λ (n : Figures). if is_refusal reply then 0 else n.need) (figures_stay g f old b.back cmd back.keeps)),
      )

  pub takes : (cmd : Cmd) (old new : Room) → TakesData g old → AnswersOn g f old cmd reply next new → Takes cmd old new
  takes Bad old new before x = at_once Bad old new before x.1
  takes cmd old new before x = began _ cmd old new before x
