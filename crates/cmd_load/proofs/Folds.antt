-- A command that was answered in the room of a load's disk is answered as the load's definition has it, and leaves what that says.
use Rattle.std.proofs.Common.{◌≡◌, ◌⊎◌, inl, inr, sym, refl, ap, ◌∙◌, subst, arith, ℕ, ◌+◌, ◌-◌, ◌≤◌, ◌==◌, nat_lt, Bool, true, false, if◌then◌else◌, List, [], ◌∷◌, Option, Some, None, length, min}
use Rattle.std.proofs.lemmas.Bool.{cases_eq, cond-true, cond-false, eq-eqb, false≢true, le-ltb, lt-ltb, ne_eqb}
use Rattle.std.specs.FinMap.{empty}
use Rattle.base_types.specs.declared.layout.Layout.{Layout}
use Rattle.layout_geometry.specs.Geometry.{bitmap_blocks, data_start}
use Rattle.lang_tree.specs.declared.command.Cmd.{Cmd}
use Rattle.lang_tree.specs.declared.command.Cmd.TheVariants.{Read, Stat, List as ListNames, Osync, Dsync, Durable, Dwait, Poll, Bad, Write, Fill, Truncate, Rename}
use Rattle.lang_tree.specs.declared.command.Refusal.{Refusal}
use Rattle.lang_tree.specs.declared.command.Refusal.TheVariants.{DiskFault, Full, ReadFault, Spent, Stopped, TooBig}
use Rattle.lang_tree.specs.declared.command.Reply.{Reply}
use Rattle.lang_tree.specs.declared.command.Reply.TheVariants.{Refused}
use Rattle.lang_tree.specs.Conditions.{first_reason, refusal, when}
use Rattle.lang_tree.specs.Figures.{Figures, accepted_figures, blocks, figures_by, move_figures, nothing, truncate_figures, write_figures, are_in_one, blocks_for, blocks_gone, growth, moving, release, shrinking, siblings, writing}
use Rattle.lang_tree.specs.Points.{is_refusal, is_sync}
use Rattle.lang_tree.specs.Step.{Session, accepted, answered}
use Rattle.lang_tree.specs.Tree.{Bounds, Tree}
use Rattle.fs_session.specs.Commands.{is_on_tree}
use Rattle.fs_session.specs.DiskRoom.{AnswersOn, BeginsOver, ClearsRoom, SyncsOver}
use Rattle.fs_session.specs.NothingKept.{CostsAsAlone, alone_costs, alone_left}
use Rattle.fs_session.specs.Room.{HoldsTree, IsDoneIn, IsRefusedIn, RefusesIn, Room, figures_in, left_in, most_weight}
use Rattle.fs_session.specs.Space.{FailsToFit, FitsIn}
use Rattle.cmd_load.specs.Summary.{Progress, after, answer_to, blocks_left, done_by, figures_of, load_refusal, room_refusals, shape}
use Rattle.cmd_load.specs.Trees.{IsLoadTree}
use Rattle.cmd_load.specs.Serving.{has_run_out}
use Rattle.cmd_load.proofs.Rooms.{never_scattered}
use Rattle.cmd_load.proofs.Trees.{IsLoadCommand}
use Rattle.lang_tree.specs.Walk.{content, is_same_node, is_there}

-- What a command that the tree accepts answers is no refusal.

accepted_calm : (f : Session) (cmd : Cmd) → IsLoadCommand cmd → is_refusal (accepted f cmd).1 ≡ false
accepted_calm f Bad is = absurd is
accepted_calm f other is = grind arith

-- A command that costs nothing frees nothing.

write_frees : (bitmap size offset count : ℕ) → (write_figures bitmap size offset count).freed ≡ 0
write_frees bitmap size offset count =
    elim (count == 0) as (λ b. (if b then nothing else writing bitmap size (min offset size) (offset + count)).freed ≡ 0) [ true ↦ refl | false ↦ refl ]

truncate_frees : (bitmap old new : ℕ) → (truncate_figures bitmap old new).cost ≡ 0 → (truncate_figures bitmap old new).freed ≡ 0
truncate_frees bitmap old new = by (nat_lt old new) (nat_lt new old)
  where
    by : (b d : Bool) → (if b then writing bitmap old old new else if d then shrinking bitmap (blocks_for old - blocks_for new) else nothing).cost ≡ 0
        → (if b then writing bitmap old old new else if d then shrinking bitmap (blocks_for old - blocks_for new) else nothing).freed ≡ 0
    by true d none = refl
    by false true none = absurd (omega (arith, none))
    by false false none = refl

move_frees : (bitmap : ℕ) (l : Layout) (t : Tree) (from to : List (List ℕ)) → (move_figures bitmap l t from to).cost ≡ 0 → (move_figures bitmap l t from to).freed ≡ 0
move_frees bitmap l t from to = by (is_there t to) (are_in_one from to)
  where
    by : (b d : Bool) → (if b then moving bitmap 0 (release l (siblings t.names from) + blocks_gone t to) else if d then moving bitmap 0 0 else moving bitmap (growth l (siblings t.names to)) (release l (siblings t.names from))).cost ≡ 0
        → (if b then moving bitmap 0 (release l (siblings t.names from) + blocks_gone t to) else if d then moving bitmap 0 0 else moving bitmap (growth l (siblings t.names to)) (release l (siblings t.names from))).freed ≡ 0
    by true d none = absurd (omega (arith, none))
    by false true none = absurd (omega (arith, none))
    by false false none = absurd (omega (arith, none))

rename_frees : (bitmap : ℕ) (l : Layout) (t : Tree) (from to : List (List ℕ)) (b : Bool) → (if b then nothing else move_figures bitmap l t from to).cost ≡ 0 → (if b then nothing else move_figures bitmap l t from to).freed ≡ 0
rename_frees bitmap l t from to true none = refl
rename_frees bitmap l t from to false none = move_frees bitmap l t from to none

accepted_frees : (bitmap : ℕ) (limit : Bounds) (t : Tree) (cmd : Cmd) → IsLoadCommand cmd → (accepted_figures bitmap limit t cmd).cost ≡ 0 → (accepted_figures bitmap limit t cmd).freed ≡ 0
accepted_frees bitmap limit t (Write path offset bytes) is none = write_frees bitmap (length (content t path)) offset (length bytes)
accepted_frees bitmap limit t (Fill path offset count byte) is none = write_frees bitmap (length (content t path)) offset count
accepted_frees bitmap limit t (Truncate path size) is none = truncate_frees bitmap (length (content t path)) size none
accepted_frees bitmap limit t (Rename from to) is none = rename_frees bitmap limit.layout t from to (is_same_node t from to) none
accepted_frees bitmap limit t other is none = grind arith

pub frees_by : (bitmap : ℕ) (limit : Bounds) (t : Tree) (cmd : Cmd) (o : Option Refusal) → IsLoadCommand cmd → (figures_by bitmap limit t cmd o).cost ≡ 0 → (figures_by bitmap limit t cmd o).freed ≡ 0
frees_by bitmap limit t cmd (Some why) is none = refl
frees_by bitmap limit t cmd None is none = accepted_frees bitmap limit t cmd is none

-- The first of three reasons.

no_reason : (o : Option Refusal) (b d : Bool) (why also : Refusal) → b ≡ false → d ≡ false → first_reason (o ∷ when b why ∷ when d also ∷ []) ≡ o
no_reason o b d why also e k = grind arith

second_reason : (o : Option Refusal) (b d : Bool) (why also : Refusal) → o ≡ None → b ≡ true → first_reason (o ∷ when b why ∷ when d also ∷ []) ≡ Some why
second_reason o b d why also none e = grind arith

third_reason : (o : Option Refusal) (b d : Bool) (why also : Refusal) → o ≡ None → b ≡ false → d ≡ true → first_reason (o ∷ when b why ∷ when d also ∷ []) ≡ Some also
third_reason o b d why also none e k = grind arith

-- What a command came to is what the definition says.
pub record Comes (p : Progress) (cmd : Cmd) (reply : Reply) (next : Session) (room : Room) : Type 0 where
  pub answer : (next, reply) ≡ answer_to p cmd
  pub session : next ≡ (after p cmd).session
  pub weight : room.weight ≡ (after p cmd).weight
  pub held : room.held ≡ (after p cmd).held
  pub refused : (after p cmd).refused ≡ p.refused + (if is_refusal reply then 1 else 0)

-- In what follows, the room weighs and holds as much as the load does.
module _ (p : Progress) (cmd : Cmd) (law : IsLoadCommand cmd) (alone : p.session.tree.snapshots ≡ empty) (unshared : CostsAsAlone) where
  abbrev f : Session
  f = p.session

  abbrev behind : Session × Reply → Progress
  behind a = if is_refusal a.1 then record p { refused = p.refused + 1 } else done_by p cmd a.0

  -- refused for this reason
  comes_refused : (why : Refusal) (room : Room) → load_refusal p cmd ≡ Some why → room.weight ≡ p.weight → room.held ≡ p.held → Comes p cmd (Refused why) f room
  comes_refused why room is weight held =
      let answer : answer_to p cmd ≡ (f, Refused why) = ap (answered f cmd) is in
      let came : after p cmd ≡ record p { refused = p.refused + 1 } = ap behind answer in
      record {
        answer = sym answer;
        session = sym (ap (λ (q : Progress). q.session) came);
        weight = weight ∙ sym (ap (λ (q : Progress). q.weight) came);
        held = held ∙ sym (ap (λ (q : Progress). q.held) came);
        refused = ap (λ (q : Progress). q.refused) came;
      }

  -- accepted by the tree
  comes_done : (reply : Reply) (next : Session) (room : Room) → load_refusal p cmd ≡ None → accepted f cmd ≡ (next, reply) → room.weight ≡ (done_by p cmd next).weight → room.held ≡ (done_by p cmd next).held → Comes p cmd reply next room
  comes_done reply next room none is weight held =
      let answer : answer_to p cmd ≡ (next, reply) = ap (answered f cmd) none ∙ is in
      let calm : is_refusal reply ≡ false = sym (ap (λ (a : Session × Reply). is_refusal a.1) is) ∙ accepted_calm f cmd law in
      let came : after p cmd ≡ done_by p cmd next = ap behind answer ∙ cond-false {A = Progress} (is_refusal reply) (record p { refused = p.refused + 1 }) (done_by p cmd next) calm in
      record {
        answer = sym answer;
        session = sym (ap (λ (q : Progress). q.session) came);
        weight = weight ∙ sym (ap (λ (q : Progress). q.weight) came);
        held = held ∙ sym (ap (λ (q : Progress). q.held) came);
        refused = ap (λ (q : Progress). q.refused) came ∙ omega (arith, cond-false {A = ℕ} (is_refusal reply) 1 0 calm);
      }

  -- Whether there is room for it.

  module _ (back : Room) (holds : HoldsTree shape f.tree back) (weight : back.weight ≡ p.weight) (held : back.held ≡ p.held) where
    left_same : left_in shape f back ≡ blocks_left p
    left_same = alone_left shape f back alone holds ∙ ap (λ h. (shape.n - data_start shape) - blocks shape.layout f.tree - h) held

    figures_same : figures_in shape f back cmd ≡ figures_of p cmd
    figures_same = alone_costs shape f back alone unshared cmd

    fits_none : (o : Option Refusal) → FitsIn (left_in shape f back) back.weight (most_weight shape) (figures_in shape f back cmd) → first_reason (o ∷ room_refusals p (figures_of p cmd)) ≡ o
    fits_none o fits = no_reason o _ _ _ _
        (le-ltb (blocks_left p) (figures_of p cmd).need (omega (arith, fits.blocks, left_same, ap (λ (k : Figures). k.need) figures_same)))
        (le-ltb (most_weight shape) (p.weight + (figures_of p cmd).cost) (omega (arith, fits.weight, weight, ap (λ (k : Figures). k.cost) figures_same)))

    -- by the figures of the tree alone
    fails_by : (why : Refusal) → refusal f.limit f.tree cmd ≡ None → FailsToFit (left_in shape f back) back.weight (most_weight shape) (figures_of p cmd) why → load_refusal p cmd ≡ Some why
    fails_by why none (inl full) =
        second_reason (refusal f.limit f.tree cmd) (nat_lt (blocks_left p) (figures_of p cmd).need) _ _ _ none (lt-ltb (blocks_left p) (figures_of p cmd).need (omega (arith, full.blocks, left_same)))
        ∙ ap (λ n. Some (Full (figures_of p cmd).need n)) (sym left_same) ∙ ap Some (sym full.is)
    fails_by why none (inr big) =
        third_reason (refusal f.limit f.tree cmd) (nat_lt (blocks_left p) (figures_of p cmd).need) _ _ _ none
        (le-ltb (blocks_left p) (figures_of p cmd).need (omega (arith, big.blocks, left_same)))
        (lt-ltb (most_weight shape) (p.weight + (figures_of p cmd).cost) (omega (arith, big.weight, weight)))
        ∙ ap (λ n. Some (TooBig n (figures_of p cmd).cost (most_weight shape))) (sym weight) ∙ ap Some (sym big.is)

    fails_so : (why : Refusal) → refusal f.limit f.tree cmd ≡ None → FailsToFit (left_in shape f back) back.weight (most_weight shape) (figures_in shape f back cmd) why → load_refusal p cmd ≡ Some why
    fails_so why none fails = fails_by why none (subst (λ (k : Figures). FailsToFit (left_in shape f back) back.weight (most_weight shape) k why) figures_same fails)

    -- A command that isn't a sync.

    module _ (none : is_sync cmd ≡ false) where
      done_weight : (next : Session) → (done_by p cmd next).weight ≡ p.weight + (figures_of p cmd).cost
      done_weight next = cond-false {A = ℕ} (is_sync cmd) 0 (p.weight + (figures_of p cmd).cost) none

      done_held : (next : Session) → (done_by p cmd next).held ≡ p.held + (figures_of p cmd).freed
      done_held next = cond-false {A = ℕ} (is_sync cmd) 0 (p.held + (figures_of p cmd).freed) none

      of_done : (reply : Reply) (next : Session) (room : Room) → IsDoneIn shape f back cmd reply next room → Comes p cmd reply next room
      of_done reply next room done = by (refusal f.limit f.tree cmd) refl
        where
          by : (o : Option Refusal) → refusal f.limit f.tree cmd ≡ o → Comes p cmd reply next room
          by None at = comes_done reply next room
              (fits_none (refusal f.limit f.tree cmd) done.fits ∙ at)
              (ap (answered f cmd) (sym at) ∙ done.answer)
              (omega (arith, done.spends.weight, weight, done_weight next, ap (λ (k : Figures). k.cost) figures_same))
              (omega (arith, done.spends.held, held, done_held next, ap (λ (k : Figures). k.freed) figures_same))
          by (Some why) at =
              let figures : figures_of p cmd ≡ nothing = ap (λ (o : Option Refusal). figures_by (bitmap_blocks shape) f.limit f.tree cmd o) at in
              let weighs : room.weight ≡ p.weight = omega (arith, done.spends.weight, weight, ap (λ (k : Figures). k.cost) (figures_same ∙ figures)) in
              let holds : room.held ≡ p.held = omega (arith, done.spends.held, held, ap (λ (k : Figures). k.freed) (figures_same ∙ figures)) in
              let same : (f, Refused why) ≡ (next, reply) = ap (answered f cmd) (sym at) ∙ done.answer in
              subst (λ (a : Session × Reply). Comes p cmd a.1 a.0 room) same (comes_refused why room (fits_none (refusal f.limit f.tree cmd) done.fits ∙ at) weighs holds)

      of_refused : (reply : Reply) (next : Session) (room : Room) → IsLoadTree f.tree → has_run_out reply ≡ false → RefusesIn (IsRefusedIn shape f back cmd) f back reply next room → Comes p cmd reply next room
      of_refused reply next room tree calm (why, because, is, same, still) =
          subst (λ (x : Reply). Comes p cmd x next room) (sym is) (subst (λ (x : Session). Comes p cmd (Refused why) x room) (sym same)
          (comes_refused why room (reason because) (ap (λ (r : Room). r.weight) still ∙ weight) (ap (λ (r : Room). r.held) still ∙ held)))
        where
          reason : IsRefusedIn shape f back cmd why → load_refusal p cmd ≡ Some why
          reason (inl (free, fails)) = fails_so why free fails
          reason (inr (inl (free, fits, scatters))) = absurd (never_scattered unshared f back cmd why law tree alone holds scatters)
          reason (inr (inr memory)) = absurd (false≢true (sym calm ∙ ap has_run_out (is ∙ ap Refused memory)))

      of_tree : (reply : Reply) (next : Session) (room : Room) → IsLoadTree f.tree → has_run_out reply ≡ false → (reply ≡ Refused ReadFault → ⊥)
          → (IsDoneIn shape f back cmd reply next room ⊎ RefusesIn (IsRefusedIn shape f back cmd) f back reply next room)
          ⊎ RefusesIn (λ why. (why ≡ DiskFault) ⊎ ((is_on_tree cmd ≡ true) × (why ≡ ReadFault))) f back reply next room → Comes p cmd reply next room
      of_tree reply next room tree calm read (inl (inl done)) = of_done reply next room done
      of_tree reply next room tree calm read (inl (inr refused)) = of_refused reply next room tree calm refused
      of_tree reply next room tree calm read (inr (why, because, is, same, still)) = absurd (elim because as (λ _. ⊥) [
        | inl fault ↦ false≢true (sym calm ∙ ap has_run_out (is ∙ ap Refused fault))
        | inr unread ↦ read (is ∙ ap Refused unread.1)
      ])

    -- A sync.

    module _ (sync : is_sync cmd ≡ true) (free : refusal f.limit f.tree cmd ≡ None) (costs : figures_of p cmd ≡ nothing) (low : p.weight ≤ most_weight shape) (empty : p.weight ≡ 0 → p.held ≡ 0) where
      fits_nothing : FitsIn (left_in shape f back) back.weight (most_weight shape) (figures_in shape f back cmd)
      fits_nothing = record {
        blocks = omega (arith, ap (λ (k : Figures). k.need) (figures_same ∙ costs));
        weight = omega (arith, ap (λ (k : Figures). k.cost) (figures_same ∙ costs), weight, low);
      }

      cleared : (room : Room) → ClearsRoom back room → room.held ≡ 0
      cleared room clears = elim (cases_eq back.weight 0) as (λ _. room.held ≡ 0) [
        | inl nothing_weighed ↦ clears.held ∙ cond-true {A = ℕ} (back.weight == 0) back.held 0 (eq-eqb back.weight 0 nothing_weighed) ∙ held ∙ empty (sym weight ∙ nothing_weighed)
        | inr some ↦ clears.held ∙ cond-false {A = ℕ} (back.weight == 0) back.held 0 (ne_eqb back.weight 0 some)
      ]

      of_sync : (reply : Reply) (next : Session) (room : Room) → has_run_out reply ≡ false → SyncsOver f back cmd reply next room → Comes p cmd reply next room
      of_sync reply next room calm (inl (is, clears)) = comes_done reply next room
          (fits_none (refusal f.limit f.tree cmd) fits_nothing ∙ free)
          (ap (answered f cmd) (sym free) ∙ is)
          (clears.weight ∙ sym (cond-true {A = ℕ} (is_sync cmd) 0 (p.weight + (figures_of p cmd).cost) sync))
          (cleared room clears ∙ sym (cond-true {A = ℕ} (is_sync cmd) 0 (p.held + (figures_of p cmd).freed) sync))
      of_sync reply next room calm (inr (inl (why, because, is, same, still))) = absurd (false≢true (sym calm ∙ ap has_run_out (is ∙ ap Refused because.0)))
      of_sync reply next room calm (inr (inr (is, same, keeps))) = absurd (false≢true (sym calm ∙ ap has_run_out is))

-- what is known of a command's answer beside the room in which it was given
pub record IsCalm (reply : Reply) : Type 0 where
  pub memory : has_run_out reply ≡ false
  pub read : reply ≡ Refused ReadFault → ⊥
  pub going : reply ≡ Refused Stopped → ⊥
  pub unspent : reply ≡ Refused Spent → ⊥

-- Each command of a load that was answered so.
module _ (p : Progress) (r : Room) (reply : Reply) (next : Session) (room : Room) (alone : p.session.tree.snapshots ≡ empty) (unshared : CostsAsAlone) (weight : r.weight ≡ p.weight) (held : r.held ≡ p.held) (low : p.weight ≤ most_weight shape) (empty : p.weight ≡ 0 → p.held ≡ 0) (tree : IsLoadTree p.session.tree) (calm : IsCalm reply) where
  never_at_once : RefusesIn (λ why. (why ≡ Stopped) ⊎ (why ≡ Spent)) p.session r reply next room → ⊥
  never_at_once (why, inl stopped, is, same, still) = calm.going (is ∙ ap Refused stopped)
  never_at_once (why, inr spent, is, same, still) = calm.unspent (is ∙ ap Refused spent)

  module _ (cmd : Cmd) (law : IsLoadCommand cmd) where
    tree_began : is_sync cmd ≡ false → (b : BeginsOver shape p.session r cmd reply next room)
        → (IsDoneIn shape p.session b.back cmd reply next room ⊎ RefusesIn (IsRefusedIn shape p.session b.back cmd) p.session b.back reply next room)
        ⊎ RefusesIn (λ why. (why ≡ DiskFault) ⊎ ((is_on_tree cmd ≡ true) × (why ≡ ReadFault))) p.session b.back reply next room → Comes p cmd reply next room
    tree_began none b answers = of_tree p cmd law alone unshared b.back b.comes_back.is_room.holds (b.comes_back.weight ∙ weight) (b.comes_back.held ∙ held) none reply next room tree calm.memory calm.read answers

    sync_began : is_sync cmd ≡ true → refusal p.session.limit p.session.tree cmd ≡ None → figures_of p cmd ≡ nothing → (b : BeginsOver shape p.session r cmd reply next room) → SyncsOver p.session b.back cmd reply next room → Comes p cmd reply next room
    sync_began sync free costs b answers = of_sync p cmd law alone unshared b.back b.comes_back.is_room.holds (b.comes_back.weight ∙ weight) (b.comes_back.held ∙ held) sync free costs low empty reply next room calm.memory answers

  pub comes : (cmd : Cmd) → IsLoadCommand cmd → AnswersOn shape p.session r cmd reply next room → Comes p cmd reply next room
  comes (Read path offset count) law answers = absurd law
  comes (Stat path) law answers = absurd law
  comes (ListNames path) law answers = absurd law
  comes Osync law (inr b) = sync_began Osync law refl refl refl b b.answers
  comes Dsync law (inr b) = sync_began Dsync law refl refl refl b b.answers
  comes Durable law answers = absurd law
  comes (Dwait n) law answers = absurd law
  comes Poll law answers = absurd law
  comes Bad law answers = absurd law
  comes other law (inr b) = tree_began other law refl b b.answers
  comes other law (inl at_once) = absurd (never_at_once at_once)
