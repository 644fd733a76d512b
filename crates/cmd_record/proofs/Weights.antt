-- What a run has taken by its log, and what it may have taken by its weights and needs.
use Rattle.std.proofs.Common.{◌≡◌, ◌≢◌, ◌⊎◌, inl, inr, ℕ, zero, suc, ◌+◌, ◌-◌, ◌≤◌, ◌==◌, ◌&&◌, not, nat_le, if◌then◌else◌, Bool, true, false, List, [], ◌∷◌, ◌++◌, length, take, drop, refl, sym, ap, ◌∙◌, arith}
use Rattle.std.proofs.Math.Logic.{∥∥₁_map}
use Rattle.std.proofs.Math.Seq.{take-take}
use Rattle.std.proofs.lemmas.Bool.Decides.{nat_tests}
use Rattle.std.proofs.lemmas.Bool.{cases_Bool, cond-true, cond-false, eq-eqb, false≢true, or_left, or_parts, or_right}
use Rattle.std.proofs.lemmas.List.{take-append-drop}
use Rattle.std.proofs.lemmas.List.FromFn.{length-range_with_len}
use Rattle.std.specs.List.{filter}
use Rattle.base_types.specs.Seal.{Blocks}
use Rattle.disk_contract.specs.declared.event.Event.{Event}
use Rattle.disk_contract.specs.declared.event.Event.TheVariants.{Wrote, Lost, Noticed}
use Rattle.disk_contract.specs.Cell.{cell_of}
use Rattle.disk_contract.specs.Disk.{writes_in}
use Rattle.disk_contract.specs.Manner.{Manner}
use Rattle.disk_contract.specs.Logs.{writes_in-append as writes_both}
use Rattle.layout_geometry.specs.Geometry.{Geometry, bitmap_blocks, data_start}
use Rattle.layout_journal.specs.Formatted.{formatted}
use Rattle.layout_journal.specs.declared.header.Header.{Header}
use Rattle.layout_journal.specs.declared.record.Commit.{Commit}
use Rattle.layout_journal.specs.Run.{places_from, places_told}
use Rattle.crash_stands.specs.Bounds.{bounds_of}
use Rattle.crash_argument.specs.Points.{MountedSession, commits_told}
use Rattle.engine_checkpoint.specs.Serving.{IsNewestAtRest}
use Rattle.lang_tree.specs.declared.command.Cmd.{Cmd}
use Rattle.lang_tree.specs.declared.command.Cmd.TheVariants.{Bad}
use Rattle.lang_tree.specs.declared.command.Refusal.TheVariants.{DiskFault, Spent}
use Rattle.lang_tree.specs.declared.command.Reply.{Reply}
use Rattle.lang_tree.specs.declared.command.Reply.TheVariants.{Refused}
use Rattle.lang_tree.specs.Points.{is_refusal, is_sync}
use Rattle.lang_tree.specs.Step.{Session, start}
use Rattle.engine_blocks.specs.Running.{has}
use Rattle.engine_blocks.specs.State.{data_blocks}
use Rattle.fs_session.specs.DiskRoom.{AnswersOn}
use Rattle.fs_session.specs.Moments.{answer_in_room}
use Rattle.fs_session.specs.Room.{Room, figures_in}
use Rattle.cmd_session.specs.Budget.{most_need, sync_places, weight_by}
use Rattle.cmd_session.specs.Pacing.{OrdersAtOnce, Pace, PacesBy, StepsBy, TellsRing, is_fault}
use Rattle.cmd_session.specs.Records.{own_records}
use Rattle.cmd_session.specs.Taking.{Taken, is_done_sync, places_wanted}
use Rattle.cmd_host.specs.Behaving.{session_by}
use Rattle.cmd_record.specs.Behaving.{pace_at_first}
use Rattle.cmd_record.specs.Weights.{blocks_needed, places_by_weight}

-- Places of records.

from_none : (n : ℕ) → nat_le 0 n ≡ true
from_none n = grind (arith, nat_tests)

places_more : (n : ℕ) (cs ds : List Commit) → places_from n (cs ++ ds) ≡ places_from n cs + places_from n ds
places_more n [] ds = omega arith
places_more n (c ∷ cs) ds = omega (arith, places_more n cs ds)

-- from a later number on there are no more
places_fewer : (n : ℕ) (cs : List Commit) → places_from n cs ≤ places_from 0 cs
places_fewer n [] = omega arith
places_fewer n (c ∷ cs) = omega (arith, ap (λ (b : Bool). if b then places_told c else 0) (from_none c.number), at_most (nat_le n c.number), places_fewer n cs)
  where
    at_most : (b : Bool) → (if b then places_told c else 0) ≤ places_told c
    at_most true = omega arith
    at_most false = omega arith

-- Where no write came, no record is told.

pub none_written : (g : Geometry) (epoch : ℕ) (es : List Event) → writes_in es ≡ 0 → commits_told g epoch es ≡ []
none_written g epoch [] none = refl
none_written g epoch (Wrote t b x ∷ es) none = absurd (omega (arith, none))
none_written g epoch (Lost b x ∷ es) none = absurd (omega (arith, none))
none_written g epoch (Noticed t ∷ es) none = none_written g epoch es none

-- a test that all pass keeps all
keeps_all : (p : ℕ → Bool) (ys : List ℕ) → ((b : ℕ) → has ys b ≡ true → p b ≡ true) → filter p ys ≡ ys
keeps_all p [] each = refl
keeps_all p (y ∷ ys) each =
    ap (λ (b : Bool). if b then y ∷ filter p ys else filter p ys) (each y (or_left (y == y) (has ys y) (eq-eqb y y refl)))
    ∙ ap (λ (zs : List ℕ). y ∷ zs) (keeps_all p ys (λ b is. each b (or_right (b == y) (has ys b) is)))

-- a sync is no bad line
sync_is_meant : (cmd : Cmd) → is_sync cmd ≡ true → cmd ≢ Bad
sync_is_meant cmd of bad = false≢true (sym (ap is_sync bad) ∙ of)

done_parts : (cmd : Cmd) (reply : Reply) → is_done_sync cmd reply ≡ true → (is_sync cmd ≡ true) × (is_refusal reply ≡ false)
done_parts cmd reply = by (is_sync cmd) (is_refusal reply)
  where
    by : (a b : Bool) → (a && not b) ≡ true → (a ≡ true) × (b ≡ false)
    by true true is = cc
    by true false is = (refl, refl)
    by false b is = cc

parts_done : (a b : Bool) → a ≡ true → b ≡ false → (a && not b) ≡ true
parts_done true false is other = refl
parts_done true true is other = cc
parts_done false b is other = cc

module _ (ses : MountedSession) (base : Blocks) (m : Manner) (log : List Event) (cmd : Cmd) (reply : Reply) (old new : Pace) (step : StepsBy ses base m log cmd reply old new) (going : old.over ≡ false) where
  abbrev own : List Commit
  own = own_records ses log step.room.behind new.events

  -- a sync that is done has the places of its weight at most
  own_places : is_done_sync cmd reply ≡ true → places_from 0 own ≤ sync_places old.room.room.weight
  own_places done = by old.room.room.weight refl
    where
      by : (w : ℕ) → old.room.room.weight ≡ w → places_from 0 own ≤ sync_places old.room.room.weight
      by zero none =
          let parts = take-append-drop step.room.behind (take new.events log) in
          let front = take-take step.room.behind new.events log step.room.upto in
          let nothing : writes_in (drop step.room.behind (take new.events log)) ≡ 0 = omega (
            arith,
            step.does.idle done going none,
            ap writes_in parts,
            writes_both (take step.room.behind (take new.events log)) (drop step.room.behind (take new.events log)),
            ap writes_in front,
          ) in
          omega (arith, ap (places_from 0) (none_written ses.geom ses.epoch (drop step.room.behind (take new.events log)) nothing))
      by (suc w) some =
          let x = step.does.written done going (omega (arith, some)) in
          omega (arith, x.size, ap (places_from 0) x.own, ap (λ (b : Bool). if b then places_told x.commit else 0) (from_none x.commit.number))

  records_places : places_from 0 new.taken.records ≤ places_from 0 old.taken.records + (if is_sync cmd then sync_places old.room.room.weight else 0)
  records_places = by (cases_Bool (is_done_sync cmd reply))
    where
      is : places_from 0 new.taken.records ≡ places_from 0 old.taken.records + places_from 0 (if is_done_sync cmd reply then own else [])
      is = ap (λ (cs : List Commit). places_from 0 cs) (ap (λ t. t.records) step.does.taken) ∙ places_more 0 old.taken.records (if is_done_sync cmd reply then own else [])

      by : (is_done_sync cmd reply ≡ true) ⊎ (is_done_sync cmd reply ≡ false) → places_from 0 new.taken.records ≤ places_from 0 old.taken.records + (if is_sync cmd then sync_places old.room.room.weight else 0)
      by (inl done) = omega (
        arith,
        is,
        ap (places_from 0) (cond-true {A = List Commit} (is_done_sync cmd reply) own [] done),
        own_places done,
        cond-true {A = ℕ} (is_sync cmd) (sync_places old.room.room.weight) 0 (done_parts cmd reply done).0,
      )
      by (inr none) = omega (arith, is, ap (places_from 0) (cond-false {A = List Commit} (is_done_sync cmd reply) own [] none))

  wanted_places : is_sync cmd ≡ true → places_wanted reply old.room.room.weight own ≤ sync_places old.room.room.weight
  wanted_places sync = by (cases_Bool (is_refusal reply))
    where
      by : (is_refusal reply ≡ true) ⊎ (is_refusal reply ≡ false) → places_wanted reply old.room.room.weight own ≤ sync_places old.room.room.weight
      by (inl refused) = omega (arith, cond-true {A = ℕ} (is_refusal reply) (sync_places old.room.room.weight) (places_from 0 own) refused)
      by (inr well) = omega (arith, cond-false {A = ℕ} (is_refusal reply) (sync_places old.room.room.weight) (places_from 0 own) well, own_places (parts_done (is_sync cmd) (is_refusal reply) sync well))

  -- so it orders at once where that many fit
  orders : is_sync cmd ≡ true → reply ≢ Refused Spent → m.waits_alone ≡ true → places_from 0 old.taken.records + sync_places old.room.room.weight ≤ ses.geom.j
      → OrdersAtOnce ses base (take step.room.behind log) old.room.room.weight (places_wanted reply old.room.room.weight own) ⊎ ((new.events ≡ step.room.behind) × (reply ≡ Refused DiskFault))
  orders sync unspent alone fits = by (step.does.ring (sync_is_meant cmd sync) going unspent alone)
    where
      by : TellsRing ses base (take step.room.behind log) old.taken.records ⊎ ((new.events ≡ step.room.behind) × (reply ≡ Refused DiskFault))
          → OrdersAtOnce ses base (take step.room.behind log) old.room.room.weight (places_wanted reply old.room.room.weight own) ⊎ ((new.events ≡ step.room.behind) × (reply ≡ Refused DiskFault))
      by (inr all) = inr all
      by (inl ring) = inl (inr (∥∥₁_map ring.header (λ (h : (header : Header) × IsNewestAtRest ses.geom.n (cell_of base (take step.room.behind log)) header). (
        h.0,
        record {
          newest = h.1;
          fits = omega (
            arith,
            ap (λ (cs : List Commit). places_from h.0.start cs) ring.told,
            places_fewer h.0.start old.taken.records,
            wanted_places sync,
            fits,
          );
        },
      ))))

-- What is said of the weight that a command leaves.
pub record MostWeight : Type 0 where
  pub leaves : (g : Geometry) (f next : Session) (r room : Room) (cmd : Cmd) (reply : Reply) → is_fault reply ≡ false → AnswersOn g f r cmd reply next room → room.weight ≤ weight_by (bitmap_blocks g) f r.weight cmd reply
  pub more : (bitmap w v : ℕ) (f : Session) (cmd : Cmd) (reply : Reply) → w ≤ v → weight_by bitmap f w cmd reply ≤ weight_by bitmap f v cmd reply

if_up : (sync : Bool) (w v : ℕ) → w ≤ v → (if sync then sync_places w else 0) ≤ (if sync then sync_places v else 0)
if_up true w v le = omega (arith, le)
if_up false w v le = omega arith

unless_up : (refused : Bool) (w v : ℕ) → w ≤ v → (if refused then 0 else w) ≤ (if refused then 0 else v)
unless_up true w v le = omega arith
unless_up false w v le = le

-- Over a run.

module _ (g : Geometry) (m : Manner) (log : List Event) (mounted : ℕ) where
  abbrev ses : MountedSession
  ses = session_by g mounted

  -- where no call of the disk has failed at the end, none had before
  going_on : (cmds : List Cmd) (replies : List Reply) (marks : List ℕ) (p last : Pace) → PacesBy ses (formatted g) m log p cmds replies marks last → last.over ≡ false → p.over ≡ false
  going_on [] [] [] p last paces going = sym (ap (λ (x : Pace). x.over) paces) ∙ going
  going_on [] [] (k ∷ marks) p last paces going = absurd paces
  going_on [] (r ∷ replies) marks p last paces going = absurd paces
  going_on (c ∷ cmds) [] marks p last paces going = absurd paces
  going_on (c ∷ cmds) (r ∷ replies) [] p last paces going = absurd paces
  going_on (c ∷ cmds) (r ∷ replies) (k ∷ marks) p last paces going = (or_parts p.over (is_fault r) (sym paces.2.over ∙ going_on cmds replies marks paces.0 last paces.3 going)).0

  places_within : MostWeight → (cmds : List Cmd) (replies : List Reply) (marks : List ℕ) (p last : Pace) (w : ℕ) → PacesBy ses (formatted g) m log p cmds replies marks last → last.over ≡ false → p.room.room.weight ≤ w
      → places_from 0 last.taken.records ≤ places_from 0 p.taken.records + places_by_weight g p.taken.session w cmds replies
  places_within most [] [] [] p last w paces going low = omega (arith, ap (λ (x : Pace). places_from 0 x.taken.records) paces)
  places_within most [] [] (k ∷ marks) p last w paces going low = absurd paces
  places_within most [] (r ∷ replies) marks p last w paces going low = absurd paces
  places_within most (c ∷ cmds) [] marks p last w paces going low = absurd paces
  places_within most (c ∷ cmds) (r ∷ replies) [] p last w paces going low = absurd paces
  places_within most (c ∷ cmds) (r ∷ replies) (k ∷ marks) p last w paces going low =
      let next = paces.0 in
      let still = going_on cmds replies marks next last paces.3 going in
      let before = or_parts p.over (is_fault r) (sym paces.2.over ∙ still) in
      let answers = answer_in_room g _ _ p.taken.session p.room c r next.taken.session next.room paces.2.room.answers in
      let leaves = most.leaves g p.taken.session next.taken.session p.room.room next.room.room c r before.1 answers in
      let up = most.more (bitmap_blocks g) p.room.room.weight w p.taken.session c r low in
      omega (
        arith,
        places_within most cmds replies marks next last (weight_by (bitmap_blocks g) p.taken.session w c r) paces.3 going (omega (arith, leaves, up)),
        ap (λ (t : Taken). places_by_weight g t.session (weight_by (bitmap_blocks g) p.taken.session w c r) cmds replies) paces.2.does.taken,
        records_places ses (formatted g) m log c r p next paces.2 before.0,
        if_up (is_sync c) p.room.room.weight w low,
      )

  pub finds_places : MostWeight → (cmds : List Cmd) (replies : List Reply) (marks : List ℕ) (last next : Pace) (cmd : Cmd) (reply : Reply) → PacesBy ses (formatted g) m log (pace_at_first g mounted) cmds replies marks last → (step : StepsBy ses (formatted g) m log cmd reply last next)
      → is_sync cmd ≡ true → last.over ≡ false → reply ≢ Refused Spent → m.waits_alone ≡ true → places_by_weight g (start (bounds_of g)) 0 cmds replies + sync_places last.room.room.weight ≤ g.j
      → OrdersAtOnce ses (formatted g) (take step.room.behind log) last.room.room.weight (places_wanted reply last.room.room.weight (own_records ses log step.room.behind next.events)) ⊎ ((next.events ≡ step.room.behind) × (reply ≡ Refused DiskFault))
  finds_places most cmds replies marks last next cmd reply paces step sync going unspent alone fits =
      orders ses (formatted g) m log cmd reply last next step going sync unspent alone (omega (arith, fits, places_within most cmds replies marks (pace_at_first g mounted) last 0 paces going (omega arith)))

  -- Blocks.

  abbrev IsAscending : Room → Type 0
  IsAscending r = r.takeable ≡ filter (has r.takeable) (data_blocks g)

  -- what is said of one command
  abbrev pub TakesFew : Type 0
  TakesFew = (f next : Session) (old new : Room) (cmd : Cmd) (reply : Reply) → AnswersOn g f old cmd reply next new → IsAscending old → IsAscending new × (length old.takeable ≤ length new.takeable + (if is_refusal reply then 0 else (figures_in g f old cmd).need))

  -- and of what it needs at most
  abbrev pub NeedsAtMost : Type 0
  NeedsAtMost = (f : Session) (r : Room) (cmd : Cmd) → (figures_in g f r cmd).need ≤ most_need (bitmap_blocks g) f cmd

  blocks_within : TakesFew → NeedsAtMost → (cmds : List Cmd) (replies : List Reply) (marks : List ℕ) (p last : Pace) → PacesBy ses (formatted g) m log p cmds replies marks last → IsAscending p.room.room
      → length p.room.room.takeable ≤ length last.room.room.takeable + blocks_needed g p.taken.session cmds replies
  blocks_within few most [] [] [] p last paces up = omega (arith, ap (λ (x : Pace). length x.room.room.takeable) paces)
  blocks_within few most [] [] (k ∷ marks) p last paces up = absurd paces
  blocks_within few most [] (r ∷ replies) marks p last paces up = absurd paces
  blocks_within few most (c ∷ cmds) [] marks p last paces up = absurd paces
  blocks_within few most (c ∷ cmds) (r ∷ replies) [] p last paces up = absurd paces
  blocks_within few most (c ∷ cmds) (r ∷ replies) (k ∷ marks) p last paces up =
      let next = paces.0 in
      let one = few p.taken.session next.taken.session p.room.room next.room.room c r (answer_in_room g _ _ p.taken.session p.room c r next.taken.session next.room paces.2.room.answers) up in
      omega (
        arith,
        one.1,
        unless_up (is_refusal r) (figures_in g p.taken.session p.room.room c).need (most_need (bitmap_blocks g) p.taken.session c) (most p.taken.session p.room.room c),
        blocks_within few most cmds replies marks next last paces.3 one.0,
        ap (λ (t : Taken). blocks_needed g t.session cmds replies) paces.2.does.taken,
      )

  pub finds_enough : TakesFew → NeedsAtMost → (cmds : List Cmd) (replies : List Reply) (marks : List ℕ) (last : Pace) (need : ℕ) → PacesBy ses (formatted g) m log (pace_at_first g mounted) cmds replies marks last
      → blocks_needed g (start (bounds_of g)) cmds replies + need ≤ g.n - data_start g → need ≤ length last.room.room.takeable
  finds_enough few most cmds replies marks last need paces enough =
      omega (arith, enough, blocks_within few most cmds replies marks (pace_at_first g mounted) last paces all_data, length-range_with_len (data_start g) (g.n - data_start g))
    where
      all_data : data_blocks g ≡ filter (has (data_blocks g)) (data_blocks g)
      all_data = sym (keeps_all (has (data_blocks g)) (data_blocks g) (λ b is. is))
