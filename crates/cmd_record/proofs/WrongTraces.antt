-- Traces of wrong programs, each refused by a field of the clause.
use Rattle.std.proofs.Common.{◌≡◌, ◌≢◌, ◌⊎◌, inl, inr, ⊎_elim, ℕ, zero, suc, ◌+◌, ◌<◌, ◌≤◌, ◌&&◌, not, if◌then◌else◌, Bool, true, false, List, [], ◌∷◌, ◌++◌, length, take, drop, Option, Some, None, refl, sym, ap, ◌∙◌, subst, arith}
use Rattle.std.proofs.Props.{props}
use Rattle.std.proofs.Math.Logic.{∥∥₁_elim, ∥∥₁_map}
use Rattle.std.proofs.Math.Seq.{take-take}
use Rattle.std.proofs.lemmas.Bool.{cases_Bool, false≢true, true≢false}
use Rattle.std.proofs.lemmas.List.{take-append-drop}
use Rattle.std.proofs.lemmas.Option.{slice_get_within}
use Rattle.std.specs.List.{slice_get}
use Rattle.base_types.specs.Seal.{Blocks}
use Rattle.disk_contract.specs.declared.event.Event.{Event}
use Rattle.disk_contract.specs.declared.event.Event.TheVariants.{Wrote, Lost, Noticed}
use Rattle.disk_contract.specs.Cell.{cell_of, has_lost, is_accepted, is_noticed, IsNoticed}
use Rattle.disk_contract.specs.Disk.{writes_in}
use Rattle.disk_contract.specs.Manner.{Manner, Polled, after_polls}
use Rattle.layout_geometry.specs.Geometry.{Geometry, bitmap_blocks}
use Rattle.layout_journal.specs.Formatted.{formatted}
use Rattle.layout_journal.specs.declared.header.Header.{Header}
use Rattle.layout_journal.specs.declared.record.Commit.{Commit}
use Rattle.layout_journal.specs.Run.{places_from, writes_stood_for}
use Rattle.crash_argument.specs.Points.{MountedSession}
use Rattle.engine_checkpoint.specs.Serving.{IsNewestAtRest}
use Rattle.lang_tree.specs.declared.command.Cmd.{Cmd}
use Rattle.lang_tree.specs.declared.command.Cmd.TheVariants.{Dsync, Durable, Dwait, Osync, Stat}
use Rattle.lang_tree.specs.declared.command.Refusal.{Refusal}
use Rattle.lang_tree.specs.declared.command.Refusal.TheVariants.{DiskFault}
use Rattle.lang_tree.specs.declared.command.Reply.{Reply}
use Rattle.lang_tree.specs.declared.command.Reply.TheVariants.{Known, Refused, Synced}
use Rattle.lang_tree.specs.Conditions.{refusal}
use Rattle.lang_tree.specs.Sharing.{BlocksAlone, SharedNodes, figures_over_by}
use Rattle.lang_tree.specs.Points.{is_refusal, is_sync}
use Rattle.lang_tree.specs.Tree.{Bounds, Tree}
use Rattle.cmd_session.specs.Budget.{commits, sync_budget}
use Rattle.fs_session.specs.Room.{alone_by, shared_by}
use Rattle.cmd_session.specs.Pacing.{FailsSince, OrdersAtOnce, Pace, StepsBy, TellsRing}
use Rattle.cmd_session.specs.Records.{own_records}
use Rattle.cmd_session.specs.Taking.{CameIn, Span, makes_point, places_wanted}
use Rattle.cmd_host.specs.Behaving.{session_by}
use Rattle.cmd_session.specs.Shared.{accepted_on, get_split_at}
use Rattle.cmd_record.specs.Behaving.{pace_at_first}
use Rattle.cmd_record.specs.WrongTraces.{Goes, IsHeard, IsUnwritten, LosesOwn, WaitsForNothing}
use Rattle.cmd_record.proofs.Weights.{none_written}

-- A log that goes on.

-- Lost writes.

pub lost_is_refused : (s : MountedSession) (base : Blocks) (m : Manner) → m.waits_alone ≡ true → (log : List Event) (cmd : Cmd) (reply : Reply) (old new : Pace) → StepsBy s base m log cmd reply old new → LosesOwn log old new → (n : ℕ) → reply ≢ Synced n
lost_is_refused s base m alone log cmd reply old new step lost n is = false≢true (ap is_refusal (sym is ∙ step.loses alone lost))

lost_behind_front : (n : ℕ) (xs : List Event) (block : ℕ) (bytes : List ℕ) → n ≤ length xs → has_lost (drop n (xs ++ Lost block bytes ∷ [])) ≡ true
lost_behind_front zero [] block bytes le = refl
lost_behind_front zero (Wrote t b x ∷ xs) block bytes le = lost_behind_front zero xs block bytes (omega arith)
lost_behind_front zero (Lost b x ∷ xs) block bytes le = refl
lost_behind_front zero (Noticed t ∷ xs) block bytes le = lost_behind_front zero xs block bytes (omega arith)
lost_behind_front (suc n) [] block bytes le = absurd (omega (arith, le))
lost_behind_front (suc n) (x ∷ xs) block bytes le = lost_behind_front n xs block bytes (omega (arith, le))

pub at_last : (s : MountedSession) (base : Blocks) (m : Manner) → m.waits_alone ≡ true → (log : List Event) (cmd : Cmd) (old new : Pace) → StepsBy s base m log cmd (Refused DiskFault) old new → m.refuses (take new.events log) ≡ false → m.stalls ≡ false → LosesOwn log old new
at_last s base m alone log cmd old new step room still = ∥∥₁_elim (step.fails (inl alone) refl) (search props) by
  where
    by : FailsSince m old.events (take new.events log) → LosesOwn log old new
    by (inl lost) = ap (λ (es : List Event). has_lost (drop old.events es)) lost.last.is ∙ lost_behind_front old.events lost.last.before lost.last.block lost.last.bytes lost.since
    by (inr (inl refuses)) = absurd (false≢true (sym room ∙ refuses))
    by (inr (inr stalls)) = absurd (false≢true (sym still ∙ stalls))

-- Writes for which nothing stands.

pub writes_none : (g : Geometry) (m : Manner) (log : List Event) (mounted : ℕ) (cmd : Cmd) (reply : Reply) (new : Pace) → StepsBy (session_by g mounted) (formatted g) m log cmd reply (pace_at_first g mounted) new → is_sync cmd ≡ false → writes_in (take new.events log) ≤ writes_in (take mounted log)
writes_none g m log mounted cmd reply new step other = omega (
  arith,
  step.spends,
  ap (λ t. t.budget) step.does.taken,
  none (is_sync cmd) (is_refusal reply) other (writes_stood_for own) (if commits cmd reply then sync_budget 0 else 0),
  ap (λ (b : Bool). if b then sync_budget 0 else 0) (no_commit other),
)
  where
    own : List Commit
    own = own_records (session_by g mounted) log step.room.behind new.events

    none : (a b : Bool) → a ≡ false → (n k : ℕ) → (if a && not b then n else k) ≡ k
    none false b is n k = refl
    none true b is n k = absurd (true≢false is)

    no_commit : is_sync cmd ≡ false → commits cmd reply ≡ false
    no_commit is = search

-- Waits.

module _ (s : MountedSession) (base : Blocks) (m : Manner) (log : List Event) (reply : Reply) (old new : Pace) where
  pub waits_in_none : (step : StepsBy s base m log Osync reply old new) → Goes m reply old → IsUnwritten s (take step.room.behind log) → places_wanted reply old.room.room.weight (own_records s log step.room.behind new.events) ≤ s.geom.j → WaitsForNothing m log old new
  waits_in_none step goes none fits = by (step.does.ring meant goes.going goes.unspent goes.alone)
    where
      meant : Osync ≢ Rattle.lang_tree.specs.declared.command.Cmd.TheVariants.Bad
      meant is = cc

      wanted : ℕ
      wanted = places_wanted reply old.room.room.weight (own_records s log step.room.behind new.events)

      by : TellsRing s base (take step.room.behind log) old.taken.records ⊎ ((new.events ≡ step.room.behind) × (reply ≡ Refused DiskFault)) → WaitsForNothing m log old new
      by (inl ring) = step.does.calm meant goes.going goes.unspent goes.alone (inr (∥∥₁_map ring.header (λ (h : (header : Header) × IsNewestAtRest s.geom.n (cell_of base (take step.room.behind log)) header). (
        h.0,
        record { newest = h.1; fits = omega (arith, ap (λ (cs : List Commit). places_from h.0.start cs) (none_written s.geom s.epoch (drop s.mounted (take step.room.behind log)) none), fits) },
      ))))
      by (inr all) = λ p polled. ((step.ticks meant goes.going goes.unspent p polled).0, subst (λ (n : ℕ). Rattle.disk_contract.specs.Disk.GrowsByWrites p.log (take n log)) (sym all.0) (step.room.ticks meant goes.going goes.unspent p polled).1)

  pub waits_to_look : (path : List (List ℕ)) → StepsBy s base m log (Stat path) reply old new → Goes m reply old → WaitsForNothing m log old new
  waits_to_look path step goes = step.does.calm (λ is. cc) goes.going goes.unspent goes.alone (omega (arith, none (shared_by s.geom old.taken.session.tree old.room.room) (alone_by s.geom old.taken.session.tree old.room.room) old.taken.session.limit old.taken.session.tree (refusal old.taken.session.limit old.taken.session.tree (Stat path))))
    where
      none : (shared : SharedNodes) (alone : BlocksAlone) (limit : Bounds) (t : Tree) (why : Option Refusal) → (figures_over_by (bitmap_blocks s.geom) shared alone limit t (Stat path) why).need ≡ 0
      none shared alone limit t None = refl
      none shared alone limit t (Some why) = refl

  -- a write that was accepted by then was so by later moments
  accepted_later : (t behind begun upto : ℕ) → behind ≤ begun → behind ≤ upto → is_accepted t (take behind log) ≡ true → is_accepted t (take begun (take upto log)) ≡ true
  accepted_later t behind begun upto early late is =
      ap (is_accepted t) (sym (take-append-drop behind (take begun (take upto log))))
      ∙ accepted_on t (take behind (take begun (take upto log))) (drop behind (take begun (take upto log))) (ap (is_accepted t) (take-take behind begun (take upto log) early ∙ take-take behind upto log late) ∙ is)

  pub heard_behind : (p : Polled) (t : ℕ) → (step : StepsBy s base m log Dsync reply old new) → Goes m reply old → OrdersAtOnce s base (take step.room.behind log) old.room.room.weight (places_wanted reply old.room.room.weight (own_records s log step.room.behind new.events)) → after_polls m 64 old.polls (take old.events log) ≡ Some p
      → ((k : ℕ) (span : Span) → slice_get old.taken.spans k ≡ Some span → CameIn (take new.events log) span t → ⊥) → is_noticed t p.log ≡ false → IsNoticed t (take new.events log) → is_accepted t (take step.room.behind log) ≡ false
  heard_behind p t step goes finds polled others not_yet noticed = by (step.does.waits refl goes.going goes.unspent goes.alone finds p polled t noticed)
    where
      late : Span
      late = record { begun = step.does.begun; mark = new.events }

      failed : Span
      failed = record { begun = step.room.behind; mark = new.events }

      -- a span that begins behind the tick
      no_earlier : (span : Span) → step.room.behind ≤ span.begun → CameIn (take new.events log) span t → is_accepted t (take step.room.behind log) ≡ false
      no_earlier span from came = ⊎_elim (λ early. absurd (true≢false (sym (accepted_later t step.room.behind span.begun new.events from step.room.upto early) ∙ came.not_before))) (λ none. none) (cases_Bool (is_accepted t (take step.room.behind log)))

      at_end_or : (b : Bool) (xs : List Span) (y x : Span) (k : ℕ) → slice_get (xs ++ (if b then y ∷ [] else [])) k ≡ Some x → (slice_get xs k ≡ Some x) ⊎ (y ≡ x)
      at_end_or true xs y x k is = ⊎_elim (λ earlier. inl earlier) (λ last. inr last.0) (get_split_at xs y x k is)
      at_end_or false xs y x k is = inl (ap (λ (ys : List Span). slice_get ys k) (sym (Rattle.std.proofs.Common.append-nil xs)) ∙ is)

      in_new : (k : ℕ) (span : Span) → CameIn (take new.events log) span t → (slice_get old.taken.spans k ≡ Some span) ⊎ (late ≡ span) → is_accepted t (take step.room.behind log) ≡ false
      in_new k span came (inl is) = absurd (others k span is came)
      in_new k span came (inr is) = no_earlier span (subst (λ (x : Span). step.room.behind ≤ x.begun) is step.does.from) came

      in_all : (k : ℕ) (span : Span) → CameIn (take new.events log) span t → (slice_get new.taken.spans k ≡ Some span) ⊎ (failed ≡ span) → is_accepted t (take step.room.behind log) ≡ false
      in_all k span came (inr is) = no_earlier span (subst (λ (x : Span). step.room.behind ≤ x.begun) is (omega arith)) came
      in_all k span came (inl is) = in_new k span came (at_end_or (makes_point old.taken.session Dsync reply) old.taken.spans late span k (ap (λ (xs : List Span). slice_get xs k) (sym (ap (λ t. t.spans) step.does.taken)) ∙ is))

      by : IsNoticed t p.log ⊎ ∥ ((k : ℕ) × (span : Span) × (slice_get (new.taken.spans ++ (if is_refusal reply then failed ∷ [] else [])) k ≡ Some span) × CameIn (take new.events log) span t) ∥₁ → is_accepted t (take step.room.behind log) ≡ false
      by (inl before) = absurd (true≢false (sym before ∙ not_yet))
      by (inr some) = ∥∥₁_elim some (search props) (λ (x : (k : ℕ) × (span : Span) × (slice_get (new.taken.spans ++ (if is_refusal reply then failed ∷ [] else [])) k ≡ Some span) × CameIn (take new.events log) span t).
          in_all x.0 x.1 x.3 (at_end_or (is_refusal reply) new.taken.spans failed x.1 x.0 x.2))

-- A wait for a point.

-- what stands among the first n stands at its place below n
get_from_take : {A : Type 0} (n : ℕ) (xs : List A) (i : ℕ) (x : A) → slice_get (take n xs) i ≡ Some x → (i < n) × (slice_get xs i ≡ Some x)
get_from_take zero xs i x is = absurd (omega (arith, slice_get_within [] i x is))
get_from_take (suc n) [] i x is = absurd (omega (arith, slice_get_within [] i x is))
get_from_take (suc n) (y ∷ xs) zero x is = (omega arith, is)
get_from_take (suc n) (y ∷ xs) (suc i) x is = let rest = get_from_take n xs i x is in (omega (arith, rest.0), rest.1)

module _ (s : MountedSession) (base : Blocks) (m : Manner) (log : List Event) (n : ℕ) (reply : Reply) (old new : Pace) (step : StepsBy s base m log (Dwait n) reply old new) (goes : Goes m reply old) where
  pub waits_beyond : (p : Polled) (t : ℕ) → after_polls m 64 old.polls (take old.events log) ≡ Some p → ((k : ℕ) (span : Span) → k < n → slice_get old.taken.spans k ≡ Some span → CameIn (take new.events log) span t → ⊥) → is_noticed t p.log ≡ false → IsNoticed t (take new.events log) → ⊥
  waits_beyond p t polled none not_yet noticed = by (step.does.waits_upto n refl goes.going goes.unspent goes.alone p polled t noticed)
    where
      by : IsNoticed t p.log ⊎ ∥ ((k : ℕ) × (span : Span) × (slice_get (take n old.taken.spans) k ≡ Some span) × CameIn (take new.events log) span t) ∥₁ → ⊥
      by (inl before) = true≢false (sym before ∙ not_yet)
      by (inr some) = ∥∥₁_elim some (λ one other. absurd one) (λ (x : (k : ℕ) × (span : Span) × (slice_get (take n old.taken.spans) k ≡ Some span) × CameIn (take new.events log) span t).
          let at = get_from_take n old.taken.spans x.0 x.1 x.2 in none x.0 x.1 at.0 at.1 x.3)

  pub waits_for_none : (n ≤ old.durable) ⊎ (old.taken.session.points < n) → WaitsForNothing m log old new
  waits_for_none idle = step.does.calm (λ is. cc) goes.going goes.unspent goes.alone idle

-- What is known.

below_length : {A : Type 0} (xs : List A) (x : A) (k : ℕ) → slice_get xs k ≡ Some x → k < length xs
below_length [] x k is = absurd (none k is)
  where
    none : (k : ℕ) → slice_get [] k ≡ Some x → ⊥
    none zero is = cc
    none (suc k) is = cc
below_length (y ∷ xs) x zero is = omega arith
below_length (y ∷ xs) x (suc k) is = omega (arith, below_length xs x k is)

pub knows_more : (s : MountedSession) (base : Blocks) (m : Manner) (log : List Event) (n : ℕ) (span : Span) (old new : Pace) → StepsBy s base m log Durable (Known n) old new → m.waits_alone ≡ true → slice_get old.taken.spans n ≡ Some span → IsHeard (take new.events log) span → ⊥
knows_more s base m log n span old new step alone is heard = ∥∥₁_elim ((step.known n refl refl alone).next (below_length old.taken.spans span n is)) (λ one other. absurd one) (λ (x : (other : Span) × (t : ℕ) × (slice_get old.taken.spans n ≡ Some other) × CameIn (take new.events log) other t × ¬ IsNoticed t (take new.events log)).
    x.4 (heard x.1 (subst (λ (y : Span). CameIn (take new.events log) y x.1) (same x.0 (sym x.2 ∙ is)) x.3)))
  where
    same : (other : Span) → Some other ≡ Some span → other ≡ span
    same other e = search
