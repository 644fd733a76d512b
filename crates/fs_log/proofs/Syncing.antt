-- Syncs of a log.
use Rattle.std.proofs.Common.{◌≡◌, ◌⊎◌, inl, inr, ⊎_elim, ℕ, ◌≤◌, ◌&&◌, Bool, true, false, if◌then◌else◌, [], ◌∷◌, length, refl, sym, ◌∙◌, ap, subst, arith}
use Rattle.std.proofs.Math.Logic.{∥∥₁_map}
use Rattle.std.proofs.lemmas.Bool.{cases_Bool, false≢true}
use Rattle.base_types.specs.Seal.{Blocks}
use Rattle.lang_tree.specs.declared.command.Cmd.{Cmd}
use Rattle.lang_tree.specs.declared.command.Cmd.TheVariants.{Osync, Dsync}
use Rattle.lang_tree.specs.declared.command.Reply.{Reply}
use Rattle.lang_tree.specs.declared.command.Reply.TheVariants.{DurableAt}
use Rattle.lang_tree.specs.Points.{Point, is_sync, made_by, may_have_written}
use Rattle.lang_tree.specs.Run.{Answers, is_of_disk}
use Rattle.lang_tree.specs.Step.{Session, step, osync, dsync}
use Rattle.lang_tree.specs.Tree.{Tree}
use Rattle.engine_blocks.specs.State.{State}
use Rattle.fs_session.specs.Sessions.{IsSession, Stands}
use Rattle.lang_log.specs.Log.{IsLogOf}
use Rattle.lang_log.specs.History.{History, IsLeft, synced}
use Rattle.fs_log.specs.Keeping.{Goes, Keeps, LeavesLog, Rests, TakesLog, as_before}
use Rattle.fs_log.specs.Asked.{Asked, AskedOf, MayBecome, Steps, is_durable}
use Rattle.fs_log.proofs.Going.{weightless}
use Rattle.fs_log.proofs.Holding.{same_tree, session_of}

pub same_history : (h : History) → MayBecome h h
same_history h l may = may

pub osync_tree : (f : Session) (b : Bool) → (osync f b).0.tree ≡ f.tree
osync_tree f true = refl
osync_tree f false = refl

one_if : (c : Bool) (p : Point) → c ≡ true → length (if c then p ∷ [] else []) ≡ 1
one_if true p e = refl
one_if false p e = absurd (false≢true e)

all_true : (a b c : Bool) → a ≡ true → b ≡ true → c ≡ true → (a && (b && c)) ≡ true
all_true true true true p q r = refl
all_true true true false p q r = absurd (false≢true r)
all_true true false c p q r = absurd (false≢true q)
all_true false b c p q r = absurd (false≢true p)

osync_written : (f : Session) (b : Bool) → may_have_written (osync f b).1 ≡ true
osync_written f true = refl
osync_written f false = refl

-- a sync leaves the log as it is
sync_steps : (h : History) (f next : Session) (cmd : Cmd) (reply : Reply) → is_sync cmd ≡ true → (step f cmd).0.tree ≡ f.tree → may_have_written (step f cmd).1 ≡ true → IsLogOf f.tree h.now → Answers is_of_disk f cmd reply next
    → Steps h h f next cmd reply
sync_steps h f next cmd reply sync tree wrote log (inl is) = record {
  log = subst (λ t. IsLogOf t h.now) (sym tree ∙ ap (λ x. x.0.tree) is) log;
  calm = λ unchanged none. (⊎_elim (λ changed. absurd (some changed none)) (λ off. off) (cases_Bool f.changed), refl);
}
  where
    some : f.changed ≡ true → length (made_by f cmd reply 0) ≡ 0 → ⊥
    some changed none =
        let one = one_if (is_sync cmd && (f.changed && may_have_written reply)) (record { tree = f.tree; begun = 0 })
        (all_true (is_sync cmd) f.changed (may_have_written reply) sync changed (sym (ap (λ x. may_have_written x.1) is) ∙ wrote)) in
        omega (arith, none, one)
sync_steps h f next cmd reply sync tree wrote log (inr (inl refused)) = record {
  log = subst (λ f. IsLogOf f.tree h.now) (sym refused.3) log;
  calm = λ unchanged none. (sym (ap (λ f. f.changed) refused.3) ∙ unchanged, refl);
}
sync_steps h f next cmd reply sync tree wrote log (inr (inr known)) = record {
  log = subst (λ f. IsLogOf f.tree h.now) (sym known.1.same) log;
  calm = λ unchanged none. (sym (ap (λ f. f.changed) known.1.same) ∙ unchanged, refl);
}

module _ {S : Type 0} (tells : Bool) (state : S → State) (old new : S) (reply : Reply) (stands : Stands (state old)) where
  pub ordered : AskedOf tells state Osync reply old new → Rests (state old) (state new)
  ordered asked = record {
    takes = λ h keeps.
        let f = session_of (state old) stands in
        let a = asked f.0 f.1 in
        a.goes h h keeps (same_history h)
        (sync_steps h f.0 a.next Osync reply refl (osync_tree f.0 f.0.changed) (osync_written f.0 f.0.changed) (keeps.now f.0.tree f.1.tree) a.answers);
    time = let f = session_of (state old) stands in (asked f.0 f.1).time;
    holds = same_tree tells state Osync reply old new (λ f. osync_tree f f.changed) asked;
  }

  module _ (asked : AskedOf tells state Dsync reply old new) where
    f : (f : Session) × IsSession (state old) f
    f = session_of (state old) stands

    a : Asked tells state Dsync reply f.0 old new
    a = asked f.0 f.1

    waited_for : TakesLog as_before (state old) (state new)
    waited_for h keeps = a.goes h h keeps (same_history h)
        (sync_steps h f.0 a.next Dsync reply refl (osync_tree f.0 f.0.changed) refl (keeps.now f.0.tree f.1.tree) a.answers)

    pub waited : Rests (state old) (state new)
    waited = record {
      takes = waited_for;
      time = a.time;
      holds = same_tree tells state Dsync reply old new (λ f. osync_tree f f.changed) asked;
    }

    -- where it is done, the disk hasn't failed, nothing is changed since the last point, and that is on the disk
    module _ (point : ℕ) (done : reply ≡ DurableAt point) where
      off : (state old).books.stopped ≡ false
      off = ⊎_elim (λ on. absurd (false≢true (sym (ap is_durable (a.points.ended on (λ e. false≢true (ap is_sync (sym e))))) ∙ ap is_durable done))) (λ off. off) (cases_Bool (state old).books.stopped)

      going : (state new).books.stopped ≡ false
      going = ⊎_elim (λ on. absurd (false≢true (sym (ap is_durable (a.points.calm off on)) ∙ ap is_durable done))) (λ off. off) (cases_Bool (state new).books.stopped)

      settled : (a.next.changed ≡ false) × (a.next.durable ≡ a.next.points)
      settled = by a.answers
        where
          changes : (b : Bool) → ((dsync f.0 b).0.changed ≡ false) ⊎ (b ≡ false)
          changes true = inl refl
          changes false = inr refl

          unchanged : ((dsync f.0 f.0.changed).0.changed ≡ false) ⊎ (f.0.changed ≡ false) → (dsync f.0 f.0.changed).0.changed ≡ false
          unchanged (inl e) = e
          unchanged (inr e) = ap (λ b. (dsync f.0 b).0.changed) e ∙ e

          by : Answers is_of_disk f.0 Dsync reply a.next → (a.next.changed ≡ false) × (a.next.durable ≡ a.next.points)
          by (inl is) = (sym (ap (λ x. x.0.changed) is) ∙ unchanged (changes f.0.changed), sym (ap (λ x. x.0.durable) is) ∙ ap (λ x. x.0.points) is)
          by (inr (inl refused)) = absurd (false≢true (sym (ap is_durable refused.2) ∙ ap is_durable done))
          by (inr (inr known)) = absurd (false≢true (sym (ap is_durable known.1.is) ∙ ap is_durable done))

      empty : (state new).books.running.weight ≡ 0
      empty = weightless (state new).books.running.weight (sym (a.session.changed going) ∙ settled.0)

      on_disk : (state new).books.point ≤ (state new).books.floor
      on_disk = omega (arith, a.session.durable, settled.1, a.session.points going)

      module _ (h : History) (keeps : Keeps h (state old)) where
        waits : Goes h h (state old) (state new)
        waits = waited_for h keeps

        either : (t : Tree) → IsLeft h t ⊎ IsLeft h t → IsLeft h t ⊎ IsLeft (synced h) t
        either t (inl is) = inl is
        either t (inr is) = inl is

        once : (img : Blocks) → LeavesLog h h (state new) img → LeavesLog h (synced h) (state new) img
        once img left = record { map = left.map; holds = left.holds; tree = left.tree; stands = left.stands; left = either left.tree left.left }

        at_last : Goes h (synced h) (state old) (state new)
        at_last = let k = waits.keeps in record {
          keeps = record {
            trees = k.trees;
            known = k.known;
            left = λ p from upto. subst (λ p. IsLeft (synced h) (k.trees p)) (omega (arith, from, upto, on_disk)) (record { log = h.now; is = k.last going empty; may = inl refl });
            last = k.last;
            now = k.now;
          };
          crashes = λ img left. ∥∥₁_map (waits.crashes img left) (once img);
          earlier = λ moment img before left. ⊎_elim (λ old. inl old) (λ now. inr (∥∥₁_map now (once img))) (waits.earlier moment img before left);
          advances = waits.advances;
          geom = waits.geom;
          manner = waits.manner;
        }

      pub promised : TakesLog synced (state old) (state new)
      promised h keeps = at_last h keeps
