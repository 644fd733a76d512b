-- One command of a log: what is known of its sync points, and what a crash in its midst leaves.
use Rattle.std.proofs.Common.{◌≡◌, ◌≢◌, ◌⊎◌, inl, inr, ⊎_elim, ℕ, ◌+◌, ◌<◌, ◌≤◌, nat_lt, Bool, false, IsTrue, if◌then◌else◌, length, refl, sym, ◌∙◌, ap, subst, arith}
use Rattle.std.proofs.Math.Logic.{∥∥₁_map}
use Rattle.std.proofs.lemmas.Bool.{cases_lt, cases_eq, cases_Bool, eq-eqb, ne_eqb, lt-ltb, le-ltb, false≢true, true≢false}
use Rattle.base_types.specs.Seal.{Blocks}
use Rattle.layout_geometry.specs.Geometry.{Geometry}
use Rattle.crash_stands.specs.Stands.{IsTreeOf}
use Rattle.lang_tree.specs.declared.command.Cmd.{Cmd}
use Rattle.lang_tree.specs.declared.command.Cmd.TheVariants.{Bad}
use Rattle.lang_tree.specs.declared.command.Reply.{Reply}
use Rattle.lang_tree.specs.Step.{Session}
use Rattle.lang_tree.specs.Tree.{Tree, IsSound, Bounds}
use Rattle.engine_blocks.specs.Crashes.{Advances, MakesPoint}
use Rattle.engine_blocks.specs.Effects.{Ticked}
use Rattle.engine_blocks.specs.State.{State}
use Rattle.fs_session.specs.Applying.{Applies, AnswersSession, PassesTime, is_spent}
use Rattle.fs_session.specs.Points.{KnowsPoints, LeavesTree, TellsPoints, trees_after, with_tree}
use Rattle.fs_session.specs.Sessions.{IsSession}
use Rattle.lang_log.specs.Log.{IsLogOf}
use Rattle.lang_log.specs.History.{History, IsLeft}
use Rattle.fs_log.specs.Keeping.{Keeps, Goes, LeavesLog}
use Rattle.fs_log.specs.Asked.{Asked, MayBecome, Steps}

-- What crash_stands and fs_session promise.
pub record AskingLaws {S : Type 0} (tells : Bool) (state : S → State) : Type 1 where
  pub points : (old new : S) (f : Session) (cmd : Cmd) (reply : Reply) (begun : ℕ) → IsSession (state old) f → Applies tells state cmd reply old new → TellsPoints f cmd reply begun (state old) (state new)
  pub one : (g : Geometry) (m : Blocks) (t u : Tree) → IsTreeOf g m t → IsTreeOf g m u → t ≡ u
  pub sound : (g : Geometry) (m : Blocks) (t : Tree) → IsTreeOf g m t → IsSound g.i t
  pub earlier : (old new : S) (trees : ℕ → Tree) (moment : ℕ) (img : Blocks) → Advances (state old) (state new) → KnowsPoints (state new) trees → moment ≤ length (state old).crash.log → (state new).crash.left_since moment img
      → (state old).crash.left_since moment img ⊎ ∥ LeavesTree (state new) trees (state old).books.floor (state new).books.point img ∥₁
  pub call : (old new : S) (trees : ℕ → Tree) (img : Blocks) → Advances (state old) (state new) → KnowsPoints (state new) trees → (state new).crash.left_since (length (state old).crash.log) img
      → ∥ LeavesTree (state new) trees (state old).books.floor (state new).books.point img ∥₁
  pub ticks : (cmd : Cmd) (reply : Reply) (old new : S) → cmd ≢ Bad → (state old).books.stopped ≡ false → is_spent (state old).books ≡ false → Applies tells state cmd reply old new → Ticked tells (state old) (state new)

-- what is known of points stays known over one command
abbrev pub KeepsKnown : {S : Type 0} → (S → State) → S → S → Type 0
KeepsKnown state old new = (trees : ℕ → Tree) (u : Tree) → Advances (state old) (state new) → MakesPoint (state old) (state new) → (state new).books.geom ≡ (state old).books.geom → (state new).books.point ≤ (state old).books.point + 1 → IsTreeOf (state new).books.geom (state new).map u
    → KnowsPoints (state old) trees → KnowsPoints (state new) (trees_after (state old) (state new) trees u)

-- a line that is none is told apart
none_or_one : (cmd : Cmd) → (cmd ≡ Bad) ⊎ (cmd ≢ Bad)
none_or_one cmd = grind (arith, false≢true)

no_weight : (w : ℕ) → w ≡ 0 → nat_lt 0 w ≡ false
no_weight w e = le-ltb 0 w (omega (arith, e))

pub weightless : (w : ℕ) → nat_lt 0 w ≡ false → w ≡ 0
weightless w e = ⊎_elim (λ some. absurd (true≢false (sym (lt-ltb 0 w some) ∙ e))) (λ none. omega (arith, none)) (cases_lt 0 w)

module _ {S : Type 0} (tells : Bool) (state : S → State) (told : IsTrue tells) (laws : AskingLaws tells state) (old new : S) (cmd : Cmd) (reply : Reply) (f : Session) (session : IsSession (state old) f)
    (applies : Applies tells state cmd reply old new) (answers : (f : Session) → IsSession (state old) f → AnswersSession tells state f cmd reply new) (time : PassesTime (state old) (state new))
    (after : KeepsKnown state old new) where
  a : AnswersSession tells state f cmd reply new
  a = answers f session

  tellings : TellsPoints f cmd reply 0 (state old) (state new)
  tellings = laws.points old new f cmd reply 0 session applies

  -- the blocks are as they were, or the command began with its tick
  still_or_ticked : (new ≡ old) ⊎ Ticked tells (state old) (state new)
  still_or_ticked = ⊎_elim (λ bad. inl (applies.bad bad).1)
      (λ one. ⊎_elim (λ on. inl (applies.stopped one on).1)
      (λ off. ⊎_elim (λ used. inl (applies.spent one off used).1) (λ left. inr (laws.ticks cmd reply old new one off left applies)) (cases_Bool (is_spent (state old).books)))
      (cases_Bool (state old).books.stopped))
      (none_or_one cmd)

  manner : (state new).counts.ticks.manner ≡ (state old).counts.ticks.manner
  manner = ⊎_elim (λ same. ap (λ (s : S). (state s).counts.ticks.manner) same) (λ ticked. ticked.manner) still_or_ticked

  module _ (h k : History) (keeps : Keeps h (state old)) (becomes : MayBecome h k) (steps : Steps h k f a.next cmd reply) where
    abbrev trees : ℕ → Tree
    trees = trees_after (state old) (state new) keeps.trees a.next.tree

    known : KnowsPoints (state new) trees
    known = after keeps.trees a.next.tree time.advances time.made time.geom time.one a.session.tree keeps.known

    log_now : IsLeft k a.next.tree
    log_now = record { log = k.now; is = steps.log; may = inl refl }

    was : (p : ℕ) → (state old).books.floor ≤ p → p ≤ (state old).books.point → IsLeft k (keeps.trees p)
    was p from upto = let r = keeps.left p from upto in record { log = r.log; is = r.is; may = becomes r.log r.may }

    -- each point to which a crash in the midst of the command may go back has a run
    has : (p : ℕ) → (state old).books.floor ≤ p → p ≤ (state new).books.point → IsLeft k (trees p)
    has p from le = ⊎_elim more same (cases_lt (state old).books.point (state new).books.point)
      where
        same : (state new).books.point ≤ (state old).books.point → IsLeft k (trees p)
        same low = subst (λ (c : Bool). IsLeft k ((if c then with_tree keeps.trees (state new).books.point a.next.tree else keeps.trees) p)) (sym (le-ltb (state old).books.point (state new).books.point low)) (was p from (omega (arith, le, low)))

        with_new : (state old).books.point < (state new).books.point → IsLeft k (with_tree keeps.trees (state new).books.point a.next.tree p)
        with_new up = ⊎_elim
            (λ here. subst (λ (c : Bool). IsLeft k (if c then a.next.tree else keeps.trees p)) (sym (eq-eqb p (state new).books.point here)) log_now)
            (λ other. subst (λ (c : Bool). IsLeft k (if c then a.next.tree else keeps.trees p)) (sym (ne_eqb p (state new).books.point other)) (was p from (before other)))
            (cases_eq p (state new).books.point)
          where
            before : p ≢ (state new).books.point → p ≤ (state old).books.point
            before other = ⊎_elim (λ past. absurd (other (omega (arith, past, le, time.one)))) (λ low. low) (cases_lt (state old).books.point p)

        more : (state old).books.point < (state new).books.point → IsLeft k (trees p)
        more up = subst (λ (c : Bool). IsLeft k ((if c then with_tree keeps.trees (state new).books.point a.next.tree else keeps.trees) p)) (sym (lt-ltb (state old).books.point (state new).books.point up)) (with_new up)

    awake : (state new).books.stopped ≡ false → (state old).books.stopped ≡ false
    awake going = ⊎_elim (λ on. absurd (true≢false (sym (tellings.stays on) ∙ going))) (λ off. off) (cases_Bool (state old).books.stopped)

    -- where nothing is changed since the last point, that has the log as it is now
    last : (state new).books.stopped ≡ false → (state new).books.running.weight ≡ 0 → IsLogOf (trees (state new).books.point) k.now
    last going empty = ⊎_elim came stayed (cases_lt (state old).books.point (state new).books.point)
      where
        came : (state old).books.point < (state new).books.point → IsLogOf (trees (state new).books.point) k.now
        came up = subst (λ (c : Bool). IsLogOf ((if c then with_tree keeps.trees (state new).books.point a.next.tree else keeps.trees) (state new).books.point) k.now) (sym (lt-ltb (state old).books.point (state new).books.point up))
            (subst (λ (c : Bool). IsLogOf (if c then a.next.tree else keeps.trees (state new).books.point) k.now) (sym (eq-eqb (state new).books.point (state new).books.point refl)) steps.log)

        calm : (state new).books.point ≤ (state old).books.point → (f.changed ≡ false) × (k.now ≡ h.now)
        calm low = steps.calm (a.session.changed going ∙ no_weight (state new).books.running.weight empty) (omega (arith, tellings.going going, low))

        before : (state new).books.point ≤ (state old).books.point → IsLogOf (keeps.trees (state old).books.point) k.now
        before low = subst (IsLogOf (keeps.trees (state old).books.point)) (sym (calm low).1)
            (keeps.last (awake going) (weightless (state old).books.running.weight (sym (session.changed (awake going)) ∙ (calm low).0)))

        stayed : (state new).books.point ≤ (state old).books.point → IsLogOf (trees (state new).books.point) k.now
        stayed low = subst (λ (c : Bool). IsLogOf ((if c then with_tree keeps.trees (state new).books.point a.next.tree else keeps.trees) (state new).books.point) k.now) (sym (le-ltb (state old).books.point (state new).books.point low))
            (subst (λ (p : ℕ). IsLogOf (keeps.trees p) k.now) (omega (arith, low, time.advances.last)) (before low))

    leaves : (img : Blocks) → LeavesTree (state new) trees (state old).books.floor (state new).books.point img → LeavesLog h k (state new) img
    leaves img left = record {
      map = left.map;
      holds = left.holds;
      tree = trees left.point;
      stands = left.tree;
      left = inr (has left.point left.from left.upto);
    }

    goes : Goes h k (state old) (state new)
    goes = record {
      keeps = record {
        trees = trees;
        known = known;
        left = λ p from upto. has p (omega (arith, from, time.advances.floor)) upto;
        last = last;
        now = λ t is. subst (λ u. IsLogOf u k.now) (laws.one (state new).books.geom (state new).map a.next.tree t a.session.tree is) steps.log;
      };
      crashes = λ img left. ∥∥₁_map (laws.call old new trees img time.advances known left) (leaves img);
      earlier = λ moment img before left. ⊎_elim (λ same. inl same) (λ now. inr (∥∥₁_map now (leaves img))) (laws.earlier old new trees moment img time.advances known before left);
      advances = time.advances;
      geom = time.geom;
      manner = manner;
    }

  pub asked : Asked tells state cmd reply f old new
  asked = record {
    next = a.next;
    answers = a.answers;
    session = a.session;
    only = λ t is. laws.one (state new).books.geom (state new).map t a.next.tree is a.session.tree;
    sound = subst (λ (limit : Bounds). IsSound limit.nodes a.next.tree) (sym a.session.limit) (laws.sound (state new).books.geom (state new).map a.next.tree a.session.tree);
    points = tellings;
    time = time.advances;
    goes = goes;
  }
