-- One command more: the run goes on, and so does what is known of its points.
use Rattle.std.proofs.Common.{◌≡◌, ◌≢◌, ◌⊎◌, ⊎_elim, ℕ, ◌+◌, ◌<◌, ◌≤◌, Bool, true, false, IsTrue, if◌then◌else◌, List, [], ◌∷◌, ◌++◌, length, take, slice_get, Some, ◌&&◌, sym, ◌∙◌, ap, subst, arith}
use Rattle.std.proofs.Math.Logic.{∥∥₁_map}
use Rattle.std.proofs.lemmas.Bool.{cases_lt, cases_eq, cases_Bool, eq-eqb, ne_eqb, lt-ltb, le-ltb, true≢false, false≢true}
use Rattle.std.proofs.lemmas.List.{length-append}
use Rattle.std.proofs.lemmas.Option.{slice_get_within}
use Rattle.base_types.specs.Seal.{Blocks}
use Rattle.disk_contract.specs.declared.event.Event.{Event}
use Rattle.disk_contract.specs.Crash.{IsHonest}
use Rattle.layout_geometry.specs.Geometry.{Geometry}
use Rattle.crash_stands.specs.Bounds.{bounds_of}
use Rattle.crash_stands.specs.Stands.{IsTreeOf}
use Rattle.lang_tree.specs.declared.command.Cmd.{Cmd}
use Rattle.lang_tree.specs.declared.command.Cmd.TheVariants.{Bad}
use Rattle.lang_tree.specs.declared.command.Refusal.TheVariants as because
use Rattle.lang_tree.specs.declared.command.Reply.{Reply}
use Rattle.lang_tree.specs.declared.command.Reply.TheVariants.{Refused}
use Rattle.lang_tree.specs.Points.{Point, after_reply, is_refusal, is_sync, may_have_written, made_by, points_after, points_of}
use Rattle.lang_tree.specs.Run.{Answers, Run, StopsAfterFault, is_of_disk}
use Rattle.lang_tree.specs.Step.{Session, step, osync, session_on}
use Rattle.lang_tree.specs.Tree.{Tree}
use Rattle.engine_blocks.specs.Crashes.{Advances, MakesPoint}
use Rattle.engine_blocks.specs.State.{State}
use Rattle.fs_session.specs.Applying.{Applies, AnswersSession, PassesTime}
use Rattle.fs_session.specs.Points.{KnowsPoints, LeavesTree, TellsPoints, trees_after, with_tree}
use Rattle.fs_session.specs.Sessions.{IsSession}
use Rattle.cmd_session.specs.Shared.{get_behind}
use Rattle.cmd_session.specs.Crashes.{LeavesPoints}
use Rattle.cmd_session.specs.Histories.{session_after, last_mark, HasNoFault}
use Rattle.cmd_session.specs.Issued.{StandsForLast, IssuesLast}
use Rattle.cmd_session.specs.Serving.{HasTree, GoesOn, HasServed, IsDrawn}
use Rattle.cmd_session.proofs.Crashes.{StandsForTree, crashes_more}
use Rattle.cmd_session.proofs.Issuing.{issued_now, issues_more}
use Rattle.cmd_session.proofs.Histories.{none_some, points_more, session_more, run_more, floor_more, ascend_more, get_before, get_split}

-- What lang_tree promises of replies, and fs_session of points.
pub record ServingLaws {S : Type 0} (tells : Bool) (state : S → State) : Type 1 where
  pub points : (old new : S) (f : Session) (cmd : Cmd) (reply : Reply) (begun : ℕ) → IsSession (state old) f → Applies tells state cmd reply old new → TellsPoints f cmd reply begun (state old) (state new)
  pub session : (old new : Session) (cmd : Cmd) (reply : Reply) → Answers is_of_disk old cmd reply new → new ≡ after_reply old cmd reply
  pub stops : (cmds : List Cmd) (replies : List Reply) (cmd : Cmd) (reply : Reply) → length cmds ≡ length replies → StopsAfterFault cmds replies
      → ((i : ℕ) → slice_get replies i ≡ Some (Refused because.DiskFault) → cmd ≢ Bad → reply ≡ Refused because.Stopped) → StopsAfterFault (cmds ++ cmd ∷ []) (replies ++ reply ∷ [])
  pub now : (s : S) (trees : ℕ → Tree) (img : Blocks) → IsTrue tells → KnowsPoints (state s) trees → (state s).crash.left_since (length (state s).crash.log) img → ∥ LeavesTree (state s) trees (state s).books.floor (state s).books.point img ∥₁
  pub call : (old new : S) (trees : ℕ → Tree) (img : Blocks) → Advances (state old) (state new) → KnowsPoints (state new) trees → (state new).crash.left_since (length (state old).crash.log) img → ∥ LeavesTree (state new) trees (state old).books.floor (state new).books.point img ∥₁
  pub issued : (s : S) (trees : ℕ → Tree) → IsTrue tells → KnowsPoints (state s) trees → (state s).books.stopped ≡ false
      → ∥ ((m : Blocks) × (state s).crash.issued m) ∥₁ × ((m : Blocks) → (state s).crash.issued m → IsTreeOf (state s).books.geom m (trees (state s).books.point))

-- what is known of points stays known over one command
abbrev pub KeepsKnown : {S : Type 0} → (S → State) → S → S → Type 0
KeepsKnown state old new = (trees : ℕ → Tree) (u : Tree) → Advances (state old) (state new) → MakesPoint (state old) (state new) → (state new).books.geom ≡ (state old).books.geom → (state new).books.point ≤ (state old).books.point + 1 → IsTreeOf (state new).books.geom (state new).map u
    → KnowsPoints (state old) trees → KnowsPoints (state new) (trees_after (state old) (state new) trees u)

-- an image that holds a map of a point stands for the point's tree
stands_for : (s : State) (trees : ℕ → Tree) (low high : ℕ) (img : Blocks) → IsDrawn s → LeavesTree s trees low high img → StandsForTree s.books.geom.n img trees low high
stands_for s trees low high img view left =
    let held = view.holds img left.map left.holds in record {
      number = left.point;
      from = left.from;
      upto = left.upto;
      stands = record { map = left.map; held = held.held; tree = subst (λ (k : Geometry). IsTreeOf k left.map (trees left.point)) (sym held.geom) left.tree };
    }

-- A sync leaves the tree.
osync_tree : (f : Session) (b : Bool) → (osync f b).0.tree ≡ f.tree
osync_tree f b = grind arith

sync_tree : (f : Session) (cmd : Cmd) → is_sync cmd ≡ true → (step f cmd).0.tree ≡ f.tree
sync_tree f cmd h1 = grind (arith, osync_tree, f.changed, false≢true)

reply_tree : (f : Session) (cmd : Cmd) (reply : Reply) → is_sync cmd ≡ true → (after_reply f cmd reply).tree ≡ f.tree
reply_tree f cmd reply is = grind (arith, is_refusal reply, f.tree, sync_tree)

-- what makes a point is a sync
makes_sync : (c d : Bool) (p : Point) (ps : List Point) → (if c && d then p ∷ [] else []) ≡ p ∷ ps → c ≡ true
makes_sync c d p ps h1 = grind (arith, none_some)

module _ {S : Type 0} (tells : Bool) (state : S → State) (told : IsTrue tells) (laws : ServingLaws tells state) (g : Geometry) (t : Tree) (mounted : ℕ) (cmds : List Cmd) (replies : List Reply) (marks : List ℕ) (old new : S) (cmd : Cmd) (reply : Reply)
    (served : HasServed g t mounted cmds replies marks (state old)) (drawn : (s : S) → IsDrawn (state s)) (applies : Applies tells state cmd reply old new)
    (answers : (f : Session) → IsSession (state old) f → AnswersSession tells state f cmd reply new) (time : PassesTime (state old) (state new))
    (after : KeepsKnown state old new) where
  abbrev first : Session
  first = session_on (bounds_of g) t

  abbrev f : Session
  f = session_after first cmds replies

  abbrev mark : ℕ
  mark = length (state new).crash.log

  abbrev all_cmds : List Cmd
  all_cmds = cmds ++ cmd ∷ []

  abbrev all_replies : List Reply
  all_replies = replies ++ reply ∷ []

  abbrev all_marks : List ℕ
  all_marks = marks ++ mark ∷ []

  a : AnswersSession tells state f cmd reply new
  a = answers f served.goes_on.session

  next_is : session_after first all_cmds all_replies ≡ a.next
  next_is = session_more first cmds replies cmd reply served.answered ∙ sym (laws.session f a.next cmd reply a.answers)

  tellings : TellsPoints f cmd reply (last_mark mounted marks) (state old) (state new)
  tellings = laws.points old new f cmd reply (last_mark mounted marks) served.goes_on.session applies

  points_are : points_of first mounted all_cmds all_replies all_marks ≡ points_of first mounted cmds replies marks ++ made_by f cmd reply (last_mark mounted marks)
  points_are = ap (λ (ps : List Point). record { tree = first.tree; begun = 0 } ∷ ps) (points_more first mounted cmds replies marks cmd reply mark served.answered served.marked)

  abbrev before : List Event
  before = (state old).crash.log

  abbrev log : List Event
  log = (state new).crash.log

  abbrev base : Blocks
  base = (state new).crash.base

  abbrev trees : ℕ → Tree
  trees = trees_after (state old) (state new) served.goes_on.trees a.next.tree

  abbrev made : List Point
  made = made_by f cmd reply (last_mark mounted marks)

  knows : KnowsPoints (state new) trees
  knows = after served.goes_on.trees a.next.tree time.advances time.made time.geom time.one a.session.tree served.goes_on.known

  -- a point that was there before
  kept : (p : ℕ) → p ≤ (state old).books.point → HasTree (points_of first mounted all_cmds all_replies all_marks) p (served.goes_on.trees p)
  kept p le =
      let was_there = served.goes_on.numbered p le in record {
        point = was_there.point;
        is = subst (λ (ps : List Point). slice_get ps p ≡ Some was_there.point) (sym points_are) (get_before (points_of first mounted cmds replies marks) made p was_there.point was_there.is);
        tree = was_there.tree;
      }

  -- a point that the command made
  came : (state old).books.point < (state new).books.point → HasTree (points_of first mounted all_cmds all_replies all_marks) (state new).books.point a.next.tree
  came more =
      let is = tellings.made more in
      let long : length (points_of first mounted cmds replies marks) ≡ (state new).books.point = omega (arith, served.goes_on.exact (tellings.awake more), more, time.one) in record {
        point = record { tree = f.tree; begun = last_mark mounted marks };
        is = subst (λ (n : ℕ). slice_get (points_of first mounted all_cmds all_replies all_marks) n ≡ Some (record { tree = f.tree; begun = last_mark mounted marks })) long
            (subst (λ (ps : List Point). slice_get ps (length (points_of first mounted cmds replies marks)) ≡ Some (record { tree = f.tree; begun = last_mark mounted marks })) (sym (points_are ∙ ap (λ (ps : List Point). points_of first mounted cmds replies marks ++ ps) is))
            (get_behind (points_of first mounted cmds replies marks) (record { tree = f.tree; begun = last_mark mounted marks }) []));
        tree = sym (ap (λ (x : Session). x.tree) (laws.session f a.next cmd reply a.answers) ∙ reply_tree f cmd reply (makes_sync (is_sync cmd) (f.changed && may_have_written reply) (record { tree = f.tree; begun = last_mark mounted marks }) [] is));
      }

  numbered : (p : ℕ) → p ≤ (state new).books.point → HasTree (points_of first mounted all_cmds all_replies all_marks) p (trees p)
  numbered p le = ⊎_elim more same (cases_lt (state old).books.point (state new).books.point)
    where
      same : (state new).books.point ≤ (state old).books.point → HasTree (points_of first mounted all_cmds all_replies all_marks) p (trees p)
      same low = subst (λ (c : Bool). HasTree (points_of first mounted all_cmds all_replies all_marks) p ((if c then with_tree served.goes_on.trees (state new).books.point a.next.tree else served.goes_on.trees) p)) (sym (le-ltb (state old).books.point (state new).books.point low)) (kept p (omega (arith, le, low)))

      with_new : (state old).books.point < (state new).books.point → HasTree (points_of first mounted all_cmds all_replies all_marks) p (with_tree served.goes_on.trees (state new).books.point a.next.tree p)
      with_new up = ⊎_elim
          (λ here. subst (λ (c : Bool). HasTree (points_of first mounted all_cmds all_replies all_marks) p (if c then a.next.tree else served.goes_on.trees p)) (sym (eq-eqb p (state new).books.point here)) (subst (λ (q : ℕ). HasTree (points_of first mounted all_cmds all_replies all_marks) q a.next.tree) (sym here) (came up)))
          (λ other. subst (λ (c : Bool). HasTree (points_of first mounted all_cmds all_replies all_marks) p (if c then a.next.tree else served.goes_on.trees p)) (sym (ne_eqb p (state new).books.point other)) (kept p (before other)))
          (cases_eq p (state new).books.point)
        where
          before : p ≢ (state new).books.point → p ≤ (state old).books.point
          before other = ⊎_elim (λ past. absurd (other (omega (arith, past, le, time.one)))) (λ low. low) (cases_lt (state old).books.point p)

      more : (state old).books.point < (state new).books.point → HasTree (points_of first mounted all_cmds all_replies all_marks) p (trees p)
      more up = subst (λ (c : Bool). HasTree (points_of first mounted all_cmds all_replies all_marks) p ((if c then with_tree served.goes_on.trees (state new).books.point a.next.tree else served.goes_on.trees) p)) (sym (lt-ltb (state old).books.point (state new).books.point up)) (with_new up)

  few : (state new).books.point ≤ length (points_after first mounted all_cmds all_replies all_marks)
  few = let last = numbered (state new).books.point (omega arith) in omega (arith, slice_get_within (points_of first mounted all_cmds all_replies all_marks) (state new).books.point last.point last.is)

  exact : (state new).books.stopped ≡ false → length (points_of first mounted all_cmds all_replies all_marks) ≡ (state new).books.point + 1
  exact going = omega (arith, ap (λ (ps : List Point). length ps) points_are, length-append (points_of first mounted cmds replies marks) made, served.goes_on.exact awake, tellings.going going)
    where
      awake : (state old).books.stopped ≡ false
      awake = ⊎_elim (λ on. absurd (true≢false (sym (tellings.stays on) ∙ going))) (λ off. off) (cases_Bool (state old).books.stopped)

  ended : (i : ℕ) → slice_get all_replies i ≡ Some (Refused because.DiskFault) → (state new).books.stopped ≡ true
  ended i is = ⊎_elim (λ before. tellings.stays (served.goes_on.ended i before)) (λ now. tellings.fault now) (get_split replies reply (Refused because.DiskFault) i is)

  calm : HasNoFault all_replies → (state new).books.stopped ≡ false
  calm none = ⊎_elim (λ on. absurd (none (length replies) (get_behind replies reply [] ∙ ap (λ (r : Reply). Some r) (tellings.calm before on)))) (λ off. off) (cases_Bool (state new).books.stopped)
    where
      before : (state old).books.stopped ≡ false
      before = served.goes_on.going (λ i is. none i (get_before replies (reply ∷ []) i (Refused because.DiskFault) is))

  floors : (state old).books.floor ≤ (state new).books.floor
  floors = time.advances.floor

  goes_on : GoesOn (session_after first all_cmds all_replies) (points_of first mounted all_cmds all_replies all_marks) all_replies all_marks (state new)
  goes_on = record {
    session = subst (λ (x : Session). IsSession (state new) x) (sym next_is) a.session;
    trees = trees;
    known = knows;
    numbered = numbered;
    exact = exact;
    promised = λ k. floor_more k (state new).books.floor replies marks reply mark served.marked (omega (arith, served.goes_on.promised k, floors)) (λ come. tellings.promised);
    ended = ended;
    going = calm;
  }

  geom : (state new).books.geom ≡ g
  geom = time.geom ∙ served.geom

  honest_here : (k : ℕ) (img : Blocks) → IsHonest g.n base (take k log) img → IsHonest (state new).books.geom.n base (take k log) img
  honest_here k img honest = subst (λ (x : Geometry). IsHonest x.n base (take k log) img) (sym geom) honest

  during : (k : ℕ) (img : Blocks) → length before ≤ k → k ≤ length log → IsHonest g.n base (take k log) img → ∥ StandsForTree g.n img trees (state old).books.floor (state new).books.point ∥₁
  during k img since within honest = ∥∥₁_map
      (laws.call old new trees img time.advances knows ((drawn new).left (length before) k img since within (honest_here k img honest)))
      (λ left. subst (λ (x : Geometry). StandsForTree x.n img trees (state old).books.floor (state new).books.point) geom (stands_for (state new) trees (state old).books.floor (state new).books.point img (drawn new) left))

  now : (img : Blocks) → IsHonest g.n base (take (length log) log) img → ∥ StandsForTree g.n img trees (state new).books.floor (state new).books.point ∥₁
  now img honest = ∥∥₁_map
      (laws.now new trees img told knows ((drawn new).left (length log) (length log) img (omega arith) (omega arith) (honest_here (length log) img honest)))
      (λ left. subst (λ (x : Geometry). StandsForTree x.n img trees (state new).books.floor (state new).books.point) geom (stands_for (state new) trees (state new).books.floor (state new).books.point img (drawn new) left))

  crashes : LeavesPoints g.n base first log mounted all_cmds all_replies all_marks
  crashes = crashes_more g.n base first before log mounted cmds replies marks cmd reply served.answered served.marked served.ascend time.advances.grows
      trees (state old).books.floor (state new).books.floor (state new).books.point served.goes_on.promised floors tellings.promised numbered few
      (subst (λ (b : Blocks). LeavesPoints g.n b first before mounted cmds replies marks) (sym time.advances.base) served.crashes) during now

  issued_last : HasNoFault all_replies → ∥ StandsForLast g.n base log (points_of first mounted all_cmds all_replies all_marks) ∥₁
  issued_last none =
      let law = laws.issued new trees told knows (calm none) in
      issued_now (state new) g (points_of first mounted all_cmds all_replies all_marks) (trees (state new).books.point) geom (drawn new) (exact (calm none)) (numbered (state new).books.point (omega arith)) law.0 law.1

  issues : IssuesLast g.n base first log mounted all_cmds all_replies all_marks
  issues = grind (arith, issues_more, g.n, served.answered, served.marked, served.ascend, time.advances.grows, issued_last, time.advances.base, served.issued)

  pub serves_more : HasServed g t mounted all_cmds all_replies all_marks (state new)
  serves_more = record {
    geom = geom;
    run = subst (λ (x : Session). Run is_of_disk first all_cmds all_replies x) (sym next_is) (run_more is_of_disk first f a.next cmds replies cmd reply served.run a.answers);
    stops = laws.stops cmds replies cmd reply served.answered served.stops (λ i is not. tellings.ended (served.goes_on.ended i is) not);
    answered = omega (arith, length-append cmds (cmd ∷ []), length-append replies (reply ∷ []), served.answered);
    marked = omega (arith, length-append marks (mark ∷ []), length-append replies (reply ∷ []), served.marked);
    ascend = ascend_more mounted marks (length before) mark served.ascend (omega (arith, ap (λ (es : List Event). length es) time.advances.grows.log, length-append before time.advances.grows.more));
    crashes = crashes;
    issued = issues;
    goes_on = goes_on;
  }
