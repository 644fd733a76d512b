-- Questions of the tree: they leave it, its sync points and a log as they were, one by one and in a row.
use Rattle.std.proofs.Common.{◌≡◌, ◌≢◌, ◌⊎◌, inl, inr, ⊎_elim, ℕ, ◌+◌, ◌≤◌, Bool, true, false, List, [], length, Option, Some, None, refl, sym, ◌∙◌, ap, subst, arith}
use Rattle.std.proofs.lemmas.Bool.{cases_Bool, false≢true}
use Rattle.base_types.specs.Seal.{Blocks}
use Rattle.lang_tree.specs.declared.command.Cmd.{Cmd}
use Rattle.lang_tree.specs.declared.command.Cmd.TheVariants.{Bad, Durable, List as ListNames, Stat}
use Rattle.lang_tree.specs.declared.command.Refusal.{Refusal}
use Rattle.lang_tree.specs.declared.command.Reply.{Reply}
use Rattle.lang_tree.specs.Conditions.{refusal}
use Rattle.lang_tree.specs.Points.{is_sync, made_by}
use Rattle.lang_tree.specs.Run.{Answers, is_of_disk}
use Rattle.lang_tree.specs.Step.{Session, answered, step}
use Rattle.lang_tree.specs.Tree.{IsSound, Tree, Bounds}
use Rattle.layout_geometry.specs.Geometry.{Geometry}
use Rattle.crash_stands.specs.Stands.{IsTreeOf}
use Rattle.engine_blocks.specs.Crashes.{Advances, IssuesNothing}
use Rattle.engine_blocks.specs.Effects.{Ticked}
use Rattle.engine_blocks.specs.State.{State}
use Rattle.fs_session.specs.Applying.{Applies, PassesTime, is_spent}
use Rattle.fs_session.specs.Points.{KnowsPoints, LeavesTree}
use Rattle.fs_session.specs.Sessions.{IsSession, Stands}
use Rattle.fs_log.specs.Asked.{AskedOf}
use Rattle.fs_log.specs.Finding.{AnswersQuestion, AsksOnly}
use Rattle.fs_log.specs.Opening.{KeepsTree, MakesNoPoint}
use Rattle.fs_log.specs.Ways.{IsQuestion}
use Rattle.fs_log.proofs.Holding.{session_of}
use Rattle.fs_log.proofs.Ways.{asks_later, asks_nothing, asks_one}
use Rattle.fs_log.proofs.Windows.{reads_only}
use Rattle.fs_log.proofs.Writing.{looked, resting, rests_twice}

-- the tree of a session is sound
pub session_sound : ((g : Geometry) (m : Blocks) (t : Tree) → IsTreeOf g m t → IsSound g.i t) → (s : State) (f : Session) → IsSession s f → IsSound f.limit.nodes f.tree
session_sound sound s f session = subst (λ (limit : Bounds). IsSound limit.nodes f.tree) (sym session.limit) (sound s.books.geom s.map f.tree session.tree)

after_stat : (f : Session) (path : List (List ℕ)) (why : Option Refusal) → (answered f (Stat path) why).0 ≡ f
after_stat f path None = refl
after_stat f path (Some why) = refl

after_list : (f : Session) (path : List (List ℕ)) (why : Option Refusal) → (answered f (ListNames path) why).0 ≡ f
after_list f path None = refl
after_list f path (Some why) = refl

-- a question leaves the session
pub question_leaves : (cmd : Cmd) → IsQuestion cmd → (f : Session) → (step f cmd).0 ≡ f
question_leaves cmd (inl (path, is)) f = ap (λ c. (step f c).0) is ∙ after_stat f path (refusal f.limit f.tree (Stat path))
question_leaves cmd (inr (inl (path, is))) f = ap (λ c. (step f c).0) is ∙ after_list f path (refusal f.limit f.tree (ListNames path))
question_leaves cmd (inr (inr (path, offset, count, is))) f = ap (λ c. (step f c).0) is ∙ reads_only f path offset count

no_sync : (cmd : Cmd) → IsQuestion cmd → is_sync cmd ≡ false
no_sync cmd (inl (path, is)) = ap is_sync is
no_sync cmd (inr (inl (path, is))) = ap is_sync is
no_sync cmd (inr (inr (path, offset, count, is))) = ap is_sync is

abbrev may_be_asked : Cmd → Bool
may_be_asked Durable = false
may_be_asked Bad = false
may_be_asked _ = true

some_question : (cmd : Cmd) → IsQuestion cmd → may_be_asked cmd ≡ true
some_question cmd (inl (path, is)) = ap may_be_asked is
some_question cmd (inr (inl (path, is))) = ap may_be_asked is
some_question cmd (inr (inr (path, offset, count, is))) = ap may_be_asked is

not_durable : (cmd : Cmd) → IsQuestion cmd → cmd ≢ Durable
not_durable cmd question is = false≢true (sym (ap may_be_asked is) ∙ some_question cmd question)

not_bad : (cmd : Cmd) → IsQuestion cmd → cmd ≢ Bad
not_bad cmd question is = false≢true (sym (ap may_be_asked is) ∙ some_question cmd question)

-- a command that isn't a sync makes no point
pub none_made : (f : Session) (cmd : Cmd) (reply : Reply) → is_sync cmd ≡ false → length (made_by f cmd reply 0) ≡ 0
none_made f cmd reply calm = grind (arith, calm)

pub question_answered : (f next : Session) (cmd : Cmd) (reply : Reply) → IsQuestion cmd → Answers is_of_disk f cmd reply next → AnswersQuestion f cmd reply × (next ≡ f)
question_answered f next cmd reply question (inl is) =
    let same : next ≡ f = sym (ap (λ x. x.0) is) ∙ question_leaves cmd question f in
    (inl (is ∙ ap (λ (s : Session). (s, reply)) same), same)
question_answered f next cmd reply question (inr (inl refused)) = (inr (refused.0, refused.1, refused.2), refused.3)
question_answered f next cmd reply question (inr (inr known)) = absurd (not_durable cmd question known.1.asked)

module _ {S : Type 0} (tells : Bool) (state : S → State) (cmd : Cmd) (reply : Reply) (old new : S) where
  -- the disk is the same
  pub manner_stays : cmd ≢ Bad → Applies tells state cmd reply old new
      → (cmd ≢ Bad → (state old).books.stopped ≡ false → is_spent (state old).books ≡ false → Ticked tells (state old) (state new))
      → (state new).counts.ticks.manner ≡ (state old).counts.ticks.manner
  manner_stays some applies ticked = ⊎_elim (λ on. same (applies.stopped some on).1)
      (λ off. ⊎_elim (λ spent. same (applies.spent some off spent).1) (λ left. (ticked some off left).manner) (cases_Bool (is_spent (state old).books)))
      (cases_Bool (state old).books.stopped)
    where
      same : new ≡ old → (state new).counts.ticks.manner ≡ (state old).counts.ticks.manner
      same is = ap (λ (s : S). (state s).counts.ticks.manner) is

  -- a command that leaves each session leaves the tree and its points
  pub keeps_tree : cmd ≢ Bad → is_sync cmd ≡ false → Stands (state old) → Applies tells state cmd reply old new
      → PassesTime (state old) (state new)
      → (cmd ≢ Bad → (state old).books.stopped ≡ false → is_spent (state old).books ≡ false → Ticked tells (state old) (state new))
      → AskedOf tells state cmd reply old new → MakesNoPoint (state old) (state new)
  keeps_tree some calm stands applies time ticked asked =
      let f = session_of (state old) stands in
      record {
        advances = time.advances;
        geom = time.geom;
        manner = manner_stays some applies ticked;
        point = omega (arith, time.advances.last, (asked f.0 f.1).points.upto, none_made f.0 cmd reply calm);
      }

  module _ (question : IsQuestion cmd) (stands : Stands (state old)) (asked : AskedOf tells state cmd reply old new) where
    pub answers_question : (f : Session) → IsSession (state old) f → AnswersQuestion f cmd reply
    answers_question f session = let a = asked f session in (question_answered f a.next cmd reply question a.answers).0

    session_stays : (f : Session) → IsSession (state old) f → IsSession (state new) f
    session_stays f session = let a = asked f session in subst (IsSession (state new)) (question_answered f a.next cmd reply question a.answers).1 a.session

    pub question_asks : Applies tells state cmd reply old new → PassesTime (state old) (state new)
        → (cmd ≢ Bad → (state old).books.stopped ≡ false → is_spent (state old).books ≡ false → Ticked tells (state old) (state new))
        → (state new).books.running.weight ≡ (state old).books.running.weight → AsksOnly tells state old new
    question_asks applies time ticked weighs = record {
      rests = looked tells state cmd reply old new stands asked (question_leaves cmd question);
      keeps = record {
        session = session_stays;
        time = keeps_tree (not_bad cmd question) (no_sync cmd question) stands applies time ticked asked;
      };
      weight = weighs;
      way = asks_one tells state (λ c. ⊥) cmd reply old new (inr question) applies;
    }

-- In a row.
module _ {S : Type 0} (state : S → State) where
  module _ (both : (old mid new : S) → Advances (state old) (state mid) → Advances (state mid) (state new) → Advances (state old) (state new)) where
    pub no_point_twice : (old mid new : S) → MakesNoPoint (state old) (state mid) → MakesNoPoint (state mid) (state new) → MakesNoPoint (state old) (state new)
    no_point_twice old mid new a b = record {
      advances = both old mid new a.advances b.advances;
      geom = b.geom ∙ a.geom;
      manner = b.manner ∙ a.manner;
      point = b.point ∙ a.point;
    }

    pub keeps_twice : (old mid new : S) → KeepsTree (state old) (state mid) → KeepsTree (state mid) (state new) → KeepsTree (state old) (state new)
    keeps_twice old mid new a b = record {
      session = λ f session. b.session f (a.session f session);
      time = no_point_twice old mid new a.time b.time;
    }

    pub asks_twice : (tells : Bool) (old mid new : S) → AsksOnly tells state old mid → AsksOnly tells state mid new → AsksOnly tells state old new
    asks_twice tells old mid new a b = record {
      rests = rests_twice state both old mid new a.rests b.rests;
      keeps = keeps_twice old mid new a.keeps b.keeps;
      weight = b.weight ∙ a.weight;
      way = asks_later tells state (λ c. ⊥) old mid new a.way b.way;
    }

  -- where nothing is asked
  pub asks_none : (tells : Bool) (s : S)
      → ((old new : S) → (state new).books.point ≡ (state old).books.point → (state new).books.floor ≡ (state old).books.floor → IssuesNothing (state old) (state new) → Advances (state old) (state new))
      → ((s : S) (trees : ℕ → Tree) (img : Blocks) → KnowsPoints (state s) trees → (state s).crash.left_since (length (state s).crash.log) img → ∥ LeavesTree (state s) trees (state s).books.floor (state s).books.point img ∥₁)
      → AsksOnly tells state s s
  asks_none tells s rests now =
      let still = resting state s rests now in
      record { rests = still; keeps = record { session = λ f session. session; time = record { advances = still.time; geom = refl; manner = refl; point = refl } }; weight = refl; way = asks_nothing tells state (λ c. ⊥) s }
