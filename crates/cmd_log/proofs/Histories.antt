-- A log on a disk: how what is known of its calls begins, and goes on with one call more.
use Rattle.std.proofs.Common.{◌≡◌, inl, ⊎_elim, ℕ, zero, suc, ◌≤◌, List, [], ◌∷◌, ◌++◌, length, take, slice_get, Some, refl, sym, ◌∙◌, ap, subst, arith}
use Rattle.std.proofs.Math.Logic.{∥∥₁_map}
use Rattle.std.proofs.lemmas.Bool.{cases_lt}
use Rattle.std.proofs.lemmas.List.{length-append, take-append-le}
use Rattle.base_types.specs.Seal.{Blocks}
use Rattle.disk_contract.specs.declared.event.Event.{Event}
use Rattle.disk_contract.specs.Crash.{IsHonest}
use Rattle.disk_contract.specs.Disk.{Grows}
use Rattle.layout_geometry.specs.Geometry.{Geometry}
use Rattle.layout_journal.specs.Run.{HeldIs}
use Rattle.lang_tree.specs.Points.{Point}
use Rattle.lang_tree.specs.Tree.{Tree}
use Rattle.lang_log.specs.declared.call.LogCall.{LogCall}
use Rattle.lang_log.specs.declared.call.LogReply.{LogReply}
use Rattle.lang_log.specs.Answers.{AnswersLog}
use Rattle.lang_log.specs.History.{History, IsLeft, opened_with}
use Rattle.lang_log.specs.Log.{IsLogOf, Log}
use Rattle.crash_stands.specs.Stands.{IsTreeOf}
use Rattle.engine_blocks.specs.State.{State}
use Rattle.fs_log.specs.Keeping.{Goes, Keeps, Rests, StandsForLog, TakesLog, as_before}
use Rattle.cmd_trace.specs.Trace.{Ascend}
use Rattle.cmd_session.specs.Serving.{HasServed, IsDrawn}
use Rattle.cmd_log.specs.Answering.{TakesCall}
use Rattle.cmd_log.specs.Serving.{HasLogged, LeavesAt, ServesAll}

-- What fs_log says of images, and of a log that rests.
pub record ImageLaws {S : Type 0} (state : S → State) : Type 0 where
  pub former : (old new : S) (h k : History) (n : ℕ) (img : Blocks) → Goes h k (state old) (state new) → ((m : Blocks) → (state new).crash.holds img m → (held : HeldIs n img m) × (held.header.geom ≡ (state new).books.geom))
      → (state new).crash.left_since (length (state old).crash.log) img → ∥ StandsForLog n img h k ∥₁
  pub rests : (s : S) → Rests (state s) (state s)

-- the marks ascend up to the last event, and so they do with one more
from_le : (from : ℕ) (marks : List ℕ) (events : ℕ) → Ascend from marks events → from ≤ events
from_le from [] events up = omega (arith, up)
from_le from (m ∷ marks) events up = omega (arith, up.0, from_le m marks events up.1)

ascend_more : (from : ℕ) (marks : List ℕ) (events mark : ℕ) → Ascend from marks events → events ≤ mark → Ascend from (marks ++ mark ∷ []) mark
ascend_more from [] events mark up le = (omega (arith, up, le), refl)
ascend_more from (m ∷ marks) events mark up le = (up.0, ascend_more m marks events mark up.1 le)

-- what a crash leaves at a moment of a log it leaves when more events have come
leaves_on : (n : ℕ) (base : Blocks) (before log : List Event) (moment : ℕ) (h k : History) → Grows before log → moment ≤ length before → LeavesAt n base before moment h k → LeavesAt n base log moment h k
leaves_on n base before log moment h k grows le leaves img honest =
    leaves img (subst (λ (es : List Event). IsHonest n base es img) (ap (take moment) grows.log ∙ take-append-le moment before grows.more le) honest)

grown_length : (before log : List Event) → Grows before log → length before ≤ length log
grown_length before log grows = omega (arith, ap (λ (es : List Event). length es) grows.log, length-append before grows.more)

-- One call more, over a history that the calls before led to.
module _ (n : ℕ) (base : Blocks) (before log : List Event) (grows : Grows before log) (k next : History) (call : LogCall) (answer : LogReply) (mark : ℕ) (answers : AnswersLog k call answer next)
    (during : (moment : ℕ) → length before ≤ moment → moment ≤ mark → LeavesAt n base log moment k next) (last : LeavesAt n base log mark next next) where
  serves_more : (from : ℕ) (h : History) (calls : List LogCall) (replies : List LogReply) (marks : List ℕ) → Ascend from marks (length before) → ServesAll n base before from h calls replies marks k
      → ServesAll n base log from h (calls ++ call ∷ []) (replies ++ answer ∷ []) (marks ++ mark ∷ []) next
  serves_more from h [] [] [] up serves = (
    next,
    record {
      answers = subst (λ (q : History). AnswersLog q call answer next) serves.0 answers;
      before = leaves_on n base before log from h h grows (omega (arith, up)) serves.1;
      each = λ moment late le. subst (λ (q : History). LeavesAt n base log moment q next) serves.0 (during moment (omega (arith, up, late)) le);
    },
    (refl, last),
  )
  serves_more from h [] [] (m ∷ marks) up serves = absurd serves
  serves_more from h [] (r ∷ replies) marks up serves = absurd serves
  serves_more from h (c ∷ calls) [] marks up serves = absurd serves
  serves_more from h (c ∷ calls) (r ∷ replies) [] up serves = absurd serves
  serves_more from h (c ∷ calls) (r ∷ replies) (m ∷ marks) up serves =
      let within = from_le m marks (length before) up.1 in (
        serves.0,
        record {
          answers = serves.1.answers;
          before = leaves_on n base before log from h h grows (omega (arith, up.0, within)) serves.1.before;
          each = λ moment late le. leaves_on n base before log moment h serves.0 grows (omega (arith, le, within)) (serves.1.each moment late le);
        },
        serves_more m serves.0 calls replies marks up.1 serves.2,
      )

module _ {S : Type 0} (state : S → State) (laws : ImageLaws state) (g : Geometry) where
  -- at each moment of a call
  leaves_in : (old new : S) (h k : History) → Goes h k (state old) (state new) → IsDrawn (state new) → (state new).books.geom ≡ g → (moment : ℕ) → length (state old).crash.log ≤ moment → moment ≤ length (state new).crash.log
      → LeavesAt g.n (state new).crash.base (state new).crash.log moment h k
  leaves_in old new h k goes drawn geom moment late le img honest =
      subst (λ (q : Geometry). ∥ StandsForLog q.n img h k ∥₁) geom
      (laws.former old new h k (state new).books.geom.n img goes (λ m holds. let under = drawn.holds img m holds in (under.held, under.geom))
      (drawn.left (length (state old).crash.log) moment img late le (subst (λ (q : Geometry). IsHonest q.n (state new).crash.base (take moment (state new).crash.log) img) (sym geom) honest)))

  -- and at the last one
  leaves_now : (s : S) (h : History) → Keeps h (state s) → IsDrawn (state s) → (state s).books.geom ≡ g → LeavesAt g.n (state s).crash.base (state s).crash.log (length (state s).crash.log) h h
  leaves_now s h keeps drawn geom = leaves_in s s h h ((laws.rests s).takes h keeps) drawn geom (length (state s).crash.log) (omega arith) (omega arith)

  module _ (begun : ℕ) (opened : Log) (calls : List LogCall) (replies : List LogReply) (marks : List ℕ) (call : LogCall) (answer : LogReply) (old new : S) (drawn : IsDrawn (state new)) (logged : HasLogged g begun opened calls replies marks (state old))
      (takes : TakesCall logged.now call answer (state old) (state new)) where
    abbrev log : List Event
    log = (state new).crash.log

    abbrev base : Blocks
    base = (state new).crash.base

    geom : (state new).books.geom ≡ g
    geom = takes.goes.geom ∙ logged.geom

    grows : Grows (state old).crash.log log
    grows = takes.goes.advances.grows

    pub logged_more : HasLogged g begun opened (calls ++ call ∷ []) (replies ++ answer ∷ []) (marks ++ length log ∷ []) (state new)
    logged_more = record {
      geom = geom;
      ascend = ascend_more begun marks (length (state old).crash.log) (length log) logged.ascend (grown_length (state old).crash.log log grows);
      opening = λ moment le. leaves_on g.n base (state old).crash.log log moment (opened_with opened) (opened_with opened) grows
          (omega (arith, le, from_le begun marks (length (state old).crash.log) logged.ascend))
          (subst (λ (b : Blocks). LeavesAt g.n b (state old).crash.log moment (opened_with opened) (opened_with opened)) (sym takes.goes.advances.base) (logged.opening moment le));
      now = takes.behind;
      serves = serves_more g.n base (state old).crash.log log grows logged.now takes.behind call answer (length log) takes.answers
          (λ moment late le. leaves_in old new logged.now takes.behind takes.goes drawn geom moment late le)
          (leaves_now new takes.behind takes.goes.keeps drawn geom)
          begun (opened_with opened) calls replies marks logged.ascend
          (subst (λ (b : Blocks). ServesAll g.n b (state old).crash.log begun (opened_with opened) calls replies marks logged.now) (sym takes.goes.advances.base) logged.serves);
      keeps = takes.goes.keeps;
    }

-- The log of a file system in which no command was answered since its mount.

none_at : (p : ℕ) (point : Point) → slice_get [] p ≡ Some point → ⊥
none_at p point is = grind arith

-- a session of no commands has one point
only_point : (start point : Point) (p : ℕ) → slice_get (start ∷ []) p ≡ Some point → point ≡ start
only_point start point zero is = grind (arith, is)
only_point start point (suc p) is = absurd (none_at p point is)

module _ {S : Type 0} (state : S → State) (laws : ImageLaws state) (one : (g : Geometry) (m : Blocks) (t u : Tree) → IsTreeOf g m t → IsTreeOf g m u → t ≡ u) (g : Geometry) (t : Tree) (mounted : ℕ) (l : Log) (old new : S)
    (served : HasServed g t mounted [] [] [] (state old)) (is : IsLogOf t l) (takes : TakesLog as_before (state old) (state new)) (drawn : IsDrawn (state new)) where
  -- each point has the tree of the mount, and so the log
  tree_is : (p : ℕ) → p ≤ (state old).books.point → served.goes_on.trees p ≡ t
  tree_is p le = let has = served.goes_on.numbered p le in sym has.tree ∙ ap (λ (q : Point). q.tree) (only_point (record { tree = t; begun = 0 }) has.point p has.is)

  is_left : (u : Tree) → u ≡ t → IsLeft (opened_with l) u
  is_left u same = record { log = l; is = subst (λ (q : Tree). IsLogOf q l) (sym same) is; may = inl refl }

  keeps : Keeps (opened_with l) (state old)
  keeps = record {
    trees = served.goes_on.trees;
    known = served.goes_on.known;
    left = λ p from upto. is_left (served.goes_on.trees p) (tree_is p upto);
    last = λ going empty. subst (λ (q : Tree). IsLogOf q l) (sym (tree_is (state old).books.point (omega arith))) is;
    now = λ u stands. subst (λ (q : Tree). IsLogOf q l) (one (state old).books.geom (state old).map t u served.goes_on.session.tree stands) is;
  }

  goes : Goes (opened_with l) (opened_with l) (state old) (state new)
  goes = takes (opened_with l) keeps

  same_geom : (state new).books.geom ≡ g
  same_geom = goes.geom ∙ served.geom

  -- an image of the mount stands for the tree
  stands : (moment : ℕ) → moment ≤ length (state old).crash.log → LeavesAt g.n (state old).crash.base (state old).crash.log moment (opened_with l) (opened_with l)
  stands moment le img honest = ∥∥₁_map (served.crashes.each moment img le honest) (λ image. record {
    tree = image.point.tree;
    stands = image.stands;
    left = inl (is_left image.point.tree (ap (λ (q : Point). q.tree) (only_point (record { tree = t; begun = 0 }) image.point image.number image.is)));
  })

  opening_leaves : (moment : ℕ) → moment ≤ length (state new).crash.log → LeavesAt g.n (state new).crash.base (state new).crash.log moment (opened_with l) (opened_with l)
  opening_leaves moment le = ⊎_elim
      (λ early. leaves_on g.n (state new).crash.base (state old).crash.log (state new).crash.log moment (opened_with l) (opened_with l) goes.advances.grows (omega (arith, early))
      (subst (λ (b : Blocks). LeavesAt g.n b (state old).crash.log moment (opened_with l) (opened_with l)) (sym goes.advances.base) (stands moment (omega (arith, early)))))
      (λ late. leaves_in state laws g old new (opened_with l) (opened_with l) goes drawn same_geom moment late le)
      (cases_lt moment (length (state old).crash.log))

  pub begins : HasLogged g (length (state new).crash.log) l [] [] [] (state new)
  begins = record {
    geom = same_geom;
    ascend = refl;
    opening = opening_leaves;
    now = opened_with l;
    serves = (refl, opening_leaves (length (state new).crash.log) (omega arith));
    keeps = goes.keeps;
  }
