-- A run of no commands: what is known of blocks that were just mounted, once their file system is open.
use Rattle.std.proofs.Common.{◌≡◌, ℕ, ◌+◌, ◌≤◌, Bool, false, IsTrue, List, [], ◌∷◌, length, take, refl, sym, ◌∙◌, ap, subst, arith}
use Rattle.std.proofs.lemmas.List.{take_all}
use Rattle.base_types.specs.Seal.{Blocks}
use Rattle.disk_contract.specs.declared.event.Event.{Event}
use Rattle.disk_contract.specs.Disk.{writes_in}
use Rattle.disk_contract.specs.Crash.{IsHonest}
use Rattle.layout_geometry.specs.Geometry.{Geometry}
use Rattle.crash_argument.specs.Ledger.{HoldsUnder}
use Rattle.crash_stands.specs.Bounds.{bounds_of}
use Rattle.crash_stands.specs.Stands.{IsTreeOf, StandsFor}
use Rattle.lang_tree.specs.Points.{Point, points_of, floor, top}
use Rattle.lang_tree.specs.Step.{Session, session_on}
use Rattle.lang_tree.specs.Tree.{Tree}
use Rattle.engine_blocks.specs.Crashes.{HasMapOfPoint, IsBegun}
use Rattle.engine_blocks.specs.State.{Bookkeeping, State}
use Rattle.fs_files.specs.Effects.{LooksOnly}
use Rattle.fs_session.specs.Points.{KnowsPoints}
use Rattle.fs_session.specs.Sessions.{IsSession, Stands}
use Rattle.cmd_session.specs.Budget.{KeepsBudget}
use Rattle.cmd_session.specs.Crashes.{StandsForOne, LeavesPoints}
use Rattle.cmd_session.specs.Histories.{HasNoFault, last_mark}
use Rattle.cmd_session.specs.Issued.{StandsForLast, IssuesLast}
use Rattle.cmd_session.specs.Serving.{HasTree, GoesOn, HasServed, IsDrawn, IsMountedWith}
use Rattle.cmd_session.proofs.Histories.{none_is}
use Rattle.cmd_session.proofs.Issuing.{issued_now}

-- the tree of point 0 is known, where there is no other
abbrev pub BeginsKnown : {S : Type 0} → (S → State) → S → Type 0
BeginsKnown state new = (trees : ℕ → Tree) → (state new).books.point ≡ 0 → HasMapOfPoint (state new) 0 → IsTreeOf (state new).books.geom (state new).map (trees 0) → KnowsPoints (state new) trees

-- What crash_stands and fs_commands promise of trees and points.
pub record OpeningLaws {S : Type 0} (tells : Bool) (state : S → State) (new : S) : Type 1 where
  pub one : (g : Geometry) (m : Blocks) (t u : Tree) → IsTreeOf g m t → IsTreeOf g m u → t ≡ u
  pub issued : (s : S) (trees : ℕ → Tree) → IsTrue tells → KnowsPoints (state s) trees → (state s).books.stopped ≡ false
      → ∥ ((m : Blocks) × (state s).crash.issued m) ∥₁ × ((m : Blocks) → (state s).crash.issued m → IsTreeOf (state s).books.geom m (trees (state s).books.point))
  pub begins : BeginsKnown state new

module _ {S : Type 0} (tells : Bool) (state : S → State) (told : IsTrue tells) (old new : S) (laws : OpeningLaws tells state new) (drawn : IsDrawn (state new)) (begun : IsBegun (state old)) (looks : LooksOnly tells false (state old) (state new))
    (g : Geometry) (m : Blocks) (t : Tree) (mounted : IsMountedWith g m (state old)) (is : IsTreeOf g m t) (some : (u : Tree) × IsSession (state new) (session_on (bounds_of (state old).books.geom) u)) where
  abbrev log : List Event
  log = (state new).crash.log

  abbrev base : Blocks
  base = (state new).crash.base

  abbrev first : Session
  first = session_on (bounds_of g) t

  -- the one point of the run
  abbrev start : Point
  start = record { tree = t; begun = 0 }

  same_log : log ≡ (state old).crash.log
  same_log = (looks.crash told).log

  same_base : base ≡ (state old).crash.base
  same_base = (looks.crash told).base

  geom : (state new).books.geom ≡ g
  geom = ap (λ (k : Bookkeeping). k.geom) looks.books ∙ mounted.geom

  map : (state new).map ≡ m
  map = looks.map told ∙ mounted.map

  point : (state new).books.point ≡ 0
  point = ap (λ (k : Bookkeeping). k.point) looks.books ∙ begun.point

  going : (state new).books.stopped ≡ false
  going = ap (λ (k : Bookkeeping). k.stopped) looks.books ∙ begun.going

  tree : IsTreeOf (state new).books.geom (state new).map t
  tree = subst (λ (k : Geometry). IsTreeOf k (state new).map t) (sym geom) (subst (λ (x : Blocks). IsTreeOf g x t) (sym map) is)

  session : IsSession (state new) first
  session =
      let here : some.0 ≡ t = laws.one (state new).books.geom (state new).map some.0 t some.1.tree tree in
      subst (λ (k : Geometry). IsSession (state new) (session_on (bounds_of k) t)) mounted.geom
      (subst (λ (u : Tree). IsSession (state new) (session_on (bounds_of (state old).books.geom) u)) here some.1)

  -- the map now has the live blocks of each map of point 0
  only : HasMapOfPoint (state new) 0
  only map_of_it has = grind (arith, looks.books, looks.map, mounted.only, looks.crash)

  knows : KnowsPoints (state new) (λ p. t)
  knows = laws.begins (λ p. t) point only tree

  numbered : (p : ℕ) → p ≤ (state new).books.point → HasTree (start ∷ []) p t
  numbered p le = let none : 0 ≡ p = omega (arith, le, point) in subst (λ (q : ℕ). HasTree (start ∷ []) q t) none (record { point = start; is = refl; tree = refl })

  exact : length (start ∷ []) ≡ (state new).books.point + 1
  exact = omega (arith, point)

  goes_on : GoesOn first (start ∷ []) [] [] (state new)
  goes_on = record {
    session = session;
    trees = λ p. t;
    known = knows;
    numbered = numbered;
    exact = λ on. exact;
    promised = λ k. omega arith;
    ended = λ i none. absurd (none_is i _ none);
    going = λ none. going;
  }

  -- an image that holds the map stands for the tree
  stands : (img : Blocks) → HoldsUnder g.n g img m → StandsFor g.n img t
  stands img holds = record { map = m; held = holds.held; tree = subst (λ (k : Geometry). IsTreeOf k m t) (sym holds.geom) is }

  crashes : LeavesPoints g.n base first log (length (state old).crash.log) [] [] []
  crashes = record { each = λ k img within honest. ∣ one k img within honest ∣₁ }
    where
      holds : (k : ℕ) (img : Blocks) → k ≤ length log → IsHonest g.n base (take k log) img → HoldsUnder g.n g img m
      holds k img within honest = mounted.images.each k img (omega arith) (omega (arith, within, ap (λ (es : List Event). length es) same_log))
          (subst (λ (b : Blocks). IsHonest g.n b (take k (state old).crash.log) img) same_base (subst (λ (es : List Event). IsHonest g.n base (take k es) img) same_log honest))

      one : (k : ℕ) (img : Blocks) → k ≤ length log → IsHonest g.n base (take k log) img → StandsForOne g.n img (start ∷ []) (floor k [] []) (top k first (length (state old).crash.log) [] [] [])
      one k img within honest = record { number = 0; point = start; from = omega arith; upto = omega arith; is = refl; stands = stands img (holds k img within honest) }

  issued : IssuesLast g.n base first log (length (state old).crash.log) [] [] []
  issued = record { each = each }
    where
      last : ∥ StandsForLast g.n base log (start ∷ []) ∥₁
      last = let law = laws.issued new (λ p. t) told knows going in issued_now (state new) g (start ∷ []) t geom drawn exact (numbered (state new).books.point (omega arith)) law.0 law.1

      each : (i : ℕ) → i ≤ 0 → HasNoFault (take i [])
          → ∥ StandsForLast g.n base (take (last_mark (length (state old).crash.log) (take i [])) log) (points_of first (length (state old).crash.log) (take i []) (take i []) (take i [])) ∥₁
      each i h1 h2 = grind (arith, g.n, take_all, same_log, last)

  pub begins : HasServed g t (length (state old).crash.log) [] [] [] (state new)
  begins = grind (arith, geom, none_is, same_log, crashes, issued, goes_on)

-- nothing was weighed yet, and nothing written
pub begins_budget : (tells : Bool) → IsTrue tells → (old new : State) (g : Geometry) (t : Tree) → IsBegun old → LooksOnly tells false old new → KeepsBudget g t (writes_in old.crash.log + old.books.owed) [] [] new
begins_budget tells told old new g t begun looks = grind (arith, looks.books, begun.weight, looks.crash)

-- what stands in the blocks that were opened stood in them before
pub stood : (tells : Bool) → IsTrue tells → (old new : State) → LooksOnly tells false old new → Stands new → (t : Tree) × IsTreeOf old.books.geom old.map t
stood tells told old new looks stands =
    (stands.0, subst (λ (g : Geometry). IsTreeOf g old.map stands.0) (ap (λ (k : Bookkeeping). k.geom) looks.books) (subst (λ (m : Blocks). IsTreeOf new.books.geom m stands.0) (looks.map told) stands.1))
