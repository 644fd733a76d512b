-- How a log begins: over a store that was just mounted, whose file system was opened; and what is left of the disk where no log was opened.
use Rattle.std.proofs.Common.{◌≡◌, ⊎_elim, ℕ, zero, suc, ◌<◌, ◌≤◌, Bool, false, true≢false, IsTrue, List, [], ◌∷◌, length, take, slice_get, Option, Some, unwrap_or, refl, sym, ap, ◌∙◌, subst, arith}
use Rattle.std.proofs.Math.Logic.{∥∥₁_map}
use Rattle.std.proofs.lemmas.Bool.{cases_lt}
use Rattle.std.proofs.lemmas.List.{take-append-le}
use Rattle.base_types.specs.Seal.{Blocks}
use Rattle.disk_contract.specs.declared.bay.Mark.{Mark}
use Rattle.disk_contract.specs.declared.event.Event.{Event}
use Rattle.disk_contract.specs.Crash.{IsHonest}
use Rattle.disk_contract.specs.Disk as disk
use Rattle.layout_geometry.specs.Geometry.{Geometry}
use Rattle.crash_argument.specs.Ledger.{HoldsUnder}
use Rattle.crash_stands.specs.Bounds.{bounds_of}
use Rattle.crash_stands.specs.Stands.{IsTreeOf, StandsFor}
use Rattle.lang_tree.specs.Points.{Point, points_of}
use Rattle.lang_tree.specs.Step.{session_on}
use Rattle.lang_tree.specs.Tree.{Tree}
use Rattle.lang_log.specs.History.{History, opened_with}
use Rattle.lang_log.specs.Log.{Log, IsLogOf}
use Rattle.engine_blocks.specs.Crashes.{Advances, IsBegun}
use Rattle.engine_blocks.specs.State.{Bookkeeping, State, Ticking}
use Rattle.fs_files.specs.Effects.{LooksOnly}
use Rattle.fs_session.specs.Memory.{room_of}
use Rattle.fs_session.specs.Points.{KnowsPoints, LeavesTree}
use Rattle.fs_log.specs.Keeping.{Keeps}
use Rattle.fs_log.specs.Opening.{MakesNoPoint, StandsIn}
use Rattle.cmd_session.specs.Crashes.{StandsForOne}
use Rattle.cmd_session.specs.Serving.{HasServed, IsDrawn}
use Rattle.cmd_image.specs.Steps.{IsJustMounted, mark_in}
use Rattle.cmd_image.specs.Runs.{IsRoomAtMount}
use Rattle.cmd_log.specs.Serving.{HasLogged}
use Rattle.cmd_log.specs.Steps.{KnownOpened, KnownSoFar}
use Rattle.cmd_log.proofs.Causes.{LeadsOpen}

-- The file system.

module _ (tells : Bool) (told : IsTrue tells) (first : disk.State) (s : State) (h : IsJustMounted tells first s) where
  -- what is said of the blocks once the file system was opened
  pub known_opened : (u : State) (t : Tree) → IsBegun s → LooksOnly tells false s u → IsTreeOf s.books.geom s.map t → HasServed s.books.geom t (length s.crash.log) [] [] [] u
      → IsRoomAtMount s.books.geom s.map (session_on (bounds_of s.books.geom) t) (room_of u) → KnownOpened first u
  known_opened u t begun looks tree served room =
      let held = h.on.held told in
      let geom = ap (λ (k : Bookkeeping). k.geom) looks.books in
      record {
        tree = t;
        image = record { mountable = held.mountable; stands = record { map = s.map; held = held.holds.held; tree = subst (λ (k : Geometry). IsTreeOf k s.map t) (sym held.holds.geom) tree } };
        shape = held.holds.geom ∙ sym geom;
        blocks = ap (λ (k : Bookkeeping). k.geom.n) looks.books ∙ h.on.blocks;
        base = (looks.crash told).base ∙ h.on.base told;
        manner = ap (λ (k : Ticking). k.manner) looks.counts.ticks ∙ h.on.manner;
        weight = ap (λ (k : Bookkeeping). k.running.weight) looks.books ∙ begun.weight;
        going = ap (λ (k : Bookkeeping). k.stopped) looks.books ∙ h.on.going;
        mounted = record { session = session_on (bounds_of s.books.geom) t; room = room_of u; numbers = s.books.turns };
        at_mount = record {
          session = ap (λ (k : Geometry). session_on (bounds_of k) t) (sym geom);
          room = subst (λ (k : Geometry). IsRoomAtMount k s.map (session_on (bounds_of k) t) (room_of u)) (sym geom) room;
          numbers = record { found = (h.numbers told).found; is_found = (h.numbers told).is_found; most = (h.numbers told).most };
        };
        at = record { session = served.goes_on.session; room = refl; numbers = omega (arith, ap (λ (k : Bookkeeping). k.turns) looks.books) };
        over = λ stopped. absurd (true≢false (sym stopped ∙ ap (λ (k : Bookkeeping). k.stopped) looks.books ∙ h.on.going));
        served = subst (λ (g : Geometry). HasServed g t (length u.crash.log) [] [] [] u) (sym geom)
            (subst (λ (es : List Event). HasServed s.books.geom t (length es) [] [] [] u) (sym (looks.crash told).log) served);
      }

-- The log.

module _ (first : disk.State) (s : State) (h : KnownOpened first s) where
  -- the blocks stand for the tree of the image
  pub stands_in : StandsIn s h.tree
  stands_in = h.served.goes_on.session.tree

  pub known_first : (u : State) (l : Log) (mark : Mark) → IsLogOf h.tree l → MakesNoPoint s u → HasLogged s.books.geom (length u.crash.log) l [] [] [] u → mark ≡ mark_in u → LeadsOpen h.mounted s u → KnownSoFar first [] [] (mark ∷ []) u
  known_first u l mark is time logged is_mark led =
      let opened_now : Keeps (opened_with l) u = subst (λ (k : History). Keeps k u) logged.serves.0 logged.keeps in record {
        geom = s.books.geom;
        tree = h.tree;
        image = h.image;
        shape = h.shape;
        blocks = h.blocks;
        base = time.advances.base ∙ h.base;
        opened = l;
        is_log = is;
        begun = length u.crash.log;
        moments = [];
        logged = logged;
        marked = record { first = mark; later = []; moment = ap (λ (m : Mark). m.moment) is_mark; is = refl; go = sym is_mark };
        manner = time.manner ∙ h.manner;
        among = tt;
        reasons = tt;
        causes = record {
          mounted = h.mounted;
          at_mount = h.at_mount;
          begun = led.next;
          opening = led.ran;
          is_log = opened_now.now led.next.session.tree led.is.session.tree;
          end = led.next;
          last = opened_with l;
          goes = (refl, refl);
        };
        at = led.is;
        keeps = opened_now;
        over = led.over;
      }

-- No log.

-- What fs_session says of the points of blocks behind a call.
pub record PointLaws (s u : State) : Type 0 where
  pub stays : (trees : ℕ → Tree) → Advances s u → u.books.geom ≡ s.books.geom → u.books.point ≡ s.books.point → KnowsPoints s trees → KnowsPoints u trees
  pub call : (trees : ℕ → Tree) (img : Blocks) → Advances s u → KnowsPoints u trees → u.crash.left_since (length s.crash.log) img → ∥ LeavesTree u trees s.books.floor u.books.point img ∥₁

-- a session of no command has one point
one_point : (p q : Point) (n : ℕ) → slice_get (p ∷ []) n ≡ Some q → q ≡ p
one_point p q zero is = sym (ap (λ (o : Option Point). unwrap_or o p) is)
one_point p q (suc n) is = absurd cc

module _ (first : disk.State) (s u : State) (h : KnownOpened first s) (time : MakesNoPoint s u) (drawn_by : IsDrawn u) (laws : PointLaws s u) where
  abbrev g : Geometry
  g = s.books.geom

  abbrev root : Point
  root = record { tree = h.tree; begun = 0 }

  trees_are : (p : ℕ) → p ≤ s.books.point → h.served.goes_on.trees p ≡ h.tree
  trees_are p upto =
      let has = h.served.goes_on.numbered p upto in
      sym has.tree ∙ ap (λ (q : Point). q.tree) (one_point root has.point p has.is)

  known_now : KnowsPoints u h.served.goes_on.trees
  known_now = laws.stays h.served.goes_on.trees time.advances time.geom time.point h.served.goes_on.known

  n_is : u.books.geom.n ≡ g.n
  n_is = ap (λ (k : Geometry). k.n) time.geom

  -- an image of a moment of the opening holds the map of the tree
  stands_by : (img : Blocks) → LeavesTree u h.served.goes_on.trees s.books.floor u.books.point img → StandsFor g.n img h.tree
  stands_by img left =
      let under : HoldsUnder g.n g img left.map = subst (λ (k : Geometry). HoldsUnder k.n k img left.map) time.geom (drawn_by.holds img left.map left.holds) in
      record {
        map = left.map;
        held = under.held;
        tree = subst (λ (k : Geometry). IsTreeOf k left.map h.tree) (sym under.geom)
            (subst (λ (k : Geometry). IsTreeOf k left.map h.tree) time.geom
            (subst (λ (t : Tree). IsTreeOf u.books.geom left.map t) (trees_are left.point (omega (arith, left.upto, time.point))) left.tree));
      }

  -- and one of an earlier moment stands for it as the mount left it
  stands_before : (img : Blocks) (low high : ℕ) → StandsForOne g.n img (points_of (session_on (bounds_of g) h.tree) (length s.crash.log) [] [] []) low high → StandsFor g.n img h.tree
  stands_before img low high one = subst (λ (t : Tree). StandsFor g.n img t) (ap (λ (q : Point). q.tree) (one_point root one.point one.number one.is)) one.stands

  -- each image still stands for the tree
  pub still_stands : (k : ℕ) (img : Blocks) → k ≤ length u.crash.log → IsHonest g.n u.crash.base (take k u.crash.log) img → ∥ StandsFor g.n img h.tree ∥₁
  still_stands k img upto honest = ⊎_elim during before (cases_lt (length s.crash.log) k)
    where
      during : length s.crash.log < k → ∥ StandsFor g.n img h.tree ∥₁
      during late =
          ∥∥₁_map (laws.call h.served.goes_on.trees img time.advances known_now
          (drawn_by.left (length s.crash.log) k img (omega (arith, late)) upto (subst (λ (n : ℕ). IsHonest n u.crash.base (take k u.crash.log) img) (sym n_is) honest))) (stands_by img)

      front : k ≤ length s.crash.log → take k u.crash.log ≡ take k s.crash.log
      front early = ap (λ (es : List Event). take k es) time.advances.grows.log ∙ take-append-le k s.crash.log time.advances.grows.more early

      before : k ≤ length s.crash.log → ∥ StandsFor g.n img h.tree ∥₁
      before early =
          ∥∥₁_map (h.served.crashes.each k img early (subst (λ (x : Blocks). IsHonest g.n x (take k s.crash.log) img) time.advances.base (subst (λ (es : List Event). IsHonest g.n u.crash.base es img) (front early) honest))) (stands_before img _ _)
