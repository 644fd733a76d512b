-- Lemmas on what stays of a session: while blocks are read, while the pipeline settles, over a tick, and where nothing is done. The session is described in docs/FILE-SYSTEM.md.
use Rattle.std.proofs.Common.{◌≡◌, ℕ, ◌≤◌, nat_lt, Bool, false, IsTrue, List, refl, sym, subst, ap, ap₂, ◌∙◌, arith}
use Rattle.base_types.specs.Seal.{Blocks}
use Rattle.layout_geometry.specs.Geometry.{Geometry}
use Rattle.lang_tree.specs.declared.command.Cmd.{Cmd}
use Rattle.lang_tree.specs.Step.{Session}
use Rattle.lang_tree.specs.Tree.{Tree}
use Rattle.crash_stands.specs.Bounds.{bounds_of}
use Rattle.crash_stands.specs.Files.{files_of}
use Rattle.crash_stands.specs.Stands.{AreSound, IsTreeOf}
use Rattle.engine_blocks.specs.Crashes.{IssuesNothing}
use Rattle.engine_blocks.specs.Running.{Running}
use Rattle.engine_blocks.specs.Serving.{SameFreed}
use Rattle.engine_blocks.specs.State.{Bookkeeping, State}
use Rattle.fs_files.specs.Effects.{LooksAndSettles}
use Rattle.fs_files.specs.Finish.{MayGoOn}
use Rattle.fs_session.specs.Applying.{Ticks}
use Rattle.fs_session.specs.DiskRoom.{KeepsRoom}
use Rattle.fs_session.specs.declared.unused.UnusedNodes.{UnusedNodes}
use Rattle.fs_session.specs.Lists.{KeptLists}
use Rattle.fs_session.specs.Room.{Room, figures_in}
use Rattle.fs_session.specs.Sessions.{IsSession, IsBetween, AreUsedBut, Stands}

-- Where blocks and geometry are the same.
module _ (s t : State) where
  -- they stand for the same tree
  pub tree_stays : (tree : Tree) → t.books.geom ≡ s.books.geom → t.map ≡ s.map → IsTreeOf s.books.geom s.map tree → IsTreeOf t.books.geom t.map tree
  tree_stays tree g m h = subst (λ (k : Geometry). IsTreeOf k t.map tree) (sym g) (subst (λ (b : Blocks). IsTreeOf s.books.geom b tree) (sym m) h)

  pub stands_still : t.books.geom ≡ s.books.geom → t.map ≡ s.map → Stands s → Stands t
  stands_still g m stands = (stands.0, tree_stays stands.0 g m stands.1)

  -- they are sound still
  pub sound_stays : t.books.geom ≡ s.books.geom → t.map ≡ s.map → AreSound s.books.geom s.map → AreSound t.books.geom t.map
  sound_stays g m h = subst (λ (k : Geometry). AreSound k t.map) (sym g) (subst (λ (b : Blocks). AreSound s.books.geom b) (sym m) h)

  -- and the same nodes are in use
  pub others_stay : (unused : UnusedNodes) → t.books.geom ≡ s.books.geom → t.map ≡ s.map → AreUsedBut (files_of s.books.geom s.map) unused → AreUsedBut (files_of t.books.geom t.map) unused
  others_stay unused g m h = subst (λ (k : Geometry). AreUsedBut (files_of k t.map) unused) (sym g) (subst (λ (b : Blocks). AreUsedBut (files_of s.books.geom b) unused) (sym m) h)

-- The session is one of a state in which blocks, geometry, last point and weight are the same, and the floor didn't fall.
pub session_stays : (s t : State) (f : Session) → s.books.stopped ≡ false → t.books.geom ≡ s.books.geom → t.map ≡ s.map → t.books.point ≡ s.books.point → t.books.running.weight ≡ s.books.running.weight → s.books.floor ≤ t.books.floor
    → IsSession s f → IsSession t f
session_stays s t f going g m p w fl h = record {
  tree = tree_stays s t f.tree g m h.tree;
  limit = h.limit ∙ ap bounds_of (sym g);
  points = λ stopped. h.points going ∙ sym p;
  changed = λ stopped. h.changed going ∙ ap (λ n. nat_lt 0 n) (sym w);
  durable = omega (arith, h.durable, fl);
}

-- so it is after reads and a settling
pub session_settles : (tells read_failed failed : Bool) (s t : State) (f : Session) → s.books.stopped ≡ false → IsTrue tells → LooksAndSettles tells read_failed failed s t → IsSession s f → IsSession t f
session_settles tells read_failed failed s t f going told h =
    session_stays s t f going h.pipeline.geom (h.map told) h.pipeline.point (ap (λ (r : Running). r.weight) h.pipeline.running) h.pipeline.floor

-- What holds between commands holds still where blocks and geometry are the same, and a sync may follow.
pub between_stays : (tells : Bool) (s t : State) (unused : UnusedNodes) → t.books.geom ≡ s.books.geom → (IsTrue tells → t.map ≡ s.map) → MayGoOn t.books → IsBetween tells s unused → IsBetween tells t unused
between_stays tells s t unused g m goes_on h = record {
  goes_on = goes_on;
  sound = λ told. sound_stays s t g (m told) (h.sound told);
  used = λ told. others_stay s t unused g (m told) (h.used told);
}

-- so it does after reads and a settling
pub between_settles : (tells read_failed failed : Bool) (s t : State) (unused : UnusedNodes) → ((new : Bookkeeping) → new.geom ≡ s.books.geom → new.running ≡ s.books.running → MayGoOn s.books → MayGoOn new)
    → LooksAndSettles tells read_failed failed s t → IsBetween tells s unused → IsBetween tells t unused
between_settles tells read_failed failed s t unused rests h between =
    between_stays tells s t unused h.pipeline.geom h.map (rests t.books h.pipeline.geom h.pipeline.running between.goes_on) between

-- A tick leaves the session, and what holds between two commands.
module _ (tells failed : Bool) (s t : State) (h : Ticks tells failed s t) where
  pub session_ticks : (f : Session) → s.books.stopped ≡ false → IsTrue tells → IsSession s f → IsSession t f
  session_ticks f going told = session_stays s t f going h.moves.pipeline.geom (h.moves.map told) h.moves.pipeline.point (ap (λ (r : Running). r.weight) h.moves.pipeline.running) h.moves.pipeline.floor

  pub between_ticks : (unused : UnusedNodes) → ((new : Bookkeeping) → new.geom ≡ s.books.geom → new.running ≡ s.books.running → MayGoOn s.books → MayGoOn new) → IsBetween tells s unused → IsBetween tells t unused
  between_ticks unused rests between = between_stays tells s t unused h.moves.pipeline.geom h.moves.map (rests t.books h.moves.pipeline.geom h.moves.pipeline.running between.goes_on) between

  pub stands_ticks : IsTrue tells → Stands s → Stands t
  stands_ticks told stands = stands_still s t h.moves.pipeline.geom (h.moves.map told) stands

-- No event comes where nothing is done.
pub nothing_issued : (s : State) → IssuesNothing s s
nothing_issued s = record {
  base = refl;
  log = refl;
  point = λ p m. (λ x. x, λ x. x);
  left = λ t img. (λ x. x, λ x. x);
  holds = λ img m. (λ x. x, λ x. x);
  sure = λ log p. (λ x. x, λ x. x);
  records = record { told = refl; starts = λ log n. (λ x. x, λ x. x) };
  issued = λ m. (λ x. x, λ x. x);
  awaits = λ p t. (λ x. x, λ x. x);
}

-- The same blocks wait where the bookkeeping is the same.
pub freed_alike : (old new : Bookkeeping) → new ≡ old → SameFreed old new
freed_alike old new e = record { reusable = λ b at. ap (λ (k : Bookkeeping). k.reusable b) e; since = λ b at. ap (λ (k : Bookkeeping). k.since b) e }

-- in a room whose lists stayed a command has the same figures
pub figures_stay : (g : Geometry) (f : Session) (old new : Room) (cmd : Cmd) → KeepsRoom old new → figures_in g f new cmd ≡ figures_in g f old cmd
figures_stay g f old new cmd keeps = ap₂ (λ (places : ℕ → List ℕ) (kept : KeptLists). figures_in g f (record old { places = places; kept = kept }) cmd) keeps.places keeps.kept
