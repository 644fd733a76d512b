-- How a run begins: over a store that was just mounted, whose file system was opened.
use Rattle.std.proofs.Common.{◌≡◌, ℕ, ◌+◌, Bool, false, true, true≢false, IsTrue, List, [], ◌∷◌, length, take, take_all, Option, None, sym, ap, ap₂, ◌∙◌, subst, arith}
use mathlib.Core.Path.{fun_ext}
use Rattle.base_types.specs.Seal.{Blocks}
use Rattle.disk_contract.specs.declared.bay.Mark.{Mark}
use Rattle.disk_contract.specs.declared.event.Event.{Event}
use Rattle.disk_contract.specs.Cell.{has_lost}
use Rattle.disk_contract.specs.Disk as disk
use Rattle.disk_contract.specs.Disk.{writes_in}
use Rattle.disk_contract.specs.Manner.{Manner}
use Rattle.layout_geometry.specs.Geometry.{Geometry, IsGeometry}
use Rattle.crash_argument.specs.Points.{MountedSession}
use Rattle.lang_tree.specs.Step.{Session, session_on}
use Rattle.lang_tree.specs.Tree.{Tree}
use Rattle.crash_stands.specs.Bounds.{bounds_of}
use Rattle.crash_stands.specs.Stands.{IsTreeOf}
use Rattle.engine_blocks.specs.Calls.{IsSound}
use Rattle.engine_blocks.specs.Crashes.{HasLiveBlocks, HasMapOfPoint, IsBegun}
use Rattle.engine_blocks.specs.State.{Bookkeeping, State, Ticking, reusable_blocks}
use Rattle.fs_files.specs.Calls.{places_of}
use Rattle.fs_files.specs.Effects.{LooksOnly}
use Rattle.fs_session.specs.DiskRoom.{IsRoomOf}
use Rattle.fs_session.specs.Memory.{room_of}
use Rattle.fs_session.specs.Snapshots.{kept_lists}
use Rattle.fs_session.specs.Room.{left_in}
use Rattle.fs_session.specs.Serving.{room_on}
use Rattle.fs_session.specs.Sessions.{IsSession}
use Rattle.fs_session.specs.Space.{left_of}
use Rattle.cmd_session.specs.Budget.{KeepsBudget, SpendsByMarks}
use Rattle.cmd_session.specs.Going.{BeginsByLog, GoesByLog, pace_of, session_at}
use Rattle.cmd_session.specs.Pacing.{Pace}
use Rattle.cmd_session.specs.Serving.{HasServed}
use Rattle.cmd_session.specs.Taking.{nothing_taken}
use Rattle.cmd_image.specs.Runs.{IsRoomAtMount}
use Rattle.cmd_image.specs.Serves.{pace_at_mount}
use Rattle.cmd_image.specs.Steps.{IsJustMounted, KnownSoFar, SoFar, mark_in}
use Rattle.cmd_image.proofs.Rooms.{mount_stays}

-- The room of a session that begins over such a store is that of its tree.
module _ (tells : Bool) (told : IsTrue tells) (first : disk.State) (s : State) (h : IsJustMounted tells first s) (u : State) (t : Tree) (begun : IsBegun s) (looks : LooksOnly tells false s u) (session : IsSession u (session_on (bounds_of s.books.geom) t))
    (room : (f : Session) → IsSession u f → IsRoomOf u.books.geom f (room_of u)) (left : (f : Session) → IsSession u f → left_of u.books ≡ left_in u.books.geom f (room_of u)) (takeable : left_of u.books ≡ length (reusable_blocks u.books) + u.books.waiting) where
  abbrev shape : Geometry
  shape = s.books.geom

  abbrev root : Session
  root = session_on (bounds_of shape) t

  -- no block waits, so that as many may be taken as the tree leaves
  all : length (reusable_blocks u.books) ≡ left_in shape root (room_of u)
  all =
      omega (arith, ap (λ (k : Bookkeeping). k.waiting) looks.books, (h.begins told).waiting, takeable)
      ∙ left root session ∙ ap (λ (k : Bookkeeping). left_in k.geom root (room_of u)) looks.books

  pub begins_room : IsRoomAtMount shape s.map root (room_of u)
  begins_room = record {
    weight = ap (λ (k : Bookkeeping). k.running.weight) looks.books ∙ begun.weight;
    held = ap (λ (k : Bookkeeping). k.running.held) looks.books ∙ begun.held;
    is_room = subst (λ (k : Geometry). IsRoomOf k root (room_of u)) (ap (λ (k : Bookkeeping). k.geom) looks.books) (room root session);
    places = λ k. ap (λ (m : Blocks). places_of u.books.geom m k) (looks.map told) ∙ ap (λ (b : Bookkeeping). places_of b.geom s.map k) looks.books;
    kept = λ name k. ap (λ (m : Blocks). kept_lists u.books.geom m name k) (looks.map told) ∙ ap (λ (b : Bookkeeping). kept_lists b.geom s.map name k) looks.books;
    all = all;
  }

module _ (tells : Bool) (told : IsTrue tells) (first : disk.State) (s : State) (h : IsJustMounted tells first s) where
  -- What is said of the blocks once the file system was opened.
  module _ (u : State) (t : Tree) (mark : Mark) (begun : IsBegun s) (looks : LooksOnly tells false s u) (tree : IsTreeOf s.books.geom s.map t)
      (served : HasServed s.books.geom t (length s.crash.log) [] [] [] u) (budget : KeepsBudget s.books.geom t (writes_in s.crash.log + s.books.owed) [] [] u)
      (room : (f : Session) → IsSession u f → IsRoomOf u.books.geom f (room_of u)) (left : (f : Session) → IsSession u f → left_of u.books ≡ left_in u.books.geom f (room_of u)) (takeable : left_of u.books ≡ length (reusable_blocks u.books) + u.books.waiting)
      (sound : IsSound u.books) (limits : IsGeometry s.books.geom) (goes : (m : MountedSession) (base : Blocks) (how : Manner) (tree : Tree) → BeginsByLog m base how u → GoesByLog m base how (pace_of (nothing_taken (session_at m tree)) u) tree [] [] [] u) (counted : s.counts.ticks.manner.waits_alone ≡ true → s.counts.faults ≡ 0 → has_lost s.crash.log ≡ false) (is_mark : mark ≡ mark_in s) (spends : SpendsByMarks s.books.geom (session_on (bounds_of s.books.geom) t) (length u.crash.log) u.crash.log [] [] []) where
    abbrev g : Geometry
    g = s.books.geom

    abbrev f : Session
    f = session_on (bounds_of g) t

    room_first : IsRoomAtMount g s.map f (room_of u)
    room_first = begins_room tells told first s h u t begun looks served.goes_on.session room left takeable

    same_log : u.crash.log ≡ s.crash.log
    same_log = (looks.crash told).log

    abbrev mount : MountedSession
    mount = (h.numbers told).session

    same_geom : u.books.geom ≡ g
    same_geom = ap (λ (k : Bookkeeping). k.geom) looks.books

    -- no point was made
    point : u.books.point ≡ 0
    point = ap (λ (k : Bookkeeping). k.point) looks.books ∙ begun.point

    low : u.books.floor ≡ 0
    low = omega (arith, sound.floor, point)

    -- nothing is taken, and no block waits
    pace_first : pace_of (nothing_taken (session_at mount t)) u ≡ pace_at_mount first (length s.crash.log) f (room_of u)
    pace_first =
        ap₂ (λ (polls events : ℕ). record { polls = polls; events = events; over = u.books.stopped; durable = u.books.floor; taken = nothing_taken (session_at mount t); room = room_on u }) (ap (λ (k : Ticking). k.polls) looks.counts.ticks ∙ h.on.polls) (ap (λ (es : List Event). length es) same_log)
        ∙ ap₂ (λ (over : Bool) (since : ℕ → Option ℕ). record { polls = first.polls; events = length s.crash.log; over = over; durable = u.books.floor; taken = nothing_taken (session_at mount t); room = record { room = room_of u; since = since } }) (ap (λ (k : Bookkeeping). k.stopped) looks.books ∙ h.on.going) (fun_ext (λ b. ap (λ (k : Bookkeeping). k.since b) looks.books ∙ (h.begins told).since b))
        ∙ ap₂ (λ (durable : ℕ) (k : Geometry). record { polls = first.polls; events = length s.crash.log; over = false; durable = durable; taken = nothing_taken (session_on (bounds_of k) t); room = record { room = room_of u; since = λ b. None } }) low (h.numbers told).geom

    -- the map is that of point 0
    only : HasMapOfPoint u 0
    only = λ m is. subst (λ (k : Geometry). HasLiveBlocks k u.map m) (sym same_geom)
        (subst (λ (x : Blocks). HasLiveBlocks g x m) (sym (looks.map told)) ((h.begins told).only m (((looks.crash told).point 0 m).0 is)))

    -- so the run goes by the log of its disk
    begins_log : BeginsByLog mount first.base first.manner u
    begins_log =
        let numbers = h.numbers told in
        record {
          limits = subst (λ (k : Geometry). IsGeometry k) (sym numbers.geom) limits;
          of_mount = mount_stays mount first.base s u numbers.geom same_geom (omega (arith, numbers.mounted, ap (λ (es : List Event). length es) same_log)) (h.on.base told) (looks.crash told) numbers.sure numbers.records;
          manner = ap (λ (k : Ticking). k.manner) looks.counts.ticks ∙ h.on.manner;
          ended = numbers.mounted ∙ ap (λ (es : List Event). length es) (sym same_log);
          owed = ap (λ (k : Bookkeeping). k.owed) looks.books ∙ (h.begins told).owed;
          point = point;
          only = only;
          unlost = λ alone. (looks.counts.faults ∙ h.on.faults, ap has_lost same_log ∙ counted (ap (λ (x : Manner). x.waits_alone) h.on.manner ∙ alone) h.on.faults);
        }

    pub known_first : KnownSoFar first [] [] (mark ∷ []) u
    known_first =
        let held = h.on.held told in
        let numbers = h.numbers told in
        record {
          geom = g;
          tree = t;
          image = record { mountable = held.mountable; stands = record { map = s.map; held = held.holds.held; tree = subst (λ (k : Geometry). IsTreeOf k s.map t) (sym held.holds.geom) tree } };
          shape = held.holds.geom;
          base = (looks.crash told).base ∙ h.on.base told;
          mounted = length s.crash.log;
          moments = [];
          served = served;
          first_room = room_of u;
          begins = room_first;
          mount = mount;
          is_mount = record { found = numbers.found; is_found = numbers.is_found; geom = numbers.geom; epoch = numbers.epoch; mounted = numbers.mounted; first = numbers.first };
          goes = subst (λ (p : Pace). GoesByLog mount first.base first.manner p t [] [] [] u) pace_first (goes mount first.base first.manner t begins_log);
          mounts = λ alone. ap has_lost (take_all (length s.crash.log) u.crash.log (omega (arith, ap (λ (es : List Event). length es) same_log))) ∙ (begins_log.unlost alone).1;
          budget = subst (λ (n : ℕ). KeepsBudget g t n [] [] u)
              (omega (arith, (h.begins told).owed, ap (λ (es : List Event). writes_in es) (sym (ap (λ (es : List Event). take (length s.crash.log) es) same_log ∙ take_all (length s.crash.log) s.crash.log (omega arith))))) budget;
          spends = subst (λ (es : List Event). SpendsByMarks g f (length es) u.crash.log [] [] []) same_log spends;
          within = omega (arith, ap (λ (es : List Event). length es) same_log);
          marked = record {
            later = [];
            is = ap (λ (m : Mark). m ∷ []) (is_mark ∙ ap₂ (λ (r q : ℕ). record { moment = length s.crash.log; read_faults = r; faults = q }) h.on.read_faults h.on.faults);
            go = ap (λ (n : ℕ). record { moment = n; read_faults = u.counts.read_faults; faults = u.counts.faults }) (ap (λ (es : List Event). length es) same_log)
                ∙ ap₂ (λ (r q : ℕ). record { moment = length s.crash.log; read_faults = r; faults = q }) (looks.counts.read_faults ∙ h.on.read_faults) (looks.counts.faults ∙ h.on.faults);
          };
          manner = ap (λ (k : Ticking). k.manner) looks.counts.ticks ∙ h.on.manner;
          among = tt;
          reasons = tt;
          over = λ stopped. absurd (true≢false (sym stopped ∙ ap (λ (k : Bookkeeping). k.stopped) looks.books ∙ h.on.going));
          turns = s.books.turns;
          numbers = record { found = numbers.found; is_found = numbers.is_found; most = numbers.most };
          rises = omega (arith, ap (λ (k : Bookkeeping). k.turns) looks.books);
          spent = λ i none. absurd cc;
        }

pub first_so_far : (tells : Bool) (first : disk.State) (s u : State) (mark : Mark) → IsJustMounted tells first s → LooksOnly tells false s u → (IsTrue tells → KnownSoFar first [] [] (mark ∷ []) u) → SoFar tells first [] [] (mark ∷ []) u
first_so_far tells first s u mark h looks known = record { blocks = ap (λ (k : Bookkeeping). k.geom.n) looks.books ∙ h.on.blocks; known = known }
