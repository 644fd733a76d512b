-- A store that was just mounted, and of which the file system was opened: the image stands for a tree, so that it may be looked at, or that a tree may be made there.
use Rattle.std.proofs.Common.{◌≡◌, inl, ℕ, ◌+◌, ◌-◌, ◌*◌, ◌^◌, ◌≤◌, Bool, false, IsTrue, List, [], length, slice_get, Some, refl, sym, ap, ◌∙◌, subst, arith}
use Rattle.std.proofs.lemmas.Option.{none-some}
use Rattle.base_types.specs.Seal.{Blocks}
use Rattle.disk_contract.specs.declared.event.Event.{Event}
use Rattle.disk_contract.specs.Cell.{cell_of}
use Rattle.disk_contract.specs.Disk as disk
use Rattle.disk_contract.specs.Disk.{writes_in}
use Rattle.layout_geometry.specs.Geometry.{Geometry}
use Rattle.layout_journal.specs.declared.header.Header.{Header}
use Rattle.layout_journal.specs.Run.{IsRun, Newest, Record}
use Rattle.engine_recover.specs.Search.{IsFound, last_number}
use Rattle.engine_mount.specs.Mount.{settled_on}
use Rattle.lang_tree.specs.declared.command.Refusal.TheVariants.{DiskFault}
use Rattle.lang_tree.specs.declared.command.Reply.TheVariants.{Refused}
use Rattle.lang_tree.specs.Step.{session_on, start}
use Rattle.lang_tree.specs.Tree.{Tree}
use Rattle.lang_making.specs.Making.{paths_made}
use Rattle.crash_stands.specs.Bounds.{bounds_of}
use Rattle.crash_stands.specs.Stands.{IsTreeOf, StandsFor}
use Rattle.engine_blocks.specs.State.{Bookkeeping, State}
use Rattle.crash_argument.specs.Ledger.{HoldsUnder}
use Rattle.engine_store.specs.Mounting.{BeginsWith, GoesOnFrom}
use Rattle.fs_files.specs.Effects.{LooksOnly}
use Rattle.fs_session.specs.Memory.{room_of}
use Rattle.cmd_session.specs.Images.{StandsMounted}
use Rattle.cmd_session.specs.Serving.{HasServed}
use Rattle.cmd_image.specs.Makes.{IsFormattedImage}
use Rattle.cmd_image.specs.Mounted.{IsMountedOn}
use Rattle.cmd_image.specs.Runs.{IsRoomAtMount}
use Rattle.cmd_image.specs.Steps.{IsJustMounted}
use Rattle.cmd_upgrade.specs.Lacks.{IsRoomAtFirst}
use Rattle.cmd_upgrade.specs.Looked.{HasMade, IsLookedAt, RaisesBy}
use Rattle.cmd_upgrade.specs.Upgrades.{LooksUseNumbersUp}

-- what a mount says, put together
pub just_mounted : (tells : Bool) (first : disk.State) (s : State) → IsMountedOn tells false first s → (IsTrue tells → (g : Geometry) (m : Blocks) → HoldsUnder first.blocks g first.base m → BeginsWith g m s)
    → (IsTrue tells → GoesOnFrom first s) → IsJustMounted tells first s
just_mounted tells first s on begins numbers = record { on = on; begins = λ told. begins told s.books.geom s.map (on.held told).holds; numbers = numbers }

module _ (tells : Bool) (told : IsTrue tells) (first : disk.State) (s : State) (h : IsJustMounted tells first s) where
  module _ (t : Tree) (tree : IsTreeOf s.books.geom s.map t) where
    -- the image stands for the tree of the blocks
    pub opened_stands : StandsMounted first.blocks first.base t
    opened_stands =
        let held = h.on.held told in
        record { mountable = held.mountable; stands = record { map = s.map; held = held.holds.held; tree = subst (λ (k : Geometry). IsTreeOf k s.map t) (sym held.holds.geom) tree } }

    -- nothing was asked yet
    pub opened_looked_at : (u : State) → LooksOnly tells false s u → HasServed s.books.geom t (length s.crash.log) [] [] [] u → IsLookedAt first t u
    opened_looked_at u looks served = record {
      geom = s.books.geom;
      stands = opened_stands;
      size = h.on.blocks;
      base = (looks.crash told).base ∙ h.on.base told;
      mounted = length s.crash.log;
      cmds = [];
      replies = [];
      marks = [];
      served = served;
      looks = refl;
      writes = omega (arith, h.on.written told, (h.begins told).owed, ap (λ (es : List Event). writes_in es) (looks.crash told).log, ap (λ (k : Bookkeeping). k.owed) looks.books);
      over = inl (λ i none. absurd (none-some (Refused DiskFault) none));
    }

  -- where the numbers are used up in the end, the looks may have done that
  pub used_up : (u now : State) (t : Tree) → LooksOnly tells false s u → s.books.geom.i ≤ 65536 → RaisesBy (u.books.geom.i + 16385 * length (paths_made t.names)) u now → 2 ^ 63 - 8 ≤ now.books.turns → LooksUseNumbersUp first t
  used_up u now t looks low raises ends = record {
    turns = s.books.turns;
    numbers = let found = h.numbers told in record { found = found.found; is_found = found.is_found; most = found.most };
    spent = omega (arith, low, raises, ends, ap (λ (k : Bookkeeping). k.turns) looks.books, ap (λ (k : Bookkeeping). k.geom.i) looks.books);
  }

  -- The disk was formatted in this geometry: the blocks have it, only the root is there, and the journal's numbers begin.
  module _ (g : Geometry) (formatted : IsFormattedImage g first.blocks first.base) (empty : first.log ≡ []) (newest : (slot : ℕ) (k : Header) → Newest first.blocks first.base slot k → k.geom ≡ g)
      (numbers : (slot : ℕ) (k : Header) (rs : List Record) → Newest first.blocks first.base slot k → IsRun first.base k rs → (k.turn ≡ 1) × (last_number k (length rs) ≡ 0))
      (alone : (u v : Tree) → StandsFor first.blocks first.base u → StandsFor first.blocks first.base v → u ≡ v) where
    formatted_geom : s.books.geom ≡ g
    formatted_geom = let held = (h.on.held told).holds in sym held.geom ∙ newest held.held.slot held.held.header held.held.newest

    formatted_tree : (t : Tree) → IsTreeOf s.books.geom s.map t → t ≡ (start (bounds_of g)).tree
    formatted_tree t tree = alone t (start (bounds_of g)).tree (opened_stands t tree).stands formatted.stands.stands

    settled_is : settled_on first ≡ first.base
    settled_is = ap (λ (es : List Event). λ (b : ℕ). (cell_of first.base es b).settled) empty

    low_turns : s.books.turns ≤ 3
    low_turns =
        let found = (h.numbers told).is_found.is_found in
        let run = (h.numbers told).found.run in
        let is = subst (λ (x : Blocks). IsFound first.blocks x run) settled_is found in
        let low = numbers run.slot run.header run.records is.newest is.is_run in
        omega (arith, (h.numbers told).most, low.0, low.1)

    -- no command of the making was done yet
    module _ (t : Tree) (tree : IsTreeOf s.books.geom s.map t) (u : State) (looks : LooksOnly tells false s u) (served : HasServed s.books.geom t (length s.crash.log) [] [] [] u)
        (room : IsRoomAtMount s.books.geom s.map (session_on (bounds_of s.books.geom) t) (room_of u)) where
      begun : HasServed g (start (bounds_of g)).tree (length s.crash.log) [] [] [] u
      begun = subst (λ (k : Geometry). HasServed k (start (bounds_of g)).tree (length s.crash.log) [] [] [] u) formatted_geom
          (subst (λ (v : Tree). HasServed s.books.geom v (length s.crash.log) [] [] [] u) (formatted_tree t tree) served)

      at_first : IsRoomAtFirst g (start (bounds_of g)) (room_of u)
      at_first = subst (λ (k : Geometry). IsRoomAtFirst k (session_on (bounds_of k) (start (bounds_of g)).tree) (room_of u)) formatted_geom
          (subst (λ (v : Tree). IsRoomAtFirst s.books.geom (session_on (bounds_of s.books.geom) v) (room_of u)) (formatted_tree t tree)
          (record { weight = room.weight; held = room.held; is_room = room.is_room; all = room.all }))

      pub begins_making : HasMade g [] u
      begins_making = record {
        mounted = length s.crash.log;
        cmds = [];
        replies = [];
        marks = [];
        served = begun;
        tree = refl;
        calm = λ i none. absurd (none-some (Refused DiskFault) none);
        done = refl;
        few = omega arith;
        rises = omega (arith, low_turns, ap (λ (k : Bookkeeping). k.turns) looks.books);
        first = room_of u;
        begins = at_first;
        end = start (bounds_of g);
        is_end = begun.goes_on.session;
        rooms = (refl, refl);
      }
