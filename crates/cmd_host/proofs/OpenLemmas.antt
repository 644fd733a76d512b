-- What comes of opening the file system of a store that was just mounted on a formatted disk: the root alone stands in it, and nothing is taken.
use Rattle.std.proofs.Common.{◌≡◌, ℕ, ◌+◌, ◌*◌, ◌/◌, ◌%◌, ◌^◌, ◌<◌, ◌≤◌, ◌==◌, ◌||◌, nat_lt, Bool, true, false, IsTrue, List, [], ◌∷◌, length, get_or, Some, refl, sym, ap, ◌∙◌, subst, arith}
use Rattle.std.proofs.lemmas.Bool.{and_from, cond-true, le-leb, lt-ltb, le-ltb}
use Rattle.std.specs.Int.{bit_at}
use Rattle.base_types.specs.Seal.{Blocks}
use Rattle.disk_contract.specs.declared.event.Event.{Event}
use Rattle.disk_contract.specs.Cell.{cell_of, notices, has_lost}
use Rattle.disk_contract.specs.Disk as disk
use Rattle.disk_contract.specs.Disk.{writes_in}
use Rattle.disk_contract.specs.Lawful.{IsLogOf}
use Rattle.disk_contract.specs.Crash.{Window}
use Rattle.disk_contract.specs.Manner.{Manner, GoesBy}
use Rattle.layout_geometry.specs.Geometry.{Geometry, IsGeometry, bitmap_start, bitmap_blocks, data_start}
use Rattle.layout_bytes.specs.Bitmap.{is_set}
use Rattle.layout_journal.specs.Formatted.{formatted}
use Rattle.layout_journal.specs.declared.header.Header.{Header}
use Rattle.layout_journal.specs.Layout.{header_of}
use Rattle.layout_journal.specs.Run.{is_live, live_part}
use Rattle.lang_tree.specs.Step.{start}
use Rattle.crash_stands.specs.Bounds.{bounds_of}
use Rattle.crash_stands.specs.Stands.{IsTreeOf}
use Rattle.crash_argument.specs.Ledger.{HoldsUnder}
use Rattle.crash_argument.specs.Opening.{WritesOne}
use Rattle.crash_argument.specs.Points as points
use Rattle.engine_blocks.specs.Crashes.{HasLiveBlocks, HasMapOfPoint}
use Rattle.engine_blocks.specs.State.{Bookkeeping, State, Ticking}
use Rattle.fs_files.specs.Effects.{LooksOnly}
use Rattle.fs_session.specs.Memory.{HasNoBlocks, room_of}
use Rattle.fs_session.specs.Room.{IsFirstRoom}
use Rattle.cmd_session.specs.Budget.{KeepsBudget}
use Rattle.cmd_session.specs.Going.{IsOfMount}
use Rattle.cmd_session.specs.Serving.{HasServed, IsMountedWith}
use Rattle.cmd_host.specs.Disks.{IsMounted, IsOpened, ShowsRoot}
use Rattle.cmd_host.specs.Behaving.{session_by}
use Rattle.cmd_host.specs.Mounts.{MountsOnce}
use Rattle.cmd_host.proofs.Mounts.{header_by, once_by}

-- The bitmap of the formatted disk's live blocks.
module _ (g : Geometry) (limits : IsGeometry g) (bits : (b : ℕ) → b < 8192 * bitmap_blocks g → is_set g (formatted g) b ≡ nat_lt b (data_start g)) where
  -- the blocks of the bitmap are live
  bitmap_live : (b : ℕ) → bitmap_start g ≤ b → b < data_start g → live_part g (formatted g) b ≡ formatted g b
  bitmap_live b from below = cond-true (is_live g (formatted g) b) (formatted g b) []
      (and_from _ _ (le-leb _ _ from) (and_from _ _ (lt-ltb b g.n (omega (arith, below, limits.data_room))) (ap (λ t. t || is_set g (formatted g) b) (lt-ltb _ _ below))))

  -- no data block is set
  unset : (b : ℕ) → data_start g ≤ b → b < g.n → is_set g (live_part g (formatted g)) b ≡ false
  unset b from below =
      ap (λ (x : List ℕ). bit_at (get_or x (b % 8192 / 8) 0) (b % 8) == 1) (bitmap_live (bitmap_start g + b / 8192) (omega arith) (omega (arith, below)))
      ∙ bits b (omega (arith, below)) ∙ le-ltb b (data_start g) from

  pub has_none : (s t : State) → IsMounted g s → LooksOnly true false s t → HasNoBlocks t
  has_none s t is looks =
      subst (λ (k : Geometry). (b : ℕ) → data_start k ≤ b → b < k.n → is_set k t.map b ≡ false) (sym (ap (λ (k : Bookkeeping). k.geom) looks.books ∙ is.begins.geom))
      (subst (λ (m : Blocks). (b : ℕ) → data_start g ≤ b → b < g.n → is_set g m b ≡ false) (sym (looks.map refl ∙ is.begins.map)) unset)

-- a first write that was accepted is one that may be
first_accepted : (m : Manner) (log : List Event) → WritesOne [] log → GoesBy m log → IsTrue (m.accepts [])
first_accepted m log one goes = (subst (λ (es : List Event). GoesBy m es) one.log goes).0

-- it is all that was written
one_unlost : (log : List Event) → WritesOne [] log → has_lost log ≡ false
one_unlost log one = ap has_lost one.log ∙ heard one.noticed
  where
    heard : (ts : List ℕ) → has_lost (notices ts) ≡ false
    heard [] = refl
    heard (t ∷ ts) = heard ts

module _ (g : Geometry) (s : State) (is : IsMounted g s) where
  -- the blocks are mounted with the formatted disk's live blocks
  pub mounted_with : IsMountedWith g (live_part g (formatted g)) s
  mounted_with = record { geom = is.begins.geom; map = is.begins.map; only = is.begins.only; images = is.shows.images }

  -- the root alone stands in them
  pub root_stands : IsTreeOf g (live_part g (formatted g)) (start (bounds_of g)).tree → IsTreeOf s.books.geom s.map (start (bounds_of g)).tree
  root_stands tree = subst (λ (k : Geometry). IsTreeOf k s.map (start (bounds_of g)).tree) (sym is.begins.geom) (subst (λ (m : Blocks). IsTreeOf g m (start (bounds_of g)).tree) (sym is.begins.map) tree)

  -- a disk that was only looked at shows the same
  pub still_shows : (failed : Bool) (t : State) → LooksOnly true failed s t → ShowsRoot g t
  still_shows failed t looks =
      let crash = looks.crash refl in
      record {
        geom = ap (λ (k : Bookkeeping). k.geom) looks.books ∙ is.begins.geom;
        base = λ b low. ap (λ (x : Blocks). x b) crash.base ∙ is.shows.base b low;
        images = subst (λ (x : Blocks). Window g.n x t.crash.log 0 (λ img. HoldsUnder g.n g img (live_part g (formatted g)))) (sym crash.base)
            (subst (λ (log : List Event). Window g.n s.crash.base log 0 (λ img. HoldsUnder g.n g img (live_part g (formatted g)))) (sym crash.log) is.shows.images);
        first = subst (λ (es : List Event). WritesOne [] es) (sym crash.log) is.shows.first;
      }

  pub nothing_waits : (t : State) → LooksOnly true false s t → t.books.waiting ≡ 0
  nothing_waits t looks = ap (λ (k : Bookkeeping). k.waiting) looks.books ∙ is.begins.waiting

  -- all that is known of the file system
  pub opened_with : (t : State) → LooksOnly true false s t → HasServed g (start (bounds_of g)).tree (length s.crash.log) [] [] [] t → KeepsBudget s.books.geom (start (bounds_of g)).tree (writes_in s.crash.log + s.books.owed) [] [] t
      → IsFirstRoom t.books.geom (room_of t) → IsLogOf t.books.geom.n t.crash.log → length t.crash.log < 2 ^ 64 → GoesBy t.counts.ticks.manner t.crash.log → t.books.floor ≤ t.books.point → IsOpened (record { shape = g; manner = s.counts.ticks.manner }) t
  opened_with t looks served budget room lawful events goes low =
      let crash = looks.crash refl in
      let geom : t.books.geom ≡ g = ap (λ (k : Bookkeeping). k.geom) looks.books ∙ is.begins.geom in
      let goes_now = subst (λ (m : Manner). GoesBy m t.crash.log) (ap (λ (k : Ticking). k.manner) looks.counts.ticks) goes in
      let first : WritesOne [] t.crash.log = subst (λ (es : List Event). WritesOne [] es) (sym crash.log) is.shows.first in
      let others : (b : ℕ) (h : Header) → b < 2 → header_of g.n (t.crash.base b) ≡ Some h → h.epoch ≤ 1 = λ b h low stands.
      is.opened.others b h low (ap (header_of g.n) (sym (ap (λ (x : Blocks). x b) crash.base ∙ is.shows.base b (omega (arith, low, is.opened.mounted.shape)))) ∙ stands) in
      let once_now : MountsOnce g t.crash.log = header_by g t.crash.base t.crash.log is.opened.slot is.opened.header (once_by t.crash.log lawful.lawful first)
      (subst (λ (x : Blocks). points.IsMounted (cell_of x t.crash.log) g is.opened.slot is.opened.header) (sym crash.base) (subst (λ (es : List Event). points.IsMounted (cell_of s.crash.base es) g is.opened.slot is.opened.header) (sym crash.log) is.opened.mounted))
      is.opened.first others in
      let only_now : HasMapOfPoint t 0 = λ m point. subst (λ (k : Geometry). HasLiveBlocks k t.map m) (ap (λ (k : Bookkeeping). k.geom) (sym looks.books))
      (subst (λ (x : Blocks). HasLiveBlocks s.books.geom x m) (sym (looks.map refl)) (is.begins.only m ((crash.point 0 m).0 point))) in
      let mount_now : IsOfMount (session_by g (length t.crash.log)) (formatted g) s = subst (λ (n : ℕ). IsOfMount (session_by g n) (formatted g) s) (ap (λ (es : List Event). length es) (sym crash.log)) is.of_mount in
      let writes : writes_in s.crash.log + s.books.owed ≡ writes_in t.crash.log = omega (arith, is.begins.owed, ap (λ (es : List Event). writes_in es) crash.log) in
      record {
        served = subst (λ (n : ℕ). HasServed g (start (bounds_of g)).tree n [] [] [] t) (ap (λ (es : List Event). length es) (sym crash.log)) served;
        budget = subst (λ (k : Geometry). KeepsBudget k (start (bounds_of g)).tree (writes_in t.crash.log) [] [] t) is.begins.geom (subst (λ (n : ℕ). KeepsBudget s.books.geom (start (bounds_of g)).tree n [] [] t) writes budget);
        room = subst (λ (k : Geometry). IsFirstRoom k (room_of t)) geom room;
        base = λ b low. ap (λ (x : Blocks). x b) crash.base ∙ is.shows.base b low;
        lawful = subst (λ (k : Geometry). IsLogOf k.n t.crash.log) geom lawful;
        events = events;
        polls = ap (λ (k : Ticking). k.polls) looks.counts.ticks ∙ is.polls;
        manner = ap (λ (k : Ticking). k.manner) looks.counts.ticks;
        writes = goes_now;
        opens = first_accepted s.counts.ticks.manner t.crash.log first goes_now;
        faults = looks.counts.faults ∙ is.faults;
        alone = is.alone;
        unlost = one_unlost t.crash.log first;
        once = once_now;
        only = only_now;
        turns = omega (arith, ap (λ (k : Bookkeeping). k.turns) looks.books, is.turns);
        owed = ap (λ (k : Bookkeeping). k.owed) looks.books ∙ is.begins.owed;
        floor = omega (arith, low, ap (λ (k : Bookkeeping). k.point) looks.books, is.begun.point);
        since = λ b. ap (λ (k : Bookkeeping). k.since b) looks.books ∙ is.begins.since b;
        of_mount = record {
          geom = mount_now.geom ∙ ap (λ (k : Bookkeeping). k.geom) (sym looks.books);
          late = omega arith;
          alike = λ b low. ap (λ (x : Blocks). x b) crash.base ∙ mount_now.alike b low;
          sure = λ front p. let now = crash.sure front p in let was = mount_now.sure front p in (λ x. was.0 (now.0 x), λ x. now.1 (was.1 x));
          records = record {
            told = crash.records.told ∙ mount_now.records.told;
            starts = λ front n. let now = crash.records.starts front n in let was = mount_now.records.starts front n in (λ x. was.0 (now.0 x), λ x. now.1 (was.1 x));
          };
        };
      }
