-- What comes of the mount of a disk that was just formatted, by what a mount, a store and a file system say of any disk.
use Rattle.std.proofs.Common.{◌≡◌, inl, inr, ℕ, ◌+◌, ◌^◌, ◌<◌, ◌≤◌, max, Bool, true, IsTrue, List, [], Option, ◌∷◌, ◌++◌, length, take, refl, sym, ap, ap₂, ◌∙◌, subst, arith, Some}
use Rattle.std.proofs.Math.Logic.{∥∥₁_map}
use Rattle.base_types.specs.Seal.{Blocks, sha256}
use Rattle.disk_contract.specs.declared.event.Event.{Event}
use Rattle.disk_contract.specs.declared.event.Event.TheVariants.{Lost}
use Rattle.disk_contract.specs.Cell.{Cell, cell_of}
use Rattle.disk_contract.specs.Crash.{IsHonest, MayHold, IsTorn, Window}
use Rattle.disk_contract.specs.Disk as disk
use Rattle.disk_contract.specs.Lawful.{IsLogOf}
use Rattle.disk_contract.specs.Manner.{Manner, GoesBy}
use Rattle.layout_geometry.specs.Geometry.{Geometry, data_start}
use Rattle.layout_journal.specs.declared.record.Commit.{Commit}
use Rattle.layout_journal.specs.Formatted.{formatted}
use Rattle.layout_journal.specs.declared.header.Header.{Header}
use Rattle.layout_journal.specs.Run.{Newest, HeldIs, Record, live_part}
use Rattle.lang_tree.specs.Step.{start, session_on}
use Rattle.lang_tree.specs.Tree.{Tree}
use Rattle.crash_stands.specs.Bounds.{bounds_of}
use Rattle.crash_stands.specs.Stands.{IsTreeOf, StandsFor}
use Rattle.crash_argument.specs.Ledger.{HoldsUnder}
use Rattle.crash_argument.specs.Opening.{StopsAtOne, WritesOne}
use Rattle.crash_argument.specs.Points as points
use Rattle.engine_recover.specs.Epoch.{IsGreatestEpoch}
use Rattle.engine_recover.specs.Search.{IsFound, last_number}
use Rattle.engine_mount.specs.Mount.{HasNothingToReplay, IsIdle, IsUsedUp, settled_on}
use Rattle.engine_blocks.specs.State.{State}
use Rattle.engine_store.specs.declared.refusal.StoreRefusal.TheVariants.{NoHeader, BadBit, Spent}
use Rattle.engine_store.specs.Mounting.{GoesOnFrom, HasOpened, LeavesDisk}
use Rattle.engine_store.specs.Refusal.{RefusalSays}
use Rattle.engine_store.specs.SessionView.{IsSure, Starts}
use Rattle.cmd_session.specs.Crashes.{LeavesPoints, IsCrashConsistent}
use Rattle.cmd_session.specs.Going.{IsOfMount}
use Rattle.disk_memory.specs.MemDisk.{MemDiskState, state_of as disk_state}
use Rattle.cmd_host.specs.declared.disk.Behaviour.{Behaviour}
use Rattle.cmd_host.specs.Behaving.{MountFails, session_by}
use Rattle.cmd_host.specs.Disks.{BeganFormatted, IsFormatted, IsFormattedDisk, HasFault, HoldsRoot, FailedToMount, OpensAtMost, StandsOpened, setting_on}
use Rattle.cmd_host.proofs.FormattedFound.{HasLaws, first_epoch, found_header, found_records, has_header, header_epoch, low_epoch, not_used_up, no_bad_bit}
use Rattle.cmd_host.proofs.Mounts.{at_most_by, stopped_at}
use Rattle.cmd_host.proofs.Sureness.{starts_then, sure_then}

-- what laws of other crates say of the formatted disk's live blocks, and of each image that has them
pub record HasRoot (g : Geometry) : Type 0 where
  pub held : (img : Blocks) → ((b : ℕ) → b < g.n → img b ≡ formatted g b) → HoldsUnder g.n g img (live_part g (formatted g))
  pub tree : IsTreeOf g (live_part g (formatted g)) (start (bounds_of g)).tree
  pub one : (n : ℕ) (img : Blocks) (t u : Tree) → StandsFor n img t → StandsFor n img u → t ≡ u

-- from the law of the formatted disk, whose blocks before the data are among those of the disk
pub held_by : (g : Geometry) → data_start g ≤ g.n → ((img : Blocks) → ((b : ℕ) → b < data_start g → img b ≡ formatted g b) → (held : HeldIs g.n img (live_part g (formatted g))) × (held.header.geom ≡ g))
    → (img : Blocks) → ((b : ℕ) → b < g.n → img b ≡ formatted g b) → HoldsUnder g.n g img (live_part g (formatted g))
held_by g room law img same = let both = law img (λ b low. same b (omega (arith, low, room))) in record { held = both.0; geom = both.1 }

-- an event isn't none
none_lost : (before : List Event) (e : Event) → [] ≡ before ++ e ∷ [] → ⊥
none_lost [] e is = absurd cc
none_lost (x ∷ before) e is = absurd cc

-- Images that are alike are left by crashes of disks that began alike.

cell_alike : (base other : Blocks) (log : List Event) (b : ℕ) → base b ≡ other b → cell_of base log b ≡ cell_of other log b
cell_alike base other log b same = ap (λ (x : List ℕ). cell_of (λ _. x) log b) same

honest_alike : (n : ℕ) (base other : Blocks) (log : List Event) (img : Blocks) → ((b : ℕ) → b < n → base b ≡ other b) → IsHonest n base log img → IsHonest n other log img
honest_alike n base other log img same h = record {
  leaves = λ b low. subst (λ (c : Cell). MayHold c (img b)) (cell_alike base other log b (same b low)) (h.leaves b low);
  unsealed = λ b low torn. h.unsealed b low (subst (λ (c : Cell). IsTorn c (img b)) (sym (cell_alike base other log b (same b low))) torn);
  like_base = λ b c low below e. h.like_base b c low below (e ∙ ap sha256 (sym (same c below))) ∙ same c below;
  like_written = h.like_written;
}

-- An image that holds a map under this geometry stands for the tree for which the map does.
pub stands_by : (g : Geometry) (img m : Blocks) (t : Tree) → HoldsUnder g.n g img m → IsTreeOf g m t → StandsFor g.n img t
stands_by g img m t h tree = record { map = m; held = h.held; tree = subst (λ (k : Geometry). IsTreeOf k m t) (sym h.geom) tree }

module _ (g : Geometry) (root : HasRoot g) where
  pub all_stand : (base : Blocks) (log : List Event) → Window g.n base log 0 (λ img. HoldsUnder g.n g img (live_part g (formatted g))) → Window g.n base log 0 (λ img. StandsFor g.n img (start (bounds_of g)).tree)
  all_stand base log w = record { each = λ k img from upto honest. stands_by g img (live_part g (formatted g)) (start (bounds_of g)).tree (w.each k img from upto honest) root.tree }

  -- so a run of no commands is crash consistent
  pub consistent_by : (base : Blocks) (log : List Event) → ((b : ℕ) → b < g.n → base b ≡ formatted g b) → Window g.n base log 0 (λ img. StandsFor g.n img (start (bounds_of g)).tree) → IsCrashConsistent g.n (bounds_of g) (formatted g) log (length log) [] [] []
  consistent_by base log same w = record { points = points; none = λ none. absurd (none (start (bounds_of g)).tree first) }
    where
      first : StandsFor g.n (formatted g) (start (bounds_of g)).tree
      first = stands_by g (formatted g) (live_part g (formatted g)) (start (bounds_of g)).tree (root.held (formatted g) (λ b low. refl)) root.tree

      points : (t : Tree) → StandsFor g.n (formatted g) t → LeavesPoints g.n (formatted g) (session_on (bounds_of g) t) log (length log) [] [] []
      points t stands = record {
        each = λ k img upto honest. ∣ record {
          number = 0;
          point = record { tree = t; begun = 0 };
          from = omega arith;
          upto = omega arith;
          is = refl;
          stands = subst (λ (u : Tree). StandsFor g.n img u) (root.one g.n (formatted g) (start (bounds_of g)).tree t first stands) (w.each k img (omega arith) upto (honest_alike g.n (formatted g) base (take k log) img (λ b low. sym (same b low)) honest));
        } ∣₁;
      }

  -- what a failed mount leaves
  pub fails_with : (d : disk.State) → HoldsRoot g d → HasFault d → IsLogOf d.blocks d.log → length d.log < 2 ^ 64 → GoesBy d.manner d.log → (0 < d.read_faults → d.manner.reads_fail ≡ true) → FailedToMount (record { shape = g; manner = d.manner }) d
  fails_with d h fault lawful events writes reads =
      let stand = all_stand d.base d.log h.images in
      record {
        began = h.began;
        images = stand;
        consistent = consistent_by d.base d.log h.began.base stand;
        lawful = subst (λ (n : ℕ). IsLogOf n d.log) h.began.size lawful;
        events = events;
        writes = writes;
        cause = by fault;
        most = at_most_by d.log lawful.lawful h.most;
      }
    where
      -- nothing came, so that the call that failed was a first write, or a poll or a wait
      by_none : d.log ≡ [] → disk.HasFailed d → MountFails d.manner d.log
      by_none none (inl lost) = absurd (none_lost lost.before (Lost lost.block lost.bytes) (sym none ∙ lost.is))
      by_none none (inr (inl full)) = inr (inr (inl (subst (λ (es : List Event). IsTrue (d.manner.refuses es)) none full)))
      by_none none (inr (inr stalls)) = inr (inl stalls)

      by_stop : disk.HasFailed d → StopsAtOne d.manner [] d.log → MountFails d.manner d.log
      by_stop failed (inl none) = by_none none failed
      by_stop failed (inr (inl lost)) = inr (inr (inr (lost, (subst (λ (es : List Event). GoesBy d.manner es) lost.log writes).0)))
      by_stop failed (inr (inr stalled)) = inr (inl stalled.1)

      by : HasFault d → MountFails d.manner d.log
      by (inl unread) = inl (reads unread)
      by (inr failed) = by_stop failed.0 failed.1

  -- A disk that was just formatted.
  module _ (laws : HasLaws g) (d : disk.State) (is : IsFormatted g d) where
    settled_same : (b : ℕ) → b < g.n → settled_on d b ≡ formatted g b
    settled_same b low = ap (λ (log : List Event). (cell_of d.base log b).settled) is.nothing ∙ is.began.base b low

    pub idle : IsIdle d
    idle b = ap (λ (log : List Event). (cell_of d.base log b).pending) is.nothing

    pub holds : HoldsUnder d.blocks g (settled_on d) (live_part g (formatted g))
    holds = subst (λ (n : ℕ). HoldsUnder n g (settled_on d) (live_part g (formatted g))) (sym is.began.size) (root.held (settled_on d) settled_same)

    -- no mount refuses it for what is on it
    pub header_found : (new : disk.State) → RefusalSays d new NoHeader → ⊥
    header_found new says = has_header g laws (settled_on d) settled_same (subst (λ (n : ℕ). (slot : ℕ) (h : Header) → ¬ Newest n (settled_on d) slot h) is.began.size says.0)

    pub bits_good : (new : disk.State) (b : ℕ) → RefusalSays d new (BadBit b) → ⊥
    bits_good new b says = no_bad_bit g laws (settled_on d) settled_same says.0.found.run b (subst (λ (n : ℕ). IsFound n (settled_on d) says.0.found.run) is.began.size says.0.left.is_found.is_found) says.0.bad.bad

    pub unspent : (new : disk.State) → RefusalSays d new Spent → ⊥
    unspent new says = not_used_up g laws (settled_on d) settled_same (subst (λ (n : ℕ). IsUsedUp n (settled_on d)) is.began.size says.0)

    -- and whatever comes of it, each honest image holds the formatted disk's live blocks
    left_began : (unread faulty : Bool) (new : disk.State) → LeavesDisk true unread faulty d new → BeganFormatted g new
    left_began unread faulty new left = record {
      size = left.spends.same.blocks ∙ is.began.size;
      base = λ b low. ap (λ (x : Blocks). x b) left.spends.same.base ∙ is.began.base b low;
    }

    left_images : (unread faulty : Bool) (new : disk.State) → LeavesDisk true unread faulty d new → Window g.n new.base new.log 0 (λ img. HoldsUnder g.n g img (live_part g (formatted g)))
    left_images unread faulty new left =
        let w : Window d.blocks d.base new.log (length d.log) (λ img. HoldsUnder d.blocks g img (live_part g (formatted g))) = left.holds refl g (live_part g (formatted g)) holds in
        record {
          each = λ k img from upto honest.
              subst (λ (n : ℕ). HoldsUnder n g img (live_part g (formatted g))) is.began.size
              (w.each k img (omega (arith, ap (λ (es : List Event). length es) is.nothing)) upto
              (subst (λ (n : ℕ). IsHonest n d.base (take k new.log) img) (sym is.began.size)
              (subst (λ (x : Blocks). IsHonest g.n x (take k new.log) img) left.spends.same.base honest)));
        }

    -- a fault stopped it, which was counted, or which the disk's manner lets be
    pub left_unread : (faulty : Bool) (new : disk.State) → LeavesDisk true true faulty d new → HasFault new
    left_unread faulty new left = inl (omega (arith, left.spends.read_faults))

    pub left_faulty : (unread : Bool) (new : disk.State) → LeavesDisk true unread true d new → StopsAtOne d.manner d.log new.log → HasFault new
    left_faulty unread new left stops = inr (
      left.cause refl refl,
      subst (λ (m : Manner). StopsAtOne m [] new.log) (sym left.spends.same.manner) (subst (λ (es : List Event). StopsAtOne d.manner es new.log) is.nothing stops),
    )

    -- its mount has nothing to replay, and begins with small numbers
    pub nothing_to_replay : HasNothingToReplay d
    nothing_to_replay f found = found_records g laws (settled_on d) settled_same f.run (subst (λ (n : ℕ). IsFound n (settled_on d) f.run) is.began.size found.is_found)

    pub few_turns : (s : State) → GoesOnFrom d s → s.books.turns ≤ 3
    few_turns s from =
        let found = subst (λ (n : ℕ). IsFound n (settled_on d) from.found.run) is.began.size from.is_found.is_found in
        let header = found_header g laws (settled_on d) settled_same from.found.run found in
        let records = found_records g laws (settled_on d) settled_same from.found.run found in
        subst (λ (n : ℕ). s.books.turns ≤ n) (ap₂ (λ (h : Header) (rs : List Record). max (h.turn + 2) (last_number h (length rs) + 1)) header records) from.most

    -- by its log points are sure, and the records are those of the first session, which the log tells
    pub of_mount_by : (s : State) → GoesOnFrom d s → s.books.geom ≡ g → ((b : ℕ) → b < g.n → s.crash.base b ≡ formatted g b) → IsOfMount (session_by g (length s.crash.log)) (formatted g) s
    of_mount_by s from geom same =
        let found = subst (λ (n : ℕ). IsFound n (settled_on d) from.found.run) is.began.size from.is_found.is_found in
        let header = found_header g laws (settled_on d) settled_same from.found.run found in
        let records = found_records g laws (settled_on d) settled_same from.found.run found in
        let first : from.session.first ≡ 1 = from.first ∙ ap₂ (λ (h : Header) (rs : List Record). last_number h (length rs) + 1) header records in
        let greatest : IsGreatestEpoch g (settled_on d) from.found.epoch = subst (λ (h : Header). IsGreatestEpoch h.geom (settled_on d) from.found.epoch) header from.is_found.is_greatest in
        let epoch : from.session.epoch ≡ 2 = omega (arith, from.epoch, low_epoch g laws (settled_on d) settled_same from.found.epoch greatest.is_one, first_epoch g laws (settled_on d) settled_same from.found.epoch greatest) in
        let session : from.session ≡ session_by g (length s.crash.log) = session_is from.session g (length s.crash.log) (from.geom ∙ geom) epoch from.mounted first in
        let least : 2 ≤ g.n = omega (arith, laws.limits.data_room) in
        let back : (b : ℕ) → b < g.n → formatted g b ≡ s.crash.base b = λ b low. sym (same b low) in
        record {
          geom = sym geom;
          late = omega arith;
          alike = same;
          sure = λ front p. let was = from.sure front p in (
            λ x. ∥∥₁_map (subst (λ (y : points.MountedSession). ∥ IsSure y s.crash.base front p ∥₁) session (was.0 x)) (sure_then (session_by g (length s.crash.log)) least s.crash.base (formatted g) same front p),
            λ x. was.1 (subst (λ (y : points.MountedSession). ∥ IsSure y s.crash.base front p ∥₁) (sym session) (∥∥₁_map x (sure_then (session_by g (length s.crash.log)) least (formatted g) s.crash.base back front p))),
          );
          records = record {
            told = from.records.told ∙ ap {B = List Event → Option (List Commit)} (λ (x : points.MountedSession) (front : List Event). Some (points.records_told x front)) session;
            starts = λ front number. let was = from.records.starts front number in (
              λ x. ∥∥₁_map (subst (λ (y : points.MountedSession). ∥ Starts y s.crash.base front number ∥₁) session (was.0 x)) (starts_then (session_by g (length s.crash.log)) least s.crash.base (formatted g) same front number),
              λ x. was.1 (subst (λ (y : points.MountedSession). ∥ Starts y s.crash.base front number ∥₁) (sym session) (∥∥₁_map x (starts_then (session_by g (length s.crash.log)) least (formatted g) s.crash.base back front number))),
            );
          };
        }
      where
        session_is : (x : points.MountedSession) (k : Geometry) (n : ℕ) → x.geom ≡ k → x.epoch ≡ 2 → x.mounted ≡ n → x.first ≡ 1 → x ≡ session_by k n
        session_is x k n geom epoch mounted first = λ i. record { geom = geom i; epoch = epoch i; mounted = mounted i; first = first i }

    -- the header under which it was opened is the first session's
    pub opened_by : (s : State) → HasOpened d s → s.books.geom ≡ g → StandsOpened g s
    opened_by s o geom =
        let found = subst (λ (n : ℕ). IsFound n (settled_on d) o.goes_on.found) is.began.size o.goes_on.is_found in
        let header = found_header g laws (settled_on d) settled_same o.goes_on.found found in
        let records = found_records g laws (settled_on d) settled_same o.goes_on.found found in
        let greatest : IsGreatestEpoch g (settled_on d) o.goes_on.greatest = subst (λ (h : Header). IsGreatestEpoch h.geom (settled_on d) o.goes_on.greatest) header o.goes_on.is_greatest in
        let number : last_number o.goes_on.found.header (length o.goes_on.found.records) ≡ 0 = ap₂ (λ (h : Header) (rs : List Record). last_number h (length rs)) header records in
        let turn : o.goes_on.found.header.turn ≡ 1 = ap (λ (h : Header). h.turn) header in
        record {
          slot = o.slot;
          header = o.header;
          mounted = subst (λ (k : Geometry). points.IsMounted (cell_of s.crash.base s.crash.log) k o.slot o.header) geom o.mounted;
          first = record {
            geom = o.mounted.geom ∙ geom;
            epoch = omega (arith, o.goes_on.epoch, low_epoch g laws (settled_on d) settled_same o.goes_on.greatest greatest.is_one, first_epoch g laws (settled_on d) settled_same o.goes_on.greatest greatest);
            turn = omega (arith, o.goes_on.turn, turn);
            most = omega (arith, o.goes_on.most, turn);
            start = omega (arith, o.goes_on.start, number);
            sure = o.goes_on.sure ∙ number;
            place = o.goes_on.place;
            not_closed = o.mounted.not_closed;
          };
          others = λ b h low stands. header_epoch g laws (formatted g) (λ c below. refl) b h low stands;
        }

    pub left_with : (unread faulty : Bool) (new : disk.State) → LeavesDisk true unread faulty d new → OpensAtMost new.log → HoldsRoot g new
    left_with unread faulty new left most = record { began = left_began unread faulty new left; images = left_images unread faulty new left; most = most }

    -- it wrote once, or stopped there
    pub opened_once : (log : List Event) → WritesOne d.log log → WritesOne [] log
    opened_once log one = subst (λ (es : List Event). WritesOne es log) is.nothing one

    pub stopped_once : (new : disk.State) → StopsAtOne d.manner d.log new.log → OpensAtMost new.log
    stopped_once new stops = stopped_at d.manner new.log (subst (λ (es : List Event). StopsAtOne d.manner es new.log) is.nothing stops)

-- a disk in memory that was just formatted is such a disk
pub formatted_in_memory : (g : Geometry) (b : Behaviour) (d : MemDiskState) → IsFormattedDisk g b d → IsFormatted g (disk_state d)
formatted_in_memory g b d is = record {
  began = record { size = is.blocks.count; base = is.blocks.each };
  nothing = ap (λ (x : MemDiskState). x.log) is.behaves;
  polls = ap (λ (x : MemDiskState). x.polls) is.behaves;
  faults = ap (λ (x : MemDiskState). x.faults) is.behaves;
  alone = ap (λ (x : MemDiskState). (disk_state x).manner.waits_alone) is.behaves;
}

-- and it has the manner of one that behaves so
pub manner_in_memory : (g : Geometry) (b : Behaviour) (d : MemDiskState) → IsFormattedDisk g b d → record { shape = g; manner = (disk_state d).manner } ≡ setting_on g b
manner_in_memory g b d is = ap (λ (x : MemDiskState). record { shape = g; manner = (disk_state x).manner }) is.behaves
