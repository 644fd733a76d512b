-- The sync points of a session, from its disk's base and log.
use Rattle.std.specs.Prelude.{◌≡◌, ◌⊎◌, ℕ, ◌+◌, ◌-◌, ◌<◌, ◌≤◌, Bool, false, ◌&&◌, ◌==◌, nat_le, nat_lt, if◌then◌else◌, List, [], ◌∷◌, ◌++◌, length, map, take, drop, slice_get, Option, Some, None, Result, Ok, Err}
use Rattle.std.specs.List.{filter}
use Rattle.base_types.specs.Seal.{Blocks}
use Rattle.disk_contract.specs.declared.event.Event.{Event}
use Rattle.disk_contract.specs.declared.event.Event.TheVariants.{Wrote, Lost, Noticed}
use Rattle.disk_contract.specs.Cell.{Cell, cell_of}
use Rattle.disk_contract.specs.Crash.{Window}
use Rattle.disk_contract.specs.Disk.{State}
use Rattle.layout_geometry.specs.Geometry.{Geometry, ring_block, data_start, bitmap_start}
use Rattle.layout_journal.specs.declared.header.Header.{Header}
use Rattle.layout_journal.specs.declared.record.Commit.{Commit}
use Rattle.layout_journal.specs.declared.record.Descriptor.{Descriptor}
use Rattle.layout_journal.specs.Layout.{commit_of, descriptor_of, header_of}
use Rattle.layout_journal.specs.declared.entry.Entry.{Entry}
use Rattle.layout_journal.specs.Run.{Record, places, commit_says, IsWhole, live_part}
use Rattle.crash_argument.specs.Ledger.{WrittenRecord, Ledger, HoldsUnder, all_say, issued, latest, next_number, IsConsistentWith}
use Rattle.crash_argument.specs.Steps.{with_record, with_header}

-- what was read is a commit block of this epoch
abbrev pub has_epoch : ℕ → Option Commit → Bool
has_epoch epoch None = false
has_epoch epoch (Some c) = c.epoch == epoch

-- bytes that are one, written into the ring
abbrev pub is_commit : Geometry → ℕ → ℕ → List ℕ → Bool
is_commit g epoch block x = nat_le 2 block && nat_lt block (bitmap_start g) && has_epoch epoch (commit_of g x)

-- how many commit blocks of this epoch were written, accepted or lost
abbrev pub commits : Geometry → ℕ → List Event → ℕ
commits g epoch [] = 0
commits g epoch (Wrote ticket block x ∷ es) = (if is_commit g epoch block x then 1 else 0) + commits g epoch es
commits g epoch (Lost block x ∷ es) = (if is_commit g epoch block x then 1 else 0) + commits g epoch es
commits g epoch (Noticed ticket ∷ es) = commits g epoch es

-- what was read, where that counts, alone
abbrev pub where_told : Bool → Option Commit → List Commit
where_told is None = []
where_told is (Some c) = if is then c ∷ [] else []

-- what the commit blocks of this epoch say that were written, accepted or lost, in their order
abbrev pub commits_told : Geometry → ℕ → List Event → List Commit
commits_told g epoch [] = []
commits_told g epoch (Wrote ticket block x ∷ es) = where_told (is_commit g epoch block x) (commit_of g x) ++ commits_told g epoch es
commits_told g epoch (Lost block x ∷ es) = where_told (is_commit g epoch block x) (commit_of g x) ++ commits_told g epoch es
commits_told g epoch (Noticed ticket ∷ es) = commits_told g epoch es

-- a session as its mount began it
pub record MountedSession : Type 0 where
  pub geom : Geometry
  pub epoch : ℕ
  -- the number of the mount's events, and of the first record after it
  pub mounted : ℕ
  pub first : ℕ

-- how many points its log has behind point 0: the commit blocks of its epoch since the mount ended, accepted or lost
abbrev pub points_in : MountedSession → List Event → ℕ
points_in s log = commits s.geom s.epoch (drop s.mounted log)

-- what the commit blocks of its records say that its log has since the mount ended
abbrev pub records_told : MountedSession → List Event → List Commit
records_told s log = commits_told s.geom s.epoch (drop s.mounted log)

-- the record has this number or a later one
abbrev pub is_from : ℕ → Commit → Bool
is_from number c = nat_le number c.number

-- after k events the commit block of point p has just been written; for point 0 the mount has just ended
pub record IsMoment (s : MountedSession) (log : List Event) (p k : ℕ) : Type 0 where
  pub within : k ≤ length log
  pub count : points_in s (take k log) ≡ p
  pub just : ((p ≡ 0) × (k ≡ s.mounted)) ⊎ ((s.mounted < k) × (points_in s (take (k - 1) log) < p))

-- m is the map of sync point p: what the disk holds once all that was issued by then stands
pub record IsPoint (s : MountedSession) (base : Blocks) (log : List Event) (p : ℕ) (m : Blocks) : Type 0 where
  pub moment : ℕ
  pub at : IsMoment s log p moment
  pub held : HoldsUnder s.geom.n s.geom (issued base (take moment log)) m

-- The image holds a map, and that is the map of a point from `floor` to `top`.
pub record HoldsPoint (s : MountedSession) (base : Blocks) (log : List Event) (floor top : ℕ) (img : Blocks) : Type 0 where
  pub map : Blocks
  pub held : HoldsUnder s.geom.n s.geom img map
  pub point : ℕ
  pub from : floor ≤ point
  pub upto : point ≤ top
  pub is : IsPoint s base log point map

-- Each honest image that a crash at a moment from t on may leave holds the map of a point from `floor` to `top`.
abbrev pub StandsBetween : MountedSession → Blocks → List Event → ℕ → ℕ → ℕ → Type 0
StandsBetween s base log t floor top = Window s.geom.n base log t (λ img. ∥ HoldsPoint s base log floor top img ∥₁)

-- a header under which the records of a session count, and all of them are past its `sure`
abbrev pub session_header : MountedSession → Header
session_header s = record { epoch = s.epoch; turn = 0; start = s.first; sure = s.first - 1; at = 0; closed = false; geom = s.geom }

-- All writes of the commit of point p are noticed among these events: at a moment since the mount its record is whole in what was issued, and nothing is pending on its blocks.
pub record IsNoticedPoint (s : MountedSession) (base : Blocks) (log : List Event) (p : ℕ) : Type 0 where
  pub moment : ℕ
  pub from : s.mounted ≤ moment
  pub upto : moment ≤ length log
  pub says : Record
  pub number : says.number + 1 ≡ s.first + p
  pub whole : IsWhole (issued base (take moment log)) (session_header s) says
  pub ring : (i : ℕ) → i < places says → (cell_of base (take moment log) (ring_block s.geom (says.place + i))).pending ≡ []
  pub fresh : (i : ℕ) (e : Entry) → slice_get says.fresh i ≡ Some e → (cell_of base (take moment log) e.block).pending ≡ []

-- p is the greatest number such that in the first k events all writes of the commits of points 1 to p are noticed
pub record IsKnown (s : MountedSession) (base : Blocks) (log : List Event) (k p : ℕ) : Type 0 where
  pub upto : (q : ℕ) → 0 < q → q ≤ p → IsNoticedPoint s base (take k log) q
  pub not_next : ¬ IsNoticedPoint s base (take k log) (p + 1)

-- Each map of the ledger is that of a point, and each point that it knows is noticed. From each number on, the log's commit blocks tell the ledger's records.
pub record HasPoints (s : MountedSession) (base : Blocks) (log : List Event) (l : Ledger) : Type 0 where
  pub geom : s.geom ≡ l.geom
  pub epoch : s.epoch ≡ l.epoch
  pub first : s.first ≤ l.known
  pub late : s.mounted ≤ length log
  pub count : s.first + points_in s log ≡ next_number l
  pub told : (n : ℕ) → l.header.start ≤ n → filter (is_from n) (records_told s log) ≡ map (commit_says s.epoch) (all_say (drop (n - l.header.start) l.records))
  pub each : (n : ℕ) → l.known ≤ n → n ≤ next_number l → IsPoint s base log (n - s.first) (live_part l.geom (l.map_before n))
  pub noticed : (p : ℕ) → 0 < p → p ≤ l.known - s.first → IsNoticedPoint s base log p

-- The disk is as the ledger says, and each honest image that a crash since t may leave holds the map of a point from `floor` to the newest.
pub record IsSafe (s : MountedSession) (base : Blocks) (log : List Event) (l : Ledger) (t floor : ℕ) : Type 0 where
  pub keeps : IsConsistentWith base log l
  pub points : HasPoints s base log l
  pub low : floor ≤ l.known - s.first
  pub window : StandsBetween s base log t floor (next_number l - s.first)

-- the same of what is known of a disk
abbrev pub IsSafeOn : MountedSession → State → Ledger → ℕ → ℕ → Type 0
IsSafeOn s d l t floor = IsSafe s d.base d.log l t floor

-- a disk that was safe by this ledger is so still
abbrev pub StaysSafe : MountedSession → Ledger → ℕ → ℕ → State → State → Type 0
StaysSafe s l t floor old new = IsSafeOn s old l t floor → IsSafeOn s new l t floor

-- After the call for a commit block: accepted, the record is in the ledger; else it is there, or no event came.
abbrev pub CommitWritten : {E : Type 0} → MountedSession → Ledger → WrittenRecord → Blocks → ℕ → ℕ → Result ℕ E → State → State → Type 0
CommitWritten s l w m t floor (Ok ticket) old new = IsSafeOn s new (with_record l w m) t floor
CommitWritten s l w m t floor (Err e) old new = ((new.log ≡ old.log) × IsSafeOn s new l t floor) ⊎ IsSafeOn s new (with_record l w m) t floor

-- the same for a header
abbrev pub HeaderWritten : {E : Type 0} → MountedSession → Ledger → Header → ℕ → ℕ → Result ℕ E → State → State → Type 0
HeaderWritten s l h t floor (Ok ticket) old new = IsSafeOn s new (with_header l h) t floor
HeaderWritten s l h t floor (Err e) old new = ((new.log ≡ old.log) × IsSafeOn s new l t floor) ⊎ IsSafeOn s new (with_header l h) t floor

-- A mount has ended: its last header is durable and releases all, its epoch is new, and nothing is pending.
pub record IsMounted (cells : ℕ → Cell) (g : Geometry) (slot : ℕ) (h : Header) : Type 0 where
  pub is_slot : slot < 2
  pub idle : (b : ℕ) → (cells b).pending ≡ []
  pub stands : header_of g.n (cells slot).settled ≡ Some h
  pub other : (k : Header) → header_of g.n (cells (1 - slot)).settled ≡ Some k → k.turn < h.turn
  pub new_epoch : (k : Header) → header_of g.n (cells (1 - slot)).settled ≡ Some k → k.epoch < h.epoch
  pub geom : h.geom ≡ g
  pub not_closed : h.closed ≡ false
  pub empty : h.start ≡ h.sure + 1
  pub no_commit : (place : ℕ) (c : Commit) → commit_of g (cells (ring_block g place)).settled ≡ Some c → c.epoch < h.epoch
  pub no_descriptor : (place : ℕ) (d : Descriptor) → descriptor_of g (cells (ring_block g place)).settled ≡ Some d → d.epoch < h.epoch
  pub shape : data_start g ≤ g.n
  pub ring : 0 < g.j

-- the ledger with which a session begins
abbrev pub ledger_at_mount : (ℕ → Cell) → Geometry → ℕ → Header → Ledger
ledger_at_mount cells g slot h = record { geom = g; epoch = h.epoch; slot = slot; header = h; next = None; records = []; known = h.start; map_before = λ n b. latest (cells b) }

-- the session that begins with it: its mount is over after these events, and its first record is the header's next one
abbrev pub session_at_mount : Geometry → Header → List Event → MountedSession
session_at_mount g h log = record { geom = g; epoch = h.epoch; mounted = length log; first = h.start }
