-- A replay on its way from block to block.
use Rattle.std.proofs.Common.{◌≡◌, ℕ, ◌+◌, ◌-◌, ◌≤◌, Bool, false, IsTrue, List, [], ◌++◌, length, sym, ◌∙◌, ap, subst, arith, append-nil, append_assoc}
use Rattle.base_types.specs.Seal.{Blocks}
use Rattle.disk_contract.specs.declared.event.Event.{Event}
use Rattle.disk_contract.specs.Cell.{Cell}
use Rattle.disk_contract.specs.Crash.{Window}
use Rattle.disk_contract.specs.Disk.{State, Grows, writes_in}
use Rattle.layout_geometry.specs.Geometry.{Geometry, bitmap_start}
use Rattle.layout_journal.specs.declared.header.Header.{Header}
use Rattle.layout_journal.specs.Run.{Record}
use Rattle.crash_argument.specs.Ledger.{HoldsUnder, cells_of}
use Rattle.crash_argument.specs.Mounting.{IsReplayedUpTo}
use Rattle.crash_argument.specs.Replay.{IsFound, IsReplaying, found_map}
use Rattle.engine_mount.specs.Mount.{MountSpends}
use Rattle.engine_mount.proofs.States.{spends_on, spends_none, same_cells}

-- each honest image since holds what was found
abbrev pub Stays : Header → List Record → Blocks → State → State → Type 0
Stays h rs at old now = Window h.geom.n old.base now.log (length old.log) (λ img. HoldsUnder h.geom.n h.geom img (found_map at h rs))

-- two windows one behind the other are one
abbrev pub Joins : Type 0
Joins = (of : Geometry × Blocks) (n : ℕ) (base : Blocks) (log new : List Event) (t : ℕ) → Grows log new → Window n base log t (λ img. HoldsUnder of.0.n of.0 img of.1) → Window n base new (length log) (λ img. HoldsUnder of.0.n of.0 img of.1)
    → Window n base new t (λ img. HoldsUnder of.0.n of.0 img of.1)

-- a log goes on and on
pub grows_on : (a b c : List Event) → Grows a b → Grows b c → Grows a c
grows_on a b c x y = record { more = x.more ++ y.more; log = y.log ∙ ap (λ (l : List Event). l ++ y.more) x.log ∙ append_assoc a x.more y.more }

pub grows_none : (a : List Event) → Grows a a
grows_none a = record { more = []; log = sym (append-nil a) }

-- windows of two steps
pub stays_on : Joins → (h : Header) (rs : List Record) (at : Blocks) (old mid new : State) → mid.base ≡ old.base → Grows old.log mid.log → Grows mid.log new.log → Stays h rs at old mid → Stays h rs at mid new → Stays h rs at old new
stays_on joins h rs at old mid new base one two first second =
    joins (h.geom, found_map at h rs) h.geom.n old.base mid.log new.log (length old.log) two first
    (subst (λ (b : Blocks). Window h.geom.n b new.log (length mid.log) (λ img. HoldsUnder h.geom.n h.geom img (found_map at h rs))) base second)

-- a step after which the log is as it was
pub stays_same : (h : Header) (rs : List Record) (at : Blocks) (old mid new : State) → mid.base ≡ old.base → mid.log ≡ old.log → Stays h rs at mid new → Stays h rs at old new
stays_same h rs at old mid new base log w = rw (sym base) (rw (sym log) w)

-- a run that was replayed so far is so after a read
pub replayed_still : (n : ℕ) (at : Blocks) (slot : ℕ) (h closed : Header) (rs : List Record) (old mid : State) → mid.base ≡ old.base → mid.log ≡ old.log → IsReplaying n (cells_of old) at slot h closed rs → IsReplaying n (cells_of mid) at slot h closed rs
replayed_still n at slot h closed rs old mid base log r = subst (λ cells. IsReplaying n cells at slot h closed rs) (sym (same_cells old mid base log)) r

-- what a step of the replay makes of the blocks that it comes to, from one state to the next
abbrev pub Steps : Header → List Record → State → State → ℕ → ℕ → Type 0
Steps h rs old now b next = (at : Blocks) (slot old_slot : ℕ) (closed : Header) → IsFound h.geom.n at old_slot h rs → IsReplayedUpTo h.geom.n (cells_of old) at slot h closed rs b → IsReplayedUpTo h.geom.n (cells_of now) at slot h closed rs next

-- and of images
abbrev pub Keeps : Header → List Record → State → State → ℕ → Type 0
Keeps h rs old now b = (at : Blocks) (slot old_slot : ℕ) (closed : Header) → IsFound h.geom.n at old_slot h rs → IsReplayedUpTo h.geom.n (cells_of old) at slot h closed rs b → Stays h rs at old now

-- the replay has come to this block
pub record IsOnItsWay (tells : Bool) (h : Header) (rs : List Record) (old now : State) (b : ℕ) : Type 0 where
  pub low : bitmap_start h.geom ≤ b
  pub spends : MountSpends false false (b - bitmap_start h.geom) old now
  pub grows : IsTrue tells → Grows old.log now.log
  pub written : IsTrue tells → writes_in now.log ≤ writes_in old.log + (b - bitmap_start h.geom)
  pub steps : IsTrue tells → Steps h rs old now (bitmap_start h.geom) b
  pub keeps : IsTrue tells → Keeps h rs old now (bitmap_start h.geom)

-- it begins
pub way_begins : (tells : Bool) (h : Header) (rs : List Record) (s : State) → (IsTrue tells → Keeps h rs s s (bitmap_start h.geom)) → IsOnItsWay tells h rs s s (bitmap_start h.geom)
way_begins tells h rs s keeps = record {
  low = omega arith;
  spends = spends_none s _;
  grows = λ t. grows_none s.log;
  written = λ t. omega arith;
  steps = λ t at slot old_slot closed found r. r;
  keeps = keeps;
}

-- what is kept over one block more, whatever comes of it
pub way_keeps : Joins → (tells : Bool) (h : Header) (rs : List Record) (old mid new : State) (b : ℕ) → IsOnItsWay tells h rs old mid b → (IsTrue tells → Grows mid.log new.log) → (IsTrue tells → Keeps h rs mid new b) → IsTrue tells → Keeps h rs old new (bitmap_start h.geom)
way_keeps joins tells h rs old mid new b way grows keeps t at slot old_slot closed found r =
    stays_on joins h rs at old mid new way.spends.same.base (way.grows t) (grows t) (way.keeps t at slot old_slot closed found r) (keeps t at slot old_slot closed found (way.steps t at slot old_slot closed found r))

-- it goes on
pub way_on : Joins → (tells : Bool) (h : Header) (rs : List Record) (old mid new : State) (b : ℕ) → IsOnItsWay tells h rs old mid b → MountSpends false false 1 mid new → (IsTrue tells → Grows mid.log new.log) → (IsTrue tells → writes_in new.log ≤ writes_in mid.log + 1) → (IsTrue tells → Steps h rs mid new b (b + 1)) → (IsTrue tells → Keeps h rs mid new b)
    → IsOnItsWay tells h rs old new (b + 1)
way_on joins tells h rs old mid new b way spends grows written steps keeps = record {
  low = omega (arith, way.low);
  spends = spends_on false false (b - bitmap_start h.geom) 1 (b + 1 - bitmap_start h.geom) old mid new (omega (arith, way.low)) way.spends spends;
  grows = λ t. grows_on old.log mid.log new.log (way.grows t) (grows t);
  written = λ t. omega (arith, way.low, way.written t, written t);
  steps = λ t at slot old_slot closed found r. steps t at slot old_slot closed found (way.steps t at slot old_slot closed found r);
  keeps = way_keeps joins tells h rs old mid new b way grows keeps;
}

-- a replay up to a block is one up to each before it
pub shrink : (n : ℕ) (cells : ℕ → Cell) (at : Blocks) (slot b upto : ℕ) (h closed : Header) (rs : List Record) → upto ≤ b → IsReplayedUpTo n cells at slot h closed rs b → IsReplayedUpTo n cells at slot h closed rs upto
shrink n cells at slot b upto h closed rs le r = record { replaying = r.replaying; idle = r.idle; placed = λ d low lt. r.placed d low (omega (arith, lt, le)); headers = r.headers }
