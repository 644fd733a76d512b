-- From the last block of the replay to the session that begins.
use Rattle.std.proofs.Common.{◌≡◌, ℕ, ◌<◌, ◌≤◌, List, [], ◌∷◌, length, Some, refl, sym, ◌∙◌, ap, ap₂, subst, arith}
use mathlib.Core.Path.{fun_ext}
use Rattle.base_types.specs.Seal.{Blocks}
use Rattle.disk_contract.specs.declared.event.Event.{Event}
use Rattle.disk_contract.specs.Cell.{cell_of}
use Rattle.disk_contract.specs.Crash.{IsHonest, Window}
use Rattle.disk_contract.specs.Disk.{State}
use Rattle.layout_geometry.specs.Geometry.{Geometry, ring_block}
use Rattle.layout_journal.specs.declared.header.Header.{Header}
use Rattle.layout_journal.specs.declared.record.Commit.{Commit}
use Rattle.layout_journal.specs.declared.record.Descriptor.{Descriptor}
use Rattle.layout_journal.specs.Layout.{header_of, commit_of, descriptor_of, IsWithinDisk}
use Rattle.layout_journal.specs.Run.{Newest, Record, IsRun, live_part}
use Rattle.engine_recover.specs.Epoch.{IsGreatestEpoch}
use Rattle.engine_recover.specs.Search as finding
use Rattle.crash_argument.specs.Ledger.{Ledger, HoldsUnder, cells_of}
use Rattle.crash_argument.specs.Mounting.{HasBegun}
use Rattle.crash_argument.specs.Opening.{HasNoEpochAbove, IsReadyToOpen, settled}
use Rattle.crash_argument.specs.Points.{MountedSession, IsPoint, IsSafe, points_in, ledger_at_mount, session_at_mount}
use Rattle.crash_argument.specs.Replay.{IsFound, found_map}
use Rattle.engine_mount.specs.Mount.{FoundDisk, IsFoundOn, GoesOn, IsIdle, settled_on}
use Rattle.engine_mount.proofs.States.{same_settled}

-- no epoch is above the greatest one
pub none_above : ((g : Geometry) (img : Blocks) (e slot : ℕ) (h : Header) → IsGreatestEpoch g img e → slot < 2 → header_of g.n (img slot) ≡ Some h → h.epoch ≤ e)
    → ((g : Geometry) (img : Blocks) (e place : ℕ) (c : Commit) → IsGreatestEpoch g img e → 0 < g.j → commit_of g (img (ring_block g place)) ≡ Some c → c.epoch ≤ e)
    → ((g : Geometry) (img : Blocks) (e place : ℕ) (d : Descriptor) → IsGreatestEpoch g img e → 0 < g.j → descriptor_of g (img (ring_block g place)) ≡ Some d → d.epoch ≤ e)
    → (k h : Header) (img : Blocks) (e : ℕ) → k ≡ h → 16 ≤ k.geom.j → IsGreatestEpoch h.geom img e → HasNoEpochAbove h.geom img e
none_above headers commits descriptors k h img e same some is = record {
  headers = λ slot f two reads. headers h.geom img e slot f is two reads;
  commits = λ place c reads. commits h.geom img e place c is (rw (sym same) (omega (arith, some))) reads;
  descriptors = λ place d reads. descriptors h.geom img e place d is (rw (sym same) (omega (arith, some))) reads;
}

-- a session that has begun, and each image of whose mount held the same map
pub begun_since : ((s : MountedSession) (base : Blocks) (log : List Event) (l : Ledger) (t floor since point : ℕ) (m : Blocks) → IsSafe s base log l t floor → IsPoint s base log point m → floor ≤ point → point ≤ points_in s log
    → Window s.geom.n base log since (λ img. HoldsUnder s.geom.n s.geom img m) → IsSafe s base log l since floor)
    → (d : State) (g : Geometry) (slot : ℕ) (h : Header) (t since : ℕ) (m : Blocks) → HasBegun d g slot h t m → Window g.n d.base d.log since (λ img. HoldsUnder g.n g img m) → HasBegun d g slot h since m
begun_since reaches d g slot h t since m b w = record {
  mounted = b.mounted;
  safe = reaches (session_at_mount g h d.log) d.base d.log (ledger_at_mount (cells_of d) g slot h) t 0 since 0 m b.safe b.point (omega arith) (omega arith) w;
  point = b.point;
}

-- of an empty run the journal may be opened at once
pub ready_at_once : (d : State) (slot : ℕ) (h : Header) (rs : List Record) (e : ℕ) → IsIdle d → IsFound h.geom.n (settled_on d) slot h rs → HasNoEpochAbove h.geom (settled_on d) e → IsReadyToOpen (cells_of d) slot h e
ready_at_once d slot h rs e idle found none = record { idle = idle; is_newest = found.newest; epochs = none }

-- a run without records is empty
pub empty_run : (at : Blocks) (slot : ℕ) (h : Header) (rs : List Record) → length rs ≡ 0 → IsFound h.geom.n at slot h rs → (rs ≡ []) × IsRun at h []
empty_run at slot h [] e found = (refl, found.is_run)
empty_run at slot h (r ∷ rs) e found = absurd (omega (arith, e))

-- what a disk held is what was found
pub held_is_found : ((n : ℕ) (img : Blocks) (s t : ℕ) (h k : Header) → Newest n img s h → Newest n img t k → (s ≡ t) × (h ≡ k)) → ((img : Blocks) (h : Header) (rs qs : List Record) → IsRun img h rs → IsRun img h qs → rs ≡ qs)
    → (n : ℕ) (g : Geometry) (at m : Blocks) (r : finding.FoundRun) → HoldsUnder n g at m → finding.IsFound n at r → (g ≡ r.header.geom) × (m ≡ found_map at r.header r.records)
held_is_found one runs n g at m r held found =
    let same : held.held.header ≡ r.header = (one n at held.held.slot r.slot held.held.header r.header held.held.newest found.newest).1 in
    let run : held.held.run ≡ r.records = runs at r.header held.held.run r.records (subst (λ (k : Header). IsRun at k held.held.run) same held.held.is_run) found.is_run in
    (sym held.geom ∙ ap (λ (k : Header). k.geom) same, fun_ext held.held.each ∙ ap₂ (λ (k : Header) (rs : List Record). found_map at k rs) same run)

-- where the run is empty, each image holds what was found while the journal is opened
pub empty_holds : (k h : Header) (s slot e : ℕ) (rs : List Record) (d : State) (log : List Event) → k ≡ h → s ≡ slot → length rs ≡ 0 → IsIdle d → IsFound h.geom.n (settled_on d) slot h rs → HasNoEpochAbove h.geom (settled_on d) e
    → (IsReadyToOpen (cells_of d) s k e → IsRun (settled_on d) k [] → Window k.geom.n d.base log (length d.log) (λ img. HoldsUnder k.geom.n k.geom img (found_map (settled_on d) k [])))
    → Window h.geom.n d.base log (length d.log) (λ img. HoldsUnder h.geom.n h.geom img (found_map (settled_on d) h rs))
empty_holds k h s slot e rs d log same on few idle found none opens =
    let empty = empty_run (settled_on d) slot h rs few found in
    rw empty.0 (rw (sym same) (opens (rw same (rw on (ready_at_once d slot h rs e idle found none))) (rw same empty.1)))

-- and the session begins with it
pub empty_opened : (k h next : Header) (s slot beside e : ℕ) (rs : List Record) (d new : State) → k ≡ h → s ≡ slot → length rs ≡ 0 → IsIdle d → IsFound h.geom.n (settled_on d) slot h rs → HasNoEpochAbove h.geom (settled_on d) e
    → (IsReadyToOpen (cells_of d) s k e → HasBegun new k.geom beside next (length new.log) (live_part k.geom (settled_on d)))
    → HasBegun new h.geom beside next (length new.log) (found_map (settled_on d) h rs)
empty_opened k h next s slot beside e rs d new same on few idle found none opens =
    let begun = opens (rw same (rw on (ready_at_once d slot h rs e idle found none))) in
    rw (empty_run (settled_on d) slot h rs few found).0 (rw (sym same) (subst (λ (m : Blocks). HasBegun new k.geom beside next (length new.log) m) (fun_ext (λ b. refl)) begun))

-- a window of equal bases
pub window_from : (n : ℕ) (base base2 : Blocks) (log : List Event) (t : ℕ) (g : Geometry) (m : Blocks) → base2 ≡ base → Window n base log t (λ img. HoldsUnder n g img m) → Window n base2 log t (λ img. HoldsUnder n g img m)
window_from n base base2 log t g m same w = subst (λ (b : Blocks). Window n b log t (λ img. HoldsUnder n g img m)) (sym same) w

-- a session that has begun, said of an equal geometry and map
pub begun_as : (d : State) (g k : Geometry) (slot : ℕ) (h : Header) (t : ℕ) (m q : Blocks) → k ≡ g → q ≡ m → HasBegun d k slot h t q → HasBegun d g slot h t m
begun_as d g k slot h t m q shape map b = subst (λ (r : Blocks). HasBegun d g slot h t r) map (subst (λ (f : Geometry). HasBegun d f slot h t q) shape b)

-- the size of a disk that holds a map
size_of : ((n : ℕ) (b : List ℕ) (h : Header) → header_of n b ≡ Some h → IsWithinDisk n h) → (n : ℕ) (g : Geometry) (at m : Blocks) → HoldsUnder n g at m → g.n ≡ n
size_of headers n g at m held = sym (ap (λ (k : Geometry). k.n) held.geom) ∙ (headers n _ held.held.header held.held.newest.stands).blocks

-- where nothing was written, each image holds what the disk held
pub idle_stays : ((n : ℕ) (b : List ℕ) (h : Header) → header_of n b ≡ Some h → IsWithinDisk n h)
    → ((of : Geometry × Blocks) (n : ℕ) (base : Blocks) (log : List Event) → ((img : Blocks) → IsHonest n base log img → HoldsUnder of.0.n of.0 img of.1) → Window n base log (length log) (λ img. HoldsUnder of.0.n of.0 img of.1))
    → ((n : ℕ) (base : Blocks) (log : List Event) (g : Geometry) (m img : Blocks) → ((b : ℕ) → (cell_of base log b).pending ≡ []) → HoldsUnder n g (settled (cell_of base log)) m → IsHonest n base log img → HoldsUnder n g img m)
    → (d : State) (log : List Event) (g : Geometry) (m : Blocks) → log ≡ d.log → IsIdle d → HoldsUnder d.blocks g (settled_on d) m → Window d.blocks d.base log (length d.log) (λ img. HoldsUnder d.blocks g img m)
idle_stays headers begins holds d log g m same idle held =
    let size = size_of headers d.blocks g (settled_on d) m held in
    subst (λ (lg : List Event). Window d.blocks d.base lg (length d.log) (λ img. HoldsUnder d.blocks g img m)) (sym same)
    (subst (λ (n : ℕ). Window d.blocks d.base d.log (length d.log) (λ img. HoldsUnder n g img m)) size
    (begins (g, m) d.blocks d.base d.log (λ img honest. subst (λ (n : ℕ). HoldsUnder n g img m) (sym size) (holds d.blocks d.base d.log g m img idle held honest))))

-- the run that a search found, on the disk as it is after reads
pub found_there : (old now : State) (r : finding.FoundRun) → now.base ≡ old.base → now.log ≡ old.log → r.header.geom.n ≡ old.blocks → finding.IsFound old.blocks (settled_on old) r → IsFound r.header.geom.n (settled_on now) r.slot r.header r.records
found_there old now r base log size found =
    subst (λ (at : Blocks). IsFound r.header.geom.n at r.slot r.header r.records) (sym (same_settled old now base log))
    (subst (λ (n : ℕ). IsFound n (settled_on old) r.slot r.header r.records) (sym size) (record { newest = found.newest; is_run = found.is_run }))

-- a window of what was found is one of what the disk held
pub window_held : (old now new : State) (r : finding.FoundRun) (g : Geometry) (m : Blocks) → now.base ≡ old.base → now.log ≡ old.log → r.header.geom.n ≡ old.blocks → (g ≡ r.header.geom) × (m ≡ found_map (settled_on old) r.header r.records)
    → Window r.header.geom.n now.base new.log (length now.log) (λ img. HoldsUnder r.header.geom.n r.header.geom img (found_map (settled_on now) r.header r.records))
    → Window old.blocks old.base new.log (length old.log) (λ img. HoldsUnder old.blocks g img m)
window_held old now new r g m base log size is w = rw is.0 (rw is.1 (rw (sym size) (rw (sym (same_settled old now base log)) (rw (sym base) (rw (sym log) w)))))

-- and so is the session
pub begun_held : (old now new : State) (r : finding.FoundRun) (g : Geometry) (m : Blocks) (slot : ℕ) (h : Header) → now.base ≡ old.base → now.log ≡ old.log → (g ≡ r.header.geom) × (m ≡ found_map (settled_on old) r.header r.records)
    → HasBegun new r.header.geom slot h (length now.log) (found_map (settled_on now) r.header r.records) → HasBegun new g slot h (length old.log) m
begun_held old now new r g m slot h base log is b = rw is.0 (rw is.1 (rw (sym (same_settled old now base log)) (rw (sym log) b)))

-- the greatest epoch too
pub greatest_there : (old now : State) (g : Geometry) (e : ℕ) → now.base ≡ old.base → now.log ≡ old.log → IsGreatestEpoch g (settled_on old) e → IsGreatestEpoch g (settled_on now) e
greatest_there old now g e base log is = subst (λ (at : Blocks). IsGreatestEpoch g at e) (sym (same_settled old now base log)) is

-- what was found is so still after a read
pub found_still : (old now : State) (r : finding.FoundRun) → now.blocks ≡ old.blocks → now.base ≡ old.base → now.log ≡ old.log → finding.IsFound old.blocks (settled_on old) r → finding.IsFound now.blocks (settled_on now) r
found_still old now r size base log found = subst (λ (n : ℕ). finding.IsFound n (settled_on now) r) (sym size) (subst (λ (at : Blocks). finding.IsFound old.blocks at r) (sym (same_settled old now base log)) found)

-- All of it, and the map, are so still after reads.
pub found_on_still : (old now : State) (f : FoundDisk) → now.blocks ≡ old.blocks → now.base ≡ old.base → now.log ≡ old.log → IsFoundOn old f → IsFoundOn now f
found_on_still old now f size base log is = record {
  is_found = found_still old now f.run size base log is.is_found;
  is_greatest = greatest_there old now f.run.header.geom f.epoch base log is.is_greatest;
}

pub held_still : (old now : State) (g : Geometry) (m : Blocks) → now.blocks ≡ old.blocks → now.base ≡ old.base → now.log ≡ old.log → HoldsUnder old.blocks g (settled_on old) m → HoldsUnder now.blocks g (settled_on now) m
held_still old now g m size base log held = subst (λ (n : ℕ). HoldsUnder n g (settled_on now) m) (sym size) (subst (λ (at : Blocks). HoldsUnder old.blocks g at m) (sym (same_settled old now base log)) held)

-- A window, a session and a header that go on from there go on from the disk before those reads.
pub window_before : (old now new : State) (g : Geometry) (m : Blocks) → now.blocks ≡ old.blocks → now.base ≡ old.base → now.log ≡ old.log
    → Window now.blocks now.base new.log (length now.log) (λ img. HoldsUnder now.blocks g img m) → Window old.blocks old.base new.log (length old.log) (λ img. HoldsUnder old.blocks g img m)
window_before old now new g m size base log w = rw (sym size) (rw (sym base) (rw (sym log) w))

pub begun_before : (old now new : State) (g : Geometry) (slot : ℕ) (h : Header) (m : Blocks) → now.log ≡ old.log → HasBegun new g slot h (length now.log) m → HasBegun new g slot h (length old.log) m
begun_before old now new g slot h m log b = subst (λ (lg : List Event). HasBegun new g slot h (length lg) m) log b

pub goes_before : (old now : State) (h : Header) → now.blocks ≡ old.blocks → now.base ≡ old.base → now.log ≡ old.log → GoesOn now.blocks (settled_on now) h → GoesOn old.blocks (settled_on old) h
goes_before old now h size base log goes = subst (λ (n : ℕ). GoesOn n (settled_on old) h) size (subst (λ (at : Blocks). GoesOn now.blocks at h) (same_settled old now base log) goes)

-- a run and an epoch that are those that were found
pub found_of : (d : State) (f : FoundDisk) (r : finding.FoundRun) (e : ℕ) → r ≡ f.run → e ≡ f.epoch → IsFoundOn d f → finding.IsFound d.blocks (settled_on d) r × IsGreatestEpoch r.header.geom (settled_on d) e
found_of d f r e run epoch is = rw run (rw epoch (is.is_found, is.is_greatest))

-- what keeps the map that was found keeps what the disk held
pub window_on : ((n : ℕ) (img : Blocks) (s t : ℕ) (h k : Header) → Newest n img s h → Newest n img t k → (s ≡ t) × (h ≡ k)) → ((img : Blocks) (h : Header) (rs qs : List Record) → IsRun img h rs → IsRun img h qs → rs ≡ qs)
    → (old new : State) (f : FoundDisk) (r : finding.FoundRun) (e : ℕ) (g : Geometry) (m : Blocks) → r ≡ f.run → e ≡ f.epoch → old.blocks ≡ f.run.header.geom.n → IsFoundOn old f → HoldsUnder old.blocks g (settled_on old) m
    → (IsFound r.header.geom.n (settled_on old) r.slot r.header r.records → IsGreatestEpoch r.header.geom (settled_on old) e → Window r.header.geom.n old.base new.log (length old.log) (λ img. HoldsUnder r.header.geom.n r.header.geom img (found_map (settled_on old) r.header r.records)))
    → Window old.blocks old.base new.log (length old.log) (λ img. HoldsUnder old.blocks g img m)
window_on one runs old new f r e g m run epoch size is held w =
    let there = found_of old f r e run epoch is in
    let n : r.header.geom.n ≡ old.blocks = ap (λ (q : finding.FoundRun). q.header.geom.n) run ∙ sym size in
    window_held old old new r g m refl refl n (held_is_found one runs old.blocks g (settled_on old) m r held there.0) (w (found_there old old r refl refl n there.0) there.1)

pub begun_on : ((n : ℕ) (img : Blocks) (s t : ℕ) (h k : Header) → Newest n img s h → Newest n img t k → (s ≡ t) × (h ≡ k)) → ((img : Blocks) (h : Header) (rs qs : List Record) → IsRun img h rs → IsRun img h qs → rs ≡ qs)
    → (old new : State) (f : FoundDisk) (r : finding.FoundRun) (e : ℕ) (g : Geometry) (m : Blocks) (slot : ℕ) (h : Header) → r ≡ f.run → e ≡ f.epoch → old.blocks ≡ f.run.header.geom.n → IsFoundOn old f → HoldsUnder old.blocks g (settled_on old) m
    → (IsFound r.header.geom.n (settled_on old) r.slot r.header r.records → IsGreatestEpoch r.header.geom (settled_on old) e → HasBegun new r.header.geom slot h (length old.log) (found_map (settled_on old) r.header r.records))
    → HasBegun new g slot h (length old.log) m
begun_on one runs old new f r e g m slot h run epoch size is held begins =
    let there = found_of old f r e run epoch is in
    let n : r.header.geom.n ≡ old.blocks = ap (λ (q : finding.FoundRun). q.header.geom.n) run ∙ sym size in
    begun_held old old new r g m slot h refl refl (held_is_found one runs old.blocks g (settled_on old) m r held there.0) (begins (found_there old old r refl refl n there.0) there.1)
