-- What is found on an idle disk, and what a refusal says.
use Rattle.std.proofs.Common.{◌≡◌, inl, ℕ, ◌<◌, IsTrue, Bool, false, List, [], length, Result, Ok, Err, IfErr, refl, sym, ◌∙◌, subst, arith}
use Rattle.base_types.specs.Seal.{Blocks}
use Rattle.disk_contract.specs.declared.event.Event.{Event}
use Rattle.disk_contract.specs.Cell.{cell_of, is_lost, accepted}
use Rattle.disk_contract.specs.Crash.{Window}
use Rattle.disk_contract.specs.Disk.{State}
use Rattle.layout_journal.specs.declared.header.Header.{Header}
use Rattle.layout_journal.specs.Run.{Newest, Record}
use Rattle.engine_recover.specs.declared.find.RecoverRefusal.{RecoverRefusal}
use Rattle.engine_recover.specs.declared.find.RecoverRefusal.TheVariants as search
use Rattle.engine_recover.specs.Reading.{Gives, Searches}
use Rattle.engine_recover.specs.Search as finding
use Rattle.crash_argument.specs.Ledger.{HoldsUnder}
use Rattle.crash_argument.specs.Opening.{last_number}
use Rattle.crash_argument.specs.Replay.{IsFound, found_map}
use Rattle.engine_mount.specs.declared.refusal.MountRefusal.{MountRefusal}
use Rattle.engine_mount.specs.declared.refusal.MountRefusal.TheVariants.{NoHeader, Spent, ReadFault, DiskFault, NoMemory}
use Rattle.engine_mount.specs.Mount.{IsIdle, settled_on, RefusalSays, IsUsedUp, MountSpends}
use Rattle.engine_mount.specs.Refusal.{refusal_of, IsFault}
use Rattle.engine_mount.proofs.States.{same_settled}

-- an idle disk gives what is settled
pub idle_gives : ((base : Blocks) (log : List Event) (b : ℕ) → (cell_of base log b).pending ≡ [] → (is_lost b log ≡ false) × (accepted base log b ≡ (cell_of base log b).settled))
    → (tells : Bool) (s : State) → IsTrue tells → IsIdle s → Gives tells s (settled_on s)
idle_gives law tells s told idle = record {
  told = told;
  calm = λ b lt. (law s.base s.log b (idle b)).0;
  blocks = λ b. sym (law s.base s.log b (idle b)).1;
}

-- the refusal of a search says so of a mount
says : (old new : State) (why : RecoverRefusal) → new.log ≡ old.log → finding.RefusalSays old.blocks (settled_on old) why → RefusalSays old new (refusal_of why)
says old new search.NoHeader same none = (none, same)
says old new search.Spent same spent = (record { found = spent.found; is_found = spent.is_found; at_end = inl spent.spent }, same)
says old new search.ReadFault same t = tt
says old new search.NoMemory same t = same

pub refused_says : (old new : State) (why : RecoverRefusal) (r : MountRefusal) → r ≡ refusal_of why → new.log ≡ old.log → finding.RefusalSays old.blocks (settled_on old) why → RefusalSays old new r
refused_says old new why r is same of = subst (RefusalSays old new) (sym is) (says old new why same of)

-- blocks in which a run was found hold its map
pub found_holds : (at : Blocks) (slot : ℕ) (h : Header) (run : List Record) → IsFound h.geom.n at slot h run → HoldsUnder h.geom.n h.geom at (found_map at h run)
found_holds at slot h run found = record {
  held = record { slot = slot; header = h; run = run; newest = found.newest; is_run = found.is_run; each = λ b. refl };
  geom = refl;
}

-- the last number, said in two ways
pub last_same : (h : Header) (run : List Record) (last : ℕ) → 0 < h.start → last ≡ finding.last_number h (length run) → last ≡ last_number h run
last_same h run last some is = omega (arith, is)

-- a window of what was found, said of equal headers and slots
pub window_of : (k h : Header) (s t : ℕ) (at : Blocks) (run : List Record) (base : Blocks) (log : List Event) (from last : ℕ) → k ≡ h → s ≡ t
    → (IsFound k.geom.n at s k run → last ≡ last_number k run → Window k.geom.n base log from (λ img. HoldsUnder k.geom.n k.geom img (found_map at k run)))
    → IsFound h.geom.n at t h run → last ≡ last_number h run → Window h.geom.n base log from (λ img. HoldsUnder h.geom.n h.geom img (found_map at h run))
window_of k h s t at run base log from last is same w = rw (sym is) (rw (sym same) w)

-- what a search spends, as a mount
pub searches_spend : (tells unread faulty : Bool) (most : ℕ) (old new : State) → faulty ≡ false → Searches tells unread old new → MountSpends unread faulty most old new
searches_spend tells unread faulty most old new calm r = subst (λ (f : Bool). MountSpends unread f most old new) (sym calm) (record {
  same = r.only.same;
  read_faults = r.only.read_faults;
  faults = r.only.faults;
  waits = (0, omega arith, r.only.waits);
  polls = r.only.polls;
})

-- a refusal says of a disk what it says of the same one after a read
pub refused_before : (old mid new : State) (e : MountRefusal) → mid.blocks ≡ old.blocks → mid.base ≡ old.base → mid.log ≡ old.log → RefusalSays mid new e → RefusalSays old new e
refused_before old mid new NoHeader size base log says = (λ slot h newest. says.0 slot h (subst (λ (n : ℕ). Newest n (settled_on mid) slot h) (sym size) (subst (λ (at : Blocks). Newest old.blocks at slot h) (sym (same_settled old mid base log)) newest)), says.1 ∙ log)
refused_before old mid new Spent size base log says = (subst (λ (n : ℕ). IsUsedUp n (settled_on old)) size (subst (λ (at : Blocks). IsUsedUp mid.blocks at) (same_settled old mid base log) says.0), says.1 ∙ log)
refused_before old mid new ReadFault size base log says = tt
refused_before old mid new DiskFault size base log says = tt
refused_before old mid new NoMemory size base log says = says ∙ log

-- a fault says nothing of what was found
pub faults_say : (old new : State) (e : MountRefusal) → IsFault e → RefusalSays old new e
faults_say old new NoHeader f = absurd f
faults_say old new Spent f = absurd f
faults_say old new ReadFault f = tt
faults_say old new DiskFault f = tt
faults_say old new NoMemory f = absurd f

-- what holds of a refusal, if there is one
pub if_err : {T : Type 0} (r : Result T MountRefusal) (P Q : MountRefusal → Type 0) → ((e : MountRefusal) → P e → Q e) → IfErr r P → IfErr r Q
if_err (Ok x) P Q then p = p
if_err (Err e) P Q then p = then e p
