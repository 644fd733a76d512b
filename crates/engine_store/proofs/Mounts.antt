-- What a mount leaves of a disk that was read before: windows, sessions and counts, and what its refusals say.
use Rattle.std.proofs.Common.{◌≡◌, inl, inr, ℕ, ◌+◌, Bool, false, IsTrue, List, [], length, take, take_all, Result, Ok, Err, IsErr, refl, sym, ◌∙◌, ap, ap₂, subst, arith}
use Rattle.std.proofs.lemmas.Bool.{false≢true}
use mathlib.Core.Path.{fun_ext, subst₂}
use Rattle.base_types.specs.Counts.{after_call, after_calls}
use Rattle.base_types.specs.Seal.{Blocks}
use Rattle.disk_contract.specs.Manner.{Manner}
use Rattle.disk_contract.specs.declared.event.Event.{Event}
use Rattle.disk_contract.specs.Cell.{cell_of}
use Rattle.disk_contract.specs.Crash.{IsHonest, Window}
use Rattle.disk_contract.specs.Disk.{State}
use Rattle.disk_contract.specs.Lawful.{IsSoundDisk}
use Rattle.layout_geometry.specs.Geometry.{Geometry}
use Rattle.layout_journal.specs.declared.header.Header.{Header}
use Rattle.engine_recover.specs.Reading.{Searches}
use Rattle.engine_recover.specs.Search.{FoundRun, IsFound}
use Rattle.crash_argument.specs.Ledger.{HoldsUnder, cells_of, issued, last_of}
use Rattle.crash_argument.specs.Mounting.{HasBegun}
use Rattle.crash_argument.specs.Points.{IsMounted}
use Rattle.crash_argument.specs.Opening.{StopsAtOne, WritesOne, WritesOnce, settled}
use Rattle.crash_argument.specs.Replay.{found_map}
use Rattle.engine_mount.specs.declared.refusal.MountRefusal.{MountRefusal}
use Rattle.engine_mount.specs.declared.refusal.MountRefusal.TheVariants as mounting
use Rattle.engine_mount.specs.Mount.{FoundDisk, GoesOn, IsFoundOn, IsIdle, MountSpends, settled_on}
use Rattle.engine_mount.specs.Refusal as mount
use Rattle.engine_blocks.specs.Crashes.{StandsForLast}
use Rattle.engine_books.specs.Books.{TransactionBooks}
use Rattle.engine_books.specs.Point.{HasBitmap}
use Rattle.engine_store.specs.declared.parts.StoreParts.{StoreParts}
use Rattle.engine_store.specs.declared.refusal.StoreRefusal.{StoreRefusal}
use Rattle.engine_store.specs.Mounting.{AreNewParts, GoesOnFrom, HasOpened, HoldsLast}
use Rattle.engine_store.specs.Refusal.{IsReplayedBitmap, MayBeMounted, RefusalSays, is_disk_fault, is_read_fault, refusal_of}
use Rattle.engine_store.specs.Told.{session_of, store_state}
use Rattle.engine_store.proofs.Beginnings.{Starts}

-- What the laws say that are put to use.
abbrev pub IdleHolds : Type 0
IdleHolds = (n : ℕ) (base : Blocks) (log : List Event) (g : Geometry) (m img : Blocks) → ((b : ℕ) → (cell_of base log b).pending ≡ []) → HoldsUnder n g (settled (cell_of base log)) m → IsHonest n base log img → HoldsUnder n g img m

abbrev pub HasLaw : Type 0
HasLaw = (d : State) (g : Geometry) (m : Blocks) (r : FoundRun) (books : TransactionBooks) → HoldsUnder d.blocks g (settled_on d) m → IsFound d.blocks (settled_on d) r → IsReplayedBitmap r (settled_on d) books.bitmap → books.geom ≡ g → HasBitmap books m

abbrev pub GeomLaw : Type 0
GeomLaw = (d : State) (g : Geometry) (m : Blocks) (r : FoundRun) → HoldsUnder d.blocks g (settled_on d) m → IsFound d.blocks (settled_on d) r → r.header.geom ≡ g

-- Where nothing is written.

-- each image of the one moment that a call knows holds what the disk held
pub calm_window : IdleHolds → (old new : State) (g : Geometry) (m : Blocks) → IsIdle old → new.log ≡ old.log → HoldsUnder old.blocks g (settled_on old) m → Window old.blocks old.base new.log (length old.log) (λ img. HoldsUnder old.blocks g img m)
calm_window holds old new g m idle same held = record {
  each = λ k img from upto honest. holds old.blocks old.base old.log g m img idle held
      (subst (λ (l : List Event). IsHonest old.blocks old.base l img) (ap (take k) same ∙ take_all k old.log (omega (arith, from))) honest);
}

-- what a search spends that found the run, a mount may
pub search_spends : (tells : Bool) (most : ℕ) (old new : State) → Searches tells false old new → MountSpends false false most old new
search_spends tells most old new s = record {
  same = s.only.same;
  read_faults = s.only.read_faults;
  faults = s.only.faults;
  waits = (0, omega arith, s.only.waits);
  polls = s.only.polls;
}

-- A disk that was only read is the same but for the count of failed reads.

same_state : (tells failed : Bool) (old mid : State) → IsTrue tells → Searches tells failed old mid → mid ≡ record old { read_faults = mid.read_faults }
same_state tells failed old mid t s =
    ap₂ (λ (n : ℕ) (base : Blocks). record { blocks = n; base = base; log = mid.log; faults = mid.faults; read_faults = mid.read_faults; waits = mid.waits; polls = mid.polls; manner = mid.manner }) s.only.same.blocks s.only.same.base
    ∙ (ap₂ (λ (log : List Event) (f : ℕ). record { blocks = old.blocks; base = old.base; log = log; faults = f; read_faults = mid.read_faults; waits = mid.waits; polls = mid.polls; manner = mid.manner }) (s.log t) s.only.faults
    ∙ (ap₂ (λ (w p : ℕ). record { blocks = old.blocks; base = old.base; log = old.log; faults = old.faults; read_faults = mid.read_faults; waits = w; polls = p; manner = mid.manner }) s.only.waits s.only.polls
    ∙ ap (λ (m : Manner). record { blocks = old.blocks; base = old.base; log = old.log; faults = old.faults; read_faults = mid.read_faults; waits = old.waits; polls = old.polls; manner = m }) s.only.same.manner))

-- what was found, and its bitmap in the books
pub found_as : (old : State) (f : FoundDisk) (xs : List (List ℕ)) (books : TransactionBooks) → books.bitmap ≡ xs → IsFoundOn old f × IsReplayedBitmap f.run (settled_on old) xs → IsFoundOn old f × IsReplayedBitmap f.run (settled_on old) books.bitmap
found_as old f xs books made is = (is.0, subst (IsReplayedBitmap f.run (settled_on old)) (sym made) is.1)

-- what was found there is found there still
found_still : (old : State) (k : ℕ) (f : FoundDisk) → IsFoundOn old f → IsFoundOn (record old { read_faults = k }) f
found_still old k f is = record { is_found = is.is_found; is_greatest = is.is_greatest }

module _ (tells : Bool) (old mid new : State) (t : IsTrue tells) (s : Searches tells false old mid) (f : FoundDisk) (idle : IsIdle old) (is : IsFoundOn old f) where
  -- what a mount promises of the disk as it is then it promises of the disk as it was
  pub window_since : (IsIdle mid → IsFoundOn mid f → (g : Geometry) (m : Blocks) → HoldsUnder mid.blocks g (settled_on mid) m → Window mid.blocks mid.base new.log (length mid.log) (λ img. HoldsUnder mid.blocks g img m))
      → (g : Geometry) (m : Blocks) → HoldsUnder old.blocks g (settled_on old) m → Window old.blocks old.base new.log (length old.log) (λ img. HoldsUnder old.blocks g img m)
  window_since holds g m held = subst (λ (q : State). IsIdle q → IsFoundOn q f → (g : Geometry) (m : Blocks) → HoldsUnder q.blocks g (settled_on q) m → Window q.blocks q.base new.log (length q.log) (λ img. HoldsUnder q.blocks g img m))
      (same_state tells false old mid t s) holds idle (found_still old mid.read_faults f is) g m held

  begun_since : (slot : ℕ) (h : Header) → (IsIdle mid → IsFoundOn mid f → (g : Geometry) (m : Blocks) → HoldsUnder mid.blocks g (settled_on mid) m → HasBegun new g slot h (length mid.log) m)
      → (g : Geometry) (m : Blocks) → HoldsUnder old.blocks g (settled_on old) m → HasBegun new g slot h (length old.log) m
  begun_since slot h begins g m held = subst (λ (q : State). IsIdle q → IsFoundOn q f → (g : Geometry) (m : Blocks) → HoldsUnder q.blocks g (settled_on q) m → HasBegun new g slot h (length q.log) m)
      (same_state tells false old mid t s) begins idle (found_still old mid.read_faults f is) g m held

  place_since : (h : Header) → (IsIdle mid → IsFoundOn mid f → GoesOn mid.blocks (settled_on mid) h) → h.at ≡ 0
  place_since h goes = (subst (λ (q : State). IsIdle q → IsFoundOn q f → GoesOn q.blocks (settled_on q) h) (same_state tells false old mid t s) goes idle (found_still old mid.read_faults f is)).place

  -- A store starts with each map that the disk held.
  pub starts_with : HasLaw → GeomLaw → (k : Geometry) (slot : ℕ) (h : Header) (moment : ℕ) (books : TransactionBooks) → k ≡ f.run.header.geom → books.geom ≡ k → IsReplayedBitmap f.run (settled_on old) books.bitmap → moment ≡ length new.log → IsSoundDisk new
      → (IsIdle mid → IsFoundOn mid f → (g : Geometry) (m : Blocks) → HoldsUnder mid.blocks g (settled_on mid) m → HasBegun new g slot h (length mid.log) m)
      → (IsIdle mid → IsFoundOn mid f → GoesOn mid.blocks (settled_on mid) h)
      → (g : Geometry) (m : Blocks) → HoldsUnder old.blocks g (settled_on old) m → (k ≡ g) × Starts new k slot h moment (length old.log) books m
  starts_with has geom k slot h moment books shape made bits events lawful begins goes g m held =
      let same : k ≡ g = shape ∙ geom old g m f.run held is.is_found in (
        same,
        subst (λ (q : Geometry). Starts new q slot h moment (length old.log) books m) (sym same) (record {
          begun = begun_since slot h begins g m held;
          place = place_since h goes;
          bitmap = has old g m f.run books held is.is_found bits (made ∙ same);
          events = events;
          lawful = lawful;
        }),
      )

  -- the map that was found is one that it held
  pub held_one : HoldsUnder old.blocks f.run.header.geom (settled_on old) (found_map (settled_on old) f.run.header f.run.records)
  held_one = record { held = record { slot = f.run.slot; header = f.run.header; run = f.run.records; newest = is.is_found.newest; is_run = is.is_found.is_run; each = λ b. refl }; geom = refl }

  -- the mount has ended on the disk, under a header that goes on from what was found
  pub opened_since : (k : Geometry) (slot : ℕ) (h : Header) (moment : ℕ) (v : StoreParts) → AreNewParts k slot h moment v → k ≡ f.run.header.geom
      → (IsIdle mid → IsFoundOn mid f → (g : Geometry) (m : Blocks) → HoldsUnder mid.blocks g (settled_on mid) m → HasBegun new g slot h (length mid.log) m)
      → (IsIdle mid → IsFoundOn mid f → GoesOn mid.blocks (settled_on mid) h) → (ticks : ℕ) → HasOpened old (store_state v ticks new)
  opened_since k slot h moment v parts shape begins goes ticks = record {
    slot = slot;
    header = h;
    mounted = subst (λ (q : Geometry). IsMounted (cells_of new) q slot h) (sym (parts.books.geom ∙ shape)) (begun_since slot h begins f.run.header.geom (found_map (settled_on old) f.run.header f.run.records) held_one).mounted;
    goes_on = subst (λ (q : State). IsIdle q → IsFoundOn q f → GoesOn q.blocks (settled_on q) h) (same_state tells false old mid t s) goes idle (found_still old mid.read_faults f is);
  }

-- Counts.

-- what a mount spends behind a search that found the run
pub spends_since : (tells unread faulty : Bool) (old mid new : State) → Searches tells false old mid → MountSpends unread faulty (mid.blocks + 2) mid new → MountSpends unread faulty (old.blocks + 2) old new
spends_since tells unread faulty old mid new s two = record {
  same = record { blocks = two.same.blocks ∙ s.only.same.blocks; base = two.same.base ∙ s.only.same.base; manner = two.same.manner ∙ s.only.same.manner };
  read_faults = two.read_faults ∙ ap (after_call unread) s.only.read_faults;
  faults = two.faults ∙ ap (after_call faulty) s.only.faults;
  waits = (two.waits.0, omega (arith, two.waits.1, s.only.same.blocks), two.waits.2 ∙ ap (after_calls two.waits.0) s.only.waits);
  polls = two.polls ∙ s.only.polls;
}

-- The refusals of a mount.

unread_of : (Q : Type 0) (why : MountRefusal) → is_read_fault (refusal_of why) ≡ mount.is_unread {T = Q} (Err why)
unread_of Q mounting.NoHeader = refl
unread_of Q mounting.Spent = refl
unread_of Q mounting.ReadFault = refl
unread_of Q mounting.DiskFault = refl
unread_of Q mounting.NoMemory = refl

pub faulty_of : (Q : Type 0) (why : MountRefusal) → is_disk_fault (refusal_of why) ≡ mount.is_faulty {T = Q} (Err why)
faulty_of Q mounting.NoHeader = refl
faulty_of Q mounting.Spent = refl
faulty_of Q mounting.ReadFault = refl
faulty_of Q mounting.DiskFault = refl
faulty_of Q mounting.NoMemory = refl

-- what a refused mount spends, by the refusal of the store
pub refused_spends : (Q : Type 0) (most : ℕ) (why : MountRefusal) (is : StoreRefusal) (old new : State) → is ≡ refusal_of why → MountSpends (mount.is_unread {T = Q} (Err why)) (mount.is_faulty {T = Q} (Err why)) most old new → MountSpends (is_read_fault is) (is_disk_fault is) most old new
refused_spends Q most why is old new same s = subst (λ (x : StoreRefusal). MountSpends (is_read_fault x) (is_disk_fault x) most old new) (sym same)
    (subst₂ (λ (u f : Bool). MountSpends u f most old new) (sym (unread_of Q why)) (sym (faulty_of Q why)) s)

-- a call of the disk that failed as the journal was opened says that the disk may be mounted
pub faults_say : (old new : State) (why : MountRefusal) (is : StoreRefusal) → MayBeMounted old → is ≡ refusal_of why → mount.IsFault why → RefusalSays old new is
faults_say old new why is may same fault = subst (RefusalSays old new) (sym same) (says why fault)
  where
    says : (x : MountRefusal) → mount.IsFault x → RefusalSays old new (refusal_of x)
    says mounting.NoHeader f = absurd f
    says mounting.Spent f = absurd f
    says mounting.ReadFault f = inr may
    says mounting.DiskFault f = may
    says mounting.NoMemory f = absurd f

-- The numbers of a store that begins are those of the header of its mount, and so they go on from what was found.
numbers_from : (g : Geometry) (slot : ℕ) (h : Header) (moment : ℕ) (v : StoreParts) (old : State) → AreNewParts g slot h moment v → GoesOn old.blocks (settled_on old) h → (ticks : ℕ) (new : State) → moment ≡ length new.log → GoesOnFrom old (store_state v ticks new)
numbers_from g slot h moment v old parts goes ticks new now = record {
  found = record { run = goes.found; epoch = goes.greatest };
  is_found = record { is_found = goes.is_found; is_greatest = goes.is_greatest };
  most = omega (arith, goes.most, ap (λ (k : Header). k.turn) parts.pipeline.none.written, parts.pipeline.none.last, goes.sure);
  session = session_of v;
  geom = refl;
  first = parts.first ∙ goes.start;
  epoch = ap (λ (k : Header). k.epoch) parts.pipeline.none.header ∙ goes.epoch;
  mounted = parts.mounted ∙ now;
  sure = λ front p. (λ is. is, λ is. is);
  records = record { told = refl; starts = λ front number. (λ is. is, λ is. is) };
}

-- also where a search came before the mount
pub numbers_since : (tells : Bool) (old mid : State) → IsTrue tells → Searches tells false old mid → (f : FoundDisk) → IsIdle old → IsFoundOn old f → (g : Geometry) (slot : ℕ) (h : Header) (moment : ℕ) (v : StoreParts) → AreNewParts g slot h moment v
    → (IsIdle mid → IsFoundOn mid f → GoesOn mid.blocks (settled_on mid) h) → (ticks : ℕ) (new : State) → moment ≡ length new.log → GoesOnFrom old (store_state v ticks new)
numbers_since tells old mid t s f idle is g slot h moment v parts goes = numbers_from g slot h moment v old parts
    (subst (λ (q : State). IsIdle q → IsFoundOn q f → GoesOn q.blocks (settled_on q) h) (same_state tells false old mid t s) goes idle (found_still old mid.read_faults f is))

-- The one write of a mount that has nothing to replay.

-- where nothing was added, what hands on an error has stopped before it
pub stops_before : {T E : Type 0} (m : Manner) (r : Result T E) (old new : List Event) → IsErr r → new ≡ old → WritesOnce m r old new
stops_before m (Ok x) old new is same = absurd (false≢true is)
stops_before m (Err e) old new is same = inl same

-- behind a search, which adds nothing
pub one_since : (old mid new : State) → mid.log ≡ old.log → WritesOne mid.log new.log → WritesOne old.log new.log
one_since old mid new log one = subst (λ (l : List Event). WritesOne l new.log) log one

pub stops_since : (old mid new : State) → mid.manner ≡ old.manner → mid.log ≡ old.log → StopsAtOne mid.manner mid.log new.log → StopsAtOne old.manner old.log new.log
stops_since old mid new manner log stops = subst₂ (λ (m : Manner) (l : List Event). StopsAtOne m l new.log) manner log stops

-- Where nothing is pending, what is settled is what was issued: so it holds the last point's map.
settled_is : (d : State) → IsIdle d → settled_on d ≡ issued d.base d.log
settled_is d idle = fun_ext (λ b. ap (last_of (cells_of d b).settled) (sym (idle b)))

pub holds_last : (v : StoreParts) (d : State) (ticks : ℕ) → d.blocks ≡ v.books.geom.n → IsIdle d → StandsForLast (store_state v ticks d) → HoldsLast d (store_state v ticks d)
holds_last v d ticks size idle last = record {
  some = subst (λ (n : ℕ). ∥ ((m : Blocks) × HoldsUnder n v.books.geom (settled_on d) m) ∥₁) (sym size) (subst (λ (x : Blocks). ∥ ((m : Blocks) × HoldsUnder v.books.geom.n v.books.geom x m) ∥₁) (sym (settled_is d idle)) last.some);
  each = λ m held. last.each m (subst (λ (x : Blocks). HoldsUnder v.books.geom.n v.books.geom x m) (settled_is d idle) (subst (λ (n : ℕ). HoldsUnder n v.books.geom (settled_on d) m) size held));
}
