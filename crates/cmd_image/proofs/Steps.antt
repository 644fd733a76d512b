-- What each step of a showing leaves: the mount, the opening, and the listing.
use Rattle.std.proofs.Common.{◌≡◌, ◌⊎◌, inl, inr, ℕ, ◌+◌, ◌<◌, ◌≤◌, nat_lt, ◌||◌, Bool, true, false, true≢false, IsTrue, List, [], ◌∷◌, ◌++◌, length, Option, Result, Ok, Err, OnOk, OnErr, refl, sym, ap, ap₂, ◌∙◌, subst, arith}
use Rattle.std.specs.Io.KnownBytes.{Appends}
use Rattle.base_types.specs.Counts.{after_call}
use Rattle.base_types.specs.Seal.{Blocks}
use Rattle.base_io.specs.Prefix.{TakesPrefix}
use Rattle.disk_contract.specs.declared.bay.Mark.{Mark}
use Rattle.disk_contract.specs.declared.disk.Disk.{Ghosts}
use Rattle.disk_contract.specs.declared.event.Event.{Event}
use Rattle.disk_contract.specs.Bay.{has_faults}
use Rattle.disk_contract.specs.Crash.{Window}
use Rattle.disk_contract.specs.Disk as disk
use Rattle.disk_contract.specs.Disk.{writes_in}
use Rattle.layout_geometry.specs.Geometry.{Geometry}
use Rattle.layout_journal.specs.declared.header.Header.{Header}
use Rattle.layout_journal.specs.Run.{Newest}
use Rattle.crash_argument.specs.Ledger.{HoldsUnder}
use Rattle.engine_mount.specs.Mount.{IsUsedUp, settled_on}
use Rattle.engine_blocks.specs.Crashes.{IsBegun}
use Rattle.engine_blocks.specs.State.{Bookkeeping, State, Ticking}
use Rattle.lang_tree.specs.Tree.{Tree}
use Rattle.lang_tree.specs.Step.{Session}
use Rattle.lang_tree.specs.Listing.{listing}
use Rattle.crash_stands.specs.Stands.{IsTreeOf}
use Rattle.engine_store.specs.declared.refusal.StoreRefusal.{StoreRefusal}
use Rattle.engine_store.specs.declared.refusal.StoreRefusal.TheVariants as refused
use Rattle.engine_store.specs.declared.store.Store.{Store}
use Rattle.engine_store.specs.Mounting.{BeginsWith, LeavesDisk}
use Rattle.engine_store.specs.Refusal.{MayBeMounted, RefusalSays, is_disk_fault, is_read_fault}
use Rattle.engine_store.specs.StoreOf.{disk_in, state_of}
use Rattle.fs_files.specs.Effects.{LooksOnly}
use Rattle.fs_check.specs.declared.checking.CheckRefusal.{CheckRefusal}
use Rattle.fs_check.specs.declared.checking.CheckRefusal.TheVariants as check
use Rattle.fs_check.specs.Whole.{IsDamaged, OnDamage, fails_by}
use Rattle.fs_session.specs.Sessions.{IsSession}
use Rattle.cmd_image.specs.Staying.{keeps}
use Rattle.cmd_image.specs.declared.show_refusal.ShowRefusal.{ShowRefusal}
use Rattle.cmd_image.specs.declared.show_refusal.ShowRefusal.TheVariants.{Fault, Damaged, Spent, SinkFault, NoMemory}
use Rattle.cmd_session.specs.declared.images.ImageDamage.{ImageDamage}
use Rattle.cmd_session.specs.declared.images.ImageDamage.TheVariants.{NoHeader, BadBit}
use Rattle.cmd_session.specs.Images.{CanBeMounted, HasDamage, StandsForNone, StandsMounted}
use Rattle.cmd_image.specs.Mounted.{HasSession, HoldsThroughout, IsFresh, IsMarkOf, IsMountedOn, MarksFor, SaysOn, ShowsDisk, is_fault, of_check, of_store}
use Rattle.cmd_image.specs.Shows.{HasMark, ListsFront, RefusesOn, fails_pushing, says_nothing}
use Rattle.cmd_image.proofs.Standing.{HoldsSome, StandsAsBase, StandingLaws, all_alike, all_held, bad_image, holds_some, mountable_image, settled_is, throughout, tree_in, tree_out}

none_below : {n : ℕ} → n ≡ 0 → 0 < n → ⊥
none_below is some = omega (arith, is, some)

-- a disk whose counts were 0 has faults where a call failed
faulty : (unread failed : Bool) (d : disk.State) → d.read_faults ≡ after_call unread 0 → d.faults ≡ after_call failed 0 → has_faults d ≡ (unread || failed)
faulty unread failed d reads others = ap₂ (λ (r f : ℕ). nat_lt 0 r || nat_lt 0 f) reads others ∙ by unread failed
  where
    by : (u f : Bool) → (nat_lt 0 (after_call u 0) || nat_lt 0 (after_call f 0)) ≡ (u || f)
    by true true = refl
    by true false = refl
    by false true = refl
    by false false = refl

-- a call that was counted in a count of 0 has failed
counted_by : (failed : Bool) (n : ℕ) → n ≡ after_call failed 0 → 0 < n → failed ≡ true
counted_by true n is some = refl
counted_by false n is some = absurd (none_below is some)

unread_alone : (u : Bool) → (u || false) ≡ u
unread_alone true = refl
unread_alone false = refl

-- The mount.

-- the image of a disk that begins holds a map, as each honest image does since
abbrev HoldsBoth : disk.State → List Event → Geometry → Blocks → Type 0
HoldsBoth first log g m = HoldsUnder first.blocks g first.base m × Window first.blocks first.base log 0 (λ img. HoldsUnder first.blocks g img m)

holds_both : (tells unread failed : Bool) (first last : disk.State) → IsTrue tells → first.log ≡ [] → LeavesDisk tells unread failed first last → (h : HoldsSome first.blocks first.base) → HoldsBoth first last.log h.geom h.map
holds_both tells unread failed first last t none leaves h = (
  h.holds,
  subst (λ (n : ℕ). Window first.blocks first.base last.log n (λ img. HoldsUnder first.blocks h.geom img h.map)) (ap (λ (es : List Event). length es) none)
      (leaves.holds t h.geom h.map (subst (λ (x : Blocks). HoldsUnder first.blocks h.geom x h.map) (sym (settled_is first none)) h.holds)),
)

-- the same of the map and the geometry of a store
holds_of : (first : disk.State) (s : State) (g : Geometry) (m : Blocks) → CanBeMounted first.blocks first.base → s.books.geom ≡ g → s.map ≡ m → HoldsBoth first s.crash.log g m → HoldsThroughout first s
holds_of first s g m may geom map both =
    let now = subst (λ (k : Geometry). HoldsBoth first s.crash.log k s.map) (sym geom) (subst (λ (x : Blocks). HoldsBoth first s.crash.log g x) (sym map) both) in
    record { mountable = may; holds = now.0; images = now.1 }

-- how many writes a mount adds at most, from the first one on
written_by : (tells unread failed : Bool) (first last : disk.State) → IsTrue tells → first.log ≡ [] → LeavesDisk tells unread failed first last → writes_in last.log ≤ first.blocks + 2
written_by tells unread failed first last t none leaves = omega (arith, leaves.written t, ap (λ (es : List Event). writes_in es) none)

-- what a mount says of the map that is settled on a disk, it says of the map that its image holds, where the disk has no event
pub begins_at : (first : disk.State) (P : Geometry → Blocks → Type 0) → first.log ≡ [] → ((g : Geometry) (m : Blocks) → HoldsUnder first.blocks g (settled_on first) m → P g m) → (g : Geometry) (m : Blocks) → HoldsUnder first.blocks g first.base m → P g m
begins_at first P none begins g m held = begins g m (subst (λ (x : Blocks). HoldsUnder first.blocks g x m) (sym (settled_is first none)) held)

-- a store that was mounted on a disk that was just opened
pub mounted : {D : Type 0} {k : Ghosts D} (known : D → disk.State) (tells : Bool) (first : disk.State) (store : Store D k) → IsFresh tells first → (known (disk_in store)).blocks ≡ (state_of known store).books.geom.n → IsBegun (state_of known store)
    → LeavesDisk tells false false first (known (disk_in store)) → (IsTrue tells → MayBeMounted first) → (IsTrue tells → (g : Geometry) (m : Blocks) → HoldsUnder first.blocks g (settled_on first) m → BeginsWith g m (state_of known store)) → IsMountedOn tells false first (state_of known store)
mounted known tells first store fresh size begun leaves may begins = record {
  blocks = sym size ∙ leaves.spends.same.blocks;
  base = λ t. leaves.spends.same.base;
  manner = leaves.spends.same.manner;
  polls = leaves.spends.polls;
  waits = leaves.spends.waits;
  read_faults = leaves.spends.read_faults ∙ fresh.counts.read_faults;
  faults = leaves.spends.faults ∙ fresh.counts.faults;
  going = begun.going;
  written = λ t. written_by tells false false first (known (disk_in store)) t (fresh.nothing t) leaves;
  held = λ t.
      let can = mountable_image first (fresh.nothing t) (may t) in
      let h = holds_some first.blocks first.base can in
      let is = begins t h.geom h.map (subst (λ (x : Blocks). HoldsUnder first.blocks h.geom x h.map) (sym (settled_is first (fresh.nothing t))) h.holds) in
      holds_of first (state_of known store) h.geom h.map can is.geom is.map (holds_both tells false false first (known (disk_in store)) t (fresh.nothing t) leaves h);
}

-- It is one still where blocks were only read.
pub still_mounted : (tells failed : Bool) (first : disk.State) (s u : State) → IsMountedOn tells false first s → LooksOnly tells failed s u → IsMountedOn tells failed first u
still_mounted tells failed first s u is looks = record {
  blocks = ap (λ (k : Bookkeeping). k.geom.n) looks.books ∙ is.blocks;
  base = λ t. (looks.crash t).base ∙ is.base t;
  manner = ap (λ (k : Ticking). k.manner) looks.counts.ticks ∙ is.manner;
  polls = ap (λ (k : Ticking). k.polls) looks.counts.ticks ∙ is.polls;
  waits = (is.waits.0, is.waits.1, looks.counts.waits ∙ is.waits.2);
  read_faults = looks.counts.read_faults ∙ ap (after_call failed) is.read_faults;
  faults = looks.counts.faults ∙ is.faults;
  going = ap (λ (k : Bookkeeping). k.stopped) looks.books ∙ is.going;
  written = λ t. subst (λ (es : List Event). writes_in es ≤ first.blocks + 2) (sym (looks.crash t).log) (is.written t);
  held = λ t.
      let h = is.held t in
      holds_of first u s.books.geom s.map h.mountable (ap (λ (k : Bookkeeping). k.geom) looks.books) (looks.map t)
      (subst (λ (es : List Event). HoldsBoth first es s.books.geom s.map) (sym (looks.crash t).log) (h.holds, h.images));
}

module _ (laws : StandingLaws) where
  -- A mount that was refused.

  -- what a refusal says of the image
  says_on : (first new : disk.State) (taken : Option (List ℕ)) (why : StoreRefusal) → first.log ≡ [] → ((what : ImageDamage) → HasDamage first.blocks first.base what → StandsForNone first.blocks first.base) → RefusalSays first new why → RefusesOn taken taken (of_store why) first.blocks first.base
  says_on first new taken refused.NoHeader none damaged says =
      let is : HasDamage first.blocks first.base NoHeader = subst (λ (x : Blocks). (slot : ℕ) (h : Header) → ¬ Newest first.blocks x slot h) (settled_is first none) says.0 in
      (is, damaged NoHeader is)
  says_on first new taken (refused.BadBit b) none damaged says = let is = bad_image first b none says.0 in (is, damaged (BadBit b) is)
  says_on first new taken refused.Spent none damaged says = subst (λ (x : Blocks). IsUsedUp first.blocks x) (settled_is first none) says.0
  says_on first new taken refused.ReadFault none damaged says = inl (keeps taken)
  says_on first new taken refused.DiskFault none damaged says = inl (keeps taken)
  says_on first new taken refused.NoMemory none damaged says = inl (keeps taken)

  -- where it can be mounted each honest image holds its map, and else nothing came
  rests : (tells unread failed : Bool) (first new : disk.State) → IsTrue tells → first.log ≡ [] → LeavesDisk tells unread failed first new → (new.log ≡ first.log) ⊎ MayBeMounted first → StandsAsBase first.blocks first.base new.log
  rests tells unread failed first new t none leaves (inl same) = all_alike laws first.blocks first.base new.log (same ∙ none)
  rests tells unread failed first new t none leaves (inr may) =
      let h = holds_some first.blocks first.base (mountable_image first none may) in
      let both = holds_both tells unread failed first new t none leaves h in
      all_held laws first.blocks first.base new.log h.geom h.map both.0 both.1

  rests_by : (first new : disk.State) (why : StoreRefusal) → RefusalSays first new why → (new.log ≡ first.log) ⊎ MayBeMounted first
  rests_by first new refused.NoHeader says = inl says.1
  rests_by first new (refused.BadBit b) says = inl says.1
  rests_by first new refused.Spent says = inl says.1
  rests_by first new refused.ReadFault says = says
  rests_by first new refused.DiskFault says = inr says
  rests_by first new refused.NoMemory says = inl says

  faults_of : (why : StoreRefusal) → (is_read_fault why || is_disk_fault why) ≡ is_fault {T = Unit {0}} (Err (of_store why))
  faults_of refused.NoHeader = refl
  faults_of (refused.BadBit b) = refl
  faults_of refused.Spent = refl
  faults_of refused.ReadFault = refl
  faults_of refused.DiskFault = refl
  faults_of refused.NoMemory = refl

  unmarked : (tells : Bool) (d : disk.State) (why : StoreRefusal) → MarksFor {T = Unit {0}} tells d [] (Err (of_store why))
  unmarked tells d refused.NoHeader = refl
  unmarked tells d (refused.BadBit b) = refl
  unmarked tells d refused.Spent = refl
  unmarked tells d refused.ReadFault = inl refl
  unmarked tells d refused.DiskFault = inl refl
  unmarked tells d refused.NoMemory = inl refl

  pub unmounted : (tells : Bool) (first new : disk.State) (taken : Option (List ℕ)) (why : StoreRefusal) → IsFresh tells first → ((what : ImageDamage) → HasDamage first.blocks first.base what → StandsForNone first.blocks first.base) → (IsTrue tells → RefusalSays first new why)
      → LeavesDisk tells (is_read_fault why) (is_disk_fault why) first new → ShowsDisk {T = Unit {0}} tells first new [] taken taken (Err (of_store why))
  unmounted tells first new taken why fresh damaged says leaves = record {
    spends = record {
      blocks = leaves.spends.same.blocks;
      base = λ t. leaves.spends.same.base;
      manner = leaves.spends.same.manner;
      polls = leaves.spends.polls;
      waits = leaves.spends.waits;
      written = λ t. written_by tells (is_read_fault why) (is_disk_fault why) first new t (fresh.nothing t) leaves;
    };
    cause = λ t some. leaves.cause t (counted_by (is_disk_fault why) new.faults (leaves.spends.faults ∙ ap (after_call (is_disk_fault why)) fresh.counts.faults) some);
    faults = faulty (is_read_fault why) (is_disk_fault why) new (leaves.spends.read_faults ∙ ap (after_call (is_read_fault why)) fresh.counts.read_faults) (leaves.spends.faults ∙ ap (after_call (is_disk_fault why)) fresh.counts.faults) ∙ faults_of why;
    crash = λ t. throughout first.blocks first.base new leaves.spends.same.blocks leaves.spends.same.base (rests tells (is_read_fault why) (is_disk_fault why) first new t (fresh.nothing t) leaves (rests_by first new why (says t)));
    marked = unmarked tells new why;
    says = λ t. says_on first new taken why (fresh.nothing t) damaged (says t);
  }

  -- A store that goes back.

  pub goes_back : {D : Type 0} {k : Ghosts D} (known : D → disk.State) (tells unread : Bool) (first : disk.State) (store : Store D k) (marks : List Mark) (before after : Option (List ℕ)) (answer : Result (Unit {0}) ShowRefusal)
      → IsMountedOn tells unread first (state_of known store) → (known (disk_in store)).blocks ≡ (state_of known store).books.geom.n → is_fault answer ≡ unread → MarksFor tells (known (disk_in store)) marks answer → (IsTrue tells → SaysOn before after answer first.blocks first.base)
      → ShowsDisk tells first (known (disk_in store)) marks before after answer
  goes_back known tells unread first store marks before after answer is size failed marked says = record {
    spends = record { blocks = size ∙ is.blocks; base = is.base; manner = is.manner; polls = is.polls; waits = is.waits; written = is.written };
    cause = λ t some. absurd (none_below is.faults some);
    faults = faulty unread false (known (disk_in store)) is.read_faults is.faults ∙ unread_alone unread ∙ sym failed;
    crash = λ t.
        let h = is.held t in
        throughout first.blocks first.base (known (disk_in store)) (size ∙ is.blocks) (is.base t) (all_held laws first.blocks first.base (known (disk_in store)).log (state_of known store).books.geom (state_of known store).map h.holds h.images);
    marked = marked;
    says = says;
  }

  -- The opening of the file system that was refused.

  check_faults : (why : CheckRefusal) → is_fault {T = Unit {0}} (Err (of_check why)) ≡ fails_by why
  check_faults (check.Damaged what) = refl
  check_faults check.ReadFault = refl
  check_faults check.NoMemory = refl

  check_unmarked : (tells : Bool) (d : disk.State) (why : CheckRefusal) → MarksFor {T = Unit {0}} tells d [] (Err (of_check why))
  check_unmarked tells d (check.Damaged what) = refl
  check_unmarked tells d check.ReadFault = inl refl
  check_unmarked tells d check.NoMemory = inl refl

  check_says : (first : disk.State) (s : State) (taken : Option (List ℕ)) (why : CheckRefusal) → HoldsThroughout first s → OnDamage why (IsDamaged s.books.geom s.map) → OnDamage why (λ _. (t : Tree) → IsTreeOf s.books.geom s.map t → ⊥)
      → RefusesOn taken taken (of_check why) first.blocks first.base
  check_says first s taken (check.Damaged what) h damage none = (
    record { mountable = h.mountable; map = s.map; held = h.holds.held; broken = subst (λ (k : Geometry). IsDamaged k s.map what) (sym h.holds.geom) damage },
    λ t stands. none t (tree_in laws first.blocks s.books.geom first.base s.map t h.holds stands),
  )
  check_says first s taken check.ReadFault h damage none = inl (keeps taken)
  check_says first s taken check.NoMemory h damage none = inl (keeps taken)

  pub unopened : {D : Type 0} {k : Ghosts D} (known : D → disk.State) (tells : Bool) (first : disk.State) (store : Store D k) (taken : Option (List ℕ)) (why : CheckRefusal)
      → IsMountedOn tells (fails_by why) first (state_of known store) → (known (disk_in store)).blocks ≡ (state_of known store).books.geom.n
      → (IsTrue tells → OnDamage why (IsDamaged (state_of known store).books.geom (state_of known store).map)) → (IsTrue tells → OnDamage why (λ _. (t : Tree) → IsTreeOf (state_of known store).books.geom (state_of known store).map t → ⊥)) → ShowsDisk {T = Unit {0}} tells first (known (disk_in store)) [] taken taken (Err (of_check why))
  unopened known tells first store taken why is size damage none =
      goes_back known tells (fails_by why) first store [] taken taken (Err (of_check why)) is size (check_faults why) (check_unmarked tells (known (disk_in store)) why)
      (λ t. check_says first (state_of known store) taken why (is.held t) (damage t) (none t))

  -- The listing.

  list_marked : (tells : Bool) (d : disk.State) (marks : List Mark) (a : Result (Unit {0}) ShowRefusal) → says_nothing a ≡ false → HasMark tells d marks → MarksFor tells d marks a
  list_marked tells d marks (Ok x) says has = has
  list_marked tells d marks (Err Fault) says has = inr has
  list_marked tells d marks (Err (Damaged damage)) says has = absurd (true≢false says)
  list_marked tells d marks (Err Spent) says has = absurd (true≢false says)
  list_marked tells d marks (Err SinkFault) says has = has
  list_marked tells d marks (Err NoMemory) says has = inr has

  list_says : (first : disk.State) (s : State) (before after : Option (List ℕ)) (a : Result (Unit {0}) ShowRefusal) (f : Session) → says_nothing a ≡ false → HoldsThroughout first s → IsSession s f
      → OnOk a ((f : Session) → IsSession s f → Appends before after (listing f.tree)) → OnErr a ((f : Session) → IsSession s f → TakesPrefix before after (listing f.tree)) → SaysOn before after a first.blocks first.base
  list_says first s before after a f says h is all front = by a says all front
    where
      stands : StandsMounted first.blocks first.base f.tree
      stands = record { mountable = h.mountable; stands = tree_out first.blocks s.books.geom first.base s.map f.tree h.holds is.tree }

      some : ((f : Session) → IsSession s f → TakesPrefix before after (listing f.tree)) → ListsFront before after first.blocks first.base
      some took = record { tree = f.tree; stands = stands; took = took f is }

      by : (a : Result (Unit {0}) ShowRefusal) → says_nothing a ≡ false → OnOk a ((f : Session) → IsSession s f → Appends before after (listing f.tree)) → OnErr a ((f : Session) → IsSession s f → TakesPrefix before after (listing f.tree)) → SaysOn before after a first.blocks first.base
      by (Ok x) says all front = record { tree = f.tree; stands = stands; took = all f is }
      by (Err Fault) says all front = inr (some front)
      by (Err (Damaged damage)) says all front = absurd (true≢false says)
      by (Err Spent) says all front = absurd (true≢false says)
      by (Err SinkFault) says all front = some front
      by (Err NoMemory) says all front = inr (some front)

  pub listed : {D : Type 0} {k : Ghosts D} (known : D → disk.State) (tells : Bool) (first : disk.State) (s : State) (store : Store D k) (mark : Mark) (before after : Option (List ℕ)) (a : Result (Unit {0}) ShowRefusal)
      → IsMountedOn tells false first s → LooksOnly tells (is_fault a) s (state_of known store) → (known (disk_in store)).blocks ≡ (state_of known store).books.geom.n → says_nothing a ≡ false → IsMarkOf tells s mark → (IsTrue tells → HasSession s)
      → (IsTrue tells → OnOk a ((f : Session) → IsSession s f → Appends before after (listing f.tree))) → (IsTrue tells → OnErr a ((f : Session) → IsSession s f → TakesPrefix before after (listing f.tree)))
      → ShowsDisk tells first (known (disk_in store)) (mark ∷ []) before after a
  listed known tells first s store mark before after a is looks size says marks session all front =
      goes_back known tells (is_fault a) first store (mark ∷ []) before after a (still_mounted tells (is_fault a) first s (state_of known store) is looks) size refl
      (list_marked tells (known (disk_in store)) (mark ∷ []) a says (record {
        moment = mark.moment;
        only = ap₂ (λ (r f : ℕ). record { moment = mark.moment; read_faults = r; faults = f } ∷ []) marks.read_faults marks.faults;
        last = λ t. marks.moment t ∙ ap (λ (es : List Event). length es) (sym (looks.crash t).log);
      }))
      (λ t. let f = session t in list_says first s before after a f.0 says (is.held t) f.1 (all t) (front t))

  -- the same of the disk, the store and the marks as the function has them
  pub listed_back : {D : Type 0} {k : Ghosts D} (known : D → disk.State) (tells : Bool) (first : disk.State) (s : State) (new store : Store D k) (last : D) (mark : Mark) (old marks : List Mark) (before after : Option (List ℕ)) (a : Result (Unit {0}) ShowRefusal)
      → store ≡ new → last ≡ disk_in store → old ≡ [] → marks ≡ old ++ mark ∷ [] → IsMountedOn tells false first s → LooksOnly tells (is_fault a) s (state_of known new) → (known (disk_in store)).blocks ≡ (state_of known store).books.geom.n → says_nothing a ≡ false → IsMarkOf tells s mark
      → (IsTrue tells → HasSession s) → (IsTrue tells → OnOk a ((f : Session) → IsSession s f → Appends before after (listing f.tree))) → (IsTrue tells → OnErr a ((f : Session) → IsSession s f → TakesPrefix before after (listing f.tree))) → ShowsDisk tells first (known last) marks before after a
  listed_back {D = D} {k = k} known tells first s new store last mark old marks before after a store_is last_is none marks_are is looks size says mark_is session all front =
      subst (λ (x : D). ShowsDisk tells first (known x) marks before after a) (sym last_is)
      (subst (λ (xs : List Mark). ShowsDisk tells first (known (disk_in store)) xs before after a) (sym (marks_are ∙ ap (λ (xs : List Mark). xs ++ mark ∷ []) none))
      (listed known tells first s store mark before after a is (subst (λ (x : Store D k). LooksOnly tells (is_fault a) s (state_of known x)) (sym store_is) looks) size says mark_is session all front))

  pub unopened_back : {D : Type 0} {k : Ghosts D} (known : D → disk.State) (tells : Bool) (first : disk.State) (store : Store D k) (last : D) (taken : Option (List ℕ)) (why : CheckRefusal) (answer : ShowRefusal)
      → last ≡ disk_in store → answer ≡ of_check why → IsMountedOn tells (fails_by why) first (state_of known store) → (known (disk_in store)).blocks ≡ (state_of known store).books.geom.n
      → (IsTrue tells → OnDamage why (IsDamaged (state_of known store).books.geom (state_of known store).map)) → (IsTrue tells → OnDamage why (λ _. (t : Tree) → IsTreeOf (state_of known store).books.geom (state_of known store).map t → ⊥)) → ShowsDisk {T = Unit {0}} tells first (known last) [] taken taken (Err answer)
  unopened_back {D = D} known tells first store last taken why answer last_is answer_is is size damage no_tree =
      subst (λ (x : D). ShowsDisk {T = Unit {0}} tells first (known x) [] taken taken (Err answer)) (sym last_is)
      (subst (λ (w : ShowRefusal). ShowsDisk {T = Unit {0}} tells first (known (disk_in store)) [] taken taken (Err w)) (sym answer_is)
      (unopened known tells first store taken why is size damage no_tree))

  pub unmounted_back : (tells : Bool) (first new : disk.State) (marks : List Mark) (taken : Option (List ℕ)) (why : StoreRefusal) (answer : ShowRefusal) → marks ≡ [] → answer ≡ of_store why → IsFresh tells first → ((n : ℕ) (at : Blocks) (what : ImageDamage) → HasDamage n at what → StandsForNone n at)
      → (IsTrue tells → RefusalSays first new why) → LeavesDisk tells (is_read_fault why) (is_disk_fault why) first new → ShowsDisk {T = Unit {0}} tells first new marks taken taken (Err answer)
  unmounted_back tells first new marks taken why answer none answer_is fresh damaged says leaves =
      subst (λ (xs : List Mark). ShowsDisk {T = Unit {0}} tells first new xs taken taken (Err answer)) (sym none)
      (subst (λ (w : ShowRefusal). ShowsDisk {T = Unit {0}} tells first new [] taken taken (Err w)) (sym answer_is)
      (unmounted tells first new taken why fresh (damaged first.blocks first.base) says leaves))

-- a check pushes nothing
pub check_silent : (why : CheckRefusal) (answer : ShowRefusal) → answer ≡ of_check why → fails_pushing {T = Unit {0}} (Err answer) ≡ false
check_silent why answer is = ap (λ (w : ShowRefusal). fails_pushing {T = Unit {0}} (Err w)) is ∙ by why
  where
    by : (why : CheckRefusal) → fails_pushing {T = Unit {0}} (Err (of_check why)) ≡ false
    by (check.Damaged what) = refl
    by check.ReadFault = refl
    by check.NoMemory = refl
