-- What comes of the mount of an image on a disk in memory on which no call fails, and what the store and the file system on it say of the image.
use Rattle.std.proofs.Common.{◌≡◌, inl, inr, ℕ, ◌+◌, ◌<◌, nat_lt, not, Bool, true, false, true≢false, IsTrue, List, [], ◌∷◌, length, refl, sym, ap, ◌∙◌, subst, arith}
use Rattle.std.proofs.lemmas.Bool.{lt-ltb, both_ways, and_right}
use Rattle.base_types.specs.Seal.{Blocks, blocks_of}
use Rattle.disk_contract.specs.declared.event.Event.{Event}
use Rattle.disk_contract.specs.declared.event.Event.TheVariants.{Wrote, Lost, Noticed}
use Rattle.disk_contract.specs.Disk as disk
use Rattle.disk_contract.specs.Disk.{writes_in}
use Rattle.disk_contract.specs.Manner.{Manner, HasFailedBy}
use Rattle.layout_geometry.specs.Geometry.{Geometry}
use Rattle.layout_journal.specs.Run.{live_part, replayed}
use Rattle.crash_argument.specs.Ledger.{HoldsUnder}
use Rattle.engine_mount.specs.Mount.{FoundDisk, settled_on}
use Rattle.disk_memory.specs.Log.{write_count}
use Rattle.disk_memory.specs.MemDisk.{state_of as disk_state}
use Rattle.engine_blocks.specs.State.{Bookkeeping, State, Ticking}
use Rattle.engine_store.specs.declared.refusal.StoreRefusal.TheVariants as store
use Rattle.engine_store.specs.Mounting.{BeginsWith, LeavesDisk}
use Rattle.engine_store.specs.Refusal.{HasNumbersLeft, MayBeMounted, RefusalSays}
use Rattle.fs_files.specs.Effects.{LooksOnly}
use Rattle.fs_check.specs.declared.checking.Damage.{Damage}
use Rattle.fs_check.specs.Whole.{IsDamaged}
use Rattle.lang_tree.specs.Tree.{Tree}
use Rattle.crash_stands.specs.Stands.{IsTreeOf}
use Rattle.cmd_session.specs.declared.images.ImageDamage.{ImageDamage}
use Rattle.cmd_session.specs.declared.images.ImageDamage.TheVariants.{NoHeader, BadBit, Broken}
use Rattle.cmd_session.specs.Images.{CanBeMounted, HasDamage, StandsForNone, StandsMounted, resting}
use Rattle.cmd_replay.specs.declared.refusal.ReplayRefusal.{ReplayRefusal}
use Rattle.cmd_replay.specs.declared.refusal.ReplayRefusal.TheVariants.{Choice, Damaged, Spent, NoMemory}
use Rattle.cmd_replay.specs.Images.{RefusesImage}
use Rattle.cmd_host.specs.Listed.{IsReadable}
use Rattle.cmd_replay.specs.Mounted.{RefusesMap, resting_disk}

-- A store whose disk fails no read.

-- where one had failed it was counted, which the disk's manner doesn't let be
pub never_unread : (s u : State) → IsReadable s → LooksOnly true true s u → (0 < u.counts.read_faults → u.counts.ticks.manner.reads_fail ≡ true) → ⊥
never_unread s u readable looks reads = absurd (true≢false (sym (reads (omega (arith, looks.counts.read_faults))) ∙ ap (λ (k : Ticking). k.manner.reads_fail) looks.counts.ticks ∙ readable))

-- the tree in blocks that were only read since
pub tree_before : (s u : State) (failed : Bool) (t : Tree) → LooksOnly true failed s u → IsTreeOf u.books.geom u.map t → IsTreeOf s.books.geom s.map t
tree_before s u failed t looks tree =
    subst (λ (x : Blocks). IsTreeOf s.books.geom x t) (looks.map refl) (subst (λ (g : Geometry). IsTreeOf g u.map t) (ap (λ (k : Bookkeeping). k.geom) looks.books) tree)

-- The disk on which an image is mounted.

abbrev first_of : List (List ℕ) → disk.State
first_of image = disk_state (resting_disk image)

writes_same : (log : List Event) → write_count log ≡ writes_in log
writes_same [] = refl
writes_same (Wrote ticket block bytes ∷ es) = let e = writes_same es in omega (arith, e)
writes_same (Lost block bytes ∷ es) = let e = writes_same es in omega (arith, e)
writes_same (Noticed ticket ∷ es) = writes_same es

has_room : (n room : ℕ) → n < room → IsTrue (not (nat_lt n room)) → ⊥
has_room n room low full = true≢false (sym full ∙ ap not (lt-ltb n room low))

module _ (image : List (List ℕ)) where
  -- no write, poll or wait of it fails before its room is full
  fails_never : (log : List Event) → write_count log < length image + 3 → HasFailedBy (first_of image).manner log → ⊥
  fails_never log low (inl lost) = both_ways _ (and_right (nat_lt (write_count lost.before) (length image + 3)) false refl) lost.may
  fails_never log low (inr (inl full)) = has_room (write_count log) (length image + 3) low full
  fails_never log low (inr (inr stalls)) = true≢false (sym stalls)

  pub no_fault : (d new : disk.State) → d ≡ first_of image → LeavesDisk true false true d new → ⊥
  no_fault d new is left =
      let now = subst (λ (x : disk.State). LeavesDisk true false true x new) is left in
      fails_never new.log (omega (arith, writes_same new.log, now.written refl)) (subst (λ (m : Manner). HasFailedBy m new.log) now.spends.same.manner (now.cause refl refl))

  -- What a mount says of the image.

  numbers_left : (f : FoundDisk) → HasNumbersLeft (first_of image) f → HasNumbersLeft (resting (length image) (blocks_of image)) f
  numbers_left f left = record { is_found = record { is_found = left.is_found.is_found; is_greatest = left.is_found.is_greatest }; going = left.going; epoch = left.epoch }

  mountable : MayBeMounted (first_of image) → CanBeMounted (length image) (blocks_of image)
  mountable may = record { found = may.found; left = numbers_left may.found may.left; no_bad = may.no_bad }

  module _ (none : (n : ℕ) (at : Blocks) (damage : ImageDamage) → HasDamage n at damage → StandsForNone n at) where
    refuses : (damage : ImageDamage) → HasDamage (length image) (blocks_of image) damage → RefusesImage (length image) (blocks_of image) (Damaged damage)
    refuses damage has = (has, none (length image) (blocks_of image) damage has)

    pub no_header : (d new : disk.State) → d ≡ first_of image → RefusalSays d new store.NoHeader → RefusesImage (length image) (blocks_of image) (Damaged NoHeader)
    no_header d new is says = refuses NoHeader (subst (λ (x : disk.State). RefusalSays x new store.NoHeader) is says).0

    pub bad_bit : (d new : disk.State) (b : ℕ) → d ≡ first_of image → RefusalSays d new (store.BadBit b) → RefusesImage (length image) (blocks_of image) (Damaged (BadBit b))
    bad_bit d new b is says =
        let bad = (subst (λ (x : disk.State). RefusalSays x new (store.BadBit b)) is says).0 in
        refuses (BadBit b) (record { found = bad.found; left = numbers_left bad.found bad.left; bad = bad.bad })

  pub used_up : (d new : disk.State) → d ≡ first_of image → RefusalSays d new store.Spent → RefusesImage (length image) (blocks_of image) Spent
  used_up d new is says = (subst (λ (x : disk.State). RefusalSays x new store.Spent) is says).0

  -- The store begins with a map that the image holds.
  module _ (d : disk.State) (s : State) (is : d ≡ first_of image) (may : MayBeMounted d) (begins : (g : Geometry) (m : Blocks) → HoldsUnder d.blocks g (settled_on d) m → BeginsWith g m s) where
    held : HoldsUnder (length image) s.books.geom (blocks_of image) s.map
    held =
        let now = subst (λ (x : disk.State). MayBeMounted x) is may in
        let run = now.found.run in
        let map = live_part run.header.geom (replayed run.header.geom (blocks_of image) run.records) in
        let holds : HoldsUnder (length image) run.header.geom (blocks_of image) map = record {
          held = record { slot = run.slot; header = run.header; run = run.records; newest = now.left.is_found.is_found.newest; is_run = now.left.is_found.is_found.is_run; each = λ b. refl };
          geom = refl;
        } in
        let b = subst (λ (x : disk.State). (g : Geometry) (m : Blocks) → HoldsUnder x.blocks g (settled_on x) m → BeginsWith g m s) is begins run.header.geom map holds in
        subst (λ (x : Blocks). HoldsUnder (length image) s.books.geom (blocks_of image) x) (sym b.map) (subst (λ (g : Geometry). HoldsUnder (length image) g (blocks_of image) map) (sym b.geom) holds)

    can : CanBeMounted (length image) (blocks_of image)
    can = mountable (subst (λ (x : disk.State). MayBeMounted x) is may)

    pub stands : (t : Tree) → IsTreeOf s.books.geom s.map t → StandsMounted (length image) (blocks_of image) t
    stands t tree = record { mountable = can; stands = record { map = s.map; held = held.held; tree = subst (λ (g : Geometry). IsTreeOf g s.map t) (sym held.geom) tree } }

    broken : (what : Damage) → IsDamaged s.books.geom s.map what → HasDamage (length image) (blocks_of image) (Broken what)
    broken what is = record { mountable = can; map = s.map; held = held.held; broken = subst (λ (g : Geometry). IsDamaged g s.map what) (sym held.geom) is }

    pub refuses_by : ((n : ℕ) (at : Blocks) (damage : ImageDamage) → HasDamage n at damage → StandsForNone n at) → (why : ReplayRefusal) → RefusesMap s.books.geom s.map why → RefusesImage (length image) (blocks_of image) why
    refuses_by none Choice says = says
    refuses_by none (Damaged (Broken what)) says = (broken what says, none (length image) (blocks_of image) (Broken what) (broken what says))
    refuses_by none NoMemory says = tt
    refuses_by none other says = absurd says
