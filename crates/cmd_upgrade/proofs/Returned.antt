-- What goes back of a disk: one of which no file system was opened, one that was looked at, and one on which a tree was made.
use Rattle.std.proofs.Common.{◌≡◌, ◌⊎◌, inl, inr, ℕ, ◌+◌, ◌-◌, ◌^◌, ◌<◌, ◌≤◌, nat_lt, ◌||◌, Bool, true, false, true≢false, IsTrue, List, [], Option, Some, None, Result, Ok, Err, IfErr, OnOk, length, refl, sym, ap, ◌∙◌, subst, arith}
use Rattle.std.proofs.lemmas.Bool.{false≢true, lt-ltb, or_left, or_right}
use Rattle.base_types.specs.Seal.{Blocks}
use Rattle.disk_contract.specs.declared.bay.Mark.{Mark}
use Rattle.disk_contract.specs.declared.disk.Disk.{Ghosts}
use Rattle.disk_contract.specs.declared.event.Event.{Event}
use Rattle.disk_contract.specs.Bay.{BayState, BeginsWith, Kept, has_faults}
use Rattle.disk_contract.specs.Crash.{IsHonest}
use Rattle.disk_contract.specs.Disk as disk
use Rattle.layout_geometry.specs.Geometry.{Geometry}
use Rattle.lang_tree.specs.Step.{start}
use Rattle.lang_tree.specs.Tree.{Tree}
use Rattle.crash_stands.specs.Bounds.{bounds_of}
use Rattle.crash_stands.specs.Stands.{StandsFor}
use Rattle.engine_blocks.specs.State.{Bookkeeping, State, Ticking}
use Rattle.engine_mount.specs.Mount.{IsUsedUp}
use Rattle.engine_store.specs.declared.store.Store.{Store}
use Rattle.engine_store.specs.StoreOf.{disk_in, state_of}
use Rattle.fs_files.specs.Effects.{LooksOnly}
use Rattle.cmd_session.specs.Images.{CanBeMounted}
use Rattle.cmd_image.specs.declared.show_refusal.ShowRefusal.{ShowRefusal}
use Rattle.cmd_image.specs.declared.show_refusal.ShowRefusal.TheVariants as show
use Rattle.cmd_image.specs.Makes.{IsFormattedImage}
use Rattle.cmd_image.specs.Mounted.{IsMountedOn, ShowsDisk}
use Rattle.cmd_image.specs.Shows.{HasImage, fails_pushing}
use Rattle.cmd_upgrade.specs.declared.refusal.UpgradeRefusal.{UpgradeRefusal}
use Rattle.cmd_upgrade.specs.declared.refusal.UpgradeRefusal.TheVariants.{Damaged, Fault, NoMemory, NoRoom, Spent}
use Rattle.cmd_upgrade.specs.Filled.{ComesOfLooked, FillsNew, MakesTree}
use Rattle.cmd_upgrade.specs.Lacks.{LacksRoom, UsesNumbersUp}
use Rattle.cmd_upgrade.specs.Looked.{HoldsNow, IsFailing, IsLookedAt, IsStop, StaysOnDisk, StopsFor, StopsMaking}
use Rattle.cmd_upgrade.specs.Refusals.{of_image, of_new}
use Rattle.cmd_upgrade.specs.Upgrades.{ComesOfDisk, FailsLooks, FailsMaking, HoldsTree, IsOnlyMounted, LooksUseNumbersUp, OnImage, OpensNothing, StandsAlike, StandsStill, TakesTree}
use Rattle.cmd_upgrade.proofs.Handing.{begun_image}
use Rattle.cmd_upgrade.proofs.Looking.{stands_still}

-- what is so of one of two where the bay tells is so of the one, or of the other where it tells
one_or : (tells : Bool) {A B : Type 0} → A ⊎ B → A ⊎ (IsTrue tells → B)
one_or tells (inl a) = inl a
one_or tells (inr b) = inr (λ told. b)

either : (tells : Bool) {A B : Type 0} → (IsTrue tells → A ⊎ B) → A ⊎ (IsTrue tells → B)
either true f = one_or true (f refl)
either false f = inr (λ told. absurd (false≢true told))

one_of_three : (tells : Bool) {A B C : Type 0} → A ⊎ (B ⊎ C) → (IsTrue tells → A) ⊎ (B ⊎ (IsTrue tells → C))
one_of_three tells (inl a) = inl (λ told. a)
one_of_three tells (inr (inl b)) = inr (inl b)
one_of_three tells (inr (inr c)) = inr (inr (λ told. c))

of_three : (tells : Bool) {A B C : Type 0} → (IsTrue tells → A ⊎ (B ⊎ C)) → (IsTrue tells → A) ⊎ (B ⊎ (IsTrue tells → C))
of_three true f = one_of_three true (f refl)
of_three false f = inl (λ told. absurd (false≢true told))

-- a disk on which calls were counted that failed
has_read_fault : (d : disk.State) → 0 < d.read_faults → has_faults d ≡ true
has_read_fault d some = or_left (nat_lt 0 d.read_faults) (nat_lt 0 d.faults) (lt-ltb 0 d.read_faults some)

has_fault : (d : disk.State) → 0 < d.faults → has_faults d ≡ true
has_fault d some = or_right (nat_lt 0 d.read_faults) (nat_lt 0 d.faults) (lt-ltb 0 d.faults some)

-- where the bay tells there is a tree of which this holds, and else any one does
pub tree_where : (tells : Bool) (other : Tree) (P : Tree → Type 0) → (IsTrue tells → (t : Tree) × P t) → (t : Tree) × (IsTrue tells → P t)
tree_where true other P f = let found = f refl in (found.0, λ told. found.1)
tree_where false other P f = (other, λ told. absurd (false≢true told))

-- No file system was opened.

module _ (tells : Bool) (first last : disk.State) (why : ShowRefusal) (shows : ShowsDisk {T = Unit {0}} tells first last [] None None (Err why)) where
  pub shown_only_mounted : IsOnlyMounted tells first last
  shown_only_mounted = record {
    blocks = shows.spends.blocks;
    base = shows.spends.base;
    manner = shows.spends.manner;
    written = shows.spends.written;
    crash = λ told. record { each = λ k img from upto honest. ∣ (shows.crash told).each k img from upto honest ∣₁ };
  }

shown_nothing : (tells : Bool) (first last : disk.State) (why : ShowRefusal) (bay : BayState) → fails_pushing {T = Unit {0}} (Err why) ≡ false → ShowsDisk {T = Unit {0}} tells first last [] None None (Err why)
    → OpensNothing tells first last (Err (of_image why)) bay bay
shown_nothing tells first last show.Fault bay silent shows = record { same = refl; why = Fault; is = refl; fails = λ fault. shows.faults; says = λ told. tt }
shown_nothing tells first last (show.Damaged damage) bay silent shows = record { same = refl; why = Damaged damage; is = refl; fails = λ fault. absurd cc; says = shows.says }
shown_nothing tells first last show.Spent bay silent shows = record { same = refl; why = Spent; is = refl; fails = λ fault. absurd cc; says = shows.says }
shown_nothing tells first last show.SinkFault bay silent shows = absurd (true≢false silent)
shown_nothing tells first last show.NoMemory bay silent shows = record { same = refl; why = NoMemory; is = refl; fails = λ fault. absurd cc; says = λ told. tt }

pub nothing_comes : (tells : Bool) (other : List ℕ) (g : Geometry) (first last : disk.State) (why : ShowRefusal) (answer : UpgradeRefusal) (bay : BayState) → answer ≡ of_image why → fails_pushing {T = Unit {0}} (Err why) ≡ false
    → ShowsDisk {T = Unit {0}} tells first last [] None None (Err why) → ComesOfDisk tells other g first last (Err answer) bay bay
nothing_comes tells other g first last why answer bay is silent shows =
    subst (λ (w : UpgradeRefusal). ComesOfDisk tells other g first last (Err w) bay bay) (sym is) (inl (shown_nothing tells first last why bay silent shows))

-- A disk that was formatted stands for a tree, so only a fault or want of memory stops its mount or its opening.
module _ (tells : Bool) (t : Tree) (s : State) (g : Geometry) (begun last : disk.State) (formatted : IsTrue tells → IsFormattedImage g begun.blocks begun.base)
    (spent : (n : ℕ) (at : Blocks) → IsUsedUp n at → ¬ CanBeMounted n at) where
  fills_none : (why : ShowRefusal) → fails_pushing {T = Unit {0}} (Err why) ≡ false → ShowsDisk {T = Unit {0}} tells begun last [] None None (Err why) → FillsNew tells g t s begun last (Err (of_new why))
  fills_none show.Fault silent shows = record { blocks = shows.spends.blocks; base = shows.spends.base; manner = shows.spends.manner; holds = λ told. tt; which = inl refl; fails = λ fault. inr (inl shows.faults) }
  fills_none (show.Damaged damage) silent shows = record {
    blocks = shows.spends.blocks;
    base = shows.spends.base;
    manner = shows.spends.manner;
    holds = λ told. tt;
    which = inl refl;
    fails = λ fault. inr (inr (λ told. absurd ((shows.says told).1 (start (bounds_of g)).tree (formatted told).stands.stands)));
  }
  fills_none show.Spent silent shows = record {
    blocks = shows.spends.blocks;
    base = shows.spends.base;
    manner = shows.spends.manner;
    holds = λ told. tt;
    which = inl refl;
    fails = λ fault. inr (inr (λ told. absurd (spent begun.blocks begun.base (shows.says told) (formatted told).stands.mountable)));
  }
  fills_none show.SinkFault silent shows = absurd (true≢false silent)
  fills_none show.NoMemory silent shows = record { blocks = shows.spends.blocks; base = shows.spends.base; manner = shows.spends.manner; holds = λ told. tt; which = inr refl; fails = λ fault. absurd cc }

  pub unopened_new : (why : ShowRefusal) (answer : UpgradeRefusal) → answer ≡ of_new why → fails_pushing {T = Unit {0}} (Err why) ≡ false → ShowsDisk {T = Unit {0}} tells begun last [] None None (Err why)
      → FillsNew tells g t s begun last (Err answer)
  unopened_new why answer is silent shows = subst (λ (w : UpgradeRefusal). FillsNew tells g t s begun last (Err w)) (sym is) (fills_none why silent shows)

-- A disk of which a file system was opened.

module _ {D : Type 0} {k : Ghosts D} (known : D → disk.State) (tells : Bool) (first : disk.State) (s u : State) (store : Store D k) (on : IsMountedOn tells false first s) (looks : LooksOnly tells false s u)
    (keeps : StaysOnDisk tells u (state_of known store)) (size : (known (disk_in store)).blocks ≡ (state_of known store).books.geom.n) where
  abbrev last : disk.State
  last = known (disk_in store)

  same_blocks : last.blocks ≡ first.blocks
  same_blocks = size ∙ ap (λ (g : Geometry). g.n) keeps.geom ∙ ap (λ (b : Bookkeeping). b.geom.n) looks.books ∙ on.blocks

  same_base : IsTrue tells → last.base ≡ first.base
  same_base told = keeps.base told ∙ (looks.crash told).base ∙ on.base told

  same_manner : last.manner ≡ first.manner
  same_manner = keeps.manner ∙ ap (λ (c : Ticking). c.manner) looks.counts.ticks ∙ on.manner

  failing : IsFailing (state_of known store) → (has_faults last ≡ true) ⊎ (2 ^ 63 - 8 ≤ (state_of known store).books.turns)
  failing (inl read) = inl (has_read_fault last read)
  failing (inr (inl some)) = inl (has_fault last some)
  failing (inr (inr spent)) = inr spent

  -- One that was looked at.

  module _ (alone : (n : ℕ) (img : Blocks) (u v : Tree) → StandsFor n img u → StandsFor n img v → u ≡ v) where
    still : (t : Tree) → IsTrue tells → IsLookedAt first t (state_of known store) → StandsStill last.blocks last.base last.log
    still t told h =
        let begun : StandsFor h.geom.n last.base t = subst (λ (n : ℕ). StandsFor n last.base t) (sym h.size) (subst (λ (at : Blocks). StandsFor first.blocks at t) (sym (same_base told)) h.stands.stands) in
        subst (λ (n : ℕ). StandsStill n last.base last.log) (h.size ∙ sym same_blocks)
        (stands_still h.geom.n last.base (bounds_of h.geom) t (λ u v img. alone h.geom.n img u v) begun last.log h.mounted h.cmds h.replies h.marks h.looks h.served.crashes)

    pub looked_only_mounted : (IsTrue tells → (t : Tree) × IsLookedAt first t (state_of known store)) → IsOnlyMounted tells first last
    looked_only_mounted looked = record {
      blocks = same_blocks;
      base = same_base;
      manner = same_manner;
      written = λ told. omega (arith, (looked told).1.writes);
      crash = λ told. let h = looked told in still h.0 told h.1;
    }

  -- What came of the new disk, where the tree of the image is known, said of the image's disk.
  module _ (other : List ℕ) (g : Geometry) (t : Tree) (looked : IsTrue tells → IsLookedAt first t (state_of known store))
      (spent : IsTrue tells → 2 ^ 63 - 8 ≤ (state_of known store).books.turns → LooksUseNumbersUp first t) where
    of_tree : (P : Tree → Type 0) → IsTrue tells → P t → OnImage first P
    of_tree P told p = (t, (looked told).stands, p)

    fails_looks : (IsTrue tells → IsFailing (state_of known store)) → FailsLooks tells first last
    fails_looks fails = either tells (λ told. by told (failing (fails told)))
      where
        by : IsTrue tells → (has_faults last ≡ true) ⊎ (2 ^ 63 - 8 ≤ (state_of known store).books.turns) → (has_faults last ≡ true) ⊎ OnImage first (LooksUseNumbersUp first)
        by told (inl faults) = inl faults
        by told (inr ends) = inr (of_tree (LooksUseNumbersUp first) told (spent told ends))

    pub comes_of_looked : (answer : Result (Unit {0}) UpgradeRefusal) (old new : BayState) → ComesOfLooked tells other g t (state_of known store) answer old new → ComesOfDisk tells other g first last answer old new
    comes_of_looked answer old new (inl b) = inr (inl (record {
      same = b.same;
      why = b.why;
      is = b.is;
      which = b.which;
      room = λ told. of_tree (λ (v : Tree). b.why ≡ NoRoom → ¬ TakesTree g v) told (b.room told);
      fails = λ fault. fails_looks (λ told. b.refused told fault);
    }))
    comes_of_looked answer old new (inr (inl m)) = inr (inr (inl (record { why = m.why; makes = m.makes; takes = λ told. of_tree (TakesTree g) told (m.takes told); is = m.is })))
    comes_of_looked answer old new (inr (inr m)) = by m.tree
      where
        by : MakesTree tells other g t (state_of known store) answer m.made new → ComesOfDisk tells other g first last answer old new
        by (inl o) = inr (inr (inr (inl (record { made = m.made; fault = o.fault; makes = m.makes; takes = λ told. of_tree (TakesTree g) told (m.takes told); opens = o.opens; is = o.is }))))
        by (inr f) = inr (inr (inr (inr (record {
          made = m.made;
          opened = f.opened;
          begun = f.begun;
          ended = f.ended;
          filled = f.filled;
          back = f.back;
          makes = m.makes;
          opens = f.opens;
          formatted = λ told. begun_image (m.made.kept other) f.begun (IsFormattedImage g) (f.opens.disk told) (m.image told);
          blocks = f.fills.blocks;
          base = f.fills.base;
          manner = f.fills.manner;
          holds = λ told. of_tree (λ (v : Tree). TakesTree g v × OnOk f.filled (HoldsTree v f.ended)) told (m.takes told, f.fills.holds told);
          which = f.fills.which;
          fails = λ fault. failed (f.fills.fails fault);
          closes = f.closes;
          is = f.is;
        }))))
          where
            failed : (IsTrue tells → IsFailing (state_of known store)) ⊎ ((has_faults f.ended ≡ true) ⊎ (IsTrue tells → UsesNumbersUp t ⊎ LacksRoom g t)) → FailsLooks tells first last ⊎ FailsMaking tells g first f.ended
            failed (inl looks) = inl (fails_looks looks)
            failed (inr (inl faults)) = inr (inl faults)
            failed (inr (inr lacks)) = inr (inr (λ told. of_tree (λ (v : Tree). UsesNumbersUp v ⊎ LacksRoom g v) told (lacks told)))

  -- One on which a tree was made.

  holds_disk : (t : Tree) (filled : Result (Unit {0}) UpgradeRefusal) → OnOk filled (HoldsNow t (state_of known store)) → OnOk filled (HoldsTree t last)
  holds_disk t (Ok x) holds = subst (λ (n : ℕ). (img : Blocks) → IsHonest n last.base last.log img → ∥ StandsAlike t n img ∥₁) (sym size) holds
  holds_disk t (Err why) holds = tt

  pub filled_new : (image : State) (g : Geometry) (t : Tree) (filled : Result (Unit {0}) UpgradeRefusal) → IfErr filled IsStop
      → (IsTrue tells → OnOk filled (HoldsNow t (state_of known store)) × IfErr filled (λ why. StopsFor image why ⊎ StopsMaking g t (state_of known store) why)) → FillsNew tells g t image first last filled
  filled_new image g t filled which holds = record {
    blocks = same_blocks;
    base = same_base;
    manner = same_manner;
    holds = λ told. holds_disk t filled (holds told).0;
    which = which;
    fails = λ fault. of_three tells (λ told. one_of (subst (λ (r : Result (Unit {0}) UpgradeRefusal). IfErr r (λ why. StopsFor image why ⊎ StopsMaking g t (state_of known store) why)) fault (holds told).1));
  }
    where
      on_new : (0 < (state_of known store).counts.read_faults) ⊎ ((0 < (state_of known store).counts.faults) ⊎ (UsesNumbersUp t ⊎ LacksRoom g t)) → (has_faults last ≡ true) ⊎ (UsesNumbersUp t ⊎ LacksRoom g t)
      on_new (inl read) = inl (has_read_fault last read)
      on_new (inr (inl some)) = inl (has_fault last some)
      on_new (inr (inr lacks)) = inr lacks

      one_of : StopsFor image Fault ⊎ StopsMaking g t (state_of known store) Fault → IsFailing image ⊎ ((has_faults last ≡ true) ⊎ (UsesNumbersUp t ⊎ LacksRoom g t))
      one_of (inl stops) = inl (stops refl)
      one_of (inr stops) = inr (on_new (stops refl))

-- The same of the store and the disk as the functions have them.

pub looked_back : {D : Type 0} {k : Ghosts D} (known : D → disk.State) (tells : Bool) (first : disk.State) (s u : State) (store image : Store D k) (last : D)
    (alone : (n : ℕ) (img : Blocks) (v w : Tree) → StandsFor n img v → StandsFor n img w → v ≡ w) (other : List ℕ) (g : Geometry) (t : Tree) (answer : Result (Unit {0}) UpgradeRefusal) (old new : BayState)
    → store ≡ image → last ≡ disk_in store → IsMountedOn tells false first s → LooksOnly tells false s u → StaysOnDisk tells u (state_of known image) → (known (disk_in store)).blocks ≡ (state_of known store).books.geom.n
    → (IsTrue tells → IsLookedAt first t (state_of known image)) → (IsTrue tells → 2 ^ 63 - 8 ≤ (state_of known image).books.turns → LooksUseNumbersUp first t) → ComesOfLooked tells other g t (state_of known image) answer old new
    → IsOnlyMounted tells first (known last) × ComesOfDisk tells other g first (known last) answer old new
looked_back {D = D} {k = k} known tells first s u store image last alone other g t answer old new store_is last_is on looks keeps size looked spent comes =
    subst (λ (d : D). IsOnlyMounted tells first (known d) × ComesOfDisk tells other g first (known d) answer old new) (sym last_is) (
      looked_only_mounted known tells first s u store on looks kept size alone (λ told. (t, at_store told)),
      comes_of_looked known tells first s u store on looks kept size other g t at_store (subst (λ (x : Store D k). IsTrue tells → 2 ^ 63 - 8 ≤ (state_of known x).books.turns → LooksUseNumbersUp first t) (sym store_is) spent) answer old new (subst (λ (x : Store D k). ComesOfLooked tells other g t (state_of known x) answer old new) (sym store_is) comes),
    )
  where
    kept : StaysOnDisk tells u (state_of known store)
    kept = subst (λ (x : Store D k). StaysOnDisk tells u (state_of known x)) (sym store_is) keeps

    at_store : IsTrue tells → IsLookedAt first t (state_of known store)
    at_store told = subst (λ (x : Store D k). IsLookedAt first t (state_of known x)) (sym store_is) (looked told)

pub filled_back : {D : Type 0} {k : Ghosts D} (known : D → disk.State) (tells : Bool) (first : disk.State) (s u : State) (store filled_store : Store D k) (last : D) (image : State) (g : Geometry) (t : Tree) (filled : Result (Unit {0}) UpgradeRefusal)
    → store ≡ filled_store → last ≡ disk_in store → IsMountedOn tells false first s → LooksOnly tells false s u → StaysOnDisk tells u (state_of known filled_store) → (known (disk_in store)).blocks ≡ (state_of known store).books.geom.n
    → IfErr filled IsStop → (IsTrue tells → OnOk filled (HoldsNow t (state_of known filled_store)) × IfErr filled (λ why. StopsFor image why ⊎ StopsMaking g t (state_of known filled_store) why))
    → FillsNew tells g t image first (known last) filled
filled_back {D = D} {k = k} known tells first s u store filled_store last image g t filled store_is last_is on looks keeps size which holds =
    subst (λ (d : D). FillsNew tells g t image first (known d) filled) (sym last_is)
    (filled_new known tells first s u store on looks (subst (λ (x : Store D k). StaysOnDisk tells u (state_of known x)) (sym store_is) keeps) size image g t filled which
    (λ told. subst (λ (x : Store D k). OnOk filled (HoldsNow t (state_of known x)) × IfErr filled (λ why. StopsFor image why ⊎ StopsMaking g t (state_of known x) why)) (sym store_is) (holds told)))
