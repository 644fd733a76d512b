-- An image in which something is broken stands for no tree, and what is said of an image by one answer isn't said by another.
use Rattle.std.proofs.Common.{◌≡◌, ⊎_elim, ℕ, ◌+◌, ◌*◌, ◌/◌, ◌&&◌, ◌||◌, not, ◌<◌, ◌≤◌, Bool, true, false, List, [], Some, sym, ◌∙◌, ap₂, subst, arith}
use Rattle.std.proofs.lemmas.Bool.{and_from, cases_lt, cond-true, le-leb, le-ltb, lt-ltb}
use mathlib.Core.Path.{fun_ext}
use Rattle.base_types.specs.Seal.{Blocks}
use Rattle.layout_geometry.specs.Geometry.{Geometry, IsGeometry, geometry_fits, bitmap_blocks, bitmap_start, data_start}
use Rattle.layout_bitmap.specs.Bits.{is_bad_bit}
use Rattle.layout_journal.specs.declared.header.Header.{Header}
use Rattle.layout_journal.specs.Layout.{header_of, IsWithinDisk}
use Rattle.layout_journal.specs.Run.{Newest, Record, HeldIs, IsRun, live_part, replayed}
use Rattle.engine_mount.specs.Mount.{FoundDisk, IsUsedUp}
use Rattle.engine_store.specs.Refusal as store
use Rattle.lang_tree.specs.Tree.{Tree}
use Rattle.crash_stands.specs.Bounds.{bounds_of}
use Rattle.crash_stands.specs.Files.{files_of}
use Rattle.crash_stands.specs.Stands.{IsTreeOf}
use Rattle.fs_check.specs.declared.block_damage.BlockDamage.{BlockDamage}
use Rattle.fs_check.specs.declared.block_damage.BlockDamage.TheVariants.{WrongBit}
use Rattle.fs_check.specs.declared.damage.TreeDamage.{TreeDamage}
use Rattle.fs_check.specs.declared.snapshot_damage.SnapshotDamage.{SnapshotDamage}
use Rattle.fs_check.specs.declared.checking.Damage.{Damage}
use Rattle.fs_check.specs.declared.checking.Damage.TheVariants as damage
use Rattle.fs_check.specs.Broken.{IsBroken as IsBrokenBlock, bitmap_of}
use Rattle.fs_check.specs.BrokenSnapshots.{IsBroken as IsBrokenSnapshot}
use Rattle.fs_check.specs.Damage.{IsBroken as IsBrokenTree}
use Rattle.fs_check.specs.Whole as fsck
use Rattle.cmd_session.specs.declared.images.ImageDamage.{ImageDamage}
use Rattle.cmd_session.specs.declared.images.ImageDamage.TheVariants.{NoHeader, BadBit, Broken}
use Rattle.cmd_session.specs.Images.{CanBeMounted, HasBadBit, HasDamage, IsDamaged, StandsForNone, resting}

-- What layout_journal says of images, layout_geometry of geometries, and fs_check of what is broken.
pub record ImageLaws : Type 0 where
  pub newest : (n : ℕ) (img : Blocks) (s t : ℕ) (h k : Header) → Newest n img s h → Newest n img t k → (s ≡ t) × (h ≡ k)
  pub runs : (img : Blocks) (h : Header) (rs qs : List Record) → IsRun img h rs → IsRun img h qs → rs ≡ qs
  pub maps : (n : ℕ) (img m q : Blocks) → HeldIs n img m → HeldIs n img q → (b : ℕ) → m b ≡ q b
  pub bounds : (n : ℕ) (b : List ℕ) (h : Header) → header_of n b ≡ Some h → IsWithinDisk n h
  pub limits : (g : Geometry) → geometry_fits g ≡ true → IsGeometry g
  pub blocks : (g : Geometry) (m : Blocks) (what : BlockDamage) (t : Tree) → IsBrokenBlock g m what → IsTreeOf g m t → ⊥
  pub snapshot : (g : Geometry) (m : Blocks) (what : SnapshotDamage) (t : Tree) → IsBrokenSnapshot g m what → IsTreeOf g m t → ⊥
  pub tree : (g : Geometry) (m : Blocks) (what : TreeDamage) (t : Tree) → IsBrokenTree (bounds_of g) (files_of g m) what → IsTreeOf g m t → ⊥

-- A wrong bit of the bitmap.

-- a block below the bits' end has its bit in a block of the bitmap
in_bitmap : (n b : ℕ) → b < 8192 * ((n + 8191) / 8192) → b / 8192 < (n + 8191) / 8192
in_bitmap n b low = omega (arith, low)

-- a test on the bits of one block or the other, where the bit isn't looked at
unlooked : (high : Bool) (p q : Bool) → ((false && not p) || (high && (false && p))) ≡ ((false && not q) || (high && (false && q)))
unlooked high p q = grind arith

-- which bits are wrong is said by the bitmap's blocks alone
same_bad : (g : Geometry) (m q : Blocks) (b : ℕ) → data_start g ≤ g.n → ((k : ℕ) → k < bitmap_blocks g → m k ≡ q k) → is_bad_bit g m b ≡ is_bad_bit g q b
same_bad g m q b room same = grind (arith, cases_lt b (8192 * bitmap_blocks g), g.n, in_bitmap, le-ltb, unlooked, cases_lt)

-- the blocks of the bitmap are live
bitmap_live : (g : Geometry) (m : Blocks) (k : ℕ) → IsGeometry g → k < bitmap_blocks g → live_part g m (bitmap_start g + k) ≡ m (bitmap_start g + k)
bitmap_live g m k limits low = grind (arith, cond-true, and_from, le-leb, lt-ltb, g.n, limits.data_room)

module _ (laws : ImageLaws) (n : ℕ) (at : Blocks) where
  -- an image that holds a map has the bitmap that its run leaves
  wrong_there : (b : ℕ) (bad : HasBadBit n at b) (m : Blocks) (held : HeldIs n at m) → is_bad_bit held.header.geom (bitmap_of held.header.geom m) b ≡ true
  wrong_there b bad m held =
      let run = bad.found.run in
      let found = bad.left.is_found.is_found in
      let same : held.header ≡ run.header = (laws.newest n at held.slot run.slot held.header run.header held.newest found.newest).1 in
      let records : held.run ≡ run.records = laws.runs at run.header held.run run.records (subst (λ (k : Header). IsRun at k held.run) same held.is_run) found.is_run in
      let limits = laws.limits run.header.geom (laws.bounds n (at run.slot) run.header found.newest.stands).geom in
      let left : Blocks = replayed run.header.geom at run.records in
      let each : (b : ℕ) → m b ≡ live_part run.header.geom left b = λ c. held.each c ∙ ap₂ (λ (h : Header) (rs : List Record). live_part h.geom (replayed h.geom at rs) c) same records in
      subst (λ (h : Header). is_bad_bit h.geom (bitmap_of h.geom m) b ≡ true) (sym same)
      (sym (same_bad run.header.geom (λ k. left (bitmap_start run.header.geom + k)) (bitmap_of run.header.geom m) b (omega (arith, limits.data_room)) (λ k low. sym (each (bitmap_start run.header.geom + k) ∙ bitmap_live run.header.geom left k limits low)))
      ∙ bad.bad.bad)

  -- two maps that an image holds are one, under one header
  one_map : (m q : Blocks) (held : HeldIs n at m) (other : HeldIs n at q) → (t : Tree) → IsTreeOf held.header.geom m t → IsTreeOf other.header.geom q t
  one_map m q held other t tree =
      subst (λ (h : Header). IsTreeOf h.geom q t) (laws.newest n at held.slot other.slot held.header other.header held.newest other.newest).1
      (subst (λ (x : Blocks). IsTreeOf held.header.geom x t) (fun_ext (λ b. laws.maps n at m q held other b)) tree)

  none_broken : (g : Geometry) (m : Blocks) (what : Damage) (t : Tree) → fsck.IsDamaged g m what → IsTreeOf g m t → ⊥
  none_broken g m (damage.Blocks what) t broken tree = laws.blocks g m what t broken tree
  none_broken g m (damage.Snapshot what) t broken tree = laws.snapshot g m what t broken tree
  none_broken g m (damage.Tree what) t broken tree = laws.tree g m what t broken tree

  -- no tree stands where something is broken
  pub stands_for_none : (what : ImageDamage) → HasDamage n at what → StandsForNone n at
  stands_for_none NoHeader none t s = none s.held.slot s.held.header s.held.newest
  stands_for_none (BadBit b) bad t s = laws.blocks s.held.header.geom s.map (WrongBit b) t (wrong_there b bad s.map s.held) s.tree
  stands_for_none (Broken what) is t s = none_broken is.held.header.geom is.map what t is.broken (one_map s.map is.map s.held is.held t s.tree)

-- Numbers that are at their end.

module _ (numbers : (n : ℕ) (at : Blocks) (f : FoundDisk) → store.HasNumbersLeft (resting n at) f → ¬ IsUsedUp n at) where
  pub not_mounted : (n : ℕ) (at : Blocks) → IsUsedUp n at → ¬ CanBeMounted n at
  not_mounted n at used is = numbers n at is.found is.left used

  pub not_damaged : (n : ℕ) (at : Blocks) → IsUsedUp n at → ¬ IsDamaged n at
  not_damaged n at h1 = grind arith
