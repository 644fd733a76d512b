-- For which trees the crash images of a disk stand: of one whose images hold the map of its image, and of one on which nothing came.
use Rattle.std.proofs.Common.{◌≡◌, inl, inr, ◌↔◌, ℕ, zero, suc, ◌<◌, false, List, [], take, refl, sym, ap, ◌∙◌, subst, arith}
use mathlib.Core.Path.{fun_ext}
use Rattle.base_types.specs.Seal.{Blocks}
use Rattle.disk_contract.specs.declared.event.Event.{Event}
use Rattle.disk_contract.specs.Cell.{cell_of}
use Rattle.disk_contract.specs.Crash.{MayHold, Window}
use Rattle.disk_contract.specs.Disk as disk
use Rattle.layout_geometry.specs.Geometry.{Geometry}
use Rattle.layout_bitmap.specs.Bits.{is_bad_bit}
use Rattle.layout_journal.specs.declared.header.Header.{Header}
use Rattle.layout_journal.specs.Run.{Newest, HeldIs, live_part, replayed}
use Rattle.engine_recover.specs.Epoch.{IsGreatestEpoch}
use Rattle.engine_recover.specs.Search.{IsFound}
use Rattle.crash_argument.specs.Ledger.{HoldsUnder}
use Rattle.engine_mount.specs.Mount.{FoundDisk, settled_on}
use Rattle.engine_store.specs.Refusal.{HasNumbersLeft, IsLeastBad, MayBeMounted, replayed_bitmap}
use Rattle.engine_store.specs.Refusal as store
use Rattle.lang_tree.specs.Tree.{Tree}
use Rattle.crash_stands.specs.Stands.{IsTreeOf, StandsFor}
use Rattle.cmd_session.specs.Images.{CanBeMounted, HasBadBit, resting}
use Rattle.cmd_image.specs.Shows.{StandsThroughout}

-- What layout_journal says of the map of an image, and crash_stands of images that are alike.
pub record StandingLaws : Type 0 where
  pub newest : (n : ℕ) (img : Blocks) (s t : ℕ) (h k : Header) → Newest n img s h → Newest n img t k → (s ≡ t) × (h ≡ k)
  pub maps : (n : ℕ) (img m q : Blocks) → HeldIs n img m → HeldIs n img q → (b : ℕ) → m b ≡ q b
  pub alike : (n : ℕ) (img other : Blocks) (t : Tree) → ((b : ℕ) → b < n → img b ≡ other b) → StandsFor n img t → StandsFor n other t

-- each honest image of these moments stands for the trees for which these blocks stand
abbrev pub StandsAsBase : ℕ → Blocks → List Event → Type 0
StandsAsBase n base log = Window n base log 0 (λ img. (t : Tree) → StandsFor n img t ↔ StandsFor n base t)

-- An image that holds a map stands for the tree of the map.

pub tree_out : (n : ℕ) (g : Geometry) (at m : Blocks) (t : Tree) → HoldsUnder n g at m → IsTreeOf g m t → StandsFor n at t
tree_out n g at m t h tree = record { map = m; held = h.held; tree = subst (λ (k : Geometry). IsTreeOf k m t) (sym h.geom) tree }

module _ (laws : StandingLaws) where
  pub tree_in : (n : ℕ) (g : Geometry) (at m : Blocks) (t : Tree) → HoldsUnder n g at m → StandsFor n at t → IsTreeOf g m t
  tree_in n g at m t h s =
      subst (λ (k : Geometry). IsTreeOf k m t) (ap (λ (k : Header). k.geom) (laws.newest n at s.held.slot h.held.slot s.held.header h.held.header s.held.newest h.held.newest).1 ∙ h.geom)
      (subst (λ (x : Blocks). IsTreeOf s.held.header.geom x t) (fun_ext (λ b. laws.maps n at s.map m s.held h.held b)) s.tree)

  pub all_held : (n : ℕ) (base : Blocks) (log : List Event) (g : Geometry) (m : Blocks) → HoldsUnder n g base m → Window n base log 0 (λ img. HoldsUnder n g img m) → StandsAsBase n base log
  all_held n base log g m held w = record {
    each = λ k img from upto honest. λ t. (
      (λ s. tree_out n g base m t held (tree_in n g img m t (w.each k img from upto honest) s)),
      (λ s. tree_out n g img m t (w.each k img from upto honest) (tree_in n g base m t held s)),
    );
  }

  -- Where nothing came, an honest image is the image that the disk began with.
  settled_only : (x y : List ℕ) → MayHold (record { settled = x; pending = [] }) y → y ≡ x
  settled_only x y (inl is) = is
  settled_only x y (inr (inl none)) = absurd none
  settled_only x y (inr (inr some)) = absurd (omega (arith, some.0))

  abbrev no_events : List Event
  no_events = []

  take_none : (k : ℕ) → take k no_events ≡ no_events
  take_none zero = refl
  take_none (suc k) = refl

  pub all_alike : (n : ℕ) (base : Blocks) (log : List Event) → log ≡ [] → StandsAsBase n base log
  all_alike n base log none = record {
    each = λ k img from upto honest.
        let same : (b : ℕ) → b < n → img b ≡ base b = λ b low. settled_only (base b) (img b) (subst (λ (es : List Event). MayHold (cell_of base es b) (img b)) (ap (λ (es : List Event). take k es) none ∙ take_none k) (honest.leaves b low)) in
        λ t. (laws.alike n img base t same, laws.alike n base img t (λ b low. sym (same b low)));
  }

-- a disk of these blocks that began with this base
pub throughout : (n : ℕ) (base : Blocks) (last : disk.State) → last.blocks ≡ n → last.base ≡ base → StandsAsBase n base last.log → StandsThroughout last
throughout n base last blocks same w =
    subst (λ (x : Blocks). StandsAsBase last.blocks x last.log) (sym same) (subst (λ (k : ℕ). StandsAsBase k base last.log) (sym blocks) w)

-- A disk that has no event is its image.

pub settled_is : (d : disk.State) → d.log ≡ [] → settled_on d ≡ d.base
settled_is d none = ap (λ (es : List Event). λ (b : ℕ). (cell_of d.base es b).settled) none

numbers_left : (d : disk.State) (f : FoundDisk) → d.log ≡ [] → HasNumbersLeft d f → store.HasNumbersLeft (resting d.blocks d.base) f
numbers_left d f none left = record {
  is_found = record {
    is_found = subst (λ (x : Blocks). IsFound d.blocks x f.run) (settled_is d none) left.is_found.is_found;
    is_greatest = subst (λ (x : Blocks). IsGreatestEpoch f.run.header.geom x f.epoch) (settled_is d none) left.is_found.is_greatest;
  };
  going = left.going;
  epoch = left.epoch;
}

pub mountable_image : (d : disk.State) → d.log ≡ [] → MayBeMounted d → CanBeMounted d.blocks d.base
mountable_image d none may = record {
  found = may.found;
  left = numbers_left d may.found none may.left;
  no_bad = subst (λ (x : Blocks). (b : ℕ) → is_bad_bit may.found.run.header.geom (replayed_bitmap may.found.run x) b ≡ false) (settled_is d none) may.no_bad;
}

pub bad_image : (d : disk.State) (b : ℕ) → d.log ≡ [] → store.HasBadBit d b → HasBadBit d.blocks d.base b
bad_image d b none bad = record {
  found = bad.found;
  left = numbers_left d bad.found none bad.left;
  bad = subst (λ (x : Blocks). IsLeastBad bad.found.run.header.geom (replayed_bitmap bad.found.run x) b) (settled_is d none) bad.bad;
}

-- An image that can be mounted holds a map.
pub record HoldsSome (n : ℕ) (at : Blocks) : Type 0 where
  pub geom : Geometry
  pub map : Blocks
  pub holds : HoldsUnder n geom at map

pub holds_some : (n : ℕ) (at : Blocks) → CanBeMounted n at → HoldsSome n at
holds_some n at may =
    let run = may.found.run in
    let found = may.left.is_found.is_found in
    record {
      geom = run.header.geom;
      map = live_part run.header.geom (replayed run.header.geom at run.records);
      holds = record {
        held = record { slot = run.slot; header = run.header; run = run.records; newest = found.newest; is_run = found.is_run; each = λ b. refl };
        geom = refl;
      };
    }
