-- How a session begins over a store that was just mounted, and what goes back where no file system is opened.
use Rattle.std.proofs.Common.{◌≡◌, ℕ, Bool, false, IsTrue, [], None, Err, refl, sym, subst}
use Rattle.base_types.specs.Seal.{Blocks}
use Rattle.disk_contract.specs.Crash.{Window}
use Rattle.disk_contract.specs.Disk as disk
use Rattle.layout_geometry.specs.Geometry.{Geometry}
use Rattle.lang_tree.specs.Tree.{Tree}
use Rattle.crash_argument.specs.Ledger.{HoldsUnder}
use Rattle.crash_stands.specs.Stands.{IsTreeOf, StandsFor}
use Rattle.engine_blocks.specs.State.{State}
use Rattle.engine_store.specs.Mounting.{BeginsWith}
use Rattle.cmd_session.specs.Serving.{IsMountedWith}
use Rattle.cmd_image.specs.declared.show_refusal.ShowRefusal.{ShowRefusal}
use Rattle.cmd_image.specs.Mounted.{IsMountedOn, ShowsDisk}
use Rattle.example_embedding.specs.Serving.{Refuses}

-- the blocks of the geometry are those of the disk
pub stood_size : (tells : Bool) (first : disk.State) (s : State) → IsMountedOn tells false first s → s.books.geom.n ≡ first.blocks
stood_size tells first s on = on.blocks

module _ (tells : Bool) (told : IsTrue tells) (first : disk.State) (s : State) (on : IsMountedOn tells false first s) where
  -- the store has the map of its image, and so has each image so far
  pub mounted_with : BeginsWith s.books.geom s.map s → IsMountedWith s.books.geom s.map s
  mounted_with begins =
      let held = on.held told in
      record {
        geom = refl;
        map = refl;
        only = begins.only;
        images = subst (λ (n : ℕ). Window n s.crash.base s.crash.log 0 (λ img. HoldsUnder n s.books.geom img s.map)) (sym on.blocks)
            (subst (λ (x : Blocks). Window first.blocks x s.crash.log 0 (λ img. HoldsUnder first.blocks s.books.geom img s.map)) (sym (on.base told)) held.images);
      }

  -- a tree that stands in the map is the one for which the image stands
  pub stood_for : (t : Tree) → IsTreeOf s.books.geom s.map t → StandsFor first.blocks first.base t
  stood_for t tree =
      let holds = (on.held told).holds in
      record { map = s.map; held = holds.held; tree = subst (λ (k : Geometry). IsTreeOf k s.map t) (sym holds.geom) tree }

-- a disk that goes back after a look at it is refused so
pub refused_so : (tells : Bool) (first last : disk.State) (why : ShowRefusal) → ShowsDisk {T = Unit {0}} tells first last [] None None (Err why) → Refuses tells first last why
refused_so tells first last why shows = record { fault = shows.faults; says = shows.says; crash = shows.crash }
