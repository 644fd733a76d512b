-- What is left of a log in images.
use Rattle.std.proofs.Common.{◌≡◌, ℕ, sym, subst}
use Rattle.base_types.specs.Seal.{Blocks}
use Rattle.layout_geometry.specs.Geometry.{Geometry}
use Rattle.layout_journal.specs.Run.{HeldIs}
use Rattle.lang_log.specs.History.{History}
use Rattle.crash_stands.specs.Stands.{IsTreeOf}
use Rattle.engine_blocks.specs.State.{State}
use Rattle.fs_log.specs.Keeping.{LeavesLog, StandsForLog}

-- an image that holds such a map stands for its tree
pub stands_for_log : (n : ℕ) (s : State) (h k : History) (img : Blocks) → ((m : Blocks) → s.crash.holds img m → (held : HeldIs n img m) × (held.header.geom ≡ s.books.geom)) → LeavesLog h k s img → StandsForLog n img h k
stands_for_log n s h k img view left =
    let held = view left.map left.holds in record {
      tree = left.tree;
      stands = record { map = left.map; held = held.0; tree = subst (λ (g : Geometry). IsTreeOf g left.map left.tree) (sym held.1) left.stands };
      left = left.left;
    }
