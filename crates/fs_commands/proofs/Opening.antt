-- The state of blocks that were only read since the beginning is that of a session that begins with their tree.
use Rattle.std.proofs.Common.{nat_lt, false, IsTrue, Bool, sym, ap, ◌∙◌, arith}
use Rattle.crash_stands.specs.Bounds.{bounds_of}
use Rattle.engine_blocks.specs.Crashes.{IsBegun}
use Rattle.engine_blocks.specs.State.{Bookkeeping, State}
use Rattle.lang_tree.specs.Step.{session_on}
use Rattle.lang_tree.specs.Tree.{Tree}
use Rattle.crash_stands.specs.Stands.{IsTreeOf}
use Rattle.fs_files.specs.Effects.{LooksOnly}
use Rattle.fs_session.specs.Sessions.{IsSession}
use Rattle.fs_session.specs.Staying.{tree_stays}

pub opened : (tells : Bool) (s t : State) (tree : Tree) → IsTrue tells → LooksOnly tells false s t → IsBegun s → IsTreeOf s.books.geom s.map tree → IsSession t (session_on (bounds_of s.books.geom) tree)
opened tells s t tree told looks begun stands = record {
  tree = tree_stays s t tree (ap (λ (b : Bookkeeping). b.geom) looks.books) (looks.map told) stands;
  limit = ap (λ (b : Bookkeeping). bounds_of b.geom) (sym looks.books);
  points = λ going. sym (ap (λ (b : Bookkeeping). b.point) looks.books ∙ begun.point);
  changed = λ going. sym (ap (λ n. nat_lt 0 n) (ap (λ (b : Bookkeeping). b.running.weight) looks.books ∙ begun.weight));
  durable = omega arith;
}
