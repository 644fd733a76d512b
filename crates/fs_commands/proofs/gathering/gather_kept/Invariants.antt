use Rattle.crash_stands.specs.Places.{kept_table}
use Rattle.fs_commands.proofs.gathered.Tables.{GathersTo, IsThere}
use Rattle.fs_commands.proofs.gathering.gather_kept.Given as goal

abbrev pub invariant-loop-slot : goal.invariant-loop-slot
invariant-loop-slot g l =
    let s = g.S.Blocks.state l.fn.blocks in
    GathersTo (IsThere g.S.Blocks.tells s l.places) g.S.Blocks.tells s (g.S.Blocks.state l.blocks) (kept_table s.map l.places s.books.geom) l.slot l.found
