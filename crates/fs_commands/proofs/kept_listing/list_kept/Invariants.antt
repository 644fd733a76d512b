use Rattle.std.proofs.Common.{◌≡◌, false, IsTrue, Some}
use Rattle.std.specs.List.{AllByRecursion}
use Rattle.lang_tree.specs.Step.{Session}
use Rattle.fs_files.specs.Effects.{LooksOnly}
use Rattle.fs_session.specs.Sessions.{IsSession}
use Rattle.fs_commands.specs.Known.{number_in}
use Rattle.fs_commands.proofs.snapped.Lines.{HasListed}
use Rattle.fs_commands.proofs.kept_listing.list_kept.Given as goal

abbrev pub invariant-loop-name : goal.invariant-loop-name
invariant-loop-name g l = record {
  looks : LooksOnly g.S.Blocks.tells false (g.S.Blocks.state l.fn.blocks) (g.S.Blocks.state l.blocks);
  faults : g.K.Sink.faults l.out ≡ g.K.Sink.faults l.fn.out;
  named : AllByRecursion (λ e. number_in l.known e.0 ≡ Some e.1) l.name-iterator;
  text : IsTrue g.S.Blocks.tells → (f : Session) → IsSession (g.S.Blocks.state l.fn.blocks) f → HasListed f.tree.snapshots l.name-iterator (g.K.Sink.taken l.fn.out) (g.K.Sink.taken l.out);
}
