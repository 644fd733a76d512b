use Rattle.std.proofs.Common.{true, get_or, ◌∙◌}
use Rattle.std.proofs.lemmas.List.{length-set}
use Rattle.fs_commands.proofs.numbered.Lists.{marked_more}
use Rattle.fs_commands.proofs.known.marks_of.Goals as goal

pub loop-b-preserved : goal.loop-b-preserved
loop-b-preserved c = record {
  long = length-set c.loop-b.marks.items (get_or c.args.list.now c.loop-b.b-index 0) true ∙ c.loop-b.invariant.long;
  marks = marked_more c.args.list.now c.loop-b.b-index c.loop-b.marks.items c.args.blocks c.loop-b-test.true (c.requires.within c.loop-b.b-index 0 c.loop-b-test.true) c.loop-b.invariant.long c.loop-b.invariant.marks;
}
