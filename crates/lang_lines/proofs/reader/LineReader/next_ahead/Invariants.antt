-- So far no item was given.
use Rattle.std.proofs.Common.{[], length}
use Rattle.lang_lines.specs.Lines.{items_of_line, longest}
use Rattle.lang_lines.specs.Steps.{GoesOn}
use Rattle.lang_lines.proofs.reader.LineReader.next_ahead.Given as goal

abbrev pub invariant-loop-alloc : goal.invariant-loop-alloc
invariant-loop-alloc g l = GoesOn (items_of_line g.P.LineParser.bad g.P.LineParser.says longest) [] l.fn.self l.self

abbrev pub decreases-loop-alloc : goal.decreases-loop-alloc
decreases-loop-alloc g l = length l.self.ahead
