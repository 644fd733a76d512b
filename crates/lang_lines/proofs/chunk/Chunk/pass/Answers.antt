-- The part of the buffer begins later.
use Rattle.lang_lines.proofs.Lists.{passed}
use Rattle.lang_lines.proofs.chunk.Chunk.pass.Goals as goal

pub returns : goal.returns
returns c = passed c.self.inside.from c.self.inside.to c.args.count c.self.inside.bytes.items c.args.self.now c.self.view_is c.self.invariant.0 c.self.invariant.1 c.requires
