use Rattle.fs_files.specs.Drafts.{drafted}
use Rattle.fs_files.proofs.calling.Reads.{none_above}
use Rattle.fs_files.proofs.reading.DraftNodes.laws.Goals as goal

pub returns-clause-none : goal.returns-clause-none
returns-clause-none g c = λ k above. none_above (g.S.Blocks.state c.args.blocks.now).books.geom (drafted c.args.self.now (g.S.Blocks.state c.args.blocks.now).map) k above
