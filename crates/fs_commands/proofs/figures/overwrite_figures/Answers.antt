use Rattle.std.proofs.Common.{◌∙◌, ◌+◌, ◌==◌, min, length, ap}
use Rattle.lang_tree.specs.declared.command.Cmd.TheVariants.{Write, Fill}
use Rattle.lang_tree.specs.Sharing.{shared_at, write_over_figures, writing_over}
use Rattle.lang_tree.specs.Values.{value_of}
use Rattle.fs_inodes.specs.Lookups.{bytes_of, inode_at, number_at}
use Rattle.fs_commands.proofs.counting.Costs.{overwritten_costs}
use Rattle.fs_commands.proofs.figures.overwrite_figures.Goals as goal

pub returns-clause-write : goal.returns-clause-write
returns-clause-write c = λ l shared m path bytes size count met.
    c.figures_come_from_inodes.ensures l c.args.bitmap shared m (Write path c.args.offset bytes) (value_of c.writing_over.result)
    (λ alone limit kept same. overwritten_costs c.args.bitmap (shared_at shared (number_at m path)) c.args.size (length (bytes_of (inode_at m path))) c.args.offset c.args.count c.args.met c.min.result (value_of c.writing_over.result) c.requires.some size c.min.ensures met (c.writing_over.ensures (shared_at shared (number_at m path)))
    ∙ ap (λ n. write_over_figures c.args.bitmap (shared_at shared (number_at m path)) (length (bytes_of (inode_at m path))) c.args.offset n) count)

pub returns-clause-fill : goal.returns-clause-fill
returns-clause-fill c = λ l shared m path byte size met.
    c.figures_come_from_inodes.ensures l c.args.bitmap shared m (Fill path c.args.offset c.args.count byte) (value_of c.writing_over.result)
    (λ alone limit kept same. overwritten_costs c.args.bitmap (shared_at shared (number_at m path)) c.args.size (length (bytes_of (inode_at m path))) c.args.offset c.args.count c.args.met c.min.result (value_of c.writing_over.result) c.requires.some size c.min.ensures met (c.writing_over.ensures (shared_at shared (number_at m path))))
