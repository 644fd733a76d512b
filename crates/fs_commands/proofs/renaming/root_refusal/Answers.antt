use Rattle.std.proofs.Common.{[], ◌∷◌, Some, ap}
use Rattle.lang_tree.specs.declared.command.Refusal.TheVariants.{BelowItself}
use Rattle.lang_tree.specs.Conditions.{first_reason}
use Rattle.fs_inodes.specs.Lookups.{is_dir_inode, is_file_inode}
use Rattle.fs_commands.proofs.renamed.Reasons.{below_root}
use Rattle.fs_commands.proofs.renaming.root_refusal.Goals as goal

pub returns-in-Some : goal.returns-in-Some
returns-in-Some c = λ m to root some shows.
    below_root m to c.dir_refusal.result c.in-Some.why some (c.dir_refusal.ensures m [] to (ap is_dir_inode root.1) (ap is_file_inode root.1) shows) (ap (λ o. first_reason (o ∷ Some BelowItself ∷ [])) c.in-Some.is)

pub returns-in-None : goal.returns-in-None
returns-in-None c = λ m to root some shows.
    below_root m to c.dir_refusal.result BelowItself some (c.dir_refusal.ensures m [] to (ap is_dir_inode root.1) (ap is_file_inode root.1) shows) (ap (λ o. first_reason (o ∷ Some BelowItself ∷ [])) c.in-None.is)
