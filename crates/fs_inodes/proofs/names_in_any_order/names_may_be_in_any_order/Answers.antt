use Rattle.std.proofs.Common.{refl, [], ◌∷◌, ◌++◌}
use Rattle.lang_tree.specs.declared.command.Cmd.TheVariants.{Mkdir, Create}
use Rattle.lang_tree.specs.Tree.{Dir, File}
use Rattle.fs_inodes.proofs.commands.Commands.{made_named, link_named, unlink_named, rmdir_named, rename_named}
use Rattle.fs_inodes.proofs.names_in_any_order.names_may_be_in_any_order.Goals as goal

pub returns-clause-mkdir : goal.returns-clause-mkdir
returns-clause-mkdir c = λ s m new up name dir node is accepts leads free ch. made_named c.the_tree_is_lawful.ensures s m new is (Mkdir (up ++ name ∷ [])) up name dir node Dir (refl, refl) accepts leads free ch

pub returns-clause-create : goal.returns-clause-create
returns-clause-create c = λ s m new up name dir node is accepts leads free ch. made_named c.the_tree_is_lawful.ensures s m new is (Create (up ++ name ∷ [])) up name dir node (File []) (refl, refl) accepts leads free ch

pub returns-clause-link : goal.returns-clause-link
returns-clause-link c = λ s m new path up name dir node links bytes is accepts to_file file leads ch. link_named c.the_tree_is_lawful.ensures s m new is path up name dir node links bytes accepts to_file file leads ch

pub returns-clause-unlink : goal.returns-clause-unlink
returns-clause-unlink c = λ s m new up name dir node is accepts leads ch. unlink_named c.the_tree_is_lawful.ensures s m new is up name dir node accepts leads ch

pub returns-clause-rmdir : goal.returns-clause-rmdir
returns-clause-rmdir c = λ s m new up name dir node is accepts leads ch. rmdir_named c.the_tree_is_lawful.ensures s m new is up name dir node accepts leads ch

pub returns-clause-rename : goal.returns-clause-rename
returns-clause-rename c = λ s m new up to name other from into node is accepts leads leads_to ch. rename_named c.the_tree_is_lawful.ensures s m new is up to name other from into node accepts leads leads_to ch
