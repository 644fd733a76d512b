use Rattle.std.proofs.Common.{refl, [], ◌∷◌, ◌++◌}
use Rattle.lang_tree.specs.declared.command.Cmd.TheVariants.{Mkdir, Create}
use Rattle.lang_tree.specs.Tree.{Dir, File}
use Rattle.fs_inodes.proofs.commands.Commands.{made_shown}
use Rattle.fs_inodes.proofs.make.a_new_node_is_mapped.Goals as goal

pub returns-clause-mkdir : goal.returns-clause-mkdir
returns-clause-mkdir c = λ s m new up name dir node is accepts leads free ch. made_shown c.the_tree_is_lawful.ensures s m new is (Mkdir (up ++ name ∷ [])) up name dir node Dir (refl, refl) accepts leads free ch

pub returns-clause-create : goal.returns-clause-create
returns-clause-create c = λ s m new up name dir node is accepts leads free ch. made_shown c.the_tree_is_lawful.ensures s m new is (Create (up ++ name ∷ [])) up name dir node (File []) (refl, refl) accepts leads free ch
