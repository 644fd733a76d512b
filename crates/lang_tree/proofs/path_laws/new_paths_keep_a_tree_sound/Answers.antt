use Rattle.lang_tree.proofs.soundness.SoundChanges.{with_new, with_link}
use Rattle.lang_tree.proofs.path_laws.new_paths_keep_a_tree_sound.Goals as goal

pub returns-clause-node : goal.returns-clause-node
returns-clause-node c = λ limit t path n k x s no_path no_node low high up_at up_dir. with_new limit t s path n k x no_path no_node low high up_at up_dir

pub returns-clause-path : goal.returns-clause-path
returns-clause-path c = λ limit t path n k bytes s no_path file up_at up_dir. with_link limit t s path n k bytes no_path file up_at up_dir
