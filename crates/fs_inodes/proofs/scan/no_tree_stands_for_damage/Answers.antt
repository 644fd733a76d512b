use Rattle.std.proofs.Common.{◌∷◌, ◌++◌}
use Rattle.fs_inodes.proofs.scanning.Damage.{next_name_new, next_dir_new, all_seen, links_fit}
use Rattle.fs_inodes.proofs.scan.no_tree_stands_for_damage.Goals as goal

pub returns-clause-names_root : goal.returns-clause-names_root
returns-clause-names_root c = λ limit w u dir i slots s is at slot. c.the_tree_is_lawful.ensures.slot_root limit w u is dir i slots s at slot

pub returns-clause-names_unused : goal.returns-clause-names_unused
returns-clause-names_unused c = λ limit w u dir i slots s is at slot. c.the_tree_is_lawful.ensures.slot_used limit w u is dir i slots s at slot

pub returns-clause-equal_names : goal.returns-clause-equal_names
returns-clause-equal_names c = λ limit w u dir slots is at. is.distinct dir slots at

pub returns-clause-next_name : goal.returns-clause-next_name
returns-clause-next_name c = λ limit w u dir slots rest s is next. next_name_new slots rest s (is.distinct dir (slots ++ s ∷ rest) next)

pub returns-clause-named_twice : goal.returns-clause-named_twice
returns-clause-named_twice c = λ limit m w t u dir slots rest below s seen is part at next again. next_dir_new c.the_tree_is_lawful.ensures limit m w t u seen is part dir slots rest below s at next again

pub returns-clause-unreached : goal.returns-clause-unreached
returns-clause-unreached c = λ limit m w t u seen is part through k x used. all_seen c.the_tree_is_lawful.ensures limit m w t u seen is part through k x used

pub returns-clause-wrong_links : goal.returns-clause-wrong_links
returns-clause-wrong_links c = λ limit m w t u seen is part through k one all bytes more in_m in_w. links_fit c.the_tree_is_lawful.ensures limit m w t u seen is part through k one all bytes more in_m in_w
