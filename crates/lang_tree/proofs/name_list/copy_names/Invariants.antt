use Rattle.std.proofs.Common.{◌≡◌, ◌≤◌, length, take}
use Rattle.lang_tree.proofs.name_list.copy_names.Given as goal

abbrev pub invariant-loop-name : goal.invariant-loop-name
invariant-loop-name l = (l.name-index ≤ length l.names) × (l.copy.items ≡ take l.name-index l.names)
