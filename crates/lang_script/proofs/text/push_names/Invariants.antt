use Rattle.std.proofs.Common.{◌≡◌, ◌++◌, take}
use Rattle.lang_tree.specs.Listing.{slashed}
use Rattle.lang_script.proofs.text.push_names.Given as goal

abbrev pub invariant-loop-name : goal.invariant-loop-name
invariant-loop-name l = l.text.items ≡ l.fn.text.items ++ slashed (take l.name-index l.names)
