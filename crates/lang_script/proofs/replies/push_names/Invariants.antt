use Rattle.std.proofs.Common.{◌≡◌, ◌++◌, take, true}
use Rattle.std.specs.List.{list_all}
use Rattle.base_types.specs.Name.{is_name}
use Rattle.lang_script.specs.Text.{names_behind_blanks}
use Rattle.lang_script.proofs.replies.push_names.Given as goal

abbrev pub invariant-loop-name : goal.invariant-loop-name
invariant-loop-name l =
    (l.text.items ≡ l.fn.text.items ++ names_behind_blanks (take l.name-index l.names)) ×
    (list_all is_name (take l.name-index l.names) ≡ true)
