use Rattle.std.proofs.Common.{◌≡◌, ◌∙◌, [], sym, rules}
use Rattle.fs_memtree.proofs.maps.Slots.{names_of_dir, names_of_file, names_of_none}
use Rattle.fs_memtree.proofs.nodes.Nodes.names.Goals as goal

pub returns-in_ok-names-in-Some-Dir : goal.returns-in_ok-names-in-Some-Dir
returns-in_ok-names-in-Some-Dir c = c.in_ok-names-in-Some-Dir.ensures ∙ names_of_dir c.args.self.now c.args.number c.in-Some-Dir.names (search rules)

pub returns-in-Some-File : goal.returns-in-Some-File
returns-in-Some-File c =
    let empty : c.new.result.items ≡ [] = search rules in
    empty ∙ sym (names_of_file c.args.self.now c.args.number c.in-Some-File.field-0-0 c.in-Some-File.field-0-1.items (search rules))

pub returns-in-None : goal.returns-in-None
returns-in-None c =
    let empty : c.new-in-None.result.items ≡ [] = search rules in
    empty ∙ sym (names_of_none c.args.self.now c.args.number (search rules))
