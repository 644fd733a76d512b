use Rattle.std.proofs.Common.{◌≡◌, true, map, take}
use Rattle.std.specs.List.{list_all}
use Rattle.base_types.specs.Name.{is_name}
use Rattle.lang_script.proofs.arguments.path_of_names.Given as goal

abbrev pub invariant-loop-part : goal.invariant-loop-part
invariant-loop-part l =
    (l.names.items ≡ take l.part-index (map (λ part. part.now) l.parts)) ×
    (list_all is_name (take l.part-index (map (λ part. part.now) l.parts)) ≡ true)
