use Rattle.std.proofs.Common.{◌≡◌, ◌++◌, List, [], ◌∷◌, Some, None, sym, subst, rules}
use Rattle.disk_memory_bay.specs.Shelves.{ShelfState, place_of, Holds}
use Rattle.disk_memory_bay.proofs.ShelfLaws.{push_holds}
use Rattle.disk_memory_bay.proofs.shelves.put_held.Goals as goal

pub returns-in_ok-add_shelf-in-None-clause-done : goal.returns-in_ok-add_shelf-in-None-clause-done
returns-in_ok-add_shelf-in-None-clause-done c =
    let ss = c.args.shelves.now.items in
    let none : place_of ss c.args.name.now ≡ None = search rules in
    let more : c.add_shelf.new.shelves.items ≡ ss ++ record { name = c.args.name.now; fails = []; held = Some c.args.held } ∷ [] = search rules in
    subst (λ (l : List ShelfState). Holds c.args.name.now c.args.held ss l) (sym more) (push_holds ss c.args.name.now c.args.held none)
