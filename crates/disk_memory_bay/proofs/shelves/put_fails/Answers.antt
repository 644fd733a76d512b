use Rattle.std.proofs.Common.{◌≡◌, ◌++◌, List, [], ◌∷◌, None, sym, subst, rules}
use Rattle.disk_memory_bay.specs.Shelves.{ShelfState, place_of, Lists}
use Rattle.disk_memory_bay.proofs.ShelfLaws.{push_lists}
use Rattle.disk_memory_bay.proofs.shelves.put_fails.Goals as goal

pub returns-in_ok-add_shelf-in-None-clause-done : goal.returns-in_ok-add_shelf-in-None-clause-done
returns-in_ok-add_shelf-in-None-clause-done c =
    let ss = c.args.shelves.now.items in
    let none : place_of ss c.args.name.now ≡ None = search rules in
    let more : c.add_shelf.new.shelves.items ≡ ss ++ record { name = c.args.name.now; fails = c.args.fails.items; held = None } ∷ [] = search rules in
    subst (λ (l : List ShelfState). Lists c.args.name.now c.args.fails.items ss l) (sym more) (push_lists ss c.args.name.now c.args.fails.items none)
