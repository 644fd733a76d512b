use Rattle.std.proofs.Common.{◌≡◌, ◌∙◌, ℕ, Option, Some, None, is_some, true, false, slice_index_or, sym, ap, rules}
use Rattle.disk_memory_bay.specs.Shelves.{ShelfState, place_of, has_blocks}
use Rattle.disk_memory_bay.proofs.ShelfLaws.{no_blocks, same_blocks}
use Rattle.disk_memory_bay.proofs.shelves.place_with.Goals as goal

-- no shelf has the name
pub returns-in_err-at-clause-has : goal.returns-in_err-at-clause-has
returns-in_err-at-clause-has c =
    let none : place_of c.args.shelves.now c.args.name.now ≡ None = search rules in
    ap (λ (o : Option ℕ). is_some o) c.from_residual.ensures ∙ sym (no_blocks c.args.shelves.now c.args.name.now c.args.blocks none)

-- one has it, with another image or none
pub returns-then-not-has_blocks-clause-has : goal.returns-then-not-has_blocks-clause-has
returns-then-not-has_blocks-clause-has c =
    let ss = c.args.shelves.now in
    let x = c.index-shelves-at.result in
    let there : place_of ss c.args.name.now ≡ Some c.in_ok-at.at = search rules in
    let is : x ≡ slice_index_or ss c.in_ok-at.at x = search rules in
    let has : has_blocks c.args.blocks x.held ≡ false = search rules in
    sym (same_blocks ss c.args.name.now c.in_ok-at.at x c.args.blocks there ∙ ap (λ (s : ShelfState). has_blocks c.args.blocks s.held) (sym is) ∙ has)

-- one has it, with such an image
pub returns-clause-has : goal.returns-clause-has
returns-clause-has c =
    let ss = c.args.shelves.now in
    let x = c.index-shelves-at.result in
    let there : place_of ss c.args.name.now ≡ Some c.in_ok-at.at = search rules in
    let is : x ≡ slice_index_or ss c.in_ok-at.at x = search rules in
    let has : has_blocks c.args.blocks x.held ≡ true = search rules in
    sym (same_blocks ss c.args.name.now c.in_ok-at.at x c.args.blocks there ∙ ap (λ (s : ShelfState). has_blocks c.args.blocks s.held) (sym is) ∙ has)
