use Rattle.std.proofs.Common.{◌<◌, ◌∙◌, length, refl, ap, arith}
use Rattle.disk_memory_bay.specs.Shelves.{ShelfState}
use Rattle.disk_memory_bay.proofs.ShelfLaws.{place_inside, set_lists}
use Rattle.disk_memory_bay.proofs.shelves.set_fails.Goals as goal

pub index_mut-requires : goal.index_mut-requires
index_mut-requires c =
    let low : c.args.at < length c.args.shelves.now.items = place_inside c.args.shelves.now.items c.args.name.now c.args.at c.requires in
    omega (arith, low, c.args.shelves.now.ok)

pub returns : goal.returns
returns c =
    let is = c.behind-shelves.view_is ∙ c.index_mut.ensures.value in
    set_lists c.args.shelves.now.items c.args.name.now c.args.at c.index_mut.result.now _ c.args.fails.items c.requires (ap (λ (s : ShelfState). s.name) is) (ap (λ (s : ShelfState). s.held) is) refl
