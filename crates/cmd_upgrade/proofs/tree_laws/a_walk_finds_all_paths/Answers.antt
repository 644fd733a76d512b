-- A walk goes down by the inode map of the tree.
use Rattle.std.proofs.Common.{◌≡◌, sym, ap, ◌∙◌}
use Rattle.cmd_upgrade.proofs.Walking.{dirs_is, from_root, made_is, no_blocks, none_made, nothing_in_file}
use Rattle.cmd_upgrade.proofs.tree_laws.a_walk_finds_all_paths.Goals as goal

pub returns-clause-root : goal.returns-clause-root
returns-clause-root c = from_root

pub returns-clause-made : goal.returns-clause-made
returns-clause-made c = λ n k img t path is at.
    let i = is.held.header.geom.i in
    let map = is.tree.map in
    made_is i is.tree.inodes t map (λ p j leads. c.a_listing_goes_down.ensures.paths i is.tree.inodes t p j map leads)
    (λ p j slots leads e. c.the_map_gives_the_names.ensures.names i is.tree.inodes t p j slots map leads e) (λ p. c.the_map_gives_the_names.ensures.count i is.tree.inodes t p map)
    path k (sym (map.shows.names path) ∙ at)

pub returns-clause-blocks : goal.returns-clause-blocks
returns-clause-blocks c = λ l n k img t path is at.
    let i = is.held.header.geom.i in
    let map = is.tree.map in
    dirs_is i is.tree.inodes t map (λ p j leads. c.a_listing_goes_down.ensures.paths i is.tree.inodes t p j map leads)
    (λ p j slots leads e. c.the_map_gives_the_names.ensures.names i is.tree.inodes t p j slots map leads e) (λ p. c.the_map_gives_the_names.ensures.count i is.tree.inodes t p map)
    l path k (sym (map.shows.names path) ∙ at)

pub returns-clause-file : goal.returns-clause-file
returns-clause-file c = λ n k img t path bytes is at file.
    let i = is.held.header.geom.i in
    let map = is.tree.map in
    let leads = sym (map.shows.names path) ∙ at in
    none_made i is.tree.inodes t map (λ p j to. c.a_listing_goes_down.ensures.paths i is.tree.inodes t p j map to)
    (λ p j slots to e. c.the_map_gives_the_names.ensures.names i is.tree.inodes t p j slots map to e) (λ p. c.the_map_gives_the_names.ensures.count i is.tree.inodes t p map)
    path k leads
    (nothing_in_file i is.tree.inodes t map (λ p j to. c.a_listing_goes_down.ensures.paths i is.tree.inodes t p j map to)
    (λ p j slots to e. c.the_map_gives_the_names.ensures.names i is.tree.inodes t p j slots map to e) (λ p. c.the_map_gives_the_names.ensures.count i is.tree.inodes t p map) path k bytes leads file)

pub returns-clause-none : goal.returns-clause-none
returns-clause-none c = λ l n k img t path bytes is at file.
    let i = is.held.header.geom.i in
    let map = is.tree.map in
    let leads = sym (map.shows.names path) ∙ at in
    no_blocks i is.tree.inodes t map (λ p j to. c.a_listing_goes_down.ensures.paths i is.tree.inodes t p j map to)
    (λ p j slots to e. c.the_map_gives_the_names.ensures.names i is.tree.inodes t p j slots map to e) (λ p. c.the_map_gives_the_names.ensures.count i is.tree.inodes t p map)
    l path k leads
    (nothing_in_file i is.tree.inodes t map (λ p j to. c.a_listing_goes_down.ensures.paths i is.tree.inodes t p j map to)
    (λ p j slots to e. c.the_map_gives_the_names.ensures.names i is.tree.inodes t p j slots map to e) (λ p. c.the_map_gives_the_names.ensures.count i is.tree.inodes t p map) path k bytes leads file)
