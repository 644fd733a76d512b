use Rattle.std.proofs.Common.{false}
use Rattle.std.proofs.lemmas.Result.{err_from_is_err_and}
use Rattle.crash_stands.specs.Bounds.{bounds_of}
use Rattle.crash_stands.specs.Files.{files_of}
use Rattle.crash_stands.specs.Stands.{AreSound}
use Rattle.fs_files.specs.Places.{looks_more}
use Rattle.fs_files.specs.Shared.{is_kept}
use Rattle.fs_files.specs.Sound.{TellsKept}
use Rattle.fs_check.specs.Rules.{AreTreeFiles}
use Rattle.fs_check.specs.Snapshots.{numbers_in}
use Rattle.fs_check.specs.Whole.{IsDamaged, OnDamage, of_tree}
use Rattle.fs_check.proofs.Judging.{held_after, held_before, none_stands, tree_damage}
use Rattle.fs_check.proofs.Refuted.{tree_read}
use Rattle.fs_check.proofs.keeping.Known.{counts_keepers, knows}
use Rattle.fs_check.proofs.keeping.Trees.{stands}
use Rattle.fs_check.proofs.checking.check.Goals as goal

pub check_tree-requires-clause-sound : goal.check_tree-requires-clause-sound
check_tree-requires-clause-sound g c = λ tells.
    held_after AreSound (g.S.Blocks.state c.args.blocks.now) (g.S.Blocks.state c.check_blocks.new.blocks)
    c.in_ok-found.ensures.looks.books (c.in_ok-found.ensures.looks.map tells) (c.in_ok-found.ensures.sound tells)

pub check_tree-requires-clause-kept : goal.check_tree-requires-clause-kept
check_tree-requires-clause-kept g c = λ tells.
    let s = g.S.Blocks.state c.args.blocks.now in
    held_after (λ h m. TellsKept h (is_kept c.in_ok-found.found.shared) m) s (g.S.Blocks.state c.check_blocks.new.blocks)
    c.in_ok-found.ensures.looks.books (c.in_ok-found.ensures.looks.map tells)
    (c.what_is_known_of_snapshots_is_so.ensures.kept s.books.geom s.map c.in_ok-found.found.shared
    (counts_keepers s.books.geom s.map (numbers_in c.in_ok-found.found.numbers.entries) c.in_ok-found.found.shared (c.in_ok-found.ensures.known tells) c.in_ok-found.ensures.room))

pub returns-clause-tree : goal.returns-clause-tree
returns-clause-tree g c = λ tells.
    let s = g.S.Blocks.state c.args.blocks.now in
    let read = tree_read c.files_have_one_map.ensures.read c.the_rules_make_a_tree.ensures.tree (bounds_of s.books.geom) (files_of s.books.geom s.map)
    (held_before (λ h m. AreTreeFiles (bounds_of h) (files_of h m)) s (g.S.Blocks.state c.check_blocks.new.blocks)
    c.in_ok-found.ensures.looks.books (c.in_ok-found.ensures.looks.map tells) (c.in_ok-check_tree.ensures.rules tells)) in
    let tree = stands s.books.geom s.map (numbers_in c.in_ok-found.found.numbers.entries) c.in_ok-found.found.shared read (c.in_ok-found.ensures.sound tells) (c.in_ok-found.ensures.known tells) in
    (tree.0, tree.1)

pub returns-clause-known : goal.returns-clause-known
returns-clause-known g c = λ tells.
    let s = g.S.Blocks.state c.args.blocks.now in
    let read = tree_read c.files_have_one_map.ensures.read c.the_rules_make_a_tree.ensures.tree (bounds_of s.books.geom) (files_of s.books.geom s.map)
    (held_before (λ h m. AreTreeFiles (bounds_of h) (files_of h m)) s (g.S.Blocks.state c.check_blocks.new.blocks)
    c.in_ok-found.ensures.looks.books (c.in_ok-found.ensures.looks.map tells) (c.in_ok-check_tree.ensures.rules tells)) in
    knows c.what_is_known_of_snapshots_is_so.ensures.named s.books.geom s.map (numbers_in c.in_ok-found.found.numbers.entries) c.in_ok-found.found.shared
    read (c.in_ok-found.ensures.sound tells) (c.in_ok-found.ensures.known tells) c.in_ok-found.ensures.room

pub returns-in_err-found-clause-none : goal.returns-in_err-found-clause-none
returns-in_err-found-clause-none g c = λ tells.
    let s = g.S.Blocks.state c.args.blocks.now in
    let p = err_from_is_err_and c.from_residual.result c.from_residual.ensures.1 in
    rw (p.1, p.2) (none_stands s.books.geom s.map c.in_err-found.field-0.0 (λ what t. c.broken_blocks_are_not_sound.ensures.tree s.books.geom s.map what t)
    (c.no_tree_stands_where_a_snapshot_is_broken.ensures s.books.geom s.map) (c.no_tree_stands_where_it_is_broken.ensures s.books.geom s.map) (c.in_err-found.ensures.damage tells))

pub returns-in_err-check_tree-clause-damage : goal.returns-in_err-check_tree-clause-damage
returns-in_err-check_tree-clause-damage g c = λ tells.
    let s = g.S.Blocks.state c.args.blocks.now in
    let t = g.S.Blocks.state c.check_blocks.new.blocks in
    let p = err_from_is_err_and c.from_residual-in_err-check_tree.result c.from_residual-in_err-check_tree.ensures.1 in
    rw (p.1, p.2) (held_before (λ h m. OnDamage (of_tree c.in_err-check_tree.field-0.0) (IsDamaged h m)) s t
    c.in_ok-found.ensures.looks.books (c.in_ok-found.ensures.looks.map tells) (tree_damage t.books.geom t.map c.in_err-check_tree.field-0.0 (c.in_err-check_tree.ensures.broken tells)))

pub returns-in_err-check_tree-clause-none : goal.returns-in_err-check_tree-clause-none
returns-in_err-check_tree-clause-none g c = λ tells.
    let s = g.S.Blocks.state c.args.blocks.now in
    let t = g.S.Blocks.state c.check_blocks.new.blocks in
    let p = err_from_is_err_and c.from_residual-in_err-check_tree.result c.from_residual-in_err-check_tree.ensures.1 in
    rw (p.1, p.2) (none_stands s.books.geom s.map (of_tree c.in_err-check_tree.field-0.0) (λ what t. c.broken_blocks_are_not_sound.ensures.tree s.books.geom s.map what t)
    (c.no_tree_stands_where_a_snapshot_is_broken.ensures s.books.geom s.map) (c.no_tree_stands_where_it_is_broken.ensures s.books.geom s.map)
    (held_before (λ h m. OnDamage (of_tree c.in_err-check_tree.field-0.0) (IsDamaged h m)) s t
    c.in_ok-found.ensures.looks.books (c.in_ok-found.ensures.looks.map tells) (tree_damage t.books.geom t.map c.in_err-check_tree.field-0.0 (c.in_err-check_tree.ensures.broken tells))))

pub returns-clause-looks : goal.returns-clause-looks
returns-clause-looks g c =
    looks_more g.S.Blocks.tells false (g.S.Blocks.state c.args.blocks.now) (g.S.Blocks.state c.check_blocks.new.blocks) (g.S.Blocks.state c.check_tree.new.blocks) c.in_ok-found.ensures.looks c.in_ok-check_tree.ensures.looks
