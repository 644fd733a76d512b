use Rattle.std.proofs.Common.{◌≡◌, ◌+◌, ◌/◌, false, IsTrue, drop, length, min, sym, ap, subst, ◌∙◌}
use Rattle.std.specs.List.{All}
use Rattle.std.proofs.lemmas.Result.{err_from_is_err_and}
use Rattle.base_types.specs.Seal.{blocks_of}
use Rattle.engine_blocks.specs.Puts.{IsData}
use Rattle.layout_geometry.specs.Geometry.{Geometry}
use Rattle.layout_bytes.specs.Bytes.{are_zeros}
use Rattle.layout_bytes.specs.Node.{content_of}
use Rattle.crash_stands.specs.Files.{joined}
use Rattle.crash_stands.specs.Places.{table_blocks}
use Rattle.fs_check.specs.declared.checking.Damage.TheVariants.{Snapshot}
use Rattle.fs_check.specs.declared.snapshot_damage.SnapshotDamage.TheVariants.{KeptTail}
use Rattle.fs_check.specs.Whole.{OnDamage}
use Rattle.fs_snapshots.specs.Nodes.{part_data}
use Rattle.fs_check.proofs.keeping.Dirs.{has_dir, part_whole}
use Rattle.fs_check.proofs.keeping.Kept.{kept_on, next_dir, next_file, next_free, snapshot_broken, tail_broken}
use Rattle.fs_check.proofs.sound.Nodes.{places_fit, small_size}
use Rattle.fs_check.proofs.kept_table.check_kept_used.Goals as goal

pub keep_places-requires-clause-data : goal.keep_places-requires-clause-data
keep_places-requires-clause-data g c = subst (All (IsData c.args.geom.now)) (sym c.of-places.ensures) (places_fit c.args.geom.now c.args.node c.requires.fits).«data»

pub check_kept_tail-requires-clause-data : goal.check_kept_tail-requires-clause-data
check_kept_tail-requires-clause-data g c =
    subst (λ (h : Geometry). All (IsData h) c.directory_places-own.result) (sym c.requires.may.may.geom)
    (part_data c.args.geom.now c.args.snapshot.now.places c.directory_places-own.result c.count.result (min (c.args.tally.now.dirs + (1 + table_blocks c.args.geom.now)) 4294967295) c.requires.may.«data» c.directory_places-own.ensures)

pub content-size-requires : goal.content-size-requires
content-size-requires g c = small_size c.args.geom.now c.args.node c.lawful.ensures.limits.most_blocks c.requires.fits

pub returns-in_err-check_kept_tail-in-Dir-clause-damage : goal.returns-in_err-check_kept_tail-in-Dir-clause-damage
returns-in_err-check_kept_tail-in-Dir-clause-damage g c = λ tells used so_far.
    let m = (g.S.Blocks.state c.args.blocks.now).map in
    let own = c.args.snapshot.now.places in
    let dir = has_dir c.args.geom.now m own c.args.number c.args.tally.now.dirs c.count.result c.args.node c.directory_places-own.result used c.in-Dir.is so_far.parts c.requires.may.most so_far.below.behind
    (c.count.ensures.value ∙ ap length c.of-places.ensures) c.directory_places-own.ensures in
    let p = err_from_is_err_and c.from_residual-in_err-check_kept_tail-in-Dir.result c.from_residual-in_err-check_kept_tail-in-Dir.ensures.1 in
    rw (p.1, p.2) (tail_broken c.args.geom.now m c.args.maps.now c.args.tally.now c.args.snapshot.now c.args.number c.args.number c.args.node c.directory_places-own.result c.in_err-check_kept_tail-in-Dir.field-0.0 so_far used c.in-Dir.is dir.at
    (subst (λ n. OnDamage c.in_err-check_kept_tail-in-Dir.field-0.0 (λ what. (what ≡ Snapshot (KeptTail c.args.snapshot.now.number c.args.number)) × (are_zeros (drop n (joined m c.directory_places-own.result)) ≡ false))) (c.content-size.ensures ∙ ap (λ l. content_of l c.args.node.kind c.args.node.size) c.layout.ensures)
    (c.in_err-check_kept_tail-in-Dir.ensures.tail tells (part_whole m own c.directory_places-own.result c.count.result (min (c.args.tally.now.dirs + (1 + table_blocks c.args.geom.now)) 4294967295) so_far.whole c.directory_places-own.ensures)
    (dir.long ∙ ap (λ n. (n + 1023) / 1024) (sym (c.content-size.ensures ∙ ap (λ l. content_of l c.args.node.kind c.args.node.size) c.layout.ensures))))))

pub returns-in-Free-clause-sound : goal.returns-in-Free-clause-sound
returns-in-Free-clause-sound g c = λ tells used so_far.
    let m = (g.S.Blocks.state c.args.blocks.now).map in
    kept_on c.args.geom.now m c.args.maps.now c.args.tally.now c.args.tally.now c.args.snapshot.now c.args.number so_far
    (next_free c.args.geom.now m c.args.snapshot.now.places c.args.number c.args.tally.now.dirs c.args.node (blocks_of c.args.tally.now.met.items) used c.in-Free.is so_far.below.behind so_far.below.blocks)

pub returns-in-Snapshot-clause-damage : goal.returns-in-Snapshot-clause-damage
returns-in-Snapshot-clause-damage g c = λ tells used so_far.
    let m = (g.S.Blocks.state c.args.blocks.now).map in
    snapshot_broken c.args.geom.now m c.args.maps.now c.args.tally.now c.args.snapshot.now c.args.number c.args.number c.args.node c.bad_node.result so_far used c.in-Snapshot.is c.bad_node.ensures

pub returns-in_ok-keep_places-in-File-clause-sound : goal.returns-in_ok-keep_places-in-File-clause-sound
returns-in_ok-keep_places-in-File-clause-sound g c = λ tells used so_far.
    let m = (g.S.Blocks.state c.args.blocks.now).map in
    let own = c.args.snapshot.now.places in
    kept_on c.args.geom.now m c.args.maps.now c.args.tally.now c.keep_places.new.tally c.args.snapshot.now c.args.number so_far
    (next_file c.args.geom.now m own c.of-places.result c.args.number c.args.tally.now.dirs c.keep_places.new.tally.dirs c.args.node (blocks_of c.keep_places.new.tally.met.items) used c.in-File.is (sym c.of-places.ensures) so_far.below.behind
    c.in_ok-keep_places-in-File.ensures.dirs (c.in_ok-keep_places-in-File.ensures.met m own c.args.number c.args.node so_far.maps_true used c.in-File.is (sym c.of-places.ensures) so_far.below.blocks))

pub returns-in_ok-check_kept_tail-in-Dir-clause-sound : goal.returns-in_ok-check_kept_tail-in-Dir-clause-sound
returns-in_ok-check_kept_tail-in-Dir-clause-sound g c = λ tells used so_far.
    let m = (g.S.Blocks.state c.args.blocks.now).map in
    let own = c.args.snapshot.now.places in
    let dir = has_dir c.args.geom.now m own c.args.number c.args.tally.now.dirs c.count.result c.args.node c.directory_places-own.result used c.in-Dir.is so_far.parts c.requires.may.most so_far.below.behind
    (c.count.ensures.value ∙ ap length c.of-places.ensures) c.directory_places-own.ensures in
    kept_on c.args.geom.now m c.args.maps.now c.args.tally.now (record { met = c.args.tally.now.met; dirs = c.saturating_add-tally.result; counts = c.args.tally.now.counts }) c.args.snapshot.now c.args.number so_far
    (next_dir c.args.geom.now m own c.directory_places-own.result c.args.number c.args.tally.now.dirs c.count.result c.saturating_add-tally.result c.args.node (blocks_of c.args.tally.now.met.items) used c.in-Dir.is dir
    (c.saturating_add-tally.ensures ∙ ap (λ n. min (c.args.tally.now.dirs + n) 4294967295) (c.count-in-Dir.ensures.value ∙ sym c.count.ensures.value))
    (subst (λ n. IsTrue (are_zeros (drop n (joined m c.directory_places-own.result)))) (c.content-size.ensures ∙ ap (λ l. content_of l c.args.node.kind c.args.node.size) c.layout.ensures)
    (c.in_ok-check_kept_tail-in-Dir.ensures.zeros tells (part_whole m own c.directory_places-own.result c.count.result (min (c.args.tally.now.dirs + (1 + table_blocks c.args.geom.now)) 4294967295) so_far.whole c.directory_places-own.ensures)
    (dir.long ∙ ap (λ n. (n + 1023) / 1024) (sym (c.content-size.ensures ∙ ap (λ l. content_of l c.args.node.kind c.args.node.size) c.layout.ensures)))))
    so_far.below.blocks)
