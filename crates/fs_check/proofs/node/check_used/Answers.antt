use Rattle.std.proofs.Common.{◌≡◌, ◌+◌, ◌/◌, IsTrue, drop, length, Err, sym, ap, subst, ◌∙◌}
use Rattle.std.specs.List.{All}
use Rattle.std.proofs.lemmas.Result.{err_from_is_err_and}
use Rattle.base_types.specs.Seal.{blocks_of}
use Rattle.engine_blocks.specs.Puts.{IsData}
use Rattle.layout_bytes.specs.Node.{content_of}
use Rattle.layout_bytes.specs.declared.node.NodeKind.TheVariants.{Dir}
use Rattle.layout_bytes.specs.Bytes.{are_zeros}
use Rattle.crash_stands.specs.Files.{joined}
use Rattle.fs_check.specs.Calls.{IfDamaged}
use Rattle.fs_check.specs.Meeting.{HasPlaces, IsTailOf}
use Rattle.fs_check.proofs.sound.Nodes.{places_fit, small_size}
use Rattle.fs_check.proofs.sound.Steps.{all_marked, tail_broken, used_step}
use Rattle.fs_check.proofs.node.check_used.Goals as goal

pub meet_places-requires-clause-data : goal.meet_places-requires-clause-data
meet_places-requires-clause-data g c = subst (All (IsData c.args.geom.now)) (sym c.of-places.ensures) (places_fit c.args.geom.now c.args.node c.requires.fits).«data»

pub check_tail-requires-clause-data : goal.check_tail-requires-clause-data
check_tail-requires-clause-data g c = subst (All (IsData c.args.geom.now)) (sym c.of-places.ensures) (places_fit c.args.geom.now c.args.node c.requires.fits).«data»

pub content-size-requires : goal.content-size-requires
content-size-requires g c = small_size c.args.geom.now c.args.node c.lawful.ensures.limits.most_blocks c.requires.fits

-- the content is what the size says in the layout of the geometry
pub check_tail-requires-clause-count : goal.check_tail-requires-clause-count
check_tail-requires-clause-count g c =
    ap length c.of-places.ensures ∙ (places_fit c.args.geom.now c.args.node c.requires.fits).count
    ∙ ap (λ n. (n + 1023) / 1024) (sym (c.content-size.ensures ∙ ap (λ l. content_of l c.args.node.kind c.args.node.size) c.layout.ensures))

pub returns-in_err-check_tail-clause-damage : goal.returns-in_err-check_tail-clause-damage
returns-in_err-check_tail-clause-damage g c = λ tells used checked.
    let m = (g.S.Blocks.state c.args.blocks.now).map in
    let node : HasPlaces c.args.geom.now m c.args.number c.of-places.result = record { node = c.args.node; is_node = used; places = sym c.of-places.ensures } in
    let so_far = c.in_ok-meet_places.ensures.met m checked.are node checked.sound.blocks in
    let p = err_from_is_err_and c.from_residual-in_err-check_tail.result c.from_residual-in_err-check_tail.ensures.1 in
    rw (p.1, p.2) (tail_broken c.args.geom.now m c.args.number c.args.node c.of-places.result c.in_err-check_tail.field-0.0 used c.of-places.ensures
    (subst (λ n. IfDamaged {T = Unit {0}} (Err c.in_err-check_tail.field-0.0) (IsTailOf c.args.number c.args.node.kind (drop n (joined m c.of-places.result)))) (c.content-size.ensures ∙ ap (λ l. content_of l c.args.node.kind c.args.node.size) c.layout.ensures)
    (c.in_err-check_tail.ensures.tail tells (all_marked c.args.geom.now m c.args.number c.of-places.result (blocks_of c.meet_places.new.met) node so_far))))

pub returns-clause-sound : goal.returns-clause-sound
returns-clause-sound g c = λ tells used checked.
    let m = (g.S.Blocks.state c.args.blocks.now).map in
    let node : HasPlaces c.args.geom.now m c.args.number c.of-places.result = record { node = c.args.node; is_node = used; places = sym c.of-places.ensures } in
    let so_far = c.in_ok-meet_places.ensures.met m checked.are node checked.sound.blocks in
    used_step c.args.geom.now m c.args.bits.now c.args.met.now c.meet_places.new.met c.args.found.now c.note.new.found c.args.number c.args.node c.of-places.result used c.of-places.ensures checked so_far
    (subst (λ n. c.args.node.kind ≡ Dir → IsTrue (are_zeros (drop n (joined m c.of-places.result)))) (c.content-size.ensures ∙ ap (λ l. content_of l c.args.node.kind c.args.node.size) c.layout.ensures)
    (c.in_ok-check_tail.ensures.zeros tells (all_marked c.args.geom.now m c.args.number c.of-places.result (blocks_of c.meet_places.new.met) node so_far)))
    c.note.ensures.before c.note.ensures.plain
