use Rattle.std.proofs.Common.{[], None, ◌∙◌, ap, length, sym, subst, List}
use Rattle.disk_contract.specs.declared.bay.Mark.{Mark}
use Rattle.disk_contract.specs.Lawful.{IsSoundDisk}
use Rattle.layout_geometry.specs.Geometry.{Geometry, IsGeometry}
use Rattle.crash_stands.specs.Bounds.{bounds_of}
use Rattle.engine_blocks.specs.State.{Bookkeeping}
use Rattle.fs_check.specs.Whole.{fails_by}
use Rattle.fs_commands.specs.Opened.{blocks_in}
use Rattle.engine_store.specs.StoreOf.{state_of}
use Rattle.lang_tree.specs.Step.{session_on}
use Rattle.cmd_session.specs.Shared.{drawn}
use Rattle.cmd_image.specs.Staying.{damage_stays, none_stays}
use Rattle.cmd_image.specs.Steps.{SoFar}
use Rattle.cmd_image.specs.Shared.{is_mark_in, mounted_with}
use Rattle.cmd_image.proofs.Beginning.{first_so_far, known_first}
use Rattle.cmd_image.proofs.Finishing.{unopened_counts, unopened_run_back}
use Rattle.cmd_image.proofs.run.run_store.Goals as goal

pub returns-in-Ok-clause-comes : goal.returns-in-Ok-clause-comes
returns-in-Ok-clause-comes g c = λ first is.
    let known = g.D.Disk.state in
    let tells = g.D.Disk.tells in
    let s = state_of known c.args.store in
    let opened = blocks_in c.in-Ok.served in
    let u = state_of known opened in
    c.run_served.ensures.comes first
    (subst (λ (x : _). SoFar tells first [] [] c.begin.result.marks.items (state_of known (blocks_in x))) (sym c.begin.ensures.served)
    (subst (λ (ms : List Mark). SoFar tells first [] [] ms u) (sym c.begin.ensures.marks)
    (first_so_far tells first s u c.mark_of-mark.result is c.in-Ok.ensures.looks (λ t.
    let tree = c.in-Ok.ensures.stands t in
    known_first tells t first s is u tree.0 c.mark_of-mark.result c.requires.begun c.in-Ok.ensures.looks tree.1
    (c.in-Ok.ensures.serves t (λ x. drawn known x) s.books.geom s.map tree.0 (mounted_with tells t first s is) tree.1)
    (c.in-Ok.ensures.budget t tree.0)
    (λ f session. c.a_command_is_answered_in_a_room_that_came_back.ensures.room t opened f session)
    (λ f session. c.as_many_blocks_are_marked_as_the_tree_has.ensures.room opened f t session)
    (c.as_many_blocks_are_marked_as_the_tree_has.ensures.takeable opened)
    (c.books_are_sound.ensures opened)
    (subst (λ (k : Geometry). IsGeometry k) c.geom-geom.ensures c.lawful.ensures.limits)
    (λ mount base m begun_tree begins. c.a_run_begins_by_the_log.ensures t mount base m begun_tree opened begins)
    (subst (λ d. IsSoundDisk (known d)) c.disk-2.ensures.value (c.lawful-2.ensures t)).counted
    (is_mark_in c.mark_of-mark.result s
    (c.mark_of-mark.ensures.moment t ∙ ap (λ d. length (known d).log) c.disk.ensures.value)
    (c.mark_of-mark.ensures.read_faults ∙ ap (λ d. (known d).read_faults) c.disk.ensures.value)
    (c.mark_of-mark.ensures.faults ∙ ap (λ d. (known d).faults) c.disk.ensures.value))
    (c.the_writes_keep_within_the_budget_at_each_mark.ensures.first s.books.geom (session_on (bounds_of s.books.geom) tree.0) u.crash.log)))))

pub returns-in-Err-clause-comes : goal.returns-in-Err-clause-comes
returns-in-Err-clause-comes g c = λ first is.
    let known = g.D.Disk.state in
    let tells = g.D.Disk.tells in
    let s = state_of known c.args.store in
    let u = state_of known c.in-Err.store in
    let why = c.in-Err.why in
    let looks = c.in-Err.ensures.back in
    let geom = ap (λ (k : Bookkeeping). k.geom) looks.books in
    unopened_run_back tells first (known c.unopened-disk.result.0) _ c.args.marks.items c.unopened-disk.result.1 c.of_show.result c.requires.empty c.of_show.ensures c.unopened-disk.ensures.silent
    (c.unopened-disk.ensures.back first None (c.what_is_read_stays_mounted.ensures c.args.store c.in-Err.store first (fails_by why) is.on looks)
    (λ t. damage_stays s.books.geom u.books.geom s.map u.map why geom (looks.map t) (c.in-Err.ensures.damage t))
    (λ t. none_stays s.books.geom u.books.geom s.map u.map why geom (looks.map t) (c.in-Err.ensures.none t)))

pub returns-in-Err-clause-counts : goal.returns-in-Err-clause-counts
returns-in-Err-clause-counts g c = unopened_counts _ c.unopened-disk.result.1 c.of_show.result c.of_show.ensures c.unopened-disk.ensures.silent
