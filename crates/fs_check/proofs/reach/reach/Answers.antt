use Rattle.std.proofs.Common.{◌≡◌, ◌+◌, ◌<◌, false, [], ◌∷◌, length, replicate, slice_get, Some, refl, sym, ap, ◌∙◌, subst, arith}
use Rattle.std.proofs.lemmas.Option.{slice_get-get_or}
use Rattle.engine_blocks.specs.State.{Bookkeeping}
use Rattle.crash_stands.specs.Inodes.{inodes_of}
use Rattle.fs_check.specs.Looked.{AreSeen}
use Rattle.fs_check.specs.Marks.{Marks, Searches, IsQueue}
use Rattle.fs_check.proofs.Looking.{looks_none, looks_more, read_stays, same_files}
use Rattle.fs_check.proofs.Searching.{queue_first, searches_first, queue_more, searches_more, all_reached, good_slots, fewer}
use Rattle.fs_check.proofs.Wholes.{whole_list}
use Rattle.fs_check.proofs.reach.reach.Goals as goal

pub loop-at-init : goal.loop-at-init
loop-at-init g c =
    let s = g.S.Blocks.state c.args.blocks.now in
    let nodes = c.args.nodes.now in
    let n = length nodes in
    let items = c.in_ok-marks.marks.items in
    let new = c.mark.new.marks in
    let queue = c.mark.new.queue.items in
    let len = c.in_ok-marks.marks.ok.0 in
    let whole = whole_list c.in_ok-marks.marks.len new items len (c.mark.auto.marks ∙ ap length c.deref_mut.ensures.value ∙ sym len) in
    let first : Marks nodes (1 ∷ []) (replicate n false) new [] queue =
    subst (λ xs. Marks nodes (1 ∷ []) xs new [] queue) (c.deref_mut.ensures.value ∙ c.in_ok-marks.ensures.items_if_clones_equal (λ y h. h))
    (subst (λ xs. Marks nodes (1 ∷ []) c.deref_mut.result.now new xs queue) c.new-queue.ensures.items c.in_ok-mark.ensures) in
    record {
      looks = looks_none g.S.Blocks.tells s;
      queued = subst (λ xs. IsQueue nodes xs queue) (sym whole) (queue_first nodes n new queue refl first);
      search = λ tells. subst (λ xs. Searches nodes (inodes_of s.books.geom.layout (g.N.Nodes.nodes s c.args.files.now).files) xs queue 0) (sym whole) (searches_first nodes (inodes_of s.books.geom.layout (g.N.Nodes.nodes s c.args.files.now).files) n new queue refl c.requires.root first);
    }

pub mark_directory-requires-clause-read : goal.mark_directory-requires-clause-read
mark_directory-requires-clause-read g c =
    let looks = c.loop-at.invariant.looks in
    read_stays g.S.Blocks.tells _ _ _ _ looks (c.laws.ensures.stays false c.args.blocks.now c.loop-at.blocks looks) c.requires.read

pub mark_directory-requires-clause-seen : goal.mark_directory-requires-clause-seen
mark_directory-requires-clause-seen g c = λ tells.
    subst (λ f. AreSeen f c.args.nodes.now) (sym (same_files _ _ (c.laws.ensures.same false c.args.blocks.now c.loop-at.blocks c.loop-at.invariant.looks tells))) (c.requires.seen tells)

pub mark_directory-requires-clause-dir : goal.mark_directory-requires-clause-dir
mark_directory-requires-clause-dir g c =
    let queue = c.loop-at.queue.items in
    let low : c.loop-at.at < length queue = omega (arith, c.loop-at-test.true, c.len.ensures, c.loop-at.queue.ok.0) in
    let here : slice_get queue c.loop-at.at ≡ Some c.index-dir.result.now = slice_get-get_or queue c.loop-at.at c.index-dir.result.now low ∙ ap Some (sym c.index-dir.ensures) in
    (c.loop-at.invariant.queued.dirs c.index-dir.result.now (record { place = c.loop-at.at; at = here })).1

pub loop-at-smaller : goal.loop-at-smaller
loop-at-smaller g c =
    fewer c.args.nodes.now c.loop-at.marks.items c.loop-at.queue.items c.loop-at.at c.loop-at.invariant.queued (omega (arith, c.loop-at-test.true, c.len.ensures, c.loop-at.queue.ok.0))

pub loop-at-preserved : goal.loop-at-preserved
loop-at-preserved g c =
    let s = g.S.Blocks.state c.args.blocks.now in
    let t = g.S.Blocks.state c.loop-at.blocks in
    let u = g.S.Blocks.state c.mark_directory.new.blocks in
    let nodes = c.args.nodes.now in
    let at = c.loop-at.at in
    let dir = c.index-dir.result.now in
    let items = c.loop-at.marks.items in
    let queue = c.loop-at.queue.items in
    let new = c.mark_directory.new.marks in
    let next = c.mark_directory.new.queue.items in
    let m = c.in_ok-mark_directory.ensures.marks in
    let len = c.loop-at.marks.ok.0 in
    let value = c.deref_mut-in-loop-at.ensures.value in
    let whole = whole_list c.loop-at.marks.len new items len (c.mark_directory.auto.marks ∙ ap length value ∙ sym len) in
    let sets : Marks nodes m.named items new queue next = subst (λ xs. Marks nodes m.named xs new queue next) value m.sets in
    let low : at < length queue = omega (arith, c.loop-at-test.true, c.len.ensures, c.loop-at.queue.ok.0) in
    let here : slice_get queue at ≡ Some dir = slice_get-get_or queue at dir low ∙ ap Some (sym c.index-dir.ensures) in
    let was = (c.loop-at.invariant.queued.dirs dir (record { place = at; at = here })).1 in
    record {
      looks = looks_more g.S.Blocks.tells false s t u c.loop-at.invariant.looks c.in_ok-mark_directory.ensures.looks;
      queued = subst (λ xs. IsQueue nodes xs next) (sym whole) (queue_more nodes m.named items new queue next sets c.loop-at.invariant.queued);
      search = λ tells.
          let w = inodes_of s.books.geom.layout (g.N.Nodes.nodes s c.args.files.now).files in
          let good = good_slots nodes w dir was (c.requires.good tells dir) in
          let is = ap (λ (b : Bookkeeping). inodes_of b.geom.layout (g.N.Nodes.nodes t c.args.files.now).files dir) c.loop-at.invariant.looks.books
          ∙ ap (λ f. inodes_of s.books.geom.layout f dir) (same_files _ _ (c.laws.ensures.same false c.args.blocks.now c.loop-at.blocks c.loop-at.invariant.looks tells)) ∙ good.is_dir in
          subst (λ xs. Searches nodes w xs next (at + 1)) (sym whole)
          (searches_more c.a_walk_goes_on.ensures.last c.a_name_stands_at_its_place.ensures.only nodes w items new queue next at dir good.slots (c.loop-at.invariant.search tells) c.loop-at.invariant.queued here good.is_dir good.distinct good.names
          (subst (λ ns. Marks nodes ns items new queue next) (m.those tells good.slots is) sets));
    }

pub returns-clause-reached : goal.returns-clause-reached
returns-clause-reached g c = λ tells.
    all_reached (g.S.Blocks.state c.args.blocks.now).books.geom.layout (g.N.Nodes.nodes (g.S.Blocks.state c.args.blocks.now) c.args.files.now).files c.args.nodes.now c.loop-at.marks.items c.loop-at.queue.items c.loop-at.at (c.requires.seen tells) (c.loop-at.invariant.search tells)
    (omega (arith, c.loop-at-test.false, c.len.ensures, c.loop-at.queue.ok.0))
