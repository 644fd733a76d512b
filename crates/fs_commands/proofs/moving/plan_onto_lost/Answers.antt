use Rattle.std.proofs.Common.{◌+◌, [], Some, refl, sym, ap, ap₂, ◌∙◌, arith, IsTrue, ℕ, List, subst, ◌≡◌, None}
use Rattle.fs_inodes.specs.Refusals.{rename_reason}
use Rattle.lang_tree.specs.Tree.{Bounds}
use Rattle.layout_geometry.specs.Geometry.{Geometry, bitmap_blocks}
use Rattle.lang_tree.specs.declared.command.Cmd.TheVariants.{Rename}
use Rattle.lang_tree.specs.Figures.{blocks_for, release}
use Rattle.lang_tree.specs.Values.{value_of}
use Rattle.engine_blocks.specs.State.{Bookkeeping}
use Rattle.fs_commands.specs.Removing.{blocks_gone, use_after}
use Rattle.fs_session.specs.Plans.{StaysBeside}
use Rattle.fs_session.specs.Sessions.{IsSession, inodes}
use Rattle.fs_commands.proofs.keeping.Looked.{looks_settle, settled_sound, settled_stays}
use Rattle.fs_commands.proofs.moved.Planned.{counted_as, no_growth, onto_counted, planned_move, MoveIs, move_is}
use Rattle.fs_commands.proofs.planning.Looking.{full_plan, looked_change, cut_short}
use Rattle.fs_commands.proofs.removed.Planned.{loss_made, lost_alone, lost_with_path}
use Rattle.fs_commands.proofs.moving.plan_onto_lost.Given as given
use Rattle.fs_commands.proofs.Given.{session_map}
use Rattle.fs_commands.specs.Moving.{IsMove}
use Rattle.lang_tree.specs.Step.{Session}
use Rattle.fs_files.specs.Calls.{files_in}
use Rattle.fs_files.specs.declared.look.FileFacts.{FileFacts}
use Rattle.fs_files.specs.Drafts.{begun_beside, nothing_drafted}
use Rattle.fs_files.specs.Shared.{is_kept}
use Rattle.fs_session.specs.Commands.{places_of}
use Rattle.fs_commands.proofs.moving.plan_onto_lost.Goals as goal
use Rattle.fs_commands.proofs.moving.plan_onto_lost.Goals.{After-moving-figures, In-Ok-draft_onto}

-- what is known of the rename, and that it is weighed by its figures
weighed : (g : given.Over) (c : goal.After-moving-figures g) (from to : List (List ℕ)) → IsTrue g.S.Blocks.tells → IsMove (g.S.Blocks.state c.args.blocks.now).books.geom.layout (files_in (g.S.Blocks.state c.args.blocks.now) nothing_drafted) from to c.args.source.now c.args.target.now.dir c.args.target.now.count (Some c.args.target.now.entry) c.args.other.now → (f : Session) → IsSession (g.S.Blocks.state c.args.blocks.now) f
    → MoveIs (g.S.Blocks.state c.args.blocks.now) f from to c.args.source.now c.args.target.now.dir c.args.target.now.count (Some c.args.target.now.entry) c.args.other.now 0
    (release (g.S.Blocks.state c.args.blocks.now).books.geom.layout c.args.source.now.count + blocks_gone (is_kept c.args.shared.now) c.args.target.now.entry.node.facts (places_of (g.S.Blocks.state c.args.blocks.now) c.args.target.now.entry.node.number)) (value_of c.moving-figures.result)
weighed g c from to told move f h =
    let s = g.S.Blocks.state c.args.blocks.now in
    let counts = c.args.shared.now in
    let source = c.args.source.now in
    let target = c.args.target.now in
    let node = target.entry.node in
    let map = session_map c.blocks_have_the_map_of_their_tree.ensures.map s f h in
    let same : f.limit.layout ≡ s.books.geom.layout = ap (λ (b : Bounds). b.layout) h.limit in
    let none = subst (λ l. rename_reason l (inodes s) from to ≡ None) (sym same) move.accepted in
    let known = c.a_move_is_known.ensures.knows told from to source target.dir target.count (Some target.entry) c.args.other.now move in
    let onto = c.a_move_is_known.ensures.onto told f.tree from to source target c.args.other.now h.tree move known in
    let found = onto.0.found in
    let many = c.a_file_has_its_blocks.ensures c.args.blocks.now (begun_beside counts) node.number found.file told (c.a_draft_may_begin.ensures counts c.requires.may.begin) found.is ∙ ap blocks_for (sym (ap (λ (q : FileFacts). q.size) found.facts)) in
    let with_path = lost_with_path s counts node c.args.gone (c.requires.gone told) f to (λ k i. c.counts_tell_what_is_shared.ensures.shared c.args.blocks.now f counts k i h (c.requires.may.begin.kept told)) onto.3 onto.1 in
    let alone = lost_alone s counts node c.args.gone (c.requires.gone told) many in
    let gone : ℕ = blocks_gone (is_kept counts) node.facts (places_of s node.number) in
    move_is s f from to source target.dir target.count (Some target.entry) c.args.other.now 0 (release s.books.geom.layout source.count + gone) _ known map none c.the_map_gives_the_refusal.ensures.refusal
    (onto_counted s f from to source c.args.other.now map none same c.the_map_gives_the_figures.ensures.over target known gone (sym with_path ∙ alone))
    (counted_as c.bitmap_blocks-bitmap.result 0 (c.release.result + c.args.gone) (bitmap_blocks s.books.geom) 0 (release s.books.geom.layout source.count + gone) _ c.moving-figures.ensures
    (c.bitmap_blocks-bitmap.ensures ∙ ap (λ (k : Geometry). bitmap_blocks k) c.geom-geom.ensures) refl (ap₂ (λ a b. a + b) (c.release.ensures.value ∙ ap₂ release (c.layout.ensures ∙ ap (λ (k : Geometry). k.layout) c.geom-geom.ensures) c.from.ensures) alone))

pub draft_onto-requires-clause-moves : goal.draft_onto-requires-clause-moves
draft_onto-requires-clause-moves g c = λ told.
    let t = c.requires.may.stands told in
    let m = c.requires.known told in
    let known = c.a_move_is_known.ensures.knows told m.0 m.1 c.args.source.now c.args.target.now.dir c.args.target.now.count (Some c.args.target.now.entry) c.args.other.now m.2 in
    (known.name, (c.a_move_is_known.ensures.onto told t.0 m.0 m.1 c.args.source.now c.args.target.now c.args.other.now t.1 m.2 known).0)

pub returns-in-Err-clause-plans : goal.returns-in-Err-clause-plans
returns-in-Err-clause-plans g c = λ from to move.
    full_plan g.S.Blocks.tells g.S.Blocks.state c.calls_compose.ensures.rests (Rename from to) c.args.blocks.now (value_of c.moving-figures.result) c.in-Err.why c.requires.may.begin.going c.in-Err.ensures.refused
    (λ told f h. let a = weighed g (goal.at.returns-in-Err-clause-plans g c).After-moving-figures from to told (move told) f h in (a.accepted, a.figures))

-- the snapshots stay as they are
stays : (g : given.Over) (c : goal.In-Ok-draft_onto g) → IsTrue g.S.Blocks.tells → StaysBeside c.in-Ok-draft_onto.draft (g.S.Blocks.state c.draft_onto.new.blocks)
stays g c = settled_stays g.S.Blocks.tells (g.S.Blocks.state c.args.blocks.now) (g.S.Blocks.state c.draft_onto.new.blocks) c.args.shared.now c.in-Ok-draft_onto.draft
    (looks_settle g.S.Blocks.tells g.S.Blocks.state c.calls_compose.ensures.rests c.args.blocks.now c.draft_onto.new.blocks c.requires.may.begin.going c.in-Ok-draft_onto.ensures.looks) c.requires.may c.in-Ok-draft_onto.ensures.kept c.in-Ok-draft_onto.ensures.leaves

pub returns-in-Ok-draft_onto-clause-plans : goal.returns-in-Ok-draft_onto-clause-plans
returns-in-Ok-draft_onto-clause-plans g c = λ from to move.
    let s = g.S.Blocks.state c.args.blocks.now in
    let now = g.S.Blocks.state c.draft_onto.new.blocks in
    let source = c.args.source.now in
    let target = c.args.target.now in
    let freed : ℕ = release s.books.geom.layout source.count + blocks_gone (is_kept c.args.shared.now) target.entry.node.facts (places_of s target.entry.node.number) in
    let at = goal.at.returns-in-Ok-draft_onto-clause-plans g c in
    let fs = value_of c.moving-figures.result in
    let looks = c.in-Ok-draft_onto.ensures.looks in
    looked_change g.S.Blocks.tells g.S.Blocks.state c.calls_compose.ensures.rests (Rename from to) c.args.blocks.now c.draft_onto.new.blocks c.in-Ok-draft_onto.draft fs.cost c.use_after.result c.requires.may.begin.going
    (λ told f h.
    let a = weighed g at.After-moving-figures from to told (move told) f h in
    planned_move s now f from to source target.dir target.count (Some target.entry) c.args.other.now 5 freed 0 fs [] c.in-Ok-draft_onto.draft (use_after target.entry.node) a
    (c.in-Ok-draft_onto.ensures.moves told a.known.name (c.a_move_is_known.ensures.onto told f.tree from to source target c.args.other.now h.tree (move told) a.known).0) (stays g at.In-Ok-draft_onto told) c.in-Ok.ensures.room
    (omega arith) refl (omega arith) (λ enough. looks.books) (ap (λ (k : Bookkeeping). k.geom) looks.books) (no_growth s now.books f (Rename from to) (bitmap_blocks s.books.geom) freed a.counted)
    c.a_move_is_mapped.ensures.rename c.the_map_gives_the_reply.ensures.reply c.alterations_add_up.ensures.price)
    looks

pub returns-in-Ok-draft_onto-clause-made : goal.returns-in-Ok-draft_onto-clause-made
returns-in-Ok-draft_onto-clause-made g c =
    let s = g.S.Blocks.state c.args.blocks.now in
    let now = g.S.Blocks.state c.draft_onto.new.blocks in
    let target = c.args.target.now in
    let looks = c.in-Ok-draft_onto.ensures.looks in
    let settles = looks_settle g.S.Blocks.tells g.S.Blocks.state c.calls_compose.ensures.rests c.args.blocks.now c.draft_onto.new.blocks c.requires.may.begin.going looks in
    loss_made g.S.Blocks.tells s now c.in-Ok-draft_onto.draft target (value_of c.moving-figures.result) c.use_after.result c.in-Ok-draft_onto.ensures.draft
    (settled_sound g.S.Blocks.tells s now c.args.shared.now c.in-Ok-draft_onto.draft settles c.requires.may c.in-Ok-draft_onto.ensures.kept c.in-Ok-draft_onto.ensures.leaves c.a_draft_that_leaves_snapshots_makes_its_tree.ensures.sound c.in-Ok-draft_onto.ensures.draft)
    looks c.in-Ok.ensures.room c.use_after.ensures
    (λ told.
    let t = c.requires.may.stands told in
    let m = c.requires.known told in
    let known = c.a_move_is_known.ensures.knows told m.0 m.1 c.args.source.now target.dir target.count (Some target.entry) c.args.other.now m.2 in
    let onto = c.a_move_is_known.ensures.onto told t.0 m.0 m.1 c.args.source.now target c.args.other.now t.1 m.2 known in
    (c.in-Ok-draft_onto.ensures.moves told known.name onto.0).used)

pub returns-in-Err-draft_onto-clause-plans : goal.returns-in-Err-draft_onto-clause-plans
returns-in-Err-draft_onto-clause-plans g c = λ from to move.
    cut_short g.S.Blocks.tells g.S.Blocks.state c.calls_compose.ensures.rests (Rename from to) c.args.blocks.now c.draft_onto.new.blocks c.in-Err-draft_onto.why c.refusal_of.result c.refusal_of.ensures c.requires.may.begin.going c.in-Err-draft_onto.ensures.refused c.in-Err-draft_onto.ensures.looks
