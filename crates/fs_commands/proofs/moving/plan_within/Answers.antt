use Rattle.std.proofs.Common.{false, [], None, refl, ap, ◌∙◌, arith, IsTrue, ℕ, List, subst, sym, ◌≡◌}
use Rattle.fs_inodes.specs.Refusals.{rename_reason}
use Rattle.lang_tree.specs.Tree.{Bounds}
use Rattle.layout_geometry.specs.Geometry.{Geometry, bitmap_blocks}
use Rattle.lang_tree.specs.declared.command.Cmd.TheVariants.{Rename}
use Rattle.lang_tree.specs.Values.{value_of}
use Rattle.engine_blocks.specs.State.{Bookkeeping}
use Rattle.fs_session.specs.Plans.{StaysBeside}
use Rattle.fs_session.specs.Sessions.{IsSession, inodes}
use Rattle.fs_commands.proofs.keeping.Looked.{looks_settle, settled_sound, settled_stays}
use Rattle.fs_commands.proofs.moved.Planned.{counted_as, may_rename, move_made, no_growth, planned_move, within_counted, MoveIs, move_is}
use Rattle.fs_session.specs.declared.unused.NodeUse.TheVariants.{Stays}
use Rattle.fs_commands.proofs.looking.Found.{same_files}
use Rattle.fs_commands.proofs.planning.Looking.{full_plan, looked_change, cut_short}
use Rattle.fs_commands.proofs.moving.plan_within.Given as given
use Rattle.fs_commands.proofs.Given.{session_map}
use Rattle.fs_commands.specs.Moving.{IsMove}
use Rattle.lang_tree.specs.Step.{Session}
use Rattle.fs_files.specs.Calls.{files_in}
use Rattle.fs_files.specs.Drafts.{nothing_drafted}
use Rattle.fs_commands.proofs.moving.plan_within.Goals as goal
use Rattle.fs_commands.proofs.moving.plan_within.Goals.{After-moving-figures, In-Ok-draft_within}

-- what is known of the rename, and that it is weighed by its figures
weighed : (g : given.Over) (c : goal.After-moving-figures g) (from to : List (List ℕ)) → IsTrue g.S.Blocks.tells → IsMove (g.S.Blocks.state c.args.blocks.now).books.geom.layout (files_in (g.S.Blocks.state c.args.blocks.now) nothing_drafted) from to c.args.source.now c.args.source.now.dir c.args.source.now.count None c.args.other.now → (f : Session) → IsSession (g.S.Blocks.state c.args.blocks.now) f
    → MoveIs (g.S.Blocks.state c.args.blocks.now) f from to c.args.source.now c.args.source.now.dir c.args.source.now.count None c.args.other.now 0 0 (value_of c.moving-figures.result)
weighed g c from to told move f h =
    let s = g.S.Blocks.state c.args.blocks.now in
    let map = session_map c.blocks_have_the_map_of_their_tree.ensures.map s f h in
    let same : f.limit.layout ≡ s.books.geom.layout = ap (λ (b : Bounds). b.layout) h.limit in
    let none = subst (λ l. rename_reason l (inodes s) from to ≡ None) (sym same) move.accepted in
    let known = c.a_move_is_known.ensures.knows told from to c.args.source.now c.args.source.now.dir c.args.source.now.count None c.args.other.now move in
    move_is s f from to c.args.source.now c.args.source.now.dir c.args.source.now.count None c.args.other.now 0 0 _ known map none c.the_map_gives_the_refusal.ensures.refusal
    (within_counted s f from to c.args.source.now c.args.other.now map none same c.the_map_gives_the_figures.ensures.over c.args.source.now.dir c.args.source.now.count known c.paths_lead_to_inodes.ensures.in_one refl)
    (counted_as c.bitmap_blocks.result 0 0 (bitmap_blocks s.books.geom) 0 0 _ c.moving-figures.ensures (c.bitmap_blocks.ensures ∙ ap (λ (k : Geometry). bitmap_blocks k) c.geom.ensures) refl refl)

pub draft_within-requires-clause-moves : goal.draft_within-requires-clause-moves
draft_within-requires-clause-moves g c = λ told.
    let source = c.args.source.now in
    let m = c.requires.known told in
    let known = c.a_move_is_known.ensures.knows told m.0 m.1 source source.dir source.count None c.args.other.now m.2 in
    (known.name, may_rename (g.S.Blocks.state c.args.blocks.now) m.0 m.1 source c.args.other.now known)

pub returns-in-Err-clause-plans : goal.returns-in-Err-clause-plans
returns-in-Err-clause-plans g c = λ from to move.
    full_plan g.S.Blocks.tells g.S.Blocks.state c.calls_compose.ensures.rests (Rename from to) c.args.blocks.now (value_of c.moving-figures.result) c.in-Err.why c.requires.may.begin.going c.in-Err.ensures.refused
    (λ told f h. let a = weighed g (goal.at.returns-in-Err-clause-plans g c).After-moving-figures from to told (move told) f h in (a.accepted, a.figures))

-- the snapshots stay as they are
stays : (g : given.Over) (c : goal.In-Ok-draft_within g) → IsTrue g.S.Blocks.tells → StaysBeside c.in-Ok-draft_within.draft (g.S.Blocks.state c.draft_within.new.blocks)
stays g c = settled_stays g.S.Blocks.tells (g.S.Blocks.state c.args.blocks.now) (g.S.Blocks.state c.draft_within.new.blocks) c.args.shared.now c.in-Ok-draft_within.draft
    (looks_settle g.S.Blocks.tells g.S.Blocks.state c.calls_compose.ensures.rests c.args.blocks.now c.draft_within.new.blocks c.requires.may.begin.going c.in-Ok-draft_within.ensures.looks) c.requires.may c.in-Ok-draft_within.ensures.kept c.in-Ok-draft_within.ensures.leaves

pub returns-in-Ok-draft_within-clause-plans : goal.returns-in-Ok-draft_within-clause-plans
returns-in-Ok-draft_within-clause-plans g c = λ from to move.
    let s = g.S.Blocks.state c.args.blocks.now in
    let now = g.S.Blocks.state c.draft_within.new.blocks in
    let source = c.args.source.now in
    let fs = value_of c.moving-figures.result in
    let looks = c.in-Ok-draft_within.ensures.looks in
    let at = goal.at.returns-in-Ok-draft_within-clause-plans g c in
    looked_change g.S.Blocks.tells g.S.Blocks.state c.calls_compose.ensures.rests (Rename from to) c.args.blocks.now c.draft_within.new.blocks c.in-Ok-draft_within.draft fs.cost Stays c.requires.may.begin.going
    (λ told f h.
    let a = weighed g at.After-moving-figures from to told (move told) f h in
    planned_move s now f from to source source.dir source.count None c.args.other.now 1 0 0 fs [] c.in-Ok-draft_within.draft Stays a (c.in-Ok-draft_within.ensures.moves told a.known.name (may_rename s from to source c.args.other.now a.known)) (stays g at.In-Ok-draft_within told) c.in-Ok.ensures.room
    (omega arith) refl (omega arith) (λ enough. looks.books) (ap (λ (k : Bookkeeping). k.geom) looks.books) (no_growth s now.books f (Rename from to) (bitmap_blocks s.books.geom) 0 a.counted)
    c.a_move_is_mapped.ensures.rename c.the_map_gives_the_reply.ensures.reply c.alterations_add_up.ensures.price)
    looks

pub returns-in-Ok-draft_within-clause-made : goal.returns-in-Ok-draft_within-clause-made
returns-in-Ok-draft_within-clause-made g c =
    let s = g.S.Blocks.state c.args.blocks.now in
    let source = c.args.source.now in
    let looks = c.in-Ok-draft_within.ensures.looks in
    let now = g.S.Blocks.state c.draft_within.new.blocks in
    let settles = looks_settle g.S.Blocks.tells g.S.Blocks.state c.calls_compose.ensures.rests c.args.blocks.now c.draft_within.new.blocks c.requires.may.begin.going looks in
    move_made g.S.Blocks.tells s now c.in-Ok-draft_within.draft (value_of c.moving-figures.result) c.in-Ok-draft_within.ensures.draft
    (settled_sound g.S.Blocks.tells s now c.args.shared.now c.in-Ok-draft_within.draft settles c.requires.may c.in-Ok-draft_within.ensures.kept c.in-Ok-draft_within.ensures.leaves c.a_draft_that_leaves_snapshots_makes_its_tree.ensures.sound c.in-Ok-draft_within.ensures.draft)
    (ap (λ (b : Bookkeeping). b.running.weight) looks.books) (ap (λ (b : Bookkeeping). b.room) looks.books) c.in-Ok.ensures.room (same_files g.S.Blocks.tells false _ _ nothing_drafted looks)
    (λ told.
    let m = c.requires.known told in
    let known = c.a_move_is_known.ensures.knows told m.0 m.1 source source.dir source.count None c.args.other.now m.2 in
    (c.in-Ok-draft_within.ensures.moves told known.name (may_rename s m.0 m.1 source c.args.other.now known)).used)

pub returns-in-Err-draft_within-clause-plans : goal.returns-in-Err-draft_within-clause-plans
returns-in-Err-draft_within-clause-plans g c = λ from to move.
    cut_short g.S.Blocks.tells g.S.Blocks.state c.calls_compose.ensures.rests (Rename from to) c.args.blocks.now c.draft_within.new.blocks c.in-Err-draft_within.why c.refusal_of.result c.refusal_of.ensures c.requires.may.begin.going c.in-Err-draft_within.ensures.refused c.in-Err-draft_within.ensures.looks
