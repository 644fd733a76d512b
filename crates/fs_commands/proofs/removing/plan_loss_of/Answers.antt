use Rattle.std.proofs.Common.{sym, subst, ap, ◌∙◌, IsTrue, ℕ, List}
use Rattle.layout_geometry.specs.Geometry.{Geometry, bitmap_blocks}
use Rattle.lang_tree.specs.Figures.{blocks_for}
use Rattle.lang_tree.specs.Tree.{Bounds}
use Rattle.lang_tree.specs.Values.{value_of}
use Rattle.fs_commands.specs.Figures.{AreFiguresOf}
use Rattle.fs_commands.specs.Removing.{lose_cmd, IsLoss}
use Rattle.fs_session.specs.Plans.{StaysBeside}
use Rattle.fs_session.specs.Sessions.{inodes, IsSession}
use Rattle.fs_commands.proofs.keeping.Looked.{looks_settle, settled_sound, settled_stays}
use Rattle.fs_commands.proofs.planning.Looking.{full_plan, looked_change, cut_short}
use Rattle.fs_commands.proofs.removed.Accepted.{law_of}
use Rattle.fs_commands.proofs.removed.Planned.{LossIs, loss_is, makes_loss, loss_made}
use Rattle.fs_commands.proofs.removing.plan_loss_of.Given as given
use Rattle.fs_commands.proofs.Given.{session_map}
use Rattle.lang_tree.specs.Step.{Session}
use Rattle.fs_session.specs.Commands.{shared_on}
use Rattle.fs_files.specs.declared.look.FileFacts.{FileFacts}
use Rattle.fs_files.specs.Calls.{files_in}
use Rattle.fs_files.specs.Drafts.{begun_beside, nothing_drafted}
use Rattle.fs_commands.proofs.removing.plan_loss_of.Goals as goal
use Rattle.fs_commands.proofs.removing.plan_loss_of.Goals.{After-loss_figures-figures, In-Ok-draft_loss}

-- what goes, and that the command is weighed by its figures
weighed : (g : given.Over) (c : goal.After-loss_figures-figures g) (path : List (List ℕ)) → IsTrue g.S.Blocks.tells → IsLoss c.args.kind (g.S.Blocks.state c.args.blocks.now).books.geom.layout (files_in (g.S.Blocks.state c.args.blocks.now) nothing_drafted) path c.args.named.now → (f : Session) → IsSession (g.S.Blocks.state c.args.blocks.now) f
    → LossIs c.args.kind (g.S.Blocks.state c.args.blocks.now) path c.args.named.now c.args.shared.now f (value_of c.loss_figures-figures.result)
weighed g c path told loss f h =
    let s = g.S.Blocks.state c.args.blocks.now in
    let n = c.args.named.now in
    let counts = c.args.shared.now in
    let known = c.what_goes_is_known.ensures told f.tree c.args.kind path n h.tree loss in
    let file = known.named.node in
    loss_is c.args.kind s path n counts c.args.gone f _ c.bitmap_blocks-bitmap.result known (session_map c.blocks_have_the_map_of_their_tree.ensures.map s f h) c.the_map_gives_the_refusal.ensures.refusal c.the_map_gives_the_figures.ensures.over
    (λ k i. c.counts_tell_what_is_shared.ensures.shared c.args.blocks.now f counts k i h (c.requires.may.begin.kept told)) (c.requires.gone told)
    (c.a_file_has_its_blocks.ensures c.args.blocks.now (begun_beside counts) n.entry.node.number file.file told (c.a_draft_may_begin.ensures counts c.requires.may.begin) file.is ∙ ap blocks_for (sym (ap (λ (q : FileFacts). q.size) file.facts)))
    (c.bitmap_blocks-bitmap.ensures ∙ ap (λ (k : Geometry). bitmap_blocks k) c.geom.ensures) (λ above gone. subst (λ l. AreFiguresOf l c.bitmap_blocks-bitmap.result (shared_on s f) (inodes s) (lose_cmd c.args.kind path) (value_of c.loss_figures-figures.result))
    (c.layout.ensures ∙ ap (λ (k : Geometry). k.layout) c.geom-2.ensures) (c.loss_figures-figures.ensures (shared_on s f) (inodes s) path above gone))
    (ap (λ (b : Bounds). b.layout) h.limit)

pub draft_loss-requires-clause-named : goal.draft_loss-requires-clause-named
draft_loss-requires-clause-named g c = λ told.
    let t = c.requires.may.stands told in
    let loss = c.requires.loss told in
    let known = c.what_goes_is_known.ensures told t.0 c.args.kind loss.0 c.args.named.now t.1 loss.1 in
    (known.name, known.named)

pub returns-in-Err-clause-plans : goal.returns-in-Err-clause-plans
returns-in-Err-clause-plans g c = λ path loss.
    full_plan g.S.Blocks.tells g.S.Blocks.state c.calls_compose.ensures.rests (lose_cmd c.args.kind path) c.args.blocks.now (value_of c.loss_figures-figures.result) c.in-Err.why c.requires.may.begin.going c.in-Err.ensures.refused
    (λ told f h. let a = weighed g (goal.at.returns-in-Err-clause-plans g c).After-loss_figures-figures path told (loss told) f h in (a.accepted, a.figures))

-- the snapshots stay as they are
stays : (g : given.Over) (c : goal.In-Ok-draft_loss g) → IsTrue g.S.Blocks.tells → StaysBeside c.in-Ok-draft_loss.draft (g.S.Blocks.state c.draft_loss.new.blocks)
stays g c = settled_stays g.S.Blocks.tells (g.S.Blocks.state c.args.blocks.now) (g.S.Blocks.state c.draft_loss.new.blocks) c.args.shared.now c.in-Ok-draft_loss.draft
    (looks_settle g.S.Blocks.tells g.S.Blocks.state c.calls_compose.ensures.rests c.args.blocks.now c.draft_loss.new.blocks c.requires.may.begin.going c.in-Ok-draft_loss.ensures.looks) c.requires.may c.in-Ok-draft_loss.ensures.kept c.in-Ok-draft_loss.ensures.leaves

pub returns-in-Ok-draft_loss-clause-plans : goal.returns-in-Ok-draft_loss-clause-plans
returns-in-Ok-draft_loss-clause-plans g c = λ path loss.
    let looks = c.in-Ok-draft_loss.ensures.looks in
    let at = goal.at.returns-in-Ok-draft_loss-clause-plans g c in
    looked_change g.S.Blocks.tells g.S.Blocks.state c.calls_compose.ensures.rests (lose_cmd c.args.kind path) c.args.blocks.now c.draft_loss.new.blocks c.in-Ok-draft_loss.draft (value_of c.loss_figures-figures.result).cost c.use_after.result c.requires.may.begin.going
    (λ told f h.
    let a = weighed g at.After-loss_figures-figures path told (loss told) f h in
    makes_loss c.args.kind (g.S.Blocks.state c.args.blocks.now) path c.args.named.now c.args.shared.now f _ a (g.S.Blocks.state c.draft_loss.new.blocks) c.in-Ok-draft_loss.draft c.in-Ok-draft_loss.ensures.kept (stays g at.In-Ok-draft_loss told) c.in-Ok.ensures.room
    (c.in-Ok-draft_loss.ensures.loses told a.known.name a.known.named)
    (law_of c.args.kind c.a_lost_path_is_mapped.ensures.unlink c.a_lost_path_is_mapped.ensures.rmdir) c.small_drafts_are_within_the_cost.ensures.removing looks.books)
    looks

pub returns-in-Ok-draft_loss-clause-made : goal.returns-in-Ok-draft_loss-clause-made
returns-in-Ok-draft_loss-clause-made g c =
    let s = g.S.Blocks.state c.args.blocks.now in
    let now = g.S.Blocks.state c.draft_loss.new.blocks in
    let n = c.args.named.now in
    let looks = c.in-Ok-draft_loss.ensures.looks in
    let settles = looks_settle g.S.Blocks.tells g.S.Blocks.state c.calls_compose.ensures.rests c.args.blocks.now c.draft_loss.new.blocks c.requires.may.begin.going looks in
    loss_made g.S.Blocks.tells s now c.in-Ok-draft_loss.draft n (value_of c.loss_figures-figures.result) c.use_after.result c.in-Ok-draft_loss.ensures.draft
    (settled_sound g.S.Blocks.tells s now c.args.shared.now c.in-Ok-draft_loss.draft settles c.requires.may c.in-Ok-draft_loss.ensures.kept c.in-Ok-draft_loss.ensures.leaves c.a_draft_that_leaves_snapshots_makes_its_tree.ensures.sound c.in-Ok-draft_loss.ensures.draft)
    looks c.in-Ok.ensures.room c.use_after.ensures
    (λ told.
    let t = c.requires.may.stands told in
    let loss = c.requires.loss told in
    let known = c.what_goes_is_known.ensures told t.0 c.args.kind loss.0 n t.1 loss.1 in
    (c.in-Ok-draft_loss.ensures.loses told known.name known.named).used)

pub returns-in-Err-draft_loss-clause-plans : goal.returns-in-Err-draft_loss-clause-plans
returns-in-Err-draft_loss-clause-plans g c = λ path loss.
    cut_short g.S.Blocks.tells g.S.Blocks.state c.calls_compose.ensures.rests (lose_cmd c.args.kind path) c.args.blocks.now c.draft_loss.new.blocks c.in-Err-draft_loss.why c.refusal_of.result c.refusal_of.ensures c.requires.may.begin.going c.in-Err-draft_loss.ensures.refused c.in-Err-draft_loss.ensures.looks
