use Rattle.std.proofs.Common.{◌++◌, false, take, None, Err, refl, sym, subst, ap, ap₂, ◌∙◌, arith, IsTrue, ℕ, List, ◌≡◌}
use Rattle.fs_inodes.specs.Refusals.{rename_reason}
use Rattle.lang_tree.specs.Tree.{Bounds}
use Rattle.std.proofs.lemmas.Option.{same_Some}
use Rattle.layout_geometry.specs.Geometry.{Geometry, bitmap_blocks}
use Rattle.layout_extent.specs.Renew.{renew}
use Rattle.lang_tree.specs.declared.command.Cmd.TheVariants.{Rename}
use Rattle.lang_tree.specs.declared.command.Refusal.{Refusal}
use Rattle.lang_tree.specs.Figures.{Figures, growth, release}
use Rattle.lang_tree.specs.Values.{value_of}
use Rattle.engine_blocks.specs.Running.{Running}
use Rattle.engine_blocks.specs.State.{reusable_blocks}
use Rattle.fs_files.specs.Calls.{GrowthRefused, files_in}
use Rattle.fs_session.specs.Commands.{GrowsInRuns, IsCalm, figures_on, places_of, renewed_on}
use Rattle.fs_session.specs.Plans.{Plans, StaysBeside}
use Rattle.fs_session.specs.Sessions.{IsSession, inodes}
use Rattle.fs_commands.proofs.keeping.Looked.{settled_sound, settled_stays}
use Rattle.fs_commands.proofs.growing.Refused.{growth_refused, refused_alike}
use Rattle.fs_commands.proofs.moved.Planned.{across_counted, counted_as, grown_into, may_move_away, move_made, move_renews, move_stands, planned_move, MoveIs, move_is}
use Rattle.fs_session.specs.declared.unused.NodeUse.TheVariants.{Stays}
use Rattle.fs_commands.proofs.looking.Found.{settled_files}
use Rattle.fs_commands.proofs.planning.Looking.{growth_plan, full_plan}
use Rattle.fs_commands.proofs.moving.plan_across.Given as given
use Rattle.fs_commands.proofs.Given.{session_map}
use Rattle.fs_commands.specs.Moving.{IsMove}
use Rattle.lang_tree.specs.Step.{Session}
use Rattle.fs_files.specs.Drafts.{nothing_drafted}
use Rattle.fs_session.specs.Space.{HasRoom}
use Rattle.fs_commands.proofs.moving.plan_across.Goals as goal
use Rattle.fs_commands.proofs.moving.plan_across.Goals.{After-moving-figures, In-Ok-draft_across}
use Rattle.lang_tree.specs.Sharing.{none_shared}
use Rattle.fs_session.specs.NothingKept.{grows_unrenewed}

-- what is known of the rename, and that it is weighed by its figures
weighed : (g : given.Over) (c : goal.After-moving-figures g) (from to : List (List ℕ)) → IsTrue g.S.Blocks.tells → IsMove (g.S.Blocks.state c.args.blocks.now).books.geom.layout (files_in (g.S.Blocks.state c.args.blocks.now) nothing_drafted) from to c.args.source.now c.args.into c.args.count None c.args.other.now → (f : Session) → IsSession (g.S.Blocks.state c.args.blocks.now) f
    → MoveIs (g.S.Blocks.state c.args.blocks.now) f from to c.args.source.now c.args.into c.args.count None c.args.other.now (growth (g.S.Blocks.state c.args.blocks.now).books.geom.layout c.args.count) (release (g.S.Blocks.state c.args.blocks.now).books.geom.layout c.args.source.now.count) (value_of c.moving-figures.result)
weighed g c from to told move f h =
    let s = g.S.Blocks.state c.args.blocks.now in
    let map = session_map c.blocks_have_the_map_of_their_tree.ensures.map s f h in
    let same : f.limit.layout ≡ s.books.geom.layout = ap (λ (b : Bounds). b.layout) h.limit in
    let none = subst (λ l. rename_reason l (inodes s) from to ≡ None) (sym same) move.accepted in
    let known = c.a_move_is_known.ensures.knows told from to c.args.source.now c.args.into c.args.count None c.args.other.now move in
    move_is s f from to c.args.source.now c.args.into c.args.count None c.args.other.now (growth s.books.geom.layout c.args.count) (release s.books.geom.layout c.args.source.now.count) _ known map none c.the_map_gives_the_refusal.ensures.refusal
    (across_counted s f from to c.args.source.now c.args.other.now map none same c.the_map_gives_the_figures.ensures.over c.args.into c.args.count known c.paths_lead_to_inodes.ensures.in_one c.requires.apart)
    (counted_as c.bitmap_blocks.result c.growth.result c.release.result (bitmap_blocks s.books.geom) (growth s.books.geom.layout c.args.count) (release s.books.geom.layout c.args.source.now.count) _ c.moving-figures.ensures
    (c.bitmap_blocks.ensures ∙ ap (λ (k : Geometry). bitmap_blocks k) c.geom-geom.ensures) (c.growth.ensures.value ∙ ap₂ growth (c.layout.ensures ∙ ap (λ (k : Geometry). k.layout) c.geom-geom.ensures) c.from.ensures) (c.release.ensures.value ∙ ap₂ release (c.layout-2.ensures ∙ ap (λ (k : Geometry). k.layout) c.geom-geom.ensures) c.from-2.ensures))

pub draft_across-requires-clause-moves : goal.draft_across-requires-clause-moves
draft_across-requires-clause-moves g c = λ told.
    let m = c.requires.known told in
    let known = c.a_move_is_known.ensures.knows told m.0 m.1 c.args.source.now c.args.into c.args.count None c.args.other.now m.2 in
    (known.name, may_move_away (g.S.Blocks.state c.args.blocks.now) m.0 m.1 c.args.source.now c.args.into c.args.count c.args.other.now c.requires.apart known)

pub returns-in-Err-clause-plans : goal.returns-in-Err-clause-plans
returns-in-Err-clause-plans g c = λ from to move.
    full_plan g.S.Blocks.tells g.S.Blocks.state c.calls_compose.ensures.rests (Rename from to) c.args.blocks.now (value_of c.moving-figures.result) c.in-Err.why c.requires.may.begin.going c.in-Err.ensures.refused
    (λ told f h. let a = weighed g (goal.at.returns-in-Err-clause-plans g c).After-moving-figures from to told (move told) f h in (a.accepted, a.figures))

-- the snapshots stay as they are
stays : (g : given.Over) (c : goal.In-Ok-draft_across g) → IsTrue g.S.Blocks.tells → StaysBeside c.in-Ok-draft_across.draft (g.S.Blocks.state c.draft_across.new.blocks)
stays g c = settled_stays g.S.Blocks.tells (g.S.Blocks.state c.args.blocks.now) (g.S.Blocks.state c.draft_across.new.blocks) c.args.shared.now c.in-Ok-draft_across.draft
    c.in-Ok-draft_across.ensures.settles c.requires.may c.in-Ok-draft_across.ensures.kept c.in-Ok-draft_across.ensures.leaves

pub returns-in-Ok-draft_across-clause-plans : goal.returns-in-Ok-draft_across-clause-plans
returns-in-Ok-draft_across-clause-plans g c = λ from to move.
    let s = g.S.Blocks.state c.args.blocks.now in
    let now = g.S.Blocks.state c.draft_across.new.blocks in
    let source = c.args.source.now in
    let fs = value_of c.moving-figures.result in
    let settles = c.in-Ok-draft_across.ensures.settles in
    let at = goal.at.returns-in-Ok-draft_across-clause-plans g c in
    let weighs = λ (told : IsTrue g.S.Blocks.tells). weighed g at.After-moving-figures from to told (move told) in
    record {
      is = λ told f h.
          let a = weighs told f h in
          let may = may_move_away s from to source c.args.into c.args.count c.args.other.now c.requires.apart a.known in
          let grows = c.in-Ok-draft_across.ensures.grows told a.known.name may in
          planned_move s now f from to source c.args.into c.args.count None c.args.other.now 5 (release s.books.geom.layout source.count) (growth s.books.geom.layout c.args.count) fs (take (growth s.books.geom.layout c.args.count) (reusable_blocks now.books)) c.in-Ok-draft_across.draft Stays a
          (c.in-Ok-draft_across.ensures.moves told a.known.name may) (stays g at.In-Ok-draft_across told) c.in-Ok.ensures.room
          (omega arith) refl grows.enough (c.in-Ok-draft_across.ensures.rests told a.known.name may) settles.pipeline.geom
          (λ k some grown. grows_unrenewed s f (Rename from to) (move_renews s f from to) now.books k _ (subst (λ n. GrowsInRuns none_shared s now.books k n) (sym (ap (λ (n : Figures). n.need) a.counted))
          (subst (λ l. GrowsInRuns none_shared s now.books l (growth s.books.geom.layout c.args.count)) (same_Some c.args.into k (sym (grown_into s from to source.dir c.args.into a.known.name c.args.other.now a.known.paths) ∙ grown)) grows)))
          c.a_move_is_mapped.ensures.rename c.the_map_gives_the_reply.ensures.reply c.alterations_add_up.ensures.price;
      going = c.requires.may.begin.going;
      quiet = λ told f h.
          let a = weighs told f h in
          subst (λ n. IsCalm n s now) (sym (ap (λ (n : Figures). n.need) a.counted)) (c.in-Ok-draft_across.ensures.quiet told a.known.name (may_move_away s from to source c.args.into c.args.count c.args.other.now c.requires.apart a.known));
      settles = settles;
    }

pub returns-in-Ok-draft_across-clause-made : goal.returns-in-Ok-draft_across-clause-made
returns-in-Ok-draft_across-clause-made g c =
    let s = g.S.Blocks.state c.args.blocks.now in
    let source = c.args.source.now in
    let pipeline = c.in-Ok-draft_across.ensures.settles.pipeline in
    move_made g.S.Blocks.tells s (g.S.Blocks.state c.draft_across.new.blocks) c.in-Ok-draft_across.draft (value_of c.moving-figures.result) c.in-Ok-draft_across.ensures.draft
    (settled_sound g.S.Blocks.tells s (g.S.Blocks.state c.draft_across.new.blocks) c.args.shared.now c.in-Ok-draft_across.draft c.in-Ok-draft_across.ensures.settles c.requires.may c.in-Ok-draft_across.ensures.kept c.in-Ok-draft_across.ensures.leaves c.a_draft_that_leaves_snapshots_makes_its_tree.ensures.sound c.in-Ok-draft_across.ensures.draft)
    (ap (λ (r : Running). r.weight) pipeline.running) pipeline.room c.in-Ok.ensures.room (settled_files g.S.Blocks.tells false false _ _ c.in-Ok-draft_across.ensures.settles)
    (λ told.
    let m = c.requires.known told in
    let known = c.a_move_is_known.ensures.knows told m.0 m.1 source c.args.into c.args.count None c.args.other.now m.2 in
    (c.in-Ok-draft_across.ensures.moves told known.name (may_move_away s m.0 m.1 source c.args.into c.args.count c.args.other.now c.requires.apart known)).used)

pub returns-in-Err-draft_across-clause-plans : goal.returns-in-Err-draft_across-clause-plans
returns-in-Err-draft_across-clause-plans g c = λ from to move.
    let s = g.S.Blocks.state c.args.blocks.now in
    let now = g.S.Blocks.state c.draft_across.new.blocks in
    let source = c.args.source.now in
    let why = c.in-Err-draft_across.why in
    let weighs = λ (told : IsTrue g.S.Blocks.tells). weighed g (goal.at.returns-in-Err-draft_across-clause-plans g c).After-moving-figures from to told (move told) in
    subst (λ (w : Refusal). Plans g.S.Blocks.tells (Rename from to) (Err w) s now) (sym c.refusal_of.ensures)
    (growth_plan g.S.Blocks.tells (Rename from to) s now why c.requires.may.begin.going
    (λ told f h.
    let a = weighs told f h in
    growth_refused s now f (Rename from to) c.args.into (g.met.S.Blocks.is_sound c.draft_across.new.blocks) c.in-Err-draft_across.ensures.settles.pipeline c.a_disk_is_small.ensures.disk a.accepted (subst (λ (n : Figures). HasRoom s.books n) (sym a.figures) c.in-Ok.ensures.room)
    (grown_into s from to source.dir c.args.into a.known.name c.args.other.now a.known.paths) (c.a_disk_is_small.ensures.places told c.args.shared.now c.requires.may.begin c.args.into) why
    (refused_alike (figures_on s f (Rename from to)).need (λ more. places_of s c.args.into ++ more) (λ more. renew (renewed_on s f (Rename from to) c.args.into) 0 (places_of s c.args.into) more) s.books now.books (move_stands s f from to c.args.into) why
    (subst (λ n. GrowthRefused n (λ more. places_of s c.args.into ++ more) s.books now.books why) (sym (ap (λ (n : Figures). n.need) a.counted))
    (c.in-Err-draft_across.ensures.refused told a.known.name (may_move_away s from to source c.args.into c.args.count c.args.other.now c.requires.apart a.known)))))
    (λ told f h.
    let a = weighs told f h in
    subst (λ n. IsCalm n s now) (sym (ap (λ (n : Figures). n.need) a.counted)) (c.in-Err-draft_across.ensures.quiet told a.known.name (may_move_away s from to source c.args.into c.args.count c.args.other.now c.requires.apart a.known)))
    c.in-Err-draft_across.ensures.settles)
