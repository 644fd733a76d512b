use Rattle.std.proofs.Common.{false, ◌-◌, ap₂, length, sym, ap, ◌∙◌, arith, IsTrue, Ok, None, ℕ, List, ◌≡◌, refl}
use Rattle.std.proofs.lemmas.Option.{same_Some}
use Rattle.layout_geometry.specs.Geometry.{bitmap_blocks}
use Rattle.lang_tree.specs.declared.command.Cmd.TheVariants.{Truncate}
use Rattle.lang_tree.specs.Values.{value_of}
use Rattle.crash_stands.specs.Files.{FileNode}
use Rattle.fs_files.specs.declared.look.FileFacts.{FileFacts}
use Rattle.fs_session.specs.Sessions.{inodes, IsSession}
use Rattle.fs_commands.proofs.planning.Looking.{full_plan}
use Rattle.fs_commands.proofs.sizing.Reasons.{refusal_is}
use Rattle.fs_commands.proofs.Weighing.{is_weighed, figures_as}
use Rattle.fs_commands.proofs.sizes.truncate_over.Given as given
use Rattle.fs_inodes.specs.Lookups.{walk_on}
use Rattle.lang_tree.specs.Step.{Session}
use Rattle.lang_tree.specs.Conditions.{refusal}
use Rattle.std.proofs.lemmas.Bool.{le-ltb}
use Rattle.lang_tree.specs.Figures.{blocks_for}
use Rattle.lang_tree.specs.Sharing.{SharedPlaces, alone_from, shared_met}
use Rattle.fs_session.specs.Commands.{figures_on, places_of, shared_on}
use Rattle.fs_commands.specs.Figures.{kept_places}
use Rattle.fs_commands.proofs.counting.Met.{shared_here}
use Rattle.fs_commands.proofs.sizes.truncate_over.Goals as goal
use Rattle.fs_commands.proofs.sizes.truncate_over.Goals.{After-resize_figures-figures}

-- the tree accepts the command, and it is weighed by its figures
weighed : (g : given.Over) (c : goal.After-resize_figures-figures g) → (path : List (List ℕ)) → IsTrue g.S.Blocks.tells → walk_on (inodes (g.S.Blocks.state c.args.blocks.now)) 1 path ≡ Ok c.args.found.now.number → (f : Session) → IsSession (g.S.Blocks.state c.args.blocks.now) f
    → (refusal f.limit f.tree (Truncate path c.args.size) ≡ None) × (figures_on (g.S.Blocks.state c.args.blocks.now) f (Truncate path c.args.size) ≡ value_of c.resize_figures-figures.result)
weighed g c path told walk f h =
    let s = g.S.Blocks.state c.args.blocks.now in
    let k = c.a_file_is_at_its_path.ensures told f path c.args.found.now h (c.requires.file told) walk in
    let x = c.requires.file told in
    let kept = c.requires.kept told in
    let at = kept_places c.args.shared.now (places_of s c.args.found.now.number) in
    let size : c.args.found.now.facts.size ≡ length x.0.bytes = ap (λ (q : FileFacts). q.size) x.2 in
    let held : c.size_of.result ≡ length x.0.bytes = c.size_of.ensures ∙ omega (arith, size, k.most) in
    let here = shared_here s f path c.args.found.now.number c.args.shared.now (λ l i. c.counts_tell_what_is_shared.ensures.shared c.args.blocks.now f c.args.shared.now l i h (c.requires.may.begin.kept told)) k.leads in
    let accepted = refusal_is (inodes (g.S.Blocks.state c.args.blocks.now)) f path c.args.size c.the_map_gives_the_refusal.ensures.refusal c.args.found.now k false (le-ltb 1073741824 c.args.size c.requires.fits) in (
      accepted,
      figures_as s f (Truncate path c.args.size) _ (inodes s) _ f.limit.layout refl (c.bitmap_blocks-bitmap.ensures ∙ ap bitmap_blocks c.geom.ensures) (c.resize_figures-figures.ensures f.limit.layout (shared_on s f) (inodes s) path (c.size_of.ensures ∙ omega (arith, k.size, k.most))
          (λ more. kept.grows x.0 x.1 (omega (arith, more, c.size_of.ensures, k.most, size)) ∙ sym (ap₂ (λ (sh : SharedPlaces) (n : ℕ). shared_met sh n c.size_of.result c.args.size) here (k.size ∙ size) ∙ ap (λ lo. shared_met at (length x.0.bytes) lo c.args.size) held))
          (λ less. ap (λ n. blocks_for n - blocks_for c.args.size - c.args.kept) held ∙ kept.cuts x.0 x.1 (omega (arith, less, c.size_of.ensures, k.most, size))
          ∙ sym (ap₂ (λ (sh : SharedPlaces) (n : ℕ). alone_from sh (blocks_for c.args.size) (blocks_for n - blocks_for c.args.size)) here held))) k.map accepted,
    )

pub plan_size-requires-clause-file : goal.plan_size-requires-clause-file
plan_size-requires-clause-file g c = λ told. let x = c.requires.file told in (x.0, x.1, x.3)

pub returns-in-Err-clause-plans : goal.returns-in-Err-clause-plans
returns-in-Err-clause-plans g c = λ path walk.
    full_plan g.S.Blocks.tells g.S.Blocks.state c.calls_compose.ensures.rests (Truncate path c.args.size) c.args.blocks.now (value_of c.resize_figures-figures.result) c.in-Err.why c.requires.may.begin.going c.in-Err.ensures.refused
    (λ told f h. weighed g (goal.at.returns-in-Err-clause-plans g c).After-resize_figures-figures path told (walk told) f h)

pub returns-in-Ok-clause-plans : goal.returns-in-Ok-clause-plans
returns-in-Ok-clause-plans g c = λ path walk.
    c.plan_size.ensures.plans path (record {
      walk = walk;
      other = λ told x is same.
          let file = c.requires.file told in
          c.requires.other (same ∙ ap (λ (y : FileNode). length y.bytes) (same_Some x file.0 (sym is ∙ file.1)) ∙ sym (ap (λ (q : FileFacts). q.size) file.2));
      weighed = λ told f h.
          let a = weighed g (goal.at.returns-in-Ok-clause-plans g c).After-resize_figures-figures path told (walk told) f h in
          is_weighed (g.S.Blocks.state c.args.blocks.now) f (Truncate path c.args.size) (value_of c.resize_figures-figures.result) a.0 a.1 c.in-Ok.ensures.room;
    })
