use Rattle.std.proofs.Common.{inl, ◌+◌, min, subst, ℕ, false, List, length, refl, sym, ap, ◌∙◌, arith, IsTrue, Ok, None, ◌≡◌}
use Rattle.layout_geometry.specs.Geometry.{bitmap_blocks}
use Rattle.lang_tree.specs.declared.command.Cmd.TheVariants.{Write}
use Rattle.lang_tree.specs.Values.{value_of}
use Rattle.fs_inodes.specs.Lookups.{walk_on}
use Rattle.fs_commands.proofs.planning.Looking.{full_plan}
use Rattle.fs_commands.proofs.writing.Reasons.{not_too_large, refusal_is}
use Rattle.fs_commands.proofs.Weighing.{is_weighed, figures_as}
use Rattle.fs_commands.proofs.bytes.write_over.Given as given
use Rattle.fs_session.specs.Sessions.{inodes, IsSession}
use Rattle.lang_tree.specs.Step.{Session}
use Rattle.lang_tree.specs.Conditions.{refusal}
use Rattle.fs_session.specs.Commands.{figures_on, shared_on}
use Rattle.fs_files.specs.declared.look.FileFacts.{FileFacts}
use Rattle.fs_commands.specs.Figures.{MeetsKept}
use Rattle.fs_commands.proofs.counting.Met.{meets_shared}
use Rattle.fs_commands.proofs.bytes.write_over.Goals as goal
use Rattle.fs_commands.proofs.bytes.write_over.Goals.{After-overwrite_figures-figures}

-- the tree accepts the command, and it is weighed by its figures
weighed : (g : given.Over) (c : goal.After-overwrite_figures-figures g) → (path : List (List ℕ)) → IsTrue g.S.Blocks.tells → walk_on (inodes (g.S.Blocks.state c.args.blocks.now)) 1 path ≡ Ok c.args.found.now.number → (f : Session) → IsSession (g.S.Blocks.state c.args.blocks.now) f
    → (refusal f.limit f.tree (Write path c.args.offset c.args.bytes.now) ≡ None) × (figures_on (g.S.Blocks.state c.args.blocks.now) f (Write path c.args.offset c.args.bytes.now) ≡ value_of c.overwrite_figures-figures.result)
weighed g c path told walk f h =
    let s = g.S.Blocks.state c.args.blocks.now in
    let x = c.requires.file told in
    let hi = c.args.offset + length c.args.bytes.now in
    let lo = min c.args.offset c.size_of.result in
    let k = c.a_file_is_at_its_path.ensures told f path c.args.found.now h (c.requires.file told) walk in
    let accepted = refusal_is (inodes (g.S.Blocks.state c.args.blocks.now)) f (Write path c.args.offset c.args.bytes.now) path c.args.offset (length c.args.bytes.now) c.the_map_gives_the_refusal.ensures.refusal (λ l least kept. refl) c.args.found.now k false (not_too_large c.args.offset (length c.args.bytes.now) c.requires.fits) in (
      accepted,
      figures_as s f (Write path c.args.offset c.args.bytes.now) _ (inodes s) _ f.limit.layout refl (c.bitmap_blocks-bitmap.ensures ∙ ap bitmap_blocks c.geom.ensures) (c.overwrite_figures-figures.ensures.write f.limit.layout (shared_on s f) (inodes s) path c.args.bytes.now (c.size_of.ensures ∙ omega (arith, k.size, k.most)) refl
          (meets_shared s f path c.args.found.now.number c.args.shared.now (λ k i. c.counts_tell_what_is_shared.ensures.shared c.args.blocks.now f c.args.shared.now k i h (c.requires.may.begin.kept told)) k.leads lo hi c.args.met x.0 x.1 (k.size ∙ ap (λ (q : FileFacts). q.size) x.2)
          (subst (λ n. MeetsKept s c.args.shared.now c.args.found.now.number n hi c.args.met) (sym (ap (min c.args.offset) c.size_of.ensures)) (c.requires.met told)))) k.map accepted,
    )

pub plan_bytes-requires-clause-file : goal.plan_bytes-requires-clause-file
plan_bytes-requires-clause-file g c = λ told. let x = c.requires.file told in (x.0, x.1, x.3)

pub returns-in-Err-clause-plans : goal.returns-in-Err-clause-plans
returns-in-Err-clause-plans g c = λ path walk.
    full_plan g.S.Blocks.tells g.S.Blocks.state c.calls_compose.ensures.rests (Write path c.args.offset c.args.bytes.now) c.args.blocks.now (value_of c.overwrite_figures-figures.result) c.in-Err.why c.requires.may.begin.going c.in-Err.ensures.refused
    (λ told f h. weighed g (goal.at.returns-in-Err-clause-plans g c).After-overwrite_figures-figures path told (walk told) f h)

pub returns-in-Ok-clause-plans : goal.returns-in-Ok-clause-plans
returns-in-Ok-clause-plans g c = λ path walk.
    c.plan_bytes.ensures.plans (Write path c.args.offset c.args.bytes.now) path (record {
      puts = inl refl;
      walk = walk;
      weighed = λ told f h.
          let a = weighed g (goal.at.returns-in-Ok-clause-plans g c).After-overwrite_figures-figures path told (walk told) f h in
          is_weighed (g.S.Blocks.state c.args.blocks.now) f (Write path c.args.offset c.args.bytes.now) (value_of c.overwrite_figures-figures.result) a.0 a.1 c.in-Ok.ensures.room;
    })
