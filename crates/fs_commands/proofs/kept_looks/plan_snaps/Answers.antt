use Rattle.std.proofs.Common.{Ok, refl, ap, ◌∙◌}
use Rattle.lang_tree.specs.declared.command.Cmd.TheVariants.{Snaps}
use Rattle.lang_tree.specs.declared.command.Refusal.TheVariants.{NoMemory}
use Rattle.lang_tree.specs.declared.command.Reply.TheVariants.{Names}
use Rattle.fs_files.specs.declared.refusal.FileRefusal.TheVariants as file
use Rattle.fs_commands.specs.Known.{numbers_by_name}
use Rattle.fs_commands.proofs.numbered.Numbers.{names_are}
use Rattle.fs_commands.proofs.planning.Looking.{cut_short, no_look}
use Rattle.fs_commands.proofs.planning.Looks.{look_plan, snaps_looks}
use Rattle.fs_commands.proofs.kept_looks.plan_snaps.Goals as goal

pub returns-in-Ok-clause-plans : goal.returns-in-Ok-clause-plans
returns-in-Ok-clause-plans g c =
    let s = g.S.Blocks.state c.args.blocks.now in
    look_plan g.S.Blocks.tells g.S.Blocks.state c.calls_compose.ensures.rests g.met.S.Blocks.is_sound Snaps c.args.blocks.now c.args.blocks.now (Ok (Names c.from_names.result)) _ refl snaps_looks c.requires.may.begin.going
    (λ told f h. ap Names (c.from_names.ensures ∙ c.in-Ok.ensures ∙ names_are f.tree.snapshots (numbers_by_name c.args.known.now)
    (λ q. (c.requires.knows told).named q ∙ c.what_is_known_of_snapshots_is_so.ensures.named s.books.geom s.map f.tree q h.tree))) tt (no_look g.S.Blocks.tells s)

pub returns-in-Err-clause-plans : goal.returns-in-Err-clause-plans
returns-in-Err-clause-plans g c =
    cut_short g.S.Blocks.tells g.S.Blocks.state c.calls_compose.ensures.rests Snaps c.args.blocks.now c.args.blocks.now file.NoMemory NoMemory refl c.requires.may.begin.going tt (no_look g.S.Blocks.tells (g.S.Blocks.state c.args.blocks.now))
