use Rattle.std.proofs.Common.{◌≡◌, Ok, None, refl, sym, subst, ap, ◌∙◌, rules}
use Rattle.crash_stands.specs.Bounds.{bounds_of}
use Rattle.lang_tree.specs.declared.command.Cmd.TheVariants.{At}
use Rattle.lang_tree.specs.declared.command.Refusal.TheVariants.{NoSnap}
use Rattle.lang_tree.specs.Conditions.{at_refusal}
use Rattle.lang_tree.specs.Step.{look_command, session_on, step}
use Rattle.lang_tree.specs.Tree.{kept_tree, Bounds}
use Rattle.crash_stands.specs.Stands.{KeepsTree}
use Rattle.fs_files.specs.Calls.{places_of}
use Rattle.fs_commands.specs.Known.{number_in}
use Rattle.fs_commands.proofs.planning.Looking.{cut_short, no_look, refusal_plan}
use Rattle.fs_commands.proofs.planning.Looks.{look_plan, at_looks}
use Rattle.fs_commands.proofs.snapped.Answers.{keeps_there, named_is, none_named, one_named}
use Rattle.fs_commands.proofs.kept_looks.plan_at.Goals as goal

pub look_at_kept-requires-clause-snapshot : goal.look_at_kept-requires-clause-snapshot
look_at_kept-requires-clause-snapshot g c = λ told.
    let s = g.S.Blocks.state c.args.blocks.now in
    let t = c.requires.may.stands told in
    named_is s.books.geom s.map t.0 c.args.name.now t.1 c.what_is_known_of_snapshots_is_so.ensures.named c.in-Some.number (sym ((c.requires.knows told).named c.args.name.now) ∙ sym c.in-Some.ensures)

pub returns-in_default-clause-plans : goal.returns-in_default-clause-plans
returns-in_default-clause-plans g c =
    let s = g.S.Blocks.state c.args.blocks.now in
    let none : number_in c.args.known.now c.args.name.now ≡ None = search rules in
    refusal_plan g.S.Blocks.tells g.S.Blocks.state c.calls_compose.ensures.rests g.met.S.Blocks.is_sound (At c.args.name.now c.args.look.now) c.args.blocks.now c.args.blocks.now NoSnap c.requires.may.begin.going
    (λ told f h. ap (λ o. at_refusal o c.args.look.now) (none_named s.books.geom s.map f.tree c.args.name.now h.tree c.what_is_known_of_snapshots_is_so.ensures.named (sym ((c.requires.knows told).named c.args.name.now) ∙ none)))
    (no_look g.S.Blocks.tells s)

pub returns-in-Ok-clause-plans : goal.returns-in-Ok-clause-plans
returns-in-Ok-clause-plans g c =
    let s = g.S.Blocks.state c.args.blocks.now in
    let name = c.args.name.now in
    let look = c.args.look.now in
    look_plan g.S.Blocks.tells g.S.Blocks.state c.calls_compose.ensures.rests g.met.S.Blocks.is_sound (At name look) c.args.blocks.now c.look_at_kept.new.blocks (Ok c.in-Ok.reply) _ refl (at_looks name look) c.requires.may.begin.going
    (λ told f h.
    let r = one_named s.books.geom s.map f.tree name h.tree c.what_is_known_of_snapshots_is_so.ensures.named c.in-Some.number (sym ((c.requires.knows told).named name) ∙ sym c.in-Some.ensures) in
    c.in-Ok.ensures.answer told r.0 (session_on (bounds_of s.books.geom) (kept_tree r.0)) (subst (λ n. KeepsTree s.books.geom s.map (places_of s.books.geom s.map n) r.0) r.2 (keeps_there s.books.geom s.map f.tree name r.0 h.tree r.1)) refl
    ∙ ap (λ (b : Bounds). (step (session_on b (kept_tree r.0)) (look_command look)).1) (sym h.limit) ∙ sym (c.a_snapshot_keeps_its_tree.ensures.looks f name r.0 look r.1))
    tt c.in-Ok.ensures.looks

pub returns-in-Err-clause-plans : goal.returns-in-Err-clause-plans
returns-in-Err-clause-plans g c =
    cut_short g.S.Blocks.tells g.S.Blocks.state c.calls_compose.ensures.rests (At c.args.name.now c.args.look.now) c.args.blocks.now c.look_at_kept.new.blocks c.in-Err.why c.refusal_of.result c.refusal_of.ensures c.requires.may.begin.going c.in-Err.ensures.refused c.in-Err.ensures.looks
