use Rattle.std.proofs.Common.{◌≡◌, ◌≤◌, [], ◌∷◌, None, Some, sym, subst, ap, ◌∙◌, arith}
use Rattle.layout_geometry.specs.Geometry.{Geometry}
use Rattle.lang_tree.specs.declared.command.Kind.{Kind}
use Rattle.lang_tree.specs.declared.command.Refusal.TheVariants.{IsDir}
use Rattle.lang_tree.specs.Conditions.{first_reason, when}
use Rattle.crash_stands.specs.Inodes.{ADir}
use Rattle.fs_inodes.specs.Lookups.{is_dir_inode}
use Rattle.fs_dirs.specs.Directories.{inodes_in}
use Rattle.fs_commands.specs.Removing.{lose_reason}
use Rattle.fs_session.specs.Sessions.{inodes}
use Rattle.fs_commands.proofs.looking.Found.{look_begins}
use Rattle.fs_commands.proofs.removing.root_refusal.Goals as goal

pub count_slots-requires : goal.count_slots-requires
count_slots-requires g c = look_begins g.S.Blocks.tells _ _ 1 c.beside-draft.ensures c.requires.begin (record { from = omega arith; upto = subst (λ (k : Geometry). 1 ≤ k.i) c.geom.ensures (omega (arith, c.lawful.ensures.limits.least_nodes)) }) c.a_draft_may_begin.ensures

pub returns-in-File-clause-reason : goal.returns-in-File-clause-reason
returns-in-File-clause-reason g c = λ told t h.
    let s = g.S.Blocks.state c.args.blocks.now in
    let root = (c.blocks_have_the_map_of_their_tree.ensures.map s.books.geom s.map t h).root in
    subst (λ (k : Kind). lose_reason k (inodes s) [] ≡ Some IsDir) (sym c.in-File.is) (ap (λ i. first_reason (None ∷ when (is_dir_inode i) IsDir ∷ [])) root.1)

pub returns-in_ok-count-in-Dir-clause-reason : goal.returns-in_ok-count-in-Dir-clause-reason
returns-in_ok-count-in-Dir-clause-reason g c = λ told t h.
    let s = g.S.Blocks.state c.args.blocks.now in
    let root = (c.blocks_have_the_map_of_their_tree.ensures.map s.books.geom s.map t h).root in
    subst (λ (k : Kind). lose_reason k (inodes s) [] ≡ Some c.root_refusal_by.result) (sym c.in-Dir.is)
    (c.root_refusal_by.ensures (inodes s) root.0 root.1 (c.in_ok-count-in-Dir.ensures.count told (ADir root.0) (ap (λ d. inodes_in s d 1) c.beside-draft.ensures ∙ root.1)))
