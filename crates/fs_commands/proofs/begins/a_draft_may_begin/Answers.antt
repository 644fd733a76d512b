use Rattle.fs_files.specs.Shared.{is_kept}
use Rattle.fs_commands.proofs.begins.a_draft_may_begin.Goals as goal

pub returns : goal.returns
returns g c = λ counts may.
    let s = g.S.Blocks.state c.args.blocks.now in
    c.a_draft_begins.ensures.beside counts may.none_bare (λ told. c.sound_beside_what_is_kept.ensures.to s.books.geom s.map (is_kept counts) (may.kept told) (may.sound told))
