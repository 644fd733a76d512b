use Rattle.std.proofs.Common.{◌≡◌, ◌≤◌, ◌%◌, sym, ap, subst, ◌∙◌, arith}
use Rattle.std.proofs.lemmas.Bool.{false≢true}
use Rattle.std.specs.Prelude.{is_some}
use Rattle.layout_geometry.specs.Geometry.{Geometry, data_start}
use Rattle.fs_files.proofs.frames.BeginsFreeing.{freeing_files, freeing_fits, freeing_none, freeing_places, freeing_sound}
use Rattle.fs_files.proofs.laws.a_draft_begins_with_frees.Goals as goal

pub returns-clause-draft : goal.returns-clause-draft
returns-clause-draft g c = λ kept bs d none sound apart inside frees.
    let s = g.S.Blocks.state c.args.blocks.now in
    let room = subst (λ (x : Geometry). data_start x ≤ x.n) c.geom.ensures (omega (arith, c.lawful.ensures.limits.data_room)) in
    let whole = subst (λ (x : Geometry). x.i % 4 ≡ 0) c.geom.ensures c.lawful.ensures.limits.whole_blocks in
    record {
      fits = freeing_fits s kept bs d none inside frees;
      sound = λ told. freeing_sound s kept bs d whole (apart told) inside frees room (g.met.S.Blocks.is_told c.args.blocks.now told) (sound told);
      content = λ b is. absurd (false≢true (ap is_some (sym (freeing_none kept bs d b frees).1) ∙ is));
    }

pub returns-clause-files : goal.returns-clause-files
returns-clause-files g c = λ kept bs d apart inside frees told k.
    let s = g.S.Blocks.state c.args.blocks.now in
    let whole = subst (λ (x : Geometry). x.i % 4 ≡ 0) c.geom.ensures c.lawful.ensures.limits.whole_blocks in
    (freeing_files s kept bs d whole (apart told) inside frees k, freeing_places s kept bs d whole (apart told) inside frees k)
