use Rattle.std.proofs.Common.{None, ap, length, ◌∙◌}
use Rattle.engine_blocks.specs.State.{Bookkeeping}
use Rattle.engine_store.specs.StoreOf.{state_of}
use Rattle.fs_check.specs.Whole.{fails_by}
use Rattle.cmd_session.specs.Shared.{drawn}
use Rattle.cmd_image.specs.Staying.{damage_stays, none_stays}
use Rattle.example_embedding.proofs.Mounting.{mounted_with, refused_so, stood_for, stood_size}
use Rattle.example_embedding.proofs.serving.serve_store.Goals as goal

pub returns-in-Ok-open-clause-answered : goal.returns-in-Ok-open-clause-answered
returns-in-Ok-open-clause-answered g c = λ told first on begins.
    let known = g.D.Disk.state in
    let tells = g.D.Disk.tells in
    let s = state_of known c.args.store in
    let tree = c.in-Ok-open.ensures.stands told in
    let looks = c.in-Ok-open.ensures.looks in
    record {
      geom = s.books.geom;
      tree = tree.0;
      blocks = stood_size tells first s on;
      stood = stood_for tells told first s on tree.0 tree.1;
      base = c.serve_files.ensures.base told ∙ (looks.crash told).base ∙ on.base told;
      mounted = length s.crash.log;
      keeps = c.serve_files.ensures.keeps told s.books.geom tree.0 (length s.crash.log) (c.in-Ok-open.ensures.serves told (λ x. drawn known x) s.books.geom s.map tree.0 (mounted_with tells told first s on begins) tree.1);
    }

pub returns-in_default-clause-refused : goal.returns-in_default-clause-refused
returns-in_default-clause-refused g c = λ first on. refused_so g.D.Disk.tells first _ _ (c.unopened.ensures.back first None on (λ t. tt) (λ t. tt))

pub returns-in-Err-clause-refused : goal.returns-in-Err-clause-refused
returns-in-Err-clause-refused g c = λ first on.
    let known = g.D.Disk.state in
    let s = state_of known c.args.store in
    let u = state_of known c.in-Err.store in
    let why = c.in-Err.why in
    let looks = c.in-Err.ensures.back in
    let geom = ap (λ (k : Bookkeeping). k.geom) looks.books in
    refused_so g.D.Disk.tells first _ _
    (c.unopened-in-Err.ensures.back first None (c.what_is_read_stays_mounted.ensures c.args.store c.in-Err.store first (fails_by why) on looks)
    (λ t. damage_stays s.books.geom u.books.geom s.map u.map why geom (looks.map t) (c.in-Err.ensures.damage t))
    (λ t. none_stays s.books.geom u.books.geom s.map u.map why geom (looks.map t) (c.in-Err.ensures.none t)))
