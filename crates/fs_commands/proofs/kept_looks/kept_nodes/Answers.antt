use Rattle.std.proofs.Common.{◌≡◌, true, false, Some, IfOk, sym, subst, ap, ◌∙◌}
use Rattle.std.proofs.lemmas.Bool.{false≢true}
use Rattle.base_types.specs.Seal.{Blocks}
use Rattle.layout_geometry.specs.Geometry.{Geometry}
use Rattle.fs_dirs.specs.Directories.{IsNumber}
use Rattle.fs_files.specs.Content.{fails_reading}
use Rattle.fs_files.specs.Effects.{LooksOnly}
use Rattle.fs_files.specs.Places.{looks_more}
use Rattle.fs_snapshots.specs.Among.{used_number}
use Rattle.fs_snapshots.specs.Kept.{HasItsParts, IsWholeKept, KeptState}
use Rattle.fs_session.specs.Commands.{places_of}
use Rattle.fs_commands.specs.Refusals.{kept_refusal}
use Rattle.fs_commands.proofs.looking.Found.{look_begins}
use Rattle.fs_commands.proofs.snapped.Kept.{fails_alike, gone_stays, never_wrong, opened_places, places_parts, places_whole, still}
use Rattle.fs_commands.proofs.kept_looks.kept_nodes.Goals as goal

pub returns-then-not-is_in_table-clause-kept : goal.returns-then-not-is_in_table-clause-kept
returns-then-not-is_in_table-clause-kept g c = λ told.
    let s = g.S.Blocks.state c.args.blocks.now in
    let there = c.requires.snapshot told in
    let number = used_number s.books.geom s.map c.args.number there.0 there.1 in
    let limit : c.i.result ≡ s.books.geom.i = c.i.ensures ∙ ap (λ (x : Geometry). x.i) c.geom.ensures in
    absurd (false≢true (sym c.if-not-is_in_table.true ∙ c.is_in_table.ensures.1 (subst (λ n. IsNumber n c.args.number) (sym limit) (record { from = number.0; upto = number.1 }))))

pub open-requires : goal.open-requires
open-requires g c =
    let limit = c.i.ensures ∙ ap (λ (x : Geometry). x.i) c.geom.ensures in
    look_begins g.S.Blocks.tells (g.S.Blocks.state c.args.blocks.now) c.beside-draft.result c.args.number c.beside-draft.ensures c.requires.begin
    (subst (λ n. IsNumber n c.args.number) limit (c.is_in_table.ensures.0 c.if-not-is_in_table.false)) c.a_draft_may_begin.ensures

pub read-requires-clause-whole : goal.read-requires-clause-whole
read-requires-clause-whole g c = λ told.
    let s = g.S.Blocks.state c.args.blocks.now in
    let places = opened_places s c.beside-draft.result c.args.number c.in_ok-file.field-0 c.in-Some.file c.beside-draft.ensures c.in-Some.is (c.in_ok-file.ensures.places told) in
    (still g.S.Blocks.tells s (g.S.Blocks.state c.open.new.blocks) c.in_ok-file.ensures.looks (λ g m. IsWholeKept g m c.in-Some.file.blocks) told
    (places_whole s c.args.number c.in-Some.file.blocks places (c.requires.begin.sound told) c.a_sound_snapshot_is_whole.ensures.whole (c.requires.snapshot told))).own

pub returns-in-Ok-clause-may : goal.returns-in-Ok-clause-may
returns-in-Ok-clause-may g c =
    let s = g.S.Blocks.state c.args.blocks.now in
    let t = g.S.Blocks.state c.open.new.blocks in
    let u = g.S.Blocks.state c.read.new.blocks in
    record {
      gone = gone_stays g.S.Blocks.tells t u c.in-Ok.ensures.looks c.in-Ok.kept c.in-Ok.ensures.gone;
      whole = λ told.
          let places = opened_places s c.beside-draft.result c.args.number c.in_ok-file.field-0 c.in-Some.file c.beside-draft.ensures c.in-Some.is (c.in_ok-file.ensures.places told) in
          still g.S.Blocks.tells s u (looks_more g.S.Blocks.tells false s t u c.in_ok-file.ensures.looks c.in-Ok.ensures.looks) (λ g m. IsWholeKept g m c.in-Ok.kept.places) told
          (places_whole s c.args.number c.in-Ok.kept.places (c.in-Ok.ensures.places ∙ places) (c.requires.begin.sound told) c.a_sound_snapshot_is_whole.ensures.whole (c.requires.snapshot told));
    }

pub returns-in-Ok-clause-looks : goal.returns-in-Ok-clause-looks
returns-in-Ok-clause-looks g c =
    looks_more g.S.Blocks.tells false (g.S.Blocks.state c.args.blocks.now) (g.S.Blocks.state c.open.new.blocks) (g.S.Blocks.state c.read.new.blocks) c.in_ok-file.ensures.looks c.in-Ok.ensures.looks

pub returns-clause-kept : goal.returns-clause-kept
returns-clause-kept g c = λ told.
    let s = g.S.Blocks.state c.args.blocks.now in
    let t = g.S.Blocks.state c.open.new.blocks in
    let places = opened_places s c.beside-draft.result c.args.number c.in_ok-file.field-0 c.in-Some.file c.beside-draft.ensures c.in-Some.is (c.in_ok-file.ensures.places told) in
    subst (λ r. IfOk r (λ found. (x : KeptState) × (found ≡ Some x) × (x.places ≡ places_of s c.args.number))) (sym c.kept_refusal.ensures)
    (never_wrong c.in-Err.why _ (λ wrong. c.in-Err.ensures.wrong told wrong
    (still g.S.Blocks.tells s t c.in_ok-file.ensures.looks (λ g m. HasItsParts g m c.in-Some.file.blocks) told
    (places_parts s c.args.number c.in-Some.file.blocks places (c.requires.begin.sound told) c.a_sound_snapshot_is_whole.ensures.parts (c.requires.snapshot told)))))

pub returns-clause-looks : goal.returns-clause-looks
returns-clause-looks g c =
    looks_more g.S.Blocks.tells (fails_reading c.kept_refusal.result) (g.S.Blocks.state c.args.blocks.now) (g.S.Blocks.state c.open.new.blocks) (g.S.Blocks.state c.read.new.blocks) c.in_ok-file.ensures.looks
    (subst (λ b. LooksOnly g.S.Blocks.tells b (g.S.Blocks.state c.open.new.blocks) (g.S.Blocks.state c.read.new.blocks)) (fails_alike c.in-Err.why ∙ ap (λ r. fails_reading r) (sym c.kept_refusal.ensures)) c.in-Err.ensures.looks)
