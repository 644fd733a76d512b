use Rattle.std.proofs.Common.{◌≤◌, List, ℕ, [], Bool, IsTrue, subst, arith}
use Rattle.std.proofs.lemmas.Bool.{false≢true}
use Rattle.layout_geometry.specs.Geometry.{Geometry, data_start}
use Rattle.engine_blocks.specs.Running.{HasNoBare}
use Rattle.engine_blocks.specs.State.{State}
use Rattle.engine_blocks.specs.Crashes.{IsTold}
use Rattle.fs_files.specs.Drafts.{begun_beside}
use Rattle.fs_files.specs.Shared.{is_kept}
use Rattle.fs_files.specs.Sound.{AreSoundBeside, IsDraftOf}
use Rattle.fs_files.proofs.frames.Begins.{begun_fits, begun_sound}
use Rattle.fs_files.proofs.laws.a_draft_begins.Goals as goal

begins : (tells : Bool) (s : State) (kept : List ℕ) → data_start s.books.geom ≤ s.books.geom.n → (IsTrue tells → IsTold s) → HasNoBare s.books.running
    → (IsTrue tells → AreSoundBeside s.books.geom (is_kept kept) s.map) → IsDraftOf tells s (begun_beside kept)
begins tells s kept room told none sound = record {
  fits = begun_fits s.books kept none;
  sound = λ t. begun_sound s kept room (told t) (sound t);
  content = λ b is. absurd (false≢true is);
}

pub returns-clause-draft : goal.returns-clause-draft
returns-clause-draft g c = λ none sound.
    let room = subst (λ (x : Geometry). data_start x ≤ x.n) c.geom.ensures (omega (arith, c.lawful.ensures.limits.data_room)) in
    let s = g.S.Blocks.state c.args.blocks.now in
    begins g.S.Blocks.tells s [] room (g.met.S.Blocks.is_told c.args.blocks.now) none sound

pub returns-clause-beside : goal.returns-clause-beside
returns-clause-beside g c = λ kept none sound.
    let room = subst (λ (x : Geometry). data_start x ≤ x.n) c.geom.ensures (omega (arith, c.lawful.ensures.limits.data_room)) in
    begins g.S.Blocks.tells (g.S.Blocks.state c.args.blocks.now) kept room (g.met.S.Blocks.is_told c.args.blocks.now) none sound
