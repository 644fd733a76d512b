-- Calls that look and calls that settle, one behind the other, where what a crash leaves composes.
use Rattle.std.proofs.Common.{◌≡◌, Bool, false, IsTrue, Result, arith}
use Rattle.std.specs.Prelude.{IfErr}
use Rattle.std.proofs.lemmas.Bool.Decides.{nat_tests}
use Rattle.engine_blocks.specs.State.{State}
use Rattle.engine_blocks.specs.Crashes.{IssuesNothing, Advances}
use Rattle.fs_files.specs.declared.refusal.FileRefusal.{FileRefusal}
use Rattle.fs_files.specs.Calls.{LookRefused}
use Rattle.fs_files.specs.Content.{fails_settling}
use Rattle.fs_files.specs.Effects.{LooksOnly, LooksAndSettles}
use Rattle.fs_files.proofs.effects.Settles.{looks_settle, settles_more}

module _ {A : Type 0} (st : A → State) (tells : Bool)
    (advances : (a b c : A) → Advances (st a) (st b) → Advances (st b) (st c) → Advances (st a) (st c))
    (rests : IsTrue tells → (a b : A) → (st b).books.point ≡ (st a).books.point → (st b).books.floor ≡ (st a).books.floor → IssuesNothing (st a) (st b) → Advances (st a) (st b)) where
  -- a call that looks is one that settles
  pub looked : (failed : Bool) (a b : A) → (st a).books.stopped ≡ false → LooksOnly tells failed (st a) (st b) → LooksAndSettles tells failed false (st a) (st b)
  looked failed a b going k = grind (arith, nat_tests, looks_settle)

  -- a look, and then a call that settles
  pub looks_then : (rf f : Bool) (a b c : A) → (st a).books.stopped ≡ false → LooksOnly tells false (st a) (st b) → LooksAndSettles tells rf f (st b) (st c) → LooksAndSettles tells rf f (st a) (st c)
  looks_then rf f a b c going k h = grind (arith, nat_tests, settles_more, looked)

  -- a call that settles, and then a look
  pub then_looks : (rf : Bool) (a b c : A) → LooksAndSettles tells false false (st a) (st b) → LooksOnly tells rf (st b) (st c) → LooksAndSettles tells rf false (st a) (st c)
  then_looks rf a b c h k = grind (arith, nat_tests, settles_more, looked)

-- What a refusal that is passed on says.

-- what is done, or refused as a look, settles nothing
pub settles_none : {T : Type 0} (r : Result T FileRefusal) → IfErr r LookRefused → fails_settling r ≡ false
settles_none r e = grind (arith, nat_tests)
