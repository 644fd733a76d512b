-- Open tickets stay expected as the notes change.
use Rattle.std.proofs.Common.{◌≡◌, ℕ, ◌&&◌, ◌||◌, ◌==◌, Bool, true, false, List, [], ◌∷◌, refl, ◌∙◌, ap, arith}
use Rattle.std.proofs.lemmas.Bool.Decides.{nat_tests}
use Rattle.std.proofs.lemmas.Bool.{and_parts}
use Rattle.engine_notes.specs.declared.notes.Note.{Note}
use Rattle.engine_notes.specs.Notes.{Expected, is_expected, are_expected}
use Rattle.engine_checkpoint.specs.declared.pipeline.HomeWrite.{HomeWrite}
use Rattle.engine_checkpoint.specs.declared.pipeline.Pipeline.{Pipeline}
use Rattle.engine_checkpoint.specs.Agree.{OpenAreExpected, AreExpectedHome}

-- all that is expected by the first notes is so by the others
abbrev pub ExpectMore : List Note → List Note → Type 0
ExpectMore old new = (u : ℕ) → is_expected u old ≡ true → is_expected u new ≡ true

pub both : (p q : Bool) → p ≡ true → q ≡ true → (p && q) ≡ true
both true true e f = refl
both true false e f = f
both false q e f = e

pub are_more : (ts : List ℕ) (old new : List Note) → ExpectMore old new → are_expected ts old ≡ true → are_expected ts new ≡ true
are_more [] old new more e = refl
are_more (t ∷ ts) old new more e = let p = and_parts (is_expected t old) (are_expected ts old) e in both (is_expected t new) (are_expected ts new) (more t p.0) (are_more ts old new more p.1)

pub home_more : (home : List HomeWrite) (old new : List Note) → ExpectMore old new → AreExpectedHome home old → AreExpectedHome home new
home_more home old new more e k h is = more h.ticket (e k h is)

pub same_more : (old new : List Note) → ((u : ℕ) → is_expected u new ≡ is_expected u old) → ExpectMore old new
same_more old new same u e = same u ∙ e

-- the pipeline with other notes
pub expected_with : (v : Pipeline) (notes : Expected) → ExpectMore v.notes.notes notes.notes → OpenAreExpected v → OpenAreExpected (record v { notes = notes })
expected_with v notes more e = grind (arith, nat_tests, are_more, home_more)

-- a ticket that is expected from now on, and those that were
pub with_one : (t u : ℕ) (e : Bool) → (t == u) ≡ true → (t == u || e) ≡ true
with_one t u e same = ap (λ b. b || e) same

pub with_old : (w e : Bool) → e ≡ true → (w || e) ≡ true
with_old true e is = refl
with_old false e is = is
