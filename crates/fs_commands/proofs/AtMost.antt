-- A draft that changes no more than so much, and that it has no greater price than that.
use Rattle.std.proofs.Common.{◌+◌, ◌*◌, ◌≤◌, ℕ, List, min, length, sym, ap, ◌∙◌, arith}
use Rattle.std.proofs.Math.Bool.{or-false}
use Rattle.layout_geometry.specs.Geometry.{Geometry, bitmap_blocks}
use Rattle.engine_blocks.specs.Running.{has}
use Rattle.fs_files.specs.Calls.{ChangesAmong}
use Rattle.fs_files.specs.Drafts.{DraftState, nothing_drafted}
use Rattle.fs_files.specs.Finish.{ChangesOnly}
use Rattle.fs_dirs.specs.Changing.{Alters}
use Rattle.fs_session.specs.Changes.{ChangesAtMost, IsWithinCost}

-- what comes to an empty draft is all that it changes
pub only_these : (bs : List ℕ) (d : DraftState) → ChangesAmong bs nothing_drafted d → ChangesOnly bs d
only_these bs d among b some = sym (or-false (has bs b)) ∙ among b some

pub altered_few : (most frees : ℕ) (takes : List ℕ) (d : DraftState) → Alters most takes frees nothing_drafted d → ChangesAtMost d most 0 (length takes) frees
altered_few most frees takes d alters = record {
  blocks = alters.among.0;
  only = only_these alters.among.0 d alters.among.2;
  few_changed = alters.among.1;
  few_fresh = alters.fresh;
  few_taken = omega (arith, ap (λ (bs : List ℕ). length bs) alters.taken);
  few_freed = omega (arith, alters.freed);
  some = alters.some;
}

-- the price in numbers
at_most : (blocks fresh taken freed bitmap a b c e cost : ℕ) → blocks ≤ a → fresh ≤ b → taken ≤ c → freed ≤ e → 25 * a + b + (25 * min c bitmap + 25 * min e bitmap) ≤ cost
    → 25 * blocks + fresh + (25 * min taken bitmap + 25 * min freed bitmap) ≤ cost
at_most blocks fresh taken freed bitmap a b c e cost h i j k l = omega (arith, h, i, j, k, l)

pub within : (g : Geometry) (d : DraftState) (a b c e cost : ℕ) → ChangesAtMost d a b c e → 25 * a + b + (25 * min c (bitmap_blocks g) + 25 * min e (bitmap_blocks g)) ≤ cost → IsWithinCost g d cost
within g d a b c e cost most fits = record {
  blocks = most.blocks;
  only = most.only;
  price = at_most (length most.blocks) (length d.fresh) (length d.taken) (length d.freed) (bitmap_blocks g) a b c e cost most.few_changed most.few_fresh most.few_taken most.few_freed fits;
  some = λ costs. most.some;
}

-- what each kind of command costs
pub for_removing : (freed bitmap : ℕ) → 25 * 4 + 0 + (25 * min 0 bitmap + 25 * min freed bitmap) ≤ 25 * (4 + min freed bitmap)
for_removing freed bitmap = omega arith

pub for_writing : (met taken bitmap : ℕ) → 25 * (met + 1) + taken + (25 * min taken bitmap + 25 * min 0 bitmap) ≤ 25 * (met + (1 + min taken bitmap)) + taken
for_writing met taken bitmap = omega arith

pub for_shrinking : (freed bitmap : ℕ) → 25 * 1 + 0 + (25 * min 0 bitmap + 25 * min freed bitmap) ≤ 25 * (1 + min freed bitmap)
for_shrinking freed bitmap = omega arith
