-- What the pieces of a write leave of a draft, one behind the other.
use Rattle.std.proofs.Common.{◌≡◌, ◌⊎◌, ℕ, Bool, true, false, ◌&&◌, ◌||◌, ◌==◌, if◌then◌else◌, List, [], ◌∷◌, length, Option, None, Some, is_some, inl, inr, refl, ap, ap₂, ◌∙◌, arith, rules}
use Rattle.std.specs.List.{All}
use Rattle.std.proofs.lemmas.Bool.Decides.{nat_tests}
use Rattle.std.proofs.lemmas.Bool.{or_left, or_right, or_cases, false_from_ne_true}
use Rattle.base_types.specs.Seal.{Blocks}
use Rattle.base_types.specs.declared.words.Class.{Class}
use Rattle.engine_blocks.specs.Running.{has}
use Rattle.fs_files.specs.declared.changes.Changed.{Changed}
use Rattle.fs_files.specs.Drafts.{DraftState, change_of, drafted, PutsBlock}
use Rattle.fs_files.specs.Content.{HasContent, HasNewBytes, WritesContent}

-- Tests.

-- a number is one of a list of one number only where it is that
pub has_one : (b q : ℕ) → has (b ∷ []) q ≡ true → q ≡ b
has_one b q e = grind (arith, nat_tests)

has_same : (b : ℕ) → (b == b) ≡ true
has_same b = grind (arith, nat_tests)

-- what isn't in a list isn't one of it
pub not_one : (bs : List ℕ) (b q : ℕ) → has bs b ≡ true → has bs q ≡ false → has (b ∷ []) q ≡ false
not_one bs b q in_it out = false_from_ne_true (has (b ∷ []) q) (λ e. let is : q ≡ b = has_one b q e in let clash : has bs q ≡ true = ap (has bs) is ∙ in_it in cc)

-- One put.

put_apart : (f t : Bool) (x : Option Changed) (c : Changed) → f ≡ true → (if f then x else if t then Some c else x) ≡ x
put_apart f t x c e = grind (arith, nat_tests)

-- it has new bytes then
pub put_new : (b : ℕ) (c : Changed) (d e : DraftState) → PutsBlock b c d e → HasNewBytes e
put_new b c d e puts = (b, by (is_some (change_of d.fresh b)) refl)
  where
    by : (f : Bool) → is_some (change_of d.fresh b) ≡ f → (is_some (change_of e.changed b) || is_some (change_of e.fresh b)) ≡ true
    by true some = or_right (is_some (change_of e.changed b)) (is_some (change_of e.fresh b)) (ap is_some (puts.fresh b ∙ ap₂ (λ s t. if s && t then Some c else change_of d.fresh b) some (has_same b)))
    by false none = or_left (is_some (change_of e.changed b)) (is_some (change_of e.fresh b)) (ap is_some (puts.changed b ∙ ap₂ (λ s t. if s then change_of d.changed b else if t then Some c else change_of d.changed b) none (has_same b)))

-- Several.

-- nothing was written
pub writes_none : (class : Class) (bs : List ℕ) (d : DraftState) → WritesContent class bs d d
writes_none class bs d = search (rules, arith)

-- one more of these blocks was written
pub writes_more : (class : Class) (bs : List ℕ) (b : ℕ) (d e f : DraftState) → WritesContent class bs d e → WritesContent class (b ∷ []) e f → has bs b ≡ true → WritesContent class bs d f
writes_more class bs b d e f first second in_it = record {
  kept = second.kept ∙ first.kept;
  others = λ q out. second.others q (not_one bs b q in_it out) ∙ first.others q out;
  other_fresh = λ q out. second.other_fresh q (not_one bs b q in_it out) ∙ first.other_fresh q out;
  keys = λ q some. key q (or_cases (has (b ∷ []) q) (is_some (change_of e.changed q)) (second.keys q some));
  stays = λ q some. second.stays q (first.stays q some);
  fresh_keys = λ q. second.fresh_keys q ∙ first.fresh_keys q;
  fresh_len = second.fresh_len ∙ first.fresh_len;
  taken = second.taken ∙ first.taken;
  freed = second.freed ∙ first.freed;
  apart = λ q some. second.apart q (first.fresh_keys q ∙ some) ∙ first.apart q some;
  class_changed = λ q o at. on (change_of e.changed q ≡ Some o) (change_of d.changed q ≡ Some o) (o.class ≡ class) (second.class_changed q o at) (first.class_changed q o);
  class_fresh = λ q o at. on (change_of e.fresh q ≡ Some o) (change_of d.fresh q ≡ Some o) (o.class ≡ class) (second.class_fresh q o at) (first.class_fresh q o);
}
  where
    key : (q : ℕ) → (has (b ∷ []) q ≡ true) ⊎ (is_some (change_of e.changed q) ≡ true) → (has bs q || is_some (change_of d.changed q)) ≡ true
    key q (inl one) = or_left (has bs q) (is_some (change_of d.changed q)) (ap (has bs) (has_one b q one) ∙ in_it)
    key q (inr some) = first.keys q some

    on : (A B C : Type 0) → C ⊎ A → (A → C ⊎ B) → C ⊎ B
    on A B C (inl x) go = inl x
    on A B C (inr x) go = go x

-- What writing keeps.

-- the other blocks are the same
pub drafted_kept : (m : Blocks) (class : Class) (bs : List ℕ) (d e : DraftState) (q : ℕ) → WritesContent class bs d e → has bs q ≡ false → drafted e m q ≡ drafted d m q
drafted_kept m class bs d e q writes out = grind (arith, nat_tests)

-- the places still have content, where they have 1,024 bytes
pub content_kept : (m : Blocks) (class : Class) (bs : List ℕ) (d e : DraftState) (ps : List ℕ) → HasContent m d ps → WritesContent class bs d e → All (λ b. length (drafted e m b) ≡ 1024) ps → HasContent m e ps
content_kept m class bs d e ps content writes whole = grind (arith, nat_tests)

-- a block that has bytes isn't freed
pub not_freed : (m : Blocks) (d : DraftState) (q : ℕ) → length (drafted d m q) ≡ 1024 → has d.freed q ≡ false
not_freed m d q size = grind (arith, nat_tests)

-- a block that was put has those bytes
pub put_drafted : (m : Blocks) (b : ℕ) (c : Changed) (d e : DraftState) → PutsBlock b c d e → has d.freed b ≡ false → (is_some (change_of d.fresh b) ≡ true → change_of d.changed b ≡ None) → drafted e m b ≡ c.bytes
put_drafted m b c d e puts kept apart = grind (arith, nat_tests, has_same, put_apart)

-- where the block has content, its bytes are those that were put
pub content_put : (m : Blocks) (b : ℕ) (c : Changed) (d e : DraftState) → HasContent m d (b ∷ []) → PutsBlock b c d e → drafted e m b ≡ c.bytes
content_put m b c d e content puts = put_drafted m b c d e puts (not_freed m d b (content.whole 0 0 (omega arith))) (content.apart 0 0 (omega arith))
