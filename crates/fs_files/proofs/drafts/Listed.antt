-- Changes of the blocks of a list, one by one.
use Rattle.std.proofs.Common.{◌≡◌, ℕ, ◌+◌, ◌-◌, ◌<◌, ◌≤◌, ◌==◌, Bool, true, false, not, cond, if◌then◌else◌, List, [], ◌∷◌, ◌++◌, length, take, drop, get_or, slice_get, Option, None, Some, sym, ap, subst, ◌∙◌, arith, append_assoc, length-append, length-drop, rules}
use Rattle.std.proofs.lemmas.List.{append-nil, take_more, get_or-drop}
use Rattle.std.proofs.lemmas.List.Elements.{filter-append}
use Rattle.std.proofs.lemmas.Option.{slice_get_within, get_or_from_slice_get}
use Rattle.std.specs.Prelude.{is_some}
use Rattle.std.proofs.lemmas.Bool.Decides.{same_from_decides, Decides-eqb, nat_tests}
use Rattle.base_types.specs.declared.words.Class.{Class}
use Rattle.engine_blocks.specs.Running.{has}
use Rattle.fs_files.specs.declared.changes.Changed.{Changed}
use Rattle.fs_files.specs.Drafts.{DraftState, change_of, zeros_of, FreesBlocks}
use Rattle.fs_files.specs.Growing.{alone}
use Rattle.fs_files.specs.Zeros.{HaveZeros}
use Rattle.fs_files.proofs.drafts.Lists.{has_push, has_append, merged}

at_most_one : (t : Bool) → cond t 0 1 ≤ 1
at_most_one t = grind (arith, nat_tests)

pub zeros_more : (class : Class) (xs : List ℕ) (b : ℕ) (old mid new : List (ℕ × Changed)) → HaveZeros class xs old mid
    → ((q : ℕ) → change_of new q ≡ cond (b == q) (Some (zeros_of class)) (change_of mid q))
    → length new ≡ length mid + cond (is_some (change_of mid b)) 0 1
    → HaveZeros class (xs ++ b ∷ []) old new
zeros_more class xs b old mid new h e n = search (rules, arith, merged, same_from_decides, Decides-eqb, has_push, at_most_one, length-append)

-- some are freed, and then others
pub frees_on : (xs ys : List ℕ) (d e f : DraftState) → FreesBlocks xs d e → FreesBlocks ys e f → FreesBlocks (xs ++ ys) d f
frees_on xs ys d e f a b = record {
  kept = b.kept ∙ a.kept;
  changed = λ q. both q (change_of d.changed q) (change_of e.changed q) (change_of f.changed q) (a.changed q) (b.changed q);
  fresh = λ q. both q (change_of d.fresh q) (change_of e.fresh q) (change_of f.fresh q) (a.fresh q) (b.fresh q);
  fresh_len = omega (arith, a.fresh_len, b.fresh_len);
  taken = b.taken ∙ a.taken;
  freed = b.freed ∙ ap (λ zs. zs ++ ys) a.freed ∙ append_assoc d.freed xs ys;
}
  where
    both : (q : ℕ) (x y z : Option Changed) → y ≡ cond (has xs q) None x → z ≡ cond (has ys q) None y → z ≡ cond (has (xs ++ ys) q) None x
    both q x y z m n = n ∙ ap (λ w. cond (has ys q) None w) m ∙ merged (has xs q) (has ys q) None x ∙ ap (λ t. cond t None x) (sym (has_append xs ys q))

-- one place more of a list from `count` on
next_place : (places : List ℕ) (count i b : ℕ) → count ≤ i → slice_get places i ≡ Some b → take (i + 1 - count) (drop count places) ≡ take (i - count) (drop count places) ++ b ∷ []
next_place places count i b from at =
    let within : i < length places = slice_get_within places i b at in
    let here : get_or (drop count places) (i - count) 0 ≡ b =
    get_or-drop count places (i - count) 0 ∙ ap (λ n. get_or places n 0) {x = count + (i - count)} {y = i} (omega (arith, from)) ∙ get_or_from_slice_get places i b 0 at in
    ap (λ n. take n (drop count places)) {x = i + 1 - count} {y = i - count + 1} (omega (arith, from))
    ∙ take_more (drop count places) (i - count) 0 (omega (arith, from, within, length-drop count places))
    ∙ ap (λ x. take (i - count) (drop count places) ++ x ∷ []) here

-- it is freed where it isn't kept
pub frees_next : (kept : ℕ → Bool) (places : List ℕ) (count i b : ℕ) (d e f : DraftState) → count ≤ i → slice_get places i ≡ Some b → kept b ≡ false
    → FreesBlocks (alone kept (take (i - count) (drop count places))) d e → FreesBlocks (b ∷ []) e f → FreesBlocks (alone kept (take (i + 1 - count) (drop count places))) d f
frees_next kept places count i b d e f from at out h k =
    let more : alone kept (take (i + 1 - count) (drop count places)) ≡ alone kept (take (i - count) (drop count places)) ++ b ∷ [] =
    ap (alone kept) (next_place places count i b from at) ∙ filter-append (λ c. not (kept c)) (take (i - count) (drop count places)) (b ∷ [])
    ∙ ap (λ t. alone kept (take (i - count) (drop count places)) ++ (if not t then b ∷ [] else [])) out in
    subst (λ xs. FreesBlocks xs d f) (sym more) (frees_on (alone kept (take (i - count) (drop count places))) (b ∷ []) d e f h k)

-- and else nothing is done
pub frees_past : (kept : ℕ → Bool) (places : List ℕ) (count i b : ℕ) (d e : DraftState) → count ≤ i → slice_get places i ≡ Some b → kept b ≡ true
    → FreesBlocks (alone kept (take (i - count) (drop count places))) d e → FreesBlocks (alone kept (take (i + 1 - count) (drop count places))) d e
frees_past kept places count i b d e from at mine h =
    let same : alone kept (take (i + 1 - count) (drop count places)) ≡ alone kept (take (i - count) (drop count places)) =
    ap (alone kept) (next_place places count i b from at) ∙ filter-append (λ c. not (kept c)) (take (i - count) (drop count places)) (b ∷ [])
    ∙ ap (λ t. alone kept (take (i - count) (drop count places)) ++ (if not t then b ∷ [] else [])) mine
    ∙ append-nil (alone kept (take (i - count) (drop count places))) in
    subst (λ xs. FreesBlocks xs d e) (sym same) h
