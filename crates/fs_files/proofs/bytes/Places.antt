-- Content of lists of places that are joined or cut, and which places some bytes meet.
use Rattle.std.proofs.Common.{◌≡◌, ◌≢◌, ℕ, zero, suc, ◌*◌, ◌/◌, Bool, true, false, ◌==◌, ◌||◌, List, [], ◌∷◌, None, is_some, length, take, drop, replicate, get_or, refl, sym, ap, subst, ◌∙◌, arith}
use Rattle.std.specs.List.{AllPairs}
use Rattle.std.proofs.lemmas.List.{length-take, get_or-take}
use Rattle.std.proofs.lemmas.Bool.{eqb-true}
use Rattle.std.proofs.lemmas.List.Elements.{All-take}
use Rattle.std.proofs.lemmas.Bool.Decides.{nat_tests}
use Rattle.base_types.specs.Seal.{Blocks}
use Rattle.base_types.specs.declared.words.Class.{Class}
use Rattle.engine_blocks.specs.Running.{has}
use Rattle.crash_stands.specs.Files.{joined}
use Rattle.fs_files.specs.Bytes.{met, blocks_for}
use Rattle.fs_files.specs.Content.{HasContent}
use Rattle.fs_files.specs.Growing.{alone}
use Rattle.fs_files.specs.Drafts.{DraftState, change_of, drafted, TakesBlocks, FreesBlocks}
use Rattle.fs_files.proofs.drafts.Lists.{has_alone, has_append, each_of, in_front, in_rest}
use Rattle.fs_files.proofs.bytes.Joins.{joined_same, joined_take}
use Rattle.fs_files.proofs.frames.Places.{all_of}

-- Which places bytes meet.

-- they are places
pub met_in : (lo hi : ℕ) (ps : List ℕ) (q : ℕ) → has (met lo hi ps) q ≡ true → has ps q ≡ true
met_in lo hi ps q e = in_front (blocks_for hi) ps q (in_rest (lo / 1024) (take (blocks_for hi) ps) q e)

-- Lists of places.

pub pairs_take : (n : ℕ) (ps : List ℕ) → AllPairs (λ a b. a ≢ b) ps → AllPairs (λ a b. a ≢ b) (take n ps)
pairs_take n ps once = λ i j d l h. subst (λ x. x ≢ get_or (take n ps) j d) (sym (get_or-take n ps i d (omega (arith, h, length-take n ps)))) (subst (λ x. get_or ps i d ≢ x) (sym (get_or-take n ps j d (omega (arith, h, length-take n ps)))) (once i j d l (omega (arith, h, length-take n ps))))

-- Content.

-- the first places have content too
pub content_take : (m : Blocks) (d : DraftState) (n : ℕ) (ps : List ℕ) → HasContent m d ps → HasContent m d (take n ps)
content_take m d n ps content = record {
  whole = All-take (λ b. length (drafted d m b) ≡ 1024) n ps content.whole;
  once = pairs_take n ps content.once;
  apart = All-take (λ b. is_some (change_of d.fresh b) ≡ true → change_of d.changed b ≡ None) n ps content.apart;
}

-- a draft that has the same of these places
pub record IsSameAt (ps : List ℕ) (d e : DraftState) : Type 0 where
  pub changed : (q : ℕ) → has ps q ≡ true → change_of e.changed q ≡ change_of d.changed q
  pub fresh : (q : ℕ) → has ps q ≡ true → change_of e.fresh q ≡ change_of d.fresh q
  pub freed : (q : ℕ) → has ps q ≡ true → has e.freed q ≡ has d.freed q

pub drafted_same : (m : Blocks) (ps : List ℕ) (d e : DraftState) (q : ℕ) → IsSameAt ps d e → has ps q ≡ true → drafted e m q ≡ drafted d m q
drafted_same m ps d e q same in_it = grind (arith, nat_tests)

pub content_still : (m : Blocks) (ps : List ℕ) (d e : DraftState) → IsSameAt ps d e → HasContent m d ps → HasContent m e ps
content_still m ps d e same content = record {
  whole = all_of (λ b. length (drafted e m b) ≡ 1024) ps (λ q in_it. ap length (drafted_same m ps d e q same in_it) ∙ each_of (λ b. length (drafted d m b) ≡ 1024) ps content.whole q in_it);
  once = content.once;
  apart = all_of (λ b. is_some (change_of e.fresh b) ≡ true → change_of e.changed b ≡ None) ps (λ q in_it some.
      same.changed q in_it ∙ each_of (λ b. is_some (change_of d.fresh b) ≡ true → change_of d.changed b ≡ None) ps content.apart q in_it (sym (ap is_some (same.fresh q in_it)) ∙ some));
}

-- Growth.

-- new places, of which the draft had nothing
pub record AreNew (qs : List ℕ) (d : DraftState) : Type 0 where
  pub once : AllPairs (λ a b. a ≢ b) qs
  pub changed : (q : ℕ) → has qs q ≡ true → change_of d.changed q ≡ None
  pub fresh : (q : ℕ) → has qs q ≡ true → change_of d.fresh q ≡ None
  pub freed : (q : ℕ) → has qs q ≡ true → has d.freed q ≡ false

-- the places that were taken have zeros
pub taken_zeros : (m : Blocks) (class : Class) (qs : List ℕ) (d e : DraftState) (q : ℕ) → TakesBlocks class qs d e → AreNew qs d → has qs q ≡ true → drafted e m q ≡ replicate 1024 0
taken_zeros m class qs d e q takes new in_it = grind (arith, nat_tests)

-- Cuts.

pub rest_apart : (n : ℕ) (ps : List ℕ) (q : ℕ) → AllPairs (λ a b. a ≢ b) ps → has (take n ps) q ≡ true → has (drop n ps) q ≡ false
rest_apart zero ps q once in_it = absurd cc
rest_apart (suc n) [] q once in_it = absurd cc
rest_apart (suc n) (x ∷ xs) q once in_it = by (q == x) refl (rest_apart n xs q (λ i j d l h. once (suc i) (suc j) d (omega arith) (omega arith))) in_it
  where
    gone : q ≡ x → (t : Bool) → has (drop n xs) q ≡ t → has (drop n xs) q ≡ false
    gone is false e = e
    gone is true e = absurd (each_of (λ b. x ≢ b) xs (λ k d l. once zero (suc k) d (omega arith) (omega arith)) q (in_rest n xs q e) (sym is))

    by : (t : Bool) → (q == x) ≡ t → (has (take n xs) q ≡ true → has (drop n xs) q ≡ false) → (t || has (take n xs) q) ≡ true → has (drop n xs) q ≡ false
    by true is go e = gone (eqb-true q x is) (has (drop n xs) q) refl
    by false is go e = go e

-- the first places are as before where the ones behind them are freed but for those that are kept
pub freed_same : (kept : ℕ → Bool) (n : ℕ) (ps : List ℕ) (d e : DraftState) → AllPairs (λ a b. a ≢ b) ps → FreesBlocks (alone kept (drop n ps)) d e → IsSameAt (take n ps) d e
freed_same kept n ps d e once frees = grind (arith, nat_tests, rest_apart, has_append, has_alone)

-- they have content, and their bytes are the first ones
pub content_cut : (m : Blocks) (kept : ℕ → Bool) (n : ℕ) (ps : List ℕ) (d e : DraftState) → HasContent m d ps → FreesBlocks (alone kept (drop n ps)) d e → HasContent m e (take n ps)
content_cut m kept n ps d e content frees = content_still m (take n ps) d e (freed_same kept n ps d e content.once frees) (content_take m d n ps content)

pub bytes_cut : (m : Blocks) (kept : ℕ → Bool) (n : ℕ) (ps : List ℕ) (d e : DraftState) → HasContent m d ps → FreesBlocks (alone kept (drop n ps)) d e → joined (drafted e m) (take n ps) ≡ take (1024 * n) (joined (drafted d m) ps)
bytes_cut m kept n ps d e content frees =
    joined_same (drafted d m) (drafted e m) (take n ps) (all_of (λ b. drafted e m b ≡ drafted d m b) (take n ps) (λ q in_it. drafted_same m (take n ps) d e q (freed_same kept n ps d e content.once frees) in_it))
    ∙ joined_take (drafted d m) ps n content.whole
