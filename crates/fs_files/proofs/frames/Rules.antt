-- What holds of a draft besides its blocks, which each change of it leaves so: blocks put, taken, freed, and content written.
use Rattle.std.proofs.Common.{◌≡◌, ◌≢◌, ◌⊎◌, inl, inr, ℕ, ◌<◌, ◌≤◌, Bool, true, false, not, ◌&&◌, ◌||◌, if◌then◌else◌, List, [], ◌++◌, All, Option, Some, None, is_some, refl, sym, ap, subst, ◌∙◌, arith, ⊎_elim}
use Rattle.std.specs.List.{AllPairs}
use Rattle.std.proofs.lemmas.Bool.{cases_Bool, false≢true, or_left, or_right, or_cases, and_parts, cond-true, cond-false, and_right, false_from_ne_true}
use Rattle.std.proofs.lemmas.List.Kept.{AllPairs-filter}
use Rattle.std.proofs.Math.Bool.{or_assoc}
use Rattle.std.proofs.lemmas.Option.{none-some}
use Rattle.std.proofs.lemmas.Bool.Decides.{nat_tests}
use Rattle.base_types.specs.Seal.{Blocks}
use Rattle.base_types.specs.declared.words.Class.{Class}
use Rattle.layout_geometry.specs.Geometry.{IsGeometry, table_start, data_start}
use Rattle.engine_blocks.specs.Running.{has}
use Rattle.engine_blocks.specs.State.{Bookkeeping, IsReusable, MayBeTaken}
use Rattle.engine_blocks.specs.Puts.{IsData}
use Rattle.fs_files.specs.declared.changes.Changed.{Changed}
use Rattle.fs_files.specs.Content.{WritesContent}
use Rattle.fs_files.specs.Growing.{alone}
use Rattle.fs_files.specs.Shared.{is_kept}
use Rattle.fs_files.specs.Drafts.{DraftState, change_of, bytes_or, drafted, marks_of, is_meta, zeros_of, TakesBlocks, FreesBlocks}
use Rattle.fs_files.specs.Sound.{AreSoundBy, FitsBooks, IsSoundDraft, is_filled}
use Rattle.fs_files.proofs.frames.Frames.{SharesFiles}
use Rattle.fs_files.proofs.frames.Steps.{once_append}
use Rattle.fs_files.proofs.drafts.Lists.{has_alone, has_append, each_of}
use Rattle.fs_files.proofs.frames.Places.{all_of}

-- Where these blocks are live: marked are they and those that are kept, a draft's changes lie in live ones and in none that is kept, no freed block has any, and each freed one was marked or taken, once.
pub record HasRules (k : Bookkeeping) (live : ℕ → Bool) (d : DraftState) : Type 0 where
  pub bits : (b : ℕ) → data_start k.geom ≤ b → b < k.geom.n → marks_of d k.marked b ≡ (live b || is_kept d.kept b)
  pub untouched : (b : ℕ) → is_kept d.kept b ≡ true → IsData k.geom b × (k.marked b ≡ true) × (is_filled d b ≡ false)
  pub changed : (b : ℕ) (c : Changed) → change_of d.changed b ≡ Some c → data_start k.geom ≤ b → live b ≡ true
  pub fresh : (b : ℕ) (c : Changed) → change_of d.fresh b ≡ Some c → has d.freed b ≡ false
  pub apart : (b : ℕ) → is_some (change_of d.fresh b) ≡ true → change_of d.changed b ≡ None
  pub freed : All (λ b. (has d.taken b || k.marked b) ≡ true) d.freed
  pub once : AllPairs (λ a b. a ≢ b) d.freed

pub rules_of : (k : Bookkeeping) (m : Blocks) (d : DraftState) (is : IsSoundDraft k m d) → HasRules k is.live d
rules_of k m d is = record { bits = is.bits; untouched = is.untouched; changed = is.changed; fresh = is.fresh; apart = is.apart; freed = is.freed; once = is.once }

pub sound_from : (k : Bookkeeping) (live : ℕ → Bool) (m : Blocks) (d : DraftState) → HasRules k live d → AreSoundBy k.geom live (drafted d m) → SharesFiles k.geom (is_kept d.kept) (drafted d m) → IsSoundDraft k m d
sound_from k live m d rules blocks shared =
    record { live = live; blocks = blocks; bits = rules.bits; untouched = rules.untouched; shared = shared; changed = rules.changed; fresh = rules.fresh; apart = rules.apart; freed = rules.freed; once = rules.once }

some_of : {A : Type 0} (o : Option A) → is_some o ≡ true → (x : A) × (o ≡ Some x)
some_of o e = grind (arith, nat_tests)

pub none_of : {A : Type 0} (o : Option A) → ((x : A) → o ≡ Some x → ⊥) → o ≡ None
none_of o e = grind (arith, nat_tests)

-- a choice is the one or the other

-- what the marks of a draft say

marked_parts : (freed taken marked : Bool) → (not freed && (taken || marked)) ≡ true → (freed ≡ false) × ((taken || marked) ≡ true)
marked_parts freed taken marked e = grind (arith, nat_tests)

-- a changed block isn't kept
pub changed_alone : (k : Bookkeeping) (live : ℕ → Bool) (d : DraftState) (b : ℕ) (c : Changed) → HasRules k live d → change_of d.changed b ≡ Some c → is_kept d.kept b ≡ false
changed_alone k live d b c rules is = false_from_ne_true (is_kept d.kept b) (λ kept. false≢true (sym (rules.untouched b kept).2
    ∙ or_right (has d.freed b) (is_some (change_of d.changed b) || is_some (change_of d.fresh b)) (or_left (is_some (change_of d.changed b)) (is_some (change_of d.fresh b)) (ap is_some is))))

-- a kept block doesn't become live, nor does it cease to be marked where it isn't live any more
pub rules_with : (k : Bookkeeping) (live now : ℕ → Bool) (d : DraftState) → ((b : ℕ) → (now b || is_kept d.kept b) ≡ (live b || is_kept d.kept b)) → HasRules k live d → HasRules k now d
rules_with k live now d same rules = record {
  bits = λ b low high. rules.bits b low high ∙ sym (same b);
  untouched = rules.untouched;
  changed = λ b c is low. still (live b) (now b) (is_kept d.kept b) (same b) (changed_alone k live d b c rules is) (rules.changed b c is low);
  fresh = rules.fresh;
  apart = rules.apart;
  freed = rules.freed;
  once = rules.once;
}
  where
    still : (was is kept : Bool) → (is || kept) ≡ (was || kept) → kept ≡ false → was ≡ true → is ≡ true
    still was is kept e h p = grind (arith, nat_tests)

-- Blocks freed.

module _ (k : Bookkeeping) (bs : List ℕ) (d e : DraftState) (frees : FreesBlocks bs d e) where
  freed_has : (b : ℕ) → has e.freed b ≡ (has d.freed b || has bs b)
  freed_has b = ap (λ fs. has fs b) frees.freed ∙ has_append d.freed bs b

  not_freed_some : (b : ℕ) (c : Changed) → change_of e.changed b ≡ Some c → (has bs b ≡ false) × (change_of d.changed b ≡ Some c)
  not_freed_some b c is = grind (arith, nat_tests, cond-true, cond-false)

  not_freed_fresh : (b : ℕ) (c : Changed) → change_of e.fresh b ≡ Some c → (has bs b ≡ false) × (change_of d.fresh b ≡ Some c)
  not_freed_fresh b c is = grind (arith, nat_tests, cond-true, cond-false)

  -- the blocks after it
  pub frees_others : (m : Blocks) (b : ℕ) → has bs b ≡ false → drafted e m b ≡ drafted d m b
  frees_others m b out = grind (arith, nat_tests, freed_has, cond-false)

  -- the marks after it
  pub frees_marks : (marked : ℕ → Bool) (b : ℕ) → marks_of e marked b ≡ (marks_of d marked b && not (has bs b))
  frees_marks marked b = grind (arith, nat_tests, freed_has)

  -- the draft still fits
  pub frees_fits : All (IsData k.geom) bs → FitsBooks k d → FitsBooks k e
  frees_fits inside fits = record {
    none_bare = fits.none_bare;
    changed = λ b c is. fits.changed b c (not_freed_some b c is).1;
    fresh = λ b c is. ap (λ ts. has ts b) frees.taken ∙ fits.fresh b c (not_freed_fresh b c is).1;
    taken = subst (MayBeTaken k.geom k.reusable) (sym frees.taken) fits.taken;
    filled = λ b is. filled b (fits.filled b (sym (ap (λ ts. has ts b) frees.taken) ∙ is)) (cases_Bool (has bs b));
    freed = subst (All (IsData k.geom)) (sym frees.freed) (all_of (IsData k.geom) (d.freed ++ bs) (λ b is. data_of b (or_cases (has d.freed b) (has bs b) (sym (has_append d.freed bs b) ∙ is))));
  }
    where
      data_of : (b : ℕ) → (has d.freed b ≡ true) ⊎ (has bs b ≡ true) → IsData k.geom b
      data_of b (inl is) = each_of (IsData k.geom) d.freed fits.freed b is
      data_of b (inr is) = each_of (IsData k.geom) bs inside b is

      filled : (b : ℕ) → is_filled d b ≡ true → (has bs b ≡ true) ⊎ (has bs b ≡ false) → is_filled e b ≡ true
      filled b was (inl is) = or_left (has e.freed b) (is_some (change_of e.changed b) || is_some (change_of e.fresh b)) (freed_has b ∙ or_right (has d.freed b) (has bs b) is)
      filled b was (inr out) =
          let changed : change_of e.changed b ≡ change_of d.changed b = frees.changed b ∙ cond-false (has bs b) None (change_of d.changed b) out in
          let fresh : change_of e.fresh b ≡ change_of d.fresh b = frees.fresh b ∙ cond-false (has bs b) None (change_of d.fresh b) out in
          let freed : has e.freed b ≡ has d.freed b = freed_has b ∙ ap (λ t. has d.freed b || t) out ∙ false_last (has d.freed b) in
          (λ i. freed i || (is_some (changed i) || is_some (fresh i))) ∙ was
        where
          false_last : (x : Bool) → (x || false) ≡ x
          false_last true = refl
          false_last false = refl

  -- a block that isn't freed is filled as before
  pub frees_filled : (b : ℕ) → has bs b ≡ false → is_filled e b ≡ is_filled d b
  frees_filled b out = grind (arith, nat_tests, freed_has, cond-false)

  -- and has its rules, where what is freed are the blocks that aren't kept of live ones, once, that aren't live any more
  pub frees_rules : (live : ℕ → Bool) (gone : List ℕ) → bs ≡ alone (is_kept d.kept) gone → All (IsData k.geom) gone → All (λ b. live b ≡ true) gone → AllPairs (λ a b. a ≢ b) gone → HasRules k live d
      → HasRules k (λ b. live b && not (has gone b)) e
  frees_rules live gone these inside lives once rules = record {
    bits = λ b low high. frees_marks k.marked b
        ∙ parted (marks_of d k.marked b) (live b) (is_kept d.kept b) (has bs b) (has gone b) (rules.bits b low high) (freed b)
        ∙ ap (λ ks. (live b && not (has gone b)) || is_kept ks b) (sym frees.kept);
    untouched = λ b kept.
        let kept_d : is_kept d.kept b ≡ true = ap (λ ks. is_kept ks b) (sym frees.kept) ∙ kept in
        let was = rules.untouched b kept_d in
        (was.0, was.1, frees_filled b (freed b ∙ not_kept (has gone b) (is_kept d.kept b) kept_d) ∙ was.2);
    changed = λ b c is low.
        let was = not_freed_some b c is in
        stays (live b) (has gone b) (is_kept d.kept b) (has bs b) (freed b) was.0 (changed_alone k live d b c rules was.1) (rules.changed b c was.1 low);
    fresh = λ b c is. let was = not_freed_fresh b c is in freed_has b ∙ (λ i. rules.fresh b c was.1 i || was.0 i);
    apart = λ b some. let x = some_of (change_of e.fresh b) some in let was = not_freed_fresh b x.0 x.1 in
        frees.changed b ∙ cond-false (has bs b) None (change_of d.changed b) was.0 ∙ rules.apart b (ap is_some was.1);
    freed = subst (All (λ b. (has e.taken b || k.marked b) ≡ true)) (sym frees.freed)
        (all_of (λ b. (has e.taken b || k.marked b) ≡ true) (d.freed ++ bs) (λ b is. ap (λ ts. has ts b || k.marked b) frees.taken ∙ held b (or_cases (has d.freed b) (has bs b) (sym (has_append d.freed bs b) ∙ is))));
    once = subst (AllPairs (λ a b. a ≢ b)) (sym frees.freed) (once_append d.freed bs rules.once (subst (AllPairs (λ a b. a ≢ b)) (sym these) (AllPairs-filter (λ a b. a ≢ b) (λ b. not (is_kept d.kept b)) gone once))
        (λ b first second. false≢true (sym (parts b second).0 ∙ first)));
  }
    where
      freed : (b : ℕ) → has bs b ≡ (has gone b && not (is_kept d.kept b))
      freed b = ap (λ xs. has xs b) these ∙ has_alone (is_kept d.kept) gone b

      of_gone : (b : ℕ) → has bs b ≡ true → has gone b ≡ true
      of_gone b is = (and_parts (has gone b) (not (is_kept d.kept b)) (sym (freed b) ∙ is)).0

      parts : (b : ℕ) → has bs b ≡ true → (has d.freed b ≡ false) × ((has d.taken b || k.marked b) ≡ true)
      parts b is =
          let at = each_of (IsData k.geom) gone inside b (of_gone b is) in
          marked_parts (has d.freed b) (has d.taken b) (k.marked b) (rules.bits b at.from at.below ∙ or_left (live b) (is_kept d.kept b) (each_of (λ c. live c ≡ true) gone lives b (of_gone b is)))

      held : (b : ℕ) → (has d.freed b ≡ true) ⊎ (has bs b ≡ true) → (has d.taken b || k.marked b) ≡ true
      held b (inl is) = each_of (λ c. (has d.taken c || k.marked c) ≡ true) d.freed rules.freed b is
      held b (inr is) = (parts b is).1

      parted : (marks live kept freed gone : Bool) → marks ≡ (live || kept) → freed ≡ (gone && not kept) → (marks && not freed) ≡ ((live && not gone) || kept)
      parted marks live kept freed gone e h = grind (arith, nat_tests)

      not_kept : (gone kept : Bool) → kept ≡ true → (gone && not kept) ≡ false
      not_kept gone kept e = grind (arith, nat_tests)

      stays : (live gone kept freed : Bool) → freed ≡ (gone && not kept) → freed ≡ false → kept ≡ false → live ≡ true → (live && not gone) ≡ true
      stays live gone kept freed e h p q = grind (arith, nat_tests)

-- a draft that takes nothing has no new content in taken blocks
pub no_fresh : (k : Bookkeeping) (d : DraftState) → d.taken ≡ [] → FitsBooks k d → (b : ℕ) → change_of d.fresh b ≡ None
no_fresh k d none fits b = none_of (change_of d.fresh b) (λ c is. false≢true (sym (ap (λ ts. has ts b) none) ∙ fits.fresh b c is))

-- Blocks taken, with zeros in them.

module _ (k : Bookkeeping) (class : Class) (bs : List ℕ) (d e : DraftState) (takes : TakesBlocks class bs d e) (none : d.taken ≡ []) (free : MayBeTaken k.geom k.reusable bs) where
  taken_is : e.taken ≡ bs
  taken_is = takes.taken ∙ ap (λ ts. ts ++ bs) none

  -- what the changes of a block are: zeros in a taken one, and else as before
  takes_changed : (b : ℕ) (c : Changed) → change_of e.changed b ≡ Some c → (has bs b ≡ true) ⊎ (change_of d.changed b ≡ Some c)
  takes_changed b c is = grind (arith, nat_tests, cond-false)

  takes_fresh : (b : ℕ) (c : Changed) → change_of e.fresh b ≡ Some c → (has bs b ≡ true) ⊎ (change_of d.fresh b ≡ Some c)
  takes_fresh b c is = grind (arith, nat_tests, cond-false)

  -- a block that isn't taken is as before
  pub takes_others : (m : Blocks) (b : ℕ) → has bs b ≡ false → drafted e m b ≡ drafted d m b
  takes_others m b out = grind (arith, nat_tests, cond-false, and_right)

  -- the draft still fits
  pub takes_fits : IsGeometry k.geom → FitsBooks k d → FitsBooks k e
  takes_fits geom fits = record {
    none_bare = fits.none_bare;
    changed = λ b c is. inside b c (takes_changed b c is);
    fresh = λ b c is. ap (λ ts. has ts b) taken_is ∙ mine b c (takes_fresh b c is);
    taken = subst (MayBeTaken k.geom k.reusable) (sym taken_is) free;
    filled = λ b is. filled b (sym (ap (λ ts. has ts b) taken_is) ∙ is) (cases_Bool (is_meta class));
    freed = subst (All (IsData k.geom)) (sym takes.freed) fits.freed;
  }
    where
      inside : (b : ℕ) (c : Changed) → (has bs b ≡ true) ⊎ (change_of d.changed b ≡ Some c) → (table_start k.geom ≤ b) × (b < k.geom.n)
      inside b c (inl is) = let r = each_of (IsReusable k.geom k.reusable) bs free.each b is in (omega (arith, r.from), r.below)
      inside b c (inr was) = fits.changed b c was

      mine : (b : ℕ) (c : Changed) → (has bs b ≡ true) ⊎ (change_of d.fresh b ≡ Some c) → has bs b ≡ true
      mine b c (inl is) = is
      mine b c (inr was) = absurd (false≢true (sym (ap (λ ts. has ts b) none) ∙ fits.fresh b c was))

      filled : (b : ℕ) → has bs b ≡ true → (is_meta class ≡ true) ⊎ (is_meta class ≡ false) → is_filled e b ≡ true
      filled b is (inl meta) =
          let changed : change_of e.changed b ≡ Some (zeros_of class) = takes.changed b ∙ cond-true (is_meta class && has bs b) (Some (zeros_of class)) (change_of d.changed b) (λ i. meta i && is i) in
          or_right (has e.freed b) (is_some (change_of e.changed b) || is_some (change_of e.fresh b)) (or_left (is_some (change_of e.changed b)) (is_some (change_of e.fresh b)) (ap is_some changed))
      filled b is (inr content) =
          let fresh : change_of e.fresh b ≡ Some (zeros_of class) = takes.fresh b ∙ cond-true (not (is_meta class) && has bs b) (Some (zeros_of class)) (change_of d.fresh b) (λ i. not (content i) && is i) in
          or_right (has e.freed b) (is_some (change_of e.changed b) || is_some (change_of e.fresh b)) (or_right (is_some (change_of e.changed b)) (is_some (change_of e.fresh b)) (ap is_some fresh))

  module _ (live : ℕ → Bool) (unmarked : All (λ b. k.marked b ≡ false) bs) (rules : HasRules k live d) where
    -- a taken block wasn't freed, since it was neither taken nor marked
    pub taken_not_freed : (b : ℕ) → has bs b ≡ true → has d.freed b ≡ false
    taken_not_freed b is = ⊎_elim (λ freed. let held = each_of (λ c. (has d.taken c || k.marked c) ≡ true) d.freed rules.freed b freed in
        absurd (false≢true (sym (λ i. has (none i) b || each_of (λ c. k.marked c ≡ false) bs unmarked b is i) ∙ held)))
        (λ isnt. isnt)
        (cases_Bool (has d.freed b))

    -- it wasn't marked before
    pub takes_unmarked : (b : ℕ) → has bs b ≡ true → marks_of d k.marked b ≡ false
    takes_unmarked b is = (λ i. not (has d.freed b) && (has (none i) b || each_of (λ c. k.marked c ≡ false) bs unmarked b is i)) ∙ neither (has d.freed b)
      where
        neither : (x : Bool) → (not x && false) ≡ false
        neither true = refl
        neither false = refl

    -- the marks after it
    pub takes_marks : (b : ℕ) → marks_of e k.marked b ≡ (has bs b || marks_of d k.marked b)
    takes_marks b = grind (arith, nat_tests, taken_is, taken_not_freed)

    -- none of the blocks with new content is changed otherwise
    takes_apart : FitsBooks k d → (b : ℕ) → is_some (change_of e.fresh b) ≡ true → change_of e.changed b ≡ None
    takes_apart fits b some =
        let x = some_of (change_of e.fresh b) some in
        by (cases_Bool (not (is_meta class) && has bs b)) x.0 x.1
      where
        by : ((not (is_meta class) && has bs b) ≡ true) ⊎ ((not (is_meta class) && has bs b) ≡ false) → (c : Changed) → change_of e.fresh b ≡ Some c → change_of e.changed b ≡ None
        by (inl mine) c is =
            let parts = and_parts (not (is_meta class)) (has bs b) mine in
            let out : (is_meta class && has bs b) ≡ false = meta_out (is_meta class) (has bs b) parts.0 in
            takes.changed b ∙ cond-false (is_meta class && has bs b) (Some (zeros_of class)) (change_of d.changed b) out
            ∙ none_of (change_of d.changed b) (λ w was.
            let at = each_of (IsReusable k.geom k.reusable) bs free.each b parts.1 in
            false≢true (sym (takes_unmarked b parts.1) ∙ rules.bits b at.from at.below ∙ or_left (live b) (is_kept d.kept b) (rules.changed b w was at.from)))
          where
            meta_out : (t h : Bool) → not t ≡ true → (t && h) ≡ false
            meta_out true h e = absurd (false≢true e)
            meta_out false h e = refl
        by (inr other) c is =
            absurd (none-some c (sym (no_fresh k d none fits b) ∙ sym (cond-false (not (is_meta class) && has bs b) (Some (zeros_of class)) (change_of d.fresh b) other) ∙ sym (takes.fresh b) ∙ is))

    -- a kept block isn't taken
    takes_kept : (b : ℕ) → is_kept d.kept b ≡ true → has bs b ≡ false
    takes_kept b kept = false_from_ne_true (has bs b) (λ is. false≢true (sym (each_of (λ c. k.marked c ≡ false) bs unmarked b is) ∙ (rules.untouched b kept).1))

    takes_filled : (b : ℕ) → has bs b ≡ false → is_filled e b ≡ is_filled d b
    takes_filled b out = grind (arith, nat_tests, cond-false, and_right)

    -- and the draft has its rules
    pub takes_rules : FitsBooks k d → HasRules k (λ b. has bs b || live b) e
    takes_rules fits = record {
      bits = λ b low high. takes_marks b ∙ ap (λ t. has bs b || t) (rules.bits b low high) ∙ sym (or_assoc (has bs b) (live b) (is_kept d.kept b)) ∙ ap (λ ks. (has bs b || live b) || is_kept ks b) (sym takes.kept);
      untouched = λ b kept.
          let kept_d : is_kept d.kept b ≡ true = ap (λ ks. is_kept ks b) (sym takes.kept) ∙ kept in
          let was = rules.untouched b kept_d in
          (was.0, was.1, takes_filled b (takes_kept b kept_d) ∙ was.2);
      changed = λ b c is low. marked b c low (takes_changed b c is);
      fresh = λ b c is. ap (λ fs. has fs b) takes.freed ∙ kept b c (takes_fresh b c is);
      apart = takes_apart fits;
      freed = subst (All (λ b. (has e.taken b || k.marked b) ≡ true)) (sym takes.freed)
          (all_of (λ b. (has e.taken b || k.marked b) ≡ true) d.freed (λ b is. held b (each_of (λ c. (has d.taken c || k.marked c) ≡ true) d.freed rules.freed b is)));
      once = subst (AllPairs (λ a b. a ≢ b)) (sym takes.freed) rules.once;
    }
      where
        marked : (b : ℕ) (c : Changed) → data_start k.geom ≤ b → (has bs b ≡ true) ⊎ (change_of d.changed b ≡ Some c) → (has bs b || live b) ≡ true
        marked b c low (inl is) = or_left (has bs b) (live b) is
        marked b c low (inr was) = or_right (has bs b) (live b) (rules.changed b c was low)

        kept : (b : ℕ) (c : Changed) → (has bs b ≡ true) ⊎ (change_of d.fresh b ≡ Some c) → has d.freed b ≡ false
        kept b c (inl is) = taken_not_freed b is
        kept b c (inr was) = rules.fresh b c was

        held : (b : ℕ) → (has d.taken b || k.marked b) ≡ true → (has e.taken b || k.marked b) ≡ true
        held b was = or_right (has e.taken b) (k.marked b) (sym (λ i. has (none i) b || k.marked b) ∙ was)

-- A node got other places, with new blocks in the stead of kept ones: live are its places, and what was live but for those that it had.
pub renews_rules : (k : Bookkeeping) (live : ℕ → Bool) (had has_now more : List ℕ) (d : DraftState) → ((b : ℕ) → has had b ≡ true → live b ≡ true)
    → ((b : ℕ) → has has_now b ≡ true → (has had b ≡ true) ⊎ (has more b ≡ true))
    → ((b : ℕ) → has had b ≡ true → has has_now b ≡ false → is_kept d.kept b ≡ true)
    → ((b : ℕ) → has more b ≡ true → has has_now b ≡ true)
    → HasRules k (λ b. has more b || live b) d → HasRules k (λ b. has has_now b || (live b && not (has had b))) d
renews_rules k live had has_now more d lives either stays came rules =
    rules_with k (λ b. has more b || live b) (λ b. has has_now b || (live b && not (has had b))) d
    (λ b. same (live b) (has had b) (has has_now b) (has more b) (is_kept d.kept b) (lives b) (either b) (stays b) (came b)) rules
  where
    same : (live had now more kept : Bool) → (had ≡ true → live ≡ true) → (now ≡ true → (had ≡ true) ⊎ (more ≡ true)) → (had ≡ true → now ≡ false → kept ≡ true) → (more ≡ true → now ≡ true)
        → ((now || (live && not had)) || kept) ≡ ((more || live) || kept)
    same live had now more kept e h p q = grind (arith, nat_tests)

-- Content written into blocks that are live and not kept.

module _ (k : Bookkeeping) (class : Class) (bs : List ℕ) (d e : DraftState) (writes : WritesContent class bs d e) where
  -- a block that isn't written is as before, and so are the marks
  pub writes_others : (m : Blocks) (b : ℕ) → has bs b ≡ false → drafted e m b ≡ drafted d m b
  writes_others m b out = λ i. if has (writes.freed i) b then [] else bytes_or (bytes_or (m b) (writes.other_fresh b out i)) (writes.others b out i)

  pub writes_marks : (marked : ℕ → Bool) (b : ℕ) → marks_of e marked b ≡ marks_of d marked b
  writes_marks marked b = λ i. not (has (writes.freed i) b) && (has (writes.taken i) b || marked b)

  writes_changed : (b : ℕ) (c : Changed) → change_of e.changed b ≡ Some c → (has bs b ≡ true) ⊎ ((x : Changed) × (change_of d.changed b ≡ Some x))
  writes_changed b c is = grind (arith, nat_tests, some_of)

  writes_fresh : (b : ℕ) (c : Changed) → change_of e.fresh b ≡ Some c → (x : Changed) × (change_of d.fresh b ≡ Some x)
  writes_fresh b c is = some_of (change_of d.fresh b) (sym (writes.fresh_keys b) ∙ ap is_some is)

  -- the draft still fits
  pub writes_fits : IsGeometry k.geom → All (IsData k.geom) bs → FitsBooks k d → FitsBooks k e
  writes_fits geom inside fits = record {
    none_bare = fits.none_bare;
    changed = λ b c is. changed b (writes_changed b c is);
    fresh = λ b c is. let was = writes_fresh b c is in ap (λ ts. has ts b) writes.taken ∙ fits.fresh b was.0 was.1;
    taken = subst (MayBeTaken k.geom k.reusable) (sym writes.taken) fits.taken;
    filled = λ b is. filled b (or_cases (has d.freed b) (is_some (change_of d.changed b) || is_some (change_of d.fresh b)) (fits.filled b (sym (ap (λ ts. has ts b) writes.taken) ∙ is)));
    freed = subst (All (IsData k.geom)) (sym writes.freed) fits.freed;
  }
    where
      changed : (b : ℕ) → (has bs b ≡ true) ⊎ ((x : Changed) × (change_of d.changed b ≡ Some x)) → (table_start k.geom ≤ b) × (b < k.geom.n)
      changed b (inl mine) = let at = each_of (IsData k.geom) bs inside b mine in (omega (arith, at.from), at.below)
      changed b (inr was) = fits.changed b was.0 was.1

      rest : (b : ℕ) → (is_some (change_of d.changed b) ≡ true) ⊎ (is_some (change_of d.fresh b) ≡ true) → (is_some (change_of e.changed b) || is_some (change_of e.fresh b)) ≡ true
      rest b (inl was) = or_left (is_some (change_of e.changed b)) (is_some (change_of e.fresh b)) (writes.stays b was)
      rest b (inr was) = or_right (is_some (change_of e.changed b)) (is_some (change_of e.fresh b)) (writes.fresh_keys b ∙ was)

      filled : (b : ℕ) → (has d.freed b ≡ true) ⊎ ((is_some (change_of d.changed b) || is_some (change_of d.fresh b)) ≡ true) → is_filled e b ≡ true
      filled b (inl was) = or_left (has e.freed b) (is_some (change_of e.changed b) || is_some (change_of e.fresh b)) (ap (λ fs. has fs b) writes.freed ∙ was)
      filled b (inr was) =
          or_right (has e.freed b) (is_some (change_of e.changed b) || is_some (change_of e.fresh b)) (rest b (or_cases (is_some (change_of d.changed b)) (is_some (change_of d.fresh b)) was))

  writes_filled : (b : ℕ) → has bs b ≡ false → is_filled e b ≡ is_filled d b
  writes_filled b out = λ i. has (writes.freed i) b || (is_some (writes.others b out i) || is_some (writes.other_fresh b out i))

  -- and has its rules
  pub writes_rules : (live : ℕ → Bool) → All (λ b. live b ≡ true) bs → All (λ b. is_kept d.kept b ≡ false) bs → HasRules k live d → HasRules k live e
  writes_rules live lives away rules = record {
    bits = λ b low high. writes_marks k.marked b ∙ rules.bits b low high ∙ ap (λ ks. live b || is_kept ks b) (sym writes.kept);
    untouched = λ b kept.
        let kept_d : is_kept d.kept b ≡ true = ap (λ ks. is_kept ks b) (sym writes.kept) ∙ kept in
        let was = rules.untouched b kept_d in
        (was.0, was.1, writes_filled b (false_from_ne_true (has bs b) (λ is. false≢true (sym (each_of (λ c. is_kept d.kept c ≡ false) bs away b is) ∙ kept_d))) ∙ was.2);
    changed = λ b c is low. by b low (writes_changed b c is);
    fresh = λ b c is. let was = writes_fresh b c is in ap (λ fs. has fs b) writes.freed ∙ rules.fresh b was.0 was.1;
    apart = λ b some. let was : is_some (change_of d.fresh b) ≡ true = sym (writes.fresh_keys b) ∙ some in writes.apart b was ∙ rules.apart b was;
    freed = subst (All (λ b. (has e.taken b || k.marked b) ≡ true)) (sym writes.freed) (subst (λ ts. All (λ b. (has ts b || k.marked b) ≡ true) d.freed) (sym writes.taken) rules.freed);
    once = subst (AllPairs (λ a b. a ≢ b)) (sym writes.freed) rules.once;
  }
    where
      by : (b : ℕ) → data_start k.geom ≤ b → (has bs b ≡ true) ⊎ ((x : Changed) × (change_of d.changed b ≡ Some x)) → live b ≡ true
      by b low (inl mine) = each_of (λ c. live c ≡ true) bs lives b mine
      by b low (inr was) = rules.changed b was.0 was.1 low
