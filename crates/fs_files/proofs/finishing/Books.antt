-- What the changes of a draft leave of the bookkeeping.
use Rattle.std.proofs.Common.{◌≡◌, ℕ, zero, suc, ◌<◌, ◌==◌, Bool, true, false, cond, not, ◌&&◌, ◌||◌, List, [], ◌∷◌, length, get_or, All, Some, is_some, refl, ap, ◌∙◌, arith}
use Rattle.std.proofs.lemmas.Bool.{eq-eqb}
use Rattle.std.specs.Cmp.{unsigned_tied}
use Rattle.std.specs.Ordering.{nat_cmp}
use Rattle.std.specs.BTreeMap.{is_at}
use Rattle.std.proofs.lemmas.Bool.Decides.{nat_tests}
use Rattle.base_types.specs.declared.words.Class.{Class}
use Rattle.engine_blocks.specs.declared.role.Role.{Role}
use Rattle.engine_blocks.specs.declared.role.Role.TheVariants.{Untouched, Changed as ChangedRole}
use Rattle.engine_blocks.specs.Running.{Spare, is_bare, put_role, has, HasNoBare}
use Rattle.engine_blocks.specs.State.{Bookkeeping, after_put, after_take, after_free}
use Rattle.engine_blocks.specs.Puts.{after_frees}
use Rattle.fs_files.specs.declared.changes.Changed.{Changed}
use Rattle.fs_files.specs.Drafts.{DraftState, change_of, marks_of}
use Rattle.fs_files.specs.Sound.{is_filled}
use Rattle.fs_files.specs.Making.{put_class, after_changes, after_draft}

-- What no call changes.

pub changes_keep : {T : Type 0} (f : Bookkeeping → T) → ((k : Bookkeeping) (b : ℕ) (class : Class) → f (after_put k b class) ≡ f k) → (k : Bookkeeping) (fresh : Bool) (cs : List (ℕ × Changed)) → f (after_changes k fresh cs) ≡ f k
changes_keep f keeps k fresh [] = refl
changes_keep f keeps k fresh (c ∷ cs) = changes_keep f keeps (after_put k c.0 (put_class fresh c.1.class)) fresh cs ∙ keeps k c.0 (put_class fresh c.1.class)

pub frees_keep : {T : Type 0} (f : Bookkeeping → T) → ((k : Bookkeeping) (b : ℕ) → f (after_free k b) ≡ f k) → (k : Bookkeeping) (bs : List ℕ) → f (after_frees k bs) ≡ f k
frees_keep f keeps k [] = refl
frees_keep f keeps k (b ∷ bs) = frees_keep f keeps (after_free k b) bs ∙ keeps k b

-- what neither a take nor a put nor a free changes
pub draft_keeps : {T : Type 0} (f : Bookkeeping → T) → ((k : Bookkeeping) (bs : List ℕ) → f (after_take k bs) ≡ f k) → ((k : Bookkeeping) (b : ℕ) (class : Class) → f (after_put k b class) ≡ f k) → ((k : Bookkeeping) (b : ℕ) → f (after_free k b) ≡ f k)
    → (k : Bookkeeping) (d : DraftState) → f (after_draft k d) ≡ f k
draft_keeps f takes puts frees k d =
    frees_keep f frees (after_changes (after_changes (after_take k d.taken) true d.fresh) false d.changed) d.freed
    ∙ changes_keep f puts (after_changes (after_take k d.taken) true d.fresh) false d.changed
    ∙ changes_keep f puts (after_take k d.taken) true d.fresh
    ∙ takes k d.taken

-- the same bookkeeping with the running transaction and the numbers of another
abbrev pub with_parts : Bookkeeping → Bookkeeping → Bookkeeping
with_parts old k = record old { running = k.running; spare = k.spare; marked = k.marked; reusable = k.reusable }

put_same : (old k : Bookkeeping) (b : ℕ) (class : Class) → k ≡ with_parts old k → after_put k b class ≡ with_parts old (after_put k b class)
put_same old k b class e = ap {A = Bookkeeping} {B = Bookkeeping} (λ x. record x { running = (after_put k b class).running; spare = (after_put k b class).spare; marked = k.marked; reusable = k.reusable }) e

free_same : (old k : Bookkeeping) (b : ℕ) → k ≡ with_parts old k → after_free k b ≡ with_parts old (after_free k b)
free_same old k b e = ap {A = Bookkeeping} {B = Bookkeeping} (λ x. record x { running = (after_free k b).running; spare = (after_free k b).spare; marked = (after_free k b).marked; reusable = k.reusable }) e

changes_same : (old k : Bookkeeping) (fresh : Bool) (cs : List (ℕ × Changed)) → k ≡ with_parts old k → after_changes k fresh cs ≡ with_parts old (after_changes k fresh cs)
changes_same old k fresh [] e = e
changes_same old k fresh (c ∷ cs) e = changes_same old (after_put k c.0 (put_class fresh c.1.class)) fresh cs (put_same old k c.0 (put_class fresh c.1.class) e)

frees_same : (old k : Bookkeeping) (bs : List ℕ) → k ≡ with_parts old k → after_frees k bs ≡ with_parts old (after_frees k bs)
frees_same old k [] e = e
frees_same old k (b ∷ bs) e = frees_same old (after_free k b) bs (free_same old k b e)

pub draft_same : (k : Bookkeeping) (spare : Spare) (d : DraftState) → after_draft (record k { spare = spare }) d ≡ with_parts k (after_draft (record k { spare = spare }) d)
draft_same k spare d = grind (arith, nat_tests, frees_same, changes_same)

-- Marks.

clear_by : (t h m : Bool) → (not h && cond t false m) ≡ (not (t || h) && m)
clear_by t h m = grind (arith, nat_tests)

frees_marked : (k : Bookkeeping) (bs : List ℕ) (c : ℕ) → (after_frees k bs).marked c ≡ (not (has bs c) && k.marked c)
frees_marked k [] c = refl
frees_marked k (b ∷ bs) c = frees_marked (after_free k b) bs c ∙ clear_by (c == b) (has bs c) (k.marked c)

pub draft_marked : (k : Bookkeeping) (d : DraftState) (c : ℕ) → (after_draft k d).marked c ≡ marks_of d k.marked c
draft_marked k d c =
    let two = after_changes (after_take k d.taken) true d.fresh in
    frees_marked (after_changes two false d.changed) d.freed c
    ∙ ap (λ x. not (has d.freed c) && x) (changes_keep (λ l. l.marked c) (λ l b class. refl) two false d.changed ∙ changes_keep (λ l. l.marked c) (λ l b class. refl) (after_take k d.taken) true d.fresh)

pub draft_reusable : (k : Bookkeeping) (d : DraftState) (c : ℕ) → (after_draft k d).reusable c ≡ (not (has d.taken c) && k.reusable c)
draft_reusable k d c =
    let two = after_changes (after_take k d.taken) true d.fresh in
    frees_keep (λ l. l.reusable c) (λ l b. refl) (after_changes two false d.changed) d.freed
    ∙ changes_keep (λ l. l.reusable c) (λ l b class. refl) two false d.changed
    ∙ changes_keep (λ l. l.reusable c) (λ l b class. refl) (after_take k d.taken) true d.fresh

-- Keys.

pub key_is : (b q : ℕ) → is_at (nat_cmp b) q ≡ (b == q)
key_is b q = unsigned_tied b q

-- each entry is found under its key
pub key_there : (cs : List (ℕ × Changed)) (i : ℕ) (d : ℕ × Changed) → i < length cs → (c : Changed) × (change_of cs (get_or cs i d).0 ≡ Some c)
key_there [] i d low = absurd (omega (arith, low))
key_there (e ∷ cs) i d low = by i low (λ j l. key_there cs j d l)
  where
    later : (b : ℕ) → ((c : Changed) × (change_of cs b ≡ Some c)) → (t : Bool) → is_at (nat_cmp b) e.0 ≡ t → (c : Changed) × (change_of (e ∷ cs) b ≡ Some c)
    later b found true is = (e.1, ap (λ t. cond t (Some e.1) (change_of cs b)) is)
    later b found false is = (found.0, ap (λ t. cond t (Some e.1) (change_of cs b)) is ∙ found.1)

    by : (i : ℕ) → i < length (e ∷ cs) → ((j : ℕ) → j < length cs → (c : Changed) × (change_of cs (get_or cs j d).0 ≡ Some c)) → (c : Changed) × (change_of (e ∷ cs) (get_or (e ∷ cs) i d).0 ≡ Some c)
    by zero l rec = (e.1, ap (λ t. cond t (Some e.1) (change_of cs e.0)) (key_is e.0 e.0 ∙ eq-eqb e.0 e.0 refl))
    by (suc j) l rec = later (get_or cs j d).0 (rec j (omega (arith, l))) (is_at (nat_cmp (get_or cs j d).0) e.0) refl

-- what holds of each key that is found holds of each entry
pub by_keys : (P : ℕ → Type 0) (cs : List (ℕ × Changed)) → ((b : ℕ) (c : Changed) → change_of cs b ≡ Some c → P b) → All (λ (e : ℕ × Changed). P e.0) cs
by_keys P cs each i d low = let found = key_there cs i d low in each (get_or cs i d).0 found.0 found.1

-- Bare blocks.

put_fills : (class : Class) (r : Role) → is_bare (put_role class r) ≡ false
put_fills class r = grind (arith, nat_tests)

-- one that is bare after puts was so before, and nothing was put into it
changes_bare : (k : Bookkeeping) (fresh : Bool) (cs : List (ℕ × Changed)) (c : ℕ) → is_bare ((after_changes k fresh cs).running.roles c) ≡ true → (is_some (change_of cs c) ≡ false) × (is_bare (k.running.roles c) ≡ true)
changes_bare k fresh [] c is = (refl, is)
changes_bare k fresh (e ∷ cs) c is = grind (arith, nat_tests, put_fills, key_is, (changes_bare (after_put k e.0 (put_class fresh e.1.class)) fresh cs c is))

freed_bare : (t u : Bool) (r : Role) → is_bare (cond t Untouched (cond u ChangedRole r)) ≡ true → (t ≡ false) × (is_bare r ≡ true)
freed_bare t u r e = grind (arith, nat_tests)

frees_bare : (k : Bookkeeping) (bs : List ℕ) (c : ℕ) → is_bare ((after_frees k bs).running.roles c) ≡ true → (has bs c ≡ false) × (is_bare (k.running.roles c) ≡ true)
frees_bare k [] c is = (refl, is)
frees_bare k (b ∷ bs) c is = grind (arith, nat_tests, freed_bare, (frees_bare (after_free k b) bs c is))

pub draft_bare : (k : Bookkeeping) (d : DraftState) → HasNoBare k.running → ((b : ℕ) → has d.taken b ≡ true → is_filled d b ≡ true) → HasNoBare (after_draft k d).running
draft_bare k d none filled c = grind (arith, nat_tests, frees_bare, changes_bare)
