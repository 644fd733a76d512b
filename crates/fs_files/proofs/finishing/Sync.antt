-- A sync may follow a draft once its price is weighed.
use Rattle.std.proofs.Common.{◌≡◌, ◌≢◌, ℕ, zero, suc, ◌+◌, ◌*◌, ◌<◌, ◌≤◌, ◌==◌, min, Bool, true, false, cond, ◌||◌, List, [], ◌∷◌, length, get_or, All, AllPairs, Option, Some, None, is_some, refl, sym, ap, subst, ◌∙◌, arith, ◌⊎◌, inl, inr}
use Rattle.std.proofs.lemmas.Bool.{cases_eq, eq-eqb, ne_eqb, false≢true, false_from_ne_true}
use Rattle.std.proofs.lemmas.Bool.Decides.{nat_tests}
use Rattle.base_types.specs.declared.words.Class.{Class}
use Rattle.base_types.specs.declared.words.Class.TheVariants.{Content}
use Rattle.layout_geometry.specs.Geometry.{bitmap_blocks, data_start}
use Rattle.engine_blocks.specs.declared.role.Role.{Role}
use Rattle.engine_blocks.specs.declared.role.Role.TheVariants.{Untouched, Changed as ChangedRole, Bare}
use Rattle.engine_blocks.specs.Running.{is_payload, is_fresh, is_bare, is_taken, has, has_bit, bit_block, put_role, payloads, fresh_blocks, count_roles}
use Rattle.engine_blocks.specs.State.{Bookkeeping, after_put, after_take, after_free, after_weigh}
use Rattle.engine_blocks.specs.Puts.{after_frees, IsData}
use Rattle.fs_files.specs.declared.changes.Changed.{Changed}
use Rattle.fs_files.specs.Drafts.{DraftState, change_of}
use Rattle.fs_files.specs.Sound.{FitsBooks}
use Rattle.fs_files.specs.Finish.{ChangesOnly, price, MayGoOn}
use Rattle.fs_files.specs.Making.{put_class, after_changes, after_draft}
use Rattle.fs_files.proofs.finishing.Few.{few}
use Rattle.fs_files.proofs.finishing.Counts.{some_pass}
use Rattle.fs_files.proofs.finishing.Books.{changes_keep, frees_keep, draft_keeps, key_is, key_there, by_keys, draft_bare}
use Rattle.fs_files.proofs.drafts.Lists.{none_of_table}

-- How a commit grows.

-- the weight of what a commit would have
abbrev pub commit_weight : Bookkeeping → ℕ
commit_weight k = 25 * payloads k.geom k.running + fresh_blocks k.geom k.running

-- each call adds so much at most
pub record Grows : Type 0 where
  pub put : (k : Bookkeeping) (b : ℕ) (class : Class) → commit_weight (after_put k b class) ≤ commit_weight k + 25
  pub fresh : (k : Bookkeeping) (b : ℕ) → is_taken (k.running.roles b) ≡ true → commit_weight (after_put k b Content) ≤ commit_weight k + 1
  pub take : (k : Bookkeeping) (bs : List ℕ) → All (λ b. b < k.geom.n) bs → commit_weight (after_take k bs) ≤ commit_weight k + 25 * min (length bs) (bitmap_blocks k.geom)
  pub frees : (k : Bookkeeping) (bs : List ℕ) → All (λ b. b < k.geom.n) bs → 25 * payloads k.geom (after_frees k bs).running + fresh_blocks k.geom (after_frees k bs).running ≤ commit_weight k + 25 * min (length bs) (bitmap_blocks k.geom)

changes_grow : Grows → (k : Bookkeeping) (cs : List (ℕ × Changed)) → commit_weight (after_changes k false cs) ≤ commit_weight k + 25 * length cs
changes_grow grows k [] = omega arith
changes_grow grows k (c ∷ cs) = omega (arith, changes_grow grows (after_put k c.0 c.1.class) cs, grows.put k c.0 c.1.class)

-- a block that was taken is so after a put of content into any
stays_taken : (k : Bookkeeping) (b c : ℕ) → is_taken (k.running.roles b) ≡ true → is_taken (k.running.roles c) ≡ true → is_taken ((after_put k b Content).running.roles c) ≡ true
stays_taken k b c here there = grind (arith, nat_tests)

content_grows : Grows → (k : Bookkeeping) (cs : List (ℕ × Changed)) → All (λ (e : ℕ × Changed). is_taken (k.running.roles e.0) ≡ true) cs → commit_weight (after_changes k true cs) ≤ commit_weight k + length cs
content_grows grows k [] all = omega arith
content_grows grows k (c ∷ cs) all =
    let first = all 0 c (omega arith) in
    omega (arith, grows.fresh k c.0 first, content_grows grows (after_put k c.0 Content) cs (λ i d low. stays_taken k c.0 (get_or cs i d).0 first (all (suc i) d (omega (arith, low)))))

-- so the whole draft adds its price at most
pub draft_grows : Grows → (k : Bookkeeping) (d : DraftState) (bs : List ℕ) → FitsBooks k d → AllPairs (λ (a b : ℕ × Changed). a.0 ≢ b.0) d.changed → ChangesOnly bs d → commit_weight (after_draft k d) ≤ commit_weight k + price k.geom bs d
draft_grows grows k d bs fits once only =
    let one = after_take k d.taken in
    let two = after_changes one true d.fresh in
    let three = after_changes two false d.changed in
    let geom : three.geom ≡ k.geom = changes_keep (λ l. l.geom) (λ l b class. refl) two false d.changed ∙ changes_keep (λ l. l.geom) (λ l b class. refl) one true d.fresh in
    let last : (after_frees three d.freed).geom ≡ three.geom = frees_keep (λ l. l.geom) (λ l b. refl) three d.freed in
    let end = (after_frees three d.freed).running in
    omega (
      arith,
      ap (λ g. payloads g end) last,
      ap (λ g. fresh_blocks g end) last,
      grows.take k d.taken (λ i e low. (fits.taken.each i e low).below),
      content_grows grows one d.fresh (by_keys (λ b. is_taken (one.running.roles b) ≡ true) d.fresh (λ b c is. ap (λ t. is_taken (cond t Bare (cond (has_bit k.geom d.taken b) ChangedRole (k.running.roles b)))) (fits.fresh b c is))),
      changes_grow grows two d.changed,
      grows.frees three d.freed (λ i e low. subst (λ g. get_or d.freed i e < g.n) (sym geom) (fits.freed i e low).below),
      ap (λ g. min (length d.freed) (bitmap_blocks g)) geom,
      few (λ (e : ℕ × Changed). e.0) d.changed bs once (by_keys (λ b. has bs b ≡ true) d.changed (λ b c is. only b (ap is_some is))),
    )

-- A block that stays a payload.

changes_stay : (k : Bookkeeping) (fresh : Bool) (cs : List (ℕ × Changed)) (c : ℕ) → k.running.roles c ≡ ChangedRole → (after_changes k fresh cs).running.roles c ≡ ChangedRole
changes_stay k fresh [] c is = is
changes_stay k fresh (e ∷ cs) c is = changes_stay (after_put k e.0 (put_class fresh e.1.class)) fresh cs c (by (cases_eq c e.0))
  where
    class : Class
    class = put_class fresh e.1.class

    by : (c ≡ e.0) ⊎ (c ≢ e.0) → (after_put k e.0 class).running.roles c ≡ ChangedRole
    by (inl h) = ap (λ t. cond t (put_role class (k.running.roles e.0)) (k.running.roles c)) (eq-eqb c e.0 h) ∙ ap (λ b. put_role class (k.running.roles b)) (sym h) ∙ ap (put_role class) is
    by (inr d) = ap (λ t. cond t (put_role class (k.running.roles e.0)) (k.running.roles c)) (ne_eqb c e.0 d) ∙ is

frees_stay : (k : Bookkeeping) (bs : List ℕ) (c : ℕ) → All (IsData k.geom) bs → c < data_start k.geom → k.running.roles c ≡ ChangedRole → (after_frees k bs).running.roles c ≡ ChangedRole
frees_stay k [] c all low is = is
frees_stay k (b ∷ bs) c all low is = frees_stay (after_free k b) bs c (λ i d l. all (suc i) d (omega (arith, l))) low
    (ap (λ t. cond t Untouched (cond (c == bit_block k.geom b) ChangedRole (k.running.roles c))) (ne_eqb c b (λ e. omega (arith, e, low, (all 0 0 (omega arith)).from)))
    ∙ by (c == bit_block k.geom b))
  where
    by : (t : Bool) → cond t ChangedRole (k.running.roles c) ≡ ChangedRole
    by true = refl
    by false = is

-- a payload that stays
abbrev pub HasStay : Bookkeeping → Bookkeeping → Type 0
HasStay k l = (b : ℕ) × (b < k.geom.n) × (l.running.roles b ≡ ChangedRole)

-- the block with a freed one's bit
bit_freed : (k l : Bookkeeping) (b : ℕ) (bs : List ℕ) → l.geom ≡ k.geom → All (IsData k.geom) (b ∷ bs) → HasStay k (after_frees l (b ∷ bs))
bit_freed k l b bs geom all =
    let one : IsData k.geom b = all 0 0 (omega arith) in
    let c = bit_block k.geom b in
    let own : IsData l.geom b = subst (λ g. IsData g b) (sym geom) one in (
      c,
      omega (arith, one.from, one.below),
      frees_stay (after_free l b) bs c (subst (λ g. All (IsData g) bs) (sym geom) (λ i d low. all (suc i) d (omega (arith, low)))) (omega (arith, own.from, own.below, one.from, one.below, ap data_start geom))
          (ap (λ t. cond t Untouched (cond (c == bit_block l.geom b) ChangedRole (l.running.roles c))) (ne_eqb c b (λ e. omega (arith, e, one.from, one.below)))
          ∙ ap (λ t. cond t ChangedRole (l.running.roles c)) (eq-eqb c (bit_block l.geom b) (ap (λ g. bit_block g b) (sym geom)))),
    )

-- the block with a taken one's bit
bit_taken : (k : Bookkeeping) (b : ℕ) (bs : List ℕ) → All (IsData k.geom) (b ∷ bs) → (after_take k (b ∷ bs)).running.roles (bit_block k.geom b) ≡ ChangedRole
bit_taken k b bs all =
    let one : IsData k.geom b = all 0 0 (omega arith) in
    let c = bit_block k.geom b in
    ap (λ t. cond t Bare (cond (has_bit k.geom (b ∷ bs) c) ChangedRole (k.running.roles c))) (none_of_table k.geom (b ∷ bs) c all (omega (arith, one.from, one.below)))
    ∙ ap (λ t. cond (t || has_bit k.geom bs c) ChangedRole (k.running.roles c)) (eq-eqb c c refl)

-- the block of a change that wasn't taken
untaken_put : (class : Class) (r : Role) → is_taken r ≡ false → put_role class r ≡ ChangedRole
untaken_put class r e = ap (λ t. cond t (put_role class Bare) ChangedRole) e

put_changes : (k : Bookkeeping) (fresh : Bool) (cs : List (ℕ × Changed)) (b : ℕ) → is_some (change_of cs b) ≡ true → is_taken (k.running.roles b) ≡ false → (after_changes k fresh cs).running.roles b ≡ ChangedRole
put_changes k fresh [] b is out = absurd (false≢true is)
put_changes k fresh (e ∷ cs) b is out = by (cases_eq b e.0) (put_changes (after_put k e.0 class) fresh cs b)
  where
    class : Class
    class = put_class fresh e.1.class

    by : (b ≡ e.0) ⊎ (b ≢ e.0) → (is_some (change_of cs b) ≡ true → is_taken ((after_put k e.0 class).running.roles b) ≡ false → (after_changes (after_put k e.0 class) fresh cs).running.roles b ≡ ChangedRole) → (after_changes (after_put k e.0 class) fresh cs).running.roles b ≡ ChangedRole
    by (inl h) rec = changes_stay (after_put k e.0 class) fresh cs b
        (ap (λ t. cond t (put_role class (k.running.roles e.0)) (k.running.roles b)) (eq-eqb b e.0 h) ∙ untaken_put class (k.running.roles e.0) (ap (λ c. is_taken (k.running.roles c)) (sym h) ∙ out))
    by (inr d) rec = rec
        (sym (ap (λ t. is_some (cond t (Some e.1) (change_of cs b))) (key_is b e.0 ∙ ne_eqb b e.0 d)) ∙ is)
        (ap (λ t. is_taken (cond t (put_role class (k.running.roles e.0)) (k.running.roles b))) (ne_eqb b e.0 d) ∙ out)

-- in a transaction with nothing for a commit no block was taken
untaken_by : (r : Role) → is_payload r ≡ false → is_fresh r ≡ false → is_bare r ≡ false → is_taken r ≡ false
untaken_by r e h p = grind (arith, nat_tests)

none_of : (k : Bookkeeping) (test : Role → Bool) (b : ℕ) → b < k.geom.n → (1 ≤ count_roles k.geom test k.running.roles → ⊥) → test (k.running.roles b) ≡ false
none_of k test b low none = false_from_ne_true (test (k.running.roles b)) (λ e. none (some_pass (λ c. test (k.running.roles c)) b 0 k.geom.n (omega arith) (omega (arith, low)) e))

no_content : (d : DraftState) (k : Bookkeeping) → FitsBooks k d → d.taken ≡ [] → d.fresh ≡ []
no_content d k fits none = by d.fresh refl
  where
    by : (cs : List (ℕ × Changed)) → d.fresh ≡ cs → cs ≡ []
    by [] e = refl
    by (c ∷ cs) e =
        let found = key_there (c ∷ cs) 0 c (omega arith) in
        absurd (false≢true (ap (λ bs. has bs c.0) (sym none) ∙ fits.fresh c.0 found.0 (ap (λ xs. change_of xs c.0) e ∙ found.1)))

-- Some block is a payload that stays: that with the bit of a block that is taken or freed, or the one that was there before; or where the weight was none, the block of any change.
pub draft_stays : (k : Bookkeeping) (d : DraftState) → FitsBooks k d → MayGoOn k → (k.running.weight ≡ 0 → (b : ℕ) × (is_some (change_of d.changed b) ≡ true)) → HasStay k (after_draft k d)
draft_stays k d fits may some = by_freed d.freed refl
  where
    one : Bookkeeping
    one = after_take k d.taken

    two : Bookkeeping
    two = after_changes one true d.fresh

    three : Bookkeeping
    three = after_changes two false d.changed

    geom : three.geom ≡ k.geom
    geom = changes_keep (λ l. l.geom) (λ l b class. refl) two false d.changed ∙ changes_keep (λ l. l.geom) (λ l b class. refl) one true d.fresh

    taken_data : All (IsData k.geom) d.taken
    taken_data i e low = record { from = (fits.taken.each i e low).from; below = (fits.taken.each i e low).below }

    untaken : (b : ℕ) → b < k.geom.n → k.running.weight ≡ 0 → is_taken (k.running.roles b) ≡ false
    untaken b low light = untaken_by (k.running.roles b)
        (none_of k is_payload b low (λ n. omega (arith, n, light, may.may.fits)))
        (none_of k is_fresh b low (λ n. omega (arith, n, light, may.may.fits)))
        (may.may.none_bare b)

    below : (b : ℕ) → is_some (change_of d.changed b) ≡ true → b < k.geom.n
    below b is = by (change_of d.changed b) refl is
      where
        by : (x : Option Changed) → change_of d.changed b ≡ x → is_some x ≡ true → b < k.geom.n
        by None e h = absurd (false≢true h)
        by (Some c) e h = (fits.changed b c e).1

    roles_of : d.taken ≡ [] → (c : ℕ) → two.running.roles c ≡ k.running.roles c
    roles_of none c = ap (λ cs. (after_changes one true cs).running.roles c) (no_content d k fits none) ∙ ap (λ bs. (after_take k bs).running.roles c) none

    by_weight : d.taken ≡ [] → (w : ℕ) → k.running.weight ≡ w → HasStay k three
    by_weight none zero light =
        let new = some light in
        (new.0, below new.0 new.1, put_changes two false d.changed new.0 new.1 (ap is_taken (roles_of none new.0) ∙ untaken new.0 (below new.0 new.1) light))
    by_weight none (suc w) heavy =
        let old = may.stays (omega (arith, heavy)) in
        (old.0, old.1, changes_stay two false d.changed old.0 (roles_of none old.0 ∙ old.2))

    by_taken : (bs : List ℕ) → d.taken ≡ bs → HasStay k three
    by_taken [] none = by_weight none k.running.weight refl
    by_taken (b ∷ bs) e =
        let all = subst (All (IsData k.geom)) e taken_data in
        let first : IsData k.geom b = all 0 0 (omega arith) in
        let c = bit_block k.geom b in
        (c, omega (arith, first.from, first.below), changes_stay two false d.changed c (changes_stay one true d.fresh c (ap (λ xs. (after_take k xs).running.roles c) e ∙ bit_taken k b bs all)))

    by_freed : (bs : List ℕ) → d.freed ≡ bs → HasStay k (after_draft k d)
    by_freed [] none =
        let found = by_taken d.taken refl in
        (found.0, found.1, ap (λ bs. (after_frees three bs).running.roles found.0) none ∙ found.2)
    by_freed (b ∷ bs) e =
        let found = bit_freed k three b bs geom (subst (All (IsData k.geom)) e fits.freed) in
        (found.0, found.1, ap (λ xs. (after_frees three xs).running.roles found.0) e ∙ found.2)

-- The sync.

pub may_sync : Grows → (k : Bookkeeping) (d : DraftState) → FitsBooks k d → AllPairs (λ (a b : ℕ × Changed). a.0 ≢ b.0) d.changed → MayGoOn k → (bs : List ℕ) (cost : ℕ) → ChangesOnly bs d → price k.geom bs d ≤ cost → (0 < cost → (b : ℕ) × (is_some (change_of d.changed b) ≡ true)) → MayGoOn (after_weigh (after_draft k d) cost)
may_sync grows k d fits once may bs cost only costs some = record {
  may = record {
    fits = omega (arith, draft_grows grows k d bs fits once only, may.may.fits, costs, weight, ap (λ g. payloads g new.running) geom, ap (λ g. fresh_blocks g new.running) geom);
    some = λ heavy.
        let one = stay heavy in
        some_pass (λ c. is_payload (new.running.roles c)) one.0 0 new.geom.n (omega arith) (omega (arith, one.1, ap (λ g. g.n) geom)) (ap is_payload one.2);
    none_bare = draft_bare k d fits.none_bare fits.filled;
  };
  stays = λ heavy. let one = stay heavy in (one.0, subst (λ g. one.0 < g.n) (sym geom) one.1, one.2);
}
  where
    new : Bookkeeping
    new = after_draft k d

    geom : new.geom ≡ k.geom
    geom = draft_keeps (λ l. l.geom) (λ l bs. refl) (λ l b class. refl) (λ l b. refl) k d

    weight : new.running.weight ≡ k.running.weight
    weight = draft_keeps (λ l. l.running.weight) (λ l bs. refl) (λ l b class. refl) (λ l b. refl) k d

    stay : 0 < new.running.weight + cost → HasStay k new
    stay heavy = draft_stays k d fits may (λ light. some (omega (arith, heavy, light, weight)))
