-- What a read of a block may give after more events, and caches that go on agreeing with a disk.
use Rattle.std.proofs.Common.{◌≡◌, ◌≢◌, ◌⊎◌, inl, inr, ℕ, ◌==◌, Bool, true, false, if◌then◌else◌, List, [], ◌∷◌, ◌++◌, Contains, Option, Some, None, IfSome, is_some, Result, Ok, Err, refl, sym, ap, subst, ◌∙◌, append-nil, arith}
use Rattle.std.proofs.lemmas.Bool.{cases_eq, eq-eqb, ne_eqb, true≢false, cond-true, cond-false}
use Rattle.std.proofs.Math.Logic.{∥∥₁_map}
use Rattle.std.specs.FinMap.{get, get-empty, get-remove}
use Rattle.std.specs.Cmp.{nat_cmp_total, unsigned_ties}
use Rattle.std.specs.Ordering.{nat_cmp}
use Rattle.lru.proofs.Splits.{Contains-head, Contains-tail, Contains-cons, Contains-nil}
use Rattle.disk_contract.specs.declared.event.Event.{Event}
use Rattle.disk_contract.specs.declared.event.Event.TheVariants.{Wrote, Lost, Noticed}
use Rattle.disk_contract.specs.declared.disk.DiskFault.{DiskFault}
use Rattle.disk_contract.specs.Cell.{accepted_from, accepted, is_lost_from, is_lost, lost_from, IsOneOf}
use Rattle.disk_contract.specs.Disk.{State, Reads, SameDisk, AddsWrite}
use Rattle.disk_contract.specs.Logs.{accepted_from-append as accepted-append}
use Rattle.engine_cache.specs.Cache.{Cache, empty_cache, without, IsKept, IsTheDisks, Agrees, ComesIn}

-- what a read may give of a block: its last accepted bytes, or, where `lost` says that writes were lost since, those of one of these
record MayGive (last : List ℕ) (lost : Bool) (others : List (List ℕ)) (x : List ℕ) : Type 0 where
  calm : lost ≡ false → x ≡ last
  one : ∥ (x ≡ last) ⊎ IsOneOf others x ∥₁

-- these bytes stay among those of a longer list
among_more : (xs ys : List (List ℕ)) (x : List ℕ) → IsOneOf xs x → IsOneOf (xs ++ ys) x
among_more [] ys x h = absurd h
among_more (y ∷ xs) ys x h = grind (arith, h, among_more xs ys x)

-- none of these events is an accepted write to the block
abbrev NoneWrites : ℕ → List Event → Type 0
NoneWrites n more = (t : ℕ) (y : List ℕ) → Contains more (Wrote t n y) → ⊥

-- nor is one of the events behind the first
rest : (n : ℕ) (e : Event) (more : List Event) → NoneWrites n (e ∷ more) → NoneWrites n more
rest n e more none t y there = none t y (Contains-tail e more (Wrote t n y) there)

-- events without an accepted write to the block take away nothing that a read may give of it
gives_on : (n : ℕ) (more : List Event) → NoneWrites n more → (last : List ℕ) (lost : Bool) (others : List (List ℕ)) (x : List ℕ)
    → MayGive last lost others x → MayGive (accepted_from n last more) (is_lost_from n lost more) (lost_from n others more) x
gives_on n [] none last lost others x g = g
gives_on n (Noticed t ∷ more) none last lost others x g = gives_on n more (rest n (Noticed t) more none) last lost others x g
gives_on n (Wrote t b y ∷ more) none last lost others x g = elim (cases_eq b n) [
  | inl same ↦ absurd (none t y (subst (λ m. Contains (Wrote t m y ∷ more) (Wrote t n y)) (sym same) (Contains-head (Wrote t n y) more)))
  | inr apart ↦ rw (ne_eqb b n apart) (gives_on n more (rest n (Wrote t b y) more none) last lost others x g)
]
gives_on n (Lost b y ∷ more) none last lost others x g = elim (cases_eq b n) [
  | inl same ↦ rw (eq-eqb b n same) (gives_on n more (rest n (Lost b y) more none) last true (others ++ y ∷ []) x (record {
    calm = λ never. absurd (true≢false never);
    one = ∥∥₁_map g.one (λ h. elim h [ inl e ↦ inl e | inr other ↦ inr (among_more others (y ∷ []) x other) ]);
  }))
  | inr apart ↦ rw (ne_eqb b n apart) (gives_on n more (rest n (Lost b y) more none) last lost others x g)
]

is_lost-append : (n : ℕ) (lost : Bool) (log more : List Event) → is_lost_from n lost (log ++ more) ≡ is_lost_from n (is_lost_from n lost log) more
is_lost-append n lost [] more = refl
is_lost-append n lost (Wrote t b y ∷ log) more = is_lost-append n (if b == n then false else lost) log more
is_lost-append n lost (Lost b y ∷ log) more = is_lost-append n (if b == n then true else lost) log more
is_lost-append n lost (Noticed t ∷ log) more = is_lost-append n lost log more

lost-append : (n : ℕ) (others : List (List ℕ)) (log more : List Event) → lost_from n others (log ++ more) ≡ lost_from n (lost_from n others log) more
lost-append n others [] more = refl
lost-append n others (Wrote t b y ∷ log) more = lost-append n (if b == n then [] else others) log more
lost-append n others (Lost b y ∷ log) more = lost-append n (if b == n then others ++ y ∷ [] else others) log more
lost-append n others (Noticed t ∷ log) more = lost-append n others log more

-- so a read of a block may give after them what it may have given before
reads_on : (n : ℕ) (old new : State) (more : List Event) (x : List ℕ) → new.base ≡ old.base → new.log ≡ old.log ++ more → NoneWrites n more → Reads old n x → Reads new n x
reads_on n old new more x base log none r =
    let on = gives_on n more none (accepted old.base old.log n) (is_lost n old.log) (lost_from n [] old.log) x (record { calm = r.calm; one = r.one }) in
    let last : accepted new.base new.log n ≡ accepted_from n (accepted old.base old.log n) more = rw base (rw log (accepted-append n (old.base n) old.log more)) in
    let lost : is_lost n new.log ≡ is_lost_from n (is_lost n old.log) more = rw log (is_lost-append n false old.log more) in
    let others : lost_from n [] new.log ≡ lost_from n (lost_from n [] old.log) more = rw log (lost-append n [] old.log more) in
    record {
      calm = λ calm. on.calm (sym lost ∙ calm) ∙ sym last;
      one = ∥∥₁_map on.one (λ h. elim h [ inl e ↦ inl (e ∙ sym last) | inr other ↦ inr (subst (λ l. IsOneOf l x) (sym others) other) ]);
    }

-- a read of a block whose write was accepted last gives the bytes of that write
reads_written : (n t : ℕ) (old new : State) (x : List ℕ) → new.log ≡ old.log ++ Wrote t n x ∷ [] → Reads new n x
reads_written n t old new x log =
    let last : accepted new.base new.log n ≡ x = rw log (accepted-append n (new.base n) old.log (Wrote t n x ∷ []) ∙ cond-true (n == n) _ _ (eq-eqb n n refl)) in
    record { calm = λ _. sym last; one = ∣ inl (sym last) ∣₁ }

-- an accepted write to another block isn't one to this block
writes_elsewhere : (n t b : ℕ) (x : List ℕ) → n ≢ b → NoneWrites n (Wrote t b x ∷ [])
writes_elsewhere n t b x apart u y there = elim (Contains-cons (Wrote t b x) [] (Wrote u n y) there) [
  | inl same ↦ apart (cc same)
  | inr none ↦ Contains-nil (Wrote u n y) none
]

-- nor is a write that was lost
lost_writes_nothing : (n b : ℕ) (x : List ℕ) → NoneWrites n (Lost b x ∷ [])
lost_writes_nothing n b x u y there = elim (Contains-cons (Lost b x) [] (Wrote u n y) there) [
  | inl same ↦ cc same
  | inr none ↦ Contains-nil (Wrote u n y) none
]

-- no block is kept by a cache that keeps nothing, so it agrees with each disk
pub nothing_kept : (capacity : ℕ) (s : State) → Agrees (empty_cache capacity) s
nothing_kept capacity s b = subst (λ o. IfSome o (Reads s b)) (sym (get-empty nat_cmp b)) tt

-- after events in which no write to a kept block was accepted, a cache agrees as before
pub agrees_on : (c : Cache) (old new : State) (more : List Event) → SameDisk old new → new.log ≡ old.log ++ more → ((t b : ℕ) (x : List ℕ) → Contains more (Wrote t b x) → ¬ IsKept b c) → Agrees c old → Agrees c new
agrees_on c old new more same log none agrees b = by_kept (get c.kept b) refl (agrees b)
  where
    by_kept : (o : Option (List ℕ)) → get c.kept b ≡ o → IfSome o (Reads old b) → IfSome o (Reads new b)
    by_kept None is h = tt
    by_kept (Some x) is h = reads_on b old new more x same.base log (λ t y there. none t b y there (ap is_some is)) h

-- a block's write that was accepted or lost changes what a read may give of that block alone
reads_elsewhere : (n b : ℕ) (old new : State) (x : List ℕ) (result : Result ℕ DiskFault) (y : List ℕ) → SameDisk old new → AddsWrite b x result old.log new.log → n ≢ b → Reads old n y → Reads new n y
reads_elsewhere n b old new x (Ok t) y same adds apart r = reads_on n old new (Wrote t b x ∷ []) y same.base adds.2 (writes_elsewhere n t b x apart) r
reads_elsewhere n b old new x (Err e) y same adds apart r = elim adds [
  | inl as_before ↦ reads_on n old new [] y same.base (as_before ∙ sym (append-nil old.log)) (λ t z there. Contains-nil _ there) r
  | inr lost ↦ reads_on n old new (Lost b x ∷ []) y same.base lost (lost_writes_nothing n b x) r
]

-- a block that is forgotten isn't kept, and another one is kept as before
without_at : (n b : ℕ) (c : Cache) (P : List ℕ → Type 0) → (n ≢ b → IfSome (get c.kept n) P) → IfSome (get (without b c).kept n) P
without_at n b c P h = subst (λ o. IfSome o P) (sym (get-remove nat_cmp_total c.kept b n)) (elim (cases_eq n b) [
  | inl same ↦ subst (λ o. IfSome o P) (sym (cond-true _ _ _ (sym (unsigned_ties n b) ∙ eq-eqb n b same))) tt
  | inr apart ↦ subst (λ o. IfSome o P) (sym (cond-false _ _ _ (sym (unsigned_ties n b) ∙ ne_eqb n b apart))) (h apart)
])

mapped : (o : Option (List ℕ)) (P Q : List ℕ → Type 0) → ((x : List ℕ) → P x → Q x) → IfSome o P → IfSome o Q
mapped None P Q f h = tt
mapped (Some x) P Q f h = f x h

-- whatever came of a write, a cache that forgets its block agrees as before
pub agrees_without : (c : Cache) (old new : State) (b : ℕ) (x : List ℕ) (result : Result ℕ DiskFault) → SameDisk old new → AddsWrite b x result old.log new.log → Agrees c old → Agrees (without b c) new
agrees_without c old new b x result same adds agrees n =
    without_at n b c (Reads new n) (λ apart. mapped (get c.kept n) (Reads old n) (Reads new n) (λ y r. reads_elsewhere n b old new x result y same adds apart r) (agrees n))

-- a cache into which bytes came that a read may give
comes_right : (c d : Cache) (new : State) (b : ℕ) (x : List ℕ) → ComesIn b x c d → Reads new b x → ((n : ℕ) → n ≢ b → IsTheDisks n c new) → Agrees d new
comes_right c d new b x comes r others n = elim (cases_eq n b) [
  | inl same ↦ subst (λ m. IsTheDisks m d new) (sym same) (mapped (get d.kept b) (λ y. y ≡ x) (Reads new b) (λ y is. subst (Reads new b) (sym is) r) comes.block)
  | inr apart ↦ mapped (get d.kept n) (λ y. get c.kept n ≡ Some y) (Reads new n) (λ y was. subst (λ o. IfSome o (Reads new n)) was (others n apart)) (comes.others n apart)
]

-- after an accepted write whose bytes came in, a cache agrees as before
pub agrees_noted : (c d : Cache) (old new : State) (b : ℕ) (x : List ℕ) (t : ℕ) → SameDisk old new → AddsWrite {E = DiskFault} b x (Ok t) old.log new.log → ComesIn b x c d → Agrees c old → Agrees d new
agrees_noted c d old new b x t same adds comes agrees = comes_right c d new b x comes (reads_written b t old new x adds.2)
    (λ n apart. mapped (get c.kept n) (Reads old n) (Reads new n) (λ y r. reads_elsewhere n b old new x (Ok t) y same adds apart r) (agrees n))
