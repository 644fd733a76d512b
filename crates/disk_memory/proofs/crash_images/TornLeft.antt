-- What a choice leaves of a block, by what it says of the writes to it.
use Rattle.std.proofs.Common.{◌≡◌, ◌⊎◌, inl, inr, ⊎_elim, ℕ, false, ◌==◌, if◌then◌else◌, List, [], ◌∷◌, Some, None, refl, sym, ◌∙◌, ap}
use Rattle.std.proofs.lemmas.Bool.{eqb-true, eq-eqb, cases_Bool}
use Rattle.disk_memory.specs.declared.choice.WriteName.{WriteName}
use Rattle.disk_memory.specs.declared.choice.WriteName.TheVariants as names
use Rattle.disk_memory.specs.declared.choice.Fate.{Fate}
use Rattle.disk_memory.specs.declared.choice.Fate.TheVariants.{Stands, Torn}
use Rattle.disk_memory.specs.declared.choice.Named.{Named}
use Rattle.disk_memory.specs.Choice.{ChoiceState, NamedWrite, joined, same_name, said_at_first, fate, left_by, left_after}
use Rattle.disk_memory.proofs.crash_images.FatePending.{same_name-true, same_name-same}
use Rattle.disk_memory.proofs.crash_images.TornNames.{IsIn}

-- two choices that say the same of the writes to a block leave the same of it
pub left_same : (c e : ChoiceState) (b : ℕ) (settled before : List ℕ) (ws : List NamedWrite) → ((w : NamedWrite) → IsIn w ws → w.block ≡ b → fate c w.name ≡ fate e w.name)
    → left_after c b settled before ws ≡ left_after e b settled before ws
left_same c e b settled before [] same = refl
left_same c e b settled before (w ∷ ws) same =
    let rest = λ (x : List ℕ). left_same c e b settled x ws (λ v i own. same v (inr i) own) in
    ⊎_elim
    (λ own. ap (λ f. left_after c b settled (if w.block == b then left_by f settled w.bytes before else before) ws) (same w (inl refl) (eqb-true w.block b own)) ∙ rest (if w.block == b then left_by (fate e w.name) settled w.bytes before else before))
    (λ other. ap (λ v. left_after c b settled (if v then left_by (fate c w.name) settled w.bytes before else before) ws) other ∙ rest before ∙ sym (ap (λ v. left_after e b settled (if v then left_by (fate e w.name) settled w.bytes before else before) ws) other))
    (cases_Bool (w.block == b))

-- where what a fate leaves stands already, and each write to the block leaves that or nothing, it stays
left_stays : (c : ChoiceState) (b : ℕ) (settled x : List ℕ) (ws : List NamedWrite)
    → ((w : NamedWrite) → IsIn w ws → w.block ≡ b → left_by (fate c w.name) settled w.bytes x ≡ x) → left_after c b settled x ws ≡ x
left_stays c b settled x [] stays = refl
left_stays c b settled x (w ∷ ws) stays = ⊎_elim
    (λ own. ap (λ v. left_after c b settled (if v then left_by (fate c w.name) settled w.bytes x else x) ws) own ∙ ap (λ y. left_after c b settled y ws) (stays w (inl refl) (eqb-true w.block b own)))
    (λ other. ap (λ v. left_after c b settled (if v then left_by (fate c w.name) settled w.bytes x else x) ws) other)
    (cases_Bool (w.block == b)) ∙ left_stays c b settled x ws (λ v i own. stays v (inr i) own)

-- what a fate leaves, whatever stood there
abbrev pub left_of : Fate → List ℕ → List ℕ → List ℕ
left_of f settled bytes = left_by (Some f) settled bytes []

-- that is the same with any bytes there before
pub left_whatever : (f : Fate) (settled bytes before : List ℕ) → left_by (Some f) settled bytes before ≡ left_of f settled bytes
left_whatever Stands settled bytes before = refl
left_whatever (Torn n) settled bytes before = refl

-- a choice of one write to the block leaves what the fate leaves of it
left_one : (c : ChoiceState) (b : ℕ) (settled before : List ℕ) (f : Fate) (w : NamedWrite) (ws : List NamedWrite) → IsIn w ws → w.block ≡ b → fate c w.name ≡ Some f
    → ((v : NamedWrite) → IsIn v ws → (v ≡ w) ⊎ (fate c v.name ≡ None)) → left_after c b settled before ws ≡ left_of f settled w.bytes
left_one c b settled before f w [] i at is alone = absurd i
left_one c b settled before f w (v ∷ vs) i at is alone = ⊎_elim
    (λ own.
    let first : (if v.block == b then left_by (fate c v.name) settled v.bytes before else before) ≡ left_of f settled w.bytes =
    ap (λ t. if t then left_by (fate c v.name) settled v.bytes before else before) (eq-eqb v.block b (ap (λ (u : NamedWrite). u.block) own ∙ at))
    ∙ ap (λ (u : NamedWrite). left_by (fate c u.name) settled u.bytes before) own ∙ its before in
    ap (λ x. left_after c b settled x vs) first ∙ left_stays c b settled (left_of f settled w.bytes) vs stays)
    (λ rest. left_one c b settled (if v.block == b then left_by (fate c v.name) settled v.bytes before else before) f w vs rest at is (λ u k. alone u (inr k))) i
  where
    its : (x : List ℕ) → left_by (fate c w.name) settled w.bytes x ≡ left_of f settled w.bytes
    its x = ap (λ o. left_by o settled w.bytes x) is ∙ left_whatever f settled w.bytes x

    stays : (u : NamedWrite) → IsIn u vs → u.block ≡ b → left_by (fate c u.name) settled u.bytes (left_of f settled w.bytes) ≡ left_of f settled w.bytes
    stays u k own = ⊎_elim
        (λ same. ap (λ (u : NamedWrite). left_by (fate c u.name) settled u.bytes (left_of f settled w.bytes)) same ∙ its (left_of f settled w.bytes))
        (λ none. ap (λ o. left_by o settled u.bytes (left_of f settled w.bytes)) none)
        (alone u (inr k))

-- what is said of a write where nothing is said of all
abbrev pub only : List Named → ChoiceState
only named = record { all = false; named = named }

first_none : (name : WriteName) → said_at_first false name ≡ None
first_none (names.Accepted t) = refl
first_none (names.Lost f) = refl

-- a choice that names nothing leaves what is settled
pub left_settled : (b : ℕ) (settled : List ℕ) (ws : List NamedWrite) → left_after (only []) b settled settled ws ≡ settled
left_settled b settled ws = left_stays (only []) b settled settled ws (λ w i own. ap (λ o. left_by o settled w.bytes settled) (first_none w.name))

-- a choice that names one write to the block leaves what the fate leaves of it, where no other has that name
pub left_named : (b : ℕ) (settled : List ℕ) (f : Fate) (w : NamedWrite) (ws : List NamedWrite) → IsIn w ws → w.block ≡ b → ((v : NamedWrite) → IsIn v ws → v.name ≡ w.name → v ≡ w)
    → left_after (only (record { write = w.name; fate = f } ∷ [])) b settled settled ws ≡ left_of f settled w.bytes
left_named b settled f w ws i at one = left_one (only (record { write = w.name; fate = f } ∷ [])) b settled settled f w ws i at
    (ap (λ t. if t then joined (said_at_first false w.name) f else said_at_first false w.name) (same_name-same w.name) ∙ ap (λ o. joined o f) (first_none w.name))
    (λ v k. ⊎_elim (λ same. inl (one v k (sym (same_name-true w.name v.name same))))
    (λ other. inr (ap (λ t. if t then joined (said_at_first false v.name) f else said_at_first false v.name) other ∙ first_none v.name))
    (cases_Bool (same_name w.name v.name)))
