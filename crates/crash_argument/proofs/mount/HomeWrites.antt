-- Blocks that are written home one after another and noticed: what each of them holds then, and that a run leaves what lies behind the disk.
use Rattle.std.proofs.Common.{◌≡◌, ◌≢◌, ⊎_elim, ℕ, zero, suc, ◌+◌, ◌<◌, ◌≤◌, ◌==◌, Bool, true, false, if◌then◌else◌, List, [], ◌∷◌, ◌++◌, slice_get, take, Option, Some, None, refl, ◌∙◌, ap, arith}
use Rattle.std.proofs.lemmas.Bool.{eq-eqb, ne_eqb, cases_eq, cond-true, cond-false}
use Rattle.base_types.specs.Seal.{Blocks}
use Rattle.disk_contract.specs.declared.event.Event.{Event}
use Rattle.disk_contract.specs.declared.event.Event.TheVariants.{Wrote, Lost, Noticed}
use Rattle.disk_contract.specs.Cell.{Cell, Write, settle, after, after_all}
use Rattle.layout_geometry.specs.Geometry.{Geometry}
use Rattle.layout_journal.specs.declared.header.Header.{Header}
use Rattle.layout_journal.specs.declared.entry.Entry.{Entry}
use Rattle.layout_journal.specs.Run.{Record, AreWhole, heads, payload_from, names_block, or_else, covered_by}
use Rattle.crash_argument.specs.JournalLaws.{JournalLaws}
use Rattle.crash_argument.specs.LastWrites.{AvoidsBlock}
use Rattle.crash_argument.specs.ReplayMade.{home_write, home_events}
use Rattle.crash_argument.proofs.log.Events.{after_all-append}
use Rattle.crash_argument.proofs.log.LastWrites.{avoids_append}

-- a block that is settled in these bytes, with nothing pending
abbrev pub idle : List ℕ → Cell
idle s = record { settled = s; pending = [] }

-- one with this write pending
abbrev pub pending : List ℕ → ℕ → List ℕ → Cell
pending s t x = record { settled = s; pending = record { ticket = Some t; bytes = x } ∷ [] }

-- a write is pending on its block
pub own_write : (t b : ℕ) (s x : List ℕ) → after b (idle s) (Wrote t b x) ≡ pending s t x
own_write t b s x = cond-true (b == b) _ _ (eq-eqb b b refl)

-- and on no other
pub other_write : (t a b : ℕ) (s x : List ℕ) → a ≢ b → after b (idle s) (Wrote t a x) ≡ idle s
other_write t a b s x apart = cond-false (a == b) _ _ (ne_eqb a b apart)

-- once it is noticed, its block is settled in its bytes
pub own_home : (t b : ℕ) (s x : List ℕ) (es : List Event) → after_all b (idle s) (Wrote t b x ∷ Noticed t ∷ es) ≡ after_all b (idle x) es
own_home t b s x es =
    ap (λ (c : Cell). after_all b (after b c (Noticed t)) es) (own_write t b s x)
    ∙ ap (λ (ws : List Write). after_all b (settle (pending s t x) ws) es) (cond-true (t == t) _ _ (eq-eqb t t refl))

-- and every other is as it was
pub other_home : (t a b : ℕ) (s x : List ℕ) (es : List Event) → a ≢ b → after_all b (idle s) (Wrote t a x ∷ Noticed t ∷ es) ≡ after_all b (idle s) es
other_home t a b s x es apart = ap (λ (c : Cell). after_all b (after b c (Noticed t)) es) (other_write t a b s x apart)

-- events that don't write a block leave it, when nothing is pending on it
pub left_alone : (b : ℕ) (s : List ℕ) (es : List Event) → AvoidsBlock b es → after_all b (idle s) es ≡ idle s
left_alone b s [] avoids = refl
left_alone b s (Wrote t a x ∷ es) avoids = ap (λ (c : Cell). after_all b c es) (cond-false (a == b) _ _ (ne_eqb a b avoids.0)) ∙ left_alone b s es avoids.1
left_alone b s (Lost a x ∷ es) avoids = ap (λ (c : Cell). after_all b c es) (cond-false (a == b) _ _ (ne_eqb a b avoids.0)) ∙ left_alone b s es avoids.1
left_alone b s (Noticed t ∷ es) avoids = left_alone b s es avoids

-- the first of them don't write it either
pub avoids_take : (b k : ℕ) (es : List Event) → AvoidsBlock b es → AvoidsBlock b (take k es)
avoids_take b zero es avoids = tt
avoids_take b (suc k) [] avoids = tt
avoids_take b (suc k) (Wrote t a x ∷ es) avoids = (avoids.0, avoids_take b k es avoids.1)
avoids_take b (suc k) (Lost a x ∷ es) avoids = (avoids.0, avoids_take b k es avoids.1)
avoids_take b (suc k) (Noticed t ∷ es) avoids = avoids_take b k es avoids

-- the write of one block is of no other
avoids_other : (t a b : ℕ) (o : Option (List ℕ)) → a ≢ b → AvoidsBlock b (home_write t a o)
avoids_other t a b None apart = tt
avoids_other t a b (Some x) apart = (apart, tt)

-- and it is none where no bytes belong there
avoids_own : (t a b : ℕ) (o : Option (List ℕ)) → o ≡ None → AvoidsBlock b (home_write t a o)
avoids_own t a b None is = tt
avoids_own t a b (Some x) is = cc

-- blocks before those that are written home are not written
pub before_home : (left : ℕ → Option (List ℕ)) (t block more b : ℕ) → b < block → AvoidsBlock b (home_events left t block more)
before_home left t block zero b low = tt
before_home left t block (suc more) b low =
    avoids_append b (home_write t block (left block)) (home_events left (t + 1) (block + 1) more) (avoids_other t block b (left block) (λ e. omega arith)) (before_home left (t + 1) (block + 1) more b (omega arith))

-- nor is a block that none belong in
pub uncovered_home : (left : ℕ → Option (List ℕ)) (t block more b : ℕ) → left b ≡ None → AvoidsBlock b (home_events left t block more)
uncovered_home left t block zero b none = tt
uncovered_home left t block (suc more) b none =
    avoids_append b (home_write t block (left block)) (home_events left (t + 1) (block + 1) more)
    (⊎_elim (λ same. avoids_own t block b (left block) (ap left same ∙ none)) (avoids_other t block b (left block)) (cases_eq block b))
    (uncovered_home left (t + 1) (block + 1) more b none)

-- and each of the others is at home
pub at_home : (left : ℕ → Option (List ℕ)) (t block more b : ℕ) (s x : List ℕ) → left b ≡ Some x → block ≤ b → b < block + more → after_all b (idle s) (home_events left t block more) ≡ idle x
at_home left t block zero b s x is low high = absurd (omega arith)
at_home left t block (suc more) b s x is low high = ⊎_elim here (λ apart. passed apart ∙ at_home left (t + 1) (block + 1) more b s x is (above block b low apart) (omega arith)) (cases_eq block b)
  where
    above : (a b : ℕ) → a ≤ b → a ≢ b → a + 1 ≤ b
    above a b le ne = grind arith

    passed : block ≢ b → after_all b (idle s) (home_events left t block (suc more)) ≡ after_all b (idle s) (home_events left (t + 1) (block + 1) more)
    passed apart =
        after_all-append b (idle s) (home_write t block (left block)) (home_events left (t + 1) (block + 1) more)
        ∙ ap (λ (c : Cell). after_all b c (home_events left (t + 1) (block + 1) more)) (left_alone b s (home_write t block (left block)) (avoids_other t block b (left block) apart))

    written : after_all b (idle s) (home_events left t b (suc more)) ≡ idle x
    written =
        ap (λ (o : Option (List ℕ)). after_all b (idle s) (home_write t b o ++ home_events left (t + 1) (b + 1) more)) is
        ∙ own_home t b s x (home_events left (t + 1) (b + 1) more)
        ∙ left_alone b x (home_events left (t + 1) (b + 1) more) (before_home left (t + 1) (b + 1) more b (omega arith))

    here : block ≡ b → after_all b (idle s) (home_events left t block (suc more)) ≡ idle x
    here same = ap (λ (a : ℕ). after_all b (idle s) (home_events left t a (suc more))) same ∙ written

-- entries that all name blocks below b have no payload for b
none_from : (g : Geometry) (img : Blocks) (place : ℕ) (es : List Entry) (b : ℕ) → ((i : ℕ) (e : Entry) → slice_get es i ≡ Some e → e.block < b) → payload_from g img place es b ≡ None
none_from g img place [] b low = refl
none_from g img place (e ∷ es) b low =
    cond-false (e.block == b) _ _ (ne_eqb e.block b (λ same. omega (arith, low 0 e refl))) ∙ none_from g img (place + 1) es b (λ i f is. low (suc i) f is)

-- nothing stays nothing
nothing : (v : Bool) → ◌≡◌ {A = Option (List ℕ)} (if v then None else None) None
nothing true = refl
nothing false = refl

-- so a run covers no block behind the disk
pub none_behind : JournalLaws → (img : Blocks) (h : Header) (rs : List Record) (b : ℕ) → AreWhole img h rs → h.geom.n ≤ b → covered_by h.geom img None rs b ≡ None
none_behind laws img h [] b whole high = refl
none_behind laws img h (r ∷ rs) b whole high =
    ap (λ (o : Option (List ℕ)). covered_by h.geom img (or_else o (if names_block r.fresh b then None else None)) rs b)
    (none_from h.geom img (r.place + heads r) r.payloads b (λ i e is. omega (arith, (laws.payload_in_disk h.geom r i e whole.0.fit is).1)))
    ∙ ap (λ (o : Option (List ℕ)). covered_by h.geom img o rs b) (nothing (names_block r.fresh b))
    ∙ none_behind laws img h rs b whole.1 high
