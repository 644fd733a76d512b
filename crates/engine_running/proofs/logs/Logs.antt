-- Writes join a log one by one.
use Rattle.std.proofs.Common.{◌≡◌, ◌⊎◌, ⊎_elim, inl, inr, Bool, false, ℕ, zero, suc, ◌+◌, List, [], ◌∷◌, ◌++◌, length, slice_get, Some, Result, Ok, Err, IsErr, refl, ◌∙◌, ap, subst, arith, append_assoc}
use Rattle.std.proofs.lemmas.Bool.Decides.{nat_tests}
use Rattle.std.proofs.lemmas.Bool.{false≢true}
use Rattle.disk_contract.specs.declared.event.Event.{Event}
use Rattle.disk_contract.specs.declared.event.Event.TheVariants.{Wrote, Lost}
use Rattle.disk_contract.specs.Disk.{State, OnlyWrites}
use Rattle.layout_geometry.specs.Geometry.{Geometry, ring_block}
use Rattle.crash_argument.specs.Writes.{AddsWrites, AddsFront, AddsAll}
use Rattle.engine_running.specs.Writes.{ring_writes}

-- writes behind others
pub adds_then : (vs ws : List (ℕ × List ℕ)) (ts us : List ℕ) (old mid new : List Event) → AddsWrites vs ts old mid → AddsWrites ws us mid new → AddsWrites (vs ++ ws) (ts ++ us) old new
adds_then [] ws [] us old mid new one two = subst (λ (l : List Event). AddsWrites ws us l new) one two
adds_then [] ws (t ∷ ts) us old mid new one two = absurd one
adds_then (v ∷ vs) ws [] us old mid new one two = absurd one
adds_then (v ∷ vs) ws (t ∷ ts) us old mid new one two = (one.0, one.1, adds_then vs ws ts us (old ++ Wrote t v.0 v.1 ∷ []) mid new one.2 two)

-- the tickets of some calls behind those of others
pub then_all : (vs ws : List (ℕ × List ℕ)) (start mid now : List ℕ) (a b c : List Event) → ((ts : List ℕ) × (mid ≡ start ++ ts) × AddsWrites vs ts a b) → ((us : List ℕ) × (now ≡ mid ++ us) × AddsWrites ws us b c)
    → (us : List ℕ) × (now ≡ start ++ us) × AddsWrites (vs ++ ws) us a c
then_all vs ws start mid now a b c one two = (one.0 ++ two.0, two.1 ∙ ap (λ (l : List ℕ). l ++ two.0) one.1 ∙ append_assoc start one.0 two.0, adds_then vs ws one.0 two.0 a b c one.2 two.2)

-- a front of the first writes
pub front_first : (vs ws : List (ℕ × List ℕ)) (a b : List Event) → AddsFront vs a b → AddsFront (vs ++ ws) a b
front_first vs ws a b f = grind (arith, nat_tests, append_assoc)

-- all of the first writes, and a front of those behind them
pub front_behind : (vs ws : List (ℕ × List ℕ)) (ts : List ℕ) (a b c : List Event) → AddsWrites vs ts a b → AddsFront ws b c → AddsFront (vs ++ ws) a c
front_behind vs ws ts a b c one f = grind (arith, nat_tests, append_assoc, adds_then)

-- one write that failed
pub front_one : (b : ℕ) (x : List ℕ) (old new : List Event) → (new ≡ old) ⊎ (new ≡ old ++ Lost b x ∷ []) → AddsFront ((b, x) ∷ []) old new
front_one b x old new a = record { front = []; rest = (b, x) ∷ []; split = refl; tickets = []; middle = old; accepted = refl; ends = ⊎_elim (λ same. inl same) (λ lost. inr (b, x, [], refl, lost)) a }

-- a write into the ring among those from a place on
pub ring_write_is : (g : Geometry) (place : ℕ) (xs : List (List ℕ)) (k : ℕ) (x : List ℕ) → slice_get xs k ≡ Some x → slice_get (ring_writes g place xs) k ≡ Some (ring_block g (place + k), x)
ring_write_is g place [] k x e = cc
ring_write_is g place (y ∷ xs) zero x e = grind (arith, nat_tests)
ring_write_is g place (y ∷ xs) (suc k) x e = ring_write_is g (place + 1) xs k x e ∙ ap (λ n. Some (ring_block g n, x)) (s place k)
  where
    s : (a b : ℕ) → a + 1 + b ≡ a + suc b
    s a b = omega arith

pub length_ring_writes : (g : Geometry) (place : ℕ) (xs : List (List ℕ)) → length (ring_writes g place xs) ≡ length xs
length_ring_writes g place [] = refl
length_ring_writes g place (x ∷ xs) = omega (arith, length_ring_writes g (place + 1) xs)

-- nothing is spent by no call
pub still : (s : State) → OnlyWrites false s s
still s = record { same = record { blocks = refl; base = refl; manner = refl }; faults = refl; read_faults = refl; waits = refl; polls = refl }

-- and writes behind writes of which none failed only write
pub still_more : (failed : Bool) (old mid new : State) → OnlyWrites false old mid → OnlyWrites failed mid new → OnlyWrites failed old new
still_more failed old mid new so_far more = grind (arith, nat_tests)

-- where a call failed, a front is what is asked for
pub all_err : {A E : Type 0} (ws : List (ℕ × List ℕ)) (r : Result A E) (start now : List ℕ) (old new : List Event) → IsErr r → AddsFront ws old new → AddsAll ws r start now old new
all_err ws (Ok a) start now old new e f = absurd (false≢true e)
all_err ws (Err a) start now old new e f = f
