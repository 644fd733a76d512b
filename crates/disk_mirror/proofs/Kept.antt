-- What an order keeps of its tree, as writes and notices come.
use Rattle.std.proofs.Common.{◌≡◌, ◌≢◌, ◌⊎◌, ⊎_elim, ℕ, zero, suc, ◌<◌, ◌≤◌, ◌+◌, ◌*◌, ◌^◌, List, [], ◌∷◌, ◌++◌, length, replicate, slice_set, get_or, refl, sym, ◌∙◌, ap, ap₂, arith, length-append}
use Rattle.std.proofs.lemmas.Bool.{cases_eq}
use Rattle.std.proofs.lemmas.List.{get_or-set_same, get_or-set_other, get_or_past, get_or_push}
use Rattle.disk_mirror.specs.declared.entry.Heard.{Heard}
use Rattle.disk_mirror.specs.declared.entry.Ripe.{Ripe}
use Rattle.disk_mirror.specs.Twin.{unheard}
use Rattle.disk_mirror.specs.Ripe.{none_ripe, joined, ripe_of, ripe_at, AreJoined, IsTree}
use Rattle.disk_mirror.proofs.Steps.{get-front, parted}

-- one row more, of which no disk gave notice
row_more : (hs : List Heard) (i : ℕ) → get_or (hs ++ unheard ∷ []) i unheard ≡ get_or hs i unheard
row_more hs i = ⊎_elim (λ low. get-front hs (unheard ∷ []) unheard i low) (λ high. by high (cases_eq i (length hs)) ∙ sym (get_or_past hs i unheard high)) (parted i (length hs))
  where
    past : length hs ≤ i → i ≢ length hs → length hs + 1 ≤ i
    past high apart = grind (arith, high, apart)

    by : length hs ≤ i → (i ≡ length hs) ⊎ (i ≢ length hs) → get_or (hs ++ unheard ∷ []) i unheard ≡ unheard
    by high c = ⊎_elim (λ same. get_or_push hs unheard unheard i (sym same)) (λ apart. get_or_past (hs ++ unheard ∷ []) i unheard (omega (arith, past high apart, length-append hs (unheard ∷ [])))) c

pub tree_accept : (nodes : List Ripe) (size room : ℕ) (hs is : List Heard) → is ≡ hs ++ unheard ∷ [] → IsTree nodes size hs room → IsTree nodes size is room
tree_accept nodes size room hs is more t = record {
  twice = t.twice;
  power = t.power;
  enough = t.enough;
  joins = t.joins;
  leaves = λ i low. t.leaves i low ∙ ap ripe_of (sym (ap (λ (l : List Heard). get_or l i unheard) more ∙ row_more hs i));
}

-- a row that changed, with its leaf
pub tree_set : (nodes new : List Ripe) (size room k : ℕ) (hs js : List Heard) (x : Heard) (r : Ripe) → k < length hs → js ≡ slice_set hs k x → r ≡ ripe_of x → length new ≡ length nodes → AreJoined new size → ripe_at new (size + k) ≡ r
    → ((n : ℕ) → n ≢ k → ripe_at new (size + n) ≡ ripe_at nodes (size + n)) → IsTree nodes size hs room → IsTree new size js room
tree_set nodes new size room k hs js x r low set is same joins own others t = record {
  twice = same ∙ t.twice;
  power = t.power;
  enough = t.enough;
  joins = joins;
  leaves = λ i within. ⊎_elim (here i) (λ apart. others i apart ∙ t.leaves i within ∙ ap ripe_of (sym (ap (λ (l : List Heard). get_or l i unheard) set ∙ get_or-set_other hs k i x unheard apart))) (cases_eq i k);
}
  where
    here : (i : ℕ) → i ≡ k → ripe_at new (size + i) ≡ ripe_of (get_or js i unheard)
    here i at = ap (λ n. ripe_at new (size + n)) at ∙ own ∙ is ∙ ap ripe_of (sym (ap₂ (λ (l : List Heard) (n : ℕ). get_or l n unheard) set at ∙ get_or-set_same hs k x unheard low))

pub tree_fail : (nodes : List Ripe) (size room now : ℕ) (hs : List Heard) → now ≤ room → IsTree nodes size hs room → IsTree nodes size hs now
tree_fail nodes size room now hs less t = record { twice = t.twice; power = t.power; enough = omega (arith, less, t.enough); joins = t.joins; leaves = t.leaves }

-- no row yet
all_none : (n i : ℕ) → get_or (replicate n none_ripe) i none_ripe ≡ none_ripe
all_none zero i = refl
all_none (suc n) zero = refl
all_none (suc n) (suc i) = all_none n i

pub tree_new : (nodes : List Ripe) (size room times : ℕ) → nodes ≡ replicate (2 * size) none_ripe → length nodes ≡ 2 * size → size ≡ 2 ^ times → room ≤ size → IsTree nodes size [] room
tree_new nodes size room times is twice power enough = record {
  twice = twice;
  power = (times, power);
  enough = enough;
  joins = λ p up under. none p ∙ sym (ap₂ joined (none (2 * p)) (none (2 * p + 1)));
  leaves = λ i low. none (size + i);
}
  where
    none : (p : ℕ) → ripe_at nodes p ≡ none_ripe
    none p = ap (λ l. ripe_at l p) is ∙ all_none (2 * size) p
