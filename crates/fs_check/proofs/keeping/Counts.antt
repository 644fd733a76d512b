-- How many snapshots keep a block: one node more, and one block that is met.
use Rattle.std.proofs.Common.{◌≡◌, ◌⊎◌, inl, inr, ◌↔◌, ℕ, zero, suc, ◌+◌, ◌-◌, ◌<◌, ◌≤◌, ◌==◌, Bool, true, false, cond, List, [], ◌∷◌, length, filter, refl, sym, ap, ◌∙◌, arith, if◌then◌else◌}
use Rattle.std.specs.List.{range_with_len}
use Rattle.std.proofs.lemmas.Bool.{cases_Bool, eq-eqb, eqb-true, false≢true}
use Rattle.base_types.specs.Seal.{Blocks}
use Rattle.layout_geometry.specs.Geometry.{Geometry}
use Rattle.layout_bitmap.specs.Bits.{BitBecomes}
use Rattle.layout_bytes.specs.Bitmap.{bit_in}
use Rattle.fs_files.specs.Shared.{SetsKeepers, keepers}
use Rattle.fs_snapshots.specs.Known.{keeps_block}
use Rattle.fs_check.specs.KeptMeeting.{CountsMet, HasRoomToCount}
use Rattle.fs_check.specs.Snapshots.{KeepsBlock, keepers_below}
use Rattle.fs_check.proofs.sound.Nodes.{used_is}

-- The law that is used: a node is counted for a block just where it is a snapshot that keeps it.
abbrev pub Each : Type 0
Each = (g : Geometry) (m : Blocks) (b k : ℕ) → (keeps_block g m b k ≡ true) ↔ KeepsBlock g m k b

-- how many of the n numbers from a on pass
abbrev passing : (ℕ → Bool) → ℕ → ℕ → ℕ
passing p a n = length (filter p (range_with_len a n))

one_or_none : (b : Bool) (a n : ℕ) (xs : List ℕ) → length xs ≡ n → length (cond b (a ∷ xs) xs) ≡ n + cond b 1 0
one_or_none true a n xs long = omega (arith, long)
one_or_none false a n xs long = omega (arith, long)

-- one number more
one_more : (p : ℕ → Bool) (a n : ℕ) → passing p a (suc n) ≡ passing p a n + cond (p (a + n)) 1 0
one_more p a zero = one_or_none (p a) a 0 [] refl ∙ ap (λ j. 0 + cond {A = ℕ} (p j) 1 0) {x = a} {y = a + 0} (omega arith)
one_more p a (suc n) = by (p a) (one_more p (a + 1) n ∙ ap (λ j. passing p (a + 1) n + cond (p j) 1 0) {x = a + 1 + n} {y = a + suc n} (omega arith))
  where
    by : (b : Bool) → passing p (a + 1) (suc n) ≡ passing p (a + 1) n + cond (p (a + suc n)) 1 0
        → length (cond b (a ∷ filter p (range_with_len (a + 1) (suc n))) (filter p (range_with_len (a + 1) (suc n)))) ≡ length (cond b (a ∷ filter p (range_with_len (a + 1) n)) (filter p (range_with_len (a + 1) n))) + cond (p (a + suc n)) 1 0
    by true rest = omega (arith, rest)
    by false rest = omega (arith, rest)

at_node : (p : ℕ → Bool) (k : ℕ) → 1 ≤ k → passing p 1 (k + 1 - 1) ≡ passing p 1 (k - 1) + cond (p k) 1 0
at_node p k from =
    ap (passing p 1) {x = k + 1 - 1} {y = suc (k - 1)} (omega (arith, from)) ∙ one_more p 1 (k - 1) ∙ ap (λ j. passing p 1 (k - 1) + cond (p j) 1 0) {x = 1 + (k - 1)} {y = k} (omega (arith, from))

-- none of the numbers passes
none_pass : (p : ℕ → Bool) (a n : ℕ) → ((k : ℕ) → a ≤ k → k < a + n → p k ≡ false) → passing p a n ≡ 0
none_pass p a zero fails = refl
none_pass p a (suc n) fails =
    ap (λ t. length (cond t (a ∷ filter p (range_with_len (a + 1) n)) (filter p (range_with_len (a + 1) n)))) (fails a (omega arith) (omega arith)) ∙ none_pass p (a + 1) n (λ k from low. fails k (omega (arith, from)) (omega (arith, low)))

isnt : Each → (g : Geometry) (m : Blocks) (b k : ℕ) → (KeepsBlock g m k b → ⊥) → keeps_block g m b k ≡ false
isnt each g m b k none = by (keeps_block g m b k) refl
  where
    by : (t : Bool) → keeps_block g m b k ≡ t → keeps_block g m b k ≡ false
    by true e = absurd (none ((each g m b k).0 e))
    by false e = e

-- where no node below `bound` is a snapshot none keeps a block
pub none_below : Each → (g : Geometry) (m : Blocks) (bound b : ℕ) → ((k : ℕ) → k < bound → KeepsBlock g m k b → ⊥) → keepers_below g m bound b ≡ 0
none_below each g m bound b none = none_pass (keeps_block g m b) 1 (bound - 1) (λ k from low. isnt each g m b k (none k (omega (arith, from, low))))

-- node k keeps the block too
pub keeps_more : Each → (g : Geometry) (m : Blocks) (k b n : ℕ) → KeepsBlock g m k b → n ≡ keepers_below g m k b → n + 1 ≡ keepers_below g m (k + 1) b
keeps_more each g m k b n keeps is =
    let used = used_is g m keeps.0.snapshot keeps.0.node keeps.0.is_node in
    let from = used.from in
    let number = keeps.1 in
    ap (λ j. j + 1) is ∙ sym (at_node (keeps_block g m b) k (omega (arith, from, number)) ∙ ap (λ t. keepers_below g m k b + cond t 1 0) ((each g m b k).1 keeps))

-- node k doesn't
pub keeps_as_many : Each → (g : Geometry) (m : Blocks) (k b n : ℕ) → (KeepsBlock g m k b → ⊥) → n ≡ keepers_below g m k b → n ≡ keepers_below g m (k + 1) b
keeps_as_many each g m zero b n none is = is
keeps_as_many each g m (suc k) b n none is =
    is ∙ plus (keepers_below g m (suc k) b) ∙ sym (at_node (keeps_block g m b) (suc k) (omega arith) ∙ ap (λ t. keepers_below g m (suc k) b + cond t 1 0) (isnt each g m b (suc k) none))
  where
    plus : (j : ℕ) → j ≡ j + 0
    plus j = omega arith

-- One block more is met, and has one keeper more.

bit_new : (met new : Blocks) (b c : ℕ) → BitBecomes met new b true → (c == b) ≡ true → bit_in new c ≡ true
bit_new met new b c becomes e = becomes c ∙ ap (λ t. if t then true else bit_in met c) e

bit_old : (met new : Blocks) (b c : ℕ) → BitBecomes met new b true → (c == b) ≡ false → bit_in new c ≡ bit_in met c
bit_old met new b c becomes e = becomes c ∙ ap (λ t. if t then true else bit_in met c) e

plus_one : (x y z w : ℕ) → x ≡ y + 1 → y ≡ z + 0 → z ≡ w → x ≡ w + 1
plus_one x y z w e f h = omega (arith, e, f, h)

pub counts_more : (met new : Blocks) (b : ℕ) (before old counts : List ℕ) → bit_in met b ≡ false → BitBecomes met new b true → SetsKeepers b (keepers old b + 1) old counts → CountsMet met before old → CountsMet new before counts
counts_more met new b before old counts unmet becomes sets so_far c = by (cases_Bool (c == b))
  where
    by : ((c == b) ≡ true) ⊎ ((c == b) ≡ false) → keepers counts c ≡ keepers before c + (if bit_in new c then 1 else 0)
    by (inl same) =
        let e : c ≡ b = eqb-true c b same in
        plus_one (keepers counts c) (keepers old b) (keepers before b) (keepers before c) (ap (keepers counts) e ∙ sets.here)
        (so_far b ∙ ap (λ t. keepers before b + (if t then 1 else 0)) unmet) (ap (keepers before) (sym e))
        ∙ ap (λ t. keepers before c + (if t then 1 else 0)) (sym (bit_new met new b c becomes same))
    by (inr other) = sets.others c (λ e. false≢true (sym other ∙ eq-eqb c b e)) ∙ so_far c ∙ ap (λ t. keepers before c + (if t then 1 else 0)) (sym (bit_old met new b c becomes other))

pub room_more : (g : Geometry) (met new : Blocks) (b : ℕ) (old counts : List ℕ) → HasRoomToCount g met old → BitBecomes met new b true → SetsKeepers b (keepers old b + 1) old counts → HasRoomToCount g new counts
room_more g met new b old counts has becomes sets = record { room = sets.room ∙ has.room; few = λ c unmet. few c unmet (cases_Bool (c == b)) }
  where
    few : (c : ℕ) → bit_in new c ≡ false → ((c == b) ≡ true) ⊎ ((c == b) ≡ false) → keepers counts c < 65535
    few c unmet (inl same) = absurd (false≢true (sym unmet ∙ bit_new met new b c becomes same))
    few c unmet (inr other) =
        let low = has.few c (sym (bit_old met new b c becomes other) ∙ unmet) in
        let e = sets.others c (λ is. false≢true (sym other ∙ eq-eqb c b is)) in omega (arith, low, e)
