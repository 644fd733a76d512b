-- The bytes of a directory's last block past its size.
use Rattle.std.proofs.Common.{◌≡◌, ℕ, zero, suc, ◌+◌, ◌-◌, ◌*◌, ◌/◌, ◌%◌, ◌<◌, ◌≤◌, true, List, [], ◌∷◌, ◌++◌, Some, length, get_or, take, drop, slice_get, refl, sym, ap, ◌∙◌, arith, take_all}
use Rattle.std.specs.List.{All}
use Rattle.std.proofs.lemmas.List.{length-append, length-drop, drop_at, drop-drop, drop_all}
use Rattle.std.proofs.lemmas.Option.{slice_get-get_or}
use Rattle.std.proofs.lemmas.List.Elements.{All-tail}
use Rattle.base_types.specs.Seal.{Blocks}
use Rattle.layout_bytes.specs.Bytes.{are_zeros}
use Rattle.crash_stands.specs.Files.{joined}

-- each of these blocks is whole
abbrev pub AreWhole : Blocks → List ℕ → Type 0
AreWhole m ps = All (λ b. length (m b) ≡ 1024) ps

first : (m : Blocks) (b : ℕ) (bs : List ℕ) → AreWhole m (b ∷ bs) → length (m b) ≡ 1024
first m b bs whole = whole 0 0 (omega arith)

pub joined_length : (m : Blocks) (ps : List ℕ) → AreWhole m ps → length (joined m ps) ≡ 1024 * length ps
joined_length m [] whole = refl
joined_length m (b ∷ bs) whole = omega (arith, length-append (m b) (joined m bs), joined_length m bs (All-tail (λ b. length (m b) ≡ 1024) b bs whole), first m b bs whole)

-- whole blocks have nothing behind them
pub nothing_past : (m : Blocks) (ps : List ℕ) (size : ℕ) → AreWhole m ps → size ≡ 1024 * length ps → are_zeros (drop size (joined m ps)) ≡ true
nothing_past m ps size whole is = ap are_zeros (drop_all size (joined m ps) (omega (arith, is, joined_length m ps whole)))

-- the bytes from one of the last block on
from_last : (m : Blocks) (ps : List ℕ) (i b used : ℕ) → AreWhole m ps → slice_get ps i ≡ Some b → length ps ≡ i + 1 → used ≤ 1024 → drop (1024 * i + used) (joined m ps) ≡ drop used (m b)
from_last m [] i b used whole at count fits = absurd cc
from_last m (p ∷ []) zero b used whole at count fits =
    let is : p ≡ b = cc in
    ap (λ k. drop k (m p ++ [])) {x = 1024 * 0 + used} {y = used} (omega arith) ∙ ap (drop used) (nothing (m p)) ∙ ap (λ q. drop used (m q)) is
  where
    nothing : (xs : List ℕ) → xs ++ [] ≡ xs
    nothing [] = refl
    nothing (x ∷ xs) = ap (λ ys. x ∷ ys) (nothing xs)
from_last m (p ∷ q ∷ ps) zero b used whole at count fits = absurd (omega (arith, count))
from_last m (p ∷ ps) (suc i) b used whole at count fits =
    let size : length (m p) ≡ 1024 = first m p ps whole in
    let rest : drop (1024 * i + used) (drop 1024 (m p ++ joined m ps)) ≡ drop (1024 * i + used) (joined m ps) = ap (λ xs. drop (1024 * i + used) xs) (drop_at (m p) (joined m ps) 1024 size) in
    ap (λ k. drop k (m p ++ joined m ps)) {x = 1024 * suc i + used} {y = 1024 + (1024 * i + used)} (omega arith)
    ∙ sym (drop-drop (1024 * i + used) 1024 (m p ++ joined m ps)) ∙ rest
    ∙ from_last m ps i b used (All-tail (λ b. length (m b) ≡ 1024) p ps whole) at (omega (arith, count)) fits

pub past_last : (m : Blocks) (ps : List ℕ) (i b size used : ℕ) → AreWhole m ps → slice_get ps i ≡ Some b → length ps ≡ (size + 1023) / 1024 → used ≡ size % 1024 → 0 < used → i ≡ length ps - 1
    → drop size (joined m ps) ≡ drop used (m b)
past_last m ps i b size used whole at count is some last =
    ap (λ k. drop k (joined m ps)) {x = size} {y = 1024 * i + used} (omega (arith, count, is, some, last))
    ∙ from_last m ps i b used whole at (omega (arith, count, is, some, last)) (omega (arith, is))

-- what is read of the last block
pub tail_read : (m : Blocks) (ps : List ℕ) (size used last : ℕ) (into : List ℕ) → AreWhole m ps → length ps ≡ (size + 1023) / 1024 → used ≡ size % 1024 → 0 < used → last ≡ length ps - 1
    → ((b : ℕ) → slice_get ps last ≡ Some b → length (m b) ≡ 1024 → into ≡ m b) → are_zeros (take (1024 - used) (drop used into)) ≡ are_zeros (drop size (joined m ps))
tail_read m ps size used last into whole count is some at read =
    let low : last < length ps = omega (arith, count, is, some, at) in
    let there : slice_get ps last ≡ Some (get_or ps last 0) = slice_get-get_or ps last 0 low in
    let long : length (m (get_or ps last 0)) ≡ 1024 = whole last 0 low in
    ap (λ (xs : List ℕ). are_zeros (take (1024 - used) (drop used xs))) (read (get_or ps last 0) there long)
    ∙ ap are_zeros (take_all (1024 - used) (drop used (m (get_or ps last 0))) (omega (arith, length-drop used (m (get_or ps last 0)), long)))
    ∙ ap are_zeros (sym (past_last m ps last (get_or ps last 0) size used whole there count is some at))
