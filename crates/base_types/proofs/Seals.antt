-- A seal that is behind the 992 bytes of a block.
use Rattle.std.proofs.Common.{◌≡◌, ℕ, ◌+◌, ◌++◌, List, length, take, drop, true, ap, ◌∙◌, arith, take_all, append-nil}
use Rattle.std.proofs.lemmas.List.{length-drop, drop_all}
use lib.Seq.{drop_at, length-take-le}
use borrow.Rule.Slice.PartMut.{mid_of, put_mid, take_put}
use Rattle.std.proofs.lemmas.Slice.Eq.{bytes_eq-Decides}
use Rattle.base_types.specs.Seal.{sha256, is_sealed}

-- what is borrowed of a block from byte a on is all the rest of it
pub rest_of : (a k : ℕ) (xs : List ℕ) → length xs ≡ a + k → mid_of a k xs ≡ drop a xs
rest_of a k xs h = take_all k (drop a xs) (omega (arith, length-drop a xs, h))

-- the bytes before a seal are as they were
pub before_seal : (a k : ℕ) (xs ys : List ℕ) → length xs ≡ a + k → take a (put_mid a k xs ys) ≡ take a xs
before_seal a k xs ys h = take_put a k xs ys (omega (arith, h))

-- and the seal is behind them
pub seal_stands : (a k : ℕ) (xs ys : List ℕ) → length xs ≡ a + k → drop a (put_mid a k xs ys) ≡ ys
seal_stands a k xs ys h =
    drop_at (take a xs) (ys ++ drop k (drop a xs)) a (length-take-le a xs (omega (arith, h)))
    ∙ ap (λ rest. ys ++ rest) (drop_all k (drop a xs) (omega (arith, length-drop a xs, h)))
    ∙ append-nil ys

-- bytes whose last ones are the digest of the others are sealed
pub sealed_by : (block seal : List ℕ) → drop 992 block ≡ seal → seal ≡ sha256 (take 992 block) → is_sealed block ≡ true
sealed_by block seal p q = (bytes_eq-Decides (drop 992 block) (sha256 (take 992 block))).1 (p ∙ q)
