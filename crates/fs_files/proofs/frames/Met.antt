-- In how many blocks bytes lie.
use Rattle.std.proofs.Common.{◌≡◌, ℕ, ◌-◌, ◌*◌, ◌/◌, ◌≤◌, List, length, take, All, arith}
use Rattle.std.proofs.lemmas.List.{length-take-le, length-take, length-drop}
use Rattle.std.proofs.lemmas.Bool.Decides.{nat_tests}
use Rattle.fs_files.specs.Bytes.{blocks_for, met}
use Rattle.fs_files.proofs.drafts.Lists.{each_of}
use Rattle.fs_files.proofs.frames.Places.{all_of}
use Rattle.fs_files.proofs.bytes.Places.{met_in}

-- bytes within a list of blocks lie in those from the first one's block to the last one's
pub met_count : (lo hi : ℕ) (places : List ℕ) → hi ≤ 1024 * length places → length (met lo hi places) ≡ blocks_for hi - lo / 1024
met_count lo hi places within = grind (arith, nat_tests, length-take-le, length-drop)

-- bytes lie in no more of any blocks
pub met_most : (lo hi : ℕ) (places : List ℕ) → length (met lo hi places) ≤ blocks_for hi - lo / 1024
met_most lo hi places = omega (arith, length-take (blocks_for hi) places, length-drop (lo / 1024) (take (blocks_for hi) places))

-- what holds of all of the list holds of all of these
pub met_all : (P : ℕ → Type 0) (lo hi : ℕ) (places : List ℕ) → All P places → All P (met lo hi places)
met_all P lo hi places all = all_of P (met lo hi places) (λ b is. each_of P places all b (met_in lo hi places b is))
