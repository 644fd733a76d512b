-- Bytes written over those of a node's blocks js, which have outside of the bytes what its old ones xs had, and zeros behind these.
use Rattle.std.proofs.Common.{◌≡◌, ℕ, ◌+◌, ◌-◌, ◌<◌, ◌≤◌, IsTrue, List, length, take, drop, get_or, replicate, min, max, arith, rules, ⊎_elim}
use Rattle.std.proofs.lemmas.Bool.{cases_lt}
use Rattle.std.proofs.lemmas.List.{places, same_lists}
use Rattle.layout_bytes.specs.Bytes.{are_zeros}
use Rattle.lang_tree.specs.Step.{written}
use Rattle.fs_files.specs.Bytes.{overwrite}
use Rattle.fs_files.proofs.bytes.Tails.{zero_past, zeros_from}

-- from within the file or its end on
pub over_within : (size off : ℕ) (ys xs js : List ℕ) → size ≤ length xs → off ≤ size → off + length ys ≤ length js → length xs ≤ length js
    → ((i z : ℕ) → i < off → get_or js i z ≡ get_or xs i z) → ((i z : ℕ) → off + length ys ≤ i → i < length xs → get_or js i z ≡ get_or xs i z)
    → take (max size (off + length ys)) (overwrite off ys js) ≡ written off ys (take size xs)
over_within size off ys xs js fits within ends more front back = same_lists _ _ (search (rules, places)) (λ k d h. grind (arith, places, front k d, back k d))

-- past its end, once the gap within its old blocks was filled with zeros
pub over_past : (size off room : ℕ) (ys xs js : List ℕ) → length xs ≡ room → size ≤ room → size < off → off + length ys ≤ length js → room ≤ length js
    → ((i z : ℕ) → i < size → get_or js i z ≡ get_or xs i z) → ((i z : ℕ) → room ≤ i → i < length js → get_or js i z ≡ 0)
    → take (max size (off + length ys)) (overwrite off ys (overwrite size (replicate (min off room - size) 0) js)) ≡ written off ys (take size xs)
over_past size off room ys xs js is fits past ends more front zeros = same_lists _ _ (search (rules, places)) (λ k d h. grind (arith, places, front k d, zeros k d))

-- zeros over zeros are none
pub over_zeros : (size n : ℕ) (js : List ℕ) → size + n ≤ length js → ((i z : ℕ) → size ≤ i → i < size + n → get_or js i z ≡ 0) → overwrite size (replicate n 0) js ≡ js
over_zeros size n js fits zeros = same_lists _ _ (search (rules, places)) (λ k d h. grind (arith, places, zeros k d))

-- What is past the end is zeros, if it was.

zero_then : (size from room : ℕ) (xs js : List ℕ) → IsTrue (are_zeros (drop size xs)) → length xs ≡ room → size ≤ from
    → ((i z : ℕ) → from ≤ i → i < room → get_or js i z ≡ get_or xs i z) → ((i z : ℕ) → room ≤ i → i < length js → get_or js i z ≡ 0) → (i : ℕ) → from ≤ i → i < length js → get_or js i 0 ≡ 0
zero_then size from room xs js tail is late back zeros i high low = ⊎_elim (λ here. grind (arith, back i 0, zero_past size xs tail i))
    (λ behind. zeros i 0 behind low)
    (cases_lt i room)

pub tail_within : (size off room : ℕ) (ys xs js : List ℕ) → IsTrue (are_zeros (drop size xs)) → length xs ≡ room → off + length ys ≤ length js → room ≤ length js
    → ((i z : ℕ) → off + length ys ≤ i → i < room → get_or js i z ≡ get_or xs i z) → ((i z : ℕ) → room ≤ i → i < length js → get_or js i z ≡ 0)
    → IsTrue (are_zeros (drop (max size (off + length ys)) (overwrite off ys js)))
tail_within size off room ys xs js tail is ends more back zeros = zeros_from (drop (max size (off + length ys)) (overwrite off ys js)) (λ k l. each k l)
  where
    each : (k : ℕ) → k < length (drop (max size (off + length ys)) (overwrite off ys js)) → get_or (drop (max size (off + length ys)) (overwrite off ys js)) k 0 ≡ 0
    each k l = grind (arith, places, zero_then size (max size (off + length ys)) room xs js tail is (omega arith) (λ i z high low. back i z (omega (arith, high)) low) zeros (max size (off + length ys) + k) (omega arith))

pub tail_past : (size off room : ℕ) (ys xs js : List ℕ) → IsTrue (are_zeros (drop size xs)) → length xs ≡ room → size ≤ room → size < off → off + length ys ≤ length js → room ≤ length js
    → ((i z : ℕ) → off + length ys ≤ i → i < room → get_or js i z ≡ get_or xs i z) → ((i z : ℕ) → room ≤ i → i < length js → get_or js i z ≡ 0)
    → IsTrue (are_zeros (drop (max size (off + length ys)) (overwrite off ys (overwrite size (replicate (min off room - size) 0) js))))
tail_past size off room ys xs js tail is fits past ends more back zeros = zeros_from (drop (max size (off + length ys)) (overwrite off ys (overwrite size (replicate (min off room - size) 0) js))) (λ k l. each k l)
  where
    each : (k : ℕ) → k < length (drop (max size (off + length ys)) (overwrite off ys (overwrite size (replicate (min off room - size) 0) js))) → get_or (drop (max size (off + length ys)) (overwrite off ys (overwrite size (replicate (min off room - size) 0) js))) k 0 ≡ 0
    each k l = grind (arith, places, zero_then size (max size (off + length ys)) room xs js tail is (omega arith) (λ i z high low. back i z (omega (arith, high)) low) zeros (max size (off + length ys) + k) (omega arith))
