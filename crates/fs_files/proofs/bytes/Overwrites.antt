-- Bytes over bytes within a list, over plain lists.
use Rattle.std.proofs.Common.{◌≡◌, ℕ, ◌+◌, ◌≤◌, List, ◌++◌, length, take, drop, arith, rules}
use Rattle.std.proofs.lemmas.List.{places, same_lists, length-append, length-take, length-drop}
use Rattle.fs_files.specs.Bytes.{overwrite}

-- the length stays
pub length-overwrite : (off : ℕ) (ys xs : List ℕ) → off + length ys ≤ length xs → length (overwrite off ys xs) ≡ length xs
length-overwrite off ys xs fits = omega (arith, length-append (take off xs) (ys ++ drop (off + length ys) xs), length-append ys (drop (off + length ys) xs), length-take off xs, length-drop (off + length ys) xs)

-- within the front
pub overwrite_front : (off : ℕ) (ys a b : List ℕ) → off + length ys ≤ length a → overwrite off ys (a ++ b) ≡ overwrite off ys a ++ b
overwrite_front off ys a b fits = same_lists _ _ (search (rules, places)) (λ k d h. grind (arith, places))

-- behind the front
pub overwrite_behind : (n off : ℕ) (ys a b : List ℕ) → length a ≡ n → overwrite (n + off) ys (a ++ b) ≡ a ++ overwrite off ys b
overwrite_behind n off ys a b is = same_lists _ _ (search (rules, places)) (λ k d h. grind (arith, places))

-- one piece more
pub overwrite_more : (off done count : ℕ) (ys xs : List ℕ) → off + length ys ≤ length xs → done + count ≤ length ys
    → overwrite (off + done) (take count (drop done ys)) (overwrite off (take done ys) xs) ≡ overwrite off (take (done + count) ys) xs
overwrite_more off done count ys xs fits within = same_lists _ _ (search (rules, places)) (λ k d h. grind (arith, places))

-- bytes over all of it
pub overwrite_whole : (off n : ℕ) (ys xs : List ℕ) → off + length ys ≤ n → length ys ≡ n → length xs ≡ n → overwrite off ys xs ≡ ys
overwrite_whole off n ys xs fits whole size = same_lists _ _ (search (rules, places)) (λ k d h. grind (arith, places))
