-- What the source in memory copies out is the front of what was left.
use Rattle.std.proofs.Common.{◌≡◌, ℕ, ◌+◌, ◌-◌, ◌<◌, ◌≤◌, min, List, [], ◌++◌, length, take, drop, sym, ap, ◌∙◌, arith, length-append, length-drop, length-take-le, take_at, drop_of_length-le}
use Rattle.std.proofs.lemmas.List.{drop-drop, take-append-drop}

pub gave_front : (bytes copied rest : List ℕ) (place n : ℕ) → n ≤ length bytes - place → copied ≡ take (place + n - place) (drop place bytes)
    → drop place bytes ≡ take n (copied ++ rest) ++ drop (place + n) bytes
gave_front bytes copied rest place n fits is =
    let left = drop place bytes in
    let same : place + n - place ≡ n = omega arith in
    let front : copied ≡ take n left = is ∙ ap (λ k. take k left) same in
    let long : n ≤ length left = omega (arith, length-drop place bytes) in
    let size : length copied ≡ n = ap length front ∙ length-take-le n left long in
    sym (ap (λ l. l ++ drop (place + n) bytes) (take_at copied rest n size ∙ front) ∙ ap (λ l. take n left ++ l) (sym (drop-drop n place bytes)) ∙ take-append-drop n left)

pub gave_end : (bytes copied into : List ℕ) (place most n : ℕ) → 0 < most → n ≡ min (min (length into) most) (length bytes - place)
    → length copied ≡ n → n ≡ 0 → 0 < length (copied ++ drop n into) → drop (place + n) bytes ≡ []
gave_end bytes copied into place most n some is size none room =
    drop_of_length-le bytes (omega (arith, is, length-append copied (drop n into), length-drop n into))
