-- Bytes written over others, in one block and in blocks that are joined.
use Rattle.std.proofs.Common.{◌+◌, ◌-◌, ◌*◌, ◌≡◌, ◌<◌, ◌≤◌, ℕ, zero, suc, List, [], ◌∷◌, ◌++◌, length, take, drop, slice_index_or, refl, sym, ◌∙◌, ap, arith}
use Rattle.std.proofs.Math.Seq.{drop-append_seam}
use Rattle.std.proofs.lemmas.List.{length-take-le, length-drop, length-append, drop-drop, take-append-drop, take-append-le, drop-append-le, take_at, drop_at, take-take, drop-take}
use Rattle.std.specs.List.{concat}
use Rattle.base_types.specs.declared.layout.Layout.{Layout}
use Rattle.base_types.specs.Layouts.{slot_size, slot_block, slot_byte, slot_place}
use Rattle.base_types.specs.LayoutLaws.{slot_size_is, slot_within, slot_place_is}
use Rattle.layout_directory.specs.Directory.{slot_at, overwrite}

-- each block has 1,024 bytes
abbrev pub AreWhole : List (List ℕ) → Type 0
AreWhole blocks = (i : ℕ) → i < length blocks → length (slice_index_or blocks i []) ≡ 1024

-- the blocks behind the first are whole too
whole_rest : (x : List ℕ) (xs : List (List ℕ)) → AreWhole (x ∷ xs) → AreWhole xs
whole_rest x xs whole i low = whole (suc i) (omega arith)

-- so many blocks have so many bytes
pub joined_length : (blocks : List (List ℕ)) → AreWhole blocks → length (concat blocks) ≡ 1024 * length blocks
joined_length [] whole = refl
joined_length (x ∷ xs) whole =
    omega (arith, length-append x (concat xs), whole 0 (omega arith), joined_length xs (whole_rest x xs whole))

-- what lies behind some bytes and more of what follows them
pub drop_further : (xs ys : List ℕ) (n m : ℕ) → n ≡ length xs + m → drop n (xs ++ ys) ≡ drop m ys
drop_further xs ys n m e =
    ap (λ k. drop k (xs ++ ys)) e ∙ sym (drop-drop m (length xs) (xs ++ ys)) ∙ ap (drop m) (drop-append_seam xs ys)

-- bytes of one block among the joined ones
pub part_of_joined : (blocks : List (List ℕ)) (k from n : ℕ) → AreWhole blocks → k < length blocks → from + n ≤ 1024
    → take n (drop (1024 * k + from) (concat blocks)) ≡ take n (drop from (slice_index_or blocks k []))
part_of_joined [] k from n whole low fits = absurd (omega arith)
part_of_joined (x ∷ xs) zero from n whole low fits =
    let size = whole 0 (omega arith) in
    ap (λ i. take n (drop i (x ++ concat xs))) {x = 1024 * 0 + from} {y = from} (omega arith)
    ∙ ap (take n) (drop-append-le from x (concat xs) (omega (arith, size)))
    ∙ take-append-le n (drop from x) (concat xs) (omega (arith, size, length-drop from x))
part_of_joined (x ∷ xs) (suc k) from n whole low fits =
    ap (take n) (drop_further x (concat xs) (1024 * suc k + from) (1024 * k + from) (omega (arith, whole 0 (omega arith))))
    ∙ part_of_joined xs k from n (whole_rest x xs whole) (omega arith) fits

-- the bytes of a slot are those of its place in its block
pub slot_in_block : (l : Layout) (blocks : List (List ℕ)) (place : ℕ) → AreWhole blocks → slot_place l place + slot_size l ≤ 1024 * length blocks
    → take (slot_size l) (drop (slot_byte l place) (slice_index_or blocks (slot_block l place) [])) ≡ slot_at l place blocks
slot_in_block l blocks place whole within =
    sym (part_of_joined blocks (slot_block l place) (slot_byte l place) (slot_size l) whole (omega (arith, within, slot_place_is l place, slot_size_is l)) (slot_within l place))
    ∙ ap (λ i. take (slot_size l) (drop i (concat blocks))) (sym (slot_place_is l place))

-- bytes of the first of two lists
pub front_of : (xs ys : List ℕ) (q m : ℕ) → q + m ≤ length xs → take m (drop q (xs ++ ys)) ≡ take m (drop q xs)
front_of xs ys q m fits =
    ap (take m) (drop-append-le q xs ys (omega arith)) ∙ take-append-le m (drop q xs) ys (omega (arith, length-drop q xs))

-- bytes of a front of a list
pub front_same : (xs : List ℕ) (n q m : ℕ) → q + m ≤ n → n ≤ length xs → take m (drop q (take n xs)) ≡ take m (drop q xs)
front_same xs n q m fits long =
    sym (front_of (take n xs) (drop n xs) q m (omega (arith, fits, length-take-le n xs long)))
    ∙ ap (λ b. take m (drop q b)) (take-append-drop n xs)

-- bytes before those that were written are as they were
pub before_same : (b new : List ℕ) (at q m : ℕ) → at + length new ≤ length b → q + m ≤ at → take m (drop q (overwrite at new b)) ≡ take m (drop q b)
before_same b new at q m fits low =
    let front = length-take-le at b (omega arith) in
    front_of (take at b) (new ++ drop (at + length new) b) q m (omega (arith, front))
    ∙ ap (λ n. take m (drop q (take n b))) {x = at} {y = q + (at - q)} (omega arith)
    ∙ ap (take m) (drop-take q (at - q) b)
    ∙ take-take m (at - q) (drop q b) (omega arith)

-- and so are those behind them
pub behind_same : (b new : List ℕ) (at q m : ℕ) → at + length new ≤ length b → at + length new ≤ q → take m (drop q (overwrite at new b)) ≡ take m (drop q b)
behind_same b new at q m fits high =
    let front = length-take-le at b (omega arith) in
    let past = drop (at + length new) b in
    ap (take m) (drop_further (take at b) (new ++ past) q (q - at) (omega (arith, front))
    ∙ drop_further new past (q - at) (q - at - length new) (omega arith)
    ∙ drop-drop (q - at - length new) (at + length new) b
    ∙ ap (λ k. drop k b) {x = at + length new + (q - at - length new)} {y = q} (omega arith))

-- what was written is there
pub written_there : (b new : List ℕ) (at m : ℕ) → at + length new ≤ length b → length new ≡ m → take m (drop at (overwrite at new b)) ≡ new
written_there b new at m fits size =
    ap (take m) (drop_at (take at b) (new ++ drop (at + length new) b) at (length-take-le at b (omega arith))) ∙ take_at new (drop (at + length new) b) m size
