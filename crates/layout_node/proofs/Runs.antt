-- Runs and their bytes, each from the other.
use Rattle.std.proofs.Common.{◌≡◌, ℕ, zero, suc, ◌+◌, ◌*◌, ◌^◌, ◌<◌, ◌≤◌, List, [], ◌∷◌, ◌++◌, length, drop, refl, sym, ap, ap₂, ◌∙◌, arith, append_assoc, drop-drop, length-drop}
use Rattle.std.specs.List.{All}
use Rattle.byteorder.specs.Endian.{little_bytes}
use Rattle.byteorder.specs.Numbers.{little_number-reads_back, little_from-lt}
use Rattle.base_types.specs.declared.places.Run.{Run}
use Rattle.layout_bytes.specs.Bytes.{field, NumbersAreTold}
use Rattle.layout_bytes.specs.Node.{runs_in, run_bytes}
use Rattle.layout_node.proofs.Fields.{AreBytes, bytes_drop}

-- the numbers of each run have room in four bytes
abbrev pub RunsHaveRoom : List Run → Type 0
RunsHaveRoom rs = All (λ (r : Run). (r.first < 256 ^ 4) × (r.count < 256 ^ 4)) rs

pub runs_length : (n : ℕ) (b : List ℕ) → length (runs_in n b) ≡ n
runs_length zero b = refl
runs_length (suc n) b = ap suc (runs_length n (drop 8 b))

pub bytes_length : (rs : List Run) → length (run_bytes rs) ≡ 8 * length rs
bytes_length [] = refl
bytes_length (r ∷ rs) = omega (arith, bytes_length rs)

-- runs in bytes have room
pub runs_room : (n : ℕ) (b : List ℕ) → AreBytes b → RunsHaveRoom (runs_in n b)
runs_room zero b low k d more = absurd (omega arith)
runs_room (suc n) b low zero d more = (little_from-lt 0 4 b low, little_from-lt 0 4 (drop 4 b) (bytes_drop 4 b low))
runs_room (suc n) b low (suc k) d more = runs_room n (drop 8 b) (bytes_drop 8 b low) k d (omega arith)

-- a run of numbers that are each another's is that one
run_from : (r : Run) (first count : ℕ) → first ≡ r.first → count ≡ r.count → ◌≡◌ {A = Run} (record { first = first; count = count }) r
run_from r first count f c = rw (f, c) refl

-- runs that were written read as themselves
pub runs_read : (rs : List Run) (rest : List ℕ) → RunsHaveRoom rs → runs_in (length rs) (run_bytes rs ++ rest) ≡ rs
runs_read [] rest room = refl
runs_read (r ∷ rs) rest room =
    let own = room 0 r (omega arith) in
    ap₂ (λ (x : Run) (xs : List Run). x ∷ xs)
    (run_from r _ _ (little_number-reads_back 4 r.first [] own.0) (little_number-reads_back 4 r.count [] own.1))
    (runs_read rs rest (λ k d more. room (suc k) d (omega arith)))

-- the bytes of the runs in some bytes are those bytes
pub runs_again : NumbersAreTold → (n : ℕ) (b : List ℕ) → 8 * n ≤ length b → AreBytes b → b ≡ run_bytes (runs_in n b) ++ drop (8 * n) b
runs_again numbers_are zero b few low = refl
runs_again numbers_are (suc n) b few low =
    let first = numbers_are 4 b (omega (arith, few)) low in
    let count = numbers_are 4 (drop 4 b) (omega (arith, few, length-drop 4 b)) (bytes_drop 4 b low) in
    let rest = runs_again numbers_are n (drop 8 b) (omega (arith, few, length-drop 8 b)) (bytes_drop 8 b low) in
    joined b (drop 4 b) (drop 8 b) (drop (8 * suc n) b) (little_bytes 4 (field b 0 4)) (little_bytes 4 (field b 4 4)) (run_bytes (runs_in n (drop 8 b)))
    first (count ∙ ap (λ xs. little_bytes 4 (field b 4 4) ++ xs) (drop-drop 4 4 b))
    (rest ∙ ap (λ xs. run_bytes (runs_in n (drop 8 b)) ++ xs) (drop-drop (8 * n) 8 b ∙ ap (λ k. drop k b) {x = 8 + 8 * n} {y = 8 * suc n} (omega arith)))
  where
    joined : (b b4 b8 end first count rest : List ℕ) → b ≡ first ++ b4 → b4 ≡ count ++ b8 → b8 ≡ rest ++ end → b ≡ (first ++ (count ++ rest)) ++ end
    joined b b4 b8 end first count rest e f g =
        e ∙ ap (λ xs. first ++ xs) (f ∙ ap (λ xs. count ++ xs) g ∙ sym (append_assoc count rest end)) ∙ sym (append_assoc first (count ++ rest) end)
