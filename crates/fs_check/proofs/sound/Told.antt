-- Where the map of blocks is defined, when no block is bare.
use Rattle.std.proofs.Common.{◌≡◌, ℕ, ◌<◌, ◌≤◌, true, not, ◌&&◌, ◌||◌, nat_le, nat_lt, List, length, get_or, ap, subst, ◌∙◌, arith}
use Rattle.std.specs.List.{All}
use Rattle.std.proofs.lemmas.Bool.{and_from, le-leb, lt-ltb, or_left, or_right}
use Rattle.engine_blocks.specs.Crashes.{IsTold}
use Rattle.engine_blocks.specs.Puts.{IsData}
use Rattle.engine_blocks.specs.Running.{HasNoBare, is_bare}
use Rattle.engine_blocks.specs.State.{Bookkeeping, State, is_defined}
use Rattle.layout_geometry.specs.Geometry.{Geometry, bitmap_start, data_start}
use Rattle.layout_bytes.specs.Bitmap.{is_set}
use Rattle.fs_check.proofs.sound.Tails.{AreWhole}

-- on the bitmap and the node table
pub defined_front : (k : Bookkeeping) (b : ℕ) → bitmap_start k.geom ≤ b → b < data_start k.geom → is_defined k b ≡ true
defined_front k b low high =
    and_from (nat_le (bitmap_start k.geom) b) (nat_lt b (data_start k.geom) || (nat_lt b k.geom.n && (k.marked b && not (is_bare (k.running.roles b))))) (le-leb (bitmap_start k.geom) b low)
    (or_left (nat_lt b (data_start k.geom)) (nat_lt b k.geom.n && (k.marked b && not (is_bare (k.running.roles b)))) (lt-ltb b (data_start k.geom) high))

-- on each data block whose bit is set
pub defined_data : (s : State) (b : ℕ) → HasNoBare s.books.running → IsTold s → IsData s.books.geom b → is_set s.books.geom s.map b ≡ true → is_defined s.books b ≡ true
defined_data s b none told is marked =
    let here : (s.books.marked b && not (is_bare (s.books.running.roles b))) ≡ true =
    and_from (s.books.marked b) (not (is_bare (s.books.running.roles b))) (told.bits b is.below ∙ marked) (ap not (none b)) in
    and_from (nat_le (bitmap_start s.books.geom) b) (nat_lt b (data_start s.books.geom) || (nat_lt b s.books.geom.n && (s.books.marked b && not (is_bare (s.books.running.roles b))))) (le-leb (bitmap_start s.books.geom) b (omega (arith, is.from)))
    (or_right (nat_lt b (data_start s.books.geom)) (nat_lt b s.books.geom.n && (s.books.marked b && not (is_bare (s.books.running.roles b))))
    (and_from (nat_lt b s.books.geom.n) (s.books.marked b && not (is_bare (s.books.running.roles b))) (lt-ltb b s.books.geom.n is.below) here))

-- the same where the geometry is told apart
pub defined_at : (s : State) (g : Geometry) (b : ℕ) → s.books.geom ≡ g → HasNoBare s.books.running → IsTold s → IsData g b → is_set g s.map b ≡ true → is_defined s.books b ≡ true
defined_at s g b same none told = subst (λ (h : Geometry). IsData h b → is_set h s.map b ≡ true → is_defined s.books b ≡ true) same (defined_data s b none told)

whole_data : (s : State) (b : ℕ) → HasNoBare s.books.running → IsTold s → IsData s.books.geom b → is_set s.books.geom s.map b ≡ true → length (s.map b) ≡ 1024
whole_data s b none told is marked = told.whole b is.below (defined_data s b none told is marked)

pub whole_at : (s : State) (g : Geometry) (b : ℕ) → s.books.geom ≡ g → HasNoBare s.books.running → IsTold s → IsData g b → is_set g s.map b ≡ true → length (s.map b) ≡ 1024
whole_at s g b same none told = subst (λ (h : Geometry). IsData h b → is_set h s.map b ≡ true → length (s.map b) ≡ 1024) same (whole_data s b none told)

-- marked data blocks are whole
pub whole_marked : (s : State) (g : Geometry) (places : List ℕ) → s.books.geom ≡ g → HasNoBare s.books.running → IsTold s → All (IsData g) places → All (λ b. is_set g s.map b ≡ true) places → AreWhole s.map places
whole_marked s g places same none told all marked = λ i d low. whole_at s g (get_or places i d) same none told (all i d low) (marked i d low)
