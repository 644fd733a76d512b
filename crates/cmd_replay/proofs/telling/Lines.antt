-- A line of a listing tells its path, its number and its node, and where it ends.
use Rattle.std.proofs.Common.{◌≡◌, sym, ap, refl, ◌∙◌, arith, ℕ, ◌<◌, ◌≤◌, ◌^◌, true, List, [], ◌∷◌, ◌++◌, drop, get_or, length, Some, decimal, codes, append_assoc}
use Rattle.std.proofs.lemmas.Fmt.{decimal_injective}
use Rattle.std.specs.List.{list_all}
use Rattle.base_types.specs.Name.{is_name}
use Rattle.lang_tree.specs.Listing.{path_text, digits_behind_blank, line_of}
use Rattle.lang_tree.specs.Tree.{Thing, Dir, File}
use Rattle.cmd_replay.proofs.telling.Texts.{AreBytes, cut, number_part, path_part, path_same, bytes_same, behind_low}

-- the pieces of a line, grouped from the right

dir_text : (a p d r : List ℕ) → (a ++ p ++ codes " " ++ d ++ codes "\n") ++ r ≡ a ++ (p ++ 32 ∷ (d ++ 10 ∷ r))
dir_text a p d r =
    append_assoc (a ++ p ++ codes " " ++ d) (codes "\n") r
    ∙ append_assoc (a ++ p ++ codes " ") d (10 ∷ r)
    ∙ append_assoc (a ++ p) (codes " ") (d ++ 10 ∷ r)
    ∙ append_assoc a p (32 ∷ (d ++ 10 ∷ r))

file_text : (a p d l b r : List ℕ) → (a ++ p ++ codes " " ++ d ++ codes " " ++ l ++ b ++ codes "\n") ++ r ≡ a ++ (p ++ 32 ∷ (d ++ 32 ∷ (l ++ (b ++ 10 ∷ r))))
file_text a p d l b r =
    append_assoc (a ++ p ++ codes " " ++ d ++ codes " " ++ l ++ b) (codes "\n") r
    ∙ append_assoc (a ++ p ++ codes " " ++ d ++ codes " " ++ l) b (10 ∷ r)
    ∙ append_assoc (a ++ p ++ codes " " ++ d ++ codes " ") l (b ++ 10 ∷ r)
    ∙ append_assoc (a ++ p ++ codes " " ++ d) (codes " ") (l ++ (b ++ 10 ∷ r))
    ∙ append_assoc (a ++ p ++ codes " ") d (32 ∷ (l ++ (b ++ 10 ∷ r)))
    ∙ append_assoc (a ++ p) (codes " ") (d ++ 32 ∷ (l ++ (b ++ 10 ∷ r)))
    ∙ append_assoc a p (32 ∷ (d ++ 32 ∷ (l ++ (b ++ 10 ∷ r))))

abbrev behind_number : Thing → List ℕ → List ℕ
behind_number Dir r = 10 ∷ r
behind_number (File bytes) r = 32 ∷ (decimal (length bytes) ++ (digits_behind_blank bytes ++ 10 ∷ r))

abbrev word : Thing → List ℕ
word Dir = codes "dir "
word (File bytes) = codes "file "

pieces : (p : List (List ℕ)) (n : ℕ) (x : Thing) (r : List ℕ) → line_of p n (Some x) ++ r ≡ word x ++ (path_text p ++ 32 ∷ (decimal n ++ behind_number x r))
pieces p n Dir r = dir_text (codes "dir ") (path_text p) (decimal n) r
pieces p n (File bytes) r = file_text (codes "file ") (path_text p) (decimal n) (decimal (length bytes)) (digits_behind_blank bytes) r

other_word : (r s : List ℕ) → codes "dir " ++ r ≡ codes "file " ++ s → ⊥
other_word r s e =
    let first : 100 ≡ 102 = ap (λ l. get_or l 0 0) e in
    absurd (omega (arith, first))

-- a line isn't nothing
pub some_line : (p : List (List ℕ)) (n : ℕ) (x : Thing) (r : List ℕ) → line_of p n (Some x) ++ r ≡ [] → ⊥
some_line p n Dir r e = absurd (cc (sym (pieces p n Dir r) ∙ e))
some_line p n (File bytes) r e = absurd (cc (sym (pieces p n (File bytes) r) ∙ e))

-- nor does it begin as that of a snapshot
pub other_start : (p : List (List ℕ)) (n : ℕ) (x : Thing) (r s : List ℕ) → line_of p n (Some x) ++ r ≡ codes "snap " ++ s → ⊥
other_start p n Dir r s e =
    let first : 100 ≡ 115 = ap (λ l. get_or l 0 0) (sym (pieces p n Dir r) ∙ e) in
    absurd (omega (arith, first))
other_start p n (File bytes) r s e =
    let first : 102 ≡ 115 = ap (λ l. get_or l 0 0) (sym (pieces p n (File bytes) r) ∙ e) in
    absurd (omega (arith, first))

-- the bytes of what is a file are bytes
abbrev pub ThingBytes : Thing → Type 0
ThingBytes Dir = Unit {0}
ThingBytes (File bytes) = AreBytes bytes

-- what stands before a number's end
front : (p q : List (List ℕ)) (n m : ℕ) (r s : List ℕ) (b c : ℕ) → b ≤ 32 → c ≤ 32 → list_all is_name p ≡ true → list_all is_name q ≡ true → n < 2 ^ 64 → m < 2 ^ 64
    → path_text p ++ 32 ∷ (decimal n ++ b ∷ r) ≡ path_text q ++ 32 ∷ (decimal m ++ c ∷ s) → (p ≡ q) × (n ≡ m) × (b ∷ r ≡ c ∷ s)
front p q n m r s b c low down h k small tiny e =
    let paths = cut (path_text p) (path_text q) (32 ∷ (decimal n ++ b ∷ r)) (32 ∷ (decimal m ++ c ∷ s)) (path_part p h) (path_part q k) (omega arith) (omega arith) e in
    let numbers = cut (decimal n) (decimal m) (b ∷ r) (c ∷ s) (number_part n) (number_part m) low down (ap (drop 1) paths.1) in
    (path_same p q h k paths.0, decimal_injective n m small tiny numbers.0, numbers.1)

file_tells : (xs ys r s : List ℕ) → AreBytes xs → decimal (length xs) ++ (digits_behind_blank xs ++ 10 ∷ r) ≡ decimal (length ys) ++ (digits_behind_blank ys ++ 10 ∷ s)
    → (xs ≡ ys) × (r ≡ s)
file_tells xs ys r s h e =
    let behind = cut (decimal (length xs)) (decimal (length ys)) (digits_behind_blank xs ++ 10 ∷ r) (digits_behind_blank ys ++ 10 ∷ s)
    (number_part (length xs)) (number_part (length ys)) (behind_low xs r) (behind_low ys s) e in
    bytes_same xs ys r s h behind.1

-- what a line tells
pub record SameLine (p q : List (List ℕ)) (n m : ℕ) (x y : Thing) (r s : List ℕ) : Type 0 where
  pub path : p ≡ q
  pub number : n ≡ m
  pub thing : x ≡ y
  pub rest : r ≡ s

pub line_same : (p q : List (List ℕ)) (n m : ℕ) (x y : Thing) (r s : List ℕ) → list_all is_name p ≡ true → list_all is_name q ≡ true → n < 2 ^ 64 → m < 2 ^ 64
    → ThingBytes x → line_of p n (Some x) ++ r ≡ line_of q m (Some y) ++ s → SameLine p q n m x y r s
line_same p q n m Dir Dir r s h k small tiny bytes e =
    let all = sym (pieces p n Dir r) ∙ e ∙ pieces q m Dir s in
    let same = front p q n m r s 10 10 (omega arith) (omega arith) h k small tiny (ap (drop 4) all) in
    record { path = same.0; number = same.1; thing = refl; rest = ap (drop 1) same.2 }
line_same p q n m Dir (File ys) r s h k small tiny bytes e = absurd (other_word _ _ (sym (pieces p n Dir r) ∙ e ∙ pieces q m (File ys) s))
line_same p q n m (File xs) Dir r s h k small tiny bytes e = absurd (other_word _ _ (sym (sym (pieces p n (File xs) r) ∙ e ∙ pieces q m Dir s)))
line_same p q n m (File xs) (File ys) r s h k small tiny bytes e =
    let all = sym (pieces p n (File xs) r) ∙ e ∙ pieces q m (File ys) s in
    let same = front p q n m (decimal (length xs) ++ (digits_behind_blank xs ++ 10 ∷ r)) (decimal (length ys) ++ (digits_behind_blank ys ++ 10 ∷ s)) 32 32
    (omega arith) (omega arith) h k small tiny (ap (drop 5) all) in
    let file = file_tells xs ys r s bytes (ap (drop 1) same.2) in
    record { path = same.0; number = same.1; thing = ap File file.0; rest = file.1 }
