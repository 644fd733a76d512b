-- Appends as bytes: where one begins, which one it is, and how many lie there, follows from the bytes.
use Rattle.std.proofs.Common.{◌≡◌, ℕ, zero, suc, ◌+◌, ◌-◌, ◌/◌, ◌%◌, ◌^◌, ◌<◌, ◌≤◌, List, [], ◌∷◌, ◌++◌, length, take, drop, slice_index, get_or, refl, sym, ap, ap₂, ◌∙◌, arith, append_assoc, append-nil, take_all}
use Rattle.std.proofs.lemmas.Grind.{flat_map-append}
use Rattle.std.proofs.lemmas.List.{length-append, length-drop, length-take-le, take-append-le, take-append-drop}
use Rattle.std.proofs.lemmas.Nat.{le_bytes_4}
use Rattle.std.proofs.Math.Seq.{drop-append_seam}
use Rattle.byteorder.specs.Endian.{little_number, little_bytes}
use Rattle.byteorder.specs.Numbers.{little_number-reads_back}
use Rattle.lang_log.specs.Spelling.{AreShort, BeginsWith, HasPassed, IsShort, spelling, spellings}

seam : {A : Type 0} (xs ys : List A) → take (length xs) (xs ++ ys) ≡ xs
seam xs ys = take-append-le (length xs) xs ys (omega arith) ∙ take_all (length xs) xs (omega arith)

cut : {A : Type 0} (xs ys zs ws : List A) → length xs ≡ length ys → xs ++ zs ≡ ys ++ ws → (xs ≡ ys) × (zs ≡ ws)
cut xs ys zs ws long e =
    (sym (seam xs zs) ∙ ap₂ take long e ∙ seam ys ws, sym (drop-append_seam xs zs) ∙ ap₂ drop long e ∙ drop-append_seam ys ws)

-- the bytes tell how long their first append is
pub size_is : (x rest : List ℕ) → length x ≤ 65536 → little_number 4 (spelling x ++ rest) ≡ length x
size_is x rest short = little_number-reads_back 4 (length x) (x ++ rest) (omega (arith, short))

pub same_first : (x y r q : List ℕ) → length x ≤ 65536 → length y ≤ 65536 → spelling x ++ r ≡ spelling y ++ q → (x ≡ y) × (r ≡ q)
same_first x y r q short other e =
    cut x y r q (sym (size_is x r short) ∙ ap (little_number 4) e ∙ size_is y q other) (ap (drop 4) e)

no_bytes : (x r : List ℕ) → spelling x ++ r ≡ [] → ⊥
no_bytes x r e = cc

-- What begins with appends has these and others behind them.
pub begins_so : (xs ys : List (List ℕ)) (r : List ℕ) → AreShort xs → AreShort ys → spellings xs ++ r ≡ spellings ys
    → (zs : List (List ℕ)) × (ys ≡ xs ++ zs) × (r ≡ spellings zs)
begins_so [] ys r short other e = (ys, refl, e)
begins_so (x ∷ xs) [] r short other e = absurd (no_bytes x (spellings xs ++ r) (sym (append_assoc (spelling x) (spellings xs) r) ∙ e))
begins_so (x ∷ xs) (y ∷ ys) r short other e =
    let one = same_first x y (spellings xs ++ r) (spellings ys) short.0 other.0 (sym (append_assoc (spelling x) (spellings xs) r) ∙ e) in
    let more = begins_so xs ys r short.1 other.1 one.1 in
    (more.0, ap₂ (λ x xs. x ∷ xs) (sym one.0) more.1, more.2)

nothing_spelled : (ys : List (List ℕ)) → [] ≡ spellings ys → ys ≡ []
nothing_spelled [] e = refl
nothing_spelled (y ∷ ys) e = absurd (no_bytes y (spellings ys) (sym e))

-- one spelling, one list of appends
pub same_appends : (xs ys : List (List ℕ)) → AreShort xs → AreShort ys → spellings xs ≡ spellings ys → xs ≡ ys
same_appends xs ys short other e =
    let r = begins_so xs ys [] short other (append-nil (spellings xs) ∙ e) in
    sym (r.1 ∙ ap (λ zs. xs ++ zs) (nothing_spelled r.0 r.2) ∙ append-nil xs)

-- what was passed at the front are the first appends
pub read_back : (appends passed : List (List ℕ)) (rest : List ℕ) → AreShort appends → AreShort passed → spellings appends ≡ spellings passed ++ rest
    → (passed ≡ take (length passed) appends) × (rest ≡ spellings (drop (length passed) appends))
read_back appends passed rest short other e =
    let found = begins_so passed appends rest other short (sym e) in (
      sym (ap (take (length passed)) found.1 ∙ seam passed found.0),
      found.2 ∙ ap spellings (sym (ap (drop (length passed)) found.1 ∙ drop-append_seam passed found.0)),
    )

-- Four bytes below 256, as a number and back.

abbrev pub AreBytes : List ℕ → Type 0
AreBytes xs = (i : ℕ) → slice_index xs i < 256

-- the first four bytes are those of the number in them
four_again : (xs : List ℕ) → 4 ≤ length xs → AreBytes xs → xs ≡ little_bytes 4 (little_number 4 xs) ++ drop 4 xs
four_again [] four low = absurd (omega (arith, four))
four_again (a ∷ []) four low = absurd (omega (arith, four))
four_again (a ∷ (b ∷ [])) four low = absurd (omega (arith, four))
four_again (a ∷ (b ∷ (c ∷ []))) four low = absurd (omega (arith, four))
four_again (a ∷ (b ∷ (c ∷ (d ∷ xs)))) four low =
    ap (λ ys. ys ++ xs) (sym (le_bytes_4 (a ∷ b ∷ c ∷ d ∷ []) (little_number 4 (a ∷ b ∷ c ∷ d ∷ xs)) refl bytes (omega arith)))
  where
    bytes : (i : ℕ) → get_or (a ∷ b ∷ c ∷ d ∷ []) i 0 < 256
    bytes zero = low 0
    bytes (suc zero) = low 1
    bytes (suc (suc zero)) = low 2
    bytes (suc (suc (suc zero))) = low 3
    bytes (suc (suc (suc (suc i)))) = omega arith

-- An append that is whole at the front.
pub found_first : (xs : List ℕ) (n : ℕ) → AreBytes xs → 4 ≤ length xs → n ≡ little_number 4 xs → n ≤ 65536 → n ≤ length xs - 4
    → BeginsWith xs (take n (drop 4 xs)) × (4 + n ≡ length (spelling (take n (drop 4 xs))))
found_first xs n low four is short whole =
    let long : length (take n (drop 4 xs)) ≡ n = length-take-le n (drop 4 xs) (omega (arith, whole, length-drop 4 xs)) in (
      record {
        rest = drop n (drop 4 xs);
        short = omega (arith, long, short);
        is = four_again xs four low ∙ ap₂ (λ n ys. little_bytes 4 n ++ ys) (sym is ∙ sym long) (sym (take-append-drop n (drop 4 xs)));
      },
      omega (arith, long),
    )

-- Passing one append more.

pub passed_one : (bytes : List ℕ) (count taken n : ℕ) (append : List ℕ) → HasPassed bytes count taken → BeginsWith (drop taken bytes) append
    → n ≡ length (spelling append) → HasPassed bytes (count + 1) (taken + n)
passed_one bytes count taken n append h begins long =
    let more : List (List ℕ) = h.passed ++ append ∷ [] in
    let longer : spellings more ≡ spellings h.passed ++ spelling append =
    flat_map-append spelling h.passed (append ∷ []) ∙ ap (λ ys. spellings h.passed ++ ys) (append-nil (spelling append)) in
    let takes : taken + n ≡ length (spellings more) = omega (arith, h.takes, long, length-append (spellings h.passed) (spelling append), ap length longer) in
    let whole : bytes ≡ spellings more ++ begins.rest =
    h.is ∙ ap (λ ys. spellings h.passed ++ ys) begins.is ∙ sym (append_assoc (spellings h.passed) (spelling append) begins.rest)
    ∙ ap (λ ys. ys ++ begins.rest) (sym longer) in
    let left : drop (taken + n) bytes ≡ begins.rest = ap₂ drop takes whole ∙ drop-append_seam (spellings more) begins.rest in
    record {
      passed = more;
      is = whole ∙ ap (λ ys. spellings more ++ ys) (sym left);
      short = all_push h.passed append h.short begins.short;
      counts = omega (arith, h.counts, length-append h.passed (append ∷ []));
      takes = takes;
    }
  where
    all_push : (xs : List (List ℕ)) (x : List ℕ) → AreShort xs → IsShort x → AreShort (xs ++ x ∷ [])
    all_push [] x h s = (s, tt)
    all_push (y ∷ xs) x h s = (h.0, all_push xs x h.1 s)
