-- Where a part of a line, a line and the events of a text end.
use Rattle.std.proofs.Common.{◌≡◌, sym, ap, refl, ◌∙◌, arith, tests, subst, ℕ, suc, ◌<◌, ◌≤◌, ◌^◌, ◌/◌, ◌%◌, ◌==◌, ◌||◌, Bool, true, false, List, [], ◌∷◌, ◌++◌, drop, get_or, decimal, nat_lt, codes, append_assoc, Result, Ok, Err}
use Rattle.std.proofs.lemmas.Bool.{and_parts, false≢true}
use Rattle.std.proofs.lemmas.Bool.Decides.{Decides-ltb}
use Rattle.std.proofs.lemmas.Fmt.{digits_decimal, decimal_injective}
use Rattle.std.specs.Char.{is_ascii_digit}
use Rattle.std.specs.List.{list_all}
use Rattle.std.proofs.lemmas.List.Sums.{AllPass-from_list_all}
use Rattle.hex.specs.Hex.{encode_lower, encode_with, lower_digits, decode_of, IsBytes}
use Rattle.hex.proofs.HexLemmas.{decode_of-encode_lower}
use Rattle.disk_contract.specs.declared.event.Event.{Event}
use Rattle.disk_contract.specs.declared.event.Event.TheVariants.{Wrote, Lost, Noticed}
use Rattle.disk_contract.specs.Lawful.{IsEventOf, AreEventsOf}
use Rattle.lang_script.specs.Shared.{own, weaker}
use Rattle.cmd_trace.specs.Line.{event_line, event_lines}
use Rattle.cmd_trace.proofs.Bytes.{block_is_bytes}

-- Two texts that begin with parts of bytes above m, and go on with nothing or a byte that isn't above it.

abbrev pub past : ℕ → ℕ → Bool
past m b = nat_lt m b

abbrev pub Low : ℕ → List ℕ → Type 0
Low m [] = Unit {0}
Low m (b ∷ r) = b ≤ m

over : (m b : ℕ) → past m b ≡ true → m < b
over m b h = (Decides-ltb m b).0 h

pub part_cut : (m : ℕ) (xs ys r s : List ℕ) → list_all (past m) xs ≡ true → list_all (past m) ys ≡ true → Low m r → Low m s → xs ++ r ≡ ys ++ s → (xs ≡ ys) × (r ≡ s)
part_cut m [] [] r s p q low down e = (refl, e)
part_cut m [] (y ∷ ys) (b ∷ r) s p q low down e =
    absurd (omega (arith, low, over m y (and_parts (past m y) (list_all (past m) ys) q).0, ap (λ l. get_or l 0 0) e))
part_cut m (x ∷ xs) [] r (b ∷ s) p q low down e =
    absurd (omega (arith, down, over m x (and_parts (past m x) (list_all (past m) xs) p).0, ap (λ l. get_or l 0 0) e))
part_cut m (x ∷ xs) (y ∷ ys) r s p q low down e =
    let rest = part_cut m xs ys r s (and_parts (past m x) (list_all (past m) xs) p).1 (and_parts (past m y) (list_all (past m) ys) q).1 low down (ap (drop 1) e) in
    let head : x ≡ y = ap (λ l. get_or l 0 0) e in
    (rw head (ap (λ l. y ∷ l) rest.0), rest.1)
part_cut m other rest r s p q low down e = absurd cc

-- Numbers and bytes.

number_past : (n : ℕ) → n < 2 ^ 64 → list_all (past 32) (decimal n) ≡ true
number_past n small = weaker is_ascii_digit (past 32) (λ b h. grind (arith, tests)) (decimal n) (digits_decimal own n small)

-- a number that ends at a blank or a line feed
pub number_cut : (n k : ℕ) (r s : List ℕ) → n < 2 ^ 64 → k < 2 ^ 64 → Low 32 r → Low 32 s → decimal n ++ r ≡ decimal k ++ s → (n ≡ k) × (r ≡ s)
number_cut n k r s p q low down e =
    let parts = part_cut 32 (decimal n) (decimal k) r s (number_past n p) (number_past k q) low down e in
    (decimal_injective n k p q parts.0, parts.1)

digits_past : (bytes : List ℕ) → IsBytes bytes → list_all (past 32) (encode_lower bytes) ≡ true
unfolding encode_with
digits_past [] h = refl
digits_past (b ∷ bytes) h =
    let low : b < 256 = h 0 in
    let high_digit = AllPass-from_list_all (past 32) lower_digits refl (b / 16) 0 (omega (arith, low)) in
    let low_digit = AllPass-from_list_all (past 32) lower_digits refl (b % 16) 0 (omega (arith, low)) in
    rw (high_digit, low_digit) (digits_past bytes (λ i. h (suc i)))

abbrev bytes_or_none : {E : Type 0} → Result (List ℕ) E → List ℕ
bytes_or_none (Ok bytes) = bytes
bytes_or_none (Err e) = []

bytes_cut : (xs ys r s : List ℕ) → IsBytes xs → IsBytes ys → Low 32 r → Low 32 s → encode_lower xs ++ r ≡ encode_lower ys ++ s → (xs ≡ ys) × (r ≡ s)
bytes_cut xs ys r s p q low down e =
    let parts = part_cut 32 (encode_lower xs) (encode_lower ys) r s (digits_past xs p) (digits_past ys q) low down e in
    let same : decode_of (encode_lower xs) ≡ decode_of (encode_lower ys) = ap decode_of parts.0 in
    (ap bytes_or_none (sym (decode_of-encode_lower xs p) ∙ same ∙ decode_of-encode_lower ys q), parts.1)

-- Lines, grouped from the right.

pub line_of_one : (w a r : List ℕ) → (w ++ a ++ codes "\n") ++ r ≡ w ++ (a ++ 10 ∷ r)
line_of_one w a r = simp append_assoc

pub line_of_two : (w a b r : List ℕ) → (w ++ a ++ codes " " ++ b ++ codes "\n") ++ r ≡ w ++ (a ++ 32 ∷ (b ++ 10 ∷ r))
line_of_two w a b r = simp append_assoc

pub line_of_three : (w a b c r : List ℕ) → (w ++ a ++ codes " " ++ b ++ codes " " ++ c ++ codes "\n") ++ r ≡ w ++ (a ++ 32 ∷ (b ++ 32 ∷ (c ++ 10 ∷ r)))
line_of_three w a b c r = simp append_assoc

-- One event behind the other.

wrote_cut : (m n ticket turn block place : ℕ) (xs ys r s : List ℕ) → m < 2 ^ 64 → n < 2 ^ 64 → IsEventOf m (Wrote ticket block xs) → IsEventOf n (Wrote turn place ys)
    → event_line (Wrote ticket block xs) ++ r ≡ event_line (Wrote turn place ys) ++ s → (Wrote ticket block xs ≡ Wrote turn place ys) × (r ≡ s)
wrote_cut m n ticket turn block place xs ys r s big large h k e =
    let whole = sym (line_of_three (codes "w ") (decimal ticket) (decimal block) (encode_lower xs) r) ∙ e
    ∙ line_of_three (codes "w ") (decimal turn) (decimal place) (encode_lower ys) s in
    let one = number_cut ticket turn (32 ∷ (decimal block ++ 32 ∷ (encode_lower xs ++ 10 ∷ r))) (32 ∷ (decimal place ++ 32 ∷ (encode_lower ys ++ 10 ∷ s)))
    h.0 k.0 (omega arith) (omega arith) (ap (drop 2) whole) in
    let two = number_cut block place (32 ∷ (encode_lower xs ++ 10 ∷ r)) (32 ∷ (encode_lower ys ++ 10 ∷ s))
    (omega (arith, h.1, big)) (omega (arith, k.1, large)) (omega arith) (omega arith) (ap (drop 1) one.1) in
    let three = bytes_cut xs ys (10 ∷ r) (10 ∷ s) (block_is_bytes xs h.2) (block_is_bytes ys k.2) (omega arith) (omega arith) (ap (drop 1) two.1) in
    (rw (one.0, two.0, three.0) refl, ap (drop 1) three.1)

lost_cut : (m n block place : ℕ) (xs ys r s : List ℕ) → m < 2 ^ 64 → n < 2 ^ 64 → IsEventOf m (Lost block xs) → IsEventOf n (Lost place ys)
    → event_line (Lost block xs) ++ r ≡ event_line (Lost place ys) ++ s → (Lost block xs ≡ Lost place ys) × (r ≡ s)
lost_cut m n block place xs ys r s big large h k e =
    let whole = sym (line_of_two (codes "f ") (decimal block) (encode_lower xs) r) ∙ e ∙ line_of_two (codes "f ") (decimal place) (encode_lower ys) s in
    let two = number_cut block place (32 ∷ (encode_lower xs ++ 10 ∷ r)) (32 ∷ (encode_lower ys ++ 10 ∷ s))
    (omega (arith, h.0, big)) (omega (arith, k.0, large)) (omega arith) (omega arith) (ap (drop 2) whole) in
    let three = bytes_cut xs ys (10 ∷ r) (10 ∷ s) (block_is_bytes xs h.1) (block_is_bytes ys k.1) (omega arith) (omega arith) (ap (drop 1) two.1) in
    (rw (two.0, three.0) refl, ap (drop 1) three.1)

noticed_cut : (ticket turn : ℕ) (r s : List ℕ) → ticket < 2 ^ 64 → turn < 2 ^ 64
    → event_line (Noticed ticket) ++ r ≡ event_line (Noticed turn) ++ s → (Noticed ticket ≡ Noticed turn) × (r ≡ s)
noticed_cut ticket turn r s h k e =
    let whole = sym (line_of_one (codes "d ") (decimal ticket) r) ∙ e ∙ line_of_one (codes "d ") (decimal turn) s in
    let one = number_cut ticket turn (10 ∷ r) (10 ∷ s) h k (omega arith) (omega arith) (ap (drop 2) whole) in
    (ap Noticed one.0, ap (drop 1) one.1)

event_cut : (m n : ℕ) (x y : Event) (r s : List ℕ) → m < 2 ^ 64 → n < 2 ^ 64 → IsEventOf m x → IsEventOf n y → event_line x ++ r ≡ event_line y ++ s → (x ≡ y) × (r ≡ s)
event_cut m n (Wrote ticket block xs) (Wrote turn place ys) r s big large h k e = wrote_cut m n ticket turn block place xs ys r s big large h k e
event_cut m n (Lost block xs) (Lost place ys) r s big large h k e = lost_cut m n block place xs ys r s big large h k e
event_cut m n (Noticed ticket) (Noticed turn) r s big large h k e = noticed_cut ticket turn r s h k e
event_cut m n other more r s big large h k e = absurd (omega (arith, ap (λ l. get_or l 0 0) e))

-- The events of a text end where no line of an event begins.

abbrev pub BeginsNot : (ℕ → Bool) → List ℕ → Type 0
BeginsNot p [] = Unit {0}
BeginsNot p (b ∷ r) = p b ≡ false

abbrev pub is_event_byte : ℕ → Bool
is_event_byte b = (b == 119) || ((b == 102) || (b == 100))

-- the first byte of an event's line
event_head : (x : Event) (r : List ℕ) → (b : ℕ) × (rest : List ℕ) × (is_event_byte b ≡ true) × (event_line x ++ r ≡ b ∷ rest)
event_head (Wrote ticket block bytes) r = (119, _, refl, refl)
event_head (Lost block bytes) r = (102, _, refl, refl)
event_head (Noticed ticket) r = (100, _, refl, refl)

no_event : {P : Type 0} (x : Event) (more r : List ℕ) → BeginsNot is_event_byte r → r ≡ event_line x ++ more → P
no_event x more r stop e =
    let head = event_head x more in
    absurd (false≢true (sym (subst (BeginsNot is_event_byte) (e ∙ head.3) stop) ∙ head.2))

pub events_cut : (m n : ℕ) (xs ys : List Event) (r s : List ℕ) → m < 2 ^ 64 → n < 2 ^ 64 → AreEventsOf m xs → AreEventsOf n ys
    → BeginsNot is_event_byte r → BeginsNot is_event_byte s → event_lines xs ++ r ≡ event_lines ys ++ s → (xs ≡ ys) × (r ≡ s)
events_cut m n [] [] r s big large h k stop halt e = (refl, e)
events_cut m n [] (y ∷ ys) r s big large h k stop halt e = no_event y (event_lines ys ++ s) r stop (e ∙ append_assoc (event_line y) (event_lines ys) s)
events_cut m n (x ∷ xs) [] r s big large h k stop halt e = no_event x (event_lines xs ++ r) s halt (sym e ∙ append_assoc (event_line x) (event_lines xs) r)
events_cut m n (x ∷ xs) (y ∷ ys) r s big large h k stop halt e =
    let one = event_cut m n x y (event_lines xs ++ r) (event_lines ys ++ s) big large h.0 k.0
    (sym (append_assoc (event_line x) (event_lines xs) r) ∙ e ∙ append_assoc (event_line y) (event_lines ys) s) in
    let rest = events_cut m n xs ys r s big large h.1 k.1 stop halt one.1 in
    (rw (one.0, rest.0) refl, rest.1)
