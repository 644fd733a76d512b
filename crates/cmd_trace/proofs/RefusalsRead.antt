-- The texts of refusals from outside the tree, and of points that are known to be on the disk, are read as what they
-- say, and as nothing else.
use Rattle.std.proofs.Common.{◌≡◌, sym, ap, refl, ◌∙◌, subst, arith, ℕ, ◌+◌, ◌/◌, ◌%◌, ◌≤◌, ◌<◌, ◌^◌, Bool, true, false, List, [], ◌∷◌, ◌++◌, decimal, codes, append_assoc, Option, Some, None, bytes_eq}
use Rattle.std.specs.Prelude.{if◌then◌else◌, option_and_then}
use Rattle.std.specs.List.{list_all}
use Rattle.std.proofs.lemmas.Fmt.{decimal_step, decimal_digit}
use Rattle.std.proofs.lemmas.Slice.Eq.{bytes_eq-Decides}
use Rattle.lang_tree.specs.declared.command.Refusal.{Refusal}
use Rattle.lang_tree.specs.declared.command.Refusal.TheVariants.{Full, TooBig, Scattered, ReadFault, DiskFault, Stopped, Spent, NoMemory}
use Rattle.lang_script.specs.Text.{refusal_text}
use Rattle.lang_script.specs.Decimal.{number_of}
use Rattle.cmd_trace.specs.ReadFields.{cut, small_number_of}
use Rattle.cmd_trace.specs.ReadLines.{refusal_of, refusal_by, full_of, full_by, too_big_of, too_big_with, too_big_by, scattered_of, reason_of, known_of, known_by}
use Rattle.cmd_trace.specs.ReadsAs.{IsOutside}
use Rattle.cmd_trace.proofs.Blanks.{is_dark, cut_is, cut_at, number_at}
use Rattle.cmd_trace.proofs.Digits.{if_gave}
use Rattle.cmd_trace.proofs.LinesRead.{Numbers, small_read, small_is_read, cut_gave, map_gave}

-- ---- from a refusal to its text and back

full_text : (need left : ℕ) → refusal_text (Full need left) ≡ codes "full" ++ 32 ∷ (decimal need ++ 32 ∷ decimal left)
full_text need left = ap (λ l. codes "full" ++ 32 ∷ l) (append_assoc (decimal need) (codes " ") (decimal left))

-- the text of a reply behind its first word
refusal_at : (word rest : List ℕ) → list_all is_dark word ≡ true → refusal_of (word ++ 32 ∷ rest) ≡ refusal_by word rest
refusal_at word rest h = rw (cut_at word rest h) refl

full_of_text : Numbers → (need left : ℕ) → need < 2 ^ 32 → left < 2 ^ 32 → full_of (decimal need ++ 32 ∷ decimal left) ≡ Some (Full need left)
full_of_text law need left n l = rw (number_at need (decimal left) (omega (arith, n))) (rw (small_read law need n) (rw (small_read law left l) refl))

full_read : Numbers → (need left : ℕ) → need < 2 ^ 32 → left < 2 ^ 32 → refusal_of (refusal_text (Full need left)) ≡ Some (Full need left)
full_read law need left n l =
    ap refusal_of (full_text need left) ∙ refusal_at (codes "full") (decimal need ++ 32 ∷ decimal left) refl ∙ full_of_text law need left n l

spaced : (a b c : List ℕ) → a ++ codes " " ++ b ++ codes " " ++ c ≡ a ++ 32 ∷ (b ++ 32 ∷ c)
spaced a b c = simp append_assoc

too_big_text : (weight cost room : ℕ) → refusal_text (TooBig weight cost room) ≡ codes "toobig" ++ 32 ∷ (decimal weight ++ 32 ∷ (decimal cost ++ 32 ∷ decimal room))
too_big_text weight cost room = ap (λ l. codes "toobig" ++ 32 ∷ l) (spaced (decimal weight) (decimal cost) (decimal room))

too_big_of_text : Numbers → (weight cost room : ℕ) → weight < 2 ^ 32 → cost < 2 ^ 32 → room < 2 ^ 32
    → too_big_of (decimal weight ++ 32 ∷ (decimal cost ++ 32 ∷ decimal room)) ≡ Some (TooBig weight cost room)
too_big_of_text law weight cost room w c r =
    rw (number_at weight (decimal cost ++ 32 ∷ decimal room) (omega (arith, w))) (rw (number_at cost (decimal room) (omega (arith, c)))
    (rw (small_read law weight w) (rw (small_read law cost c) (rw (small_read law room r) refl))))

too_big_read : Numbers → (weight cost room : ℕ) → weight < 2 ^ 32 → cost < 2 ^ 32 → room < 2 ^ 32
    → refusal_of (refusal_text (TooBig weight cost room)) ≡ Some (TooBig weight cost room)
too_big_read law weight cost room w c r =
    ap refusal_of (too_big_text weight cost room) ∙ refusal_at (codes "toobig") (decimal weight ++ 32 ∷ (decimal cost ++ 32 ∷ decimal room)) refl
    ∙ too_big_of_text law weight cost room w c r

scattered_of_text : Numbers → (runs : ℕ) → runs < 2 ^ 32 → scattered_of (decimal runs) ≡ Some (Scattered runs)
scattered_of_text law runs r = rw (small_read law runs r) refl

scattered_read : Numbers → (runs : ℕ) → runs < 2 ^ 32 → refusal_of (refusal_text (Scattered runs)) ≡ Some (Scattered runs)
scattered_read law runs r = refusal_at (codes "scattered") (decimal runs) refl ∙ scattered_of_text law runs r

-- numbers from 10 to 19
two_digits : (n : ℕ) → 10 ≤ n → n < 20 → decimal n ≡ 49 ∷ (48 + n % 10) ∷ []
two_digits n low high =
    let one : n / 10 ≡ 1 = omega (arith, low, high) in
    decimal_step n low (omega (arith, high)) ∙ ap (λ k. decimal k ++ (48 + n % 10) ∷ []) one ∙ ap (λ l. l ++ (48 + n % 10) ∷ []) (decimal_digit 1 (omega arith))

reason_text : (n : ℕ) (name : List ℕ) → 10 ≤ n → n < 20
    → codes "refused " ++ decimal n ++ codes " " ++ name ≡ codes "refused" ++ 32 ∷ (49 ∷ (48 + n % 10) ∷ 32 ∷ name)
reason_text n name low high = ap (λ d. codes "refused " ++ d ++ codes " " ++ name) (two_digits n low high)

reason_read : (n : ℕ) (name : List ℕ) (why : Refusal) → 10 ≤ n → n < 20 → reason_of (49 ∷ (48 + n % 10) ∷ 32 ∷ name) ≡ Some why
    → refusal_of (codes "refused " ++ decimal n ++ codes " " ++ name) ≡ Some why
reason_read n name why low high h =
    ap refusal_of (reason_text n name low high) ∙ refusal_at (codes "refused") (49 ∷ (48 + n % 10) ∷ 32 ∷ name) refl ∙ h

pub refusal_read : Numbers → (why : Refusal) → IsOutside why → refusal_of (refusal_text why) ≡ Some why
refusal_read law (Full need left) h = full_read law need left h.figures.0 h.figures.1
refusal_read law (TooBig weight cost room) h = too_big_read law weight cost room h.figures.0 h.figures.1 h.figures.2
refusal_read law (Scattered runs) h = scattered_read law runs h.figures
refusal_read law ReadFault h = reason_read 13 (codes "ReadFault") ReadFault (omega arith) (omega arith) refl
refusal_read law DiskFault h = reason_read 14 (codes "DiskFault") DiskFault (omega arith) (omega arith) refl
refusal_read law Stopped h = reason_read 15 (codes "Stopped") Stopped (omega arith) (omega arith) refl
refusal_read law Spent h = reason_read 16 (codes "Spent") Spent (omega arith) (omega arith) refl
refusal_read law NoMemory h = reason_read 17 (codes "NoMemory") NoMemory (omega arith) (omega arith) refl
refusal_read law other h = cc h.number

-- ---- from a text to its refusal and back

abbrev Spells : List ℕ → Refusal → Type 0
Spells text why = IsOutside why × (refusal_text why ≡ text)

full_gave : (a b : Option ℕ) (why : Refusal) → full_by a b ≡ Some why → (need : ℕ) × (left : ℕ) × (a ≡ Some need) × (b ≡ Some left) × (Full need left ≡ why)
full_gave (Some need) (Some left) why h = (need, left, refl, refl, cc h)
full_gave other b why h = cc h

full_is_read : Numbers → (text : List ℕ) (why : Refusal) → full_of text ≡ Some why → Spells (codes "full" ++ 32 ∷ text) why
full_is_read law text why h =
    let parts = cut_gave (cut text) (option_and_then (λ parts. full_by (small_number_of parts.0) (small_number_of parts.1))) why refl h in
    let found = full_gave (small_number_of parts.0) (small_number_of parts.1) why parts.3 in
    let need = small_is_read law parts.0 found.0 found.2 in
    let left = small_is_read law parts.1 found.1 found.3 in
    let same : decimal found.0 ++ 32 ∷ decimal found.1 ≡ text = rw (need.0, left.0, ← cut_is text parts.0 parts.1 parts.2) refl in
    subst (Spells (codes "full" ++ 32 ∷ text)) found.4
    (record { number = refl; figures = (need.1, left.1) }, full_text found.0 found.1 ∙ ap (λ l. codes "full" ++ 32 ∷ l) same)

too_big_gave : (a b c : Option ℕ) (why : Refusal) → too_big_by a b c ≡ Some why
    → (weight : ℕ) × (cost : ℕ) × (room : ℕ) × (a ≡ Some weight) × (b ≡ Some cost) × (c ≡ Some room) × (TooBig weight cost room ≡ why)
too_big_gave (Some weight) (Some cost) (Some room) why h = (weight, cost, room, refl, refl, refl, cc h)
too_big_gave other b c why h = cc h

too_big_is_read : Numbers → (text : List ℕ) (why : Refusal) → too_big_of text ≡ Some why → Spells (codes "toobig" ++ 32 ∷ text) why
too_big_is_read law text why h =
    let one = cut_gave (cut text) (option_and_then (λ parts. too_big_with parts.0 (cut parts.1))) why refl h in
    let two = cut_gave (cut one.1) (too_big_with one.0) why refl one.3 in
    let found = too_big_gave (small_number_of one.0) (small_number_of two.0) (small_number_of two.1) why two.3 in
    let weight = small_is_read law one.0 found.0 found.3 in
    let cost = small_is_read law two.0 found.1 found.4 in
    let room = small_is_read law two.1 found.2 found.5 in
    let same : decimal found.0 ++ 32 ∷ (decimal found.1 ++ 32 ∷ decimal found.2) ≡ text =
    rw (weight.0, cost.0, room.0, ← cut_is one.1 two.0 two.1 two.2, ← cut_is text one.0 one.1 one.2) refl in
    subst (Spells (codes "toobig" ++ 32 ∷ text)) found.6
    (record { number = refl; figures = (weight.1, cost.1, room.1) }, too_big_text found.0 found.1 found.2 ∙ ap (λ l. codes "toobig" ++ 32 ∷ l) same)

scattered_is_read : Numbers → (text : List ℕ) (why : Refusal) → scattered_of text ≡ Some why → Spells (codes "scattered" ++ 32 ∷ text) why
scattered_is_read law text why h =
    let found = map_gave (λ runs. Scattered runs) (small_number_of text) why h in
    let runs = small_is_read law text found.0 found.1 in
    subst (Spells (codes "scattered" ++ 32 ∷ text)) found.2 (record { number = refl; figures = runs.1 }, ap (λ l. codes "scattered" ++ 32 ∷ l) runs.0)

reason_is_read : (text : List ℕ) (why : Refusal) → reason_of text ≡ Some why → Spells (codes "refused" ++ 32 ∷ text) why
reason_is_read text why h = a (bytes_eq text (codes "13 ReadFault")) refl h
  where
    one : (name : List ℕ) (x : Refusal) → bytes_eq text name ≡ true → Some x ≡ Some why → IsOutside x → refusal_text x ≡ codes "refused" ++ 32 ∷ name → Spells (codes "refused" ++ 32 ∷ text) why
    one name x same is out spelled = subst (Spells (codes "refused" ++ 32 ∷ text)) (cc is) (out, spelled ∙ ap (λ l. codes "refused" ++ 32 ∷ l) (sym ((bytes_eq-Decides text name).0 same)))

    e : (b : Bool) → bytes_eq text (codes "17 NoMemory") ≡ b → (if b then Some NoMemory else None) ≡ Some why → Spells (codes "refused" ++ 32 ∷ text) why
    e true is f = one (codes "17 NoMemory") NoMemory is f record { number = refl; figures = tt } (reason_text 17 (codes "NoMemory") (omega arith) (omega arith))
    e false is f = cc f

    d : (b : Bool) → bytes_eq text (codes "16 Spent") ≡ b → (if b then Some Spent else if bytes_eq text (codes "17 NoMemory") then Some NoMemory else None) ≡ Some why → Spells (codes "refused" ++ 32 ∷ text) why
    d true is f = one (codes "16 Spent") Spent is f record { number = refl; figures = tt } (reason_text 16 (codes "Spent") (omega arith) (omega arith))
    d false is f = e (bytes_eq text (codes "17 NoMemory")) refl f

    c : (b : Bool) → bytes_eq text (codes "15 Stopped") ≡ b
        → (if b then Some Stopped else if bytes_eq text (codes "16 Spent") then Some Spent else if bytes_eq text (codes "17 NoMemory") then Some NoMemory else None) ≡ Some why → Spells (codes "refused" ++ 32 ∷ text) why
    c true is f = one (codes "15 Stopped") Stopped is f record { number = refl; figures = tt } (reason_text 15 (codes "Stopped") (omega arith) (omega arith))
    c false is f = d (bytes_eq text (codes "16 Spent")) refl f

    k : (b : Bool) → bytes_eq text (codes "14 DiskFault") ≡ b
        → (if b then Some DiskFault else if bytes_eq text (codes "15 Stopped") then Some Stopped else if bytes_eq text (codes "16 Spent") then Some Spent
        else if bytes_eq text (codes "17 NoMemory") then Some NoMemory else None) ≡ Some why → Spells (codes "refused" ++ 32 ∷ text) why
    k true is f = one (codes "14 DiskFault") DiskFault is f record { number = refl; figures = tt } (reason_text 14 (codes "DiskFault") (omega arith) (omega arith))
    k false is f = c (bytes_eq text (codes "15 Stopped")) refl f

    a : (b : Bool) → bytes_eq text (codes "13 ReadFault") ≡ b
        → (if b then Some ReadFault else if bytes_eq text (codes "14 DiskFault") then Some DiskFault else if bytes_eq text (codes "15 Stopped") then Some Stopped
        else if bytes_eq text (codes "16 Spent") then Some Spent else if bytes_eq text (codes "17 NoMemory") then Some NoMemory else None) ≡ Some why → Spells (codes "refused" ++ 32 ∷ text) why
    a true is f = one (codes "13 ReadFault") ReadFault is f record { number = refl; figures = tt } (reason_text 13 (codes "ReadFault") (omega arith) (omega arith))
    a false is f = k (bytes_eq text (codes "14 DiskFault")) refl f

word_gave : Numbers → (word text : List ℕ) (why : Refusal) → refusal_by word text ≡ Some why → Spells (word ++ 32 ∷ text) why
word_gave law word text why h = f (bytes_eq word (codes "full")) refl h
  where
    at : (name : List ℕ) → bytes_eq word name ≡ true → Spells (name ++ 32 ∷ text) why → Spells (word ++ 32 ∷ text) why
    at name same found = subst (λ w. Spells (w ++ 32 ∷ text) why) (sym ((bytes_eq-Decides word name).0 same)) found

    r : (b : Bool) → bytes_eq word (codes "refused") ≡ b → (if b then reason_of text else None) ≡ Some why → Spells (word ++ 32 ∷ text) why
    r true is g = at (codes "refused") is (reason_is_read text why g)
    r false is g = cc g

    s : (b : Bool) → bytes_eq word (codes "scattered") ≡ b → (if b then scattered_of text else if bytes_eq word (codes "refused") then reason_of text else None) ≡ Some why
        → Spells (word ++ 32 ∷ text) why
    s true is g = at (codes "scattered") is (scattered_is_read law text why g)
    s false is g = r (bytes_eq word (codes "refused")) refl g

    t : (b : Bool) → bytes_eq word (codes "toobig") ≡ b
        → (if b then too_big_of text else if bytes_eq word (codes "scattered") then scattered_of text else if bytes_eq word (codes "refused") then reason_of text else None) ≡ Some why
        → Spells (word ++ 32 ∷ text) why
    t true is g = at (codes "toobig") is (too_big_is_read law text why g)
    t false is g = s (bytes_eq word (codes "scattered")) refl g

    f : (b : Bool) → bytes_eq word (codes "full") ≡ b
        → (if b then full_of text else if bytes_eq word (codes "toobig") then too_big_of text else if bytes_eq word (codes "scattered") then scattered_of text
        else if bytes_eq word (codes "refused") then reason_of text else None) ≡ Some why
        → Spells (word ++ 32 ∷ text) why
    f true is g = at (codes "full") is (full_is_read law text why g)
    f false is g = t (bytes_eq word (codes "toobig")) refl g

pub refusal_is_read : Numbers → (text : List ℕ) (why : Refusal) → refusal_of text ≡ Some why → IsOutside why × (refusal_text why ≡ text)
refusal_is_read law text why h =
    let parts = cut_gave (cut text) (option_and_then (λ parts. refusal_by parts.0 parts.1)) why refl h in
    let found = word_gave law parts.0 parts.1 why parts.3 in
    (found.0, found.1 ∙ sym (cut_is text parts.0 parts.1 parts.2))

-- ---- points that are known to be on the disk

known_at : (word rest : List ℕ) → list_all is_dark word ≡ true → known_of (word ++ 32 ∷ rest) ≡ known_by word rest
known_at word rest h = rw (cut_at word rest h) refl

pub known_read : Numbers → (point : ℕ) → point < 2 ^ 64 → known_of (codes "known " ++ decimal point) ≡ Some point
known_read law point low = known_at (codes "known") (decimal point) refl ∙ law.read point low

known_gave : Numbers → (word text : List ℕ) (point : ℕ) → known_by word text ≡ Some point → (point < 2 ^ 64) × (codes "known" ++ 32 ∷ decimal point ≡ word ++ 32 ∷ text)
known_gave law word text point h =
    let found = if_gave (bytes_eq word (codes "known")) (number_of text) point h in
    (law.small text point found.1, ap (λ l. codes "known" ++ 32 ∷ l) (law.text text point found.1) ∙ ap (λ w. w ++ 32 ∷ text) (sym ((bytes_eq-Decides word (codes "known")).0 found.0)))

pub known_is_read : Numbers → (text : List ℕ) (point : ℕ) → known_of text ≡ Some point → (point < 2 ^ 64) × (codes "known " ++ decimal point ≡ text)
known_is_read law text point h =
    let parts = cut_gave (cut text) (option_and_then (λ parts. known_by parts.0 parts.1)) point refl h in
    let found = known_gave law parts.0 parts.1 point parts.3 in
    (found.0, found.1 ∙ sym (cut_is text parts.0 parts.1 parts.2))
