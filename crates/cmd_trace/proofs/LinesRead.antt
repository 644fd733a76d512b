-- The lines of the geometry, of events and of replies are read as what they say, and as nothing else.
use Rattle.std.proofs.Common.{◌≡◌, sym, ap, refl, ◌∙◌, subst, arith, ℕ, ◌<◌, ◌^◌, ◌==◌, Bool, true, false, List, [], ◌∷◌, ◌++◌, append-nil, decimal, codes, bytes_eq, Option, Some, None}
use Rattle.std.specs.Prelude.{if◌then◌else◌, option_map, option_and_then}
use Rattle.std.proofs.lemmas.Bool.Decides.{Decides-ltb, nat_tests}
use Rattle.std.proofs.lemmas.Bool.{eqb-true}
use Rattle.std.proofs.lemmas.Slice.Eq.{bytes_eq-Decides}
use Rattle.hex.specs.Hex.{encode_lower}
use Rattle.base_types.specs.declared.layout.Layout.{Layout}
use Rattle.base_types.specs.declared.layout.Layout.TheVariants.{One, Two}
use Rattle.layout_geometry.specs.Geometry.{Geometry, geometry_fits}
use Rattle.disk_contract.specs.declared.event.Event.{Event}
use Rattle.disk_contract.specs.declared.event.Event.TheVariants.{Wrote, Lost, Noticed}
use Rattle.disk_contract.specs.Lawful.{IsBlock, IsEventOf}
use Rattle.lang_script.specs.Decimal.{number_of}
use Rattle.cmd_trace.specs.ReadFields.{cut, small, small_number_of, block_of}
use Rattle.cmd_trace.specs.Line.{layout_mark}
use Rattle.cmd_trace.specs.ReadLines.{geometry_of, geometry_with, geometry_behind, geometry_by, placed_of, both, wrote_of, wrote_by, lost_of, noticed_of, reply_of, marked, behind, event_by_letter, geometry_by_letter, reply_by_letter}
use Rattle.cmd_trace.proofs.Blanks.{cut_is, number_at, number_alone}
use Rattle.cmd_trace.proofs.Digits.{block_read, block_is_read, if_gave}

-- What the law of numbers says, as it is handed to each lemma.
pub record Numbers : Type 0 where
  pub read : (number : ℕ) → number < 2 ^ 64 → number_of (decimal number) ≡ Some number
  pub text : (text : List ℕ) (number : ℕ) → number_of text ≡ Some number → decimal number ≡ text
  pub small : (text : List ℕ) (number : ℕ) → number_of text ≡ Some number → number < 2 ^ 64

-- ---- numbers of 32 bits

pub small_read : Numbers → (n : ℕ) → n < 2 ^ 32 → small_number_of (decimal n) ≡ Some n
small_read law n low =
    rw (law.read n (omega (arith, low))) (rw ((Decides-ltb n (2 ^ 32)).1 low) refl)

small_is : (o : Option ℕ) (n : ℕ) → small o ≡ Some n → (o ≡ Some n) × (n < 2 ^ 32)
small_is o n h = grind (arith, nat_tests)

pub small_is_read : Numbers → (text : List ℕ) (n : ℕ) → small_number_of text ≡ Some n → (decimal n ≡ text) × (n < 2 ^ 32)
small_is_read law text n h =
    let parts = small_is (number_of text) n h in
    (law.text text n parts.0, parts.1)

-- a value that comes of a cut
pub cut_gave : {A : Type 0} (o : Option (List ℕ × List ℕ)) (f : Option (List ℕ × List ℕ) → Option A) (x : A) → f None ≡ None → f o ≡ Some x
    → (front : List ℕ) × (back : List ℕ) × (o ≡ Some (front, back)) × (f (Some (front, back)) ≡ Some x)
cut_gave (Some parts) f x none h = (parts.0, parts.1, refl, h)
cut_gave None f x none h = cc (none, h)

-- ---- the geometry

abbrev pub geometry_text : Geometry → List ℕ
geometry_text g = decimal g.n ++ 32 ∷ (decimal g.j ++ 32 ∷ (decimal g.i ++ layout_mark g.layout))

-- what stands behind two numbers is a third, and the layout
nodes_read : (n j : List ℕ) (i : ℕ) (l : Layout) → i < 2 ^ 64
    → geometry_behind n j (decimal i ++ layout_mark l) (cut (decimal i ++ layout_mark l)) ≡ geometry_by l (small_number_of n) (small_number_of j) (small_number_of (decimal i))
nodes_read n j i One low = rw (append-nil (decimal i)) (rw (number_alone i low) refl)
nodes_read n j i Two low = rw (number_at i (codes "2") low) refl

pub geometry_read : Numbers → (g : Geometry) → g.n < 2 ^ 32 → g.j < 2 ^ 32 → g.i < 2 ^ 32 → geometry_fits g ≡ true → geometry_of (geometry_text g) ≡ Some g
geometry_read law g n j i fits =
    rw (number_at g.n (decimal g.j ++ 32 ∷ (decimal g.i ++ layout_mark g.layout)) (omega (arith, n)))
    (rw (number_at g.j (decimal g.i ++ layout_mark g.layout) (omega (arith, j)))
    (rw (nodes_read (decimal g.n) (decimal g.j) g.i g.layout (omega (arith, i)))
    (rw (small_read law g.n n) (rw (small_read law g.j j) (rw (small_read law g.i i) (rw fits refl))))))

-- ---- events

abbrev pub placed_text : ℕ → List ℕ → List ℕ
placed_text block bytes = decimal block ++ 32 ∷ encode_lower bytes

pub placed_read : Numbers → (block : ℕ) (bytes : List ℕ) → block < 2 ^ 32 → IsBlock bytes → placed_of (placed_text block bytes) ≡ Some (block, bytes)
placed_read law block bytes low h =
    rw (number_at block (encode_lower bytes) (omega (arith, low))) (rw (small_read law block low) (rw (block_read bytes h) refl))

both_gave : (o : Option ℕ) (p : Option (List ℕ)) (x : ℕ × List ℕ) → both o p ≡ Some x → (o ≡ Some x.0) × (p ≡ Some x.1)
both_gave o p x h = grind arith

pub placed_is_read : Numbers → (text : List ℕ) (x : ℕ × List ℕ) → placed_of text ≡ Some x → (placed_text x.0 x.1 ≡ text) × (x.0 < 2 ^ 32) × IsBlock x.1
placed_is_read law text x h =
    let parts = cut_gave (cut text) (option_and_then (λ parts. both (small_number_of parts.0) (block_of parts.1))) x refl h in
    let found = both_gave (small_number_of parts.0) (block_of parts.1) x parts.3 in
    let number = small_is_read law parts.0 x.0 found.0 in
    let bytes = block_is_read parts.1 x.1 found.1 in
    (rw (number.0, bytes.0, ← cut_is text parts.0 parts.1 parts.2) refl, number.1, bytes.1)

abbrev pub event_text : Event → List ℕ
event_text (Wrote ticket block bytes) = 119 ∷ 32 ∷ (decimal ticket ++ 32 ∷ placed_text block bytes)
event_text (Lost block bytes) = 102 ∷ 32 ∷ placed_text block bytes
event_text (Noticed ticket) = 100 ∷ 32 ∷ decimal ticket

pub event_read : Numbers → (e : Event) → IsEventOf (2 ^ 32) e → behind event_by_letter (event_text e) ≡ Some e
event_read law (Wrote ticket block bytes) h =
    rw (number_at ticket (placed_text block bytes) h.0) (rw (law.read ticket h.0) (rw (placed_read law block bytes h.1 h.2) refl))
event_read law (Lost block bytes) h = rw (placed_read law block bytes h.0 h.1) refl
event_read law (Noticed ticket) h = rw (law.read ticket h) refl

wrote_gave : (o : Option ℕ) (p : Option (ℕ × List ℕ)) (e : Event) → wrote_by o p ≡ Some e
    → (ticket : ℕ) × (x : ℕ × List ℕ) × (o ≡ Some ticket) × (p ≡ Some x) × (Wrote ticket x.0 x.1 ≡ e)
wrote_gave (Some ticket) (Some x) e h = (ticket, x, refl, refl, cc h)
wrote_gave other p e h = cc h

abbrev IsText : List ℕ → Event → Type 0
IsText line e = (event_text e ≡ line) × IsEventOf (2 ^ 32) e

wrote_is_read : Numbers → (rest : List ℕ) (e : Event) → wrote_of rest ≡ Some e → IsText (119 ∷ 32 ∷ rest) e
wrote_is_read law rest e h =
    let parts = cut_gave (cut rest) (option_and_then (λ parts. wrote_by (number_of parts.0) (placed_of parts.1))) e refl h in
    let found = wrote_gave (number_of parts.0) (placed_of parts.1) e parts.3 in
    let ticket = law.text parts.0 found.0 found.2 in
    let low = law.small parts.0 found.0 found.2 in
    let placed = placed_is_read law parts.1 found.1 found.3 in
    let same : decimal found.0 ++ 32 ∷ placed_text found.1.0 found.1.1 ≡ rest = rw (ticket, placed.0, ← cut_is rest parts.0 parts.1 parts.2) refl in
    subst (IsText (119 ∷ 32 ∷ rest)) found.4 (ap (λ l. 119 ∷ 32 ∷ l) same, (low, placed.1, placed.2))

pub map_gave : {A B : Type 0} (f : A → B) (o : Option A) (y : B) → option_map f o ≡ Some y → (x : A) × (o ≡ Some x) × (f x ≡ y)
map_gave f (Some x) y h = (x, refl, cc h)
map_gave f None y h = cc h

lost_is_read : Numbers → (rest : List ℕ) (e : Event) → lost_of rest ≡ Some e → IsText (102 ∷ 32 ∷ rest) e
lost_is_read law rest e h =
    let found = map_gave (λ (placed : ℕ × List ℕ). Lost placed.0 placed.1) (placed_of rest) e h in
    let placed = placed_is_read law rest found.0 found.1 in
    subst (IsText (102 ∷ 32 ∷ rest)) found.2 (ap (λ l. 102 ∷ 32 ∷ l) placed.0, (placed.1, placed.2))

noticed_is_read : Numbers → (rest : List ℕ) (e : Event) → noticed_of rest ≡ Some e → IsText (100 ∷ 32 ∷ rest) e
noticed_is_read law rest e h =
    let found = map_gave (λ ticket. Noticed ticket) (number_of rest) e h in
    subst (IsText (100 ∷ 32 ∷ rest)) found.2 (ap (λ l. 100 ∷ 32 ∷ l) (law.text rest found.0 found.1), law.small rest found.0 found.1)

letter_gave : Numbers → (first : ℕ) (rest : List ℕ) (e : Event) → event_by_letter first rest ≡ Some e → IsText (first ∷ 32 ∷ rest) e
letter_gave law first rest e h = w (first == 119) refl h
  where
    d : (b : Bool) → (first == 100) ≡ b → (if b then noticed_of rest else None) ≡ Some e → IsText (first ∷ 32 ∷ rest) e
    d true is f = subst (λ c. IsText (c ∷ 32 ∷ rest) e) (sym (eqb-true first 100 is)) (noticed_is_read law rest e f)
    d false is f = cc f

    l : (b : Bool) → (first == 102) ≡ b → (if b then lost_of rest else if first == 100 then noticed_of rest else None) ≡ Some e → IsText (first ∷ 32 ∷ rest) e
    l true is f = subst (λ c. IsText (c ∷ 32 ∷ rest) e) (sym (eqb-true first 102 is)) (lost_is_read law rest e f)
    l false is f = d (first == 100) refl f

    w : (b : Bool) → (first == 119) ≡ b → (if b then wrote_of rest else if first == 102 then lost_of rest else if first == 100 then noticed_of rest else None) ≡ Some e
        → IsText (first ∷ 32 ∷ rest) e
    w true is f = subst (λ c. IsText (c ∷ 32 ∷ rest) e) (sym (eqb-true first 119 is)) (wrote_is_read law rest e f)
    w false is f = l (first == 102) refl f

-- what stands behind a letter and a blank
pub behind_gave : {A : Type 0} (says : ℕ → List ℕ → Option A) (line : List ℕ) (x : A) → behind says line ≡ Some x
    → (first : ℕ) × (rest : List ℕ) × (line ≡ first ∷ 32 ∷ rest) × (says first rest ≡ Some x)
behind_gave says [] x h = cc h
behind_gave says (first ∷ []) x h = cc h
behind_gave says (first ∷ second ∷ rest) x h =
    let found = if_gave (second == 32) (says first rest) x h in
    (first, rest, ap (λ c. first ∷ c ∷ rest) (eqb-true second 32 found.0), found.1)

pub event_is_read : Numbers → (line : List ℕ) (e : Event) → behind event_by_letter line ≡ Some e → (event_text e ≡ line) × IsEventOf (2 ^ 32) e
event_is_read law line e h =
    let found = behind_gave event_by_letter line e h in
    subst (λ l. IsText l e) (sym found.2) (letter_gave law found.0 found.1 e found.3)

-- ---- the geometry

geometry_gave : (l : Layout) (a b c : Option ℕ) (g : Geometry) → geometry_by l a b c ≡ Some g
    → (a ≡ Some g.n) × (b ≡ Some g.j) × (c ≡ Some g.i) × (l ≡ g.layout) × (geometry_fits g ≡ true)
geometry_gave l (Some n) (Some j) (Some i) g h =
    let found = if_gave (geometry_fits (record { n = n; j = j; i = i; layout = l })) (Some record { n = n; j = j; i = i; layout = l }) g h in
    let same : record { n = n; j = j; i = i; layout = l } ≡ g = cc found.1 in
    (ap (λ x. Some x.n) same, ap (λ x. Some x.j) same, ap (λ x. Some x.i) same, ap (λ x. x.layout) same, ap geometry_fits (sym same) ∙ found.0)
geometry_gave l other b c g h = cc h

-- the third number and the layout, of what stands behind two numbers
nodes_gave : (n j i : List ℕ) (o : Option (List ℕ × List ℕ)) (g : Geometry) → cut i ≡ o → geometry_behind n j i o ≡ Some g
    → (number : List ℕ) × (l : Layout) × (geometry_by l (small_number_of n) (small_number_of j) (small_number_of number) ≡ Some g) × (number ++ layout_mark l ≡ i)
nodes_gave n j i None g at h = (i, One, h, append-nil i)
nodes_gave n j i (Some parts) g at h =
    let found = if_gave (bytes_eq parts.1 (codes "2")) (geometry_by Two (small_number_of n) (small_number_of j) (small_number_of parts.0)) g h in
    let mark : parts.1 ≡ codes "2" = (bytes_eq-Decides parts.1 (codes "2")).0 found.0 in
    (parts.0, Two, found.1, ap (λ b. parts.0 ++ 32 ∷ b) (sym mark) ∙ sym (cut_is i parts.0 parts.1 at))

-- the text whose parts these are
geometry_joined : (g : Geometry) (l : Layout) (n j i back rest text : List ℕ) → decimal g.n ≡ n → decimal g.j ≡ j → decimal g.i ≡ i → l ≡ g.layout
    → i ++ layout_mark l ≡ back → rest ≡ j ++ 32 ∷ back → text ≡ n ++ 32 ∷ rest → geometry_text g ≡ text
geometry_joined g l n j i back rest text a b c same mark two one = rw (a, b, c, ← same, mark, one, two) refl

pub geometry_is_read : Numbers → (text : List ℕ) (g : Geometry) → geometry_of text ≡ Some g
    → (geometry_text g ≡ text) × (g.n < 2 ^ 32) × (g.j < 2 ^ 32) × (g.i < 2 ^ 32) × (geometry_fits g ≡ true)
geometry_is_read law text g h =
    let one = cut_gave (cut text) (option_and_then (λ parts. geometry_with parts.0 (cut parts.1))) g refl h in
    let two = cut_gave (cut one.1) (geometry_with one.0) g refl one.3 in
    let three = nodes_gave one.0 two.0 two.1 (cut two.1) g refl two.3 in
    let numbers = geometry_gave three.1 (small_number_of one.0) (small_number_of two.0) (small_number_of three.0) g three.2 in
    let n = small_is_read law one.0 g.n numbers.0 in
    let j = small_is_read law two.0 g.j numbers.1 in
    let i = small_is_read law three.0 g.i numbers.2 in
    let joined = geometry_joined g three.1 one.0 two.0 three.0 two.1 one.1 text n.0 j.0 i.0 numbers.3 three.3
    (cut_is one.1 two.0 two.1 two.2) (cut_is text one.0 one.1 one.2) in
    (joined, n.1, j.1, i.1, numbers.4)

pub geometry_line_is_read : Numbers → (line : List ℕ) (g : Geometry) → behind geometry_by_letter line ≡ Some g
    → (103 ∷ 32 ∷ geometry_text g ≡ line) × (geometry_fits g ≡ true)
geometry_line_is_read law line g h =
    let found = behind_gave geometry_by_letter line g h in
    let said = if_gave (found.0 == 103) (geometry_of found.1) g found.3 in
    let read = geometry_is_read law found.1 g said.1 in
    (ap (λ l. 103 ∷ 32 ∷ l) read.0 ∙ ap (λ c. c ∷ 32 ∷ found.1) (sym (eqb-true found.0 103 said.0)) ∙ sym found.2, read.4)

-- ---- replies

abbrev pub reply_text : ℕ × List ℕ → List ℕ
reply_text reply = decimal reply.0 ++ 32 ∷ reply.1

pub reply_read : Numbers → (reply : ℕ × List ℕ) → reply.0 < 2 ^ 64 → reply_of (reply_text reply) ≡ Some reply
reply_read law reply low = rw (number_at reply.0 reply.1 low) (rw (law.read reply.0 low) refl)

marked_gave : (o : Option ℕ) (text : List ℕ) (x : ℕ × List ℕ) → marked o text ≡ Some x → (o ≡ Some x.0) × (text ≡ x.1)
marked_gave o text x h = grind arith

reply_is_read : Numbers → (rest : List ℕ) (x : ℕ × List ℕ) → reply_of rest ≡ Some x → (reply_text x ≡ rest) × (x.0 < 2 ^ 64)
reply_is_read law rest x h =
    let parts = cut_gave (cut rest) (option_and_then (λ parts. marked (number_of parts.0) parts.1)) x refl h in
    let found = marked_gave (number_of parts.0) parts.1 x parts.3 in
    (ap (λ l. l ++ 32 ∷ x.1) (law.text parts.0 x.0 found.0) ∙ ap (λ l. parts.0 ++ 32 ∷ l) (sym found.1) ∙ sym (cut_is rest parts.0 parts.1 parts.2), law.small parts.0 x.0 found.0)

pub reply_line_is_read : Numbers → (line : List ℕ) (x : ℕ × List ℕ) → behind reply_by_letter line ≡ Some x → (114 ∷ 32 ∷ reply_text x ≡ line) × (x.0 < 2 ^ 64)
reply_line_is_read law line x h =
    let found = behind_gave reply_by_letter line x h in
    let said = if_gave (found.0 == 114) (reply_of found.1) x found.3 in
    let read = reply_is_read law found.1 x said.1 in
    (ap (λ l. 114 ∷ 32 ∷ l) read.0 ∙ ap (λ c. c ∷ 32 ∷ found.1) (sym (eqb-true found.0 114 said.0)) ∙ sym found.2, read.1)
