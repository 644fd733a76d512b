-- One pass over entries that ascend by block.
use Rattle.std.proofs.Common.{◌≡◌, ◌+◌, ◌<◌, ◌≤◌, ◌&&◌, ℕ, Bool, true, false, not, if◌then◌else◌, nat_le, nat_lt, nat_eq, List, [], ◌∷◌, length, drop, get_or, drop-cons, add-one, slice_index_or, refl, sym, ◌∙◌, ap, subst, arith}
use Rattle.layout_geometry.specs.Geometry.{Geometry, data_start}
use Rattle.layout_journal.specs.declared.entry.Entry.{Entry}
use Rattle.layout_journal.specs.Run.{names_block, are_ascending, is_fresh, are_fresh}

parts : (x y : Bool) → (x && y) ≡ true → (x ≡ true) × (y ≡ true)
parts true y both = (refl, both)
parts false y both = cc

below : (m n : ℕ) → nat_le m n ≡ true → m ≤ n
below m n le = grind arith

other : (m n : ℕ) → n < m → nat_eq m n ≡ false
other m n lt = grind arith

-- entries that ascend from above a block don't name it
unnamed : (es : List Entry) (low high b : ℕ) → b < low → are_ascending low high es ≡ true → names_block es b ≡ false
unnamed [] low high b lt up = refl
unnamed (e ∷ es) low high b lt up =
    let all = parts (nat_le low e.block) _ up in
    let on = parts (nat_lt e.block high) _ all.1 in
    let here : low ≤ e.block = below low e.block all.0 in
    ap (λ t. if t then true else names_block es b) (other e.block b (omega (arith, here, lt))) ∙ unnamed es (e.block + 1) high b (omega (arith, here, lt)) on.1

-- of entries that ascend from a block on, none but the first names it
pub first_alone : (es : List Entry) (d : Entry) (block high : ℕ) → 0 < length es → are_ascending block high es ≡ true → nat_eq (slice_index_or es 0 d).block block ≡ names_block es block
first_alone [] d block high some up = absurd (omega (arith, some))
first_alone (e ∷ es) d block high some up =
    let all = parts (nat_le block e.block) _ up in
    let on = parts (nat_lt e.block high) _ all.1 in
    let here : block ≤ e.block = below block e.block all.0 in
    whole (nat_eq e.block block) (names_block es block) (unnamed es (e.block + 1) high block (omega (arith, here)) on.1)
  where
    whole : (t r : Bool) → r ≡ false → t ≡ (if t then true else r)
    whole true r n = refl
    whole false r n = sym n

-- the entries from place k on
pub from_here : (es : List Entry) (k : ℕ) (d : Entry) → k < length es → drop k es ≡ get_or es k d ∷ drop (k + 1) es
from_here es k d lt = drop-cons es k d lt ∙ ap (λ n. get_or es k d ∷ drop n es) (sym (add-one k))

-- these entries name the same blocks, from this one on
abbrev pub NamesFrom : ℕ → List Entry → List Entry → Type 0
NamesFrom low some others = (b : ℕ) → low ≤ b → names_block some b ≡ names_block others b

-- an entry that ascends is above the bound, and so are those behind it
ascended : (low high : ℕ) (e : Entry) (rest here : List Entry) → here ≡ e ∷ rest → are_ascending low high here ≡ true → (low ≤ e.block) × (are_ascending (e.block + 1) high rest ≡ true)
ascended low high e rest here is up =
    let all = parts (nat_le low e.block) _ (subst (λ l. are_ascending low high l ≡ true) is up) in
    (below low e.block all.0, (parts (nat_lt e.block high) _ all.1).1)

-- whether the first of those that are left names the block tells whether a payload does
pub told : (high : ℕ) (payloads before after rest here : List Entry) (e : Entry) (low : ℕ) (first : Bool) → here ≡ e ∷ rest → are_ascending low high here ≡ true → NamesFrom low before payloads
    → (from : ℕ) × (are_ascending from high before ≡ true) → NamesFrom e.block after before → ((low high : ℕ) → are_ascending low high before ≡ true → are_ascending e.block high after ≡ true)
    → ((high : ℕ) → are_ascending e.block high after ≡ true → first ≡ names_block after e.block) → names_block payloads e.block ≡ first
told high payloads before after rest here e low first is up same left names ascends tells =
    sym (tells high (ascends left.0 high left.1) ∙ names e.block (omega arith) ∙ same e.block (ascended low high e rest here is up).0)

-- what is left serves the entries behind it
pub next : (high : ℕ) (payloads before after rest here : List Entry) (e : Entry) (low : ℕ) → here ≡ e ∷ rest → are_ascending low high here ≡ true → NamesFrom low before payloads → NamesFrom e.block after before
    → (low : ℕ) × (are_ascending low high rest ≡ true) × NamesFrom low after payloads
next high payloads before after rest here e low is up same names =
    let all = ascended low high e rest here is up in
    (e.block + 1, all.1, λ b le. names b (omega (arith, le)) ∙ same b (omega (arith, le, all.0)))

last_false : (a b c r : Bool) → (a && (b && (c && (false && r)))) ≡ false
last_false true true true r = refl
last_false true true false r = refl
last_false true false c r = refl
last_false false b c r = refl

-- a fresh entry of a block that a payload names
pub refused : (g : Geometry) (payloads rest here : List Entry) (e : Entry) (first : Bool) → here ≡ e ∷ rest → names_block payloads e.block ≡ first → first ≡ true → are_fresh g payloads here ≡ false
refused g payloads rest here e first is same named =
    ap (are_fresh g payloads) is
    ∙ ap (λ t. is_fresh e.kind && (nat_le (data_start g) e.block && (nat_lt e.block g.n && (not t && are_fresh g payloads rest)))) (same ∙ named)
    ∙ last_false (is_fresh e.kind) (nat_le (data_start g) e.block) (nat_lt e.block g.n) (are_fresh g payloads rest)

at_least : (m n : ℕ) → m ≤ n → nat_le m n ≡ true
at_least m n le = grind arith

less : (m n : ℕ) → m < n → nat_lt m n ≡ true
less m n lt = grind arith

-- one that is fresh and named by none
pub passed : (g : Geometry) (payloads rest here : List Entry) (e : Entry) (first : Bool) → here ≡ e ∷ rest → names_block payloads e.block ≡ first → first ≡ false → is_fresh e.kind ≡ true → data_start g ≤ e.block → e.block < g.n
    → are_fresh g payloads rest ≡ are_fresh g payloads here
passed g payloads rest here e first is same named fresh from under =
    sym (ap (are_fresh g payloads) is
    ∙ ap (λ t. is_fresh e.kind && (nat_le (data_start g) e.block && (nat_lt e.block g.n && (not t && are_fresh g payloads rest)))) (same ∙ named)
    ∙ ap (λ t. t && (nat_le (data_start g) e.block && (nat_lt e.block g.n && (true && are_fresh g payloads rest)))) fresh
    ∙ ap (λ t. t && (nat_lt e.block g.n && (true && are_fresh g payloads rest))) (at_least (data_start g) e.block from)
    ∙ ap (λ t. t && (true && are_fresh g payloads rest)) (less e.block g.n under))
