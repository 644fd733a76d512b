-- What each kind of line says behind its first two bytes, where it says something.
use Rattle.std.specs.Prelude.{ℕ, ◌==◌, if◌then◌else◌, List, [], ◌∷◌, Option, Some, None, option_map, option_and_then, codes, bytes_eq}
use Rattle.base_types.specs.declared.layout.Layout.{Layout}
use Rattle.base_types.specs.declared.layout.Layout.TheVariants.{One, Two}
use Rattle.layout_geometry.specs.Geometry.{Geometry, geometry_fits}
use Rattle.disk_contract.specs.declared.event.Event.{Event}
use Rattle.disk_contract.specs.declared.event.Event.TheVariants.{Wrote, Lost, Noticed}
use Rattle.lang_tree.specs.declared.command.Refusal.{Refusal}
use Rattle.lang_tree.specs.declared.command.Refusal.TheVariants.{Full, TooBig, Scattered, ReadFault, DiskFault, Stopped, Spent, NoMemory}
use Rattle.lang_script.specs.Decimal.{number_of}
use Rattle.cmd_trace.specs.ReadFields.{cut, small_number_of, block_of}

-- ---- the geometry

-- the geometry of this layout with these numbers, where they are there and fit
abbrev pub geometry_by : Layout → Option ℕ → Option ℕ → Option ℕ → Option Geometry
geometry_by l (Some n) (Some j) (Some i) =
    if geometry_fits (record { n = n; j = j; i = i; layout = l }) then Some record { n = n; j = j; i = i; layout = l } else None
geometry_by l _ _ _ = None

-- the geometry of two numbers and what is behind them: a third one, which in layout 2 alone has a blank and a 2 behind it
abbrev pub geometry_behind : List ℕ → List ℕ → List ℕ → Option (List ℕ × List ℕ) → Option Geometry
geometry_behind n j i None = geometry_by One (small_number_of n) (small_number_of j) (small_number_of i)
geometry_behind n j i (Some parts) =
    if bytes_eq parts.1 (codes "2") then geometry_by Two (small_number_of n) (small_number_of j) (small_number_of parts.0) else None

-- the geometry of a number and of what is behind it
abbrev pub geometry_with : List ℕ → Option (List ℕ × List ℕ) → Option Geometry
geometry_with n (Some rest) = geometry_behind n rest.0 rest.1 (cut rest.1)
geometry_with n None = None

-- the geometry whose numbers and layout the text has
abbrev pub geometry_of : List ℕ → Option Geometry
geometry_of text = option_and_then (λ parts. geometry_with parts.0 (cut parts.1)) (cut text)

-- ---- events

-- a block's number with bytes, where both are there
abbrev pub both : Option ℕ → Option (List ℕ) → Option (ℕ × List ℕ)
both (Some block) (Some bytes) = Some (block, bytes)
both _ _ = None

-- the number of a block and its bytes
abbrev pub placed_of : List ℕ → Option (ℕ × List ℕ)
placed_of text = option_and_then (λ parts. both (small_number_of parts.0) (block_of parts.1)) (cut text)

-- an accepted write, where its ticket and the rest are there
abbrev pub wrote_by : Option ℕ → Option (ℕ × List ℕ) → Option Event
wrote_by (Some ticket) (Some placed) = Some (Wrote ticket placed.0 placed.1)
wrote_by _ _ = None

-- the accepted write that the text is
abbrev pub wrote_of : List ℕ → Option Event
wrote_of text = option_and_then (λ parts. wrote_by (number_of parts.0) (placed_of parts.1)) (cut text)

-- the lost write that the text is
abbrev pub lost_of : List ℕ → Option Event
lost_of text = option_map (λ placed. Lost placed.0 placed.1) (placed_of text)

-- the notice that the text is
abbrev pub noticed_of : List ℕ → Option Event
noticed_of text = option_map (λ ticket. Noticed ticket) (number_of text)

-- ---- replies

-- a moment with the text behind it, where it is there
abbrev pub marked : Option ℕ → List ℕ → Option (ℕ × List ℕ)
marked (Some moment) text = Some (moment, text)
marked None text = None

-- the moment of a reply and its text
abbrev pub reply_of : List ℕ → Option (ℕ × List ℕ)
reply_of text = option_and_then (λ parts. marked (number_of parts.0) parts.1) (cut text)

-- so many blocks are needed and so many left
abbrev pub full_by : Option ℕ → Option ℕ → Option Refusal
full_by (Some need) (Some left) = Some (Full need left)
full_by _ _ = None

-- the refusal `full` with these two numbers
abbrev pub full_of : List ℕ → Option Refusal
full_of text = option_and_then (λ parts. full_by (small_number_of parts.0) (small_number_of parts.1)) (cut text)

-- so heavy, at such a cost, with so much room
abbrev pub too_big_by : Option ℕ → Option ℕ → Option ℕ → Option Refusal
too_big_by (Some weight) (Some cost) (Some room) = Some (TooBig weight cost room)
too_big_by _ _ _ = None

-- the same of a number and of two more
abbrev pub too_big_with : List ℕ → Option (List ℕ × List ℕ) → Option Refusal
too_big_with weight (Some rest) = too_big_by (small_number_of weight) (small_number_of rest.0) (small_number_of rest.1)
too_big_with weight None = None

-- the refusal `toobig` with these three numbers
abbrev pub too_big_of : List ℕ → Option Refusal
too_big_of text = option_and_then (λ parts. too_big_with parts.0 (cut parts.1)) (cut text)

-- the refusal `scattered` with this number
abbrev pub scattered_of : List ℕ → Option Refusal
scattered_of text = option_map (λ runs. Scattered runs) (small_number_of text)

-- the refusal with this number and name, of those that don't come from the tree and tell no figures
abbrev pub reason_of : List ℕ → Option Refusal
reason_of text =
    if bytes_eq text (codes "13 ReadFault") then Some ReadFault
    else if bytes_eq text (codes "14 DiskFault") then Some DiskFault
    else if bytes_eq text (codes "15 Stopped") then Some Stopped
    else if bytes_eq text (codes "16 Spent") then Some Spent
    else if bytes_eq text (codes "17 NoMemory") then Some NoMemory
    else None

-- the refusal that begins with this word
abbrev pub refusal_by : List ℕ → List ℕ → Option Refusal
refusal_by word text =
    if bytes_eq word (codes "full") then full_of text
    else if bytes_eq word (codes "toobig") then too_big_of text
    else if bytes_eq word (codes "scattered") then scattered_of text
    else if bytes_eq word (codes "refused") then reason_of text
    else None

-- the refusal from outside the tree that the text of a reply is
abbrev pub refusal_of : List ℕ → Option Refusal
refusal_of text = option_and_then (λ parts. refusal_by parts.0 parts.1) (cut text)

-- the point that a word and a number name, where the word is `known`
abbrev pub known_by : List ℕ → List ℕ → Option ℕ
known_by word text = if bytes_eq word (codes "known") then number_of text else None

-- the point that is known to be on the disk, by the text of a reply
abbrev pub known_of : List ℕ → Option ℕ
known_of text = option_and_then (λ parts. known_by parts.0 parts.1) (cut text)

-- ---- whole lines

-- what a line says by its first byte and what stands behind the blank
abbrev pub behind : {A : Type 0} → (ℕ → List ℕ → Option A) → List ℕ → Option A
behind says [] = None
behind says (first ∷ []) = None
behind says (first ∷ second ∷ rest) = if second == 32 then says first rest else None

-- the geometry where the first byte is `g`
abbrev pub geometry_by_letter : ℕ → List ℕ → Option Geometry
geometry_by_letter first rest = if first == 103 then geometry_of rest else None

-- the event of the letter `w`, `f` or `d`
abbrev pub event_by_letter : ℕ → List ℕ → Option Event
event_by_letter first rest =
    if first == 119 then wrote_of rest
    else if first == 102 then lost_of rest
    else if first == 100 then noticed_of rest
    else None

-- the moment and the text of a reply where the first byte is `r`
abbrev pub reply_by_letter : ℕ → List ℕ → Option (ℕ × List ℕ)
reply_by_letter first rest = if first == 114 then reply_of rest else None
