-- A text is that of one command and of one reply, and has no line feed.
use Rattle.std.proofs.Common.{◌≡◌, sym, ap, refl, ◌∙◌, arith, rules, tests, subst, ℕ, ◌<◌, ◌≤◌, ◌^◌, ◌/◌, ◌%◌, ◌==◌, Bool, true, if◌then◌else◌, List, [], ◌∷◌, ◌++◌, drop, get_or, length, Option, Some, None, decimal, nat_lt, nat_le, bytes_eq, codes, append_assoc}
use Rattle.std.specs.Prelude.{slice_index_or}
use Rattle.std.proofs.lemmas.Bool.{and_parts}
use Rattle.std.proofs.lemmas.Bool.Decides.{Decides-ltb}
use Rattle.std.proofs.lemmas.List.{append-nil}
use Rattle.std.proofs.lemmas.Fmt.{digits_decimal, digits_value-decimal}
use Rattle.std.specs.Char.{is_ascii_digit}
use Rattle.std.specs.List.{list_all}
use Rattle.std.specs.Str.Parse.{digits_value}
use Rattle.std.proofs.lemmas.List.Sums.{AllPass-from_list_all}
use Rattle.hex.specs.Hex.{encode_lower, encode_with, lower_digits}
use Rattle.base_types.specs.Name.{is_name, is_name_byte, is_snapshot_name}
use Rattle.lang_tree.specs.declared.command.Cmd.{Cmd}
use Rattle.lang_tree.specs.declared.command.Cmd.TheVariants.{Mkdir, Create, Write, Fill, Read, Truncate, Link, Unlink, Rmdir, Rename, Stat, List as ListNames, Snap, Unsnap, Snaps, At, Osync, Dsync, Durable, Dwait, Poll, Bad}
use Rattle.lang_tree.specs.declared.command.Look.{Look}
use Rattle.lang_tree.specs.declared.command.Look.TheVariants as look
use Rattle.lang_tree.specs.declared.command.Kind.{Kind}
use Rattle.lang_tree.specs.declared.command.Kind.TheVariants.{Dir, File}
use Rattle.lang_tree.specs.declared.command.Reply.{Reply}
use Rattle.lang_tree.specs.declared.command.Reply.TheVariants.{Ok as Done, Bytes, Stat as StatReply, Names, Synced, DurableAt, Known, Bad as NotUnderstood, Refused}
use Rattle.lang_tree.specs.declared.command.Refusal.{Refusal}
use Rattle.lang_tree.specs.declared.command.Refusal.TheVariants.{NotFound, Exists, NotDir, IsDir, NotEmpty, BelowItself, TooLarge, TooManyLinks, NoNode, Full, TooBig, Scattered, ReadFault, DiskFault, Stopped, Spent, NoMemory, NameTooLong, NoPoint, NoSnap}
use Rattle.lang_tree.specs.Refusals.{refusal_number, refusal_name}
use Rattle.lang_tree.specs.Listing.{slashed, path_text, digits_behind_blank}
use Rattle.lang_script.specs.Shared.{name_bytes, own, weaker, snapshot_name}
use Rattle.lang_script.specs.Text.{command_text, look_text, text_of_reply, kind_text, names_behind_blanks, refusal_text}
use Rattle.lang_script.specs.Grammar.{command_of, bytes_of, is_lawful_look}
use Rattle.lang_script.specs.Values.{IsCommand, IsReply, HasFigures, has_no_feed}
use Rattle.lang_script.proofs.RoundTrip.{both, bytes_of-encode_lower, round_trip, regroup_three}

-- Parts of a line, and what ends them.

abbrev past : ℕ → ℕ → Bool
past m b = nat_lt m b

-- a part of a line: each byte is above the blank
abbrev Part : List ℕ → Type 0
Part xs = list_all (past 32) xs ≡ true

-- nothing, or it begins with a blank or a line feed
abbrev Low : List ℕ → Type 0
Low [] = Unit {0}
Low (b ∷ r) = b ≤ 32

above : (b : ℕ) → past 32 b ≡ true → 32 < b
above b h = (Decides-ltb 32 b).0 h

cut : (xs ys r s : List ℕ) → Part xs → Part ys → Low r → Low s → xs ++ r ≡ ys ++ s → (xs ≡ ys) × (r ≡ s)
cut [] [] r s p q low down e = (refl, e)
cut [] (y ∷ ys) [] s p q low down e = absurd cc
cut [] (y ∷ ys) (b ∷ r) s p q low down e =
    absurd (omega (arith, low, above y (and_parts (past 32 y) (list_all (past 32) ys) q).0, ap (λ l. get_or l 0 0) e))
cut (x ∷ xs) [] r [] p q low down e = absurd cc
cut (x ∷ xs) [] r (b ∷ s) p q low down e =
    absurd (omega (arith, down, above x (and_parts (past 32 x) (list_all (past 32) xs) p).0, ap (λ l. get_or l 0 0) e))
cut (x ∷ xs) (y ∷ ys) r s p q low down e =
    let rest = cut xs ys r s (and_parts (past 32 x) (list_all (past 32) xs) p).1 (and_parts (past 32 y) (list_all (past 32) ys) q).1 low down (ap (drop 1) e) in
    let head : x ≡ y = ap (λ l. get_or l 0 0) e in
    (rw head (ap (λ l. y ∷ l) rest.0), rest.1)

-- the parts of a line one behind the other, a blank between two
abbrev joined : List (List ℕ) → List ℕ
joined [] = []
joined (w ∷ ws) = w ++ names_behind_blanks ws

abbrev Parts : List (List ℕ) → Type 0
Parts [] = Unit {0}
Parts (w ∷ ws) = Part w × Parts ws

behind_low : (ws : List (List ℕ)) → Low (names_behind_blanks ws)
behind_low [] = tt
behind_low (w ∷ ws) = omega arith

behind_cut : (ws vs : List (List ℕ)) → Parts ws → Parts vs → names_behind_blanks ws ≡ names_behind_blanks vs → ws ≡ vs
behind_cut [] [] p q e = refl
behind_cut [] (v ∷ vs) p q e = absurd cc
behind_cut (w ∷ ws) [] p q e = absurd cc
behind_cut (w ∷ ws) (v ∷ vs) p q e =
    let both_are = cut w v (names_behind_blanks ws) (names_behind_blanks vs) p.0 q.0 (behind_low ws) (behind_low vs) (ap (drop 1) e) in
    rw both_are.0 (ap (λ l. v ∷ l) (behind_cut ws vs p.1 q.1 both_are.1))

joined_cut : (w v : List ℕ) (ws vs : List (List ℕ)) → Parts (w ∷ ws) → Parts (v ∷ vs) → joined (w ∷ ws) ≡ joined (v ∷ vs) → w ∷ ws ≡ v ∷ vs
joined_cut w v ws vs p q e =
    let both_are = cut w v (names_behind_blanks ws) (names_behind_blanks vs) p.0 q.0 (behind_low ws) (behind_low vs) e in
    rw both_are.0 (ap (λ l. v ∷ l) (behind_cut ws vs p.1 q.1 both_are.1))

-- Numbers, bytes and names are parts.

digit_past : (b : ℕ) → is_ascii_digit b ≡ true → past 32 b ≡ true
digit_past b h = grind (arith, tests)

name_past : (b : ℕ) → is_name_byte b ≡ true → past 32 b ≡ true
name_past b h = grind (arith, tests)

past_feed : (b : ℕ) → past 32 b ≡ true → past 10 b ≡ true
past_feed b h = grind (arith, tests)

number_part : (n : ℕ) → n < 2 ^ 64 → Part (decimal n)
number_part n small = weaker is_ascii_digit (past 32) digit_past (decimal n) (digits_decimal own n small)

abbrev AreBytes : List ℕ → Type 0
AreBytes bytes = list_all (λ b. nat_lt b 256) bytes ≡ true

bytes_part : (bytes : List ℕ) → AreBytes bytes → Part (encode_lower bytes)
unfolding encode_with
bytes_part [] h = refl
bytes_part (b ∷ bytes) h =
    let parts = and_parts (nat_lt b 256) (list_all (λ b. nat_lt b 256) bytes) h in
    let low : b < 256 = (Decides-ltb b 256).0 parts.0 in
    let high_digit = AllPass-from_list_all (past 32) lower_digits refl (b / 16) 0 (omega (arith, low)) in
    let low_digit = AllPass-from_list_all (past 32) lower_digits refl (b % 16) 0 (omega (arith, low)) in
    rw (high_digit, low_digit) (bytes_part bytes parts.1)

name_part : (name : List ℕ) → is_name name ≡ true → Part name
name_part name h = weaker is_name_byte (past 32) name_past name (name_bytes name h)

names_parts : (names : List (List ℕ)) → list_all is_name names ≡ true → Parts names
names_parts [] h = tt
names_parts (name ∷ names) h =
    let parts = and_parts (is_name name) (list_all is_name names) h in
    (name_part name parts.0, names_parts names parts.1)

-- no line feed is in a line of parts

no_feed : (xs : List ℕ) → Part xs → has_no_feed xs ≡ true
no_feed xs p = weaker (past 32) (past 10) past_feed xs p

behind_no_feed : (ws : List (List ℕ)) → Parts ws → has_no_feed (names_behind_blanks ws) ≡ true
behind_no_feed [] p = refl
behind_no_feed (w ∷ ws) p = both (past 10) w (names_behind_blanks ws) (no_feed w p.0) (behind_no_feed ws p.1)

joined_no_feed : (ws : List (List ℕ)) → Parts ws → has_no_feed (joined ws) ≡ true
joined_no_feed [] p = refl
joined_no_feed (w ∷ ws) p = both (past 10) w (names_behind_blanks ws) (no_feed w p.0) (behind_no_feed ws p.1)

-- The parts of a reply's text.

abbrev refusal_parts : Refusal → List (List ℕ)
refusal_parts (Full need left) = codes "full" ∷ decimal need ∷ decimal left ∷ []
refusal_parts (TooBig weight cost room) = codes "toobig" ∷ decimal weight ∷ decimal cost ∷ decimal room ∷ []
refusal_parts (Scattered runs) = codes "scattered" ∷ decimal runs ∷ []
refusal_parts (NoPoint last) = codes "nopoint" ∷ decimal last ∷ []
refusal_parts why = codes "refused" ∷ decimal (refusal_number why) ∷ refusal_name why ∷ []

abbrev bytes_parts : List ℕ → List (List ℕ)
bytes_parts [] = []
bytes_parts (b ∷ bytes) = encode_lower (b ∷ bytes) ∷ []

abbrev reply_parts : Reply → List (List ℕ)
reply_parts Done = codes "ok" ∷ []
reply_parts (Bytes bytes) = codes "hex" ∷ bytes_parts bytes
reply_parts (StatReply stat) = codes "stat" ∷ kind_text stat.kind ∷ decimal stat.number ∷ decimal stat.size ∷ decimal stat.links ∷ []
reply_parts (Names names) = codes "names" ∷ names
reply_parts (Synced point) = codes "synced" ∷ decimal point ∷ []
reply_parts (DurableAt point) = codes "durable" ∷ decimal point ∷ []
reply_parts (Known point) = codes "known" ∷ decimal point ∷ []
reply_parts NotUnderstood = codes "bad" ∷ []
reply_parts (Refused why) = refusal_parts why

last : (xs : List ℕ) → xs ≡ xs ++ []
last xs = sym (append-nil xs)

two_text : (a d e : List ℕ) → a ++ d ++ codes " " ++ e ≡ a ++ (d ++ 32 ∷ (e ++ []))
two_text a d e = append_assoc (a ++ d) (codes " ") e ∙ append_assoc a d (32 ∷ e) ∙ ap (λ l. a ++ (d ++ 32 ∷ l)) (last e)

three_text : (a d e f : List ℕ) → a ++ d ++ codes " " ++ e ++ codes " " ++ f ≡ a ++ (d ++ 32 ∷ (e ++ 32 ∷ (f ++ [])))
three_text a d e f = regroup_three a d e f ∙ ap (λ l. a ++ (d ++ 32 ∷ (e ++ 32 ∷ l))) (last f)

four_text : (a d e f g : List ℕ) → a ++ d ++ codes " " ++ e ++ codes " " ++ f ++ codes " " ++ g ≡ a ++ (d ++ 32 ∷ (e ++ 32 ∷ (f ++ 32 ∷ (g ++ []))))
four_text a d e f g =
    append_assoc (a ++ d ++ codes " " ++ e ++ codes " " ++ f) (codes " ") g
    ∙ append_assoc (a ++ d ++ codes " " ++ e ++ codes " ") f (32 ∷ g)
    ∙ regroup_three a d e (f ++ 32 ∷ g)
    ∙ ap (λ l. a ++ (d ++ 32 ∷ (e ++ 32 ∷ (f ++ 32 ∷ l)))) (last g)

one_text : (a d : List ℕ) → a ++ d ≡ a ++ (d ++ [])
one_text a d = ap (λ l. a ++ l) (last d)

reason_text : (why : Refusal) → codes "refused " ++ decimal (refusal_number why) ++ codes " " ++ refusal_name why
    ≡ joined (codes "refused" ∷ decimal (refusal_number why) ∷ refusal_name why ∷ [])
reason_text why = two_text (codes "refused ") (decimal (refusal_number why)) (refusal_name why)

refusal_joined : (why : Refusal) → refusal_text why ≡ joined (refusal_parts why)
refusal_joined (Full need left) = two_text (codes "full ") (decimal need) (decimal left)
refusal_joined (TooBig weight cost room) = three_text (codes "toobig ") (decimal weight) (decimal cost) (decimal room)
refusal_joined (Scattered runs) = one_text (codes "scattered ") (decimal runs)
refusal_joined (NoPoint last) = one_text (codes "nopoint ") (decimal last)
refusal_joined NotFound = reason_text NotFound
refusal_joined Exists = reason_text Exists
refusal_joined NotDir = reason_text NotDir
refusal_joined IsDir = reason_text IsDir
refusal_joined NotEmpty = reason_text NotEmpty
refusal_joined BelowItself = reason_text BelowItself
refusal_joined TooLarge = reason_text TooLarge
refusal_joined TooManyLinks = reason_text TooManyLinks
refusal_joined NoNode = reason_text NoNode
refusal_joined ReadFault = reason_text ReadFault
refusal_joined DiskFault = reason_text DiskFault
refusal_joined Stopped = reason_text Stopped
refusal_joined Spent = reason_text Spent
refusal_joined NoMemory = reason_text NoMemory
refusal_joined NameTooLong = reason_text NameTooLong
refusal_joined NoSnap = reason_text NoSnap

bytes_joined : (bytes : List ℕ) → codes "hex" ++ digits_behind_blank bytes ≡ joined (codes "hex" ∷ bytes_parts bytes)
bytes_joined [] = refl
bytes_joined (b ∷ bytes) = one_text (codes "hex ") (encode_lower (b ∷ bytes))

reply_joined : (reply : Reply) → text_of_reply reply ≡ joined (reply_parts reply)
reply_joined Done = refl
reply_joined (Bytes bytes) = bytes_joined bytes
reply_joined (StatReply stat) = four_text (codes "stat ") (kind_text stat.kind) (decimal stat.number) (decimal stat.size) (decimal stat.links)
reply_joined (Names names) = refl
reply_joined (Synced point) = one_text (codes "synced ") (decimal point)
reply_joined (DurableAt point) = one_text (codes "durable ") (decimal point)
reply_joined (Known point) = one_text (codes "known ") (decimal point)
reply_joined NotUnderstood = refl
reply_joined (Refused why) = refusal_joined why

-- Each of them is a part.

reason_parts : (word : List ℕ) (why : Refusal) → Part word → Part (refusal_name why) → refusal_number why < 2 ^ 64 → Parts (word ∷ decimal (refusal_number why) ∷ refusal_name why ∷ [])
reason_parts word why p q small = (p, (number_part (refusal_number why) small, (q, tt)))

refusal_are_parts : (why : Refusal) → HasFigures why → Parts (refusal_parts why)
refusal_are_parts (Full need left) h = (refl, (number_part need h.0, (number_part left h.1, tt)))
refusal_are_parts (TooBig weight cost room) h = (refl, (number_part weight h.0, (number_part cost h.1, (number_part room h.2, tt))))
refusal_are_parts (Scattered runs) h = (refl, (number_part runs h, tt))
refusal_are_parts (NoPoint last) h = (refl, (number_part last h, tt))
refusal_are_parts NotFound h = reason_parts (codes "refused") NotFound refl refl (omega arith)
refusal_are_parts Exists h = reason_parts (codes "refused") Exists refl refl (omega arith)
refusal_are_parts NotDir h = reason_parts (codes "refused") NotDir refl refl (omega arith)
refusal_are_parts IsDir h = reason_parts (codes "refused") IsDir refl refl (omega arith)
refusal_are_parts NotEmpty h = reason_parts (codes "refused") NotEmpty refl refl (omega arith)
refusal_are_parts BelowItself h = reason_parts (codes "refused") BelowItself refl refl (omega arith)
refusal_are_parts TooLarge h = reason_parts (codes "refused") TooLarge refl refl (omega arith)
refusal_are_parts TooManyLinks h = reason_parts (codes "refused") TooManyLinks refl refl (omega arith)
refusal_are_parts NoNode h = reason_parts (codes "refused") NoNode refl refl (omega arith)
refusal_are_parts ReadFault h = reason_parts (codes "refused") ReadFault refl refl (omega arith)
refusal_are_parts DiskFault h = reason_parts (codes "refused") DiskFault refl refl (omega arith)
refusal_are_parts Stopped h = reason_parts (codes "refused") Stopped refl refl (omega arith)
refusal_are_parts Spent h = reason_parts (codes "refused") Spent refl refl (omega arith)
refusal_are_parts NoMemory h = reason_parts (codes "refused") NoMemory refl refl (omega arith)
refusal_are_parts NameTooLong h = reason_parts (codes "refused") NameTooLong refl refl (omega arith)
refusal_are_parts NoSnap h = reason_parts (codes "refused") NoSnap refl refl (omega arith)

kind_part : (kind : Kind) → Part (kind_text kind)
kind_part Dir = refl
kind_part File = refl

bytes_are_parts : (bytes : List ℕ) → AreBytes bytes → Parts (bytes_parts bytes)
bytes_are_parts [] h = tt
bytes_are_parts (b ∷ bytes) h = (bytes_part (b ∷ bytes) h, tt)

reply_are_parts : (reply : Reply) → IsReply reply → Parts (reply_parts reply)
reply_are_parts Done h = (refl, tt)
reply_are_parts (Bytes bytes) h = (refl, bytes_are_parts bytes h)
reply_are_parts (StatReply stat) h = (refl, (kind_part stat.kind, (number_part stat.number h.0, (number_part stat.size h.1, (number_part stat.links h.2, tt)))))
reply_are_parts (Names names) h = (refl, names_parts names h)
reply_are_parts (Synced point) h = (refl, (number_part point h, tt))
reply_are_parts (DurableAt point) h = (refl, (number_part point h, tt))
reply_are_parts (Known point) h = (refl, (number_part point h, tt))
reply_are_parts NotUnderstood h = (refl, tt)
reply_are_parts (Refused why) h = refusal_are_parts why h

-- The reply of which they are the parts.

abbrev number_at : List (List ℕ) → ℕ → ℕ
number_at parts i = digits_value 10 (slice_index_or parts i [])

abbrev bytes_or_none : Option (List ℕ) → List ℕ
bytes_or_none None = []
bytes_or_none (Some bytes) = bytes

abbrev bytes_in : List (List ℕ) → List ℕ
bytes_in [] = []
bytes_in (digits ∷ parts) = bytes_or_none (bytes_of digits)

abbrev kind_in : List ℕ → Kind
kind_in part = if bytes_eq part (codes "dir") then Dir else File

abbrev reason_in : ℕ → Refusal
reason_in n =
    if n == 1 then NotFound else if n == 2 then Exists else if n == 3 then NotDir else if n == 4 then IsDir
    else if n == 5 then NotEmpty else if n == 6 then BelowItself else if n == 7 then TooLarge else if n == 8 then TooManyLinks
    else if n == 9 then NoNode else if n == 13 then ReadFault else if n == 14 then DiskFault else if n == 15 then Stopped
    else if n == 16 then Spent else if n == 17 then NoMemory else if n == 18 then NameTooLong else NoSnap

abbrev reply_with : List ℕ → List (List ℕ) → Reply
reply_with word parts =
    if bytes_eq word (codes "ok") then Done
    else if bytes_eq word (codes "hex") then Bytes (bytes_in parts)
    else if bytes_eq word (codes "stat") then StatReply (record { kind = kind_in (slice_index_or parts 0 []); number = number_at parts 1; size = number_at parts 2; links = number_at parts 3 })
    else if bytes_eq word (codes "names") then Names parts
    else if bytes_eq word (codes "synced") then Synced (number_at parts 0)
    else if bytes_eq word (codes "durable") then DurableAt (number_at parts 0)
    else if bytes_eq word (codes "known") then Known (number_at parts 0)
    else if bytes_eq word (codes "bad") then NotUnderstood
    else if bytes_eq word (codes "full") then Refused (Full (number_at parts 0) (number_at parts 1))
    else if bytes_eq word (codes "toobig") then Refused (TooBig (number_at parts 0) (number_at parts 1) (number_at parts 2))
    else if bytes_eq word (codes "scattered") then Refused (Scattered (number_at parts 0))
    else if bytes_eq word (codes "nopoint") then Refused (NoPoint (number_at parts 0))
    else Refused (reason_in (number_at parts 0))

abbrev reply_in : List (List ℕ) → Reply
reply_in [] = NotUnderstood
reply_in (word ∷ parts) = reply_with word parts

value : (n : ℕ) → n < 2 ^ 64 → digits_value 10 (decimal n) ≡ n
value n small = digits_value-decimal own n small

kind_back : (kind : Kind) → kind_in (kind_text kind) ≡ kind
kind_back Dir = refl
kind_back File = refl

bytes_back : (bytes : List ℕ) → AreBytes bytes → bytes_in (bytes_parts bytes) ≡ bytes
bytes_back [] h = refl
bytes_back (b ∷ bytes) h = ap bytes_or_none (bytes_of-encode_lower b bytes h)

reason_back : (why : Refusal) → refusal_number why < 2 ^ 64 → reason_in (refusal_number why) ≡ why
    → reply_in (codes "refused" ∷ decimal (refusal_number why) ∷ refusal_name why ∷ []) ≡ Refused why
reason_back why small is = ap (λ n. Refused (reason_in n)) (value (refusal_number why) small) ∙ ap Refused is

refusal_back : (why : Refusal) → HasFigures why → reply_in (refusal_parts why) ≡ Refused why
refusal_back (Full need left) h = rw (value need h.0, value left h.1) refl
refusal_back (TooBig weight cost room) h = rw (value weight h.0, value cost h.1, value room h.2) refl
refusal_back (Scattered runs) h = rw (value runs h) refl
refusal_back (NoPoint last) h = rw (value last h) refl
refusal_back NotFound h = reason_back NotFound (omega arith) refl
refusal_back Exists h = reason_back Exists (omega arith) refl
refusal_back NotDir h = reason_back NotDir (omega arith) refl
refusal_back IsDir h = reason_back IsDir (omega arith) refl
refusal_back NotEmpty h = reason_back NotEmpty (omega arith) refl
refusal_back BelowItself h = reason_back BelowItself (omega arith) refl
refusal_back TooLarge h = reason_back TooLarge (omega arith) refl
refusal_back TooManyLinks h = reason_back TooManyLinks (omega arith) refl
refusal_back NoNode h = reason_back NoNode (omega arith) refl
refusal_back ReadFault h = reason_back ReadFault (omega arith) refl
refusal_back DiskFault h = reason_back DiskFault (omega arith) refl
refusal_back Stopped h = reason_back Stopped (omega arith) refl
refusal_back Spent h = reason_back Spent (omega arith) refl
refusal_back NoMemory h = reason_back NoMemory (omega arith) refl
refusal_back NameTooLong h = reason_back NameTooLong (omega arith) refl
refusal_back NoSnap h = reason_back NoSnap (omega arith) refl

reply_back : (reply : Reply) → IsReply reply → reply_in (reply_parts reply) ≡ reply
reply_back Done h = refl
reply_back (Bytes bytes) h = ap Bytes (bytes_back bytes h)
reply_back (StatReply stat) h = rw (kind_back stat.kind, value stat.number h.0, value stat.size h.1, value stat.links h.2) refl
reply_back (Names names) h = refl
reply_back (Synced point) h = ap Synced (value point h)
reply_back (DurableAt point) h = ap DurableAt (value point h)
reply_back (Known point) h = ap Known (value point h)
reply_back NotUnderstood h = refl
reply_back (Refused why) h = refusal_back why h

same_parts : (ws vs : List (List ℕ)) (w v : List ℕ) (more less : List (List ℕ)) → ws ≡ w ∷ more → vs ≡ v ∷ less → Parts ws → Parts vs → joined ws ≡ joined vs → ws ≡ vs
same_parts ws vs w v more less is are p q e =
    is ∙ joined_cut w v more less (subst Parts is p) (subst Parts are q) (sym (ap joined is) ∙ e ∙ ap joined are) ∙ sym are

-- each reply has a first part
first_part : (reply : Reply) → (w : List ℕ) × (ws : List (List ℕ)) × (reply_parts reply ≡ w ∷ ws)
first_part Done = (codes "ok", [], refl)
first_part (Bytes bytes) = (codes "hex", bytes_parts bytes, refl)
first_part (StatReply stat) = (codes "stat", kind_text stat.kind ∷ decimal stat.number ∷ decimal stat.size ∷ decimal stat.links ∷ [], refl)
first_part (Names names) = (codes "names", names, refl)
first_part (Synced point) = (codes "synced", decimal point ∷ [], refl)
first_part (DurableAt point) = (codes "durable", decimal point ∷ [], refl)
first_part (Known point) = (codes "known", decimal point ∷ [], refl)
first_part NotUnderstood = (codes "bad", [], refl)
first_part (Refused why) = first_of why
  where
    first_of : (why : Refusal) → (w : List ℕ) × (ws : List (List ℕ)) × (refusal_parts why ≡ w ∷ ws)
    first_of (Full need left) = (codes "full", decimal need ∷ decimal left ∷ [], refl)
    first_of (TooBig weight cost room) = (codes "toobig", decimal weight ∷ decimal cost ∷ decimal room ∷ [], refl)
    first_of (Scattered runs) = (codes "scattered", decimal runs ∷ [], refl)
    first_of (NoPoint last) = (codes "nopoint", decimal last ∷ [], refl)
    first_of NotFound = (codes "refused", _, refl)
    first_of Exists = (codes "refused", _, refl)
    first_of NotDir = (codes "refused", _, refl)
    first_of IsDir = (codes "refused", _, refl)
    first_of NotEmpty = (codes "refused", _, refl)
    first_of BelowItself = (codes "refused", _, refl)
    first_of TooLarge = (codes "refused", _, refl)
    first_of TooManyLinks = (codes "refused", _, refl)
    first_of NoNode = (codes "refused", _, refl)
    first_of ReadFault = (codes "refused", _, refl)
    first_of DiskFault = (codes "refused", _, refl)
    first_of Stopped = (codes "refused", _, refl)
    first_of Spent = (codes "refused", _, refl)
    first_of NoMemory = (codes "refused", _, refl)
    first_of NameTooLong = (codes "refused", _, refl)
    first_of NoSnap = (codes "refused", _, refl)

pub one_reply : (reply other : Reply) → IsReply reply → IsReply other → text_of_reply reply ≡ text_of_reply other → reply ≡ other
one_reply reply other h k e =
    let r = first_part reply in
    let o = first_part other in
    let same = same_parts (reply_parts reply) (reply_parts other) r.0 o.0 r.1 o.1 r.2 o.2 (reply_are_parts reply h) (reply_are_parts other k)
    (sym (reply_joined reply) ∙ e ∙ reply_joined other) in
    sym (reply_back reply h) ∙ ap reply_in same ∙ reply_back other k

pub reply_no_feed : (reply : Reply) → IsReply reply → has_no_feed (text_of_reply reply) ≡ true
reply_no_feed reply h = ap has_no_feed (reply_joined reply) ∙ joined_no_feed (reply_parts reply) (reply_are_parts reply h)

-- Commands.

-- a text reads as its command, and that of `Bad` as `Bad`
read_back : (cmd : Cmd) → IsCommand cmd → command_of (command_text cmd) ≡ cmd
read_back (Mkdir path) h = round_trip (Mkdir path) h
read_back (Create path) h = round_trip (Create path) h
read_back (Write path offset bytes) h = round_trip (Write path offset bytes) h
read_back (Fill path offset count byte) h = round_trip (Fill path offset count byte) h
read_back (Read path offset count) h = round_trip (Read path offset count) h
read_back (Truncate path size) h = round_trip (Truncate path size) h
read_back (Link path second) h = round_trip (Link path second) h
read_back (Unlink path) h = round_trip (Unlink path) h
read_back (Rmdir path) h = round_trip (Rmdir path) h
read_back (Rename path second) h = round_trip (Rename path second) h
read_back (Stat path) h = round_trip (Stat path) h
read_back (ListNames path) h = round_trip (ListNames path) h
read_back (Snap name) h = round_trip (Snap name) h
read_back (Unsnap name) h = round_trip (Unsnap name) h
read_back Snaps h = refl
read_back (At name l) h = round_trip (At name l) h
read_back Osync h = refl
read_back Dsync h = refl
read_back Durable h = refl
read_back (Dwait point) h = round_trip (Dwait point) h
read_back Poll h = refl
read_back Bad h = refl

pub one_command : (cmd other : Cmd) → IsCommand cmd → IsCommand other → command_text cmd ≡ command_text other → cmd ≡ other
one_command cmd other h k e = sym (read_back cmd h) ∙ ap command_of e ∙ read_back other k

-- texts without a line feed, one behind the other
beside : (xs ys : List ℕ) → has_no_feed xs ≡ true → has_no_feed ys ≡ true → has_no_feed (xs ++ ys) ≡ true
beside xs ys h k = both (past 10) xs ys h k

name_no_feed : (name : List ℕ) → is_name name ≡ true → has_no_feed name ≡ true
name_no_feed name h = no_feed name (name_part name h)

slashed_no_feed : (names : List (List ℕ)) → list_all is_name names ≡ true → has_no_feed (slashed names) ≡ true
slashed_no_feed [] h = refl
slashed_no_feed (name ∷ names) h =
    let parts = and_parts (is_name name) (list_all is_name names) h in
    beside name (slashed names) (name_no_feed name parts.0) (slashed_no_feed names parts.1)

path_no_feed : (path : List (List ℕ)) → list_all is_name path ≡ true → has_no_feed (path_text path) ≡ true
path_no_feed [] h = refl
path_no_feed (name ∷ names) h = slashed_no_feed (name ∷ names) h

number_no_feed : (n : ℕ) → n < 4294967296 → has_no_feed (decimal n) ≡ true
number_no_feed n small = no_feed (decimal n) (number_part n (omega (arith, small)))

behind_word : (word : List ℕ) (path : List (List ℕ)) → has_no_feed word ≡ true → list_all is_name path ≡ true → has_no_feed (word ++ path_text path) ≡ true
behind_word word path w h = beside word (path_text path) w (path_no_feed path h)

behind_blank : (text more : List ℕ) → has_no_feed text ≡ true → has_no_feed more ≡ true → has_no_feed (text ++ codes " " ++ more) ≡ true
behind_blank text more h k = beside (text ++ codes " ") more (beside text (codes " ") h refl) k

fitting : (n : ℕ) → nat_lt n 4294967296 ≡ true → n < 4294967296
fitting n h = (Decides-ltb n 4294967296).0 h

look_no_feed : (l : Look) → is_lawful_look l ≡ true → has_no_feed (look_text l) ≡ true
look_no_feed (look.Read path offset count) h =
    let first = and_parts (list_all is_name path) _ h in
    let second = and_parts (nat_lt offset 4294967296) (nat_le count 1048576) first.1 in
    let below : count ≤ 1048576 = search (rules, tests, second.1) in
    behind_blank (codes "read " ++ path_text path ++ codes " " ++ decimal offset) (decimal count)
    (behind_blank (codes "read " ++ path_text path) (decimal offset) (behind_word (codes "read ") path refl first.0) (number_no_feed offset (fitting offset second.0)))
    (number_no_feed count (omega (arith, below)))
look_no_feed (look.Stat path) h = behind_word (codes "stat ") path refl h
look_no_feed (look.List path) h = behind_word (codes "list ") path refl h

pub command_no_feed : (cmd : Cmd) → IsCommand cmd → has_no_feed (command_text cmd) ≡ true
command_no_feed (Mkdir path) h = behind_word (codes "mkdir ") path refl h
command_no_feed (Create path) h = behind_word (codes "create ") path refl h
command_no_feed (Write path offset bytes) h =
    let first = and_parts (list_all is_name path) _ h in
    let second = and_parts (nat_lt offset 4294967296) _ first.1 in
    let third = and_parts (nat_lt 0 (length bytes)) (list_all (λ b. nat_lt b 256) bytes) second.1 in
    behind_blank (codes "write " ++ path_text path ++ codes " " ++ decimal offset) (encode_lower bytes)
    (behind_blank (codes "write " ++ path_text path) (decimal offset) (behind_word (codes "write ") path refl first.0) (number_no_feed offset (fitting offset second.0)))
    (no_feed (encode_lower bytes) (bytes_part bytes third.1))
command_no_feed (Fill path offset count byte) h =
    let first = and_parts (list_all is_name path) _ h in
    let second = and_parts (nat_lt offset 4294967296) _ first.1 in
    let third = and_parts (nat_lt count 4294967296) (nat_le byte 255) second.1 in
    let below : byte ≤ 255 = search (rules, tests, third.1) in
    behind_blank (codes "fill " ++ path_text path ++ codes " " ++ decimal offset ++ codes " " ++ decimal count) (decimal byte)
    (behind_blank (codes "fill " ++ path_text path ++ codes " " ++ decimal offset) (decimal count)
    (behind_blank (codes "fill " ++ path_text path) (decimal offset) (behind_word (codes "fill ") path refl first.0) (number_no_feed offset (fitting offset second.0)))
    (number_no_feed count (fitting count third.0)))
    (number_no_feed byte (omega (arith, below)))
command_no_feed (Read path offset count) h = look_no_feed (look.Read path offset count) h
command_no_feed (Truncate path size) h =
    let parts = and_parts (list_all is_name path) (nat_lt size 4294967296) h in
    behind_blank (codes "truncate " ++ path_text path) (decimal size) (behind_word (codes "truncate ") path refl parts.0) (number_no_feed size (fitting size parts.1))
command_no_feed (Link path second) h =
    let parts = and_parts (list_all is_name path) (list_all is_name second) h in
    behind_blank (codes "link " ++ path_text path) (path_text second) (behind_word (codes "link ") path refl parts.0) (path_no_feed second parts.1)
command_no_feed (Unlink path) h = behind_word (codes "unlink ") path refl h
command_no_feed (Rmdir path) h = behind_word (codes "rmdir ") path refl h
command_no_feed (Rename path second) h =
    let parts = and_parts (list_all is_name path) (list_all is_name second) h in
    behind_blank (codes "rename " ++ path_text path) (path_text second) (behind_word (codes "rename ") path refl parts.0) (path_no_feed second parts.1)
command_no_feed (Stat path) h = look_no_feed (look.Stat path) h
command_no_feed (ListNames path) h = look_no_feed (look.List path) h
command_no_feed (Snap name) h = beside (codes "snap ") name refl (name_no_feed name (snapshot_name name h))
command_no_feed (Unsnap name) h = beside (codes "unsnap ") name refl (name_no_feed name (snapshot_name name h))
command_no_feed Snaps h = refl
command_no_feed (At name l) h =
    let parts = and_parts (is_snapshot_name name) (is_lawful_look l) h in
    behind_blank (codes "at " ++ name) (look_text l) (beside (codes "at ") name refl (name_no_feed name (snapshot_name name parts.0))) (look_no_feed l parts.1)
command_no_feed Osync h = refl
command_no_feed Dsync h = refl
command_no_feed Durable h = refl
command_no_feed (Dwait point) h = beside (codes "dwait ") (decimal point) refl (number_no_feed point (fitting point h))
command_no_feed Poll h = refl
command_no_feed Bad h = refl
