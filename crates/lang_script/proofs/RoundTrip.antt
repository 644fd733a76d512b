-- A command's text reads as that command.
use Rattle.std.proofs.Common.{◌≡◌, sym, ap, refl, ◌∙◌, arith, rules, tests, ℕ, zero, suc, ◌/◌, ◌%◌, ◌<◌, ◌≤◌, ◌==◌, Bool, true, false, not, List, [], ◌∷◌, ◌++◌, length, Option, Some, None, decimal, nat_lt, nat_le, bytes_eq, codes, slice_index, append_assoc}
use Rattle.std.proofs.lemmas.Bool.{and_parts, false≢true}
use Rattle.std.proofs.lemmas.Bool.Decides.{Decides-ltb}
use Rattle.std.specs.Prelude.{if◌then◌else◌}
use Rattle.std.proofs.lemmas.Option.{none-some}
use Rattle.std.proofs.lemmas.List.{append-nil}
use Rattle.std.proofs.lemmas.List.Splits.{slice_split_at, slice_split_none}
use Rattle.std.proofs.lemmas.List.Sums.{AllPass-from_list_all}
use Rattle.std.proofs.lemmas.Slice.Eq.{bytes_eq-Decides}
use Rattle.std.proofs.lemmas.Fmt.{digits_decimal, digits_value-decimal}
use Rattle.std.specs.Char.{is_ascii_digit}
use Rattle.std.specs.List.{list_all, slice_split, All}
use Rattle.hex.specs.Hex.{encode_lower, encode_with, lower_digits}
use Rattle.hex.proofs.HexLemmas.{decode_of-encode_lower}
use Rattle.base_types.specs.Name.{is_name, is_name_byte, is_snapshot_name}
use Rattle.lang_tree.specs.declared.command.Cmd.{Cmd}
use Rattle.lang_tree.specs.declared.command.Cmd.TheVariants.{Mkdir, Create, Write, Fill, Read, Truncate, Link, Unlink, Rmdir, Rename, Stat, List as ListNames, Snap, Unsnap, Snaps, At, Osync, Dsync, Durable, Dwait, Poll, Bad}
use Rattle.lang_tree.specs.declared.command.Look.{Look}
use Rattle.lang_tree.specs.declared.command.Look.TheVariants as look
use Rattle.lang_tree.specs.Listing.{slashed, path_text}
use Rattle.lang_tree.specs.Step.{look_command}
use Rattle.lang_script.specs.Shared.{name_bytes, own, weaker, snapshot_name}
use Rattle.lang_script.specs.Text.{command_text, look_text}
use Rattle.lang_script.specs.Grammar.{command_of, command_of_parts, command_on_tree, path_of, name_of, small_number_of, bytes_of, some_bytes, path_command, paths_command, truncate_of, dwait_of, snap_of, unsnap_of, write_of, read_of, fill_of, look_of, at_of, is_lawful_look, fits, is_in_grammar}

-- ---- lists without a byte

abbrev other : ℕ → ℕ → Bool
other c b = not (b == c)

not_true : (b : Bool) → not b ≡ true → b ≡ false
not_true true h = sym h
not_true false h = refl

lacks : (c : ℕ) (xs : List ℕ) → list_all (other c) xs ≡ true → All (λ b. (b == c) ≡ false) xs
lacks c xs h = λ k d below. not_true _ (AllPass-from_list_all (other c) xs h k d below)

split_at : (c : ℕ) (xs ys : List ℕ) → list_all (other c) xs ≡ true
    → slice_split (λ b. b == c) (xs ++ c ∷ ys) ≡ xs ∷ slice_split (λ b. b == c) ys
split_at c xs ys h = slice_split_at (λ b. b == c) xs c ys (lacks c xs h) (search (rules, tests))

split_none : (c : ℕ) (xs : List ℕ) → list_all (other c) xs ≡ true → slice_split (λ b. b == c) xs ≡ xs ∷ []
split_none c xs h = slice_split_none (λ b. b == c) xs (lacks c xs h)

pub both : (p : ℕ → Bool) (xs ys : List ℕ) → list_all p xs ≡ true → list_all p ys ≡ true → list_all p (xs ++ ys) ≡ true
both p [] ys h k = k
both p (x ∷ xs) ys h k =
    let parts = and_parts (p x) (list_all p xs) h in
    rw parts.0 (both p xs ys parts.1 k)

pub at : (p : ℕ → Bool) (xs : List ℕ) (i : ℕ) → p 0 ≡ true → list_all p xs ≡ true → p (slice_index xs i) ≡ true
at p [] i h k = h
at p (x ∷ xs) zero h k = (and_parts (p x) (list_all p xs) k).0
at p (x ∷ xs) (suc i) h k = at p xs i h (and_parts (p x) (list_all p xs) k).1

-- ---- numbers and bytes

digit_is_other : (b : ℕ) → is_ascii_digit b ≡ true → other 32 b ≡ true
digit_is_other b h = grind (arith, tests)

pub decimal_lacks : (n : ℕ) → n < 4294967296 → list_all (other 32) (decimal n) ≡ true
decimal_lacks n small = weaker is_ascii_digit (other 32) digit_is_other (decimal n) (digits_decimal own n (omega (arith, small)))

pub small_number_of-decimal : (n : ℕ) → n < 4294967296 → small_number_of (decimal n) ≡ Some n
small_number_of-decimal n small =
    let digits = digits_decimal own n (omega (arith, small)) in
    let value = digits_value-decimal own n (omega (arith, small)) in
    let same = (bytes_eq-Decides (decimal n) (decimal n)).1 refl in
    let low = (Decides-ltb n 4294967296).1 small in
    rw digits (rw value (rw low (rw same refl)))

pub digits_lack : (bytes : List ℕ) → list_all (other 32) (encode_lower bytes) ≡ true
unfolding encode_with
digits_lack [] = refl
digits_lack (b ∷ bytes) =
    rw (at (other 32) lower_digits (b / 16) refl refl) (rw (at (other 32) lower_digits (b % 16) refl refl) (digits_lack bytes))

pub bytes_of-encode_lower : (b : ℕ) (bytes : List ℕ) → list_all (λ b. nat_lt b 256) (b ∷ bytes) ≡ true
    → bytes_of (encode_lower (b ∷ bytes)) ≡ Some (b ∷ bytes)
bytes_of-encode_lower b bytes h =
    ap some_bytes (decode_of-encode_lower (b ∷ bytes) (λ i. (Decides-ltb (slice_index (b ∷ bytes) i) 256).0 (at (λ b. nat_lt b 256) (b ∷ bytes) i refl h)))

-- ---- paths

no_slash : (b : ℕ) → is_name_byte b ≡ true → other 47 b ≡ true
no_slash b h = grind (arith, tests)

no_blank : (b : ℕ) → is_name_byte b ≡ true → other 32 b ≡ true
no_blank b h = grind (arith, tests)

split_names : (name : List ℕ) (names : List (List ℕ)) → is_name name ≡ true → list_all is_name names ≡ true
    → slice_split (λ b. b == 47) (name ++ slashed names) ≡ name ∷ names
split_names name [] h k =
    rw (append-nil name) (split_none 47 name (weaker is_name_byte (other 47) no_slash name (name_bytes name h)))
split_names name (next ∷ names) h k =
    let parts = and_parts (is_name next) (list_all is_name names) k in
    split_at 47 name (next ++ slashed names) (weaker is_name_byte (other 47) no_slash name (name_bytes name h))
    ∙ ap (λ rest. name ∷ rest) (split_names next names parts.0 parts.1)

path_of-path_text : (path : List (List ℕ)) → list_all is_name path ≡ true → path_of (path_text path) ≡ Some path
path_of-path_text [] h = refl
path_of-path_text ([] ∷ names) h = cc h
path_of-path_text ((b ∷ name) ∷ names) h =
    let parts = and_parts (is_name (b ∷ name)) (list_all is_name names) h in
    rw (split_names (b ∷ name) names parts.0 parts.1) (rw h refl)

slashed_lacks : (names : List (List ℕ)) → list_all is_name names ≡ true → list_all (other 32) (slashed names) ≡ true
slashed_lacks [] h = refl
slashed_lacks (name ∷ names) h =
    let parts = and_parts (is_name name) (list_all is_name names) h in
    both (other 32) name (slashed names) (weaker is_name_byte (other 32) no_blank name (name_bytes name parts.0)) (slashed_lacks names parts.1)

path_lacks : (path : List (List ℕ)) → list_all is_name path ≡ true → list_all (other 32) (path_text path) ≡ true
path_lacks [] h = refl
path_lacks (name ∷ names) h = slashed_lacks (name ∷ names) h

-- ---- commands

pub split_two : (xs ys : List ℕ) → list_all (other 32) xs ≡ true → list_all (other 32) ys ≡ true
    → slice_split (λ b. b == 32) (xs ++ 32 ∷ ys) ≡ xs ∷ ys ∷ []
split_two xs ys h k = split_at 32 xs ys h ∙ ap (λ rest. xs ∷ rest) (split_none 32 ys k)

split_three : (xs ys zs : List ℕ) → list_all (other 32) xs ≡ true → list_all (other 32) ys ≡ true → list_all (other 32) zs ≡ true
    → slice_split (λ b. b == 32) (xs ++ 32 ∷ (ys ++ 32 ∷ zs)) ≡ xs ∷ ys ∷ zs ∷ []
split_three xs ys zs h k m = split_at 32 xs (ys ++ 32 ∷ zs) h ∙ ap (λ rest. xs ∷ rest) (split_two ys zs k m)

split_four : (xs ys zs vs : List ℕ) → list_all (other 32) xs ≡ true → list_all (other 32) ys ≡ true → list_all (other 32) zs ≡ true
    → list_all (other 32) vs ≡ true
    → slice_split (λ b. b == 32) (xs ++ 32 ∷ (ys ++ 32 ∷ (zs ++ 32 ∷ vs))) ≡ xs ∷ ys ∷ zs ∷ vs ∷ []
split_four xs ys zs vs h k m n = split_at 32 xs (ys ++ 32 ∷ (zs ++ 32 ∷ vs)) h ∙ ap (λ rest. xs ∷ rest) (split_three ys zs vs k m n)

-- `++` from the left, grouped as the cuts want it
regroup_two : (a p d : List ℕ) → a ++ p ++ codes " " ++ d ≡ a ++ (p ++ 32 ∷ d)
regroup_two a p d = append_assoc (a ++ p) (codes " ") d ∙ append_assoc a p (32 ∷ d)

pub regroup_three : (a p d e : List ℕ) → a ++ p ++ codes " " ++ d ++ codes " " ++ e ≡ a ++ (p ++ 32 ∷ (d ++ 32 ∷ e))
regroup_three a p d e =
    append_assoc (a ++ p ++ codes " " ++ d) (codes " ") e
    ∙ append_assoc (a ++ p ++ codes " ") d (32 ∷ e)
    ∙ regroup_two a p (d ++ 32 ∷ e)

regroup_four : (a p d e f : List ℕ)
    → a ++ p ++ codes " " ++ d ++ codes " " ++ e ++ codes " " ++ f ≡ a ++ (p ++ 32 ∷ (d ++ 32 ∷ (e ++ 32 ∷ f)))
regroup_four a p d e f =
    append_assoc (a ++ p ++ codes " " ++ d ++ codes " " ++ e) (codes " ") f
    ∙ append_assoc (a ++ p ++ codes " " ++ d ++ codes " ") e (32 ∷ f)
    ∙ regroup_three a p d (e ++ 32 ∷ f)

-- a word that takes a path, a blank and a path read as the command of the word and the path
path_reads : (word : List ℕ) (path : List (List ℕ)) → list_all (other 32) word ≡ true
    → ((last : List ℕ) → command_of_parts (word ∷ last ∷ []) ≡ path_command word (path_of last)) → list_all is_name path ≡ true
    → command_of (word ++ 32 ∷ path_text path) ≡ path_command word (Some path)
path_reads word path w takes h =
    ap command_of_parts (split_two word (path_text path) w (path_lacks path h))
    ∙ takes (path_text path)
    ∙ ap (λ p. path_command word p) (path_of-path_text path h)

-- a word that takes two paths, and these read as the command of the word and the paths
paths_read : (word : List ℕ) (path second : List (List ℕ)) → list_all (other 32) word ≡ true
    → ((first last : List ℕ) → command_of_parts (word ∷ first ∷ last ∷ []) ≡ paths_command word (path_of first) (path_of last))
    → list_all is_name path ≡ true → list_all is_name second ≡ true
    → command_of (word ++ 32 ∷ (path_text path ++ 32 ∷ path_text second)) ≡ paths_command word (Some path) (Some second)
paths_read word path second w takes h k =
    ap command_of_parts (split_three word (path_text path) (path_text second) w (path_lacks path h) (path_lacks second k))
    ∙ takes (path_text path) (path_text second)
    ∙ ap (λ p. paths_command word p (path_of (path_text second))) (path_of-path_text path h)
    ∙ ap (λ p. paths_command word (Some path) p) (path_of-path_text second k)

link_reads : (path second : List (List ℕ)) → list_all is_name path ≡ true → list_all is_name second ≡ true
    → command_of (command_text (Link path second)) ≡ Link path second
link_reads path second h k =
    ap command_of (regroup_two (codes "link ") (path_text path) (path_text second)) ∙ paths_read (codes "link") path second refl (λ first last. refl) h k

rename_reads : (path second : List (List ℕ)) → list_all is_name path ≡ true → list_all is_name second ≡ true
    → command_of (command_text (Rename path second)) ≡ Rename path second
rename_reads path second h k =
    ap command_of (regroup_two (codes "rename ") (path_text path) (path_text second)) ∙ paths_read (codes "rename") path second refl (λ first last. refl) h k

dwait_reads : (point : ℕ) → point < 4294967296 → command_of (command_text (Dwait point)) ≡ Dwait point
dwait_reads point small =
    ap command_of_parts (split_two (codes "dwait") (decimal point) refl (decimal_lacks point small))
    ∙ ap dwait_of (small_number_of-decimal point small)

name_lacks : (name : List ℕ) → is_name name ≡ true → list_all (other 32) name ≡ true
name_lacks name h = weaker is_name_byte (other 32) no_blank name (name_bytes name h)

name_of-name : (name : List ℕ) → is_snapshot_name name ≡ true → name_of name ≡ Some name
name_of-name name h = rw h refl

snap_reads : (name : List ℕ) → is_snapshot_name name ≡ true → command_of (command_text (Snap name)) ≡ Snap name
snap_reads name h = ap command_of_parts (split_two (codes "snap") name refl (name_lacks name (snapshot_name name h))) ∙ ap snap_of (name_of-name name h)

unsnap_reads : (name : List ℕ) → is_snapshot_name name ≡ true → command_of (command_text (Unsnap name)) ≡ Unsnap name
unsnap_reads name h = ap command_of_parts (split_two (codes "unsnap") name refl (name_lacks name (snapshot_name name h))) ∙ ap unsnap_of (name_of-name name h)

truncate_reads : (path : List (List ℕ)) (size : ℕ) → list_all is_name path ≡ true → size < 4294967296
    → command_of (command_text (Truncate path size)) ≡ Truncate path size
truncate_reads path size h small =
    ap command_of (regroup_two (codes "truncate ") (path_text path) (decimal size))
    ∙ ap (λ rest. command_of_parts (codes "truncate" ∷ rest)) (split_two (path_text path) (decimal size) (path_lacks path h) (decimal_lacks size small))
    ∙ ap (λ p. truncate_of p (small_number_of (decimal size))) (path_of-path_text path h)
    ∙ ap (λ n. truncate_of (Some path) n) (small_number_of-decimal size small)

write_reads : (path : List (List ℕ)) (offset b : ℕ) (bytes : List ℕ) → list_all is_name path ≡ true → offset < 4294967296
    → list_all (λ b. nat_lt b 256) (b ∷ bytes) ≡ true
    → command_of (command_text (Write path offset (b ∷ bytes))) ≡ Write path offset (b ∷ bytes)
write_reads path offset b bytes h small k =
    ap command_of (regroup_three (codes "write ") (path_text path) (decimal offset) (encode_lower (b ∷ bytes)))
    ∙ ap (λ rest. command_of_parts (codes "write" ∷ rest))
    (split_three (path_text path) (decimal offset) (encode_lower (b ∷ bytes)) (path_lacks path h) (decimal_lacks offset small) (digits_lack (b ∷ bytes)))
    ∙ ap (λ p. write_of p (small_number_of (decimal offset)) (bytes_of (encode_lower (b ∷ bytes)))) (path_of-path_text path h)
    ∙ ap (λ n. write_of (Some path) n (bytes_of (encode_lower (b ∷ bytes)))) (small_number_of-decimal offset small)
    ∙ ap (λ x. write_of (Some path) (Some offset) x) (bytes_of-encode_lower b bytes k)

read_reads : (path : List (List ℕ)) (offset count : ℕ) → list_all is_name path ≡ true → offset < 4294967296 → count < 4294967296
    → nat_le count 1048576 ≡ true → command_of (command_text (Read path offset count)) ≡ Read path offset count
read_reads path offset count h small low k =
    ap command_of (regroup_three (codes "read ") (path_text path) (decimal offset) (decimal count))
    ∙ ap (λ rest. command_of_parts (codes "read" ∷ rest))
    (split_three (path_text path) (decimal offset) (decimal count) (path_lacks path h) (decimal_lacks offset small) (decimal_lacks count low))
    ∙ ap (λ p. read_of p (small_number_of (decimal offset)) (small_number_of (decimal count))) (path_of-path_text path h)
    ∙ ap (λ n. read_of (Some path) n (small_number_of (decimal count))) (small_number_of-decimal offset small)
    ∙ ap (λ n. read_of (Some path) (Some offset) n) (small_number_of-decimal count low)
    ∙ rw k refl

fill_reads : (path : List (List ℕ)) (offset count byte : ℕ) → list_all is_name path ≡ true → offset < 4294967296 → count < 4294967296
    → byte < 4294967296 → nat_le byte 255 ≡ true → command_of (command_text (Fill path offset count byte)) ≡ Fill path offset count byte
fill_reads path offset count byte h small low lower k =
    ap command_of (regroup_four (codes "fill ") (path_text path) (decimal offset) (decimal count) (decimal byte))
    ∙ ap (λ rest. command_of_parts (codes "fill" ∷ rest))
    (split_four (path_text path) (decimal offset) (decimal count) (decimal byte)
    (path_lacks path h) (decimal_lacks offset small) (decimal_lacks count low) (decimal_lacks byte lower))
    ∙ ap (λ p. fill_of p (small_number_of (decimal offset)) (small_number_of (decimal count)) (small_number_of (decimal byte))) (path_of-path_text path h)
    ∙ ap (λ n. fill_of (Some path) n (small_number_of (decimal count)) (small_number_of (decimal byte))) (small_number_of-decimal offset small)
    ∙ ap (λ n. fill_of (Some path) (Some offset) n (small_number_of (decimal byte))) (small_number_of-decimal count low)
    ∙ ap (λ n. fill_of (Some path) (Some offset) (Some count) n) (small_number_of-decimal byte lower)
    ∙ rw k refl

fitting : (n : ℕ) → fits n ≡ true → n < 4294967296
fitting n h = (Decides-ltb n 4294967296).0 h

look_reads : (l : Look) → is_lawful_look l ≡ true → command_of (look_text l) ≡ look_command l
look_reads (look.Read path offset count) h =
    let first = and_parts (list_all is_name path) _ h in
    let second = and_parts (fits offset) (nat_le count 1048576) first.1 in
    let below : count ≤ 1048576 = search (rules, tests, second.1) in
    read_reads path offset count first.0 (fitting offset second.0) (omega (arith, below)) second.1
look_reads (look.Stat path) h = path_reads (codes "stat") path refl (λ last. refl) h
look_reads (look.List path) h = path_reads (codes "list") path refl (λ last. refl) h

look_back : (l : Look) → look_of (look_command l) ≡ Some l
look_back (look.Read path offset count) = refl
look_back (look.Stat path) = refl
look_back (look.List path) = refl

at_is_no_look : (name : Option (List ℕ)) (l : Option Look) → look_of (at_of name l) ≡ None
at_is_no_look None l = refl
at_is_no_look (Some name) None = refl
at_is_no_look (Some name) (Some l) = refl

-- parts that read as a look read so on the tree itself
on_tree_look : (parts : List (List ℕ)) (l : Look) → command_of_parts parts ≡ look_command l → look_of (command_on_tree parts) ≡ Some l
on_tree_look [] l h = ap look_of h ∙ look_back l
on_tree_look (word ∷ []) l h = ap look_of h ∙ look_back l
on_tree_look (word ∷ name ∷ parts) l h = by (bytes_eq word (codes "at")) (name_of name) (look_of (command_on_tree parts)) (command_on_tree (word ∷ name ∷ parts)) h
  where
    by : (b : Bool) (called : Option (List ℕ)) (seen : Option Look) (cmd : Cmd) → (if b then at_of called seen else cmd) ≡ look_command l → look_of cmd ≡ Some l
    by true called seen cmd e = absurd (none-some l (sym (at_is_no_look called seen) ∙ ap look_of e ∙ look_back l))
    by false called seen cmd e = ap look_of e ∙ look_back l

at_reads : (name : List ℕ) (l : Look) → is_snapshot_name name ≡ true → is_lawful_look l ≡ true → command_of (command_text (At name l)) ≡ At name l
at_reads name l h k =
    ap command_of (regroup_two (codes "at ") name (look_text l))
    ∙ ap (λ rest. command_of_parts (codes "at" ∷ rest)) (split_at 32 name (look_text l) (name_lacks name (snapshot_name name h)))
    ∙ ap (λ n. at_of n (look_of (command_on_tree (slice_split (λ b. b == 32) (look_text l))))) (name_of-name name h)
    ∙ ap (λ x. at_of (Some name) x) (on_tree_look (slice_split (λ b. b == 32) (look_text l)) l (look_reads l k))

-- a command that some line asks for is what its text reads as
pub round_trip : (cmd : Cmd) → is_in_grammar cmd ≡ true → command_of (command_text cmd) ≡ cmd
round_trip (Mkdir path) h = path_reads (codes "mkdir") path refl (λ last. refl) h
round_trip (Create path) h = path_reads (codes "create") path refl (λ last. refl) h
round_trip (Write path offset []) h =
    let first = and_parts (list_all is_name path) _ h in
    let second = and_parts (fits offset) false first.1 in
    cc second.1
round_trip (Write path offset (b ∷ bytes)) h =
    let first = and_parts (list_all is_name path) _ h in
    let second = and_parts (fits offset) _ first.1 in
    let third = and_parts (nat_lt 0 (length (b ∷ bytes))) (list_all (λ b. nat_lt b 256) (b ∷ bytes)) second.1 in
    write_reads path offset b bytes first.0 (fitting offset second.0) third.1
round_trip (Fill path offset count byte) h =
    let first = and_parts (list_all is_name path) _ h in
    let second = and_parts (fits offset) _ first.1 in
    let third = and_parts (fits count) (nat_le byte 255) second.1 in
    let below : byte ≤ 255 = search (rules, tests, third.1) in
    fill_reads path offset count byte first.0 (fitting offset second.0) (fitting count third.0) (omega (arith, below)) third.1
round_trip (Read path offset count) h = look_reads (look.Read path offset count) h
round_trip (Truncate path size) h =
    let parts = and_parts (list_all is_name path) (fits size) h in
    truncate_reads path size parts.0 (fitting size parts.1)
round_trip (Link path second) h =
    let parts = and_parts (list_all is_name path) (list_all is_name second) h in
    link_reads path second parts.0 parts.1
round_trip (Unlink path) h = path_reads (codes "unlink") path refl (λ last. refl) h
round_trip (Rmdir path) h = path_reads (codes "rmdir") path refl (λ last. refl) h
round_trip (Rename path second) h =
    let parts = and_parts (list_all is_name path) (list_all is_name second) h in
    rename_reads path second parts.0 parts.1
round_trip (Stat path) h = look_reads (look.Stat path) h
round_trip (ListNames path) h = look_reads (look.List path) h
round_trip (Snap name) h = snap_reads name h
round_trip (Unsnap name) h = unsnap_reads name h
round_trip Snaps h = refl
round_trip (At name l) h =
    let parts = and_parts (is_snapshot_name name) (is_lawful_look l) h in
    at_reads name l parts.0 parts.1
round_trip Osync h = refl
round_trip Dsync h = refl
round_trip Durable h = refl
round_trip (Dwait point) h = dwait_reads point (fitting point h)
round_trip Poll h = refl
round_trip Bad h = absurd (false≢true h)
