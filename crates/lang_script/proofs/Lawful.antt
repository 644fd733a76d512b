-- What a line reads as is `Bad` or in the grammar.
use Rattle.std.proofs.Common.{◌≡◌, refl, sym, subst, arith, tests, ℕ, suc, get_or, ◌+◌, ◌*◌, ◌<◌, ◌==◌, Bool, true, false, ◌&&◌, ◌⊎◌, inl, inr, List, [], ◌∷◌, length, Result, Ok, Err, Option, Some, None, decimal, nat_lt, nat_le, bytes_eq, codes}
use Rattle.std.specs.Prelude.{IfSome, IfOk, if◌then◌else◌}
use Rattle.std.proofs.lemmas.Bool.Decides.{Decides-ltb}
use Rattle.std.specs.Char.{is_ascii_digit}
use Rattle.std.specs.List.{list_all, slice_split}
use Rattle.std.specs.Str.Parse.{digits_value}
use Rattle.hex.specs.Hex.{decode_of, decode_pairs, digit_or_error, hex_digit_value, ◌>>=◌}
use Rattle.hex.specs.declared.error.FromHexError.{FromHexError}
use Rattle.base_types.specs.Name.{is_name, is_snapshot_name}
use Rattle.lang_tree.specs.declared.command.Cmd.{Cmd}
use Rattle.lang_tree.specs.declared.command.Cmd.TheVariants.{Mkdir, Create, Write, Fill, Read, Truncate, Link, Unlink, Rmdir, Rename, Stat, List as ListNames, Snap, Unsnap, Snaps, At, Osync, Dsync, Durable, Dwait, Poll, Bad}
use Rattle.lang_tree.specs.declared.command.Look.{Look}
use Rattle.lang_tree.specs.declared.command.Look.TheVariants as look
use Rattle.lang_script.specs.Values.{IsCommand}
use Rattle.lang_script.specs.Grammar.{command_of, command_of_parts, command_on_tree, path_of, names_of, name_of, small_number_of, bytes_of, some_bytes, path_command, paths_command, truncate_of, dwait_of, snap_of, unsnap_of, write_of, read_of, fill_of, look_of, at_of, is_lawful_look, is_in_grammar}

abbrev Lawful : Cmd → Type 0
Lawful cmd = (cmd ≡ Bad) ⊎ (is_in_grammar cmd ≡ true)

abbrev lawful_path : List (List ℕ) → Type 0
lawful_path path = list_all is_name path ≡ true

abbrev small : ℕ → Type 0
small n = nat_lt n 4294967296 ≡ true

abbrev are_bytes : List ℕ → Type 0
are_bytes bytes = list_all (λ b. nat_lt b 256) bytes ≡ true

-- ---- paths

kept_names : (test : Bool) (names : List (List ℕ)) → list_all is_name names ≡ test
    → IfSome (if test then Some names else None) lawful_path
kept_names true names h = h
kept_names false names h = tt

names_lawful : (parts : List (List ℕ)) → IfSome (names_of parts) lawful_path
names_lawful [] = tt
names_lawful ([] ∷ []) = tt
names_lawful ([] ∷ name ∷ names) = kept_names (list_all is_name (name ∷ names)) (name ∷ names) refl
names_lawful ((b ∷ bs) ∷ names) = tt

root_or : (test : Bool) (path : Option (List (List ℕ))) → IfSome path lawful_path
    → IfSome (if test then Some [] else path) lawful_path
root_or true path h = refl
root_or false path h = h

path_lawful : (part : List ℕ) → IfSome (path_of part) lawful_path
path_lawful part = root_or (bytes_eq part (codes "/")) (names_of (slice_split (λ b. b == 47) part)) (names_lawful (slice_split (λ b. b == 47) part))

kept_name : (test : Bool) (name : List ℕ) → is_snapshot_name name ≡ test → IfSome (if test then Some name else None) (λ name. is_snapshot_name name ≡ true)
kept_name true name h = h
kept_name false name h = tt

name_lawful : (part : List ℕ) → IfSome (name_of part) (λ name. is_snapshot_name name ≡ true)
name_lawful part = kept_name (is_snapshot_name part) part refl

-- ---- numbers

kept_number : (digits low same : Bool) (n : ℕ) → nat_lt n 4294967296 ≡ low
    → IfSome (if digits && (low && same) then Some n else None) small
kept_number false low same n h = tt
kept_number true false same n h = tt
kept_number true true false n h = tt
kept_number true true true n h = h

number_small : (part : List ℕ) → IfSome (small_number_of part) small
number_small part = kept_number (list_all is_ascii_digit part) (nat_lt (digits_value 10 part) 4294967296) (bytes_eq (decimal (digits_value 10 part)) part) (digits_value 10 part) refl

-- ---- bytes

kept_digit : (upper lower figure : Bool) (c : ℕ) → (nat_le 65 c && nat_le c 70) ≡ upper → (nat_le 97 c && nat_le c 102) ≡ lower
    → (nat_le 48 c && nat_le c 57) ≡ figure
    → IfSome (hex_digit_value c) (λ v. v < 16)
kept_digit upper lower figure c h k m = grind (arith, tests)

byte_of_digits : (x y : ℕ) → x < 16 → y < 16 → nat_lt (x * 16 + y) 256 ≡ true
byte_of_digits x y h k = (Decides-ltb (x * 16 + y) 256).1 (omega (arith, h, k))

pair_small : (high low i : ℕ) (x y : Option ℕ) → IfSome x (λ v. v < 16) → IfSome y (λ v. v < 16)
    → (rest : Result (List ℕ) FromHexError) → IfOk rest are_bytes
    → IfOk ((digit_or_error high i x >>= (λ h. digit_or_error low (i + 1) y >>= (λ l. Ok (h * 16 + l)))) >>= (λ byte. rest >>= (λ bytes. Ok (byte ∷ bytes)))) are_bytes
pair_small high low i None y h k rest m = tt
pair_small high low i (Some x) None h k rest m = tt
pair_small high low i (Some x) (Some y) h k (Err e) m = tt
pair_small high low i (Some x) (Some y) h k (Ok bytes) m = rw (byte_of_digits x y h k) m

pairs_small : (i : ℕ) (s : List ℕ) → IfOk (decode_pairs i s) are_bytes
unfolding decode_pairs
pairs_small i [] = refl
pairs_small i (d ∷ []) = tt
pairs_small i (high ∷ low ∷ rest) =
    pair_small high low i (hex_digit_value high) (hex_digit_value low) (kept_digit _ _ _ high refl refl refl) (kept_digit _ _ _ low refl refl refl)
    (decode_pairs (i + 2) rest) (pairs_small (i + 2) rest)

odd_or : (test : Bool) (e : FromHexError) (r : Result (List ℕ) FromHexError) → IfOk r are_bytes → IfOk (if test then Err e else r) are_bytes
odd_or true e r h = tt
odd_or false e r h = h

decoded_small : (part : List ℕ) → IfOk (decode_of part) are_bytes
decoded_small part = odd_or _ _ (decode_pairs 0 part) (pairs_small 0 part)

-- numbers that are each below 256 are bytes
pub bytes_small : (bytes : List ℕ) → ((i : ℕ) → get_or bytes i 0 < 256) → are_bytes bytes
bytes_small [] h = refl
bytes_small (b ∷ bytes) h = rw ((Decides-ltb b 256).1 (h 0)) (bytes_small bytes (λ i. h (suc i)))

abbrev some_of_them : List ℕ → Type 0
some_of_them bytes = (nat_lt 0 (length bytes) && list_all (λ b. nat_lt b 256) bytes) ≡ true

kept_bytes : (r : Result (List ℕ) FromHexError) → IfOk r are_bytes → IfSome (some_bytes r) some_of_them
kept_bytes (Ok []) h = tt
kept_bytes (Ok (b ∷ bytes)) h =
    let some : nat_lt 0 (length (b ∷ bytes)) ≡ true = (Decides-ltb 0 (length (b ∷ bytes))).1 (omega arith) in
    rw some h
kept_bytes (Err e) h = tt

-- ---- commands

either : (test : Bool) (one two : Cmd) → Lawful one → Lawful two → Lawful (if test then one else two)
either true one two h k = h
either false one two h k = k

path_command_lawful : (word : List ℕ) (path : Option (List (List ℕ))) → IfSome path lawful_path → Lawful (path_command word path)
path_command_lawful word None h = inl refl
path_command_lawful word (Some path) h =
    either _ (Mkdir path) _ (inr h) (either _ (Create path) _ (inr h) (either _ (Unlink path) _ (inr h)
    (either _ (Rmdir path) _ (inr h) (either _ (Stat path) _ (inr h) (either _ (ListNames path) Bad (inr h) (inl refl))))))

paths_command_lawful : (word : List ℕ) (path other : Option (List (List ℕ))) → IfSome path lawful_path → IfSome other lawful_path
    → Lawful (paths_command word path other)
paths_command_lawful word None other h k = inl refl
paths_command_lawful word (Some path) None h k = inl refl
paths_command_lawful word (Some path) (Some other) h k =
    either _ (Link path other) _ (inr (rw h k)) (either _ (Rename path other) Bad (inr (rw h k)) (inl refl))

truncate_lawful : (path : Option (List (List ℕ))) (size : Option ℕ) → IfSome path lawful_path → IfSome size small → Lawful (truncate_of path size)
truncate_lawful None size h k = inl refl
truncate_lawful (Some path) None h k = inl refl
truncate_lawful (Some path) (Some size) h k = inr (rw h k)

dwait_lawful : (point : Option ℕ) → IfSome point small → Lawful (dwait_of point)
dwait_lawful None h = inl refl
dwait_lawful (Some point) h = inr h

snap_lawful : (name : Option (List ℕ)) → IfSome name (λ name. is_snapshot_name name ≡ true) → Lawful (snap_of name)
snap_lawful None h = inl refl
snap_lawful (Some name) h = inr h

unsnap_lawful : (name : Option (List ℕ)) → IfSome name (λ name. is_snapshot_name name ≡ true) → Lawful (unsnap_of name)
unsnap_lawful None h = inl refl
unsnap_lawful (Some name) h = inr h

write_lawful : (path : Option (List (List ℕ))) (offset : Option ℕ) (bytes : Option (List ℕ))
    → IfSome path lawful_path → IfSome offset small → IfSome bytes some_of_them → Lawful (write_of path offset bytes)
write_lawful None offset bytes h k m = inl refl
write_lawful (Some path) None bytes h k m = inl refl
write_lawful (Some path) (Some offset) None h k m = inl refl
write_lawful (Some path) (Some offset) (Some bytes) h k m = inr (rw h (rw k m))

kept_read : (test : Bool) (path : List (List ℕ)) (offset count : ℕ) → lawful_path path → small offset → nat_le count 1048576 ≡ test
    → Lawful (if test then Read path offset count else Bad)
kept_read true path offset count h k m = inr (rw h (rw k m))
kept_read false path offset count h k m = inl refl

read_lawful : (path : Option (List (List ℕ))) (offset count : Option ℕ)
    → IfSome path lawful_path → IfSome offset small → Lawful (read_of path offset count)
read_lawful None offset count h k = inl refl
read_lawful (Some path) None count h k = inl refl
read_lawful (Some path) (Some offset) None h k = inl refl
read_lawful (Some path) (Some offset) (Some count) h k = kept_read (nat_le count 1048576) path offset count h k refl

kept_fill : (test : Bool) (path : List (List ℕ)) (offset count byte : ℕ) → lawful_path path → small offset → small count
    → nat_le byte 255 ≡ test → Lawful (if test then Fill path offset count byte else Bad)
kept_fill true path offset count byte h k m n = inr (rw h (rw k (rw m n)))
kept_fill false path offset count byte h k m n = inl refl

fill_lawful : (path : Option (List (List ℕ))) (offset count byte : Option ℕ)
    → IfSome path lawful_path → IfSome offset small → IfSome count small → Lawful (fill_of path offset count byte)
fill_lawful None offset count byte h k m = inl refl
fill_lawful (Some path) None count byte h k m = inl refl
fill_lawful (Some path) (Some offset) None byte h k m = inl refl
fill_lawful (Some path) (Some offset) (Some count) None h k m = inl refl
fill_lawful (Some path) (Some offset) (Some count) (Some byte) h k m = kept_fill (nat_le byte 255) path offset count byte h k m refl

on_tree_lawful : (parts : List (List ℕ)) → Lawful (command_on_tree parts)
on_tree_lawful [] = inl refl
on_tree_lawful (word ∷ []) =
    either _ Osync _ (inr refl)
    (either _ Dsync _ (inr refl) (either _ Durable _ (inr refl) (either _ Poll _ (inr refl) (either _ Snaps Bad (inr refl) (inl refl)))))
on_tree_lawful (word ∷ last ∷ []) =
    either _ (dwait_of (small_number_of last)) _ (dwait_lawful (small_number_of last) (number_small last))
    (either _ (snap_of (name_of last)) _ (snap_lawful (name_of last) (name_lawful last))
    (either _ (unsnap_of (name_of last)) (path_command word (path_of last)) (unsnap_lawful (name_of last) (name_lawful last))
    (path_command_lawful word (path_of last) (path_lawful last))))
on_tree_lawful (word ∷ path ∷ last ∷ []) =
    either (bytes_eq word (codes "truncate")) (truncate_of (path_of path) (small_number_of last)) (paths_command word (path_of path) (path_of last))
    (truncate_lawful (path_of path) (small_number_of last) (path_lawful path) (number_small last))
    (paths_command_lawful word (path_of path) (path_of last) (path_lawful path) (path_lawful last))
on_tree_lawful (word ∷ path ∷ offset ∷ last ∷ []) =
    let p = path_lawful path in
    let n = number_small offset in
    either (bytes_eq word (codes "write")) (write_of (path_of path) (small_number_of offset) (bytes_of last))
    (if bytes_eq word (codes "read") then read_of (path_of path) (small_number_of offset) (small_number_of last) else Bad)
    (write_lawful (path_of path) (small_number_of offset) (bytes_of last) p n (kept_bytes (decode_of last) (decoded_small last)))
    (either (bytes_eq word (codes "read")) (read_of (path_of path) (small_number_of offset) (small_number_of last)) Bad
    (read_lawful (path_of path) (small_number_of offset) (small_number_of last) p n) (inl refl))
on_tree_lawful (word ∷ path ∷ offset ∷ count ∷ byte ∷ []) =
    either (bytes_eq word (codes "fill")) (fill_of (path_of path) (small_number_of offset) (small_number_of count) (small_number_of byte)) Bad
    (fill_lawful (path_of path) (small_number_of offset) (small_number_of count) (small_number_of byte) (path_lawful path) (number_small offset) (number_small count))
    (inl refl)
on_tree_lawful (word ∷ path ∷ offset ∷ count ∷ byte ∷ one ∷ more) = inl refl

lawful_look : (cmd : Cmd) → Lawful cmd → IfSome (look_of cmd) (λ l. is_lawful_look l ≡ true)
lawful_look (Read path offset count) (inl bad) = absurd cc
lawful_look (Read path offset count) (inr h) = h
lawful_look (Stat path) (inl bad) = absurd cc
lawful_look (Stat path) (inr h) = h
lawful_look (ListNames path) (inl bad) = absurd cc
lawful_look (ListNames path) (inr h) = h
lawful_look cmd h = tt

at_lawful : (name : Option (List ℕ)) (l : Option Look) → IfSome name (λ name. is_snapshot_name name ≡ true) → IfSome l (λ l. is_lawful_look l ≡ true) → Lawful (at_of name l)
at_lawful None l h k = inl refl
at_lawful (Some name) None h k = inl refl
at_lawful (Some name) (Some l) h k = inr (rw h k)

parts_lawful : (parts : List (List ℕ)) → Lawful (command_of_parts parts)
parts_lawful [] = inl refl
parts_lawful (word ∷ []) = on_tree_lawful (word ∷ [])
parts_lawful (word ∷ name ∷ parts) =
    either (bytes_eq word (codes "at")) (at_of (name_of name) (look_of (command_on_tree parts))) (command_on_tree (word ∷ name ∷ parts))
    (at_lawful (name_of name) (look_of (command_on_tree parts)) (name_lawful name) (lawful_look (command_on_tree parts) (on_tree_lawful parts)))
    (on_tree_lawful (word ∷ name ∷ parts))

-- what a line reads as is `Bad` or in the grammar
pub line_lawful : (line : List ℕ) → (command_of line ≡ Bad) ⊎ (is_in_grammar (command_of line) ≡ true)
line_lawful line = parts_lawful (slice_split (λ b. b == 32) line)

-- a command that some line asks for has lawful arguments
in_grammar_lawful : (cmd : Cmd) → is_in_grammar cmd ≡ true → IsCommand cmd
in_grammar_lawful (Mkdir path) h = h
in_grammar_lawful (Create path) h = h
in_grammar_lawful (Write path offset bytes) h = h
in_grammar_lawful (Fill path offset count byte) h = h
in_grammar_lawful (Read path offset count) h = h
in_grammar_lawful (Truncate path size) h = h
in_grammar_lawful (Link path other) h = h
in_grammar_lawful (Unlink path) h = h
in_grammar_lawful (Rmdir path) h = h
in_grammar_lawful (Rename path other) h = h
in_grammar_lawful (Stat path) h = h
in_grammar_lawful (ListNames path) h = h
in_grammar_lawful (Snap name) h = h
in_grammar_lawful (Unsnap name) h = h
in_grammar_lawful Snaps h = refl
in_grammar_lawful (At name l) h = h
in_grammar_lawful Osync h = refl
in_grammar_lawful Dsync h = refl
in_grammar_lawful Durable h = refl
in_grammar_lawful (Dwait point) h = h
in_grammar_lawful Poll h = refl
in_grammar_lawful Bad h = refl

-- its arguments are lawful in either case
pub line_command : (line : List ℕ) → IsCommand (command_of line)
line_command line = either_way (command_of line) (line_lawful line)
  where
    either_way : (cmd : Cmd) → Lawful cmd → IsCommand cmd
    either_way cmd (inl bad) = subst IsCommand (sym bad) refl
    either_way cmd (inr h) = in_grammar_lawful cmd h
