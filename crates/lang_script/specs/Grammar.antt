-- Which command a line is. Its parts are parted by exactly one blank; whatever is outside the grammar
-- is `Bad`. A line is given without its line feed.
use Rattle.std.specs.Prelude.{ℕ, ◌==◌, Bool, true, false, if◌then◌else◌, ◌&&◌, List, [], ◌∷◌, codes, decimal, length, nat_lt, nat_le, bytes_eq, Option, None, Some, Result, Ok}
use Rattle.std.specs.List.{slice_split, list_all}
use Rattle.std.specs.Char.{is_ascii_digit}
use Rattle.std.specs.Str.Parse.{digits_value}
use Rattle.hex.specs.Hex.{decode_of}
use Rattle.hex.specs.declared.error.FromHexError.{FromHexError}
use Rattle.base_types.specs.Name.{is_name, is_snapshot_name}
use Rattle.lang_tree.specs.declared.command.Cmd.{Cmd}
use Rattle.lang_tree.specs.declared.command.Cmd.TheVariants.{Mkdir, Create, Write, Fill, Read, Truncate, Link, Unlink, Rmdir, Rename, Stat, List as ListNames, Snap, Unsnap, Snaps, At, Osync, Dsync, Durable, Dwait, Poll, Bad}
use Rattle.lang_tree.specs.declared.command.Look.{Look}
use Rattle.lang_tree.specs.declared.command.Look.TheVariants as look

-- the names behind the first slash, where what is before it is empty and each is lawful
abbrev pub names_of : List (List ℕ) → Option (List (List ℕ))
names_of ([] ∷ name ∷ names) = if list_all is_name (name ∷ names) then Some (name ∷ names) else None
names_of _ = None

-- the path that is written so: `/`, or one or more times a slash and a name
abbrev pub path_of : List ℕ → Option (List (List ℕ))
path_of part = if bytes_eq part (codes "/") then Some [] else names_of (slice_split (λ b. b == 47) part)

-- whether a number is below 2^32
abbrev pub fits : ℕ → Bool
fits number = nat_lt number 4294967296

-- the number below 2^32 whose decimal text the part is, with no sign and no zeros in front
abbrev pub small_number_of : List ℕ → Option ℕ
small_number_of part =
    if list_all is_ascii_digit part && (fits (digits_value 10 part) && bytes_eq (decimal (digits_value 10 part)) part)
    then Some (digits_value 10 part) else None

-- the name of a snapshot that is written so
abbrev pub name_of : List ℕ → Option (List ℕ)
name_of part = if is_snapshot_name part then Some part else None

-- the bytes, where they could be read and there are some
abbrev pub some_bytes : Result (List ℕ) FromHexError → Option (List ℕ)
some_bytes (Ok (byte ∷ bytes)) = Some (byte ∷ bytes)
some_bytes _ = None

-- the bytes whose pairs of digits the part is, at least one, in either case
abbrev pub bytes_of : List ℕ → Option (List ℕ)
bytes_of part = some_bytes (decode_of part)

-- the command of a word alone
abbrev pub word_command : List ℕ → Cmd
word_command word =
    if bytes_eq word (codes "osync") then Osync
    else if bytes_eq word (codes "dsync") then Dsync
    else if bytes_eq word (codes "durable") then Durable
    else if bytes_eq word (codes "poll") then Poll
    else if bytes_eq word (codes "snaps") then Snaps
    else Bad

-- the command of a word and a path, where the part is one
abbrev pub path_command : List ℕ → Option (List (List ℕ)) → Cmd
path_command word (Some path) =
    if bytes_eq word (codes "mkdir") then Mkdir path
    else if bytes_eq word (codes "create") then Create path
    else if bytes_eq word (codes "unlink") then Unlink path
    else if bytes_eq word (codes "rmdir") then Rmdir path
    else if bytes_eq word (codes "stat") then Stat path
    else if bytes_eq word (codes "list") then ListNames path
    else Bad
path_command word None = Bad

-- the command of a word and two paths, where both parts are paths
abbrev pub paths_command : List ℕ → Option (List (List ℕ)) → Option (List (List ℕ)) → Cmd
paths_command word (Some path) (Some other) =
    if bytes_eq word (codes "link") then Link path other
    else if bytes_eq word (codes "rename") then Rename path other
    else Bad
paths_command word _ _ = Bad

-- a truncate, where there are a path and a size
abbrev pub truncate_of : Option (List (List ℕ)) → Option ℕ → Cmd
truncate_of (Some path) (Some size) = Truncate path size
truncate_of _ _ = Bad

-- a wait for a sync point, where there is its number
abbrev pub dwait_of : Option ℕ → Cmd
dwait_of (Some point) = Dwait point
dwait_of None = Bad

-- a snapshot, where there is its name
abbrev pub snap_of : Option (List ℕ) → Cmd
snap_of (Some name) = Snap name
snap_of None = Bad

-- the end of a snapshot, where there is its name
abbrev pub unsnap_of : Option (List ℕ) → Cmd
unsnap_of (Some name) = Unsnap name
unsnap_of None = Bad

-- a write, where there are a path, an offset and bytes
abbrev pub write_of : Option (List (List ℕ)) → Option ℕ → Option (List ℕ) → Cmd
write_of (Some path) (Some offset) (Some bytes) = Write path offset bytes
write_of _ _ _ = Bad

-- a read of at most 1 MiB
abbrev pub read_of : Option (List (List ℕ)) → Option ℕ → Option ℕ → Cmd
read_of (Some path) (Some offset) (Some length) = if nat_le length 1048576 then Read path offset length else Bad
read_of _ _ _ = Bad

-- a fill with a byte, which is a number of at most 255
abbrev pub fill_of : Option (List (List ℕ)) → Option ℕ → Option ℕ → Option ℕ → Cmd
fill_of (Some path) (Some offset) (Some length) (Some byte) = if nat_le byte 255 then Fill path offset length byte else Bad
fill_of _ _ _ _ = Bad

-- the command on the tree itself whose word and arguments the parts are
abbrev pub command_on_tree : List (List ℕ) → Cmd
command_on_tree (word ∷ []) = word_command word
command_on_tree (word ∷ last ∷ []) =
    if bytes_eq word (codes "dwait") then dwait_of (small_number_of last)
    else if bytes_eq word (codes "snap") then snap_of (name_of last)
    else if bytes_eq word (codes "unsnap") then unsnap_of (name_of last)
    else path_command word (path_of last)
command_on_tree (word ∷ path ∷ last ∷ []) =
    if bytes_eq word (codes "truncate") then truncate_of (path_of path) (small_number_of last)
    else paths_command word (path_of path) (path_of last)
command_on_tree (word ∷ path ∷ offset ∷ last ∷ []) =
    if bytes_eq word (codes "write") then write_of (path_of path) (small_number_of offset) (bytes_of last)
    else if bytes_eq word (codes "read") then read_of (path_of path) (small_number_of offset) (small_number_of last)
    else Bad
command_on_tree (word ∷ path ∷ offset ∷ length ∷ byte ∷ []) =
    if bytes_eq word (codes "fill") then fill_of (path_of path) (small_number_of offset) (small_number_of length) (small_number_of byte) else Bad
command_on_tree _ = Bad

-- the look that the command is, where it is one
abbrev pub look_of : Cmd → Option Look
look_of (Read path offset length) = Some (look.Read path offset length)
look_of (Stat path) = Some (look.Stat path)
look_of (ListNames path) = Some (look.List path)
look_of _ = None

-- a look at a snapshot, where there are a name and a look
abbrev pub at_of : Option (List ℕ) → Option Look → Cmd
at_of (Some name) (Some l) = At name l
at_of _ _ = Bad

-- the command whose word and arguments the parts are: behind `at` and a name stands how the tree itself would be looked at
abbrev pub command_of_parts : List (List ℕ) → Cmd
command_of_parts (word ∷ name ∷ parts) = if bytes_eq word (codes "at") then at_of (name_of name) (look_of (command_on_tree parts)) else command_on_tree (word ∷ name ∷ parts)
command_of_parts parts = command_on_tree parts

-- the command that a line is
abbrev pub command_of : List ℕ → Cmd
command_of line = command_of_parts (slice_split (λ b. b == 32) line)

-- whether a look at a tree is lawful: it has lawful names, and a read has an offset that fits and at most 1 MiB
abbrev pub is_lawful_look : Look → Bool
is_lawful_look (look.Read path offset length) = list_all is_name path && (fits offset && nat_le length 1048576)
is_lawful_look (look.Stat path) = list_all is_name path
is_lawful_look (look.List path) = list_all is_name path

-- whether the arguments of a command are lawful: its names are, its numbers fit, and a write has bytes
abbrev pub has_lawful_arguments : Cmd → Bool
has_lawful_arguments (Mkdir path) = list_all is_name path
has_lawful_arguments (Create path) = list_all is_name path
has_lawful_arguments (Write path offset bytes) =
    list_all is_name path && (fits offset && (nat_lt 0 (length bytes) && list_all (λ b. nat_lt b 256) bytes))
has_lawful_arguments (Fill path offset length byte) = list_all is_name path && (fits offset && (fits length && nat_le byte 255))
has_lawful_arguments (Read path offset length) = is_lawful_look (look.Read path offset length)
has_lawful_arguments (Truncate path size) = list_all is_name path && fits size
has_lawful_arguments (Link path other) = list_all is_name path && list_all is_name other
has_lawful_arguments (Unlink path) = list_all is_name path
has_lawful_arguments (Rmdir path) = list_all is_name path
has_lawful_arguments (Rename path other) = list_all is_name path && list_all is_name other
has_lawful_arguments (Stat path) = is_lawful_look (look.Stat path)
has_lawful_arguments (ListNames path) = is_lawful_look (look.List path)
has_lawful_arguments (Snap name) = is_snapshot_name name
has_lawful_arguments (Unsnap name) = is_snapshot_name name
has_lawful_arguments (At name l) = is_snapshot_name name && is_lawful_look l
has_lawful_arguments (Dwait point) = fits point
has_lawful_arguments _ = true

-- whether some line asks for the command: it isn't `Bad`, and its arguments are lawful
abbrev pub is_in_grammar : Cmd → Bool
is_in_grammar Bad = false
is_in_grammar cmd = has_lawful_arguments cmd
