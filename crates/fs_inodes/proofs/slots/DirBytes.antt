-- Slots written into the bytes of a directory, and cut off them.
use Rattle.std.proofs.Common.{◌≡◌, ℕ, ◌+◌, ◌-◌, ◌<◌, ◌≤◌, ◌==◌, ◌&&◌, nat_le, Bool, true, false, List, [], ◌∷◌, ◌++◌, length, take, drop, replicate, set, get_or, slice_get, slice_index, Some, option_map, refl, ap, ap₂, subst, ◌∙◌, arith, append-nil, append_assoc, take_all, sym}
use Rattle.std.proofs.lemmas.Bool.{and_parts, leb-true}
use Rattle.std.proofs.lemmas.List.{length-take, length-take-le, length-drop, length-append, length-replicate, take-append-le, drop_all}
use Rattle.std.proofs.lemmas.Option.{slice_get-get_or, same_Some, none-some}
use Rattle.base_types.specs.declared.layout.Layout.{Layout}
use Rattle.base_types.specs.Layouts.{longest_name, slot_size, slot_place, directory_bytes, slots_held}
use Rattle.base_types.specs.LayoutLaws.{no_directory, directory_ends, directory_before, directory_holds, directory_rises, directory_count}
use Rattle.base_types.specs.Name.{is_name}
use Rattle.layout_bytes.specs.declared.node.NodeKind.{NodeKind}
use Rattle.layout_bytes.specs.declared.node.NodeKind.TheVariants.{Dir}
use Rattle.layout_bytes.specs.declared.slot.Slot.{Slot}
use Rattle.layout_bytes.specs.Bytes.{field, has_zeros, when}
use Rattle.layout_bytes.specs.Slot.{slot_of, slots_in, slot_spelling, name_in}
use Rattle.layout_directory.specs.Slots.{IsLawful}
use Rattle.layout_directory.specs.Directory.{overwrite, without_at}
use Rattle.lang_tree.specs.Step.{written, resized}
use Rattle.crash_stands.specs.Files.{FileNode}
use Rattle.crash_stands.specs.Inodes.{ADir, AFile, inode_by, inode_of}
use Rattle.fs_inodes.specs.SlotLaws.{SlotLaws}

-- bytes written within others
written_within : (off : ℕ) (ys xs : List ℕ) → off ≤ length xs → written off ys xs ≡ overwrite off ys xs
written_within off ys xs fits = ap (λ front. front ++ (ys ++ drop (off + length ys) xs)) (take-append-le off xs (replicate (off - length xs) 0) fits)

-- and behind them, with zeros between
written_behind : (off : ℕ) (ys xs : List ℕ) → length xs ≤ off → written off ys xs ≡ xs ++ (replicate (off - length xs) 0 ++ ys)
written_behind off ys xs past =
    let gap = replicate {A = ℕ} (off - length xs) 0 in
    ap₂ (λ (front rest : List ℕ). front ++ (ys ++ rest)) (take_all off (xs ++ gap) (omega (arith, past, length-append xs gap, length-replicate {A = ℕ} (off - length xs) 0)))
    (drop_all (off + length ys) xs (omega (arith, past)))
    ∙ ap (λ (rest : List ℕ). (xs ++ gap) ++ rest) (append-nil ys) ∙ append_assoc xs gap ys

-- bytes cut to a front
resized_front : (n : ℕ) (xs : List ℕ) → n ≤ length xs → resized n xs ≡ take n xs
resized_front n xs fits = take-append-le n xs (replicate (n - length xs) 0) fits

-- bytes written within others leave their number
over_length : (at : ℕ) (new b : List ℕ) → at + length new ≤ length b → length (overwrite at new b) ≡ length b
over_length at new b fits = grind (arith, length-append, length-drop, length-take-le)

-- what reads as a slot has a name that isn't too long
short_slot : (l : Layout) (b : List ℕ) (s : Slot) → slot_of l b ≡ Some s → length s.name ≤ longest_name l
unfolding slot_of
short_slot l b s e = by _ refl e
  where
    read : Slot
    read = record { node = field b 0 4; name = name_in b }

    by : (t : Bool) → (nat_le (slice_index b 4) (longest_name l) && (is_name (name_in b) && has_zeros b (5 + slice_index b 4) (slot_size l))) ≡ t → when t (Some read) ≡ Some s
        → length s.name ≤ longest_name l
    by true h is =
        let upto = leb-true (slice_index b 4) (longest_name l) (and_parts (nat_le (slice_index b 4) (longest_name l)) _ h).0 in
        subst (λ (r : Slot). length r.name ≤ longest_name l) (same_Some read s is) (omega (arith, upto, length-take (slice_index b 4) (drop 5 b)))
    by false h is = absurd (none-some s is)

-- what reads as a directory has slots, and with other bytes the slots of those
record IsDir (l : Layout) (kind : NodeKind) (links : ℕ) (bytes : List ℕ) (slots : List Slot) : Type 0 where
  own : slots_in l (slots_held l (length bytes)) bytes ≡ Some slots
  others : (b : List ℕ) (list : List Slot) → slots_in l (slots_held l (length b)) b ≡ Some list → inode_by l kind links b ≡ Some (ADir list)

-- what reads as a directory is of that kind, and with other bytes it reads as their slots
dir_is : (l : Layout) (kind : NodeKind) (links : ℕ) (bytes : List ℕ) (slots : List Slot) → inode_by l kind links bytes ≡ Some (ADir slots) → IsDir l kind links bytes slots
dir_is l kind links bytes slots h1 = grind (arith, links == 1, option_map ADir, none-some)

module _ (laws : SlotLaws) (l : Layout) (file : FileNode) (slots : List Slot) (is : inode_of l file ≡ Some (ADir slots)) where
  -- the file is a directory
  d : IsDir l file.kind file.links file.bytes slots
  d = dir_is l file.kind file.links file.bytes slots is

  -- it has so many slots as its bytes hold
  as_many : length slots ≡ slots_held l (length file.bytes)
  as_many = laws.count l (slots_held l (length file.bytes)) file.bytes slots d.own

  -- each slot reads from its place
  pub read_at : (place : ℕ) (s : Slot) → slice_get slots place ≡ Some s → slot_of l (take (slot_size l) (drop (slot_place l place) file.bytes)) ≡ Some s
  read_at place s at = laws.each l (slots_held l (length file.bytes)) file.bytes slots d.own place s at

  -- and its name isn't too long
  pub short_at : (place : ℕ) (s : Slot) → slice_get slots place ≡ Some s → length s.name ≤ longest_name l
  short_at place s at = short_slot l (take (slot_size l) (drop (slot_place l place) file.bytes)) s (read_at place s at)

  module _ (whole : directory_bytes l (slots_held l (length file.bytes)) ≡ length file.bytes) where
    -- the bytes end where the last slot does
    pub bytes_count : length file.bytes ≡ directory_bytes l (length slots)
    bytes_count = sym whole ∙ ap (directory_bytes l) (sym as_many)

    -- so many slots are read from bytes of their length
    read_as : (b : List ℕ) (n : ℕ) (list : List Slot) → length b ≡ directory_bytes l n → slots_in l n b ≡ Some list → inode_by l file.kind file.links b ≡ Some (ADir list)
    read_as b n list long reads = d.others b list (ap (λ k. slots_in l k b) (ap (slots_held l) long ∙ directory_count l n) ∙ reads)

    -- all slots read
    reads_all : slots_in l (length slots) file.bytes ≡ Some slots
    reads_all = ap (λ k. slots_in l k file.bytes) as_many ∙ d.own

    -- a slot lies within the bytes
    lies_within : (place : ℕ) → place < length slots → slot_place l place + slot_size l ≤ length file.bytes
    lies_within place low = omega (arith, bytes_count, directory_holds l place (length slots) low)

    -- a slot's bytes written over a place put it there
    put_over : (place : ℕ) (new : List ℕ) (s : Slot) → place < length slots → length new ≡ slot_size l → slot_of l new ≡ Some s
        → slots_in l (length slots) (written (slot_place l place) new file.bytes) ≡ Some (set slots place s)
    put_over place new s low size reads =
        ap (slots_in l (length slots)) (written_within (slot_place l place) new file.bytes (omega (arith, lies_within place low)))
        ∙ laws.over l (length slots) file.bytes new place slots s size (omega (arith, bytes_count)) low reads reads_all

    -- and leave as many bytes
    over_long : (place : ℕ) (new : List ℕ) → place < length slots → length new ≡ slot_size l → length (written (slot_place l place) new file.bytes) ≡ directory_bytes l (length slots)
    over_long place new low size =
        ap length (written_within (slot_place l place) new file.bytes (omega (arith, lies_within place low)))
        ∙ over_length (slot_place l place) new file.bytes (omega (arith, lies_within place low, size)) ∙ bytes_count

    -- a slot written over another one is in its stead
    pub over_is : (place : ℕ) (s : Slot) → place < length slots → IsLawful l s
        → inode_by l file.kind file.links (written (slot_place l place) (slot_spelling l s) file.bytes) ≡ Some (ADir (set slots place s))
    over_is place s low lawful =
        read_as (written (slot_place l place) (slot_spelling l s) file.bytes) (length slots) (set slots place s) (over_long place (slot_spelling l s) low (laws.spelling l s lawful))
        (put_over place (slot_spelling l s) s low (laws.spelling l s lawful) (laws.reads l s lawful))

    -- a slot written at the next place is behind the last one
    pub behind_is : (s : Slot) → IsLawful l s
        → inode_by l file.kind file.links (written (slot_place l (length slots)) (slot_spelling l s) file.bytes) ≡ Some (ADir (slots ++ s ∷ []))
    behind_is s lawful =
        let n : ℕ = length slots in
        let new = slot_spelling l s in
        let gap = replicate {A = ℕ} (slot_place l n - directory_bytes l n) 0 in
        let size = laws.spelling l s lawful in
        let before = directory_before l n in
        ap (inode_by l file.kind file.links)
        (written_behind (slot_place l n) new file.bytes (omega (arith, bytes_count, before))
        ∙ ap (λ (k : ℕ). file.bytes ++ (replicate (slot_place l n - k) 0 ++ new)) bytes_count)
        ∙ read_as (file.bytes ++ (gap ++ new)) (n + 1) (slots ++ s ∷ [])
        (omega (arith, length-append file.bytes (gap ++ new), length-append gap new, length-replicate {A = ℕ} (slot_place l n - directory_bytes l n) 0, bytes_count, before, size, directory_ends l n))
        (laws.behind l n file.bytes new slots s bytes_count size (laws.reads l s lawful) reads_all)

    -- bytes cut to so many slots have these
    cut_to : (n m : ℕ) (b : List ℕ) (list : List Slot) → n ≤ m → length b ≡ directory_bytes l m → slots_in l m b ≡ Some list
        → inode_by l file.kind file.links (resized (directory_bytes l n) b) ≡ Some (ADir (take n list))
    cut_to n m b list low long reads =
        let fits : directory_bytes l n ≤ length b = omega (arith, directory_rises l n m low, long) in
        ap (inode_by l file.kind file.links) (resized_front (directory_bytes l n) b fits)
        ∙ read_as (take (directory_bytes l n) b) n (take n list) (length-take-le (directory_bytes l n) b fits) (laws.cut l n b (take n list) fits (laws.front l m n b list low reads))

    -- of the directory's own bytes
    pub cut_is : (n : ℕ) → n ≤ length slots → inode_by l file.kind file.links (resized (directory_bytes l n) file.bytes) ≡ Some (ADir (take n slots))
    cut_is n low = cut_to n (length slots) file.bytes slots low bytes_count reads_all

    -- the last slot written over another one and cut off is in its place
    pub out_is : (place : ℕ) → place < length slots
        → inode_by l file.kind file.links
        (resized (directory_bytes l (length slots - 1)) (written (slot_place l place) (take (slot_size l) (drop (slot_place l (length slots - 1)) file.bytes)) file.bytes))
        ≡ Some (ADir (without_at place slots))
    out_is place low =
        let behind : ℕ = length slots - 1 in
        let bytes = take (slot_size l) (drop (slot_place l behind) file.bytes) in
        let last : Slot = get_or slots behind (record { node = 0; name = [] }) in
        let size : length bytes ≡ slot_size l
        = length-take-le (slot_size l) (drop (slot_place l behind) file.bytes) (omega (arith, length-drop (slot_place l behind) file.bytes, lies_within behind (omega (arith, low)))) in
        let there : slice_get slots behind ≡ Some last = slice_get-get_or slots behind (record { node = 0; name = [] }) (omega (arith, low)) in
        cut_to behind (length slots) (written (slot_place l place) bytes file.bytes) (set slots place last) (omega arith)
        (over_long place bytes low size) (put_over place bytes last low size (read_at behind last there))

-- Files.

-- a file has its links and bytes
file_parts : (l : Layout) (kind : NodeKind) (links n : ℕ) (bytes b : List ℕ) → inode_by l kind links bytes ≡ Some (AFile n b) → (links ≡ n) × (bytes ≡ b)
file_parts l kind links n bytes b h1 = grind (arith, none-some)

-- of a node in use
pub parts_of : (l : Layout) (file : FileNode) (links : ℕ) (bytes : List ℕ) → inode_of l file ≡ Some (AFile links bytes) → (file.links ≡ links) × (file.bytes ≡ bytes)
parts_of l file links bytes e = file_parts l file.kind file.links links file.bytes bytes e

-- and with others it is a file too
with_others : (l : Layout) (kind : NodeKind) (links n more : ℕ) (bytes b new : List ℕ) → inode_by l kind links bytes ≡ Some (AFile n b) → inode_by l kind more new ≡ Some (AFile more new)
with_others l kind links n more bytes b new h1 = grind (arith, none-some)

-- of a node in use
pub others_of : (l : Layout) (file : FileNode) (links more : ℕ) (bytes new : List ℕ) → inode_of l file ≡ Some (AFile links bytes)
    → inode_of l (record { kind = file.kind; links = more; bytes = new }) ≡ Some (AFile more new)
others_of l file links more bytes new e = with_others l file.kind file.links links more file.bytes bytes new e

-- a new node without bytes
pub new_dir : (l : Layout) → inode_of l (record { kind = Dir; links = 1; bytes = [] }) ≡ Some (ADir [])
new_dir l = ap (λ n. option_map ADir (slots_in l n [])) (ap (slots_held l) (sym (no_directory l)) ∙ directory_count l 0)
