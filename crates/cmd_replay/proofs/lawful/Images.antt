-- The files of the tree that an image stands for have bytes, where the image's blocks do.
use Rattle.std.proofs.Common.{◌≡◌, sym, ◌∙◌, refl, subst, ℕ, suc, ◌+◌, ◌<◌, ◌==◌, Bool, true, false, if◌then◌else◌, List, [], ◌∷◌, length, Option, Some, None}
use Rattle.std.specs.Prelude.{slice_index, option_map}
use Rattle.std.proofs.lemmas.Bool.Decides.{Decides-ltb}
use Rattle.std.proofs.lemmas.Option.{same_Some}
use Rattle.layout_bytes.specs.Node.{content_of}
use Rattle.base_types.specs.Layouts.{slots_held}
use Rattle.base_types.specs.declared.layout.Layout.{Layout}
use Rattle.base_types.specs.Runs.{run_places}
use Rattle.base_types.specs.Seal.{Blocks}
use Rattle.layout_geometry.specs.Geometry.{Geometry}
use Rattle.layout_journal.specs.declared.entry.Entry.{Entry}
use Rattle.layout_journal.specs.declared.entry.EntryKind.{EntryKind}
use Rattle.layout_journal.specs.declared.entry.EntryKind.TheVariants.{Escaped}
use Rattle.layout_journal.specs.Layout.{unescaped}
use Rattle.layout_geometry.specs.Geometry.{ring_block}
use Rattle.layout_journal.specs.Run.{Record, HeldIs, names_block, heads, payload_from, payload_of, or_else, covered_by, otherwise, replayed, is_live}
use Rattle.layout_bytes.specs.Bytes.{when}
use Rattle.layout_bytes.specs.Slot.{slots_in}
use Rattle.layout_bytes.specs.declared.node.NodeKind.{NodeKind}
use Rattle.layout_bytes.specs.declared.node.NodeKind.TheVariants.{Dir as DirNode}
use Rattle.layout_bytes.specs.declared.slot.Slot.{Slot}
use Rattle.crash_stands.specs.Files.{FileNode, joined, file_of, files_of, used_node}
use Rattle.crash_stands.specs.Inodes.{Inode, ADir, AFile, IsInodeOf, inode_by, thing_of}
use Rattle.crash_stands.specs.Stands.{StandsFor}
use Rattle.lang_tree.specs.Tree.{Tree, File}
use Rattle.cmd_replay.specs.Named.{HasBytes}
use Rattle.cmd_replay.proofs.lawful.Changes.{all_join, all_take, all_drop}
use Rattle.cmd_replay.proofs.telling.Lines.{ThingBytes}
use Rattle.cmd_replay.proofs.telling.Texts.{AreBytes}

small_ones : (bytes : List ℕ) → ((i : ℕ) → slice_index bytes i < 256) → AreBytes bytes
small_ones [] h = refl
small_ones (b ∷ bytes) h = rw ((Decides-ltb b 256).1 (h 0)) (small_ones bytes (λ i. h (suc i)))

abbrev AllBytes : Blocks → Type 0
AllBytes m = (b : ℕ) → AreBytes (m b)

-- nothing, or bytes
abbrev SomeBytes : Option (List ℕ) → Type 0
SomeBytes None = Unit {0}
SomeBytes (Some xs) = AreBytes xs

-- ---- what an image holds

payload_bytes : (kind : EntryKind) (stored : List ℕ) → AreBytes stored → AreBytes (unescaped kind stored)
payload_bytes Escaped stored h = all_drop 1 stored h
payload_bytes other stored h = h

payloads_bytes : (g : Geometry) (img : Blocks) → AllBytes img → (es : List Entry) (place b : ℕ) → SomeBytes (payload_from g img place es b)
payloads_bytes g img h [] place b = tt
payloads_bytes g img h (e ∷ es) place b = elim (e.block == b) as (λ t. SomeBytes (payload_from g img (place + 1) es b) → SomeBytes (if t then Some (unescaped e.kind (img (ring_block g place))) else payload_from g img (place + 1) es b)) [
  | true ↦ λ later. payload_bytes e.kind (img (ring_block g place)) (h (ring_block g place))
  | false ↦ λ later. later
] (payloads_bytes g img h es (place + 1) b)

either : (x y : Option (List ℕ)) → SomeBytes x → SomeBytes y → SomeBytes (or_else x y)
either None y h k = k
either (Some x) y h k = h

unless : (t : Bool) (x : Option (List ℕ)) → SomeBytes x → SomeBytes (if t then None else x)
unless true x h = tt
unless false x h = h

covered_bytes : (g : Geometry) (img : Blocks) → AllBytes img → (rs : List Record) (before : Option (List ℕ)) (b : ℕ) → SomeBytes before → SomeBytes (covered_by g img before rs b)
covered_bytes g img h [] before b k = k
covered_bytes g img h (r ∷ rs) before b k =
    covered_bytes g img h rs (or_else (payload_of g img r b) (if names_block r.fresh b then None else before)) b
    (either (payload_of g img r b) (if names_block r.fresh b then None else before) (payloads_bytes g img h r.payloads (r.place + heads r) b) (unless (names_block r.fresh b) before k))

or_there : (o : Option (List ℕ)) (xs : List ℕ) → SomeBytes o → AreBytes xs → AreBytes (otherwise o xs)
or_there None xs h k = k
or_there (Some ys) xs h k = h

live_bytes : (t : Bool) (xs : List ℕ) → AreBytes xs → AreBytes (if t then xs else [])
live_bytes true xs h = h
live_bytes false xs h = refl

held_bytes : (n : ℕ) (img m : Blocks) → AllBytes img → HeldIs n img m → AllBytes m
held_bytes n img m h held b =
    let g = held.header.geom in
    let after = replayed g img held.run in
    subst AreBytes (sym (held.each b))
    (live_bytes (is_live g after b) (after b) (or_there (covered_by g img None held.run b) (img b) (covered_bytes g img h held.run None b tt) (h b)))

-- ---- files

joined_bytes : (m : Blocks) (bs : List ℕ) → AllBytes m → AreBytes (joined m bs)
joined_bytes m [] h = refl
joined_bytes m (b ∷ bs) h = all_join (m b) (joined m bs) (h b) (joined_bytes m bs h)

abbrev FileBytes : Option FileNode → Type 0
FileBytes None = Unit {0}
FileBytes (Some file) = AreBytes file.bytes

files_bytes : (g : Geometry) (m : Blocks) (k : ℕ) → AllBytes m → FileBytes (files_of g m k)
files_bytes g m k h = elim (used_node g m k) as (λ o. FileBytes (option_map (file_of g.layout m) o)) [ None ↦ tt | Some node ↦ all_take (content_of g.layout node.kind node.size) (joined m (run_places node.runs)) (joined_bytes m (run_places node.runs) h) ]

no_file : (t : Bool) (o : Option (List Slot)) (links : ℕ) (bytes : List ℕ) → when t (option_map ADir o) ≡ Some (AFile links bytes) → ⊥
no_file true None links bytes e = cc e
no_file other o links bytes e = cc e

same_bytes : (l : Layout) (kind : NodeKind) (count : ℕ) (xs : List ℕ) (links : ℕ) (bytes : List ℕ) → inode_by l kind count xs ≡ Some (AFile links bytes) → xs ≡ bytes
same_bytes l DirNode count xs links bytes e = absurd (no_file (count == 1) (slots_in l (slots_held l (length xs)) xs) links bytes e)
same_bytes l other count xs links bytes e = cc e

inode_bytes : (l : Layout) (file : Option FileNode) (x : Inode) → FileBytes file → IsInodeOf l file (Some x) → ThingBytes (thing_of x)
inode_bytes l file (ADir slots) h is = tt
inode_bytes l None (AFile links bytes) h is = cc is
inode_bytes l (Some file) (AFile links bytes) h is = subst AreBytes (same_bytes l file.kind file.links file.bytes links bytes is) h

pub stands_bytes : (n : ℕ) (img : Blocks) (t : Tree) → ((b i : ℕ) → slice_index (img b) i < 256) → StandsFor n img t → HasBytes t
stands_bytes n img t small is k bytes e = by (is.tree.inodes k) (is.tree.read k) (sym (is.tree.map.shows.nodes k) ∙ e)
  where
    file : FileBytes (files_of is.held.header.geom is.map k)
    file = files_bytes is.held.header.geom is.map k (held_bytes n img is.map (λ b. small_ones (img b) (small b)) is.held)

    by : (o : Option Inode) → IsInodeOf is.held.header.geom.layout (files_of is.held.header.geom is.map k) o → option_map thing_of o ≡ Some (File bytes) → AreBytes bytes
    by None read same = cc same
    by (Some x) read same = subst ThingBytes (same_Some (thing_of x) (File bytes) same) (inode_bytes is.held.header.geom.layout (files_of is.held.header.geom is.map k) x file read)
