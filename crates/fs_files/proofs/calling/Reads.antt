-- A call on a file that reads its bytes, and one that looks up the rest of it.
use Rattle.std.proofs.Common.{◌≡◌, ℕ, zero, suc, ◌+◌, ◌-◌, ◌*◌, ◌<◌, ◌≤◌, ◌&&◌, nat_le, Bool, true, false, min, List, [], ◌∷◌, length, take, drop, All, Option, Some, None, option_map, slice_get, refl, sym, ap, ◌∙◌, arith, subst, drop_of_length-le}
use Rattle.std.proofs.lemmas.List.{take_all}
use Rattle.std.proofs.lemmas.Bool.{false≢true, lt-leb}
use Rattle.std.proofs.lemmas.Bool.Decides.{nat_tests}
use Rattle.base_types.specs.Seal.{Blocks}
use Rattle.base_types.specs.Runs.{run_places}
use Rattle.base_types.specs.declared.layout.Layout.{Layout}
use Rattle.layout_extent.specs.Runs.{runs_of}
use Rattle.layout_geometry.specs.Geometry.{Geometry}
use Rattle.layout_bytes.specs.declared.node.Node.{Node}
use Rattle.layout_bytes.specs.declared.node.NodeKind.TheVariants.{Dir}
use Rattle.layout_bytes.specs.Bytes.{when}
use Rattle.layout_bytes.specs.Node.{content_of, node_at}
use Rattle.engine_blocks.specs.Puts.{IsData}
use Rattle.engine_blocks.specs.State.{Bookkeeping, State}
use Rattle.crash_stands.specs.Files.{FileNode, file_of, files_of, used_node, joined}
use Rattle.fs_files.specs.declared.nodes.OpenNode.{OpenNode}
use Rattle.fs_files.specs.Bytes.{blocks_for}
use Rattle.fs_files.specs.Calls.{block_bytes, facts_of, files_in, places_of, places_or_none}
use Rattle.fs_files.specs.Content.{HasContent}
use Rattle.fs_files.specs.Drafts.{DraftState, drafted}
use Rattle.fs_files.specs.Contents.{content_of_size, whole_content}
use Rattle.fs_files.specs.Nodes.{node_of_open, AreWholeSlots}
use Rattle.fs_files.specs.Sound.{AreSoundBy, IsSoundDraft}
use Rattle.fs_files.proofs.bytes.Contents.{read_part}
use Rattle.fs_files.proofs.bytes.Joins.{of_place, joined_length, joined_part}
use Rattle.fs_files.proofs.bytes.Known.{content_known}
use Rattle.fs_files.proofs.bytes.Sizes.{blocks_hold}
use Rattle.fs_files.proofs.calling.Nodes.{its_file}
use Rattle.fs_files.proofs.frames.Places.{file_node, node_file, places_needed, used_fits, used_length}

-- a node in use is what is looked up of its file
pub looked_up : (s : State) (d : DraftState) (number : ℕ) (o : OpenNode) → IsSoundDraft s.books s.map d → (o.kind ≡ Dir → AreWholeSlots s.books.geom.layout o.size) → option_map (node_of_open s.books.geom.layout) (Some o) ≡ used_node s.books.geom (drafted d s.map) number
    → Some (record { kind = o.kind; links = o.links; size = o.size }) ≡ option_map facts_of (files_in s d number)
looked_up s d number o sound whole used =
    let node : Node = node_of_open s.books.geom.layout o in
    ap (λ n. Some (record { kind = o.kind; links = o.links; size = n })) (sym (used_length s.books.geom sound.live (drafted d s.map) number node sound.blocks (sym used) ∙ content_of_size s.books.geom.layout o.kind o.size whole))
    ∙ sym (ap (option_map facts_of) (node_file s.books.geom (drafted d s.map) number node (sym used)))

-- and one out of use is none
pub none_up : (s : State) (d : DraftState) (number : ℕ) → None ≡ used_node s.books.geom (drafted d s.map) number → None ≡ option_map facts_of (files_in s d number)
none_up s d number none = ap (λ o. option_map facts_of (option_map (file_of s.books.geom.layout (drafted d s.map)) o)) none

none_by : (a b : Bool) (o : Option Node) → b ≡ false → when (a && b) o ≡ None
none_by true true o e = absurd (false≢true (sym e))
none_by true false o e = refl
none_by false b o e = refl

-- a number above the table's is that of no node
pub none_above : (g : Geometry) (m : Blocks) (k : ℕ) → g.i < k → files_of g m k ≡ None
none_above g m k above = ap (option_map (file_of g.layout m)) (none_by (nat_le 1 k) (nat_le k g.i) (node_at g m k) (lt-leb k g.i above))

-- a directory's bytes are whole slots
pub file_slots : (g : Geometry) (marks : ℕ → Bool) (m : Blocks) (k : ℕ) (x : FileNode) → AreSoundBy g marks m → files_of g m k ≡ Some x → x.kind ≡ Dir → AreWholeSlots g.layout (length x.bytes)
file_slots g marks m k x sound at dir =
    let r = file_node g marks m k x sound at in
    subst (λ n. AreWholeSlots g.layout n) (sym r.3) (whole_content g.layout r.0.kind r.0.size (ap (λ (y : FileNode). y.kind) (sym r.2) ∙ dir))

-- the bytes of its blocks from one place to another are those of the file that were asked for
pub reads : (k : Bookkeeping) (m w : Blocks) (d : DraftState) (number : ℕ) (o : OpenNode) (x : FileNode) (offset len from end : ℕ) (got : List ℕ)
    → IsSoundDraft k m d → All (IsData k.geom) o.places → length o.places ≡ blocks_for o.size → (o.kind ≡ Dir → AreWholeSlots k.geom.layout o.size) → run_places (runs_of o.places) ≡ o.places
    → option_map (node_of_open k.geom.layout) (Some o) ≡ used_node k.geom (drafted d m) number → files_of k.geom (drafted d m) number ≡ Some x
    → w ≡ m → from ≡ min offset o.size → end ≡ min o.size (from + len)
    → (HasContent w d o.places → got ≡ take (end - from) (drop from (joined (drafted d w) o.places)))
    → got ≡ take len (drop offset x.bytes)
reads k m w d number o x offset len from end got sound inside count whole runs used at same from_is end_is bytes =
    let node : Node = node_of_open k.geom.layout o in
    let known : HasContent m d (run_places node.runs) = content_known k m d number node sound (sym used) (subst (All (IsData k.geom)) (sym runs) inside) in
    let has : HasContent m d o.places = subst (HasContent m d) runs known in
    let text : x.bytes ≡ take o.size (joined (drafted d m) o.places) =
    ap (λ (y : FileNode). y.bytes) (its_file k.geom (drafted d m) number x node used at)
    ∙ ap (λ n. take n (joined (drafted d m) (run_places (runs_of o.places)))) (content_of_size k.geom.layout o.kind o.size whole) ∙ ap (λ ps. take o.size (joined (drafted d m) ps)) runs in
    let long : o.size ≤ length (joined (drafted d m) o.places) = omega (arith, joined_length (drafted d m) o.places has.whole, count, (blocks_hold o.size).0) in
    bytes (subst (λ v. HasContent v d o.places) (sym same) has)
    ∙ ap (λ v. take (end - from) (drop from (joined (drafted d v) o.places))) same
    ∙ ap (λ n. take (n - from) (drop from (joined (drafted d m) o.places))) (end_is)
    ∙ ap (λ n. take (min o.size (n + len) - n) (drop n (joined (drafted d m) o.places))) from_is
    ∙ sym (read_part o.size offset len (joined (drafted d m) o.places) long)
    ∙ ap (λ xs. take len (drop offset xs)) (sym text)

-- the first bytes of a list are those that are as many
take_length : (n : ℕ) (xs : List ℕ) → take (length (take n xs)) xs ≡ take n xs
take_length zero xs = refl
take_length (suc n) [] = refl
take_length (suc n) (x ∷ xs) = ap (λ ys. x ∷ ys) (take_length n xs)

-- what is behind a place among the first of a list
drop_of_first : (size at : ℕ) (xs : List ℕ) → drop at (take size xs) ≡ take (size - at) (drop at xs)
drop_of_first size zero xs = ap (λ n. take n xs) {x = size} {y = size - 0} (omega arith)
drop_of_first zero (suc at) xs = ap (λ n. take n (drop (suc at) xs)) {x = 0} {y = 0 - suc at} (omega arith)
drop_of_first (suc size) (suc at) [] = sym (take_all (suc size - suc at) [] (omega arith))
drop_of_first (suc size) (suc at) (x ∷ xs) = drop_of_first size at xs ∙ ap (λ n. take n (drop at xs)) {x = size - at} {y = suc size - suc at} (omega arith)

-- the first of the first, in either order
take_swap : (m n : ℕ) (xs : List ℕ) → take m (take n xs) ≡ take n (take m xs)
take_swap zero n xs = sym (take_all n [] (omega arith))
take_swap (suc m) zero xs = refl
take_swap (suc m) (suc n) [] = refl
take_swap (suc m) (suc n) (x ∷ xs) = ap (λ ys. x ∷ ys) (take_swap m n xs)

-- a part of the first bytes is the first of a part
part_of_first : (size at : ℕ) (xs : List ℕ) → take 1024 (drop at (take size xs)) ≡ take (size - at) (take 1024 (drop at xs))
part_of_first size at xs = ap (take 1024) (drop_of_first size at xs) ∙ take_swap 1024 (size - at) (drop at xs)

-- so what is behind some bytes begins with what is behind them among the first ones
pub begins : (size at : ℕ) (xs block : List ℕ) → take 1024 (drop at xs) ≡ block → take (length (take 1024 (drop at (take size xs)))) block ≡ take 1024 (drop at (take size xs))
begins size at xs block is = grind (arith, nat_tests, part_of_first, take_length)

-- the blocks of a node in use have their bytes
places_whole : (k : Bookkeeping) (m : Blocks) (d : DraftState) (number : ℕ) (node : Node) (ps : List ℕ) → IsSoundDraft k m d → used_node k.geom (drafted d m) number ≡ Some node → ps ≡ run_places node.runs → All (IsData k.geom) ps → All (λ q. length (drafted d m q) ≡ 1024) ps
places_whole k m d number node ps sound used same inside =
    subst (All (λ q. length (drafted d m q) ≡ 1024)) (sym same) (content_known k m d number node sound used (subst (All (IsData k.geom)) same inside)).whole

-- and the first of these are the file's
text_of : (l : Layout) (m : Blocks) (node : Node) (ps : List ℕ) (x : FileNode) → x ≡ file_of l m node → ps ≡ run_places node.runs → x.bytes ≡ take (content_of l node.kind node.size) (joined m ps)
text_of l m node ps x is same = ap (λ (y : FileNode). y.bytes) is ∙ ap (λ qs. take (content_of l node.kind node.size) (joined m qs)) (sym same)

-- a block that was read begins with the bytes that the file has in it
pub block_begins : (k : Bookkeeping) (m : Blocks) (d : DraftState) (number index : ℕ) (ps block : List ℕ) (x : FileNode) → IsSoundDraft k m d → All (IsData k.geom) ps → files_of k.geom (drafted d m) number ≡ Some x → ps ≡ places_of k.geom (drafted d m) number
    → (b : ℕ) → slice_get ps index ≡ Some b → (length (drafted d m b) ≡ 1024 → block ≡ drafted d m b)
    → take (length (block_bytes x index)) block ≡ block_bytes x index
block_begins k m d number index ps block x sound inside at ps_are b place seen =
    let r = file_node k.geom sound.live (drafted d m) number x sound.blocks at in
    let same : ps ≡ run_places r.0.runs = ps_are ∙ ap places_or_none r.1 in
    let whole : All (λ q. length (drafted d m q) ≡ 1024) ps = places_whole k m d number r.0 ps sound r.1 same inside in
    let big : length (drafted d m b) ≡ 1024 = of_place (λ q. length (drafted d m q) ≡ 1024) ps index b whole place in
    let here : take 1024 (drop (1024 * index) (joined (drafted d m) ps)) ≡ block =
    ap (λ n. take 1024 (drop n (joined (drafted d m) ps))) {x = 1024 * index} {y = 1024 * index + 0} (omega arith)
    ∙ joined_part (drafted d m) ps index b 0 1024 whole place (omega arith)
    ∙ take_all 1024 (drafted d m b) (omega (arith, big))
    ∙ sym (seen big) in
    subst (λ bs. take (length (take 1024 (drop (1024 * index) bs))) block ≡ take 1024 (drop (1024 * index) bs)) (sym (text_of k.geom.layout (drafted d m) r.0 ps x r.2 same))
    (begins (content_of k.geom.layout r.0.kind r.0.size) (1024 * index) (joined (drafted d m) ps) block here)

-- and behind its blocks a file has no bytes
pub block_past : (k : Bookkeeping) (m : Blocks) (d : DraftState) (number index : ℕ) (ps block : List ℕ) (x : FileNode) → IsSoundDraft k m d → All (IsData k.geom) ps → files_of k.geom (drafted d m) number ≡ Some x → ps ≡ places_of k.geom (drafted d m) number
    → length ps ≤ index → take (length (block_bytes x index)) block ≡ block_bytes x index
block_past k m d number index ps block x sound inside at ps_are past =
    let r = file_node k.geom sound.live (drafted d m) number x sound.blocks at in
    let same : ps ≡ run_places r.0.runs = ps_are ∙ ap places_or_none r.1 in
    let none : drop (1024 * index) x.bytes ≡ [] = drop_of_length-le x.bytes (omega (arith, r.3, past, ap length same, places_needed k.geom r.0 (used_fits k.geom (drafted d m) number r.0 r.1))) in
    subst (λ bs. take (length bs) block ≡ bs) (sym (ap (take 1024) none ∙ take_all 1024 [] (omega arith))) refl
