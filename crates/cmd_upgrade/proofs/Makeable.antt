-- A tree that blocks stand for has files and names that can be made anew: its files have no more bytes and paths than files may have, and its names at most 255 bytes.
use Rattle.std.proofs.Common.{◌≡◌, ◌⊎◌, inl, inr, ℕ, zero, suc, ◌+◌, ◌≤◌, ◌==◌, ◌&&◌, Bool, true, false, true≢false, List, [], ◌∷◌, length, take, drop, bytes_eq, Option, Some, None, refl, sym, ap, ◌∙◌, subst, arith, nat_le, nat_lt, if◌then◌else◌, length-take}
use Rattle.std.specs.Prelude.{option_map, option_and_then, slice_index}
use Rattle.std.specs.List.{All}
use Rattle.std.specs.FinMap.{get}
use Rattle.std.proofs.lemmas.Bool.{and_parts, leb-true}
use Rattle.std.proofs.lemmas.Option.{same_Some, none-some}
use Rattle.std.proofs.lemmas.Slice.Eq.{bytes_eq-Decides}
use Rattle.base_types.specs.declared.layout.Layout.{Layout}
use Rattle.base_types.specs.declared.layout.Layout.TheVariants.{One, Two}
use Rattle.base_types.specs.Layouts.{longest_name, slot_place, slots_held}
use Rattle.base_types.specs.Name.{is_name}
use Rattle.base_types.specs.Runs.{run_places}
use Rattle.base_types.specs.Seal.{Blocks}
use Rattle.layout_geometry.specs.Geometry.{Geometry}
use Rattle.layout_bytes.specs.declared.node.Node.{Node}
use Rattle.layout_bytes.specs.declared.node.NodeKind.{NodeKind}
use Rattle.layout_bytes.specs.declared.node.NodeKind.TheVariants as kinds
use Rattle.layout_bytes.specs.declared.slot.Slot.{Slot}
use Rattle.layout_bytes.specs.Bytes.{field, has_zeros, when}
use Rattle.layout_bytes.specs.Node.{content_blocks, content_of, most_runs, run_blocks, runs_fit, kind_fits, node_at, node_bytes, node_fields, node_fits, node_of, node_with, spare_zeros, used_kind}
use Rattle.layout_bytes.specs.Slot.{name_in, slot_of, slot_size, slots_at, slots_in, then_slot}
use Rattle.lang_tree.specs.Names.{path_count}
use Rattle.lang_tree.specs.Tree.{Dir, File, HasSmallFiles, IsSound, Names, Thing, Tree}
use Rattle.crash_stands.specs.Files.{FileNode, content, file_of, files_of, joined, used_node}
use Rattle.crash_stands.specs.Inodes.{ADir, AFile, AreInodesOf, Inode, Inodes, IsInodeOf, inode_by, inode_of, thing_of}
use Rattle.crash_stands.specs.Maps.{IsMapOf}
use Rattle.crash_stands.specs.Stands.{IsTreeOf}
use Rattle.crash_stands.specs.Walks.{entries_of, entry_in, node_in, walk}

when_some : {A : Type 0} (b : Bool) (o : Option A) (x : A) → when b o ≡ Some x → (b ≡ true) × (o ≡ Some x)
when_some true o x e = (refl, e)
when_some false o x e = absurd (none-some x e)

all_cons : (x : List ℕ) (xs : List (List ℕ)) → length x ≤ 255 → All (λ name. length name ≤ 255) xs → All (λ name. length name ≤ 255) (x ∷ xs)
all_cons x xs one all zero d lt = one
all_cons x xs one all (suc k) d lt = all k d (omega (arith, lt))

-- Slots.

-- the name of each slot has at most 255 bytes
abbrev AreShort : List Slot → Type 0
AreShort [] = Unit {0}
AreShort (s ∷ slots) = (length s.name ≤ 255) × AreShort slots

longest : (l : Layout) → longest_name l ≤ 255
longest One = omega arith
longest Two = omega arith

short_slot : (l : Layout) (b : List ℕ) (s : Slot) → slot_of l b ≡ Some s → length s.name ≤ 255
unfolding slot_of
short_slot l b s is =
    let p = when_some (nat_le (slice_index b 4) (longest_name l) && (is_name (name_in b) && has_zeros b (5 + slice_index b 4) (slot_size l))) (Some (record { node = field b 0 4; name = name_in b })) s is in
    let q = and_parts (nat_le (slice_index b 4) (longest_name l)) (is_name (name_in b) && has_zeros b (5 + slice_index b 4) (slot_size l)) p.0 in
    let name : name_in b ≡ s.name = ap (λ (x : Slot). x.name) (same_Some (record { node = field b 0 4; name = name_in b }) s p.1) in
    subst (λ (xs : List ℕ). length xs ≤ 255) name (omega (arith, length-take (slice_index b 4) (drop 5 b), leb-true (slice_index b 4) (longest_name l) q.0, longest l))

short_all : (l : Layout) (from n : ℕ) (b : List ℕ) (slots : List Slot) → slots_at l from n b ≡ Some slots → AreShort slots
short_all l from zero b slots is = subst AreShort (same_Some [] slots is) tt
short_all l from (suc n) b slots is =
    by (slot_of l (take (slot_size l) (drop (slot_place l from) b))) refl (slots_at l (from + 1) n b) refl
    (when_some (has_zeros b (slot_place l from + slot_size l) (slot_place l (from + 1)))
    (then_slot (slot_of l (take (slot_size l) (drop (slot_place l from) b))) (slots_at l (from + 1) n b)) slots is).1 (λ others. short_all l (from + 1) n b others)
  where
    by : (o : Option Slot) → slot_of l (take (slot_size l) (drop (slot_place l from) b)) ≡ o → (os : Option (List Slot)) → slots_at l (from + 1) n b ≡ os → then_slot o os ≡ Some slots
        → ((others : List Slot) → slots_at l (from + 1) n b ≡ Some others → AreShort others) → AreShort slots
    by None e os f h later = absurd (none-some slots h)
    by (Some s) e None f h later = absurd (none-some slots h)
    by (Some s) e (Some others) f h later = subst AreShort (same_Some (s ∷ others) slots h) (short_slot l (take (slot_size l) (drop (slot_place l from) b)) s e, later others f)

short_slots : (l : Layout) (kind : NodeKind) (links : ℕ) (bytes : List ℕ) (slots : List Slot) → inode_by l kind links bytes ≡ Some (ADir slots) → AreShort slots
short_slots l kinds.Free links bytes slots is = absurd (none-some (ADir slots) is)
short_slots l kinds.Snapshot links bytes slots is = absurd (none-some (ADir slots) is)
short_slots l kinds.File links bytes slots is = let same = same_Some (AFile links bytes) (ADir slots) is in absurd cc
short_slots l kinds.Dir links bytes slots is = by (slots_in l (slots_held l (length bytes)) bytes) refl (when_some (links == 1) (option_map ADir (slots_in l (slots_held l (length bytes)) bytes)) (ADir slots) is).1
  where
    by : (o : Option (List Slot)) → slots_in l (slots_held l (length bytes)) bytes ≡ o → option_map ADir o ≡ Some (ADir slots) → AreShort slots
    by None e h = absurd (none-some (ADir slots) h)
    by (Some xs) e h =
        let same = same_Some (ADir xs) (ADir slots) h in
        let one : xs ≡ slots = cc in
        subst AreShort one (short_all l 0 (slots_held l (length bytes)) bytes xs e)

short_in : (slots : List Slot) (name : List ℕ) (j : ℕ) → AreShort slots → node_in slots name ≡ Some j → length name ≤ 255
short_in [] name j all is = absurd (none-some j is)
short_in (s ∷ slots) name j all is = by (bytes_eq s.name name) refl is (short_in slots name j all.1)
  where
    by : (b : Bool) → bytes_eq s.name name ≡ b → (if b then Some s.node else node_in slots name) ≡ Some j → (node_in slots name ≡ Some j → length name ≤ 255) → length name ≤ 255
    by true e h later = subst (λ (xs : List ℕ). length xs ≤ 255) ((bytes_eq-Decides s.name name).0 e) all.0
    by false e h later = later h

-- Nodes.

fits : (g : Geometry) (b : List ℕ) (node : Node) → node_of g b ≡ Some node → node_fits g node ≡ true
unfolding node_of
fits g b node is = by (used_kind (slice_index b 0)) is
  where
    by : (k : Option NodeKind) → node_with g b k ≡ Some node → node_fits g node ≡ true
    by None e = absurd (none-some node e)
    by (Some kind) e =
        let p = when_some (spare_zeros g.layout b) (when (node_fits g (node_fields kind b)) (Some (node_fields kind b))) node e in
        let q = when_some (node_fits g (node_fields kind b)) (Some (node_fields kind b)) node p.1 in
        subst (λ (x : Node). node_fits g x ≡ true) (same_Some (node_fields kind b) node q.1) q.0

kind_fits_in : (g : Geometry) (node : Node) → node_fits g node ≡ true → kind_fits node node.kind ≡ true
kind_fits_in g node f =
    let fits : Bool = kind_fits node node.kind in
    let count : Bool = run_blocks node.runs == content_blocks g.layout node.kind node.size in
    let p = and_parts (nat_lt 0 node.links) (nat_le (length node.runs) (most_runs g.layout) && (runs_fit g 0 node.runs && (count && fits))) f in
    let q = and_parts (nat_le (length node.runs) (most_runs g.layout)) (runs_fit g 0 node.runs && (count && fits)) p.1 in
    let r = and_parts (runs_fit g 0 node.runs) (count && fits) q.1 in
    (and_parts count fits r.1).1

-- what is known of a node's bytes and links where it is a file
abbrev IsSmall : ℕ → List ℕ → Type 0
IsSmall links bytes = (links ≤ 65535) × (length bytes ≤ 1073741824)

small_node : (g : Geometry) (m : Blocks) (node : Node) → node_fits g node ≡ true → (kind : NodeKind) → node.kind ≡ kind → (links : ℕ) (bytes : List ℕ)
    → inode_by g.layout kind node.links (content g.layout m node) ≡ Some (AFile links bytes) → IsSmall links bytes
small_node g m node f kinds.Free e links bytes is = absurd (none-some (AFile links bytes) is)
small_node g m node f kinds.Snapshot e links bytes is = absurd (none-some (AFile links bytes) is)
small_node g m node f kinds.Dir e links bytes is =
    by (slots_in g.layout (slots_held g.layout (length (content g.layout m node))) (content g.layout m node)) (when_some (node.links == 1) (option_map ADir (slots_in g.layout (slots_held g.layout (length (content g.layout m node))) (content g.layout m node))) (AFile links bytes) is).1
  where
    by : (o : Option (List Slot)) → option_map ADir o ≡ Some (AFile links bytes) → IsSmall links bytes
    by None h = absurd (none-some (AFile links bytes) h)
    by (Some slots) h = let same = same_Some (ADir slots) (AFile links bytes) h in absurd cc
small_node g m node f kinds.File e links bytes is =
    let k : kind_fits node kinds.File ≡ true = subst (λ (k : NodeKind). kind_fits node k ≡ true) e (kind_fits_in g node f) in
    let p = and_parts (nat_le node.links 65535) (nat_le node.size 1073741824) k in
    let same : AFile node.links (content g.layout m node) ≡ AFile links bytes = same_Some (AFile node.links (content g.layout m node)) (AFile links bytes) is in
    let one : node.links ≡ links = cc in
    let two : content g.layout m node ≡ bytes = cc in (
      subst (λ (n : ℕ). n ≤ 65535) one (leb-true node.links 65535 p.0),
      subst (λ (xs : List ℕ). length xs ≤ 1073741824) two (small_content (leb-true node.size 1073741824 p.1)),
    )
  where
    small_content : node.size ≤ 1073741824 → length (content g.layout m node) ≤ 1073741824
    small_content h = subst (λ (k : NodeKind). length (take (content_of g.layout k node.size) (joined m (run_places node.runs))) ≤ 1073741824) (sym e)
        (omega (arith, h, length-take node.size (joined m (run_places node.runs))))

-- the node of a number that has a file node
record HasNode (g : Geometry) (m : Blocks) (k : ℕ) (file : FileNode) : Type 0 where
  node : Node
  fits : node_fits g node ≡ true
  is : file ≡ file_of g.layout m node

node_for : (g : Geometry) (m : Blocks) (k : ℕ) (file : FileNode) → files_of g m k ≡ Some file → HasNode g m k file
node_for g m k file is = by (used_node g m k) refl is
  where
    by : (o : Option Node) → used_node g m k ≡ o → option_map (file_of g.layout m) o ≡ Some file → HasNode g m k file
    by None e h = absurd (none-some file h)
    by (Some node) e h = record { node = node; fits = fits g (node_bytes g m k) node (when_some (nat_le 1 k && nat_le k g.i) (node_at g m k) node e).1; is = sym (same_Some (file_of g.layout m node) file h) }

-- What the inodes of such blocks have.

module _ (g : Geometry) (m : Blocks) (inodes : Inodes) (read : AreInodesOf g.layout (files_of g m) inodes) where
  -- each is that of a file node
  of_node : (k : ℕ) (x : Inode) → inodes k ≡ Some x → (file : FileNode) × (files_of g m k ≡ Some file) × (inode_of g.layout file ≡ Some x)
  of_node k x is = by (files_of g m k) refl (inodes k) is (read k)
    where
      by : (o : Option FileNode) → files_of g m k ≡ o → (i : Option Inode) → i ≡ Some x → IsInodeOf g.layout o i → (file : FileNode) × (files_of g m k ≡ Some file) × (inode_of g.layout file ≡ Some x)
      by None e i is h = absurd (none-some x (sym h ∙ is))
      by (Some file) e None is h = absurd (none-some x is)
      by (Some file) e (Some y) is h = (file, e, h ∙ is)

  small : (k links : ℕ) (bytes : List ℕ) → inodes k ≡ Some (AFile links bytes) → IsSmall links bytes
  small k links bytes is =
      let f = of_node k (AFile links bytes) is in
      let n = node_for g m k f.0 f.1 in
      small_node g m n.node n.fits n.node.kind refl links bytes (subst (λ (x : FileNode). inode_of g.layout x ≡ Some (AFile links bytes)) n.is f.2)

  short : (k : ℕ) (slots : List Slot) → inodes k ≡ Some (ADir slots) → AreShort slots
  short k slots is =
      let f = of_node k (ADir slots) is in
      short_slots g.layout f.0.kind f.0.links f.0.bytes slots f.2

  short_name : (k j : ℕ) (name : List ℕ) → entries_of inodes k name ≡ Some j → length name ≤ 255
  short_name k j name is = by (inodes k) refl is
    where
      by : (o : Option Inode) → inodes k ≡ o → entry_in o name ≡ Some j → length name ≤ 255
      by None e h = absurd (none-some j h)
      by (Some (AFile links bytes)) e h = absurd (none-some j h)
      by (Some (ADir slots)) e h = short_in slots name j (short k slots e) h

  short_path : (p : List (List ℕ)) (k n : ℕ) → walk (entries_of inodes) k p ≡ Some n → All (λ name. length name ≤ 255) p
  short_path [] k n is = λ i d lt. absurd (omega (arith, lt))
  short_path (name ∷ p) k n is = by (entries_of inodes k name) refl is (λ j. short_path p j n)
    where
      by : (o : Option ℕ) → entries_of inodes k name ≡ o → option_and_then (λ j. walk (entries_of inodes) j p) o ≡ Some n
          → ((j : ℕ) → walk (entries_of inodes) j p ≡ Some n → All (λ name. length name ≤ 255) p) → All (λ name. length name ≤ 255) (name ∷ p)
      by None e h later = absurd (none-some n h)
      by (Some j) e h later = all_cons name p (short_name k j name e) (later j h)

module _ (g : Geometry) (m : Blocks) (t : Tree) (h : IsTreeOf g m t) where
  -- no file has more than 2^30 bytes
  pub small_files : HasSmallFiles t.nodes
  small_files n bytes is = by (h.inodes n) refl (sym (h.map.shows.nodes n) ∙ is)
    where
      by : (o : Option Inode) → h.inodes n ≡ o → option_map thing_of o ≡ Some (File bytes) → length bytes ≤ 1073741824
      by None e s = absurd (none-some (File bytes) s)
      by (Some (ADir slots)) e s = let same = same_Some Dir (File bytes) s in absurd cc
      by (Some (AFile links xs)) e s =
          let same = same_Some (File xs) (File bytes) s in
          let one : xs ≡ bytes = cc in
          subst (λ (b : List ℕ). length b ≤ 1073741824) one (small g m h.inodes h.read n links xs e).1

  -- no name has more than 255 bytes
  pub short_names : (p : List (List ℕ)) (n : ℕ) → get t.names p ≡ Some n → All (λ name. length name ≤ 255) p
  short_names p n at = short_path g m h.inodes h.read p 1 n (sym (h.map.shows.names p) ∙ at)

  -- no file has more than 65,535 paths, and a directory has one
  module _ (sound : IsSound g.i t) (found : (names : Names) (n : ℕ) → 1 ≤ path_count names n → (p : List (List ℕ)) × (get names p ≡ Some n))
      (directory : (limit : ℕ) (t : Tree) (p : List (List ℕ)) (n : ℕ) → IsSound limit t → get t.names p ≡ Some n → get t.nodes n ≡ Some Dir → path_count t.names n ≡ 1) where
    pub few_paths : (n : ℕ) → path_count t.names n ≤ 65535
    few_paths n = by (path_count t.names n) refl
      where
        of : (o : Option Inode) → h.inodes n ≡ o → (p : List (List ℕ)) → get t.names p ≡ Some n → path_count t.names n ≤ 65535
        of None e p at = let x = h.map.shows.used p n (sym (h.map.shows.names p) ∙ at) in absurd (none-some x.0 (sym e ∙ x.1))
        of (Some (AFile links bytes)) e p at = omega (arith, h.map.shows.links n links bytes e, (small g m h.inodes h.read n links bytes e).0)
        of (Some (ADir slots)) e p at = omega (arith, directory g.i t p n sound at (h.map.shows.nodes n ∙ ap (option_map thing_of) e))

        by : (c : ℕ) → path_count t.names n ≡ c → path_count t.names n ≤ 65535
        by zero e = omega (arith, e)
        by (suc c) e = let p = found t.names n (omega (arith, e)) in of (h.inodes n) refl p.0 p.1
