-- A node that is written as it is spelled reads as itself, and no other node is spelled so.
use Rattle.std.proofs.Common.{◌≡◌, ℕ, ◌+◌, ◌-◌, ◌*◌, ◌≤◌, ◌==◌, ◌&&◌, if◌then◌else◌, Bool, true, List, [], ◌++◌, length, take, drop, replicate, slice_index, Some, refl, sym, subst, ap, ◌∙◌, arith, length-append, drop-drop}
use Rattle.std.proofs.Math.Seq.{drop-append_seam}
use Rattle.std.proofs.lemmas.Bool.{and_parts, and_from, leb-true}
use Rattle.std.proofs.lemmas.List.{length-replicate, replicate-append-replicate, take-replicate}
use Rattle.byteorder.specs.Numbers.{little_number-reads_back}
use Rattle.base_types.specs.declared.layout.Layout.{Layout}
use Rattle.base_types.specs.LayoutLaws.{node_size_is, few_runs}
use Rattle.base_types.specs.declared.places.Run.{Run}
use Rattle.layout_geometry.specs.Geometry.{Geometry}
use Rattle.layout_bytes.specs.declared.node.Node.{Node}
use Rattle.layout_bytes.specs.declared.node.NodeKind.{NodeKind}
use Rattle.layout_bytes.specs.declared.node.NodeKind.TheVariants.{Free, Dir, File, Snapshot}
use Rattle.layout_bytes.specs.Bytes.{field, are_zeros, has_zeros, when}
use Rattle.layout_bytes.specs.Node.{used_kind, runs_in, node_fits, spare_zeros, node_fields, node_with, node_of, kind_byte, most_runs, run_bytes, node_size, node_spelling, free_node, FitsAs, HasRoom, IsNode}
use Rattle.layout_node.proofs.Fields.{so_many_zeros}
use Rattle.layout_node.proofs.Runs.{runs_read, bytes_length}

-- a node that fits has no more runs than its layout has room for
runs_as : (g : Geometry) (n : Node) (kind : NodeKind) → FitsAs g n kind → length n.runs ≤ most_runs g.layout
runs_as g n Free fits = omega (arith, ap (λ (m : Node). length m.runs) fits)
runs_as g n Dir fits = leb-true (length n.runs) (most_runs g.layout) (and_parts _ _ (and_parts _ _ fits).1).0
runs_as g n File fits = leb-true (length n.runs) (most_runs g.layout) (and_parts _ _ (and_parts _ _ fits).1).0
runs_as g n Snapshot fits = leb-true (length n.runs) (most_runs g.layout) (and_parts _ _ (and_parts _ _ fits).1).0

pub has_few_runs : (g : Geometry) (b : List ℕ) (n : Node) → IsNode g b n → length n.runs ≤ most_runs g.layout
has_few_runs g b n is = runs_as g n n.kind is.fits

-- its spelling has the bytes of a node
pub spelling_length : (l : Layout) (n : Node) → length n.runs ≤ most_runs l → length (node_spelling l n) ≡ node_size l
spelling_length l n few =
    let zeros : List ℕ = replicate (node_size l - 32 - 8 * length n.runs) 0 in
    omega (arith, few, node_size_is l, length-append (run_bytes n.runs) zeros, bytes_length n.runs, length-replicate {A = ℕ} (node_size l - 32 - 8 * length n.runs) 0)

-- the kind that a node's first byte tells
abbrev kind_in : ℕ → NodeKind
kind_in n = if n == 1 then Dir else if n == 2 then File else if n == 3 then Snapshot else Free

kind_read : (kind : NodeKind) → kind_in (kind_byte kind) ≡ kind
kind_read Free = refl
kind_read Dir = refl
kind_read File = refl
kind_read Snapshot = refl

-- a node of fields that are each another's is that one
pub node_from : (n : Node) (kind : NodeKind) (links size : ℕ) (runs : List Run) → kind ≡ n.kind → links ≡ n.links → size ≡ n.size → runs ≡ n.runs
    → ◌≡◌ {A = Node} (record { kind = kind; links = links; size = size; runs = runs }) n
node_from n kind links size runs k l s r = rw (k, l, s, r) refl

-- the fields of a spelling
pub count_read : (l : Layout) (n : Node) → length n.runs ≤ most_runs l → field (node_spelling l n) 2 2 ≡ length n.runs
count_read l n few = little_number-reads_back 2 (length n.runs) [] (omega (arith, few, few_runs l))

runs_behind : (l : Layout) (n : Node) → length n.runs ≤ most_runs l → HasRoom n → runs_in (field (node_spelling l n) 2 2) (drop 32 (node_spelling l n)) ≡ n.runs
runs_behind l n few room =
    ap (λ c. runs_in c (drop 32 (node_spelling l n))) (count_read l n few) ∙ runs_read n.runs (replicate (node_size l - 32 - 8 * length n.runs) 0) room.runs

pub fields_read : (l : Layout) (n : Node) (kind : NodeKind) → length n.runs ≤ most_runs l → HasRoom n → kind ≡ n.kind → node_fields kind (node_spelling l n) ≡ n
fields_read l n kind few room e =
    node_from n _ _ _ _ e (little_number-reads_back 4 n.links [] room.links) (little_number-reads_back 8 n.size [] room.size) (runs_behind l n few room)

-- so bytes are the spelling of one node
pub one_node : (g : Geometry) (b : List ℕ) (m n : Node) → IsNode g b m → IsNode g b n → m ≡ n
one_node g b m n im is =
    sym (whole m im) ∙ whole n is
  where
    whole : (k : Node) → IsNode g b k → node_fields (kind_in (slice_index b 0)) b ≡ k
    whole k ik =
        ap (λ x. node_fields (kind_in (slice_index x 0)) x) ik.spelling
        ∙ fields_read g.layout k (kind_in (kind_byte k.kind)) (has_few_runs g b k ik) ik.room (kind_read k.kind)

-- the bytes of a spelling that carry nothing are zeros
runs_end : (l : Layout) (n : Node) → drop (32 + 8 * length n.runs) (node_spelling l n) ≡ replicate (node_size l - 32 - 8 * length n.runs) 0
runs_end l n =
    sym (drop-drop (8 * length n.runs) 32 (node_spelling l n))
    ∙ ap (λ k. drop k (run_bytes n.runs ++ replicate (node_size l - 32 - 8 * length n.runs) 0)) (sym (bytes_length n.runs))
    ∙ drop-append_seam (run_bytes n.runs) (replicate (node_size l - 32 - 8 * length n.runs) 0)

all_zeros : (a z : ℕ) (xs : List ℕ) → a ≡ z → xs ≡ replicate z 0 → are_zeros (take a xs) ≡ true
all_zeros a z xs e f = ap are_zeros (ap (take a) f ∙ ap (λ k. take k (replicate z 0)) e ∙ take-replicate z z 0 (omega arith)) ∙ so_many_zeros z

pub spare_read : (l : Layout) (n : Node) → length n.runs ≤ most_runs l → spare_zeros l (node_spelling l n) ≡ true
spare_read l n few =
    let b = node_spelling l n in
    and_from (slice_index b 1 == 0) (has_zeros b 16 32 && has_zeros b (32 + 8 * field b 2 2) (node_size l)) refl
    (and_from (has_zeros b 16 32) (has_zeros b (32 + 8 * field b 2 2) (node_size l)) refl
    (ap (λ c. has_zeros b (32 + 8 * c) (node_size l)) (count_read l n few)
    ∙ all_zeros (node_size l - (32 + 8 * length n.runs)) (node_size l - 32 - 8 * length n.runs) (drop (32 + 8 * length n.runs) b) (omega arith) (runs_end l n)))

-- the spelling of a node in use reads as that node
reads_as : (g : Geometry) (b : List ℕ) (n : Node) (kind : NodeKind) → spare_zeros g.layout b ≡ true → node_fields kind b ≡ n → node_fits g n ≡ true
    → when (spare_zeros g.layout b) (when (node_fits g (node_fields kind b)) (Some (node_fields kind b))) ≡ Some n
reads_as g b n kind spare fields fits =
    ap (λ (t : Bool). when t (when (node_fits g (node_fields kind b)) (Some (node_fields kind b)))) spare
    ∙ ap (λ (m : Node). when (node_fits g m) (Some m)) fields
    ∙ ap (λ (t : Bool). when t (Some n)) fits

used_read : (g : Geometry) (n : Node) (kind : NodeKind) → HasRoom n → kind ≡ n.kind → FitsAs g n kind → (kind ≡ Free → ⊥) → node_of g (node_spelling g.layout n) ≡ Some n
unfolding node_of
used_read g n Free room e fits used = absurd (used refl)
used_read g n Dir room e fits used =
    let few = runs_as g n Dir fits in
    ap (λ k. node_with g (node_spelling g.layout n) (used_kind (kind_byte k))) (sym e)
    ∙ reads_as g (node_spelling g.layout n) n Dir (spare_read g.layout n few) (fields_read g.layout n Dir few room e) fits
used_read g n File room e fits used =
    let few = runs_as g n File fits in
    ap (λ k. node_with g (node_spelling g.layout n) (used_kind (kind_byte k))) (sym e)
    ∙ reads_as g (node_spelling g.layout n) n File (spare_read g.layout n few) (fields_read g.layout n File few room e) fits
used_read g n Snapshot room e fits used =
    let few = runs_as g n Snapshot fits in
    ap (λ k. node_with g (node_spelling g.layout n) (used_kind (kind_byte k))) (sym e)
    ∙ reads_as g (node_spelling g.layout n) n Snapshot (spare_read g.layout n few) (fields_read g.layout n Snapshot few room e) fits

pub node_reads : (g : Geometry) (b : List ℕ) (n : Node) → IsNode g b n → (n.kind ≡ Free → ⊥) → node_of g b ≡ Some n
node_reads g b n is used = ap (node_of g) is.spelling ∙ used_read g n n.kind is.room refl is.fits used

-- the spelling of a free node is zeros
free_spelling : (l : Layout) → replicate (node_size l) 0 ≡ node_spelling l free_node
free_spelling l =
    ap (λ n. replicate n 0) {x = node_size l} {y = 32 + (node_size l - 32 - 8 * 0)} (omega (arith, node_size_is l))
    ∙ sym (replicate-append-replicate 32 (node_size l - 32 - 8 * 0) 0)

pub free_zeros : (g : Geometry) (b : List ℕ) (n : Node) → IsNode g b n → n.kind ≡ Free → b ≡ replicate (node_size g.layout) 0
free_zeros g b n is free =
    let nothing : n ≡ free_node = subst (FitsAs g n) free is.fits in
    is.spelling ∙ ap (node_spelling g.layout) nothing ∙ sym (free_spelling g.layout)

-- and zeros are that of the free node
pub zeros_free : (g : Geometry) → IsNode g (replicate (node_size g.layout) 0) free_node
zeros_free g = record {
  room = record { links = omega arith; size = omega arith; runs = λ k d more. absurd (omega arith) };
  fits = refl;
  spelling = free_spelling g.layout;
}
