-- The bits of the blocks that directories and snapshots have, set place by place and node by node.
use Rattle.std.proofs.Common.{◌≡◌, ◌≢◌, ◌⊎◌, inl, inr, ◌↔◌, ℕ, ◌+◌, ◌<◌, ◌≤◌, Bool, true, false, IsTrue, ◌==◌, if◌then◌else◌, List, length, slice_get, Option, None, Some, option_map, refl, sym, ap, subst, ◌∙◌, arith, ⊎_elim}
use Rattle.std.proofs.lemmas.Bool.{cases_Bool, cases_lt, eqb-true, false≢true}
use Rattle.std.proofs.lemmas.Option.{none-some, same_Some, slice_get_within}
use Rattle.base_types.specs.Runs.{run_places}
use Rattle.base_types.specs.Seal.{Blocks, blocks_of}
use Rattle.layout_bitmap.specs.Bits.{BitBecomes}
use Rattle.layout_extent.specs.Renew.{IsAmong}
use Rattle.layout_extent.specs.TidyLaws.{places_of_runs}
use Rattle.base_types.specs.Layouts.{nodes_before}
use Rattle.layout_geometry.specs.Geometry.{Geometry, table_start}
use Rattle.layout_bytes.specs.declared.node.Node.{Node}
use Rattle.layout_bytes.specs.declared.node.NodeKind.{NodeKind}
use Rattle.layout_bytes.specs.declared.node.NodeKind.TheVariants.{Dir, File, Snapshot}
use Rattle.layout_bytes.specs.Bitmap.{bit_in}
use Rattle.layout_bytes.specs.Node.{node_bytes, node_of}
use Rattle.crash_stands.specs.Files.{used_node}
use Rattle.fs_files.specs.declared.node_blocks.OpenFile.{OpenFile}
use Rattle.engine_blocks.specs.State.{State}
use Rattle.fs_files.specs.Effects.{LooksOnly}
use Rattle.fs_files.specs.Given.{node_of_file}
use Rattle.fs_check.specs.BrokenSnapshots.{IsFirm}
use Rattle.fs_check.specs.Firm.{AreFirmBelow, SetsBits}
use Rattle.fs_check.specs.Snapshots.{AreFirm}
use Rattle.fs_check.proofs.Looking.{looks_more, looks_none}
use Rattle.fs_check.proofs.sound.Meets.{bit_own, bit_stays}
use Rattle.fs_check.proofs.sound.Nodes.{used_at, used_is}

-- the number is at a place below i
pub record IsBelow (places : List ℕ) (i c : ℕ) : Type 0 where
  pub place : ℕ
  pub low : place < i
  pub at : slice_get places place ≡ Some c

-- the bits of the blocks at places below i are set
abbrev pub SetsTo : List ℕ → ℕ → Blocks → Blocks → Type 0
SetsTo places i old new = (c : ℕ) → (bit_in new c ≡ true) ↔ ((bit_in old c ≡ true) ⊎ IsBelow places i c)

pub sets_more : (places : List ℕ) (i b : ℕ) (old new newer : Blocks) → slice_get places i ≡ Some b → BitBecomes new newer b true → SetsTo places i old new → SetsTo places (i + 1) old newer
sets_more places i b old new newer at becomes so_far c = (λ is. to is (cases_Bool (c == b)), ⊎_elim (λ is. bit_stays new newer b c becomes ((so_far c).1 (inl is))) (λ is. from is (cases_lt is.place i)))
  where
    to : bit_in newer c ≡ true → ((c == b) ≡ true) ⊎ ((c == b) ≡ false) → (bit_in old c ≡ true) ⊎ IsBelow places (i + 1) c
    to is (inl same) = inr (record { place = i; low = omega arith; at = at ∙ ap (λ n. Some n) (sym (eqb-true c b same)) })
    to is (inr other) = ⊎_elim (λ old. inl old) (λ low. inr (record { place = low.place; low = let less = low.low in omega (arith, less); at = low.at }))
        ((so_far c).0 (ap (λ t. if t then true else bit_in new c) (sym other) ∙ sym (becomes c) ∙ is))

    from : (is : IsBelow places (i + 1) c) → (is.place < i) ⊎ (i ≤ is.place) → bit_in newer c ≡ true
    from is (inl less) = bit_stays new newer b c becomes ((so_far c).1 (inr (record { place = is.place; low = less; at = is.at })))
    from is (inr over) =
        let same : is.place ≡ i = let low = is.low in omega (arith, low, over) in
        bit_own new newer b c becomes (same_Some c b (sym is.at ∙ ap (slice_get places) same ∙ at))

pub sets_all : (places : List ℕ) (n : ℕ) (old new : Blocks) → length places ≤ n → SetsTo places n old new → SetsBits places old new
sets_all places n old new most so_far c = (
  λ is. ⊎_elim (λ old. inl old) (λ below. inr (below.place, below.at)) ((so_far c).0 is),
  ⊎_elim (λ is. (so_far c).1 (inl is)) (λ is. (so_far c).1 (inr (record { place = is.0; low = let low = slice_get_within places is.0 c is.1 in omega (arith, low, most); at = is.1 }))),
)

-- From node to node.

-- node k is a directory or a snapshot, and has these blocks
pub firm_more : (g : Geometry) (m : Blocks) (k : ℕ) (node : Node) (old new : Blocks) → used_node g m k ≡ Some node → node.kind ≢ File → SetsBits (run_places node.runs) old new → AreFirmBelow g m k old → AreFirmBelow g m (k + 1) new
firm_more g m k node old new used kind sets below b low = (
  λ is. ⊎_elim (λ before. let has = (below b low).0 before in let under = has.1 in (has.0, omega (arith, under)))
      (λ among. (record { number = k; place = among.0; has = record { node = node; is_node = used; place = among.1 }; kind = kind }, omega arith)) ((sets b).0 is),
  λ is. (sets b).1 (back is.0 is.1 (cases_lt is.0.number k)),
)
  where
    back : (is : IsFirm g m b) → is.number < k + 1 → (is.number < k) ⊎ (k ≤ is.number) → (bit_in old b ≡ true) ⊎ IsAmong (run_places node.runs) b
    back is less (inl under) = inl ((below b low).1 (is, under))
    back is less (inr over) =
        let same : is.number ≡ k = omega (arith, less, over) in
        let one : is.has.node ≡ node = same_Some is.has.node node (sym is.has.is_node ∙ ap (used_node g m) same ∙ used) in
        inr (is.place, subst (λ (n : Node). slice_get (run_places n.runs) is.place ≡ Some b) one is.has.place)

-- node k is none, or a file
pub firm_same : (g : Geometry) (m : Blocks) (k : ℕ) (old : Blocks) → ((node : Node) → used_node g m k ≡ Some node → node.kind ≡ File) → AreFirmBelow g m k old → AreFirmBelow g m (k + 1) old
firm_same g m k old file below b low = (
  λ is. let has = (below b low).0 is in let under = has.1 in (has.0, omega (arith, under)),
  λ is. (below b low).1 (is.0, under is.0 is.1 (cases_lt is.0.number k)),
)
  where
    under : (is : IsFirm g m b) → is.number < k + 1 → (is.number < k) ⊎ (k ≤ is.number) → is.number < k
    under is less (inl low) = low
    under is less (inr over) =
        let same : is.number ≡ k = omega (arith, less, over) in
        absurd (is.kind (file is.has.node (ap (used_node g m) (sym same) ∙ is.has.is_node)))

-- before the first node there is none
pub firm_begins : (g : Geometry) (m : Blocks) (firm : Blocks) → ((b : ℕ) → bit_in firm b ≡ false) → AreFirmBelow g m 1 firm
firm_begins g m firm clear b low = (
  λ is. absurd (false≢true (sym (clear b) ∙ is)),
  λ is. absurd (let from = (used_is g m is.0.number is.0.has.node is.0.has.is_node).from in let under = is.1 in omega (arith, from, under)),
)

-- The node that was read from these bytes of the table.

pub node_read : (g : Geometry) (m : Blocks) (k : ℕ) (bytes : List ℕ) (o : Option OpenFile) → 1 ≤ k → k ≤ g.i → bytes ≡ node_bytes g m k → option_map (node_of_file g.layout) o ≡ node_of g bytes → used_node g m k ≡ option_map (node_of_file g.layout) o
node_read g m k bytes o from upto is read = used_at g m k from upto ∙ sym (ap (node_of g) is) ∙ sym read

pub dir_no_file : (kind : NodeKind) → kind ≡ Dir → kind ≢ File
dir_no_file kind is = λ other. let both : Dir ≡ File = sym is ∙ other in cc

pub snapshot_no_file : (kind : NodeKind) → kind ≡ Snapshot → kind ≢ File
snapshot_no_file kind is = λ other. let both : Snapshot ≡ File = sym is ∙ other in cc

-- it is a directory or a snapshot, and its bits were set
pub firm_read : (g : Geometry) (m : Blocks) (k : ℕ) (bytes : List ℕ) (o : Option OpenFile) (file : OpenFile) (old new : Blocks) → 1 ≤ k → k ≤ g.i → bytes ≡ node_bytes g m k → option_map (node_of_file g.layout) o ≡ node_of g bytes → o ≡ Some file
    → file.facts.kind ≢ File → SetsBits file.blocks old new → AreFirmBelow g m k old → AreFirmBelow g m (k + 1) new
firm_read g m k bytes o file old new from upto is read there kind sets below =
    firm_more g m k (node_of_file g.layout file) old new (node_read g m k bytes o from upto is read ∙ ap (option_map (node_of_file g.layout)) there) kind
    (subst (λ places. SetsBits places old new) (sym (places_of_runs file.blocks)) sets) below

-- it is a file
pub firm_file : (g : Geometry) (m : Blocks) (k : ℕ) (bytes : List ℕ) (o : Option OpenFile) (file : OpenFile) (old : Blocks) → 1 ≤ k → k ≤ g.i → bytes ≡ node_bytes g m k → option_map (node_of_file g.layout) o ≡ node_of g bytes → o ≡ Some file
    → file.facts.kind ≡ File → AreFirmBelow g m k old → AreFirmBelow g m (k + 1) old
firm_file g m k bytes o file old from upto is read there kind below =
    firm_same g m k old (λ node used.
    ap (λ (n : Node). n.kind) (same_Some node (node_of_file g.layout file) (sym used ∙ node_read g m k bytes o from upto is read ∙ ap (option_map (node_of_file g.layout)) there)) ∙ kind) below

-- there is none
pub firm_none : (g : Geometry) (m : Blocks) (k : ℕ) (bytes : List ℕ) (o : Option OpenFile) (old : Blocks) → 1 ≤ k → k ≤ g.i → bytes ≡ node_bytes g m k → option_map (node_of_file g.layout) o ≡ node_of g bytes → o ≡ None → AreFirmBelow g m k old → AreFirmBelow g m (k + 1) old
firm_none g m k bytes o old from upto is read there below =
    firm_same g m k old (λ node used. absurd (none-some node (sym (node_read g m k bytes o from upto is read ∙ ap (option_map (node_of_file g.layout)) there) ∙ used))) below

-- From block to block of the table.

-- the bits are set of the nodes in its first places
pub record SetsNodes (g : Geometry) (t : ℕ) (table : List ℕ) (old new : List (List ℕ)) (at : ℕ) : Type 0 where
  pub size : length new ≡ length old
  pub firm : (m : Blocks) → table ≡ m (table_start g + t) → AreFirmBelow g m (nodes_before g.layout t + 1) (blocks_of old) → AreFirmBelow g m at (blocks_of new)

pub nodes_begin : (g : Geometry) (t at : ℕ) (table : List ℕ) (old : List (List ℕ)) → nodes_before g.layout t + 1 ≡ at → SetsNodes g t table old old at
nodes_begin g t at table old same = record { size = refl; firm = λ m is below. subst (λ k. AreFirmBelow g m k (blocks_of old)) same below }

pub nodes_more : (g : Geometry) (t at here later next : ℕ) (table bytes : List ℕ) (old new newer : List (List ℕ)) → at ≡ here → later ≡ next → SetsNodes g t table old new at → length newer ≡ length new
    → ((m : Blocks) → table ≡ m (table_start g + t) → bytes ≡ node_bytes g m here) → ((m : Blocks) → bytes ≡ node_bytes g m here → AreFirmBelow g m here (blocks_of new) → AreFirmBelow g m later (blocks_of newer)) → SetsNodes g t table old newer next
nodes_more g t at here later next table bytes old new newer same on so_far size read step = record {
  size = size ∙ so_far.size;
  firm = λ m is below. subst (λ k. AreFirmBelow g m k (blocks_of newer)) on (step m (read m is) (subst (λ k. AreFirmBelow g m k (blocks_of new)) same (so_far.firm m is below)));
}

-- blocks of the table were read, and the bits are set of the nodes below `at`
pub record SetsFirm (tells : Bool) (g : Geometry) (s t : State) (old new : List (List ℕ)) (at : ℕ) : Type 0 where
  pub looks : LooksOnly tells false s t
  pub size : length new ≡ length old
  pub firm : IsTrue tells → AreFirmBelow g s.map at (blocks_of new)

pub table_begins : (tells : Bool) (g : Geometry) (s : State) (old : List (List ℕ)) → ((b : ℕ) → bit_in (blocks_of old) b ≡ false) → SetsFirm tells g s s old old 1
table_begins tells g s old clear = record { looks = looks_none tells s; size = refl; firm = λ told. firm_begins g s.map (blocks_of old) clear }

pub table_more : (tells : Bool) (g : Geometry) (s t u : State) (old new newer : List (List ℕ)) (table : List ℕ) (k at here later next : ℕ) → at ≡ here → later ≡ next → SetsFirm tells g s t old new at → LooksOnly tells false t u → length newer ≡ length new
    → (IsTrue tells → table ≡ t.map (table_start g + k)) → ((m : Blocks) → table ≡ m (table_start g + k) → AreFirmBelow g m here (blocks_of new) → AreFirmBelow g m later (blocks_of newer)) → SetsFirm tells g s u old newer next
table_more tells g s t u old new newer table k at here later next same on so_far looks size read step = record {
  looks = looks_more tells false s t u so_far.looks looks;
  size = size ∙ so_far.size;
  firm = λ told. subst (λ j. AreFirmBelow g s.map j (blocks_of newer)) on (step s.map (read told ∙ ap (λ (m : Blocks). m (table_start g + k)) (so_far.looks.map told)) (subst (λ j. AreFirmBelow g s.map j (blocks_of new)) same (so_far.firm told)));
}

-- all nodes were gone through
pub firm_ends : (g : Geometry) (m : Blocks) (at : ℕ) (firm : List (List ℕ)) → g.i < at → AreFirmBelow g m at (blocks_of firm) → AreFirm g m firm
firm_ends g m at firm all below b low = (
  λ is. ((below b low).0 is).0,
  λ is. (below b low).1 (is, let upto = (used_is g m is.number is.has.node is.has.is_node).upto in omega (arith, upto, all)),
)
