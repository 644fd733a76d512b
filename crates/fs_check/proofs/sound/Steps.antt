-- A check goes on from node to node.
use Rattle.std.proofs.Common.{◌≡◌, ◌≢◌, ◌⊎◌, inl, inr, ℕ, ◌+◌, ◌<◌, ◌≤◌, Bool, true, false, IsTrue, List, length, take, drop, replicate, get_or, None, Some, refl, sym, ap, ap₂, subst, ◌∙◌, arith, Err}
use Rattle.std.specs.List.{All}
use Rattle.std.proofs.lemmas.Bool.{cases_lt}
use Rattle.std.proofs.lemmas.Option.{none-some, same_Some, slice_get-get_or}
use Rattle.base_types.specs.Runs.{run_places}
use Rattle.base_types.specs.Seal.{Blocks, blocks_of}
use Rattle.engine_blocks.specs.State.{State}
use Rattle.base_types.specs.Layouts.{node_block, node_byte, node_size, nodes_before, nodes_in_block, rank_byte}
use Rattle.base_types.specs.LayoutLaws.{block_of_rank, byte_of_rank}
use Rattle.layout_geometry.specs.Geometry.{Geometry, table_start}
use Rattle.layout_bytes.specs.declared.node.Node.{Node}
use Rattle.layout_bytes.specs.declared.node.NodeKind.TheVariants.{Dir, Snapshot}
use Rattle.layout_bytes.specs.Bitmap.{bit_in, is_set}
use Rattle.layout_bytes.specs.Bytes.{are_zeros}
use Rattle.layout_bytes.specs.Node.{content_of, node_at, node_bytes}
use Rattle.crash_stands.specs.Files.{joined, used_node, past_content}
use Rattle.fs_check.specs.declared.block_damage.BlockDamage.TheVariants.{WrongBit, BadNode, Unmarked, Shared, Tail, Lost}
use Rattle.fs_check.specs.declared.block_damage.BlocksRefusal.{BlocksRefusal}
use Rattle.fs_check.specs.declared.block_damage.BlocksRefusal.TheVariants as refusal
use Rattle.fs_check.specs.Broken.{IsBroken}
use Rattle.fs_check.specs.Calls.{IfDamaged}
use Rattle.fs_files.specs.Effects.{LooksOnly}
use Rattle.fs_check.specs.Meeting.{AreBits, HasMet, HasPlaces, IsCheckedTo, IsTailOf}
use Rattle.fs_files.specs.Places.{looks_more}
use Rattle.fs_check.proofs.sound.Meets.{at_place, meet_all, meet_begins, meet_none}
use Rattle.fs_check.proofs.sound.Nodes.{used_at, used_is}

-- One node.

-- the bit of each block of node k is set once they were met
pub all_marked : (g : Geometry) (m : Blocks) (k : ℕ) (places : List ℕ) (met : Blocks) → HasPlaces g m k places → HasMet g m k (length places) met → All (λ b. is_set g m b ≡ true) places
all_marked g m k places met node so_far = λ i d low.
    so_far.marked k i (get_or places i d) (inr (refl, low)) (at_place g m k i (get_or places i d) places node (slice_get-get_or places i d low))

-- a node in use, whose blocks were met and whose tail is zeros if it is a directory
pub used_step : (g : Geometry) (m : Blocks) (bits met new : List (List ℕ)) (found after : Bool) (k : ℕ) (node : Node) (places : List ℕ) → used_node g m k ≡ Some node → places ≡ run_places node.runs → IsCheckedTo g m bits met found k
    → HasMet g m k (length places) (blocks_of new) → (node.kind ≡ Dir → IsTrue (are_zeros (drop (content_of g.layout node.kind node.size) (joined m places)))) → (after ≡ false → found ≡ false) → (after ≡ false → node.kind ≢ Snapshot) → IsCheckedTo g m bits new after (k + 1)
used_step g m bits met new found after k node places used are checked so_far tail before plain = record {
  are = checked.are;
  plain = λ none l other low is_node. plains none l other is_node (cases_lt l k) low;
  sound = record {
    blocks = meet_all g m (blocks_of new) k places (record { node = node; is_node = used; places = sym are }) so_far;
    free = λ l from low none. free l from low none (cases_lt l k);
    tail = λ l other low is_node is_dir. tails l other low is_node is_dir (cases_lt l k);
  };
}
  where
    plains : after ≡ false → (l : ℕ) (other : Node) → used_node g m l ≡ Some other → (l < k) ⊎ (k ≤ l) → l < k + 1 → other.kind ≢ Snapshot
    plains none l other is_node (inl under) low = checked.plain (before none) l other under is_node
    plains none l other is_node (inr over) low =
        let same : l ≡ k = omega (arith, low, over) in
        let one : node ≡ other = same_Some node other (sym used ∙ ap (used_node g m) (sym same) ∙ is_node) in
        subst (λ (n : Node). n.kind ≢ Snapshot) one (plain none)

    free : (l : ℕ) → 1 ≤ l → l < k + 1 → node_at g m l ≡ None → (l < k) ⊎ (k ≤ l) → node_bytes g m l ≡ replicate (node_size g.layout) 0
    free l from low none (inl under) = checked.sound.free l from under none
    free l from low none (inr over) =
        let same : l ≡ k = omega (arith, low, over) in
        absurd (none-some node (sym none ∙ ap (node_at g m) same ∙ (used_is g m k node used).read))

    tails : (l : ℕ) (other : Node) → l < k + 1 → used_node g m l ≡ Some other → other.kind ≡ Dir → (l < k) ⊎ (k ≤ l) → IsTrue (are_zeros (past_content g.layout m other))
    tails l other low is_node is_dir (inl under) = checked.sound.tail l other under is_node is_dir
    tails l other low is_node is_dir (inr over) =
        let same : l ≡ k = omega (arith, low, over) in
        let one : node ≡ other = same_Some node other (sym used ∙ ap (used_node g m) (sym same) ∙ is_node) in
        let zeros : IsTrue (are_zeros (drop (content_of g.layout node.kind node.size) (joined m (run_places node.runs)))) = subst (λ ps. IsTrue (are_zeros (drop (content_of g.layout node.kind node.size) (joined m ps)))) are (tail (ap (λ (n : Node). n.kind) one ∙ is_dir)) in
        subst (λ (n : Node). IsTrue (are_zeros (past_content g.layout m n))) one zeros

-- a node out of use, which is zeros
pub free_step : (g : Geometry) (m : Blocks) (bits met : List (List ℕ)) (found : Bool) (k : ℕ) → 1 ≤ k → k ≤ g.i → node_at g m k ≡ None → node_bytes g m k ≡ replicate (node_size g.layout) 0 → IsCheckedTo g m bits met found k → IsCheckedTo g m bits met found (k + 1)
free_step g m bits met found k from upto none zeros checked = record {
  are = checked.are;
  plain = λ is l other low is_node. plains is l other is_node (cases_lt l k) low;
  sound = record {
    blocks = meet_none g m (blocks_of met) k (used_at g m k from upto ∙ none) checked.sound.blocks;
    free = λ l low high unread. free l low high unread (cases_lt l k);
    tail = λ l other low is_node is_dir. tails l other low is_node is_dir (cases_lt l k);
  };
}
  where
    plains : found ≡ false → (l : ℕ) (other : Node) → used_node g m l ≡ Some other → (l < k) ⊎ (k ≤ l) → l < k + 1 → other.kind ≢ Snapshot
    plains is l other is_node (inl under) low = checked.plain is l other under is_node
    plains is l other is_node (inr over) low =
        let same : l ≡ k = omega (arith, low, over) in
        absurd (none-some other (sym (used_at g m k from upto ∙ none) ∙ ap (used_node g m) (sym same) ∙ is_node))

    free : (l : ℕ) → 1 ≤ l → l < k + 1 → node_at g m l ≡ None → (l < k) ⊎ (k ≤ l) → node_bytes g m l ≡ replicate (node_size g.layout) 0
    free l low high unread (inl under) = checked.sound.free l low under unread
    free l low high unread (inr over) = let same : l ≡ k = omega (arith, high, over) in ap (node_bytes g m) same ∙ zeros

    tails : (l : ℕ) (other : Node) → l < k + 1 → used_node g m l ≡ Some other → other.kind ≡ Dir → (l < k) ⊎ (k ≤ l) → IsTrue (are_zeros (past_content g.layout m other))
    tails l other low is_node is_dir (inl under) = checked.sound.tail l other under is_node is_dir
    tails l other low is_node is_dir (inr over) =
        let same : l ≡ k = omega (arith, low, over) in
        absurd (none-some other (sym (used_at g m k from upto ∙ none) ∙ ap (used_node g m) (sym same) ∙ is_node))

-- what is broken where the tail isn't zeros
pub tail_broken : (g : Geometry) (m : Blocks) (k : ℕ) (node : Node) (places : List ℕ) (why : BlocksRefusal) → used_node g m k ≡ Some node → places ≡ run_places node.runs
    → IfDamaged {T = Unit {0}} (Err why) (IsTailOf k node.kind (drop (content_of g.layout node.kind node.size) (joined m places))) → IfDamaged {T = Unit {0}} (Err why) (IsBroken g m)
tail_broken g m k node places refusal.ReadFault used are is = tt
tail_broken g m k node places refusal.NoMemory used are is = tt
tail_broken g m k node places (refusal.Damaged (WrongBit c)) used are is = absurd is
tail_broken g m k node places (refusal.Damaged (BadNode l)) used are is = absurd is
tail_broken g m k node places (refusal.Damaged (Unmarked l c)) used are is = absurd is
tail_broken g m k node places (refusal.Damaged (Shared l c)) used are is = absurd is
tail_broken g m k node places (refusal.Damaged (Tail l)) used are is = record {
  node = node;
  is_node = ap (used_node g m) is.0 ∙ used;
  is_dir = is.1;
  carries = subst (λ ps. are_zeros (drop (content_of g.layout node.kind node.size) (joined m ps)) ≡ false) are is.2;
}
tail_broken g m k node places (refusal.Damaged (Lost c)) used are is = absurd is

-- Many nodes.

-- what a check knows in the midst of its way
pub record Goes (P : Type 0) (tells : Bool) (g : Geometry) (s t : State) (bits met new : List (List ℕ)) (found after : Bool) (from at : ℕ) : Type 0 where
  pub looks : LooksOnly tells false s t
  pub size : length new ≡ length met
  pub sound : P → IsCheckedTo g s.map bits met found from → IsCheckedTo g s.map bits new after at

-- the map is the same in the midst
pub goes_here : (tells : Bool) (g : Geometry) (s t : State) (bits new : List (List ℕ)) (after : Bool) (at here : ℕ) → LooksOnly tells false s t → at ≡ here → IsTrue tells → IsCheckedTo g s.map bits new after at → IsCheckedTo g t.map bits new after here
goes_here tells g s t bits new after at here looks same told checked =
    subst (λ (m : Blocks). IsCheckedTo g m bits new after here) (sym (looks.map told)) (subst (IsCheckedTo g s.map bits new after) same checked)

pub goes_more : (P : Type 0) (tells : Bool) (g : Geometry) (s t u : State) (bits met new newer : List (List ℕ)) (found after later : Bool) (from at here then next : ℕ) → (P → IsTrue tells) → at ≡ here → then ≡ next → Goes P tells g s t bits met new found after from at
    → LooksOnly tells false t u → length newer ≡ length new → (P → IsCheckedTo g t.map bits new after here → IsCheckedTo g t.map bits newer later then) → Goes P tells g s u bits met newer found later from next
goes_more P tells g s t u bits met new newer found after later from at here then next told same on goes looks size step = record {
  looks = looks_more tells false s t u goes.looks looks;
  size = size ∙ goes.size;
  sound = λ p checked. subst (IsCheckedTo g s.map bits newer later) on (subst (λ (m : Blocks). IsCheckedTo g m bits newer later then) (goes.looks.map (told p))
      (step p (goes_here tells g s t bits new after at here goes.looks same (told p) (goes.sound p checked))));
}

pub goes_broken : (P : Type 0) (tells : Bool) (g : Geometry) (s t : State) (bits met new : List (List ℕ)) (found after : Bool) (from at here : ℕ) (why : BlocksRefusal) → (P → IsTrue tells) → at ≡ here → Goes P tells g s t bits met new found after from at
    → (P → IsCheckedTo g t.map bits new after here → IfDamaged {T = Unit {0}} (Err why) (IsBroken g t.map)) → P → IsCheckedTo g s.map bits met found from → IfDamaged {T = Unit {0}} (Err why) (IsBroken g s.map)
goes_broken P tells g s t bits met new found after from at here why told same goes broken p checked =
    subst (λ (m : Blocks). IfDamaged {T = Unit {0}} (Err why) (IsBroken g m)) (goes.looks.map (told p))
    (broken p (goes_here tells g s t bits new after at here goes.looks same (told p) (goes.sound p checked)))

-- the bytes of a node are in their block of the table
pub bytes_at : (g : Geometry) (m : Blocks) (t place number at n : ℕ) (table : List ℕ) → table ≡ m (table_start g + t) → number ≡ nodes_before g.layout t + place + 1 → place < nodes_in_block g.layout → at ≡ rank_byte g.layout place → n ≡ node_size g.layout
    → take n (drop at table) ≡ node_bytes g m number
bytes_at g m t place number at n table is number_is low at_is n_is =
    let block : node_block g.layout number ≡ t = ap (node_block g.layout) number_is ∙ block_of_rank g.layout t place low in
    let byte : node_byte g.layout number ≡ rank_byte g.layout place = ap (node_byte g.layout) number_is ∙ byte_of_rank g.layout t place low in
    ap₂ (λ k j. take k (drop j table)) n_is (at_is ∙ sym byte)
    ∙ ap (λ b. take (node_size g.layout) (drop (node_byte g.layout number) b)) (is ∙ ap (λ j. m (table_start g + j)) (sym block))

-- a check begins with the first node
pub begins : (g : Geometry) (m : Blocks) (bits met : List (List ℕ)) (found : Bool) → AreBits g m bits → ((b : ℕ) → bit_in (blocks_of met) b ≡ false) → IsCheckedTo g m bits met found 1
begins g m bits met found are unmet = record {
  are = are;
  plain = λ none l node low used. absurd (let from = (used_is g m l node used).from in omega (arith, from, low));
  sound = record {
    blocks = meet_begins g m (blocks_of met) unmet;
    free = λ l from low none. absurd (omega (arith, from, low));
    tail = λ l node low used dir. absurd (let from = (used_is g m l node used).from in omega (arith, from, low));
  };
}
