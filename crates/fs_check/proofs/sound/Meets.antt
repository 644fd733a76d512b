-- The blocks of nodes met one by one.
use Rattle.std.proofs.Common.{◌≡◌, ◌⊎◌, inl, inr, ℕ, ◌+◌, ◌*◌, ◌<◌, Bool, true, false, ◌==◌, if◌then◌else◌, List, length, slice_get, Some, None, refl, sym, ap, subst, ◌∙◌, arith, ⊎_elim}
use Rattle.std.proofs.lemmas.Bool.{cases_Bool, cases_lt, eqb-true, eq-eqb, false≢true}
use Rattle.std.proofs.lemmas.Option.{none-some, same_Some, slice_get_within}
use Rattle.base_types.specs.Runs.{run_places}
use Rattle.base_types.specs.Seal.{Blocks, blocks_of}
use Rattle.layout_bitmap.specs.Bits.{BitBecomes}
use Rattle.layout_geometry.specs.Geometry.{Geometry, bitmap_blocks}
use Rattle.layout_bytes.specs.declared.node.Node.{Node}
use Rattle.layout_bytes.specs.Bitmap.{bit_in, is_set}
use Rattle.crash_stands.specs.Files.{used_node}
use Rattle.crash_stands.specs.Stands.{HasBlock}
use Rattle.fs_check.specs.declared.block_damage.BlockDamage.{BlockDamage}
use Rattle.fs_check.specs.declared.block_damage.BlockDamage.TheVariants.{WrongBit, BadNode, Unmarked, Shared, Tail, Lost}
use Rattle.fs_check.specs.Broken.{IsBroken, Precedes}
use Rattle.fs_check.specs.Meeting.{AreBits, HasMet, HasPlaces, IsMet, IsUnmeetable}
use Rattle.fs_check.proofs.sound.Nodes.{used_is}

-- The order of places.

-- a place before the next one is before this one, or is this one
pub last : (l j k i : ℕ) → Precedes l j k (i + 1) → Precedes l j k i ⊎ ((l ≡ k) × (j ≡ i))
last l j k i (inl low) = inl (inl low)
last l j k i (inr same) = ⊎_elim (λ low. inl (inr (same.0, low)))
    (λ high. inr (same.0, omega (arith, same.1, high)))
    (cases_lt j i)

pub earlier : (l j k i : ℕ) → Precedes l j k i → Precedes l j k (i + 1)
earlier l j k i (inl low) = inl low
earlier l j k i (inr same) = inr (same.0, omega (arith, same.1))

-- The blocks of a node.

-- the place of a block of node k, by the list of its blocks
pub at_place : (g : Geometry) (m : Blocks) (k i b : ℕ) (places : List ℕ) → HasPlaces g m k places → slice_get places i ≡ Some b → HasBlock g m k i b
at_place g m k i b places node at = record { node = node.node; is_node = node.is_node; place = ap (λ xs. slice_get xs i) node.places ∙ at }

pub place_at : (g : Geometry) (m : Blocks) (l k j b : ℕ) (places : List ℕ) → HasPlaces g m k places → l ≡ k → HasBlock g m l j b → slice_get places j ≡ Some b
place_at g m l k j b places node same h =
    let one : h.node ≡ node.node = same_Some h.node node.node (sym h.is_node ∙ ap (used_node g m) same ∙ node.is_node) in
    ap (λ xs. slice_get xs j) (sym node.places) ∙ ap (λ (n : Node). slice_get (run_places n.runs) j) (sym one) ∙ h.place

-- the block at place i is b
the_block : (g : Geometry) (m : Blocks) (l j k i b c : ℕ) (places : List ℕ) → HasPlaces g m k places → slice_get places i ≡ Some b → (l ≡ k) × (j ≡ i) → HasBlock g m l j c → c ≡ b
the_block g m l j k i b c places node at same h =
    same_Some c b (sym (place_at g m l k j c places node same.0 h) ∙ ap (slice_get places) same.1 ∙ at)

-- One block more.

-- a block is met at an earlier place
met_earlier : (g : Geometry) (m : Blocks) (k i c : ℕ) → IsMet g m k i c → IsMet g m k (i + 1) c
met_earlier g m k i c is = record { node = is.node; place = is.place; before = earlier is.node is.place k i is.before; has = is.has }

pub bit_own : (met new : Blocks) (b c : ℕ) → BitBecomes met new b true → c ≡ b → bit_in new c ≡ true
bit_own met new b c becomes e = becomes c ∙ ap (λ t. if t then true else bit_in met c) (eq-eqb c b e)

pub bit_stays : (met new : Blocks) (b c : ℕ) → BitBecomes met new b true → bit_in met c ≡ true → bit_in new c ≡ true
bit_stays met new b c becomes is = becomes c ∙ by (c == b)
  where
    by : (t : Bool) → (if t then true else bit_in met c) ≡ true
    by true = refl
    by false = is

pub meet_more : (g : Geometry) (m : Blocks) (bits : List (List ℕ)) (places : List ℕ) (met new : Blocks) (k i b : ℕ) → AreBits g m bits → HasPlaces g m k places → HasMet g m k i met
    → slice_get places i ≡ Some b → b < g.n → b < 8192 * bitmap_blocks g → bit_in (blocks_of bits) b ≡ true → bit_in met b ≡ false → BitBecomes met new b true → HasMet g m k (i + 1) new
meet_more g m bits places met new k i b are node so_far at below within marked unmet becomes = record {
  bits = λ c low. (λ is. into c low is (cases_Bool (c == b)), λ is. from c low is (last is.node is.place k i is.before));
  once = λ l j h f c before other has other_has. once l j h f c (last l j k i before) (last h f k i other) has other_has;
  marked = λ l j c before has. one_marked l j c has (last l j k i before);
}
  where
    into : (c : ℕ) → c < g.n → bit_in new c ≡ true → ((c == b) ≡ true) ⊎ ((c == b) ≡ false) → IsMet g m k (i + 1) c
    into c low is (inl same) = record { node = k; place = i; before = inr (refl, omega arith); has = at_place g m k i c places node (at ∙ ap (λ x. Some x) (sym (eqb-true c b same))) }
    into c low is (inr other) = met_earlier g m k i c ((so_far.bits c low).0 (ap (λ t. if t then true else bit_in met c) (sym other) ∙ sym (becomes c) ∙ is))

    from : (c : ℕ) → c < g.n → (is : IsMet g m k (i + 1) c) → Precedes is.node is.place k i ⊎ ((is.node ≡ k) × (is.place ≡ i)) → bit_in new c ≡ true
    from c low is (inl before) = bit_stays met new b c becomes ((so_far.bits c low).1 (record { node = is.node; place = is.place; before = before; has = is.has }))
    from c low is (inr same) = bit_own met new b c becomes (the_block g m is.node is.place k i b c places node at same is.has)

    -- the new block isn't at an earlier place
    new_there : (l j c : ℕ) → Precedes l j k i → HasBlock g m l j c → c ≡ b → ⊥
    new_there l j c before has same =
        false≢true (sym unmet ∙ (so_far.bits b below).1 (record { node = l; place = j; before = before; has = subst (HasBlock g m l j) same has }))

    once : (l j h f c : ℕ) → Precedes l j k i ⊎ ((l ≡ k) × (j ≡ i)) → Precedes h f k i ⊎ ((h ≡ k) × (f ≡ i)) → HasBlock g m l j c → HasBlock g m h f c → (l ≡ h) × (j ≡ f)
    once l j h f c (inl before) (inl other) has other_has = so_far.once l j h f c before other has other_has
    once l j h f c (inl before) (inr same) has other_has = absurd (new_there l j c before has (the_block g m h f k i b c places node at same other_has))
    once l j h f c (inr same) (inl other) has other_has = absurd (new_there h f c other other_has (the_block g m l j k i b c places node at same has))
    once l j h f c (inr same) (inr other) has other_has = (same.0 ∙ sym other.0, same.1 ∙ sym other.1)

    one_marked : (l j c : ℕ) → HasBlock g m l j c → Precedes l j k i ⊎ ((l ≡ k) × (j ≡ i)) → is_set g m c ≡ true
    one_marked l j c has (inl before) = so_far.marked l j c before has
    one_marked l j c has (inr same) = ap (is_set g m) (the_block g m l j k i b c places node at same has) ∙ sym (are b within) ∙ marked

-- what is broken where the block can't be met
pub unmeetable : (g : Geometry) (m : Blocks) (bits : List (List ℕ)) (places : List ℕ) (met : Blocks) (k i b : ℕ) (damage : BlockDamage) → AreBits g m bits → HasPlaces g m k places → HasMet g m k i met
    → slice_get places i ≡ Some b → b < g.n → b < 8192 * bitmap_blocks g → IsUnmeetable (blocks_of bits) met k b damage → IsBroken g m damage
unmeetable g m bits places met k i b (WrongBit c) are node so_far at below within is = absurd is
unmeetable g m bits places met k i b (BadNode l) are node so_far at below within is = absurd is
unmeetable g m bits places met k i b (Unmarked l c) are node so_far at below within is =
    let has : HasBlock g m l i c = subst (λ x. HasBlock g m x i c) (sym is.0) (subst (HasBlock g m k i) (sym is.1) (at_place g m k i b places node at)) in
    record { place = i; has = has; clear = ap (is_set g m) is.1 ∙ sym (are b within) ∙ is.2 }
unmeetable g m bits places met k i b (Shared l c) are node so_far at below within is =
    let has : HasBlock g m l i c = subst (λ x. HasBlock g m x i c) (sym is.0) (subst (HasBlock g m k i) (sym is.1) (at_place g m k i b places node at)) in
    let old : IsMet g m k i b = (so_far.bits b below).0 is.2 in
    record {
      place = i;
      has = has;
      other = old.node;
      other_place = old.place;
      before = subst (λ x. Precedes old.node old.place x i) (sym is.0) old.before;
      other_has = subst (HasBlock g m old.node old.place) (sym is.1) old.has;
    }
unmeetable g m bits places met k i b (Tail l) are node so_far at below within is = absurd is
unmeetable g m bits places met k i b (Lost c) are node so_far at below within is = absurd is

-- From node to node.

pub behind : (l j k n : ℕ) → Precedes l j k n → Precedes l j (k + 1) 0
behind l j k n (inl low) = inl (omega (arith, low))
behind l j k n (inr same) = inl (omega (arith, same.0))

-- all blocks of node k were met, which are n at most
pub meet_next : (g : Geometry) (m : Blocks) (met : Blocks) (k n : ℕ) → ((j b : ℕ) → HasBlock g m k j b → j < n) → HasMet g m k n met → HasMet g m (k + 1) 0 met
meet_next g m met k n all so_far = record {
  bits = λ b low. (λ is. later b ((so_far.bits b low).0 is), λ is. (so_far.bits b low).1 (record { node = is.node; place = is.place; before = ahead is.node is.place b is.has is.before; has = is.has }));
  once = λ l j h f b before other has other_has. so_far.once l j h f b (ahead l j b has before) (ahead h f b other_has other) has other_has;
  marked = λ l j b before has. so_far.marked l j b (ahead l j b has before) has;
}
  where
    later : (b : ℕ) → IsMet g m k n b → IsMet g m (k + 1) 0 b
    later b is = record { node = is.node; place = is.place; before = behind is.node is.place k n is.before; has = is.has }

    ahead : (l j b : ℕ) → HasBlock g m l j b → Precedes l j (k + 1) 0 → Precedes l j k n
    ahead l j b has (inr same) = absurd (omega (arith, same.1))
    ahead l j b has (inl low) = ⊎_elim (λ under. inl under)
        (λ over. let same : l ≡ k = omega (arith, low, over) in inr (same, all j b (subst (λ x. HasBlock g m x j b) same has)))
        (cases_lt l k)

-- a node out of use has none
pub meet_none : (g : Geometry) (m : Blocks) (met : Blocks) (k : ℕ) → used_node g m k ≡ None → HasMet g m k 0 met → HasMet g m (k + 1) 0 met
meet_none g m met k none so_far = meet_next g m met k 0 (λ j b has. absurd (none-some has.node (sym none ∙ has.is_node))) so_far

-- one in use has those of its list
pub meet_all : (g : Geometry) (m : Blocks) (met : Blocks) (k : ℕ) (places : List ℕ) → HasPlaces g m k places → HasMet g m k (length places) met → HasMet g m (k + 1) 0 met
meet_all g m met k places node so_far =
    meet_next g m met k (length places) (λ j b has. slice_get_within places j b (place_at g m k k j b places node refl has)) so_far

-- before the first node there is none
pub meet_begins : (g : Geometry) (m : Blocks) (met : Blocks) → ((b : ℕ) → bit_in met b ≡ false) → HasMet g m 1 0 met
meet_begins g m met zeros = record {
  bits = λ b low. (λ is. absurd (false≢true (sym (zeros b) ∙ is)), λ is. absurd (none is.node is.place b is.before is.has));
  once = λ l j h f b before other has other_has. absurd (none l j b before has);
  marked = λ l j b before has. absurd (none l j b before has);
}
  where
    none : (l j b : ℕ) → Precedes l j 1 0 → HasBlock g m l j b → ⊥
    none l j b (inl low) has = let from = (used_is g m l has.node has.is_node).from in omega (arith, low, from)
    none l j b (inr same) has = omega (arith, same.1)
