-- The blocks of the files that one snapshot keeps, met one by one.
use Rattle.std.proofs.Common.{◌≡◌, ◌≢◌, ◌⊎◌, inl, inr, ℕ, ◌+◌, ◌*◌, ◌<◌, true, false, ◌==◌, if◌then◌else◌, List, length, slice_get, Some, refl, sym, ap, subst, ◌∙◌, arith, ⊎_elim}
use Rattle.std.proofs.lemmas.Bool.{cases_Bool, cases_lt, eqb-true, false≢true}
use Rattle.std.proofs.lemmas.Option.{same_Some, slice_get_within}
use Rattle.base_types.specs.Runs.{run_places}
use Rattle.base_types.specs.Seal.{Blocks, blocks_of}
use Rattle.layout_bitmap.specs.Bits.{BitBecomes}
use Rattle.layout_geometry.specs.Geometry.{Geometry, bitmap_blocks}
use Rattle.layout_bytes.specs.declared.node.Node.{Node}
use Rattle.layout_bytes.specs.declared.node.NodeKind.TheVariants.{File}
use Rattle.layout_bytes.specs.Bitmap.{bit_in, is_set}
use Rattle.crash_stands.specs.Kept.{kept_nodes}
use Rattle.crash_stands.specs.Places.{kept_table}
use Rattle.crash_stands.specs.Sharing.{HasKeptBlock}
use Rattle.fs_check.specs.declared.snapshot_damage.SnapshotDamage.{SnapshotDamage}
use Rattle.fs_check.specs.declared.snapshot_damage.SnapshotDamage.TheVariants as damage
use Rattle.fs_check.specs.Broken.{Precedes}
use Rattle.fs_check.specs.BrokenSnapshots.{IsBroken, IsFirm, IsSnapshot, places_of}
use Rattle.fs_check.specs.KeptMeeting.{AreTrueMaps, HasMetKept, IsKeptMet, IsUnkeepable}
use Rattle.fs_check.proofs.sound.Meets.{behind, bit_own, bit_stays, earlier, last}
use Rattle.fs_check.proofs.sound.Nodes.{used_is}

-- the snapshot keeps a file as node k, which has these blocks, in order
pub record IsKeptFile (g : Geometry) (m : Blocks) (own : List ℕ) (k : ℕ) (list : List ℕ) : Type 0 where
  pub node : Node
  pub is_node : kept_nodes g m own k ≡ Some node
  pub kind : node.kind ≡ File
  pub places : run_places node.runs ≡ list

at_place : (g : Geometry) (m : Blocks) (own : List ℕ) (k i b : ℕ) (list : List ℕ) → IsKeptFile g m own k list → slice_get list i ≡ Some b → HasKeptBlock g m own k i b
at_place g m own k i b list node at = record { node = node.node; is_node = node.is_node; kind = node.kind; place = ap (λ xs. slice_get xs i) node.places ∙ at }

place_at : (g : Geometry) (m : Blocks) (own : List ℕ) (l k j b : ℕ) (list : List ℕ) → IsKeptFile g m own k list → l ≡ k → HasKeptBlock g m own l j b → slice_get list j ≡ Some b
place_at g m own l k j b list node same h =
    let one : h.node ≡ node.node = same_Some h.node node.node (sym h.is_node ∙ ap (kept_nodes g m own) same ∙ node.is_node) in
    ap (λ xs. slice_get xs j) (sym node.places) ∙ ap (λ (n : Node). slice_get (run_places n.runs) j) (sym one) ∙ h.place

the_block : (g : Geometry) (m : Blocks) (own : List ℕ) (l j k i b c : ℕ) (list : List ℕ) → IsKeptFile g m own k list → slice_get list i ≡ Some b → (l ≡ k) × (j ≡ i) → HasKeptBlock g m own l j c → c ≡ b
the_block g m own l j k i b c list node at same h =
    same_Some c b (sym (place_at g m own l k j c list node same.0 h) ∙ ap (slice_get list) same.1 ∙ at)

met_earlier : (g : Geometry) (m : Blocks) (own : List ℕ) (k i c : ℕ) → IsKeptMet g m own k i c → IsKeptMet g m own k (i + 1) c
met_earlier g m own k i c is = record { node = is.node; place = is.place; before = earlier is.node is.place k i is.before; has = is.has }

-- one block more
pub keep_more : (g : Geometry) (m : Blocks) (bits firm : List (List ℕ)) (own list : List ℕ) (met new : Blocks) (k i b : ℕ) → AreTrueMaps g m bits firm → IsKeptFile g m own k list → HasMetKept g m own k i met
    → slice_get list i ≡ Some b → b < g.n → b < 8192 * bitmap_blocks g → bit_in (blocks_of bits) b ≡ true → bit_in (blocks_of firm) b ≡ false → bit_in met b ≡ false → BitBecomes met new b true → HasMetKept g m own k (i + 1) new
keep_more g m bits firm own list met new k i b maps node so_far at below within marked apart unmet becomes = record {
  bits = λ c. (λ is. into c is (cases_Bool (c == b)), λ is. from c is (last is.node is.place k i is.before));
  once = λ l j h f c before other has other_has. once l j h f c (last l j k i before) (last h f k i other) has other_has;
  marked = λ l j c before has. one_marked l j c has (last l j k i before);
  apart = λ l j c before has. one_apart l j c has (last l j k i before);
}
  where
    into : (c : ℕ) → bit_in new c ≡ true → ((c == b) ≡ true) ⊎ ((c == b) ≡ false) → IsKeptMet g m own k (i + 1) c
    into c is (inl same) = record { node = k; place = i; before = inr (refl, omega arith); has = at_place g m own k i c list node (at ∙ ap (λ x. Some x) (sym (eqb-true c b same))) }
    into c is (inr other) = met_earlier g m own k i c ((so_far.bits c).0 (ap (λ t. if t then true else bit_in met c) (sym other) ∙ sym (becomes c) ∙ is))

    from : (c : ℕ) → (is : IsKeptMet g m own k (i + 1) c) → Precedes is.node is.place k i ⊎ ((is.node ≡ k) × (is.place ≡ i)) → bit_in new c ≡ true
    from c is (inl before) = bit_stays met new b c becomes ((so_far.bits c).1 (record { node = is.node; place = is.place; before = before; has = is.has }))
    from c is (inr same) = bit_own met new b c becomes (the_block g m own is.node is.place k i b c list node at same is.has)

    new_there : (l j c : ℕ) → Precedes l j k i → HasKeptBlock g m own l j c → c ≡ b → ⊥
    new_there l j c before has same =
        false≢true (sym unmet ∙ (so_far.bits b).1 (record { node = l; place = j; before = before; has = subst (HasKeptBlock g m own l j) same has }))

    once : (l j h f c : ℕ) → Precedes l j k i ⊎ ((l ≡ k) × (j ≡ i)) → Precedes h f k i ⊎ ((h ≡ k) × (f ≡ i)) → HasKeptBlock g m own l j c → HasKeptBlock g m own h f c → (l ≡ h) × (j ≡ f)
    once l j h f c (inl before) (inl other) has other_has = so_far.once l j h f c before other has other_has
    once l j h f c (inl before) (inr same) has other_has = absurd (new_there l j c before has (the_block g m own h f k i b c list node at same other_has))
    once l j h f c (inr same) (inl other) has other_has = absurd (new_there h f c other other_has (the_block g m own l j k i b c list node at same has))
    once l j h f c (inr same) (inr other) has other_has = (same.0 ∙ sym other.0, same.1 ∙ sym other.1)

    one_marked : (l j c : ℕ) → HasKeptBlock g m own l j c → Precedes l j k i ⊎ ((l ≡ k) × (j ≡ i)) → is_set g m c ≡ true
    one_marked l j c has (inl before) = so_far.marked l j c before has
    one_marked l j c has (inr same) = ap (is_set g m) (the_block g m own l j k i b c list node at same has) ∙ sym (maps.are b within) ∙ marked

    one_apart : (l j c : ℕ) → HasKeptBlock g m own l j c → Precedes l j k i ⊎ ((l ≡ k) × (j ≡ i)) → IsFirm g m c → ⊥
    one_apart l j c has (inl before) is = so_far.apart l j c before has is
    one_apart l j c has (inr same) is =
        false≢true (sym apart ∙ (maps.own b below).1 (subst (IsFirm g m) (the_block g m own l j k i b c list node at same has) is))

-- what is broken where a block can't be kept
pub unkeepable : (g : Geometry) (m : Blocks) (bits firm : List (List ℕ)) (list : List ℕ) (met : Blocks) (snapshot k i b : ℕ) (is : IsSnapshot g m snapshot) (why : SnapshotDamage) → AreTrueMaps g m bits firm → IsKeptFile g m (places_of is.node) k list
    → HasMetKept g m (places_of is.node) k i met → slice_get list i ≡ Some b → b < g.n → b < 8192 * bitmap_blocks g → IsUnkeepable (blocks_of bits) (blocks_of firm) met snapshot b why → IsBroken g m why
unkeepable g m bits firm list met snapshot k i b is (damage.WrongSize l) maps node so_far at below within un = absurd un
unkeepable g m bits firm list met snapshot k i b is (damage.BadName l) maps node so_far at below within un = absurd un
unkeepable g m bits firm list met snapshot k i b is (damage.SameName l h) maps node so_far at below within un = absurd un
unkeepable g m bits firm list met snapshot k i b is (damage.KeptNode l h) maps node so_far at below within un = absurd un
unkeepable g m bits firm list met snapshot k i b is (damage.KeptTail l h) maps node so_far at below within un = absurd un
unkeepable g m bits firm list met snapshot k i b is (damage.KeptUnmarked l c) maps node so_far at below within un = rw (un.0, un.1) record {
  keeps = record { is = is; number = k; place = i; has = at_place g m (places_of is.node) k i b list node at };
  clear = sym (maps.are b within) ∙ un.2;
}
unkeepable g m bits firm list met snapshot k i b is (damage.KeptShared l c) maps node so_far at below within un =
    let old : IsKeptMet g m (places_of is.node) k i b = (so_far.bits b).0 un.2 in
    rw (un.0, un.1) record {
      keeps = record { is = is; number = k; place = i; has = at_place g m (places_of is.node) k i b list node at };
      other = old.node;
      other_place = old.place;
      before = old.before;
      other_has = old.has;
    }
unkeepable g m bits firm list met snapshot k i b is (damage.KeptElsewhere l c) maps node so_far at below within un = rw (un.0, un.1) record {
  keeps = record { is = is; number = k; place = i; has = at_place g m (places_of is.node) k i b list node at };
  firm = (maps.own b below).0 un.2;
}
unkeepable g m bits firm list met snapshot k i b is (damage.InSnapshot l what) maps node so_far at below within un = absurd un

-- From node to node.

-- all blocks of node k were met, which are n at most
pub keep_next : (g : Geometry) (m : Blocks) (own : List ℕ) (met : Blocks) (k n : ℕ) → ((j b : ℕ) → HasKeptBlock g m own k j b → j < n) → HasMetKept g m own k n met → HasMetKept g m own (k + 1) 0 met
keep_next g m own met k n all so_far = record {
  bits = λ b. (λ is. later b ((so_far.bits b).0 is), λ is. (so_far.bits b).1 (record { node = is.node; place = is.place; before = ahead is.node is.place b is.has is.before; has = is.has }));
  once = λ l j h f b before other has other_has. so_far.once l j h f b (ahead l j b has before) (ahead h f b other_has other) has other_has;
  marked = λ l j b before has. so_far.marked l j b (ahead l j b has before) has;
  apart = λ l j b before has. so_far.apart l j b (ahead l j b has before) has;
}
  where
    later : (b : ℕ) → IsKeptMet g m own k n b → IsKeptMet g m own (k + 1) 0 b
    later b is = record { node = is.node; place = is.place; before = behind is.node is.place k n is.before; has = is.has }

    ahead : (l j b : ℕ) → HasKeptBlock g m own l j b → Precedes l j (k + 1) 0 → Precedes l j k n
    ahead l j b has (inr same) = absurd (omega (arith, same.1))
    ahead l j b has (inl low) = ⊎_elim (λ under. inl under)
        (λ over. let same : l ≡ k = omega (arith, low, over) in inr (same, all j b (subst (λ x. HasKeptBlock g m own x j b) same has)))
        (cases_lt l k)

-- a node that isn't kept, or isn't a file, has none
pub keep_none : (g : Geometry) (m : Blocks) (own : List ℕ) (met : Blocks) (k : ℕ) → ((node : Node) → kept_nodes g m own k ≡ Some node → node.kind ≢ File) → HasMetKept g m own k 0 met → HasMetKept g m own (k + 1) 0 met
keep_none g m own met k none so_far = keep_next g m own met k 0 (λ j b has. absurd (none has.node has.is_node has.kind)) so_far

-- a file has those of its list
pub keep_all : (g : Geometry) (m : Blocks) (own : List ℕ) (met : Blocks) (k : ℕ) (list : List ℕ) → IsKeptFile g m own k list → HasMetKept g m own k (length list) met → HasMetKept g m own (k + 1) 0 met
keep_all g m own met k list node so_far =
    keep_next g m own met k (length list) (λ j b has. slice_get_within list j b (place_at g m own k k j b list node refl has)) so_far

-- before the first node there is none
pub keep_begins : (g : Geometry) (m : Blocks) (own : List ℕ) (met : Blocks) → ((b : ℕ) → bit_in met b ≡ false) → HasMetKept g m own 1 0 met
keep_begins g m own met zeros = record {
  bits = λ b. (λ is. absurd (false≢true (sym (zeros b) ∙ is)), λ is. absurd (none is.node is.place b is.before is.has));
  once = λ l j h f b before other has other_has. absurd (none l j b before has);
  marked = λ l j b before has. absurd (none l j b before has);
  apart = λ l j b before has. absurd (none l j b before has);
}
  where
    none : (l j b : ℕ) → Precedes l j 1 0 → HasKeptBlock g m own l j b → ⊥
    none l j b (inl low) has = let from = (used_is g (kept_table m own g) l has.node has.is_node).from in omega (arith, low, from)
    none l j b (inr same) has = omega (arith, same.1)
