-- One node changed, with its blocks, and nothing else: the blocks stay sound, and the files change at that number alone.
use Rattle.std.proofs.Common.{◌≡◌, ◌≢◌, ◌⊎◌, inl, inr, ℕ, ◌<◌, ◌≤◌, Bool, true, false, not, ◌&&◌, ◌||◌, IsTrue, List, length, take, drop, replicate, slice_get, Option, Some, None, nat_le, option_map, sym, ap, subst, ◌∙◌, ⊎_elim, arith, rules}
use Rattle.std.proofs.lemmas.Bool.{cases_Bool, cases_eq, false≢true, or_left, false_from_ne_true}
use Rattle.std.proofs.lemmas.Bool.Decides.{nat_tests}
use Rattle.base_types.specs.Seal.{Blocks}
use Rattle.base_types.specs.Runs.{run_places}
use Rattle.layout_geometry.specs.Geometry.{Geometry, data_start}
use Rattle.layout_bytes.specs.declared.node.Node.{Node}
use Rattle.layout_bytes.specs.declared.node.NodeKind.TheVariants.{Dir, File}
use Rattle.layout_bytes.specs.Bytes.{are_zeros}
use Rattle.layout_bytes.specs.Node.{content_of, node_size, node_of, node_at, node_bytes}
use Rattle.engine_blocks.specs.Running.{has}
use Rattle.engine_blocks.specs.Puts.{IsData}
use Rattle.crash_stands.specs.Files.{joined, past_content, used_node, file_of, files_of}
use Rattle.crash_stands.specs.Stands.{HasBlock}
use Rattle.fs_files.specs.Calls.{places_or_none, places_of, IsWithFile, IsWithPlaces}
use Rattle.fs_files.specs.Frames.{ChangesNode, HasNewNode}
use Rattle.fs_files.specs.Sound.{AreSoundBy}
use Rattle.fs_files.proofs.frames.Cells.{when_true, is_number, same_node}
use Rattle.fs_files.proofs.frames.Places.{place_of, has_place, one_place, joined_same, used_data, has_block, used_marked}
use Rattle.fs_files.proofs.drafts.Lists.{each_of}

-- a node that has a kept block is a file
abbrev pub SharesFiles : Geometry → (ℕ → Bool) → Blocks → Type 0
SharesFiles g kept m = (b n i : ℕ) (node : Node) → kept b ≡ true → HasBlock g m n i b → used_node g m n ≡ Some node → node.kind ≡ File

-- the places of a node that has a block
pub places_have : (g : Geometry) (m : Blocks) (k i b : ℕ) (o : Option Node) → used_node g m k ≡ o → HasBlock g m k i b → slice_get (places_or_none o) i ≡ Some b
places_have g m k i b o is h = ap (λ (p : Option Node). slice_get (places_or_none p) i) (sym is ∙ h.is_node) ∙ h.place

-- a place of such a node is a block that it has
pub block_at : (g : Geometry) (m : Blocks) (k i b : ℕ) (o : Option Node) → used_node g m k ≡ o → slice_get (places_or_none o) i ≡ Some b → HasBlock g m k i b
block_at g m k i b o e h = grind (arith, nat_tests)

-- the same node has the same block elsewhere
block_same : (g : Geometry) (m n : Blocks) (k i b : ℕ) → used_node g n k ≡ used_node g m k → HasBlock g m k i b → HasBlock g n k i b
block_same g m n k i b same h = record { node = h.node; is_node = same ∙ h.is_node; place = h.place }

-- the marks of a block that isn't among the new places
kept_mark : (now was new old : Bool) → now ≡ (new || (was && not old)) → new ≡ false → now ≡ true → (was ≡ true) × (old ≡ false)
kept_mark now was new old e h p = grind (arith, nat_tests)

-- a block that was marked and isn't among the old places still is
still_marked : (now was new old : Bool) → now ≡ (new || (was && not old)) → was ≡ true → old ≡ false → now ≡ true
still_marked now was new old e h p = grind (arith, nat_tests)

module _ (g : Geometry) (marks new_marks : ℕ → Bool) (m n : Blocks) (k : ℕ) (old new : Option Node) (sound : AreSoundBy g marks m) (ch : ChangesNode g marks new_marks m n k old new) where
  -- Another node.

  other_node : (l : ℕ) → l ≢ k → used_node g n l ≡ used_node g m l
  other_node l other = same_node g m n l (λ from upto. ch.node.others l from upto other)

  -- a block of another node isn't among the old places, nor among the new ones
  not_old : (l i b : ℕ) → l ≢ k → HasBlock g m l i b → has (places_or_none old) b ≡ false
  not_old l i b other h = ⊎_elim (λ is. let r = place_of (places_or_none old) b is in
      absurd (other (sound.own l k i r.0 b h (block_at g m k r.0 b old ch.was r.1)).0))
      (λ isnt. isnt)
      (cases_Bool (has (places_or_none old) b))

  other_data : (l i b : ℕ) → HasBlock g m l i b → IsData g b
  other_data l i b h = used_data g m l h.node h.is_node b (has_place (run_places h.node.runs) i b h.place)

  other_marked : (l i b : ℕ) → HasBlock g m l i b → marks b ≡ true
  other_marked l i b h = used_marked g marks m l h.node sound h.is_node b (has_place (run_places h.node.runs) i b h.place)

  not_new : (l i b : ℕ) → l ≢ k → HasBlock g m l i b → has (places_or_none new) b ≡ false
  not_new l i b other h = false_from_ne_true (has (places_or_none new) b) (λ is. false≢true (sym (ch.fresh b is (not_old l i b other h)) ∙ other_marked l i b h))

  other_block : (l i b : ℕ) → l ≢ k → HasBlock g m l i b → n b ≡ m b
  other_block l i b other h = let at = other_data l i b h in ch.elsewhere b at.from at.below (not_old l i b other h) (not_new l i b other h)

  other_joined : (l : ℕ) (node : Node) → l ≢ k → used_node g m l ≡ Some node → joined n (run_places node.runs) ≡ joined m (run_places node.runs)
  other_joined l node other e = joined_same m n (run_places node.runs) (λ b is. let r = has_block g m l node e b is in other_block l r.0 b other r.1)

  -- a block of another node now was its block before
  back : (l i b : ℕ) → l ≢ k → HasBlock g n l i b → HasBlock g m l i b
  back l i b other h = block_same g n m l i b (sym (other_node l other)) h

  -- Each place has one owner.

  own : (l p i j b : ℕ) → HasBlock g n l i b → HasBlock g n p j b → (l ≡ p) × (i ≡ j)
  own l p i j b first second = by (cases_eq l k) (cases_eq p k)
    where
      mixed : (l p i j : ℕ) → l ≡ k → p ≢ k → HasBlock g n l i b → HasBlock g n p j b → ⊥
      mixed l p i j is other mine its =
          let at : slice_get (places_or_none new) i ≡ Some b = places_have g n k i b new ch.node.own (subst (λ q. HasBlock g n q i b) is mine) in
          false≢true (sym (not_new p j b other (back p j b other its)) ∙ has_place (places_or_none new) i b at)

      by : (l ≡ k) ⊎ (l ≡ k → ⊥) → (p ≡ k) ⊎ (p ≡ k → ⊥) → (l ≡ p) × (i ≡ j)
      by (inl e) (inl f) =
          let at_i : slice_get (places_or_none new) i ≡ Some b = places_have g n k i b new ch.node.own (subst (λ q. HasBlock g n q i b) e first) in
          let at_j : slice_get (places_or_none new) j ≡ Some b = places_have g n k j b new ch.node.own (subst (λ q. HasBlock g n q j b) f second) in
          (e ∙ sym f, one_place (places_or_none new) ch.once i j b at_i at_j)
      by (inl e) (inr away) = absurd (mixed l p i j e away first second)
      by (inr away) (inl f) = absurd (mixed p l j i f away second first)
      by (inr away) (inr off) = sound.own l p i j b (back l i b away first) (back p j b off second)

  -- Just the places of nodes are marked.

  marked_has : (b : ℕ) → data_start g ≤ b → b < g.n → new_marks b ≡ true → (l : ℕ) × (i : ℕ) × HasBlock g n l i b
  marked_has b low high is = ⊎_elim (λ mine. let r = place_of (places_or_none new) b mine in (k, r.0, block_at g n k r.0 b new ch.node.own r.1))
      (λ isnt. let kept = kept_mark (new_marks b) (marks b) (has (places_or_none new) b) (has (places_or_none old) b) (ch.marked b low high) isnt is in
      let r = (sound.marked b low high).0 kept.0 in
      let other : r.0 ≢ k = λ e. false≢true (sym kept.1 ∙ has_place (places_or_none old) r.1 b (places_have g m k r.1 b old ch.was (subst (λ q. HasBlock g m q r.1 b) e r.2))) in
      (r.0, r.1, block_same g m n r.0 r.1 b (other_node r.0 other) r.2))
      (cases_Bool (has (places_or_none new) b))

  has_marked : (b : ℕ) → data_start g ≤ b → b < g.n → ((l : ℕ) × (i : ℕ) × HasBlock g n l i b) → new_marks b ≡ true
  has_marked b low high r = ⊎_elim (λ e. let at : slice_get (places_or_none new) r.1 ≡ Some b = places_have g n k r.1 b new ch.node.own (subst (λ q. HasBlock g n q r.1 b) e r.2) in
      ch.marked b low high ∙ or_left (has (places_or_none new) b) (marks b && not (has (places_or_none old) b)) (has_place (places_or_none new) r.1 b at))
      (λ other. let h = back r.0 r.1 b other r.2 in
      still_marked (new_marks b) (marks b) (has (places_or_none new) b) (has (places_or_none old) b) (ch.marked b low high) (other_marked r.0 r.1 b h) (not_old r.0 r.1 b other h))
      (cases_eq r.0 k)

  -- Marked blocks are whole.

  whole : (b : ℕ) → data_start g ≤ b → b < g.n → new_marks b ≡ true → length (n b) ≡ 1024
  whole b low high is = ⊎_elim (λ mine. each_of (λ c. length (n c) ≡ 1024) (places_or_none new) ch.whole b mine)
      (λ isnt. let kept = kept_mark (new_marks b) (marks b) (has (places_or_none new) b) (has (places_or_none old) b) (ch.marked b low high) isnt is in
      ap length (ch.elsewhere b low high kept.1 isnt) ∙ sound.«data» b low high kept.0)
      (cases_Bool (has (places_or_none new) b))

  -- What carries nothing is zeros.

  free : (l : ℕ) → 1 ≤ l → l ≤ g.i → node_at g n l ≡ None → node_bytes g n l ≡ replicate (node_size g.layout) 0
  free l from upto none = ⊎_elim (λ e. let out : used_node g n k ≡ None = when_true (nat_le 1 k && nat_le k g.i) (node_at g n k) (is_number g k ch.from ch.upto) ∙ ap (node_at g n) (sym e) ∙ none in
      ap (node_bytes g n) e ∙ ch.node.free (sym ch.node.own ∙ out))
      (λ other. let same = ch.node.others l from upto other in
      same ∙ sound.free l from upto (ap (node_of g) (sym same) ∙ none))
      (cases_eq l k)

  tail : (l : ℕ) (node : Node) → used_node g n l ≡ Some node → node.kind ≡ Dir → IsTrue (are_zeros (past_content g.layout n node))
  tail l node e dir = ⊎_elim (λ is. ch.tail node (sym ch.node.own ∙ ap (used_node g n) (sym is) ∙ e) dir)
      (λ other. let was : used_node g m l ≡ Some node = sym (other_node l other) ∙ e in
      ap (λ xs. are_zeros (drop (content_of g.layout node.kind node.size) xs)) (other_joined l node other was) ∙ sound.tail l node was dir)
      (cases_eq l k)

  pub node_changed_sound : AreSoundBy g new_marks n
  node_changed_sound = record {
    table = ch.node.table;
    «data» = whole;
    own = own;
    marked = λ b low high. (marked_has b low high, has_marked b low high);
    free = free;
    tail = tail;
  }

  -- The files.

  map_same : (o : Option Node) → ((node : Node) → o ≡ Some node → file_of g.layout n node ≡ file_of g.layout m node) → option_map (file_of g.layout n) o ≡ option_map (file_of g.layout m) o
  map_same o e = grind (arith, nat_tests)

  file_with : (node : Node) → joined n (run_places node.runs) ≡ joined m (run_places node.runs) → file_of g.layout n node ≡ file_of g.layout m node
  file_with node same = ap (λ xs. record { kind = node.kind; links = node.links; bytes = take (content_of g.layout node.kind node.size) xs }) same

  pub node_changed_files : IsWithFile (files_of g m) (files_of g n) k (option_map (file_of g.layout n) new)
  node_changed_files = search (rules, arith, own, other_node, map_same, file_with, other_joined)

-- A node that has a kept block still is a file, where each kept block of the new one was the old one's, of the same kind.
pub shared_changed : (g : Geometry) (live now : ℕ → Bool) (m n : Blocks) (k : ℕ) (old new : Option Node) (kept : ℕ → Bool) → AreSoundBy g live m → ChangesNode g live now m n k old new → SharesFiles g kept m
    → ((node : Node) (b : ℕ) → new ≡ Some node → has (run_places node.runs) b ≡ true → kept b ≡ true → (was : Node) × (old ≡ Some was) × (has (run_places was.runs) b ≡ true) × (was.kind ≡ node.kind))
    → SharesFiles g kept n
shared_changed g live now m n k old new kept sound ch shared its b l i node keep h is = by (cases_eq l k)
  where
    by : (l ≡ k) ⊎ (l ≡ k → ⊥) → node.kind ≡ File
    by (inl here) =
        let same : new ≡ Some node = sym ch.node.own ∙ ap (used_node g n) (sym here) ∙ is in
        let mine : has (run_places node.runs) b ≡ true = has_place (run_places node.runs) i b (ap (λ (p : Option Node). slice_get (places_or_none p) i) (sym is ∙ h.is_node) ∙ h.place) in
        let was = its node b same mine keep in
        let used : used_node g m k ≡ Some was.0 = ch.was ∙ was.1 in
        let at = has_block g m k was.0 used b was.2 in
        sym was.3 ∙ shared b k at.0 was.0 keep at.1 used
    by (inr other) =
        let used : used_node g m l ≡ Some node = sym (same_node g m n l (λ from upto. ch.node.others l from upto other)) ∙ is in
        shared b l i node keep (block_same g n m l i b (used ∙ sym is) h) used

-- The places.

-- where the node table has a new node, that node has its places, and each other node those that it had
pub node_places : (g : Geometry) (m n : Blocks) (k : ℕ) (new : Option Node) → HasNewNode g m n k new → IsWithPlaces (places_of g m) (places_of g n) k (places_or_none new)
node_places g m n k new now = grind (arith, nat_tests, same_node)

-- the same of places that are as these
pub same_places : (old new was now : ℕ → List ℕ) (k : ℕ) (ps qs : List ℕ) → ((l : ℕ) → was l ≡ old l) → ((l : ℕ) → now l ≡ new l) → ps ≡ qs → IsWithPlaces old new k ps → IsWithPlaces was now k qs
same_places old new was now k ps qs first last same is = record { own = last k ∙ is.own ∙ same; others = λ l other. last l ∙ is.others l other ∙ sym (first l) }
