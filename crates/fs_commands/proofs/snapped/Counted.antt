-- What is known once a snapshot was made: each block of a file that the tree had then is kept by one more, and the name has its number.
use Rattle.std.proofs.Common.{◌≡◌, ◌≢◌, ◌↔◌, ◌⊎◌, inl, inr, ℕ, ◌+◌, ◌<◌, ◌≤◌, ◌==◌, ◌&&◌, not, Bool, true, false, cond, if◌then◌else◌, List, [], ◌∷◌, length, get_or, slice_get, All, filter, None, Some, option_map, refl, sym, ap, ap₂, ◌∙◌, arith}
use Rattle.std.proofs.lemmas.Bool.{cases_eq}
use Rattle.std.proofs.lemmas.List.FromFn.{length-range_with_len}
use Rattle.std.proofs.lemmas.Option.{none-some, slice_get-get_or}
use Rattle.std.specs.FinMap.{get, get-insert, insert}
use Rattle.std.specs.List.{range_with_len}
use Rattle.std.specs.Cmp.{both_ways}
use Rattle.std.proofs.lemmas.List.Elements.{filter_agree}
use Rattle.base_types.specs.Runs.{run_places}
use Rattle.base_types.specs.Seal.{Blocks}
use Rattle.layout_bytes.specs.declared.node.Node.{Node}
use Rattle.layout_bytes.specs.declared.node.NodeKind.TheVariants.{Snapshot}
use Rattle.layout_geometry.specs.Geometry.{Geometry, IsGeometry, data_start}
use Rattle.lang_tree.specs.Tree.{Kept, Tree}
use Rattle.crash_snapshots.specs.Adding.{AddsSnapshot}
use Rattle.crash_snapshots.specs.Kept.{is_snapshot}
use Rattle.crash_stands.specs.Files.{used_node}
use Rattle.crash_stands.specs.Kept.{kept_nodes}
use Rattle.crash_stands.specs.Places.{kept_table}
use Rattle.crash_stands.specs.Sharing.{HasKeptBlock}
use Rattle.crash_stands.specs.Stands.{AreSound, IsTreeOf}
use Rattle.engine_blocks.specs.Puts.{IsData}
use Rattle.engine_blocks.specs.Running.{has}
use Rattle.fs_dirs.specs.Directories.{IsNumber}
use Rattle.fs_files.specs.Calls.{places_or_none}
use Rattle.fs_files.specs.Places.{has_place}
use Rattle.fs_files.specs.Shared.{keepers}
use Rattle.fs_snapshots.specs.Among.{used_number}
use Rattle.fs_snapshots.specs.Known.{CountsKeepers, blocks_kept, count_keepers, file_blocks, is_snapshot_node, keeps_block, node_blocks, snapshot_number}
use Rattle.fs_snapshots.specs.Nodes.{read_table}
use Rattle.fs_session.specs.Snapshots.{live_files}
use Rattle.fs_commands.specs.Known.{CountsIn}
use Rattle.fs_commands.proofs.gathered.Lists.{blocks_same}
use Rattle.fs_commands.proofs.numbered.Keys.{apart, name_total, tied}
use Rattle.fs_commands.proofs.snapped.Answers.{NamedLaw, none_named}
use Rattle.fs_commands.proofs.unsnapped.Keepers.{bit, but, count_less, none_here, other_counted, other_same}
use Rattle.fs_commands.proofs.unsnapped.Once.{has_live}
use Rattle.fs_commands.proofs.unsnapped.Known.{MarkedLaw, StayLaw}
use Rattle.fs_commands.proofs.unsnapped.Taken.{EachLaw, nil_of}

-- the blocks of a node in use are of the data
abbrev pub WithinLaw : Type 0
WithinLaw = (g : Geometry) (m : Blocks) (k : ℕ) (node : Node) → used_node g m k ≡ Some node → (i b : ℕ) → slice_get (run_places node.runs) i ≡ Some b → (data_start g ≤ b) × (b < g.n)

-- blocks with one snapshot more stand for the tree with it
abbrev pub StandsLaw : Type 0
StandsLaw = (g : Geometry) (old new : Blocks) (t : Tree) (n : ℕ) (name places : List ℕ) → IsGeometry g → IsTreeOf g old t → get t.snapshots name ≡ None → AddsSnapshot g old new n name places
    → IsTreeOf g new (record t { snapshots = insert t.snapshots name (record { number = n; names = t.names; nodes = t.nodes }) })

-- Numbers that pass a test.

passing_failing : (p : ℕ → Bool) (xs : List ℕ) → length (filter p xs) + length (filter (λ k. not (p k)) xs) ≡ length xs
passing_failing p [] = refl
passing_failing p (x ∷ xs) = by (p x) (filter p xs) (filter (λ k. not (p k)) xs) (passing_failing p xs)
  where
    by : (t : Bool) (us ws : List ℕ) → length us + length ws ≡ length xs → length (cond t (x ∷ us) us) + length (cond (not t) (x ∷ ws) ws) ≡ length (x ∷ xs)
    by true us ws h = omega (arith, h)
    by false us ws h = omega (arith, h)

-- all but two at most pass where two fail
two_fail : (p : ℕ → Bool) (x y a n : ℕ) → a ≤ x → x < a + n → a ≤ y → y < a + n → y ≢ x → p x ≡ false → p y ≡ false → length (filter p (range_with_len a n)) + 2 ≤ n
two_fail p x y a n from below low high other first second =
    omega (
      arith,
      count_less (λ k. not (p k)) x a n from below,
      ap (λ t. bit (not t)) first,
      other_counted (λ k. not (p k)) x y a n low high (ap not second) other,
      passing_failing p (range_with_len a n),
      length-range_with_len a n,
    )

-- A node out of use, or a file, counts for no block.
no_node_counts : (g : Geometry) (m : Blocks) (b k : ℕ) → used_node g m k ≡ None → keeps_block g m b k ≡ false
no_node_counts g m b k none = ap (λ o. is_snapshot_node o && has (node_blocks (blocks_kept g m k) g.i) b) none

-- How many keep a block.
module _ (each : EachLaw) (marked : MarkedLaw) (kept : StayLaw) (g : Geometry) (old new : Blocks) (n : ℕ) (name places : List ℕ) (fits : IsGeometry g) (sound : AreSound g old) (adds : AddsSnapshot g old new n name places) where
  same_kept : (k : ℕ) (node : Node) → used_node g old k ≡ Some node → node.kind ≡ Snapshot → (l i b : ℕ) → HasKeptBlock g new (run_places node.runs) l i b ↔ HasKeptBlock g old (run_places node.runs) l i b
  same_kept k node used kind = kept g old new (run_places node.runs) fits (marked g old new sound adds.stays k node used kind)

  -- another node counts as before
  other_counts : (b k : ℕ) → k ≢ n → keeps_block g new b k ≡ keeps_block g old b k
  other_counts b k other = both_ways (keeps_block g new b k) (keeps_block g old b k) to from
    where
      to : keeps_block g new b k ≡ true → keeps_block g old b k ≡ true
      to e =
          let h = (each g new b k).0 e in
          let one = h.0 in
          let used : used_node g old one.snapshot ≡ Some one.node = sym (adds.others one.snapshot (λ same. other (sym h.1 ∙ same))) ∙ one.is_node in
          (each g old b k).1 (record { snapshot = one.snapshot; node = one.node; is_node = used; kind = one.kind; number = one.number; place = one.place; has = (same_kept one.snapshot one.node used one.kind one.number one.place b).0 one.has }, h.1)

      from : keeps_block g old b k ≡ true → keeps_block g new b k ≡ true
      from e =
          let h = (each g old b k).0 e in
          let one = h.0 in
          let used : used_node g new one.snapshot ≡ Some one.node = adds.others one.snapshot (λ same. other (sym h.1 ∙ same)) ∙ one.is_node in
          (each g new b k).1 (record { snapshot = one.snapshot; node = one.node; is_node = used; kind = one.kind; number = one.number; place = one.place; has = (same_kept one.snapshot one.node one.is_node one.kind one.number one.place b).1 one.has }, h.1)

  -- the new one for each block of a file
  own_blocks : (k : ℕ) → blocks_kept g new n k ≡ file_blocks (used_node g old k)
  own_blocks k = ap (λ (ps : List ℕ). file_blocks (kept_nodes g new ps k)) (ap places_or_none adds.is_node ∙ adds.runs) ∙ read_table g old (kept_table new places g) adds.made.table k

  own_counts : (b : ℕ) → keeps_block g new b n ≡ has (live_files g old) b
  own_counts b =
      ap (λ o. is_snapshot_node o && has (node_blocks (blocks_kept g new n) g.i) b) adds.is_node
      ∙ ap (λ kind. is_snapshot kind && has (node_blocks (blocks_kept g new n) g.i) b) adds.kind
      ∙ ap (λ xs. has xs b) (blocks_same (blocks_kept g new n) (λ k. file_blocks (used_node g old k)) g.i (λ k low high. own_blocks k))

  without : (b k : ℕ) → but (keeps_block g new b) n k ≡ keeps_block g old b k
  without b k = by (cases_eq k n)
    where
      by : (k ≡ n) ⊎ (k ≢ n) → but (keeps_block g new b) n k ≡ keeps_block g old b k
      by (inl same) = ap (but (keeps_block g new b) n) same ∙ none_here (keeps_block g new b) n ∙ sym (ap (keeps_block g old b) same ∙ no_node_counts g old b n adds.free)
      by (inr other) = other_same (keeps_block g new b) n k other ∙ other_counts b k other

  counts_more : (b : ℕ) → count_keepers g new b ≡ count_keepers g old b + bit (has (live_files g old) b)
  counts_more b =
      let at = used_number g new n adds.node adds.is_node in
      count_less (keeps_block g new b) n 1 g.i at.0 (omega (arith, at.1))
      ∙ ap₂ (λ us t. length us + bit t) (filter_agree (but (keeps_block g new b) n) (keeps_block g old b) (without b) (range_with_len 1 g.i)) (own_counts b)

  pub counted_more : (counts more : List ℕ) → CountsKeepers g old counts → CountsIn (live_files g old) counts more → CountsKeepers g new more
  counted_more counts more known more_in = record {
    each = λ b. more_in.each b ∙ ap (λ k. k + bit (has (live_files g old) b)) (known.each b) ∙ sym (counts_more b);
    room = by known.room;
  }
    where
      by : (counts ≡ []) ⊎ (length counts ≡ g.n) → (more ≡ []) ⊎ (length more ≡ g.n)
      by (inl none) = inl (nil_of more (more_in.room ∙ ap length none))
      by (inr long) = inr (more_in.room ∙ long)

-- The blocks of the tree's files.
module _ (g : Geometry) (m : Blocks) where
  live_at : (i d : ℕ) → i < length (live_files g m) → has (live_files g m) (get_or (live_files g m) i d) ≡ true
  live_at i d low = has_place (live_files g m) i (get_or (live_files g m) i d) (slice_get-get_or (live_files g m) i d low)

  -- are data blocks
  pub live_data : WithinLaw → All (IsData g) (live_files g m)
  live_data within i d low =
      let b = get_or (live_files g m) i d in
      let h = has_live g m b (live_at i d low) in
      let at = within g m h.0 h.2.node h.2.is_node h.1 b h.2.place in
      record { from = at.0; below = at.1 }

  -- and may be kept by one more, since the file and a node out of use count for none
  pub live_few : (n : ℕ) (counts : List ℕ) → IsGeometry g → IsNumber g.i n → used_node g m n ≡ None → CountsKeepers g m counts → All (λ b. keepers counts b < 65535) (live_files g m)
  live_few n counts fits number free known i d low =
      let b = get_or (live_files g m) i d in
      let h = has_live g m b (live_at i d low) in
      let at = used_number g m h.0 h.2.node h.2.is_node in
      let file : keeps_block g m b h.0 ≡ false = ap (λ o. is_snapshot_node o && has (node_blocks (blocks_kept g m h.0) g.i) b) h.2.is_node ∙ ap (λ kind. is_snapshot kind && has (node_blocks (blocks_kept g m h.0) g.i) b) h.3 in
      omega (
        arith,
        known.each b,
        fits.most_nodes,
        two_fail (keeps_block g m b) n h.0 1 g.i number.from (omega (arith, number.upto)) at.0 (omega (arith, at.1)) (λ same. none-some h.2.node (sym free ∙ ap (used_node g m) (sym same) ∙ h.2.is_node)) (no_node_counts g m b n free) file,
      )

-- Which node each name has.
module _ (law : NamedLaw) (becomes : StandsLaw) (g : Geometry) (old new : Blocks) (t : Tree) (n : ℕ) (name places : List ℕ) (fits : IsGeometry g) (stands : IsTreeOf g old t) (none : snapshot_number g old name ≡ None) (adds : AddsSnapshot g old new n name places) where
  new_stands : IsTreeOf g new (record t { snapshots = insert t.snapshots name (record { number = n; names = t.names; nodes = t.nodes }) })
  new_stands = becomes g old new t n name places fits stands (none_named g old t name stands law none) adds

  pub new_named : (snapshot_number g new name ≡ Some n) × ((other : List ℕ) → other ≢ name → snapshot_number g new other ≡ snapshot_number g old other)
  new_named = (
    law g new _ name new_stands
        ∙ ap (option_map (λ (k : Kept). k.number)) (get-insert name_total t.snapshots name (record { number = n; names = t.names; nodes = t.nodes }) name ∙ ap (λ b. cond b (Some (record { number = n; names = t.names; nodes = t.nodes })) (get t.snapshots name)) (tied name name refl)),
    λ other off.
        law g new _ other new_stands
        ∙ ap (option_map (λ (k : Kept). k.number)) (get-insert name_total t.snapshots name (record { number = n; names = t.names; nodes = t.nodes }) other ∙ ap (λ b. cond b (Some (record { number = n; names = t.names; nodes = t.nodes })) (get t.snapshots other)) (apart other name off))
        ∙ sym (law g old t other stands),
  )
