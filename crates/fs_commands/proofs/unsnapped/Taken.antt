-- What the draft makes of the blocks in which a snapshot goes: they have less than before by that snapshot.
use Rattle.std.proofs.Common.{◌≡◌, ◌≢◌, ◌↔◌, ◌⊎◌, inl, inr, ℕ, ◌+◌, ◌*◌, ◌<◌, ◌≤◌, ◌||◌, ◌&&◌, ◌==◌, not, Bool, true, false, IsTrue, if◌then◌else◌, List, [], ◌∷◌, ◌++◌, length, replicate, get_or, slice_get, All, Option, None, Some, is_some, option_map, refl, sym, ap, ap₂, subst, ◌∙◌, arith}
use Rattle.std.proofs.lemmas.Bool.{and_parts, cases_Bool, cases_eq, cases_order, eqb-true, or_cases, or_left, or_right, true≢false, false_from_ne_true, not-true}
use Rattle.std.proofs.lemmas.Option.{none-some, same_Some, slice_get-get_or, slice_get_within}
use Rattle.std.specs.List.{filter, range_with_len}
use Rattle.base_types.specs.Runs.{run_places}
use Rattle.base_types.specs.Seal.{Blocks}
use Rattle.base_types.specs.Layouts.{node_size}
use Rattle.base_types.specs.LayoutLaws.{node_in_table}
use Rattle.layout_geometry.specs.Geometry.{Geometry, IsGeometry, bitmap_blocks, data_start}
use Rattle.layout_bytes.specs.declared.node.Node.{Node}
use Rattle.layout_bytes.specs.declared.node.NodeKind.TheVariants.{File, Snapshot}
use Rattle.layout_bytes.specs.Bitmap.{is_set}
use Rattle.layout_bytes.specs.Node.{node_at, node_bytes}
use Rattle.crash_snapshots.specs.Taking.{IsElsewhere, TakesSnapshot}
use Rattle.crash_stands.specs.Files.{file_of, used_node}
use Rattle.crash_stands.specs.Sharing.{HasKeptBlock, IsKeptBlock}
use Rattle.crash_stands.specs.Stands.{AreSound, HasBlock}
use Rattle.engine_blocks.specs.Puts.{IsData}
use Rattle.engine_blocks.specs.Running.{has}
use Rattle.engine_blocks.specs.State.{State}
use Rattle.fs_files.specs.Calls.{files_in, places_in, places_of as blocks_of_node, places_or_none}
use Rattle.fs_files.specs.Drafts.{DraftState, bytes_or, change_of, nothing_drafted}
use Rattle.fs_files.specs.Nodes.{node_block}
use Rattle.fs_files.specs.Places.{has_append, in_append, place_of, has_place}
use Rattle.fs_files.specs.Shared.{is_kept, keepers}
use Rattle.fs_files.specs.Sound.{AreSoundBeside, IsDraftOf}
use Rattle.fs_snapshots.specs.Among.{used_number}
use Rattle.fs_snapshots.specs.Known.{count_keepers, keeps_block}
use Rattle.fs_session.specs.Commands.{places_of}
use Rattle.fs_session.specs.Plans.{HasDrafted}
use Rattle.fs_session.specs.Snapshots.{alone_among, live_files}
use Rattle.fs_commands.specs.declared.snapping.Gone.{Gone}
use Rattle.fs_commands.specs.Snapping.{DraftsLoss, MayTake}
use Rattle.fs_commands.proofs.snapped.Live.{DataLaw}
use Rattle.fs_commands.proofs.unsnapped.Counts.{IsAlone, alone_bare, alone_is, is_alone}
use Rattle.fs_commands.proofs.unsnapped.Keepers.{bit, but, count_less, counted_other, other_counted}
use Rattle.fs_commands.proofs.unsnapped.Once.{has_kept, has_live, kept_has, no_file}

-- A node counts for a block just where it is a snapshot that keeps it.
abbrev pub EachLaw : Type 0
EachLaw = (g : Geometry) (m : Blocks) (b k : ℕ) → (keeps_block g m b k ≡ true) ↔ ((is : IsKeptBlock g m b) × (is.snapshot ≡ k))

-- a node that a draft leaves is the same
abbrev pub SameLaw : Bool → State → Type 0
SameLaw tells s = (d : DraftState) (m : Blocks) (k : ℕ) → AreSound s.books.geom s.map → IsDraftOf tells s d → HasDrafted s d m → files_in s d k ≡ files_in s nothing_drafted k → places_in s d k ≡ places_of s k
    → used_node s.books.geom m k ≡ used_node s.books.geom s.map k

-- and the bytes of no node are zeros
abbrev pub BareLaw : Bool → State → Type 0
BareLaw tells s = (d : DraftState) (m : Blocks) (k : ℕ) → IsDraftOf tells s d → HasDrafted s d m → 1 ≤ k → k ≤ s.books.geom.i → node_at s.books.geom m k ≡ None → node_bytes s.books.geom m k ≡ replicate (node_size s.books.geom.layout) 0

pub all_has : (P : ℕ → Type 0) (xs : List ℕ) (b : ℕ) → All P xs → has xs b ≡ true → P b
all_has P xs b all is =
    let p = place_of xs b is in
    let low = slice_get_within xs p.0 b p.1 in
    subst P (same_Some (get_or xs p.0 0) b (sym (slice_get-get_or xs p.0 0 low) ∙ p.1)) (all p.0 0 low)

-- where a function of it is nothing, nothing is there
pub nothing_in : {A B : Type 0} (f : A → B) (o : Option A) → option_map f o ≡ None → o ≡ None
nothing_in f None e = refl
nothing_in f (Some x) e = absurd (none-some (f x) (sym e))

pub none_there : {A : Type 0} (o : Option A) → (is_some o ≡ true → ⊥) → o ≡ None
none_there None never = refl
none_there (Some x) never = absurd (never refl)

pub nil_of : {A : Type 0} (xs : List A) → length xs ≡ 0 → xs ≡ []
nil_of [] e = refl
nil_of (x ∷ xs) e = absurd (omega (arith, e))

abbrev pub kept_by : {g : Geometry} {m : Blocks} (n : ℕ) (node : Node) (k i b : ℕ) → used_node g m n ≡ Some node → node.kind ≡ Snapshot → HasKeptBlock g m (blocks_of_node g m n) k i b → IsKeptBlock g m b
kept_by {g} {m} n node k i b used kind h = record {
  snapshot = n;
  node = node;
  is_node = used;
  kind = kind;
  number = k;
  place = i;
  has = subst (λ ps. HasKeptBlock g m ps k i b) (ap places_or_none used) h;
}

module _ (tells : Bool) (s : State) (name : List ℕ) (gone : Gone) (rest : List ℕ) (may : MayTake tells s name gone rest) (told : IsTrue tells) (beside : AreSoundBeside s.books.geom (is_kept may.counts) s.map)
    (node : Node) (used : used_node s.books.geom s.map gone.number ≡ Some node) (kind : node.kind ≡ Snapshot) (each : EachLaw) where
  abbrev g : Geometry
  g = s.books.geom

  sound : AreSound g s.map
  sound = may.may.begin.sound told

  alone_are : gone.alone.items ≡ alone_among may.counts (live_files g s.map) gone.kept.items
  alone_are = may.goes.alone told

  -- what is freed of files is no node's
  no_node : (k i b : ℕ) → has gone.alone.items b ≡ true → HasBlock g s.map k i b → ⊥
  no_node = alone_bare g s.map may.counts rest gone.kept.items gone.alone.items beside alone_are (may.out told)

  its : (b : ℕ) → has gone.alone.items b ≡ true → IsAlone may.counts (live_files g s.map) gone.kept.items b
  its b is = alone_is may.counts (live_files g s.map) gone.kept.items gone.alone.items alone_are b is

  -- the snapshot keeps just what its list says
  pub counts_it : (b : ℕ) → has gone.kept.items b ≡ true → keeps_block g s.map b gone.number ≡ true
  counts_it b is =
      let k = has_kept g s.map gone.number b (ap (λ xs. has xs b) (sym (may.goes.kept told)) ∙ is) in
      (each g s.map b gone.number).1 (kept_by gone.number node k.0 k.1 b used kind k.2, refl)

  in_list : (b : ℕ) (one : IsKeptBlock g s.map b) → one.snapshot ≡ gone.number → has gone.kept.items b ≡ true
  in_list b one same =
      let is : blocks_of_node g s.map gone.number ≡ run_places one.node.runs = ap places_or_none (ap (used_node g s.map) (sym same) ∙ one.is_node) in
      ap (λ xs. has xs b) (may.goes.kept told) ∙ kept_has g s.map gone.number one.number one.place b (subst (λ ps. HasKeptBlock g s.map ps one.number one.place b) (sym is) one.has)

  -- Its number is one of the table, and it is counted once for each block that it keeps.
  number_in : (1 ≤ gone.number) × (gone.number ≤ g.i)
  number_in = used_number g s.map gone.number node used

  abbrev others_of : ℕ → ℕ
  others_of b = length (filter (but (keeps_block g s.map b) gone.number) (range_with_len 1 g.i))

  pub counted : (b : ℕ) → count_keepers g s.map b ≡ others_of b + bit (keeps_block g s.map b gone.number)
  counted b = count_less (keeps_block g s.map b) gone.number 1 g.i number_in.0 (omega (arith, number_in.1))

  count_is : (b : ℕ) → has gone.kept.items b ≡ true → keepers may.counts b ≡ others_of b + 1
  count_is b mine = (may.known told).each b ∙ counted b ∙ ap (λ t. others_of b + bit t) (counts_it b mine)

  -- another snapshot that keeps a block is counted besides
  other_keeps : (b : ℕ) (one : IsKeptBlock g s.map b) → one.snapshot ≢ gone.number → 0 < others_of b
  other_keeps b one other =
      let at = used_number g s.map one.snapshot one.node one.is_node in
      other_counted (keeps_block g s.map b) gone.number one.snapshot 1 g.i at.0 (omega (arith, at.1)) ((each g s.map b one.snapshot).1 (one, refl)) other

  keeps_other : (b : ℕ) → 0 < others_of b → (one : IsKeptBlock g s.map b) × (one.snapshot ≢ gone.number)
  keeps_other b some =
      let y = counted_other (keeps_block g s.map b) gone.number 1 g.i some in
      let one = (each g s.map b y.0).0 y.1 in
      (one.0, λ same. y.2 (sym one.1 ∙ same))

  own_has : (b : ℕ) → has (places_of s gone.number) b ≡ true → (i : ℕ) × (slice_get (run_places node.runs) i ≡ Some b)
  own_has b mine = place_of (run_places node.runs) b (sym (ap (λ o. has (places_or_none o) b) used) ∙ mine)

  has_own : (i b : ℕ) → slice_get (run_places node.runs) i ≡ Some b → has (places_of s gone.number) b ≡ true
  has_own i b at = ap (λ o. has (places_or_none o) b) used ∙ has_place (run_places node.runs) i b at

  module _ (limits : IsGeometry g) (within : DataLaw) (same : SameLaw tells s) (bare : BareLaw tells s) (d : DraftState) (draft : IsDraftOf tells s d) (loss : DraftsLoss s s gone.number gone.alone.items d) (m : Blocks) (made : HasDrafted s d m) where
    freed_is : (b : ℕ) → has d.freed b ≡ true → (has gone.alone.items b ≡ true) ⊎ (has (places_of s gone.number) b ≡ true)
    freed_is b e = in_append gone.alone.items (places_of s gone.number) b (ap (λ xs. has xs b) (sym loss.freed) ∙ e)

    alone_freed : (b : ℕ) → has gone.alone.items b ≡ true → has d.freed b ≡ true
    alone_freed b e = ap (λ xs. has xs b) loss.freed ∙ has_append gone.alone.items (places_of s gone.number) b ∙ or_left (has gone.alone.items b) (has (places_of s gone.number) b) e

    own_freed : (b : ℕ) → has (places_of s gone.number) b ≡ true → has d.freed b ≡ true
    own_freed b e = ap (λ xs. has xs b) loss.freed ∙ has_append gone.alone.items (places_of s gone.number) b ∙ or_right (has gone.alone.items b) (has (places_of s gone.number) b) e

    set_is : (b : ℕ) → b < 8192 * bitmap_blocks g → is_set g m b ≡ (not (has d.freed b) && is_set g s.map b)
    set_is b low = made.bits b low ∙ ap (λ xs. not (has d.freed b) && (has xs b || is_set g s.map b)) loss.taken

    -- What isn't the snapshot's alone isn't freed.
    not_freed : (b : ℕ) → (b < data_start g) ⊎ IsElsewhere g s.map gone.number b → has d.freed b ≡ true → ⊥
    not_freed b (inl low) e = by (freed_is b e)
      where
        by : (has gone.alone.items b ≡ true) ⊎ (has (places_of s gone.number) b ≡ true) → ⊥
        by (inl mine) = let at = all_has (IsData g) gone.alone.items b may.goes.«data» mine in omega (arith, at.from, low)
        by (inr mine) = let p = own_has b mine in let at = all_has (IsData g) (run_places node.runs) b (within g s.map gone.number node used) (has_place (run_places node.runs) p.0 b p.1) in omega (arith, at.from, low)
    not_freed b (inr (inl (k, i, h, other))) e = by (freed_is b e)
      where
        by : (has gone.alone.items b ≡ true) ⊎ (has (places_of s gone.number) b ≡ true) → ⊥
        by (inl mine) = no_node k i b mine h
        by (inr mine) = let p = own_has b mine in other ((sound.own k gone.number i p.0 b h (record { node = node; is_node = used; place = p.1 })).0)
    not_freed b (inr (inr (one, other))) e = by (freed_is b e)
      where
        by : (has gone.alone.items b ≡ true) ⊎ (has (places_of s gone.number) b ≡ true) → ⊥
        by (inl mine) = let a = its b mine in omega (arith, a.one, count_is b a.mine, other_keeps b one other)
        by (inr mine) = let p = own_has b mine in no_file (sym kind ∙ sound.shared gone.number p.0 b (record { node = node; is_node = used; place = p.1 }) one)

    -- What is marked and isn't freed is elsewhere too.
    elsewhere : (b : ℕ) → has d.freed b ≡ false → ((k : ℕ) × (i : ℕ) × HasBlock g s.map k i b) ⊎ IsKeptBlock g s.map b → IsElsewhere g s.map gone.number b
    elsewhere b free (inl (k, i, h)) = by (cases_eq k gone.number)
      where
        by : (k ≡ gone.number) ⊎ (k ≢ gone.number) → IsElsewhere g s.map gone.number b
        by (inl it) =
            let is : h.node ≡ node = same_Some h.node node (sym h.is_node ∙ ap (used_node g s.map) it ∙ used) in
            absurd (true≢false (sym (own_freed b (has_own i b (ap (λ (x : Node). slice_get (run_places x.runs) i) (sym is) ∙ h.place))) ∙ free))
        by (inr other) = inl (k, i, h, other)
    elsewhere b free (inr one) = by (cases_eq one.snapshot gone.number)
      where
        file : (k : ℕ) × (i : ℕ) × (h : HasBlock g s.map k i b) × (h.node.kind ≡ File) → IsElsewhere g s.map gone.number b
        file (k, i, h, is) = inl (k, i, h, λ it. no_file (sym kind ∙ ap (λ (x : Node). x.kind) (same_Some node h.node (sym used ∙ ap (used_node g s.map) (sym it) ∙ h.is_node)) ∙ is))

        live : has gone.kept.items b ≡ true → others_of b ≡ 0 → (has (live_files g s.map) b ≡ true) ⊎ (has (live_files g s.map) b ≡ false) → IsElsewhere g s.map gone.number b
        live mine none (inl is) = file (has_live g s.map b is)
        live mine none (inr off) =
            absurd (true≢false (sym (alone_freed b (is_alone may.counts (live_files g s.map) gone.kept.items gone.alone.items alone_are b (omega (arith, count_is b mine, none)) off mine)) ∙ free))

        counts : has gone.kept.items b ≡ true → (others_of b ≡ 0) ⊎ ((others_of b < 0) ⊎ (0 < others_of b)) → IsElsewhere g s.map gone.number b
        counts mine (inl none) = live mine none (cases_Bool (has (live_files g s.map) b))
        counts mine (inr (inl below)) = absurd (omega (arith, below))
        counts mine (inr (inr some)) = inr (keeps_other b some)

        by : (one.snapshot ≡ gone.number) ⊎ (one.snapshot ≢ gone.number) → IsElsewhere g s.map gone.number b
        by (inl it) = counts (in_list b one it) (cases_order (others_of b) 0)
        by (inr other) = inr (one, other)

    marked_to : (b : ℕ) → b < 8192 * bitmap_blocks g → is_set g m b ≡ true → (is_set g s.map b ≡ true) × ((b < data_start g) ⊎ IsElsewhere g s.map gone.number b)
    marked_to b low set = (was, by (cases_order b (data_start g)) (cases_order b g.n))
      where
        parts : (not (has d.freed b) ≡ true) × (is_set g s.map b ≡ true)
        parts = and_parts (not (has d.freed b)) (is_set g s.map b) (sym (set_is b low) ∙ set)

        was : is_set g s.map b ≡ true
        was = parts.1

        free : has d.freed b ≡ false
        free = not-true (has d.freed b) parts.0

        «data» : data_start g ≤ b → (b ≡ g.n) ⊎ ((b < g.n) ⊎ (g.n < b)) → (b < data_start g) ⊎ IsElsewhere g s.map gone.number b
        «data» from (inr (inl below)) = inr (elsewhere b free ((sound.marked b from below).0 was))
        «data» from (inl end) = absurd (true≢false (sym was ∙ sound.past b (omega (arith, end)) low))
        «data» from (inr (inr above)) = absurd (true≢false (sym was ∙ sound.past b (omega (arith, above)) low))

        by : (b ≡ data_start g) ⊎ ((b < data_start g) ⊎ (data_start g < b)) → (b ≡ g.n) ⊎ ((b < g.n) ⊎ (g.n < b)) → (b < data_start g) ⊎ IsElsewhere g s.map gone.number b
        by (inr (inl before)) rest = inl before
        by (inl at) rest = «data» (omega (arith, at)) rest
        by (inr (inr past)) rest = «data» (omega (arith, past)) rest

    marked_from : (b : ℕ) → b < 8192 * bitmap_blocks g → (is_set g s.map b ≡ true) × ((b < data_start g) ⊎ IsElsewhere g s.map gone.number b) → is_set g m b ≡ true
    marked_from b low (was, there) = set_is b low ∙ ap₂ (λ t u. not t && u) (false_from_ne_true (has d.freed b) (not_freed b there)) was

    stays : (b : ℕ) → data_start g ≤ b → b < g.n → is_set g m b ≡ true → m b ≡ s.map b
    stays b from below set =
        made.lies b (omega (arith, from)) below
        ∙ ap (λ t. if t then [] else bytes_or (bytes_or (s.map b) (change_of d.fresh b)) (change_of d.changed b)) free
        ∙ ap₂ (λ x y. bytes_or (bytes_or (s.map b) x) y) (ap (λ xs. change_of xs b) (nil_of d.fresh loss.fresh)) unchanged
      where
        free : has d.freed b ≡ false
        free = not-true (has d.freed b) (and_parts (not (has d.freed b)) (is_set g s.map b) (sym (set_is b (omega (arith, below))) ∙ set)).0

        changed_not : is_some (change_of d.changed b) ≡ true → ⊥
        changed_not is =
            let here = or_cases (b == node_block g gone.number) false (loss.only b is) in
            by here
          where
            by : ((b == node_block g gone.number) ≡ true) ⊎ (false ≡ true) → ⊥
            by (inl at) = omega (arith, eqb-true b (node_block g gone.number) at, from, node_in_table g.layout g.i gone.number limits.whole_blocks number_in.0 number_in.1)
            by (inr never) = true≢false (sym never)

        unchanged : change_of d.changed b ≡ None
        unchanged = none_there (change_of d.changed b) changed_not

    -- So the blocks have just that snapshot less.
    pub takes : TakesSnapshot g s.map m gone.number
    takes = record {
      node = node;
      is_node = used;
      kind = kind;
      gone = nothing_in (file_of g.layout m) (used_node g m gone.number) (made.files gone.number ∙ loss.file.own);
      others = λ k other. same d m k sound draft made (loss.file.others k other) (loss.places.others k other);
      bare = λ k from upto none. bare d m k draft made from upto none;
      bits = λ b low. (marked_to b low, marked_from b low);
      stays = stays;
      whole = made.whole;
    }
