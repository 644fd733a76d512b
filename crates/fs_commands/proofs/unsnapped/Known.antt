-- What is known of the snapshots where one goes: one less keeps each block that it kept, and its name is forgotten.
use Rattle.std.proofs.Common.{◌≡◌, ◌≢◌, ◌↔◌, ◌⊎◌, inl, inr, ℕ, ◌+◌, ◌<◌, ◌≤◌, ◌==◌, ◌&&◌, not, true, if◌then◌else◌, List, [], ◌∷◌, length, get_or, All, Some, refl, sym, ap, subst, ◌∙◌, arith}
use Rattle.std.proofs.lemmas.Bool.{and_parts, true≢false}
use Rattle.std.proofs.lemmas.List.Elements.{filter_agree}
use Rattle.std.proofs.lemmas.Option.{none-some, slice_get-get_or}
use Rattle.std.specs.List.{filter, range_with_len}
use Rattle.std.specs.Cmp.{both_ways}
use Rattle.base_types.specs.Runs.{run_places}
use Rattle.base_types.specs.Seal.{Blocks}
use Rattle.layout_geometry.specs.Geometry.{Geometry, IsGeometry, data_start}
use Rattle.layout_bytes.specs.declared.node.Node.{Node}
use Rattle.layout_bytes.specs.declared.node.NodeKind.TheVariants.{Snapshot}
use Rattle.layout_bytes.specs.Bitmap.{is_set}
use Rattle.crash_snapshots.specs.Taking.{TakesSnapshot}
use Rattle.crash_stands.specs.Files.{used_node}
use Rattle.crash_stands.specs.Kept.{HaveSameSnapshot}
use Rattle.crash_stands.specs.Sharing.{HasKeptBlock, IsKeptBlock, IsSoundKept}
use Rattle.crash_stands.specs.Stands.{AreSound}
use Rattle.engine_blocks.specs.Running.{has}
use Rattle.fs_files.specs.Calls.{places_of as blocks_of_node, places_or_none}
use Rattle.fs_files.specs.Places.{has_place}
use Rattle.fs_files.specs.Shared.{keepers}
use Rattle.fs_snapshots.specs.Among.{is_among, used_number}
use Rattle.fs_snapshots.specs.Known.{CountsKeepers, count_keepers, keeps_block}
use Rattle.fs_session.specs.Snapshots.{kept_files_of}
use Rattle.fs_commands.specs.Known.{CountsIn, CountsOut}
use Rattle.fs_commands.proofs.unsnapped.Keepers.{bit, but, count_less, none_here, other_same, some_of}
use Rattle.fs_commands.proofs.unsnapped.Once.{IsOnce, has_kept, kept_has, kept_once}
use Rattle.fs_commands.proofs.unsnapped.Taken.{EachLaw, kept_by, nil_of}

-- A snapshot is counted for just the blocks of its list.
module _ (g : Geometry) (m : Blocks) (n : ℕ) (node : Node) (used : used_node g m n ≡ Some node) (kind : node.kind ≡ Snapshot) (kept : List ℕ) (are : kept ≡ kept_files_of g m n) (each : EachLaw) where
  listed : (b : ℕ) → has kept b ≡ true → keeps_block g m b n ≡ true
  listed b is = let k = has_kept g m n b (ap (λ xs. has xs b) (sym are) ∙ is) in (each g m b n).1 (kept_by n node k.0 k.1 b used kind k.2, refl)

  counted : (b : ℕ) → (one : IsKeptBlock g m b) × (one.snapshot ≡ n) → has kept b ≡ true
  counted b (one, same) =
      let is : blocks_of_node g m n ≡ run_places one.node.runs = ap places_or_none (ap (used_node g m) (sym same) ∙ one.is_node) in
      ap (λ xs. has xs b) are ∙ kept_has g m n one.number one.place b (subst (λ ps. HasKeptBlock g m ps one.number one.place b) (sym is) one.has)

  pub same_list : (b : ℕ) → has kept b ≡ keeps_block g m b n
  same_list b = both_ways (has kept b) (keeps_block g m b n) (listed b) (λ e. counted b ((each g m b n).0 e))

  -- so each of them has a count, and none is there twice
  pub list_counted : (counts : List ℕ) → CountsKeepers g m counts → All (λ b. 0 < keepers counts b) kept
  list_counted counts known i d low =
      let b = get_or kept i d in
      let at = used_number g m n node used in
      let some = some_of (filter (keeps_block g m b) (range_with_len 1 g.i)) n (is_among (keeps_block g m b) 1 g.i n at.0 (omega (arith, at.1)) (listed b (has_place kept i b (slice_get-get_or kept i d low)))) in
      omega (arith, known.each b, some)

  pub list_once : AreSound g m → IsOnce kept
  list_once sound = subst IsOnce (sym are) (kept_once g m n (subst (IsSoundKept g m) (sym (ap places_or_none used)) (sound.kept n node used kind)))

-- Snapshots stay with their blocks.
abbrev pub MarkedLaw : Type 0
MarkedLaw = (g : Geometry) (m n : Blocks) → AreSound g m → ((b : ℕ) → data_start g ≤ b → b < g.n → is_set g m b ≡ true → n b ≡ m b) → (k : ℕ) (node : Node) → used_node g m k ≡ Some node → node.kind ≡ Snapshot → HaveSameSnapshot g m n (run_places node.runs)

abbrev pub StayLaw : Type 0
StayLaw = (g : Geometry) (m n : Blocks) (places : List ℕ) → IsGeometry g → HaveSameSnapshot g m n places → (k i b : ℕ) → HasKeptBlock g n places k i b ↔ HasKeptBlock g m places k i b

-- Each other snapshot is counted still.
module _ (g : Geometry) (fits : IsGeometry g) (old new : Blocks) (n : ℕ) (takes : TakesSnapshot g old new n) (sound : AreSound g new) (marked : MarkedLaw) (stay : StayLaw) (each : EachLaw) where
  same : (k : ℕ) (node : Node) → used_node g new k ≡ Some node → node.kind ≡ Snapshot → HaveSameSnapshot g new old (run_places node.runs)
  same = marked g new old sound (λ b from below set. sym (takes.stays b from below set))

  not_gone : (k : ℕ) (node : Node) → used_node g new k ≡ Some node → k ≢ n
  not_gone k node used it = none-some node (sym takes.gone ∙ sym (ap (used_node g new) it) ∙ used)

  abbrev to_old : (b : ℕ) → IsKeptBlock g new b → IsKeptBlock g old b
  to_old b one = record {
    snapshot = one.snapshot;
    node = one.node;
    is_node = sym (takes.others one.snapshot (not_gone one.snapshot one.node one.is_node)) ∙ one.is_node;
    kind = one.kind;
    number = one.number;
    place = one.place;
    has = (stay g new old (run_places one.node.runs) fits (same one.snapshot one.node one.is_node one.kind) one.number one.place b).1 one.has;
  }

  abbrev to_new : (b : ℕ) (one : IsKeptBlock g old b) → one.snapshot ≢ n → IsKeptBlock g new b
  to_new b one other =
      let used : used_node g new one.snapshot ≡ Some one.node = takes.others one.snapshot other ∙ one.is_node in
      record {
        snapshot = one.snapshot;
        node = one.node;
        is_node = used;
        kind = one.kind;
        number = one.number;
        place = one.place;
        has = (stay g new old (run_places one.node.runs) fits (same one.snapshot one.node used one.kind) one.number one.place b).0 one.has;
      }

  keeps_same : (b k : ℕ) → keeps_block g new b k ≡ but (keeps_block g old b) n k
  keeps_same b k = both_ways (keeps_block g new b k) (but (keeps_block g old b) n k) (λ e. to ((each g new b k).0 e)) from
    where
      to : (one : IsKeptBlock g new b) × (one.snapshot ≡ k) → but (keeps_block g old b) n k ≡ true
      to (one, at) =
          other_same (keeps_block g old b) n k (λ it. not_gone one.snapshot one.node one.is_node (at ∙ it))
          ∙ (each g old b k).1 (to_old b one, at)

      from : but (keeps_block g old b) n k ≡ true → keeps_block g new b k ≡ true
      from e =
          let r = (each g old b k).0 (and_parts (keeps_block g old b k) (not (k == n)) e).0 in
          let other : k ≢ n = λ it. true≢false (sym e ∙ ap (but (keeps_block g old b) n) it ∙ none_here (keeps_block g old b) n) in
          (each g new b k).1 (to_new b r.0 (λ it. other (sym r.1 ∙ it)), r.1)

  -- so the counts are those without it
  pub known_then : (counts kept rest : List ℕ) → CountsKeepers g old counts → CountsOut kept counts rest → ((b : ℕ) → has kept b ≡ keeps_block g old b n) → CountsKeepers g new rest
  known_then counts kept rest known out list = record { each = one; room = by known.room }
    where
      one : (b : ℕ) → keepers rest b ≡ count_keepers g new b
      one b =
          let at = used_number g old n takes.node takes.is_node in
          let less = count_less (keeps_block g old b) n 1 g.i at.0 (omega (arith, at.1)) in
          let now : count_keepers g new b ≡ length (filter (but (keeps_block g old b) n) (range_with_len 1 g.i)) = ap (λ xs. length xs) (filter_agree (keeps_block g new b) (but (keeps_block g old b) n) (keeps_same b) (range_with_len 1 g.i)) in
          omega (arith, out.each b, known.each b, less, now, ap bit (list b))

      by : (counts ≡ []) ⊎ (length counts ≡ g.n) → (rest ≡ []) ⊎ (length rest ≡ g.n)
      by (inl empty) = inl (nil_of rest (sym out.room ∙ ap (λ xs. length xs) empty))
      by (inr long) = inr (sym out.room ∙ long)

-- Where it stays, the counts are as they were.
pub known_again : (g : Geometry) (m : Blocks) (counts kept rest again : List ℕ) → CountsKeepers g m counts → CountsOut kept counts rest → CountsIn kept rest again → CountsKeepers g m again
known_again g m counts kept rest again known out back = record { each = λ b. omega (arith, known.each b, out.each b, back.each b); room = by known.room }
  where
    long : length again ≡ length counts
    long = back.room ∙ sym out.room

    by : (counts ≡ []) ⊎ (length counts ≡ g.n) → (again ≡ []) ⊎ (length again ≡ g.n)
    by (inl empty) = inl (nil_of again (long ∙ ap (λ xs. length xs) empty))
    by (inr all) = inr (long ∙ all)
